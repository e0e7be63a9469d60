-- Why a store can't be opened, in words: which cause it is, and what to do.
-- (A format of this project.)
use Rattle.std.specs.Prelude.{List, ℕ, codes}
use Rattle.pw_found.specs.declared.cause.Cause.{Cause}
use Rattle.pw_found.specs.declared.cause.Cause.TheVariants.{InUse, NotWritable, Journal, NoFile, LogAlone, NoDatabase, Damaged, Disk}

abbrev pub cause_text : Cause → List ℕ
cause_text InUse = codes "powerbook: the store is in use: ask the server that has it open, or stop it"
cause_text NotWritable = codes "powerbook: the store may not be written: see to the rights on its file, on the -wal file beside it and on their folder"
cause_text Journal = codes "powerbook: another program left a journal beside the store: open the store with sqlite3 first"
cause_text NoFile = codes "powerbook: no store can be at this path: its folder isn't there, or something else than a file with one name is"
cause_text LogAlone = codes "powerbook: the store's file is gone or empty, and the -wal file beside it may hold uploads: put the file back, or move both away"
cause_text NoDatabase = codes "powerbook: the store is no SQLite database, or is damaged: look at the path, else take the latest copy"
cause_text Damaged = codes "powerbook: the store is damaged: take the latest copy, or load a new store from the uploads"
cause_text Disk = codes "powerbook: the store can't be read or written: look at the disk"

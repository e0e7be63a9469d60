-- Why a question has no answer where rows can't be read. It serves `src/fault.rt`.
-- (A definition of this project.)
use Rattle.pw_schema.specs.declared.reading.ReadFault.{ReadFault}
use Rattle.pw_schema.specs.declared.reading.ReadFault.TheVariants as read
use Rattle.pw_store.specs.declared.fault.AskFault.{AskFault}
use Rattle.pw_store.specs.declared.fault.AskFault.TheVariants.{Memory, Unreadable}

abbrev pub ask_fault : ReadFault → AskFault
ask_fault read.Memory = Memory
ask_fault read.Wrong = Unreadable

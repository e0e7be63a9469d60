-- What a store's file and its log are to an opening, before anything is written.
-- (SQLite's formats: https://www.sqlite.org/fileformat2.html, section 4. What a first opening leaves: the crates that
-- stand for SQLite.)
use Rattle.std.specs.Prelude.{◌≡◌, ◌≢◌, ◌⊎◌, ℕ, ◌<◌, ◌≤◌, false, true, List, [], length, slice_index}
use Rattle.sqlite_wal.specs.Recovery.{Image, Replays}
use Rattle.sqlite_pool.specs.Opening.{IsBlankFile}
use Rattle.sqlite_pool.specs.Stored.{used_size}

-- No database is there yet: the file is empty, or a first opening was stopped in the middle of its first page. (SQLite
-- takes the second for none; where it isn't plain which form its pages have, with or without sums, either is asked.)
abbrev pub IsNoDatabase : Image → Type 0
IsNoDatabase image = IsBlankFile (used_size 4096 false) image ⊎ IsBlankFile (used_size 4096 true) image

-- A log that is empty to SQLite has a header of 32 bytes and the begin of a frame.
abbrev pub longest_empty_log : ℕ
longest_empty_log = 41

-- whatever size its pages have, SQLite finds no commit in the log
abbrev pub HasNoCommit : List ℕ → Type 0
HasNoCommit log = (page_size frames : ℕ) → Replays page_size log frames → frames ≡ 0

-- no database is there, though the log may have commits
pub record IsLogAlone (image : Image) : Type 0 where
  pub none : IsNoDatabase image
  pub long : longest_empty_log < length image.log

-- one byte is left of a file, the S with which SQLite's begin; a first opening begins with another
pub record IsCut (image : Image) : Type 0 where
  pub one : length image.db ≡ 1
  pub letter : slice_index image.db 0 ≡ 83

-- a store may be made: no database is there, and nothing is lost
pub record IsNothing (image : Image) : Type 0 where
  pub none : IsNoDatabase image
  pub short : length image.log ≤ longest_empty_log
  pub empty : HasNoCommit image.log
  pub whole : length image.db ≡ 1 → slice_index image.db 0 ≢ 83

-- the two are the same to an opening without the log
pub record NeedsNoLog (image : Image) : Type 0 where
  pub empty : HasNoCommit image.log
  pub other : (image.log ≡ []) ⊎ (¬ IsNoDatabase image)

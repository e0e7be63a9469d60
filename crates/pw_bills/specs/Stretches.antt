-- Stretches of time, one behind another, as the days of a month.
-- (Definitions of this project.)
use Rattle.std.specs.Prelude.{ℕ, ◌+◌, ◌^◌, ◌<◌, ◌≤◌, List, length, slice_index, slice_index_or}
use Rattle.pw_time.specs.declared.instant.TheConstants.{END_SECOND}

-- A stretch has the seconds from its begin on, up to and without the begin of the next; the last one those up to and
-- without an end.

-- where the first one begins; with the end, where there is none
abbrev pub first_of : List ℕ → ℕ → ℕ
first_of begins end = slice_index_or begins 0 end

-- where a stretch ends
abbrev pub end_of : List ℕ → ℕ → ℕ → ℕ
end_of begins end i = slice_index_or begins (i + 1) end

-- one stretch or more, of a second or more each, within all instants
pub record AreStretches (begins : List ℕ) (end : ℕ) : Type 0 where
  pub some : 1 ≤ length begins
  pub few : length begins ≤ 2 ^ 16
  pub rising : (i : ℕ) → i < length begins → slice_index begins i < end_of begins end i
  pub ended : end ≤ END_SECOND

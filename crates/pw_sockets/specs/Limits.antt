-- How long a client is waited for, in nanoseconds of a clock.
-- (Limits of this project.)
use Rattle.std.specs.Prelude.{◌+◌, ◌*◌, ◌-◌, ◌/◌, ℕ, Option, None, Some, min}

abbrev second : ℕ
second = 1_000_000_000

-- how long a read, a write and a whole request may take
abbrev pub patience : ℕ
patience = 60 * second

-- what is left of a limit: it less the time since it began; nothing once it has passed
abbrev pub left_of : ℕ → ℕ → ℕ → ℕ
left_of limit begun now = limit - (now - begun)

-- how long a reply may take: a minute, and a second more for each 65,536 bytes of it
abbrev pub reply_limit : ℕ → ℕ
reply_limit bytes = (60 + bytes / 65_536) * second

-- how long a read may take: a whole request ends within a minute from its first byte
abbrev pub read_left : Option ℕ → ℕ → ℕ
read_left None now = patience
read_left (Some begun) now = left_of patience begun now

-- how long a write may take: it ends within a minute, and the reply, of which so many bytes are known, in its time
abbrev pub write_left : (bytes reply write now : ℕ) → ℕ
write_left bytes reply write now = min (left_of (reply_limit bytes) reply now) (left_of patience write now)

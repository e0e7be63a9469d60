-- The meters, registers and accounts that a text names.
-- (Definitions of this project.)
use Rattle.std.specs.Prelude.{◌≡◌, ℕ, true, Option, Some, None, List, [], option_map, slice_get}
use Rattle.pw_obis.specs.declared.reference.Register.{Register}
use Rattle.pw_tariff.specs.declared.ids.AccountId.{AccountId}
use Rattle.pw_tariff.specs.Office.{OfficeFile, counts_at}
use Rattle.pw_tariff.specs.Words.{register_named}
use Rattle.pw_time.specs.declared.zone.Clock.{Clock}

-- the meter at this place of the office has the id
abbrev pub HasId : OfficeFile → List ℕ → ℕ → Type 0
HasId file id meter = option_map (λ m. m.id) (slice_get file.meters meter) ≡ Some id

-- no meter of the office has it
abbrev pub IsUnknownId : OfficeFile → List ℕ → Type 0
IsUnknownId file id = (meter : ℕ) → HasId file id meter → ⊥

-- what the clock of the meter at this place tells
abbrev pub HasClock : OfficeFile → ℕ → Clock → Type 0
HasClock file meter clock = option_map (λ m. m.clock) (slice_get file.meters meter) ≡ Some clock

-- the text names the register, and the register counts for the meter at this place
abbrev pub HasRegister : OfficeFile → ℕ → List ℕ → Register → Type 0
HasRegister file meter name register = (register_named name ≡ Some register) × (counts_at file meter register ≡ true)

-- the text names no register that counts for it
abbrev pub IsUnknownRegister : OfficeFile → ℕ → List ℕ → Type 0
IsUnknownRegister file meter name = (register : Register) → HasRegister file meter name register → ⊥

-- the account at this place has the name
abbrev pub HasName : OfficeFile → List ℕ → ℕ → Type 0
HasName file name account = slice_get file.accounts account ≡ Some name

abbrev pub IsUnknownName : OfficeFile → List ℕ → Type 0
IsUnknownName file name = (account : ℕ) → HasName file name account → ⊥

-- whom a text names as the owner: the empty text nobody, any other the account with the name
abbrev pub IsOwner : OfficeFile → List ℕ → Option AccountId → Type 0
IsOwner file name None = name ≡ []
IsOwner file name (Some account) = (name ≡ [] → ⊥) × HasName file name account.0

-- the text is neither empty nor an account's name
abbrev pub IsUnknownOwner : OfficeFile → List ℕ → Type 0
IsUnknownOwner file name = (name ≡ [] → ⊥) × IsUnknownName file name

-- What words ask for, and what holds of each command.
-- (Definitions of this project.)
use Rattle.std.specs.Prelude.{◌≡◌, ◌≤◌, ℕ, List, [], ◌∷◌, Option, Some, codes, length, ⊤}
use Rattle.pw_time.specs.declared.zone.Clock.{Clock}
use Rattle.pw_time.specs.declared.zone.Clock.TheVariants.{Marked, Winter, Local}
use Rattle.pw_words.specs.declared.commands.Command.{Command}
use Rattle.pw_words.specs.declared.commands.Command.TheVariants as command
use Rattle.pw_words.specs.declared.commands.Source.{Source}
use Rattle.pw_words.specs.declared.commands.Source.TheVariants as source
use Rattle.pw_model.specs.declared.limits.TheConstants.{MOST_RECORDS}
use Rattle.pw_record.specs.declared.laws.UploadKind.{UploadKind}
use Rattle.pw_record.specs.declared.laws.UploadKind.TheVariants.{Telegrams, Readouts, Assignments, TopUps, Withdrawals}
use Rattle.pw_words.specs.declared.fault.WordsFault.{WordsFault}
use Rattle.pw_words.specs.declared.fault.WordsFault.TheVariants as fault

-- a clock's word; a clock that marks its times is none of a readout
abbrev pub IsClockWord : Clock → List ℕ → Type 0
IsClockWord Winter word = word ≡ codes "winter"
IsClockWord Local word = word ≡ codes "local"
IsClockWord Marked word = ⊥

-- `read`: winter time; or `read --clock` and the clock's word
abbrev pub StatesClock : List (List ℕ) → Clock → Type 0
StatesClock [] clock = ⊥
StatesClock (command ∷ []) clock = (command ≡ codes "read") × (clock ≡ Winter)
StatesClock (command ∷ flag ∷ name ∷ []) clock = (command ≡ codes "read") × (flag ≡ codes "--clock") × IsClockWord clock name
StatesClock (command ∷ flag ∷ []) clock = ⊥
StatesClock (command ∷ flag ∷ name ∷ other ∷ words) clock = ⊥

-- no word, or `pipe`
abbrev pub AsksToPipe : List (List ℕ) → Type 0
AsksToPipe [] = ⊤
AsksToPipe (command ∷ []) = command ≡ codes "pipe"
AsksToPipe (command ∷ other ∷ words) = ⊥

-- the word of a kind of upload; of readouts the meter too
abbrev pub IsKindWord : UploadKind → List ℕ → Option (List ℕ) → Type 0
IsKindWord Telegrams word meter = word ≡ codes "telegrams"
IsKindWord (Readouts id) word meter = (word ≡ codes "readouts") × (meter ≡ Some id.now)
IsKindWord Assignments word meter = word ≡ codes "assignments"
IsKindWord TopUps word meter = word ≡ codes "topups"
IsKindWord Withdrawals word meter = word ≡ codes "withdrawals"

-- the most records of a book
abbrev pub IsLimit : ℕ → Type 0
IsLimit limit = (1 ≤ limit) × (limit ≤ MOST_RECORDS)

-- one file or more, or a list
abbrev pub NamesFiles : Source → Type 0
NamesFiles (source.Files kind files) = 1 ≤ length files.items
NamesFiles (source.List list) = ⊤

-- a limit that a book takes, files to load, and a port that can be listened on
abbrev pub IsSound : Command → Type 0
IsSound (command.Read clock) = (clock ≡ Marked) → ⊥
IsSound (command.Check office verbose) = ⊤
IsSound (command.Pipe office limit) = IsLimit limit
IsSound (command.Load asked) = IsLimit asked.target.limit × NamesFiles asked.source
IsSound (command.Statement office store account) = ⊤
IsSound (command.Month what office store account month) = ⊤
IsSound (command.Export office store what) = ⊤
IsSound (command.Serve office store count until_input_ends port limit origins tells) = IsLimit limit × (1 ≤ port)
IsSound (command.Adopt asked) = ⊤
IsSound (command.Carry asked) = ⊤
IsSound (command.Verify asked) = NamesFiles asked.source

-- why words give no command, where they ask for no help
abbrev pub IsRefusal : WordsFault → Type 0
IsRefusal (fault.Help text) = ⊥
IsRefusal f = ⊤

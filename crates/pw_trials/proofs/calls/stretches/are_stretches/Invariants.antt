use Rattle.std.proofs.Common.{ℕ, ◌<◌, slice_index}
use Rattle.pw_bills.specs.Stretches.{end_of}
use Rattle.pw_trials.proofs.calls.stretches.are_stretches.Given as goal

abbrev pub invariant-loop-number : goal.invariant-loop-number
invariant-loop-number l = (i : ℕ) → i < l.number → slice_index l.begins i < end_of l.begins l.end i

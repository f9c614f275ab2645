use Rattle.std.proofs.Common.{◌≡◌, ℕ, List, take, true, Some}
use Rattle.disk_samples.specs.Logs.{is_a_name, state_of}
use Rattle.disk_samples.proofs.seeing.is_shared.Given as goal

abbrev pub invariant-loop-name : goal.invariant-loop-name
invariant-loop-name l = (q : List ℕ) → is_a_name q (take l.name-index l.names) ≡ true → (state_of l.log).stands q ≡ Some l.number → q ≡ l.place

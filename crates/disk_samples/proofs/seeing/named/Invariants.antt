use Rattle.std.proofs.Common.{◌≡◌, take, false}
use Rattle.disk_samples.specs.Logs.{is_a_name}
use Rattle.disk_samples.proofs.seeing.named.Given as goal

abbrev pub invariant-loop-name : goal.invariant-loop-name
invariant-loop-name l = is_a_name l.path (take l.name-index l.names) ≡ false

use Rattle.std.proofs.Common.{ℕ, ◌<◌, ◌≡◌, map, Some}
use Rattle.std.specs.List.{slice_get}
use Rattle.program_types.specs.Content as content
use Rattle.program_types.specs.View.{class}
use Rattle.program_rules.specs.Ranges.{ClassInRange}
use Rattle.program_rules.specs.Rules.{ClassHolds}
use Rattle.program_rules.proofs.program.check_classes.Given as goal

abbrev pub invariant-loop-i : goal.invariant-loop-i
invariant-loop-i l = (i : ℕ) (c : content.Class) → i < l.i → slice_get (map class l.classes) i ≡ Some c → ClassHolds (map class l.classes) i c × ClassInRange c

use Rattle.std.proofs.Common.{refl, map}
use Rattle.std.proofs.lemmas.Result.{IfOk-weaker}
use Rattle.program_types.specs.View.{value}
use Rattle.file_classes.proofs.keeping.InArenaKeep.read_values.Goals as goal

pub returns-clause-ok : goal.returns-clause-ok
returns-clause-ok c = IfOk-weaker c.read_array.result _ _ (λ x a. (map value x.now, a, refl)) c.read_array.ensures.ok

use Rattle.std.proofs.Common.{◌∙◌, refl}
use Rattle.program_types.specs.KeyLaws.{method_ref_cmp}
use Rattle.program_types.proofs.compare.method_ref_cmp.Goals as goal

pub returns : goal.returns
returns c = c.cmp.ensures ∙ method_ref_cmp _ (λ d e. refl) c.args.method.now c.args.other.now

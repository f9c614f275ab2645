use Rattle.std.proofs.Common.{◌∙◌, refl}
use Rattle.program_types.specs.KeyLaws.{proto_cmp}
use Rattle.program_types.proofs.compare.proto_cmp.Goals as goal

pub returns : goal.returns
returns c = c.cmp.ensures ∙ proto_cmp _ (λ d e. refl) c.args.prototype.now c.args.other.now

use Rattle.std.proofs.Common.{refl}
use Rattle.program_types.specs.View as view
use Rattle.put_samples.proofs.FormedCodes.{formed_of}
use Rattle.put_samples.proofs.codes.is_formed.Goals as goal

pub returns : goal.returns
returns c = λ t. formed_of (view.code c.args.code.now)
    (c.if-not-code_holds.ensures.0 refl) (c.if-not-code_holds-2.ensures.0 refl) (c.if-not-code_holds-3.ensures.0 refl) (c.if-not-code_holds-4.ensures.0 refl) (c.code_holds-5.ensures.0 t)
    c.is_u16.ensures c.is_u16-2.ensures c.is_u16-3.ensures

use Rattle.std.proofs.Common.{inr}
use Rattle.dex_base.proofs.NameLaws.{member_inside}
use Rattle.dex_base.proofs.simple_name.is_member_name.Goals as goal

pub returns-in-Some : goal.returns-in-Some
returns-in-Some c =
    let e = c.in-Some.ensures.found in
    (λ h. inr (c.in-Some.inner.now, c.is_simple_name.ensures.0 h, e), λ m. c.is_simple_name.ensures.1 (member_inside c.args.units.now c.in-Some.inner.now e m))

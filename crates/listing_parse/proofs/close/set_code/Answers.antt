use Rattle.std.proofs.Common.{Some, map, refl, sym, ap, ◌∙◌}
use Rattle.listing_parse.specs.inner.View.{held_method}
use Rattle.listing_parse.proofs.EntryLaws.{method_coded, method_uncoded}
use Rattle.listing_parse.proofs.close.set_code.Goals as goal

pub returns-in-Some : goal.returns-in-Some
returns-in-Some c =
    let held = c.in-Some.held.now in
    ap (map held_method) (c.get_mut.follows.holds (record held { code = Some c.args.whole })).0
    ∙ method_coded (c.args.name, c.args.prototype) c.args.methods.now.entries held (record held { code = Some c.args.whole }) c.args.whole (sym c.in-Some.ensures.value) refl

pub returns-in_default : goal.returns-in_default
returns-in_default c =
    rw c.get_mut.follows.holds-at-none (method_uncoded (c.args.name, c.args.prototype) c.args.methods.now.entries _ (sym c.in_default.ensures.value))

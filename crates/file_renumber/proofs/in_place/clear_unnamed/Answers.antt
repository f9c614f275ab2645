use Rattle.std.proofs.Common.{arith, refl}
use Rattle.file_renumber.proofs.ShapeLemmas.{unnamed_cleared}
use Rattle.file_renumber.proofs.in_place.clear_unnamed.Goals as goal

pub returns : goal.returns
returns c =
    unnamed_cleared c.args.front.now _ c.put_u16_at.new.bytes c.u16_at-first.result _ _ _ c.u16_at-first.ensures (omega arith) c.u16_at.ensures (omega arith) c.named-third.ensures c.last_named-last.ensures.value refl c.requires (omega arith) c.put_u16_at.ensures

use Rattle.std.proofs.Common.{◌∙◌, ◌+◌, ◌-◌, ap, sym}
use Rattle.std.specs.Prelude.{min}
use Rattle.std.proofs.lemmas.Result.{on_ok_weaker}
use Rattle.code_read.specs.Places.{count_below}
use Rattle.code_read.specs.Item.{try_start, try_count}
use Rattle.code_write.specs.Packs.{bound_of}
use Rattle.file_renumber.proofs.KnownLemmas.{item_put}
use Rattle.file_renumber.proofs.tries.put_item.Goals as goal

pub returns-clause-ok : goal.returns-clause-ok
returns-clause-ok c =
    let I = c.args.item.now in
    let end = bound_of I.size c.args.starts.now (count_below (try_start I.items.now c.args.i + try_count I.items.now c.args.i) c.args.starts.now) in
    on_ok_weaker c.put_u16-2.result
    (λ e t x. item_put I.size c.args.starts.now I.items.now c.args.i c.args.offset c.u32_at.result c.covered_by.result t c.args.out.now.items c.put_u32.new.out.items c.put_u16.new.out.items c.put_u16-2.new.out.items x c.u32_at.ensures
    (c.covered_by.ensures ∙ ap (λ z. min 65535 (end - z)) (sym c.u32_at.ensures))
    c.in_ok-put_u32.ensures.ok c.in_ok-put_u16.ensures.ok e)
    c.put_u16-2.ensures.ok

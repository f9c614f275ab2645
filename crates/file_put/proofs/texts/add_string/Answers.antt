use Rattle.std.proofs.Common.{◌++◌, length, ap, ◌∙◌, sym, arith, length-append}
use Rattle.dex_base.proofs.TextLaws.{mutf8_length-least, packed_length}
use Rattle.program_types.specs.View as view
use Rattle.file_layout.proofs.SectionLaws.{gap_one, unpadded}
use Rattle.file_put.proofs.LengthLaws.{text_some}
use Rattle.file_put.proofs.texts.add_string.Goals as goal

pub put_mutf8-requires : goal.put_mutf8-requires
put_mutf8-requires c = let l = mutf8_length-least (view.str c.args.text) in omega (arith, l, c.requires)

pub returns-clause-ok : goal.returns-clause-ok
returns-clause-ok c =
    let old = c.args.out.now.items in
    let n = c.in_ok-put_mutf8.ensures.ok in
    record {
      there = omega (arith, c.len-place.ensures, c.args.out.now.ok.0, gap_one (length old));
      bytes = n.bytes;
      whole = n.joined ∙ ap (λ l. l ++ n.bytes) (sym (unpadded old));
      some = text_some _ _ n.spelled;
      spelled = n.spelled;
    }

pub returns-clause-bound : goal.returns-clause-bound
returns-clause-bound c =
    let n = c.in_ok-put_mutf8.ensures.ok in
    let w = ap length n.joined ∙ length-append c.args.out.now.items n.bytes in
    let l = packed_length n.bytes (view.str c.args.text) n.spelled in
    omega (arith, w, l)

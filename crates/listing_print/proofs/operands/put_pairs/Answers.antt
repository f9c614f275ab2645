use Rattle.std.proofs.Common.{◌≡◌, ◌∙◌, ap, ◌++◌, ◌∷◌, get_or, pos, arith, rules}
use Rattle.std.specs.Fmt.{signed_decimal}
use Rattle.listing_print.specs.Operands.{operand_text_in}
use Rattle.listing_print.proofs.TextLaws.{pair_text, pairs_whole}
use Rattle.listing_print.proofs.operands.put_pairs.Goals as goal

pub loop-i-preserved : goal.loop-i-preserved
loop-i-preserved c =
    let m : c.put_signed.new.out.items ≡ c.loop-i.out.items ++ (32 ∷ signed_decimal (get_or c.args.keys.now c.loop-i.i (pos 0))) = search rules in
    pair_text c.args.form c.args.out.now.items c.loop-i.out.items c.put_signed.new.out.items c.put_target.new.out.items c.args.keys.now c.args.targets.now c.loop-i.i (pos 0) _ (omega (arith, c.min-count.ensures)) (omega (arith, c.min-count.ensures)) c.loop-i.invariant m c.in_ok-put_target.ensures.ok

pub returns : goal.returns
returns c = record {
  ok = c.loop-i.invariant ∙ ap (λ os. c.args.out.now.items ++ operand_text_in c.args.form os) (pairs_whole c.args.keys.now c.args.targets.now c.loop-i.i (omega (arith, c.min-count.ensures)));
}

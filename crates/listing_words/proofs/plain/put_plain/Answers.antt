use Rattle.listing_words.proofs.PlainLaws.{three_joined}
use Rattle.listing_words.proofs.plain.put_plain.Goals as goal

pub returns : goal.returns
returns c = record {
  ok = three_joined c.args.least c.args.units.now c.split_at.result.1.now c.split_at-2.result.1.now c.args.out.now.items c.put_eights.new.out.items c.put_four.new.out.items c.put_ones.new.out.items
      c.in_ok-eights.eights c.in_ok-four.four c.in_ok-put_ones.field-0 c.split_at.ensures.back c.split_at-2.ensures.back c.in_ok-eights.ensures.ok c.in_ok-four.ensures.ok c.in_ok-put_ones.ensures.ok;
}

use Rattle.std.proofs.Common.{◌∙◌}
use Rattle.listing_words.proofs.WrittenLaws.{hex_more}
use Rattle.listing_words.proofs.print_hex.+put_hex.Goals as goal

pub returns : goal.returns
returns t c = record {
  ok = c.in_ok-push.ensures.items ∙ hex_more _ _ c.args.width c.args.n _ c.if-width-eq0.false c.in_ok-put_hex.ensures.ok c.glyph.ensures;
}

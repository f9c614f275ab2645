use Rattle.listing_parse.proofs.ShortLaws.{count_taken}
use Rattle.listing_parse.proofs.short_pieces.take_count.Goals as goal

pub returns : goal.returns
returns c = count_taken 255 c.args.text.now c.in_ok-digits.digits.now c.in_ok-number.number c.in_ok-number.rest.now c.in_ok-digits.ensures c.in_ok-number.ensures

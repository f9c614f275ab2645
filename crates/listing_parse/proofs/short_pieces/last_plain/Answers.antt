use Rattle.listing_parse.proofs.ShortLaws.{last_taken}
use Rattle.listing_parse.proofs.short_pieces.last_plain.Goals as goal

pub returns-then-is_plain_word : goal.returns-then-is_plain_word
returns-then-is_plain_word c = last_taken c.args.text.now c.in_ok-word.word.now c.in_ok-word.ensures (c.is_plain_word.ensures.0 c.if-is_plain_word.true)

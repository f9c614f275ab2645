use Rattle.listing_words.proofs.WordLaws.{whole_word}
use Rattle.listing_words.proofs.words.is_plain_word.Goals as goal

pub returns-then-first-ne34 : goal.returns-then-first-ne34
returns-then-first-ne34 c =
    let cut = c.split_graphic in
    whole_word c.args.text.now cut.result.0.now cut.result.1.now c.in-Some.first.now c.in-Some.field-0-1.now c.is_empty.result cut.ensures.joined c.in-Some.ensures.cases.0 c.if-first-ne34.true cut.ensures.graphic cut.ensures.stops c.is_empty.ensures

use Rattle.std.proofs.Common.{◌∙◌, sym, ap, map}
use Rattle.listing_words.specs.inner.View.{word}
use Rattle.listing_parse.specs.inner.View.{state}
use Rattle.listing_lines.specs.Places.{is_start}
use Rattle.listing_parse.specs.inner.ReadingView.{reading}
use Rattle.listing_parse.proofs.FormLineLaws.{second_first, second_late, second_elsewhere}
use Rattle.listing_parse.proofs.reading.Reading.line_of_form.Goals as goal

pub returns-then-is_start : goal.returns-then-is_start
unfolding reading state
returns-then-is_start c = second_first (reading c.args.self.now) (map word c.args.words.now) (sym c.is_second.ensures ∙ c.if-is_second.true) (ap is_start (sym c.stage.ensures) ∙ sym c.is_start.ensures ∙ c.if-is_start.true)

pub returns-then-is_two : goal.returns-then-is_two
unfolding reading state
returns-then-is_two c = second_late (reading c.args.self.now) (map word c.args.words.now) (sym c.is_second.ensures ∙ c.if-is_second.true) (ap is_start (sym c.stage.ensures) ∙ sym c.is_start.ensures ∙ c.if-is_start.false) (sym c.is_two.ensures ∙ c.if-is_two.true)

pub returns-then-is_second : goal.returns-then-is_second
unfolding reading state
returns-then-is_second c = second_elsewhere (reading c.args.self.now) (map word c.args.words.now) (sym c.is_second.ensures ∙ c.if-is_second.true) (ap is_start (sym c.stage.ensures) ∙ sym c.is_start.ensures ∙ c.if-is_start.false) (sym c.is_two.ensures ∙ c.if-is_two.false)

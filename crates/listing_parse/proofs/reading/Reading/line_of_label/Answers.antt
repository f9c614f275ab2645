use Rattle.std.proofs.Common.{◌∙◌, sym}
use Rattle.listing_parse.specs.inner.View.{state}
use Rattle.listing_parse.specs.inner.ReadingView.{reading}
use Rattle.listing_parse.proofs.FormLineLaws.{label_here, label_there}
use Rattle.listing_parse.proofs.reading.Reading.line_of_label.Goals as goal

pub returns-then-place-self : goal.returns-then-place-self
unfolding reading state
returns-then-place-self c = label_here (reading c.args.self.now) c.args.name.now c.in-Some.place (sym c.is_label.ensures ∙ c.if-not-is_label.false) (sym c.place_of.ensures ∙ c.in-Some.is) c.if-place-self.true

pub returns-else-place-self : goal.returns-else-place-self
unfolding reading state
returns-else-place-self c = label_there (reading c.args.self.now) c.args.name.now c.in-Some.place (sym c.is_label.ensures ∙ c.if-not-is_label.false) (sym c.place_of.ensures ∙ c.in-Some.is) c.if-place-self.false

use Rattle.std.proofs.Common.{List, ap}
use Rattle.listing_parse.specs.inner.View.{state, block}
use Rattle.listing_lines.specs.Labels.{Label}
use Rattle.listing_lines.specs.declared.form.Form.TheVariants.{Two}
use Rattle.listing_parse.specs.States.{at_top}
use Rattle.listing_parse.specs.inner.ReadingView.{reading}
use Rattle.listing_parse.proofs.reading.Reading.begin_second.Goals as goal

pub returns-clause-second : goal.returns-clause-second
unfolding reading state block
returns-clause-second c = ap (λ (ls : List Label). record { form = Two; labels = ls; base = record (state c.args.self.now.draft) { block = at_top } }) c.clear.ensures

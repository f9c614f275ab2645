use Rattle.std.proofs.Common.{rules, ◌≡◌, ◌∙◌, sym, ap, map, ◌∷◌, length}
use Rattle.listing_words.specs.inner.View.{word}
use Rattle.listing_words.specs.Words.{plain_word}
use Rattle.listing_parse.specs.inner.View.{state}
use Rattle.listing_lines.specs.Places.{is_insns}
use Rattle.listing_parse.specs.inner.ReadingView.{reading}
use Rattle.listing_parse.proofs.FormLineLaws.{lone, mark_misplaced, mark_placed}
use Rattle.listing_parse.proofs.reading.Reading.line_of_mark.Goals as goal

pub returns-then-not-is_insns : goal.returns-then-not-is_insns
unfolding reading state
returns-then-not-is_insns c =
    let first : c.args.words.now ≡ c.in-Some-Plain-default.field-0-0.now ∷ c.in-Some-Plain-default.rest.now = search rules in
    let none : length c.in-Some-Plain-default.rest.now ≡ 0 = search rules in
    let plain : word c.in-Some-Plain-default.field-0-0.now ≡ plain_word c.in-Some-Plain-default.name.now = search rules in
    let e = lone c.args.words.now c.in-Some-Plain-default.rest.now c.in-Some-Plain-default.field-0-0.now c.in-Some-Plain-default.name.now first none plain in
    mark_misplaced (reading c.args.self.now) (map word c.args.words.now) c.in-Some-Plain-default.name.now e (ap is_insns (sym c.stage.ensures) ∙ sym c.is_insns.ensures ∙ c.if-not-is_insns.true)

pub returns : goal.returns
unfolding reading state
returns c =
    let first : c.args.words.now ≡ c.in-Some-Plain-default.field-0-0.now ∷ c.in-Some-Plain-default.rest.now = search rules in
    let none : length c.in-Some-Plain-default.rest.now ≡ 0 = search rules in
    let plain : word c.in-Some-Plain-default.field-0-0.now ≡ plain_word c.in-Some-Plain-default.name.now = search rules in
    let e = lone c.args.words.now c.in-Some-Plain-default.rest.now c.in-Some-Plain-default.field-0-0.now c.in-Some-Plain-default.name.now first none plain in
    mark_placed (reading c.args.self.now) (map word c.args.words.now) c.in-Some-Plain-default.name.now c.line_of_label.result e (ap is_insns (sym c.stage.ensures) ∙ sym c.is_insns.ensures ∙ c.if-not-is_insns.false) c.line_of_label.ensures

use Rattle.std.proofs.Common.{sym, ap, ◌∙◌}
use Rattle.std.proofs.lemmas.Option.{IfSome_then}
use Rattle.std.proofs.lemmas.Result.{IfOk-weaker}
use Rattle.program_types.specs.View.{insn}
use Rattle.listing_lines.specs.Places.{is_insns}
use Rattle.listing_parse.specs.inner.ReadingView.{reading}
use Rattle.listing_parse.proofs.ShortLaws.{is_short}
use Rattle.listing_parse.proofs.short.read_short.Goals as goal

pub returns-clause-word_values : goal.returns-clause-word_values
unfolding reading
returns-clause-word_values c =
    let cut = c.split_before in
    let second = sym c.is_two.ensures ∙ c.if-not-is_two.false in
    let stands = sym (c.is_insns.ensures ∙ ap is_insns c.stage.ensures) ∙ c.if-not-is_insns.false in
    let joined = sym c.after_spaces.ensures.rest ∙ cut.ensures.joined in
    IfOk-weaker c.of_format.result _ _
    (λ o h. IfSome_then o h (λ i s.
    is_short (reading c.args.listing.now) c.args.line.now cut.result.0.now cut.result.1.now c.in-Some.op c.in-Some-format_of.format (insn i) second stands c.in-Some.ensures.found (sym c.in-Some-format_of.ensures) joined cut.ensures.stops s))
    c.of_format.ensures.word_values

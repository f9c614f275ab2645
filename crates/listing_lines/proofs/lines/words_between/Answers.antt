use Rattle.std.proofs.Common.{◌∙◌, ap, inl, inr, ◌++◌, ◌∷◌, []}
use Rattle.listing_slots.specs.declared.datum.Datum.TheVariants as made
use Rattle.listing_slots.specs.declared.key.Key.TheVariants as key
use Rattle.listing_slots.specs.inner.View.{datum}
use Rattle.listing_slots.specs.Data.{word_of}
use Rattle.listing_lines.proofs.LineLaws.{between_start, between_step}
use Rattle.listing_lines.proofs.lines.words_between.Goals as goal
use Rattle.listing_lines.proofs.lines.words_between.Goals.{then-is_due+in_ok-push, else-is_due}

pub loop-i-init : goal.loop-i-init
loop-i-init c = between_start word_of c.args.word_values.now c.new-numbers.result.items c.new-numbers.ensures.items

pub loop-i-preserved : goal.loop-i-preserved
loop-i-preserved c = elim c.if-is_due.branch [
  | then-is_due+in_ok-push w ↦
      between_step word_of c.args.word_values.now c.loop-i.i w.index-word_values-i.result c.loop-i.is_due _ c.loop-i.numbers.items c.if-is_due.numbers.items c.loop-i-test.true c.loop-i.invariant
      (inl (w.if-is_due.true, ap (λ v. v.items) w.numbers-is ∙ w.in_ok-push.ensures.items ∙ ap (λ z. c.loop-i.numbers.items ++ z ∷ []) (w.word_of.ensures ∙ ap (λ x. word_of (datum x)) w.index-word_values-i.is)))
  | else-is_due w ↦
      between_step word_of c.args.word_values.now c.loop-i.i (made.Key key.Equals) c.loop-i.is_due _ c.loop-i.numbers.items c.if-is_due.numbers.items c.loop-i-test.true c.loop-i.invariant (inr (w.if-is_due.false, ap (λ v. v.items) w.numbers-is))
]

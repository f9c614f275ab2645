use Rattle.std.proofs.Common.{◌∙◌, sym, ap, arith, refl, ℕ, List}
use Rattle.listing_words.specs.Words.{up_to_space}
use Rattle.listing_lines.specs.Splitting.{is_comment}
use Rattle.listing_lines.specs.Labels.{labels_ahead, is_mark, is_stop}
use Rattle.listing_lines.specs.inner.Labels.{insns_ahead}
use Rattle.listing_lines.proofs.AheadLaws.{ahead_none, ahead_skips, ahead_stops, ahead_marks, ahead_counts, count_none, count_skips, count_stops, count_marks, count_counts, marks}
use Rattle.listing_lines.proofs.labels.look_ahead.Goals as goal
use Rattle.listing_lines.proofs.labels.look_ahead.Goals.{then-not-is_comment+else-is_stop+then-is_mark+in_ok-put, then-not-is_comment+else-is_stop+else-is_mark, else-not-is_comment}

pub returns-then-is_stop-clause-ahead : goal.returns-then-is_stop-clause-ahead
returns-then-is_stop-clause-ahead c =
    let t = sym c.after_spaces-words.ensures.rest in
    sym (c.loop-next.invariant.ahead ∙ ap (labels_ahead c.loop-next.labels c.loop-next.line c.loop-next.number) c.in-Some.ensures.found
    ∙ ahead_stops _ _ _ _ _ (ap is_comment t ∙ sym c.is_comment.ensures ∙ c.if-not-is_comment.true) (ap (λ (ws : List ℕ). is_stop (up_to_space ws)) t ∙ sym c.is_stop.ensures ∙ c.if-is_stop.true))

pub loop-next-preserved : goal.loop-next-preserved
loop-next-preserved c =
    let i = c.loop-next.invariant in
    let a = i.ahead ∙ ap (labels_ahead c.loop-next.labels c.loop-next.line c.loop-next.number) c.in-Some.ensures.found in
    let s = c.in-Some.ensures.shorter in
    let t = sym c.after_spaces-words.ensures.rest in
    let comment = ap is_comment t ∙ sym c.is_comment.ensures in
    let mark = ap (λ (ws : List ℕ). is_mark (up_to_space ws)) t ∙ marks c.after_spaces-words.result.now in
    let here = ap insns_ahead c.in-Some.ensures.found in
    elim c.if-not-is_comment.branch [
      | then-not-is_comment+else-is_stop+then-is_mark+in_ok-put w ↦ record {
        ahead = a ∙ ahead_marks _ _ _ _ _ (comment ∙ w.if-not-is_comment.true) (ap (λ (ws : List ℕ). is_stop (up_to_space ws)) t ∙ sym w.is_stop.ensures ∙ w.if-is_stop.false) (mark ∙ sym w.is_mark.ensures ∙ w.if-is_mark.true)
            ∙ rw (w.labels-is, w.number-is, w.in_ok-put.ensures.put, w.up_to_space.ensures, c.after_spaces-words.ensures.rest) refl;
        count = rw w.number-is (omega (arith, i.count, here ∙ count_marks _ _ (comment ∙ w.if-not-is_comment.true) (ap (λ (ws : List ℕ). is_stop (up_to_space ws)) t ∙ sym w.is_stop.ensures ∙ w.if-is_stop.false) (mark ∙ sym w.is_mark.ensures ∙ w.if-is_mark.true)));
        line = omega (arith, i.line, s);
        number = rw w.number-is (omega (arith, i.number, s));
      }
      | then-not-is_comment+else-is_stop+else-is_mark w ↦ record {
        ahead = a ∙ ahead_counts _ _ _ _ _ (comment ∙ w.if-not-is_comment.true) (ap (λ (ws : List ℕ). is_stop (up_to_space ws)) t ∙ sym w.is_stop.ensures ∙ w.if-is_stop.false) (mark ∙ sym w.is_mark.ensures ∙ w.if-is_mark.false)
            ∙ rw (w.labels-is, w.number-is) refl;
        count = rw w.number-is (omega (arith, i.count, here ∙ count_counts _ _ (comment ∙ w.if-not-is_comment.true) (ap (λ (ws : List ℕ). is_stop (up_to_space ws)) t ∙ sym w.is_stop.ensures ∙ w.if-is_stop.false) (mark ∙ sym w.is_mark.ensures ∙ w.if-is_mark.false)));
        line = omega (arith, i.line, s);
        number = rw w.number-is (omega (arith, i.number, s));
      }
      | else-not-is_comment w ↦ record {
        ahead = a ∙ ahead_skips _ _ _ _ _ (comment ∙ w.if-not-is_comment.false) ∙ rw (w.labels-is, w.number-is) refl;
        count = rw w.number-is (omega (arith, i.count, here ∙ count_skips _ _ (comment ∙ w.if-not-is_comment.false)));
        line = omega (arith, i.line, s);
        number = rw w.number-is (omega (arith, i.number, s));
      }
    ]

pub returns-clause-ahead : goal.returns-clause-ahead
returns-clause-ahead c =
    sym (c.loop-next.invariant.ahead ∙ ap (labels_ahead c.loop-next.labels c.loop-next.line c.loop-next.number) c.in_default.ensures.none ∙ ahead_none _ _ _)

pub returns-then-is_stop-clause-count : goal.returns-then-is_stop-clause-count
returns-then-is_stop-clause-count c =
    let t = sym c.after_spaces-words.ensures.rest in
    let none = ap insns_ahead c.in-Some.ensures.found ∙ count_stops _ _ (ap is_comment t ∙ sym c.is_comment.ensures ∙ c.if-not-is_comment.true) (ap (λ (ws : List ℕ). is_stop (up_to_space ws)) t ∙ sym c.is_stop.ensures ∙ c.if-is_stop.true) in
    omega (arith, c.loop-next.invariant.count, none)

pub returns-clause-count : goal.returns-clause-count
returns-clause-count c = omega (arith, c.loop-next.invariant.count, ap insns_ahead c.in_default.ensures.none ∙ count_none)

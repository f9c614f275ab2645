use Rattle.std.proofs.Common.{◌≡◌, ◌<◌, ◌+◌, ℕ, length, get_or, set, sym, subst, ◌∙◌, arith, inl, inr}
use Rattle.std.proofs.lemmas.Bool.{cases_lt}
use Rattle.std.proofs.lemmas.List.{get_or-set_same, get_or-set_other}
use Rattle.file_renumber.specs.inner.Numbers.{before}
use Rattle.file_renumber.proofs.ColumnLemmas.{before_fits, before_next}
use Rattle.file_renumber.proofs.column.count_before.Goals as goal

pub overflow_add-before : goal.overflow_add-before
overflow_add-before c =
    let old = c.args.rows.now in
    let i = c.loop-i.i in
    let fits = before_fits c.requires.0 old i c.requires.1 c.loop-i-test.true in
    let sum = c.loop-i.invariant.sum in
    let due = c.loop-i.invariant.due i (omega arith) in
    omega (arith, fits, sum, due)

pub loop-i-preserved : goal.loop-i-preserved
loop-i-preserved c =
    let old = c.args.rows.now in
    let i = c.loop-i.i in
    let rows = c.loop-i.rows in
    let lt : i < length old = c.loop-i-test.true in
    let sum = c.loop-i.invariant.sum in
    let due = c.loop-i.invariant.due i (omega arith) in
    record {
      sum = (λ k. sum k + due k) ∙ sym (before_next old i lt);
      done = λ k below. elim (cases_lt k i) [
        | inl lower ↦ get_or-set_other rows i k c.loop-i.before 0 (λ e. omega (arith, e, lower)) ∙ c.loop-i.invariant.done k lower
        | inr ge ↦
            let same : k ≡ i = omega (arith, ge, below) in
            subst (λ (j : ℕ). get_or (set rows i c.loop-i.before) j 0 ≡ before old j) (sym same) (get_or-set_same rows i c.loop-i.before 0 ((let size = c.loop-i.auto.rows in omega (arith, lt, size))) ∙ sum)
      ];
      due = λ k above. get_or-set_other rows i k c.loop-i.before 0 (λ e. omega (arith, e, above)) ∙ c.loop-i.invariant.due k (omega (arith, above));
    }

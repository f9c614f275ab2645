use Rattle.std.proofs.Common.{ℕ, take, drop, [], ◌∷◌, length, subst, get_or, ap, ◌∙◌, arith, inl, inr}
use Rattle.std.proofs.lemmas.Result.{on_ok_weaker, IfOk-weaker}
use Rattle.program_types.specs.Content.{Null}
use Rattle.tables_names.specs.Closure.{NameRanks}
use Rattle.tables_rows.specs.Stands.{NameStands}
use Rattle.dex_value.specs.Spelling.{SpellsValue, count_of}
use Rattle.dex_value.proofs.Fronts.{LoneFront}
use Rattle.file_renumber.proofs.FrontLemmas.{taken_some, taken_array, taken_lone, taken_low, low_of, taken_short}
use Rattle.file_renumber.proofs.CarryLemmas.{inner_carried, array_spelled, lone_appends, renumbered_start, next_due, next_carried, renumbered_next, renumbered_end}
use Rattle.file_renumber.proofs.renumbering.+renumbered.Goals as goal
use Rattle.dex_base.proofs.ListFacts.{number_one}

pub renumber_value-unreachable-requires : goal.renumber_value-unreachable-requires
renumber_value-unreachable-requires t c =
    let x = c.requires in taken_some (NameStands x.file) c.args.bytes.now x.rest x.value x.taken c.in_default.ensures.cases

pub renumber_value-take_number-count-requires : goal.renumber_value-take_number-count-requires
renumber_value-take_number-count-requires t c =
    let x = c.requires in
    let a = taken_array (NameStands x.file) _ c.args.bytes.now c.in-Some.rest.now x.rest x.value c.in-Some.ensures.cases.0 x.taken c.in-28.is in
    (count_of a.vs, a.mid, a.counted)

pub renumber_value-renumber_values-requires : goal.renumber_value-renumber_values-requires
renumber_value-renumber_values-requires t c =
    let x = c.requires in
    let a = taken_array (NameStands x.file) _ c.args.bytes.now c.in-Some.rest.now x.rest x.value c.in-Some.ensures.cases.0 x.taken c.in-28.is in
    let one = number_one c.in-Some.rest.now (count_of a.vs) c.take_number-count.result.0 a.mid c.take_number-count.result.1.now a.counted c.take_number-count.ensures.taken in
    let size = ap length c.in-Some.ensures.cases.0 in
    let short = c.take_number-count.ensures.short in
    let most = c.decreases in
    (omega (arith, size, short, most), inner_carried c.args.numbers.now c.args.bytes.now c.in-Some.rest.now x c.take_number-count.result.0 c.take_number-count.result.1.now a one.0 one.1)

pub renumber_value-returns-in_ok-put_uleb-in-28-clause-follows : goal.renumber_value-returns-in_ok-put_uleb-in-28-clause-follows
renumber_value-returns-in_ok-put_uleb-in-28-clause-follows t c =
    IfOk-weaker c.renumber_values.result _ _
    (λ after f x.
    let a = taken_array (NameStands x.file) _ c.args.bytes.now c.in-Some.rest.now x.rest x.value c.in-Some.ensures.cases.0 x.taken c.in-28.is in
    let one = number_one c.in-Some.rest.now (count_of a.vs) c.take_number-count.result.0 a.mid c.take_number-count.result.1.now a.counted c.take_number-count.ensures.taken in
    f (inner_carried c.args.numbers.now c.args.bytes.now c.in-Some.rest.now x c.take_number-count.result.0 c.take_number-count.result.1.now a one.0 one.1))
    c.renumber_values.ensures.follows

pub renumber_value-returns-in_ok-put_uleb-in-28-clause-ok : goal.renumber_value-returns-in_ok-put_uleb-in-28-clause-ok
renumber_value-returns-in_ok-put_uleb-in-28-clause-ok t c =
    on_ok_weaker c.renumber_values.result
    (λ f x.
    let a = taken_array (NameStands x.file) _ c.args.bytes.now c.in-Some.rest.now x.rest x.value c.in-Some.ensures.cases.0 x.taken c.in-28.is in
    let one = number_one c.in-Some.rest.now (count_of a.vs) c.take_number-count.result.0 a.mid c.take_number-count.result.1.now a.counted c.take_number-count.ensures.taken in
    array_spelled (NameRanks x.names) c.args.out.now.items c.push.new.self.items c.put_uleb.new.out.items c.renumber_values.new.out.items x.value a.vs c.take_number-count.result.0 a.value one.0 c.in_ok-push-in-28.ensures.items c.in_ok-put_uleb-in-28.ensures.ok
    (f (inner_carried c.args.numbers.now c.args.bytes.now c.in-Some.rest.now x c.take_number-count.result.0 c.take_number-count.result.1.now a one.0 one.1)))
    c.renumber_values.ensures.ok

pub renumber_values-loop-turn-init : goal.renumber_values-loop-turn-init
renumber_values-loop-turn-init t c = record {
  renumbered = λ x. renumbered_start c.args.numbers.now c.args.count c.args.bytes.now x c.args.out.now.items;
  short = omega arith;
}

pub renumber_values-renumber_value-requires : goal.renumber_values-renumber_value-requires
renumber_values-renumber_value-requires t c =
    let x = c.requires in
    let r = c.loop-turn.invariant.renumbered x in
    let d = next_due c.args.numbers.now c.args.count c.args.bytes.now x c.args.out.now.items c.loop-turn.out.items c.loop-turn.left.now c.loop-turn._turn r c.loop-turn-test.true in
    let short = c.loop-turn.invariant.short in
    let most = c.decreases in
    (omega (arith, short, most), next_carried c.args.numbers.now c.args.count c.args.bytes.now x c.args.out.now.items c.loop-turn.out.items c.loop-turn.left.now c.loop-turn._turn r c.loop-turn-test.true d)

pub renumber_values-loop-turn-preserved : goal.renumber_values-loop-turn-preserved
renumber_values-loop-turn-preserved t c =
    let x = c.requires in
    let r = c.loop-turn.invariant.renumbered x in
    let first = next_due c.args.numbers.now c.args.count c.args.bytes.now x c.args.out.now.items c.loop-turn.out.items c.loop-turn.left.now c.loop-turn._turn r c.loop-turn-test.true in
    let follows = ap length (c.in_ok-after.ensures.follows (next_carried c.args.numbers.now c.args.count c.args.bytes.now x c.args.out.now.items c.loop-turn.out.items c.loop-turn.left.now c.loop-turn._turn r c.loop-turn-test.true first)) in
    let shorter = taken_short (SpellsValue (NameStands x.file)) c.loop-turn.left.now (get_or x.all c.loop-turn._turn Null) first.mid first.one in
    let short = c.loop-turn.invariant.short in
    record {
      renumbered = λ x.
          let r = c.loop-turn.invariant.renumbered x in
          let d = next_due c.args.numbers.now c.args.count c.args.bytes.now x c.args.out.now.items c.loop-turn.out.items c.loop-turn.left.now c.loop-turn._turn r c.loop-turn-test.true in
          let one = next_carried c.args.numbers.now c.args.count c.args.bytes.now x c.args.out.now.items c.loop-turn.out.items c.loop-turn.left.now c.loop-turn._turn r c.loop-turn-test.true d in
          renumbered_next c.args.numbers.now c.args.count c.args.bytes.now x c.args.out.now.items c.loop-turn.out.items c.loop-turn.left.now c.loop-turn._turn r c.loop-turn-test.true d c.in_ok-after.after.now c.renumber_value.new.out.items (c.in_ok-after.ensures.follows one) (c.in_ok-after.ensures.ok one);
      short = omega (arith, follows, shorter, short);
    }

pub renumber_values-returns-clause-follows : goal.renumber_values-returns-clause-follows
renumber_values-returns-clause-follows t c = λ x. (renumbered_end c.args.numbers.now c.args.count c.args.bytes.now x c.args.out.now.items c.loop-turn.out.items c.loop-turn.left.now c.loop-turn._turn (c.loop-turn.invariant.renumbered x) c.loop-turn-test.false).1

pub renumber_values-returns-clause-ok : goal.renumber_values-returns-clause-ok
renumber_values-returns-clause-ok t c = λ x. (renumbered_end c.args.numbers.now c.args.count c.args.bytes.now x c.args.out.now.items c.loop-turn.out.items c.loop-turn.left.now c.loop-turn._turn (c.loop-turn.invariant.renumbered x) c.loop-turn-test.false).0

pub renumber_value-returns-in_ok-push-in-30-clause-follows : goal.renumber_value-returns-in_ok-push-in-30-clause-follows
renumber_value-returns-in_ok-push-in-30-clause-follows t c = λ x.
    (taken_lone (NameStands x.file) _ c.args.bytes.now c.in-Some.rest.now x.rest x.value c.in-Some.ensures.cases.0 x.taken (inl c.in-30.is)).1

pub renumber_value-returns-in_ok-push-in-30-clause-ok : goal.renumber_value-returns-in_ok-push-in-30-clause-ok
renumber_value-returns-in_ok-push-in-30-clause-ok t c = λ x.
    let l = taken_lone (NameStands x.file) _ c.args.bytes.now c.in-Some.rest.now x.rest x.value c.in-Some.ensures.cases.0 x.taken (inl c.in-30.is) in
    lone_appends (NameRanks x.names) 30 c.args.out.now.items c.push-in-30.new.self.items x.value c.in_ok-push-in-30.ensures.items (subst (λ (h : ℕ). LoneFront (h ∷ []) x.value) c.in-30.is l.0)

pub renumber_value-returns-in_ok-push-in-31-clause-follows : goal.renumber_value-returns-in_ok-push-in-31-clause-follows
renumber_value-returns-in_ok-push-in-31-clause-follows t c = λ x.
    (taken_lone (NameStands x.file) _ c.args.bytes.now c.in-Some.rest.now x.rest x.value c.in-Some.ensures.cases.0 x.taken (inr (inl c.in-31.is))).1

pub renumber_value-returns-in_ok-push-in-31-clause-ok : goal.renumber_value-returns-in_ok-push-in-31-clause-ok
renumber_value-returns-in_ok-push-in-31-clause-ok t c = λ x.
    let l = taken_lone (NameStands x.file) _ c.args.bytes.now c.in-Some.rest.now x.rest x.value c.in-Some.ensures.cases.0 x.taken (inr (inl c.in-31.is)) in
    lone_appends (NameRanks x.names) 31 c.args.out.now.items c.push-in-31.new.self.items x.value c.in_ok-push-in-31.ensures.items (subst (λ (h : ℕ). LoneFront (h ∷ []) x.value) c.in-31.is l.0)

pub renumber_value-returns-in_ok-push-in-63-clause-follows : goal.renumber_value-returns-in_ok-push-in-63-clause-follows
renumber_value-returns-in_ok-push-in-63-clause-follows t c = λ x.
    (taken_lone (NameStands x.file) _ c.args.bytes.now c.in-Some.rest.now x.rest x.value c.in-Some.ensures.cases.0 x.taken (inr (inr c.in-63.is))).1

pub renumber_value-returns-in_ok-push-in-63-clause-ok : goal.renumber_value-returns-in_ok-push-in-63-clause-ok
renumber_value-returns-in_ok-push-in-63-clause-ok t c = λ x.
    let l = taken_lone (NameStands x.file) _ c.args.bytes.now c.in-Some.rest.now x.rest x.value c.in-Some.ensures.cases.0 x.taken (inr (inr c.in-63.is)) in
    lone_appends (NameRanks x.names) 63 c.args.out.now.items c.push-in-63.new.self.items x.value c.in_ok-push-in-63.ensures.items (subst (λ (h : ℕ). LoneFront (h ∷ []) x.value) c.in-63.is l.0)

pub renumber_value-split_at-requires : goal.renumber_value-split_at-requires
renumber_value-split_at-requires t c =
    let x = c.requires in
    let l = taken_low (NameStands x.file) _ c.args.bytes.now c.in-Some.rest.now x.rest x.value c.in-Some.ensures.cases.0 x.taken (λ e. c.width_of.ensures.not_lone (inl e)) (λ e. c.width_of.ensures.not_lone (inr e)) in
    let long = l.long in
    let w = c.width_of.ensures.value in
    omega (arith, long, w)

pub renumber_value-renumber_low-requires : goal.renumber_value-renumber_low-requires
renumber_value-renumber_low-requires t c =
    let x = c.requires in
    let tail = c.in-Some.rest.now in
    let l = taken_low (NameStands x.file) _ c.args.bytes.now tail x.rest x.value c.in-Some.ensures.cases.0 x.taken (λ e. c.width_of.ensures.not_lone (inl e)) (λ e. c.width_of.ensures.not_lone (inr e)) in
    record {
      file = x.file;
      names = x.names;
      value = x.value;
      low = low_of x.file _ tail c.split_at.result.0.now x.value x.rest x.framed (c.split_at.ensures.front ∙ ap (λ (n : ℕ). take n tail) c.width_of.ensures.value) l;
      rise = x.rise;
      carried = x.carried;
    }

pub renumber_value-returns-in_ok-renumber_low-in_default-head-clause-follows : goal.renumber_value-returns-in_ok-renumber_low-in_default-head-clause-follows
renumber_value-returns-in_ok-renumber_low-in_default-head-clause-follows t c = λ x.
    let tail = c.in-Some.rest.now in
    let l = taken_low (NameStands x.file) _ c.args.bytes.now tail x.rest x.value c.in-Some.ensures.cases.0 x.taken (λ e. c.width_of.ensures.not_lone (inl e)) (λ e. c.width_of.ensures.not_lone (inr e)) in
    c.split_at.ensures.back ∙ ap (λ (n : ℕ). drop n tail) c.width_of.ensures.value ∙ l.follows

pub renumber_value-returns-in_ok-renumber_low-in_default-head-clause-ok : goal.renumber_value-returns-in_ok-renumber_low-in_default-head-clause-ok
renumber_value-returns-in_ok-renumber_low-in_default-head-clause-ok t c = λ x.
    let tail = c.in-Some.rest.now in
    let l = taken_low (NameStands x.file) _ c.args.bytes.now tail x.rest x.value c.in-Some.ensures.cases.0 x.taken (λ e. c.width_of.ensures.not_lone (inl e)) (λ e. c.width_of.ensures.not_lone (inr e)) in
    c.in_ok-renumber_low-in_default-head.ensures.ok (record {
      file = x.file;
      names = x.names;
      value = x.value;
      low = low_of x.file _ tail c.split_at.result.0.now x.value x.rest x.framed (c.split_at.ensures.front ∙ ap (λ (n : ℕ). take n tail) c.width_of.ensures.value) l;
      rise = x.rise;
      carried = x.carried;
    })

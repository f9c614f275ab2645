use Rattle.std.proofs.Common.{ℕ, take, length, get_or, drop, ap, ◌∙◌, arith, inl, inr}
use Rattle.std.specs.List.{flat_map}
use Rattle.program_types.specs.Content.{Null}
use Rattle.program_types.specs.Mentions.{names_of_value}
use Rattle.tables_rows.specs.Stands.{NameStands}
use Rattle.dex_value.specs.Spelling.{SpellsValue, count_of}
use Rattle.file_renumber.proofs.MarkLemmas.{has_marks_after}
use Rattle.file_renumber.proofs.FrontLemmas.{taken_some, taken_array, taken_low, low_of, values_due, taken_short}
use Rattle.file_renumber.proofs.ValueMarks.{array_marked, lone_marked, walked_start, next_due, walked_next, walked_few, walked_end, values_few, next_wide}
use Rattle.file_renumber.proofs.NameLemmas.{low_wide}
use Rattle.file_renumber.proofs.marking.+marked.Goals as goal
use Rattle.program_types.proofs.Nesting.{listed}

pub mark_value-unreachable-requires : goal.mark_value-unreachable-requires
mark_value-unreachable-requires t c =
    taken_some (NameStands c.args.sections.now) c.args.bytes.now c.requires.value.1 c.requires.value.0 c.requires.value.2 c.in_default.ensures.cases

pub mark_value-take_number-count-requires : goal.mark_value-take_number-count-requires
mark_value-take_number-count-requires t c =
    let v = c.requires.value.0 in
    let x = taken_array (NameStands c.args.sections.now) _ c.args.bytes.now c.in-Some.rest.now c.requires.value.1 v c.in-Some.ensures.cases.0 c.requires.value.2 c.in-28.is in
    (count_of x.vs, x.mid, x.counted)

pub mark_value-mark_values-requires : goal.mark_value-mark_values-requires
mark_value-mark_values-requires t c =
    let N = NameStands c.args.sections.now in
    let v = c.requires.value.0 in
    let x = taken_array N _ c.args.bytes.now c.in-Some.rest.now c.requires.value.1 v c.in-Some.ensures.cases.0 c.requires.value.2 c.in-28.is in
    let due = values_due N c.in-Some.rest.now (count_of x.vs) c.take_number-count.result.0 x.mid c.take_number-count.result.1.now (listed x.vs) c.requires.value.1 x.counted c.take_number-count.ensures.taken x.values in
    let size = ap length c.in-Some.ensures.cases.0 in
    let short = c.take_number-count.ensures.short in
    let few = c.requires.few in
    let most = c.decreases in
    (omega (arith, size, short, most), (c.requires.marks, (omega (arith, size, short, few), (listed x.vs, c.requires.value.1, due))))

pub mark_value-overflow_add-whole : goal.mark_value-overflow_add-whole
mark_value-overflow_add-whole t c =
    let N = NameStands c.args.sections.now in
    let v = c.requires.value.0 in
    let x = taken_array N _ c.args.bytes.now c.in-Some.rest.now c.requires.value.1 v c.in-Some.ensures.cases.0 c.requires.value.2 c.in-28.is in
    let due = values_due N c.in-Some.rest.now (count_of x.vs) c.take_number-count.result.0 x.mid c.take_number-count.result.1.now (listed x.vs) c.requires.value.1 x.counted c.take_number-count.ensures.taken x.values in
    let wide = (c.in_ok-wide-in-28.ensures.marked (listed x.vs) c.requires.value.1 due).wide in
    let bound = values_few c.args.sections.now c.take_number-count.result.0 c.take_number-count.result.1.now (listed x.vs) c.requires.value.1 due in
    let size = ap length c.in-Some.ensures.cases.0 in
    let short = c.take_number-count.ensures.short in
    let few = c.requires.few in
    omega (arith, wide, bound, size, short, few)

pub mark_value-returns-in_ok-wide-in-28-clause-marked : goal.mark_value-returns-in_ok-wide-in-28-clause-marked
mark_value-returns-in_ok-wide-in-28-clause-marked t c = λ v rest takes.
    let N = NameStands c.args.sections.now in
    let x = taken_array N _ c.args.bytes.now c.in-Some.rest.now rest v c.in-Some.ensures.cases.0 takes c.in-28.is in
    let due = values_due N c.in-Some.rest.now (count_of x.vs) c.take_number-count.result.0 x.mid c.take_number-count.result.1.now (listed x.vs) rest x.counted c.take_number-count.ensures.taken x.values in
    array_marked c.args.sections.now c.args.marks.now c.mark_values.new.marks c.in-Some.rest.now rest v x c.in_ok-wide-in-28.wide c.in_ok-wide-in-28.after.now (c.in_ok-wide-in-28.ensures.marked (listed x.vs) rest due)

pub mark_value-returns-in-30-clause-marked : goal.mark_value-returns-in-30-clause-marked
mark_value-returns-in-30-clause-marked t c = λ v rest takes.
    lone_marked c.args.sections.now c.args.marks.now _ c.args.bytes.now c.in-Some.rest.now rest v c.in-Some.ensures.cases.0 takes (inl c.in-30.is)

pub mark_value-returns-in-31-clause-marked : goal.mark_value-returns-in-31-clause-marked
mark_value-returns-in-31-clause-marked t c = λ v rest takes.
    lone_marked c.args.sections.now c.args.marks.now _ c.args.bytes.now c.in-Some.rest.now rest v c.in-Some.ensures.cases.0 takes (inr (inl c.in-31.is))

pub mark_value-returns-in-63-clause-marked : goal.mark_value-returns-in-63-clause-marked
mark_value-returns-in-63-clause-marked t c = λ v rest takes.
    lone_marked c.args.sections.now c.args.marks.now _ c.args.bytes.now c.in-Some.rest.now rest v c.in-Some.ensures.cases.0 takes (inr (inr c.in-63.is))

pub mark_values-loop-turn-init : goal.mark_values-loop-turn-init
mark_values-loop-turn-init t c = record {
  walked = λ vs rest takes. walked_start c.args.sections.now c.args.marks.now c.args.count c.args.bytes.now vs rest takes;
  short = omega arith;
}

pub mark_values-mark_value-requires : goal.mark_values-mark_value-requires
mark_values-mark_value-requires t c =
    let b = c.args.sections.now in
    let vs = c.requires.values.0 in
    let rest = c.requires.values.1 in
    let w = c.loop-turn.invariant.walked vs rest c.requires.values.2 in
    let d = next_due b c.args.count c.args.bytes.now c.loop-turn.left.now c.loop-turn._turn vs rest c.args.marks.now c.loop-turn.marks c.loop-turn.sum c.loop-turn-test.true c.requires.values.2 w in
    let short = c.loop-turn.invariant.short in
    let few = c.requires.few in
    let most = c.decreases in
    (omega (arith, short, most), (has_marks_after b c.args.marks.now c.loop-turn.marks (flat_map names_of_value (take c.loop-turn._turn vs)) c.requires.marks w.marked, (omega (arith, short, few), (get_or vs c.loop-turn._turn Null, d.mid, d.one))))

pub mark_values-overflow_add-sum : goal.mark_values-overflow_add-sum
mark_values-overflow_add-sum t c =
    let b = c.args.sections.now in
    let vs = c.requires.values.0 in
    let rest = c.requires.values.1 in
    let turn = c.loop-turn._turn in
    let w = c.loop-turn.invariant.walked vs rest c.requires.values.2 in
    let d = next_due b c.args.count c.args.bytes.now c.loop-turn.left.now turn vs rest c.args.marks.now c.loop-turn.marks c.loop-turn.sum c.loop-turn-test.true c.requires.values.2 w in
    let wide = (c.in_ok-wide.ensures.marked (get_or vs turn Null) d.mid d.one).wide in
    let all = walked_few b c.args.count c.args.bytes.now c.loop-turn.left.now turn vs rest c.args.marks.now c.loop-turn.marks c.loop-turn.sum c.requires.values.2 w in
    let one = next_wide b c.args.count c.args.bytes.now vs rest turn c.loop-turn-test.true c.requires.values.2 in
    let few = c.requires.few in
    omega (arith, wide, all, one, few)

pub mark_values-loop-turn-preserved : goal.mark_values-loop-turn-preserved
mark_values-loop-turn-preserved t c =
    let b = c.args.sections.now in
    let turn = c.loop-turn._turn in
    let own = c.loop-turn.invariant.walked c.requires.values.0 c.requires.values.1 c.requires.values.2 in
    let first = next_due b c.args.count c.args.bytes.now c.loop-turn.left.now turn c.requires.values.0 c.requires.values.1 c.args.marks.now c.loop-turn.marks c.loop-turn.sum c.loop-turn-test.true c.requires.values.2 own in
    let follows = ap length (c.in_ok-wide.ensures.marked (get_or c.requires.values.0 turn Null) first.mid first.one).follows in
    let shorter = taken_short (SpellsValue (NameStands b)) c.loop-turn.left.now (get_or c.requires.values.0 turn Null) first.mid first.one in
    let short = c.loop-turn.invariant.short in
    record {
      walked = λ vs rest takes.
          let w = c.loop-turn.invariant.walked vs rest takes in
          let d = next_due b c.args.count c.args.bytes.now c.loop-turn.left.now turn vs rest c.args.marks.now c.loop-turn.marks c.loop-turn.sum c.loop-turn-test.true takes w in
          walked_next b c.args.count c.args.bytes.now c.loop-turn.left.now c.in_ok-wide.after.now turn vs rest c.args.marks.now c.loop-turn.marks c.mark_value.new.marks c.loop-turn.sum c.in_ok-wide.wide c.loop-turn-test.true takes w d (c.in_ok-wide.ensures.marked (get_or vs turn Null) d.mid d.one);
      short = omega (arith, follows, shorter, short);
    }

pub mark_values-returns-clause-marked : goal.mark_values-returns-clause-marked
mark_values-returns-clause-marked t c = λ vs rest takes.
    walked_end c.args.sections.now c.args.count c.args.bytes.now c.loop-turn.left.now c.loop-turn._turn vs rest c.args.marks.now c.loop-turn.marks c.loop-turn.sum c.loop-turn-test.false takes (c.loop-turn.invariant.walked vs rest takes)

pub mark_value-split_at-requires : goal.mark_value-split_at-requires
mark_value-split_at-requires t c =
    let l = taken_low (NameStands c.args.sections.now) _ c.args.bytes.now c.in-Some.rest.now c.requires.value.1 c.requires.value.0 c.in-Some.ensures.cases.0 c.requires.value.2 (λ e. c.width_of.ensures.not_lone (inl e)) (λ e. c.width_of.ensures.not_lone (inr e)) in
    let long = l.long in
    let w = c.width_of.ensures.value in
    omega (arith, long, w)

pub mark_value-mark_low-requires-clause-low : goal.mark_value-mark_low-requires-clause-low
mark_value-mark_low-requires-clause-low t c =
    let v = c.requires.value.0 in
    let tail = c.in-Some.rest.now in
    let l = taken_low (NameStands c.args.sections.now) _ c.args.bytes.now tail c.requires.value.1 v c.in-Some.ensures.cases.0 c.requires.value.2 (λ e. c.width_of.ensures.not_lone (inl e)) (λ e. c.width_of.ensures.not_lone (inr e)) in
    (v, low_of c.args.sections.now _ tail c.split_at.result.0.now v c.requires.value.1 c.requires.marks.1.framed (c.split_at.ensures.front ∙ ap (λ (n : ℕ). take n tail) c.width_of.ensures.value) l)

pub mark_value-returns-in_ok-mark_low-in_default-head-clause-marked : goal.mark_value-returns-in_ok-mark_low-in_default-head-clause-marked
mark_value-returns-in_ok-mark_low-in_default-head-clause-marked t c = λ v rest takes.
    let tail = c.in-Some.rest.now in
    let N = NameStands c.args.sections.now in
    let l = taken_low N _ c.args.bytes.now tail rest v c.in-Some.ensures.cases.0 takes (λ e. c.width_of.ensures.not_lone (inl e)) (λ e. c.width_of.ensures.not_lone (inr e)) in
    record {
      follows = c.split_at.ensures.back ∙ ap (λ (n : ℕ). drop n tail) c.width_of.ensures.value ∙ l.follows;
      wide = low_wide N _ _ v l.stands;
      marked = c.in_ok-mark_low-in_default-head.ensures.marked v (low_of c.args.sections.now _ tail c.split_at.result.0.now v rest c.requires.marks.1.framed (c.split_at.ensures.front ∙ ap (λ (n : ℕ). take n tail) c.width_of.ensures.value) l);
    }

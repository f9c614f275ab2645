use Rattle.std.proofs.Common.{arith, [], ◌∷◌, map}
use Rattle.listing_slots.specs.inner.View.{datum}
use Rattle.std.proofs.lemmas.List.{append-nil, map-append}
use Rattle.listing_slots.proofs.OperandLaws.{data_push, stay_more}
use Rattle.listing_lines.proofs.SpellLaws.{all_end, all_more, bad_more, bad_here}
use Rattle.listing_lines.proofs.labels.read_all.Goals as goal

pub returns-clause-all : goal.returns-clause-all
returns-clause-all c = rw append-nil at (c.loop-i.invariant.all [] (all_end c.args.labels.now c.args.slots.now c.args.words.now c.loop-i.i (omega arith) c.requires))

pub returns-in_default-clause-bad : goal.returns-in_default-clause-bad
returns-in_default-clause-bad c = c.loop-i.invariant.bad _ (bad_here c.args.labels.now c.args.slots.now c.args.words.now c.loop-i.i _ _ _ c.loop-i-test.true c.requires (rw c.in_default.is at c.in_ok-word_value.ensures.none) c.fault_here.ensures)

pub loop-i-preserved : goal.loop-i-preserved
loop-i-preserved c =
    let es = c.args.labels.now in
    let found = rw c.in-Some.is at c.in_ok-word_value.ensures.found in
    record {
      all = λ more m. rw (c.push_reserved.ensures.items, data_push c.loop-i.word_values.items c.in-Some.word_value more)
          (c.loop-i.invariant.all (datum c.in-Some.word_value ∷ more) (all_more es c.args.slots.now c.args.words.now c.loop-i.i _ _ (datum c.in-Some.word_value) more c.loop-i-test.true c.requires found m));
      bad = λ code b. c.loop-i.invariant.bad code (bad_more es c.args.slots.now c.args.words.now c.loop-i.i _ _ (datum c.in-Some.word_value) code c.loop-i-test.true c.requires found b);
      valid = rw (c.push_reserved.ensures.items, map-append) (stay_more c.args.spelled.now c.loop-i.spelled c.read_here.new.spelled (map datum c.loop-i.word_values.items) (datum c.in-Some.word_value) c.loop-i.invariant.valid (rw c.in-Some.is at c.in_ok-word_value.ensures.valid));
      room = omega arith;
    }

use Rattle.std.proofs.Common.{ℕ, List, ◌++◌, map, drop}
use Rattle.listing_words.specs.inner.View.{word}
use Rattle.listing_slots.specs.Data.{Datum}
use Rattle.listing_slots.specs.Slots.{SpellsSlots, MisspellsSlots}
use Rattle.listing_slots.specs.inner.ValidNames.{StayValid}
use Rattle.listing_slots.specs.inner.View.{datum}
use Rattle.listing_slots.proofs.read.read_operands.Given as goal

abbrev pub invariant-loop-i : goal.invariant-loop-i
invariant-loop-i l = record {
  all : (more : List Datum) → SpellsSlots (drop l.i l.slots) (map word (drop l.i l.words)) more → SpellsSlots l.slots (map word l.words) (map datum l.word_values.items ++ more);
  bad : (code : ℕ) → MisspellsSlots (drop l.i l.slots) (map word (drop l.i l.words)) code → MisspellsSlots l.slots (map word l.words) code;
  valid : StayValid l.fn.spelled l.spelled (map datum l.word_values.items);
}

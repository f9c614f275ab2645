use Rattle.std.proofs.Common.{ℕ, ◌+◌, ◌≤◌, List, ◌++◌, length, map, drop, vec_len, vec_capacity}
use Rattle.listing_words.specs.inner.View.{word}
use Rattle.listing_slots.specs.Data.{Datum}
use Rattle.listing_slots.specs.inner.ValidNames.{StayValid}
use Rattle.listing_slots.specs.inner.View.{datum}
use Rattle.listing_lines.specs.Labels.{SpellsAll, MisspellsAll}
use Rattle.listing_lines.proofs.labels.read_all.Given as goal

abbrev pub invariant-loop-i : goal.invariant-loop-i
invariant-loop-i l = record {
  all : (more : List Datum) → SpellsAll l.labels (drop l.i l.slots) (map word (drop l.i l.words)) more → SpellsAll l.labels l.slots (map word l.words) (map datum l.word_values.items ++ more);
  bad : (code : ℕ) → MisspellsAll l.labels (drop l.i l.slots) (map word (drop l.i l.words)) code → MisspellsAll l.labels l.slots (map word l.words) code;
  valid : StayValid l.fn.spelled l.spelled (map datum l.word_values.items);
  room : vec_len l.word_values + length l.slots ≤ l.i + vec_capacity l.word_values;
}

use Rattle.std.proofs.Common.{◌≡◌, ◌<◌, ℕ, length, get_or}
use Rattle.file_classes.specs.ClassRows.{class_word}
use Rattle.file_strip.proofs.class_words.class_words.Given as goal

abbrev pub invariant-loop-i : goal.invariant-loop-i
invariant-loop-i l = (length l.words.items ≡ l.i) × ((k : ℕ) → k < l.i → get_or l.words.items k 0 ≡ class_word l.sections k l.j)

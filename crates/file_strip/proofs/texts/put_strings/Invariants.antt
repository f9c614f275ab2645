use Rattle.program_types.specs.Content.{Program}
use Rattle.file_strip.specs.inner.Keeping.{Keeps}
use Rattle.file_strip.specs.inner.Texts.{AreFirstTexts}
use Rattle.file_strip.proofs.texts.put_strings.Given as goal

abbrev pub invariant-loop-i : goal.invariant-loop-i
invariant-loop-i l = (p : Program) → Keeps l.sections l.numbers p → AreFirstTexts l.numbers p l.fn.out.items l.out.items l.i l.places.items

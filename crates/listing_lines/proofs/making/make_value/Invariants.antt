use Rattle.std.proofs.Common.{◌≡◌, map, drop, []}
use Rattle.std.specs.Prelude.{fold}
use Rattle.listing_slots.specs.inner.View.{datum}
use Rattle.listing_lines.specs.Lines.{with_word}
use Rattle.listing_lines.specs.inner.MakingView.{making}
use Rattle.listing_lines.proofs.making.make_value.Given as goal

abbrev pub invariant-loop-i : goal.invariant-loop-i
invariant-loop-i l = fold with_word (record { values = []; begins = [] }) (map datum l.words) ≡ fold with_word (making l.made) (map datum (drop l.i l.words))

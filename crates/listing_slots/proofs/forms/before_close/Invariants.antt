use Rattle.std.proofs.Common.{◌≡◌, ◌+◌, ◌-◌, ◌≤◌, drop, map, length}
use Rattle.listing_words.specs.inner.View.{word}
use Rattle.listing_slots.specs.Shapes.{before_close}
use Rattle.listing_slots.proofs.forms.before_close.Given as goal

abbrev pub invariant-loop-n : goal.invariant-loop-n
invariant-loop-n l = record {
  same : before_close 5 (map word l.words) ≡ l.n + before_close (5 - l.n) (map word (drop l.n l.words));
  few : l.n ≤ 5;
  inside : l.n ≤ length l.words;
}

abbrev pub decreases-loop-n : goal.decreases-loop-n
decreases-loop-n l = 5 - l.n

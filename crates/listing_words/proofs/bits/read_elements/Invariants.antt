use Rattle.std.proofs.Common.{◌++◌, ℕ, List, length}
use Rattle.listing_words.specs.Numbers.{SpellsElements}
use Rattle.listing_words.proofs.bits.read_elements.Given as goal

abbrev pub invariant-loop-first : goal.invariant-loop-first
invariant-loop-first l = record {
  found : (more : List ℕ) → SpellsElements l.rest more → SpellsElements l.word (l.bytes.items ++ more);
  none : (all : List ℕ) → SpellsElements l.word all → (more : List ℕ) × SpellsElements l.rest more;
}

abbrev pub decreases-loop-first : goal.decreases-loop-first
decreases-loop-first l = length l.rest

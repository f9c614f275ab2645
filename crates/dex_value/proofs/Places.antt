-- What stands at a place of the section is what its bytes from there on begin with.
use Rattle.std.proofs.Common.{◌≡◌, ℕ, ◌+◌, ◌-◌, ◌<◌, ◌≤◌, inr, List, length, take, drop, sym, subst, ◌∙◌, arith, length-take}
use Rattle.std.specs.List.{AllByRecursion}
use Rattle.std.proofs.lemmas.List.{take-take, take-append-drop, length-append}
use Rattle.dex_base.specs.Grammar.{Takes}
use Rattle.dex_base.specs.declared.fault.Fault.{Fault}
use Rattle.dex_base.proofs.LengthLaws.{IsAtLeast, Spells-least}
use Rattle.dex_base.proofs.TakesLaws.{Begins-from_takes, Takes-unique}
use Rattle.dex_container.specs.declared.section.Section.{Section}
use Rattle.dex_container.specs.Where.{slice, At, IsInSection, IsSectionOf}
use Rattle.dex_container.proofs.Standing.{stands_at, at_place, mod_one}
use Rattle.program_types.specs.Content.{Name, Value}
use Rattle.program_types.specs.Depth.{depth, most_depth}
use Rattle.dex_value.specs.Spelling.{SpellsArray}
use Rattle.dex_value.specs.Standing.{ArrayStands}
use Rattle.dex_value.specs.Unique.{IsFunctionalByType}
use Rattle.dex_value.specs.Faults.{ArrayBreaks, ArrayBreaksAt}
use Rattle.dex_value.proofs.FrontLaws.{SpellsArray-unique}
use Rattle.dex_value.proofs.Refusing.{array_none}

-- an encoded_array has at least the byte of its count
pub SpellsArray-least : (N : ℕ → Name → Type 0) → IsAtLeast (SpellsArray N) (λ _. 1)
SpellsArray-least N bytes vs s =
    let l = Spells-least s.front (length vs) s.first in
    let j : length bytes ≡ length s.front + length s.back = (λ i. length (s.joined i)) ∙ length-append s.front s.back in
    omega (arith, l, j)

at_some : (N : ℕ → Name → Type 0) (b : List ℕ) (off : ℕ) (vs : List Value) (a : At (SpellsArray N) b 0x2005 1 off vs) → 0 < a.size
unfolding slice
at_some N b off vs a =
    let l = SpellsArray-least N (take a.size (drop off b)) vs a.spelled in
    let t = length-take a.size (drop off b) in
    omega (arith, l, t)

-- nothing stands outside the section
pub outside_none : (N : ℕ → Name → Type 0) (b : List ℕ) (off most : ℕ) (vs : List Value) → (IsInSection b 0x2005 off → ⊥) → ArrayStands N b off most vs → ⊥
outside_none N b off most vs out a = out (at_place (SpellsArray N) b 0x2005 1 off vs a.stands (at_some N b off vs a.stands))

module _ (N : ℕ → Name → Type 0) (b rest : List ℕ) (s : Section) (off : ℕ) (is : IsSectionOf b 0x2005 s) (same : rest ≡ take (s.end - off) (drop off b)) where
  pub array_stands : (most : ℕ) (vs : List Value) → s.begin ≤ off → off < s.end → ((after : List ℕ) × Takes (SpellsArray N) rest vs after) → length vs ≤ most → AllByRecursion (λ v. depth v ≤ most_depth) vs → ArrayStands N b off most vs
  array_stands most vs low high t few deep = record {
    stands = stands_at (SpellsArray N) b rest 0x2005 1 s off is same vs (length t.1.front) low high (mod_one off) (Begins-from_takes (SpellsArray N) rest vs t.0 t.1).0;
    few = few;
    deep = deep;
  }

  pub at_takes : (vs : List Value) → At (SpellsArray N) b 0x2005 1 off vs → (after : List ℕ) × Takes (SpellsArray N) rest vs after
  unfolding slice
  at_takes vs a =
      let e = (is.only a.begin a.end a.section).1 in
      let w = a.within in
      let i : a.size ≤ s.end - off = omega (arith, e, w) in
      let front : take a.size rest ≡ take a.size (drop off b) = (λ j. take a.size (same j)) ∙ take-take a.size (s.end - off) (drop off b) i in
      (drop a.size rest, record { front = take a.size rest; whole = sym (take-append-drop a.size rest); spelled = subst (λ (l : List ℕ). SpellsArray N l vs) (sym front) a.spelled })

  pub array_only : IsFunctionalByType N → (most : ℕ) (vs ws : List Value) → ((after : List ℕ) × Takes (SpellsArray N) rest vs after) → ArrayStands N b off most ws → ws ≡ vs
  array_only one most vs ws t a =
      let u = at_takes ws a.stands in
      (Takes-unique (SpellsArray N) rest ws vs u.0 t.0 (SpellsArray-unique N one) u.1 t.1).0

  pub broken_none : IsFunctionalByType N → (most : ℕ) (fault : Fault) → ArrayBreaks N off s.end most rest fault → (vs : List Value) → ArrayStands N b off most vs → ⊥
  broken_none one most fault u vs a =
      let t = at_takes vs a.stands in
      array_none N one off s.end most rest fault u vs t.0 t.1 a.few a.deep

  pub broken : (most : ℕ) (fault : Fault) → s.begin ≤ off → off < s.end → ArrayBreaks N off s.end most rest fault → ArrayBreaksAt N b off most fault
  broken most fault low high u =
      inr (s.end, rest, record { begin = s.begin; section = is.some (omega (arith, low, high)); after = low; before = high; same = same }, u)

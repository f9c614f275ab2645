-- What stands at a place of the section is what its bytes from there on begin with.
use Rattle.std.proofs.Common.{◌≡◌, ℕ, ◌-◌, ◌%◌, ◌<◌, ◌≤◌, List, length, take, drop, sym, subst, ◌∙◌, arith, length-take, inr}
use Rattle.std.proofs.lemmas.List.{take-take, take-append-drop}
use Rattle.dex_base.specs.Grammar.{Takes}
use Rattle.dex_base.specs.declared.fault.Fault.{Fault}
use Rattle.dex_base.proofs.TakesLaws.{Begins-from_takes, Takes-unique}
use Rattle.dex_container.specs.declared.section.Section.{Section}
use Rattle.dex_container.specs.Where.{slice, IsInSection, IsSectionOf}
use Rattle.dex_container.proofs.Standing.{stands_at, at_place}
use Rattle.program_types.specs.Content.{Name, Code}
use Rattle.code_read.specs.inner.Symbols.{IsFunctional}
use Rattle.program_types.specs.Formed.{RegistersHold}
use Rattle.code_read.specs.Code.{SpellsBody, BodyStands, CodeStands}
use Rattle.code_read.specs.Faults.{ItemBreaks, CodeBreaks}
use Rattle.code_read.proofs.ItemLaws.{SpellsBody-unique, read-from_takes}
use Rattle.code_read.proofs.FaultLaws.{item-clear}
pub use Rattle.code_read.proofs.InsnsOnce.{NameIsAt-functional}

-- a code that stands is one whose registers hold
pub code_body : (N : ℕ → Name → Type 0) (b : List ℕ) (off : ℕ) (c : Code) → CodeStands N b off c → BodyStands N b off c
code_body N b off c a =
    record { begin = a.begin; end = a.end; section = a.section; after = a.after; aligned = a.aligned; size = a.size; within = a.within; spelled = a.spelled.body }

pub body_code : (N : ℕ → Name → Type 0) (b : List ℕ) (off : ℕ) (c : Code) → RegistersHold c → BodyStands N b off c → CodeStands N b off c
body_code N b off c h a =
    record { begin = a.begin; end = a.end; section = a.section; after = a.after; aligned = a.aligned; size = a.size; within = a.within; spelled = record { body = a.spelled; named = h } }

at_some : (N : ℕ → Name → Type 0) (b : List ℕ) (off : ℕ) (c : Code) (a : BodyStands N b off c) → 0 < a.size
unfolding slice
at_some N b off c a =
    let l = a.spelled.whole.head in
    omega (arith, l, length-take a.size (drop off b))

-- nothing stands outside the section, nor misaligned
pub outside_none : (N : ℕ → Name → Type 0) (b : List ℕ) (off : ℕ) (c : Code) → (IsInSection b 0x2001 off → ⊥) → BodyStands N b off c → ⊥
outside_none N b off c out a = out (at_place (SpellsBody N) b 0x2001 4 off c a (at_some N b off c a))

module _ (N : ℕ → Name → Type 0) (b rest : List ℕ) (s : Section) (off : ℕ) (is : IsSectionOf b 0x2001 s) (same : rest ≡ take (s.end - off) (drop off b)) where
  pub code_stands : (c : Code) → s.begin ≤ off → off < s.end → off % 4 ≡ 0 → ((after : List ℕ) × Takes (SpellsBody N) rest c after) → BodyStands N b off c
  code_stands c low high even t =
      stands_at (SpellsBody N) b rest 0x2001 4 s off is same c (length t.1.front) low high even (Begins-from_takes (SpellsBody N) rest c t.0 t.1).0

  pub at_takes : (c : Code) → BodyStands N b off c → (after : List ℕ) × Takes (SpellsBody N) rest c after
  unfolding slice
  at_takes c a =
      let e = (is.only a.begin a.end a.section).1 in
      let w = a.within in
      let i : a.size ≤ s.end - off = omega (arith, e, w) in
      let front : take a.size rest ≡ take a.size (drop off b) = (λ j. take a.size (same j)) ∙ take-take a.size (s.end - off) (drop off b) i in
      (drop a.size rest, record { front = take a.size rest; whole = sym (take-append-drop a.size rest); spelled = subst (λ (l : List ℕ). SpellsBody N l c) (sym front) a.spelled })

  pub code_only : IsFunctional N → (c d : Code) → ((after : List ℕ) × Takes (SpellsBody N) rest c after) → BodyStands N b off d → d ≡ c
  code_only one c d t a =
      let u = at_takes d a in
      (Takes-unique (SpellsBody N) rest d c u.0 t.0 (SpellsBody-unique N one) u.1 t.1).0

  pub broken_none : IsFunctional N → (fault : Fault) → ItemBreaks N off rest fault → (c : Code) → BodyStands N b off c → ⊥
  broken_none one fault u c a =
      let t = at_takes c a in
      item-clear N one off rest t.0 c fault (read-from_takes N rest t.0 c t.1) u

  pub broken : (fault : Fault) → s.begin ≤ off → off < s.end → off % 4 ≡ 0 → ItemBreaks N off rest fault → CodeBreaks N b off fault
  broken fault low high even u =
      let section = is.some (omega (arith, low, high)) in
      inr (
        even,
        inr (
          record { begin = s.begin; end = s.end; section = section; after = low; before = high },
          (s.end, rest, record { begin = s.begin; section = section; after = low; before = high; same = same }, u),
        ),
      )

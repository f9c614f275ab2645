-- What stands at an offset, as the crates above cite it: one code, by each naming that is implied, and no code where a fault is.
use Rattle.std.proofs.Common.{◌≡◌, ℕ, ◌-◌, ◌≤◌, List, take, drop, sym, subst, ◌∙◌, arith, inl, inr}
use Rattle.std.proofs.lemmas.List.{take-take, take-append-drop}
use Rattle.dex_base.specs.Grammar.{Takes, IsPrefixUnique}
use Rattle.dex_base.specs.declared.fault.Fault.{Fault}
use Rattle.dex_base.proofs.FirstFaultLaws.{else_clear, broken_clear}
use Rattle.dex_container.specs.Frame.{IsFramed}
use Rattle.dex_container.specs.Where.{slice, IsSectionRest}
use Rattle.dex_container.proofs.Framed.{IsSection-one}
use Rattle.dex_container.proofs.Standing.{At-one}
use Rattle.program_types.specs.Content.{Name, Code}
use Rattle.code_read.specs.inner.Symbols.{IsFunctional}
use Rattle.program_types.specs.Formed.{RegistersHold}
use Rattle.code_read.specs.Code.{SpellsBody, BodyStands, SpellsCode, CodeStands}
use Rattle.code_read.specs.Faults.{CodeBreaks, RegistersBreak, CodeOverruns}
use Rattle.code_read.proofs.ItemLaws.{SpellsBody-unique, read-from_takes}
use Rattle.code_read.proofs.FaultLaws.{item-clear}
use Rattle.code_read.proofs.StandLaws.{outside_none, code_body}

pub body_one : (N : ℕ → Name → Type 0) → IsFunctional N → (b : List ℕ) → IsFramed b → (off : ℕ) (c d : Code) → BodyStands N b off c → BodyStands N b off d → c ≡ d
body_one N one b framed off c d x y = At-one (SpellsBody N) (SpellsBody-unique N one) b framed 0x2001 4 off c d x y

-- what stands at an offset begins what the section has from there on
front_of : (N : ℕ → Name → Type 0) (b : List ℕ) → IsFramed b → (off end : ℕ) (bytes : List ℕ) → IsSectionRest 0x2001 b off end bytes → (c : Code) → BodyStands N b off c → (after : List ℕ) × Takes (SpellsBody N) bytes c after
unfolding slice
front_of N b framed off end bytes r c a =
    let ends = (IsSection-one b framed 0x2001 a.begin a.end r.begin end a.section r.section).1 in
    let w = a.within in
    let i : a.size ≤ end - off = omega (arith, ends, w) in
    let front : take a.size bytes ≡ take a.size (drop off b) = (λ j. take a.size (r.same j)) ∙ take-take a.size (end - off) (drop off b) i in
    (drop a.size bytes, record { front = take a.size bytes; whole = sym (take-append-drop a.size bytes); spelled = subst (λ (l : List ℕ). SpellsBody N l c) (sym front) a.spelled })

pub broken_none : (N : ℕ → Name → Type 0) → IsFunctional N → (b : List ℕ) → IsFramed b → (off : ℕ) (e : Fault) (c : Code) → CodeBreaks N b off e → BodyStands N b off c → ⊥
broken_none N one b framed off e c (inl misaligned) a = misaligned.0 a.aligned
broken_none N one b framed off e c (inr (_, inl outside)) a = outside_none N b off c outside.0 a
broken_none N one b framed off e c (inr (_, inr (_, (end, bytes, r, item)))) a =
    let t = front_of N b framed off end bytes r c a in
    item-clear N one off bytes t.0 c e (read-from_takes N bytes t.0 c t.1) item

-- ---- registers

pub registers_clear : (off : ℕ) (c : Code) (e : Fault) → RegistersHold c → RegistersBreak off c e → ⊥
registers_clear off c e h = else_clear h.ins (λ p. broken_clear h.each p.1)

-- a code that stands is one, and no register of it is past the others
module _ (N : ℕ → Name → Type 0) (one : IsFunctional N) (b : List ℕ) (framed : IsFramed b) (off : ℕ) where
  pub code_one : (c d : Code) → CodeStands N b off c → CodeStands N b off d → c ≡ d
  code_one c d x y = body_one N one b framed off c d (code_body N b off c x) (code_body N b off d y)

  pub past_none : (e : Fault) (c : Code) → CodeOverruns N b off e → CodeStands N b off c → ⊥
  past_none e c p a =
      let same = body_one N one b framed off c p.code (code_body N b off c a) p.body in
      registers_clear off p.code e (subst RegistersHold same a.spelled.named) p.breaks

pub SpellsCode-unique : (N : ℕ → Name → Type 0) → IsFunctional N → IsPrefixUnique (SpellsCode N)
SpellsCode-unique N f a b x y c d p q e = SpellsBody-unique N f a b x y c d p.body q.body e

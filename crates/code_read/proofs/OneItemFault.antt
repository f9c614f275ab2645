-- A code item has one fault: the first that is asked.
use Rattle.std.proofs.Common.{◌≡◌, ◌⊎◌, ℕ, ◌+◌, ◌-◌, ◌*◌, List, take, drop, sym, ap, ◌∙◌, subst, arith, inl, inr}
use Rattle.dex_base.specs.declared.fault.Fault.{Fault}
use Rattle.dex_base.proofs.FirstFaultLaws.{else_with, else_one, none_one, broken_one, broken_later}
use Rattle.dex_container.specs.Frame.{IsFramed}
use Rattle.dex_container.specs.Where.{IsSectionRest}
use Rattle.dex_container.proofs.Framed.{IsSection-one}
use Rattle.dex_insn.specs.Raw.{Raw}
use Rattle.program_types.specs.Content.{Name, Insn, Code}
use Rattle.code_read.specs.Walk.{starts}
use Rattle.code_read.specs.inner.Symbols.{IsFunctional}
use Rattle.code_read.proofs.InsnFaultLaws.{insns-clear}
use Rattle.code_read.proofs.InsnsOnce.{walks-one}
use Rattle.code_read.proofs.OneInsnFault.{fault_at, insns_one_fault}
use Rattle.code_read.specs.Item.{insns_size, tries_of, insns_bytes, items_of, tries_begin, list_begin, HasFixedParts}
use Rattle.code_read.specs.InsnFaults.{InsnsBreak}
use Rattle.code_read.specs.Linked.{SpellsInsns}
use Rattle.code_read.specs.Faults.{TriesBreak, ItemBreaks, CodeBreaks, RegistersBreak, CodeOverruns}
use Rattle.code_read.proofs.FaultLaws.{units-even}
use Rattle.code_read.proofs.CodeLaws.{body_one}

tries_one : (N : ℕ → Name → Type 0) (ss : List ℕ) (size n : ℕ) (items rest : List ℕ) (base : ℕ) (e f : Fault) → TriesBreak N ss size n items rest base e → TriesBreak N ss size n items rest base f → e ≡ f
tries_one N ss size n items rest base e f = broken_later (else_one none_one)

-- ---- the item

module _ (N : ℕ → Name → Type 0) (one : IsFunctional N) (off : ℕ) (bytes : List ℕ) where
  -- instructions, then tries
  abbrev Inner : Fault → Type 0
  Inner e =
      InsnsBreak N (insns_bytes bytes) (off + 16) e
      ⊎ ((raws : List Raw) × (is : List Insn) × SpellsInsns N (insns_bytes bytes) raws is
      × TriesBreak N (starts raws) (insns_size bytes) (tries_of bytes) (items_of bytes) (drop (list_begin bytes) bytes) (off + tries_begin bytes) e)

  inner_one : HasFixedParts bytes → (e f : Fault) → Inner e → Inner f → e ≡ f
  inner_one whole e f (inl x) (inl y) = let n = units-even bytes whole in insns_one_fault N (insns_bytes bytes) (off + 16) one (omega (arith, n)) e f x y
  inner_one whole e f (inl x) (inr y) = let n = units-even bytes whole in absurd (insns-clear N (insns_bytes bytes) y.0 y.1 (off + 16) e one (omega (arith, n)) y.2 x)
  inner_one whole e f (inr x) (inl y) = let n = units-even bytes whole in absurd (insns-clear N (insns_bytes bytes) x.0 x.1 (off + 16) f one (omega (arith, n)) x.2 y)
  inner_one whole e f (inr x) (inr y) =
      let same = walks-one (insns_bytes bytes) x.0 y.0 x.2.walk y.2.walk in
      let at = off + tries_begin bytes in
      tries_one N (starts y.0) (insns_size bytes) (tries_of bytes) (items_of bytes) (drop (list_begin bytes) bytes) at e f
      (subst (λ (rs : List Raw). TriesBreak N (starts rs) (insns_size bytes) (tries_of bytes) (items_of bytes) (drop (list_begin bytes) bytes) at e) same x.3) y.3

  item_one : (e f : Fault) → ItemBreaks N off bytes e → ItemBreaks N off bytes f → e ≡ f
  item_one e f = else_with (λ whole. else_one (inner_one whole e f))

-- ---- the file

-- two that go to one section's end have the same bytes
same_rest : (b : List ℕ) (off m n : ℕ) (x y : List ℕ) → m ≡ n → IsSectionRest 0x2001 b off m x → IsSectionRest 0x2001 b off n y → x ≡ y
same_rest b off m n x y e p q = p.same ∙ ap (λ (k : ℕ). take (k - off) (drop off b)) e ∙ sym q.same

pub code_one_fault : (N : ℕ → Name → Type 0) → IsFunctional N → (b : List ℕ) → IsFramed b → (off : ℕ) (e f : Fault) → CodeBreaks N b off e → CodeBreaks N b off f → e ≡ f
code_one_fault N one b framed off e f = else_one (else_one (λ x y.
    let ends = (IsSection-one b framed 0x2001 x.2.begin x.0 y.2.begin y.0 x.2.section y.2.section).1 in
    let same = same_rest b off x.0 y.0 x.1 y.1 ends x.2 y.2 in
    item_one N one off y.1 e f (subst (λ (l : List ℕ). ItemBreaks N off l e) same x.3) y.3))

-- ---- registers

registers_one : (off : ℕ) (c : Code) (e f : Fault) → RegistersBreak off c e → RegistersBreak off c f → e ≡ f
registers_one off c e f = else_one (λ x y.
    let at : x.0 ≡ y.0 = broken_one x.1 y.1 in
    x.2 ∙ ap (λ (k : ℕ). fault_at 73 (off + 16 + 2 * k)) at ∙ sym y.2)

pub registers_one_fault : (N : ℕ → Name → Type 0) → IsFunctional N → (b : List ℕ) → IsFramed b → (off : ℕ) (e f : Fault) → CodeOverruns N b off e → CodeOverruns N b off f → e ≡ f
registers_one_fault N one b framed off e f x y =
    let same = body_one N one b framed off x.code y.code x.body y.body in
    registers_one off y.code e f (subst (λ (c : Code). RegistersBreak off c e) same x.breaks) y.breaks

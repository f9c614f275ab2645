-- The instructions of a code break one rule: the first that is asked.
use Rattle.std.proofs.Common.{◌≡◌, ℕ, ◌+◌, ◌*◌, ◌/◌, ◌<◌, List, length, sym, ap, ◌∙◌, subst, arith, inl, inr}
use Rattle.std.proofs.lemmas.Bool.{cases_lt}
use Rattle.dex_base.specs.declared.fault.Fault.{Fault}
use Rattle.dex_base.proofs.FirstFaultLaws.{else_one, none_one, first_later, broken_clear, broken_one, broken_later}
use Rattle.dex_insn.specs.Raw.{Raw}
use Rattle.dex_insn.specs.Flaws.{IsFaultAt}
use Rattle.dex_insn.proofs.StandingLaws.{stands-clear}
use Rattle.dex_insn.proofs.Flaws.{one_fault}
use Rattle.program_types.specs.Content.{Name, Insn}
use Rattle.code_read.specs.Walk.{IsWalkFault, starts}
use Rattle.code_read.specs.inner.Symbols.{IsFunctional}
use Rattle.code_read.specs.InsnFaults.{LinkedBreak, RulesBreak, InsnsBreak}
use Rattle.code_read.proofs.Runs.{run-reaches, no-walk-fault}
use Rattle.code_read.proofs.InsnsOnce.{walks-one, linked-one}
use Rattle.code_read.proofs.InsnFaultLaws.{branch-clear, names-hold}

abbrev pub fault_at : ℕ → ℕ → Fault
fault_at code place = record { code = code; place = place }

-- ---- where no instruction stands

module _ (us : List ℕ) (base : ℕ) where
  -- at the nearer of two ends an instruction stands
  reached : (e f : Fault) (x : IsWalkFault us base e) (y : IsWalkFault us base f) → x.at < y.at → ⊥
  reached e f x y lt =
      let s = run-reaches us 0 x.before y.before x.at y.at x.run y.run lt in
      stands-clear us x.at s.0 x.inner s.1 x.broken

  walk_one : (e f : Fault) → IsWalkFault us base e → IsWalkFault us base f → e ≡ f
  walk_one e f x y = elim (cases_lt x.at y.at) [
    | inl lt ↦ absurd (reached e f x y lt)
    | inr ge ↦ elim (cases_lt y.at x.at) [
      | inl gt ↦ absurd (reached f e y x gt)
      | inr le ↦
          let at : x.at ≡ y.at = omega (arith, ge, le) in
          let inner : x.inner ≡ y.inner = one_fault us y.at x.inner y.inner (subst (λ (n : ℕ). IsFaultAt us n x.inner) at x.broken) y.broken in
          x.is ∙ ap (λ (i : Fault). fault_at i.code (base + 2 * x.at)) inner ∙ ap (λ (n : ℕ). fault_at y.inner.code (base + 2 * n)) at ∙ sym y.is
    ]
  ]

-- ---- where one breaks a rule

linked_one : (ss : List ℕ) (is : List Insn) (base : ℕ) (e f : Fault) → LinkedBreak ss is base e → LinkedBreak ss is base f → e ≡ f
linked_one ss is base e f = first_later (branch-clear ss is base) (λ k x y. else_one (else_one none_one)) (broken_later (broken_later none_one))

rules_one : (N : ℕ → Name → Type 0) (rs : List Raw) (base : ℕ) → IsFunctional N → (e f : Fault) → RulesBreak N rs base e → RulesBreak N rs base f → e ≡ f
rules_one N rs base g e f (inl x) (inl y) = broken_one x y
rules_one N rs base g e f (inl x) (inr y) = absurd (broken_clear (names-hold N rs y.0 y.1) x)
rules_one N rs base g e f (inr x) (inl y) = absurd (broken_clear (names-hold N rs x.0 x.1) y)
rules_one N rs base g e f (inr x) (inr y) =
    linked_one (starts rs) y.0 base e f (subst (λ (is : List Insn). LinkedBreak (starts rs) is base e) (linked-one N rs x.0 y.0 x.1 y.1 g) x.2) y.2

-- ---- one fault

pub insns_one_fault : (N : ℕ → Name → Type 0) (us : List ℕ) (base : ℕ) → IsFunctional N → length us ≡ 2 * (length us / 2) → (e f : Fault) → InsnsBreak N us base e → InsnsBreak N us base f → e ≡ f
insns_one_fault N us base g even e f (inl x) (inl y) = walk_one us base e f x y
insns_one_fault N us base g even e f (inl x) (inr y) = absurd (no-walk-fault us y.0 base e even y.1 x)
insns_one_fault N us base g even e f (inr x) (inl y) = absurd (no-walk-fault us x.0 base f even x.1 y)
insns_one_fault N us base g even e f (inr x) (inr y) =
    let same = walks-one us x.0 y.0 x.1 y.1 in
    rules_one N y.0 base g e f (subst (λ (rs : List Raw). RulesBreak N rs base e) same x.2) y.2

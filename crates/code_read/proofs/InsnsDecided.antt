-- Units spell the instructions of a code, or one of them breaks a rule.
use Rattle.std.proofs.Common.{◌≡◌, ℕ, ℤ, zero, suc, ◌*◌, ◌/◌, ◌<◌, ◌≤◌, ◌⊎◌, inl, inr, List, [], length, get_or, refl, ap, sym, ◌∙◌, subst, arith}
use Rattle.std.proofs.lemmas.Bool.{cases_lt}
use Rattle.dex_base.specs.Deciding.{Decided}
use Rattle.dex_base.specs.FirstFault.{First, FirstBroken}
use Rattle.dex_base.proofs.FirstFaultLaws.{first_decided, broken_decided}
use Rattle.dex_base.specs.Fields.{AreBytes}
use Rattle.dex_base.specs.declared.fault.Fault.{Fault}
use Rattle.dex_insn.specs.Raw as raw
use Rattle.dex_insn.specs.Raw.{Raw}
use Rattle.program_types.specs.Content.{Name, OfText, Insn}
use Rattle.program_types.specs.Content as made
use Rattle.program_types.specs.Formed.{insn_at, insn_payload, RefersToPayload, PayloadHolds}
use Rattle.code_rules.specs.First.{AllHold}
use Rattle.code_rules.specs.Branches.{BranchHolds, SwitchLands, IsOrigin}
use Rattle.code_read.specs.Walk.{Walks, starts, raw_at, address}
use Rattle.code_read.specs.Symbols.{linked, Resolves, InsnHasName}
use Rattle.code_read.specs.Linked.{target_number, NameHolds, AreLinked, KeepRules, SpellsInsns}
use Rattle.code_read.specs.InsnFaults.{insn_fault, NamesBreak, BranchBreaks, LinkedBreak, InsnsBreak}
use Rattle.code_read.specs.inner.InsnReading.{AreHalfLinked}
use Rattle.code_read.proofs.LinkLaws.{kind-linked, all-linked}
use Rattle.code_read.proofs.Deciding.{build}
use Rattle.code_read.proofs.WalkDecided.{walk-decided}
use Rattle.code_read.proofs.RulesDecided.{AreNamesDecided, decide-name, decide-switch, decide-refers, decide-payload, decide-branch-lands, decide-branch-moves, decide-switch-lands}

-- ---- where all indices have rows, the instructions can be linked

-- a raw instruction, linked, with a name that its index stands for
link : (N : ℕ → Name → Type 0) (T : ℤ → ℕ) (r : Raw) → InsnHasName N r → (i : Insn) × Resolves N T r i
unfolding linked
link N T (raw.I21c op a index) n = (made.I21c op a n.0, record { symbol = refl; named = n.1 })
link N T (raw.I22c op a b index) n = (made.I22c op a b n.0, record { symbol = refl; named = n.1 })
link N T (raw.I31c op a index) n = (made.I31c op a n.0, record { symbol = refl; named = n.1 })
link N T (raw.I35c op m regs index) n = (made.I35c op m regs n.0, record { symbol = refl; named = n.1 })
link N T (raw.I3rc op m first index) n = (made.I3rc op m first n.0, record { symbol = refl; named = n.1 })
link N T r n = (linked T (OfText []) r, record { symbol = refl; named = tt })

-- the last number below a bound that keeps a rule, if there is one
last-or-none : (P : ℕ → Type 0) → ((k : ℕ) → Decided (P k)) → (n : ℕ) → ((k : ℕ) × (k < n) × P k × ((i : ℕ) → i < n → P i → i ≤ k)) ⊎ ((i : ℕ) → i < n → P i → ⊥)
last-or-none P d zero = inr (λ i l p. omega (arith, l))
last-or-none P d (suc n) = elim (d n) [
  | inl here ↦ inl (n, omega arith, here, λ i l p. omega (arith, l))
  | inr nay ↦ elim (last-or-none P d n) [
    | inl x ↦ let l = x.1 in inl (x.0, omega (arith, l), x.2, λ i m p. elim (cases_lt i n) [ inl less ↦ x.3 i less p | inr ge ↦ let e : i ≡ n = omega (arith, m, ge) in absurd (nay (subst P e p)) ])
    | inr none ↦ inr (λ i m p. elim (cases_lt i n) [ inl less ↦ none i less p | inr ge ↦ let e : i ≡ n = omega (arith, m, ge) in nay (subst P e p) ])
  ]
]

origin-found : (is : List Insn) (k : ℕ) → (j : ℕ) × IsOrigin is k j
origin-found is k = elim (decide-switch (insn_payload (insn_at is k))) [
  | inr other ↦ (k, inr (λ i s. other s.0, refl))
  | inl switch ↦ elim (last-or-none (λ j. RefersToPayload is j k) (λ j. decide-refers is j k) (length is)) [
    | inl x ↦ (x.0, inl (switch, x.2, λ i r. x.3 i r.there r))
    | inr none ↦ (k, inr (λ i s. none i s.1.there s.1, refl))
  ]
]

module _ (N : ℕ → Name → Type 0) (rs : List Raw) (names : (k : ℕ) → k < length rs → NameHolds N rs k) where
  -- each from itself
  pub half : (is : List Insn) × (length is ≡ length rs) × ((k : ℕ) → k < length rs → Resolves N (target_number (starts rs) (address rs k)) (raw_at rs k) (insn_at is k))
  half = build (made.I10x 0) (λ k i. Resolves N (target_number (starts rs) (address rs k)) (raw_at rs k) i) (length rs) (λ k l. link N _ (raw_at rs k) (names k l))

  half-linked : AreHalfLinked N rs half.0
  half-linked = record { count = half.1; each = λ k l. let s = half.2 k l in record { kind = ap insn_payload (sym s.symbol) ∙ kind-linked _ _ (raw_at rs k); resolves = λ _. s } }

  origins : (js : List ℕ) × (length js ≡ length half.0) × ((k : ℕ) → k < length half.0 → IsOrigin half.0 k (get_or js k 0))
  origins = build 0 (IsOrigin half.0) (length half.0) (λ k l. origin-found half.0 k)

  whole : (is : List Insn) × (length is ≡ length rs) × ((k : ℕ) → k < length rs → Resolves N (target_number (starts rs) (address rs (get_or origins.0 k 0))) (raw_at rs k) (insn_at is k))
  whole = build (made.I10x 0) (λ k i. Resolves N (target_number (starts rs) (address rs (get_or origins.0 k 0))) (raw_at rs k) i) (length rs) (λ k l. link N _ (raw_at rs k) (names k l))

  pub linked-found : (is : List Insn) × AreLinked N rs is
  linked-found = (whole.0, all-linked N rs half.0 whole.0 origins.0 half-linked (record { count = origins.1; each = origins.2 }) whole.1 whole.2)

-- ---- all of them

module _ (N : ℕ → Name → Type 0) (names : AreNamesDecided N) (us : List ℕ) (base : ℕ) where
  abbrev pub InsnsAreDecided : Type 0
  InsnsAreDecided = ((rs : List Raw) × (is : List Insn) × SpellsInsns N us rs is) ⊎ ((e : Fault) × InsnsBreak N us base e)

  -- linked instructions keep all rules, or the first that isn't kept is broken
  keep-decided : (ss : List ℕ) (is : List Insn) → KeepRules is ⊎ ((e : Fault) × LinkedBreak ss is base e)
  keep-decided ss is =
      let first : AllHold (BranchHolds is) (length is) ⊎ ((e : Fault) × First (length is) (BranchHolds is) (BranchBreaks ss is base) e) = first_decided branch in
      let second : AllHold (PayloadHolds is) (length is) ⊎ ((e : Fault) × FirstBroken (length is) (PayloadHolds is) (insn_fault ss base 70) e) = broken_decided (decide-payload is) in
      let third : AllHold (SwitchLands is) (length is) ⊎ ((e : Fault) × FirstBroken (length is) (SwitchLands is) (insn_fault ss base 68) e) = broken_decided (decide-switch-lands is) in
      elim first [
        | inr f ↦ inr (f.0, inl f.1)
        | inl branches ↦ elim second [
          | inr f ↦ inr (f.0, inr (branches, inl f.1))
          | inl payloads ↦ elim third [
            | inr f ↦ inr (f.0, inr (branches, inr (payloads, inl f.1)))
            | inl switches ↦ inl (record { targets = λ k l. record { lands = (branches k l).lands; moves = (branches k l).moves; all = switches k l }; payloads = payloads })
          ]
        ]
      ]
    where
      branch : (k : ℕ) → k < length is → BranchHolds is k ⊎ ((e : Fault) × BranchBreaks ss is base k e)
      branch k l = elim (decide-branch-lands is k) [
        | inr nay ↦ inr (insn_fault ss base 68 k, inl (nay, refl))
        | inl lands ↦ elim (decide-branch-moves is k) [
          | inr nay ↦ inr (insn_fault ss base 69 k, inr (lands, inl (nay, refl)))
          | inl moves ↦ inl (record { lands = lands; moves = moves })
        ]
      ]

  walked-decided : (rs : List Raw) → Walks us rs → InsnsAreDecided
  walked-decided rs w =
      let rows : AllHold (NameHolds N rs) (length rs) ⊎ ((e : Fault) × NamesBreak N rs (starts rs) base e) = broken_decided (λ k. decide-name N names (raw_at rs k)) in
      elim rows [
        | inr f ↦ inr (f.0, inr (rs, w, inl f.1))
        | inl named ↦
            let x = linked-found N rs named in
            elim (keep-decided (starts rs) x.0) [
              | inl keep ↦ inl (rs, x.0, record { walk = w; linked = x.1; keep = keep })
              | inr f ↦ inr (f.0, inr (rs, w, inr (x.0, x.1, f.1)))
            ]
      ]

  pub insns-decided : AreBytes us → length us ≡ 2 * (length us / 2) → length us ≤ 8589934590 → InsnsAreDecided
  insns-decided are even short = elim (walk-decided us base are even) [
    | inr f ↦ inr (f.0, inl f.1)
    | inl x ↦ walked-decided x.0 x.1
  ]

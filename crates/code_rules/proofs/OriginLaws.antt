-- From where the offsets of an instruction count, instruction by instruction.
use Rattle.std.proofs.Common.{◌≡◌, ◌≢◌, ◌⊎◌, ℕ, ◌+◌, ◌<◌, ◌≤◌, List, length, get_or, ◌∙◌, arith, subst, inl, inr, get_or-set_other, get_or-set_same, length-set, set}
use Rattle.std.proofs.lemmas.Bool.{cases_lt}
use Rattle.program_types.specs.Content.{Insn}
use Rattle.program_types.specs.Formed.{insn_at, insn_payload, insn_reach, IsSwitch, RefersToPayload}
use Rattle.code_rules.specs.Branches.{IsOrigin}
use Rattle.code_rules.specs.inner.Branches.{AreOrigins}
use Rattle.code_rules.proofs.UseLaws.{refers-one}

-- what is known of the switch of payload k among the first m instructions
abbrev pub IsSwitchSoFar : List Insn → ℕ → ℕ → ℕ → Type 0
IsSwitchSoFar is m k j =
    ((j < m) × IsSwitch (insn_payload (insn_at is k)) × RefersToPayload is j k × ((i : ℕ) → i < m → RefersToPayload is i k → i ≤ j))
    ⊎ ((j ≡ k) × (IsSwitch (insn_payload (insn_at is k)) → (i : ℕ) → i < m → RefersToPayload is i k → ⊥))

-- Of each instruction the last switch among the first m, or itself if there is none.
pub record AreSwitchesSoFar (is : List Insn) (m : ℕ) (js : List ℕ) : Type 0 where
  pub count : length js ≡ length is
  pub each : (k : ℕ) → k < length is → IsSwitchSoFar is m k (get_or js k 0)

-- instruction j is no switch of it, or it is
switch-same : (is : List Insn) (m k j : ℕ) → IsSwitchSoFar is m k j → (IsSwitch (insn_payload (insn_at is k)) → RefersToPayload is m k → ⊥) → IsSwitchSoFar is (m + 1) k j
switch-same is m k j (inl h) no_switch =
    let l = h.0 in
    inl (omega (arith, l), h.1, h.2, λ i n r. elim (cases_lt i m) [ inl a ↦ h.3 i a r | inr a ↦ let e : i ≡ m = omega (arith, n, a) in absurd (no_switch h.1 (subst (λ (x : ℕ). RefersToPayload is x k) e r)) ])
switch-same is m k j (inr h) no_switch = inr (h.0, λ s i n r. elim (cases_lt i m) [ inl a ↦ h.1 s i a r | inr a ↦ let e : i ≡ m = omega (arith, n, a) in no_switch s (subst (λ (x : ℕ). RefersToPayload is x k) e r) ])

pub switches-same : (is : List Insn) (m n : ℕ) (js : List ℕ) → n ≡ insn_reach (insn_at is m) → AreSwitchesSoFar is m js → (IsSwitch (insn_payload (insn_at is n)) × RefersToPayload is m n → ⊥) → AreSwitchesSoFar is (m + 1) js
switches-same is m n js e a h = record {
  count = a.count;
  each = λ k l. switch-same is m k (get_or js k 0) (a.each k l)
      (λ s r.
      let f = r.leads in
      let g : k ≡ n = cc in
      h (subst (λ (x : ℕ). IsSwitch (insn_payload (insn_at is x))) g s, subst (λ (x : ℕ). RefersToPayload is m x) g r));
}

pub switches-more : (is : List Insn) (m k : ℕ) (js : List ℕ) → AreSwitchesSoFar is m js → IsSwitch (insn_payload (insn_at is k)) × RefersToPayload is m k → AreSwitchesSoFar is (m + 1) (set js k m)
switches-more is m k js a both =
    let s = both.0 in let r = both.1 in
    let n = a.count in
    let p = r.payload in
    let here : k < length js = omega (arith, n, p) in
    record {
      count = length-set js k m ∙ n;
      each = λ i l.
          elim (cases_lt i k) [
            | inl b ↦ let ne : i ≢ k = omega (arith, b) in rw get_or-set_other (switch-same is m i (get_or js i 0) (a.each i l) (λ _ v. ne (refers-one is m i k v r)))
            | inr b ↦ elim (cases_lt k i) [
              | inl d ↦ let ne : i ≢ k = omega (arith, d) in rw get_or-set_other (switch-same is m i (get_or js i 0) (a.each i l) (λ _ v. ne (refers-one is m i k v r)))
              | inr d ↦ let e : k ≡ i = omega (arith, b, d) in
                  subst (λ (x : ℕ). IsSwitchSoFar is (m + 1) x (get_or (set js k m) x 0)) e (rw get_or-set_same (inl (omega arith, s, r, λ i' q _. omega (arith, q))))
            ]
          ];
    }

-- ---- the begin and the end

pub switches-none : (is : List Insn) (js : List ℕ) → length js ≡ length is → ((k : ℕ) → k < length is → get_or js k 0 ≡ k) → AreSwitchesSoFar is 0 js
switches-none is js n h = record { count = n; each = λ k l. inr (h k l, λ s i m. absurd (omega (arith, m))) }

origin-all : (is : List Insn) (k j : ℕ) → IsSwitchSoFar is (length is) k j → IsOrigin is k j
origin-all is k j (inl h) = inl (h.1, h.2, λ i r. h.3 i r.there r)
origin-all is k j (inr h) = inr (λ i s. h.1 s.0 i s.1.there s.1, h.0)

pub origins-all : (is : List Insn) (js : List ℕ) → AreSwitchesSoFar is (length is) js → AreOrigins is js
origins-all is js a = record { count = a.count; each = λ k l. origin-all is k (get_or js k 0) (a.each k l) }

-- How many instructions refer to a payload, instruction by instruction.
use Rattle.std.proofs.Common.{◌≡◌, ◌≢◌, ℕ, ◌+◌, ◌<◌, List, length, get_or, ◌∙◌, arith, subst, inl, inr, get_or-set_other, get_or-set_same, length-set, set}
use Rattle.std.proofs.lemmas.Bool.{cases_lt}
use Rattle.program_types.specs.Content.{Insn}
use Rattle.program_types.specs.Formed.{insn_at, insn_reach, IsSwitch, PayloadHolds, RefersToPayload, WantsPayload}
use Rattle.code_rules.specs.inner.Parts.{HasNoPayload}
use Rattle.code_rules.specs.inner.Uses.{CountsUses, AreUses, used_again}
use Rattle.code_rules.specs.declared.payloads.Use.{Use}
use Rattle.code_rules.specs.declared.payloads.Use.TheVariants as users

pub refers-one : (is : List Insn) (j k n : ℕ) → RefersToPayload is j k → RefersToPayload is j n → k ≡ n
refers-one is j k n u v = let a = u.leads in let b = v.leads in cc

-- instruction j refers to it, or not
use-more : (is : List Insn) (j k : ℕ) (u : Use) → CountsUses is j k u → RefersToPayload is j k → CountsUses is (j + 1) k (used_again u)
use-more is j k users.Unused h v = (j, omega arith, v, λ i l w. elim (cases_lt i j) [ inl a ↦ absurd (h i a w) | inr a ↦ omega arith ])
use-more is j k users.Once h v = (h.0, j, h.1, omega arith, h.2, v)
use-more is j k users.Shared h v = let q = h.3 in (h.0, h.1, h.2, omega arith, h.4, h.5)

use-same : (is : List Insn) (j k : ℕ) (u : Use) → CountsUses is j k u → (RefersToPayload is j k → ⊥) → CountsUses is (j + 1) k u
use-same is j k users.Unused h v = λ i l w. elim (cases_lt i j) [ inl a ↦ h i a w | inr a ↦ let e : i ≡ j = omega arith in v (subst (λ (x : ℕ). RefersToPayload is x k) e w) ]
use-same is j k users.Once h v =
    let p = h.1 in
    (h.0, omega arith, h.2, λ n l w. elim (cases_lt n j) [ inl a ↦ h.3 n a w | inr a ↦ let e : n ≡ j = omega arith in absurd (v (subst (λ (x : ℕ). RefersToPayload is x k) e w)) ])
use-same is j k users.Shared h v = let q = h.3 in (h.0, h.1, h.2, omega arith, h.4, h.5)

-- no payload more, where instruction j refers to none at the place where it leads
pub uses-same : (is : List Insn) (j n : ℕ) (us : List Use) → n ≡ insn_reach (insn_at is j) → AreUses is j us → (RefersToPayload is j n → ⊥) → AreUses is (j + 1) us
uses-same is j n us e a h =
    record {
      count = a.count;
      each = λ k l. use-same is j k (get_or us k users.Unused) (a.each k l) (λ u. let f = u.leads in let g : k ≡ n = cc in h (subst (λ (x : ℕ). RefersToPayload is j x) g u));
    }

pub uses-more : (is : List Insn) (j k : ℕ) (us : List Use) → AreUses is j us → RefersToPayload is j k → AreUses is (j + 1) (set us k (used_again (get_or us k users.Unused)))
uses-more is j k us a u =
    let n = a.count in
    let p = u.payload in
    let here : k < length us = omega arith in
    record {
      count = length-set us k (used_again (get_or us k users.Unused)) ∙ n;
      each = λ i l.
          let m : i < length us = omega (arith, length-set us k (used_again (get_or us k users.Unused))) in
          elim (cases_lt i k) [
            | inl b ↦ let ne : i ≢ k = omega arith in rw get_or-set_other (use-same is j i (get_or us i users.Unused) (a.each i m) (λ v. ne (refers-one is j i k v u)))
            | inr b ↦ elim (cases_lt k i) [
              | inl d ↦ let ne : i ≢ k = omega arith in rw get_or-set_other (use-same is j i (get_or us i users.Unused) (a.each i m) (λ v. ne (refers-one is j i k v u)))
              | inr d ↦ let e : k ≡ i = omega arith in
                  subst (λ (x : ℕ). CountsUses is (j + 1) x (get_or (set us k (used_again (get_or us k users.Unused))) x users.Unused)) e
                  (rw get_or-set_same (use-more is j k (get_or us k users.Unused) (a.each k here) u))
            ]
          ];
    }

-- an instruction that is no payload and refers to none breaks no rule of payloads
pub plain_holds : (is : List Insn) (k : ℕ) → HasNoPayload (insn_at is k) → PayloadHolds is k
plain_holds is k plain =
    record {
      refers = λ wants. absurd (subst WantsPayload plain.wants wants);
      used = λ switch. absurd (subst IsSwitch plain.is switch);
    }

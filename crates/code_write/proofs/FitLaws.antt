-- The parts of a code that fits.
use Rattle.std.proofs.Common.{◌≡◌, ℕ, ◌+◌, ◌*◌, ◌<◌, ◌≤◌, ◌++◌, List, [], ◌∷◌, map, take, length, get_or, ap, sym, ◌∙◌, arith, zero, suc, subst, Bool, true, None, inl, inr}
use Rattle.std.specs.Prelude.{FitsSigned, IsTrue, ◌↔◌}
use Rattle.std.specs.Int.{w32}
use Rattle.std.specs.List.{AllByRecursion, flat_map}
use Rattle.std.proofs.lemmas.Bool.{cases_lt}
use Rattle.std.proofs.lemmas.List.{length-map}
use Rattle.std.proofs.lemmas.List.Folds.{length-flat_map-take}
use Rattle.program_types.specs.Content.{Name, Insn, Try}
use Rattle.program_types.specs.Content as made
use Rattle.program_types.specs.View.{try, catch, insn}
use Rattle.program_types.specs.declared.code.Try.{Try as Held}
use Rattle.program_types.specs.declared.insn.Insn.{Insn as HeldInsn}
use Rattle.program_types.specs.Mentions.{names_of_insn, names_of_try}
use Rattle.program_types.specs.Formed.{insn_at, try_at, insn_targets, PayloadHolds, TryFormed}
use Rattle.program_types.specs.Operands.{IsOperand}
use Rattle.program_types.specs.Sizes.{insn_units, starts_from, addresses_of}
use Rattle.code_write.specs.Fits.{distance_of, BranchFits, TargetsFit, OffsetsFit, catches_in}
use Rattle.code_rules.specs.Branches.{IsOrigin}
use Rattle.code_write.proofs.DistinctLaws as distinct
use Rattle.code_write.proofs.ItemPieces.{seen-at}
use Rattle.code_write.proofs.SizeLaws.{units-small}
use Rattle.code_write.proofs.FormLaws.{length-addresses, names-at}
use Rattle.code_write.proofs.PutLaws.{targets-or}
use Rattle.dex_base.proofs.ListFacts.{all_front}

-- ---- offsets

pub targets-inside : (n : ℕ) (i : Insn) → IsOperand n i → AllByRecursion (λ t. t < n) (insn_targets i)
unfolding insn_targets
targets-inside n (made.Packed first to) h = h.2
targets-inside n (made.Sparse keys to) h = h.4
targets-inside n _ h = tt

plain-fit : (ss : List ℕ) (at : ℕ) (i : Insn) → insn_targets i ≡ [] → TargetsFit ss at i
plain-fit ss at i h = subst (λ (ts : List ℕ). AllByRecursion (λ to. FitsSigned w32 (distance_of ss at to)) ts) (sym h) tt

pub offsets-from : (is : List Insn) (ss : List ℕ) (k o : ℕ) → IsOrigin is k o → PayloadHolds is k → BranchFits ss (get_or ss k 0) (insn_at is k) → TargetsFit ss (get_or ss o 0) (insn_at is k) → OffsetsFit is ss k
offsets-from is ss k o (inl s) p b t = record {
  branch = b;
  targets = λ j r.
      let u = p.used s.0 in
      let e : o ≡ j = u.2 o s.1 ∙ sym (u.2 j r) in
      subst (λ (m : ℕ). TargetsFit ss (get_or ss m 0) (insn_at is k)) e t;
}
offsets-from is ss k o (inr s) p b t = record {
  branch = b;
  targets = λ j r. elim (targets-or (insn_at is k)) [
    | inl w ↦ let u = p.used w in absurd (s.0 u.0 (w, u.1, λ i q. let e = u.2 i q in omega (arith, e)))
    | inr none ↦ plain-fit ss (get_or ss j 0) (insn_at is k) none
  ];
}

-- ---- catches

pub caught : (xs : List Held) (i : ℕ) (x : Held) → i < length xs → length (get_or xs i x).catches.now ≡ length (try_at (map try xs) i).catches
caught xs i x l = sym (length-map (get_or xs i x).catches.now catch) ∙ ap (λ (t : Try). length t.catches) (seen-at xs i x l)

pub catches-more : (ts : List Try) (i : ℕ) → i < length ts → catches_in (take (i + 1) ts) ≡ catches_in (take i ts) + length (try_at ts i).catches
catches-more ts i l = distinct.catches-more ts i

pub catches-least : (ts : List Try) (i : ℕ) → i < length ts → length (try_at ts i).catches ≤ catches_in ts
catches-least ts i l =
    let f = length-flat_map-take (λ (t : Try). t.catches) ts i (record { from = 0; to = 0; catches = []; catch_all = None }) l in
    omega arith

-- ---- names

pub insns-ranked : (P : Name → Type 0) (xs : List HeldInsn) (ts : List Try) → AllByRecursion P (flat_map names_of_insn (map insn xs) ++ flat_map names_of_try ts) → (k : ℕ) → k < length xs → AllByRecursion P (names_of_insn (insn_at (map insn xs) k))
insns-ranked P xs ts h k l =
    let n = length-map xs insn in
    names-at P (map insn xs) k (all_front P (flat_map names_of_insn (map insn xs)) (flat_map names_of_try ts) h) (omega arith)

-- ---- addresses are small

starts-small : (a count : ℕ) (is : List Insn) → ((k : ℕ) → k < length is → IsOperand count (insn_at is k)) → (k : ℕ) → k < length is → get_or (starts_from a (map insn_units is)) k 0 ≤ a + 4294967296 * k
starts-small a count [] h k l = absurd (omega arith)
starts-small a count (i ∷ is) h zero l = omega arith
starts-small a count (i ∷ is) h (suc k) l =
    let u = units-small count i (h zero (omega arith)) in
    let r = starts-small (a + insn_units i) count is (λ j m. h (suc j) (omega arith)) k (omega arith) in
    omega arith

pub addresses-small : (is : List Insn) → length is ≤ 2147483647 → ((k : ℕ) → k < length is → IsOperand (length is) (insn_at is k)) → (k : ℕ) → k < length (addresses_of is) → get_or (addresses_of is) k 0 ≤ 9223372036854775808
addresses-small is f h k l = let n = length-addresses is in let r = starts-small 0 (length is) is h k (omega arith) in omega arith

-- ---- one by one, in memory and in content

module _ {A B : Type 0} (view : A → B) (xs : List A) (P : ℕ → Type 0) (r : Bool) (resolves : IsTrue r ↔ ((k : ℕ) → k < length xs → P k)) where
  pub held : r ≡ true → (k : ℕ) → k < length (map view xs) → P k
  held is k l = let n = length-map xs view in resolves.0 is k (omega arith)

  pub told : ((k : ℕ) → k < length (map view xs) → P k) → r ≡ true
  told h = let n = length-map xs view in resolves.1 (λ k l. h k (omega arith))

pub count-of : (xs : List HeldInsn) (ss : List ℕ) → ss ≡ addresses_of (map insn xs) → length ss ≡ length xs
count-of xs ss e = ap length e ∙ length-addresses (map insn xs) ∙ length-map xs insn

pub tries-there : (xs : List HeldInsn) (ts : List Held) (ss : List ℕ) → ss ≡ addresses_of (map insn xs) → ((i : ℕ) → i < length (map try ts) → TryFormed (length (map insn xs)) (map try ts) i) → (i : ℕ) → i < length ts → TryFormed (length ss) (map try ts) i
tries-there xs ts ss e h i l =
    let n = length-map ts try in
    let m : length (map insn xs) ≡ length ss = sym (ap length e ∙ length-addresses (map insn xs)) in
    subst (λ (k : ℕ). TryFormed k (map try ts) i) m (h i (omega arith))

-- ---- offsets of handlers

-- where not all are below 65536, one isn't
pub far-at : (xs : List ℕ) → (¬ ((i : ℕ) → i < length xs → get_or xs i 0 < 65536)) → (i : ℕ) × (i < length xs) × (65535 < get_or xs i 0)
far-at [] h = absurd (h (λ i l. absurd (omega (arith, l))))
far-at (x ∷ xs) h = elim (cases_lt x 65536) [
  | inl near ↦ let r = far-at xs (λ f. h (both near f)) in let l = r.1 in (suc r.0, omega (arith, l), r.2)
  | inr far ↦ (zero, omega arith, omega (arith, far))
]
  where
    both : x < 65536 → ((i : ℕ) → i < length xs → get_or xs i 0 < 65536) → (i : ℕ) → i < suc (length xs) → get_or (x ∷ xs) i 0 < 65536
    both near f zero l = near
    both near f (suc i) l = f i (omega (arith, l))

-- Classes and types by their numbers.
use Rattle.std.proofs.Common.{◌≡◌, ℕ, ◌+◌, ◌<◌, ◌≤◌, List, ◌∷◌, map, length, get_or, drop, ap, sym, subst, ◌∙◌, arith, add-one, Some, below_more}
use Rattle.std.proofs.Math.Seq.{drop-cons}
use Rattle.std.specs.List.{AllByRecursion, slice_get}
use Rattle.std.specs.Prelude.{option_map, ◌↔◌}
use Rattle.std.proofs.lemmas.List.{length-map}
use Rattle.std.proofs.lemmas.Option.{slice_get-map, slice_get-get_or, slice_get_within}
use Rattle.dex_base.specs.declared.fault.Fault.{Fault}
use Rattle.program_types.specs.Content as content
use Rattle.program_types.specs.View.{class, desc}
use Rattle.program_types.specs.declared.class.Class.{Class}
use Rattle.program_rules.specs.Ranges.{ClassInRange}
use Rattle.program_rules.specs.Rules.{ClassHolds, ClassBreaks, RuleBreaks}
use Rattle.program_rules.specs.WellFormed.{WellFormed}
use Rattle.dex_base.proofs.ListFacts.{all_there, some_inj}

-- class j
pub class-at : (xs : List Class) (j : ℕ) (d : Class) → j < length xs → slice_get (map class xs) j ≡ Some (class (get_or xs j d))
class-at xs j d l = slice_get-map class xs j ∙ ap (option_map class) (slice_get-get_or xs j d l)

-- is of its type
pub type-at : (xs : List Class) (j : ℕ) (d : Class) → j < length xs → slice_get (map (λ c. c.ty) (map class xs)) j ≡ Some (desc (get_or xs j d).ty)
type-at xs j d l = slice_get-map (λ (c : content.Class). c.ty) (map class xs) j ∙ ap (option_map (λ (c : content.Class). c.ty)) (class-at xs j d l)

-- one element more of a walk
pub all-step : {A B : Type 0} (P : B → Type 0) (f : A → B) (W : Type 0) (xs : List A) (i : ℕ) (d : A) → i < length xs → W ↔ AllByRecursion P (map f (drop i xs)) → P (f (get_or xs i d)) → W ↔ AllByRecursion P (map f (drop (i + 1) xs))
all-step {A} P f W xs i d l h p =
    let e : drop i xs ≡ get_or xs i d ∷ drop (i + 1) xs = rw (add-one) (drop-cons xs i d l) in
    let k : W ↔ AllByRecursion P (map f (get_or xs i d ∷ drop (i + 1) xs)) = subst (λ (ys : List A). W ↔ AllByRecursion P (map f ys)) e h in
    (λ w. (k.0 w).1, λ a. k.1 (p, a))

-- ---- the first class that breaks a rule

-- classes before number i keep the rules, and are in range
abbrev Kept : List content.Class → ℕ → Type 0
Kept p n = (i : ℕ) (c : content.Class) → i < n → slice_get p i ≡ Some c → ClassHolds p i c × ClassInRange c

pub first-broken : (xs : List Class) (i : ℕ) (d : Class) (e : Fault) → i < length xs → Kept (map class xs) i → ClassBreaks (map class xs) i (class (get_or xs i d)) e → RuleBreaks (map class xs) e
first-broken xs i d e l h b = record {
  number = i;
  within = let m = length-map xs class in omega (arith, l, m);
  breaks = record { entry = class (get_or xs i d); there = class-at xs i d l; breaks = b };
  before = λ j m c g. (h j c m g).0;
}

pub one-more : (xs : List Class) (i : ℕ) (d : Class) → i < length xs → Kept (map class xs) i → ClassHolds (map class xs) i (class (get_or xs i d)) → ClassInRange (class (get_or xs i d)) → Kept (map class xs) (i + 1)
one-more xs i d l h k r = λ j c m g.
    below_more (λ (n : ℕ). (c : content.Class) → slice_get (map class xs) n ≡ Some c → ClassHolds (map class xs) n c × ClassInRange c) i
    (λ n b e f. h n e b f)
    (λ e f. subst (λ (x : content.Class). ClassHolds (map class xs) i x × ClassInRange x) (some_inj _ _ (sym (class-at xs i d l) ∙ f)) (k, r)) j m c g

pub all-kept : (xs : List Class) (n : ℕ) → length xs ≤ n → Kept (map class xs) n → WellFormed (map class xs)
all-kept xs n l h =
    let each = λ (i : ℕ) (c : content.Class) (g : slice_get (map class xs) i ≡ Some c).
    let w = slice_get_within (map class xs) i c g in let m = length-map xs class in h i c (omega arith) g
    in record { ranges = all_there ClassInRange (map class xs) (λ i c g. (each i c g).1); rules = λ i c g. (each i c g).0 }

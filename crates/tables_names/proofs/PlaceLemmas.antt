-- The place of a key in a rising list is its rank.
use Rattle.std.proofs.Common.{◌≡◌, ℕ, suc, zero, ◌^◌, ◌<◌, List, [], ◌∷◌, Option, Some, None, true, sym, ap, ◌∙◌, subst, arith, slice_get, inl, inr}
use Rattle.std.proofs.lemmas.Option.{slice_get_within, get_or_from_slice_get}
use Rattle.std.specs.Prelude.{IfSome, IfNone}
use Rattle.std.specs.Ordering.{eq_by_cmp}
use Rattle.program_types.specs.Key.{Key, key_cmp}
use Rattle.program_types.specs.inner.KeyLaws.{key_cmp-total, key_cmp-same}
use Rattle.program_types.specs.Content.{Name, OfText, OfDesc, OfField, OfMethod}
use Rattle.tables_names.specs.Closure.{Five, AreRising, NameRanks}
use Rattle.tables_names.specs.Rank.{Rising, IsAt, is_member, rank_of, LookUpAnswers}
use Rattle.tables_names.proofs.RisingLemmas.{rank-at}
use Rattle.tables_names.proofs.SubsetLemmas.{member_here, or_cases}
use Rattle.std.specs.Cmp.{Equal-is}
use Rattle.std.proofs.lemmas.Bool.{or_right}

-- a key at a place is a member
pub member_at : (ks : List Key) (i : ℕ) (k : Key) → slice_get ks i ≡ Some k → is_member ks k ≡ true
member_at [] i k e = absurd cc
member_at (x ∷ xs) zero k e = let same : x ≡ k = cc in subst (λ y. is_member (y ∷ xs) k ≡ true) (sym same) (member_here k xs)
member_at (x ∷ xs) (suc i) k e = or_right (eq_by_cmp key_cmp k x) _ (member_at xs i k e)

-- a member is at some place
pub member_index : (ks : List Key) (k : Key) → is_member ks k ≡ true → (i : ℕ) × (slice_get ks i ≡ Some k)
member_index [] k e = absurd cc
member_index (x ∷ xs) k e = elim (or_cases (eq_by_cmp key_cmp k x) _ e) [
  | inl here ↦ (zero, ap Some (sym (key_cmp-same k x ((Equal-is (key_cmp k x)).0 here))))
  | inr there ↦ let p = member_index xs k there in (suc p.0, p.1)
]

-- the place is the rank
pub rank_at : (ks : List Key) (i : ℕ) (k : Key) → Rising ks → slice_get ks i ≡ Some k → rank_of ks k ≡ i
rank_at ks i k up e = rank-at key_cmp-total key_cmp-same ks i k up (slice_get_within ks i k e) (get_or_from_slice_get ks i k k e)

-- a key has one place, and a name one rank
pub one_place : (ks : List Key) (i j : ℕ) (k : Key) → Rising ks → IsAt ks i k → IsAt ks j k → i ≡ j
one_place ks i j k up at_i at_j = sym (rank_at ks i k up at_i) ∙ rank_at ks j k up at_j

pub rank_one : (s : Five) (i j : ℕ) (which : Name) → AreRising s → NameRanks s i which → NameRanks s j which → i ≡ j
rank_one s i j (OfText t) r p q = one_place s.strings i j _ r.strings p q
rank_one s i j (OfDesc t) r p q = one_place s.types i j _ r.types p q
rank_one s i j (OfField f) r p q = one_place s.fields i j _ r.fields p q
rank_one s i j (OfMethod m) r p q = one_place s.methods i j _ r.methods p q

-- a place has one key
pub one_key : (ks : List Key) (i : ℕ) (k l : Key) → IsAt ks i k → IsAt ks i l → k ≡ l
one_key ks i k l p q = cc

-- what a look-up by name answers is the place of the name
pub index_some : (ks : List Key) (k : Key) (i : ℕ) → Rising ks → LookUpAnswers ks k (Some i) → slice_get ks i ≡ Some k
index_some ks k i up has =
    let p = member_index ks k has.0.0 in
    let same : p.0 ≡ i = sym (rank_at ks p.0 k up p.1) ∙ sym has.1 in
    subst (λ (n : ℕ). slice_get ks n ≡ Some k) same p.1

-- and where it answers nothing, the name has no place of 32 bits
pub index_none : (ks : List Key) (k : Key) (i : ℕ) → Rising ks → LookUpAnswers ks k None → i < 2 ^ 32 → slice_get ks i ≡ Some k → ⊥
index_none ks k i up has fits e =
    let same = rank_at ks i k up e in
    has (member_at ks i k e, omega (arith, same, fits))

-- the same of whatever a look-up answers
pub some_of : (ks : List Key) (k : Key) (r : Option ℕ) → Rising ks → LookUpAnswers ks k r → IfSome r (λ i. slice_get ks i ≡ Some k)
some_of ks k (Some i) up has = index_some ks k i up has
some_of ks k None up has = tt

pub none_of : (ks : List Key) (k : Key) (r : Option ℕ) → Rising ks → LookUpAnswers ks k r → IfNone r ((i : ℕ) → i < 2 ^ 32 → slice_get ks i ≡ Some k → ⊥)
none_of ks k (Some i) up has = tt
none_of ks k None up has = λ i fits e. index_none ks k i up has fits e

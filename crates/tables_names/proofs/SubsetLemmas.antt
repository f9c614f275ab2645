-- Sets of keys, part by part: one lemma for each fact, for lists of any kind of keys.
use Rattle.std.proofs.Common.{◌≡◌, Bool, true, false, ◌||◌, List, [], ◌∷◌, ◌++◌, refl, sym, ap, ◌∙◌, true≢false, ◌⊎◌, inl, inr}
use Rattle.std.specs.Ordering.{is_eq, eq_by_cmp}
use Rattle.std.specs.Cmp.{Equal-is, tied_itself}
use Rattle.std.proofs.lemmas.List.Folds.{list_any-append}
use Rattle.program_types.specs.Key.{Key, key_cmp}
use Rattle.program_types.specs.inner.KeyLaws.{key_cmp-total, key_cmp-same}
use Rattle.tables_names.specs.Rank.{Rising, insert_key, is_member, add_all, IsSubset}
use Rattle.tables_names.proofs.RisingLemmas.{insert_key-member, is_member-insert_key, is_member-fold}
use Rattle.std.proofs.lemmas.Bool.{or_left, or_right}

pub or_cases : (a b : Bool) → (a || b) ≡ true → (a ≡ true) ⊎ (b ≡ true)
or_cases true b h = inl refl
or_cases false b h = inr h

pub member_here : (k : Key) (ks : List Key) → is_member (k ∷ ks) k ≡ true
member_here k ks = or_left (eq_by_cmp key_cmp k k) _ (ap is_eq (tied_itself key_cmp-total k))

pub IsSubset-refl : (ks : List Key) → IsSubset ks ks
IsSubset-refl ks =
    record { each = λ k h. h }

pub IsSubset-trans : (ks js ls : List Key) → IsSubset ks js → IsSubset js ls → IsSubset ks ls
IsSubset-trans ks js ls f g = record { each = λ k h. g.each k (f.each k h) }

pub IsSubset-nil : (ks : List Key) → IsSubset [] ks
IsSubset-nil ks =
    record { each = λ k h. absurd (true≢false (sym h)) }

pub IsSubset-cons : (x : Key) (ks js : List Key) → is_member js x ≡ true → IsSubset ks js → IsSubset (x ∷ ks) js
IsSubset-cons x ks js here rest =
    record { each = λ k h. elim (or_cases (eq_by_cmp key_cmp k x) _ h) [ inl e ↦ rw (key_cmp-same k x ((Equal-is (key_cmp k x)).0 e)) here | inr m ↦ rest.each k m ] }

pub IsSubset-tail : (x : Key) (ks js : List Key) → IsSubset ks js → IsSubset ks (x ∷ js)
IsSubset-tail x ks js f =
    record { each = λ k h. or_right (eq_by_cmp key_cmp k x) _ (f.each k h) }

pub IsSubset-append : (ks js : List Key) → IsSubset ks (ks ++ js)
IsSubset-append ks js =
    record { each = λ k h. list_any-append (eq_by_cmp key_cmp k) ks js ∙ or_left _ _ h }

pub IsSubset-insert : (ks : List Key) (x : Key) → IsSubset ks (insert_key ks x)
IsSubset-insert ks x =
    record { each = λ k h. is_member-insert_key key_cmp-total key_cmp-same ks x k ∙ or_right (eq_by_cmp key_cmp k x) _ h }

pub member_inserted : (ks : List Key) (x : Key) → is_member (insert_key ks x) x ≡ true
member_inserted ks x = is_member-insert_key key_cmp-total key_cmp-same ks x x ∙ member_here x ks

-- what an insert adds
pub inserted_cases : (ks : List Key) (x k : Key) → is_member (insert_key ks x) k ≡ true → (k ≡ x) ⊎ (is_member ks k ≡ true)
inserted_cases ks x k h =
    elim (or_cases (eq_by_cmp key_cmp k x) _ (sym (is_member-insert_key key_cmp-total key_cmp-same ks x k) ∙ h)) [
      | inl e ↦ inl (key_cmp-same k x ((Equal-is (key_cmp k x)).0 e))
      | inr m ↦ inr m
    ]

pub IsSubset-add_left : (ks more : List Key) → IsSubset ks (add_all ks more)
IsSubset-add_left ks more =
    record { each = λ k h. is_member-fold key_cmp-total key_cmp-same ks more k ∙ or_left _ _ h }

pub IsSubset-add_right : (ks more : List Key) → IsSubset more (add_all ks more)
IsSubset-add_right ks more =
    record { each = λ k h. is_member-fold key_cmp-total key_cmp-same ks more k ∙ or_right (is_member ks k) _ h }

pub IsSubset-add_all : (ks more js : List Key) → IsSubset ks js → IsSubset more js → IsSubset (add_all ks more) js
IsSubset-add_all ks more js f g =
    record { each = λ k h. elim (or_cases (is_member ks k) _ (sym (is_member-fold key_cmp-total key_cmp-same ks more k) ∙ h)) [ inl a ↦ f.each k a | inr b ↦ g.each k b ] }

-- what a union has
pub added_cases : (ks more : List Key) (k : Key) → is_member (add_all ks more) k ≡ true → (is_member ks k ≡ true) ⊎ (is_member more k ≡ true)
added_cases ks more k h = or_cases (is_member ks k) _ (sym (is_member-fold key_cmp-total key_cmp-same ks more k) ∙ h)

pub member_middle : (ks : List Key) (x : Key) (js : List Key) → is_member (ks ++ x ∷ js) x ≡ true
member_middle ks x js = list_any-append (eq_by_cmp key_cmp x) ks (x ∷ js) ∙ or_right (is_member ks x) _ (member_here x js)

pub IsSubset-one : (x : Key) (js : List Key) → is_member js x ≡ true → IsSubset (x ∷ []) js
IsSubset-one x js here = IsSubset-cons x [] js here (IsSubset-nil js)

-- what is there adds nothing
pub add_all-subset : (ks more : List Key) → Rising ks → IsSubset more ks → ks ≡ add_all ks more
add_all-subset ks [] up f = refl
add_all-subset ks (m ∷ more) up f =
    let e : insert_key ks m ≡ ks = insert_key-member key_cmp-total key_cmp-same ks m up (f.each m (member_here m more)) in
    rw e (add_all-subset ks more up (IsSubset-trans more (m ∷ more) ks (IsSubset-tail m more more (IsSubset-refl more)) f))

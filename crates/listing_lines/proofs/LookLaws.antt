-- The labels of a map.
use Rattle.std.proofs.Common.{◌≡◌, ℕ, Bool, true, false, cond, inl, inr, List, [], ◌∷◌, ◌++◌, map, if◌then◌else◌, Option, Some, None, is_some, refl, sym, ap, ◌∙◌}
use Rattle.std.specs.Borrow.{Bor}
use Rattle.std.specs.Map.{lookup as found_in}
use Rattle.indexmap.specs.IndexMap.{insert_entry}
use Rattle.listing_slots.specs.Keys.{same}
use Rattle.listing_slots.proofs.KeyLaws.{same_true}
use Rattle.listing_lines.specs.Labels.{Label, lookup, with_label}
use Rattle.listing_lines.specs.inner.View.{label, place_in}
use Rattle.listing_lines.specs.declared.known.Place.{Place}
use Rattle.dex_base.proofs.ListFacts.{by_kind}

chosen : (b : Bool) (name : Bor (List ℕ)) (p : Place) (o : Option Place) (q : Option Label) → o ≡ place_in q → cond b (Some p) o ≡ place_in (if b then Some (label (name, p)) else q)
chosen true name p o q e = refl
chosen false name p o q e = e

pub found_place : (name : List ℕ) (test : Bor (List ℕ) → Bool) → ((k : Bor (List ℕ)) → test k ≡ same name k.now) → (es : List (Bor (List ℕ) × Place)) → found_in test es ≡ place_in (lookup name (map label es))
found_place name test t [] = refl
found_place name test t (e ∷ es) = rw (t e.0) (chosen (same name e.0.now) e.0 e.1 (found_in test es) (lookup name (map label es)) (found_place name test t es))

-- the label of an entry, by the entry's name
pub found_there : (same_key : Bor (List ℕ) → Bor (List ℕ) → Bool) → ((j k : Bor (List ℕ)) → same_key j k ≡ same j.now k.now) → (k : Bor (List ℕ)) (name : List ℕ) (p : Place) (es : List (Bor (List ℕ) × Place)) → found_in (same_key k) es ≡ Some p → same k.now name ≡ true
    → Some p ≡ place_in (lookup name (map label es))
found_there same_key t k name p es e s = sym e ∙ found_place k.now (same_key k) (t k) es ∙ ap (λ (n : List ℕ). place_in (lookup n (map label es))) (same_true k.now name s)

-- ---- one label more

known : (o : Option Place) (q : Option Label) → o ≡ place_in q → is_some o ≡ is_some q
known o None e = ap is_some e
known o (Some l) e = ap is_some e

-- what isn't there goes last
goes_last : (same_key : Bor (List ℕ) → Bor (List ℕ) → Bool) → ((j k : Bor (List ℕ)) → same_key j k ≡ same j.now k.now) → (k : Bor (List ℕ)) (p : Place) (es : List (Bor (List ℕ) × Place)) → is_some (lookup k.now (map label es)) ≡ false
    → map label (insert_entry same_key es k p) ≡ map label es ++ label (k, p) ∷ []
goes_last same_key t k p [] s = refl
goes_last same_key t k p (e ∷ es) s = elim (by_kind (same k.now e.0.now)) [
  | inl y ↦ let z : true ≡ false = rw y at s in absurd cc
  | inr n ↦ rw (t k e.0, n) (ap (λ x. label e ∷ x) (goes_last same_key t k p es (rw n at s)))
]

pub put : (same_key : Bor (List ℕ) → Bor (List ℕ) → Bool) → ((j k : Bor (List ℕ)) → same_key j k ≡ same j.now k.now) → (k : Bor (List ℕ)) (p : Place) (es new : List (Bor (List ℕ) × Place)) → None ≡ found_in (same_key k) es
    → new ≡ insert_entry same_key es k p → map label new ≡ with_label (map label es) (label (k, p))
put same_key t k p es new e n =
    let f : is_some (lookup k.now (map label es)) ≡ false = sym (known None (lookup k.now (map label es)) (e ∙ found_place k.now (same_key k) (t k) es)) in
    ap (map label) n ∙ goes_last same_key t k p es f ∙ rw f refl

-- what is there stays, where it is put back
put_back : (same_key : Bor (List ℕ) → Bor (List ℕ) → Bool) (k : Bor (List ℕ)) (p first : Place) (es : List (Bor (List ℕ) × Place)) → Some first ≡ found_in (same_key k) es
    → insert_entry same_key (insert_entry same_key es k p) k first ≡ es
put_back same_key k p first [] e = absurd cc
put_back same_key k p first (x ∷ es) e = elim (by_kind (same_key k x.0)) [
  | inl y ↦ let f : Some first ≡ Some x.1 = rw y at e in let g : first ≡ x.1 = cc in rw (y, y, g) refl
  | inr n ↦ rw (n, n) (ap (λ ys. x ∷ ys) (put_back same_key k p first es (rw n at e)))
]

pub kept : (same_key : Bor (List ℕ) → Bor (List ℕ) → Bool) → ((j k : Bor (List ℕ)) → same_key j k ≡ same j.now k.now) → (k : Bor (List ℕ)) (p first : Place) (es new back : List (Bor (List ℕ) × Place)) → Some first ≡ found_in (same_key k) es
    → new ≡ insert_entry same_key es k p → back ≡ insert_entry same_key new k first → map label back ≡ with_label (map label es) (label (k, p))
kept same_key t k p first es new back e n b =
    let f : is_some (lookup k.now (map label es)) ≡ true = sym (known (Some first) (lookup k.now (map label es)) (e ∙ found_place k.now (same_key k) (t k) es)) in
    rw f (ap (map label) (b ∙ rw n (put_back same_key k p first es e)))

-- ---- a label by its name

-- what isn't in front is looked for after
pub look_after : (name : List ℕ) (es fs : List Label) → lookup name es ≡ None → lookup name (es ++ fs) ≡ lookup name fs
look_after name [] fs h = refl
look_after name (e ∷ es) fs h = elim (by_kind (same name e.name)) [
  | inl y ↦ let z : Some e ≡ None = rw y at h in absurd cc
  | inr n ↦ let z : lookup name es ≡ None = rw n at h in rw n (look_after name es fs z)
]

-- a new one goes last
pub with_new : (es : List Label) (l : Label) → lookup l.name es ≡ None → with_label es l ≡ es ++ l ∷ []
with_new es l h = rw h refl

-- Every other word.
use Rattle.std.proofs.Common.{◌≡◌, ℕ, ◌+◌, ◌<◌, Bool, true, false, List, [], ◌∷◌, ◌++◌, length, get_or, drop, map, refl, sym, ap, ◌∙◌, append_assoc, add-one, drop-cons, not, inl, inr, ◌⊎◌}
use Rattle.listing_slots.specs.Data.{Datum}
use Rattle.listing_slots.specs.inner.View.{datum}
use Rattle.listing_slots.specs.declared.datum.Datum.{Datum as Made}
use Rattle.listing_lines.specs.Lines.{alternate}

-- from the first, or from the second
abbrev pub between : {A : Type 0} → Bool → List A → List A
between b [] = []
between true (x ∷ xs) = x ∷ between false xs
between false (x ∷ xs) = between true xs

pub between_is : {A : Type 0} (xs : List A) → alternate xs ≡ between true xs
unfolding alternate
between_is (x ∷ y ∷ xs) = ap (λ t. x ∷ t) (between_is xs)
between_is _ = refl

pub between_due : {B : Type 0} (f : Datum → B) (ds : List Made) (i : ℕ) (x : Made) (done : List B) → i < length ds
    → done ++ map f (between true (map datum (drop i ds))) ≡ (done ++ f (datum (get_or ds i x)) ∷ []) ++ map f (between false (map datum (drop (i + 1) ds)))
between_due f ds i x done h =
    let d : drop i ds ≡ get_or ds i x ∷ drop (i + 1) ds = rw add-one (drop-cons ds i x h) in
    rw d (sym (append_assoc done (f (datum (get_or ds i x)) ∷ []) (map f (between false (map datum (drop (i + 1) ds))))))

pub between_not : {B : Type 0} (f : Datum → B) (ds : List Made) (i : ℕ) (x : Made) (done : List B) → i < length ds
    → done ++ map f (between false (map datum (drop i ds))) ≡ done ++ map f (between true (map datum (drop (i + 1) ds)))
between_not f ds i x done h =
    let d : drop i ds ≡ get_or ds i x ∷ drop (i + 1) ds = rw add-one (drop-cons ds i x h) in
    rw d refl

pub between_start : {B : Type 0} (f : Datum → B) (ds : List Made) (done : List B) → done ≡ [] → map f (alternate (map datum ds)) ≡ done ++ map f (between true (map datum ds))
between_start f ds done e = rw (e, between_is (map datum ds)) refl

pub between_step : {B : Type 0} (f : Datum → B) (ds : List Made) (i : ℕ) (x : Made) (b : Bool) (all done new : List B) → i < length ds → all ≡ done ++ map f (between b (map datum (drop i ds)))
    → ((b ≡ true) × (new ≡ done ++ f (datum (get_or ds i x)) ∷ [])) ⊎ ((b ≡ false) × (new ≡ done)) → all ≡ new ++ map f (between (not b) (map datum (drop (i + 1) ds)))
between_step f ds i x b all done new h e c = elim c [
  | inl p ↦ rw (p.0, p.1) (rw p.0 at e ∙ between_due f ds i x done h)
  | inr p ↦ rw (p.0, p.1) (rw p.0 at e ∙ between_not f ds i x done h)
]

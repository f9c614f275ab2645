-- Parts of names that are held, found by what they say: texts by their units, prototypes by the texts of their types.
use Rattle.std.proofs.Common.{◌≡◌, ℕ, Bool, false, List, [], ◌∷◌, ◌++◌, ◌&&◌, map, get_or, refl, sym, ap, subst, ◌∙◌, if◌then◌else◌, Contains, Some, position}
use Rattle.std.specs.Bool.{Decides}
use Rattle.std.specs.Cmp.Derive.Mapped.{pointwise-map}
use Rattle.std.specs.List.{list_any}
use Rattle.std.proofs.lemmas.Bool.Decides.{Decides-and}
use Rattle.std.proofs.lemmas.List.Elements.{Contains-push}
use Rattle.std.proofs.lemmas.List.Quantifiers.{position-Some}
use Rattle.std.proofs.lemmas.Slice.Eq.{slice_eq-Decides, bytes_eq-Decides}
use lib.Pointwise.{pointwise}
use Rattle.program_types.proofs.Comparisons.{units_eq}

-- what goes last, since no equal one is there, is there then
last_is_held : {X : Type 0} (equal : X → Bool) (xs ys : List X) (x : X) → ys ≡ (if list_any equal xs then xs else xs ++ x ∷ []) → list_any equal xs ≡ false → Contains ys x
last_is_held equal xs ys x added none = subst (λ l. Contains l x) (sym (added ∙ ap (λ b. if b then xs else xs ++ x ∷ []) none)) (Contains-push xs x)

-- ---- what has a text

module _ {X : Type 0} (text : X → List ℕ) where
  pub text_found : (xs ys : List X) (us : List ℕ) (n : ℕ) (d : X) → ys ≡ xs → Some n ≡ position (λ x. units_eq us (text x)) xs → text (get_or ys n d) ≡ us
  text_found xs ys us n d same at =
      let here = position-Some (λ x. units_eq us (text x)) xs n d (sym at) in
      ap (λ l. text (get_or l n d)) same ∙ sym ((bytes_eq-Decides us (text (get_or xs n d))).0 here.1)

  pub text_last : (xs ys : List X) (x : X) (us : List ℕ) → ys ≡ (if list_any (λ k. units_eq (text x) (text k)) xs then xs else xs ++ x ∷ []) → text x ≡ us → false ≡ list_any (λ k. units_eq us (text k)) xs → Contains ys x
  text_last xs ys x us added same none =
      last_is_held (λ k. units_eq (text x) (text k)) xs ys x added ((λ i. list_any (λ k. units_eq (same i) (text k)) xs) ∙ sym none)

  abbrev eq_texts : List X → List X → Bool
  eq_texts = pointwise (λ d e. units_eq (text d) (text e))

  texts_same : (ds es : List X) → Decides (eq_texts ds es) (map text ds ≡ map text es)
  texts_same ds es = rw (← pointwise-map text units_eq ds es) (slice_eq-Decides bytes_eq-Decides (map text ds) (map text es) _ refl)

  texts_alike : (ds es ks : List X) → map text ds ≡ map text es → eq_texts ds ks ≡ eq_texts es ks
  texts_alike ds es ks same =
      sym (pointwise-map text units_eq ds ks) ∙ ap (λ ts. pointwise units_eq ts (map text ks)) same ∙ pointwise-map text units_eq es ks

-- ---- what has a return type and parameters

module _ {X D : Type 0} (ret : X → D) (params : X → List D) (text : D → List ℕ) where
  abbrev equals : D → List D → X → Bool
  equals r ds x = units_eq (text r) (text (ret x)) && eq_texts text ds (params x)

  pub proto_found : (xs ys : List X) (r : D) (ds : List D) (n : ℕ) (d : X) → ys ≡ xs → Some n ≡ position (equals r ds) xs
      → (text (ret (get_or ys n d)) ≡ text r) × (map text (params (get_or ys n d)) ≡ map text ds)
  proto_found xs ys r ds n d same at =
      let here = position-Some (equals r ds) xs n d (sym at) in
      let k = get_or xs n d in
      let both = (Decides-and _ _ (bytes_eq-Decides (text r) (text (ret k))) (texts_same text ds (params k))).0 here.1 in
      (ap (λ l. text (ret (get_or l n d))) same ∙ sym both.0, ap (λ l. map text (params (get_or l n d))) same ∙ sym both.1)

  pub proto_last : (xs ys : List X) (x : X) (r : D) (ds : List D) → ys ≡ (if list_any (equals (ret x) (params x)) xs then xs else xs ++ x ∷ [])
      → text (ret x) ≡ text r → map text (params x) ≡ map text ds → false ≡ list_any (equals r ds) xs → Contains ys x
  proto_last xs ys x r ds added same_ret same_params none =
      last_is_held (equals (ret x) (params x)) xs ys x added
      ((λ i. list_any (λ k. units_eq (same_ret i) (text (ret k)) && texts_alike text (params x) ds (params k) same_params i) xs) ∙ sym none)

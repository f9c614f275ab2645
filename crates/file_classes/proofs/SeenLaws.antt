-- Types that are held in a set as they come.
use Rattle.std.proofs.Common.{◌≡◌, ◌≢◌, ℕ, zero, suc, ◌+◌, ◌<◌, Bool, true, false, not, List, [], ◌∷◌, map, length, take, get_or, refl, sym, ap, subst, ◌∙◌, arith, true≢false, Some}
use Rattle.std.specs.Bool.{Decides}
use Rattle.std.specs.List.{list_any, slice_get}
use Rattle.std.proofs.lemmas.List.{get_or-take, take_more, length-take-le}
use Rattle.std.specs.List.Sorted.{IsPermutation}
use Rattle.std.proofs.lemmas.List.Sorted.{list_any-IsPermutation, IsPermutation-append_comm, IsPermutation-cons, IsPermutation-trans}
use Rattle.program_types.specs.View.{desc}
use Rattle.program_types.specs.declared.names.Desc.{Desc}
use Rattle.file_classes.specs.Classes.{NoTypeTwice}
use Rattle.file_classes.specs.inner.Reading.{IsNotAmong}
use Rattle.dex_base.proofs.ListFacts.{map_at}

module _ (eq : Desc → Desc → Bool) (decides : (x y : Desc) → Decides (eq x y) (desc x ≡ desc y)) where
  -- what is found stands at a place
  abbrev Place : Desc → List Desc → Type 0
  Place v ks = (j : ℕ) × (j < length ks) × (slice_get (map desc ks) j ≡ Some (desc v))

  found_by : (v k : Desc) (ks : List Desc) (r : Bool) → eq v k ≡ r → (list_any (eq v) ks ≡ true → Place v ks) → list_any (eq v) (k ∷ ks) ≡ true → Place v (k ∷ ks)
  found_by v k ks true is rest e = (0, omega arith, ap Some (sym ((decides v k).0 is)))
  found_by v k ks false is rest e = let p = rest (rw is at e) in (suc p.0, omega (arith, p.1), p.2)

  found : (v : Desc) (ks : List Desc) → list_any (eq v) ks ≡ true → Place v ks
  found v [] e = absurd (true≢false (sym e))
  found v (k ∷ ks) e = found_by v k ks (eq v k) refl (found v ks) e

  none_by : (v k : Desc) (ks : List Desc) (r : Bool) → eq v k ≡ r → (list_any (eq v) ks ≡ false → (j : ℕ) → slice_get (map desc ks) j ≢ Some (desc v))
      → list_any (eq v) (k ∷ ks) ≡ false → (j : ℕ) → slice_get (map desc (k ∷ ks)) j ≢ Some (desc v)
  none_by v k ks true is rest e j h = absurd (true≢false (rw is at e))
  none_by v k ks false is rest e zero h = let same : desc v ≡ desc k = cc in absurd (true≢false (sym ((decides v k).1 same) ∙ is))
  none_by v k ks false is rest e (suc j) h = rest (rw is at e) j h

  none : (v : Desc) (ks : List Desc) → list_any (eq v) ks ≡ false → (j : ℕ) → slice_get (map desc ks) j ≢ Some (desc v)
  none v [] e j h = absurd cc
  none v (k ∷ ks) e j h = none_by v k ks (eq v k) refl (none v ks) e j h

  pub new_type : (types seen : List Desc) (n : ℕ) (d : Desc) → IsPermutation (take n types) seen → n < length types → list_any (eq (get_or types n d)) seen ≡ false → IsNotAmong (map desc types) n n
  new_type types seen n d same lt free j t less at_j at_n =
      let ks = take n types in
      let is_new = list_any-IsPermutation (eq (get_or types n d)) ks seen same ∙ free in
      let l : length ks ≡ n = length-take-le n types (omega arith) in
      let held : slice_get (map desc ks) j ≡ Some (desc (get_or ks j d)) = map_at desc ks j d (omega arith) in
      let one : get_or ks j d ≡ get_or types j d = get_or-take n types j d less in
      let there : slice_get (map desc types) j ≡ Some (desc (get_or types j d)) = map_at desc types j d (omega arith) in
      let last : slice_get (map desc types) n ≡ Some (desc (get_or types n d)) = map_at desc types n d lt in
      none (get_or types n d) ks is_new j (held ∙ ap (λ z. Some (desc z)) one ∙ sym there ∙ at_j ∙ sym at_n ∙ last)

  pub old_type : (types seen : List Desc) (n : ℕ) (d : Desc) → IsPermutation (take n types) seen → n < length types → list_any (eq (get_or types n d)) seen ≡ true → NoTypeTwice (map desc types) → ⊥
  old_type types seen n d perm lt held distinct =
      let ks = take n types in
      let p = found (get_or types n d) ks (list_any-IsPermutation (eq (get_or types n d)) ks seen perm ∙ held) in
      let l : length ks ≡ n = length-take-le n types (omega arith) in
      let less : p.0 < n = omega (arith, l, p.1) in
      let here : slice_get (map desc ks) p.0 ≡ Some (desc (get_or ks p.0 d)) = map_at desc ks p.0 d p.1 in
      let same : get_or ks p.0 d ≡ get_or types p.0 d = get_or-take n types p.0 d less in
      let there : slice_get (map desc types) p.0 ≡ Some (desc (get_or types p.0 d)) = map_at desc types p.0 d (omega (arith, less, lt)) in
      let last : slice_get (map desc types) n ≡ Some (desc (get_or types n d)) = map_at desc types n d lt in
      let one : p.0 ≡ n = distinct p.0 n (desc (get_or types n d)) (there ∙ ap (λ z. Some (desc z)) (sym same) ∙ sym here ∙ p.2) last in
      omega (arith, one, less)

-- one type more
pub seen_more : (types seen new : List Desc) (n : ℕ) (d : Desc) → n < length types → IsPermutation (take n types) seen → IsPermutation (get_or types n d ∷ seen) new → IsPermutation (take (n + 1) types) new
seen_more types seen new n d lt before put =
    let x = get_or types n d in
    subst (λ (l : List Desc). IsPermutation l new) (sym (take_more types n d lt))
    (IsPermutation-trans _ _ _ (IsPermutation-append_comm (take n types) (x ∷ [])) (IsPermutation-trans _ _ _ (IsPermutation-cons x (take n types) seen before) put))

pub held_before : (b r : Bool) → r ≡ not b → r ≡ false → b ≡ true
held_before true r e h = refl
held_before false r e h = absurd (true≢false (sym e ∙ h))

pub came_now : (b r : Bool) → r ≡ not b → r ≡ true → b ≡ false
came_now false r e h = refl
came_now true r e h = absurd (true≢false (sym h ∙ e))

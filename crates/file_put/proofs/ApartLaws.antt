-- Values that stand once each have one place each.
use Rattle.std.proofs.Common.{◌≡◌, ℕ, List, map, ap, sym, ◌∙◌, Some}
use Rattle.std.specs.Prelude.{option_map}
use Rattle.std.specs.List.{slice_get}
use Rattle.std.proofs.lemmas.Option.{slice_get-map}
use Rattle.program_types.specs.Key.{Key, text_key}
use Rattle.tables_names.specs.Rank.{Rising}
use Rattle.tables_names.proofs.PlaceLemmas.{rank_at}
use Rattle.file_layout.specs.inner.Tiles.{AreShared}

pub apart_shared : {V : Type 0} (vs : List V) (places : List ℕ) → ((i j : ℕ) (v : V) → slice_get vs i ≡ Some v → slice_get vs j ≡ Some v → i ≡ j) → AreShared places vs
apart_shared vs places apart i j v p q at_i at_j place_i place_j =
    let e = apart i j v at_i at_j in
    let there : slice_get places i ≡ Some q = ap (λ (k : ℕ). slice_get places k) e ∙ place_j in
    let found : Some p ≡ Some q = sym place_i ∙ there in
    cc

text_at : (ks : List Key) (ts : List (List ℕ)) → map text_key ts ≡ ks → (i : ℕ) (t : List ℕ) → slice_get ts i ≡ Some t → slice_get ks i ≡ Some (text_key t)
text_at ks ts e i t at = ap (λ (l : List Key). slice_get l i) (sym e) ∙ slice_get-map text_key ts i ∙ ap (option_map text_key) at

-- texts whose keys rise
pub texts_shared : (ks : List Key) → Rising ks → (ts : List (List ℕ)) (places : List ℕ) → map text_key ts ≡ ks → AreShared places ts
texts_shared ks rising ts places e =
    apart_shared ts places (λ i j t at_i at_j. sym (rank_at ks i (text_key t) rising (text_at ks ts e i t at_i)) ∙ rank_at ks j (text_key t) rising (text_at ks ts e j t at_j))

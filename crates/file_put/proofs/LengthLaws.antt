-- How long items are.
use Rattle.std.proofs.Common.{◌≡◌, ℕ, ◌+◌, ◌<◌, List, [], ◌∷◌, length, map, drop, get_or, ap, ◌∙◌, arith, length-append}
use Rattle.std.proofs.lemmas.List.{drop_more}
use Rattle.dex_base.specs.Mutf8.{PacksText}

pub text_some : (bytes units : List ℕ) → PacksText bytes units → 0 < length bytes
text_some bytes units t = let j = ap length t.joined ∙ length-append t.front (0 ∷ []) in omega (arith, j)

pub map_drop : {A B : Type 0} (f : A → B) (xs : List A) (i : ℕ) (d : A) → i < length xs → map f (drop i xs) ≡ f (get_or xs i d) ∷ map f (drop (i + 1) xs)
map_drop f xs i d h = ap (map f) (drop_more xs i d h)

-- Classes with the places of their items.
use Rattle.std.proofs.Common.{◌≡◌, ◌≢◌, ℕ, suc, ◌≤◌, List, [], ◌∷◌, length, get_or, refl, ap, arith}
use Rattle.std.proofs.lemmas.Option.{slice_get_within}
use Rattle.file_classes.specs.ClassRows.{no_index}
use Rattle.tables_names.specs.Rank.{IsAt}
use Rattle.program_types.specs.Content.{Units, Program}
use Rattle.program_types.specs.Key.{Key, text_key}
use Rattle.file_put.specs.inner.ClassDefs.{first_or_zero, all_but_first, with_places}

pub length-seated : (p : Program) (lists datas arrays : List ℕ) → length (with_places p lists datas arrays) ≡ length p
length-seated [] lists datas arrays = refl
length-seated (c ∷ p) lists datas arrays = ap suc (length-seated p (all_but_first lists) (all_but_first datas) (all_but_first arrays))

pub first_of : (xs : List ℕ) → first_or_zero xs ≡ get_or xs 0 0
first_of [] = refl
first_of (x ∷ xs) = refl

pub others_of : (xs : List ℕ) (i : ℕ) → get_or (all_but_first xs) i 0 ≡ get_or xs (suc i) 0
others_of [] i = refl
others_of (x ∷ xs) i = refl

-- an index of a name that is held is not the one that stands for none
pub rank_or_none : (table : List Key) (i : ℕ) (t : Units) → length table ≤ no_index → IsAt table i (text_key t) → (i ≢ no_index) × IsAt table i (text_key t)
rank_or_none table i t few at = let lt = slice_get_within table i (text_key t) at in ((λ e. omega (arith, lt, few, e)), at)

-- Classes with the places of their items, row by row.
use Rattle.std.proofs.Common.{◌≡◌, ℕ, zero, suc, ◌+◌, ◌≤◌, List, [], ◌∷◌, length, take, get_or, refl, sym, ap, ◌∙◌, arith, subst, slice_get, Some}
use Rattle.std.proofs.lemmas.List.{take_more, take_all}
use Rattle.std.proofs.lemmas.Option.{slice_get_within}
use Rattle.dex_base.specs.Grammar.{Appends, Each}
use Rattle.dex_base.proofs.GrammarLaws.{Each-appends_more}
use Rattle.tables_names.specs.Closure.{Five}
use Rattle.program_types.specs.Content.{Class, Program}
use Rattle.file_put.specs.inner.ClassDefs.{ClassWithPlaces, SpellsClassRow, all_but_first, with_places}
use Rattle.file_put.proofs.PlacedClasses.{length-seated, first_of, others_of}

-- class i with its places
seated_at : (p : Program) (lists datas arrays : List ℕ) (i : ℕ) (c : Class) (n : ClassWithPlaces) → slice_get p i ≡ Some c → get_or (with_places p lists datas arrays) i n ≡ record { class = c; list = get_or lists i 0; class_data = get_or datas i 0; array = get_or arrays i 0 }
seated_at [] lists datas arrays i c n at = absurd cc
seated_at (d ∷ p) lists datas arrays zero c n at = let e : d ≡ c = cc in rw (first_of lists, first_of datas, first_of arrays) (ap (λ (x : Class). record { class = x; list = get_or lists 0 0; class_data = get_or datas 0 0; array = get_or arrays 0 0 }) e)
seated_at (d ∷ p) lists datas arrays (suc i) c n at =
    seated_at p (all_but_first lists) (all_but_first datas) (all_but_first arrays) i c n at
    ∙ rw (others_of lists i, others_of datas i, others_of arrays i) refl

-- one more row
pub seated_more : (s : Five) (old mid new : List ℕ) (p : Program) (lists datas arrays : List ℕ) (i : ℕ) (c : Class) → slice_get p i ≡ Some c
    → Appends (Each (SpellsClassRow s)) old mid (take i (with_places p lists datas arrays))
    → Appends (SpellsClassRow s) mid new (record { class = c; list = get_or lists i 0; class_data = get_or datas i 0; array = get_or arrays i 0 })
    → Appends (Each (SpellsClassRow s)) old new (take (i + 1) (with_places p lists datas arrays))
seated_more s old mid new p lists datas arrays i c at rows row =
    let all : List ClassWithPlaces = with_places p lists datas arrays in
    let n : ClassWithPlaces = record { class = c; list = 0; class_data = 0; array = 0 } in
    let many = length-seated p lists datas arrays in
    let lt = slice_get_within p i c at in
    subst (λ (vs : List ClassWithPlaces). Appends (Each (SpellsClassRow s)) old new vs) (sym (take_more all i n (omega (arith, lt, many))))
    (Each-appends_more (SpellsClassRow s) old mid new (take i all) (get_or all i n) rows
    (subst (λ (v : ClassWithPlaces). Appends (SpellsClassRow s) mid new v) (sym (seated_at p lists datas arrays i c n at)) row))

-- all rows
pub seated_all : (s : Five) (old new : List ℕ) (p : Program) (lists datas arrays : List ℕ) (i : ℕ) → length p ≤ i
    → Appends (Each (SpellsClassRow s)) old new (take i (with_places p lists datas arrays))
    → Appends (Each (SpellsClassRow s)) old new (with_places p lists datas arrays)
seated_all s old new p lists datas arrays i all a =
    let many = length-seated p lists datas arrays in
    subst (λ (vs : List ClassWithPlaces). Appends (Each (SpellsClassRow s)) old new vs) (take_all i (with_places p lists datas arrays) (omega (arith, all, many))) a

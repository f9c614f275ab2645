-- Static values that are laid stand at their places.
use Rattle.std.proofs.Common.{◌≡◌, ℕ, ◌≤◌, Bool, true, false, List, [], length, arith}
use Rattle.std.specs.Prelude.{MatchBool, ◌==◌}
use Rattle.std.specs.List.{AllByRecursion}
use Rattle.dex_base.specs.Leb128.{Shortest}
use Rattle.file_classes.specs.Classes.{StaticsAt}
use Rattle.dex_container.specs.Where.{At, AtOrNone}
use Rattle.file_layout.specs.declared.plan.Part.{Part}
use Rattle.file_layout.specs.inner.Parts.{HasPart}
use Rattle.file_layout.specs.inner.Sections.{is_empty_list}
use Rattle.file_layout.specs.inner.Tiles.{Lays, Refers}
use Rattle.file_layout.proofs.StandLaws.{at_list, even_one}
use Rattle.tables_names.specs.Closure.{Five, NameRanks}
use Rattle.program_types.specs.Content.{Name, Value}
use Rattle.program_types.specs.Depth.{depth, most_depth}
use Rattle.tables_rows.specs.Stands.{NameStands}
use Rattle.dex_value.specs.Spelling.{SpellsArray}
use Rattle.dex_value.specs.Standing.{ArrayStands}
use Rattle.dex_value.proofs.Weaker.{SpellsArray-weaker}

-- an array at an offset, of few values that are not deep, is one of static values
statics_of : (N : ℕ → Name → Type 0) (b : List ℕ) (place most : ℕ) (vs : List Value) → length vs ≤ most → AllByRecursion (λ v. depth v ≤ most_depth) vs → AtOrNone (SpellsArray N) b 0x2005 1 place vs
    → MatchBool (place == 0) (vs ≡ []) (ArrayStands N b place most vs)
statics_of N b place most vs few deep at = by (place == 0) at
  where
    by : (z : Bool) → MatchBool z (vs ≡ []) (At (SpellsArray N) b 0x2005 1 place vs) → MatchBool z (vs ≡ []) (ArrayStands N b place most vs)
    by true e = e
    by false a = record { stands = a; few = few; deep = deep }

module _ (b : List ℕ) (s : Five) (stand : (i : ℕ) (which : Name) → NameRanks s i which → NameStands b i which) (part : Part) (vs : List (List Value)) (places : List ℕ) (has : HasPart b 0x2005 part)
    (l : Lays is_empty_list (Shortest (SpellsArray (NameRanks s))) 1 part.begin part.end b vs places part.items) where
  -- a place that refers to values has them
  pub statics_at : (place most : ℕ) (xs : List Value) → length xs ≤ most → AllByRecursion (λ v. depth v ≤ most_depth) xs → Refers is_empty_list l.items place xs → StaticsAt b place most xs
  statics_at place most xs few deep r =
      statics_of (NameStands b) b place most xs few deep
      (at_list (Shortest (SpellsArray (NameRanks s))) (SpellsArray (NameStands b)) 1 b 0x2005 part.begin part.begin part.end vs places part.items place xs l has.stands (omega arith) even_one
      (λ bytes q. SpellsArray-weaker (NameRanks s) (NameStands b) stand bytes xs q.spelled) r)

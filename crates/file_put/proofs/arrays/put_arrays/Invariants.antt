use Rattle.std.proofs.Common.{map, take, drop}
use Rattle.program_types.specs.View as view
use Rattle.program_types.specs.declared.class.Class.{Class}
use Rattle.file_layout.specs.inner.Sections.{is_empty_list}
use Rattle.file_layout.specs.inner.Sharing.{Sharing}
use Rattle.dex_base.specs.Leb128.{Shortest}
use Rattle.tables_names.specs.Closure.{NameRanks}
use Rattle.dex_value.specs.Spelling.{SpellsArray}
use Rattle.dex_value.specs.Wide.{wide_array}
use Rattle.file_put.specs.inner.Arrays.{WritesArray}
use Rattle.file_put.proofs.arrays.put_arrays.Given as goal

abbrev pub invariant-loop-class : goal.invariant-loop-class
invariant-loop-class l = Sharing is_empty_list (Shortest (SpellsArray (NameRanks l.ranks))) (WritesArray l.ranks) 1 wide_array l.fn.out.items l.out.items (map (λ (x : Class). map view.value x.values.now) (take l.class-index l.class-items))
    (map (λ (x : Class). map view.value x.values.now) (drop l.class-index l.class-items)) (map (λ (x : Class). map view.value x.values.now) l.class-items) l.places.items l.items

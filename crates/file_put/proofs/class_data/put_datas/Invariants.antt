use Rattle.std.proofs.Common.{◌≡◌, map, take, drop}
use Rattle.file_layout.specs.inner.Sections.{Laying}
use Rattle.tables_names.specs.Closure.{NameRanks}
use Rattle.tables_names.specs.Noted.{AreRanks}
use Rattle.file_needed.specs.inner.Bodies.{defined_in}
use Rattle.program_types.specs.View as view
use Rattle.file_put.proofs.SitedLaws.{rest_after}
use Rattle.file_put.specs.inner.Data.{PacksData, has_no_members, with_code_places, wide_with_codes}
use Rattle.file_put.proofs.class_data.put_datas.Given as goal

abbrev pub invariant-loop-class : goal.invariant-loop-class
invariant-loop-class l =
    Laying has_no_members (PacksData (NameRanks l.ranks)) 1 wide_with_codes l.fn.out.items l.out.items (take l.class-index (with_code_places (map view.class l.class-items) l.codes)) (drop l.class-index (with_code_places (map view.class l.class-items) l.codes)) (with_code_places (map view.class l.class-items) l.codes) l.placed.places.items l.placed.items
    × (l.rest ≡ rest_after (map view.class l.class-items) l.codes l.class-index)
    × AreRanks l.ranks (defined_in (map view.class (drop l.class-index l.class-items))) l.members

use Rattle.std.proofs.Common.{◌≡◌, arith, refl}
use Rattle.program_types.specs.View as view
use Rattle.file_put.proofs.RankedLists.{indices_none}
use Rattle.file_put.proofs.ListLaws.{indices_more}
use Rattle.std.proofs.lemmas.Slice.{pushed}
use Rattle.dex_base.specs.Fields.{u16_bytes}
use Rattle.program_types.specs.Key.{text_key}
use Rattle.tables_names.specs.inner.Indices.{HasRank}
use Rattle.file_put.proofs.type_lists.put_indices.Goals as goal
use Rattle.dex_base.proofs.ListFacts.{all_at}

pub loop-ty-init : goal.loop-ty-init
loop-ty-init c = indices_none _ _

pub type_index-requires : goal.type_index-requires
type_index-requires c = record { held = all_at (λ t. HasRank c.args.ranks.now.types (text_key t)) view.desc c.args.types.now c.loop-ty.ty-index _ c.loop-ty-test.true c.requires.held; few = c.requires.few }

pub loop-ty-preserved : goal.loop-ty-preserved
unfolding u16_bytes
loop-ty-preserved c =
    let bytes : c.to_le_bytes.result ≡ u16_bytes c.type_index.result = c.to_le_bytes.ensures in
    indices_more _ _ _ _ c.to_le_bytes.result c.type_index.result c.args.types.now c.loop-ty.ty-index _ c.loop-ty-test.true c.loop-ty.invariant (pushed c.to_le_bytes.result refl c.in_ok-extend_from_slice.was c.extend_from_slice.ensures.items) bytes (omega arith) c.type_index.ensures

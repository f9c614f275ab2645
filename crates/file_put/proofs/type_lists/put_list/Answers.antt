use Rattle.std.proofs.Common.{◌≡◌, length, refl}
use Rattle.file_put.proofs.ListLaws.{list_appends}
use Rattle.std.proofs.lemmas.Slice.{pushed}
use Rattle.std.proofs.lemmas.Result.{on_ok_weaker}
use Rattle.dex_base.specs.Fields.{u32_bytes}
use Rattle.file_put.proofs.type_lists.put_list.Goals as goal

pub returns-clause-ok : goal.returns-clause-ok
unfolding u32_bytes
returns-clause-ok c =
    let bytes : c.to_le_bytes.result ≡ u32_bytes (length c.args.types.now) = c.to_le_bytes.ensures in
    on_ok_weaker c.put_indices.result
    (λ a. list_appends c.args.ranks.now c.args.out.now.items _ _ c.to_le_bytes.result c.args.types.now c.requires.short (pushed c.to_le_bytes.result refl c.in_ok-extend_from_slice.was c.extend_from_slice.ensures.items) bytes a)
    c.put_indices.ensures.ok

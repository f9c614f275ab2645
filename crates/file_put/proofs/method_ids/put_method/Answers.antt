use Rattle.std.proofs.Common.{◌≡◌, ◌++◌, ◌∙◌}
use Rattle.dex_base.specs.Fields.{u16_bytes, u32_bytes}
use Rattle.file_put.proofs.FieldLaws.{three_joined}
use Rattle.file_put.proofs.method_ids.put_method.Goals as goal

pub returns-clause-ok : goal.returns-clause-ok
unfolding u16_bytes u32_bytes
returns-clause-ok c =
    let class : c.to_le_bytes.result ≡ u16_bytes c.args.method.class = c.to_le_bytes.ensures in
    let proto : c.to_le_bytes-2.result ≡ u16_bytes c.args.method.proto = c.to_le_bytes-2.ensures in
    let name : c.to_le_bytes-3.result ≡ u32_bytes c.args.method.name = c.to_le_bytes-3.ensures in
    three_joined c.args.rows.now.items _ _ _ c.to_le_bytes.result c.to_le_bytes-2.result c.to_le_bytes-3.result
    c.in_ok-extend_from_slice.ensures.items c.in_ok-extend_from_slice-2.ensures.items c.in_ok-extend_from_slice-3.ensures.items
    ∙ (λ i. c.args.rows.now.items ++ (class i ++ (proto i ++ name i)))

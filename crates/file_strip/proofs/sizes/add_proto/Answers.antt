use Rattle.std.proofs.Common.{List, ℕ, true≢false, refl, sym, subst, arith}
use Rattle.file_limits.specs.inner.Sum.{IsSum}
use Rattle.file_limits.specs.Wide.{wide_list}
use Rattle.program_types.specs.Content.{Units}
use Rattle.tables_rows.specs.Stands.{TypesAt}
use Rattle.file_strip.proofs.ListLaws.{protos_long}
use Rattle.file_strip.proofs.SizeLaws.{proto_kept, sum_not_kept}
use Rattle.file_strip.proofs.sizes.add_proto.Goals as goal

pub keeps_proto-requires : goal.keeps_proto-requires
keeps_proto-requires c = let n = protos_long c.args.sections.now c.args.numbers.now c.requires.kept.0 c.requires.kept.1 in omega (arith, n, c.requires.row)

pub returns-then-not-keeps_proto : goal.returns-then-not-keeps_proto
returns-then-not-keeps_proto c = λ p k s. sum_not_kept _ _ _ _ k.marked.protos.shape k.numbered.protos _ c.args.i c.args.sum c.requires.row (λ is. true≢false (sym (c.if-not-keeps_proto.ensures.1 is))) s

pub list_size-list-requires : goal.list_size-list-requires
list_size-list-requires c =
    let row = c.requires.kept.1.tables.protos c.args.i c.requires.row in
    (row.name.params, subst (λ (o : ℕ). TypesAt c.args.sections.now o row.name.params) (sym c.proto_parameters.ensures) row.stands.params)

pub returns : goal.returns
returns c = λ p k s.
    let b = c.args.sections.now in
    proto_kept b c.args.numbers.now p k c.args.i c.args.sum c.list_size-list.result c.plus.result c.plus-2.result c.requires.row (c.if-not-keeps_proto.ensures.0 refl)
    (subst (λ (o : ℕ). (ts : List Units) → TypesAt b o ts → IsSum c.list_size-list.result (wide_list ts)) c.proto_parameters.ensures c.list_size-list.ensures) c.plus.ensures c.plus-2.ensures s

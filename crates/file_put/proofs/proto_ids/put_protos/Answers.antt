use Rattle.std.proofs.Common.{length, ap, arith}
use Rattle.std.proofs.lemmas.List.{length-map}
use Rattle.tables_names.specs.Keys.{key_of_proto}
use Rattle.tables_names.specs.Numbers.{ProtoAt}
use Rattle.tables_names.proofs.IndexLemmas.{closed_have_rows}
use Rattle.program_types.specs.View as view
use Rattle.file_put.proofs.PartLaws.{ret_at}
use Rattle.file_put.proofs.RowLaws.{held_at, protos_more, protos_are_table}
use Rattle.file_put.proofs.proto_ids.put_protos.Goals as goal
use Rattle.dex_base.proofs.ListFacts.{zip_length}

pub put_proto-requires-clause-shorty : goal.put_proto-requires-clause-shorty
put_proto-requires-clause-shorty c =
    (closed_have_rows c.args.ranks.now c.holds_parts.ensures).shorties c.loop-i.i _ (held_at key_of_proto c.protos-proto-items.result.now c.args.ranks.now.protos c.loop-i.i _ c.protos-proto-items.ensures c.loop-i-test.true)

pub bounds-parts-i : goal.bounds-parts-i
bounds-parts-i c =
    let n = ap length c.protos-proto-items.ensures in
    let m = length-map c.protos-proto-items.result.now key_of_proto in
    let same = zip_length (ProtoAt c.args.ranks.now.types) c.args.ranks.now.protos c.proto_parts-parts.result.now c.proto_parts-parts.ensures in
    omega (arith, n, m, same, c.loop-i-test.true)

pub put_proto-requires-clause-ret : goal.put_proto-requires-clause-ret
put_proto-requires-clause-ret c =
    ret_at c.args.ranks.now.types c.protos-proto-items.result.now c.args.ranks.now.protos c.proto_parts-parts.result.now c.loop-i.i _ _ c.protos-proto-items.ensures c.proto_parts-parts.ensures c.loop-i-test.true

pub loop-i-preserved : goal.loop-i-preserved
loop-i-preserved c =
    let n = ap length c.protos-proto-items.ensures in
    let m = length-map c.protos-proto-items.result.now key_of_proto in
    protos_more view.proto c.args.ranks.now _ _ _ c.args.places.now c.protos-proto-items.result.now c.loop-i.i _ (omega (arith, n, m, c.requires.places)) c.loop-i-test.true c.loop-i.invariant c.in_ok-put_proto.ensures.ok

pub returns-clause-ok : goal.returns-clause-ok
returns-clause-ok c =
    let n = ap length c.protos-proto-items.ensures in
    let m = length-map c.protos-proto-items.result.now key_of_proto in
    protos_are_table view.proto c.args.ranks.now _ _ c.args.places.now c.protos-proto-items.result.now c.args.ranks.now.protos c.loop-i.i (omega (arith, n, m, c.requires.places)) c.protos-proto-items.ensures c.loop-i-test.false c.loop-i.invariant

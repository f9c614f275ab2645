use Rattle.std.proofs.Common.{arith, rules}
use Rattle.tables_rows.proofs.CachedLaws.{cached_none}
use Rattle.std.proofs.lemmas.Grind.{common_steps}
use Rattle.std.proofs.lemmas.List.{map-append}
use Rattle.program_types.specs.View.{proto}
use Rattle.tables_rows.specs.Stands.{ProtoStands}
use Rattle.tables_rows.specs.TableFaults.{ProtoHolds, ProtoBreaks}
use Rattle.tables_rows.proofs.RowReading.{first_row, first_more, first_rows}
use Rattle.tables_rows.proofs.proto_ids.read_protos.Goals as goal
use Rattle.dex_base.proofs.ListFacts.{passed}

pub returns-in_err-proto-clause-err : goal.returns-in_err-proto-clause-err
returns-in_err-proto-clause-err c =
    passed _ _ _ c.from_residual-in_err-proto.ensures.1 (λ ne. first_row ProtoBreaks ProtoHolds c.args.sections.now 2 c.loop-i.i _ (let t = c.table-count.ensures in let lt = c.loop-i-test.true in grind (arith, common_steps)) c.loop-i.invariant.0.hold (c.in_err-proto.ensures.err ne))

pub loop-i-init : goal.loop-i-init
loop-i-init c = (search rules, cached_none _ c.new-cached.result c.new-cached.ensures.empty)

pub loop-i-preserved : goal.loop-i-preserved
loop-i-preserved c = (
  rw (c.in_ok-push.ensures.items, map-append) (first_more ProtoStands ProtoHolds c.args.sections.now c.loop-i.i _ (proto c.in_ok-proto.proto) c.loop-i.invariant.0 c.in_ok-proto.ensures.ok c.in_ok-proto.ensures.holds),
  c.in_ok-proto.ensures.cached,
)

pub returns-clause-rows : goal.returns-clause-rows
returns-clause-rows c = rw c.into_bump_slice.ensures (first_rows ProtoStands ProtoHolds c.args.sections.now c.loop-i.i 2 _ (let t = c.table-count.ensures in let ge = c.loop-i-test.false in let le = c.loop-i.auto.i-end in grind (arith, common_steps)) c.loop-i.invariant.0)

pub returns-clause-hold : goal.returns-clause-hold
returns-clause-hold c = λ j h. c.loop-i.invariant.0.hold j (let out = c.loop-i-test.false in let t = c.table-count.ensures in grind (arith, common_steps))

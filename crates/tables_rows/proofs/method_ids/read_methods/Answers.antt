use Rattle.std.proofs.Common.{arith}
use Rattle.std.proofs.lemmas.Grind.{common_steps}
use Rattle.std.proofs.lemmas.List.{map-append}
use Rattle.program_types.specs.View.{method_ref}
use Rattle.tables_rows.specs.Stands.{MethodStands}
use Rattle.tables_rows.specs.TableFaults.{MethodHolds, MethodBreaks}
use Rattle.tables_rows.proofs.RowReading.{first_row, first_more, first_rows}
use Rattle.tables_rows.proofs.method_ids.read_methods.Goals as goal
use Rattle.dex_base.proofs.ListFacts.{passed}

pub returns-in_err-method-clause-err : goal.returns-in_err-method-clause-err
returns-in_err-method-clause-err c =
    passed _ _ _ c.from_residual-in_err-method.ensures.1 (λ _. first_row MethodBreaks MethodHolds c.args.sections.now 4 c.loop-i.i _ (let t = c.table-count.ensures in let lt = c.loop-i-test.true in grind (arith, common_steps)) c.loop-i.invariant.hold c.in_err-method.ensures.err)

pub loop-i-preserved : goal.loop-i-preserved
loop-i-preserved c =
    rw (c.in_ok-push.ensures.items, map-append) (first_more MethodStands MethodHolds c.args.sections.now c.loop-i.i _ (method_ref c.in_ok-method.method) c.loop-i.invariant c.in_ok-method.ensures.ok c.in_ok-method.ensures.holds)

pub returns-clause-rows : goal.returns-clause-rows
returns-clause-rows c = rw c.into_bump_slice.ensures (first_rows MethodStands MethodHolds c.args.sections.now c.loop-i.i 4 _ (let t = c.table-count.ensures in let ge = c.loop-i-test.false in let le = c.loop-i.auto.i-end in grind (arith, common_steps)) c.loop-i.invariant)

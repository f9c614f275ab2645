use Rattle.std.proofs.Common.{arith}
use Rattle.std.proofs.lemmas.Grind.{common_steps}
use Rattle.std.proofs.lemmas.List.{map-append}
use Rattle.program_types.specs.View.{str}
use Rattle.tables_rows.specs.Stands.{StringStands}
use Rattle.tables_rows.specs.TableFaults.{StringHolds, StringBreaks}
use Rattle.tables_rows.proofs.RowReading.{first_row, first_more, first_rows}
use Rattle.tables_rows.proofs.string_ids.read_strings.Goals as goal
use Rattle.dex_base.proofs.ListFacts.{passed}

pub returns-in_err-string-clause-err : goal.returns-in_err-string-clause-err
returns-in_err-string-clause-err c =
    passed _ _ _ c.from_residual-in_err-string.ensures.1 (λ ne. first_row StringBreaks StringHolds c.args.sections.now 0 c.loop-i.i _ (let t = c.table-count.ensures in let lt = c.loop-i-test.true in grind (arith, common_steps)) c.loop-i.invariant.hold (c.in_err-string.ensures.err ne))

pub loop-i-preserved : goal.loop-i-preserved
loop-i-preserved c =
    rw (c.in_ok-push.ensures.items, map-append) (first_more StringStands StringHolds c.args.sections.now c.loop-i.i _ (str c.in_ok-string.string) c.loop-i.invariant c.in_ok-string.ensures.ok c.in_ok-string.ensures.holds)

pub returns-clause-rows : goal.returns-clause-rows
returns-clause-rows c = rw c.into_bump_slice.ensures (first_rows StringStands StringHolds c.args.sections.now c.loop-i.i 0 _ (let t = c.table-count.ensures in let ge = c.loop-i-test.false in let le = c.loop-i.auto.i-end in grind (arith, common_steps)) c.loop-i.invariant)

use Rattle.std.proofs.Common.{map, arith}
use Rattle.std.proofs.lemmas.Grind.{common_steps}
use Rattle.std.proofs.lemmas.List.{length-map}
use Rattle.program_types.specs.View.{catch}
use Rattle.tables_rows.specs.Names.{NameIsAt}
use Rattle.code_read.specs.inner.Handlers.{SpellsCatch}
use Rattle.code_read.proofs.StandLaws.{NameIsAt-functional}
use Rattle.code_read.proofs.HandlerReading.{catches-none, taken-more}
use Rattle.code_read.proofs.handlers.read_catches.Goals as goal

pub returns-in_default-clause-err : goal.returns-in_default-clause-err
returns-in_default-clause-err c = λ other.
    let i = c.loop-turn.invariant in
    let n = i.counted in
    let l = c.loop-turn-test.true in
    catches-none (NameIsAt c.args.tables.now) c.args.starts.now (NameIsAt-functional c.args.tables.now) c.args.count c.args.bytes.now c.loop-turn.left.now (map catch c.loop-turn.all.items) i.taken
    (omega (arith, length-map c.loop-turn.all.items catch)) c.in_default.ensures.none

pub loop-turn-preserved : goal.loop-turn-preserved
loop-turn-preserved c = record {
  taken = taken-more (SpellsCatch (NameIsAt c.args.tables.now) c.args.starts.now) c.args.bytes.now c.loop-turn.left.now c.in-Some.after.now c.loop-turn.all.items _ c.in-Some.one
      c.loop-turn.invariant.taken c.in-Some.ensures.some c.in_ok-push.ensures.items;
  counted = grind (arith, common_steps);
}

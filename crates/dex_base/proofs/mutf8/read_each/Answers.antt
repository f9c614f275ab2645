use Rattle.std.proofs.Common.{arith}
use Rattle.std.proofs.lemmas.List.{take_rest, length_push}
use Rattle.dex_base.specs.Mutf8.{SpellsUnit}
use Rattle.dex_base.proofs.UnitLaws.{unit_unique}
use Rattle.dex_base.proofs.GrammarLaws.{Each-more, Many-none}
use Rattle.dex_base.proofs.mutf8.read_each.Goals as goal

pub returns-in_default-clause-none : goal.returns-in_default-clause-none
returns-in_default-clause-none c = Many-none SpellsUnit c.args.count c.args.bytes.now _ _ unit_unique c.loop.invariant.read (omega (arith, c.loop.invariant.counted)) (simp take_rest at c.in_default.ensures.none)

pub loop-preserved : goal.loop-preserved
loop-preserved c = record {
  read = rw c.in_ok-push.ensures.items (Each-more SpellsUnit c.args.bytes.now _ c.in-Some.unit _ _ c.loop.invariant.read (simp take_rest at c.in-Some.ensures.found));
  counted = rw c.in_ok-push.ensures.items (rw length_push (omega arith));
}

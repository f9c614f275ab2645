use Rattle.std.proofs.Common.{map, arith}
use Rattle.std.proofs.lemmas.List.{map-append}
use Rattle.dex_base.specs.Leb128.{Spells}
use Rattle.file_classes.specs.ClassData.{SpellsMethodEntry}
use Rattle.file_classes.specs.inner.Reading.{method_entry}
use Rattle.file_classes.proofs.EntryLaws.{method_unique}
use Rattle.file_classes.proofs.TakingLaws.{taken_more, taken_all, taken_short}
use Rattle.file_classes.proofs.class_data.take_methods.Goals as goal

pub returns-in_default-clause-none : goal.returns-in_default-clause-none
returns-in_default-clause-none c =
    taken_short (SpellsMethodEntry Spells) c.args.bytes.now c.loop-turn._turn c.args.count (map method_entry c.loop-turn.all.items) c.loop-turn.left.now method_unique c.loop-turn-test.true c.loop-turn.invariant c.in_default.ensures.none

pub loop-turn-preserved : goal.loop-turn-preserved
loop-turn-preserved c =
    rw (c.in_ok-push.ensures.items, map-append)
    (taken_more (SpellsMethodEntry Spells) c.args.bytes.now c.loop-turn._turn (map method_entry c.loop-turn.all.items) (method_entry c.in-Some.entry) c.loop-turn.left.now c.in-Some.rest.now c.loop-turn.invariant c.in-Some.ensures.found)

pub returns-clause-found : goal.returns-clause-found
returns-clause-found c =
    taken_all (SpellsMethodEntry Spells) c.args.bytes.now c.loop-turn._turn c.args.count (map method_entry c.loop-turn.all.items) c.loop-turn.left.now (omega (arith, c.loop-turn-test.false, c.loop-turn.auto._turn-end)) c.loop-turn.invariant

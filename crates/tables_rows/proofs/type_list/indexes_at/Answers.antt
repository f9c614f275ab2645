use Rattle.dex_base.specs.Grammar.{NoneBegins}
use Rattle.tables_rows.specs.Stands.{SpellsIndexes}
use Rattle.dex_container.proofs.Standing.{stands_at, stands_not}
use Rattle.tables_rows.proofs.HalvesLaws.{list_placed}
use Rattle.tables_rows.proofs.type_list.indexes_at.Goals as goal
use Rattle.std.proofs.lemmas.Option.{IfSome_then}
use Rattle.dex_base.proofs.OptionLaws.{IfNone-weaker}

pub returns-in_default-clause-none : goal.returns-in_default-clause-none
returns-in_default-clause-none c = λ indexes at. c.in_default.ensures.none (list_placed _ 0x1001 4 c.args.off indexes at)

pub returns-clause-some : goal.returns-clause-some
returns-clause-some c =
    IfSome_then _ c.spelled_indexes.ensures.some (λ indexes begins. stands_at SpellsIndexes c.args.sections.now c.in-Some.rest.now 0x1001 4 c.args.lists c.args.off c.requires.section c.in-Some.ensures.value _ _ c.in-Some.ensures.low c.in-Some.ensures.high c.if-off-ne0.false begins)

pub returns-clause-none : goal.returns-clause-none
returns-clause-none c =
    IfNone-weaker {P = NoneBegins SpellsIndexes c.in-Some.rest.now} _ (λ none indexes. stands_not SpellsIndexes c.args.sections.now c.in-Some.rest.now 0x1001 4 c.args.lists c.args.off c.requires.section c.in-Some.ensures.value indexes none) c.spelled_indexes.ensures.none

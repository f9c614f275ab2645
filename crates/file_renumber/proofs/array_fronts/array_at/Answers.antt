use Rattle.tables_rows.specs.Stands.{NameStands}
use Rattle.dex_value.proofs.Places.{outside_none, at_takes}
use Rattle.file_renumber.proofs.array_fronts.array_at.Goals as goal

pub unreachable-requires : goal.unreachable-requires
unreachable-requires c =
    outside_none (NameStands c.args.sections.now) c.args.sections.now c.args.off c.requires.0 c.requires.1 c.in-None.ensures.none c.requires.2

pub returns-clause-spelled : goal.returns-clause-spelled
returns-clause-spelled c = λ most vs a.
    at_takes (NameStands c.args.sections.now) c.args.sections.now c.in-Some.bytes.now c.section_of-section.result c.args.off c.section_of-section.ensures.value c.in-Some.ensures.value vs a.stands

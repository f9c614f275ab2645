use Rattle.std.proofs.Common.{[], refl, length}
use Rattle.file_classes.proofs.StaticsLaws.{no_values, values_stand, values_break, other_fault}
use Rattle.file_classes.proofs.keeping.Walk.row_values.Goals as goal

pub returns-then-off-eq0-clause-ok : goal.returns-then-off-eq0-clause-ok
returns-then-off-eq0-clause-ok g c =
    ([], no_values c.args.self.now.sections.now c.args.i c.args.head c.requires.head c.class_word-off.result c.class_word-off.ensures c.if-off-eq0.true, c.no_values.ensures)

pub returns-in-Ok-clause-ok : goal.returns-in-Ok-clause-ok
returns-in-Ok-clause-ok g c =
    let a = c.in-Ok.ensures.ok in
    (a.0, values_stand c.args.self.now.sections.now c.args.i c.args.head c.requires.head c.args.self.now.tables.now c.requires.names c.class_word-off.result c.class_word-off.ensures c.if-off-eq0.false (length c.args.head.statics.now) refl a.0 a.1, a.2)

pub returns-in-Err-clause-err : goal.returns-in-Err-clause-err
returns-in-Err-clause-err g c = λ ne.
    values_break c.args.self.now.sections.now c.args.i c.args.head c.requires.head c.args.self.now.tables.now c.requires.names c.class_word-off.result c.class_word-off.ensures c.if-off-eq0.false (length c.args.head.statics.now) refl c.in-Err.fault c.at_row.result c.class_place.result c.class_place.ensures c.at_row.ensures
    (c.in-Err.ensures.broken (other_fault c.class_place.result c.in-Err.fault c.at_row.result c.at_row.ensures ne))

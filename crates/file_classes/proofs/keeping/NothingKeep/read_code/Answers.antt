use Rattle.file_classes.proofs.MethodLaws.{found_some, found_none}
use Rattle.file_classes.proofs.keeping.NothingKeep.read_code.Goals as goal

pub returns-then-off-eq0-clause-ok : goal.returns-then-off-eq0-clause-ok
returns-then-off-eq0-clause-ok c = found_none c.args.walk.now.sections.now c.args.off _ _ c.if-off-eq0.true tt

pub returns-clause-ok : goal.returns-clause-ok
returns-clause-ok c =
    let found = c.in_ok-past.ensures.ok in
    found_some c.args.walk.now.sections.now c.args.walk.now.tables.now c.requires c.args.off found.code c.if-off-eq0.false found.stands _ _ tt found.named found.breaks

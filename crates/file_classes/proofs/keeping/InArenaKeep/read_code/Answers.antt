use Rattle.std.proofs.Common.{refl, None}
use Rattle.program_types.specs.View.{code}
use Rattle.file_classes.proofs.MethodLaws.{found_some, found_none}
use Rattle.file_classes.proofs.keeping.InArenaKeep.read_code.Goals as goal

pub returns-then-off-eq0-clause-ok : goal.returns-then-off-eq0-clause-ok
returns-then-off-eq0-clause-ok c = found_none c.args.walk.now.sections.now c.args.off _ None c.if-off-eq0.true refl

pub returns-clause-ok : goal.returns-clause-ok
returns-clause-ok c =
    found_some c.args.walk.now.sections.now c.args.walk.now.tables.now c.requires c.args.off (code c.in_ok-body.body.code) c.if-off-eq0.false c.in_ok-body.ensures.ok _ _
    (rw c.in_ok-placed.ensures refl) c.in_ok-body.ensures.named c.in_ok-body.ensures.past

use Rattle.std.specs.Prelude.{IfNone, IfSome}
use Rattle.std.proofs.Common.{subst}
use Rattle.program_types.specs.Content.{Code}
use Rattle.program_types.specs.Formed.{RegistersHold}
use Rattle.tables_rows.specs.Names.{NameIsAt}
use Rattle.code_read.specs.Code.{BodyStands}
use Rattle.code_read.specs.Faults.{RegistersBreak}
use Rattle.code_read.proofs.reading.read_body.Goals as goal

pub returns-clause-ok : goal.returns-clause-ok
returns-clause-ok c =
    let t = c.in_ok-code.ensures.ok in
    subst (BodyStands (NameIsAt c.args.tables.now) c.args.sections.now c.args.off) t.1 t.0.stands

pub returns-clause-named : goal.returns-clause-named
returns-clause-named c =
    let t = c.in_ok-code.ensures.ok in
    subst (λ (z : Code). IfNone c.in_ok-code.past (RegistersHold z)) t.1 t.0.named

pub returns-clause-past : goal.returns-clause-past
returns-clause-past c =
    let t = c.in_ok-code.ensures.ok in
    subst (λ (z : Code). IfSome c.in_ok-code.past (RegistersBreak c.args.off z)) t.1 t.0.breaks

pub returns-clause-only : goal.returns-clause-only
returns-clause-only c = λ d a. c.in_ok-code.ensures.only d a

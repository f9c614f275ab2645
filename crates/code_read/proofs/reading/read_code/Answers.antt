use Rattle.std.proofs.Common.{inl, inr, subst, Option}
use Rattle.std.specs.Prelude.{IfNone, IfSome}
use Rattle.dex_base.specs.declared.fault.Fault.{Fault}
use Rattle.code_read.specs.Faults.{RegistersBreak}
use Rattle.program_types.specs.Formed.{RegistersHold}
use Rattle.program_types.specs.View.{code}
use Rattle.tables_rows.specs.Names.{NameIsAt}
use Rattle.code_read.proofs.CodeLaws.{registers_clear}
use Rattle.code_read.proofs.StandLaws.{code_body, body_code}
use Rattle.code_read.proofs.reading.read_code.Goals as goal
use Rattle.dex_base.proofs.ListFacts.{passed}

pub returns-in-None-clause-ok : goal.returns-in-None-clause-ok
returns-in-None-clause-ok c =
    body_code (NameIsAt c.args.tables.now) c.args.sections.now c.args.off (code c.in_ok-body.body.code) (subst (λ (o : Option Fault). IfNone o (RegistersHold (code c.in_ok-body.body.code))) c.in-None.is c.in_ok-body.ensures.named) c.in_ok-body.ensures.ok

pub returns-in-None-clause-only : goal.returns-in-None-clause-only
returns-in-None-clause-only c = λ d a. c.in_ok-body.ensures.only d (code_body (NameIsAt c.args.tables.now) c.args.sections.now c.args.off d a)

pub returns-in-Some-clause-broken : goal.returns-in-Some-clause-broken
returns-in-Some-clause-broken c = λ ne. inr (record { code = code c.in_ok-body.body.code; body = c.in_ok-body.ensures.ok; breaks = subst (λ (o : Option Fault). IfSome o (RegistersBreak c.args.off (code c.in_ok-body.body.code))) c.in-Some.is c.in_ok-body.ensures.past })

pub returns-in-Some-clause-refused : goal.returns-in-Some-clause-refused
returns-in-Some-clause-refused c = λ ne d a.
    let same = c.in_ok-body.ensures.only d (code_body (NameIsAt c.args.tables.now) c.args.sections.now c.args.off d a) in
    registers_clear c.args.off (code c.in_ok-body.body.code) c.in-Some.fault (subst RegistersHold same a.spelled.named) (subst (λ (o : Option Fault). IfSome o (RegistersBreak c.args.off (code c.in_ok-body.body.code))) c.in-Some.is c.in_ok-body.ensures.past)

pub returns-in_err-body-clause-broken : goal.returns-in_err-body-clause-broken
returns-in_err-body-clause-broken c = passed _ _ _ c.from_residual.ensures.1 (λ ne. inl (c.in_err-body.ensures.broken ne))

pub returns-in_err-body-clause-refused : goal.returns-in_err-body-clause-refused
returns-in_err-body-clause-refused c =
    passed _ _ _ c.from_residual.ensures.1 (λ ne d a. c.in_err-body.ensures.refused ne d (code_body (NameIsAt c.args.tables.now) c.args.sections.now c.args.off d a))

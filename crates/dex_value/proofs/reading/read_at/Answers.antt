use Rattle.std.proofs.Common.{◌≡◌, List, length, sym, subst}
use Rattle.std.proofs.lemmas.Result.{IfErr-weaker, IfOk-weaker}
use Rattle.program_types.specs.Content.{Value}
use Rattle.tables_rows.specs.Names.{NameIsAt}
use Rattle.dex_container.specs.Where.{IsSectionOf}
use Rattle.dex_value.proofs.Namings.{NameIsAt-functional}
use Rattle.dex_value.proofs.Places.{outside_none, array_stands, array_only, broken_none, broken}
use Rattle.dex_value.proofs.reading.read_at.Goals as goal

pub returns-in_default-clause-refused : goal.returns-in_default-clause-refused
returns-in_default-clause-refused g c = λ other vs a. outside_none (NameIsAt (g.K.Keep.names c.args.keep)) c.args.sections.now c.args.off c.args.most vs c.in_default.ensures.none a

pub returns-clause-ok : goal.returns-clause-ok
returns-clause-ok g c =
    let is : IsSectionOf c.args.sections.now 8197 c.section_of-section.result = assumption c.section_of-section.ensures in
    IfOk-weaker c.read_rest.result _ _
    (λ x t. (
      t.0,
      array_stands (NameIsAt (g.K.Keep.names c.args.keep)) c.args.sections.now c.in-Some.bytes.now c.section_of-section.result c.args.off is c.in-Some.ensures.value c.args.most t.0
          c.in-Some.ensures.low c.in-Some.ensures.high (t.1.rest, t.1.spelled) t.1.few t.1.deep,
      t.2,
      t.3,
    ))
    c.read_rest.ensures.ok

pub returns-clause-only : goal.returns-clause-only
returns-clause-only g c =
    let is : IsSectionOf c.args.sections.now 8197 c.section_of-section.result = assumption c.section_of-section.ensures in
    let names = g.K.Keep.names c.args.keep in
    IfOk-weaker c.read_rest.result _ _
    (λ x t vs a.
    let same = array_only (NameIsAt names) c.args.sections.now c.in-Some.bytes.now c.section_of-section.result c.args.off is c.in-Some.ensures.value (NameIsAt-functional names) c.args.most t.0 vs (t.1.rest, t.1.spelled) a in
    subst (λ (ws : List Value). (length ws ≡ x.0) × g.K.Keep.many x.1 ws) (sym same) (t.2, t.3))
    c.read_rest.ensures.ok

pub returns-clause-broken : goal.returns-clause-broken
returns-clause-broken g c =
    let is : IsSectionOf c.args.sections.now 8197 c.section_of-section.result = assumption c.section_of-section.ensures in
    IfErr-weaker c.read_rest.result _ _
    (λ e breaks other. broken (NameIsAt (g.K.Keep.names c.args.keep)) c.args.sections.now c.in-Some.bytes.now c.section_of-section.result c.args.off is c.in-Some.ensures.value c.args.most e
    c.in-Some.ensures.low c.in-Some.ensures.high (breaks other))
    c.read_rest.ensures.err

pub returns-clause-refused : goal.returns-clause-refused
returns-clause-refused g c =
    let is : IsSectionOf c.args.sections.now 8197 c.section_of-section.result = assumption c.section_of-section.ensures in
    let names = g.K.Keep.names c.args.keep in
    IfErr-weaker c.read_rest.result _ _
    (λ e breaks other vs a. broken_none (NameIsAt names) c.args.sections.now c.in-Some.bytes.now c.section_of-section.result c.args.off is c.in-Some.ensures.value (NameIsAt-functional names) c.args.most e
    (breaks other) vs a)
    c.read_rest.ensures.err

use Rattle.std.proofs.Common.{◌≡◌, ◌%◌, arith, sym, subst}
use Rattle.std.proofs.lemmas.Result.{IfErr-weaker, IfOk-weaker}
use Rattle.tables_rows.specs.Names.{NameIsAt}
use Rattle.dex_container.specs.Where.{IsSectionOf}
use Rattle.code_read.proofs.StandLaws.{NameIsAt-functional, outside_none, code_stands, code_only, broken_none, broken}
use Rattle.code_read.proofs.reading.body_at.Goals as goal

pub returns-in_default-clause-refused : goal.returns-in_default-clause-refused
returns-in_default-clause-refused g c = λ other d a. outside_none (NameIsAt c.args.tables.now) c.args.sections.now c.args.off d c.in_default.ensures.none a

pub returns-clause-ok : goal.returns-clause-ok
returns-clause-ok g c =
    let is : IsSectionOf c.args.sections.now 8193 c.section_of-section.result = assumption c.section_of-section.ensures in
    let even : c.args.off % 4 ≡ 0 = omega (arith, c.if-off-ne0.false) in
    IfOk-weaker c.read_item.result _ _
    (λ x t.
    let h = t.0 in (
      record {
        code = h.code;
        stands = code_stands (NameIsAt c.args.tables.now) c.args.sections.now c.in-Some.bytes.now c.section_of-section.result c.args.off is c.in-Some.ensures.value h.code c.in-Some.ensures.low c.in-Some.ensures.high even (h.rest, h.takes);
        named = h.named;
        breaks = h.breaks;
      },
      t.1,
    ))
    c.read_item.ensures.ok

pub returns-clause-only : goal.returns-clause-only
returns-clause-only g c =
    let is : IsSectionOf c.args.sections.now 8193 c.section_of-section.result = assumption c.section_of-section.ensures in
    IfOk-weaker c.read_item.result _ _
    (λ x t d a. subst (g.K.Keep.code x.0) (sym (code_only (NameIsAt c.args.tables.now) c.args.sections.now c.in-Some.bytes.now c.section_of-section.result c.args.off is c.in-Some.ensures.value (NameIsAt-functional c.args.tables.now) t.0.code d (t.0.rest, t.0.takes) a)) t.1)
    c.read_item.ensures.ok

pub returns-clause-broken : goal.returns-clause-broken
returns-clause-broken g c =
    let even : c.args.off % 4 ≡ 0 = omega (arith, c.if-off-ne0.false) in
    let is : IsSectionOf c.args.sections.now 8193 c.section_of-section.result = assumption c.section_of-section.ensures in
    IfErr-weaker c.read_item.result _ _
    (λ e breaks other. broken (NameIsAt c.args.tables.now) c.args.sections.now c.in-Some.bytes.now c.section_of-section.result c.args.off is c.in-Some.ensures.value e
    c.in-Some.ensures.low c.in-Some.ensures.high even (breaks other))
    c.read_item.ensures.err

pub returns-clause-refused : goal.returns-clause-refused
returns-clause-refused g c =
    let is : IsSectionOf c.args.sections.now 8193 c.section_of-section.result = assumption c.section_of-section.ensures in
    IfErr-weaker c.read_item.result _ _
    (λ e breaks other d a. broken_none (NameIsAt c.args.tables.now) c.args.sections.now c.in-Some.bytes.now c.section_of-section.result c.args.off is c.in-Some.ensures.value (NameIsAt-functional c.args.tables.now) e (breaks other) d a)
    c.read_item.ensures.err

use Rattle.std.proofs.Common.{sym, ap, ◌∙◌, subst, Option}
use Rattle.program_types.specs.Content.{Code}
use Rattle.program_types.specs.Mentions.{if_any, names_of_code}
use Rattle.tables_names.specs.Closure.{with_names}
use Rattle.tables_rows.proofs.CachedLaws.{cached_more}
use Rattle.file_limits.specs.Wide.{wide_body}
use Rattle.file_strip.specs.inner.Survey.{AreFound, CodeIsFound, FindsNames}
use Rattle.file_strip.proofs.FoundLaws.{arrays_stay, code_is_found, code_there, codes_stay, finds_held}
use Rattle.file_strip.proofs.members.visit_code.Goals as goal

pub returns-in-Some-clause-found : goal.returns-in-Some-clause-found
returns-in-Some-clause-found c = λ code at.
    let b = c.args.sections.now in
    let st = code_there b c.args.off code c.if-off-eq0.false at in
    subst (λ (o : Option Code). FindsNames b c.args.found.now c.args.found.now (if_any names_of_code o)) (sym st.is)
    (finds_held b c.args.found.now (names_of_code st.some) (λ s a. (a.codes c.args.off c.in-Some.wide.now (sym c.in-Some.ensures.value)).names st.some st.stands))

pub returns-in-Some-clause-wide : goal.returns-in-Some-clause-wide
returns-in-Some-clause-wide c = λ code at.
    let st = code_there c.args.sections.now c.args.off code c.if-off-eq0.false at in
    (c.requires.found.1.codes c.args.off c.in-Some.wide.now (sym c.in-Some.ensures.value)).wide st.some st.stands ∙ ap wide_body (sym st.is)

pub returns-clause-found : goal.returns-clause-found
returns-clause-found c = λ code at s a.
    let b = c.args.sections.now in
    let st = code_there b c.args.off code c.if-off-eq0.false at in
    let found = names_of_code st.some in
    subst (λ (o : Option Code). AreFound b (record { marks = c.mark_code.new.marks; codes = c.insert.new.self; arrays = c.args.found.now.arrays; section = c.args.found.now.section }) (with_names s (if_any names_of_code o))) (sym st.is) (record {
      marks = c.in_ok-wide.ensures.marked st.some st.stands s a.marks;
      codes = cached_more (CodeIsFound b (with_names s found)) c.args.found.now.codes c.insert.new.self c.args.off c.in_ok-wide.wide (codes_stay b s found c.args.found.now.codes a.codes)
          (code_is_found b s c.args.off c.in_ok-wide.wide st.some a.marks.framed st.stands c.in_ok-wide.ensures.wide) c.in_ok-insert.ensures.updates;
      arrays = arrays_stay b s found c.args.found.now.arrays a.arrays;
      section = a.section;
    })

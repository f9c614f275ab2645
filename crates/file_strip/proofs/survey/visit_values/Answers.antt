use Rattle.std.proofs.Common.{sym}
use Rattle.std.specs.List.{flat_map}
use Rattle.program_types.specs.Mentions.{names_of_value}
use Rattle.tables_names.specs.Closure.{with_names}
use Rattle.tables_rows.proofs.CachedLaws.{cached_more}
use Rattle.file_strip.specs.inner.Survey.{ArrayIsFound}
use Rattle.file_strip.proofs.FoundLaws.{array_is_found, array_there, arrays_stay, codes_stay, finds_held}
use Rattle.file_strip.proofs.survey.visit_values.Goals as goal

pub returns-in-Some-clause-found : goal.returns-in-Some-clause-found
returns-in-Some-clause-found c = λ most vs at.
    let b = c.args.sections.now in
    let st = array_there b c.args.off most vs c.if-off-eq0.false at in
    finds_held b c.args.found.now (flat_map names_of_value vs) (λ s a. (a.arrays c.args.off c.in-Some.wide.now (sym c.in-Some.ensures.value)).names most vs st)

pub returns-in-Some-clause-wide : goal.returns-in-Some-clause-wide
returns-in-Some-clause-wide c = λ most vs at.
    (c.requires.found.1.arrays c.args.off c.in-Some.wide.now (sym c.in-Some.ensures.value)).wide most vs (array_there c.args.sections.now c.args.off most vs c.if-off-eq0.false at)

pub returns-clause-found : goal.returns-clause-found
returns-clause-found c = λ most vs at s a.
    let b = c.args.sections.now in
    let st = array_there b c.args.off most vs c.if-off-eq0.false at in
    let found = flat_map names_of_value vs in
    record {
      marks = c.in_ok-wide.ensures.marked most vs st s a.marks;
      codes = codes_stay b s found c.args.found.now.codes a.codes;
      arrays = cached_more (ArrayIsFound b (with_names s found)) c.args.found.now.arrays c.insert.new.self c.args.off c.in_ok-wide.wide (arrays_stay b s found c.args.found.now.arrays a.arrays)
          (array_is_found b s c.args.off c.in_ok-wide.wide most vs a.marks.framed st c.in_ok-wide.ensures.wide) c.in_ok-insert.ensures.updates;
      section = a.section;
    }

pub returns-clause-wide : goal.returns-clause-wide
returns-clause-wide c = λ most vs at. c.in_ok-wide.ensures.wide most vs (array_there c.args.sections.now c.args.off most vs c.if-off-eq0.false at)

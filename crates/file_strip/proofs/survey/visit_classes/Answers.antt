use Rattle.std.proofs.Common.{ℕ, take, inl, refl, sym, subst, arith, ap, ◌∙◌, rules}
use Rattle.std.specs.List.{flat_map}
use Rattle.std.proofs.lemmas.List.{take_all}
use Rattle.program_types.specs.Content.{Program}
use Rattle.program_types.specs.Mentions.{names_of_class}
use Rattle.tables_names.specs.Closure.{Five, nothing, with_names}
use Rattle.tables_rows.proofs.CachedLaws.{cached_none}
use Rattle.tables_rows.proofs.RowReading.{first_more, first_rows}
use Rattle.dex_container.specs.Section as section
use Rattle.file_strip.specs.inner.Keeping.{ListsMembers}
use Rattle.file_renumber.specs.inner.Marked.{AreMarks}
use Rattle.file_layout.specs.Sections.{wide_all}
use Rattle.file_limits.specs.inner.Sum.{IsSum}
use Rattle.file_limits.specs.Wide.{wide_class}
use Rattle.file_strip.specs.inner.Survey.{ArrayIsFound, CodeIsFound}
use Rattle.file_strip.proofs.ClassSteps.{class_at, needed_is, next_class, next_wide}
use Rattle.file_strip.proofs.survey.visit_classes.Goals as goal

pub loop-i-init : goal.loop-i-init
loop-i-init c = record {
  found = λ p rows. record { marks = c.in_ok-new.ensures.none; codes = cached_none (CodeIsFound c.args.sections.now nothing) c.new-2.result c.new-2.ensures.empty; arrays = cached_none (ArrayIsFound c.args.sections.now nothing) c.new-3.result c.new-3.ensures.empty; section = c.section_of.ensures.value };
  wide = λ p rows. inl refl;
  members = search rules;
}

pub visit_class-requires-clause-found : goal.visit_class-requires-clause-found
visit_class-requires-clause-found c =
    let k = c.requires.classes.1 in
    (with_names nothing (flat_map names_of_class (take c.loop-i.i k.0)), c.loop-i.invariant.found k.0 k.1)

pub visit_class-requires-clause-class : goal.visit_class-requires-clause-class
visit_class-requires-clause-class c =
    let k = c.requires.classes.1 in
    let n = c.class_count-i-end.ensures in
    let at = class_at c.args.sections.now k.0 c.loop-i.i k.1 (omega (arith, n, c.loop-i-test.true)) in
    (at.0, at.2)

pub loop-i-preserved : goal.loop-i-preserved
loop-i-preserved c =
    let b = c.args.sections.now in
    let n = c.class_count-i-end.ensures in
    record {
      found = λ p rows.
          let at = class_at b p c.loop-i.i rows (omega (arith, n, c.loop-i-test.true)) in
          next_class b c.loop-i.found c.visit_class.new.found p c.loop-i.i at.0 at.1 (c.loop-i.invariant.found p rows) (c.in_ok-bytes.ensures.found at.0 at.2);
      wide = λ p rows.
          let at = class_at b p c.loop-i.i rows (omega (arith, n, c.loop-i-test.true)) in
          subst (λ (w : ℕ). IsSum c.plus-wide.result w) (sym (next_wide p c.loop-i.i at.0 at.1))
          (c.plus-wide.ensures (wide_all wide_class (take c.loop-i.i p)) (wide_class at.0) (c.loop-i.invariant.wide p rows) (c.in_ok-bytes.ensures.wide at.0 at.2));
      members = rw c.in_ok-push.ensures.items (first_more ListsMembers (λ b i. Unit {0}) b c.loop-i.i _ _ c.loop-i.invariant.members c.in_ok-bytes.ensures.members tt);
    }

pub returns-clause-ok : goal.returns-clause-ok
returns-clause-ok c = λ p rows.
    let b = c.args.sections.now in
    let n = c.class_count-i-end.ensures in
    let l = rows.count in
    let all = take_all c.loop-i.i p (omega (arith, n, l, c.loop-i-test.false)) in
    record {
      marks = subst (λ (s : Five). AreMarks b c.loop-i.found.marks s) (ap (λ (q : Program). with_names nothing (flat_map names_of_class q)) all ∙ needed_is p) (c.loop-i.invariant.found p rows).marks;
      wide = subst (λ (q : Program). IsSum c.loop-i.wide (wide_all wide_class q)) all (c.loop-i.invariant.wide p rows);
    }

pub returns-clause-members : goal.returns-clause-members
returns-clause-members c =
    first_rows ListsMembers (λ b i. Unit {0}) c.args.sections.now c.loop-i.i section.class_defs c.loop-i.members.items (omega (arith, c.class_count-i-end.ensures, c.loop-i-test.false, c.loop-i.auto.i-end)) c.loop-i.invariant.members

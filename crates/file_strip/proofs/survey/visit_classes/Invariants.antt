use Rattle.std.proofs.Common.{take}
use Rattle.std.specs.List.{flat_map}
use Rattle.dex_container.specs.Section as section
use Rattle.program_types.specs.Content.{Program}
use Rattle.program_types.specs.Mentions.{names_of_class}
use Rattle.tables_names.specs.Closure.{nothing, with_names}
use Rattle.tables_rows.specs.Names.{AreRows}
use Rattle.tables_rows.specs.inner.Reading.{AreFirst}
use Rattle.file_layout.specs.Sections.{wide_all}
use Rattle.file_limits.specs.inner.Sum.{IsSum}
use Rattle.file_limits.specs.Wide.{wide_class}
use Rattle.file_classes.specs.Classes.{SpellsClass}
use Rattle.file_strip.specs.inner.Keeping.{ListsMembers}
use Rattle.file_strip.specs.inner.Survey.{AreFound}
use Rattle.file_strip.proofs.survey.visit_classes.Given as goal

abbrev pub invariant-loop-i : goal.invariant-loop-i
invariant-loop-i l = record {
  found : (p : Program) → AreRows SpellsClass l.sections section.class_defs p → AreFound l.sections l.found (with_names nothing (flat_map names_of_class (take l.i p)));
  wide : (p : Program) → AreRows SpellsClass l.sections section.class_defs p → IsSum l.wide (wide_all wide_class (take l.i p));
  members : AreFirst ListsMembers (λ b i. Unit {0}) l.sections l.i l.members.items;
}

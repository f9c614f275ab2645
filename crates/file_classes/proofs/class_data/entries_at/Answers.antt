use Rattle.dex_container.specs.Where.{IsSectionOf}
use Rattle.file_classes.specs.inner.Reading.{entries}
use Rattle.file_classes.specs.ClassData.{Entries, EntriesAt, SpellsEntries}
use Rattle.dex_base.specs.Grammar.{NoneBegins}
use Rattle.dex_base.specs.Leb128.{Spells}
use Rattle.file_classes.proofs.TakingLaws.{entries_outside, entries_found, entries_not}
use Rattle.file_classes.proofs.class_data.entries_at.Goals as goal
use Rattle.std.proofs.lemmas.Option.{IfSome_then}
use Rattle.dex_base.proofs.OptionLaws.{IfNone-weaker}

pub returns-in_default-clause-none : goal.returns-in_default-clause-none
returns-in_default-clause-none c = λ e. entries_outside c.args.sections.now c.args.off c.if-off-eq0.false e c.in_default.ensures.none

pub returns-clause-found : goal.returns-clause-found
returns-clause-found c =
    let is : IsSectionOf c.args.sections.now 0x2000 c.section_of-section.result = assumption c.section_of-section.ensures in
    IfSome_then _ c.in_ok-take_entries.ensures.found (λ e t. entries_found c.args.sections.now c.args.off c.if-off-eq0.false c.in-Some.bytes.now c.section_of-section.result is c.in-Some.ensures.value (entries e) t.0 c.in-Some.ensures.low c.in-Some.ensures.high t.1)

pub returns-clause-none : goal.returns-clause-none
returns-clause-none c =
    let is : IsSectionOf c.args.sections.now 0x2000 c.section_of-section.result = assumption c.section_of-section.ensures in
    IfNone-weaker {P = NoneBegins (SpellsEntries Spells) c.in-Some.bytes.now} {Q = (e : Entries) → ¬ EntriesAt c.args.sections.now c.args.off e} _ (λ nothing e. entries_not c.args.sections.now c.args.off c.if-off-eq0.false c.in-Some.bytes.now c.section_of-section.result is c.in-Some.ensures.value e nothing) c.in_ok-take_entries.ensures.none

use Rattle.std.proofs.Common.{refl, sym, subst, Option, ◌∷◌, []}
use Rattle.program_types.specs.Content.{OfText, Units}
use Rattle.program_types.specs.Mentions.{if_any}
use Rattle.tables_rows.specs.Stands.{StringStands}
use Rattle.file_renumber.specs.inner.Marked.{AddsNames}
use Rattle.file_strip.proofs.FoundLaws.{some_row}
use Rattle.file_strip.proofs.survey.mark_source.Goals as goal

pub mark-requires-clause-row : goal.mark-requires-clause-row
mark-requires-clause-row c =
    let r = some_row (StringStands c.args.sections.now) c.args.index c.requires.row.0 c.if-index-eq-NO_INDEX.false c.requires.row.1 in
    (OfText r.0, record { kind = refl; stands = r.2 })

pub returns-clause-marked : goal.returns-clause-marked
returns-clause-marked c = λ t is.
    let b = c.args.sections.now in
    let r = some_row (StringStands b) c.args.index t c.if-index-eq-NO_INDEX.false is in
    subst (λ (o : Option Units). AddsNames b c.args.marks.now c.mark.new.self (if_any (λ u. OfText u ∷ []) o)) (sym r.1) (c.in_ok-mark.ensures.marked (OfText r.0) (record { kind = refl; stands = r.2 }))

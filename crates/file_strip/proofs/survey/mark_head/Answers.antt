use Rattle.std.proofs.Common.{◌∷◌, ◌++◌, [], map, refl, sym, subst}
use Rattle.program_types.specs.Content.{Class, OfDesc, OfText}
use Rattle.program_types.specs.Mentions.{if_any}
use Rattle.tables_rows.specs.Stands.{StringStands, TypeStands, TypesAt}
use Rattle.file_renumber.proofs.MarkLemmas.{adds_more, has_marks_after}
use Rattle.file_renumber.specs.inner.Marked.{AddsNames}
use Rattle.file_classes.specs.Classes.{SpellsClass}
use Rattle.file_classes.specs.ClassRows.{IndexOrNone}
use Rattle.file_strip.proofs.survey.mark_head.Goals as goal
use Rattle.file_strip.proofs.survey.mark_head.Goals.{In_ok-mark, In_ok-mark_list, In_ok-mark_superclass}

pub mark-requires-clause-row : goal.mark-requires-clause-row
mark-requires-clause-row c =
    let b = c.args.sections.now in
    let k = c.requires.class in
    let row = k.1.head.row in
    (OfDesc k.0.ty, record { kind = refl; stands = subst (λ n. TypeStands b n k.0.ty) (sym c.class_word-class.ensures) row.named })

-- the type is marked
own : (c : In_ok-mark) (k : Class) → SpellsClass c.args.sections.now c.args.i k → AddsNames c.args.sections.now c.args.marks.now c.mark.new.self (OfDesc k.ty ∷ [])
own c k m = c.in_ok-mark.ensures.marked (OfDesc k.ty) (record { kind = refl; stands = subst (λ n. TypeStands c.args.sections.now n k.ty) (sym c.class_word-class.ensures) m.head.row.named })

-- .. and the superclass
super : (c : In_ok-mark_superclass) (k : Class) → SpellsClass c.args.sections.now c.args.i k → AddsNames c.args.sections.now c.args.marks.now c.mark.new.self (OfDesc k.ty ∷ []) → AddsNames c.args.sections.now c.args.marks.now c.mark_superclass.new.marks (OfDesc k.ty ∷ if_any (λ t. OfDesc t ∷ []) k.superclass)
super c k m f =
    adds_more c.args.sections.now c.args.marks.now c.mark.new.self c.mark_superclass.new.marks (OfDesc k.ty ∷ []) (if_any (λ t. OfDesc t ∷ []) k.superclass) f
    (c.in_ok-mark_superclass.ensures.marked k.superclass (subst (λ n. IndexOrNone (TypeStands c.args.sections.now) n k.superclass) (sym c.class_word-superclass.ensures) m.head.row.above))

-- .. and the interfaces
list : (c : In_ok-mark_list) (k : Class) → SpellsClass c.args.sections.now c.args.i k → AddsNames c.args.sections.now c.args.marks.now c.mark_superclass.new.marks (OfDesc k.ty ∷ if_any (λ t. OfDesc t ∷ []) k.superclass)
    → AddsNames c.args.sections.now c.args.marks.now c.mark_list.new.self (OfDesc k.ty ∷ (if_any (λ t. OfDesc t ∷ []) k.superclass ++ map OfDesc k.interfaces))
list c k m f =
    adds_more c.args.sections.now c.args.marks.now c.mark_superclass.new.marks c.mark_list.new.self (OfDesc k.ty ∷ if_any (λ t. OfDesc t ∷ []) k.superclass) (map OfDesc k.interfaces) f
    (c.in_ok-mark_list.ensures.marked k.interfaces (subst (λ n. TypesAt c.args.sections.now n k.interfaces) (sym c.class_word-interfaces.ensures) m.head.interfaces.types))

pub mark_superclass-requires-clause-marks : goal.mark_superclass-requires-clause-marks
mark_superclass-requires-clause-marks c =
    let k = c.requires.class in
    has_marks_after c.args.sections.now c.args.marks.now c.mark.new.self (OfDesc k.0.ty ∷ []) c.requires.marks (own (goal.at.mark_superclass-requires-clause-marks c).In_ok-mark k.0 k.1)

pub mark_list-requires-clause-marks : goal.mark_list-requires-clause-marks
mark_list-requires-clause-marks c =
    let k = c.requires.class in
    let at = goal.at.mark_list-requires-clause-marks c in
    has_marks_after c.args.sections.now c.args.marks.now c.mark_superclass.new.marks (OfDesc k.0.ty ∷ if_any (λ t. OfDesc t ∷ []) k.0.superclass) c.requires.marks (super at.In_ok-mark_superclass k.0 k.1 (own at.In_ok-mark k.0 k.1))

pub mark_source-requires-clause-marks : goal.mark_source-requires-clause-marks
mark_source-requires-clause-marks c =
    let k = c.requires.class in
    let at = goal.at.mark_source-requires-clause-marks c in
    has_marks_after c.args.sections.now c.args.marks.now c.mark_list.new.self (OfDesc k.0.ty ∷ (if_any (λ t. OfDesc t ∷ []) k.0.superclass ++ map OfDesc k.0.interfaces)) c.requires.marks
    (list at.In_ok-mark_list k.0 k.1 (super at.In_ok-mark_superclass k.0 k.1 (own at.In_ok-mark k.0 k.1)))

pub returns-clause-marked : goal.returns-clause-marked
returns-clause-marked c = λ k m.
    let at = goal.at.returns-clause-marked c in
    let source = c.in_ok-mark_source.ensures.marked k.source (subst (λ n. IndexOrNone (StringStands c.args.sections.now) n k.source) (sym c.class_word-source.ensures) m.head.row.written_in) in
    adds_more c.args.sections.now c.args.marks.now c.mark_list.new.self c.mark_source.new.marks (OfDesc k.ty ∷ (if_any (λ t. OfDesc t ∷ []) k.superclass ++ map OfDesc k.interfaces)) (if_any (λ s. OfText s ∷ []) k.source)
    (list at.In_ok-mark_list k m (super at.In_ok-mark_superclass k m (own at.In_ok-mark k m))) source

use Rattle.std.proofs.Common.{◌+◌, ◌*◌, ◌++◌, ℕ, map, inl, refl, subst, arith}
use Rattle.std.specs.List.{flat_map}
use Rattle.std.proofs.lemmas.List.{length-map}
use Rattle.program_types.specs.Mentions.{field_of_class, names_of_method, names_of_value}
use Rattle.file_layout.specs.Sections.{wide_all}
use Rattle.file_limits.specs.inner.Sum.{IsSum}
use Rattle.file_limits.specs.Wide.{bodies_in, wide_body}
use Rattle.file_limits.proofs.SumLaws.{wide_all_append}
use Rattle.dex_value.specs.Wide.{wide_values}
use Rattle.program_types.specs.Content.{Class, values}
use Rattle.file_classes.specs.inner.Reading.{entries, field_entry, method_entry}
use Rattle.file_strip.specs.inner.Survey.{FindsNames, SpellsMembers}
use Rattle.file_strip.proofs.FoundLaws.{finds_marked, finds_more, has_found_after, has_marks}
use Rattle.file_strip.proofs.survey.visit_members.Goals as goal
use Rattle.file_strip.proofs.survey.visit_members.Goals.{In_ok-array, In_ok-mark_fields, In_ok-mark_fields-2}

-- what is found with the fields of the class itself
statics : (c : In_ok-mark_fields) (k : Class) → SpellsMembers c.args.sections.now (entries c.args.all.now) c.args.values k → FindsNames c.args.sections.now c.args.found.now (record c.args.found.now { marks = c.mark_fields.new.marks }) (map (field_of_class k.ty) k.statics)
statics c k m = finds_marked c.args.sections.now c.args.found.now c.mark_fields.new.marks (map (field_of_class k.ty) k.statics) ((rw c.deref.ensures.value at c.in_ok-mark_fields.ensures.marked) (record { class = k.ty; fields = k.statics; spelled = m.members.statics }))

-- .. with their values
array : (c : In_ok-array) (k : Class) → SpellsMembers c.args.sections.now (entries c.args.all.now) c.args.values k → FindsNames c.args.sections.now c.args.found.now (record c.args.found.now { marks = c.mark_fields.new.marks }) (map (field_of_class k.ty) k.statics)
    → FindsNames c.args.sections.now c.args.found.now c.visit_values.new.found (map (field_of_class k.ty) k.statics ++ flat_map names_of_value k.values)
array c k m f = finds_more c.args.sections.now c.args.found.now _ c.visit_values.new.found (map (field_of_class k.ty) k.statics) (flat_map names_of_value k.values) f (c.in_ok-array.ensures.found m.most k.values m.values)

-- .. with the fields of instances
instances : (c : In_ok-mark_fields-2) (k : Class) → SpellsMembers c.args.sections.now (entries c.args.all.now) c.args.values k → FindsNames c.args.sections.now c.args.found.now c.visit_values.new.found (map (field_of_class k.ty) k.statics ++ flat_map names_of_value k.values)
    → FindsNames c.args.sections.now c.args.found.now (record c.visit_values.new.found { marks = c.mark_fields-2.new.marks }) (map (field_of_class k.ty) k.statics ++ flat_map names_of_value k.values ++ map (field_of_class k.ty) k.instances)
instances c k m f =
    finds_more c.args.sections.now c.args.found.now c.visit_values.new.found _ (map (field_of_class k.ty) k.statics ++ flat_map names_of_value k.values) (map (field_of_class k.ty) k.instances) f
    (finds_marked c.args.sections.now c.visit_values.new.found c.mark_fields-2.new.marks (map (field_of_class k.ty) k.instances) ((rw c.deref-2.ensures.value at c.in_ok-mark_fields-2.ensures.marked) (record { class = k.ty; fields = k.instances; spelled = m.members.instances })))

pub visit_values-requires-clause-found : goal.visit_values-requires-clause-found
visit_values-requires-clause-found c =
    let k = c.requires.members in
    has_found_after c.args.sections.now c.args.found.now _ (map (field_of_class k.0.ty) k.0.statics) c.requires.found (statics (goal.at.visit_values-requires-clause-found c).In_ok-mark_fields k.0 k.1)

pub mark_fields-requires-2-clause-marks : goal.mark_fields-requires-2-clause-marks
mark_fields-requires-2-clause-marks c =
    let k = c.requires.members in
    let at = goal.at.mark_fields-requires-2-clause-marks c in
    has_marks c.args.sections.now c.visit_values.new.found (has_found_after c.args.sections.now c.args.found.now _ (map (field_of_class k.0.ty) k.0.statics ++ flat_map names_of_value k.0.values) c.requires.found (array at.In_ok-array k.0 k.1 (statics at.In_ok-mark_fields k.0 k.1)))

pub visit_methods-requires-clause-found : goal.visit_methods-requires-clause-found
visit_methods-requires-clause-found c =
    let k = c.requires.members in
    let at = goal.at.visit_methods-requires-clause-found c in
    has_found_after c.args.sections.now c.args.found.now _ (map (field_of_class k.0.ty) k.0.statics ++ flat_map names_of_value k.0.values ++ map (field_of_class k.0.ty) k.0.instances) c.requires.found
    (instances at.In_ok-mark_fields-2 k.0 k.1 (array at.In_ok-array k.0 k.1 (statics at.In_ok-mark_fields k.0 k.1)))

pub visit_methods-requires-2-clause-found : goal.visit_methods-requires-2-clause-found
visit_methods-requires-2-clause-found c =
    let b = c.args.sections.now in
    let k = c.requires.members in
    let at = goal.at.visit_methods-requires-2-clause-found c in
    let h = has_found_after b c.args.found.now _ (map (field_of_class k.0.ty) k.0.statics ++ flat_map names_of_value k.0.values ++ map (field_of_class k.0.ty) k.0.instances) c.requires.found
    (instances at.In_ok-mark_fields-2 k.0 k.1 (array at.In_ok-array k.0 k.1 (statics at.In_ok-mark_fields k.0 k.1))) in
    has_found_after b _ c.visit_methods.new.found (flat_map (names_of_method k.0.ty) k.0.directs) h ((rw c.deref-3.ensures.value at c.in_ok-directs.ensures.found) (record { class = k.0.ty; methods = k.0.directs; spelled = k.1.members.directs; codes = k.1.directs }))

pub returns-clause-found : goal.returns-clause-found
returns-clause-found c = λ k m.
    let b = c.args.sections.now in
    let at = goal.at.returns-clause-found c in
    let fields = map (field_of_class k.ty) k.statics ++ flat_map names_of_value k.values ++ map (field_of_class k.ty) k.instances in
    let directs = flat_map (names_of_method k.ty) k.directs in
    let f4 = (rw c.deref-3.ensures.value at c.in_ok-directs.ensures.found) (record { class = k.ty; methods = k.directs; spelled = m.members.directs; codes = m.directs }) in
    let f5 = (rw c.deref-4.ensures.value at c.in_ok-virtuals.ensures.found) (record { class = k.ty; methods = k.virtuals; spelled = m.members.virtuals; codes = m.virtuals }) in
    let g4 = finds_more b c.args.found.now _ c.visit_methods.new.found fields directs (instances at.In_ok-mark_fields-2 k m (array at.In_ok-array k m (statics at.In_ok-mark_fields k m))) f4 in
    finds_more b c.args.found.now c.visit_methods.new.found c.visit_methods-2.new.found (fields ++ directs) (flat_map (names_of_method k.ty) k.virtuals) g4 f5

pub returns-clause-wide : goal.returns-clause-wide
returns-clause-wide c = λ k m.
    let n1 = length-map c.args.all.now.statics.items field_entry in
    let n2 = length-map c.args.all.now.instances.items field_entry in
    let n3 = length-map c.args.all.now.directs.items method_entry in
    let n4 = length-map c.args.all.now.virtuals.items method_entry in
    let c1 = m.members.statics.count in let c2 = m.members.instances.count in let c3 = m.members.directs.count in let c4 = m.members.virtuals.count in
    let l1 = c.len.ensures in let l2 = c.len-2.ensures in let l3 = c.len-3.ensures in let l4 = c.len-4.ensures in
    let fields = c.plus-fields.ensures (10 * c.len.result) (10 * c.len-2.result) c.times.ensures c.times-2.ensures in
    let methods = c.plus-methods.ensures (15 * c.len-3.result) (15 * c.len-4.result) c.times-3.ensures c.times-4.ensures in
    let front = c.plus.ensures 20 (10 * c.len.result + 10 * c.len-2.result) (inl refl) fields in
    let items = c.plus-data.ensures (20 + (10 * c.len.result + 10 * c.len-2.result)) (15 * c.len-3.result + 15 * c.len-4.result) front methods in
    let w = wide_values (values k.values) in
    let array = c.plus-2.ensures 5 w (inl refl) (inl (c.in_ok-array.ensures.wide m.most k.values m.values)) in
    let d = wide_all wide_body (bodies_in k.directs) in
    let v = wide_all wide_body (bodies_in k.virtuals) in
    let bodies = c.plus-4.ensures d v ((rw c.deref-3.ensures.value at c.in_ok-directs.ensures.wide) (record { class = k.ty; methods = k.directs; spelled = m.members.directs; codes = m.directs })) ((rw c.deref-4.ensures.value at c.in_ok-virtuals.ensures.wide) (record { class = k.ty; methods = k.virtuals; spelled = m.members.virtuals; codes = m.virtuals })) in
    let both = wide_all_append wide_body (bodies_in k.directs) (bodies_in k.virtuals) in
    subst (λ (n : ℕ). IsSum c.plus-5.result n) (omega (arith, n1, n2, n3, n4, c1, c2, c3, c4, l1, l2, l3, l4, both))
    (c.plus-5.ensures (20 + (10 * c.len.result + 10 * c.len-2.result) + (15 * c.len-3.result + 15 * c.len-4.result) + (5 + w)) (d + v)
    (c.plus-3.ensures (20 + (10 * c.len.result + 10 * c.len-2.result) + (15 * c.len-3.result + 15 * c.len-4.result)) (5 + w) items array) bodies)

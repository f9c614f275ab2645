use Rattle.std.proofs.Common.{◌≡◌, ◌++◌, ℕ, List, length, map, sym, subst, ap, ◌∙◌, arith, length-drop}
use Rattle.std.proofs.lemmas.List.{length-map, length-take, take-append-drop}
use Rattle.std.proofs.lemmas.Result.{on_ok_weaker}
use Rattle.file_classes.specs.inner.Reading.{field_entry, method_entry}
use Rattle.file_classes.specs.declared.class_data.FieldEntry.{FieldEntry}
use Rattle.file_classes.specs.declared.class_data.MethodEntry.{MethodEntry}
use Rattle.file_put.specs.inner.Data.{FieldRanks, MethodRanks}
use Rattle.tables_names.specs.Closure.{NameRanks}
use Rattle.file_strip.specs.inner.Members.{IsCarriedRun}
use Rattle.file_put.proofs.ClassDataLaws.{members_append}
use Rattle.file_strip.proofs.datas.put_members.Goals as goal

pub put_counts-requires-clause-statics : goal.put_counts-requires-clause-statics
put_counts-requires-clause-statics c = let m = c.requires.members in let n = m.2.statics.count in let l = length-map c.args.all.now.statics.items field_entry in omega (arith, n, l, m.3)

pub put_counts-requires-clause-instances : goal.put_counts-requires-clause-instances
put_counts-requires-clause-instances c = let m = c.requires.members in let n = m.2.instances.count in let l = length-map c.args.all.now.instances.items field_entry in omega (arith, n, l, m.3)

pub put_counts-requires-clause-directs : goal.put_counts-requires-clause-directs
put_counts-requires-clause-directs c = let m = c.requires.members in let n = m.2.directs.count in let l = length-map c.args.all.now.directs.items method_entry in omega (arith, n, l, m.3)

pub put_counts-requires-clause-virtuals : goal.put_counts-requires-clause-virtuals
put_counts-requires-clause-virtuals c = let m = c.requires.members in let n = m.2.virtuals.count in let l = length-map c.args.all.now.virtuals.items method_entry in omega (arith, n, l, m.3)

pub put_fields-requires-clause-run : goal.put_fields-requires-clause-run
put_fields-requires-clause-run c =
    let m = c.requires.members in
    (m.0, m.1.ty, m.1.statics, subst (λ (xs : List FieldEntry). IsCarriedRun c.args.numbers.now.fields (FieldRanks (NameRanks m.0) m.1.ty) (map field_entry xs) m.1.statics) (sym c.deref.ensures.value) m.2.statics)

pub put_fields-requires-2-clause-run : goal.put_fields-requires-2-clause-run
put_fields-requires-2-clause-run c =
    let m = c.requires.members in
    (m.0, m.1.ty, m.1.instances, subst (λ (xs : List FieldEntry). IsCarriedRun c.args.numbers.now.fields (FieldRanks (NameRanks m.0) m.1.ty) (map field_entry xs) m.1.instances) (sym c.deref-2.ensures.value) m.2.instances)

pub put_methods-requires-clause-run : goal.put_methods-requires-clause-run
put_methods-requires-clause-run c =
    let m = c.requires.members in
    (m.0, m.1.ty, m.1.directs, subst (λ (xs : List MethodEntry). IsCarriedRun c.args.numbers.now.methods (MethodRanks (NameRanks m.0) m.1.ty) (map method_entry xs) m.1.directs) (sym c.deref-3.ensures.value) m.2.directs)

pub put_methods-requires-2-clause-run : goal.put_methods-requires-2-clause-run
put_methods-requires-2-clause-run c =
    let m = c.requires.members in
    (m.0, m.1.ty, m.1.virtuals, subst (λ (xs : List MethodEntry). IsCarriedRun c.args.numbers.now.methods (MethodRanks (NameRanks m.0) m.1.ty) (map method_entry xs) m.1.virtuals) (sym c.deref-4.ensures.value) m.2.virtuals)

pub put_fields-requires-clause-few : goal.put_fields-requires-clause-few
put_fields-requires-clause-few c = c.requires.members.2.few_fields

pub put_fields-requires-2-clause-few : goal.put_fields-requires-2-clause-few
put_fields-requires-2-clause-few c = c.requires.members.2.few_fields

pub put_methods-requires-clause-few : goal.put_methods-requires-clause-few
put_methods-requires-clause-few c = c.requires.members.2.few_methods

pub put_methods-requires-2-clause-few : goal.put_methods-requires-2-clause-few
put_methods-requires-2-clause-few c = c.requires.members.2.few_methods

pub put_methods-requires-clause-codes : goal.put_methods-requires-clause-codes
put_methods-requires-clause-codes c =
    let n = length c.args.all.now.directs.items in
    let l = ap length c.split_at.ensures.front in
    let t = length-take n c.args.codes.now in
    let e = ap length c.deref-3.ensures.value in
    omega (arith, l, t, e, c.requires.codes)

pub put_methods-requires-2-clause-codes : goal.put_methods-requires-2-clause-codes
put_methods-requires-2-clause-codes c =
    let n = length c.args.all.now.directs.items in
    let l = ap length c.split_at.ensures.back in
    let t = length-drop n c.args.codes.now in
    let e = ap length c.deref-4.ensures.value in
    omega (arith, l, t, e, c.requires.codes)

pub returns-clause-ok : goal.returns-clause-ok
returns-clause-ok c =
    on_ok_weaker c.put_methods-2.result
    (λ v s x m.
    let numbers = c.args.numbers.now in
    let all = c.args.all.now in
    let codes : List ℕ = c.args.codes.now in
    let whole : codes ≡ c.split_at.result.0.now ++ c.split_at.result.1.now = sym ((λ j. c.split_at.ensures.front j ++ c.split_at.ensures.back j) ∙ take-append-drop c.len.result codes) in
    let f1 = sym (length-map all.statics.items field_entry) ∙ sym m.statics.count in
    let f2 = sym (length-map all.instances.items field_entry) ∙ sym m.instances.count in
    let f3 = sym (length-map all.directs.items method_entry) ∙ sym m.directs.count in
    let f4 = sym (length-map all.virtuals.items method_entry) ∙ sym m.virtuals.count in
    members_append s x _ _ _ _ codes c.split_at.result.0.now c.split_at.result.1.now _ _ _ _ _ c.put_methods-2.new.out.items f1 f2 f3 f4 whole
    c.in_ok-put_counts.ensures.ok
    (c.in_ok-put_fields.ensures.ok s x.ty x.statics (subst (λ (xs : List FieldEntry). IsCarriedRun numbers.fields (FieldRanks (NameRanks s) x.ty) (map field_entry xs) x.statics) (sym c.deref.ensures.value) m.statics))
    (c.in_ok-put_fields-2.ensures.ok s x.ty x.instances (subst (λ (xs : List FieldEntry). IsCarriedRun numbers.fields (FieldRanks (NameRanks s) x.ty) (map field_entry xs) x.instances) (sym c.deref-2.ensures.value) m.instances))
    (c.in_ok-put_methods.ensures.ok s x.ty x.directs (subst (λ (xs : List MethodEntry). IsCarriedRun numbers.methods (MethodRanks (NameRanks s) x.ty) (map method_entry xs) x.directs) (sym c.deref-3.ensures.value) m.directs))
    (v s x.ty x.virtuals (subst (λ (xs : List MethodEntry). IsCarriedRun numbers.methods (MethodRanks (NameRanks s) x.ty) (map method_entry xs) x.virtuals) (sym c.deref-4.ensures.value) m.virtuals)))
    c.put_methods-2.ensures.ok

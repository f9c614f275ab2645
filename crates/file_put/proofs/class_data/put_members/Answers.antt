use Rattle.std.proofs.Common.{◌++◌, ◌∙◌, sym}
use Rattle.std.proofs.lemmas.List.{take-append-drop, length-map}
use Rattle.std.proofs.lemmas.Result.{on_ok_weaker}
use Rattle.program_types.specs.Mentions.{field_of_class}
use Rattle.program_types.specs.View as view
use Rattle.tables_names.specs.Closure.{method_of_class}
use Rattle.file_put.proofs.ClassDataLaws.{members_append}
use Rattle.file_put.proofs.MentionLaws.{members_split, members_within}
use Rattle.file_put.proofs.class_data.put_members.Goals as goal

pub split_at-requires : goal.split_at-requires
split_at-requires c = members_within c.args.ranks.now (field_of_class (view.desc c.args.class.now.ty)) view.member c.args.class.now.statics.now c.args.class.now.instances.now c.args.own_fields.now c.requires.fields

pub split_at-requires-2 : goal.split_at-requires-2
split_at-requires-2 c = members_within c.args.ranks.now (method_of_class (view.desc c.args.class.now.ty)) view.method c.args.class.now.directs.now c.args.class.now.virtuals.now c.args.own_methods.now c.requires.methods

pub put_fields-requires-clause-own : goal.put_fields-requires-clause-own
put_fields-requires-clause-own c =
    let fields = members_split c.args.ranks.now (field_of_class (view.desc c.args.class.now.ty)) view.member c.args.class.now.statics.now c.args.class.now.instances.now c.args.own_fields.now _ _ c.requires.fields c.split_at.ensures.front c.split_at.ensures.back in
    (view.desc c.args.class.now.ty, fields.0)

pub put_fields-requires-2-clause-own : goal.put_fields-requires-2-clause-own
put_fields-requires-2-clause-own c =
    let fields = members_split c.args.ranks.now (field_of_class (view.desc c.args.class.now.ty)) view.member c.args.class.now.statics.now c.args.class.now.instances.now c.args.own_fields.now _ _ c.requires.fields c.split_at.ensures.front c.split_at.ensures.back in
    (view.desc c.args.class.now.ty, fields.1)

pub put_methods-requires-clause-own : goal.put_methods-requires-clause-own
put_methods-requires-clause-own c =
    let methods = members_split c.args.ranks.now (method_of_class (view.desc c.args.class.now.ty)) view.method c.args.class.now.directs.now c.args.class.now.virtuals.now c.args.own_methods.now _ _ c.requires.methods c.split_at-2.ensures.front c.split_at-2.ensures.back in
    (view.desc c.args.class.now.ty, methods.0)

pub put_methods-requires-2-clause-own : goal.put_methods-requires-2-clause-own
put_methods-requires-2-clause-own c =
    let methods = members_split c.args.ranks.now (method_of_class (view.desc c.args.class.now.ty)) view.method c.args.class.now.directs.now c.args.class.now.virtuals.now c.args.own_methods.now _ _ c.requires.methods c.split_at-2.ensures.front c.split_at-2.ensures.back in
    (view.desc c.args.class.now.ty, methods.1)

pub returns-clause-ok : goal.returns-clause-ok
returns-clause-ok c =
    let ty = view.desc c.args.class.now.ty in
    let fields = members_split c.args.ranks.now (field_of_class (view.desc c.args.class.now.ty)) view.member c.args.class.now.statics.now c.args.class.now.instances.now c.args.own_fields.now _ _ c.requires.fields c.split_at.ensures.front c.split_at.ensures.back in
    let methods = members_split c.args.ranks.now (method_of_class (view.desc c.args.class.now.ty)) view.method c.args.class.now.directs.now c.args.class.now.virtuals.now c.args.own_methods.now _ _ c.requires.methods c.split_at-2.ensures.front c.split_at-2.ensures.back in
    let cut = c.split_at-3.ensures in
    let class = c.args.class.now in
    on_ok_weaker c.put_methods-2.result
    (λ v. members_append c.args.ranks.now (view.class class) _ _ _ _ c.args.codes.now _ _ _ _ _ _ _ c.put_methods-2.new.out.items
    (sym (length-map class.statics.now view.member)) (sym (length-map class.instances.now view.member)) (sym (length-map class.directs.now view.method)) (sym (length-map class.virtuals.now view.method))
    (sym ((λ i. cut.front i ++ cut.back i) ∙ take-append-drop _ c.args.codes.now))
    c.in_ok-put_counts.ensures.ok (c.in_ok-put_fields.ensures.ok ty fields.0) (c.in_ok-put_fields-2.ensures.ok ty fields.1) (c.in_ok-put_methods.ensures.ok ty methods.0) (v ty methods.1))
    c.put_methods-2.ensures.ok

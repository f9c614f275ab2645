use Rattle.program_types.specs.Key.{text_key}
use Rattle.std.proofs.Common.{subst, sym, ◌∙◌, ap}
use Rattle.tables_names.specs.Keys.{key_of_proto, key_of_method}
use Rattle.program_types.specs.View.{desc, str}
use Rattle.tables_names.specs.Closure.{Five, AddsPart, IsPart, method_closure, join, type_closure, with_name, with_parts}
use Rattle.tables_names.specs.Numbers.{Order, sets}
use Rattle.tables_names.proofs.FiveLemmas.{refused, wider, more_added, type_parts, member_front, class_in_front, class_text_in_front, front_in_method, parts_in_method, method_parts, IsPart-refl, IsPart-trans}
use Rattle.tables_names.proofs.PlaceLemmas.{member_at}
use Rattle.tables_names.proofs.NumberLemmas.{sets_rise, AllGrow-refl, AllGrow-trans}
use Rattle.tables_names.proofs.NeededLemmas.{absorbed}
use Rattle.std.proofs.lemmas.Result.{on_ok_weaker, on_err_weaker}
use Rattle.tables_names.proofs.NumberedNamesLemmas.{order_of, none_when, still_absent, method_is_there}
use Rattle.tables_names.proofs.numbered.NumberedNames.add_method.Goals as goal

pub returns-in-Some-clause-added : goal.returns-in-Some-clause-added
unfolding with_name
returns-in-Some-clause-added c =
    rw (← c.self.view_is) (method_is_there (order_of c.self.inside) c.self.invariant (key_of_method c.args.name.now) (member_at c.self.inside.methods.names c.in-Some.number (key_of_method c.args.name.now) c.in-Some.ensures.some))

pub returns-in-Some-clause-grows : goal.returns-in-Some-clause-grows
returns-in-Some-clause-grows c = AllGrow-refl c.args.self.now.names

pub returns-in_err-class-clause-partly : goal.returns-in_err-class-clause-partly
unfolding with_name with_parts
returns-in_err-class-clause-partly c =
    let class = desc c.args.name.now.class in
    let name = str c.args.name.now.name in
    let parts = method_parts class name (key_of_proto c.args.name.now.proto.now) in
    refused c.from_residual.result (wider (sets c.args.self.now.names) (type_parts (text_key class)) parts (sets c.add_type.new.self.names) (IsPart-trans (type_parts (text_key class)) (member_front class name) parts (class_text_in_front class name) (front_in_method class name _)) c.in_err-class.ensures.partly)

pub returns-clause-added : goal.returns-clause-added
unfolding with_name
returns-clause-added c =
    let class = desc c.args.name.now.class in
    let name = str c.args.name.now.name in
    let old = sets c.args.self.now.names in
    let whole = method_closure (key_of_method c.args.name.now) in
    let part : IsPart (type_closure (text_key class)) whole = IsPart-trans (type_closure (text_key class)) (method_parts class name (key_of_proto c.args.name.now.proto.now)) whole
    (IsPart-trans (type_closure (text_key class)) (member_front class name) (method_parts class name (key_of_proto c.args.name.now.proto.now)) (class_in_front class name) (front_in_method class name _)) (parts_in_method class name _) in
    on_ok_weaker c.put_method.result (λ a. a ∙ ap (λ s. join s whole) c.in_ok-class.ensures.added ∙ absorbed old (type_closure (text_key class)) whole (sets_rise c.args.self.now.names) part) c.put_method.ensures.added

pub returns-clause-partly : goal.returns-clause-partly
unfolding with_name with_parts
returns-clause-partly c =
    let class = desc c.args.name.now.class in
    let name = str c.args.name.now.name in
    let old = sets c.args.self.now.names in
    let new = sets c.put_method.new.self.names in
    let parts = method_parts class name (key_of_proto c.args.name.now.proto.now) in
    let first : IsPart (type_closure (text_key class)) parts = IsPart-trans (type_closure (text_key class)) (member_front class name) parts (class_in_front class name) (front_in_method class name _) in
    on_err_weaker c.put_method.result (λ a. more_added old (type_closure (text_key class)) parts parts new first (IsPart-refl parts) (subst (λ (s : Five). AddsPart s new (join s parts)) c.in_ok-class.ensures.added a)) c.put_method.ensures.partly

pub returns-clause-grows : goal.returns-clause-grows
returns-clause-grows c =
    AllGrow-trans c.args.self.now.names c.add_type.new.self.names c.put_method.new.self.names c.add_type.ensures.grows c.put_method.ensures.grows

pub put_method-requires-clause-absent : goal.put_method-requires-clause-absent
unfolding with_name
put_method-requires-clause-absent c =
    let same = ap (λ (f : Five). f.methods) c.in_ok-class.ensures.added ∙ sym (ap (λ (x : Order). (sets x.names).methods) c.self.view_is) in
    still_absent c.self.inside.methods.names c.add_type.new.self.names.methods (key_of_method c.args.name.now) same (none_when c.number_of.result c.number_of.ensures.none c.in_default.not-Some)

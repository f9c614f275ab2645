use Rattle.program_types.specs.Key.{text_key}
use Rattle.std.proofs.Common.{subst, sym, ◌≡◌, ◌∙◌, ap, ◌++◌, ◌∷◌, []}
use Rattle.tables_names.specs.Keys.{key_of_proto, key_of_method}
use Rattle.tables_names.specs.Rank.{IsAt}
use Rattle.program_types.specs.View.{desc, str}
use Rattle.tables_names.specs.Closure.{Five, AddsPart, join, string_closure, proto_closure, with_name, with_proto, with_parts, with_proto_parts}
use Rattle.tables_names.specs.Numbers.{Order, sets, AllGrow}
use Rattle.tables_names.proofs.FiveLemmas.{refused, unchanged, more_added, all_added, parts_of_proto, member_front, front_in_method, proto_parts_in_method, method_parts}
use Rattle.tables_names.proofs.NumberLemmas.{AllGrow-trans, Grows-refl, Grows-pushed, set_pushed, numbered-methods}
use Rattle.tables_names.proofs.NumberedNamesLemmas.{order_of, type_is_there, still_absent, method_added, method_with_parts}
use Rattle.tables_names.proofs.numbered.NumberedNames.put_method.Goals as goal
use Rattle.tables_names.proofs.numbered.NumberedNames.put_method.Goals.{In_ok-proto}

-- once the name and the prototype are held, all parts are
all_held : (c : In_ok-proto) → sets c.add_proto.new.self.names ≡ join (sets c.args.self.now.names) (method_parts (desc c.args.name.now.class) (str c.args.name.now.name) (key_of_proto c.args.name.now.proto.now))
unfolding with_name with_proto
all_held c =
    c.in_ok-proto.ensures.added ∙ ap (λ s. join s (proto_closure (key_of_proto c.args.name.now.proto.now)))
    (c.in_ok-text.ensures.added ∙ ap (λ s. join s (string_closure (text_key (str c.args.name.now.name)))) (type_is_there c.args.self.now c.has_parts.ensures (text_key (desc c.args.name.now.class)) c.args.class c.requires.class))

pub returns-in_err-text-clause-partly : goal.returns-in_err-text-clause-partly
unfolding with_parts
returns-in_err-text-clause-partly c =
    let parts = method_parts (desc c.args.name.now.class) (str c.args.name.now.name) (key_of_proto c.args.name.now.proto.now) in
    rw c.in_err-text.ensures.unchanged (refused c.from_residual.result (unchanged (sets c.args.self.now.names) parts))

pub returns-in_err-proto-clause-partly : goal.returns-in_err-proto-clause-partly
unfolding with_name with_parts with_proto_parts
returns-in_err-proto-clause-partly c =
    let class = desc c.args.name.now.class in
    let name = str c.args.name.now.name in
    let proto = key_of_proto c.args.name.now.proto.now in
    let two : sets c.add_string.new.self.names ≡ join (sets c.args.self.now.names) (member_front class name) = c.in_ok-text.ensures.added ∙ ap (λ s. join s (string_closure (text_key name))) (type_is_there c.args.self.now c.has_parts.ensures (text_key (desc c.args.name.now.class)) c.args.class c.requires.class) in
    refused c.from_residual-in_err-proto.result
    (more_added (sets c.args.self.now.names) (member_front class name) (parts_of_proto proto) (method_parts class name proto) (sets c.add_proto.new.self.names) (front_in_method class name proto) (proto_parts_in_method class name proto) (subst (λ (s : Five). AddsPart s (sets c.add_proto.new.self.names) (join s (parts_of_proto proto))) two c.in_err-proto.ensures.partly))

pub add-requires : goal.add-requires
unfolding with_name with_proto
add-requires c =
    let now = ap (λ (x : Order). sets x.names) c.self.view_is ∙ all_held (goal.at.add-requires c).In_ok-proto in
    still_absent c.args.self.now.names.methods c.self.inside.methods.names (key_of_method c.args.name.now) (ap (λ (f : Five). f.methods) now) c.requires.absent

pub invariant_of-self : goal.invariant_of-self
invariant_of-self c = rw (c.in_err-number.ensures.same_names, c.in_err-number.ensures.same_parts) c.self.invariant

pub returns-in_err-number-clause-partly : goal.returns-in_err-number-clause-partly
unfolding with_name with_proto with_parts
returns-in_err-number-clause-partly c =
    let name = str c.args.name.now.name in
    let proto = key_of_proto c.args.name.now.proto.now in
    let parts = method_parts (desc c.args.name.now.class) name proto in
    let now = ap (λ (x : Order). sets x.names) c.self.view_is ∙ all_held (goal.at.returns-in_err-number-clause-partly c).In_ok-proto in
    rw (c.in_err-number.ensures.same_names, now) (refused c.from_residual-in_err-number.result (all_added (sets c.args.self.now.names) parts))

pub invariant_of-self-2 : goal.invariant_of-self-2
unfolding with_name with_proto
invariant_of-self-2 c =
    let class = desc c.args.name.now.class in
    let name = str c.args.name.now.name in
    let proto = key_of_proto c.args.name.now.proto.now in
    let o = order_of c.self.inside in
    let now = ap (λ (x : Order). sets x.names) c.self.view_is ∙ all_held (goal.at.invariant_of-self-2 c).In_ok-proto in
    let last = c.add_proto.new.self.names in
    let class_at : IsAt last.types c.args.class (text_key class) = c.add_proto.ensures.grows.types.each _ _ (c.add_string.ensures.grows.types.each _ _ c.requires.class) in
    let name_at : IsAt last.strings c.in_ok-text.text (text_key name) = c.add_proto.ensures.grows.strings.each _ _ c.in_ok-text.ensures.number in
    let at = subst (λ (x : Order). IsAt x.names.types c.args.class (text_key class) × IsAt x.names.strings c.in_ok-text.text (text_key name) × IsAt x.names.protos c.in_ok-proto.proto proto) (sym c.self.view_is) (class_at, name_at, c.in_ok-proto.ensures.number) in
    rw (c.in_ok-number.ensures.names, c.in_ok-number.ensures.parts)
    (numbered-methods o c.self.invariant (key_of_method c.args.name.now) (record { class = c.args.class; name = c.in_ok-text.text; proto = c.in_ok-proto.proto }) at (method_with_parts (sets c.args.self.now.names) o class name proto now))

pub returns-clause-added : goal.returns-clause-added
unfolding with_name with_proto
returns-clause-added c =
    let class = desc c.args.name.now.class in
    let name = str c.args.name.now.name in
    let proto = key_of_proto c.args.name.now.proto.now in
    let o = order_of c.self.inside in
    let now = ap (λ (x : Order). sets x.names) c.self.view_is ∙ all_held (goal.at.returns-clause-added c).In_ok-proto in
    rw (c.in_ok-number.ensures.names, set_pushed) (method_added (sets c.args.self.now.names) o class name proto now)

pub returns-clause-grows : goal.returns-clause-grows
returns-clause-grows c =
    let old = c.args.self.now.names in
    let both : AllGrow old c.add_proto.new.self.names = AllGrow-trans old c.add_string.new.self.names c.add_proto.new.self.names c.add_string.ensures.grows c.add_proto.ensures.grows in
    let k = key_of_method c.args.name.now in
    let o = order_of c.self.inside in
    let first : AllGrow old o.names = subst (λ (x : Order). AllGrow old x.names) (sym c.self.view_is) both in
    rw c.in_ok-number.ensures.names
    (AllGrow-trans old o.names (record o.names { methods = o.names.methods ++ k ∷ [] }) first (record { strings = Grows-refl _; types = Grows-refl _; protos = Grows-refl _; fields = Grows-refl _; methods = Grows-pushed o.names.methods k }))

pub returns-in_err-proto-clause-grows : goal.returns-in_err-proto-clause-grows
returns-in_err-proto-clause-grows c =
    AllGrow-trans c.args.self.now.names c.add_string.new.self.names c.add_proto.new.self.names c.add_string.ensures.grows c.add_proto.ensures.grows

pub returns-in_err-number-clause-grows : goal.returns-in_err-number-clause-grows
returns-in_err-number-clause-grows c =
    let old = c.args.self.now.names in
    let both : AllGrow old c.add_proto.new.self.names = AllGrow-trans old c.add_string.new.self.names c.add_proto.new.self.names c.add_string.ensures.grows c.add_proto.ensures.grows in
    rw c.in_err-number.ensures.same_names (subst (λ (x : Order). AllGrow old x.names) (sym c.self.view_is) both)

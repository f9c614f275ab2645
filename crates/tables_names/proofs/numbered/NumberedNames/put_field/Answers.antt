use Rattle.program_types.specs.Key.{text_key}
use Rattle.std.proofs.Common.{subst, sym, ◌≡◌, ◌∙◌, ap, ◌++◌, ◌∷◌, []}
use Rattle.tables_names.specs.Keys.{key_of_field}
use Rattle.tables_names.specs.Rank.{IsAt}
use Rattle.program_types.specs.View.{desc, str}
use Rattle.tables_names.specs.Closure.{Five, AddsPart, join, string_closure, type_closure, with_name, with_parts}
use Rattle.tables_names.specs.Numbers.{Order, sets, AllGrow}
use Rattle.tables_names.proofs.FiveLemmas.{refused, unchanged, more_added, all_added, type_parts, member_front, front_in_field, type_text_in_field, field_parts}
use Rattle.tables_names.proofs.NumberLemmas.{AllGrow-trans, Grows-refl, Grows-pushed, set_pushed, numbered-fields}
use Rattle.tables_names.proofs.NumberedNamesLemmas.{order_of, type_is_there, still_absent, field_added, field_with_parts}
use Rattle.tables_names.proofs.numbered.NumberedNames.put_field.Goals as goal
use Rattle.tables_names.proofs.numbered.NumberedNames.put_field.Goals.{In_ok-ty}

-- once the name and the type are held, all parts are
all_held : (c : In_ok-ty) → sets c.add_type.new.self.names ≡ join (sets c.args.self.now.names) (field_parts (desc c.args.name.now.class) (str c.args.name.now.name) (desc c.args.name.now.ty))
unfolding with_name
all_held c =
    c.in_ok-ty.ensures.added ∙ ap (λ s. join s (type_closure (text_key (desc c.args.name.now.ty))))
    (c.in_ok-text.ensures.added ∙ ap (λ s. join s (string_closure (text_key (str c.args.name.now.name)))) (type_is_there c.args.self.now c.has_parts.ensures (text_key (desc c.args.name.now.class)) c.args.class c.requires.class))

pub returns-in_err-text-clause-partly : goal.returns-in_err-text-clause-partly
unfolding with_parts
returns-in_err-text-clause-partly c =
    let parts = field_parts (desc c.args.name.now.class) (str c.args.name.now.name) (desc c.args.name.now.ty) in
    rw c.in_err-text.ensures.unchanged (refused c.from_residual.result (unchanged (sets c.args.self.now.names) parts))

pub returns-in_err-ty-clause-partly : goal.returns-in_err-ty-clause-partly
unfolding with_name with_parts
returns-in_err-ty-clause-partly c =
    let class = desc c.args.name.now.class in
    let name = str c.args.name.now.name in
    let ty = desc c.args.name.now.ty in
    let two : sets c.add_string.new.self.names ≡ join (sets c.args.self.now.names) (member_front class name) = c.in_ok-text.ensures.added ∙ ap (λ s. join s (string_closure (text_key name))) (type_is_there c.args.self.now c.has_parts.ensures (text_key (desc c.args.name.now.class)) c.args.class c.requires.class) in
    refused c.from_residual-in_err-ty.result
    (more_added (sets c.args.self.now.names) (member_front class name) (type_parts (text_key ty)) (field_parts class name ty) (sets c.add_type.new.self.names) (front_in_field class name ty) (type_text_in_field class name ty) (subst (λ (s : Five). AddsPart s (sets c.add_type.new.self.names) (join s (type_parts (text_key ty)))) two c.in_err-ty.ensures.partly))

pub add-requires : goal.add-requires
unfolding with_name
add-requires c =
    let now = ap (λ (x : Order). sets x.names) c.self.view_is ∙ all_held (goal.at.add-requires c).In_ok-ty in
    still_absent c.args.self.now.names.fields c.self.inside.fields.names (key_of_field c.args.name.now) (ap (λ (f : Five). f.fields) now) c.requires.absent

pub invariant_of-self : goal.invariant_of-self
invariant_of-self c = rw (c.in_err-number.ensures.same_names, c.in_err-number.ensures.same_parts) c.self.invariant

pub returns-in_err-number-clause-partly : goal.returns-in_err-number-clause-partly
unfolding with_name with_parts
returns-in_err-number-clause-partly c =
    let name = str c.args.name.now.name in
    let ty = desc c.args.name.now.ty in
    let parts = field_parts (desc c.args.name.now.class) name ty in
    let now = ap (λ (x : Order). sets x.names) c.self.view_is ∙ all_held (goal.at.returns-in_err-number-clause-partly c).In_ok-ty in
    rw (c.in_err-number.ensures.same_names, now) (refused c.from_residual-in_err-number.result (all_added (sets c.args.self.now.names) parts))

pub invariant_of-self-2 : goal.invariant_of-self-2
unfolding with_name
invariant_of-self-2 c =
    let class = desc c.args.name.now.class in
    let name = str c.args.name.now.name in
    let ty = desc c.args.name.now.ty in
    let o = order_of c.self.inside in
    let now = ap (λ (x : Order). sets x.names) c.self.view_is ∙ all_held (goal.at.invariant_of-self-2 c).In_ok-ty in
    let last = c.add_type.new.self.names in
    let class_at : IsAt last.types c.args.class (text_key class) = c.add_type.ensures.grows.types.each _ _ (c.add_string.ensures.grows.types.each _ _ c.requires.class) in
    let name_at : IsAt last.strings c.in_ok-text.text (text_key name) = c.add_type.ensures.grows.strings.each _ _ c.in_ok-text.ensures.number in
    let at = subst (λ (x : Order). IsAt x.names.types c.args.class (text_key class) × IsAt x.names.strings c.in_ok-text.text (text_key name) × IsAt x.names.types c.in_ok-ty.ty (text_key ty)) (sym c.self.view_is) (class_at, name_at, c.in_ok-ty.ensures.number) in
    rw (c.in_ok-number.ensures.names, c.in_ok-number.ensures.parts)
    (numbered-fields o c.self.invariant (key_of_field c.args.name.now) (record { class = c.args.class; name = c.in_ok-text.text; ty = c.in_ok-ty.ty }) at (field_with_parts (sets c.args.self.now.names) o class name ty now))

pub returns-clause-added : goal.returns-clause-added
unfolding with_name
returns-clause-added c =
    let class = desc c.args.name.now.class in
    let name = str c.args.name.now.name in
    let ty = desc c.args.name.now.ty in
    let o = order_of c.self.inside in
    let now = ap (λ (x : Order). sets x.names) c.self.view_is ∙ all_held (goal.at.returns-clause-added c).In_ok-ty in
    rw (c.in_ok-number.ensures.names, set_pushed) (field_added (sets c.args.self.now.names) o class name ty now)

pub returns-clause-grows : goal.returns-clause-grows
returns-clause-grows c =
    let old = c.args.self.now.names in
    let both : AllGrow old c.add_type.new.self.names = AllGrow-trans old c.add_string.new.self.names c.add_type.new.self.names c.add_string.ensures.grows c.add_type.ensures.grows in
    let k = key_of_field c.args.name.now in
    let o = order_of c.self.inside in
    let first : AllGrow old o.names = subst (λ (x : Order). AllGrow old x.names) (sym c.self.view_is) both in
    rw c.in_ok-number.ensures.names
    (AllGrow-trans old o.names (record o.names { fields = o.names.fields ++ k ∷ [] }) first (record { strings = Grows-refl _; types = Grows-refl _; protos = Grows-refl _; fields = Grows-pushed o.names.fields k; methods = Grows-refl _ }))

pub returns-in_err-ty-clause-grows : goal.returns-in_err-ty-clause-grows
returns-in_err-ty-clause-grows c =
    AllGrow-trans c.args.self.now.names c.add_string.new.self.names c.add_type.new.self.names c.add_string.ensures.grows c.add_type.ensures.grows

pub returns-in_err-number-clause-grows : goal.returns-in_err-number-clause-grows
returns-in_err-number-clause-grows c =
    let old = c.args.self.now.names in
    let both : AllGrow old c.add_type.new.self.names = AllGrow-trans old c.add_string.new.self.names c.add_type.new.self.names c.add_string.ensures.grows c.add_type.ensures.grows in
    rw c.in_err-number.ensures.same_names (subst (λ (x : Order). AllGrow old x.names) (sym c.self.view_is) both)

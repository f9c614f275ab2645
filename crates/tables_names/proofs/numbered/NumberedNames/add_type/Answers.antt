use Rattle.std.proofs.Common.{◌≡◌, subst, sym, ap, ◌∙◌, ◌++◌, ◌∷◌, []}
use Rattle.tables_names.specs.Keys.{key_of_desc}
use Rattle.tables_names.specs.Rank.{IsAt}
use Rattle.tables_names.specs.Closure.{Five, join, string_closure, with_name, with_parts}
use Rattle.tables_names.specs.Numbers.{Order, sets, AllGrow}
use Rattle.tables_names.proofs.FiveLemmas.{refused, unchanged, all_added, type_parts}
use Rattle.tables_names.proofs.NumberLemmas.{AllGrow-refl, AllGrow-trans, Grows-refl, Grows-pushed, set_pushed, numbered-types}
use Rattle.tables_names.proofs.NumberedNamesLemmas.{order_of, none_when, still_absent, type_is_there, type_added, type_with_parts}
use Rattle.tables_names.proofs.numbered.NumberedNames.add_type.Goals as goal

pub returns-in-Some-clause-added : goal.returns-in-Some-clause-added
unfolding with_name
returns-in-Some-clause-added c =
    rw (← c.self.view_is) (type_is_there (order_of c.self.inside) c.self.invariant (key_of_desc c.args.name) c.in-Some.number c.in-Some.ensures.some)

pub returns-in-Some-clause-grows : goal.returns-in-Some-clause-grows
returns-in-Some-clause-grows c = AllGrow-refl c.args.self.now.names

pub returns-in_err-text-clause-partly : goal.returns-in_err-text-clause-partly
unfolding with_parts
returns-in_err-text-clause-partly c =
    rw c.in_err-text.ensures.unchanged (refused c.from_residual.result (unchanged (sets c.args.self.now.names) (type_parts (key_of_desc c.args.name))))

pub add-requires : goal.add-requires
unfolding with_name
add-requires c =
    let now : sets (order_of c.self-2.inside).names ≡ join (sets c.args.self.now.names) (string_closure (key_of_desc c.args.name)) = ap (λ (x : Order). sets x.names) c.self-2.view_is ∙ c.in_ok-text.ensures.added in
    let before : sets (order_of c.self.inside).names ≡ sets c.args.self.now.names = ap (λ (x : Order). sets x.names) c.self.view_is in
    still_absent c.self.inside.types.names c.self-2.inside.types.names (key_of_desc c.args.name) (ap (λ (f : Five). f.types) now ∙ sym (ap (λ (f : Five). f.types) before)) (none_when c.number_of.result c.number_of.ensures.none c.in_default.not-Some)

pub invariant_of-self : goal.invariant_of-self
invariant_of-self c = rw (c.in_err-number.ensures.same_names, c.in_err-number.ensures.same_parts) c.self-2.invariant

pub returns-in_err-number-clause-partly : goal.returns-in_err-number-clause-partly
unfolding with_name with_parts
returns-in_err-number-clause-partly c =
    let k = key_of_desc c.args.name in
    let now : sets (order_of c.self-2.inside).names ≡ join (sets c.args.self.now.names) (string_closure k) = ap (λ (x : Order). sets x.names) c.self-2.view_is ∙ c.in_ok-text.ensures.added in
    rw (c.in_err-number.ensures.same_names, now) (refused c.from_residual-in_err-number.result (all_added (sets c.args.self.now.names) (type_parts k)))

pub invariant_of-self-2 : goal.invariant_of-self-2
unfolding with_name
invariant_of-self-2 c =
    let k = key_of_desc c.args.name in
    let o = order_of c.self-2.inside in
    let now : sets o.names ≡ join (sets c.args.self.now.names) (string_closure k) = ap (λ (x : Order). sets x.names) c.self-2.view_is ∙ c.in_ok-text.ensures.added in
    let at : IsAt o.names.strings c.in_ok-text.text k = subst (λ (x : Order). IsAt x.names.strings c.in_ok-text.text k) (sym c.self-2.view_is) c.in_ok-text.ensures.number in
    rw (c.in_ok-number.ensures.names, c.in_ok-number.ensures.parts) (numbered-types o c.self-2.invariant k (record { text = c.in_ok-text.text }) at (type_with_parts (sets c.args.self.now.names) o k now))

pub returns-clause-added : goal.returns-clause-added
unfolding with_name
returns-clause-added c =
    let k = key_of_desc c.args.name in
    let o = order_of c.self-2.inside in
    let now : sets o.names ≡ join (sets c.args.self.now.names) (string_closure k) = ap (λ (x : Order). sets x.names) c.self-2.view_is ∙ c.in_ok-text.ensures.added in
    rw (c.in_ok-number.ensures.names, set_pushed) (type_added (sets c.args.self.now.names) o k now)

pub returns-clause-grows : goal.returns-clause-grows
returns-clause-grows c =
    let k = key_of_desc c.args.name in
    let o = order_of c.self-2.inside in
    let first : AllGrow c.args.self.now.names o.names = subst (λ (x : Order). AllGrow c.args.self.now.names x.names) (sym c.self-2.view_is) c.add_string.ensures.grows in
    rw c.in_ok-number.ensures.names
    (AllGrow-trans c.args.self.now.names o.names (record o.names { types = o.names.types ++ k ∷ [] }) first (record { strings = Grows-refl _; types = Grows-pushed o.names.types k; protos = Grows-refl _; fields = Grows-refl _; methods = Grows-refl _ }))

pub returns-in_err-number-clause-grows : goal.returns-in_err-number-clause-grows
returns-in_err-number-clause-grows c =
    rw c.in_err-number.ensures.same_names (subst (λ (x : Order). AllGrow c.args.self.now.names x.names) (sym c.self-2.view_is) c.add_string.ensures.grows)

use Rattle.std.proofs.Common.{subst, sym, ◌≡◌, ◌∷◌, ◌++◌, [], map, take, drop, refl, arith, ap, ◌∙◌, suc}
use Rattle.std.proofs.lemmas.List.{take_all}
use Rattle.tables_names.specs.Keys.{key_of_proto, key_of_desc}
use Rattle.tables_names.specs.Rank.{IsAt}
use Rattle.program_types.specs.View.{desc}
use Rattle.tables_names.specs.Closure.{Five, join, type_closure, proto_parts, shorty_of_texts, with_name, with_proto, with_parts, with_proto_parts}
use Rattle.tables_names.specs.Numbers.{Order, sets, AllGrow}
use Rattle.tables_names.proofs.FiveLemmas.{refused, unchanged, all_added, parts_of_proto, next_type, split_at}
use Rattle.tables_names.proofs.NumberLemmas.{AllGrow-refl, AllGrow-trans, Grows-refl, Grows-pushed, set_pushed, numbered-protos}
use Rattle.tables_names.proofs.NumberedNamesLemmas.{order_of, none_when, param_added, still_absent, proto_is_there, proto_added, proto_with_parts}
use Rattle.tables_names.proofs.numbered.NumberedNames.add_proto.Goals as goal

pub returns-in-Some-clause-added : goal.returns-in-Some-clause-added
unfolding with_proto
returns-in-Some-clause-added c =
    rw (← c.self.view_is) (proto_is_there (order_of c.self.inside) c.self.invariant (key_of_proto c.args.name.now) c.in-Some.number c.in-Some.ensures.some)

pub returns-in-Some-clause-grows : goal.returns-in-Some-clause-grows
returns-in-Some-clause-grows c = AllGrow-refl c.args.self.now.names

pub returns-in_err-shorty_of-clause-partly : goal.returns-in_err-shorty_of-clause-partly
unfolding with_proto_parts
returns-in_err-shorty_of-clause-partly c =
    refused c.from_residual.result (unchanged (sets c.args.self.now.names) (parts_of_proto (key_of_proto c.args.name.now)))

pub returns-in_err-add_string-clause-partly : goal.returns-in_err-add_string-clause-partly
unfolding with_proto_parts
returns-in_err-add_string-clause-partly c =
    rw c.in_err-add_string.ensures.unchanged (refused c.from_residual-in_err-add_string.result (unchanged (sets c.args.self.now.names) (parts_of_proto (key_of_proto c.args.name.now))))

pub returns-in_err-ret-clause-partly : goal.returns-in_err-ret-clause-partly
unfolding with_name with_parts with_proto_parts
returns-in_err-ret-clause-partly c =
    let k = key_of_proto c.args.name.now in
    let is : sets c.add_string.new.self.names ≡ join (sets c.args.self.now.names) (proto_parts (shorty_of_texts k) []) = rw c.in_ok-shorty_of.ensures.ok at c.in_ok-add_string.ensures.added in
    refused c.from_residual-in_err-ret.result (next_type (sets c.args.self.now.names) (sets c.add_string.new.self.names) (sets c.add_type.new.self.names) k [] (desc c.args.name.now.ret) (map desc c.args.name.now.params.now) refl is c.in_err-ret.ensures.partly)

pub loop-param-init : goal.loop-param-init
unfolding with_name
loop-param-init c =
    let k = key_of_proto c.args.name.now in
    let first : sets c.add_string.new.self.names ≡ join (sets c.args.self.now.names) (proto_parts (shorty_of_texts k) []) = rw c.in_ok-shorty_of.ensures.ok at c.in_ok-add_string.ensures.added in
    record {
      added = c.in_ok-ret.ensures.added ∙ ap (λ s. join s (type_closure (key_of_desc c.args.name.now.ret))) first;
      ret = c.in_ok-ret.ensures.number;
      grows = AllGrow-trans c.args.self.now.names c.add_string.new.self.names c.add_type.new.self.names c.add_string.ensures.grows c.add_type.ensures.grows;
    }

pub returns-in_err-add_type-clause-partly : goal.returns-in_err-add_type-clause-partly
unfolding with_parts with_proto_parts
returns-in_err-add_type-clause-partly c =
    let k = key_of_proto c.args.name.now in
    let params = c.args.name.now.params.now in
    let i = c.loop-param.param-index in
    let split = split_at desc params i _ (omega arith) in
    refused c.from_residual-in_err-add_type.result
    (next_type (sets c.args.self.now.names) (sets c.loop-param.self.names) (sets c.add_type-in-loop-param.new.self.names) k (desc c.args.name.now.ret ∷ map desc (take i params)) _ (map desc (drop (suc i) params)) (ap (λ l. desc c.args.name.now.ret ∷ l) split) c.loop-param.invariant.added c.in_err-add_type.ensures.partly)

pub add-requires : goal.add-requires
add-requires c =
    let k = key_of_proto c.args.name.now in
    let params = c.args.name.now.params.now in
    let full : take c.loop-param.param-index params ≡ params = take_all _ params (omega arith) in
    let now : sets (order_of c.self-3.inside).names ≡ join (sets c.args.self.now.names) (parts_of_proto k) = ap (λ (x : Order). sets x.names) c.self-3.view_is ∙ rw full at c.loop-param.invariant.added in
    let before : sets (order_of c.self.inside).names ≡ sets c.args.self.now.names = ap (λ (x : Order). sets x.names) c.self.view_is in
    still_absent c.self.inside.protos.names c.self-3.inside.protos.names k (ap (λ (f : Five). f.protos) now ∙ sym (ap (λ (f : Five). f.protos) before)) (none_when c.number_of.result c.number_of.ensures.none c.in_default.not-Some)

pub invariant_of-self : goal.invariant_of-self
invariant_of-self c = rw (c.in_err-number.ensures.same_names, c.in_err-number.ensures.same_parts) c.self-3.invariant

pub returns-in_err-number-clause-partly : goal.returns-in_err-number-clause-partly
unfolding with_proto_parts
returns-in_err-number-clause-partly c =
    let k = key_of_proto c.args.name.now in
    let params = c.args.name.now.params.now in
    let full : take c.loop-param.param-index params ≡ params = take_all _ params (omega arith) in
    let now : sets (order_of c.self-3.inside).names ≡ join (sets c.args.self.now.names) (parts_of_proto k) = ap (λ (x : Order). sets x.names) c.self-3.view_is ∙ rw full at c.loop-param.invariant.added in
    rw (c.in_err-number.ensures.same_names, now) (refused c.from_residual-in_err-number.result (all_added (sets c.args.self.now.names) (parts_of_proto k)))

pub invariant_of-self-2 : goal.invariant_of-self-2
invariant_of-self-2 c =
    let k = key_of_proto c.args.name.now in
    let params = c.args.name.now.params.now in
    let o = order_of c.self-3.inside in
    let full : take c.loop-param.param-index params ≡ params = take_all _ params (omega arith) in
    let now : sets o.names ≡ join (sets c.args.self.now.names) (parts_of_proto k) = ap (λ (x : Order). sets x.names) c.self-3.view_is ∙ rw full at c.loop-param.invariant.added in
    let at : IsAt o.names.types c.in_ok-ret.ret (key_of_desc c.args.name.now.ret) = subst (λ (x : Order). IsAt x.names.types c.in_ok-ret.ret (key_of_desc c.args.name.now.ret)) (sym c.self-3.view_is) c.loop-param.invariant.ret in
    rw (c.in_ok-number.ensures.names, c.in_ok-number.ensures.parts) (numbered-protos o c.self-3.invariant k (record { ret = c.in_ok-ret.ret }) at (proto_with_parts (sets c.args.self.now.names) o k now))

pub returns-clause-added : goal.returns-clause-added
unfolding with_proto
returns-clause-added c =
    let k = key_of_proto c.args.name.now in
    let params = c.args.name.now.params.now in
    let o = order_of c.self-3.inside in
    let full : take c.loop-param.param-index params ≡ params = take_all _ params (omega arith) in
    let now : sets o.names ≡ join (sets c.args.self.now.names) (parts_of_proto k) = ap (λ (x : Order). sets x.names) c.self-3.view_is ∙ rw full at c.loop-param.invariant.added in
    rw (c.in_ok-number.ensures.names, set_pushed) (proto_added (sets c.args.self.now.names) o k now)

pub returns-clause-grows : goal.returns-clause-grows
returns-clause-grows c =
    let k = key_of_proto c.args.name.now in
    let o = order_of c.self-3.inside in
    let first : AllGrow c.args.self.now.names o.names = subst (λ (x : Order). AllGrow c.args.self.now.names x.names) (sym c.self-3.view_is) c.loop-param.invariant.grows in
    rw c.in_ok-number.ensures.names
    (AllGrow-trans c.args.self.now.names o.names (record o.names { protos = o.names.protos ++ k ∷ [] }) first (record { strings = Grows-refl _; types = Grows-refl _; protos = Grows-pushed o.names.protos k; fields = Grows-refl _; methods = Grows-refl _ }))

pub loop-param-preserved : goal.loop-param-preserved
unfolding with_name
loop-param-preserved c =
    let s = c.loop-param.self.names in
    let new = c.add_type-in-loop-param.new.self.names in
    record {
      added = param_added desc (sets c.args.self.now.names) (sets s) (sets new) (shorty_of_texts (key_of_proto c.args.name.now)) (desc c.args.name.now.ret) c.args.name.now.params.now c.loop-param.param-index _ (omega arith) c.loop-param.invariant.added c.in_ok-add_type.ensures.added;
      ret = c.add_type-in-loop-param.ensures.grows.types.each c.in_ok-ret.ret (key_of_desc c.args.name.now.ret) c.loop-param.invariant.ret;
      grows = AllGrow-trans c.args.self.now.names s new c.loop-param.invariant.grows c.add_type-in-loop-param.ensures.grows;
    }

pub returns-in_err-ret-clause-grows : goal.returns-in_err-ret-clause-grows
returns-in_err-ret-clause-grows c =
    AllGrow-trans c.args.self.now.names c.add_string.new.self.names c.add_type.new.self.names c.add_string.ensures.grows c.add_type.ensures.grows

pub returns-in_err-add_type-clause-grows : goal.returns-in_err-add_type-clause-grows
returns-in_err-add_type-clause-grows c =
    AllGrow-trans c.args.self.now.names c.loop-param.self.names c.add_type-in-loop-param.new.self.names c.loop-param.invariant.grows c.add_type-in-loop-param.ensures.grows

pub returns-in_err-number-clause-grows : goal.returns-in_err-number-clause-grows
returns-in_err-number-clause-grows c =
    rw c.in_err-number.ensures.same_names (subst (λ (x : Order). AllGrow c.args.self.now.names x.names) (sym c.self-3.view_is) c.loop-param.invariant.grows)

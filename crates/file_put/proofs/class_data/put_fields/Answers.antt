use Rattle.std.proofs.Common.{get_or, map, subst, List, arith, refl}
use Rattle.std.proofs.lemmas.List.{take_all}
use Rattle.std.proofs.lemmas.Option.{slice_get_within}
use Rattle.tables_names.specs.Closure.{NameRanks}
use Rattle.program_types.specs.Mentions.{field_of_class}
use Rattle.program_types.specs.View as view
use Rattle.program_rules.specs.Rules.{member_key}
use Rattle.program_types.specs.declared.class.Member.{Member}
use Rattle.file_put.proofs.MemberRuns.{run_start, run_step, run_more, fields_rise, fields_added}
use Rattle.file_put.proofs.MentionLaws.{member_ranked, no_member}
use Rattle.file_put.specs.inner.Growing.{AddsFields}
use Rattle.file_put.proofs.class_data.put_fields.Goals as goal

pub loop-i-init : goal.loop-i-init
loop-i-init c owner own = run_start _ _ _ _

pub bounds-own-i : goal.bounds-own-i
bounds-own-i c = (member_ranked c.args.ranks.now (field_of_class c.requires.own.0) view.member c.args.members.now c.args.own.now c.loop-i.i no_member (omega arith) c.requires.own.1).0

pub overflow_cast-index : goal.overflow_cast-index
overflow_cast-index c =
    let at = (member_ranked c.args.ranks.now (field_of_class c.requires.own.0) view.member c.args.members.now c.args.own.now c.loop-i.i no_member (omega arith) c.requires.own.1).1 in
    omega (arith, slice_get_within c.args.ranks.now.fields (get_or c.args.own.now c.loop-i.i 0) _ at, c.requires.few)

pub overflow_sub-index : goal.overflow_sub-index
overflow_sub-index c =
    let owner = c.requires.own.0 in
    let at = (member_ranked c.args.ranks.now (field_of_class owner) view.member c.args.members.now c.args.own.now c.loop-i.i no_member (omega arith) c.requires.own.1).1 in
    (run_step view.member member_key (fields_rise c.args.ranks.now owner c.rise.ensures.fields) c.args.members.now c.loop-i.i _ _ (omega arith) c.requires.rise (c.loop-i.invariant owner c.requires.own.1) at).1

pub loop-i-preserved : goal.loop-i-preserved
loop-i-preserved c owner own =
    let at = (member_ranked c.args.ranks.now (field_of_class owner) view.member c.args.members.now c.args.own.now c.loop-i.i _ (omega arith) own).1 in
    run_more view.member member_key (fields_rise c.args.ranks.now owner c.rise.ensures.fields) c.args.members.now c.loop-i.i _ _ (omega arith) c.requires.rise (c.loop-i.invariant owner own) at _ (record { field = at; flags = refl }) c.in_ok-put_field.ensures.ok

pub returns-clause-ok : goal.returns-clause-ok
returns-clause-ok c owner own =
    subst (λ (xs : List Member). AddsFields (NameRanks c.args.ranks.now) owner c.args.out.now.items c.loop-i.out.items (map view.member xs)) (take_all c.loop-i.i c.args.members.now (omega arith)) (fields_added c.args.ranks.now owner (c.loop-i.invariant owner own))

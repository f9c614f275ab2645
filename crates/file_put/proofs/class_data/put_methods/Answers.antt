use Rattle.std.proofs.Common.{◌+◌, get_or, map, take, sym, subst, arith, List, ℕ}
use Rattle.std.proofs.lemmas.List.{take_all, take_more}
use Rattle.std.proofs.lemmas.Option.{slice_get_within}
use Rattle.tables_names.specs.Closure.{NameRanks, method_of_class}
use Rattle.program_types.specs.View as view
use Rattle.program_rules.specs.Rules.{method_key}
use Rattle.program_types.specs.declared.class.Method.{Method}
use Rattle.file_put.proofs.MemberRuns.{MethodsTo, run_step, methods_start, methods_rise, methods_more, methods_added}
use Rattle.file_put.proofs.MentionLaws.{member_ranked, no_method}
use Rattle.file_put.specs.inner.Growing.{AddsMethods}
use Rattle.file_put.proofs.class_data.put_methods.Goals as goal

pub loop-i-init : goal.loop-i-init
loop-i-init c owner own = methods_start _ _ _

pub bounds-own-i : goal.bounds-own-i
bounds-own-i c = (member_ranked c.args.ranks.now (method_of_class c.requires.own.0) view.method c.args.methods.now c.args.own.now c.loop-i.i no_method (omega arith) c.requires.own.1).0

pub overflow_cast-index : goal.overflow_cast-index
overflow_cast-index c =
    let at = (member_ranked c.args.ranks.now (method_of_class c.requires.own.0) view.method c.args.methods.now c.args.own.now c.loop-i.i no_method (omega arith) c.requires.own.1).1 in
    omega (arith, slice_get_within c.args.ranks.now.methods (get_or c.args.own.now c.loop-i.i 0) _ at, c.requires.few)

pub overflow_sub-index : goal.overflow_sub-index
overflow_sub-index c =
    let owner = c.requires.own.0 in
    let at = (member_ranked c.args.ranks.now (method_of_class owner) view.method c.args.methods.now c.args.own.now c.loop-i.i no_method (omega arith) c.requires.own.1).1 in
    (run_step view.method method_key (methods_rise c.args.ranks.now owner c.rise.ensures.methods) c.args.methods.now c.loop-i.i _ _ (omega arith) c.requires.rise (c.loop-i.invariant owner c.requires.own.1).to at).1

pub loop-i-preserved : goal.loop-i-preserved
loop-i-preserved c owner own =
    let ms = c.args.methods.now in
    let i = c.loop-i.i in
    let codes = c.args.codes.now in
    let at = (member_ranked c.args.ranks.now (method_of_class owner) view.method ms c.args.own.now i _ (omega arith) own).1 in
    let m = methods_more c.args.ranks.now owner (take i codes) _ _ _ ms i _ _ _ _ c.rise.ensures.methods (omega arith) c.requires.rise (c.loop-i.invariant owner own) at c.in_ok-put_method.ensures.ok in
    subst (λ (l : List ℕ). MethodsTo c.args.ranks.now owner l c.args.out.now.items c.put_method.new.out.items (map view.method (take (i + 1) ms)) (get_or c.args.own.now i 0)) (sym (take_more codes i 0 (omega (arith, c.requires.codes)))) m

pub returns-clause-ok : goal.returns-clause-ok
returns-clause-ok c owner own =
    let adds = subst (λ (xs : List Method). AddsMethods (NameRanks c.args.ranks.now) owner (take c.loop-i.i c.args.codes.now) c.args.out.now.items c.loop-i.out.items (map view.method xs)) (take_all c.loop-i.i c.args.methods.now (omega arith)) (methods_added (c.loop-i.invariant owner own)) in
    subst (λ (l : List ℕ). AddsMethods (NameRanks c.args.ranks.now) owner l c.args.out.now.items c.loop-i.out.items (map view.method c.args.methods.now)) (take_all c.loop-i.i c.args.codes.now (omega (arith, c.requires.codes))) adds

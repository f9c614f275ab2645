use Rattle.std.proofs.Common.{List, [], ◌∷◌, refl}
use Rattle.std.proofs.raw_atomic.Walks.{proved}
use base.Logic.{guard_i, fst∗, emp, via}
use base.Fml.{ftrue}
use mir.Syntax.{named}
use mir.Val.{Val, vunit}
use contract.Monad.{fact_use}
use types.Kit.{‵, raw, given, ◌$◌, ◌∵◌, !, qed, done, move, use1, learn, feq_i, suffices, frame}
use types.Run.{enter, of_opd, unit_lit, returns}
use types.ByLocal.{alloc_all, pass_all, free_all, look_at, sets}
use denote.Exit.{yes}
use denote.RattleType.{RattleType, owns}
use denote.Ref.{ShrRef, shr_vals, shr_Tells}
use denote.Signature.{plain, named_lft}
use denote.Known.{Says-first, shr_known}
use denote.Triple.Entry.{alive}
use denote.Triple.Walked.{Stays, walk_of, says, stay_none_ref, Goes-none_ref, ends_at}
use Rattle.program_types.specs.contracts.class.Class as Class
use Rattle.program_types.specs.View as view
use Rattle.program_rules.specs.Ranges.{ClassInRange}
use Rattle.program_rules.proofs.ClassFacts.{class}
use Rattle.program_rules.specs.contracts.laws.class_is_in_range as f
use Rattle.program_rules.proofs.laws.class_is_in_range.Statement.{statement}
use Rattle.program_rules.proofs.laws.class_is_in_range.Code as code

abbrev stayed : Stays f.ended.signature.params f.ended.kept
stayed = (stay_none_ref (0 ∷ []) tt (plain (λ κs. Class.the_row (named_lft 2 1 tt κs))) yes, tt)

pub class_is_in_range_spec : {M : Type 1} → statement M
class_is_in_range_spec 𝓤 𝓛 𝓜 𝓡 wired =
    let c = f.clauses 𝓛 𝓜.mem 𝓡.returns in let W = walk_of 𝓛 f.ended stayed c in
    proved 𝓛 f.ended stayed c 𝓜 𝓡 (Goes-none_ref 𝓛 2 (0 ∷ []) tt (plain (λ κs. Class.the_row (named_lft 2 1 tt κs))) yes, tt)
    f.Key.name code.function (code.unfolded 𝓤 𝓛.H 𝓜 𝓡 wired)
    (λ κs. (shr_vals, tt)) (λ κs. (shr_Tells (named 0) κs.0 (Class.the_row (named_lft 2 1 tt κs)), tt)) (λ κs qs bounds a n are.
    let at = named_lft 2 1 tt κs in
    let R : RattleType = ShrRef (named 0) κs.0 (Class.the_row at) in
    let y : W.Ghost = ((κs, qs, bounds, a, (shr_vals a.0, tt)), tt) in
    via 𝓤 _ (fst∗ 𝓤 _ (emp 𝓤)) (
    qed 𝓛 (raw (alive 𝓛 f.signature κs qs) ∷ ‵ (owns (R ∷ []) a (shr_vals a.0, tt)) ∷ []) ∵ move ! (1 ∷ 0 ∷ []) $
    use1 𝓛 (given (ClassInRange (view.class a.0.now)) (‵ (owns (R ∷ []) a y.0.4)))
    (fact_use 𝓤 (ClassInRange (view.class a.0.now)) ((Says-first _ ftrue ((shr_known (Class.the_row at) (class at) (named 0) κs.0).owned a.0 (shr_vals a.0))).go _ 𝓤 𝓛) (λ p. guard_i 𝓤 _ _ p)) $ learn ! (λ known.
    enter ! _ _ _ _ _ $ alloc_all ! (λ l. pass_all ! refl ((tt, tt), tt) $
    sets ! (of_opd ! (unit_lit !)) refl (tt, tt) $
    returns ! (look_at ! 0 refl) $ free_all ! refl $
    suffices ! _ (ends_at 𝓛 f.ended stayed c y vunit tt (tt, tt) (tt, tt)) $ says ! known $
    move ! (1 ∷ 0 ∷ []) $ frame ! $ frame ! $ feq_i ! (List Val) (vunit ∷ []) (vunit ∷ []) refl $ done !))))

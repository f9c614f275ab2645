use Rattle.std.proofs.Common.{◌≢◌, arith, refl, sym, map, subst, ◌∙◌, true≢false}
use Rattle.std.specs.List.{AllByRecursion}
use Rattle.program_types.specs.Kinds.{void}
use Rattle.program_types.specs.View.{desc}
use Rattle.std.proofs.lemmas.List.{length-map, take_all}
use Rattle.tables_rows.proofs.NameLaws.{list_stands, stands_list}
use Rattle.tables_rows.proofs.TypeLists.{void_parameter, values_more, desc_at}
use Rattle.tables_rows.proofs.proto_ids.read_parameters.Goals as goal

pub returns-in_default-clause-none : goal.returns-in_default-clause-none
returns-in_default-clause-none c = λ ts at. (rw c.in_default.is at c.in_ok-params.ensures.none) ts (stands_list _ _ c.args.off ts c.requires.framed c.requires.types at.types)

pub returns-then-is_void-clause-none : goal.returns-then-is_void-clause-none
returns-then-is_void-clause-none c =
    let size = length-map c.in-Some.params.now desc in
    let at = list_stands _ _ c.args.off (map desc c.in-Some.params.now) c.requires.types (rw c.in-Some.is at c.in_ok-params.ensures.found) in
    void_parameter _ c.args.off c.loop-param.param-index (map desc c.in-Some.params.now) c.requires.framed at (omega (arith, size, c.loop-param-test.true)) (desc_at c.in-Some.params.now c.loop-param.param-index _ c.loop-param-test.true ∙ c.if-is_void.ensures.0 refl)

pub loop-param-preserved : goal.loop-param-preserved
loop-param-preserved c =
    let size = length-map c.in-Some.params.now desc in
    values_more (map desc c.in-Some.params.now) c.loop-param.param-index (omega (arith, size, c.loop-param-test.true)) c.loop-param.invariant (λ e. true≢false (sym (c.if-is_void.ensures.1 (sym (desc_at c.in-Some.params.now c.loop-param.param-index _ c.loop-param-test.true) ∙ e))))

pub returns-clause-found : goal.returns-clause-found
returns-clause-found c =
    let size = length-map c.in-Some.params.now desc in
    let all = take_all c.loop-param.param-index (map desc c.in-Some.params.now) (omega (arith, size, c.loop-param-test.false)) in
    record {
      types = list_stands _ _ c.args.off (map desc c.in-Some.params.now) c.requires.types (rw c.in-Some.is at c.in_ok-params.ensures.found);
      values = subst (λ ts. AllByRecursion (λ t. t ≢ void) ts) all c.loop-param.invariant;
    }

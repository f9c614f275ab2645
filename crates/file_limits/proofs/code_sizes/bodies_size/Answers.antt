use Rattle.std.proofs.Common.{◌+◌, map, take, sym, subst, List, Option}
use Rattle.std.proofs.lemmas.List.{take_all}
use Rattle.file_layout.specs.Sections.{wide_all}
use Rattle.program_types.specs.Content.{Code}
use Rattle.program_types.specs.View as view
use Rattle.program_types.specs.declared.class.Method.{Method}
use Rattle.file_limits.specs.inner.Sum.{IsSum}
use Rattle.file_limits.specs.Wide.{wide_body}
use Rattle.file_limits.proofs.PartLaws.{map_map}
use Rattle.file_limits.proofs.SumLaws.{room_more}
use Rattle.file_limits.proofs.code_sizes.bodies_size.Goals as goal

pub loop-method-preserved : goal.loop-method-preserved
loop-method-preserved c =
    let ms = c.args.methods.now in
    let i = c.loop-method.method-index in
    let was = subst (λ (vs : List (Option Code)). IsSum c.loop-method.sum (wide_all wide_body vs)) (map_map (λ m. m.code) view.method (take i ms)) c.loop-method.invariant in
    let now = room_more wide_body (λ (m : Method). (view.method m).code) _ _ _ ms i _ c.loop-method-test.true c.plus-sum.ensures was c.body_size.ensures in
    subst (λ (vs : List (Option Code)). IsSum c.plus-sum.result (wide_all wide_body vs)) (sym (map_map (λ m. m.code) view.method (take (i + 1) ms))) now

pub returns : goal.returns
returns c = subst (λ (ms : List Method). IsSum c.loop-method.sum (wide_all wide_body (map (λ m. m.code) (map view.method ms)))) (take_all c.loop-method.method-index c.args.methods.now c.loop-method-test.false) c.loop-method.invariant

use Rattle.std.proofs.Common.{◌*◌, map, arith, subst, List, [], None}
use Rattle.std.proofs.lemmas.List.{take_all, length-map}
use Rattle.code_write.proofs.FitLaws.{catches-more, caught}
use Rattle.code_write.specs.Fits.{catches_in}
use Rattle.program_types.specs.Content.{Try}
use Rattle.program_types.specs.View as view
use Rattle.program_types.specs.declared.code.Try as held
use Rattle.file_limits.specs.inner.Sum.{IsSum}
use Rattle.file_limits.proofs.code_sizes.catches_size.Goals as goal

abbrev no_try : held.Try
no_try = record { from = 0; to = 0; catches = record { ref_ptr = (0, 0); now = [] }; catch_all = None }

pub loop-one-preserved : goal.loop-one-preserved
loop-one-preserved c =
    let ts = map view.try c.args.tries.now in
    let n = length-map c.args.tries.now view.try in
    let more = catches-more ts c.loop-one.one-index (omega (arith, n, c.loop-one-test.true)) in
    let own = caught c.args.tries.now c.loop-one.one-index no_try c.loop-one-test.true in
    subst (IsSum c.plus-sum.result) (omega (arith, more, own)) (c.plus-sum.ensures _ _ c.loop-one.invariant c.times.ensures)

pub returns : goal.returns
returns c =
    let ts = map view.try c.args.tries.now in
    let n = length-map c.args.tries.now view.try in
    subst (λ (xs : List Try). IsSum c.loop-one.sum (10 * catches_in xs)) (take_all c.loop-one.one-index ts (omega (arith, n, c.loop-one-test.false))) c.loop-one.invariant

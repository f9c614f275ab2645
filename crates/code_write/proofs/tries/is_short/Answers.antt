use Rattle.std.proofs.Common.{◌<◌, ◌≤◌, map, arith, rules}
use Rattle.program_types.specs.View.{try}
use Rattle.std.proofs.lemmas.List.{length-map}
use Rattle.code_write.proofs.FitLaws.{catches-more, catches-least}
use Rattle.code_write.proofs.tries.is_short.Goals as goal

pub returns-then-count-gt4294967295 : goal.returns-then-count-gt4294967295
returns-then-count-gt4294967295 c =
    let n = length-map c.args.tries.now try in
    let t = c.loop-i-test.true in
    let m = catches-least (map try c.args.tries.now) c.loop-i.i (omega arith) in
    let l : 4294967295 < c.count_of-count.result = search rules in
    let e = c.count_of-count.ensures in
    (λ q. absurd cc, λ h. absurd (omega arith))

pub loop-i-preserved : goal.loop-i-preserved
loop-i-preserved c =
    let n = length-map c.args.tries.now try in
    let t = c.loop-i-test.true in
    let m = catches-more (map try c.args.tries.now) c.loop-i.i (omega arith) in
    let a = c.loop-i.invariant.0 in let b = c.loop-i.invariant.1 in
    let l : c.count_of-count.result ≤ 4294967295 = search rules in
    let e = c.count_of-count.ensures in
    (omega arith, omega arith)

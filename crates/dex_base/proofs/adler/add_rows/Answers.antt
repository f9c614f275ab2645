use Rattle.std.proofs.Common.{◌≤◌, arith, mul-le-mul, w32}
use Rattle.std.proofs.lemmas.List.{map-id}
use Rattle.std.proofs.lemmas.Simd.{adds_fit, fold-sum, sum_fits}
use Rattle.dex_base.proofs.AdlerRows.{columns_all, columns_more, columns_small, products_fit}
use Rattle.dex_base.proofs.adler.add_rows.Goals as goal

pub overflow_add-late : goal.overflow_add-late
overflow_add-late c =
    let small = columns_small _ _ _ _ c.loop-k.invariant c.requires.short c.type_inv.rows in
    adds_fit w32 _ _ (omega (arith, small.sums_small, small.late_small))

pub overflow_add-sums : goal.overflow_add-sums
overflow_add-sums c =
    let small = columns_small _ _ _ _ c.loop-k.invariant c.requires.short c.type_inv.rows in
    rw map-id (adds_fit w32 _ _ (omega (arith, small.sums_small)))

pub loop-k-preserved : goal.loop-k-preserved
loop-k-preserved c =
    columns_more _ _ _ _ _ _ c.loop-k.invariant c.loop-k.auto.sums.0 c.loop-k.auto.late.0 (omega arith) (omega arith) (map-id _)

pub overflow_mul-within : goal.overflow_mul-within
overflow_mul-within c =
    let all = columns_all _ _ _ _ c.loop-k.invariant c.loop-k.auto.sums.0 (omega arith) c.requires.short c.type_inv.rows in
    products_fit _ _ (omega (arith, all.weighted_small))

pub overflow_add-result : goal.overflow_add-result
overflow_add-result c =
    let all = columns_all _ _ _ _ c.loop-k.invariant c.loop-k.auto.sums.0 (omega arith) c.requires.short c.type_inv.rows in
    sum_fits w32 0 _ (omega (arith, all.sum_small))

pub overflow_add-result-2 : goal.overflow_add-result-2
overflow_add-result-2 c =
    let all = columns_all _ _ _ _ c.loop-k.invariant c.loop-k.auto.sums.0 (omega arith) c.requires.short c.type_inv.rows in
    record { fits = omega (arith, fold-sum, all.sum_small) }

pub overflow_add-result-4 : goal.overflow_add-result-4
overflow_add-result-4 c =
    let all = columns_all _ _ _ _ c.loop-k.invariant c.loop-k.auto.sums.0 (omega arith) c.requires.short c.type_inv.rows in
    sum_fits w32 0 _ (omega (arith, all.weighted_small))

pub overflow_mul-result-2 : goal.overflow_mul-result-2
overflow_mul-result-2 c =
    let all = columns_all _ _ _ _ c.loop-k.invariant c.loop-k.auto.sums.0 (omega arith) c.requires.short c.type_inv.rows in
    record { fits = omega (arith, fold-sum, all.weighted_small) }

pub overflow_add-result-5 : goal.overflow_add-result-5
overflow_add-result-5 c =
    let all = columns_all _ _ _ _ c.loop-k.invariant c.loop-k.auto.sums.0 (omega arith) c.requires.short c.type_inv.rows in
    let a_small : c.args.a ≤ 65520 = omega arith in
    let most = mul-le-mul c.requires.short a_small in
    record { fits = omega (arith, fold-sum, all.weighted_small, most) }

pub overflow_add-result-6 : goal.overflow_add-result-6
overflow_add-result-6 c =
    let all = columns_all _ _ _ _ c.loop-k.invariant c.loop-k.auto.sums.0 (omega arith) c.requires.short c.type_inv.rows in
    sum_fits w32 0 _ (omega (arith, all.weighted_small))

pub overflow_add-result-7 : goal.overflow_add-result-7
overflow_add-result-7 c =
    let all = columns_all _ _ _ _ c.loop-k.invariant c.loop-k.auto.sums.0 (omega arith) c.requires.short c.type_inv.rows in
    let a_small : c.args.a ≤ 65520 = omega arith in
    let most = mul-le-mul c.requires.short a_small in
    record { fits = omega (arith, fold-sum, all.weighted_small, most) }

pub returns-clause-a : goal.returns-clause-a
returns-clause-a c =
    let all = columns_all _ _ _ _ c.loop-k.invariant c.loop-k.auto.sums.0 (omega arith) c.requires.short c.type_inv.rows in
    omega (arith, fold-sum, all.sum_is)

pub returns-clause-b : goal.returns-clause-b
returns-clause-b c =
    let all = columns_all _ _ _ _ c.loop-k.invariant c.loop-k.auto.sums.0 (omega arith) c.requires.short c.type_inv.rows in
    omega (arith, fold-sum, all.weighted_is)

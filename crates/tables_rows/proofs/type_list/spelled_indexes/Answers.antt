use Rattle.std.proofs.Common.{arith, ◌≡◌, ◌+◌, ◌*◌, ◌-◌, length, take, drop, length-take, length-drop, sym, ◌∙◌, ap}
use Rattle.tables_rows.proofs.HalvesLaws.{list_begins, no_list, length-halves}
use Rattle.tables_rows.proofs.type_list.spelled_indexes.Goals as goal

pub returns-then-bytes-lt4-clause-none : goal.returns-then-bytes-lt4-clause-none
returns-then-bytes-lt4-clause-none c = no_list _ (λ long. absurd (omega (arith, long, c.if-bytes-lt4.true)))

pub returns-then-bytes-count-clause-none : goal.returns-then-bytes-count-clause-none
returns-then-bytes-count-clause-none c = no_list _ (λ long. rw (← c.u32_at-count.ensures) c.if-bytes-count.true)

pub returns-clause-some : goal.returns-clause-some
returns-clause-some c =
    let n = c.u32_at-count.result in
    let bytes = c.args.bytes.now in
    let e : 4 + 2 * n - 4 ≡ 2 * n = omega arith in
    let size : length (take (2 * n) (drop 4 bytes)) ≡ 2 * n = simp (length-take, length-drop) (omega (arith, c.if-bytes-count.false, c.if-bytes-lt4.false)) in
    rw (e, size) (list_begins bytes n (λ i. omega (arith, c.type_inv.bytes i)) c.u32_at-count.ensures (omega (arith, c.if-bytes-count.false, c.if-bytes-lt4.false)))

pub returns-clause-even : goal.returns-clause-even
returns-clause-even c =
    let n = c.u32_at-count.result in
    let bytes = c.args.bytes.now in
    let e : 4 + 2 * n - 4 ≡ 2 * n = omega arith in
    let size : length (take (2 * n) (drop 4 bytes)) ≡ 2 * n = simp (length-take, length-drop) (omega (arith, c.if-bytes-count.false, c.if-bytes-lt4.false)) in
    rw e (size ∙ ap (λ m. 2 * m) (sym (length-halves n (take (2 * n) (drop 4 bytes)) size)))

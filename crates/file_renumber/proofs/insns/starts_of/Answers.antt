use Rattle.std.proofs.Common.{◌≡◌, ◌/◌, ◌+◌, ◌*◌, ℕ, length, sym, subst, arith}
use Rattle.file_renumber.proofs.WrittenLemmas.{BegunTo, next_in, begun_start, begun_more, begun_table}
use Rattle.file_renumber.proofs.insns.starts_of.Goals as goal
use Rattle.dex_base.proofs.ListFacts.{rest_is}

pub loop-at-init : goal.loop-at-init
loop-at-init c = record { begun = begun_start c.args.units.now c.new-starts.result.items c.new-starts.ensures.items; inside = omega arith }

pub shape_at-requires : goal.shape_at-requires
shape_at-requires c =
    let x = c.requires.insns in
    let b = c.loop-at.invariant.begun in
    let n = next_in c.args.units.now _ b.before x.0 c.loop-at.at (rest_is (2 * c.loop-at.at) c.args.units.now) b.run x.1 c.loop-at-test.true in
    (n.one, n.front)

pub size_at-requires : goal.size_at-requires
size_at-requires c =
    let x = c.requires.insns in
    let b = c.loop-at.invariant.begun in
    let n = next_in c.args.units.now _ b.before x.0 c.loop-at.at (rest_is (2 * c.loop-at.at) c.args.units.now) b.run x.1 c.loop-at-test.true in
    (n.one, record { spelled = n.front; shaped = c.shape_at.ensures n.one n.front })

pub overflow_add-at : goal.overflow_add-at
overflow_add-at c =
    let x = c.requires.insns in
    let b = c.loop-at.invariant.begun in
    let n = next_in c.args.units.now _ b.before x.0 c.loop-at.at (rest_is (2 * c.loop-at.at) c.args.units.now) b.run x.1 c.loop-at-test.true in
    let there = n.there in
    let size = c.size_at.ensures n.one (record { spelled = n.front; shaped = c.shape_at.ensures n.one n.front }) in
    let short = c.requires.short in
    omega (arith, there, size, short)

pub loop-at-smaller : goal.loop-at-smaller
loop-at-smaller c =
    let x = c.requires.insns in
    let b = c.loop-at.invariant.begun in
    let n = next_in c.args.units.now _ b.before x.0 c.loop-at.at (rest_is (2 * c.loop-at.at) c.args.units.now) b.run x.1 c.loop-at-test.true in
    let some = n.some in
    let size = c.size_at.ensures n.one (record { spelled = n.front; shaped = c.shape_at.ensures n.one n.front }) in
    let test = c.loop-at-test.true in
    omega (arith, some, size, test)

pub loop-at-preserved : goal.loop-at-preserved
loop-at-preserved c =
    let x = c.requires.insns in
    let b = c.loop-at.invariant.begun in
    let n = next_in c.args.units.now _ b.before x.0 c.loop-at.at (rest_is (2 * c.loop-at.at) c.args.units.now) b.run x.1 c.loop-at-test.true in
    let there = n.there in
    let size = c.size_at.ensures n.one (record { spelled = n.front; shaped = c.shape_at.ensures n.one n.front }) in
    record {
      begun = subst (λ (k : ℕ). BegunTo c.args.units.now c.push.new.self.items (c.loop-at.at + k)) (sym size) (begun_more c.args.units.now c.loop-at.starts.items c.push.new.self.items c.loop-at.at n.one b n.stands c.in_ok-push.ensures.items);
      inside = omega (arith, there, size);
    }

pub returns-clause-table : goal.returns-clause-table
returns-clause-table c = λ rs walk.
    let i = c.loop-at.invariant.inside in
    let t = c.loop-at-test.false in
    let e : c.loop-at.at ≡ length c.args.units.now / 2 = omega arith in
    begun_table c.args.units.now c.loop-at.starts.items c.loop-at.at rs e walk c.loop-at.invariant.begun c.requires.short

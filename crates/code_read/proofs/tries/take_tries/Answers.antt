use Rattle.std.proofs.Common.{◌≡◌, ℕ, List, map, sym, subst, arith}
use Rattle.program_types.specs.View.{try}
use Rattle.program_types.specs.declared.code.Try.{Try as Held}
use Rattle.code_read.specs.inner.HandlerViews.{handler}
use Rattle.code_read.specs.inner.ItemReading.{TakesTry, TakesTries}
use Rattle.code_read.proofs.TryLaws.{taken-none, taken-more, taken-all}
use Rattle.code_read.proofs.tries.take_tries.Goals as goal

pub loop-i-init : goal.loop-i-init
loop-i-init c = taken-none c.args.starts.now c.args.items.now c.args.all.now.offsets.items (map handler c.args.all.now.handlers.items) _ c.in_ok-found.ensures.items

pub loop-i-preserved : goal.loop-i-preserved
loop-i-preserved c =
    taken-more c.args.starts.now c.args.items.now c.args.all.now.offsets.items (map handler c.args.all.now.handlers.items) c.loop-i.i c.loop-i.found.items _ c.in-Some.one c.loop-i.invariant
    (subst (λ (k : ℕ). TakesTry c.args.starts.now c.args.items.now c.args.all.now.offsets.items (map handler c.args.all.now.handlers.items) k (try c.in-Some.one)) c.from-in-loop-i.ensures c.in-Some.ensures.some)
    c.in_ok-push.ensures.items

pub returns-clause-ok : goal.returns-clause-ok
returns-clause-ok c =
    let e : c.loop-i.i ≡ c.args.tries = omega arith in
    subst (λ (xs : List Held). TakesTries c.args.starts.now c.args.items.now c.args.all.now.offsets.items (map handler c.args.all.now.handlers.items) c.args.tries (map try xs)) (sym c.into_bump_slice.ensures)
    (taken-all c.args.starts.now c.args.items.now c.args.all.now.offsets.items (map handler c.args.all.now.handlers.items) _ c.args.tries c.loop-i.i e c.loop-i.invariant)

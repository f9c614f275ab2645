use Rattle.std.proofs.Common.{◌≡◌, ◌-◌, length, map, refl, arith, subst, ℕ}
use Rattle.dex_base.specs.Leb128.{Spells}
use Rattle.dex_base.proofs.TakesLaws.{Takes-length}
use Rattle.tables_rows.specs.Names.{NameIsAt}
use Rattle.code_read.specs.inner.Handlers.{SpellsHandler}
use Rattle.code_read.specs.inner.HandlerViews.{handler}
use Rattle.code_read.proofs.StandLaws.{NameIsAt-functional}
use Rattle.code_read.proofs.ListReading.{ReadSome, some-none, some-more, some-all, list-none, offsets-rise}
use Rattle.code_read.proofs.tries.read_list.Goals as goal
use Rattle.dex_base.proofs.ListFacts.{passed}

pub loop-turn-init : goal.loop-turn-init
loop-turn-init c =
    let l = Takes-length Spells c.args.bytes.now c.in-Some.count c.in-Some.entries.now c.in-Some.ensures.some in
    record { some = some-none (NameIsAt c.args.tables.now) c.args.starts.now c.args.bytes.now c.in-Some.entries.now _ _ c.new-offsets.ensures.items c.new-handlers.ensures.items; left_short = omega arith }

pub overflow_sub-bytes : goal.overflow_sub-bytes
overflow_sub-bytes c = let i = c.loop-turn.invariant.left_short in omega arith

pub returns-in_err-one-clause-err : goal.returns-in_err-one-clause-err
returns-in_err-one-clause-err c =
    passed _ _ _ c.from_residual-in_err-one.ensures.1 (λ ne.
    list-none (NameIsAt c.args.tables.now) c.args.starts.now (NameIsAt-functional c.args.tables.now) c.args.bytes.now c.in-Some.entries.now c.loop-turn.left.now c.loop-turn.offsets.items (map handler c.loop-turn.handlers.items)
    c.in-Some.count c.loop-turn._turn c.in-Some.ensures.some c.loop-turn.invariant.some c.loop-turn-test.true (c.in_err-one.ensures.err ne))

pub loop-turn-preserved : goal.loop-turn-preserved
loop-turn-preserved c =
    let l = Takes-length Spells c.args.bytes.now c.in-Some.count c.in-Some.entries.now c.in-Some.ensures.some in
    let i = c.loop-turn.invariant.left_short in
    let m = Takes-length (SpellsHandler (NameIsAt c.args.tables.now) c.args.starts.now) c.loop-turn.left.now (handler c.in_ok-one.one) c.in_ok-one.after.now c.in_ok-one.ensures.ok in
    record {
      some = some-more (NameIsAt c.args.tables.now) c.args.starts.now c.args.bytes.now c.in-Some.entries.now c.loop-turn.left.now c.in_ok-one.after.now c.loop-turn.offsets.items _ c.loop-turn.handlers.items _ c.in_ok-one.one c.loop-turn._turn
          (length c.args.bytes.now - length c.loop-turn.left.now) c.loop-turn.invariant.some c.in_ok-one.ensures.ok (omega arith) refl c.in_ok-push.ensures.items c.in_ok-push-2.ensures.items;
      left_short = omega arith;
    }

pub returns-clause-ok : goal.returns-clause-ok
returns-clause-ok c =
    let e : c.loop-turn._turn ≡ c.in-Some.count = omega arith in
    let hs = map handler c.loop-turn.handlers.items in
    some-all (NameIsAt c.args.tables.now) c.args.starts.now c.args.bytes.now c.in-Some.entries.now c.loop-turn.left.now c.loop-turn.offsets.items hs c.in-Some.count c.in-Some.ensures.some
    (subst (λ (n : ℕ). ReadSome (NameIsAt c.args.tables.now) c.args.starts.now c.args.bytes.now c.in-Some.entries.now c.loop-turn.left.now c.loop-turn.offsets.items hs n) e c.loop-turn.invariant.some)

pub returns-clause-sorted : goal.returns-clause-sorted
returns-clause-sorted c =
    offsets-rise (NameIsAt c.args.tables.now) c.args.starts.now c.args.bytes.now c.in-Some.entries.now c.loop-turn.left.now c.loop-turn.offsets.items (map handler c.loop-turn.handlers.items) c.loop-turn._turn c.loop-turn.invariant.some

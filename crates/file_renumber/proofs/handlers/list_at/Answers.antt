use Rattle.std.proofs.Common.{◌<◌, length, ap, arith}
use Rattle.std.proofs.lemmas.List.{length-map}
use Rattle.tables_rows.specs.Stands.{NameStands}
use Rattle.file_renumber.proofs.ListLemmas.{list_parts, list_from, listed_start, next_handler, listed_more, listed_end, listed_rise}
use Rattle.file_renumber.proofs.handlers.list_at.Goals as goal

pub take_number-count-requires : goal.take_number-count-requires
take_number-count-requires c =
    let x = c.requires.list in
    let p = list_parts (NameStands x.0) x.1 c.args.bytes.now x.2 x.3 x.4 in
    (_, p.0, p.1)

pub loop-turn-init : goal.loop-turn-init
loop-turn-init c = λ b ss hs rest t.
    listed_start (NameStands b) ss c.args.bytes.now hs rest c.take_number-count.result.0 c.take_number-count.result.1.now _ _ c.take_number-count.ensures t c.new-offsets.ensures.items c.new-catches.ensures.items

pub skip_handler-types-requires : goal.skip_handler-types-requires
skip_handler-types-requires c =
    let x = c.requires.list in
    let n = (list_from (NameStands x.0) x.1 c.args.bytes.now x.2 x.3 c.take_number-count.result.0 c.take_number-count.result.1.now c.take_number-count.ensures x.4).0 in
    let lt = c.loop-turn-test.true in
    let l = c.loop-turn.invariant x.0 x.1 x.2 x.3 x.4 in
    let d = next_handler (NameStands x.0) x.1 (length c.args.bytes.now) c.loop-turn.left.now c.loop-turn._turn x.2 x.3 (omega (arith, lt, n)) l.due in
    (x.0, x.1, _, d.mid, d.one)

pub overflow_sub-bytes : goal.overflow_sub-bytes
overflow_sub-bytes c =
    let x = c.requires.list in
    let l = (c.loop-turn.invariant x.0 x.1 x.2 x.3 x.4).due.short in
    omega (arith, l)

pub loop-turn-preserved : goal.loop-turn-preserved
loop-turn-preserved c = λ b ss hs rest t.
    let n = (list_from (NameStands b) ss c.args.bytes.now hs rest c.take_number-count.result.0 c.take_number-count.result.1.now c.take_number-count.ensures t).0 in
    let lt = c.loop-turn-test.true in
    let l = c.loop-turn.invariant b ss hs rest t in
    let inside : c.loop-turn._turn < length hs = omega (arith, lt, n) in
    let d = next_handler (NameStands b) ss (length c.args.bytes.now) c.loop-turn.left.now c.loop-turn._turn hs rest inside l.due in
    let x = c.skip_handler-types.ensures b ss _ d.mid d.one in
    let short = l.due.short in
    listed_more (NameStands b) ss (length c.args.bytes.now) c.loop-turn.left.now _ c.loop-turn._turn hs rest c.loop-turn.offsets.items c.loop-turn.catches.items _ _ _ _ inside l d (omega (arith, short)) x.0 x.1 c.in_ok-push.ensures.items c.in_ok-push-2.ensures.items

pub returns-clause-ok : goal.returns-clause-ok
returns-clause-ok c = λ b ss hs rest t.
    let n = (list_from (NameStands b) ss c.args.bytes.now hs rest c.take_number-count.result.0 c.take_number-count.result.1.now c.take_number-count.ensures t).0 in
    let ge = c.loop-turn-test.false in
    listed_end (NameStands b) ss (length c.args.bytes.now) c.loop-turn.left.now c.loop-turn._turn hs rest c.loop-turn.offsets.items c.loop-turn.catches.items (omega (arith, ge, n)) (c.loop-turn.invariant b ss hs rest t)

pub invariant_of-result-clause-rise : goal.invariant_of-result-clause-rise
invariant_of-result-clause-rise c =
    let x = c.requires.list in
    let n = (list_from (NameStands x.0) x.1 c.args.bytes.now x.2 x.3 c.take_number-count.result.0 c.take_number-count.result.1.now c.take_number-count.ensures x.4).0 in
    let ge = c.loop-turn-test.false in
    listed_rise (NameStands x.0) x.1 c.args.bytes.now x.2 x.3 c.take_number-count.result.0 c.take_number-count.result.1.now c.loop-turn.offsets.items c.loop-turn.catches.items c.take_number-count.ensures x.4
    (listed_end (NameStands x.0) x.1 (length c.args.bytes.now) c.loop-turn.left.now c.loop-turn._turn x.2 x.3 c.loop-turn.offsets.items c.loop-turn.catches.items (omega (arith, ge, n)) (c.loop-turn.invariant x.0 x.1 x.2 x.3 x.4))

pub invariant_of-result-clause-few : goal.invariant_of-result-clause-few
invariant_of-result-clause-few c =
    let x = c.requires.list in
    let n = (list_from (NameStands x.0) x.1 c.args.bytes.now x.2 x.3 c.take_number-count.result.0 c.take_number-count.result.1.now c.take_number-count.ensures x.4).0 in
    let ge = c.loop-turn-test.false in
    let l = listed_end (NameStands x.0) x.1 (length c.args.bytes.now) c.loop-turn.left.now c.loop-turn._turn x.2 x.3 c.loop-turn.offsets.items c.loop-turn.catches.items (omega (arith, ge, n)) (c.loop-turn.invariant x.0 x.1 x.2 x.3 x.4) in
    let count = ap length l.offsets_are in
    let most = c.take_number-count.result.0 in
    omega (arith, n, count, length-map x.2 (λ p. p.0))

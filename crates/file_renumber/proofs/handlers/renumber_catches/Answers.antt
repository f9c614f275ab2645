use Rattle.std.proofs.Common.{get_or, arith}
use Rattle.std.proofs.lemmas.Option.{slice_get_within}
use Rattle.tables_rows.specs.Stands.{NameStands}
use Rattle.code_read.specs.inner.Handlers.{SpellsCatch}
use Rattle.file_renumber.proofs.HandlerLemmas.{counted, no_catch}
use Rattle.file_renumber.proofs.FrontLemmas.{due_next}
use Rattle.file_renumber.proofs.CatchLemmas.{written_none, rank_next, written_next, written_all}
use Rattle.file_renumber.proofs.handlers.renumber_catches.Goals as goal

pub loop-turn-init : goal.loop-turn-init
loop-turn-init c = λ x. written_none c.args.numbers.now c.args.count c.args.bytes.now c.args.out.now.items x

pub take_catch-ty-requires : goal.take_catch-ty-requires
take_catch-ty-requires c =
    let x = c.requires in
    let n = counted (NameStands x.file) x.starts c.args.count c.args.bytes.now x.catches x.rest x.taken in
    let lt = c.loop-turn-test.true in
    let d = due_next (SpellsCatch (NameStands x.file) x.starts) c.loop-turn.left.now c.loop-turn._turn x.catches no_catch x.rest (omega (arith, lt, n)) (c.loop-turn.invariant x).due in
    (x.file, x.starts, get_or x.catches c.loop-turn._turn no_catch, d.mid, d.one)

pub of-requires : goal.of-requires
of-requires c =
    let x = c.requires in
    let n = counted (NameStands x.file) x.starts c.args.count c.args.bytes.now x.catches x.rest x.taken in
    let lt = c.loop-turn-test.true in
    let d = due_next (SpellsCatch (NameStands x.file) x.starts) c.loop-turn.left.now c.loop-turn._turn x.catches no_catch x.rest (omega (arith, lt, n)) (c.loop-turn.invariant x).due in
    let i = c.take_catch-ty.ensures x.file x.starts (get_or x.catches c.loop-turn._turn no_catch) d.mid d.one in
    let r = rank_next c.args.numbers.now c.args.count c.args.bytes.now x c.loop-turn._turn c.take_catch-ty.result.0 c.take_catch-ty.result.1 c.take_catch-ty.result.2.now d.mid lt i in
    slice_get_within _ _ r.number r.at

pub loop-turn-preserved : goal.loop-turn-preserved
loop-turn-preserved c = λ x.
    let n = counted (NameStands x.file) x.starts c.args.count c.args.bytes.now x.catches x.rest x.taken in
    let lt = c.loop-turn-test.true in
    let w = c.loop-turn.invariant x in
    let d = due_next (SpellsCatch (NameStands x.file) x.starts) c.loop-turn.left.now c.loop-turn._turn x.catches no_catch x.rest (omega (arith, lt, n)) w.due in
    let i = c.take_catch-ty.ensures x.file x.starts (get_or x.catches c.loop-turn._turn no_catch) d.mid d.one in
    let r = rank_next c.args.numbers.now c.args.count c.args.bytes.now x c.loop-turn._turn c.take_catch-ty.result.0 c.take_catch-ty.result.1 c.take_catch-ty.result.2.now d.mid lt i in
    written_next x.file x.names c.args.numbers.now x.starts c.args.out.now.items c.loop-turn.out.items c.put_uleb.new.out.items c.put_uleb-in-loop-turn.new.out.items c.loop-turn.left.now _ c.loop-turn._turn c.take_catch-ty.result.0 c.take_catch-ty.result.1 c.of.result x.catches x.rest
    (omega (arith, lt, n)) w d i r c.of.ensures c.in_ok-put_uleb.ensures.ok c.in_ok-put_uleb-2.ensures.ok

pub returns-clause-follows : goal.returns-clause-follows
returns-clause-follows c = λ x.
    let ge = c.loop-turn-test.false in
    (written_all c.args.numbers.now c.args.count c.args.bytes.now x c.args.out.now.items c.loop-turn.out.items c.loop-turn.left.now c.loop-turn._turn (omega (arith, ge)) (c.loop-turn.invariant x)).1

pub returns-clause-ok : goal.returns-clause-ok
returns-clause-ok c = λ x.
    let ge = c.loop-turn-test.false in
    (written_all c.args.numbers.now c.args.count c.args.bytes.now x c.args.out.now.items c.loop-turn.out.items c.loop-turn.left.now c.loop-turn._turn (omega (arith, ge)) (c.loop-turn.invariant x)).0

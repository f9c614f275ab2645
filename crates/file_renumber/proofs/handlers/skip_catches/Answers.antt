use Rattle.std.proofs.Common.{◌+◌, ℕ, List, drop, get_or, sym, subst, arith}
use Rattle.dex_base.specs.Grammar.{Takes, Each}
use Rattle.tables_rows.specs.Stands.{NameStands}
use Rattle.code_read.specs.inner.Handlers.{SpellsCatch}
use Rattle.file_renumber.proofs.HandlerLemmas.{counted, no_catch}
use Rattle.file_renumber.proofs.FrontLemmas.{due_start, due_next, due_end}
use Rattle.file_renumber.proofs.handlers.skip_catches.Goals as goal

pub loop-turn-init : goal.loop-turn-init
loop-turn-init c = λ b ss cs rest t. due_start (SpellsCatch (NameStands b) ss) c.args.count c.args.bytes.now cs rest t

pub take_catch-requires : goal.take_catch-requires
take_catch-requires c =
    let b = c.requires.0 in
    let ss = c.requires.1 in
    let cs = c.requires.2 in
    let t = c.requires.4 in
    let n = counted (NameStands b) ss c.args.count c.args.bytes.now cs c.requires.3 t in
    let lt = c.loop-turn-test.true in
    let d = due_next (SpellsCatch (NameStands b) ss) c.loop-turn.left.now c.loop-turn._turn cs no_catch c.requires.3 (omega (arith, lt, n)) (c.loop-turn.invariant b ss cs c.requires.3 t) in
    (b, ss, get_or cs c.loop-turn._turn no_catch, d.mid, d.one)

pub loop-turn-preserved : goal.loop-turn-preserved
loop-turn-preserved c = λ b ss cs rest t.
    let n = counted (NameStands b) ss c.args.count c.args.bytes.now cs rest t in
    let lt = c.loop-turn-test.true in
    let d = due_next (SpellsCatch (NameStands b) ss) c.loop-turn.left.now c.loop-turn._turn cs no_catch rest (omega (arith, lt, n)) (c.loop-turn.invariant b ss cs rest t) in
    let i = c.take_catch.ensures b ss (get_or cs c.loop-turn._turn no_catch) d.mid d.one in
    subst (λ (l : List ℕ). Takes (Each (SpellsCatch (NameStands b) ss)) l (drop (c.loop-turn._turn + 1) cs) rest) (sym i.follows) d.more

pub returns : goal.returns
returns c = λ b ss cs rest t.
    let n = counted (NameStands b) ss c.args.count c.args.bytes.now cs rest t in
    let ge = c.loop-turn-test.false in
    due_end (SpellsCatch (NameStands b) ss) c.loop-turn.left.now c.loop-turn._turn cs rest (omega (arith, ge, n)) (c.loop-turn.invariant b ss cs rest t)

use Rattle.std.proofs.Common.{◌≡◌, ℕ, List, rules}
use Rattle.std.proofs.lemmas.Int.{to_z-of_z}
use Rattle.std.proofs.lemmas.Result.{on_ok_weaker}
use mir.Val.{SFits}
use mir.Syntax.{w32}
use Rattle.tables_rows.specs.Stands.{NameStands}
use Rattle.dex_base.specs.Grammar.{Takes}
use Rattle.code_read.specs.Handlers.{Handler, catches_of}
use Rattle.code_read.specs.inner.Handlers.{SpellsHandler}
use Rattle.file_renumber.proofs.HandlerLemmas.{HandlerParts, handler_parts, parts_from}
use Rattle.file_renumber.proofs.handlers.mark_handler.Goals as goal
use Rattle.file_renumber.proofs.handlers.mark_handler.Goals.{After-unsigned_abs}

pub take_signed-n-requires : goal.take_signed-n-requires
take_signed-n-requires c =
    let x = c.requires.handler in
    let p = handler_parts (NameStands c.args.sections.now) x.0 c.args.bytes.now x.1 x.2 x.3 in
    (p.0, p.1, p.2)

-- after the number of its catches
parts : (c : After-unsigned_abs) (ss : List ℕ) (h : Handler) (rest : List ℕ) → Takes (SpellsHandler (NameStands c.args.sections.now) ss) c.args.bytes.now h rest → HandlerParts (NameStands c.args.sections.now) ss c.take_signed-n.result.0 c.unsigned_abs.result c.take_signed-n.result.1.now h rest
parts c ss h rest t =
    let n = c.take_signed-n.result.0 in
    let fits : SFits w32 n = search rules in
    let count : c.unsigned_abs.result ≡ catches_of n = simp to_z-of_z at c.unsigned_abs.ensures.value in
    parts_from (NameStands c.args.sections.now) ss c.args.bytes.now h rest n c.take_signed-n.result.1.now c.unsigned_abs.result count c.take_signed-n.ensures t

pub mark_catches-requires-clause-catches : goal.mark_catches-requires-clause-catches
mark_catches-requires-clause-catches c =
    let x = c.requires.handler in
    let p = parts (goal.at.mark_catches-requires-clause-catches c).After-unsigned_abs x.0 x.1 x.2 x.3 in
    (x.0, _, p.left, p.catches)

pub returns-clause-marked : goal.returns-clause-marked
returns-clause-marked c =
    on_ok_weaker c.mark_catches.result
    (λ f ss h rest t.
    let p = parts (goal.at.returns-clause-marked c).After-unsigned_abs ss h rest t in
    f ss _ p.left p.catches)
    c.mark_catches.ensures.marked

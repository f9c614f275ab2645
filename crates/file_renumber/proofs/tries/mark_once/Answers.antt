use Rattle.std.proofs.Common.{ℕ, List, length-drop, refl, sym, subst, inl, inr, arith}
use Rattle.std.proofs.lemmas.Result.{on_ok_weaker}
use Rattle.dex_base.specs.Grammar.{Takes}
use Rattle.tables_rows.specs.Stands.{NameStands}
use Rattle.code_read.specs.inner.Handlers.{SpellsHandler}
use Rattle.file_renumber.proofs.TryLemmas.{handler_some}
use Rattle.file_renumber.proofs.tries.mark_once.Goals as goal

pub returns-then-seen-k-ne0-clause-ok : goal.returns-then-seen-k-ne0-clause-ok
returns-then-seen-k-ne0-clause-ok c = let n = c.if-seen-k-ne0.true in inr (omega (arith, n), refl, refl)

pub split_at-requires : goal.split_at-requires
split_at-requires c =
    let x = c.requires.handler in
    let s = handler_some (NameStands c.args.sections.now) x.0 _ x.1 x.2 x.3 in
    omega (arith, s, length-drop c.args.offset c.args.list.now)

pub mark_handler-requires-clause-handler : goal.mark_handler-requires-clause-handler
mark_handler-requires-clause-handler c =
    let x = c.requires.handler in
    (x.0, x.1, x.2, subst (λ (l : List ℕ). Takes (SpellsHandler (NameStands c.args.sections.now) x.0) l x.1 x.2) (sym c.split_at.ensures.back) x.3)

pub returns-clause-ok : goal.returns-clause-ok
returns-clause-ok c =
    on_ok_weaker c.mark_handler.result
    (λ f. inl (refl, λ ss h rest t. f ss h rest (subst (λ (l : List ℕ). Takes (SpellsHandler (NameStands c.args.sections.now) ss) l h rest) (sym c.split_at.ensures.back) t)))
    c.mark_handler.ensures.marked

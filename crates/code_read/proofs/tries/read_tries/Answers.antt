use Rattle.std.proofs.Common.{◌≡◌, ◌∙◌, ap, map, ◌+◌, ◌*◌, ℕ}
use Rattle.std.proofs.lemmas.Result.{IfOk-weaker}
use Rattle.program_types.specs.View.{try}
use Rattle.tables_rows.specs.Names.{NameIsAt}
use Rattle.code_read.specs.inner.HandlerViews.{handler}
use Rattle.code_read.specs.Faults.{list_fault}
use Rattle.code_read.proofs.StandLaws.{NameIsAt-functional}
use Rattle.code_read.proofs.TryLaws.{some-tries, no-list, no-handler, err-both}
use Rattle.code_read.proofs.tries.read_tries.Goals as goal
use Rattle.dex_base.proofs.ListFacts.{passed}

pub returns-clause-ok : goal.returns-clause-ok
returns-clause-ok c =
    let i = c.args.item.now in
    IfOk-weaker c.take_tries.result _ _
    (λ ts t. some-tries (NameIsAt c.args.tables.now) c.args.starts.now i.size i.tries i.items.now i.list.now c.in_ok-all.all.offsets.items (map handler c.in_ok-all.all.handlers.items) (map try ts.now) c.if-item-eq0.false c.in_ok-check_tries.ensures.ok c.in_ok-all.ensures.ok t)
    c.take_tries.ensures.ok

pub returns-in_err-all-clause-err : goal.returns-in_err-all-clause-err
returns-in_err-all-clause-err c =
    let i = c.args.item.now in
    let place : c.args.base + 8 * c.from.result ≡ c.args.base + 8 * i.tries = ap (λ (n : ℕ). c.args.base + 8 * n) c.from.ensures in
    passed _ _ _ c.from_residual-in_err-all.ensures.1 (λ ne.
    no-list (NameIsAt c.args.tables.now) c.args.starts.now i.size i.tries i.items.now i.list.now c.args.base c.in_err-all.field-0.0 c.if-item-eq0.false
    c.in_ok-check_tries.ensures.ok (c.in_err-all.ensures.code ne ∙ ap list_fault place) (c.in_err-all.ensures.err ne))

pub returns-clause-err : goal.returns-clause-err
returns-clause-err c =
    let i = c.args.item.now in
    let place : c.args.base + 8 * c.from.result ≡ c.args.base + 8 * i.tries = ap (λ (n : ℕ). c.args.base + 8 * n) c.from.ensures in
    err-both _ _ _ c.take_tries.result (λ e p q ne.
    no-handler (NameIsAt c.args.tables.now) c.args.starts.now i.size i.tries i.items.now i.list.now c.in_ok-all.all.offsets.items (map handler c.in_ok-all.all.handlers.items) c.args.base e
    (NameIsAt-functional c.args.tables.now) c.if-item-eq0.false c.in_ok-check_tries.ensures.ok (p ne ∙ ap list_fault place) c.in_ok-all.ensures.ok (q ne))
    c.take_tries.ensures.code c.take_tries.ensures.err

pub take_tries-requires-clause-begins : goal.take_tries-requires-clause-begins
take_tries-requires-clause-begins c = λ k l. (c.in_ok-check_tries.ensures.ok k l).begins

use Rattle.std.proofs.Common.{◌∙◌}
use Rattle.std.proofs.lemmas.Result.{IfOk-weaker}
use Rattle.tables_names.specs.Closure.{NameRanks}
use Rattle.code_write.proofs.LaidLaws.{laid-none}
use Rattle.file_renumber.proofs.tries.lay_tries.Goals as goal

pub returns-then-item-eq0-clause-ok : goal.returns-then-item-eq0-clause-ok
returns-then-item-eq0-clause-ok c = λ x.
    laid-none (NameRanks x.names) x.starts x.tries _ _ (x.read.tries.count ∙ c.if-item-eq0.true) c.new.ensures.items c.new-then-item-eq0.ensures.items

pub lay_distinct-requires : goal.lay_distinct-requires
lay_distinct-requires c =
    let x = c.requires.tries in
    (x.names, x.starts, x.tries, c.in_ok-distinct.ensures.ok x)

pub returns-clause-ok : goal.returns-clause-ok
returns-clause-ok c =
    IfOk-weaker c.lay_distinct.result _ _ (λ l f x. f x.names x.starts x.tries (c.in_ok-distinct.ensures.ok x)) c.lay_distinct.ensures.ok

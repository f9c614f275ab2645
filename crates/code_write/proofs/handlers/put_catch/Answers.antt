use Rattle.std.proofs.lemmas.Result.{on_ok_weaker}
use Rattle.program_types.specs.View.{catch}
use Rattle.tables_names.specs.Closure.{NameRanks}
use Rattle.code_write.proofs.HandlerPacks.{catch-appends}
use Rattle.code_write.proofs.handlers.put_catch.Goals as goal

pub unreachable-requires : goal.unreachable-requires
unreachable-requires c = let h = c.requires.ranked in c.in_default.ensures.none h.0 h.1 h.2

pub returns-clause-ok : goal.returns-clause-ok
returns-clause-ok c =
    on_ok_weaker c.put_address.result
    (λ p. catch-appends (NameRanks c.args.ranks.now) c.args.starts.now _ _ _ c.in-Some.index (catch c.args.one.now) c.in_ok-put_uleb.ensures.ok c.in-Some.ensures.some p)
    c.put_address.ensures.ok

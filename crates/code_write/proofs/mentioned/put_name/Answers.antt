use Rattle.program_types.specs.View.{name}
use Rattle.tables_names.specs.Closure.{NameRanks}
use Rattle.code_write.proofs.mentioned.put_name.Goals as goal
use Rattle.dex_base.proofs.ListFacts.{zip_more}

pub unreachable-requires : goal.unreachable-requires
unreachable-requires c = let h = c.requires in c.in_default.ensures.none h.0 h.1 h.2

pub returns : goal.returns
returns c = record { ok = rw c.in_ok-push.ensures.items (λ names so_far. zip_more (λ n i. NameRanks c.args.ranks.now i n) names c.args.indices.now.items (name c.args.name) c.in-Some.index so_far c.in-Some.ensures.some) }

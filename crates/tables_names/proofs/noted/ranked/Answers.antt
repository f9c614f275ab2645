use Rattle.tables_names.proofs.NotedLemmas.{noted_lead}
use Rattle.tables_names.proofs.noted.ranked.Goals as goal

pub returns-clause-ranks : goal.returns-clause-ranks
returns-clause-ranks c =
    rw c.in_ok-noted.ensures
    (λ names noted. noted_lead c.args.numbered.names c.in_ok-ranks.ranks c.in_ok-ranks.rank_of c.in_ok-ranks.ensures.ranks names c.args.numbers.now noted)

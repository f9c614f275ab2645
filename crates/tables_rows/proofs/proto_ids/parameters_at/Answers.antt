use Rattle.std.proofs.Common.{sym, arith}
use Rattle.std.proofs.lemmas.Grind.{common_steps}
use Rattle.tables_rows.proofs.proto_ids.parameters_at.Goals as goal

pub returns-in-Some-clause-found : goal.returns-in-Some-clause-found
returns-in-Some-clause-found c = c.requires.cached c.args.off c.in-Some.known.now (sym c.in-Some.ensures.value)

pub returns-clause-found : goal.returns-clause-found
returns-clause-found c = record {
  list = rw c.in-Some-2.is at c.in_ok-params.ensures.found;
  fits = λ text at. let less = at.row in let all = c.table-shorty.ensures in absurd (grind (arith, common_steps));
}

use Rattle.dex_insn.proofs.StandingLaws.{is-payload, not-payload}
use Rattle.dex_insn.proofs.laws.payloads_by_identifier.Goals as goal

pub returns-clause-payload : goal.returns-clause-payload
returns-clause-payload c = is-payload

pub returns-clause-plain : goal.returns-clause-plain
returns-clause-plain c = not-payload

use Rattle.std.proofs.lemmas.Result.{IfOk-weaker, IfErr-weaker}
use Rattle.program_types.specs.View.{program}
use Rattle.listing_parse.proofs.ExactLaws.{listing_one, listing_none}
use Rattle.listing_parse.proofs.listing.parse_seeded.Goals as goal

pub returns-clause-one : goal.returns-clause-one
returns-clause-one c = IfOk-weaker c.read_program.result _ _ (λ p is q other. listing_one c.args.text.now q (program p) other is) c.read_program.ensures.ok

pub returns-clause-none : goal.returns-clause-none
returns-clause-none c = IfErr-weaker c.read_program.result _ _ (λ e broken ne q is. listing_none c.args.text.now q e.code e.place (broken ne) is) c.read_program.ensures.err

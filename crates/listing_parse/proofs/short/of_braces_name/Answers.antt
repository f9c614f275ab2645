use Rattle.program_types.specs.View.{name}
use Rattle.listing_parse.proofs.ShortLaws.{braces_read}
use Rattle.listing_parse.proofs.short.of_braces_name.Goals as goal

pub returns-clause-word_values : goal.returns-clause-word_values
returns-clause-word_values c = λ es.
    let front = c.in-Some in
    let took = c.take_registers-n in
    let last = c.in-Some-after_brace in
    braces_read es c.args.op c.args.rest.now front.inside.now took.result.2.now last.rest.now took.result.0 took.result.1 (name c.in-Some-2.name) front.ensures.0 front.ensures.1 took.ensures last.ensures.0 last.ensures.1
    ((rw c.in-Some-2.is at c.in_ok-name.ensures.word_values) es)

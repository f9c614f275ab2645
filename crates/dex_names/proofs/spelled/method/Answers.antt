use Rattle.program_types.specs.View.{method_ref}
use Rattle.listing_words.specs.Names.{IsMethodText}
use Rattle.dex_names.proofs.SpelledLaws.{found_in, none_in, no_units}
use Rattle.dex_names.proofs.spelled.method.Goals as goal

pub returns-in-Some-clause-found : goal.returns-in-Some-clause-found
returns-in-Some-clause-found c =
    let spells = rw c.in-Some.is at c.in_ok-units.ensures.found in
    found_in IsMethodText method_ref c.args.written.now c.in-Some.units.now c.read_method.result
    spells c.read_method.ensures.found

pub returns-in-Some-clause-none : goal.returns-in-Some-clause-none
returns-in-Some-clause-none c =
    let spells = rw c.in-Some.is at c.in_ok-units.ensures.found in
    none_in IsMethodText c.args.written.now c.in-Some.units.now c.read_method.result spells c.read_method.ensures.none

pub returns-in-None-clause-none : goal.returns-in-None-clause-none
returns-in-None-clause-none c = no_units IsMethodText c.args.written.now (rw c.in-None.is at c.in_ok-units.ensures.none)

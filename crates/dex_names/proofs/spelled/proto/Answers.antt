use Rattle.listing_words.specs.Names.{IsProtoText}
use Rattle.dex_names.proofs.SpelledLaws.{none_in}
use Rattle.dex_names.proofs.spelled.proto.Goals as goal

pub returns-in-Some-clause-none : goal.returns-in-Some-clause-none
returns-in-Some-clause-none c =
    let spells = rw c.in-Some.is at c.in_ok-units.ensures.found in
    none_in IsProtoText c.args.written.now c.in-Some.units.now c.read_proto.result spells c.read_proto.ensures.none

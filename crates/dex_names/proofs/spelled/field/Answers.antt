use Rattle.dex_base.proofs.OptionLaws.{IfNone-weaker}
use Rattle.listing_words.specs.Names.{IsFieldText}
use Rattle.dex_names.proofs.SpelledLaws.{no_form}
use Rattle.dex_names.proofs.spelled.field.Goals as goal

pub returns-in-Some-clause-none : goal.returns-in-Some-clause-none
returns-in-Some-clause-none c =
    let spells = rw c.in-Some.is at c.in_ok-units.ensures.found in
    IfNone-weaker c.read_field.result
    (no_form IsFieldText c.args.written.now c.in-Some.units.now spells) c.read_field.ensures.none

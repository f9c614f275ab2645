use Rattle.std.proofs.Common.{arith, ◌∙◌, sym}
use Rattle.program_types.specs.Shorty.{letter_of}
use Rattle.program_types.specs.View.{desc}
use Rattle.tables_names.proofs.ShortyLemmas.{letter_after}
use Rattle.tables_names.proofs.shorty.letter_at.Goals as goal
use Rattle.program_types.proofs.Letters.{length-letters}

pub returns-else-i-eq0 : goal.returns-else-i-eq0
returns-else-i-eq0 c =
    let params = c.args.name.now.params.now in
    c.letter-else-i-eq0.ensures ∙ sym (letter_after (letter_of (desc c.args.name.now.ret)) params c.args.i _ c.if-i-eq0.false (omega (arith, c.requires, length-letters params)))

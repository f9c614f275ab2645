use Rattle.std.proofs.Common.{sym, ap, ◌∙◌}
use Rattle.dex_insn.specs.Opcodes.{index_kind_of}
use Rattle.program_types.specs.View.{name}
use Rattle.listing_slots.specs.Data.{named}
use Rattle.listing_slots.specs.Shapes.{name_slot}
use Rattle.listing_parse.proofs.ShortLaws.{name_read}
use Rattle.listing_parse.proofs.short.last_named.Goals as goal

pub returns-in-Some-Name-clause-word_values : goal.returns-in-Some-Name-clause-word_values
returns-in-Some-Name-clause-word_values c = λ es.
    let k = sym (c.name_slot-slot.ensures ∙ ap name_slot c.index_kind_of.ensures) in
    name_read es (index_kind_of c.args.op) c.args.text.now c.in-Some.last.now (named (name c.in-Some-Name.name)) c.in-Some.ensures
    (rw k (rw (c.in-Some-Name.is, c.in-Some-Name.field-0-is) at c.in_ok-name.ensures.found))

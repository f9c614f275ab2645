use Rattle.std.proofs.Common.{ℕ, ◌∙◌, ap}
use Rattle.dex_base.specs.Fields.{u16_at}
use Rattle.dex_insn.specs.Opcodes.{index_kind_of}
use Rattle.file_renumber.specs.inner.Renumbered.{number_in}
use Rattle.file_renumber.proofs.ShapeLemmas.{short_put}
use Rattle.file_renumber.proofs.in_place.renumber_short.Goals as goal

pub returns : goal.returns
returns c =
    short_put c.args.front.now c.put_u16_at.new.bytes c.number_of-index.result (number_in c.args.numbers.now (index_kind_of c.args.op) (u16_at c.args.front.now 2)) c.requires.inside c.requires.has.short
    (c.number_of-index.ensures ∙ ap (λ (i : ℕ). number_in c.args.numbers.now (index_kind_of c.args.op) i) (c.from.ensures ∙ c.u16_at.ensures)) c.put_u16_at.ensures

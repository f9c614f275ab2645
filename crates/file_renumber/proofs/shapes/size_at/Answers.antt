use Rattle.std.proofs.Common.{◌∙◌, ap, ⊎_elim}
use Rattle.dex_insn.proofs.Unique.{once}
use Rattle.dex_insn.specs.Raw.{raw, units}
use Rattle.file_renumber.proofs.FormLemmas.{plain_size}
use Rattle.file_renumber.proofs.ShapeLemmas.{short_size, long_size, five_size}
use Rattle.file_renumber.proofs.shapes.size_at.Goals as goal

pub insn_at-requires : goal.insn_at-requires
insn_at-requires c = (c.requires.0, c.requires.1.spelled)

pub returns-in-Plain : goal.returns-in-Plain
returns-in-Plain c = λ r s. c.from.ensures ∙ ⊎_elim (λ e. plain_size r _ (s.shaped ∙ e)) (λ e. short_size r _ (s.shaped ∙ e)) c.in-Plain.is

pub returns-in-Long : goal.returns-in-Long
returns-in-Long c = λ r s. ⊎_elim (λ e. long_size r (s.shaped ∙ e)) (λ e. five_size r (s.shaped ∙ e)) c.in-Long.is

pub returns-in-Payload : goal.returns-in-Payload
returns-in-Payload c = λ r s. c.size_of.ensures ∙ ap units (once c.args.front.now (raw c.insn_at.result) r c.insn_at.ensures s.spelled)

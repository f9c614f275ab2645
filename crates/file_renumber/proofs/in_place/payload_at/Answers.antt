use Rattle.std.proofs.Common.{◌∙◌, ap}
use Rattle.dex_insn.proofs.Unique.{once}
use Rattle.dex_insn.specs.Raw.{raw, units}
use Rattle.file_renumber.specs.inner.InPlace.{is_padded}
use Rattle.file_renumber.proofs.in_place.payload_at.Goals as goal

pub returns : goal.returns
returns c = λ r s.
    let same = once c.args.front.now (raw c.insn_at-one.result) r c.insn_at-one.ensures s in
    (c.size_of.ensures ∙ ap units same, c.is_padded.ensures ∙ ap is_padded same)

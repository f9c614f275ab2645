use Rattle.std.proofs.Common.{refl}
use Rattle.code_align.specs.Aligned.{padded}
use Rattle.code_align.specs.inner.Aligning.{pads_from}
use Rattle.code_align.proofs.PadLaws.{pads-good, pads-even}
use Rattle.code_align.proofs.laws.aligned_exists.Goals as goal

pub returns : goal.returns
returns c = λ a.
    let ps = pads_from 0 a.insns in
    (padded ps a, record { pads = ps; payloads = pads-good 0 a.insns; even = pads-even 0 a.insns; is = refl })

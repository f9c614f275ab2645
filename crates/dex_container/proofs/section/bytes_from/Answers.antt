use Rattle.std.proofs.Common.{arith}
use Rattle.dex_container.proofs.Standing.{placed_low, placed_high}
use Rattle.dex_container.proofs.section.bytes_from.Goals as goal

pub returns-then-place-section-clause-none : goal.returns-then-place-section-clause-none
returns-then-place-section-clause-none c = λ p. let low = placed_low _ _ c.args.section c.args.place c.requires p in absurd (omega (arith, low, c.if-place-section.true))

pub returns-then-section-place-clause-none : goal.returns-then-section-place-clause-none
returns-then-section-place-clause-none c = λ p. let high = placed_high _ _ c.args.section c.args.place c.requires p in absurd (omega (arith, high, c.if-section-place.true))

use Rattle.std.proofs.Common.{ℕ, ℤ, ap}
use Rattle.dex_base.specs.Grammar.{Pair}
use Rattle.dex_base.specs.Leb128.{Spells, SpellsSigned}
use Rattle.dex_base.proofs.Numbers.{spells_unique}
use Rattle.dex_base.proofs.Signed.{signed_unique}
use Rattle.dex_base.proofs.GrammarLaws.{Pair-unique, Seen-unique}
use Rattle.dex_base.proofs.spelling_laws.pair_is_prefix_unique.Goals as goal

pub returns-clause-pair : goal.returns-clause-pair
returns-clause-pair c = Pair-unique Spells SpellsSigned spells_unique signed_unique

pub returns-clause-seen : goal.returns-clause-seen
returns-clause-seen c =
    Seen-unique (λ (p : ℤ × ℕ). (p.1, p.0)) (Pair Spells SpellsSigned) (λ s t e. ap (λ (q : ℕ × ℤ). (q.1, q.0)) e) (Pair-unique Spells SpellsSigned spells_unique signed_unique)

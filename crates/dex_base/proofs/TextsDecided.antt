-- Whether a text stands at the front of bytes is decided.
use Rattle.std.proofs.Common.{ℕ, List}
use Rattle.dex_base.specs.Grammar.{Counted}
use Rattle.dex_base.specs.Leb128.{Spells}
use Rattle.dex_base.specs.Deciding.{DecidedFront}
use Rattle.dex_base.proofs.Numbers.{spells_unique}
use Rattle.dex_base.proofs.GrammarLaws.{Counted-unique}
use Rattle.dex_base.proofs.Deciding.{decide_both, decide_lt, decide_list, decide_bounded, decide_counted, decide_ended, decide_uleb}
use Rattle.dex_base.specs.Mutf8.{SpellsUnit, SpellsText, unit_bytes}
use Rattle.dex_base.proofs.UnitLaws.{unit_unique}

pub decide_unit : (bytes : List ℕ) → DecidedFront SpellsUnit bytes
decide_unit = decide_bounded SpellsUnit 65536 (λ front v s. s.0) (λ front v. decide_both (decide_lt v 65536) (decide_list front (unit_bytes v)))

pub decide_text : (bytes : List ℕ) → DecidedFront SpellsText bytes
decide_text = decide_ended (Counted Spells SpellsUnit) (Counted-unique Spells SpellsUnit spells_unique unit_unique) (decide_counted SpellsUnit unit_unique decide_unit Spells spells_unique decide_uleb)

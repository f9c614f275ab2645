use Rattle.std.proofs.Common.{inl, inr, arith}
use Rattle.std.proofs.lemmas.List.{take_rest}
use Rattle.dex_base.specs.Grammar.{Counted}
use Rattle.dex_base.specs.Leb128.{Spells}
use Rattle.dex_base.specs.Mutf8.{SpellsUnit}
use Rattle.dex_base.proofs.Numbers.{spells_unique}
use Rattle.dex_base.proofs.UnitLaws.{unit_unique}
use Rattle.dex_base.proofs.GrammarLaws.{Counted-unique, Counted-found, Counted-none_many, Ended-found, Ended-none, Ended-none_zero}
use Rattle.dex_base.proofs.mutf8.read_mutf8.Goals as goal

pub returns-in_default-2-clause-none : goal.returns-in_default-2-clause-none
returns-in_default-2-clause-none c = Ended-none (Counted Spells SpellsUnit) _ (Counted-none_many Spells SpellsUnit c.args.bytes.now _ _ spells_unique c.in-Some.ensures.found (simp take_rest at (rw c.in_default-2.is at c.in_ok-units.ensures.none)))

pub returns-then-bytes-length-clause-none : goal.returns-then-bytes-length-clause-none
returns-then-bytes-length-clause-none c =
    let read = Counted-found Spells SpellsUnit c.args.bytes.now _ _ _ _ c.in-Some.ensures.found (simp take_rest at (rw c.in-Some-2.is at c.in_ok-units.ensures.found)) in
    Ended-none_zero (Counted Spells SpellsUnit) _ _ _ (Counted-unique Spells SpellsUnit spells_unique unit_unique) read (inl c.if-bytes-length.true)

pub returns-then-bytes-length-ne0-clause-none : goal.returns-then-bytes-length-ne0-clause-none
returns-then-bytes-length-ne0-clause-none c =
    let read = Counted-found Spells SpellsUnit c.args.bytes.now _ _ _ _ c.in-Some.ensures.found (simp take_rest at (rw c.in-Some-2.is at c.in_ok-units.ensures.found)) in
    Ended-none_zero (Counted Spells SpellsUnit) _ _ _ (Counted-unique Spells SpellsUnit spells_unique unit_unique) read (inr c.if-bytes-length-ne0.true)

pub returns-clause-found : goal.returns-clause-found
returns-clause-found c =
    let read = Counted-found Spells SpellsUnit c.args.bytes.now _ _ _ _ c.in-Some.ensures.found (simp take_rest at (rw c.in-Some-2.is at c.in_ok-units.ensures.found)) in
    let ended = Ended-found (Counted Spells SpellsUnit) _ _ _ read (omega arith) c.if-bytes-length-ne0.false in
    rw c.into_bump_slice.ensures ended

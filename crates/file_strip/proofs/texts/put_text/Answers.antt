use Rattle.std.proofs.Common.{List, ℕ, sym, subst, length, refl}
use Rattle.dex_base.specs.Grammar.{Takes, Ended, Many}
use Rattle.dex_base.specs.Mutf8.{SpellsUnit}
use Rattle.std.proofs.lemmas.Slice.{pushed}
use Rattle.file_strip.proofs.TextLaws.{no_count, counted, text_appends}
use Rattle.file_strip.proofs.texts.put_text.Goals as goal

pub unreachable-requires : goal.unreachable-requires
unreachable-requires c = no_count c.args.bytes.now c.requires.0 c.requires.1 c.requires.2 c.in_default.ensures.none

pub units_of-requires : goal.units_of-requires
units_of-requires c =
    let t = c.requires.0 in
    let rest = c.requires.1 in
    (t, rest, subst (λ (l : List ℕ). Takes (Ended (Many SpellsUnit (length t))) l t rest) (sym c.split_at.ensures.back) (counted c.args.bytes.now t rest c.in-Some.count c.in-Some.length c.requires.2 c.in-Some.ensures.found).1)

pub returns-clause-ok : goal.returns-clause-ok
returns-clause-ok c = λ t rest a.
    let n = counted c.args.bytes.now t rest c.in-Some.count c.in-Some.length a c.in-Some.ensures.found in
    text_appends _ _ _ c.units_of.result.now t c.in-Some.count n.0 c.in_ok-put_uleb.ensures.ok (pushed c.units_of.result.now refl c.in_ok-extend_from_slice.was c.extend_from_slice.ensures.items)
    (c.units_of.ensures t rest (subst (λ (l : List ℕ). Takes (Ended (Many SpellsUnit (length t))) l t rest) (sym c.split_at.ensures.back) n.1))

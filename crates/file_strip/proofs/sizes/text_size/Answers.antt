use Rattle.std.proofs.Common.{List, ℕ, sym, subst, length}
use Rattle.dex_base.specs.Grammar.{Takes, Ended, Many}
use Rattle.dex_base.specs.Mutf8.{SpellsUnit}
use Rattle.file_strip.proofs.SizeLaws.{text_wide}
use Rattle.file_strip.proofs.TextLaws.{no_count, counted}
use Rattle.file_strip.proofs.sizes.text_size.Goals as goal

pub unreachable-requires : goal.unreachable-requires
unreachable-requires c =
    let t = c.text_at-bytes.ensures c.requires.text.0 c.requires.text.1 in
    no_count c.text_at-bytes.result.now c.requires.text.0 t.0 t.1 c.in_default.ensures.none

pub units_of-requires : goal.units_of-requires
units_of-requires c =
    let t = c.requires.text.0 in
    let a = c.text_at-bytes.ensures t c.requires.text.1 in
    (t, a.0, subst (λ (l : List ℕ). Takes (Ended (Many SpellsUnit (length t))) l t a.0) (sym c.split_at.ensures.back) (counted c.text_at-bytes.result.now t a.0 _ c.in-Some.length a.1 c.in-Some.ensures.found).1)

pub returns : goal.returns
returns c = λ t st.
    let a = c.text_at-bytes.ensures t st in
    let n = counted c.text_at-bytes.result.now t a.0 _ c.in-Some.length a.1 c.in-Some.ensures.found in
    text_wide c.units_of.result.now t c.plus.result (c.units_of.ensures t a.0 (subst (λ (l : List ℕ). Takes (Ended (Many SpellsUnit (length t))) l t a.0) (sym c.split_at.ensures.back) n.1)) c.plus.ensures

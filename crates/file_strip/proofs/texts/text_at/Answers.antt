use Rattle.std.proofs.Common.{ℕ, sym, subst}
use Rattle.dex_base.specs.Mutf8.{SpellsText}
use Rattle.dex_container.specs.Where.{At}
use Rattle.file_strip.proofs.TextLaws.{text_taken}
use Rattle.file_strip.proofs.texts.text_at.Goals as goal
use Rattle.tables_rows.proofs.ClearRows.{text_placed}

pub string_place-requires : goal.string_place-requires
string_place-requires c = c.requires.text.1.row

pub unreachable-requires : goal.unreachable-requires
unreachable-requires c =
    let b = c.args.sections.now in
    c.in-None.ensures.none (text_placed b c.string_place.result c.requires.text.0 (subst (λ (o : ℕ). At SpellsText b 0x2002 1 o c.requires.text.0) (sym c.string_place.ensures) c.requires.text.1.text))

pub returns : goal.returns
returns c = λ t st.
    let b = c.args.sections.now in
    text_taken b c.in-Some.bytes.now c.args.texts c.string_place.result t c.requires.texts c.in-Some.ensures.value (subst (λ (o : ℕ). At SpellsText b 0x2002 1 o t) (sym c.string_place.ensures) st.text)

use Rattle.std.proofs.Common.{true≢false, refl, sym, arith}
use Rattle.file_strip.proofs.SizeLaws.{string_kept, sum_not_kept}
use Rattle.file_strip.proofs.TextLaws.{strings_long}
use Rattle.file_strip.proofs.sizes.add_string.Goals as goal

pub keeps-requires : goal.keeps-requires
keeps-requires c = let n = strings_long c.args.sections.now c.args.numbers.now c.requires.kept.0 c.requires.kept.1 in omega (arith, n, c.requires.row)

pub returns-then-not-keeps : goal.returns-then-not-keeps
returns-then-not-keeps c = λ p k s. sum_not_kept _ _ _ _ k.marked.strings.shape k.numbered.strings _ c.args.i c.args.sum c.requires.row (λ is. true≢false (sym (c.if-not-keeps.ensures.1 is))) s

pub text_size-requires-clause-text : goal.text_size-requires-clause-text
text_size-requires-clause-text c = let row = c.requires.kept.1.tables.strings c.args.i c.requires.row in (row.name, row.stands)

pub returns : goal.returns
returns c = λ p k s.
    string_kept c.args.sections.now c.args.numbers.now p k c.args.i c.args.sum c.text_size.result c.plus.result c.plus-2.result c.requires.row (c.if-not-keeps.ensures.0 refl) c.text_size.ensures c.plus.ensures c.plus-2.ensures s

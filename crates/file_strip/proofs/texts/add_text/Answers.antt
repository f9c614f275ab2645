use Rattle.std.proofs.Common.{true≢false, refl, sym, arith}
use Rattle.std.proofs.lemmas.Result.{on_ok_weaker}
use Rattle.file_strip.proofs.TextLaws.{strings_long, text_kept, text_not_kept}
use Rattle.file_strip.proofs.texts.add_text.Goals as goal

pub keeps-requires : goal.keeps-requires
keeps-requires c = let n = strings_long c.args.sections.now c.args.numbers.now c.requires.kept.0 c.requires.kept.1 in omega (arith, n, c.requires.row)

pub returns-then-not-keeps-clause-ok : goal.returns-then-not-keeps-clause-ok
returns-then-not-keeps-clause-ok c = λ p old k front l. text_not_kept c.args.sections.now c.args.numbers.now p k c.args.i old c.args.out.now.items c.args.places.now.items c.requires.row (λ is. true≢false (sym (c.if-not-keeps.ensures.1 is))) l

pub text_at-requires-clause-text : goal.text_at-requires-clause-text
text_at-requires-clause-text c = let row = c.requires.kept.1.tables.strings c.args.i c.requires.row in (row.name, row.stands)

pub put_text-requires : goal.put_text-requires
put_text-requires c = let row = c.requires.kept.1.tables.strings c.args.i c.requires.row in let t = c.text_at.ensures row.name row.stands in (row.name, t.0, t.1)

pub returns-clause-ok : goal.returns-clause-ok
returns-clause-ok c =
    on_ok_weaker c.put_text.result
    (λ f p old k front l.
    let row = k.tables.strings c.args.i c.requires.row in
    let t = c.text_at.ensures row.name row.stands in
    text_kept c.args.sections.now c.args.numbers.now p k c.args.i row.name old c.args.out.now.items c.put_text.new.out.items c.args.places.now.items c.push.new.self.items c.len.result c.requires.row row.stands (c.if-not-keeps.ensures.0 refl) front (omega (arith, c.len.ensures, c.args.out.now.ok.0)) c.in_ok-push.ensures.items (f row.name t.0 t.1) l)
    c.put_text.ensures.ok

use Rattle.std.proofs.Common.{◌∙◌, sym, subst, map}
use Rattle.std.proofs.lemmas.Result.{IfErr-weaker}
use Rattle.listing_words.specs.inner.View.{word}
use Rattle.listing_parse.specs.inner.Named.{ReadingIsNamed}
use Rattle.listing_parse.specs.inner.ReadingView.{reading}
use Rattle.listing_parse.proofs.NamedLaws.{second_named}
use Rattle.listing_parse.proofs.RefusedLaws.{meaningless_refused}
use Rattle.listing_parse.proofs.lines.add_line.Goals as goal

pub returns-in-Nothing-clause-refused : goal.returns-in-Nothing-clause-refused
returns-in-Nothing-clause-refused c =
    IfErr-weaker c.add_content.result _ _
    (λ e word_values ne. meaningless_refused (reading c.args.listing.now) c.args.line.now (map word c.read_words.new.words.items) e.code c.requires.not_skipped (rw c.if-not-branch.false at c.in_ok-read_words.ensures.read)
    (sym (rw c.as_slice.ensures.value at c.line_of_form.ensures) ∙ c.in-Nothing.is) (word_values ne))
    c.add_content.ensures.refused

pub returns-in-First-clause-named : goal.returns-in-First-clause-named
returns-in-First-clause-named c = second_named c.args.scratch.now.spelled (reading c.args.listing.now) (reading c.begin_second.new.self) c.begin_second.ensures.second

pub returns-in-Mark-clause-named : goal.returns-in-Mark-clause-named
returns-in-Mark-clause-named c = λ named. subst (ReadingIsNamed c.args.scratch.now.spelled) (sym c.pass_label.ensures.same) named

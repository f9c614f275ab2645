use Rattle.std.proofs.Common.{refl}
use Rattle.std.proofs.lemmas.Result.{IfOk-weaker}
use Rattle.program_types.specs.View.{insn}
use Rattle.listing_parse.specs.inner.View.{state}
use Rattle.listing_parse.specs.inner.ReadingView.{reading}
use Rattle.listing_parse.proofs.ShortLaws.{short_added, short_named}
use Rattle.listing_parse.proofs.lines.add_short.Goals as goal

pub returns-clause-added : goal.returns-clause-added
unfolding reading
returns-clause-added c =
    IfOk-weaker c.add_insn.result _ _
    (λ b a. short_added (reading c.args.listing.now) _ c.args.line.now (insn c.in-Some.new) (state c.add_insn.new.self) b (rw c.in-Some.is at c.in_ok-new.ensures.word_values) a refl)
    c.add_insn.ensures.added

pub returns-clause-named : goal.returns-clause-named
unfolding reading
returns-clause-named c =
    let short = rw c.in-Some.is at c.in_ok-new.ensures.word_values in
    IfOk-weaker c.add_insn.result _ _
    (λ b a. short_named c.args.scratch.now.spelled c.read_short.new.scratch.spelled (reading c.args.listing.now) (insn c.in-Some.new) (state c.add_insn.new.self) b short.stands (rw c.in-Some.is at c.in_ok-new.ensures.named) a)
    c.add_insn.ensures.added

use Rattle.std.proofs.Common.{◌≡◌, ℕ, ◌∙◌, arith}
use Rattle.file_classes.specs.ClassRows.{class_word}
use Rattle.dex_container.specs.Layout.{size_of}
use Rattle.file_strip.proofs.WordLaws.{words_more}
use Rattle.file_strip.proofs.class_words.class_words.Goals as goal

pub loop-i-preserved : goal.loop-i-preserved
loop-i-preserved c =
    words_more c.loop-i.words.items c.push.new.self.items c.class_word.result c.loop-i.i (λ (k : ℕ). class_word c.args.sections.now k c.args.j) c.loop-i.invariant.0 c.loop-i.invariant.1 c.in_ok-push.ensures.items c.class_word.ensures

pub returns-clause-ok : goal.returns-clause-ok
returns-clause-ok c =
    let n = c.class_count-count.ensures in
    let e : c.loop-i.i ≡ size_of c.args.sections.now 5 = omega (arith, n, c.loop-i-test.false, c.loop-i.auto.i-end) in
    record { count = c.loop-i.invariant.0 ∙ e; each = λ k lt. c.loop-i.invariant.1 k (omega (arith, e, lt)) }

use Rattle.std.proofs.Common.{arith}
use Rattle.file_put.specs.inner.Codes.{WritesBody, is_bodiless}
use Rattle.file_strip.specs.inner.Bodies.{WritesCarried}
use Rattle.file_strip.proofs.BodyLaws.{some_carried}
use Rattle.file_strip.proofs.MovedLaws.{item_again, item_used, moved_more}
use Rattle.file_strip.proofs.StaticsLaws.{off_some}
use Rattle.file_strip.proofs.codes.add_body.Goals as goal

pub returns-in-Some-clause-ok : goal.returns-in-Some-clause-ok
returns-in-Some-clause-ok c = λ s v x.
    let m = c.requires.moved c.args.body.code c.in-Some.place c.in-Some.ensures in
    item_again is_bodiless (WritesBody s) 4 c.args.moved.now.items c.args.out.now.items m.0 v c.in-Some.place (m.1 s v (some_carried c.args.sections.now c.args.numbers.now s c.args.body.code v (off_some (λ e. omega (arith, e))) x)) m.2

pub returns-clause-moved : goal.returns-clause-moved
returns-clause-moved c =
    moved_more (WritesCarried c.args.sections.now c.args.numbers.now) 4 c.args.moved.now.items c.put_aligned.new.self.items _ _ c.in_ok-bytes.bytes.items c.args.body.code _ c.args.moved.now.places c.put_aligned.new.self.places c.requires.moved c.in_ok-bytes.ensures.ok
    c.in_ok-put_aligned.ensures.ok c.in_ok-put_aligned.ensures.moved

pub returns-clause-ok : goal.returns-clause-ok
returns-clause-ok c = λ s v x.
    item_used is_bodiless (WritesBody s) 4 _ _ _ _ c.in_ok-bytes.bytes.items v _ (c.in_ok-bytes.ensures.ok s v (some_carried c.args.sections.now c.args.numbers.now s c.args.body.code v (off_some (λ e. omega (arith, e))) x)) c.in_ok-put_aligned.ensures.ok

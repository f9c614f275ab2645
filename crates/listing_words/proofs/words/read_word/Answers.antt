use Rattle.std.proofs.Common.{arith, ap, length, length-append}
use Rattle.listing_words.proofs.WordLaws.{quoted_none, quoted_open, plain_found, plain_some, plain_cut}
use Rattle.listing_words.proofs.words.read_word.Goals as goal

pub returns-in_default-2-clause-none : goal.returns-in_default-2-clause-none
returns-in_default-2-clause-none c = quoted_none c.args.line.now c.in-Some.inner.now (let e = c.in-Some.ensures.cases.0 in let f = c.after_spaces-text.ensures.rest in let g = c.if-first-eq34.true in cc) (rw c.in_default-2.is at c.in_ok-units.ensures.none)

pub returns-then-not-is_end-clause-none : goal.returns-then-not-is_end-clause-none
returns-then-not-is_end-clause-none c = quoted_open c.args.line.now c.in-Some.inner.now _ _ (let e = c.in-Some.ensures.cases.0 in let f = c.after_spaces-text.ensures.rest in let g = c.if-first-eq34.true in cc) (rw c.in-Some-2.is at c.in_ok-units.ensures.found) (λ e. let k = c.is_end.ensures.1 e in let l = c.if-not-is_end.true in absurd cc)

pub returns-then-first-eq34-clause-shorter : goal.returns-then-first-eq34-clause-shorter
returns-then-first-eq34-clause-shorter c = let s = rw c.in-Some-2.is at c.in_ok-units.ensures.shorter in let e = c.in-Some.ensures.cases.1 in omega (arith, s)

pub returns-then-not-is_end-2-clause-none : goal.returns-then-not-is_end-2-clause-none
returns-then-not-is_end-2-clause-none c =
    let cut = c.split_graphic.ensures in
    plain_cut c.args.line.now c.in-Some.first.now c.in-Some.inner.now c.split_graphic.result.0.now c.split_graphic.result.1.now
    (let e = c.in-Some.ensures.cases.0 in let f = c.after_spaces-text.ensures.rest in cc) c.if-first-eq34.false
    (let j = cut.joined in let f = c.after_spaces-text.ensures.rest in cc) cut.graphic cut.stops
    (λ e. let k = c.is_end-2.ensures.1 e in let l = c.if-not-is_end-2.true in absurd cc)

pub returns-clause-found : goal.returns-clause-found
returns-clause-found c =
    let cut = c.split_graphic.ensures in
    plain_found c.args.line.now c.in-Some.first.now c.in-Some.inner.now c.split_graphic.result.0.now c.split_graphic.result.1.now
    (let e = c.in-Some.ensures.cases.0 in let f = c.after_spaces-text.ensures.rest in cc) c.if-first-eq34.false
    (let j = cut.joined in let f = c.after_spaces-text.ensures.rest in cc) cut.graphic (c.is_end-2.ensures.0 c.if-not-is_end-2.false)

pub returns-clause-shorter : goal.returns-clause-shorter
returns-clause-shorter c =
    let cut = c.split_graphic.ensures in
    let some = plain_some c.args.line.now c.in-Some.first.now c.in-Some.inner.now c.split_graphic.result.0.now c.split_graphic.result.1.now
    (let e = c.in-Some.ensures.cases.0 in let f = c.after_spaces-text.ensures.rest in cc)
    (let j = cut.joined in let f = c.after_spaces-text.ensures.rest in cc) cut.graphic (c.is_end-2.ensures.0 c.if-not-is_end-2.false) in
    omega (arith, some, ap length cut.joined, length-append c.split_graphic.result.0.now c.split_graphic.result.1.now, c.after_spaces-text.ensures.within)

use Rattle.std.proofs.Common.{arith, ap, ◌∙◌, ◌≡◌, ◌∷◌, List, ℕ, ◌+◌, ◌*◌}
use Rattle.std.specs.Char.{digit_value}
use Rattle.listing_words.proofs.BitLaws.{elements_more, elements_less, elements_end, digit_small}
use Rattle.listing_words.proofs.bits.read_elements.Goals as goal

pub loop-first-preserved : goal.loop-first-preserved
loop-first-preserved c =
    let e : c.loop-first.rest.now ≡ c.in-Some.first.now ∷ c.in-Some-split_first.second.now ∷ c.in-Some-split_first.after.now = c.in-Some.ensures.cases.0 ∙ ap (λ (t : List ℕ). c.in-Some.first.now ∷ t) c.in-Some-split_first.ensures.cases.0 in
    let h = digit_small c.digit-high.result c.in-Some.first.now c.digit-high.ensures.value c.if-high-ge16.false in
    let k = digit_small c.digit-low.result c.in-Some-split_first.second.now c.digit-low.ensures.value c.if-low-ge16.false in
    let v : c.digit-high.result * 16 + c.digit-low.result ≡ digit_value c.in-Some.first.now * 16 + digit_value c.in-Some-split_first.second.now = omega (arith, h, k, c.digit-high.ensures.value, c.digit-low.ensures.value) in
    record {
      found = λ more s. rw (c.in_ok-push.ensures.items, v) (elements_more c.args.word.now c.loop-first.rest.now c.loop-first.bytes.items c.in-Some.first.now c.in-Some-split_first.second.now c.in-Some-split_first.after.now e h k c.loop-first.invariant.found more s);
      none = λ all s. let m = c.loop-first.invariant.none all s in elements_less c.loop-first.rest.now c.in-Some.first.now c.in-Some-split_first.second.now c.in-Some-split_first.after.now m.0 e m.1;
    }

pub returns-clause-found : goal.returns-clause-found
returns-clause-found c = rw c.into_bump_slice.ensures (elements_end _ _ _ c.in_default.ensures.cases c.loop-first.invariant.found)

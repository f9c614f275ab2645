use Rattle.std.proofs.Common.{◌≡◌, get_or, sym, arith}
use Rattle.std.specs.Char.{digit_value}
use Rattle.std.proofs.lemmas.Option.{IfSome_then}
use Rattle.std.proofs.lemmas.Int.Digits.{digits_more}
use Rattle.listing_words.proofs.NumberLaws.{step_value}
use Rattle.listing_parse.proofs.ShortLaws.{digit_is, digits_taken, digits_end, space_there}
use Rattle.listing_parse.proofs.short_pieces.take_digits.Goals as goal

pub loop-at-preserved : goal.loop-at-preserved
loop-at-preserved c =
    let text = c.args.text.now in
    let at = c.loop-at.at in
    let d : digit_value (get_or text at 0) ≡ c.from.result = digit_is (get_or text at 0) c.from.result (omega arith) (omega arith) (omega arith) in
    record {
      value = rw (sym d) (step_value 10 text at c.loop-at.value c.loop-at-test.true c.loop-at.invariant.value);
      digits = digits_more 10 text at c.loop-at-test.true c.loop-at.invariant.digits (omega arith);
      small = omega arith;
    }

pub returns-then-c-eq32 : goal.returns-then-c-eq32
returns-then-c-eq32 c =
    let text = c.args.text.now in
    let l = c.loop-at in
    IfSome_then c.cut_digits.result c.cut_digits.ensures
    (λ r h. digits_taken c.args.most text l.at r.0 l.value r.1.now (omega arith) l.invariant.digits l.invariant.value l.invariant.small (space_there text l.at c.loop-at-test.true c.if-c-eq32.true) h.0 h.1 h.2)

pub returns : goal.returns
returns c =
    let l = c.loop-at in
    IfSome_then c.cut_digits-2.result c.cut_digits-2.ensures
    (λ r h. digits_end c.args.most c.args.text.now l.at r.0 l.value r.1.now l.auto.at-end c.loop-at-test.false l.invariant.digits l.invariant.value l.invariant.small h.0 h.1 h.2)

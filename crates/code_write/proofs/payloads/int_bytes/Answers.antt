use Rattle.std.proofs.Common.{◌≡◌, ℕ, ℤ, List, length, get_or, ◌++◌, arith, ap, sym, ◌∙◌, rules, pos, refl, append-nil, length-append}
use mir.Val.{SFits}
use Rattle.std.specs.Int.{cast_unsigned, w32}
use Rattle.std.proofs.lemmas.Int.{to_z-of_z}
use Rattle.dex_base.specs.Fields.{u32_bytes}
use Rattle.dex_base.proofs.FieldBounds.{length-u32_bytes}
use Rattle.code_read.specs.Symbols.{ints}
use Rattle.code_write.proofs.IntLaws.{ints-none, ints-turn}
use Rattle.code_write.proofs.payloads.int_bytes.Goals as goal
use Rattle.std.proofs.lemmas.List.{drop_all}

pub loop-number-init : goal.loop-number-init
loop-number-init c = record {
  so_far = ap (λ (l : List ℤ). l ++ c.args.numbers.now) (ints-none _ c.new-bytes.ensures.items);
  count = omega (arith, ap length c.new-bytes.ensures.items);
}

pub loop-number-preserved : goal.loop-number-preserved
loop-number-preserved c =
    let z : ℤ = get_or c.args.numbers.now c.loop-number.number-index (pos 0) in
    let fits : SFits w32 z = search rules in
    let u : c.cast_unsigned.result ≡ cast_unsigned w32 z = simp to_z-of_z at c.cast_unsigned.ensures in
    let e = c.in_ok-put_u32.ensures.ok ∙ ap (λ (n : ℕ). c.loop-number.bytes.items ++ u32_bytes n) u in
    record {
      so_far = ints-turn c.loop-number.bytes.items _ c.loop-number.number-index z c.args.numbers.now c.loop-number-test.true refl c.loop-number.invariant.count fits e c.loop-number.invariant.so_far;
      count = let n = c.loop-number.invariant.count in omega (arith, ap length e, length-append c.loop-number.bytes.items (u32_bytes (cast_unsigned w32 z)), length-u32_bytes (cast_unsigned w32 z));
    }

pub returns-clause-ok : goal.returns-clause-ok
returns-clause-ok c =
    sym (append-nil (ints c.loop-number.bytes.items)) ∙ ap (λ (l : List ℤ). ints c.loop-number.bytes.items ++ l) (sym (drop_all c.loop-number.number-index c.args.numbers.now (omega arith))) ∙ c.loop-number.invariant.so_far

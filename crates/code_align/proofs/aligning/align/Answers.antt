use Rattle.std.proofs.Common.{◌≡◌, ◌<◌, ◌≤◌, ◌+◌, ◌∙◌, List, Bool, map, length, arith, ap, subst}
use Rattle.std.specs.Prelude.{slice_index}
use Rattle.std.proofs.lemmas.List.{length-map}
use Rattle.program_types.specs.Content.{Insn}
use Rattle.program_types.specs.View as view
use Rattle.program_types.specs.View.{insn, try}
use Rattle.program_types.specs.Formed.{insn_at}
use Rattle.code_align.specs.Aligned.{moved, moved_insn, moved_try, with_nops}
use Rattle.code_align.specs.inner.Aligning.{pads_from}
use Rattle.code_align.proofs.PadLaws.{length-pads, aligned-length, same-moved, pads-good, pads-even, length-with_nops}
use Rattle.code_align.proofs.AlignedFormed.{aligned-formed}
use Rattle.code_align.proofs.MoveLaws.{operand-more, try-below, insns-same, tries-same}
use Rattle.code_align.proofs.aligning.align.Goals as goal
use Rattle.code_align.proofs.aligning.align.Goals.{After-deref}
use Rattle.dex_base.proofs.ListFacts.{passed}

-- after the pads were told
module _ (c : After-deref) where
  abbrev is : List Insn
  is = map insn c.args.code.now.insns.now

  abbrev ps : List Bool
  ps = pads_from 0 is

  told : c.deref.result.now ≡ ps
  told = c.deref.ensures.value ∙ c.in_ok-pads.ensures.ok

  counts : (length c.deref.result.now ≡ length ps) × (length ps ≡ length is) × (length is ≡ length c.args.code.now.insns.now) × (length is ≤ 2147483647)
  counts = (ap length told, length-pads 0 is, length-map c.args.code.now.insns.now insn, c.requires.formed.few)

pub numbers_of-requires : goal.numbers_of-requires
numbers_of-requires c = let n = counts (goal.at.numbers_of-requires c).After-deref in record { few = omega arith }

pub returns-in_err-numbers-clause-err : goal.returns-in_err-numbers-clause-err
returns-in_err-numbers-clause-err c =
    let m = (goal.at.returns-in_err-numbers-clause-err c).After-deref in
    let n = counts m in
    passed _ _ _ c.from_residual-in_err-numbers.ensures.1 (λ ne.
    let r = c.in_err-numbers.ensures.err ne in (
      r.0,
      λ d a.
          let l : 2147483647 < moved (ps m) (length (ps m)) = subst (λ (qs : List Bool). 2147483647 < moved qs (length qs)) (told m) r.1 in
          let e = aligned-length (view.code c.args.code.now) d a in
          omega arith,
    ))

pub moved_insns-requires-clause-count : goal.moved_insns-requires-clause-count
moved_insns-requires-clause-count c = ap length (c.deref-3.ensures.value ∙ c.in_ok-pads.ensures.ok) ∙ length-pads 0 (map insn c.args.code.now.insns.now) ∙ length-map c.args.code.now.insns.now insn

pub moved_insns-requires-clause-operands : goal.moved_insns-requires-clause-operands
moved_insns-requires-clause-operands c = λ k l.
    let m = (goal.at.moved_insns-requires-clause-operands c).After-deref in
    let n = counts m in
    let t = c.in_ok-numbers.ensures.ok.count in
    let d = ap length c.deref-2.ensures.value in
    operand-more (length (is m)) (length c.deref-2.result.now) (insn_at (is m) k) (omega arith) (c.requires.formed.operands k (omega arith))

pub moved_tries-requires : goal.moved_tries-requires
moved_tries-requires c =
    let m = (goal.at.moved_tries-requires c).After-deref in
    let n = counts m in
    let t = c.in_ok-numbers.ensures.ok.count in
    let d = ap length c.deref-4.ensures.value in
    let q = length-map c.args.code.now.tries.now try in
    record { inside = λ i l. try-below (length (is m)) (length c.deref-4.result.now) (map try c.args.code.now.tries.now) i (omega arith) (c.requires.formed.tries i (omega arith)) }

pub returns-clause-ok : goal.returns-clause-ok
returns-clause-ok c =
    let m = (goal.at.returns-clause-ok c).After-deref in
    let n = counts m in
    let same = same-moved (ps m) c.deref.result.now c.in_ok-numbers.numbers.items c.deref-2.result.now (told m) c.deref-2.ensures.value c.in_ok-numbers.ensures.ok in
    let same_tries = same-moved (ps m) c.deref.result.now c.in_ok-numbers.numbers.items c.deref-4.result.now (told m) c.deref-4.ensures.value c.in_ok-numbers.ensures.ok in
    let insns : map insn c.in_ok-insns.insns.now ≡ map (moved_insn (moved (ps m))) (with_nops (ps m) (is m)) =
    c.in_ok-insns.ensures.ok ∙ ap (λ (qs : List Bool). map (moved_insn (slice_index c.deref-2.result.now)) (with_nops qs (is m))) (c.deref-3.ensures.value ∙ c.in_ok-pads.ensures.ok)
    ∙ insns-same (slice_index c.deref-2.result.now) (moved (ps m)) (length (is m)) (λ k l. same k (omega arith)) (ps m) (is m) c.requires.formed.operands in
    let tries : map try c.in_ok-tries.tries.now ≡ map (moved_try (moved (ps m))) (map try c.args.code.now.tries.now) =
    c.in_ok-tries.ensures.ok ∙ tries-same (slice_index c.deref-4.result.now) (moved (ps m)) (length (ps m) + 1) same_tries (map try c.args.code.now.tries.now)
    (λ i l. try-below (length (is m)) (length (ps m) + 1) (map try c.args.code.now.tries.now) i (omega arith) (c.requires.formed.tries i l)) in
    record {
      pads = ps m;
      payloads = pads-good 0 (is m);
      even = pads-even 0 (is m);
      is = λ j. record { registers = c.args.code.now.registers; ins = c.args.code.now.ins; outs = c.args.code.now.outs; insns = insns j; tries = tries j };
    }

pub returns-clause-formed : goal.returns-clause-formed
returns-clause-formed c =
    let m = (goal.at.returns-clause-formed c).After-deref in
    let n = counts m in
    let f : moved (ps m) (length (ps m)) ≤ 2147483647 = subst (λ (qs : List Bool). moved qs (length qs) ≤ 2147483647) (told m) c.in_ok-numbers.ensures.few in
    let a = length-map c.in_ok-insns.insns.now insn in
    let b = length-map (with_nops (ps m) (is m)) (moved_insn (slice_index c.deref-2.result.now)) in
    let e = ap length (c.in_ok-insns.ensures.ok ∙ ap (λ (qs : List Bool). map (moved_insn (slice_index c.deref-2.result.now)) (with_nops qs (is m))) (c.deref-3.ensures.value ∙ c.in_ok-pads.ensures.ok)) in
    let g = length-with_nops (ps m) (is m) n.1 in
    aligned-formed (view.code c.args.code.now) _ c.requires.formed (returns-clause-ok c) (omega arith)

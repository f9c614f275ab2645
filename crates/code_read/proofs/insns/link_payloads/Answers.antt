use Rattle.std.proofs.Common.{rules, arith, map, length, refl, ◌<◌, ◌≡◌}
use Rattle.std.proofs.lemmas.List.{length-map}
use Rattle.dex_insn.specs.Raw.{raw}
use Rattle.program_types.specs.View.{insn}
use Rattle.tables_rows.specs.Names.{NameIsAt}
use Rattle.code_read.proofs.LinkLaws.{at_raw}
use Rattle.code_read.proofs.Lists.{kept-in_place, put-in_place}
use Rattle.code_read.proofs.ReadLaws.{own-linked, linked-all}
use Rattle.code_read.proofs.insns.link_payloads.Goals as goal
use Rattle.code_read.proofs.insns.link_payloads.Goals.{then-is_payload+in_ok-half, else-is_payload}

pub loop-k-preserved : goal.loop-k-preserved
loop-k-preserved c =
    let old = map insn c.args.half.now in
    let n = c.requires.half.count in
    let m = length-map c.args.insns.now raw in
    let l = c.loop-k-test.true in
    let inside : c.loop-k.k < length old = omega (arith, n, m, l) in
    elim c.if-is_payload.branch [
      | then-is_payload+in_ok-half w ↦ rw w.half-is (put-in_place _ old c.loop-k.half _ c.loop-k.k c.loop-k.invariant inside (rw at_raw w.in_ok-half.ensures.ok))
      | else-is_payload w ↦ rw w.half-is (kept-in_place _ old (map insn c.loop-k.half) c.loop-k.k c.loop-k.invariant
          (own-linked (NameIsAt c.args.tables.now) c.args.insns.now c.args.starts.now c.requires.table old c.args.origins.now c.requires.half c.requires.origins c.loop-k.k _ l (search rules) refl))
    ]

pub returns : goal.returns
returns c = record {
  ok =
      let old = map insn c.args.half.now in
      let n = c.requires.half.count in
      let m = length-map c.args.insns.now raw in
      let l = c.loop-k-test.false in
      let end : c.loop-k.k ≡ length c.args.insns.now = omega arith in
      linked-all (NameIsAt c.args.tables.now) c.args.insns.now c.args.starts.now c.requires.table old c.args.origins.now c.requires.half c.requires.origins (map insn c.loop-k.half) c.loop-k.k end
      (record { count = (let s = c.loop-k.invariant.count in omega (arith, s, n, m, end)); each = c.loop-k.invariant.done });
}

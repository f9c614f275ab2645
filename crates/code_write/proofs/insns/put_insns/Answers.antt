use Rattle.std.proofs.Common.{map, get_or, length, take, drop, suc, ap, add-one, arith, refl, sym, subst}
use Rattle.std.proofs.lemmas.List.{length-map}
use Rattle.std.specs.List.{flat_map}
use Rattle.program_types.specs.Content.{Insn as SpecInsn}
use Rattle.program_types.specs.Mentions.{names_of_insn}
use Rattle.program_types.specs.declared.insn.Insn.{Insn}
use Rattle.program_types.specs.View.{insn}
use Rattle.tables_names.specs.Closure.{NameRanks}
use Rattle.tables_names.specs.Noted.{AreRanks}
use Rattle.code_write.specs.Fits.{BranchFits, TargetsFit}
use Rattle.code_write.proofs.MentionLaws.{next_indices}
use Rattle.code_write.proofs.SizeLaws.{insn-at}
use Rattle.code_write.proofs.PutLaws.{put-none, put-turn, put-all, origin-inside, origin-branch, origin-targets}
use Rattle.code_write.proofs.insns.put_insns.Goals as goal

pub at-requires : goal.at-requires
at-requires c =
    let m = length-map c.args.insns.now insn in
    let j = origin-inside (map insn c.args.insns.now) c.loop-k.k (get_or c.args.origins.now c.loop-k.k 0) (omega arith) (c.requires.origins.each c.loop-k.k (omega arith)) in
    let n = c.requires.count in
    omega arith

pub put_one-requires-clause-branch : goal.put_one-requires-clause-branch
put_one-requires-clause-branch c =
    let m = length-map c.args.insns.now insn in
    let i = insn-at c.args.insns.now c.loop-k.k c.index-insns-k.result c.loop-k-test.true c.index-insns-k.is in
    let b = origin-branch (map insn c.args.insns.now) c.args.starts.now c.loop-k.k (get_or c.args.origins.now c.loop-k.k 0) (c.requires.origins.each c.loop-k.k (omega arith)) (c.requires.offsets c.loop-k.k c.loop-k-test.true) in
    rw c.at.ensures.value (subst (λ (x : SpecInsn). BranchFits c.args.starts.now (get_or c.args.starts.now (get_or c.args.origins.now c.loop-k.k 0) 0) x) (sym i) b)

pub put_one-requires-clause-targets : goal.put_one-requires-clause-targets
put_one-requires-clause-targets c =
    let m = length-map c.args.insns.now insn in
    let i = insn-at c.args.insns.now c.loop-k.k c.index-insns-k.result c.loop-k-test.true c.index-insns-k.is in
    let b = origin-targets (map insn c.args.insns.now) c.args.starts.now c.loop-k.k (get_or c.args.origins.now c.loop-k.k 0) (c.requires.payloads c.loop-k.k c.loop-k-test.true) (c.requires.origins.each c.loop-k.k (omega arith)) (c.requires.offsets c.loop-k.k c.loop-k-test.true) in
    rw c.at.ensures.value (subst (λ (x : SpecInsn). TargetsFit c.args.starts.now (get_or c.args.starts.now (get_or c.args.origins.now c.loop-k.k 0) 0) x) (sym i) b)

pub loop-k-init : goal.loop-k-init
loop-k-init c = record { put = put-none (NameRanks c.args.ranks.now) (map insn c.args.insns.now) c.args.starts.now c.args.out.now.items; rest = c.requires.indices }

pub split_at-requires : goal.split_at-requires
split_at-requires c =
    let next = next_indices c.args.ranks.now c.args.insns.now c.loop-k.k c.index-insns-k.result c.loop-k.rest.now c.loop-k-test.true c.loop-k.invariant.rest in
    let own = ap (λ (x : Insn). length (names_of_insn (insn x))) c.index-insns-k.is in
    omega (arith, next.0, own, c.names_in.ensures.count)

pub put_one-requires-clause-indices : goal.put_one-requires-clause-indices
put_one-requires-clause-indices c =
    let next = next_indices c.args.ranks.now c.args.insns.now c.loop-k.k c.index-insns-k.result c.loop-k.rest.now c.loop-k-test.true c.loop-k.invariant.rest in
    let one = subst (λ (x : Insn). AreRanks c.args.ranks.now (names_of_insn (insn x)) (take (length (names_of_insn (insn x))) c.loop-k.rest.now)) (sym c.index-insns-k.is) next.1 in
    rw (c.split_at.ensures.front, c.names_in.ensures.count) one

pub loop-k-preserved : goal.loop-k-preserved
loop-k-preserved c =
    let m = length-map c.args.insns.now insn in
    let i = insn-at c.args.insns.now c.loop-k.k c.index-insns-k.result c.loop-k-test.true c.index-insns-k.is in
    let next = next_indices c.args.ranks.now c.args.insns.now c.loop-k.k c.index-insns-k.result c.loop-k.rest.now c.loop-k-test.true c.loop-k.invariant.rest in
    let after = subst (λ (x : Insn). AreRanks c.args.ranks.now (flat_map names_of_insn (map insn (drop (suc c.loop-k.k) c.args.insns.now))) (drop (length (names_of_insn (insn x))) c.loop-k.rest.now)) (sym c.index-insns-k.is) next.2 in
    record {
      put = put-turn (NameRanks c.args.ranks.now) (map insn c.args.insns.now) c.args.starts.now c.args.out.now.items _ _ c.loop-k.k (get_or c.args.origins.now c.loop-k.k 0) _ _ c.loop-k.invariant.put
          (c.requires.origins.each c.loop-k.k (omega arith)) (c.requires.even c.loop-k.k c.loop-k-test.true) i refl (rw c.at.ensures.value at c.in_ok-put_one.ensures.ok);
      rest = rw (c.split_at.ensures.back, c.names_in.ensures.count, add-one) after;
    }

pub returns-clause-ok : goal.returns-clause-ok
returns-clause-ok c =
    let m = length-map c.args.insns.now insn in
    put-all (NameRanks c.args.ranks.now) (map insn c.args.insns.now) c.args.starts.now _ _ c.loop-k.k (omega arith) c.loop-k.invariant.put

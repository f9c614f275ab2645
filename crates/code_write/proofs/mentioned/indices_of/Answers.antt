use Rattle.std.proofs.Common.{List, ◌++◌, map, take, arith, take_all, subst, sym}
use Rattle.std.proofs.lemmas.List.{length-map}
use Rattle.std.specs.List.{AllByRecursion, flat_map}
use Rattle.program_types.specs.Content.{Insn as SpecInsn}
use Rattle.program_types.specs.Mentions.{names_of_insn}
use Rattle.program_types.specs.View.{insn}
use Rattle.program_types.specs.declared.insn.Insn.{Insn}
use Rattle.tables_names.specs.Closure.{NameRanks}
use Rattle.tables_names.specs.Noted.{AreRanks}
use Rattle.code_write.specs.Fits.{HasIndexBelow}
use Rattle.code_write.proofs.FormLaws.{names-at}
use Rattle.code_write.proofs.MentionLaws.{names_more}
use Rattle.code_write.proofs.SizeLaws.{insn-at}
use Rattle.code_write.proofs.mentioned.indices_of.Goals as goal

pub loop-one-init : goal.loop-one-init
loop-one-init c = rw c.new-indices.ensures.items tt

pub put_index-requires : goal.put_index-requires
put_index-requires c =
    let m = length-map c.args.insns.now insn in
    let i = insn-at c.args.insns.now c.loop-one.one-index c.one-item.result c.loop-one-test.true c.one-item.is in
    subst (λ (x : SpecInsn). AllByRecursion (HasIndexBelow (NameRanks c.args.ranks.now) 4294967296) (names_of_insn x)) (sym i) (names-at (HasIndexBelow (NameRanks c.args.ranks.now) 4294967296) (map insn c.args.insns.now) c.loop-one.one-index c.requires (omega (arith, m, c.loop-one-test.true)))

pub loop-one-preserved : goal.loop-one-preserved
loop-one-preserved c =
    let xs = c.args.insns.now in
    let k = c.loop-one.one-index in
    let put = c.in_ok-put_index.ensures.ok (flat_map names_of_insn (map insn (take k xs))) c.loop-one.invariant in
    let here = subst (λ (x : Insn). AreRanks c.args.ranks.now (flat_map names_of_insn (map insn (take k xs)) ++ names_of_insn (insn x)) c.put_index.new.indices.items) c.one-item.is put in
    rw (names_more xs k c.one-item.result c.loop-one-test.true) here

pub returns : goal.returns
returns c = record { ok = subst (λ (xs : List Insn). AreRanks c.args.ranks.now (flat_map names_of_insn (map insn xs)) c.loop-one.indices.items) (take_all c.loop-one.one-index c.args.insns.now (omega arith)) c.loop-one.invariant }

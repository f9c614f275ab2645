use Rattle.std.proofs.Common.{◌∙◌, ◌+◌, ◌++◌, List, map, take, subst}
use Rattle.std.specs.List.{flat_map}
use Rattle.std.proofs.lemmas.List.{take_all}
use Rattle.program_types.specs.View.{insn}
use Rattle.program_types.specs.Formed.{insn_leads}
use Rattle.program_types.specs.declared.insn.Insn.{Insn}
use Rattle.listing_print.specs.inner.Marks.{IsMarked}
use Rattle.listing_print.proofs.MarkLaws.{marked_join, flat_more}
use Rattle.listing_print.proofs.marks.mark_insns.Goals as goal

pub loop-i-preserved : goal.loop-i-preserved
loop-i-preserved c =
    let xs = c.args.insns.now in
    let i = c.loop-i.i in
    record {
      marked = λ ns m. marked_join c.mark_insn.new.marks ns (flat_map insn_leads (map insn (take i xs))) _ (flat_map insn_leads (map insn (take (i + 1) xs))) (flat_more insn insn_leads xs i c.index-insns-i.result c.loop-i-test.true)
          (subst (λ (v : Insn). IsMarked c.mark_insn.new.marks ((ns ++ flat_map insn_leads (map insn (take i xs))) ++ insn_leads (insn v))) c.index-insns-i.is (c.mark_insn.ensures.marked (ns ++ flat_map insn_leads (map insn (take i xs))) (c.loop-i.invariant.marked ns m)));
      same = c.mark_insn.ensures.same ∙ c.loop-i.invariant.same;
    }

pub returns-clause-marked : goal.returns-clause-marked
returns-clause-marked c = λ ns m. subst (λ (xs : List Insn). IsMarked c.loop-i.marks (ns ++ flat_map insn_leads (map insn xs))) (take_all c.loop-i.i c.args.insns.now c.loop-i-test.false) (c.loop-i.invariant.marked ns m)

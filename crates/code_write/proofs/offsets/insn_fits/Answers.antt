use Rattle.std.proofs.Common.{◌<◌, map, length, get_or, arith, sym, subst, rules}
use Rattle.program_types.specs.View.{insn}
use Rattle.program_types.specs.Content.{Insn}
use Rattle.code_write.specs.Fits.{BranchFits, TargetsFit}
use Rattle.std.proofs.lemmas.List.{length-map}
use Rattle.code_write.proofs.SizeLaws.{insn-at}
use Rattle.code_write.proofs.PutLaws.{origin-targets}
use Rattle.code_write.proofs.FitLaws.{offsets-from}
use Rattle.code_write.proofs.offsets.insn_fits.Goals as goal

pub returns : goal.returns
returns c =
    let is = map insn c.args.insns.now in
    let e = insn-at c.args.insns.now c.args.k c.index-insns-k.result c.requires.inside c.index-insns-k.is in
    let o = get_or c.args.origins.now c.args.k 0 in
    let n = length-map c.args.insns.now insn in
    let l = c.requires.inside in
    let m : c.args.k < length (map insn c.args.insns.now) = omega arith in
    let true_branch = subst (λ (i : Insn). BranchFits c.args.starts.now (get_or c.args.starts.now c.args.k 0) i) e (c.branch_fits.ensures.0 (search rules)) in (
      λ t. offsets-from (map insn c.args.insns.now) c.args.starts.now c.args.k (get_or c.args.origins.now c.args.k 0) (c.requires.origins.each c.args.k m) c.requires.payload true_branch
          (subst (λ (i : Insn). TargetsFit c.args.starts.now (get_or c.args.starts.now (get_or c.args.origins.now c.args.k 0) 0) i) e (c.targets_fit.ensures.0 t)),
      λ h. c.targets_fit.ensures.1 (subst (λ (i : Insn). TargetsFit c.args.starts.now (get_or c.args.starts.now (get_or c.args.origins.now c.args.k 0) 0) i) (sym e)
          (origin-targets (map insn c.args.insns.now) c.args.starts.now c.args.k (get_or c.args.origins.now c.args.k 0) c.requires.payload (c.requires.origins.each c.args.k m) h)),
    )

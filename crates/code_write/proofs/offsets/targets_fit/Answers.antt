use Rattle.std.proofs.Common.{◌<◌, ℕ, List, length, sym, subst}
use Rattle.std.specs.Prelude.{FitsSigned}
use Rattle.std.specs.Int.{w32}
use Rattle.std.specs.List.{AllByRecursion}
use Rattle.program_types.specs.View.{insn}
use Rattle.code_write.specs.Fits.{distance_of}
use Rattle.code_write.proofs.ListLaws.{all-at, all-from}
use Rattle.code_write.proofs.FitLaws.{targets-inside}
use Rattle.code_write.proofs.offsets.targets_fit.Goals as goal

pub all_fit-requires : goal.all_fit-requires
all_fit-requires c = record {
  inside = λ i l.
      all-at (λ (t : ℕ). t < length c.args.starts.now) c.targets_of.result.now i 0
      (subst (λ (ts : List ℕ). AllByRecursion (λ t. t < length c.args.starts.now) ts) (sym c.targets_of.ensures) (targets-inside (length c.args.starts.now) (insn c.args.one.now) c.requires.operand)) l;
}

pub returns : goal.returns
returns c = (
  λ t. subst (λ (ts : List ℕ). AllByRecursion (λ to. FitsSigned w32 (distance_of c.args.starts.now c.args.at to)) ts) c.targets_of.ensures
      (all-from (λ (to : ℕ). FitsSigned w32 (distance_of c.args.starts.now c.args.at to)) c.targets_of.result.now 0 (c.all_fit.ensures.0 t)),
  λ h. c.all_fit.ensures.1 (λ i l.
      all-at (λ (to : ℕ). FitsSigned w32 (distance_of c.args.starts.now c.args.at to)) c.targets_of.result.now i 0
      (subst (λ (ts : List ℕ). AllByRecursion (λ to. FitsSigned w32 (distance_of c.args.starts.now c.args.at to)) ts) (sym c.targets_of.ensures) h) l),
)

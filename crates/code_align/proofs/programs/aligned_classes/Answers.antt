use Rattle.std.proofs.Common.{rules}
use Rattle.code_align.specs.Programs.{AlignedClass, IsShort}
use Rattle.code_align.proofs.PairLaws.{pair_step, pair_done, none_paired, all_more}
use Rattle.program_types.specs.Formed.{IsFormed}
use Rattle.program_types.specs.View.{class}
use Rattle.program_rules.specs.Rules.{CodesHold}
use Rattle.code_align.proofs.programs.aligned_classes.Goals as goal
use Rattle.dex_base.proofs.ListFacts.{all_at, passed}

pub aligned_class-requires : goal.aligned_class-requires
aligned_class-requires c = record { formed = all_at (CodesHold IsFormed) class c.args.all.now c.loop-one.one-index _ c.loop-one-test.true c.requires.formed }

pub returns-in_err-aligned_class-clause-err : goal.returns-in_err-aligned_class-clause-err
returns-in_err-aligned_class-clause-err c =
    passed _ _ _ c.from_residual-in_err-aligned_class.ensures.1 (λ ne. let f = c.in_err-aligned_class.ensures.err ne in
    record { is = f.0; each = none_paired AlignedClass (CodesHold IsShort) class c.args.all.now c.loop-one.one-index _ c.loop-one-test.true f.1 })

pub loop-one-preserved : goal.loop-one-preserved
loop-one-preserved c = rw c.in_ok-push.ensures.items (
  pair_step AlignedClass class c.args.all.now c.loop-one.classes.items c.loop-one.one-index _ c.in_ok-aligned_class.field-0 c.loop-one-test.true c.loop-one.invariant.0 c.in_ok-aligned_class.ensures.ok,
  all_more (CodesHold IsFormed) class c.loop-one.classes.items c.in_ok-aligned_class.field-0 c.loop-one.invariant.1 c.in_ok-aligned_class.ensures.formed,
)

pub returns-clause-ok : goal.returns-clause-ok
returns-clause-ok c = rw c.into_bump_slice.ensures (pair_done AlignedClass class c.args.all.now c.loop-one.classes.items c.loop-one.one-index (search rules) c.loop-one.invariant.0)

pub returns-clause-formed : goal.returns-clause-formed
returns-clause-formed c = rw c.into_bump_slice.ensures c.loop-one.invariant.1

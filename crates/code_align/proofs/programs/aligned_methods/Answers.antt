use Rattle.std.proofs.Common.{rules}
use Rattle.std.specs.Prelude.{IfSome}
use Rattle.code_align.specs.Programs.{AlignedMethod, IsShort}
use Rattle.code_align.proofs.PairLaws.{pair_step, pair_done, none_paired, all_more}
use Rattle.program_types.specs.Content.{Method}
use Rattle.program_types.specs.Formed.{IsFormed}
use Rattle.program_types.specs.View.{method}
use Rattle.code_align.proofs.programs.aligned_methods.Goals as goal
use Rattle.dex_base.proofs.ListFacts.{all_at, passed}

abbrev Formed : Method → Type 0
Formed m = IfSome m.code IsFormed

abbrev Short : Method → Type 0
Short m = IfSome m.code IsShort

pub aligned_method-requires : goal.aligned_method-requires
aligned_method-requires c = record { formed = all_at Formed method c.args.all.now c.loop-one.one-index _ c.loop-one-test.true c.requires.formed }

pub returns-in_err-aligned_method-clause-err : goal.returns-in_err-aligned_method-clause-err
returns-in_err-aligned_method-clause-err c =
    passed _ _ _ c.from_residual-in_err-aligned_method.ensures.1 (λ ne. let f = c.in_err-aligned_method.ensures.err ne in
    (f.0, none_paired AlignedMethod Short method c.args.all.now c.loop-one.one-index _ c.loop-one-test.true f.1))

pub loop-one-preserved : goal.loop-one-preserved
loop-one-preserved c = rw c.in_ok-push.ensures.items (
  pair_step AlignedMethod method c.args.all.now c.loop-one.methods.items c.loop-one.one-index _ c.in_ok-aligned_method.field-0 c.loop-one-test.true c.loop-one.invariant.0 c.in_ok-aligned_method.ensures.ok,
  all_more Formed method c.loop-one.methods.items c.in_ok-aligned_method.field-0 c.loop-one.invariant.1 c.in_ok-aligned_method.ensures.formed,
)

pub returns-clause-ok : goal.returns-clause-ok
returns-clause-ok c = rw c.into_bump_slice.ensures (pair_done AlignedMethod method c.args.all.now c.loop-one.methods.items c.loop-one.one-index (search rules) c.loop-one.invariant.0)

pub returns-clause-formed : goal.returns-clause-formed
returns-clause-formed c = rw c.into_bump_slice.ensures c.loop-one.invariant.1

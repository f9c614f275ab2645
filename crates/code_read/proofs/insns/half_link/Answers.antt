use Rattle.std.proofs.Common.{arith, map}
use Rattle.program_types.specs.View.{insn}
use Rattle.tables_rows.specs.Names.{NameIsAt}
use Rattle.code_read.proofs.Lists.{none-so-far, one-more}
use Rattle.code_read.proofs.ReadLaws.{half-all, name-broken}
use Rattle.code_read.proofs.insns.half_link.Goals as goal

pub loop-k-init : goal.loop-k-init
loop-k-init c = none-so-far _ _ c.in_ok-half.ensures.items

pub loop-k-preserved : goal.loop-k-preserved
loop-k-preserved c = one-more _ c.loop-k.k c.loop-k.half.items _ c.in-Some.one c.loop-k.invariant c.in-Some.ensures.some c.in_ok-push-in-Some.ensures.items

pub returns-in-None-clause-err : goal.returns-in-None-clause-err
returns-in-None-clause-err c = λ ne. name-broken (NameIsAt c.args.tables.now) c.args.insns.now c.args.starts.now c.requires.table (map insn c.loop-k.half.items) c.args.base c.loop-k.k _ c.loop-k-test.true c.loop-k.invariant c.in-None.ensures.none c.fault_at.ensures

pub returns-clause-ok : goal.returns-clause-ok
returns-clause-ok c = half-all (NameIsAt c.args.tables.now) c.args.insns.now c.args.starts.now c.requires.table (map insn c.loop-k.half.items) c.loop-k.k (omega arith) c.loop-k.invariant

use Rattle.std.proofs.Common.{◌*◌, drop, arith, length-drop}
use Rattle.dex_insn.proofs.Flaws.{no_flaw, missing}
use Rattle.dex_insn.proofs.read.take_insn.Goals as goal
use Rattle.dex_base.proofs.ListFacts.{rest_is}

pub returns-then-units-begin-clause-err : goal.returns-then-units-begin-clause-err
returns-then-units-begin-clause-err g c =
    let us = drop (2 * c.args.at) c.args.units.now in
    let broken = missing c.args.at us (omega (arith, length-drop (2 * c.args.at) c.args.units.now)) in
    record { place = c.fault.ensures.place; broken = rw c.fault.ensures.code broken }

pub returns-in-Ok-clause-ok : goal.returns-in-Ok-clause-ok
returns-in-Ok-clause-ok g c =
    let e = rest_is (2 * c.args.at) c.args.units.now in
    let s = c.in-Ok.ensures.ok in
    (s.0, record { spelled = rw e at s.1; even = rw e at c.in-Ok.ensures.even }, s.2)

pub returns-in-Err-clause-only : goal.returns-in-Err-clause-only
returns-in-Err-clause-only g c = λ r s.
    let e = rest_is (2 * c.args.at) c.args.units.now in
    absurd (no_flaw _ c.args.at c.args.units.now r s (rw e at c.in-Err.ensures.err))

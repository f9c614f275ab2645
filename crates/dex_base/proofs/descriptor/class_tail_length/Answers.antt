use Rattle.std.proofs.Common.{inl, inr, arith}
use Rattle.std.proofs.lemmas.List.{take_rest}
use Rattle.dex_base.proofs.DescriptorLaws.{tail_next, tail_fails, tail_breaks, tail_ends}
use Rattle.dex_base.proofs.descriptor.class_tail_length.Goals as goal

pub returns-then-run-eq0-clause-none : goal.returns-then-run-eq0-clause-none
returns-then-run-eq0-clause-none c = tail_fails c.args.units.now _ _ (record { before = c.loop-at.invariant; run_is = simp take_rest at c.name_run-run.ensures.run }) (inl c.if-run-eq0.true)

pub returns-then-at-units-clause-none : goal.returns-then-at-units-clause-none
returns-then-at-units-clause-none c = tail_fails c.args.units.now _ _ (record { before = c.loop-at.invariant; run_is = simp take_rest at c.name_run-run.ensures.run }) (inr c.if-at-units.true)

pub returns-then-units-at-eq-SEMICOLON-clause-found : goal.returns-then-units-at-eq-SEMICOLON-clause-found
returns-then-units-at-eq-SEMICOLON-clause-found c = tail_ends c.args.units.now _ _ (record { before = c.loop-at.invariant; run_is = simp take_rest at c.name_run-run.ensures.run }) (omega (arith, c.if-run-eq0.false)) (omega arith) c.if-units-at-eq-SEMICOLON.true

pub returns-then-units-at-ne-SLASH-clause-none : goal.returns-then-units-at-ne-SLASH-clause-none
returns-then-units-at-ne-SLASH-clause-none c = tail_breaks c.args.units.now _ _ (record { before = c.loop-at.invariant; run_is = simp take_rest at c.name_run-run.ensures.run }) c.if-units-at-eq-SEMICOLON.false c.if-units-at-ne-SLASH.true

pub loop-at-preserved : goal.loop-at-preserved
loop-at-preserved c = tail_next c.args.units.now _ _ (record { before = c.loop-at.invariant; run_is = simp take_rest at c.name_run-run.ensures.run }) (omega (arith, c.if-run-eq0.false)) (omega arith) c.if-units-at-ne-SLASH.false

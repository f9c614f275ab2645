use Rattle.std.proofs.Common.{refl}
use Rattle.std.proofs.lemmas.Bool.{ltb-true, lt-ltb}
use Rattle.program_types.specs.View.{desc}
use Rattle.program_rules.proofs.NumberLaws.{examined-up, not-found}
use Rattle.program_rules.proofs.numbers.is_none_from.Goals as goal

pub returns-in-Some : goal.returns-in-Some
returns-in-Some c = λ p h. let w = examined-up p c.args.from (desc c.args.ty) c.in-Some.last.now _ (h.last c.args.ty) c.in-Some.ensures.value in (λ y. w.0 (ltb-true _ _ y), λ f. lt-ltb _ _ (w.1 f))

pub returns-in-None : goal.returns-in-None
returns-in-None c = λ p h. (λ y. not-found p c.args.from (desc c.args.ty) _ (h.last c.args.ty) c.in-None.ensures.value, λ f. refl)

use Rattle.std.proofs.Common.{true≢false, sym, inl, inr, ⊎_elim}
use Rattle.program_types.proofs.kinds.is_class_or_array.Goals as goal

pub returns-then-is_class : goal.returns-then-is_class
returns-then-is_class c = ((λ is. inl (c.is_class.ensures.0 is)), (λ _. c.if-is_class.true))

pub returns-else-is_class : goal.returns-else-is_class
returns-else-is_class c = ((λ is. inr (c.is_array.ensures.0 is)), ⊎_elim (λ is. absurd (true≢false (sym (c.if-is_class.ensures.1 is)))) c.is_array.ensures.1)

-- The bodies of a well-formed program are well formed.
use Rattle.std.proofs.Common.{◌≡◌, ℕ, zero, suc, List, [], ◌∷◌, ◌++◌, refl, Option, Some}
use Rattle.std.specs.Prelude.{IfSome}
use Rattle.std.specs.List.{AllByRecursion, flat_map, slice_get}
use Rattle.file_limits.specs.Wide.{bodies_in, bodies_of}
use Rattle.file_limits.specs.inner.Wide.{body_values}
use Rattle.program_types.specs.Content.{Class, Code, Method, Program}
use Rattle.program_types.specs.Formed.{IsFormed}
use Rattle.program_rules.specs.Ranges.{ClassInRange}
use Rattle.program_rules.specs.Rules.{CodesHold}
use Rattle.program_rules.specs.WellFormed.{WellFormed}
use Rattle.program_rules.proofs.FormedLaws.{class_formed}
use Rattle.dex_base.proofs.ListFacts.{all_get}

abbrev AreFormed : List (Option Code) → Type 0
AreFormed bodies = AllByRecursion (λ (o : Option Code). IfSome o IsFormed) bodies

both_formed : (xs ys : List (Option Code)) → AreFormed xs → AreFormed ys → AreFormed (xs ++ ys)
both_formed [] ys h k = k
both_formed (x ∷ xs) ys h k = (h.0, both_formed xs ys h.1 k)

methods_formed : (ms : List Method) → AllByRecursion (λ (m : Method). IfSome m.code IsFormed) ms → AreFormed (bodies_in ms)
methods_formed [] h = tt
methods_formed (m ∷ ms) h = (h.0, methods_formed ms h.1)

all_formed : (p : Program) → ((i : ℕ) (c : Class) → slice_get p i ≡ Some c → CodesHold IsFormed c) → AreFormed (flat_map bodies_of p)
all_formed [] h = tt
all_formed (c ∷ p) h =
    let own = h zero c refl in
    both_formed (bodies_of c) (flat_map bodies_of p) (both_formed (bodies_in c.directs) (bodies_in c.virtuals) (methods_formed c.directs own.directs) (methods_formed c.virtuals own.virtuals))
    (all_formed p (λ i d e. h (suc i) d e))

pub bodies_formed : (p : Program) → WellFormed p → (n : ℕ) (o : Option Code) → slice_get (body_values p) n ≡ Some o → IfSome o IsFormed
bodies_formed p w n o e =
    all_get (λ (x : Option Code). IfSome x IsFormed) (body_values p) n o
    (all_formed p (λ i c at. (let k = w.rules i c at in class_formed c k.operands k.targets k.payloads k.tries k.registers (all_get ClassInRange p i c w.ranges at)))) e

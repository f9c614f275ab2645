-- A program is aligned in one way, and what is too long then isn't well formed.
use Rattle.std.proofs.Common.{◌≡◌, List, [], ◌∷◌, refl, sym, ap, ◌∙◌, Option, Some, None}
use Rattle.dex_base.specs.declared.fault.Fault.{Fault}
use Rattle.program_types.specs.Content.{Code, Method, Class, Program}
use Rattle.program_types.specs.Formed.{IsFormed}
use Rattle.code_align.proofs.PadLaws.{aligned-one}
use Rattle.code_align.specs.Programs.{Pairwise, AlignedBody, AlignedMethod, AlignedClass, AlignedProgram, IsShort, IsTooLong}
use Rattle.code_align.proofs.WellLaws.{codes_turned, program_formed}
use Rattle.code_rules.proofs.OperandLaws.{formed_operands}
use Rattle.program_rules.specs.Rules.{CodesHold}
use Rattle.program_rules.specs.WellFormed.{WellFormed}
use Rattle.dex_base.proofs.ListFacts.{all_weaker}

pairs_one : {A : Type 0} (R : A → A → Type 0) → ((x y z : A) → R x y → R x z → y ≡ z) → (xs ys zs : List A) → Pairwise R xs ys → Pairwise R xs zs → ys ≡ zs
pairs_one R one [] [] [] p q = refl
pairs_one R one [] [] (z ∷ zs) p q = absurd q
pairs_one R one [] (y ∷ ys) zs p q = absurd p
pairs_one R one (x ∷ xs) [] zs p q = absurd p
pairs_one R one (x ∷ xs) (y ∷ ys) [] p q = absurd q
pairs_one R one (x ∷ xs) (y ∷ ys) (z ∷ zs) p q =
    let here = one x y z p.0 q.0 in
    let rest = pairs_one R one xs ys zs p.1 q.1 in
    (λ k. here k ∷ rest k)

body_one : (c d e : Option Code) → AlignedBody c d → AlignedBody c e → d ≡ e
body_one None None None p q = refl
body_one None None (Some e) p q = absurd q
body_one None (Some d) e p q = absurd p
body_one (Some c) None e p q = absurd p
body_one (Some c) (Some d) None p q = absurd q
body_one (Some c) (Some d) (Some e) p q = ap (λ (x : Code). Some x) (aligned-one c d e p q)

method_one : (m n o : Method) → AlignedMethod m n → AlignedMethod m o → n ≡ o
method_one m n o p q =
    let a = p.name ∙ sym q.name in let b = p.proto ∙ sym q.proto in let c = p.flags ∙ sym q.flags in let d = body_one m.code n.code o.code p.code q.code in
    (λ k. record { name = a k; proto = b k; flags = c k; code = d k })

class_one : (c d e : Class) → AlignedClass c d → AlignedClass c e → d ≡ e
class_one c d e p q =
    let a0 = p.ty ∙ sym q.ty in let a1 = p.flags ∙ sym q.flags in let a2 = p.superclass ∙ sym q.superclass in let a3 = p.interfaces ∙ sym q.interfaces in
    let a4 = p.source ∙ sym q.source in let a5 = p.statics ∙ sym q.statics in let a6 = p.values ∙ sym q.values in let a7 = p.instances ∙ sym q.instances in
    let a8 = pairs_one AlignedMethod method_one c.directs d.directs e.directs p.directs q.directs in
    let a9 = pairs_one AlignedMethod method_one c.virtuals d.virtuals e.virtuals p.virtuals q.virtuals in
    (λ k. record { ty = a0 k; flags = a1 k; superclass = a2 k; interfaces = a3 k; source = a4 k; statics = a5 k; values = a6 k; instances = a7 k; directs = a8 k; virtuals = a9 k })

pub program_aligned_one : (p q r : Program) → AlignedProgram p q → AlignedProgram p r → q ≡ r
program_aligned_one p q r x y = pairs_one AlignedClass class_one p q r x y

pub too_long_unformed : (p q : Program) (fault : Fault) → IsTooLong p fault → AlignedProgram p q → WellFormed q → ⊥
too_long_unformed p q fault long aligned well =
    long.each q aligned (all_weaker (CodesHold IsFormed) (CodesHold IsShort) (codes_turned IsShort (λ c f. (formed_operands c f).few)) q (program_formed q well))

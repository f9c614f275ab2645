-- Classes with the places of their bodies, one by one.
use Rattle.std.proofs.Common.{◌≡◌, ℕ, zero, suc, ◌+◌, ◌≤◌, List, [], ◌∷◌, length, take, drop, get_or, ap, subst, arith, length-append, length-drop, slice_get, Some, None}
use Rattle.std.proofs.lemmas.List.{length-map}
use Rattle.std.specs.List.{flat_map}
use Rattle.file_limits.specs.Wide.{bodies_of}
use Rattle.file_limits.specs.inner.Wide.{body_values}
use Rattle.program_types.specs.Content.{Class, Program}
use Rattle.program_types.specs.View as view
use Rattle.program_types.specs.declared.class.Class as made
use Rattle.file_put.specs.inner.Data.{ClassWithCodes, method_count, with_code_places}
use Rattle.file_put.proofs.SitedLaws.{rest_after, count_of_bodies}

-- class i with its places
pub sited_at : (p : Program) (codes : List ℕ) (i : ℕ) (c : Class) (n : ClassWithCodes) → slice_get p i ≡ Some c → get_or (with_code_places p codes) i n ≡ record { class = c; codes = take (method_count c) (rest_after p codes i) }
sited_at [] codes i c n at = absurd cc
sited_at (d ∷ p) codes zero c n at = let e : d ≡ c = cc in ap (λ (x : Class). record { class = x; codes = take (method_count x) codes }) e
sited_at (d ∷ p) codes (suc i) c n at = sited_at p (drop (method_count d) codes) i c n at

pub rest_next : (p : Program) (codes : List ℕ) (i : ℕ) (c : Class) → slice_get p i ≡ Some c → rest_after p codes (suc i) ≡ drop (method_count c) (rest_after p codes i)
rest_next [] codes i c at = absurd cc
rest_next (d ∷ p) codes zero c at = let e : d ≡ c = cc in ap (λ (x : Class). drop (method_count x) codes) e
rest_next (d ∷ p) codes (suc i) c at = rest_next p (drop (method_count d) codes) i c at

-- there are places left for class i
pub rest_enough : (p : Program) (codes : List ℕ) (i : ℕ) (c : Class) → slice_get p i ≡ Some c → length codes ≡ length (body_values p) → method_count c ≤ length (rest_after p codes i)
rest_enough [] codes i c at e = absurd cc
rest_enough (d ∷ p) codes zero c at e =
    let same : d ≡ c = cc in
    let a = length-append (bodies_of d) (flat_map bodies_of p) in
    let b = count_of_bodies d in
    subst (λ (x : Class). method_count x ≤ length codes) same (omega (arith, e, a, b))
rest_enough (d ∷ p) codes (suc i) c at e =
    let a = length-append (bodies_of d) (flat_map bodies_of p) in
    let b = count_of_bodies d in
    let n = length-drop (method_count d) codes in
    rest_enough p (drop (method_count d) codes) i c at (omega (arith, e, a, b, n))

-- how many methods a class in memory has
pub count_in : (c : made.Class) → method_count (view.class c) ≡ length c.directs.now + length c.virtuals.now
count_in c = let d = length-map c.directs.now view.method in let v = length-map c.virtuals.now view.method in omega (arith, d, v)

abbrev pub no_sited : ClassWithCodes
no_sited = record { class = record { ty = []; flags = 0; superclass = None; interfaces = []; source = None; statics = []; values = []; instances = []; directs = []; virtuals = [] }; codes = [] }

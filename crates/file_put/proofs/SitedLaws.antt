-- Classes with the places of their bodies.
use Rattle.std.proofs.Common.{◌≡◌, ℕ, zero, suc, List, [], ◌∷◌, length, drop, refl, ap, arith, length-append}
use Rattle.std.proofs.lemmas.List.{length-map}
use Rattle.file_layout.specs.Sections.{wide_all}
use Rattle.file_limits.specs.Wide.{bodies_in, bodies_of, wide_data}
use Rattle.program_types.specs.Content.{Class, Program}
use Rattle.file_put.specs.inner.Data.{method_count, with_code_places, wide_with_codes}

pub length-sited : (p : Program) (codes : List ℕ) → length (with_code_places p codes) ≡ length p
length-sited [] codes = refl
length-sited (c ∷ p) codes = ap suc (length-sited p (drop (method_count c) codes))

pub room_of_sited : (p : Program) (codes : List ℕ) → wide_all wide_with_codes (with_code_places p codes) ≡ wide_all wide_data p
room_of_sited [] codes = refl
room_of_sited (c ∷ p) codes = let r = room_of_sited p (drop (method_count c) codes) in omega (arith, r)

-- the places after those of the first i classes
abbrev pub rest_after : Program → List ℕ → ℕ → List ℕ
rest_after p codes zero = codes
rest_after [] codes (suc i) = codes
rest_after (c ∷ p) codes (suc i) = rest_after p (drop (method_count c) codes) i

pub count_of_bodies : (c : Class) → length (bodies_of c) ≡ method_count c
count_of_bodies c =
    let a = length-append (bodies_in c.directs) (bodies_in c.virtuals) in
    let d = length-map c.directs (λ m. m.code) in
    let v = length-map c.virtuals (λ m. m.code) in
    omega (arith, a, d, v)

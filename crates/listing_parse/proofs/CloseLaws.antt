-- Values of the static fields.
use Rattle.std.proofs.Common.{◌≡◌, ℕ, zero, suc, ◌+◌, ◌<◌, ◌≤◌, ltb, if◌then◌else◌, List, [], ◌∷◌, ◌++◌, length, get_or, take, map, refl, sym, ap, ◌∙◌, arith}
use Rattle.std.proofs.lemmas.List.{map-append, take_all, take_more, length-map}
use Rattle.program_types.specs.View.{member, value}
use Rattle.program_types.specs.declared.class.Member.{Member as Field}
use Rattle.program_types.specs.declared.value.Value.{Value as Put}
use Rattle.listing_parse.specs.Members.{Given, value_or_zero}
use Rattle.listing_parse.specs.inner.View.{given}
use Rattle.listing_parse.specs.declared.close.Given.{Given as Made}

-- after i fields, of which the last with a value ends at n
abbrev pub ends_at : ℕ → ℕ → ℕ → ℕ
ends_at n i more = if ltb 0 more then i + more else n

-- ---- what is placed

pub fields_are : (all : List Made) → map member (map (λ (g : Made). g.field) all) ≡ map (λ g. g.field) (map given all)
fields_are [] = refl
fields_are (g ∷ all) = ap (λ t. member g.field ∷ t) (fields_are all)

pub fields_placed : (all : List Made) (fields : List Field) (i : ℕ) → length all ≤ i → fields ≡ map (λ (g : Made). g.field) (take i all) → map member fields ≡ map (λ g. g.field) (map given all)
fields_placed all fields i h e = ap (map member) (e ∙ ap (map (λ (g : Made). g.field)) (take_all i all h)) ∙ fields_are all

given_at : (all : List Made) (i : ℕ) (x : Made) (d : Given) → i < length all → given (get_or all i x) ≡ get_or (map given all) i d
given_at [] i x d h = absurd (omega arith)
given_at (g ∷ all) zero x d h = refl
given_at (g ∷ all) (suc i) x d h = given_at all i x d (omega arith)

pub values_push : (all : List Made) (done : List Put) (v : Put) (i : ℕ) (x : Made) → i < length all → map value done ≡ map value_or_zero (take i (map given all)) → value v ≡ value_or_zero (given (get_or all i x))
    → map value (done ++ v ∷ []) ≡ map value_or_zero (take (i + 1) (map given all))
values_push all done v i x h e f =
    let n : i < length (map given all) = (let l = length-map all given in omega arith) in
    let t = take_more (map given all) i (given x) n in
    map-append value done (v ∷ []) ∙ rw (e, f, given_at all i x (given x) h) (sym (ap (map value_or_zero) t ∙ map-append value_or_zero (take i (map given all)) (get_or (map given all) i (given x) ∷ [])))

-- The zero that the reader takes for a type is the one that the grammar names, and no other is.
use Rattle.std.proofs.Common.{◌≡◌, ◌≢◌, ◌==◌, ◌||◌, ℕ, Bool, false, inl, inr, slice_index, refl, codes}
use Rattle.std.specs.List.{list_any}
use Rattle.std.proofs.lemmas.Bool.{cases_eq, ne_eqb}
use Rattle.program_types.specs.Content as content
use Rattle.program_types.specs.Content.{Descriptor, Value}
use Rattle.listing_parse.specs.Zeros.{zero_of}
use Rattle.listing_parse.specs.Classes.{IsZero, of_boolean, of_byte, of_short, of_char, of_int, of_long, of_float, of_double, of_reference}

no_letter : (x : ℕ) → x ≢ 90 → x ≢ 66 → x ≢ 83 → x ≢ 67 → x ≢ 73 → x ≢ 74 → x ≢ 70 → x ≢ 68 → list_any (λ c. x == c) (codes "ZBSCIJFD") ≡ false
no_letter x a b c d e f g h = rw (ne_eqb x 90 a, ne_eqb x 66 b, ne_eqb x 83 c, ne_eqb x 67 d, ne_eqb x 73 e, ne_eqb x 74 f, ne_eqb x 70 g, ne_eqb x 68 h) refl

pub zero_there : (ty : Descriptor) → IsZero ty (zero_of ty)
zero_there ty =
    let x = slice_index ty 0 in
    elim (cases_eq x 90) [
      | inl e ↦ rw e (of_boolean e)
      | inr n1 ↦
          elim (cases_eq x 66) [
            | inl e ↦ rw e (of_byte e)
            | inr n2 ↦
                elim (cases_eq x 83) [
                  | inl e ↦ rw e (of_short e)
                  | inr n3 ↦
                      elim (cases_eq x 67) [
                        | inl e ↦ rw e (of_char e)
                        | inr n4 ↦
                            elim (cases_eq x 73) [
                              | inl e ↦ rw e (of_int e)
                              | inr n5 ↦
                                  elim (cases_eq x 74) [
                                    | inl e ↦ rw e (of_long e)
                                    | inr n6 ↦
                                        elim (cases_eq x 70) [
                                          | inl e ↦ rw e (of_float e)
                                          | inr n7 ↦
                                              elim (cases_eq x 68) [
                                                | inl e ↦ rw e (of_double e)
                                                | inr n8 ↦
                                                    rw (ne_eqb x 90 n1, ne_eqb x 66 n2, ne_eqb x 83 n3, ne_eqb x 67 n4, ne_eqb x 73 n5, ne_eqb x 74 n6, ne_eqb x 70 n7, ne_eqb x 68 n8)
                                                    (of_reference (no_letter x n1 n2 n3 n4 n5 n6 n7 n8))
                                              ]
                                        ]
                                  ]
                            ]
                      ]
                ]
          ]
    ]

-- No test of the row holds.
reference_zero : (x : ℕ) (ty : Descriptor) → slice_index ty 0 ≡ x → (a b c d e f g h : Bool) → (x == 90) ≡ a → (x == 66) ≡ b → (x == 83) ≡ c → (x == 67) ≡ d → (x == 73) ≡ e → (x == 74) ≡ f → (x == 70) ≡ g → (x == 68) ≡ h
    → (a || (b || (c || (d || (e || (f || (g || (h || false)))))))) ≡ false → content.Null ≡ zero_of ty
reference_zero x ty q false false false false false false false false a b c d e f g h n = rw (q, a, b, c, d, e, f, g, h) refl
reference_zero x ty q a b c d e f g h _ _ _ _ _ _ _ _ n = absurd cc

pub zero_one : (ty : Descriptor) (v : Value) → IsZero ty v → v ≡ zero_of ty
zero_one ty v (of_boolean e) = rw e refl
zero_one ty v (of_byte e) = rw e refl
zero_one ty v (of_short e) = rw e refl
zero_one ty v (of_char e) = rw e refl
zero_one ty v (of_int e) = rw e refl
zero_one ty v (of_long e) = rw e refl
zero_one ty v (of_float e) = rw e refl
zero_one ty v (of_double e) = rw e refl
zero_one ty v (of_reference e) = reference_zero (slice_index ty 0) ty refl _ _ _ _ _ _ _ _ refl refl refl refl refl refl refl refl e

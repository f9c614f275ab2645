-- At each unit of bytes that are two to a unit an instruction stands, or it breaks a rule.
use Rattle.std.proofs.Common.{◌≡◌, ℕ, zero, suc, ◌+◌, ◌*◌, ◌%◌, ◌<◌, ◌≤◌, ◌⊎◌, inl, inr, Bool, true, false, Option, Some, None, List, length, drop, refl, subst, arith, length-drop, ◌<ℤ◌}
use Rattle.std.specs.Prelude.{IsTrue, slice_range}
use Rattle.std.proofs.lemmas.Bool.{cases_lt, cases_eq}
use Rattle.std.proofs.lemmas.Int.{ints, by_lt_z}
use Rattle.dex_base.specs.Deciding.{Decided}
use Rattle.dex_base.specs.Fields.{AreBytes}
use Rattle.dex_base.specs.declared.fault.Fault.{Fault}
use Rattle.dex_insn.specs.Fields.{number, field, signed, int_at, SwitchKeysRise}
use Rattle.dex_insn.specs.Opcodes.{units_of}
use Rattle.dex_insn.specs.Raw.{Raw, packed_units, sparse_units, data_units, Packed, Sparse, Data}
use Rattle.dex_insn.specs.RawInsns.{SpellsInsn, BeginsInsn, IsPayload, IsElementWidth, InsnStands}
use Rattle.dex_insn.specs.Flaws.{InsnBreaks, PayloadBreaks, format_at, has_zero_byte, head_units, payload_units, IsFaultAt}
use Rattle.dex_insn.proofs.Flaws.{unused, cut, non_zero, count, payload as payload_breaks, odd_payload, keys_fall}
use Rattle.dex_insn.specs.declared.opcode.Format.{Format}
use Rattle.dex_insn.specs.declared.opcode.Format.TheVariants.{F10x, F11x, F10t, F20t, F23x, F22b, F22t, F22s, F22c, F30t, F32x, F35c, F3rc}
use Rattle.dex_insn.proofs.Fits.{number-1}
use Rattle.dex_insn.proofs.Unique.{in_format, head-of, units-by}
use Rattle.dex_base.proofs.FieldBounds.{drop-AreBytes}

-- ---- what is no payload

-- the units spell the instruction of a format
spelled-in-format : (us : List ℕ) (f : Format) → BeginsInsn us f (field us 0 0 8) → (IsTrue (has_zero_byte f) → field us 0 8 8 ≡ 0) → (f ≡ F35c → field us 0 12 4 ≤ 5) → SpellsInsn us (in_format us f)
spelled-in-format us F10x b z c = (b, z refl)
spelled-in-format us F20t b z c = (b, z refl, refl)
spelled-in-format us F30t b z c = (b, z refl, refl)
spelled-in-format us F32x b z c = (b, z refl, refl, refl)
spelled-in-format us F35c b z c = (b, refl, c refl, refl, refl)
spelled-in-format us F11x b z c = (b, refl)
spelled-in-format us F10t b z c = (b, refl)
spelled-in-format us F23x b z c = (b, refl, refl, refl)
spelled-in-format us F22b b z c = (b, refl, refl, refl)
spelled-in-format us F22t b z c = (b, refl, refl, refl)
spelled-in-format us F22s b z c = (b, refl, refl, refl)
spelled-in-format us F22c b z c = (b, refl, refl, refl)
spelled-in-format us F3rc b z c = (b, refl, refl, refl)
spelled-in-format us _ b z c = (b, refl, refl)

is-35c : (f : Format) → (f ≡ F35c) ⊎ (f ≡ F35c → ⊥)
is-35c F35c = inl refl
is-35c _ = inr (λ e. cc)

-- an instruction is spelled, or a rule is broken; the first unit is unit `at`
abbrev Front : List ℕ → ℕ → Type 0
Front us at = ((r : Raw) × SpellsInsn us r × (IsPayload us → at % 2 ≡ 0)) ⊎ ((code : ℕ) × InsnBreaks at us code)

module _ (us : List ℕ) (at : ℕ) (long : 2 ≤ length us) (plain : IsPayload us → ⊥) where
  with-format : (f : Format) → format_at us ≡ Some f → Front us at
  with-format f e = elim (cases_lt (length us) (2 * units_of f)) [
    | inl short ↦ inr (63, cut at us long f plain e short)
    | inr enough ↦ zero-byte (has_zero_byte f) refl (record { opcode = refl; kind = e; whole = enough })
  ]
    where
      counted : BeginsInsn us f (field us 0 0 8) → (IsTrue (has_zero_byte f) → field us 0 8 8 ≡ 0) → Front us at
      counted b z = elim (is-35c f) [
        | inr other ↦ inl (in_format us f, spelled-in-format us f b z (λ g. absurd (other g)), λ p. absurd (plain p))
        | inl g ↦ elim (cases_lt 5 (field us 0 12 4)) [
          | inl many ↦ inr (66, count at us long f plain e b.whole g many)
          | inr few ↦ inl (in_format us f, spelled-in-format us f b z (λ _. few), λ p. absurd (plain p))
        ]
      ]

      zero-byte : (t : Bool) → has_zero_byte f ≡ t → BeginsInsn us f (field us 0 0 8) → Front us at
      zero-byte false t b = counted b (λ h. cc)
      zero-byte true t b = elim (cases_lt 0 (field us 0 8 8)) [
        | inl some ↦ inr (64, non_zero at us long f plain e b.whole t some)
        | inr none ↦ counted b (λ _. omega (arith, none))
      ]

  plain-front : Front us at
  plain-front = by (format_at us) refl
    where
      by : (o : Option Format) → format_at us ≡ o → Front us at
      by None e = inr (62, unused at us long e)
      by (Some f) e = with-format f e

-- ---- payloads

decide-rises : (bytes : List ℕ) (n : ℕ) → Decided (SwitchKeysRise bytes n)
decide-rises bytes zero = inl (λ i l. absurd (omega (arith, l)))
decide-rises bytes (suc zero) = inl (λ i l. absurd (omega (arith, l)))
decide-rises bytes (suc (suc n)) = elim (decide-rises bytes (suc n)) [
  | inr none ↦ inr (λ all. none (λ i l. all i (omega (arith, l))))
  | inl before ↦ by_lt_z (int_at bytes n) (int_at bytes (n + 1))
      (λ less. inl (λ i l. elim (cases_lt (i + 1) (suc n)) [
        | inl m ↦ before i m
        | inr m ↦ let e : n ≡ i = omega (arith, l, m) in subst (λ (k : ℕ). int_at bytes k <ℤ int_at bytes (k + 1)) e less
      ]))
      (λ more. inr (λ all. let less = all n (omega arith) in omega (arith, ints, less, more)))
]

decide-width : (width : ℕ) → Decided (IsElementWidth width)
decide-width width = elim (cases_eq width 1) [
  | inl a ↦ inl (inl a)
  | inr a ↦ elim (cases_eq width 2) [
    | inl b ↦ inl (inr (inl b))
    | inr b ↦ elim (cases_eq width 4) [
      | inl c ↦ inl (inr (inr (inl c)))
      | inr c ↦ elim (cases_eq width 8) [
        | inl d ↦ inl (inr (inr (inr d)))
        | inr d ↦ inr (λ w. elim w [ inl e ↦ a e | inr x ↦ elim x [ inl e ↦ b e | inr y ↦ elim y [ inl e ↦ c e | inr e ↦ d e ] ] ])
      ]
    ]
  ]
]

module _ (us : List ℕ) (at : ℕ) (are : AreBytes us) (long : 2 ≤ length us) (payload : IsPayload us) (even : at % 2 ≡ 0) where
  broken : (code : ℕ) → PayloadBreaks at us code → Front us at
  broken code breaks = inr (code, payload_breaks at us code long payload.0 payload.1 payload.2 breaks)

  packed-front : field us 0 8 8 ≡ 1 → Front us at
  unfolding PayloadBreaks
  packed-front high =
      let low = payload.0 in let n = number-1 us 0 are in
      let first : number us 0 1 ≡ 0x0100 = omega arith in
      let head : head_units us ≡ 2 = head-of 1 (field us 0 8 8) 4 2 high in
      let all : payload_units us ≡ packed_units (number us 1 1) = units-by 1 (field us 0 8 8) (packed_units (number us 1 1)) (sparse_units (number us 1 1)) (data_units (number us 2 2 * number us 1 1)) high in
      elim (cases_lt (length us) 4) [
        | inl cut ↦ broken 63 (inr (λ _. even, inl (λ is. let n = is payload in omega (arith, n, cut, head), refl)))
        | inr more ↦ elim (cases_lt (length us) (2 * packed_units (number us 1 1))) [
          | inl cut ↦ broken 63 (inr (λ _. even, inr (λ _. omega (arith, more, head), inr (λ is. absurd (omega (arith, first, is)), inl (λ is. let n = is payload in omega (arith, n, cut, all), refl)))))
          | inr whole ↦ inl (Packed (signed 32 (number us 2 2)) (slice_range us 8 (8 + 4 * number us 1 1)), (first, whole, refl, refl), λ _. even)
        ]
      ]

  sparse-front : field us 0 8 8 ≡ 2 → Front us at
  unfolding PayloadBreaks
  sparse-front high =
      let low = payload.0 in let n = number-1 us 0 are in
      let first : number us 0 1 ≡ 0x0200 = omega arith in
      let head : head_units us ≡ 2 = head-of 2 (field us 0 8 8) 4 2 high in
      let all : payload_units us ≡ sparse_units (number us 1 1) = units-by 2 (field us 0 8 8) (packed_units (number us 1 1)) (sparse_units (number us 1 1)) (data_units (number us 2 2 * number us 1 1)) high in
      elim (cases_lt (length us) 4) [
        | inl cut ↦ broken 63 (inr (λ _. even, inl (λ is. let n = is payload in omega (arith, n, cut, head), refl)))
        | inr more ↦ elim (cases_lt (length us) (2 * sparse_units (number us 1 1))) [
          | inl cut ↦ broken 63 (inr (λ _. even, inr (λ _. omega (arith, more, head), inr (λ is. absurd (omega (arith, first, is)), inl (λ is. let n = is payload in omega (arith, n, cut, all), refl)))))
          | inr whole ↦ elim (decide-rises (slice_range us 4 (4 + 4 * number us 1 1)) (number us 1 1)) [
            | inl rise ↦ inl (Sparse (slice_range us 4 (4 + 4 * number us 1 1)) (slice_range us (4 + 4 * number us 1 1) (4 + 8 * number us 1 1)), (first, whole, refl, refl, rise), λ _. even)
            | inr fall ↦ broken 67 (keys_fall at us first even whole fall)
          ]
        ]
      ]

  data-front : field us 0 8 8 ≡ 3 → Front us at
  unfolding PayloadBreaks
  data-front high =
      let low = payload.0 in let n = number-1 us 0 are in
      let first : number us 0 1 ≡ 0x0300 = omega arith in
      let head : head_units us ≡ 4 = head-of 3 (field us 0 8 8) 4 2 high in
      let all : payload_units us ≡ data_units (number us 2 2 * number us 1 1) = units-by 3 (field us 0 8 8) (packed_units (number us 1 1)) (sparse_units (number us 1 1)) (data_units (number us 2 2 * number us 1 1)) high in
      elim (cases_lt (length us) 8) [
        | inl cut ↦ broken 63 (inr (λ _. even, inl (λ is. let n = is payload in omega (arith, n, cut, head), refl)))
        | inr more ↦ elim (decide-width (number us 1 1)) [
          | inr other ↦ broken 67 (inr (λ _. even, inr (λ _. omega (arith, more, head), inl (λ width. other (width first), refl))))
          | inl width ↦ elim (cases_lt (length us) (2 * data_units (number us 2 2 * number us 1 1))) [
            | inl cut ↦ broken 63 (inr (λ _. even, inr (λ _. omega (arith, more, head), inr (λ _. width, inl (λ is. let n = is payload in omega (arith, n, cut, all), refl)))))
            | inr whole ↦ inl (Data (number us 1 1) (slice_range us 8 (8 + number us 2 2 * number us 1 1)), (first, whole, refl, width, refl), λ _. even)
          ]
        ]
      ]

  payload-front : Front us at
  payload-front = elim (cases_eq (field us 0 8 8) 1) [
    | inl h ↦ packed-front h
    | inr a ↦ elim (cases_eq (field us 0 8 8) 2) [
      | inl h ↦ sparse-front h
      | inr b ↦ elim (cases_eq (field us 0 8 8) 3) [
        | inl h ↦ data-front h
        | inr c ↦ let some = payload.1 in let most = payload.2 in absurd (least (field us 0 8 8) some most a b c)
      ]
    ]
  ]
    where
      least : (h : ℕ) → 0 < h → h ≤ 3 → (h ≡ 1 → ⊥) → (h ≡ 2 → ⊥) → (h ≡ 3 → ⊥) → ⊥
      least h some most a b c = omega (arith, some, most, a, b, c)

decide-payload : (us : List ℕ) → Decided (IsPayload us)
decide-payload us = elim (cases_eq (field us 0 0 8) 0) [
  | inr other ↦ inr (λ p. other p.0)
  | inl low ↦ elim (cases_lt 0 (field us 0 8 8)) [
    | inr none ↦ inr (λ p. let some = p.1 in omega (arith, some, none))
    | inl some ↦ elim (cases_lt 3 (field us 0 8 8)) [
      | inl more ↦ inr (λ p. let most = p.2 in omega (arith, most, more))
      | inr most ↦ inl (low, some, most)
    ]
  ]
]

front-decided : (us : List ℕ) (at : ℕ) → AreBytes us → 2 ≤ length us → Front us at
front-decided us at are long = elim (decide-payload us) [
  | inr plain ↦ plain-front us at long plain
  | inl payload ↦ elim (cases_eq (at % 2) 0) [
    | inl even ↦ payload-front us at are long payload even
    | inr odd ↦ inr (67, odd_payload at us long payload.0 payload.1 payload.2 (omega (arith, odd)))
  ]
]

-- at a unit an instruction stands, or a fault does
pub insn-decided : (bytes : List ℕ) (at : ℕ) → AreBytes bytes → 2 * at + 2 ≤ length bytes → ((r : Raw) × InsnStands bytes at r) ⊎ ((e : Fault) × IsFaultAt bytes at e)
insn-decided bytes at are inside = elim (front-decided (drop (2 * at) bytes) at (drop-AreBytes bytes (2 * at) are) (omega (arith, inside, length-drop (2 * at) bytes))) [
  | inl x ↦ inl (x.0, record { spelled = x.1; even = x.2 })
  | inr x ↦ inr (record { code = x.0; place = at }, record { place = refl; broken = x.1 })
]

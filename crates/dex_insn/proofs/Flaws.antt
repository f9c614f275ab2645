-- Where an instruction stands, each rule is kept, and so none is broken; else one is.
use Rattle.std.proofs.Common.{◌≡◌, ℕ, None, true, inl, inr, refl, length, ◌<◌, ◌+◌, ◌*◌, ◌%◌, ◌≤◌, List, drop, Some, sym, ap, ◌∙◌, arith, ⊎_elim, if◌then◌else◌, ◌==◌}
use Rattle.std.proofs.lemmas.Bool.Decides.{nat_tests}
use Rattle.std.specs.Prelude.{IsTrue, slice_range}
use Rattle.dex_base.specs.declared.fault.Fault.{Fault}
use Rattle.dex_base.proofs.FirstFaultLaws.{else_clear, else_one, none_one}
use Rattle.dex_insn.specs.Fields.{number, field, SwitchKeysRise}
use Rattle.dex_insn.specs.Opcodes.{format_of, units_of}
use Rattle.dex_insn.specs.RawInsns.{InsnStands, IsPayload}
use Rattle.dex_insn.specs.Flaws.{HasFormat, InsnBreaks, PayloadBreaks, KeepsRules, IsFaultAt, format_at, has_zero_byte, head_units, payload_units}
use Rattle.dex_insn.specs.Raw.{Raw, packed_units, sparse_units, data_units}
use Rattle.dex_insn.specs.declared.opcode.Format.{Format}
use Rattle.dex_insn.specs.declared.opcode.Format.TheVariants.{F10x, F35c}
use Rattle.dex_insn.proofs.Unique.{Plain, Load, known, zero_row, head-of, units-by}

format_is : (us : List ℕ) (it : Raw) (p : Plain us it) (g : Format) → format_at us ≡ Some g → g ≡ p.f
format_is us it p g e =
    let k : format_at us ≡ Some p.f = ap format_of (sym p.begins.opcode) ∙ p.begins.kind in
    cc

pub some_unit : (f : Format) → 1 ≤ units_of f
some_unit F10x = omega arith
some_unit _ = omega arith

two_heads : (h n : ℕ) → 2 * (if h == 3 then 4 else 2) ≤ n → 2 ≤ n
two_heads h n p = grind (arith, nat_tests)

plain_keeps : (at : ℕ) (us : List ℕ) (it : Raw) → Plain us it → KeepsRules at us
plain_keeps at us it p = record {
  unit = let s = some_unit p.f in let w = p.begins.whole in omega arith;
  opcode = λ none. let k : format_at us ≡ Some p.f = ap format_of (sym p.begins.opcode) ∙ p.begins.kind in cc;
  whole = λ f is. let e = ap units_of (format_is us it p f is.1) in let w = p.begins.whole in omega arith;
  zero = λ f is zero. p.zero (ap has_zero_byte (sym (format_is us it p f is.1)) ∙ zero);
  count = λ is. p.count (sym (format_is us it p F35c is));
  even = λ is. absurd (p.not_payload is);
  head = λ is. absurd (p.not_payload is);
  width = λ is. absurd (p.not_payload (omega arith, omega arith, omega arith));
  payload = λ is. absurd (p.not_payload is);
  keys = λ is. absurd (p.not_payload (omega arith, omega arith, omega arith));
}

load_keeps : (at : ℕ) (us : List ℕ) (it : Raw) → Load us it → (IsPayload us → at % 2 ≡ 0) → KeepsRules at us
load_keeps at us it p even =
    let k : format_at us ≡ Some F10x = ap format_of p.identifier.0 ∙ zero_row in
    record {
      unit = two_heads (field us 0 8 8) _ p.head;
      opcode = λ none. cc;
      whole = λ f is. absurd (is.0 p.identifier);
      zero = λ f is. absurd (is.0 p.identifier);
      count = λ is. cc;
      even = even;
      head = λ _. p.head;
      width = p.width;
      payload = λ _. p.whole;
      keys = p.keys;
    }

-- an instruction that stands at a place keeps all rules there
pub rules_kept : (bytes : List ℕ) (at : ℕ) (insn : Raw) → InsnStands bytes at insn → KeepsRules at (drop (2 * at) bytes)
rules_kept bytes at insn s = ⊎_elim (λ p. plain_keeps at _ _ p) (λ l. load_keeps at _ _ l s.even) (known _ insn s.spelled)

-- and so it breaks none
pub no_flaw : (code at : ℕ) (bytes : List ℕ) (insn : Raw) → InsnStands bytes at insn → InsnBreaks at (drop (2 * at) bytes) code → ⊥
unfolding InsnBreaks PayloadBreaks
no_flaw code at bytes insn s =
    let k = rules_kept bytes at insn s in
    else_clear k.unit (else_clear k.opcode (else_clear k.whole (else_clear k.zero (else_clear k.count (
    else_clear k.even (else_clear k.head (else_clear k.width (else_clear k.payload (else_clear k.keys (λ none. none))))))))))

-- ---- which rule is broken first

module _ (at : ℕ) (us : List ℕ) where
  pub missing : length us < 2 → InsnBreaks at us 63
  unfolding InsnBreaks
  missing less = inl (λ long. omega (arith, less, long), refl)

  module _ (long : 2 ≤ length us) where
    pub unused : format_at us ≡ None → InsnBreaks at us 62
    unfolding InsnBreaks
    unused none = inr (long, inl (λ some. some none, refl))

    -- what is no payload
    module _ (f : Format) (plain : IsPayload us → ⊥) (is : format_at us ≡ Some f) where
      same : (g : Format) → HasFormat us g → g ≡ f
      same g has = let k = has.1 in cc

      named : format_at us ≡ None → ⊥
      named none = cc

      pub cut : length us < 2 * units_of f → InsnBreaks at us 63
      unfolding InsnBreaks
      cut less = inr (long, inr (named, inl (λ whole. let w = whole f (plain, is) in omega (arith, w, less), refl)))

      module _ (whole : 2 * units_of f ≤ length us) where
        all_whole : (g : Format) → HasFormat us g → 2 * units_of g ≤ length us
        all_whole g has = let e = ap units_of (same g has) in omega (arith, e, whole)

        pub non_zero : IsTrue (has_zero_byte f) → 0 < field us 0 8 8 → InsnBreaks at us 64
        unfolding InsnBreaks
        non_zero zero some = inr (long, inr (named, inr (all_whole, inl (λ all. let z = all f (plain, is) zero in omega (arith, z, some), refl))))

        pub count : f ≡ F35c → 5 < field us 0 12 4 → InsnBreaks at us 66
        unfolding InsnBreaks
        count five many =
            let none = λ (g : Format) (has : HasFormat us g) (zero : IsTrue (has_zero_byte g)).
            let e : has_zero_byte F35c ≡ true = ap has_zero_byte (sym five ∙ sym (same g has)) ∙ zero in absurd cc in
            inr (long, inr (named, inr (all_whole, inr (none, inl (λ few. let n = few (is ∙ ap Some five) in omega (arith, n, many), refl)))))

  -- the keys of a sparse switch fall, after all else is kept
  pub keys_fall : number us 0 1 ≡ 0x0200 → at % 2 ≡ 0 → 2 * sparse_units (number us 1 1) ≤ length us → ¬ SwitchKeysRise (slice_range us 4 (4 + 4 * number us 1 1)) (number us 1 1) → PayloadBreaks at us 67
  unfolding PayloadBreaks
  keys_fall first even whole fall =
      let high : field us 0 8 8 ≡ 2 = omega (arith, first) in
      let head : head_units us ≡ 2 = head-of 2 (field us 0 8 8) 4 2 high in
      let all : payload_units us ≡ sparse_units (number us 1 1) = units-by 2 (field us 0 8 8) (packed_units (number us 1 1)) (sparse_units (number us 1 1)) (data_units (number us 2 2 * number us 1 1)) high in
      inr (λ _. even, inr (λ _. omega (arith, whole, head), inr (λ is. absurd (omega (arith, first, is)), inr (λ _. omega (arith, whole, all), inl (λ rise. fall (rise first), refl)))))

-- a payload keeps the rules of what is none
pub payload : (at : ℕ) (us : List ℕ) (code : ℕ) → 2 ≤ length us → field us 0 0 8 ≡ 0 → 0 < field us 0 8 8 → field us 0 8 8 ≤ 3 → PayloadBreaks at us code → InsnBreaks at us code
unfolding InsnBreaks
payload at us code long low some most breaks =
    let k : format_at us ≡ Some F10x = ap format_of low ∙ zero_row in
    let is : IsPayload us = (low, some, most) in
    inr (long, inr (λ none. cc, inr (λ g has. absurd (has.0 is), inr (λ g has. absurd (has.0 is), inr (λ five. cc, breaks)))))

pub odd_payload : (at : ℕ) (us : List ℕ) → 2 ≤ length us → field us 0 0 8 ≡ 0 → 0 < field us 0 8 8 → field us 0 8 8 ≤ 3 → at % 2 ≡ 1 → InsnBreaks at us 67
unfolding PayloadBreaks
odd_payload at us long low some most odd = payload at us 67 long low some most (inl (λ even. let e = even (low, some, most) in omega (arith, odd, e), refl))

-- ---- and so one

pub one_fault : (bytes : List ℕ) (at : ℕ) (e f : Fault) → IsFaultAt bytes at e → IsFaultAt bytes at f → e ≡ f
unfolding InsnBreaks PayloadBreaks
one_fault bytes at e f x y =
    let code : e.code ≡ f.code = else_one (else_one (else_one (else_one (else_one (else_one (else_one (else_one (else_one (else_one none_one))))))))) x.broken y.broken in
    let place : e.place ≡ f.place = x.place ∙ sym y.place in
    (λ j. record { code = code j; place = place j })

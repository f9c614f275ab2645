-- A spelling carries over to a naming that the first implies.
use Rattle.std.proofs.Common.{ℕ, List, true, false}
use Rattle.dex_base.specs.Leb128.{Spells}
use Rattle.dex_base.proofs.WeakerLaws.{Implies, Counted-weaker}
use Rattle.program_types.specs.Content.{Name, OfField, Value, Named, Enum, Array, Boolean, Values, no_values, more_values}
use Rattle.dex_value.specs.Spelling.{Sized, SpellsValue, SpellsValues, SpellsArray, unsigned_of}

sized_weaker : (type widest : ℕ) (M P : List ℕ → Type 0) (all : List ℕ) → ((low : List ℕ) → M low → P low) → Sized type widest M all → Sized type widest P all
sized_weaker type widest M P all f s = record { low = s.low; some = s.some; few = s.few; bytes = s.bytes; joined = s.joined; means = f s.low s.means }

module _ (N M : ℕ → Name → Type 0) (f : (i : ℕ) (which : Name) → N i which → M i which) where
  mutual
    value_weaker : (v : Value) (bytes : List ℕ) → SpellsValue N bytes v → SpellsValue M bytes v
    value_weaker (Named which) bytes s = sized_weaker _ _ _ _ bytes (λ low n. f (unsigned_of low) which n) s
    value_weaker (Enum constant) bytes s = sized_weaker _ _ _ _ bytes (λ low n. f (unsigned_of low) (OfField constant) n) s
    value_weaker (Array vs) bytes s =
        let b = s.2 in
        (s.0, s.1, record { count = b.count; back = b.back; joined = b.joined; counted = b.counted; means = values_weaker vs b.back b.means })
    value_weaker (Boolean false) bytes s = s
    value_weaker (Boolean true) bytes s = s
    value_weaker _ bytes s = s

    values_weaker : (vs : Values) (bytes : List ℕ) → SpellsValues N bytes vs → SpellsValues M bytes vs
    values_weaker no_values bytes s = s
    values_weaker (more_values v vs) bytes s = (s.0, s.1, s.2, value_weaker v s.0 s.3, values_weaker vs s.1 s.4)

  pub SpellsValue-weaker : Implies (SpellsValue N) (SpellsValue M)
  SpellsValue-weaker bytes v s = value_weaker v bytes s

  pub SpellsArray-weaker : Implies (SpellsArray N) (SpellsArray M)
  SpellsArray-weaker = Counted-weaker Spells Spells (SpellsValue N) (SpellsValue M) (λ bytes n s. s) SpellsValue-weaker

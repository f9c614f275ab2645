-- A value that is spelled, by the first byte: with bytes after its head, an array, or a head alone.
use Rattle.std.proofs.Common.{◌≡◌, ℕ, ◌+◌, ◌*◌, ◌-◌, ◌<◌, ◌≤◌, ◌⊎◌, inl, inr, List, [], ◌∷◌, length, slice_index, refl, subst, true, false, lit<, lit≤, arith}
use Rattle.program_types.specs.Content.{Name, OfText, OfDesc, OfField, OfMethod, Value, Byte, Short, Char, Int, Long, Float, Double, Named, Enum, Array, Null, Boolean, Values}
use Rattle.dex_value.specs.Spelling.{Sized, After, SpellsValue, SpellsValues, count_of}
use Rattle.dex_value.specs.Faults.{widest_of}
use Rattle.dex_value.specs.inner.Reading.{ValueStands}

pub record SizedFront (N : ℕ → Name → Type 0) (bytes : List ℕ) (v : Value) : Type 0 where
  pub type : ℕ
  pub low : List ℕ
  pub small : type < 28
  pub some : 0 < length low
  pub few : length low ≤ widest_of type
  pub joined : bytes ≡ (32 * (length low - 1) + type) ∷ low
  pub stands : ValueStands N type low v

pub record ArrayFront (N : ℕ → Name → Type 0) (bytes : List ℕ) (v : Value) : Type 0 where
  pub vs : Values
  pub value : v ≡ Array vs
  pub text : List ℕ
  pub joined : bytes ≡ 28 ∷ text
  pub after : After (count_of vs) (λ back. SpellsValues N back vs) text

pub data LoneFront (bytes : List ℕ) (v : Value) : Type 0 where
  BareNull : bytes ≡ 30 ∷ [] → v ≡ Null → LoneFront bytes v
  BareFalse : bytes ≡ 31 ∷ [] → v ≡ Boolean false → LoneFront bytes v
  BareTrue : bytes ≡ 63 ∷ [] → v ≡ Boolean true → LoneFront bytes v

abbrev pub Front : (ℕ → Name → Type 0) → List ℕ → Value → Type 0
Front N bytes v = SizedFront N bytes v ⊎ ArrayFront N bytes v ⊎ LoneFront bytes v

module _ (N : ℕ → Name → Type 0) where
  sized : (bytes : List ℕ) (v : Value) (type widest : ℕ) (Means : List ℕ → Type 0) → type < 28 → widest ≤ widest_of type → ((low : List ℕ) → Means low → ValueStands N type low v) → Sized type widest Means bytes → Front N bytes v
  sized bytes v type widest Means small wide stands s =
      inl (record { type = type; low = s.low; small = small; some = s.some; few = let f = s.few in omega (arith, f, wide); joined = s.joined; stands = stands s.low s.means })

  pub front : (bytes : List ℕ) (v : Value) → SpellsValue N bytes v → Front N bytes v
  front bytes (Byte n) s = sized bytes (Byte n) 0 1 _ (lit< tt) (lit≤ tt) (λ low m. (refl, m)) s
  front bytes (Short n) s = sized bytes (Short n) 2 2 _ (lit< tt) (lit≤ tt) (λ low m. (refl, m)) s
  front bytes (Char unit) s = sized bytes (Char unit) 3 2 _ (lit< tt) (lit≤ tt) (λ low m. (refl, m)) s
  front bytes (Int n) s = sized bytes (Int n) 4 4 _ (lit< tt) (lit≤ tt) (λ low m. (refl, m)) s
  front bytes (Long n) s = sized bytes (Long n) 6 8 _ (lit< tt) (lit≤ tt) (λ low m. (refl, m)) s
  front bytes (Float bits) s = sized bytes (Float bits) 16 4 _ (lit< tt) (lit≤ tt) (λ low m. (refl, m)) s
  front bytes (Double bits) s = sized bytes (Double bits) 17 8 _ (lit< tt) (lit≤ tt) (λ low m. (refl, m)) s
  front bytes (Named (OfText t)) s = sized bytes (Named (OfText t)) 23 4 _ (lit< tt) (lit≤ tt) (λ low m. (refl, m)) s
  front bytes (Named (OfDesc t)) s = sized bytes (Named (OfDesc t)) 24 4 _ (lit< tt) (lit≤ tt) (λ low m. (refl, m)) s
  front bytes (Named (OfField t)) s = sized bytes (Named (OfField t)) 25 4 _ (lit< tt) (lit≤ tt) (λ low m. (refl, m)) s
  front bytes (Named (OfMethod t)) s = sized bytes (Named (OfMethod t)) 26 4 _ (lit< tt) (lit≤ tt) (λ low m. (refl, m)) s
  front bytes (Enum f) s = sized bytes (Enum f) 27 4 _ (lit< tt) (lit≤ tt) (λ low m. (refl, m)) s
  front bytes (Array vs) s = inr (inl (record { vs = vs; value = refl; text = s.0; joined = s.1; after = s.2 }))
  front bytes Null s = inr (inr (BareNull s refl))
  front bytes (Boolean false) s = inr (inr (BareFalse s refl))
  front bytes (Boolean true) s = inr (inr (BareTrue s refl))

  -- the bytes after a head of the type stand for the value, so the value is spelled
  whole : (all : List ℕ) (type widest : ℕ) (Means : List ℕ → Type 0) (low : List ℕ) (t : ℕ) → t ≡ type → widest_of t ≤ widest → Means low → ((i : ℕ) → slice_index low i < 256) → 0 < length low → length low ≤ widest_of t → all ≡ (32 * (length low - 1) + t) ∷ low → Sized type widest Means all
  whole all type widest Means low t is wide means bytes some few joined =
      record { low = low; some = some; few = omega arith; bytes = bytes; joined = subst (λ (k : ℕ). all ≡ (32 * (length low - 1) + k) ∷ low) is joined; means = means }

  pub stands_spells : (all : List ℕ) (v : Value) (t : ℕ) (low : List ℕ) → ValueStands N t low v → ((i : ℕ) → slice_index low i < 256) → 0 < length low → length low ≤ widest_of t → all ≡ (32 * (length low - 1) + t) ∷ low → SpellsValue N all v
  stands_spells all (Byte n) t low s bytes some few joined = whole all 0 1 _ low t s.0 (rw s.0 (lit≤ tt)) s.1 bytes some few joined
  stands_spells all (Short n) t low s bytes some few joined = whole all 2 2 _ low t s.0 (rw s.0 (lit≤ tt)) s.1 bytes some few joined
  stands_spells all (Char unit) t low s bytes some few joined = whole all 3 2 _ low t s.0 (rw s.0 (lit≤ tt)) s.1 bytes some few joined
  stands_spells all (Int n) t low s bytes some few joined = whole all 4 4 _ low t s.0 (rw s.0 (lit≤ tt)) s.1 bytes some few joined
  stands_spells all (Long n) t low s bytes some few joined = whole all 6 8 _ low t s.0 (rw s.0 (lit≤ tt)) s.1 bytes some few joined
  stands_spells all (Float bits) t low s bytes some few joined = whole all 16 4 _ low t s.0 (rw s.0 (lit≤ tt)) s.1 bytes some few joined
  stands_spells all (Double bits) t low s bytes some few joined = whole all 17 8 _ low t s.0 (rw s.0 (lit≤ tt)) s.1 bytes some few joined
  stands_spells all (Named (OfText n)) t low s bytes some few joined = whole all 23 4 _ low t s.0 (rw s.0 (lit≤ tt)) s.1 bytes some few joined
  stands_spells all (Named (OfDesc n)) t low s bytes some few joined = whole all 24 4 _ low t s.0 (rw s.0 (lit≤ tt)) s.1 bytes some few joined
  stands_spells all (Named (OfField n)) t low s bytes some few joined = whole all 25 4 _ low t s.0 (rw s.0 (lit≤ tt)) s.1 bytes some few joined
  stands_spells all (Named (OfMethod n)) t low s bytes some few joined = whole all 26 4 _ low t s.0 (rw s.0 (lit≤ tt)) s.1 bytes some few joined
  stands_spells all (Enum f) t low s bytes some few joined = whole all 27 4 _ low t s.0 (rw s.0 (lit≤ tt)) s.1 bytes some few joined
  stands_spells all _ t low s bytes some few joined = absurd s

-- Writing: what the contracts of private functions cite.
use Rattle.std.specs.Prelude.{ℕ, ◌≡◌, ◌+◌, ◌≤◌, ◌<◌, ◌++◌, List, [], ◌∷◌, length, take, ◌*◌, slice_index, slice_get, Some, ◌⊎◌}
use Rattle.std.specs.List.{AllZip, AllByRecursion, flat_map}
use Rattle.dex_base.specs.Leb128.{Spells, Shortest}
use Rattle.dex_insn.specs.Raw.{Raw}
use Rattle.dex_insn.specs.Written.{written}
use Rattle.program_types.specs.Content.{Name, Insn, Try}
use Rattle.program_types.specs.Formed.{try_at}
use Rattle.tables_names.specs.Closure.{Five, NameRanks}
use Rattle.code_read.specs.Handlers.{Handler}
use Rattle.code_read.specs.Tries.{handler_of}
use Rattle.code_write.specs.Fits.{catches_in}
use Rattle.code_write.specs.Packs.{AreByFirstUse, Lowers}
use Rattle.code_write.specs.inner.Packs.{PacksHandler}

-- What is written of an instruction is appended.
pub record PutInsn (N : ℕ → Name → Type 0) (ss : List ℕ) (at : ℕ) (i : Insn) (old new : List ℕ) : Type 0 where
  pub raw : Raw
  pub lowers : Lowers N ss at i raw
  pub is_new : new ≡ old ++ written raw

-- What is written of a payload is appended, whichever index stands for which name.
abbrev pub PutPayload : List ℕ → ℕ → Insn → List ℕ → List ℕ → Type 0
PutPayload ss at i old new = (ranks : Five) → PutInsn (NameRanks ranks) ss at i old new

-- ---- handlers, each as its bytes

-- The bytes are number n of those that are held after the call, at its place of before if they were held, else last.
pub record IsHeldAs (old new : List (List ℕ)) (bytes : List ℕ) (n : ℕ) : Type 0 where
  pub there : slice_get new n ≡ Some bytes
  pub is_new : (new ≡ old) ⊎ ((n ≡ length old) × (new ≡ old ++ bytes ∷ []) × ((k : ℕ) → slice_get old k ≡ Some bytes → ⊥))

-- byte strings, one after the other
abbrev pub joined_keys : List (List ℕ) → List ℕ
joined_keys keys = flat_map (λ key. key) keys

-- The byte strings are handlers, and the first n tries have the handlers of these numbers, each once and in the order of first use.
pub record IsDistinct (N : ℕ → Name → Type 0) (ss : List ℕ) (ts : List Try) (n : ℕ) (keys : List (List ℕ)) (numbers : List ℕ) : Type 0 where
  pub handlers : List Handler
  pub spelled : AllZip (PacksHandler N ss) keys handlers
  pub bytes : AllByRecursion (AllByRecursion (λ byte. byte < 256)) keys
  pub count : length numbers ≡ n
  pub few : length keys ≤ n
  pub short : length (joined_keys keys) ≤ 10 * n + 10 * catches_in (take n ts)
  pub each : (i : ℕ) → i < n → slice_get handlers (slice_index numbers i) ≡ Some (handler_of (try_at ts i))
  pub order : AreByFirstUse handlers ts
  pub early : AllByRecursion (λ i. i < n) order.firsts

-- The byte strings are handlers, and the tries, of which there are some and not too many, have the handlers of these
-- numbers, each once and in the order of first use.
pub record IsDistinctOf (N : ℕ → Name → Type 0) (ss : List ℕ) (ts : List Try) (keys : List (List ℕ)) (numbers : List ℕ) : Type 0 where
  pub some : 0 < length ts
  pub few : length ts ≤ 65535
  pub short : 26 + 18 * length ts + 10 * catches_in ts ≤ 4294967295
  pub distinct : IsDistinct N ss ts (length ts) keys numbers

-- where each of these stands, the first at a place
abbrev pub places_from : ℕ → List (List ℕ) → List ℕ
places_from at [] = []
places_from at (k ∷ ks) = at ∷ places_from (at + length k) ks

-- The bytes are a count and the byte strings after it, at these places.
pub record IsListed (keys : List (List ℕ)) (bytes places : List ℕ) : Type 0 where
  pub front : List ℕ
  pub count : Shortest Spells front (length keys)
  pub is : bytes ≡ front ++ joined_keys keys
  pub places_are : places ≡ places_from (length front) keys

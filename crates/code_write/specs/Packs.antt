-- What is written of a code, byte by byte.
-- Page: "Dalvik Executable format", "code_item", "try_item", "encoded_catch_handler_list" and "encoded_catch_handler".
use Rattle.std.specs.Prelude.{ℕ, ◌≡◌, ◌+◌, ◌-◌, ◌*◌, ◌<◌, ◌≤◌, ◌%◌, ◌++◌, ◌==◌, if◌then◌else◌, List, [], ◌∷◌, length, map, min, slice_index, Some, true}
use Rattle.std.specs.List.{AllByRecursion, AllZip, flat_map}
use Rattle.dex_base.specs.Fields.{u16_bytes, u32_bytes}
use Rattle.dex_insn.specs.Raw.{Raw, units, is_payload}
use Rattle.dex_insn.specs.Written.{written, IsRaw}
use Rattle.program_types.specs.Content.{Name, Insn, Code, Try}
use Rattle.program_types.specs.Formed.{insn_at, try_at, insn_payload}
use Rattle.program_types.specs.Sizes.{insn_units, addresses_of, length_of}
use Rattle.code_read.specs.Places.{Rises}
use Rattle.code_read.specs.Walk.{raw_at}
use Rattle.code_read.specs.Symbols.{Resolves}
use Rattle.code_read.specs.Linked.{target_number, payload_of}
use Rattle.code_rules.specs.Branches.{IsOrigin}
use Rattle.code_read.specs.Handlers.{Handler, PacksHandlers, handler_at}
use Rattle.code_read.specs.Tries.{handler_of}

-- ---- instructions

-- the bytes of the instructions, end to end
abbrev pub joined : List Raw → List ℕ
joined [] = []
joined (r ∷ rs) = written r ++ joined rs

-- The raw instruction means the instruction, whose targets count from the address `at`, and can be written.
pub record Lowers (N : ℕ → Name → Type 0) (ss : List ℕ) (at : ℕ) (i : Insn) (r : Raw) : Type 0 where
  pub resolves : Resolves N (target_number ss at) r i
  pub fits : IsRaw r
  pub size : units r ≡ insn_units i
  pub kind : payload_of r ≡ insn_payload i

-- The raw instruction is that of instruction k, and can be written at its address.
pub record IsLowered (N : ℕ → Name → Type 0) (is : List Insn) (ss : List ℕ) (k : ℕ) (r : Raw) : Type 0 where
  pub origin : ℕ
  pub counts : IsOrigin is k origin
  pub lowers : Lowers N ss (slice_index ss origin) (insn_at is k) r
  pub even : is_payload r ≡ true → slice_index ss k % 2 ≡ 0

-- The raw instructions are those of the instructions, one by one.
pub record AreLowered (N : ℕ → Name → Type 0) (is : List Insn) (ss : List ℕ) (rs : List Raw) : Type 0 where
  pub count : length rs ≡ length is
  pub each : (k : ℕ) → k < length rs → IsLowered N is ss k (raw_at rs k)

-- ---- handlers, by the shortest numbers

-- Where the handlers of the tries begin.
pub record AreOffsets (hs : List (ℕ × Handler)) (ts : List Try) (offs : List ℕ) : Type 0 where
  pub count : length offs ≡ length ts
  pub each : (i : ℕ) → i < length ts → handler_at hs (slice_index offs i) ≡ Some (handler_of (try_at ts i))

-- Try i is the first that uses the handler.
pub record IsFirstUse (ts : List Try) (h : Handler) (i : ℕ) : Type 0 where
  pub inside : i < length ts
  pub uses : handler_of (try_at ts i) ≡ h
  pub first : (j : ℕ) → handler_of (try_at ts j) ≡ h → i ≤ j

-- The handlers are in the order of their first use by the tries, so each occurs once.
pub record AreByFirstUse (hs : List Handler) (ts : List Try) : Type 0 where
  pub firsts : List ℕ
  pub each : AllZip (IsFirstUse ts) hs firsts
  pub rise : Rises firsts

-- The bytes are the handlers of the tries, which begin at these offsets.
pub record PacksHandlersOf (N : ℕ → Name → Type 0) (ss : List ℕ) (ts : List Try) (list offs : List ℕ) : Type 0 where
  pub handlers : List (ℕ × Handler)
  pub spelled : PacksHandlers N ss (length ts) list handlers
  pub order : AreByFirstUse (map (λ (h : ℕ × Handler). h.1) handlers) ts
  pub offsets : AreOffsets handlers ts offs
  pub bytes : AllByRecursion (λ byte. byte < 256) list
  pub short : length list ≤ 5 + 10 * length ts + 10 * length (flat_map (λ t. t.catches) ts)

-- ---- tries

-- where instruction k begins, or where the last one ends
abbrev pub bound_of : ℕ → List ℕ → ℕ → ℕ
bound_of size ss k = if k == length ss then size else slice_index ss k

-- how many units a try covers, at most 65535
abbrev pub covered : ℕ → List ℕ → Try → ℕ
covered size ss t = min 65535 (bound_of size ss t.to - slice_index ss t.from)

-- the bytes of a try_item
abbrev pub item_bytes : ℕ → List ℕ → Try → ℕ → List ℕ
item_bytes size ss t off = u32_bytes (slice_index ss t.from) ++ u16_bytes (covered size ss t) ++ u16_bytes off

-- the bytes of all try_items, with the offsets of their handlers
abbrev pub items_bytes : ℕ → List ℕ → List Try → List ℕ → List ℕ
items_bytes size ss [] offs = []
items_bytes size ss (t ∷ ts) [] = []
items_bytes size ss (t ∷ ts) (off ∷ offs) = item_bytes size ss t off ++ items_bytes size ss ts offs

-- ---- the item

-- the padding unit after an odd number of units, if there are tries
abbrev pub padding : ℕ → ℕ → List ℕ
padding size n = if n == 0 then [] else (if size % 2 == 0 then [] else 0 ∷ 0 ∷ [])

-- registers_size to insns_size
abbrev pub head_bytes : Code → ℕ → List ℕ
head_bytes c size =
    u16_bytes c.registers ++ u16_bytes c.ins ++ u16_bytes c.outs ++ u16_bytes (length c.tries) ++ u32_bytes 0 ++ u32_bytes size

-- The bytes are those that are written of the code, whose counts of tries and units fit their fields, as each handler_off does.
pub record PacksCode (N : ℕ → Name → Type 0) (bytes : List ℕ) (c : Code) : Type 0 where
  pub raws : List Raw
  pub lowered : AreLowered N c.insns (addresses_of c.insns) raws
  pub list : List ℕ
  pub offsets : List ℕ
  pub handlers : PacksHandlersOf N (addresses_of c.insns) c.tries list offsets
  pub few : length c.tries < 65536
  pub near : AllByRecursion (λ off. off < 65536) offsets
  pub short : length_of c.insns < 4294967296
  pub is : bytes ≡ head_bytes c (length_of c.insns) ++ (joined raws ++ (padding (length_of c.insns) (length c.tries)
      ++ (items_bytes (length_of c.insns) (addresses_of c.insns) c.tries offsets ++ list)))

-- The words that are always the same.
-- Page: docs/LISTING.md, "The lines", "Values".
use Rattle.std.specs.Prelude.{ℕ, Bool, true, false, ◌==◌, ◌&&◌, List, [], ◌∷◌, Option, Some, None, if◌then◌else◌, codes}
use Rattle.listing_slots.specs.declared.key.Key.{Key}
use Rattle.listing_slots.specs.declared.key.Key.TheVariants.{Dex, Class, End, Super, Implements, Source, Static, Instance, Direct, Virtual, Code, Try, Catch, CatchAll, Packed, Sparse, Elements, Version, Equals, Open, Close, Byte, Short, Char, Int, Long, Float, Double, Text, Desc, Field, Method, Enum, Array, Null, True, False}

-- How each is written.
unfoldable pub key_text : Key → List ℕ
key_text Dex = codes "dex"
key_text Class = codes "class"
key_text End = codes "end"
key_text Super = codes "super"
key_text Implements = codes "implements"
key_text Source = codes "source"
key_text Static = codes "static"
key_text Instance = codes "instance"
key_text Direct = codes "direct"
key_text Virtual = codes "virtual"
key_text Code = codes "code"
key_text Try = codes "try"
key_text Catch = codes "catch"
key_text CatchAll = codes "catchall"
key_text Packed = codes "packed-switch-payload"
key_text Sparse = codes "sparse-switch-payload"
key_text Elements = codes "array-payload"
key_text Version = codes "035"
key_text Equals = codes "="
key_text Open = codes "{"
key_text Close = codes "}"
key_text Byte = codes "byte"
key_text Short = codes "short"
key_text Char = codes "char"
key_text Int = codes "int"
key_text Long = codes "long"
key_text Float = codes "float"
key_text Double = codes "double"
key_text Text = codes "string"
key_text Desc = codes "type"
key_text Field = codes "field"
key_text Method = codes "method"
key_text Enum = codes "enum"
key_text Array = codes "array"
key_text Null = codes "null"
key_text True = codes "true"
key_text False = codes "false"

-- The keywords that begin a line.
abbrev pub lead_keys : List Key
lead_keys = Dex ∷ Class ∷ End ∷ Super ∷ Implements ∷ Source ∷ Static ∷ Instance ∷ Direct ∷ Virtual ∷ Code ∷ Try ∷ Catch ∷ CatchAll ∷ []

-- The keywords that begin a value.
abbrev pub value_keys : List Key
value_keys = Byte ∷ Short ∷ Char ∷ Int ∷ Long ∷ Float ∷ Double ∷ Text ∷ Desc ∷ Field ∷ Method ∷ Enum ∷ Array ∷ Null ∷ True ∷ False ∷ []

-- The words of payloads.
abbrev pub payload_keys : List Key
payload_keys = Packed ∷ Sparse ∷ Elements ∷ []

-- The texts are equal.
unfoldable pub same : List ℕ → List ℕ → Bool
same [] [] = true
same (x ∷ xs) (y ∷ ys) = (x == y) && same xs ys
same _ _ = false

-- The keyword among these that is the text.
unfoldable pub find_key : List Key → List ℕ → Option Key
find_key [] text = None
find_key (k ∷ ks) text = if same (key_text k) text then Some k else find_key ks text

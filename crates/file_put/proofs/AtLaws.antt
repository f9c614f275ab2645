-- The row of a name stands at its index.
use Rattle.std.proofs.Common.{◌≡◌, ℕ, zero, suc, ◌+◌, ◌*◌, List, [], ◌∷◌, length, map, take, drop, get_or, sym, ap, ◌∙◌, subst, Some}
use Rattle.std.proofs.lemmas.List.{take_at, drop_at, drop-drop}
use Rattle.std.proofs.Math.Nat.{mul-zero, mul-suc, add_comm}
use Rattle.std.specs.List.{slice_get}
use Rattle.dex_base.specs.Fields.{u16_bytes, u32_bytes}
use Rattle.dex_base.specs.Grammar.{Each}
use Rattle.dex_base.specs.Words.{words_bytes}
use Rattle.tables_names.specs.Closure.{Five}
use Rattle.tables_names.specs.Rank.{IsAt}
use Rattle.program_types.specs.Content.{Descriptor, Proto, FieldRef, MethodRef}
use Rattle.program_types.specs.Key.{Key, text_key, proto_key, field_ref_key, method_ref_key}
use Rattle.file_put.specs.inner.Rows.{SpellsTable, SpellsProtos, SpellsTypeRow, SpellsProtoRow, SpellsFieldRow, SpellsMethodRow}
use Rattle.program_types.proofs.KeysTell.{text_told, proto_told, field_told, method_told}

-- pieces of one size: piece i begins i sizes after the front
pub each_at : {V : Type 0} (G : List ℕ → V → Type 0) (size : ℕ) → ((bytes : List ℕ) (v : V) → G bytes v → length bytes ≡ size)
    → (bytes : List ℕ) (vs : List V) (i : ℕ) (v : V) → Each G bytes vs → slice_get vs i ≡ Some v → G (take size (drop (size * i) bytes)) v
each_at G size fixed bytes [] i v rows e = absurd (cc e)
each_at {V = V} G size fixed bytes (x ∷ vs) zero v rows e =
    let same : x ≡ v = cc e in
    let none : size * 0 ≡ 0 = mul-zero size in
    let cut : take size (drop (size * 0) bytes) ≡ rows.0 = ap (λ (k : ℕ). take size (drop k bytes)) none ∙ ap (take size) rows.2 ∙ take_at rows.0 rows.1 size (fixed rows.0 x rows.3) in
    subst (λ (b : List ℕ). G b v) (sym cut) (subst (λ (w : V). G rows.0 w) same rows.3)
each_at G size fixed bytes (x ∷ vs) (suc i) v rows e =
    let more : size * suc i ≡ size + size * i = mul-suc size i ∙ add_comm (size * i) size in
    let back : drop (size * suc i) bytes ≡ drop (size * i) rows.1 =
    ap (λ (k : ℕ). drop k bytes) more ∙ sym (drop-drop (size * i) size bytes) ∙ ap (drop (size * i)) (ap (drop size) rows.2 ∙ drop_at rows.0 rows.1 size (fixed rows.0 x rows.3)) in
    rw back (each_at G size fixed rows.1 vs i v rows.4 e)

-- the name whose key has an index
named_at : {V : Type 0} (key : V → Key) → ((v w : V) → key v ≡ key w → v ≡ w) → (names : List V) (i : ℕ) (v : V) → IsAt (map key names) i (key v) → slice_get names i ≡ Some v
named_at key one [] i v e = absurd (cc e)
named_at key one (x ∷ names) zero v e = ap Some (one x v (cc e))
named_at key one (x ∷ names) (suc i) v e = named_at key one names i v e

-- the row of a name in a table
row_of : {V : Type 0} (key : V → Key) → ((v w : V) → key v ≡ key w → v ≡ w) → (G : List ℕ → V → Type 0) (size : ℕ) → ((bytes : List ℕ) (v : V) → G bytes v → length bytes ≡ size)
    → (bytes : List ℕ) (table : List Key) (i : ℕ) (v : V) → SpellsTable key G bytes table → IsAt table i (key v) → G (take size (drop (size * i) bytes)) v
row_of key one G size fixed bytes table i v t at =
    each_at G size fixed bytes t.names i v t.rows (named_at key one t.names i v (ap (λ (ks : List Key). slice_get ks i) t.keys ∙ at))

pub type_size : (s : Five) (bytes : List ℕ) (t : Descriptor) → SpellsTypeRow s bytes t → length bytes ≡ 4
unfolding u32_bytes
type_size s bytes t r = ap length r.whole

pub proto_size : (s : Five) (bytes : List ℕ) (p : ℕ × Proto) → SpellsProtoRow s bytes p → length bytes ≡ 12
unfolding u32_bytes words_bytes
proto_size s bytes p r = ap length r.whole

pub field_size : (s : Five) (bytes : List ℕ) (f : FieldRef) → SpellsFieldRow s bytes f → length bytes ≡ 8
unfolding u16_bytes u32_bytes
field_size s bytes f r = ap length r.whole

pub method_size : (s : Five) (bytes : List ℕ) (m : MethodRef) → SpellsMethodRow s bytes m → length bytes ≡ 8
unfolding u16_bytes u32_bytes
method_size s bytes m r = ap length r.whole

pub type_row : (s : Five) (bytes : List ℕ) (i : ℕ) (t : Descriptor) → SpellsTable text_key (SpellsTypeRow s) bytes s.types → IsAt s.types i (text_key t) → SpellsTypeRow s (take 4 (drop (4 * i) bytes)) t
type_row s bytes i t rows at = row_of text_key text_told (SpellsTypeRow s) 4 (type_size s) bytes s.types i t rows at

pub field_row : (s : Five) (bytes : List ℕ) (i : ℕ) (f : FieldRef) → SpellsTable field_ref_key (SpellsFieldRow s) bytes s.fields → IsAt s.fields i (field_ref_key f) → SpellsFieldRow s (take 8 (drop (8 * i) bytes)) f
field_row s bytes i f rows at = row_of field_ref_key field_told (SpellsFieldRow s) 8 (field_size s) bytes s.fields i f rows at

pub method_row : (s : Five) (bytes : List ℕ) (i : ℕ) (m : MethodRef) → SpellsTable method_ref_key (SpellsMethodRow s) bytes s.methods → IsAt s.methods i (method_ref_key m) → SpellsMethodRow s (take 8 (drop (8 * i) bytes)) m
method_row s bytes i m rows at = row_of method_ref_key method_told (SpellsMethodRow s) 8 (method_size s) bytes s.methods i m rows at

-- the pair of a place and a proto
paired_at : (names : List (ℕ × Proto)) (i : ℕ) (p : Proto) → IsAt (map (λ (x : ℕ × Proto). proto_key x.1) names) i (proto_key p) → slice_get names i ≡ Some (get_or (map (λ (x : ℕ × Proto). x.0) names) i 0, p)
paired_at [] i p e = absurd (cc e)
paired_at (x ∷ names) zero p e = let same = proto_told x.1 p (cc e) in ap (λ (q : Proto). Some (x.0, q)) same
paired_at (x ∷ names) (suc i) p e = paired_at names i p e

pub proto_row : (s : Five) (places bytes : List ℕ) (i : ℕ) (p : Proto) → SpellsProtos s places bytes s.protos → IsAt s.protos i (proto_key p) → SpellsProtoRow s (take 12 (drop (12 * i) bytes)) (get_or places i 0, p)
proto_row s places bytes i p rows at =
    let found = paired_at rows.names i p (ap (λ (ks : List Key). slice_get ks i) rows.keys ∙ at) in
    let pair = ap (λ (ps : List ℕ). Some (get_or ps i 0, p)) rows.places_are in
    each_at (SpellsProtoRow s) 12 (proto_size s) bytes rows.names i (get_or places i 0, p) rows.rows (found ∙ pair)

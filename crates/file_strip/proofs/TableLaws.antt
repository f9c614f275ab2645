-- The rows of the tables of names, row by row.
use Rattle.std.proofs.Common.{◌≡◌, ℕ, ◌+◌, ◌^◌, ◌<◌, ◌≤◌, List, [], ◌∷◌, ◌++◌, length, take, get_or, refl, sym, ap, subst, ◌∙◌, arith, slice_get, Some, append_assoc, append-nil}
use Rattle.std.proofs.lemmas.List.{take_more, take_all, map-append}
use Rattle.std.proofs.lemmas.Option.{slice_get_within, get_or_from_slice_get}
use Rattle.dex_base.specs.Fields.{u16_bytes, u32_bytes}
use Rattle.dex_base.specs.Grammar.{Appends}
use Rattle.dex_base.specs.Words.{words_bytes}
use Rattle.dex_base.proofs.GrammarLaws.{Each-push}
use Rattle.dex_container.specs.Layout.{size_of}
use Rattle.file_put.specs.inner.Rows.{SpellsFieldRow, SpellsMethodRow, SpellsProtoRow, SpellsProtos, SpellsTable, SpellsTypeRow}
use Rattle.program_types.specs.Content.{Units, Proto, FieldRef, MethodRef, Program, OfText, OfDesc, OfField, OfMethod}
use Rattle.program_types.specs.Key.{Key, text_key, proto_key, field_ref_key, method_ref_key}
use Rattle.program_types.specs.Shorty.{shorty}
use Rattle.tables_names.specs.Closure.{Five}
use Rattle.tables_names.specs.inner.Indices.{AreIndices, HasRank, HaveRows}
use Rattle.tables_names.specs.Needed.{needed}
use Rattle.tables_names.specs.Rank.{IsAt}
use Rattle.tables_names.proofs.IndexLemmas.{closed_have_rows}
use Rattle.tables_names.proofs.PlaceLemmas.{member_at}
use Rattle.file_renumber.specs.inner.Marked.{Columns, IsColumn}
use Rattle.file_renumber.specs.inner.Numbers.{Counts, IsKept}
use Rattle.file_renumber.proofs.RankLemmas.{kept_rows_are_held, kept_protos_are_ranks}
use Rattle.tables_rows.specs.Stands.{StringStands, TypeStands, ProtoStands}
use Rattle.tables_rows.specs.RowFields.{type_string, proto_shorty, proto_return, member_class, member_kind, member_name}
use Rattle.file_strip.specs.inner.Keeping.{Keeps}
use Rattle.file_strip.specs.inner.Tables.{AreFirstProtos, AreFirstRows}
use Rattle.dex_base.proofs.ListFacts.{some_one}
use Rattle.file_strip.proofs.KeepLaws.{number_is, next_kept, next_not_kept, first_number, carried}

-- ---- one table

module _ {V : Type 0} (key : V → Key) (G : List ℕ → V → Type 0) where
  no_rows : (old : List ℕ) → Appends (SpellsTable key G) old old []
  no_rows old = record { bytes = []; joined = sym (append-nil old); spelled = record { names = []; keys = refl; rows = refl } }

  row_more : (old mid new bytes : List ℕ) (v : V) (table : List Key) → Appends (SpellsTable key G) old mid table → new ≡ mid ++ bytes → G bytes v → Appends (SpellsTable key G) old new (table ++ key v ∷ [])
  row_more old mid new bytes v table a n g = record {
    bytes = a.bytes ++ bytes;
    joined = n ∙ ap (λ (l : List ℕ). l ++ bytes) a.joined ∙ append_assoc old a.bytes bytes;
    spelled = record {
      names = a.spelled.names ++ v ∷ [];
      keys = map-append key a.spelled.names (v ∷ []) ∙ ap (λ (l : List Key). l ++ key v ∷ []) a.spelled.keys;
      rows = Each-push G a.bytes bytes a.spelled.names v a.spelled.rows g;
    };
  }

  module _ (n : ℕ) (column numbers : List ℕ) (shape : IsColumn n column) (counts : Counts column numbers) (table : List Key) where
    pub rows_start : (old : List ℕ) → AreFirstRows key G numbers table old 0 old
    rows_start old = subst (λ (m : ℕ). Appends (SpellsTable key G) old old (take m table)) (sym (first_number n column numbers shape counts)) (no_rows old)

    pub row_not_kept : (old out : List ℕ) (i : ℕ) → i < n → ¬ IsKept numbers i → AreFirstRows key G numbers table old i out → AreFirstRows key G numbers table old (i + 1) out
    row_not_kept old out i lt not a = subst (λ (m : ℕ). Appends (SpellsTable key G) old out (take m table)) (sym (next_not_kept n column numbers shape counts i lt not)) a

    pub row_kept : (old mid new bytes : List ℕ) (i : ℕ) (v : V) → i < n → IsKept numbers i → IsAt table (get_or numbers i 0) (key v) → new ≡ mid ++ bytes → G bytes v → AreFirstRows key G numbers table old i mid → AreFirstRows key G numbers table old (i + 1) new
    row_kept old mid new bytes i v lt kept at whole g a =
        let m = get_or numbers i 0 in
        let within = slice_get_within table m (key v) at in
        let own : get_or table m [] ≡ key v = get_or_from_slice_get table m (key v) [] at in
        let more : take m table ++ key v ∷ [] ≡ take (m + 1) table = ap (λ (k : Key). take m table ++ k ∷ []) (sym own) ∙ sym (take_more table m [] within) in
        subst (λ (j : ℕ). Appends (SpellsTable key G) old new (take j table)) (sym (next_kept n column numbers shape counts i lt kept))
        (subst (λ (ks : List Key). Appends (SpellsTable key G) old new ks) more (row_more old mid new bytes v (take m table) a whole g))

    pub rows_end : (old new : List ℕ) (i : ℕ) → i ≡ n → get_or numbers n 0 ≡ length table → AreFirstRows key G numbers table old i new → Appends (SpellsTable key G) old new table
    rows_end old new i is total a =
        let e : get_or numbers i 0 ≡ length table = ap (λ (j : ℕ). get_or numbers j 0) is ∙ total in
        subst (λ (ks : List Key). Appends (SpellsTable key G) old new ks) (take_all (get_or numbers i 0) table (omega (arith, e))) a

-- ---- prototypes

module _ (s : Five) (places : List ℕ) (n : ℕ) (column numbers : List ℕ) (shape : IsColumn n column) (counts : Counts column numbers) (long : length places ≡ length s.protos) where
  pub protos_start : (old : List ℕ) → AreFirstProtos s numbers places old 0 old
  protos_start old =
      subst (λ (m : ℕ). Appends (SpellsProtos s (take m places)) old old (take m s.protos)) (sym (first_number n column numbers shape counts))
      (record { bytes = []; joined = sym (append-nil old); spelled = record { names = []; keys = refl; places_are = refl; rows = refl } })

  pub proto_not_kept : (old out : List ℕ) (i : ℕ) → i < n → ¬ IsKept numbers i → AreFirstProtos s numbers places old i out → AreFirstProtos s numbers places old (i + 1) out
  proto_not_kept old out i lt not a = subst (λ (m : ℕ). Appends (SpellsProtos s (take m places)) old out (take m s.protos)) (sym (next_not_kept n column numbers shape counts i lt not)) a

  pub proto_kept : (old mid new bytes : List ℕ) (i : ℕ) (q : Proto) → i < n → IsKept numbers i → IsAt s.protos (get_or numbers i 0) (proto_key q) → new ≡ mid ++ bytes → SpellsProtoRow s bytes (get_or places (get_or numbers i 0) 0, q)
      → AreFirstProtos s numbers places old i mid → AreFirstProtos s numbers places old (i + 1) new
  proto_kept old mid new bytes i q lt kept at whole g a =
      let m = get_or numbers i 0 in
      let within = slice_get_within s.protos m (proto_key q) at in
      let own : get_or s.protos m [] ≡ proto_key q = get_or_from_slice_get s.protos m (proto_key q) [] at in
      let place = get_or places m 0 in
      let keys_more : take m s.protos ++ proto_key q ∷ [] ≡ take (m + 1) s.protos = ap (λ (k : Key). take m s.protos ++ k ∷ []) (sym own) ∙ sym (take_more s.protos m [] within) in
      let places_more : take m places ++ place ∷ [] ≡ take (m + 1) places = sym (take_more places m 0 (omega (arith, long, within))) in
      let names = a.spelled.names in
      let one : Appends (SpellsProtos s (take (m + 1) places)) old new (take (m + 1) s.protos) = record {
        bytes = a.bytes ++ bytes;
        joined = whole ∙ ap (λ (l : List ℕ). l ++ bytes) a.joined ∙ append_assoc old a.bytes bytes;
        spelled = record {
          names = names ++ (place, q) ∷ [];
          keys = map-append (λ (x : ℕ × Proto). proto_key x.1) names ((place, q) ∷ []) ∙ ap (λ (l : List Key). l ++ proto_key q ∷ []) a.spelled.keys ∙ keys_more;
          places_are = map-append (λ (x : ℕ × Proto). x.0) names ((place, q) ∷ []) ∙ ap (λ (l : List ℕ). l ++ place ∷ []) a.spelled.places_are ∙ places_more;
          rows = Each-push (SpellsProtoRow s) a.bytes bytes names (place, q) a.spelled.rows g;
        };
      } in
      subst (λ (j : ℕ). Appends (SpellsProtos s (take j places)) old new (take j s.protos)) (sym (next_kept n column numbers shape counts i lt kept)) one

  pub protos_end : (old new : List ℕ) (i : ℕ) → i ≡ n → get_or numbers n 0 ≡ length s.protos → AreFirstProtos s numbers places old i new → Appends (SpellsProtos s places) old new s.protos
  protos_end old new i is total a =
      let e : get_or numbers i 0 ≡ length s.protos = ap (λ (j : ℕ). get_or numbers j 0) is ∙ total in
      subst (λ (ks : List Key). Appends (SpellsProtos s places) old new ks) (take_all (get_or numbers i 0) s.protos (omega (arith, e)))
      (subst (λ (ps : List ℕ). Appends (SpellsProtos s ps) old new (take (get_or numbers i 0) s.protos)) (take_all (get_or numbers i 0) places (omega (arith, e, long))) a)

-- ---- what a kept row has

-- an index whose number is this rank
pub record Ranked (numbers : List ℕ) (table : List Key) (index : ℕ) (k : Key) : Type 0 where
  pub number : ℕ
  pub there : slice_get numbers index ≡ Some number
  pub at : IsAt table number k

pub record KeptType (b : List ℕ) (numbers : Columns) (s : Five) (i : ℕ) : Type 0 where
  pub name : Units
  pub at : IsAt s.types (get_or numbers.types i 0) (text_key name)
  pub text : Ranked numbers.strings s.strings (type_string b i) (text_key name)

pub record KeptProto (b : List ℕ) (numbers : Columns) (s : Five) (i : ℕ) : Type 0 where
  pub name : Proto
  pub within : i < length numbers.protos
  pub at : IsAt s.protos (get_or numbers.protos i 0) (proto_key name)
  pub short : Ranked numbers.strings s.strings (proto_shorty b i) (text_key (shorty name))
  pub ret : Ranked numbers.types s.types (proto_return b i) (text_key name.ret)

pub record KeptField (b : List ℕ) (numbers : Columns) (s : Five) (i : ℕ) : Type 0 where
  pub name : FieldRef
  pub at : IsAt s.fields (get_or numbers.fields i 0) (field_ref_key name)
  pub class : Ranked numbers.types s.types (member_class b 3 i) (text_key name.class)
  pub ty : Ranked numbers.types s.types (member_kind b 3 i) (text_key name.ty)
  pub text : Ranked numbers.strings s.strings (member_name b 3 i) (text_key name.name)

pub record KeptMethod (b : List ℕ) (numbers : Columns) (s : Five) (i : ℕ) : Type 0 where
  pub name : MethodRef
  pub at : IsAt s.methods (get_or numbers.methods i 0) (method_ref_key name)
  pub class : Ranked numbers.types s.types (member_class b 4 i) (text_key name.class)
  pub proto : Ranked numbers.protos s.protos (member_kind b 4 i) (proto_key name.proto)
  pub text : Ranked numbers.strings s.strings (member_name b 4 i) (text_key name.name)

pub ranked_within : (numbers : List ℕ) (table : List Key) (index : ℕ) (k : Key) → Ranked numbers table index k → index < length numbers
ranked_within numbers table index k r = slice_get_within numbers index r.number r.there

pub ranked_is : (numbers : List ℕ) (table : List Key) (index found : ℕ) (k : Key) → Ranked numbers table index k → slice_get numbers index ≡ Some found → IsAt table found k
ranked_is numbers table index found k r there =
    subst (λ (n : ℕ). IsAt table n k) (some_one (slice_get numbers index) r.number found r.there there) r.at

first_place : (table : List Key) (row : List ℕ) (t : Units) (ts : List Units) → AreIndices table row (t ∷ ts) → HasRank table (text_key t)
first_place table [] t ts a = absurd a
first_place table (i ∷ row) t ts a = (i, a.0)

module _ (b : List ℕ) (numbers : Columns) (p : Program) (k : Keeps b numbers p) where
  have : HaveRows (needed p)
  have = closed_have_rows (needed p) k.marked.closed

  text_ranked : (i : ℕ) (t : Units) → HasRank (needed p).strings (text_key t) → StringStands b i t → Ranked numbers.strings (needed p).strings i (text_key t)
  text_ranked i t h st = let r = carried b numbers p k (OfText t) (member_at (needed p).strings h.0 (text_key t) h.1) i st in record { number = r.0; there = r.1; at = r.2 }

  type_ranked : (i : ℕ) (t : Units) → HasRank (needed p).types (text_key t) → TypeStands b i t → Ranked numbers.types (needed p).types i (text_key t)
  type_ranked i t h st = let r = carried b numbers p k (OfDesc t) (member_at (needed p).types h.0 (text_key t) h.1) i st in record { number = r.0; there = r.1; at = r.2 }

  proto_ranked : (i : ℕ) (q : Proto) → HasRank (needed p).protos (proto_key q) → ProtoStands b i q → Ranked numbers.protos (needed p).protos i (proto_key q)
  proto_ranked i q h st =
      let r = kept_protos_are_ranks b k.marks (needed p) numbers k.tables k.marked k.numbered q (member_at (needed p).protos h.0 (proto_key q) h.1) i st in
      record { number = r.0; there = r.1; at = r.2 }

  pub kept_type : (i : ℕ) → i < size_of b 1 → IsKept numbers.types i → KeptType b numbers (needed p) i
  kept_type i lt kept =
      let row = k.tables.types i lt in
      let t = row.name in
      let held = ((kept_rows_are_held b k.marks (needed p) numbers k.tables k.marked k.numbered).0 (OfDesc t) i row.stands).0 kept in
      let rank = carried b numbers p k (OfDesc t) held i row.stands in
      record {
        name = t;
        at = subst (λ (n : ℕ). IsAt (needed p).types n (text_key t)) (sym (number_is numbers.types i rank.0 rank.1)) rank.2;
        text = text_ranked (type_string b i) t (have.types rank.0 t rank.2) row.stands.string;
      }

  pub kept_proto : (i : ℕ) → i < size_of b 2 → IsKept numbers.protos i → KeptProto b numbers (needed p) i
  kept_proto i lt kept =
      let row = k.tables.protos i lt in
      let q = row.name in
      let held = ((kept_rows_are_held b k.marks (needed p) numbers k.tables k.marked k.numbered).1 q i row.stands).0 kept in
      let rank = kept_protos_are_ranks b k.marks (needed p) numbers k.tables k.marked k.numbered q held i row.stands in
      let types = have.protos rank.0 q rank.2 in
      record {
        name = q;
        within = slice_get_within numbers.protos i rank.0 rank.1;
        at = subst (λ (n : ℕ). IsAt (needed p).protos n (proto_key q)) (sym (number_is numbers.protos i rank.0 rank.1)) rank.2;
        short = text_ranked (proto_shorty b i) (shorty q) (have.shorties rank.0 q rank.2) row.stands.shorty;
        ret = type_ranked (proto_return b i) q.ret (first_place (needed p).types types.0 q.ret q.params types.1) row.stands.ret;
      }

  pub kept_field : (i : ℕ) → i < size_of b 3 → IsKept numbers.fields i → KeptField b numbers (needed p) i
  kept_field i lt kept =
      let row = k.tables.fields i lt in
      let f = row.name in
      let held = ((kept_rows_are_held b k.marks (needed p) numbers k.tables k.marked k.numbered).0 (OfField f) i row.stands).0 kept in
      let rank = carried b numbers p k (OfField f) held i row.stands in
      let parts = (have.fields rank.0 f rank.2).1 in
      record {
        name = f;
        at = subst (λ (n : ℕ). IsAt (needed p).fields n (field_ref_key f)) (sym (number_is numbers.fields i rank.0 rank.1)) rank.2;
        class = type_ranked (member_class b 3 i) f.class (parts.class, parts.class_is) row.stands.class;
        ty = type_ranked (member_kind b 3 i) f.ty (parts.ty, parts.ty_is) row.stands.ty;
        text = text_ranked (member_name b 3 i) f.name (parts.name, parts.name_is) row.stands.name;
      }

  pub kept_method : (i : ℕ) → i < size_of b 4 → IsKept numbers.methods i → KeptMethod b numbers (needed p) i
  kept_method i lt kept =
      let row = k.tables.methods i lt in
      let m = row.name in
      let held = ((kept_rows_are_held b k.marks (needed p) numbers k.tables k.marked k.numbered).0 (OfMethod m) i row.stands).0 kept in
      let rank = carried b numbers p k (OfMethod m) held i row.stands in
      let parts = (have.methods rank.0 m rank.2).1 in
      record {
        name = m;
        at = subst (λ (n : ℕ). IsAt (needed p).methods n (method_ref_key m)) (sym (number_is numbers.methods i rank.0 rank.1)) rank.2;
        class = type_ranked (member_class b 4 i) m.class (parts.class, parts.class_is) row.stands.class;
        proto = proto_ranked (member_kind b 4 i) m.proto (parts.proto, parts.proto_is) row.stands.proto;
        text = text_ranked (member_name b 4 i) m.name (parts.name, parts.name_is) row.stands.name;
      }

-- ---- the rows

word_is : (n : ℕ) → words_bytes (n ∷ []) ≡ u32_bytes n
unfolding words_bytes
word_is n = append-nil (u32_bytes n)

pub type_row : (b : List ℕ) (numbers : Columns) (s : Five) (i number : ℕ) (row : KeptType b numbers s i) → slice_get numbers.strings (type_string b i) ≡ Some number → number < 2 ^ 32 → SpellsTypeRow s (words_bytes (number ∷ [])) row.name
type_row b numbers s i number row there small = record {
  descriptor = number;
  whole = word_is number;
  small = small;
  descriptor_is = ranked_is numbers.strings s.strings (type_string b i) number (text_key row.name) row.text there;
}

pub proto_row : (b : List ℕ) (numbers : Columns) (s : Five) (i short ret place : ℕ) (row : KeptProto b numbers s i) → slice_get numbers.strings (proto_shorty b i) ≡ Some short → slice_get numbers.types (proto_return b i) ≡ Some ret → short < 2 ^ 32 → ret < 2 ^ 32 → place < 2 ^ 32
    → SpellsProtoRow s (words_bytes (short ∷ ret ∷ place ∷ [])) (place, row.name)
proto_row b numbers s i short ret place row a c small_a small_c small_p = record {
  shorty_at = short;
  ret = ret;
  whole = refl;
  small_shorty = small_a;
  small_ret = small_c;
  small_place = small_p;
  shorty_is = ranked_is numbers.strings s.strings (proto_shorty b i) short (text_key (shorty row.name)) row.short a;
  ret_is = ranked_is numbers.types s.types (proto_return b i) ret (text_key row.name.ret) row.ret c;
}

pub field_row : (b : List ℕ) (numbers : Columns) (s : Five) (i class ty name : ℕ) (row : KeptField b numbers s i) → slice_get numbers.types (member_class b 3 i) ≡ Some class → slice_get numbers.types (member_kind b 3 i) ≡ Some ty → slice_get numbers.strings (member_name b 3 i) ≡ Some name
    → class < 2 ^ 16 → ty < 2 ^ 16 → name < 2 ^ 32 → SpellsFieldRow s (u16_bytes class ++ (u16_bytes ty ++ u32_bytes name)) row.name
field_row b numbers s i class ty name row a c d small_a small_c small_d = record {
  class = class;
  ty = ty;
  name = name;
  whole = refl;
  small_class = small_a;
  small_ty = small_c;
  small_name = small_d;
  class_is = ranked_is numbers.types s.types (member_class b 3 i) class (text_key row.name.class) row.class a;
  ty_is = ranked_is numbers.types s.types (member_kind b 3 i) ty (text_key row.name.ty) row.ty c;
  name_is = ranked_is numbers.strings s.strings (member_name b 3 i) name (text_key row.name.name) row.text d;
}

pub method_row : (b : List ℕ) (numbers : Columns) (s : Five) (i class proto name : ℕ) (row : KeptMethod b numbers s i) → slice_get numbers.types (member_class b 4 i) ≡ Some class → slice_get numbers.protos (member_kind b 4 i) ≡ Some proto → slice_get numbers.strings (member_name b 4 i) ≡ Some name
    → class < 2 ^ 16 → proto < 2 ^ 16 → name < 2 ^ 32 → SpellsMethodRow s (u16_bytes class ++ (u16_bytes proto ++ u32_bytes name)) row.name
method_row b numbers s i class proto name row a c d small_a small_c small_d = record {
  class = class;
  proto = proto;
  name = name;
  whole = refl;
  small_class = small_a;
  small_proto = small_c;
  small_name = small_d;
  class_is = ranked_is numbers.types s.types (member_class b 4 i) class (text_key row.name.class) row.class a;
  proto_is = ranked_is numbers.protos s.protos (member_kind b 4 i) proto (proto_key row.name.proto) row.proto c;
  name_is = ranked_is numbers.strings s.strings (member_name b 4 i) name (text_key row.name.name) row.text d;
}

-- a rank among few names is small
pub rank_small : (numbers : List ℕ) (table : List Key) (index number : ℕ) (k : Key) → length table ≤ 65535 → Ranked numbers table index k → slice_get numbers index ≡ Some number → number < 2 ^ 16
rank_small numbers table index number k few r there = let w = slice_get_within table number k (ranked_is numbers table index number k r there) in omega (arith, w, few)

-- The rows of the tables of a packed file are those of the names that they stand for.
use Rattle.std.proofs.Common.{◌≡◌, ℕ, zero, suc, ◌+◌, ◌*◌, ◌^◌, ◌<◌, ◌≤◌, Bool, false, List, [], ◌∷◌, ◌++◌, length, get_or, sym, ap, ◌∙◌, subst, arith, Some, Option, None}
use Rattle.std.proofs.lemmas.List.{length-map}
use Rattle.std.proofs.lemmas.Option.{slice_get_within}
use Rattle.std.specs.Prelude.{if◌then◌else◌, ◌==◌}
use Rattle.std.specs.List.{slice_get}
use Rattle.dex_base.specs.Fields.{AreBytes, u16_at, u16_bytes, u32_at, u32_bytes}
use Rattle.dex_base.specs.Grammar.{Each}
use Rattle.dex_base.specs.Words.{words_bytes}
use Rattle.dex_base.proofs.FieldBounds.{u32_at-fits, drop-AreBytes}
use Rattle.dex_container.specs.Layout.{offset_of, size_of}
use Rattle.dex_container.specs.Where.{slice}
use Rattle.file_classes.specs.ClassRows.{IndexOrNone, class_word}
use Rattle.file_classes.specs.Classes.{RowIs}
use Rattle.file_classes.proofs.EntryLaws.{entry_at}
use Rattle.file_put.specs.inner.ClassDefs.{ClassWithPlaces, SpellsClassRow, StringRanks, TypeRanks, with_places}
use Rattle.file_put.specs.inner.Rows.{SpellsFieldRow, SpellsMethodRow, SpellsProtoRow, SpellsProtos, SpellsRows, SpellsTable, SpellsTypeRow}
use Rattle.file_put.proofs.PlacedClasses.{length-seated}
use Rattle.program_types.specs.Content.{Class, Descriptor, FieldRef, MethodRef, OfDesc, OfField, OfMethod, OfText, Program, Proto, Units}
use Rattle.program_types.specs.Key.{Key, field_ref_key, method_ref_key, proto_key, text_key}
use Rattle.program_types.specs.Shorty.{shorty}
use Rattle.tables_names.specs.Closure.{Five}
use Rattle.tables_rows.specs.RowFields.{member_class, member_kind, member_name, proto_parameters, proto_return, proto_shorty, string_place, type_string}
use Rattle.tables_rows.specs.Sorted.{MemberIsBelow, ProtoIsBelow, RowHolds, RowsHold, TablesHold, TypeIsBelow}
use Rattle.tables_rows.specs.Stands.{FieldStands, MethodStands, ProtoStands, StringStands, TypeStands}
use Rattle.file_write.specs.Least.{HoldsExactly}
use Rattle.file_write.specs.Packed.{TablesArePacked, table_end, text_places, words_of_rows}
use Rattle.file_write.proofs.RowLaws.{seated_is}
use Rattle.file_write.proofs.TableBytes.{beside, beside_got, beside_keys, beside_places, half_bytes, key_got, length-words_of, names_from, rows_part, word_bytes, word_got, words_part}
use Rattle.file_layout.proofs.PartLaws.{slice_more}
use Rattle.tables_names.proofs.PlaceLemmas.{one_key}
use Rattle.dex_base.proofs.ListFacts.{some_inj}

u16_fits : (b : List ℕ) (p : ℕ) → AreBytes b → u16_at b p < 2 ^ 16
unfolding u16_at
u16_fits b p are = let d = drop-AreBytes b p are in omega (arith, d 0, d 1)

module _ (b : List ℕ) (s : Five) (are : AreBytes b) (x : HoldsExactly b s) (t : TablesHold b) (k : TablesArePacked b) (long : table_end b 6 ≤ length b) where
  -- a table that has a row begins where the table before it ends
  begins : (n i : ℕ) → n < 6 → i < size_of b n → offset_of b n ≡ table_end b n
  begins n i few lt =
      let z : (size_of b n == 0) ≡ false = (let some : 0 < size_of b n = omega arith in grind (arith, some)) in
      k.offsets n few ∙ ap (λ (y : Bool). if y then 0 else table_end b n) z

  -- ---- one row

  type_row : (i : ℕ) (v : Descriptor) → TypeStands b i v → SpellsTypeRow s (slice b (table_end b 1 + 4 * i) 4) v
  unfolding type_string
  type_row i v h =
      let o = begins 1 i (omega arith) h.row in
      let lt = h.row in
      record {
        descriptor = type_string b i;
        whole = word_bytes b (table_end b 1 + 4 * i) are (omega (arith, long, lt)) ∙ ap (λ (m : ℕ). u32_bytes (u32_at b (m + 4 * i))) (sym o);
        small = u32_at-fits b (offset_of b 1 + 4 * i) are;
        descriptor_is = x.only (type_string b i) (OfText v) h.string;
      }

  proto_row : (i : ℕ) (v : Proto) → ProtoStands b i v → SpellsProtoRow s (slice b (table_end b 2 + 12 * i) 12) (proto_parameters b i, v)
  unfolding proto_shorty proto_return proto_parameters
  proto_row i v h =
      let o = begins 2 i (omega arith) h.row in
      let lt = h.row in
      record {
        shorty_at = proto_shorty b i;
        ret = proto_return b i;
        whole = words_part b (table_end b 2 + 12 * i) 3 (λ j. get_or (proto_shorty b i ∷ proto_return b i ∷ proto_parameters b i ∷ []) j 0) are (omega (arith, long, lt)) (is o);
        small_shorty = u32_at-fits b (offset_of b 2 + 12 * i) are;
        small_ret = u32_at-fits b (offset_of b 2 + 12 * i + 4) are;
        small_place = u32_at-fits b (offset_of b 2 + 12 * i + 8) are;
        shorty_is = x.only (proto_shorty b i) (OfText (shorty v)) h.shorty;
        ret_is = x.only (proto_return b i) (OfDesc v.ret) h.ret;
      }
    where
      is : offset_of b 2 ≡ table_end b 2 → (j : ℕ) → j < 3 → get_or (proto_shorty b i ∷ proto_return b i ∷ proto_parameters b i ∷ []) j 0 ≡ u32_at b (table_end b 2 + 12 * i + 4 * j)
      is o zero lt = ap (λ (m : ℕ). u32_at b m) (omega (arith, o))
      is o (suc zero) lt = ap (λ (m : ℕ). u32_at b m) (omega (arith, o))
      is o (suc (suc zero)) lt = ap (λ (m : ℕ). u32_at b m) (omega (arith, o))
      is o (suc (suc (suc j))) lt = absurd (omega arith)

  -- a row of two halves and a word
  halves_row : (place : ℕ) → place + 8 ≤ length b → slice b place 8 ≡ u16_bytes (u16_at b place) ++ (u16_bytes (u16_at b (place + 2)) ++ u32_bytes (u32_at b (place + 4)))
  halves_row place low =
      let e : place + 2 + 2 ≡ place + 4 = omega arith in
      slice_more b place 2 6
      ∙ ap (λ (l : List ℕ). l ++ slice b (place + 2) 6) (half_bytes b place are (omega (arith, low)))
      ∙ ap (λ (l : List ℕ). u16_bytes (u16_at b place) ++ l) (
      slice_more b (place + 2) 2 4
      ∙ ap (λ (l : List ℕ). l ++ slice b (place + 2 + 2) 4) (half_bytes b (place + 2) are (omega (arith, low)))
      ∙ ap (λ (l : List ℕ). u16_bytes (u16_at b (place + 2)) ++ l) (ap (λ (m : ℕ). slice b m 4) e ∙ word_bytes b (place + 4) are (omega (arith, low))))

  field_row : (i : ℕ) (v : FieldRef) → FieldStands b i v → SpellsFieldRow s (slice b (table_end b 3 + 8 * i) 8) v
  unfolding member_class member_kind member_name
  field_row i v h =
      let o = begins 3 i (omega arith) h.row in
      let lt = h.row in
      record {
        class = member_class b 3 i;
        ty = member_kind b 3 i;
        name = member_name b 3 i;
        whole = ap (λ (m : ℕ). slice b (m + 8 * i) 8) (sym o) ∙ halves_row (offset_of b 3 + 8 * i) (omega (arith, long, lt, o));
        small_class = u16_fits b (offset_of b 3 + 8 * i) are;
        small_ty = u16_fits b (offset_of b 3 + 8 * i + 2) are;
        small_name = u32_at-fits b (offset_of b 3 + 8 * i + 4) are;
        class_is = x.only (member_class b 3 i) (OfDesc v.class) h.class;
        ty_is = x.only (member_kind b 3 i) (OfDesc v.ty) h.ty;
        name_is = x.only (member_name b 3 i) (OfText v.name) h.name;
      }

  method_row : (i : ℕ) (v : MethodRef) → MethodStands b i v → SpellsMethodRow s (slice b (table_end b 4 + 8 * i) 8) v
  unfolding member_class member_kind member_name
  method_row i v h =
      let o = begins 4 i (omega arith) h.row in
      let lt = h.row in
      record {
        class = member_class b 4 i;
        proto = member_kind b 4 i;
        name = member_name b 4 i;
        whole = ap (λ (m : ℕ). slice b (m + 8 * i) 8) (sym o) ∙ halves_row (offset_of b 4 + 8 * i) (omega (arith, long, lt, o));
        small_class = u16_fits b (offset_of b 4 + 8 * i) are;
        small_proto = u16_fits b (offset_of b 4 + 8 * i + 2) are;
        small_name = u32_at-fits b (offset_of b 4 + 8 * i + 4) are;
        class_is = x.only (member_class b 4 i) (OfDesc v.class) h.class;
        proto_is = x.only_proto (member_kind b 4 i) v.proto h.proto;
        name_is = x.only (member_name b 4 i) (OfText v.name) h.name;
      }

  class_row : (i list datum array : ℕ) (c : Class) → i < size_of b 5 → RowIs b i c.ty c.flags c.superclass c.source → class_word b i 3 ≡ list → class_word b i 5 ≡ 0 → class_word b i 6 ≡ datum → class_word b i 7 ≡ array
      → SpellsClassRow s (slice b (table_end b 5 + 32 * i) 32) (record { class = c; list = list; class_data = datum; array = array })
  unfolding class_word
  class_row i list datum array c lt r l a d v =
      let o = begins 5 i (omega arith) lt in
      let flags = sym r.flagged in
      let fits : (j : ℕ) → class_word b i j < 2 ^ 32 = λ j. u32_at-fits b (offset_of b 5 + 32 * i + 4 * j) are in
      record {
        class = class_word b i 0;
        above = class_word b i 2;
        source = class_word b i 4;
        whole = words_part b (table_end b 5 + 32 * i) 8 (λ j. class_word b i j) are (omega (arith, long, lt)) (λ j few. ap (λ (m : ℕ). u32_at b (m + 32 * i + 4 * j)) o)
            ∙ (λ z. words_bytes (class_word b i 0 ∷ flags z ∷ class_word b i 2 ∷ l z ∷ class_word b i 4 ∷ a z ∷ d z ∷ v z ∷ []));
        small_class = fits 0;
        small_flags = subst (λ (n : ℕ). n < 2 ^ 32) (sym r.flagged) (fits 1);
        small_above = fits 2;
        small_list = subst (λ (n : ℕ). n < 2 ^ 32) l (fits 3);
        small_source = fits 4;
        small_class_data = subst (λ (n : ℕ). n < 2 ^ 32) d (fits 6);
        small_array = subst (λ (n : ℕ). n < 2 ^ 32) v (fits 7);
        class_is = x.only (class_word b i 0) (OfDesc c.ty) r.named;
        above_is = index_or_none (TypeStands b) (TypeRanks s) (λ j n h. x.only j (OfDesc n) h) (class_word b i 2) c.superclass r.above;
        source_is = index_or_none (StringStands b) (StringRanks s) (λ j n h. x.only j (OfText n) h) (class_word b i 4) c.source r.written_in;
      }
    where
      index_or_none : (S R : ℕ → Units → Type 0) → ((j : ℕ) (n : Units) → S j n → R j n) → (j : ℕ) (o : Option Units) → IndexOrNone S j o → IndexOrNone R j o
      index_or_none S R f j None h = h
      index_or_none S R f j (Some n) h = (h.0, f j n h.1)

  -- ---- the names of the rows

  named : {V : Type 0} (key : V → Key) (Stands : List ℕ → ℕ → V → Type 0) (Below : List ℕ → ℕ → ℕ → Type 0) (n : ℕ) (keys : List Key) → n ≡ length keys → RowsHold (RowHolds Stands Below) b n
      → ((i : ℕ) (v : V) → Stands b i v → slice_get keys i ≡ Some (key v)) → (i : ℕ) (k : Key) → slice_get keys i ≡ Some k → (v : V) × (key v ≡ k)
  named key Stands Below n keys many rows only i k at =
      let l = slice_get_within keys i k at in
      let r = rows i (omega (arith, many, l)) in
      (r.name, one_key keys i (key r.name) k (only i r.name r.stands) at)

  -- ---- the tables of names

  -- a table whose rows spell what stands there
  table : {V : Type 0} (key : V → Key) (G : List ℕ → V → Type 0) (size at n : ℕ) (keys : List Key) → n ≡ length keys → ((i : ℕ) (j : Key) → slice_get keys i ≡ Some j → (v : V) × (key v ≡ j))
      → ((i : ℕ) (v : V) → slice_get keys i ≡ Some (key v) → G (slice b (at + size * i) size) v) → SpellsTable key G (slice b at (size * n)) keys
  table {V} key G size at n keys many named row =
      let r = names_from key keys named in
      let l : length r.0 ≡ n = sym (length-map r.0 key) ∙ ap length r.1 ∙ sym many in
      record {
        names = r.0;
        keys = r.1;
        rows = subst (λ (m : ℕ). Each G (slice b at (size * m)) r.0) l (rows_part G size b at r.0 (λ i v got. row i v (key_got key keys r.0 i v r.1 got)));
      }

  types_table : SpellsTable text_key (SpellsTypeRow s) (slice b (table_end b 1) (4 * size_of b 1)) s.types
  types_table = table text_key (SpellsTypeRow s) 4 (table_end b 1) (size_of b 1) s.types x.types (named text_key TypeStands TypeIsBelow (size_of b 1) s.types x.types t.types (λ i v. x.only i (OfDesc v))) (λ i v at. type_row i v (x.each i (OfDesc v) at))

  fields_table : SpellsTable field_ref_key (SpellsFieldRow s) (slice b (table_end b 3) (8 * size_of b 3)) s.fields
  fields_table = table field_ref_key (SpellsFieldRow s) 8 (table_end b 3) (size_of b 3) s.fields x.fields (named field_ref_key FieldStands (MemberIsBelow 3) (size_of b 3) s.fields x.fields t.fields (λ i v. x.only i (OfField v))) (λ i v at. field_row i v (x.each i (OfField v) at))

  methods_table : SpellsTable method_ref_key (SpellsMethodRow s) (slice b (table_end b 4) (8 * size_of b 4)) s.methods
  methods_table = table method_ref_key (SpellsMethodRow s) 8 (table_end b 4) (size_of b 4) s.methods x.methods (named method_ref_key MethodStands (MemberIsBelow 4) (size_of b 4) s.methods x.methods t.methods (λ i v. x.only i (OfMethod v))) (λ i v at. method_row i v (x.each i (OfMethod v) at))

  protos_table : SpellsProtos s (words_of_rows (proto_parameters b) (size_of b 2)) (slice b (table_end b 2) (12 * size_of b 2)) s.protos
  protos_table =
      let r = names_from proto_key s.protos (named proto_key ProtoStands ProtoIsBelow (size_of b 2) s.protos x.protos t.protos x.only_proto) in
      let places = words_of_rows (proto_parameters b) (size_of b 2) in
      let l = length-words_of (proto_parameters b) (size_of b 2) in
      let many = x.protos in
      let m : length r.0 ≡ size_of b 2 = sym (length-map r.0 proto_key) ∙ ap length r.1 ∙ sym many in
      let same : length places ≡ length r.0 = l ∙ sym m in
      let both = beside places r.0 in
      let n : length both ≡ size_of b 2 = sym (length-map both (λ (p : ℕ × Proto). p.0)) ∙ ap length (beside_places places r.0 same) ∙ l in
      record {
        names = both;
        keys = beside_keys proto_key places r.0 same ∙ r.1;
        places_are = beside_places places r.0 same;
        rows = subst (λ (m : ℕ). Each (SpellsProtoRow s) (slice b (table_end b 2) (12 * m)) both) n
            (rows_part (SpellsProtoRow s) 12 b (table_end b 2) both (λ i v got.
            let g = beside_got places r.0 i v got in
            let at = key_got proto_key s.protos r.0 i v.1 r.1 g.1 in
            let lt = slice_get_within s.protos i (proto_key v.1) at in
            let place : proto_parameters b i ≡ v.0 = some_inj (proto_parameters b i) v.0 (sym (word_got (proto_parameters b) (size_of b 2) i (omega (arith, lt, many))) ∙ g.0) in
            subst (λ (q : ℕ). SpellsProtoRow s (slice b (table_end b 2 + 12 * i) 12) (q, v.1)) place (proto_row i v.1 (x.each_proto i v.1 at))));
      }

  strings_are : slice b 112 (4 * size_of b 0) ≡ words_bytes (text_places b)
  unfolding string_place
  strings_are =
      words_part b 112 (size_of b 0) (string_place b) are (omega (arith, long)) (λ j lt. ap (λ (m : ℕ). u32_at b (m + 4 * j)) (begins 0 j (omega arith) lt))

  -- how many bytes the rows of names take
  abbrev pub names_size : ℕ
  names_size = 4 * size_of b 0 + (4 * size_of b 1 + (12 * size_of b 2 + (8 * size_of b 3 + 8 * size_of b 4)))

  pub name_rows : SpellsRows s (text_places b) (words_of_rows (proto_parameters b) (size_of b 2)) (slice b 112 names_size)
  name_rows = record {
    types = slice b (table_end b 1) (4 * size_of b 1);
    protos = slice b (table_end b 2) (12 * size_of b 2);
    fields = slice b (table_end b 3) (8 * size_of b 3);
    methods = slice b (table_end b 4) (8 * size_of b 4);
    whole =
        slice_more b 112 (4 * size_of b 0) (4 * size_of b 1 + (12 * size_of b 2 + (8 * size_of b 3 + 8 * size_of b 4)))
        ∙ ap (λ (l : List ℕ). l ++ slice b (table_end b 1) (4 * size_of b 1 + (12 * size_of b 2 + (8 * size_of b 3 + 8 * size_of b 4)))) strings_are
        ∙ ap (λ (l : List ℕ). words_bytes (text_places b) ++ l) (
        slice_more b (table_end b 1) (4 * size_of b 1) (12 * size_of b 2 + (8 * size_of b 3 + 8 * size_of b 4))
        ∙ ap (λ (l : List ℕ). slice b (table_end b 1) (4 * size_of b 1) ++ l) (
        slice_more b (table_end b 2) (12 * size_of b 2) (8 * size_of b 3 + 8 * size_of b 4)
        ∙ ap (λ (l : List ℕ). slice b (table_end b 2) (12 * size_of b 2) ++ l) (slice_more b (table_end b 3) (8 * size_of b 3) (8 * size_of b 4))));
    string_ids = length-words_of (string_place b) (size_of b 0) ∙ x.strings;
    type_ids = types_table;
    proto_ids = protos_table;
    field_ids = fields_table;
    method_ids = methods_table;
  }

  -- ---- the table of classes

  pub class_rows : (p : Program) (lists datas arrays : List ℕ) → size_of b 5 ≡ length p
      → ((i : ℕ) (c : Class) → slice_get p i ≡ Some c → RowIs b i c.ty c.flags c.superclass c.source)
      → ((i : ℕ) → i < size_of b 5 → class_word b i 3 ≡ get_or lists i 0) → ((i : ℕ) → i < size_of b 5 → class_word b i 5 ≡ 0)
      → ((i : ℕ) → i < size_of b 5 → class_word b i 6 ≡ get_or datas i 0) → ((i : ℕ) → i < size_of b 5 → class_word b i 7 ≡ get_or arrays i 0)
      → Each (SpellsClassRow s) (slice b (table_end b 5) (32 * size_of b 5)) (with_places p lists datas arrays)
  class_rows p lists datas arrays many row l a d v =
      let vs = with_places p lists datas arrays in
      let n : length vs ≡ size_of b 5 = length-seated p lists datas arrays ∙ sym many in
      subst (λ (m : ℕ). Each (SpellsClassRow s) (slice b (table_end b 5) (32 * m)) vs) n
      (rows_part (SpellsClassRow s) 32 b (table_end b 5) vs (λ i w got.
      let lt = slice_get_within vs i w got in
      let within : i < size_of b 5 = omega (arith, lt, n) in
      let c = entry_at p i (omega (arith, within, many)) in
      let is = seated_is p lists datas arrays i c.0 c.1 in
      let same = same_seated (record { class = c.0; list = get_or lists i 0; class_data = get_or datas i 0; array = get_or arrays i 0 }) w (sym is ∙ got) in
      subst (λ (u : ClassWithPlaces). SpellsClassRow s (slice b (table_end b 5 + 32 * i) 32) u) same
      (class_row i (get_or lists i 0) (get_or datas i 0) (get_or arrays i 0) c.0 within (row i c.0 c.1) (l i within) (a i within) (d i within) (v i within))))
    where
      same_seated : (u w : ClassWithPlaces) → Some u ≡ Some w → u ≡ w
      same_seated u w e = cc

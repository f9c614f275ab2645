-- The rows of the six tables of an assembled file, field by field.
use Rattle.std.proofs.Common.{◌≡◌, ℕ, zero, suc, ◌+◌, ◌*◌, ◌^◌, ◌<◌, List, [], ◌∷◌, ◌++◌, length, take, drop, get_or, refl, sym, ap, ◌∙◌, subst, arith, lit<, lit≤, Some, length-append, get_or-drop}
use Rattle.std.proofs.lemmas.List.{get_or-take, take_all}
use Rattle.std.proofs.lemmas.Option.{slice_get_within}
use Rattle.std.specs.List.{slice_get}
use Rattle.dex_base.specs.Words.{words_bytes}
use Rattle.dex_base.proofs.FieldBounds.{u32_at-fits}
use Rattle.dex_base.specs.Fields.{u16_at, u32_at}
use Rattle.file_classes.specs.ClassRows.{IndexOrNone, class_word}
use Rattle.file_put.specs.inner.ClassDefs.{SpellsClassRow, StringRanks, TypeRanks, all_but_first, with_places}
use Rattle.file_put.proofs.PlacedClasses.{first_of, length-seated, others_of}
use Rattle.dex_container.specs.Frame.{IsFramed}
use Rattle.dex_container.specs.Layout.{offset_of, size_of}
use Rattle.file_layout.specs.inner.Header.{HasHeader}
use Rattle.file_layout.specs.inner.Plan.{class_defs_begin, field_ids_begin, method_ids_begin, proto_ids_begin, table_offset, type_ids_begin}
use Rattle.file_layout.specs.Tiles.{Among}
use Rattle.file_layout.specs.declared.plan.Rows.{Rows}
use Rattle.file_layout.proofs.FinishLaws.{length-words}
use Rattle.file_layout.proofs.FrameLaws.{framed, header_of, placed}
use Rattle.file_layout.proofs.TileLaws.{Tiles-among}
use Rattle.file_limits.specs.inner.Wide.{text_values}
use Rattle.tables_names.specs.Closure.{Five}
use Rattle.tables_names.specs.Rank.{IsAt}
use Rattle.program_types.specs.Content.{Class, Descriptor, FieldRef, MethodRef, Program, Proto, Units}
use Rattle.program_types.specs.Key.{field_ref_key, method_ref_key, proto_key, text_key}
use Rattle.program_types.specs.Shorty.{shorty}
use Rattle.file_put.specs.inner.Rows.{SpellsFieldRow, SpellsMethodRow, SpellsRows, SpellsTypeRow}
use Rattle.file_put.proofs.AtLaws as at_index
use Rattle.tables_rows.specs.RowFields.{member_class, member_kind, member_name, proto_parameters, proto_return, proto_shorty, row_place, string_place, type_string}
use Rattle.file_put.specs.inner.Assembled.{Assembled, rows_of}
use Rattle.file_put.proofs.AssembledLaws.{class_long, each_long, protos_long, row_count, table_long}
use Rattle.file_write.proofs.FieldLaws.{all_fit, after_halves, file_u16, file_u32, first_half, from_classes, from_fields, from_methods, from_protos, from_strings, from_types, only_u32, places_below, second_half, word_is}
use Rattle.file_put.proofs.AtLaws.{field_size, method_size, type_size}

-- class i with its places
pub seated_is : (p : Program) (lists datas arrays : List ℕ) (i : ℕ) (c : Class) → slice_get p i ≡ Some c
    → slice_get (with_places p lists datas arrays) i ≡ Some (record { class = c; list = get_or lists i 0; class_data = get_or datas i 0; array = get_or arrays i 0 })
seated_is [] lists datas arrays i c e = absurd (cc e)
seated_is (d ∷ p) lists datas arrays zero c e =
    let same : d ≡ c = cc e in
    rw (first_of lists, first_of datas, first_of arrays) (ap (λ (x : Class). Some (record { class = x; list = get_or lists 0 0; class_data = get_or datas 0 0; array = get_or arrays 0 0 })) same)
seated_is (d ∷ p) lists datas arrays (suc i) c e =
    seated_is p (all_but_first lists) (all_but_first datas) (all_but_first arrays) i c e
    ∙ rw (others_of lists i, others_of datas i, others_of arrays i) refl

-- What row i of proto_ids says: the indices of the shorty and of the return type, and where the parameters stand.
pub record ProtoRowIs (b : List ℕ) (s : Five) (lists : List ℕ) (i : ℕ) (q : Proto) : Type 0 where
  pub shorty_is : IsAt s.strings (proto_shorty b i) (text_key (shorty q))
  pub ret_is : IsAt s.types (proto_return b i) (text_key q.ret)
  pub place : proto_parameters b i ≡ get_or lists i 0

-- What row i of field_ids says: the indices of the class, the name and the type.
pub record FieldRowIs (b : List ℕ) (s : Five) (i : ℕ) (f : FieldRef) : Type 0 where
  pub class_is : IsAt s.types (member_class b 3 i) (text_key f.class)
  pub name_is : IsAt s.strings (member_name b 3 i) (text_key f.name)
  pub ty_is : IsAt s.types (member_kind b 3 i) (text_key f.ty)

-- What row i of method_ids says: the indices of the class, the name and the prototype.
pub record MethodRowIs (b : List ℕ) (s : Five) (i : ℕ) (m : MethodRef) : Type 0 where
  pub class_is : IsAt s.types (member_class b 4 i) (text_key m.class)
  pub name_is : IsAt s.strings (member_name b 4 i) (text_key m.name)
  pub proto_is : IsAt s.protos (member_kind b 4 i) (proto_key m.proto)

-- What row i of class_defs says: the indices of the class, its superclass and its source file, its flags, and where its interfaces,
-- its class data and its static values stand.
pub record ClassRowIs (b : List ℕ) (s : Five) (list datum array : ℕ) (i : ℕ) (c : Class) : Type 0 where
  pub class_is : TypeRanks s (class_word b i 0) c.ty
  pub flags : class_word b i 1 ≡ c.flags
  pub above_is : IndexOrNone (TypeRanks s) (class_word b i 2) c.superclass
  pub interfaces : class_word b i 3 ≡ list
  pub source_is : IndexOrNone (StringRanks s) (class_word b i 4) c.source
  pub annotations : class_word b i 5 ≡ 0
  pub class_data : class_word b i 6 ≡ datum
  pub values : class_word b i 7 ≡ array

module _ (b : List ℕ) (s : Five) (p : Program) (a : Assembled b s p) where
  pub is_framed : IsFramed b
  is_framed = framed b a.plan a.map a.written

  header : HasHeader b a.plan.rows a.map
  header = header_of b a.plan a.map a.written

  -- ---- how many rows there are

  pub string_count : size_of b 0 ≡ length s.strings
  string_count = header.string_ids_size ∙ ap (λ (r : Rows). r.strings) a.counts

  pub type_count : size_of b 1 ≡ length s.types
  type_count = header.type_ids_size ∙ ap (λ (r : Rows). r.types) a.counts

  pub proto_count : size_of b 2 ≡ length s.protos
  proto_count = header.proto_ids_size ∙ ap (λ (r : Rows). r.protos) a.counts

  pub field_count : size_of b 3 ≡ length s.fields
  field_count = header.field_ids_size ∙ ap (λ (r : Rows). r.fields) a.counts

  pub method_count : size_of b 4 ≡ length s.methods
  method_count = header.method_ids_size ∙ ap (λ (r : Rows). r.methods) a.counts

  pub class_count : size_of b 5 ≡ length p
  class_count = header.class_defs_size ∙ ap (λ (r : Rows). r.classes) a.counts

  -- ---- where the tables begin

  strings_at : 0 < length s.strings → offset_of b 0 ≡ 112
  strings_at some = header.string_ids_off ∙ ap (λ (r : Rows). table_offset r.strings 112) a.counts ∙ placed (length s.strings) 112 some

  types_at : 0 < length s.types → offset_of b 1 ≡ type_ids_begin (rows_of s p)
  types_at some = header.type_ids_off ∙ ap (λ (r : Rows). table_offset r.types (type_ids_begin r)) a.counts ∙ placed (length s.types) (type_ids_begin (rows_of s p)) some

  protos_at : 0 < length s.protos → offset_of b 2 ≡ proto_ids_begin (rows_of s p)
  protos_at some = header.proto_ids_off ∙ ap (λ (r : Rows). table_offset r.protos (proto_ids_begin r)) a.counts ∙ placed (length s.protos) (proto_ids_begin (rows_of s p)) some

  fields_at : 0 < length s.fields → offset_of b 3 ≡ field_ids_begin (rows_of s p)
  fields_at some = header.field_ids_off ∙ ap (λ (r : Rows). table_offset r.fields (field_ids_begin r)) a.counts ∙ placed (length s.fields) (field_ids_begin (rows_of s p)) some

  methods_at : 0 < length s.methods → offset_of b 4 ≡ method_ids_begin (rows_of s p)
  methods_at some = header.method_ids_off ∙ ap (λ (r : Rows). table_offset r.methods (method_ids_begin r)) a.counts ∙ placed (length s.methods) (method_ids_begin (rows_of s p)) some

  classes_at : 0 < length p → offset_of b 5 ≡ class_defs_begin (rows_of s p)
  classes_at some = header.class_defs_off ∙ ap (λ (r : Rows). table_offset r.classes (class_defs_begin r)) a.counts ∙ placed (length p) (class_defs_begin (rows_of s p)) some

  -- ---- how long they are

  spelled : SpellsRows s a.at.texts (take (length s.protos) a.at.lists) a.tables.names
  spelled = a.tables.name_rows

  texts_long : length (words_bytes a.at.texts) ≡ 4 * length s.strings
  texts_long = let n = length-words a.at.texts in let m = spelled.string_ids in omega (arith, n, m)

  types_long : length spelled.types ≡ 4 * length s.types
  types_long = table_long _ (SpellsTypeRow s) 4 (type_size s) spelled.types s.types spelled.type_ids

  protos_are_long : length spelled.protos ≡ 12 * length s.protos
  protos_are_long = protos_long s _ spelled.protos s.protos spelled.proto_ids

  fields_long : length spelled.fields ≡ 8 * length s.fields
  fields_long = table_long _ (SpellsFieldRow s) 8 (field_size s) spelled.fields s.fields spelled.field_ids

  methods_long : length spelled.methods ≡ 8 * length s.methods
  methods_long = table_long _ (SpellsMethodRow s) 8 (method_size s) spelled.methods s.methods spelled.method_ids

  classes_long : length a.tables.classes ≡ 32 * length p
  classes_long =
      let n = each_long (SpellsClassRow s) 32 (class_long s) a.tables.classes _ a.tables.class_rows in
      let m = length-seated p (drop (length s.protos) a.at.lists) a.at.datas a.at.arrays in
      omega (arith, n, m)

  names_long : 112 + length a.tables.names ≡ class_defs_begin (rows_of s p)
  names_long =
      let n = row_count s p a.at a.rows a.tables in
      let w = ap length a.tables.whole ∙ length-append a.tables.names a.tables.classes in
      let m = classes_long in
      omega (arith, n, w, m)

  -- ---- strings

  -- all places of items are numbers of 32 bits
  texts_below : (place : ℕ) (v : Units) → Among a.lies.strings.items place v → place < 2 ^ 32
  texts_below place v among =
      let t = Tiles-among place v a.lies.strings.tiled among in
      let high = t.high in let some = t.some in
      let arrays = a.written.planned.arrays.after in let datas = a.written.planned.datas.after in let map = a.written.after in let ends = a.written.ends in
      let size = header.file_size in let fits = u32_at-fits b 32 a.bytes in
      omega (arith, high, some, arrays, datas, map, ends, size, fits)

  texts_fit : (j : ℕ) → get_or a.at.texts j 0 < 2 ^ 32
  texts_fit = places_below a.lies.strings.items (2 ^ 32) (lit< tt) texts_below a.at.texts (text_values s) a.lies.strings.each

  pub string_row : (i : ℕ) → i < length s.strings → string_place b i ≡ get_or a.at.texts i 0
  unfolding string_place
  string_row i lt =
      let o = strings_at (omega (arith, lt)) in
      let l = texts_long in
      let t = spelled in
      file_u32 b a.rows [] (words_bytes a.at.texts) ((t.types ++ (t.protos ++ (t.fields ++ t.methods))) ++ a.tables.classes) (4 * length s.strings) 0 (4 * i) (row_place b 0 i) a.rows_are
      (from_strings (words_bytes a.at.texts) t.types t.protos t.fields t.methods a.tables.classes a.tables.names a.rows a.tables.whole t.whole) (omega (arith, lt)) (omega (arith, l)) (omega (arith, o))
      ∙ word_is (take (4 * length s.strings) (drop 0 (words_bytes a.at.texts))) a.at.texts i (whole_of l) texts_fit (let n = t.string_ids in omega (arith, lt, n))
    where
      whole_of : length (words_bytes a.at.texts) ≡ 4 * length s.strings → take (4 * length s.strings) (drop 0 (words_bytes a.at.texts)) ≡ words_bytes a.at.texts
      whole_of l = take_all (4 * length s.strings) (words_bytes a.at.texts) (omega (arith, l))

  -- ---- types

  pub type_row : (i : ℕ) (t : Descriptor) → IsAt s.types i (text_key t) → IsAt s.strings (type_string b i) (text_key t)
  unfolding type_string
  type_row i t e =
      let lt = slice_get_within s.types i (text_key t) e in
      let o = types_at (omega (arith, lt)) in
      let w = texts_long in let l = types_long in
      let r = spelled in
      let row = at_index.type_row s r.types i t r.type_ids e in
      let is : u32_at b (row_place b 1 i) ≡ row.descriptor =
      file_u32 b a.rows (words_bytes a.at.texts) r.types ((r.protos ++ (r.fields ++ r.methods)) ++ a.tables.classes) 4 (4 * i) 0 (row_place b 1 i) a.rows_are
      (from_types (words_bytes a.at.texts) r.types r.protos r.fields r.methods a.tables.classes a.tables.names a.rows a.tables.whole r.whole) (lit≤ tt) (omega (arith, l, lt)) (omega (arith, o, w))
      ∙ only_u32 (take 4 (drop (4 * i) r.types)) row.descriptor row.whole row.small in
      subst (λ (j : ℕ). IsAt s.strings j (text_key t)) (sym is) row.descriptor_is

  -- ---- protos

  pub proto_row : (i : ℕ) (q : Proto) → IsAt s.protos i (proto_key q) → ProtoRowIs b s a.at.lists i q
  unfolding proto_shorty proto_return proto_parameters
  proto_row i q e =
      let lt = slice_get_within s.protos i (proto_key q) e in
      let o = protos_at (omega (arith, lt)) in
      let w = texts_long in let l = types_long in let m = protos_are_long in
      let r = spelled in
      let n = length-append (words_bytes a.at.texts) r.types in
      let row = at_index.proto_row s (take (length s.protos) a.at.lists) r.protos i q r.proto_ids e in
      let words : List ℕ = row.shorty_at ∷ row.ret ∷ get_or (take (length s.protos) a.at.lists) i 0 ∷ [] in
      let word : (j : ℕ) → j < 3 → u32_at b (row_place b 2 i + 4 * j) ≡ get_or words j 0 = λ j few.
      file_u32 b a.rows (words_bytes a.at.texts ++ r.types) r.protos ((r.fields ++ r.methods) ++ a.tables.classes) 12 (12 * i) (4 * j) (row_place b 2 i + 4 * j) a.rows_are
      (from_protos (words_bytes a.at.texts) r.types r.protos r.fields r.methods a.tables.classes a.tables.names a.rows a.tables.whole r.whole) (omega (arith, few)) (omega (arith, m, lt)) (omega (arith, o, w, l, n))
      ∙ word_is (take 12 (drop (12 * i) r.protos)) words j row.whole
      (all_fit words (row.small_shorty, (row.small_ret, (row.small_place, tt)))) few in
      let first : u32_at b (row_place b 2 i) ≡ row.shorty_at = ap (u32_at b) (omega arith) ∙ word 0 (lit< tt) in
      let second : u32_at b (row_place b 2 i + 4) ≡ row.ret = word 1 (lit< tt) in
      record {
        shorty_is = subst (λ (j : ℕ). IsAt s.strings j (text_key (shorty q))) (sym first) row.shorty_is;
        ret_is = subst (λ (j : ℕ). IsAt s.types j (text_key q.ret)) (sym second) row.ret_is;
        place = word 2 (lit< tt) ∙ get_or-take (length s.protos) a.at.lists i 0 lt;
      }

  -- ---- fields

  pub field_row : (i : ℕ) (f : FieldRef) → IsAt s.fields i (field_ref_key f) → FieldRowIs b s i f
  unfolding member_class member_kind member_name
  field_row i f e =
      let lt = slice_get_within s.fields i (field_ref_key f) e in
      let o = fields_at (omega (arith, lt)) in
      let w = texts_long in let l = types_long in let m = protos_are_long in let x = fields_long in
      let r = spelled in
      let n = length-append (words_bytes a.at.texts) (r.types ++ r.protos) in let k = length-append r.types r.protos in
      let row = at_index.field_row s r.fields i f r.field_ids e in
      let there = from_fields (words_bytes a.at.texts) r.types r.protos r.fields r.methods a.tables.classes a.tables.names a.rows a.tables.whole r.whole in
      let front : List ℕ = words_bytes a.at.texts ++ (r.types ++ r.protos) in
      let bytes : List ℕ = take 8 (drop (8 * i) r.fields) in
      let class : u16_at b (row_place b 3 i) ≡ row.class =
      file_u16 b a.rows front r.fields (r.methods ++ a.tables.classes) 8 (8 * i) 0 (row_place b 3 i) a.rows_are there (lit≤ tt) (omega (arith, x, lt)) (omega (arith, o, w, l, m, n, k))
      ∙ first_half bytes row.class row.ty row.name row.whole row.small_class in
      let kind : u16_at b (row_place b 3 i + 2) ≡ row.ty =
      file_u16 b a.rows front r.fields (r.methods ++ a.tables.classes) 8 (8 * i) 2 (row_place b 3 i + 2) a.rows_are there (lit≤ tt) (omega (arith, x, lt)) (omega (arith, o, w, l, m, n, k))
      ∙ second_half bytes row.class row.ty row.name row.whole row.small_ty in
      let name : u32_at b (row_place b 3 i + 4) ≡ row.name =
      file_u32 b a.rows front r.fields (r.methods ++ a.tables.classes) 8 (8 * i) 4 (row_place b 3 i + 4) a.rows_are there (lit≤ tt) (omega (arith, x, lt)) (omega (arith, o, w, l, m, n, k))
      ∙ after_halves bytes row.class row.ty row.name row.whole row.small_name in
      record {
        class_is = subst (λ (j : ℕ). IsAt s.types j (text_key f.class)) (sym class) row.class_is;
        name_is = subst (λ (j : ℕ). IsAt s.strings j (text_key f.name)) (sym name) row.name_is;
        ty_is = subst (λ (j : ℕ). IsAt s.types j (text_key f.ty)) (sym kind) row.ty_is;
      }

  -- ---- methods

  pub method_row : (i : ℕ) (q : MethodRef) → IsAt s.methods i (method_ref_key q) → MethodRowIs b s i q
  unfolding member_class member_kind member_name
  method_row i q e =
      let lt = slice_get_within s.methods i (method_ref_key q) e in
      let o = methods_at (omega (arith, lt)) in
      let w = texts_long in let l = types_long in let m = protos_are_long in let x = fields_long in let y = methods_long in
      let r = spelled in
      let n = length-append (words_bytes a.at.texts) (r.types ++ (r.protos ++ r.fields)) in let k = length-append r.types (r.protos ++ r.fields) in let h = length-append r.protos r.fields in
      let row = at_index.method_row s r.methods i q r.method_ids e in
      let there = from_methods (words_bytes a.at.texts) r.types r.protos r.fields r.methods a.tables.classes a.tables.names a.rows a.tables.whole r.whole in
      let front : List ℕ = words_bytes a.at.texts ++ (r.types ++ (r.protos ++ r.fields)) in
      let bytes : List ℕ = take 8 (drop (8 * i) r.methods) in
      let class : u16_at b (row_place b 4 i) ≡ row.class =
      file_u16 b a.rows front r.methods a.tables.classes 8 (8 * i) 0 (row_place b 4 i) a.rows_are there (lit≤ tt) (omega (arith, y, lt)) (omega (arith, o, w, l, m, x, n, k, h))
      ∙ first_half bytes row.class row.proto row.name row.whole row.small_class in
      let kind : u16_at b (row_place b 4 i + 2) ≡ row.proto =
      file_u16 b a.rows front r.methods a.tables.classes 8 (8 * i) 2 (row_place b 4 i + 2) a.rows_are there (lit≤ tt) (omega (arith, y, lt)) (omega (arith, o, w, l, m, x, n, k, h))
      ∙ second_half bytes row.class row.proto row.name row.whole row.small_proto in
      let name : u32_at b (row_place b 4 i + 4) ≡ row.name =
      file_u32 b a.rows front r.methods a.tables.classes 8 (8 * i) 4 (row_place b 4 i + 4) a.rows_are there (lit≤ tt) (omega (arith, y, lt)) (omega (arith, o, w, l, m, x, n, k, h))
      ∙ after_halves bytes row.class row.proto row.name row.whole row.small_name in
      record {
        class_is = subst (λ (j : ℕ). IsAt s.types j (text_key q.class)) (sym class) row.class_is;
        name_is = subst (λ (j : ℕ). IsAt s.strings j (text_key q.name)) (sym name) row.name_is;
        proto_is = subst (λ (j : ℕ). IsAt s.protos j (proto_key q.proto)) (sym kind) row.proto_is;
      }

  -- ---- classes

  pub class_row : (i : ℕ) (c : Class) → slice_get p i ≡ Some c → ClassRowIs b s (get_or a.at.lists (length s.protos + i) 0) (get_or a.at.datas i 0) (get_or a.at.arrays i 0) i c
  unfolding class_word
  class_row i c e =
      let lt = slice_get_within p i c e in
      let o = classes_at (omega (arith, lt)) in
      let n = names_long in let m = classes_long in
      let lists : List ℕ = drop (length s.protos) a.at.lists in
      let row = at_index.each_at (SpellsClassRow s) 32 (class_long s) a.tables.classes (with_places p lists a.at.datas a.at.arrays) i
      (record { class = c; list = get_or lists i 0; class_data = get_or a.at.datas i 0; array = get_or a.at.arrays i 0 }) a.tables.class_rows (seated_is p lists a.at.datas a.at.arrays i c e) in
      let words : List ℕ = row.class ∷ c.flags ∷ row.above ∷ get_or lists i 0 ∷ row.source ∷ 0 ∷ get_or a.at.datas i 0 ∷ get_or a.at.arrays i 0 ∷ [] in
      let word : (j : ℕ) → j < 8 → u32_at b (row_place b 5 i + 4 * j) ≡ get_or words j 0 = λ j few.
      file_u32 b a.rows a.tables.names a.tables.classes [] 32 (32 * i) (4 * j) (row_place b 5 i + 4 * j) a.rows_are
      (from_classes (words_bytes a.at.texts) spelled.types spelled.protos spelled.fields spelled.methods a.tables.classes a.tables.names a.rows a.tables.whole spelled.whole) (omega (arith, few)) (omega (arith, m, lt)) (omega (arith, o, n))
      ∙ word_is (take 32 (drop (32 * i) a.tables.classes)) words j row.whole
      (all_fit words (row.small_class, (row.small_flags, (row.small_above, (row.small_list, (row.small_source, (lit< tt, (row.small_class_data, (row.small_array, tt))))))))) few in
      record {
        class_is = subst (λ (j : ℕ). TypeRanks s j c.ty) (sym (word 0 (lit< tt))) row.class_is;
        flags = word 1 (lit< tt);
        above_is = subst (λ (j : ℕ). IndexOrNone (TypeRanks s) j c.superclass) (sym (word 2 (lit< tt))) row.above_is;
        interfaces = word 3 (lit< tt) ∙ get_or-drop (length s.protos) a.at.lists i 0;
        source_is = subst (λ (j : ℕ). IndexOrNone (StringRanks s) j c.source) (sym (word 4 (lit< tt))) row.source_is;
        annotations = word 5 (lit< tt);
        class_data = word 6 (lit< tt);
        values = word 7 (lit< tt);
      }

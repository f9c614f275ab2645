-- An assembled file is packed.
use Rattle.std.proofs.Common.{◌≡◌, ℕ, zero, suc, ◌+◌, ◌<◌, List, [], ◌∷◌, ◌++◌, length, drop, get_or, refl, sym, ap, ◌∙◌, subst, arith, Some, slice_get, length-append, length-drop}
use Rattle.std.proofs.lemmas.List.{take-append-drop, nil_from_length}
use Rattle.std.proofs.lemmas.Option.{slice_get-get_or}
use Rattle.std.specs.Prelude.{if◌then◌else◌, ◌==◌}
use Rattle.std.specs.List.{flat_map}
use Rattle.file_put.specs.inner.Assembled.{Assembled}
use Rattle.file_put.proofs.AssembledLaws.{array_count, data_count, list_count, text_count}
use Rattle.dex_base.specs.Mutf8.{PacksText}
use Rattle.dex_base.specs.Leb128.{Shortest}
use Rattle.file_classes.specs.ClassData.{Entries, EntriesAt}
use Rattle.file_classes.specs.ClassRows.{class_word}
use Rattle.file_classes.proofs.EntryLaws.{entry_at}
use Rattle.dex_container.specs.Layout.{data_begin, offset_of, size_of}
use Rattle.file_layout.specs.inner.Header.{HasHeader}
use Rattle.file_layout.specs.inner.Plan.{class_defs_begin, field_ids_begin, method_ids_begin, proto_ids_begin, table_offset, type_ids_begin}
use Rattle.file_layout.specs.inner.Sections.{is_empty_list, never}
use Rattle.file_layout.specs.Tiles.{IsNext}
use Rattle.file_layout.specs.inner.Tiles.{Refers}
use Rattle.file_layout.proofs.FrameLaws.{arrays_part, codes_part, data_end_is, datas_part, header_of, kinds_known, lists_part, strings_part}
use Rattle.file_limits.specs.Limits.{Fits}
use Rattle.file_limits.specs.Wide.{bodies_of}
use Rattle.file_limits.specs.inner.Wide.{array_values, body_values, list_values, text_values}
use Rattle.tables_names.specs.Closure.{NameRanks}
use Rattle.tables_names.specs.Needed.{needed}
use Rattle.tables_names.specs.Rank.{IsAt}
use Rattle.program_types.specs.Content.{Class, Program, Proto, Value}
use Rattle.program_types.specs.Key.{proto_key}
use Rattle.program_rules.specs.WellFormed.{WellFormed}
use Rattle.file_put.specs.inner.Codes.{PacksBody, is_bodiless}
use Rattle.file_put.specs.inner.Data.{PacksData, has_no_members, method_count, with_code_places}
use Rattle.file_put.specs.inner.Lists.{SpellsRanks}
use Rattle.file_put.proofs.SitedLaws.{count_of_bodies, rest_after}
use Rattle.tables_rows.specs.RowFields.{proto_parameters, string_place}
use Rattle.dex_value.specs.Spelling.{SpellsArray}
use Rattle.file_write.proofs.Classes.{data_stands, row}
use Rattle.file_write.proofs.Datas.{DataStands}
use Rattle.file_write.proofs.Lists.{own_sited}
use Rattle.file_write.specs.Least.{HoldsExactly}
use Rattle.file_write.proofs.NameLaws.{valid_of}
use Rattle.file_write.proofs.RowLaws.{class_count, is_framed, proto_count, proto_row, string_count, string_row}
use Rattle.file_write.proofs.TableLaws.{holds_exactly}
use Rattle.file_write.proofs.ValidNames.{IsProtoKey, member_is}
use Rattle.file_write.specs.Packed.{DataIsPacked, IsPackedSection, Packed, SomeCode, SomeMembers, SomeTypes, SomeValues, TablesArePacked, UnusedIsZero, array_places, code_places, data_places, list_places, table_end, text_places}
use Rattle.file_write.proofs.Readings.{AreEntriesOf, AreIndicesOf, IsBodyOf, bodies_can, codes_read, members_read, members_told, types_read, types_told, values_read}
use Rattle.file_write.proofs.References.{all_words, both_words}
use Rattle.file_write.proofs.Sections.{packed_section}
use Rattle.dex_base.proofs.ListFacts.{zip_length}

-- ---- the class data of each class

-- The class data of each class, whose bodies stand at these places.
record AllData (b : List ℕ) (place : ℕ → ℕ) (count : ℕ) (codes : List ℕ) : Type 0 where
  entries : List Entries
  many : length entries ≡ count
  each : (k : ℕ) (e : Entries) → slice_get entries k ≡ Some e → EntriesAt b (place k) e
  places : codes ≡ flat_map code_places entries

-- an element of a list that begins with another
each_of : {E : Type 0} (P : ℕ → E → Type 0) (x : E) (xs : List E) → P 0 x → ((k : ℕ) (e : E) → slice_get xs k ≡ Some e → P (suc k) e) → (k : ℕ) (e : E) → slice_get (x ∷ xs) k ≡ Some e → P k e
each_of P x xs first rest zero e at = let same : x ≡ e = cc at in subst (P 0) same first
each_of P x xs first rest (suc k) e at = rest k e at

all_data : (b : List ℕ) (place : ℕ → ℕ) (p : Program) (codes : List ℕ) → length codes ≡ length (body_values p)
    → ((i : ℕ) (c : Class) → slice_get p i ≡ Some c → DataStands b (place i) (own_sited c (rest_after p codes i))) → AllData b place (length p) codes
all_data b place [] codes n f = record { entries = []; many = refl; each = λ k e at. absurd (cc at); places = nil_from_length codes n }
all_data b place (c ∷ p) codes n f =
    let d = f 0 c refl in
    let m = length-append (bodies_of c) (body_values p) in
    let k = count_of_bodies c in
    let l = length-drop (method_count c) codes in
    let r = all_data b (λ i. place (suc i)) p (drop (method_count c) codes) (omega (arith, n, m, k, l)) (λ i e at. f (suc i) e at) in
    record {
      entries = d.entries ∷ r.entries;
      many = ap suc r.many;
      each = each_of (λ (i : ℕ) (e : Entries). EntriesAt b (place i) e) d.entries r.entries d.there r.each;
      places = sym (take-append-drop (method_count c) codes) ∙ ap (λ (xs : List ℕ). xs ++ drop (method_count c) codes) (sym d.codes) ∙ ap (λ (xs : List ℕ). code_places d.entries ++ xs) r.places;
    }

-- ---- the file

module _ (b : List ℕ) (p : Program) (a : Assembled b (needed p) p) (w : WellFormed p) (fits : Fits p) where
  header : HasHeader b a.plan.rows a.map
  header = header_of b a.plan a.map a.written

  exact : HoldsExactly b (needed p)
  exact = holds_exactly b p w a

  -- ---- tables

  offsets : (k : ℕ) → k < 6 → offset_of b k ≡ (if size_of b k == 0 then 0 else table_end b k)
  offsets zero h = let f = header in f.string_ids_off ∙ ap (λ (x : ℕ). table_offset x 112) (sym f.string_ids_size)
  offsets (suc zero) h =
      let f = header in
      let s0 = f.string_ids_size in
      let e : type_ids_begin a.plan.rows ≡ table_end b 1 = omega (arith, s0) in
      f.type_ids_off ∙ ap (table_offset a.plan.rows.types) e ∙ ap (λ (x : ℕ). table_offset x (table_end b 1)) (sym f.type_ids_size)
  offsets (suc (suc zero)) h =
      let f = header in
      let s0 = f.string_ids_size in let s1 = f.type_ids_size in
      let e : proto_ids_begin a.plan.rows ≡ table_end b 2 = omega (arith, s0, s1) in
      f.proto_ids_off ∙ ap (table_offset a.plan.rows.protos) e ∙ ap (λ (x : ℕ). table_offset x (table_end b 2)) (sym f.proto_ids_size)
  offsets (suc (suc (suc zero))) h =
      let f = header in
      let s0 = f.string_ids_size in let s1 = f.type_ids_size in let s2 = f.proto_ids_size in
      let e : field_ids_begin a.plan.rows ≡ table_end b 3 = omega (arith, s0, s1, s2) in
      f.field_ids_off ∙ ap (table_offset a.plan.rows.fields) e ∙ ap (λ (x : ℕ). table_offset x (table_end b 3)) (sym f.field_ids_size)
  offsets (suc (suc (suc (suc zero)))) h =
      let f = header in
      let s0 = f.string_ids_size in let s1 = f.type_ids_size in let s2 = f.proto_ids_size in let s3 = f.field_ids_size in
      let e : method_ids_begin a.plan.rows ≡ table_end b 4 = omega (arith, s0, s1, s2, s3) in
      f.method_ids_off ∙ ap (table_offset a.plan.rows.methods) e ∙ ap (λ (x : ℕ). table_offset x (table_end b 4)) (sym f.method_ids_size)
  offsets (suc (suc (suc (suc (suc zero))))) h =
      let f = header in
      let s0 = f.string_ids_size in let s1 = f.type_ids_size in let s2 = f.proto_ids_size in let s3 = f.field_ids_size in let s4 = f.method_ids_size in
      let e : class_defs_begin a.plan.rows ≡ table_end b 5 = omega (arith, s0, s1, s2, s3, s4) in
      f.class_defs_off ∙ ap (table_offset a.plan.rows.classes) e ∙ ap (λ (x : ℕ). table_offset x (table_end b 5)) (sym f.class_defs_size)
  offsets (suc (suc (suc (suc (suc (suc k)))))) h = absurd (omega arith)

  tables : TablesArePacked b
  tables = record {
    offsets = offsets;
    data_first =
        let f = header in
        let s0 = f.string_ids_size in let s1 = f.type_ids_size in let s2 = f.proto_ids_size in let s3 = f.field_ids_size in let s4 = f.method_ids_size in let s5 = f.class_defs_size in
        let o = f.data_off in
        omega (arith, o, s0, s1, s2, s3, s4, s5);
    data_last = data_end_is b a.plan a.map a.written;
  }

  -- ---- references

  -- the class of a row
  class_of : (i : ℕ) → i < size_of b 5 → (c : Class) × (slice_get p i ≡ Some c)
  class_of i lt = let n = class_count b (needed p) p a in entry_at p i (omega (arith, lt, n))

  proto_of : (i : ℕ) → i < size_of b 2 → (q : Proto) × IsAt (needed p).protos i (proto_key q)
  proto_of i lt =
      let n = proto_count b (needed p) p a in
      let e = slice_get-get_or (needed p).protos i [] (omega (arith, lt, n)) in
      let k = member_is IsProtoKey (needed p).protos i (get_or (needed p).protos i []) (valid_of p w).protos e in
      (k.0, e ∙ ap Some k.1)

  lists_are : a.at.lists ≡ list_places b
  lists_are =
      let l = list_count b (needed p) p a.plan a.at a.lies in
      let n2 = proto_count b (needed p) p a in
      let n5 = class_count b (needed p) p a in
      both_words (proto_parameters b) (λ i. class_word b i 3) a.at.lists (size_of b 2) (size_of b 5) (omega (arith, l, n2, n5))
      (λ i lt. let q = proto_of i lt in (proto_row b (needed p) p a i q.0 q.1).place)
      (λ i lt. let c = class_of i lt in (row b p a w fits i c.0 c.1).interfaces ∙ ap (λ (k : ℕ). get_or a.at.lists (k + i) 0) (sym n2))

  texts_are : a.at.texts ≡ text_places b
  texts_are =
      let l = text_count b (needed p) p a.plan a.at a.lies in
      let n = string_count b (needed p) p a in
      all_words (string_place b) a.at.texts (size_of b 0) (n ∙ sym l) (λ i lt. string_row b (needed p) p a i (omega (arith, lt, n)))

  arrays_are : a.at.arrays ≡ array_places b
  arrays_are =
      let l = array_count b (needed p) p a.plan a.at a.lies in
      let n = class_count b (needed p) p a in
      all_words (λ i. class_word b i 7) a.at.arrays (size_of b 5) (n ∙ sym l) (λ i lt. let c = class_of i lt in (row b p a w fits i c.0 c.1).values)

  datas_are : a.at.datas ≡ data_places b
  datas_are =
      let l = data_count b (needed p) p a.plan a.at a.lies in
      let n = class_count b (needed p) p a in
      all_words (λ i. class_word b i 6) a.at.datas (size_of b 5) (n ∙ sym l) (λ i lt. let c = class_of i lt in (row b p a w fits i c.0 c.1).class_data)

  data_of : AllData b (λ i. class_word b i 6) (length p) a.at.codes
  data_of =
      all_data b (λ i. class_word b i 6) p a.at.codes (zip_length (Refers is_bodiless a.lies.codes.items) a.at.codes (body_values p) a.lies.codes.each)
      (λ i c at. subst (λ (k : ℕ). DataStands b k (own_sited c (rest_after p a.at.codes i))) (sym (row b p a w fits i c at).class_data) (data_stands b p a w fits i c at))

  -- ---- sections

  data_section : DataIsPacked b (record { lists = a.plan.lists.end; codes = a.plan.codes.end; texts = a.plan.strings.end; arrays = a.plan.arrays.end; datas = a.plan.datas.end }) data_of.entries
  data_section =
      let at_lists : a.plan.lists.begin ≡ data_begin b = a.lies.lists_begin ∙ sym header.data_off in
      let m = header.map_off in
      record {
        lists = subst (λ (k : ℕ). IsPackedSection SomeTypes 4 b 0x1001 k a.plan.lists.end (list_places b)) at_lists
            (packed_section is_empty_list (SpellsRanks (needed p)) SomeTypes (AreIndicesOf (needed p)) 4 b 0x1001 a.plan.lists a.plan.lists.begin (list_values (needed p) p) a.at.lists (list_places b)
            (types_read (needed p) (list_values (needed p) p)) (types_told (needed p) (list_values (needed p) p)) (lists_part b a.plan a.map a.written) (let e = a.lies.lists_begin in omega (arith, e)) a.lies.lists a.once.lists lists_are);
        codes = packed_section is_bodiless (PacksBody (NameRanks (needed p))) (SomeCode b) IsBodyOf 4 b 0x2001 a.plan.codes a.plan.lists.end (body_values p) a.at.codes (flat_map code_places data_of.entries)
            (codes_read b (needed p) exact.each exact.only (body_values p) (bodies_can p w fits)) (λ i j u v c at_i at_j some x y. x ∙ sym y) (codes_part b a.plan a.map a.written) a.lies.codes_begin a.lies.codes a.once.codes data_of.places;
        texts = subst (λ (k : ℕ). IsPackedSection PacksText 1 b 0x2002 k a.plan.strings.end (text_places b)) a.lies.strings_begin
            (packed_section never PacksText PacksText (◌≡◌ {A = List ℕ}) 1 b 0x2002 a.plan.strings a.plan.strings.begin (text_values (needed p)) a.at.texts (text_places b)
            (λ k v at some bytes t. (v, t, refl)) (λ i j u v t at_i at_j some x y. x ∙ sym y) (strings_part b a.plan a.map a.written) (omega arith) a.lies.strings a.once.texts texts_are);
        arrays = subst (λ (k : ℕ). IsPackedSection (SomeValues b) 1 b 0x2005 k a.plan.arrays.end (array_places b)) a.lies.arrays_begin
            (packed_section is_empty_list (Shortest (SpellsArray (NameRanks (needed p)))) (SomeValues b) (◌≡◌ {A = List Value}) 1 b 0x2005 a.plan.arrays a.plan.arrays.begin (array_values p) a.at.arrays (array_places b)
            (values_read b (needed p) exact.each exact.only (array_values p)) (λ i j u v t at_i at_j some x y. x ∙ sym y) (arrays_part b a.plan a.map a.written) (omega arith) a.lies.arrays a.once.arrays arrays_are);
        datas = subst (λ (k : ℕ). IsPackedSection SomeMembers 1 b 0x2000 k a.plan.datas.end (data_places b)) a.lies.datas_begin
            (packed_section has_no_members (PacksData (NameRanks (needed p))) SomeMembers (AreEntriesOf (needed p)) 1 b 0x2000 a.plan.datas a.plan.datas.begin (with_code_places p a.at.codes) a.at.datas (data_places b)
            (members_read (needed p) (with_code_places p a.at.codes)) (members_told (needed p) p a.at.codes w) (datas_part b a.plan a.map a.written) (omega arith) a.lies.datas a.once.datas datas_are);
        map = subst (λ (k : ℕ). IsNext 4 b a.plan.datas.end k) (sym m) a.next;
        map_last = let e = a.written.ends in let c = a.written.named.count in omega (arith, e, c, m);
      }

  unused : UnusedIsZero b
  unused = record {
    link = header.link_off;
    annotations = λ i lt. let c = class_of i lt in (row b p a w fits i c.0 c.1).annotations;
    map = λ i lt. a.written.named.unused i (let c = a.written.named.count in omega (arith, lt, c));
  }

  pub packed : Packed b
  packed = record {
    bytes = a.bytes;
    tables = tables;
    entries = data_of.entries;
    entries_are = record { count = let n = class_count b (needed p) p a in let m = data_of.many in omega (arith, n, m); each = data_of.each };
    ends = record { lists = a.plan.lists.end; codes = a.plan.codes.end; texts = a.plan.strings.end; arrays = a.plan.arrays.end; datas = a.plan.datas.end };
    data_section = data_section;
    map = record { kinds = kinds_known b a.plan a.map a.written; some = λ i lt. ((is_framed b (needed p) p a).map.each i lt).some };
    unused = unused;
  }

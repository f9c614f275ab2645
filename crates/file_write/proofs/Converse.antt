-- A packed file whose tables hold exactly the names that its program needs is one that is assembled of the program.
use Rattle.std.proofs.Common.{◌≡◌, ◌≢◌, ℕ, ◌+◌, ◌*◌, ◌≤◌, false, List, ◌++◌, length, map, refl, sym, ap, ◌∙◌, subst, arith, Option, Some, None}
use Rattle.std.proofs.lemmas.List.{drop_at, length-map, take_at}
use Rattle.std.proofs.lemmas.List.Sums.{count_by-le-length, length-filter}
use Rattle.std.specs.List.{AllZip, flat_map, slice_get}
use Rattle.dex_base.specs.Grammar.{Each}
use Rattle.dex_base.specs.Leb128.{Shortest}
use Rattle.dex_base.specs.Mutf8.{PacksText, SpellsText}
use Rattle.dex_base.proofs.TextLaws.{packed_length}
use Rattle.dex_container.specs.Frame.{IsFramed}
use Rattle.dex_container.specs.Layout.{data_begin, map_place, size_of}
use Rattle.dex_container.specs.Where.{At, slice}
use Rattle.dex_value.specs.Spelling.{SpellsArray}
use Rattle.dex_value.specs.Wide.{wide_array}
use Rattle.dex_value.proofs.Lengths.{SpellsArray-most}
use Rattle.file_put.specs.inner.Assembled.{Assembled, DataLies, Places, SpellsTables, StandOnce, rows_of}
use Rattle.file_put.proofs.OnceLaws.{datas_shared}
use Rattle.file_classes.specs.ClassData.{Entries}
use Rattle.file_classes.specs.ClassRows.{class_data_off, interfaces_off, static_values_off}
use Rattle.file_classes.specs.Classes.{CodeAt, CodesAre, MembersAre}
use Rattle.file_classes.proofs.EntryLaws.{entries_one}
use Rattle.file_read.proofs.RangeLaws.{well_formed}
use Rattle.file_layout.specs.declared.plan.Plan.{Plan}
use Rattle.file_layout.specs.inner.Plan.{IsPlanned, IsWritten, spans_of, tables_end}
use Rattle.file_layout.specs.inner.Sections.{is_empty_list, never}
use Rattle.file_layout.specs.inner.Spans.{has_items}
use Rattle.file_layout.specs.Tiles.{gap}
use Rattle.file_layout.proofs.PartLaws.{length_slice, slice_more}
use Rattle.file_layout.proofs.TileLaws.{Tiles-le}
use Rattle.file_limits.specs.Wide.{bodies_in, bodies_of, params_of, wide_body, wide_list, wide_of}
use Rattle.file_limits.specs.inner.Wide.{array_values, body_values, list_values, text_values, wide_text}
use Rattle.file_limits.proofs.PartLaws.{by_parts}
use Rattle.file_read.specs.Means.{Means}
use Rattle.file_put.specs.inner.ClassDefs.{SpellsClassRow, with_places}
use Rattle.file_put.specs.inner.Rows.{SpellsRows}
use Rattle.file_put.specs.inner.Codes.{PacksBody, is_bodiless}
use Rattle.file_put.specs.Data.{code_offs}
use Rattle.file_put.specs.inner.Data.{PacksData, ClassWithCodes, has_no_members, method_count, with_code_places, wide_with_codes}
use Rattle.file_put.specs.inner.Lists.{SpellsRanks}
use Rattle.file_put.proofs.OneBody.{packed_room}
use Rattle.file_put.proofs.DataLengths.{data_length}
use Rattle.file_put.proofs.RankedLists.{gap_four, list_most}
use Rattle.file_put.proofs.SitedLaws.{count_of_bodies, length-sited, room_of_sited}
use Rattle.program_rules.specs.WellFormed.{WellFormed}
use Rattle.program_types.specs.Content.{Class, Code, Descriptor, OfDesc, OfText, Program, Units, Value}
use Rattle.program_types.specs.Key.{proto_key, text_key}
use Rattle.tables_names.specs.Closure.{AreRising, NameRanks}
use Rattle.tables_names.specs.Needed.{needed}
use Rattle.tables_names.specs.Rank.{IsAt}
use Rattle.tables_names.specs.Rows.{first_of}
use Rattle.tables_names.proofs.NeededLemmas.{needed_is_least}
use Rattle.tables_rows.specs.RowFields.{proto_parameters, string_place}
use Rattle.file_write.specs.Least.{HoldsExactly}
use Rattle.file_write.specs.Packed.{Packed, SomeCode, SomeMembers, SomeTypes, SomeValues, array_places, code_places, data_places, list_places, table_end, text_places, words_of_rows}
use Rattle.file_write.proofs.MapNamed.{HasRows, follows, is_written, part_says}
use Rattle.file_write.proofs.Readings.{AreEntriesOf, AreIndicesOf, IsBodyOf, members_told, types_told}
use Rattle.file_write.proofs.Room.{laid_room}
use Rattle.file_write.proofs.Retold.{IsTold, retold, retold_shared, zip_one}
use Rattle.file_write.proofs.TableBytes.{length-words_of, word_or, words_zip}
use Rattle.file_write.proofs.TableRows.{class_rows, name_rows, names_size}
use Rattle.file_write.proofs.Told.{all_bodies_zip, bodies_zip, body_is_told, map_was, members_are_told, text_is_told, types_are_told, values_are_told, was_sited}
use Rattle.dex_base.proofs.ListFacts.{zip_length, zip_append, zip_weaker}
use Rattle.tables_names.proofs.PlaceLemmas.{rank_one, one_key}

-- ---- the file

module _ (b : List ℕ) (p : Program) (m : Means b p) (x : HoldsExactly b (needed p)) (k : Packed b) where
  framed : IsFramed b
  framed = m.framed

  well : WellFormed p
  well = well_formed b k.bytes p m

  rising : AreRising (needed p)
  rising = (needed_is_least p).0

  class_count : size_of b 5 ≡ length p
  class_count = sym m.classes.count

  entry_count_is : length k.entries ≡ length p
  entry_count_is = k.entries_are.count ∙ class_count

  low : 112 ≤ data_begin b
  low = let e = k.tables.data_first in omega (arith, e)

  long : table_end b 6 ≤ length b
  long = let e = k.tables.data_first in let f = k.tables.data_last in omega (arith, e, f)

  begin_is : data_begin b ≡ tables_end (rows_of (needed p) p)
  begin_is =
      let e = k.tables.data_first in
      let n0 = x.strings in let n1 = x.types in let n2 = x.protos in let n3 = x.fields in let n4 = x.methods in let n5 = class_count in
      omega (arith, e, n0, n1, n2, n3, n4, n5)

  -- ---- classes and their entries

  same_entries : (i : ℕ) (e : Entries) (c : Class) → slice_get k.entries i ≡ Some e → (at : slice_get p i ≡ Some c) → (m.classes.each i c at).entries ≡ e
  same_entries i e c by at = entries_one b framed (class_data_off b i) (m.classes.each i c at).entries e (m.classes.each i c at).head.class_data (k.entries_are.each i e by)

  members : (i : ℕ) (e : Entries) (c : Class) → slice_get k.entries i ≡ Some e → slice_get p i ≡ Some c → MembersAre b e c
  members i e c by at = subst (λ (y : Entries). MembersAre b y c) (same_entries i e c by at) (m.classes.each i c at).head.members

  bodies : (i : ℕ) (e : Entries) (c : Class) → slice_get k.entries i ≡ Some e → slice_get p i ≡ Some c → AllZip (CodeAt b) (code_places e) (bodies_of c)
  bodies i e c by at =
      let q = same_entries i e c by at in
      let r = members i e c by at in
      zip_append (CodeAt b) (code_offs e.directs) (code_offs e.virtuals) (bodies_in c.directs) (bodies_in c.virtuals)
      (bodies_zip b e.directs c.directs r.directs.count (subst (λ (y : Entries). CodesAre b y.directs c.directs) q (m.classes.each i c at).directs))
      (bodies_zip b e.virtuals c.virtuals r.virtuals.count (subst (λ (y : Entries). CodesAre b y.virtuals c.virtuals) q (m.classes.each i c at).virtuals))

  body_count : (i : ℕ) (e : Entries) (c : Class) → slice_get k.entries i ≡ Some e → slice_get p i ≡ Some c → length (code_places e) ≡ method_count c
  body_count i e c by at = zip_length (CodeAt b) (code_places e) (bodies_of c) (bodies i e c by at) ∙ count_of_bodies c

  -- ---- what is told of each place

  abbrev codes_at : List ℕ
  codes_at = flat_map code_places k.entries

  abbrev ListTold : ℕ → List Descriptor → Type 0
  ListTold = IsTold is_empty_list (SpellsRanks (needed p)) SomeTypes (AreIndicesOf (needed p)) b

  abbrev BodyTold : ℕ → Option Code → Type 0
  BodyTold = IsTold is_bodiless (PacksBody (NameRanks (needed p))) (SomeCode b) IsBodyOf b

  abbrev TextTold : ℕ → Units → Type 0
  TextTold = IsTold never PacksText PacksText (◌≡◌ {A = List ℕ}) b

  abbrev ArrayTold : ℕ → List Value → Type 0
  ArrayTold = IsTold is_empty_list (Shortest (SpellsArray (NameRanks (needed p)))) (SomeValues b) (◌≡◌ {A = List Value}) b

  abbrev DataTold : ℕ → ClassWithCodes → Type 0
  DataTold = IsTold has_no_members (PacksData (NameRanks (needed p))) SomeMembers (AreEntriesOf (needed p)) b

  lists_told : AllZip ListTold (list_places b) (list_values (needed p) p)
  lists_told =
      zip_append ListTold (words_of_rows (proto_parameters b) (size_of b 2)) (words_of_rows (λ i. interfaces_off b i) (size_of b 5)) (map params_of (needed p).protos) (map (λ (c : Class). c.interfaces) p)
      (words_zip ListTold (proto_parameters b) (size_of b 2) (map params_of (needed p).protos) (x.protos ∙ sym (length-map (needed p).protos params_of)) (λ i ts lt at.
      let w = map_was params_of (needed p).protos i ts at in
      let r = m.tables.protos i lt in
      let e = one_key (needed p).protos i w.0 (proto_key r.name) w.1 (x.only_proto i r.name r.stands) in
      subst (λ (us : List Descriptor). ListTold (proto_parameters b i) us) (sym (ap params_of e) ∙ w.2)
      (types_are_told b (needed p) framed x.each x.only (proto_parameters b i) r.name.params r.stands.params)))
      (words_zip ListTold (λ i. interfaces_off b i) (size_of b 5) (map (λ (c : Class). c.interfaces) p) (class_count ∙ sym (length-map p (λ (c : Class). c.interfaces))) (λ i ts lt at.
      let w = map_was (λ (c : Class). c.interfaces) p i ts at in
      subst (λ (us : List Descriptor). ListTold (interfaces_off b i) us) w.2
      (types_are_told b (needed p) framed x.each x.only (interfaces_off b i) w.0.interfaces (m.classes.each i w.0 w.1).head.interfaces.types)))

  bodies_told : AllZip BodyTold codes_at (body_values p)
  bodies_told =
      all_bodies_zip BodyTold k.entries p entry_count_is (λ i e c by at.
      zip_weaker (CodeAt b) BodyTold (body_is_told b (needed p) framed x.each x.only) (code_places e) (bodies_of c) (bodies i e c by at))

  -- no text stands at 0
  text_after : (place : ℕ) (t : Units) → At SpellsText b 0x2002 1 place t → place ≢ 0
  text_after place t a e =
      let c = a.section in
      let named = c.named in
      let inside = ((framed.map.each c.entry c.in_map).inside (omega (arith, named))).0 in
      let begins = c.begins in let after = a.after in let l = low in
      omega (arith, inside, begins, after, l, e)

  texts_told : AllZip TextTold (text_places b) (text_values (needed p))
  texts_told =
      words_zip TextTold (string_place b) (size_of b 0) (text_values (needed p)) (x.strings ∙ sym (length-map (needed p).strings first_of)) (λ i t lt at.
      let w = map_was first_of (needed p).strings i t at in
      let r = m.tables.strings i lt in
      let e = one_key (needed p).strings i w.0 (text_key r.name) w.1 (x.only i (OfText r.name) r.stands) in
      subst (λ (u : Units). TextTold (string_place b i) u) (sym (ap first_of e) ∙ w.2)
      (text_is_told b (needed p) framed x.each x.only (string_place b i) r.name (text_after (string_place b i) r.name r.stands.text) r.stands.text))

  arrays_told : AllZip ArrayTold (array_places b) (array_values p)
  arrays_told =
      words_zip ArrayTold (λ i. static_values_off b i) (size_of b 5) (array_values p) (class_count ∙ sym (length-map p (λ (c : Class). c.values))) (λ i vs lt at.
      let w = map_was (λ (c : Class). c.values) p i vs at in
      let r = m.classes.each i w.0 w.1 in
      subst (λ (us : List Value). ArrayTold (static_values_off b i) us) w.2
      (values_are_told b (needed p) framed x.each x.only (static_values_off b i) (length r.entries.statics) w.0.values r.values))

  datas_told : AllZip DataTold (data_places b) (with_code_places p codes_at)
  datas_told =
      words_zip DataTold (λ i. class_data_off b i) (size_of b 5) (with_code_places p codes_at) (class_count ∙ sym (length-sited p codes_at)) (λ i v lt at.
      let w = was_sited p k.entries i v entry_count_is body_count at in
      subst (λ (y : ClassWithCodes). DataTold (class_data_off b i) y) (sym w.is)
      (members_are_told b (needed p) framed x.each x.only (class_data_off b i) w.entries w.class (k.entries_are.each i w.entries w.by) (members i w.entries w.class w.by w.of)))

  -- ---- where the sections begin and end

  second : data_begin b ≤ k.ends.lists
  second = Tiles-le k.data_section.lists.tiled

  third : k.ends.lists ≤ k.ends.codes
  third = Tiles-le k.data_section.codes.tiled

  fourth : k.ends.codes ≤ k.ends.texts
  fourth = Tiles-le k.data_section.texts.tiled

  fifth : k.ends.texts ≤ k.ends.arrays
  fifth = Tiles-le k.data_section.arrays.tiled

  no_gap : data_begin b ≡ data_begin b + gap 4 (data_begin b)
  no_gap = let e = begin_is in omega (arith, e)

  plan : Plan
  plan = record {
    rows = rows_of (needed p) p;
    lists = record { items = length k.data_section.lists.items; begin = data_begin b; end = k.ends.lists };
    codes = record { items = length k.data_section.codes.items; begin = k.ends.lists + gap 4 k.ends.lists; end = k.ends.codes };
    strings = record { items = length k.data_section.texts.items; begin = k.ends.codes; end = k.ends.texts };
    arrays = record { items = length k.data_section.arrays.items; begin = k.ends.texts; end = k.ends.arrays };
    datas = record { items = length k.data_section.datas.items; begin = k.ends.arrays; end = k.ends.datas };
  }

  at : Places
  at = record { lists = list_places b; codes = codes_at; texts = text_places b; arrays = array_places b; datas = data_places b }

  -- ---- the data

  lies : DataLies b (needed p) p plan at
  unfolding plan at
  lies = record {
    lists_begin = begin_is;
    codes_begin = refl;
    strings_begin = refl;
    arrays_begin = refl;
    datas_begin = refl;
    lists = retold is_empty_list (SpellsRanks (needed p)) SomeTypes (AreIndicesOf (needed p)) 4 b 0x1001 (data_begin b) k.ends.lists (list_values (needed p) p) (list_places b)
        lists_told (types_told (needed p) (list_values (needed p) p)) k.data_section.lists (let a = low in omega (arith, a));
    codes = retold is_bodiless (PacksBody (NameRanks (needed p))) (SomeCode b) IsBodyOf 4 b 0x2001 k.ends.lists k.ends.codes (body_values p) codes_at
        bodies_told (λ i j u v c of_i of_j some y z. y ∙ sym z) k.data_section.codes (let a = low in let c = second in omega (arith, a, c));
    strings = retold never PacksText PacksText (◌≡◌ {A = List ℕ}) 1 b 0x2002 k.ends.codes k.ends.texts (text_values (needed p)) (text_places b)
        texts_told (λ i j u v c of_i of_j some y z. y ∙ sym z) k.data_section.texts (let a = low in let c = second in let d = third in omega (arith, a, c, d));
    arrays = retold is_empty_list (Shortest (SpellsArray (NameRanks (needed p)))) (SomeValues b) (◌≡◌ {A = List Value}) 1 b 0x2005 k.ends.texts k.ends.arrays (array_values p) (array_places b)
        arrays_told (λ i j u v c of_i of_j some y z. y ∙ sym z) k.data_section.arrays (let a = low in let c = second in let d = third in let e = fourth in omega (arith, a, c, d, e));
    datas = retold has_no_members (PacksData (NameRanks (needed p))) SomeMembers (AreEntriesOf (needed p)) 1 b 0x2000 k.ends.arrays k.ends.datas (with_code_places p codes_at) (data_places b)
        datas_told (members_told (needed p) p codes_at well) k.data_section.datas (let a = low in let c = second in let d = third in let e = fourth in let f = fifth in omega (arith, a, c, d, e, f));
  }

  once : StandOnce (needed p) p at
  unfolding at
  once = record {
    lists = retold_shared is_empty_list (SpellsRanks (needed p)) SomeTypes (AreIndicesOf (needed p)) 4 b 0x1001 (data_begin b) k.ends.lists (list_values (needed p) p) (list_places b)
        lists_told (types_told (needed p) (list_values (needed p) p)) k.data_section.lists (let a = low in omega (arith, a))
        (λ ts is js y z. zip_one (λ i t. IsAt (needed p).types i (text_key t)) (λ i j t c d. rank_one (needed p) i j (OfDesc t) rising c d) is js ts y z);
    codes = retold_shared is_bodiless (PacksBody (NameRanks (needed p))) (SomeCode b) IsBodyOf 4 b 0x2001 k.ends.lists k.ends.codes (body_values p) codes_at
        bodies_told (λ i j u v c of_i of_j some y z. y ∙ sym z) k.data_section.codes (let a = low in let c = second in omega (arith, a, c)) (λ o c d y z. same_code c d (sym y ∙ z));
    texts = retold_shared never PacksText PacksText (◌≡◌ {A = List ℕ}) 1 b 0x2002 k.ends.codes k.ends.texts (text_values (needed p)) (text_places b)
        texts_told (λ i j u v c of_i of_j some y z. y ∙ sym z) k.data_section.texts (let a = low in let c = second in let d = third in omega (arith, a, c, d)) (λ t u v y z. sym y ∙ z);
    arrays = retold_shared is_empty_list (Shortest (SpellsArray (NameRanks (needed p)))) (SomeValues b) (◌≡◌ {A = List Value}) 1 b 0x2005 k.ends.texts k.ends.arrays (array_values p) (array_places b)
        arrays_told (λ i j u v c of_i of_j some y z. y ∙ sym z) k.data_section.arrays (let a = low in let c = second in let d = third in let e = fourth in omega (arith, a, c, d, e)) (λ t u v y z. sym y ∙ z);
    datas = datas_shared p well codes_at (data_places b);
  }
    where
      same_code : (c d : Code) → Some c ≡ Some d → c ≡ d
      same_code c d e = cc

  -- ---- the tables

  abbrev rows_size : ℕ
  rows_size = names_size b (needed p) k.bytes x m.tables k.tables long + 32 * size_of b 5

  rows_long : length (slice b 112 rows_size) ≡ rows_size
  rows_long = length_slice b 112 rows_size (let l = long in omega (arith, l))

  tables : SpellsTables (needed p) p at (slice b 112 rows_size)
  unfolding at
  tables =
      let n2 = x.protos in
      let l = length-words_of (proto_parameters b) (size_of b 2) in
      let front = take_at (words_of_rows (proto_parameters b) (size_of b 2)) (words_of_rows (λ i. interfaces_off b i) (size_of b 5)) (length (needed p).protos) (l ∙ n2) in
      let back = drop_at (words_of_rows (proto_parameters b) (size_of b 2)) (words_of_rows (λ i. interfaces_off b i) (size_of b 5)) (length (needed p).protos) (l ∙ n2) in
      record {
        names = slice b 112 (names_size b (needed p) k.bytes x m.tables k.tables long);
        classes = slice b (table_end b 5) (32 * size_of b 5);
        whole = slice_more b 112 (names_size b (needed p) k.bytes x m.tables k.tables long) (32 * size_of b 5)
            ∙ ap (λ (at : ℕ). slice b 112 (names_size b (needed p) k.bytes x m.tables k.tables long) ++ slice b at (32 * size_of b 5)) (omega arith);
        name_rows = subst (λ (ls : List ℕ). SpellsRows (needed p) (text_places b) ls (slice b 112 (names_size b (needed p) k.bytes x m.tables k.tables long))) (sym front) (name_rows b (needed p) k.bytes x m.tables k.tables long);
        class_rows = subst (λ (ls : List ℕ). Each (SpellsClassRow (needed p)) (slice b (table_end b 5) (32 * size_of b 5)) (with_places p ls (data_places b) (array_places b))) (sym back)
            (class_rows b (needed p) k.bytes x m.tables k.tables long p (words_of_rows (λ i. interfaces_off b i) (size_of b 5)) (data_places b) (array_places b) class_count
            (λ i c got. (m.classes.each i c got).head.row)
            (λ i lt. word_or (λ i. interfaces_off b i) (size_of b 5) i lt) k.unused.annotations
            (λ i lt. word_or (λ i. class_data_off b i) (size_of b 5) i lt) (λ i lt. word_or (λ i. static_values_off b i) (size_of b 5) i lt));
      }

  -- ---- header and map

  planned : IsPlanned plan
  unfolding plan
  planned = record {
    lists = follows SomeTypes 4 b (tables_end (rows_of (needed p) p)) (data_begin b) k.ends.lists (data_begin b) k.data_section.lists.items k.data_section.lists.tiled (let e = begin_is in omega (arith, e)) no_gap;
    codes = follows (SomeCode b) 4 b k.ends.lists k.ends.lists k.ends.codes (k.ends.lists + gap 4 k.ends.lists) k.data_section.codes.items k.data_section.codes.tiled (omega arith) refl;
    strings = follows PacksText 1 b k.ends.codes k.ends.codes k.ends.texts k.ends.codes k.data_section.texts.items k.data_section.texts.tiled (omega arith) (omega arith);
    arrays = follows (SomeValues b) 1 b k.ends.texts k.ends.texts k.ends.arrays k.ends.texts k.data_section.arrays.items k.data_section.arrays.tiled (omega arith) (omega arith);
    datas = follows SomeMembers 1 b k.ends.arrays k.ends.arrays k.ends.datas k.ends.arrays k.data_section.datas.items k.data_section.datas.tiled (omega arith) (omega arith);
    few_types = let n = x.types in let f = framed.sections.types in omega (arith, n, f);
    few_protos = let n = x.protos in let f = framed.sections.protos in omega (arith, n, f);
  }

  has_rows : HasRows b plan.rows
  unfolding plan
  has_rows = record { strings = x.strings; types = x.types; protos = x.protos; fields = x.fields; methods = x.methods; classes = class_count }

  written : IsWritten b plan (map_place b)
  unfolding plan
  written =
      is_written b plan framed k.tables has_rows k.unused.link k.map planned
      (part_says SomeTypes 4 b 0x1001 (data_begin b) k.ends.lists (data_begin b) (list_places b) k.data_section.lists no_gap)
      (part_says (SomeCode b) 4 b 0x2001 k.ends.lists k.ends.codes (k.ends.lists + gap 4 k.ends.lists) codes_at k.data_section.codes refl)
      (part_says PacksText 1 b 0x2002 k.ends.codes k.ends.texts k.ends.codes (text_places b) k.data_section.texts (omega arith))
      (part_says (SomeValues b) 1 b 0x2005 k.ends.texts k.ends.arrays k.ends.texts (array_places b) k.data_section.arrays (omega arith))
      (part_says SomeMembers 1 b 0x2000 k.ends.arrays k.ends.datas k.ends.arrays (data_places b) k.data_section.datas (omega arith))
      k.data_section.map k.data_section.map_last k.unused.map

  -- ---- how long it is

  sixth : k.ends.arrays ≤ k.ends.datas
  sixth = Tiles-le k.data_section.datas.tiled

  last : k.ends.datas ≤ map_place b
  last = let e = k.data_section.map.there in omega (arith, e)

  within : map_place b ≤ length b
  within = let e = k.data_section.map_last in omega (arith, e)

  short : length b ≤ wide_of (needed p) p
  unfolding plan at
  short =
      let a = second in let c = third in let d = fourth in let e = fifth in let f = sixth in let g = last in let h = within in
      let r1 = laid_room is_empty_list (SpellsRanks (needed p)) 4 wide_list b (data_begin b) k.ends.lists (list_values (needed p) p) (list_places b) (length k.data_section.lists.items) lies.lists (omega (arith, c, d, e, f, g, h))
      (λ ts some at bytes y. list_most (needed p) ts some bytes at y) in
      let r2 = laid_room is_bodiless (PacksBody (NameRanks (needed p))) 4 wide_body b k.ends.lists k.ends.codes (body_values p) codes_at (length k.data_section.codes.items) lies.codes (omega (arith, d, e, f, g, h)) body_most in
      let r3 = laid_room never PacksText 1 wide_text b k.ends.codes k.ends.texts (text_values (needed p)) (text_places b) (length k.data_section.texts.items) lies.strings (omega (arith, e, f, g, h))
      (λ t some at bytes y. (let n = packed_length bytes t y in omega (arith, n))) in
      let r4 = laid_room is_empty_list (Shortest (SpellsArray (NameRanks (needed p)))) 1 wide_array b k.ends.texts k.ends.arrays (array_values p) (array_places b) (length k.data_section.arrays.items) lies.arrays (omega (arith, f, g, h))
      (λ vs some at bytes y. (let n = SpellsArray-most (NameRanks (needed p)) bytes vs y.spelled in omega (arith, n))) in
      let r5 = laid_room has_no_members (PacksData (NameRanks (needed p))) 1 wide_with_codes b k.ends.arrays k.ends.datas (with_code_places p codes_at) (data_places b) (length k.data_section.datas.items) lies.datas (omega (arith, g, h))
      (λ v some at bytes y. (let n = (data_length (needed p) bytes v y).1 in omega (arith, n))) in
      let w = room_of_sited p codes_at in
      let parts = by_parts (needed p) p in
      let begins = begin_is in
      let there = k.data_section.map.there in
      let ends = written.ends in
      let few = length-filter has_items (spans_of plan (map_place b) (length b)) in
      let all = count_by-le-length has_items (spans_of plan (map_place b) (length b)) in
      omega (arith, r1, r2, r3, r4, r5, w, parts, begins, there, ends, few, all)
    where
      body_most : (o : Option Code) → is_bodiless o ≡ false → (at : ℕ) (bytes : List ℕ) → PacksBody (NameRanks (needed p)) bytes o → gap 4 at + length bytes ≤ wide_body o
      body_most None some at bytes y = absurd y
      body_most (Some c) some at bytes y = let n = (packed_room (NameRanks (needed p)) c bytes y).1 in let g = gap_four at in omega (arith, n, g)

  -- ---- all of it

  pub assembled_of : Assembled b (needed p) p
  unfolding plan at
  assembled_of = record {
    plan = plan;
    map = map_place b;
    at = at;
    written = written;
    next = k.data_section.map;
    counts = refl;
    lies = lies;
    once = once;
    rows = slice b 112 rows_size;
    rows_are = ap (λ (n : ℕ). slice b 112 n) rows_long;
    tables = tables;
    bytes = k.bytes;
    short = short;
  }

-- The rows of class_defs of an assembled file spell the classes of its program.
use Rattle.std.proofs.Common.{◌≡◌, ℕ, ◌+◌, ◌<◌, List, ◌++◌, length, take, get_or, refl, sym, ap, ◌∙◌, subst, arith, Some, option_map, slice_get}
use Rattle.std.proofs.lemmas.List.{length-map}
use Rattle.std.proofs.lemmas.Option.{slice_get-map}
use Rattle.std.specs.List.{AllZip}
use Rattle.file_put.specs.inner.Assembled.{Assembled}
use Rattle.file_put.proofs.FitsLaws.{room_of}
use Rattle.file_put.proofs.ReadyLaws.{class_can}
use Rattle.file_classes.specs.ClassData.{EntriesAt}
use Rattle.file_classes.specs.ClassRows.{InOrder, class_word}
use Rattle.file_classes.specs.Classes.{CodeAt, SpellsClass, StaticsAt}
use Rattle.file_classes.proofs.EntryLaws.{entry_at}
use Rattle.file_put.specs.inner.ClassDefs.{TypeRanks}
use Rattle.dex_container.specs.Layout.{size_of}
use Rattle.file_read.specs.Means.{Means}
use Rattle.file_layout.specs.inner.Sections.{is_empty_list}
use Rattle.file_layout.specs.inner.Tiles.{Refers}
use Rattle.file_layout.proofs.FrameLaws.{arrays_part, codes_part, datas_part}
use Rattle.file_layout.proofs.StandLaws.{zip_at}
use Rattle.file_limits.specs.Limits.{Fits}
use Rattle.file_limits.specs.Wide.{bodies_in, bodies_of}
use Rattle.file_limits.specs.inner.Wide.{array_values, body_values}
use Rattle.tables_names.specs.Closure.{NameRanks}
use Rattle.tables_names.specs.Needed.{needed}
use Rattle.program_types.specs.Content.{Class, Name, Program}
use Rattle.program_rules.specs.WellFormed.{WellFormed}
use Rattle.file_put.specs.inner.Codes.{is_bodiless}
use Rattle.file_put.specs.Data.{code_offs}
use Rattle.file_put.specs.inner.Data.{has_no_members, method_count, with_code_places}
use Rattle.file_put.specs.inner.Named.{BodyCanBePut}
use Rattle.file_put.proofs.SitedLaws.{count_of_bodies, rest_after}
use Rattle.tables_rows.specs.Names.{AreRows}
use Rattle.tables_rows.specs.Stands.{NameStands}
use Rattle.file_write.proofs.Bodies.{body_at, codes_are}
use Rattle.file_write.proofs.Datas.{DataStands, data_at}
use Rattle.file_write.proofs.Heads.{interfaces_are, row_is}
use Rattle.file_write.proofs.Lists.{own_bodies, own_sited, sited_get, zip_first, zip_kept, zip_second}
use Rattle.file_write.proofs.Orders.{in_order}
use Rattle.file_write.proofs.Statics.{statics_at}
use Rattle.file_write.proofs.NameLaws.{class_list, list_at, name_stands, ranks_at, ranks_of, valid_of}
use Rattle.file_write.proofs.RowLaws.{ClassRowIs, class_count, class_row, is_framed}
use Rattle.file_write.proofs.TableLaws.{tables_hold}
use Rattle.dex_base.proofs.ListFacts.{zip_length}

module _ (b : List ℕ) (p : Program) (a : Assembled b (needed p) p) (w : WellFormed p) (fits : Fits p) where
  pub stand : (i : ℕ) (which : Name) → NameRanks (needed p) i which → NameStands b i which
  stand = name_stands b (needed p) p a (valid_of p w)

  pub row : (i : ℕ) (c : Class) → slice_get p i ≡ Some c → ClassRowIs b (needed p) (get_or a.at.lists (length (needed p).protos + i) 0) (get_or a.at.datas i 0) (get_or a.at.arrays i 0) i c
  row = class_row b (needed p) p a

  -- ---- static values

  values_stand : (i : ℕ) (c : Class) → slice_get p i ≡ Some c → StaticsAt b (get_or a.at.arrays i 0) (length c.statics) c.values
  values_stand i c at =
      let k = (w.rules i c at).values in
      statics_at b (needed p) stand a.plan.arrays (array_values p) a.at.arrays (arrays_part b a.plan a.map a.written) a.lies.arrays (get_or a.at.arrays i 0) (length c.statics) c.values k.few k.deep
      (zip_at (Refers is_empty_list a.lies.arrays.items) a.at.arrays (array_values p) i c.values a.lies.arrays.each (slice_get-map (λ (d : Class). d.values) p i ∙ ap (option_map (λ (d : Class). d.values)) at))

  -- ---- bodies and class data

  -- the places of the bodies of class i
  abbrev own : ℕ → Class → List ℕ
  own i c = take (method_count c) (rest_after p a.at.codes i)

  refer_to_bodies : (i : ℕ) (c : Class) → slice_get p i ≡ Some c → AllZip (Refers is_bodiless a.lies.codes.items) (own i c) (bodies_of c)
  refer_to_bodies i c at = own_bodies (Refers is_bodiless a.lies.codes.items) p a.at.codes i c at a.lies.codes.each

  bodies_stand : (i : ℕ) (c : Class) → slice_get p i ≡ Some c → AllZip (CodeAt b) (own i c) (bodies_of c)
  bodies_stand i c at =
      zip_kept (Refers is_bodiless a.lies.codes.items) (CodeAt b) (BodyCanBePut (needed p))
      (λ place o k. body_at b (needed p) stand a.plan.codes a.plan.lists.end a.lies.codes_begin (body_values p) a.at.codes (codes_part b a.plan a.map a.written) a.lies.codes place o k)
      (own i c) (bodies_of c) (class_can (needed p) p i c refl w fits (room_of (needed p) p refl fits) at) (refer_to_bodies i c at)

  pub data_stands : (i : ℕ) (c : Class) → slice_get p i ≡ Some c → DataStands b (get_or a.at.datas i 0) (own_sited c (rest_after p a.at.codes i))
  data_stands i c at =
      data_at b (needed p) stand a.plan.datas (with_code_places p a.at.codes) a.at.datas (datas_part b a.plan a.map a.written) a.lies.datas (get_or a.at.datas i 0) (own_sited c (rest_after p a.at.codes i))
      (zip_length (Refers is_bodiless a.lies.codes.items) (own i c) (bodies_of c) (refer_to_bodies i c at) ∙ count_of_bodies c)
      (zip_at (Refers has_no_members a.lies.datas.items) a.at.datas (with_code_places p a.at.codes) i (own_sited c (rest_after p a.at.codes i)) a.lies.datas.each (sited_get p a.at.codes i c at))

  -- the bodies at the places of the entries
  entry_bodies : (i : ℕ) (c : Class) (at : slice_get p i ≡ Some c) (d : DataStands b (get_or a.at.datas i 0) (own_sited c (rest_after p a.at.codes i)))
      → AllZip (CodeAt b) (code_offs d.entries.directs ++ code_offs d.entries.virtuals) (bodies_in c.directs ++ bodies_in c.virtuals)
  entry_bodies i c at d = subst (λ (xs : List ℕ). AllZip (CodeAt b) xs (bodies_of c)) (sym d.codes) (bodies_stand i c at)

  same_count : (i : ℕ) (c : Class) (d : DataStands b (get_or a.at.datas i 0) (own_sited c (rest_after p a.at.codes i))) → length (code_offs d.entries.directs) ≡ length (bodies_in c.directs)
  same_count i c d =
      let n = d.members.directs.count in
      let x = length-map d.entries.directs (λ y. y.1.1) in
      let y = length-map c.directs (λ m. m.code) in
      omega (arith, n, x, y)

  -- ---- classes

  pub class_spelled : (i : ℕ) (c : Class) → slice_get p i ≡ Some c → SpellsClass b i c
  class_spelled i c at =
      let r = row i c at in
      let list : ℕ = get_or a.at.lists (length (needed p).protos + i) 0 in
      let datum : ℕ = get_or a.at.datas i 0 in
      let array : ℕ = get_or a.at.arrays i 0 in
      let d = data_stands i c at in
      let k = w.rules i c at in
      let z = entry_bodies i c at d in
      let n = same_count i c d in
      let most : length c.statics ≡ length d.entries.statics = d.members.statics.count in
      record {
        entries = d.entries;
        head = record {
          row = row_is b (needed p) stand list datum array i c r k.names;
          interfaces = interfaces_are b (needed p) stand list datum array i c r k.names k.order.distinct (list_at b (needed p) p a (valid_of p w) (length (needed p).protos + i) c.interfaces (class_list b (needed p) p a (valid_of p w) i c at));
          class_data = subst (λ (x : ℕ). EntriesAt b x d.entries) (sym r.class_data) d.there;
          members = d.members;
        };
        values = subst (λ (x : ℕ). StaticsAt b x (length d.entries.statics) c.values) (sym r.values) (subst (λ (m : ℕ). StaticsAt b (get_or a.at.arrays i 0) m c.values) most (values_stand i c at));
        directs = codes_are b d.entries.directs c.directs (zip_first (CodeAt b) (code_offs d.entries.directs) (code_offs d.entries.virtuals) (bodies_in c.directs) (bodies_in c.virtuals) n z);
        virtuals = codes_are b d.entries.virtuals c.virtuals (zip_second (CodeAt b) (code_offs d.entries.directs) (code_offs d.entries.virtuals) (bodies_in c.directs) (bodies_in c.virtuals) n z);
      }

  pub classes_stand : AreRows SpellsClass b 5 p
  classes_stand = record { count = sym (class_count b (needed p) p a); each = class_spelled }

  -- ---- their order

  own_type : (j : ℕ) (d : Class) → slice_get p j ≡ Some d → TypeRanks (needed p) (class_word b j 0) d.ty
  own_type j d at = (row j d at).class_is

  pub classes_in_order : (i : ℕ) → i < size_of b 5 → InOrder b i
  classes_in_order i lt =
      let n = class_count b (needed p) p a in
      let c = entry_at p i (omega (arith, lt, n)) in
      let xs = ranks_of b (needed p) (get_or a.at.lists (length (needed p).protos + i) 0) c.0.interfaces
      (ranks_at b (needed p) p a (valid_of p w) (length (needed p).protos + i) c.0.interfaces (class_list b (needed p) p a (valid_of p w) i c.0 c.1)) in
      in_order b (needed p) p (class_count b (needed p) p a) own_type (is_framed b (needed p) p a) (get_or a.at.lists (length (needed p).protos + i) 0) (get_or a.at.datas i 0) (get_or a.at.arrays i 0) i c.0 lt c.1 (row i c.0 c.1) xs.0 xs.1 xs.2 (w.rules i c.0 c.1).order

-- ---- the program

pub means : (b : List ℕ) (p : Program) → WellFormed p → Fits p → Assembled b (needed p) p → Means b p
means b p w fits a = record {
  framed = is_framed b (needed p) p a;
  tables = tables_hold b p w a;
  classes = classes_stand b p a w fits;
  order = classes_in_order b p a w fits;
}

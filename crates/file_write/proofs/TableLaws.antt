-- The tables of an assembled file hold, and they hold exactly the needed names.
use Rattle.std.proofs.Common.{◌≡◌, ℕ, ◌<◌, List, [], ◌∷◌, get_or, length, refl, sym, ap, ◌∙◌, subst, arith, Some}
use Rattle.std.proofs.lemmas.Option.{slice_get-get_or}
use Rattle.std.specs.Cmp.{nat_cmp_is}
use Rattle.std.specs.Cmp.Lexicographic.{slice_cmp}
use Rattle.std.specs.Ordering.{nat_cmp}
use Rattle.std.specs.declared.cmp.Ordering.TheVariants.{Less}
use Rattle.dex_container.specs.Frame.{IsFramed}
use Rattle.dex_container.specs.Layout.{size_of}
use Rattle.dex_container.specs.Where.{AtOrNone}
use Rattle.tables_names.specs.Closure.{AreRising, Five, NameRanks}
use Rattle.tables_names.specs.inner.Indices.{AreIndices, IsFieldRow, IsMethodRow, TablesRise}
use Rattle.tables_names.specs.Needed.{needed}
use Rattle.tables_names.specs.Rank.{IsAt}
use Rattle.tables_names.proofs.IndexLemmas.{rising_tables_rise}
use Rattle.tables_names.proofs.NeededLemmas.{needed_is_least}
use Rattle.tables_names.proofs.RowLemmas.{keys_compare_as_indices}
use Rattle.program_types.specs.Content.{Descriptor, FieldRef, MethodRef, Name, OfDesc, OfField, OfMethod, OfText, Program, Proto, Units}
use Rattle.program_types.specs.Key.{Key, field_ref_key, method_ref_key, proto_key, text_key}
use Rattle.program_types.specs.KeyLaws.{ordering_then-equal}
use Rattle.program_rules.specs.WellFormed.{WellFormed}
use Rattle.file_put.specs.inner.Lists.{SpellsRanks}
use Rattle.tables_rows.specs.RowFields.{member_class, member_indices, member_kind, member_name, proto_parameters, proto_return, type_string}
use Rattle.tables_rows.specs.Sorted.{MemberIsBelow, ProtoIsBelow, RowHolds, RowsHold, StringIsBelow, TablesHold, TypeIsBelow}
use Rattle.tables_rows.specs.Stands.{FieldStands, MethodStands, NameStands, ProtoStands, SpellsIndexes, StringStands, TypeStands}
use Rattle.tables_rows.proofs.NameLaws.{field_one, method_one, proto_one}
use Rattle.tables_rows.proofs.RowReading.{string_one}
use Rattle.tables_rows.proofs.TypeLists.{protos_below, type_one}
use Rattle.file_put.specs.inner.Assembled.{Assembled}
use Rattle.file_write.specs.Least.{HoldsExactly}
use Rattle.file_write.proofs.NameLaws.{field_stands, method_stands, name_stands, proto_list, proto_stands, ranks_at, ranks_of, string_stands, type_stands, valid_of}
use Rattle.file_write.proofs.RowLaws.{field_count, field_row, is_framed, method_count, method_row, proto_count, proto_row, string_count, type_count, type_row}
use Rattle.file_write.proofs.ValidNames.{AreValid, IsFieldKey, IsMethodKey, IsProtoKey, IsTextKey, IsTypeKey, Members, member_is}

-- a row of a table has the name of its key, where each key is that of a name
name_at : {V : Type 0} (key : V → Key) (IsKey : Key → Type 0) → ((k : Key) → IsKey k → (v : V) × (k ≡ key v)) → (keys : List Key) (count i : ℕ) → Members IsKey keys → count ≡ length keys → i < count → (v : V) × IsAt keys i (key v)
name_at key IsKey named keys count i valid n h =
    let e = slice_get-get_or keys i [] (omega (arith, h, n)) in
    let v = named (get_or keys i []) (member_is IsKey keys i (get_or keys i []) valid e) in
    (v.0, e ∙ ap Some v.1)

module _ (b : List ℕ) (s : Five) (p : Program) (a : Assembled b s p) (valid : AreValid s) (rising : AreRising s) where
  is_framed_here : IsFramed b
  is_framed_here = is_framed b s p a

  -- ---- each row denotes a name

  string_at : (i : ℕ) → i < size_of b 0 → (t : Units) × IsAt s.strings i (text_key t)
  string_at i h = name_at text_key IsTextKey (λ k x. (x.0, x.1)) s.strings _ i valid.strings (string_count b s p a) h

  type_at : (i : ℕ) → i < size_of b 1 → (t : Descriptor) × IsAt s.types i (text_key t)
  type_at i h = name_at text_key IsTypeKey (λ k x. (x.0, x.1)) s.types _ i valid.types (type_count b s p a) h

  proto_at : (i : ℕ) → i < size_of b 2 → (q : Proto) × IsAt s.protos i (proto_key q)
  proto_at i h = name_at proto_key IsProtoKey (λ k x. (x.0, x.1)) s.protos _ i valid.protos (proto_count b s p a) h

  field_at : (i : ℕ) → i < size_of b 3 → (f : FieldRef) × IsAt s.fields i (field_ref_key f)
  field_at i h = name_at field_ref_key IsFieldKey (λ k x. (x.0, x.1)) s.fields _ i valid.fields (field_count b s p a) h

  method_at : (i : ℕ) → i < size_of b 4 → (m : MethodRef) × IsAt s.methods i (method_ref_key m)
  method_at i h = name_at method_ref_key IsMethodKey (λ k x. (x.0, x.1)) s.methods _ i valid.methods (method_count b s p a) h

  -- ---- the indices by which rows are ordered

  proto_indices : (i : ℕ) (q : Proto) → IsAt s.protos i (proto_key q) → (xs : List ℕ) × AtOrNone SpellsIndexes b 0x1001 4 (proto_parameters b i) xs × AreIndices s.types (proto_return b i ∷ xs) (q.ret ∷ q.params)
  proto_indices i q e =
      let r = proto_row b s p a i q e in
      let x = ranks_of b s (proto_parameters b i) q.params
      (subst (λ (j : ℕ). AtOrNone (SpellsRanks s) b 0x1001 4 j q.params) (sym r.place) (ranks_at b s p a valid i q.params (proto_list b s p a valid i q e))) in
      (x.0, x.1, (r.ret_is, x.2))

  field_indices : (i : ℕ) (f : FieldRef) → IsAt s.fields i (field_ref_key f) → IsFieldRow s f (member_indices b 3 i)
  field_indices i f e = let r = field_row b s p a i f e in record {
    class = member_class b 3 i;
    name = member_name b 3 i;
    ty = member_kind b 3 i;
    row_is = refl;
    class_is = r.class_is;
    name_is = r.name_is;
    ty_is = r.ty_is;
  }

  method_indices : (i : ℕ) (m : MethodRef) → IsAt s.methods i (method_ref_key m) → IsMethodRow s m (member_indices b 4 i)
  method_indices i m e = let r = method_row b s p a i m e in record {
    class = member_class b 4 i;
    name = member_name b 4 i;
    proto = member_kind b 4 i;
    row_is = refl;
    class_is = r.class_is;
    name_is = r.name_is;
    proto_is = r.proto_is;
  }

  -- ---- rows rise

  rise : TablesRise s
  rise = rising_tables_rise s rising

  strings_below : (j i : ℕ) (x y : Units) → j < i → IsAt s.strings j (text_key x) → IsAt s.strings i (text_key y) → StringIsBelow b j i
  strings_below j i x y lt ex ey u v su sv =
      let eu : u ≡ x = string_one b j u x is_framed_here su (string_stands b s p a valid j x ex) in
      let ev : v ≡ y = string_one b i v y is_framed_here sv (string_stands b s p a valid i y ey) in
      let less : slice_cmp nat_cmp x y ≡ Less =
      ordering_then-equal (slice_cmp nat_cmp x y) ∙ keys_compare_as_indices s.strings j i (text_key x) (text_key y) rising.strings ex ey ∙ sym (nat_cmp_is j i Less lt) in
      rw (eu, ev) less

  types_below : (j i : ℕ) (t u : Descriptor) → j < i → IsAt s.types j (text_key t) → IsAt s.types i (text_key u) → TypeIsBelow b j i
  types_below j i t u lt et eu = rise.types j i (type_string b j) (type_string b i) t u lt et eu (type_row b s p a j t et) (type_row b s p a i u eu)

  protos_are_below : (j i : ℕ) (q r : Proto) → j < i → IsAt s.protos j (proto_key q) → IsAt s.protos i (proto_key r) → ProtoIsBelow b j i
  protos_are_below j i q r lt eq er =
      let x = proto_indices j q eq in
      let y = proto_indices i r er in
      protos_below b is_framed_here j i x.0 y.0 x.1 y.1 (rise.protos j i q r (proto_return b j ∷ x.0) (proto_return b i ∷ y.0) lt eq er x.2 y.2)

  -- a table whose rows denote names in this order
  rows_hold : {V : Type 0} (key : V → Key) (keys : List Key) (Stands : List ℕ → ℕ → V → Type 0) (Below : List ℕ → ℕ → ℕ → Type 0) (n : ℕ) → ((i : ℕ) → i < n → (v : V) × IsAt keys i (key v))
      → ((i : ℕ) (v : V) → IsAt keys i (key v) → Stands b i v) → ((j i : ℕ) (u v : V) → j < i → IsAt keys j (key u) → IsAt keys i (key v) → Below b j i) → RowsHold (RowHolds Stands Below) b n
  rows_hold key keys Stands Below n name stands below i h =
      let x = name i h in
      record { name = x.0; stands = stands i x.0 x.1; rises = λ j e. let y = name j (omega (arith, e, h)) in below j i y.0 x.0 (omega (arith, e)) y.1 x.1 }

  pub hold : TablesHold b
  hold = record {
    strings = rows_hold text_key s.strings StringStands StringIsBelow (size_of b 0) string_at (string_stands b s p a valid) strings_below;
    types = rows_hold text_key s.types TypeStands TypeIsBelow (size_of b 1) type_at (type_stands b s p a valid) types_below;
    protos = rows_hold proto_key s.protos ProtoStands ProtoIsBelow (size_of b 2) proto_at (proto_stands b s p a valid) protos_are_below;
    fields = rows_hold field_ref_key s.fields FieldStands (MemberIsBelow 3) (size_of b 3) field_at (field_stands b s p a valid)
        (λ j i f g lt ef eg. rise.fields j i f g (member_indices b 3 j) (member_indices b 3 i) lt ef eg (field_indices j f ef) (field_indices i g eg));
    methods = rows_hold method_ref_key s.methods MethodStands (MemberIsBelow 4) (size_of b 4) method_at (method_stands b s p a valid)
        (λ j i m n lt em en. rise.methods j i m n (member_indices b 4 j) (member_indices b 4 i) lt em en (method_indices j m em) (method_indices i n en));
  }

  -- ---- and they are these names

  name_ranks : (i : ℕ) (n : Name) → NameStands b i n → NameRanks s i n
  name_ranks i (OfText t) h =
      let x = string_at i h.row in
      subst (λ (u : Units). IsAt s.strings i (text_key u)) (string_one b i x.0 t is_framed_here (string_stands b s p a valid i x.0 x.1) h) x.1
  name_ranks i (OfDesc t) h =
      let x = type_at i h.row in
      subst (λ (u : Units). IsAt s.types i (text_key u)) (type_one b i x.0 t is_framed_here (type_stands b s p a valid i x.0 x.1) h) x.1
  name_ranks i (OfField f) h =
      let x = field_at i h.row in
      subst (λ (g : FieldRef). IsAt s.fields i (field_ref_key g)) (field_one b is_framed_here i x.0 f (field_stands b s p a valid i x.0 x.1) h) x.1
  name_ranks i (OfMethod m) h =
      let x = method_at i h.row in
      subst (λ (n : MethodRef). IsAt s.methods i (method_ref_key n)) (method_one b is_framed_here i x.0 m (method_stands b s p a valid i x.0 x.1) h) x.1

  proto_ranks : (i : ℕ) (q : Proto) → ProtoStands b i q → IsAt s.protos i (proto_key q)
  proto_ranks i q h =
      let x = proto_at i h.row in
      subst (λ (r : Proto). IsAt s.protos i (proto_key r)) (proto_one b is_framed_here i x.0 q (proto_stands b s p a valid i x.0 x.1) h) x.1

  pub exactly : HoldsExactly b s
  exactly = record {
    strings = string_count b s p a;
    types = type_count b s p a;
    protos = proto_count b s p a;
    fields = field_count b s p a;
    methods = method_count b s p a;
    each = name_stands b s p a valid;
    only = name_ranks;
    each_proto = proto_stands b s p a valid;
    only_proto = proto_ranks;
  }

-- ---- what is assembled of a well-formed program

pub tables_hold : (b : List ℕ) (p : Program) → WellFormed p → Assembled b (needed p) p → TablesHold b
tables_hold b p w a = hold b (needed p) p a (valid_of p w) (needed_is_least p).0

pub holds_exactly : (b : List ℕ) (p : Program) → WellFormed p → Assembled b (needed p) p → HoldsExactly b (needed p)
holds_exactly b p w a = exactly b (needed p) p a (valid_of p w) (needed_is_least p).0

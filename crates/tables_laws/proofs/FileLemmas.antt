-- The names of a file's tables: they rise, they are closed under parts, and they hold what a program of the file needs.
use Rattle.std.proofs.Common.{◌≡◌, ℕ, zero, suc, ◌+◌, ◌<◌, ◌≤◌, true, List, [], ◌∷◌, map, length, Some, option_map, refl, sym, ap, ◌∙◌, subst, arith, slice_get, nat_cmp, ◌⊎◌, inl, inr}
use Rattle.std.proofs.lemmas.List.{length-map}
use Rattle.std.proofs.lemmas.Option.{slice_get-map, slice_get_within}
use Rattle.std.proofs.lemmas.Map.Keys.{IsDistinct-from_sorted}
use Rattle.std.proofs.lemmas.Map.Made.{length-le_from_is_member}
use Rattle.std.specs.Ordering.{ordering_then}
use Rattle.std.specs.declared.cmp.Ordering.TheVariants.{Less, Equal}
use Rattle.std.specs.Cmp.{nat_cmp_is, eq_by_cmp_equiv}
use Rattle.std.specs.Cmp.Lexicographic.{slice_cmp}
use Rattle.std.specs.List.{AllByRecursion, AllZip}
use Rattle.std.specs.List.Sorted.{IsStrictlySortedBy}
use Rattle.dex_container.specs.Frame.{IsFramed}
use Rattle.dex_container.specs.Layout.{size_of}
use Rattle.program_types.specs.Content.{Units, Proto, FieldRef, MethodRef, Name, OfText, OfDesc, OfField, OfMethod}
use Rattle.program_types.specs.Key.{Key, key_cmp, units_cmp, text_key, proto_key, field_ref_key, method_ref_key}
use Rattle.program_types.specs.KeyLaws.{ordering_then-equal}
use Rattle.program_types.specs.inner.KeyLaws.{key_cmp-total}
use Rattle.program_types.specs.Shorty.{shorty}
use Rattle.tables_names.specs.Rank.{Rising, IsAt, IsSubset, is_member, add_all}
use Rattle.tables_names.specs.Closure.{IsPart, proto_closure, AreRising}
use Rattle.tables_names.specs.inner.Closure.{Holds}
use Rattle.tables_names.specs.inner.Indices.{AreIndices}
use Rattle.tables_rows.specs.Names.{Names, AreRows, AreNamesOf}
use Rattle.program_types.specs.Mentions.{mentions}
use Rattle.tables_names.specs.Needed.{needed}
use Rattle.tables_rows.specs.RowFields.{type_string, proto_shorty, proto_return, proto_parameters, member_class, member_kind, member_name}
use Rattle.tables_rows.specs.Sorted.{RowHolds, RowsHold, StringIsBelow, TypeIsBelow, ProtoIsBelow, MemberIsBelow, TablesHold}
use Rattle.tables_rows.specs.Stands.{StringStands, TypeStands, ProtoStands, FieldStands, MethodStands, NameStands}
use Rattle.tables_rows.proofs.NameLaws.{proto_one, stands_names, row_is}
use Rattle.tables_rows.proofs.TypeLists.{indexes_of, below_protos}
use Rattle.tables_names.proofs.IndexLemmas.{units_by_index, texts_by_index}
use Rattle.tables_names.proofs.RowLemmas.{keys_compare_as_indices, index_is_at_least_rank}
use Rattle.tables_names.proofs.PlaceLemmas.{member_at, member_index, one_place}
use Rattle.tables_names.proofs.NeededLemmas.{needed_is_least, holds_part}
use Rattle.tables_names.proofs.SubsetLemmas as sub
use Rattle.tables_rows.specs.Stands.{HasRow}
use Rattle.tables_laws.specs.inner.FileNames.{five_of, TablesHaveNames, NamesRise, NamesAreClosed, FilesHoldNeeded, FilesAreNoShorter, NeededHasRows}
use Rattle.dex_base.proofs.ListFacts.{all_weaker}

-- ---- rows and their keys

-- the key of a row
pub key_at : {V : Type 0} (key : V → Key) (names : List V) (i : ℕ) (v : V) → slice_get names i ≡ Some v → IsAt (map key names) i (key v)
key_at key names i v e = slice_get-map key names i ∙ ap (option_map key) e

-- the row of a key
pub row_of : {V : Type 0} (key : V → Key) (names : List V) (i : ℕ) (k : Key) → IsAt (map key names) i k → (v : V) × (slice_get names i ≡ Some v) × (k ≡ key v)
row_of key [] i k e = absurd cc
row_of key (v ∷ vs) zero k e = let same : k ≡ key v = cc in (v, refl, same)
row_of key (v ∷ vs) (suc i) k e = row_of key vs i k e

-- the row of a member
member_row : {V : Type 0} (key : V → Key) (names : List V) (k : Key) → is_member (map key names) k ≡ true → (i : ℕ) × (v : V) × (slice_get names i ≡ Some v) × (k ≡ key v)
member_row key names k h = let at = member_index (map key names) k h in let row = row_of key names at.0 k at.1 in (at.0, row.0, row.1, row.2)

-- ---- the names of a file, by index

module _ (b : List ℕ) (names : Names) (framed : IsFramed b) (are : AreNamesOf b names) where
  string_at : (i : ℕ) (s : Units) → StringStands b i s → IsAt (five_of names).strings i (text_key s)
  string_at i s st = key_at text_key names.strings i s (stands_names b names i (OfText s) framed are st)

  type_at : (i : ℕ) (t : Units) → TypeStands b i t → IsAt (five_of names).types i (text_key t)
  type_at i t st = key_at text_key names.types i t (stands_names b names i (OfDesc t) framed are st)

  proto_at : (i : ℕ) (p : Proto) → ProtoStands b i p → IsAt (five_of names).protos i (proto_key p)
  proto_at i p st = key_at proto_key names.protos i p (row_is ProtoStands b 2 i names.protos p (λ q at. proto_one b framed i q p at st) are.protos st.row)

  field_at : (i : ℕ) (f : FieldRef) → FieldStands b i f → IsAt (five_of names).fields i (field_ref_key f)
  field_at i f st = key_at field_ref_key names.fields i f (stands_names b names i (OfField f) framed are st)

  method_at : (i : ℕ) (m : MethodRef) → MethodStands b i m → IsAt (five_of names).methods i (method_ref_key m)
  method_at i m st = key_at method_ref_key names.methods i m (stands_names b names i (OfMethod m) framed are st)

  types_at : (indexes : List ℕ) (ts : List Units) → AllZip (TypeStands b) indexes ts → AreIndices (five_of names).types indexes ts
  types_at [] [] z = tt
  types_at [] (t ∷ ts) z = z
  types_at (i ∷ is) [] z = z
  types_at (i ∷ is) (t ∷ ts) z = (type_at i t z.0, types_at is ts z.1)

-- ---- they rise

rising_rows : {V : Type 0} (key : V → Key) (names : List V) → ((i : ℕ) (v w : V) → slice_get names i ≡ Some v → slice_get names (suc i) ≡ Some w → key_cmp (key v) (key w) ≡ Less) → Rising (map key names)
unfolding IsStrictlySortedBy
rising_rows key [] each = tt
rising_rows key (v ∷ []) each = (tt, tt)
rising_rows key (v ∷ w ∷ vs) each =
    let first = each 0 v w refl refl in
    let rest = rising_rows key (w ∷ vs) (λ i. each (suc i)) in
    ((first, all_weaker (λ y. key_cmp (key w) y ≡ Less) (λ y. key_cmp (key v) y ≡ Less) (λ y after. key_cmp-total.trans (key v) (key w) y first after) (map key vs) rest.0), rest)

-- rows that each are above the row before
table_rises : {V : Type 0} (key : V → Key) (S : List ℕ → ℕ → V → Type 0) (Below : List ℕ → ℕ → ℕ → Type 0) (b : List ℕ) (k : ℕ) (names : List V) → AreRows S b k names → RowsHold (RowHolds S Below) b (size_of b k) → ((j i : ℕ) (v w : V) → S b j v → S b i w → Below b j i → key_cmp (key v) (key w) ≡ Less) → Rising (map key names)
table_rises key S Below b k names rows hold alike =
    rising_rows key names (λ j v w at_j at_i.
    let within = slice_get_within names (suc j) w at_i in
    let count = rows.count in
    alike j (suc j) v w (rows.each j v at_j) (rows.each (suc j) w at_i) ((hold (suc j) (omega (arith, within, count))).rises j (omega arith)))

pub names_rise : NamesRise
names_rise b names framed hold are =
    let strings : Rising (map text_key names.strings) =
    table_rises text_key StringStands StringIsBelow b 0 names.strings are.strings hold.strings (λ j i s t at_j at_i below. sym (ordering_then-equal (units_cmp s t)) ∙ below s t at_j at_i) in
    let types : Rising (map text_key names.types) =
    table_rises text_key TypeStands TypeIsBelow b 1 names.types are.types hold.types (λ j i s t at_j at_i below.
    keys_compare_as_indices (map text_key names.strings) (type_string b j) (type_string b i) (text_key s) (text_key t) strings (string_at b names framed are (type_string b j) s at_j.string) (string_at b names framed are (type_string b i) t at_i.string)
    ∙ sym (nat_cmp_is (type_string b j) (type_string b i) Less below)) in
    let protos : Rising (map proto_key names.protos) =
    table_rises proto_key ProtoStands ProtoIsBelow b 2 names.protos are.protos hold.protos (λ j i p q at_j at_i below.
    let x = indexes_of b (proto_parameters b j) p.params at_j.params in
    let y = indexes_of b (proto_parameters b i) q.params at_i.params in
    texts_by_index (map text_key names.types) types (proto_return b j ∷ x.indexes) (proto_return b i ∷ y.indexes) (proto_key p) (proto_key q)
    (type_at b names framed are (proto_return b j) p.ret at_j.ret, types_at b names framed are x.indexes p.params x.named)
    (type_at b names framed are (proto_return b i) q.ret at_i.ret, types_at b names framed are y.indexes q.params y.named)
    ∙ below_protos b framed j i x.indexes y.indexes x.spelled y.spelled below) in
    let member : (k j i : ℕ) (v w m n : Units) → TypeStands b (member_class b k j) v → TypeStands b (member_class b k i) w → StringStands b (member_name b k j) m → StringStands b (member_name b k i) n → (units_cmp v w ≡ nat_cmp (member_class b k j) (member_class b k i)) × (units_cmp m n ≡ nat_cmp (member_name b k j) (member_name b k i)) =
    λ k j i v w m n c d e f. (
      units_by_index (map text_key names.types) (member_class b k j) (member_class b k i) v w types (type_at b names framed are (member_class b k j) v c) (type_at b names framed are (member_class b k i) w d),
      units_by_index (map text_key names.strings) (member_name b k j) (member_name b k i) m n strings (string_at b names framed are (member_name b k j) m e) (string_at b names framed are (member_name b k i) n f),
    ) in
    record {
      strings = strings;
      types = types;
      protos = protos;
      fields = table_rises field_ref_key FieldStands (MemberIsBelow 3) b 3 names.fields are.fields hold.fields (λ j i f g at_j at_i below.
          let front = member 3 j i f.class g.class f.name g.name at_j.class at_i.class at_j.name at_i.name in
          let ty = units_by_index (map text_key names.types) (member_kind b 3 j) (member_kind b 3 i) f.ty g.ty types (type_at b names framed are (member_kind b 3 j) f.ty at_j.ty) (type_at b names framed are (member_kind b 3 i) g.ty at_i.ty) in
          let same : key_cmp (field_ref_key f) (field_ref_key g) ≡ slice_cmp nat_cmp (member_class b 3 j ∷ member_name b 3 j ∷ member_kind b 3 j ∷ []) (member_class b 3 i ∷ member_name b 3 i ∷ member_kind b 3 i ∷ []) =
          λ t. ordering_then (front.0 t) (ordering_then (front.1 t) (ordering_then (ty t) Equal)) in
          same ∙ below);
      methods = table_rises method_ref_key MethodStands (MemberIsBelow 4) b 4 names.methods are.methods hold.methods (λ j i f g at_j at_i below.
          let front = member 4 j i f.class g.class f.name g.name at_j.class at_i.class at_j.name at_i.name in
          let proto = keys_compare_as_indices (map proto_key names.protos) (member_kind b 4 j) (member_kind b 4 i) (proto_key f.proto) (proto_key g.proto) protos (proto_at b names framed are (member_kind b 4 j) f.proto at_j.proto) (proto_at b names framed are (member_kind b 4 i) g.proto at_i.proto) ∙ ordering_then-equal (nat_cmp (member_kind b 4 j) (member_kind b 4 i)) in
          let same : key_cmp (method_ref_key f) (method_ref_key g) ≡ slice_cmp nat_cmp (member_class b 4 j ∷ member_name b 4 j ∷ member_kind b 4 j ∷ []) (member_class b 4 i ∷ member_name b 4 i ∷ member_kind b 4 i ∷ []) =
          λ t. ordering_then (front.0 t) (ordering_then (front.1 t) (proto t)) in
          same ∙ below);
    }

-- ---- they are closed

module _ (b : List ℕ) (names : Names) (framed : IsFramed b) (are : AreNamesOf b names) where
  has_string : (i : ℕ) (s : Units) → StringStands b i s → is_member (five_of names).strings (text_key s) ≡ true
  has_string i s st = member_at (five_of names).strings i (text_key s) (string_at b names framed are i s st)

  has_type : (i : ℕ) (t : Units) → TypeStands b i t → is_member (five_of names).types (text_key t) ≡ true
  has_type i t st = member_at (five_of names).types i (text_key t) (type_at b names framed are i t st)

  has_proto : (i : ℕ) (p : Proto) → ProtoStands b i p → is_member (five_of names).protos (proto_key p) ≡ true
  has_proto i p st = member_at (five_of names).protos i (proto_key p) (proto_at b names framed are i p st)

  -- types in a row, and their texts
  have_types : (indexes : List ℕ) (ts : List Units) → AllZip (TypeStands b) indexes ts → IsSubset (map text_key ts) (five_of names).types
  have_types [] [] z = sub.IsSubset-nil (five_of names).types
  have_types [] (t ∷ ts) z = absurd z
  have_types (i ∷ is) [] z = absurd z
  have_types (i ∷ is) (t ∷ ts) z = sub.IsSubset-cons (text_key t) (map text_key ts) (five_of names).types (has_type i t z.0) (have_types is ts z.1)

  have_texts : (indexes : List ℕ) (ts : List Units) → AllZip (TypeStands b) indexes ts → IsSubset (map text_key ts) (five_of names).strings
  have_texts [] [] z = sub.IsSubset-nil (five_of names).strings
  have_texts [] (t ∷ ts) z = absurd z
  have_texts (i ∷ is) [] z = absurd z
  have_texts (i ∷ is) (t ∷ ts) z = sub.IsSubset-cons (text_key t) (map text_key ts) (five_of names).strings (has_string (type_string b i) t z.0.string) (have_texts is ts z.1)

  proto_parts_there : (i : ℕ) (p : Proto) → ProtoStands b i p → IsPart (proto_closure (proto_key p)) (five_of names)
  proto_parts_there i p st =
      let x = indexes_of b (proto_parameters b i) p.params st.params in
      let s = five_of names in
      record {
        strings = sub.IsSubset-cons (text_key (shorty p)) (map text_key (proto_key p)) s.strings (has_string (proto_shorty b i) (shorty p) st.shorty) (have_texts (proto_return b i ∷ x.indexes) (proto_key p) (st.ret, x.named));
        types = have_types (proto_return b i ∷ x.indexes) (proto_key p) (st.ret, x.named);
        protos = sub.IsSubset-one (proto_key p) s.protos (has_proto i p st);
        fields = sub.IsSubset-nil s.fields;
        methods = sub.IsSubset-nil s.methods;
      }

pub names_are_closed : NamesAreClosed
names_are_closed b names framed are =
    let s = five_of names in
    record {
      of_types = λ k h.
          let row = member_row text_key names.types k h in
          let st = are.types.each row.0 row.1 row.2 in
          rw row.3 (record {
            strings = sub.IsSubset-one (text_key row.1) s.strings (has_string b names framed are (type_string b row.0) row.1 st.string);
            types = sub.IsSubset-one (text_key row.1) s.types (has_type b names framed are row.0 row.1 st);
            protos = sub.IsSubset-nil s.protos;
            fields = sub.IsSubset-nil s.fields;
            methods = sub.IsSubset-nil s.methods;
          });
      of_protos = λ k h.
          let row = member_row proto_key names.protos k h in
          rw row.3 (proto_parts_there b names framed are row.0 row.1 (are.protos.each row.0 row.1 row.2));
      of_fields = λ k h.
          let row = member_row field_ref_key names.fields k h in
          let f = row.1 in
          let st = are.fields.each row.0 f row.2 in
          rw row.3 (record {
            strings = sub.IsSubset-cons (text_key f.class) (text_key f.name ∷ text_key f.ty ∷ []) s.strings (has_string b names framed are (type_string b (member_class b 3 row.0)) f.class st.class.string)
                (sub.IsSubset-cons (text_key f.name) (text_key f.ty ∷ []) s.strings (has_string b names framed are (member_name b 3 row.0) f.name st.name) (sub.IsSubset-one (text_key f.ty) s.strings (has_string b names framed are (type_string b (member_kind b 3 row.0)) f.ty st.ty.string)));
            types = sub.IsSubset-cons (text_key f.class) (text_key f.ty ∷ []) s.types (has_type b names framed are (member_class b 3 row.0) f.class st.class) (sub.IsSubset-one (text_key f.ty) s.types (has_type b names framed are (member_kind b 3 row.0) f.ty st.ty));
            protos = sub.IsSubset-nil s.protos;
            fields = sub.IsSubset-one (field_ref_key f) s.fields (member_at s.fields row.0 (field_ref_key f) (field_at b names framed are row.0 f st));
            methods = sub.IsSubset-nil s.methods;
          });
      of_methods = λ k h.
          let row = member_row method_ref_key names.methods k h in
          let m = row.1 in
          let st = are.methods.each row.0 m row.2 in
          let p = proto_parts_there b names framed are (member_kind b 4 row.0) m.proto st.proto in
          rw row.3 (record {
            strings = sub.IsSubset-cons (text_key m.class) (text_key m.name ∷ (proto_closure (proto_key m.proto)).strings) s.strings (has_string b names framed are (type_string b (member_class b 4 row.0)) m.class st.class.string)
                (sub.IsSubset-cons (text_key m.name) (proto_closure (proto_key m.proto)).strings s.strings (has_string b names framed are (member_name b 4 row.0) m.name st.name) p.strings);
            types = sub.IsSubset-cons (text_key m.class) (proto_closure (proto_key m.proto)).types s.types (has_type b names framed are (member_class b 4 row.0) m.class st.class) p.types;
            protos = p.protos;
            fields = sub.IsSubset-nil s.fields;
            methods = sub.IsSubset-one (method_ref_key m) s.methods (member_at s.methods row.0 (method_ref_key m) (method_at b names framed are row.0 m st));
          });
    }

-- ---- a file's names

-- the names of the first rows of a table that holds
first_names : {V : Type 0} (S : List ℕ → ℕ → V → Type 0) (Below : List ℕ → ℕ → ℕ → Type 0) (b : List ℕ) (from n : ℕ) → ((i : ℕ) → i < n → RowHolds S Below b (from + i)) → (names : List V) × (length names ≡ n) × ((i : ℕ) (v : V) → slice_get names i ≡ Some v → S b (from + i) v)
first_names S Below b from zero hold = ([], refl, λ i v e. absurd cc)
first_names {V} S Below b from (suc n) hold =
    let first = hold 0 (omega arith) in
    let rest = first_names S Below b (suc from) n (λ i lt. subst (λ (k : ℕ). RowHolds S Below b k) (omega arith) (hold (suc i) (omega (arith, lt)))) in
    (first.name ∷ rest.0, ap suc rest.1, each first rest.0 rest.2)
  where
    each : (first : RowHolds S Below b (from + 0)) (others : List V) → ((i : ℕ) (v : V) → slice_get others i ≡ Some v → S b (suc from + i) v) → (i : ℕ) (v : V) → slice_get (first.name ∷ others) i ≡ Some v → S b (from + i) v
    each first others f zero v e = let same : first.name ≡ v = cc in subst (λ (w : V). S b (from + 0) w) same first.stands
    each first others f (suc i) v e = subst (λ (k : ℕ). S b k v) (omega arith) (f i v e)

table_names : {V : Type 0} (S : List ℕ → ℕ → V → Type 0) (Below : List ℕ → ℕ → ℕ → Type 0) (b : List ℕ) (k : ℕ) → RowsHold (RowHolds S Below) b (size_of b k) → (names : List V) × AreRows S b k names
table_names S Below b k hold =
    let x = first_names S Below b 0 (size_of b k) (λ i lt. subst (λ (j : ℕ). RowHolds S Below b j) (omega arith) (hold i lt)) in
    (x.0, record { count = x.1; each = λ i v e. subst (λ (j : ℕ). S b j v) (omega arith) (x.2 i v e) })

pub tables_have_names : TablesHaveNames
tables_have_names b hold =
    let strings = table_names StringStands StringIsBelow b 0 hold.strings in
    let types = table_names TypeStands TypeIsBelow b 1 hold.types in
    let protos = table_names ProtoStands ProtoIsBelow b 2 hold.protos in
    let fields = table_names FieldStands (MemberIsBelow 3) b 3 hold.fields in
    let methods = table_names MethodStands (MemberIsBelow 4) b 4 hold.methods in
    (record { strings = strings.0; types = types.0; protos = protos.0; fields = fields.0; methods = methods.0 }, record { strings = strings.1; types = types.1; protos = protos.1; fields = fields.1; methods = methods.1 })

-- ---- they hold what is needed

holds_row : (b : List ℕ) (names : Names) → IsFramed b → AreNamesOf b names → (name : Name) → HasRow b name → Holds (five_of names) name
holds_row b names framed are (OfText s) row = has_string b names framed are row.0 s row.1
holds_row b names framed are (OfDesc t) row = has_type b names framed are row.0 t row.1
holds_row b names framed are (OfField f) row = member_at (five_of names).fields row.0 (field_ref_key f) (field_at b names framed are row.0 f row.1)
holds_row b names framed are (OfMethod m) row = member_at (five_of names).methods row.0 (method_ref_key m) (method_at b names framed are row.0 m row.1)

hold_rows : (b : List ℕ) (names : Names) → IsFramed b → AreNamesOf b names → (some : List Name) → AllByRecursion (HasRow b) some → AllByRecursion (Holds (five_of names)) some
hold_rows b names framed are [] rows = tt
hold_rows b names framed are (n ∷ some) rows = (holds_row b names framed are n rows.0, hold_rows b names framed are some rows.1)

pub files_hold_needed : FilesHoldNeeded
files_hold_needed b names p framed are rows =
    (needed_is_least p).1.least (five_of names) (names_are_closed b names framed are) (hold_rows b names framed are (mentions p) rows)

-- a table that holds a set is no shorter
no_shorter : {V : Type 0} (key : V → Key) (S : List ℕ → ℕ → V → Type 0) (b : List ℕ) (k : ℕ) (names : List V) (set : List Key) → AreRows S b k names → Rising set → IsSubset set (map key names) → length set ≤ size_of b k
no_shorter key S b k names set rows up part =
    let le = length-le_from_is_member (eq_by_cmp_equiv key_cmp-total) set (map key names) (IsDistinct-from_sorted key_cmp set up) part.each in
    let size = length-map names key in
    let count = rows.count in
    omega (arith, le, size, count)

pub files_are_no_shorter : FilesAreNoShorter
files_are_no_shorter b p framed hold rows =
    let found = tables_have_names b hold in
    let names = found.0 in
    let are = found.1 in
    let part = files_hold_needed b names p framed are rows in
    let up = (needed_is_least p).0 in
    let high = names_rise b names framed hold are in
    let s = needed p in
    record {
      strings = no_shorter text_key StringStands b 0 names.strings s.strings are.strings up.strings part.strings;
      types = no_shorter text_key TypeStands b 1 names.types s.types are.types up.types part.types;
      protos = no_shorter proto_key ProtoStands b 2 names.protos s.protos are.protos up.protos part.protos;
      fields = no_shorter field_ref_key FieldStands b 3 names.fields s.fields are.fields up.fields part.fields;
      methods = no_shorter method_ref_key MethodStands b 4 names.methods s.methods are.methods up.methods part.methods;
      string_rank = λ i t st. index_is_at_least_rank s.strings (five_of names).strings i (text_key t) up.strings high.strings part.strings (string_at b names framed are i t st);
      type_rank = λ i t st. index_is_at_least_rank s.types (five_of names).types i (text_key t) up.types high.types part.types (type_at b names framed are i t st);
      proto_rank = λ i q st. index_is_at_least_rank s.protos (five_of names).protos i (proto_key q) up.protos high.protos part.protos (proto_at b names framed are i q st);
      field_rank = λ i f st. index_is_at_least_rank s.fields (five_of names).fields i (field_ref_key f) up.fields high.fields part.fields (field_at b names framed are i f st);
      method_rank = λ i m st. index_is_at_least_rank s.methods (five_of names).methods i (method_ref_key m) up.methods high.methods part.methods (method_at b names framed are i m st);
    }

-- ---- names compare as their rows do

module _ (b : List ℕ) (framed : IsFramed b) (hold : TablesHold b) where
  pub strings_compare : (i j : ℕ) (s t : Units) → StringStands b i s → StringStands b j t → key_cmp (text_key s) (text_key t) ≡ nat_cmp i j
  strings_compare i j s t x y =
      let found = tables_have_names b hold in
      keys_compare_as_indices (five_of found.0).strings i j (text_key s) (text_key t) (names_rise b found.0 framed hold found.1).strings (string_at b found.0 framed found.1 i s x) (string_at b found.0 framed found.1 j t y)

  pub types_compare : (i j : ℕ) (s t : Units) → TypeStands b i s → TypeStands b j t → key_cmp (text_key s) (text_key t) ≡ nat_cmp i j
  types_compare i j s t x y =
      let found = tables_have_names b hold in
      keys_compare_as_indices (five_of found.0).types i j (text_key s) (text_key t) (names_rise b found.0 framed hold found.1).types (type_at b found.0 framed found.1 i s x) (type_at b found.0 framed found.1 j t y)

  pub protos_compare : (i j : ℕ) (p q : Proto) → ProtoStands b i p → ProtoStands b j q → key_cmp (proto_key p) (proto_key q) ≡ nat_cmp i j
  protos_compare i j p q x y =
      let found = tables_have_names b hold in
      keys_compare_as_indices (five_of found.0).protos i j (proto_key p) (proto_key q) (names_rise b found.0 framed hold found.1).protos (proto_at b found.0 framed found.1 i p x) (proto_at b found.0 framed found.1 j q y)

  pub fields_compare : (i j : ℕ) (f g : FieldRef) → FieldStands b i f → FieldStands b j g → key_cmp (field_ref_key f) (field_ref_key g) ≡ nat_cmp i j
  fields_compare i j f g x y =
      let found = tables_have_names b hold in
      keys_compare_as_indices (five_of found.0).fields i j (field_ref_key f) (field_ref_key g) (names_rise b found.0 framed hold found.1).fields (field_at b found.0 framed found.1 i f x) (field_at b found.0 framed found.1 j g y)

  pub methods_compare : (i j : ℕ) (m n : MethodRef) → MethodStands b i m → MethodStands b j n → key_cmp (method_ref_key m) (method_ref_key n) ≡ nat_cmp i j
  methods_compare i j m n x y =
      let found = tables_have_names b hold in
      keys_compare_as_indices (five_of found.0).methods i j (method_ref_key m) (method_ref_key n) (names_rise b found.0 framed hold found.1).methods (method_at b found.0 framed found.1 i m x) (method_at b found.0 framed found.1 j n y)

-- ---- what is needed has rows

held_row : (b : List ℕ) (names : Names) → AreNamesOf b names → (name : Name) → Holds (five_of names) name → HasRow b name
held_row b names are (OfText s) h =
    let row = member_row text_key names.strings (text_key s) h in
    let same : row.1 ≡ s = (let e = row.3 in cc) in
    (row.0, subst (λ (x : Units). StringStands b row.0 x) same (are.strings.each row.0 row.1 row.2))
held_row b names are (OfDesc t) h =
    let row = member_row text_key names.types (text_key t) h in
    let same : row.1 ≡ t = (let e = row.3 in cc) in
    (row.0, subst (λ (x : Units). TypeStands b row.0 x) same (are.types.each row.0 row.1 row.2))
held_row b names are (OfField f) h =
    let row = member_row field_ref_key names.fields (field_ref_key f) h in
    let e = row.3 in
    let class : row.1.class ≡ f.class = cc in
    let name : row.1.name ≡ f.name = cc in
    let ty : row.1.ty ≡ f.ty = cc in
    let same : row.1 ≡ f = (λ k. record { class = class k; name = name k; ty = ty k }) in
    (row.0, subst (λ (x : FieldRef). FieldStands b row.0 x) same (are.fields.each row.0 row.1 row.2))
held_row b names are (OfMethod m) h =
    let row = member_row method_ref_key names.methods (method_ref_key m) h in
    let e = row.3 in
    let class : row.1.class ≡ m.class = cc in
    let name : row.1.name ≡ m.name = cc in
    let ret : row.1.proto.ret ≡ m.proto.ret = cc in
    let params : row.1.proto.params ≡ m.proto.params = cc in
    let same : row.1 ≡ m = (λ k. record { class = class k; name = name k; proto = record { ret = ret k; params = params k } }) in
    (row.0, subst (λ (x : MethodRef). MethodStands b row.0 x) same (are.methods.each row.0 row.1 row.2))

pub needed_has_rows : NeededHasRows
needed_has_rows b p framed hold rows =
    let found = tables_have_names b hold in
    let part = files_hold_needed b found.0 p framed found.1 rows in
    record {
      names = λ name h. held_row b found.0 found.1 name (holds_part (needed p) (five_of found.0) name part h);
      protos = λ q h.
          let row = member_row proto_key found.0.protos (proto_key q) (part.protos.each (proto_key q) h) in
          let e = row.3 in
          let ret : row.1.ret ≡ q.ret = cc in
          let params : row.1.params ≡ q.params = cc in
          let same : row.1 ≡ q = (λ k. record { ret = ret k; params = params k }) in
          (row.0, subst (λ (x : Proto). ProtoStands b row.0 x) same (found.1.protos.each row.0 row.1 row.2));
    }

-- ---- a name has one row

module _ (b : List ℕ) (framed : IsFramed b) (hold : TablesHold b) (i j : ℕ) where
  pub proto_row_one : (p : Proto) → ProtoStands b i p → ProtoStands b j p → i ≡ j
  proto_row_one p x y =
      let found = tables_have_names b hold in
      one_place (five_of found.0).protos i j (proto_key p) (names_rise b found.0 framed hold found.1).protos (proto_at b found.0 framed found.1 i p x) (proto_at b found.0 framed found.1 j p y)

  pub name_row_one : (name : Name) → NameStands b i name → NameStands b j name → i ≡ j
  name_row_one name x y = let found = tables_have_names b hold in by found.0 found.1 (names_rise b found.0 framed hold found.1) name x y
    where
      by : (names : Names) → AreNamesOf b names → AreRising (five_of names) → (n : Name) → NameStands b i n → NameStands b j n → i ≡ j
      by names are up (OfText s) x y = one_place (five_of names).strings i j (text_key s) up.strings (string_at b names framed are i s x) (string_at b names framed are j s y)
      by names are up (OfDesc t) x y = one_place (five_of names).types i j (text_key t) up.types (type_at b names framed are i t x) (type_at b names framed are j t y)
      by names are up (OfField f) x y = one_place (five_of names).fields i j (field_ref_key f) up.fields (field_at b names framed are i f x) (field_at b names framed are j f y)
      by names are up (OfMethod m) x y = one_place (five_of names).methods i j (method_ref_key m) up.methods (method_at b names framed are i m x) (method_at b names framed are j m y)

-- ---- unions

pub union_members : (ks js : List Key) (k : Key) → (is_member (add_all ks js) k ≡ true → (is_member ks k ≡ true) ⊎ (is_member js k ≡ true)) × ((is_member ks k ≡ true) ⊎ (is_member js k ≡ true) → is_member (add_all ks js) k ≡ true)
union_members ks js k = (sub.added_cases ks js k, λ h. elim h [ inl a ↦ (sub.IsSubset-add_left ks js).each k a | inr c ↦ (sub.IsSubset-add_right ks js).each k c ])

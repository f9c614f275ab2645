-- The names that a program needs stand in its assembled file, at their ranks.
use Rattle.std.proofs.Common.{◌≡◌, ◌≢◌, ℕ, suc, ◌+◌, Bool, true, false, List, [], ◌∷◌, ◌++◌, length, map, get_or, refl, sym, ap, ◌∙◌, subst, arith, Some}
use Rattle.std.proofs.lemmas.List.{length-map}
use Rattle.std.proofs.lemmas.Option.{slice_get-map, slice_get_within}
use Rattle.std.specs.Prelude.{MatchBool, option_map, ◌==◌}
use Rattle.std.specs.List.{AllByRecursion, slice_get}
use Rattle.dex_base.specs.Descriptor.{IsDescriptor}
use Rattle.dex_base.specs.Mutf8.{PacksText, SpellsText}
use Rattle.dex_base.proofs.TextLaws.{packed_is_text}
use Rattle.dex_container.specs.Where.{At, AtOrNone}
use Rattle.file_layout.specs.inner.Sections.{is_empty_list, never}
use Rattle.file_layout.specs.inner.Tiles.{Refers}
use Rattle.file_layout.proofs.FrameLaws.{lists_part, strings_part}
use Rattle.file_layout.proofs.StandLaws.{at_item, at_list, even_four, even_one, zip_at}
use Rattle.file_limits.specs.Wide.{params_of}
use Rattle.file_limits.specs.inner.Wide.{list_values, text_values}
use Rattle.tables_names.specs.Closure.{Five, NameRanks}
use Rattle.tables_names.specs.inner.Indices.{AreIndices}
use Rattle.tables_names.specs.Needed.{needed}
use Rattle.tables_names.specs.Rank.{IsAt}
use Rattle.tables_names.specs.Rows.{first_of}
use Rattle.program_types.specs.Content.{Class, Descriptor, FieldRef, MethodRef, Name, OfDesc, OfField, OfMethod, OfText, Program, Proto, Units}
use Rattle.program_types.specs.Key.{field_ref_key, method_ref_key, proto_key, text_key}
use Rattle.program_types.specs.Kinds.{void}
use Rattle.program_types.specs.Shorty.{shorty}
use Rattle.program_rules.specs.WellFormed.{WellFormed}
use Rattle.program_rules.specs.Valid.{IsValidField, IsValidMethod, IsValidName, IsValidProto, IsValueType}
use Rattle.file_put.specs.inner.Lists.{SpellsRanks}
use Rattle.tables_rows.specs.RowFields.{member_class, member_kind, member_name, proto_return, proto_shorty, type_string}
use Rattle.tables_rows.specs.Stands.{FieldStands, MethodStands, NameStands, ProtoStands, SpellsIndexes, SpellsTypes, StringStands, TypeStands, TypesAt}
use Rattle.file_put.specs.inner.Assembled.{Assembled}
use Rattle.file_put.proofs.NamedLaws.{mentions_hold}
use Rattle.file_write.proofs.RowLaws.{field_count, field_row, method_count, method_row, proto_count, proto_row, string_count, string_row, type_count, type_row}
use Rattle.file_write.proofs.ValidNames.{AreValid, IsFieldKey, IsMethodKey, IsProtoKey, IsTypeKey, member_is, needed_valid}
use Rattle.dex_base.proofs.ListFacts.{slice_left, zip_weaker}
use Rattle.program_types.proofs.KeysTell.{text_told, proto_told, field_told, method_told}

pub back_get : {V : Type 0} (xs ys : List V) (i : ℕ) (v : V) → slice_get ys i ≡ Some v → slice_get (xs ++ ys) (length xs + i) ≡ Some v
back_get [] ys i v e = let k : 0 + i ≡ i = omega arith in rw k e
back_get (x ∷ xs) ys i v e = let k : suc (length xs) + i ≡ suc (length xs + i) = omega arith in rw k (back_get xs ys i v e)

-- the indices of a list that is spelled by ranks
pub ranks_of : (b : List ℕ) (s : Five) (place : ℕ) (ts : List Descriptor) → AtOrNone (SpellsRanks s) b 0x1001 4 place ts → (xs : List ℕ) × AtOrNone SpellsIndexes b 0x1001 4 place xs × AreIndices s.types xs ts
ranks_of b s place ts at = by (place == 0) at
  where
    by : (z : Bool) → MatchBool z (ts ≡ []) (At (SpellsRanks s) b 0x1001 4 place ts) → (xs : List ℕ) × MatchBool z (xs ≡ []) (At SpellsIndexes b 0x1001 4 place xs) × AreIndices s.types xs ts
    by true e = ([], refl, subst (λ (x : List Descriptor). AreIndices s.types [] x) (sym e) tt)
    by false q =
        let r = q.spelled in
        (r.indexes, record { begin = q.begin; end = q.end; section = q.section; after = q.after; aligned = q.aligned; size = q.size; within = q.within; spelled = r.spelled }, r.named)

values_of : (ts : List Descriptor) → AllByRecursion IsValueType ts → AllByRecursion (λ t. t ≢ void) ts
values_of [] h = tt
values_of (t ∷ ts) h = (h.0.value, values_of ts h.1)

-- the names that a well-formed program needs are valid
pub valid_of : (p : Program) → WellFormed p → AreValid (needed p)
valid_of p w = needed_valid p (mentions_hold IsValidName p (λ i c e. (w.rules i c e).names.all))

module _ (b : List ℕ) (s : Five) (p : Program) (a : Assembled b s p) (valid : AreValid s) where
  -- ---- strings and types

  pub string_stands : (i : ℕ) (t : Units) → IsAt s.strings i (text_key t) → StringStands b i t
  string_stands i t e =
      let lt = slice_get_within s.strings i (text_key t) e in
      let n = string_count b s p a in
      let at : slice_get (text_values s) i ≡ Some t = slice_get-map first_of s.strings i ∙ ap (option_map first_of) e in
      let l = a.lies.strings in
      let r = zip_at (Refers never l.items) a.at.texts (text_values s) i t l.each at in
      record {
        row = omega (arith, lt, n);
        text = rw (string_row b s p a i lt)
            (at_item never PacksText SpellsText 1 b 0x2002 a.plan.strings.begin a.plan.strings.begin a.plan.strings.end (text_values s) a.at.texts a.plan.strings.items (get_or a.at.texts i 0) t
            l (strings_part b a.plan a.map a.written).stands (omega arith) even_one (λ bytes. packed_is_text bytes t) r.1);
      }

  pub type_stands : (i : ℕ) (t : Descriptor) → IsAt s.types i (text_key t) → TypeStands b i t
  type_stands i t e =
      let lt = slice_get_within s.types i (text_key t) e in
      let n = type_count b s p a in
      let k = member_is IsTypeKey s.types i (text_key t) valid.types e in
      record {
        row = omega (arith, lt, n);
        string = string_stands (type_string b i) t (type_row b s p a i t e);
        descriptor = subst IsDescriptor (text_told k.0 t (sym k.1)) k.2;
      }

  -- ---- lists of types

  types_spell : (bytes : List ℕ) (ts : List Descriptor) → SpellsRanks s bytes ts → SpellsTypes (TypeStands b) bytes ts
  types_spell bytes ts r = record { indexes = r.indexes; spelled = r.spelled; named = zip_weaker (λ i t. IsAt s.types i (text_key t)) (TypeStands b) type_stands r.indexes ts r.named }

  -- the list at place k of the references, by ranks and as the file has it
  pub ranks_at : (k : ℕ) (ts : List Descriptor) → slice_get (list_values s p) k ≡ Some ts → AtOrNone (SpellsRanks s) b 0x1001 4 (get_or a.at.lists k 0) ts
  ranks_at k ts e =
      let l = a.lies.lists in
      at_list (SpellsRanks s) (SpellsRanks s) 4 b 0x1001 a.plan.lists.begin a.plan.lists.begin a.plan.lists.end (list_values s p) a.at.lists a.plan.lists.items (get_or a.at.lists k 0) ts
      l (lists_part b a.plan a.map a.written).stands (omega arith) even_four (λ bytes r. r)
      (zip_at (Refers is_empty_list l.items) a.at.lists (list_values s p) k ts l.each e)

  pub list_at : (k : ℕ) (ts : List Descriptor) → slice_get (list_values s p) k ≡ Some ts → TypesAt b (get_or a.at.lists k 0) ts
  list_at k ts e =
      let l = a.lies.lists in
      at_list (SpellsRanks s) (SpellsTypes (TypeStands b)) 4 b 0x1001 a.plan.lists.begin a.plan.lists.begin a.plan.lists.end (list_values s p) a.at.lists a.plan.lists.items (get_or a.at.lists k 0) ts
      l (lists_part b a.plan a.map a.written).stands (omega arith) even_four (λ bytes. types_spell bytes ts)
      (zip_at (Refers is_empty_list l.items) a.at.lists (list_values s p) k ts l.each e)

  -- the parameters of a prototype, and the interfaces of a class, among all lists
  pub proto_list : (i : ℕ) (q : Proto) → IsAt s.protos i (proto_key q) → slice_get (list_values s p) i ≡ Some q.params
  proto_list i q e = slice_left (map params_of s.protos) (map (λ (c : Class). c.interfaces) p) i q.params (slice_get-map params_of s.protos i ∙ ap (option_map params_of) e)

  pub class_list : (i : ℕ) (c : Class) → slice_get p i ≡ Some c → slice_get (list_values s p) (length s.protos + i) ≡ Some c.interfaces
  class_list i c e =
      let n : length (map params_of s.protos) ≡ length s.protos = length-map s.protos params_of in
      subst (λ (k : ℕ). slice_get (list_values s p) (k + i) ≡ Some c.interfaces) n
      (back_get (map params_of s.protos) (map (λ (c : Class). c.interfaces) p) i c.interfaces (slice_get-map (λ (c : Class). c.interfaces) p i ∙ ap (option_map (λ (c : Class). c.interfaces)) e))

  -- ---- prototypes, fields and methods

  pub proto_stands : (i : ℕ) (q : Proto) → IsAt s.protos i (proto_key q) → ProtoStands b i q
  proto_stands i q e =
      let lt = slice_get_within s.protos i (proto_key q) e in
      let n = proto_count b s p a in
      let r = proto_row b s p a i q e in
      let k = member_is IsProtoKey s.protos i (proto_key q) valid.protos e in
      let h = subst IsValidProto (proto_told k.0 q (sym k.1)) k.2 in
      record {
        row = omega (arith, lt, n);
        ret = type_stands (proto_return b i) q.ret r.ret_is;
        params = subst (λ (j : ℕ). TypesAt b j q.params) (sym r.place) (list_at i q.params (proto_list i q e));
        values = values_of q.params h.params;
        shorty = string_stands (proto_shorty b i) (shorty q) r.shorty_is;
      }

  pub field_stands : (i : ℕ) (f : FieldRef) → IsAt s.fields i (field_ref_key f) → FieldStands b i f
  field_stands i f e =
      let lt = slice_get_within s.fields i (field_ref_key f) e in
      let n = field_count b s p a in
      let r = field_row b s p a i f e in
      let k = member_is IsFieldKey s.fields i (field_ref_key f) valid.fields e in
      let h = subst IsValidField (field_told k.0 f (sym k.1)) k.2 in
      record {
        row = omega (arith, lt, n);
        class = type_stands (member_class b 3 i) f.class r.class_is;
        ty = type_stands (member_kind b 3 i) f.ty r.ty_is;
        name = string_stands (member_name b 3 i) f.name r.name_is;
        of_class = h.class;
        value = h.ty.value;
        named = h.name;
      }

  pub method_stands : (i : ℕ) (m : MethodRef) → IsAt s.methods i (method_ref_key m) → MethodStands b i m
  method_stands i m e =
      let lt = slice_get_within s.methods i (method_ref_key m) e in
      let n = method_count b s p a in
      let r = method_row b s p a i m e in
      let k = member_is IsMethodKey s.methods i (method_ref_key m) valid.methods e in
      let h = subst IsValidMethod (method_told k.0 m (sym k.1)) k.2 in
      record {
        row = omega (arith, lt, n);
        class = type_stands (member_class b 4 i) m.class r.class_is;
        proto = proto_stands (member_kind b 4 i) m.proto r.proto_is;
        name = string_stands (member_name b 4 i) m.name r.name_is;
        of_class = h.class;
        named = h.name;
      }

  pub name_stands : (i : ℕ) (n : Name) → NameRanks s i n → NameStands b i n
  name_stands i (OfText t) e = string_stands i t e
  name_stands i (OfDesc t) e = type_stands i t e
  name_stands i (OfField f) e = field_stands i f e
  name_stands i (OfMethod m) e = method_stands i m e

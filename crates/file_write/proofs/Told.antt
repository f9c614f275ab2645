-- What stands in the items of a file is told by the names and classes that it means, kind by kind.
use Rattle.std.proofs.Common.{◌≡◌, ◌≢◌, ℕ, zero, suc, ◌+◌, ◌<◌, Bool, true, false, List, [], ◌∷◌, ◌++◌, length, map, take, drop, refl, sym, ap, ◌∙◌, subst, arith, Option, Some, None}
use Rattle.std.proofs.lemmas.List.{drop_at, length-map, take-append-drop, take_at}
use Rattle.std.specs.Prelude.{MatchBool, ◌==◌, ◌&&◌}
use Rattle.std.specs.List.{AllZip, flat_map, slice_get}
use Rattle.dex_base.specs.Grammar.{IsPrefixUnique}
use Rattle.dex_base.specs.Leb128.{Shortest, Spells}
use Rattle.dex_base.specs.Mutf8.{PacksText, SpellsText}
use Rattle.dex_base.proofs.TextLaws.{packed_is_text, text_unique}
use Rattle.dex_container.specs.Frame.{IsFramed}
use Rattle.dex_container.specs.Where.{At, slice}
use Rattle.dex_value.specs.Spelling.{SpellsArray}
use Rattle.dex_value.specs.Standing.{ArrayStands}
use Rattle.dex_value.proofs.Weaker.{SpellsArray-weaker}
use Rattle.dex_value.proofs.Carrying.{file_array_unique}
use Rattle.code_read.specs.Code.{SpellsCode}
use Rattle.code_read.proofs.CodeLaws.{SpellsCode-unique}
use Rattle.file_classes.specs.ClassData.{Entries, EntriesAt, FieldEntry, MethodEntry, SpellsEntries, no_entries}
use Rattle.file_classes.specs.Classes.{CodeAt, CodesAre, IsField, IsMethod, MembersAre, SomeCodeStands, StaticsAt}
use Rattle.file_classes.proofs.EntryLaws.{entries_unique}
use Rattle.file_classes.proofs.OnceLaws.{one_of_kind}
use Rattle.file_layout.specs.inner.Sections.{is_empty_list, never}
use Rattle.file_layout.proofs.SectionLaws.{not_none}
use Rattle.file_limits.specs.Wide.{bodies_in, bodies_of}
use Rattle.file_limits.specs.inner.Wide.{body_values}
use Rattle.file_put.specs.inner.Codes.{PacksBody, is_bodiless}
use Rattle.file_put.specs.Data.{code_offs}
use Rattle.file_put.specs.inner.Data.{FieldRanks, MembersRank, MethodRanks, PacksData, ClassWithCodes, has_no_members, method_count, with_code_places}
use Rattle.file_put.specs.inner.Lists.{SpellsRanks}
use Rattle.program_types.specs.Content.{Class, Code, Descriptor, Member, Method, Name, OfDesc, OfField, OfMethod, Program, Units, Value}
use Rattle.program_types.specs.Key.{text_key}
use Rattle.tables_names.specs.Closure.{Five, NameRanks}
use Rattle.tables_names.specs.inner.Indices.{AreIndices}
use Rattle.tables_names.specs.Rank.{IsAt}
use Rattle.tables_rows.specs.Stands.{NameStands, SpellsIndexes, SpellsTypes, TypeStands, TypesAt}
use Rattle.tables_rows.proofs.HalvesLaws.{indexes_unique}
use Rattle.file_write.specs.Packed.{SomeCode, SomeMembers, SomeTypes, SomeValues, code_places}
use Rattle.file_write.proofs.Codes.{PacksCode-weaker}
use Rattle.file_write.proofs.Members.{entries_spelled, run_weaker}
use Rattle.file_write.proofs.Readings.{AreEntriesOf, AreIndicesOf, IsBodyOf, shortest_same}
use Rattle.file_write.proofs.Retold.{IsTold, told_made, zip_of}
use Rattle.dex_base.proofs.ListFacts.{zip_length, zip_append, zip_weaker}

-- two spellings that begin at one place are of one value
one_at : {V : Type 0} (G : List ℕ → V → Type 0) → IsPrefixUnique G → (b : List ℕ) (place m n : ℕ) (v w : V) → G (slice b place m) v → G (slice b place n) w → w ≡ v
unfolding slice
one_at G unique b place m n v w p q =
    sym (unique (take m (drop place b)) (take n (drop place b)) (drop m (drop place b)) (drop n (drop place b)) v w p q
    (take-append-drop m (drop place b) ∙ sym (take-append-drop n (drop place b)))).1

-- no member, and some
none_of : {A B C D : Type 0} (ws : List A) (xs : List B) (ys : List C) (zs : List D) → length ws + length xs + length ys + length zs ≡ 0 → (is_empty_list ws && is_empty_list xs && is_empty_list ys && is_empty_list zs) ≡ true
none_of [] [] [] [] e = refl
none_of [] [] [] (z ∷ zs) e = absurd (omega (arith, e))
none_of [] [] (y ∷ ys) zs e = absurd (omega (arith, e))
none_of [] (x ∷ xs) ys zs e = absurd (omega (arith, e))
none_of (w ∷ ws) xs ys zs e = absurd (omega (arith, e))

any_of : {A B C D : Type 0} (ws : List A) (xs : List B) (ys : List C) (zs : List D) → 0 < length ws + length xs + length ys + length zs → (is_empty_list ws && is_empty_list xs && is_empty_list ys && is_empty_list zs) ≡ false
any_of [] [] [] [] e = absurd (omega (arith, e))
any_of [] [] [] (z ∷ zs) e = refl
any_of [] [] (y ∷ ys) zs e = refl
any_of [] (x ∷ xs) ys zs e = refl
any_of (w ∷ ws) xs ys zs e = refl

module _ (b : List ℕ) (s : Five) (framed : IsFramed b) (each : (i : ℕ) (which : Name) → NameRanks s i which → NameStands b i which) (only : (i : ℕ) (which : Name) → NameStands b i which → NameRanks s i which) where
  -- ---- type lists

  pub types_are_told : (place : ℕ) (ts : List Descriptor) → TypesAt b place ts → IsTold is_empty_list (SpellsRanks s) SomeTypes (AreIndicesOf s) b place ts
  types_are_told place ts at = by (place == 0) at
    where
      by : (t : Bool) → MatchBool t (ts ≡ []) (At (SpellsTypes (TypeStands b)) b 0x1001 4 place ts)
          → MatchBool t (is_empty_list ts ≡ true) ((size : ℕ) (w : List ℕ) → SomeTypes (slice b place size) w → (is_empty_list ts ≡ false) × SpellsRanks s (slice b place size) ts × AreIndicesOf s ts w)
      by true e = ap is_empty_list e
      by false a = λ size w h.
          let r = a.spelled in
          let e = one_at SpellsIndexes indexes_unique b place a.size size r.indexes w r.spelled h.0 in
          let named : AreIndices s.types w ts =
          zip_weaker (TypeStands b) (λ i t. IsAt s.types i (text_key t)) (λ i t k. only i (OfDesc t) k) w ts (subst (λ (is : List ℕ). AllZip (TypeStands b) is ts) (sym e) r.named) in
          let n = zip_length (λ (i : ℕ) (t : Descriptor). IsAt s.types i (text_key t)) w ts named in
          let some = h.1 in
          (not_none ts (omega (arith, n, some)), record { indexes = w; spelled = h.0; named = named }, named)

  -- ---- texts

  pub text_is_told : (place : ℕ) (t : Units) → place ≢ 0 → At SpellsText b 0x2002 1 place t → IsTold never PacksText PacksText (◌≡◌ {A = List ℕ}) b place t
  text_is_told place t some a =
      told_made never PacksText PacksText (◌≡◌ {A = List ℕ}) b place t some (λ size w h.
      let e = one_at SpellsText text_unique b place a.size size t w a.spelled (packed_is_text (slice b place size) w h) in
      (refl, subst (λ (x : List ℕ). PacksText (slice b place size) x) e h, sym e))

  -- ---- static values

  pub values_are_told : (place most : ℕ) (vs : List Value) → StaticsAt b place most vs → IsTold is_empty_list (Shortest (SpellsArray (NameRanks s))) (SomeValues b) (◌≡◌ {A = List Value}) b place vs
  values_are_told place most vs at = by (place == 0) at
    where
      by : (t : Bool) → MatchBool t (vs ≡ []) (ArrayStands (NameStands b) b place most vs)
          → MatchBool t (is_empty_list vs ≡ true) ((size : ℕ) (w : List Value) → SomeValues b (slice b place size) w → (is_empty_list vs ≡ false) × Shortest (SpellsArray (NameRanks s)) (slice b place size) vs × (vs ≡ w))
      by true e = ap is_empty_list e
      by false a = λ size w h.
          let e = one_at (SpellsArray (NameStands b)) (file_array_unique b framed) b place a.stands.size size vs w a.stands.spelled h.0.spelled in
          let some = h.1 in let n = ap length e in (
            not_none vs (omega (arith, n, some)),
            subst (λ (x : List Value). Shortest (SpellsArray (NameRanks s)) (slice b place size) x) e
                (shortest_same (SpellsArray (NameStands b)) (SpellsArray (NameRanks s)) (SpellsArray-weaker (NameStands b) (NameRanks s) only) (SpellsArray-weaker (NameRanks s) (NameStands b) each) (slice b place size) w h.0),
            sym e,
          )

  -- ---- code

  pub body_is_told : (place : ℕ) (o : Option Code) → CodeAt b place o → IsTold is_bodiless (PacksBody (NameRanks s)) (SomeCode b) IsBodyOf b place o
  body_is_told place o at = by (place == 0) at
    where
      by : (t : Bool) → MatchBool t (o ≡ None) (SomeCodeStands b place o)
          → MatchBool t (is_bodiless o ≡ true) ((size : ℕ) (w : Code) → SomeCode b (slice b place size) w → (is_bodiless o ≡ false) × PacksBody (NameRanks s) (slice b place size) o × (o ≡ Some w))
      by true e = ap is_bodiless e
      by false a = λ size w h.
          let e = one_at (SpellsCode (NameStands b)) (SpellsCode-unique (NameStands b) (one_of_kind b framed)) b place a.stands.size size a.some w a.stands.spelled h.spelled in
          let is : o ≡ Some w = a.is ∙ ap (λ (c : Code). Some c) (sym e) in (
            ap is_bodiless is,
            subst (λ (x : Option Code). PacksBody (NameRanks s) (slice b place size) x) (sym is) (PacksCode-weaker (NameStands b) (NameRanks s) only (slice b place size) w h.packed),
            is,
          )

  -- ---- class data

  field_ranks : (class : Descriptor) (k : ℕ) (e : FieldEntry) (m : Member) → IsField b class k e m → FieldRanks (NameRanks s) class k e m
  field_ranks class k e m r = record { field = only k (OfField (record { class = class; name = m.name; ty = m.ty })) r.field; flags = r.flags }

  method_ranks : (class : Descriptor) (k : ℕ) (e : MethodEntry) (m : Method) → IsMethod b class k e m → MethodRanks (NameRanks s) class k e m
  method_ranks class k e m r = record { method = only k (OfMethod (record { class = class; name = m.name; proto = m.proto })) r.method; flags = r.flags }

  members_rank : (e : Entries) (c : Class) → MembersAre b e c → MembersRank (NameRanks s) e c
  members_rank e c m = record {
    statics = run_weaker (IsField b c.ty) (FieldRanks (NameRanks s) c.ty) (field_ranks c.ty) e.statics c.statics m.statics;
    instances = run_weaker (IsField b c.ty) (FieldRanks (NameRanks s) c.ty) (field_ranks c.ty) e.instances c.instances m.instances;
    directs = run_weaker (IsMethod b c.ty) (MethodRanks (NameRanks s) c.ty) (method_ranks c.ty) e.directs c.directs m.directs;
    virtuals = run_weaker (IsMethod b c.ty) (MethodRanks (NameRanks s) c.ty) (method_ranks c.ty) e.virtuals c.virtuals m.virtuals;
  }

  pub members_are_told : (place : ℕ) (e : Entries) (c : Class) → EntriesAt b place e → MembersAre b e c
      → IsTold has_no_members (PacksData (NameRanks s)) SomeMembers (AreEntriesOf s) b place (record { class = c; codes = code_places e })
  members_are_told place e c at m = by (place == 0) at
    where
      by : (t : Bool) → MatchBool t (e ≡ no_entries) (At (SpellsEntries Spells) b 0x2000 1 place e)
          → MatchBool t (has_no_members (record { class = c; codes = code_places e }) ≡ true)
          ((size : ℕ) (w : Entries) → SomeMembers (slice b place size) w → (has_no_members (record { class = c; codes = code_places e }) ≡ false) × PacksData (NameRanks s) (slice b place size) (record { class = c; codes = code_places e }) × MembersRank (NameRanks s) w c)
      by true z =
          let n0 = m.statics.count in let n1 = m.instances.count in let n2 = m.directs.count in let n3 = m.virtuals.count in
          let k0 = ap (λ (x : Entries). length x.statics) z in let k1 = ap (λ (x : Entries). length x.instances) z in
          let k2 = ap (λ (x : Entries). length x.directs) z in let k3 = ap (λ (x : Entries). length x.virtuals) z in
          none_of c.statics c.instances c.directs c.virtuals (omega (arith, n0, n1, n2, n3, k0, k1, k2, k3))
      by false a = λ size w h.
          let q = one_at (SpellsEntries Spells) entries_unique b place a.size size e w a.spelled (entries_spelled (slice b place size) w h.0) in
          let r = members_rank w c (subst (λ (x : Entries). MembersAre b x c) (sym q) m) in
          let n0 = r.statics.count in let n1 = r.instances.count in let n2 = r.directs.count in let n3 = r.virtuals.count in
          let some = h.1 in (
            any_of c.statics c.instances c.directs c.virtuals (omega (arith, n0, n1, n2, n3, some)),
            record { entries = w; spelled = h.0; members = r; codes = ap code_places q },
            r,
          )

-- ---- bodies and class data of all classes

-- an element of a list that another is made of
pub map_was : {A B : Type 0} (f : A → B) (xs : List A) (i : ℕ) (y : B) → slice_get (map f xs) i ≡ Some y → (x : A) × (slice_get xs i ≡ Some x) × (f x ≡ y)
map_was f [] i y e = absurd (cc e)
map_was f (x ∷ xs) zero y e = let same : f x ≡ y = cc e in (x, refl, same)
map_was f (x ∷ xs) (suc i) y e = map_was f xs i y e

-- the places of the bodies of methods
pub bodies_zip : (b : List ℕ) (es : List MethodEntry) (ms : List Method) → length ms ≡ length es → CodesAre b es ms → AllZip (CodeAt b) (code_offs es) (bodies_in ms)
bodies_zip b es ms n f =
    let x = length-map es (λ (e : MethodEntry). e.1.1) in let y = length-map ms (λ (m : Method). m.code) in
    zip_of (CodeAt b) (code_offs es) (bodies_in ms) (omega (arith, n, x, y)) (λ i place o p q.
    let e = map_was (λ (e : MethodEntry). e.1.1) es i place p in
    let m = map_was (λ (m : Method). m.code) ms i o q in
    subst (λ (k : ℕ). CodeAt b k o) e.2 (subst (λ (c : Option Code). CodeAt b e.0.1.1 c) m.2 (f i e.0 m.0 e.1 m.1)))

-- those of all classes
pub all_bodies_zip : (R : ℕ → Option Code → Type 0) (es : List Entries) (p : Program) → length es ≡ length p → ((i : ℕ) (e : Entries) (c : Class) → slice_get es i ≡ Some e → slice_get p i ≡ Some c → AllZip R (code_places e) (bodies_of c))
    → AllZip R (flat_map code_places es) (body_values p)
all_bodies_zip R [] [] n f = tt
all_bodies_zip R [] (c ∷ p) n f = absurd (omega (arith, n))
all_bodies_zip R (e ∷ es) [] n f = absurd (omega (arith, n))
all_bodies_zip R (e ∷ es) (c ∷ p) n f =
    zip_append R (code_places e) (flat_map code_places es) (bodies_of c) (body_values p) (f zero e c refl refl) (all_bodies_zip R es p (omega (arith, n)) (λ i d k x y. f (suc i) d k x y))

-- A class with the places of its own bodies, which its entries have.
pub record WasSited (p : Program) (es : List Entries) (i : ℕ) (v : ClassWithCodes) : Type 0 where
  pub class : Class
  pub entries : Entries
  pub of : slice_get p i ≡ Some class
  pub by : slice_get es i ≡ Some entries
  pub is : v ≡ record { class = class; codes = code_places entries }

pub was_sited : (p : Program) (es : List Entries) (i : ℕ) (v : ClassWithCodes) → length es ≡ length p
    → ((k : ℕ) (e : Entries) (c : Class) → slice_get es k ≡ Some e → slice_get p k ≡ Some c → length (code_places e) ≡ method_count c)
    → slice_get (with_code_places p (flat_map code_places es)) i ≡ Some v → WasSited p es i v
was_sited [] es i v n f at = absurd (cc at)
was_sited (c ∷ p) [] i v n f at = absurd (omega (arith, n))
was_sited (c ∷ p) (e ∷ es) zero v n f at =
    let m = f zero e c refl refl in
    let t = take_at (code_places e) (flat_map code_places es) (method_count c) m in
    record { class = c; entries = e; of = refl; by = refl; is = some_same v (record { class = c; codes = take (method_count c) (code_places e ++ flat_map code_places es) }) (sym at) ∙ ap (λ (xs : List ℕ). record { class = c; codes = xs }) t }
  where
    some_same : (x y : ClassWithCodes) → Some x ≡ Some y → x ≡ y
    some_same x y k = cc
was_sited (c ∷ p) (e ∷ es) (suc i) v n f at =
    let m = f zero e c refl refl in
    let d = drop_at (code_places e) (flat_map code_places es) (method_count c) m in
    let r = was_sited p es i v (omega (arith, n)) (λ k x y a z. f (suc k) x y a z) (subst (λ (cs : List ℕ). slice_get (with_code_places p cs) i ≡ Some v) d at) in
    record { class = r.class; entries = r.entries; of = r.of; by = r.by; is = r.is }

-- What a file means is well formed, and has rows for its names.
use Rattle.std.proofs.Common.{◌≡◌, ◌≢◌, ℕ, zero, suc, ◌+◌, ◌<◌, ◌≤◌, Bool, true, false, List, [], ◌∷◌, length, map, take, Option, Some, None, refl, sym, ap, ◌∙◌, subst, arith, slice_get, get_or}
use Rattle.std.specs.Prelude.{MatchBool, ◌==◌, slice_index, sum, IfSome}
use Rattle.std.specs.List.{AllByRecursion, AllZip, flat_map}
use Rattle.std.specs.Cmp.{nat_cmp_is}
use Rattle.std.specs.Cmp.Lexicographic.{nat_list_cmp_total}
use Rattle.std.specs.Ordering.{ordering_then}
use Rattle.std.specs.declared.cmp.Ordering.{Ordering}
use Rattle.std.specs.declared.cmp.Ordering.TheVariants.{Less}
use Rattle.std.proofs.lemmas.Cmp.{tied_itself}
use Rattle.std.proofs.lemmas.Grind.{common_steps}
use Rattle.std.proofs.lemmas.List.{length-map}
use Rattle.std.proofs.lemmas.Option.{slice_get_within, IfSome_then}
use Rattle.dex_container.specs.Frame.{IsFramed}
use Rattle.dex_container.specs.Layout.{size_of}
use Rattle.dex_base.specs.Descriptor.{IsClass}
use Rattle.program_types.specs.Content.{Units, Proto, Name, OfText, OfDesc, OfField, OfMethod, Value, Code, Member, Method, Class, Program}
use Rattle.program_types.specs.Depth.{depth, most_depth}
use Rattle.program_types.specs.Key.{Key, key_cmp}
use Rattle.program_types.specs.Mentions.{if_any, names_of_value, names_of_code, field_of_class, names_of_method, names_of_class}
use Rattle.tables_rows.specs.Sorted.{TablesHold}
use Rattle.tables_rows.specs.Stands.{StringStands, TypeStands, ProtoStands, NameStands}
use Rattle.program_types.specs.Kinds.{void}
use Rattle.program_types.specs.Formed.{IsFormed, RegistersHold}
use Rattle.dex_base.specs.Fields.{AreBytes}
use Rattle.tables_rows.proofs.TypeLists.{indexes_of}
use Rattle.tables_rows.specs.Stands.{HasRow}
use Rattle.tables_laws.specs.inner.FileNames.{IsMentionedIn}
use Rattle.tables_laws.proofs.FileLemmas.{fields_compare, methods_compare, name_row_one}
use Rattle.dex_value.specs.Standing.{ArrayStands}
use Rattle.dex_value.proofs.FileFaults.{names_have_rows}
use Rattle.file_classes.specs.ClassRows.{class_word, no_index, IndexOrNone, NoneDefines}
use Rattle.file_classes.specs.ClassData.{FieldEntry, MethodEntry, steps, index_of, EntriesAre}
use Rattle.file_classes.specs.Classes as classes
use Rattle.file_classes.specs.Classes.{IsField, IsMethod, StaticsAt, CodeAt, SomeCodeStands, CodesAre, SpellsClass}
use Rattle.file_read.specs.Means.{Means}
use Rattle.file_classes.proofs.EntryLaws.{entry_at}
use Rattle.program_rules.specs.Valid.{IsValueType, IsValidProto, IsValidName}
use Rattle.program_rules.specs.Rules.{KeysRise, member_key, method_key, IsOfType, NoneFrom, AreDistinct, OrderHolds, CodesHold, RulesHold}
use Rattle.code_rules.proofs.OperandLaws.{formed_operands}
use Rattle.code_rules.specs.CodeRules.{OperandsHold, TargetsHold, PayloadsHold, TriesHold}
use Rattle.code_read.proofs.CodesFormed.{standing-formed}
use Rattle.code_read.proofs.NamesHaveRows as codes
use Rattle.dex_base.proofs.ListFacts.{all_append, all_there}

-- ---- a name that stands is one of its kind

params_valid : (b : List ℕ) (is : List ℕ) (ts : List Units) → AllZip (TypeStands b) is ts → AllByRecursion (λ (t : Units). t ≢ void) ts → AllByRecursion IsValueType ts
params_valid b is [] z all = tt
params_valid b [] (t ∷ ts) z all = absurd z
params_valid b (i ∷ is) (t ∷ ts) z all = (record { descriptor = z.0.descriptor; value = all.0 }, params_valid b is ts z.1 all.1)

proto_valid : (b : List ℕ) (i : ℕ) (p : Proto) → ProtoStands b i p → IsValidProto p
proto_valid b i p s = let x = indexes_of b _ p.params s.params in record { ret = s.ret.descriptor; params = params_valid b x.indexes p.params x.named s.values }

name_valid : (b : List ℕ) (i : ℕ) (name : Name) → NameStands b i name → IsValidName name
name_valid b i (OfText s) st = tt
name_valid b i (OfDesc t) st = st.descriptor
name_valid b i (OfField f) st = record { class = st.of_class; name = st.named; ty = record { descriptor = st.ty.descriptor; value = st.value } }
name_valid b i (OfMethod m) st = record { class = st.of_class; name = st.named; proto = proto_valid b _ m.proto st.proto }

all_valid : (b : List ℕ) (names : List Name) → AllByRecursion (HasRow b) names → AllByRecursion IsValidName names
all_valid b [] all = tt
all_valid b (n ∷ ns) all = (name_valid b all.0.0 n all.0.1, all_valid b ns all.1)

-- ---- names have rows

all_map : {V : Type 0} (P : Name → Type 0) (f : V → Name) (vs : List V) → ((k : ℕ) (v : V) → slice_get vs k ≡ Some v → P (f v)) → AllByRecursion P (map f vs)
all_map P f [] each = tt
all_map P f (v ∷ vs) each = (each 0 v refl, all_map P f vs (λ k. each (suc k)))

all_flat : {V : Type 0} (P : Name → Type 0) (f : V → List Name) (vs : List V) → ((k : ℕ) (v : V) → slice_get vs k ≡ Some v → AllByRecursion P (f v)) → AllByRecursion P (flat_map f vs)
all_flat P f [] each = tt
all_flat P f (v ∷ vs) each = all_append P (f v) (flat_map f vs) (each 0 v refl) (all_flat P f vs (λ k. each (suc k)))

-- the entry and what it stands for
pub run_entry : {R V : Type 0} (M : ℕ → ℕ × R → V → Type 0) (es : List (ℕ × R)) (vs : List V) → EntriesAre M es vs → (k : ℕ) (v : V) → slice_get vs k ≡ Some v → (e : ℕ × R) × (slice_get es k ≡ Some e) × M (index_of (steps es) k) e v
run_entry M es vs run k v at =
    let e = entry_at es k (let n = run.count in let l = slice_get_within vs k v at in omega (arith, n, l)) in
    (e.0, e.1, run.each k e.0 v e.1 at)

zip_at : {V : Type 0} (S : ℕ → V → Type 0) (is : List ℕ) (vs : List V) → AllZip S is vs → (k : ℕ) (v : V) → slice_get vs k ≡ Some v → (k < length is) × S (slice_index is k) v
zip_at S [] [] z k v at = absurd cc
zip_at S [] (w ∷ ws) z k v at = absurd z
zip_at S (i ∷ is) [] z k v at = absurd z
zip_at S (i ∷ is) (w ∷ ws) z zero v at = let e : w ≡ v = cc in (omega arith, subst (S i) e z.0)
zip_at S (i ∷ is) (w ∷ ws) z (suc k) v at = let x = zip_at S is ws z.1 k v at in (let lt = x.0 in omega (arith, lt), x.1)

module _ (b : List ℕ) where
  option_rows : (S : ℕ → Units → Type 0) (wrap : Units → Name) → ((k : ℕ) (n : Units) → S k n → HasRow b (wrap n)) → (k : ℕ) (name : Option Units) → IndexOrNone S k name → AllByRecursion (HasRow b) (if_any (λ t. wrap t ∷ []) name)
  option_rows S wrap up k None is = tt
  option_rows S wrap up k (Some n) is = (up k n is.1, tt)

  value_rows : (off most : ℕ) (vs : List Value) → StaticsAt b off most vs → AllByRecursion (HasRow b) (flat_map names_of_value vs)
  value_rows off most vs st = by (off == 0) st
    where
      by : (t : Bool) → MatchBool t (vs ≡ []) (ArrayStands (NameStands b) b off most vs) → AllByRecursion (HasRow b) (flat_map names_of_value vs)
      by true e = subst (λ (l : List Value). AllByRecursion (HasRow b) (flat_map names_of_value l)) (sym e) tt
      by false a = names_have_rows b off most vs a

  code_rows : (off : ℕ) (code : Option Code) → CodeAt b off code → AllByRecursion (HasRow b) (if_any names_of_code code)
  code_rows off code st = by (off == 0) st
    where
      by : (t : Bool) → MatchBool t (code ≡ None) (SomeCodeStands b off code) → AllByRecursion (HasRow b) (if_any names_of_code code)
      by true e = subst (λ (x : Option Code). AllByRecursion (HasRow b) (if_any names_of_code x)) (sym e) tt
      by false s = subst (λ (x : Option Code). AllByRecursion (HasRow b) (if_any names_of_code x)) (sym s.is) (codes.names-have-rows b off s.some s.stands)

  method_rows : (class : Units) (es : List MethodEntry) (ms : List Method) → EntriesAre (IsMethod b class) es ms → CodesAre b es ms → AllByRecursion (HasRow b) (flat_map (names_of_method class) ms)
  method_rows class es ms run are = all_flat (HasRow b) (names_of_method class) ms (λ k m at.
      let x = run_entry (IsMethod b class) es ms run k m at in
      ((index_of (steps es) k, x.2.method), code_rows x.0.1.1 m.code (are k x.0 m x.1 at)))

  field_rows : (class : Units) (es : List FieldEntry) (ms : List Member) → EntriesAre (IsField b class) es ms → AllByRecursion (HasRow b) (map (field_of_class class) ms)
  field_rows class es ms run = all_map (HasRow b) (field_of_class class) ms (λ k m at.
      let x = run_entry (IsField b class) es ms run k m at in (index_of (steps es) k, x.2.field))

  pub class_rows : (i : ℕ) (c : Class) → SpellsClass b i c → AllByRecursion (HasRow b) (names_of_class c)
  class_rows i c s =
      let h = s.head in
      let ms = h.members in
      let list = indexes_of b _ c.interfaces h.interfaces.types in
      let P = HasRow b in
      let above = option_rows (TypeStands b) OfDesc (λ k n st. (k, st)) (class_word b i 2) c.superclass h.row.above in
      let interfaces = all_map P OfDesc c.interfaces (λ k t at. (slice_index list.indexes k, (zip_at (TypeStands b) list.indexes c.interfaces list.named k t at).1)) in
      let source = option_rows (StringStands b) OfText (λ k n st. (k, st)) (class_word b i 4) c.source h.row.written_in in
      let statics = field_rows c.ty s.entries.statics c.statics ms.statics in
      let values = value_rows (class_word b i 7) (length s.entries.statics) c.values s.values in
      let instances = field_rows c.ty s.entries.instances c.instances ms.instances in
      let directs = method_rows c.ty s.entries.directs c.directs ms.directs s.directs in
      let virtuals = method_rows c.ty s.entries.virtuals c.virtuals ms.virtuals s.virtuals in (
        (class_word b i 0, h.row.named),
        all_append P _ _ (all_append P _ _ (all_append P _ _ (all_append P _ _ (all_append P _ _ (all_append P _ _ (all_append P _ _ above interfaces) source) statics) values) instances) directs) virtuals,
      )

  pub program_rows : (p : Program) → Means b p → IsMentionedIn p b
  program_rows p m = all_flat (HasRow b) names_of_class p (λ i c at. class_rows i c (m.classes.each i c at))

-- ---- members rise

same_head : (c : Units) (xs ys : Key) → key_cmp (c ∷ xs) (c ∷ ys) ≡ Less → key_cmp xs ys ≡ Less
same_head c xs ys e = subst (λ (o : Ordering). ordering_then o (key_cmp xs ys) ≡ Less) (tied_itself nat_list_cmp_total c) e

index_rises : {R : Type 0} (es : List (ℕ × R)) (k : ℕ) → 0 < slice_index (steps es) (k + 1) → index_of (steps es) k < index_of (steps es) (k + 1)
index_rises es k up =
    let s = steps es in
    let more : sum (take (k + 1 + 1) s) ≡ sum (take (k + 1) s) + get_or s (k + 1) 0 = grind (arith, common_steps) in
    omega (arith, more, up)

-- the key of an entry
key_at : {V : Type 0} (key : V → Key) (vs : List V) (k : ℕ) (v : V) → slice_get vs k ≡ Some v → get_or (map key vs) k [] ≡ key v
key_at key [] k v e = absurd cc
key_at key (w ∷ ws) zero v e = let s : w ≡ v = cc in ap key s
key_at key (w ∷ ws) (suc k) v e = key_at key ws k v e

-- where each is below the next one the keys rise
keys_rise : {V : Type 0} (key : V → Key) (vs : List V) → ((k : ℕ) (v w : V) → slice_get vs k ≡ Some v → slice_get vs (k + 1) ≡ Some w → key_cmp (key v) (key w) ≡ Less) → KeysRise (map key vs)
keys_rise key vs each k lt =
    let n = length-map vs key in
    let v = entry_at vs k (omega (arith, lt, n)) in
    let w = entry_at vs (k + 1) (omega (arith, lt, n)) in
    rw (key_at key vs k v.0 v.1, key_at key vs (k + 1) w.0 w.1) (each k v.0 w.0 v.1 w.1)

module _ (b : List ℕ) (framed : IsFramed b) (tables : TablesHold b) (class : Units) where
  fields_rise : (es : List FieldEntry) (ms : List Member) → EntriesAre (IsField b class) es ms → KeysRise (map member_key ms)
  fields_rise es ms run = keys_rise member_key ms (λ k v w at_v at_w.
      let x = run_entry (IsField b class) es ms run k v at_v in
      let y = run_entry (IsField b class) es ms run (k + 1) w at_w in
      let lt = index_rises es k (run.rises (k + 1) (omega arith) (slice_get_within es (k + 1) y.0 y.1)) in
      let e = fields_compare b framed tables (index_of (steps es) k) (index_of (steps es) (k + 1)) _ _ x.2.field y.2.field in
      same_head class (member_key v) (member_key w) (e ∙ sym (nat_cmp_is (index_of (steps es) k) (index_of (steps es) (k + 1)) Less lt)))

  methods_rise : (es : List MethodEntry) (ms : List Method) → EntriesAre (IsMethod b class) es ms → KeysRise (map method_key ms)
  methods_rise es ms run = keys_rise method_key ms (λ k v w at_v at_w.
      let x = run_entry (IsMethod b class) es ms run k v at_v in
      let y = run_entry (IsMethod b class) es ms run (k + 1) w at_w in
      let lt = index_rises es k (run.rises (k + 1) (omega arith) (slice_get_within es (k + 1) y.0 y.1)) in
      let e = methods_compare b framed tables (index_of (steps es) k) (index_of (steps es) (k + 1)) _ _ x.2.method y.2.method in
      same_head class (method_key v) (method_key w) (e ∙ sym (nat_cmp_is (index_of (steps es) k) (index_of (steps es) (k + 1)) Less lt)))

-- ---- order

of_type : (p : Program) (j : ℕ) (t : Units) → IsOfType p j t → (d : Class) × (slice_get p j ≡ Some d) × (d.ty ≡ t)
of_type [] j t is = absurd cc
of_type (c ∷ cs) zero t is = (c, refl, cc)
of_type (c ∷ cs) (suc j) t is = of_type cs j t is

are_distinct : (ts : List Units) → classes.NoTypeTwice ts → AreDistinct ts
are_distinct ts d k within j less same =
    let t = entry_at ts k within in
    let e = d j k t.0 (same ∙ t.1) t.1 in
    omega (arith, e, less)

if_all : {A : Type 0} (P : A → Type 0) (o : Option A) → ((x : A) → o ≡ Some x → P x) → IfSome o P
if_all P None h = tt
if_all P (Some x) h = h x refl

module _ (b : List ℕ) (p : Program) (m : Means b p) where
  -- a class of a type that stands at an index is in a row of that index
  defines : (j k : ℕ) (d : Class) (t : Units) → slice_get p j ≡ Some d → d.ty ≡ t → TypeStands b k t → class_word b j 0 ≡ k
  defines j k d t at same stands =
      let own = (m.classes.each j d at).head.row.named in
      name_row_one b m.framed m.tables (class_word b j 0) k (OfDesc t) (subst (λ (u : Units). TypeStands b (class_word b j 0) u) same own) stands

  within : (j : ℕ) (d : Class) → slice_get p j ≡ Some d → j < size_of b 5
  within j d at = let l = slice_get_within p j d at in let n = m.classes.count in omega (arith, l, n)

  none_is : (i k : ℕ) (t : Units) → NoneDefines b i (size_of b 5) k → TypeStands b k t → NoneFrom p i t
  none_is i k t none stands j low is =
      let d = of_type p j t is in
      none j low (within j d.0 d.1) (defines j k d.0 t d.1 d.2 stands)

  above_none : (i k : ℕ) (name : Option Units) → IndexOrNone (TypeStands b) k name → (k ≢ no_index → NoneDefines b i (size_of b 5) k) → IfSome name (NoneFrom p i)
  above_none i k None is none = tt
  above_none i k (Some n) is none = none_is i k n (none is.0) is.1

  class_order : (i : ℕ) (c : Class) → slice_get p i ≡ Some c → OrderHolds p i c
  class_order i c at =
      let s = m.classes.each i c at in
      let order = m.order i (within i c at) in
      let list = indexes_of b (class_word b i 3) c.interfaces s.head.interfaces.types in
      record {
        once = λ j lt is. let d = of_type p j c.ty is in order.once j (omega arith) lt (defines j (class_word b i 0) d.0 c.ty d.1 d.2 s.head.row.named);
        superclass = above_none i (class_word b i 2) c.superclass s.head.row.above order.superclass;
        interfaces = all_there _ c.interfaces (λ k t there. let x = zip_at (TypeStands b) list.indexes c.interfaces list.named k t there in none_is i (slice_index list.indexes k) t (order.interfaces list.indexes list.spelled k x.0) x.1);
        distinct = are_distinct c.interfaces s.head.interfaces.distinct;
      }

-- ---- values

values_fit : (b : List ℕ) (off most : ℕ) (vs : List Value) → StaticsAt b off most vs → (length vs ≤ most) × AllByRecursion (λ (v : Value). depth v ≤ most_depth) vs
values_fit b off most vs st = by (off == 0) st
  where
    by : (t : Bool) → MatchBool t (vs ≡ []) (ArrayStands (NameStands b) b off most vs) → (length vs ≤ most) × AllByRecursion (λ (v : Value). depth v ≤ most_depth) vs
    by true e = subst (λ (l : List Value). (length l ≤ most) × AllByRecursion (λ (v : Value). depth v ≤ most_depth) l) (sym e) (omega arith, tt)
    by false a = (a.few, a.deep)

-- ---- code

module _ (b : List ℕ) (are : AreBytes b) (framed : IsFramed b) where
  pub code_formed : (off : ℕ) (code : Option Code) → CodeAt b off code → IfSome code IsFormed
  code_formed off code st = by (off == 0) st
    where
      by : (t : Bool) → MatchBool t (code ≡ None) (SomeCodeStands b off code) → IfSome code IsFormed
      by true e = subst (λ (x : Option Code). IfSome x IsFormed) (sym e) tt
      by false s = subst (λ (x : Option Code). IfSome x IsFormed) (sym s.is) (standing-formed b are framed off s.some s.stands)

  codes_formed : (class : Units) (es : List MethodEntry) (ms : List Method) → EntriesAre (IsMethod b class) es ms → CodesAre b es ms → (Holds : Code → Type 0) → ((c : Code) → IsFormed c → Holds c) → AllByRecursion (λ (v : Method). IfSome v.code Holds) ms
  codes_formed class es ms run are_codes Holds f = all_there _ ms (λ k v at.
      let x = run_entry (IsMethod b class) es ms run k v at in
      IfSome_then v.code {P = IsFormed} {Q = Holds} (code_formed x.0.1.1 v.code (are_codes k x.0 v x.1 at)) f)

  class_codes : (i : ℕ) (c : Class) → SpellsClass b i c → (Holds : Code → Type 0) → ((d : Code) → IsFormed d → Holds d) → CodesHold Holds c
  class_codes i c s Holds f = record {
    directs = codes_formed c.ty s.entries.directs c.directs s.head.members.directs s.directs Holds f;
    virtuals = codes_formed c.ty s.entries.virtuals c.virtuals s.head.members.virtuals s.virtuals Holds f;
  }

-- ---- a program

pub rules_hold : (b : List ℕ) → AreBytes b → (p : Program) → Means b p → RulesHold p
rules_hold b are p m i c at =
    let s = m.classes.each i c at in
    let h = s.head in
    let ms = h.members in
    let fit = values_fit b (class_word b i 7) (length s.entries.statics) c.values s.values in
    record {
      names = record { all = all_valid b (names_of_class c) (class_rows b i c s); class = h.row.class; superclass = if_all IsClass c.superclass h.row.above_class; interfaces = h.interfaces.classes };
      members = record {
        statics = fields_rise b m.framed m.tables c.ty s.entries.statics c.statics ms.statics;
        instances = fields_rise b m.framed m.tables c.ty s.entries.instances c.instances ms.instances;
        directs = methods_rise b m.framed m.tables c.ty s.entries.directs c.directs ms.directs;
        virtuals = methods_rise b m.framed m.tables c.ty s.entries.virtuals c.virtuals ms.virtuals;
      };
      order = class_order b p m i c at;
      values = record { few = (let f = fit.0 in let n = ms.statics.count in omega (arith, f, n)); deep = fit.1 };
      operands = class_codes b are m.framed i c s OperandsHold (λ d f. formed_operands d f);
      targets = class_codes b are m.framed i c s TargetsHold (λ d f. f.targets);
      payloads = class_codes b are m.framed i c s PayloadsHold (λ d f. f.payloads);
      tries = class_codes b are m.framed i c s TriesHold (λ d f. f.tries);
      registers = class_codes b are m.framed i c s RegistersHold (λ d f. f.named);
    }

-- The numbers and units in what a file means lie in the ranges of their types.
use Rattle.std.proofs.Common.{◌≡◌, ℕ, ℤ, zero, suc, pos, negsuc, ◌*◌, ◌^◌, ◌<◌, ◌≤◌, Bool, true, false, List, [], ◌∷◌, length, Some, sym, subst, arith, slice_get}
use Rattle.std.specs.Prelude.{MatchBool, ◌==◌, slice_index, FitsSigned}
use Rattle.std.specs.Int.{Width, w8, w16, w32, w64}
use mir.Val.{hbits}
use Rattle.std.specs.List.{AllByRecursion, AllZip}
use Rattle.dex_base.specs.Fields.{AreBytes}
use Rattle.dex_base.specs.Grammar.{Each}
use Rattle.dex_base.specs.Leb128.{Spells}
use Rattle.dex_base.proofs.FieldBounds.{u32_at-fits}
use Rattle.dex_base.specs.Mutf8.{SpellsUnit}
use Rattle.dex_container.specs.Frame.{IsFramed}
use Rattle.dex_container.specs.Where.{At}
use Rattle.program_types.specs.Content.{Units, Proto, Name, OfText, OfDesc, OfField, OfMethod, Value, Values, no_values, more_values, Member, Method, Class, Program, AreUnits}
use Rattle.program_types.specs.Content as made
use Rattle.program_types.specs.Formed.{IsFormed}
use Rattle.program_types.specs.Mentions.{names_of_class}
use Rattle.program_rules.specs.Ranges.{ProtoInRange, NameInRange, ValueInRange, ValuesInRange, CodeInRange, MemberInRange, DefinedInRange, ClassInRange}
use Rattle.program_rules.specs.WellFormed.{WellFormed}
use Rattle.tables_rows.specs.Stands.{StringStands, TypeStands, ProtoStands, NameStands}
use Rattle.tables_rows.proofs.TypeLists.{indexes_of}
use Rattle.tables_rows.specs.Stands.{HasRow}
use Rattle.dex_value.specs.Spelling.{SpellsValue, SpellsValues, unsigned_of, signed_of, high_of}
use Rattle.dex_value.specs.Standing.{ArrayStands}
use Rattle.dex_value.specs.inner.Writing.{magnitude_of}
use Rattle.dex_value.proofs.Ranges.{power_most, unsigned_below, high_below}
use Rattle.dex_value.proofs.Narrow.{twos_size}
use Rattle.file_classes.specs.ClassRows.{class_word}
use Rattle.file_classes.specs.ClassData.{FieldEntry, MethodEntry, Entries, no_entries, SpellsFieldEntry, SpellsMethodEntry, SpellsEntries, EntriesAt, EntriesAre}
use Rattle.file_classes.specs.Classes.{IsField, IsMethod, StaticsAt, CodesAre, SpellsClass}
use Rattle.file_read.specs.Means.{Means}
use Rattle.file_read.proofs.WellLaws.{run_entry, class_rows, code_formed, rules_hold}
use Rattle.dex_base.proofs.ListFacts.{all_there}
use Rattle.std.proofs.lemmas.Option.{IfSome_then}

-- ---- names

each_unit : (bytes units : List ℕ) → Each SpellsUnit bytes units → AreUnits units
each_unit bytes [] s = tt
each_unit bytes (u ∷ us) s = (s.3.0, each_unit s.1 us s.4)

string_range : (b : List ℕ) (i : ℕ) (s : Units) → StringStands b i s → AreUnits s
string_range b i s st = let t = st.text.spelled.spelled.second in each_unit _ s t.1

type_range : (b : List ℕ) (i : ℕ) (t : Units) → TypeStands b i t → AreUnits t
type_range b i t st = string_range b _ t st.string

types_range : (b is : List ℕ) (ts : List Units) → AllZip (TypeStands b) is ts → AllByRecursion AreUnits ts
types_range b is [] z = tt
types_range b [] (t ∷ ts) z = absurd z
types_range b (i ∷ is) (t ∷ ts) z = (type_range b i t z.0, types_range b is ts z.1)

proto_range : (b : List ℕ) (i : ℕ) (p : Proto) → ProtoStands b i p → ProtoInRange p
proto_range b i p s = let x = indexes_of b _ p.params s.params in record { ret = type_range b _ p.ret s.ret; params = types_range b x.indexes p.params x.named }

name_range : (b : List ℕ) (i : ℕ) (name : Name) → NameStands b i name → NameInRange name
name_range b i (OfText s) st = string_range b i s st
name_range b i (OfDesc t) st = type_range b i t st
name_range b i (OfField f) st = record { class = type_range b _ f.class st.class; name = string_range b _ f.name st.name; ty = type_range b _ f.ty st.ty }
name_range b i (OfMethod m) st = record { class = type_range b _ m.class st.class; name = string_range b _ m.name st.name; proto = proto_range b _ m.proto st.proto }

names_range : (b : List ℕ) (names : List Name) → AllByRecursion (HasRow b) names → AllByRecursion NameInRange names
names_range b [] all = tt
names_range b (n ∷ ns) all = (name_range b all.0.0 n all.0.1, names_range b ns all.1)

-- ---- values

half : (n m : ℕ) → 2 * n < 2 * m → n < m
half n m h = omega (arith, h)

less : (a b c : ℕ) → a < b → b ≤ c → a < c
less a b c p q = omega (arith, p, q)

fits_signed : (w : Width) (z : ℤ) → 2 * magnitude_of z < 2 * 2 ^ hbits w → FitsSigned w z
fits_signed w (pos n) h = record { sfits = half n (2 ^ hbits w) h }
fits_signed w (negsuc n) h = record { sfits = half n (2 ^ hbits w) h }

module _ (low : List ℕ) (widest : ℕ) (some : 0 < length low) (few : length low ≤ widest) (bytes : (i : ℕ) → slice_index low i < 256) where
  own_below : unsigned_of low < 256 ^ length low
  own_below = unsigned_below low (length low) (omega arith) bytes

  signed_size : (z : ℤ) → z ≡ signed_of low → 2 * magnitude_of z < 256 ^ widest
  unfolding signed_of unsigned_of
  signed_size z e =
      let a = twos_size (length low) (unsigned_of low) some own_below in
      let p = power_most (length low) widest few in
      subst (λ (y : ℤ). 2 * magnitude_of y < 256 ^ widest) (sym e) (less _ _ _ a p)

  high_size : (n : ℕ) → n ≡ high_of widest low → n < 256 ^ widest
  unfolding high_of unsigned_of
  high_size n e = subst (λ (m : ℕ). m < 256 ^ widest) (sym e) (high_below (unsigned_of low) (length low) widest own_below few)

module _ (N : ℕ → Name → Type 0) where
  mutual
    value_range : (v : Value) (bytes : List ℕ) → SpellsValue N bytes v → ValueInRange v
    value_range (made.Byte n) bytes s = fits_signed w8 n (signed_size s.low 1 s.some s.few s.bytes n s.means)
    value_range (made.Short n) bytes s = fits_signed w16 n (signed_size s.low 2 s.some s.few s.bytes n s.means)
    value_range (made.Char unit) bytes s = subst (λ (m : ℕ). m < 65536) (sym s.means) (unsigned_below s.low 2 s.few s.bytes)
    value_range (made.Int n) bytes s = fits_signed w32 n (signed_size s.low 4 s.some s.few s.bytes n s.means)
    value_range (made.Long n) bytes s = fits_signed w64 n (signed_size s.low 8 s.some s.few s.bytes n s.means)
    value_range (made.Float bits) bytes s = high_size s.low 4 s.some s.few s.bytes bits s.means
    value_range (made.Double bits) bytes s = high_size s.low 8 s.some s.few s.bytes bits s.means
    value_range (made.Array vs) bytes s = values_range vs s.2.back s.2.means
    value_range _ bytes s = tt

    values_range : (vs : Values) (bytes : List ℕ) → SpellsValues N bytes vs → ValuesInRange vs
    values_range no_values bytes s = tt
    values_range (more_values v vs) bytes s = (value_range v s.0 s.3, values_range vs s.1 s.4)

  each_value : (vs : List Value) (bytes : List ℕ) → Each (SpellsValue N) bytes vs → AllByRecursion ValueInRange vs
  each_value [] bytes s = tt
  each_value (v ∷ vs) bytes s = (value_range v s.0 s.3, each_value vs s.1 s.4)

statics_range : (b : List ℕ) (off most : ℕ) (vs : List Value) → StaticsAt b off most vs → AllByRecursion ValueInRange vs
statics_range b off most vs st = by (off == 0) st
  where
    by : (t : Bool) → MatchBool t (vs ≡ []) (ArrayStands (NameStands b) b off most vs) → AllByRecursion ValueInRange vs
    by true e = subst (λ (l : List Value). AllByRecursion ValueInRange l) (sym e) tt
    by false a = let s = a.stands.spelled in each_value (NameStands b) vs s.back s.second.1

-- ---- members

field_flags : (bytes : List ℕ) (es : List FieldEntry) → Each (SpellsFieldEntry Spells) bytes es → (k : ℕ) (e : FieldEntry) → slice_get es k ≡ Some e → e.1 < 4294967296
field_flags bytes [] s k e at = absurd cc
field_flags bytes (f ∷ fs) s zero e at = let same : f ≡ e = cc in subst (λ (x : FieldEntry). x.1 < 4294967296) same s.3.second.range
field_flags bytes (f ∷ fs) s (suc k) e at = field_flags s.1 fs s.4 k e at

method_flags : (bytes : List ℕ) (es : List MethodEntry) → Each (SpellsMethodEntry Spells) bytes es → (k : ℕ) (e : MethodEntry) → slice_get es k ≡ Some e → e.1.0 < 4294967296
method_flags bytes [] s k e at = absurd cc
method_flags bytes (f ∷ fs) s zero e at = let same : f ≡ e = cc in subst (λ (x : MethodEntry). x.1.0 < 4294967296) same s.3.second.first.range
method_flags bytes (f ∷ fs) s (suc k) e at = method_flags s.1 fs s.4 k e at

no_entry : {R A : Type 0} (k : ℕ) (x : R) → slice_get [] k ≡ Some x → A
no_entry k x at = absurd cc

-- the flags of all entries are numbers of 32 bits
record FlagsFit (e : Entries) : Type 0 where
  statics : (k : ℕ) (x : FieldEntry) → slice_get e.statics k ≡ Some x → x.1 < 4294967296
  instances : (k : ℕ) (x : FieldEntry) → slice_get e.instances k ≡ Some x → x.1 < 4294967296
  directs : (k : ℕ) (x : MethodEntry) → slice_get e.directs k ≡ Some x → x.1.0 < 4294967296
  virtuals : (k : ℕ) (x : MethodEntry) → slice_get e.virtuals k ≡ Some x → x.1.0 < 4294967296

flags_fit : (b : List ℕ) (place : ℕ) (e : Entries) → EntriesAt b place e → FlagsFit e
flags_fit b place e st = by (place == 0) st
  where
    none : FlagsFit no_entries
    none = record { statics = λ k x at. no_entry k x at; instances = λ k x at. no_entry k x at; directs = λ k x at. no_entry k x at; virtuals = λ k x at. no_entry k x at }

    by : (t : Bool) → MatchBool t (e ≡ no_entries) (At (SpellsEntries Spells) b 0x2000 1 place e) → FlagsFit e
    by true same = subst FlagsFit (sym same) none
    by false a =
        let s = a.spelled.second in
        record {
          statics = field_flags _ e.statics s.first.1;
          instances = field_flags _ e.instances s.second.first.1;
          directs = method_flags _ e.directs s.second.second.first.1;
          virtuals = method_flags _ e.virtuals s.second.second.second.1;
        }

module _ (b : List ℕ) (class : Units) where
  fields_range : (es : List FieldEntry) (ms : List Member) → EntriesAre (IsField b class) es ms → ((k : ℕ) (x : FieldEntry) → slice_get es k ≡ Some x → x.1 < 4294967296) → AllByRecursion MemberInRange ms
  fields_range es ms run fit = all_there _ ms (λ k m at.
      let x = run_entry (IsField b class) es ms run k m at in
      subst (λ (n : ℕ). n < 4294967296) (sym x.2.flags) (fit k x.0 x.1))

  methods_range : AreBytes b → IsFramed b → (es : List MethodEntry) (ms : List Method) → EntriesAre (IsMethod b class) es ms → CodesAre b es ms → ((k : ℕ) (x : MethodEntry) → slice_get es k ≡ Some x → x.1.0 < 4294967296) → AllByRecursion DefinedInRange ms
  methods_range are framed es ms run codes fit = all_there _ ms (λ k m at.
      let x = run_entry (IsMethod b class) es ms run k m at in
      record {
        flags = subst (λ (n : ℕ). n < 4294967296) (sym x.2.flags) (fit k x.0 x.1);
        code = IfSome_then m.code {P = IsFormed} {Q = CodeInRange} (code_formed b are framed x.0.1.1 m.code (codes k x.0 m x.1 at)) (λ c f. record { registers = f.registers; ins = f.ins; outs = f.outs });
      })

-- ---- a program

word_fits : (b : List ℕ) (i j : ℕ) → AreBytes b → class_word b i j < 4294967296
unfolding class_word
word_fits b i j are = u32_at-fits b _ are

class_range : (b : List ℕ) → AreBytes b → IsFramed b → (i : ℕ) (c : Class) → SpellsClass b i c → ClassInRange c
class_range b are framed i c s =
    let ms = s.head.members in
    let fit = flags_fit b (class_word b i 6) s.entries s.head.class_data in
    record {
      flags = subst (λ (n : ℕ). n < 4294967296) (sym s.head.row.flagged) (word_fits b i 1 are);
      names = names_range b (names_of_class c) (class_rows b i c s);
      statics = fields_range b c.ty s.entries.statics c.statics ms.statics fit.statics;
      values = statics_range b (class_word b i 7) (length s.entries.statics) c.values s.values;
      instances = fields_range b c.ty s.entries.instances c.instances ms.instances fit.instances;
      directs = methods_range b c.ty are framed s.entries.directs c.directs ms.directs s.directs fit.directs;
      virtuals = methods_range b c.ty are framed s.entries.virtuals c.virtuals ms.virtuals s.virtuals fit.virtuals;
    }

pub well_formed : (b : List ℕ) → AreBytes b → (p : Program) → Means b p → WellFormed p
well_formed b are p m = record { ranges = all_there _ p (λ i c at. class_range b are m.framed i c (m.classes.each i c at)); rules = rules_hold b are p m }

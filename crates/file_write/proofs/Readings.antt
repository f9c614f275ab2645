-- What stands in the items of an assembled file, kind by kind.
use Rattle.std.proofs.Common.{◌≡◌, ℕ, zero, suc, ◌+◌, ◌<◌, false, List, [], ◌∷◌, length, refl, sym, ap, ◌∙◌, arith, Option, Some, None, inl, inr}
use Rattle.std.proofs.lemmas.Bool.{cases_lt}
use Rattle.std.specs.Prelude.{◌&&◌}
use Rattle.std.specs.List.{AllByRecursion, flat_map, slice_get}
use Rattle.code_read.proofs.CarryLaws.{SpellsCode-weaker}
use Rattle.code_write.proofs.PackedLaws.{packed-spells}
use Rattle.file_put.proofs.FitsLaws.{room_of}
use Rattle.file_put.proofs.OnceLaws.{sited_class, types_apart}
use Rattle.file_put.proofs.ReadyLaws.{class_can}
use Rattle.file_classes.specs.ClassData.{Entries, FieldEntry, EntriesAre, MethodEntry, index_of, steps}
use Rattle.file_limits.specs.Limits.{Fits}
use Rattle.file_limits.specs.Wide.{bodies_of}
use Rattle.file_limits.specs.inner.Wide.{body_values}
use Rattle.file_put.specs.inner.Data.{FieldRanks, MembersRank, MethodRanks, PacksData, ClassWithCodes, has_no_members, with_code_places}
use Rattle.file_put.specs.inner.Named.{BodyCanBePut}
use Rattle.file_put.proofs.RankedLists.{named_one}
use Rattle.program_rules.specs.WellFormed.{WellFormed}
use Rattle.program_types.specs.Content.{Class, Code, Descriptor, FieldRef, Member, Method, MethodRef, Name, Program, Value}
use Rattle.program_types.specs.Key.{field_ref_key, method_ref_key, text_key}
use Rattle.tables_names.specs.inner.Indices.{AreIndices}
use Rattle.tables_names.specs.Needed.{needed}
use Rattle.tables_names.specs.Rank.{IsAt}
use Rattle.file_write.specs.Packed.{SomeCode, SomeMembers, SomeTypes, SomeValues}
use Rattle.file_write.proofs.Sections.{Reads, Tells}
use Rattle.dex_base.specs.Leb128.{Shortest}
use Rattle.file_layout.specs.inner.Sections.{is_empty_list}
use Rattle.tables_names.specs.Closure.{Five, NameRanks}
use Rattle.file_put.specs.inner.Codes.{PacksBody, is_bodiless}
use Rattle.file_put.specs.inner.Lists.{SpellsRanks}
use Rattle.tables_rows.specs.Stands.{NameStands}
use Rattle.dex_value.specs.Spelling.{SpellsArray}
use Rattle.dex_value.proofs.Weaker.{SpellsArray-weaker}
use Rattle.file_write.proofs.Codes.{PacksCode-weaker}
use Rattle.dex_base.proofs.ListFacts.{all_append, zip_length, all_get}
use Rattle.file_classes.proofs.EntryLaws.{entry_at}
use Rattle.tables_names.proofs.PlaceLemmas.{one_key}

-- ---- type lists

pub some_list : {A : Type 0} (xs : List A) → is_empty_list xs ≡ false → 0 < length xs
some_list [] e = absurd cc
some_list (x ∷ xs) e = omega arith

-- indices of these types
abbrev pub AreIndicesOf : Five → List Descriptor → List ℕ → Type 0
AreIndicesOf s ts indexes = AreIndices s.types indexes ts

pub types_read : (s : Five) (vs : List (List Descriptor)) → Reads is_empty_list (SpellsRanks s) SomeTypes (AreIndicesOf s) vs
types_read s vs k ts at some bytes r =
    let n = zip_length (λ (i : ℕ) (t : Descriptor). IsAt s.types i (text_key t)) r.indexes ts r.named in
    let m = some_list ts some in
    (r.indexes, (r.spelled, omega (arith, n, m)), r.named)

pub types_told : (s : Five) (vs : List (List Descriptor)) → Tells is_empty_list (AreIndicesOf s) vs
types_told s vs i j ts us indexes at_i at_j some p q = named_one s indexes ts us p q

-- ---- static values

-- a shortest spelling is one by any grammar that spells the same
pub shortest_same : {V : Type 0} (G H : List ℕ → V → Type 0) → ((bytes : List ℕ) (v : V) → G bytes v → H bytes v) → ((bytes : List ℕ) (v : V) → H bytes v → G bytes v) → (bytes : List ℕ) (v : V) → Shortest G bytes v → Shortest H bytes v
shortest_same G H f g bytes v s = record { spelled = f bytes v s.spelled; least = λ other h. s.least other (g other v h) }

-- the code is the body
abbrev pub IsBodyOf : Option Code → Code → Type 0
IsBodyOf o c = o ≡ Some c

module _ (b : List ℕ) (s : Five) (each : (i : ℕ) (which : Name) → NameRanks s i which → NameStands b i which) (only : (i : ℕ) (which : Name) → NameStands b i which → NameRanks s i which) where
  pub values_read : (all : List (List Value)) → Reads is_empty_list (Shortest (SpellsArray (NameRanks s))) (SomeValues b) (◌≡◌ {A = List Value}) all
  values_read all k vs at some bytes r = (
    vs,
    (
      shortest_same (SpellsArray (NameRanks s)) (SpellsArray (NameStands b)) (SpellsArray-weaker (NameRanks s) (NameStands b) each) (SpellsArray-weaker (NameStands b) (NameRanks s) only) bytes vs r,
      some_list vs some,
    ),
    refl,
  )

  -- ---- code

  pub codes_read : (vs : List (Option Code)) → ((n : ℕ) (o : Option Code) → slice_get vs n ≡ Some o → BodyCanBePut s o) → Reads is_bodiless (PacksBody (NameRanks s)) (SomeCode b) IsBodyOf vs
  codes_read vs can n None at some bytes r = absurd r
  codes_read vs can n (Some c) at some bytes r =
      let k = can n (Some c) at in (
        c,
        record { spelled = SpellsCode-weaker (NameRanks s) (NameStands b) each bytes c (packed-spells (NameRanks s) c k.formed k.fits k.ranked.short bytes r); packed = PacksCode-weaker (NameRanks s) (NameStands b) each bytes c r },
        refl,
      )

-- ---- class data

some_of : (ws : List Member) (xs : List Member) (ys : List Method) (zs : List Method) → (is_empty_list ws && is_empty_list xs && is_empty_list ys && is_empty_list zs) ≡ false → 0 < length ws + length xs + length ys + length zs
some_of [] [] [] [] e = absurd cc
some_of [] [] [] (z ∷ zs) e = omega arith
some_of [] [] (y ∷ ys) zs e = omega arith
some_of [] (x ∷ xs) ys zs e = omega arith
some_of (w ∷ ws) xs ys zs e = omega arith

-- entries of its members
abbrev pub AreEntriesOf : Five → ClassWithCodes → Entries → Type 0
AreEntriesOf s v entries = MembersRank (NameRanks s) entries v.class

pub members_read : (s : Five) (vs : List ClassWithCodes) → Reads has_no_members (PacksData (NameRanks s)) SomeMembers (AreEntriesOf s) vs
members_read s vs k v at some bytes r =
    let n = some_of v.class.statics v.class.instances v.class.directs v.class.virtuals some in
    let a = r.members.statics.count in
    let c = r.members.instances.count in
    let d = r.members.directs.count in
    let e = r.members.virtuals.count in
    (r.entries, (r.spelled, omega (arith, n, a, c, d, e)), r.members)

-- ---- entries tell their class

field_class : (f g : FieldRef) → field_ref_key f ≡ field_ref_key g → f.class ≡ g.class
field_class f g e = cc

method_class : (f g : MethodRef) → method_ref_key f ≡ method_ref_key g → f.class ≡ g.class
method_class f g e = cc

fields_told : (s : Five) (c d : Descriptor) (es : List FieldEntry) (ms ns : List Member) → 0 < length ms → EntriesAre (FieldRanks (NameRanks s) c) es ms → EntriesAre (FieldRanks (NameRanks s) d) es ns → c ≡ d
fields_told s c d es ms ns some p q =
    let k = p.count in let l = q.count in
    let e = entry_at es 0 (omega (arith, some, k)) in let m = entry_at ms 0 some in let n = entry_at ns 0 (omega (arith, some, k, l)) in
    let f : FieldRef = record { class = c; name = m.0.name; ty = m.0.ty } in
    let g : FieldRef = record { class = d; name = n.0.name; ty = n.0.ty } in
    let x = p.each 0 e.0 m.0 e.1 m.1 in let y = q.each 0 e.0 n.0 e.1 n.1 in
    field_class f g (one_key s.fields (index_of (steps es) 0) (field_ref_key f) (field_ref_key g) x.field y.field)

methods_told : (s : Five) (c d : Descriptor) (es : List MethodEntry) (ms ns : List Method) → 0 < length ms → EntriesAre (MethodRanks (NameRanks s) c) es ms → EntriesAre (MethodRanks (NameRanks s) d) es ns → c ≡ d
methods_told s c d es ms ns some p q =
    let k = p.count in let l = q.count in
    let e = entry_at es 0 (omega (arith, some, k)) in let m = entry_at ms 0 some in let n = entry_at ns 0 (omega (arith, some, k, l)) in
    let f : MethodRef = record { class = c; name = m.0.name; proto = m.0.proto } in
    let g : MethodRef = record { class = d; name = n.0.name; proto = n.0.proto } in
    let x = p.each 0 e.0 m.0 e.1 m.1 in let y = q.each 0 e.0 n.0 e.1 n.1 in
    method_class f g (one_key s.methods (index_of (steps es) 0) (method_ref_key f) (method_ref_key g) x.method y.method)

class_told : (s : Five) (e : Entries) (c d : Class) → 0 < length c.statics + length c.instances + length c.directs + length c.virtuals
    → MembersRank (NameRanks s) e c → MembersRank (NameRanks s) e d → c.ty ≡ d.ty
class_told s e c d some p q = elim (cases_lt 0 (length c.statics)) [
  | inl lt ↦ fields_told s c.ty d.ty e.statics c.statics d.statics lt p.statics q.statics
  | inr w ↦ elim (cases_lt 0 (length c.instances)) [
    | inl lt ↦ fields_told s c.ty d.ty e.instances c.instances d.instances lt p.instances q.instances
    | inr x ↦ elim (cases_lt 0 (length c.directs)) [
      | inl lt ↦ methods_told s c.ty d.ty e.directs c.directs d.directs lt p.directs q.directs
      | inr y ↦ methods_told s c.ty d.ty e.virtuals c.virtuals d.virtuals (omega (arith, some, w, x, y)) p.virtuals q.virtuals
    ]
  ]
]

pub members_told : (s : Five) (p : Program) (codes : List ℕ) → WellFormed p → Tells has_no_members (AreEntriesOf s) (with_code_places p codes)
members_told s p codes well i j u v entries at_i at_j some x y =
    let t = class_told s entries u.class v.class (some_of u.class.statics u.class.instances u.class.directs u.class.virtuals some) x y in
    let n = types_apart p well i j u.class v.class (sited_class p codes i u at_i) (sited_class p codes j v at_j) t in
    let found : Some u ≡ Some v = sym at_i ∙ ap (λ (k : ℕ). slice_get (with_code_places p codes) k) n ∙ at_j in
    cc

-- ---- bodies can be written

all_bodies : (P : Option Code → Type 0) (p : Program) → ((i : ℕ) (c : Class) → slice_get p i ≡ Some c → AllByRecursion P (bodies_of c)) → AllByRecursion P (flat_map bodies_of p)
all_bodies P [] f = tt
all_bodies P (c ∷ p) f = all_append P (bodies_of c) (flat_map bodies_of p) (f zero c refl) (all_bodies P p (λ i d e. f (suc i) d e))

pub bodies_can : (p : Program) → WellFormed p → Fits p → (n : ℕ) (o : Option Code) → slice_get (body_values p) n ≡ Some o → BodyCanBePut (needed p) o
bodies_can p w fits n o at =
    all_get (BodyCanBePut (needed p)) (body_values p) n o
    (all_bodies (BodyCanBePut (needed p)) p (λ i c e. class_can (needed p) p i c refl w fits (room_of (needed p) p refl fits) e)) at

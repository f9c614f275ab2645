-- Names by index: the rows of names that are held, and their order.
use Rattle.std.proofs.Common.{◌≡◌, ℕ, ◌<◌, ◌≤◌, List, [], ◌∷◌, map, Some, None, refl, sym, ap, ◌∙◌, arith, ⊎_elim}
use Rattle.std.proofs.lemmas.Bool.{cases_lt, or_right}
use Rattle.std.specs.Ordering.{nat_cmp, ordering_then, eq_by_cmp}
use Rattle.std.specs.declared.cmp.Ordering.TheVariants.{Less, Equal, Greater}
use Rattle.std.specs.Cmp.{nat_cmp_is}
use Rattle.std.specs.Cmp.Lexicographic.{slice_cmp}
use Rattle.std.specs.List.{AllByRecursion}
use Rattle.std.proofs.lemmas.Option.{slice_get_within}
use Rattle.program_types.specs.Content.{Units, Name, OfText, OfDesc, OfField, OfMethod}
use Rattle.program_types.specs.Key.{Key, key_cmp, units_cmp, text_key, proto_key, field_ref_key, method_ref_key}
use Rattle.program_types.specs.KeyLaws.{ordering_then-equal}
use Rattle.program_types.specs.Shorty.{shorty}
use Rattle.tables_names.specs.Rank.{Rising, is_member, IsSubset, IsAt}
use Rattle.tables_names.specs.Closure.{Five, NameRanks, proto_closure}
use Rattle.tables_names.specs.inner.Closure.{Holds}
use Rattle.program_types.specs.Mentions.{mentions}
use Rattle.tables_names.specs.Needed.{needed}
use Rattle.tables_names.specs.inner.Indices.{HasRank, AreIndices, ClosedHaveRows, RisingTablesRise, LookUpsAnswer, MentionsHaveIndices}
use Rattle.tables_names.proofs.SubsetLemmas.{member_here}
use Rattle.tables_names.proofs.RowLemmas.{keys_compare_as_indices}
use Rattle.tables_names.proofs.PlaceLemmas.{member_at, member_index, rank_at, index_none}
use Rattle.tables_names.proofs.NeededLemmas.{needed_is_least}

-- ---- look-ups

pub look_ups_answer : LookUpsAnswer
look_ups_answer table i k (Some j) up few at has = ap Some (has.1 ∙ rank_at table i k up at)
look_ups_answer table i k None up few at has =
    absurd (index_none table k i up has (omega (arith, few, slice_get_within table i k at)) at)

-- ---- names that are held have rows

-- the first of a part of a set has an index, and the others are a part
first_place : (k : Key) (ks table : List Key) → IsSubset (k ∷ ks) table → HasRank table k
first_place k ks table part = member_index table k (part.each k (member_here k ks))

others : (k : Key) (ks table : List Key) → IsSubset (k ∷ ks) table → IsSubset ks table
others k ks table part = record { each = λ j h. part.each j (or_right (eq_by_cmp key_cmp j k) (is_member ks j) h) }

-- texts that a table has, have indices
indices_of : (table : List Key) (texts : List Units) → IsSubset (map text_key texts) table → (row : List ℕ) × AreIndices table row texts
indices_of table [] part = ([], tt)
indices_of table (t ∷ texts) part =
    let here = first_place (text_key t) (map text_key texts) table part in
    let rest = indices_of table texts (others (text_key t) (map text_key texts) table part) in
    (here.0 ∷ rest.0, (here.1, rest.1))

pub closed_have_rows : ClosedHaveRows
closed_have_rows s f =
    record {
      types = λ i t at.
          first_place (text_key t) [] s.strings (f.of_types (text_key t) (member_at s.types i (text_key t) at)).strings;
      shorties = λ i p at.
          first_place (text_key (shorty p)) (map text_key (proto_key p)) s.strings (f.of_protos (proto_key p) (member_at s.protos i (proto_key p) at)).strings;
      protos = λ i p at.
          indices_of s.types (proto_key p) (f.of_protos (proto_key p) (member_at s.protos i (proto_key p) at)).types;
      fields = λ i k at.
          let parts = f.of_fields (field_ref_key k) (member_at s.fields i (field_ref_key k) at) in
          let class = first_place (text_key k.class) (text_key k.ty ∷ []) s.types parts.types in
          let ty = first_place (text_key k.ty) [] s.types (others (text_key k.class) (text_key k.ty ∷ []) s.types parts.types) in
          let name = first_place (text_key k.name) (text_key k.ty ∷ []) s.strings (others (text_key k.class) (text_key k.name ∷ text_key k.ty ∷ []) s.strings parts.strings) in
          (class.0 ∷ name.0 ∷ ty.0 ∷ [], record { class = class.0; name = name.0; ty = ty.0; row_is = refl; class_is = class.1; name_is = name.1; ty_is = ty.1 });
      methods = λ i m at.
          let k = proto_key m.proto in
          let parts = f.of_methods (method_ref_key m) (member_at s.methods i (method_ref_key m) at) in
          let class = first_place (text_key m.class) (proto_closure k).types s.types parts.types in
          let name = first_place (text_key m.name) (proto_closure k).strings s.strings (others (text_key m.class) (text_key m.name ∷ (proto_closure k).strings) s.strings parts.strings) in
          let proto = first_place k [] s.protos parts.protos in
          (class.0 ∷ name.0 ∷ proto.0 ∷ [], record { class = class.0; name = name.0; proto = proto.0; row_is = refl; class_is = class.1; name_is = name.1; proto_is = proto.1 });
    }

-- ---- rows rise

-- texts compare as their indices
pub units_by_index : (table : List Key) (i j : ℕ) (t u : Units) → Rising table → IsAt table i (text_key t) → IsAt table j (text_key u) → units_cmp t u ≡ nat_cmp i j
units_by_index table i j t u up at_i at_j =
    ordering_then-equal (units_cmp t u) ∙ keys_compare_as_indices table i j (text_key t) (text_key u) up at_i at_j

pub texts_by_index : (table : List Key) → Rising table → (xs ys : List ℕ) (ts us : List Units) → AreIndices table xs ts → AreIndices table ys us → key_cmp ts us ≡ slice_cmp nat_cmp xs ys
texts_by_index table up [] [] [] [] a b = refl
texts_by_index table up [] (y ∷ ys) [] (u ∷ us) a b = refl
texts_by_index table up (x ∷ xs) [] (t ∷ ts) [] a b = refl
texts_by_index table up (x ∷ xs) (y ∷ ys) (t ∷ ts) (u ∷ us) a b =
    λ i. ordering_then (units_by_index table x y t u up a.0 b.0 i) (texts_by_index table up xs ys ts us a.1 b.1 i)
texts_by_index table up [] ys (t ∷ ts) us a b = absurd a
texts_by_index table up (x ∷ xs) ys [] us a b = absurd a
texts_by_index table up xs [] ts (u ∷ us) a b = absurd b
texts_by_index table up xs (y ∷ ys) ts [] a b = absurd b

-- numbers that compare as less are
pub less_than : (i j : ℕ) → nat_cmp i j ≡ Less → i < j
less_than i j less =
    ⊎_elim
    (λ (lt : i < j). lt)
    (λ (ge : j ≤ i).
    ⊎_elim
    (λ (gt : j < i). let e : Less ≡ Greater = sym less ∙ sym (nat_cmp_is i j Greater gt) in cc)
    (λ (le : i ≤ j). let same : i ≡ j = omega arith in let e : Less ≡ Equal = sym less ∙ sym (nat_cmp_is i j Equal same) in cc)
    (cases_lt j i))
    (cases_lt i j)

-- keys with rising indices are less
below : (table : List Key) (i j : ℕ) (a b : Key) → Rising table → i < j → IsAt table i a → IsAt table j b → key_cmp a b ≡ Less
below table i j a b up lt at_i at_j = keys_compare_as_indices table i j a b up at_i at_j ∙ sym (nat_cmp_is i j Less lt)

pub rising_tables_rise : RisingTablesRise
rising_tables_rise s up =
    record {
      types = λ i j a b t u lt at_i at_j at_a at_b.
          let less : nat_cmp a b ≡ Less = sym (keys_compare_as_indices s.strings a b (text_key t) (text_key u) up.strings at_a at_b) ∙ below s.types i j (text_key t) (text_key u) up.types lt at_i at_j in
          less_than a b less;
      protos = λ i j p q row next lt at_i at_j r n.
          sym (texts_by_index s.types up.types row next (proto_key p) (proto_key q) r n) ∙ below s.protos i j (proto_key p) (proto_key q) up.protos lt at_i at_j;
      fields = λ i j f g row next lt at_i at_j r n.
          let class = units_by_index s.types r.class n.class f.class g.class up.types r.class_is n.class_is in
          let name = units_by_index s.strings r.name n.name f.name g.name up.strings r.name_is n.name_is in
          let ty = units_by_index s.types r.ty n.ty f.ty g.ty up.types r.ty_is n.ty_is in
          let same : key_cmp (field_ref_key f) (field_ref_key g) ≡ slice_cmp nat_cmp (r.class ∷ r.name ∷ r.ty ∷ []) (n.class ∷ n.name ∷ n.ty ∷ []) =
          λ t. ordering_then (class t) (ordering_then (name t) (ordering_then (ty t) Equal)) in
          rw (r.row_is, n.row_is) (sym same ∙ below s.fields i j (field_ref_key f) (field_ref_key g) up.fields lt at_i at_j);
      methods = λ i j l m row next lt at_i at_j r n.
          let class = units_by_index s.types r.class n.class l.class m.class up.types r.class_is n.class_is in
          let name = units_by_index s.strings r.name n.name l.name m.name up.strings r.name_is n.name_is in
          let proto = keys_compare_as_indices s.protos r.proto n.proto (proto_key l.proto) (proto_key m.proto) up.protos r.proto_is n.proto_is ∙ ordering_then-equal (nat_cmp r.proto n.proto) in
          let same : key_cmp (method_ref_key l) (method_ref_key m) ≡ slice_cmp nat_cmp (r.class ∷ r.name ∷ r.proto ∷ []) (n.class ∷ n.name ∷ n.proto ∷ []) =
          λ t. ordering_then (class t) (ordering_then (name t) (proto t)) in
          rw (r.row_is, n.row_is) (sym same ∙ below s.methods i j (method_ref_key l) (method_ref_key m) up.methods lt at_i at_j);
    }

-- ---- what a program mentions

pub held_has_index : (s : Five) (name : Name) → Holds s name → (i : ℕ) × NameRanks s i name
held_has_index s (OfText t) h = member_index s.strings (text_key t) h
held_has_index s (OfDesc t) h = member_index s.types (text_key t) h
held_has_index s (OfField f) h = member_index s.fields (field_ref_key f) h
held_has_index s (OfMethod m) h = member_index s.methods (method_ref_key m) h

each_has_index : (s : Five) (names : List Name) → AllByRecursion (Holds s) names → AllByRecursion (λ name. (i : ℕ) × NameRanks s i name) names
each_has_index s [] h = tt
each_has_index s (n ∷ names) h = (held_has_index s n h.0, each_has_index s names h.1)

pub mentions_have_indices : MentionsHaveIndices
mentions_have_indices p = each_has_index (needed p) (mentions p) (needed_is_least p).1.holds

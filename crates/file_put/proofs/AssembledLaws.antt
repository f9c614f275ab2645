-- A finished file is assembled.
use Rattle.std.proofs.Common.{◌≡◌, ℕ, ◌+◌, ◌*◌, ◌≤◌, List, [], ◌∷◌, ◌++◌, length, map, drop, sym, ap, ◌∙◌, arith, subst, length-append}
use Rattle.std.proofs.lemmas.List.{length-map}
use Rattle.dex_base.specs.Grammar.{Each}
use Rattle.dex_base.specs.Words.{words_bytes}
use Rattle.file_layout.specs.inner.Finished.{Finishes}
use Rattle.file_layout.specs.inner.Plan.{tables_end}
use Rattle.file_layout.specs.inner.Sections.{is_empty_list, never}
use Rattle.file_layout.specs.Tiles.{IsNext}
use Rattle.file_layout.specs.inner.Tiles.{Refers}
use Rattle.file_layout.specs.declared.plan.Plan.{Plan}
use Rattle.file_layout.proofs.FinishLaws.{length-words}
use Rattle.file_limits.specs.Wide.{params_of}
use Rattle.file_limits.specs.inner.Wide.{array_values, list_values, text_values}
use Rattle.tables_names.specs.Closure.{Five}
use Rattle.tables_names.specs.Rows.{first_of}
use Rattle.program_types.specs.Content.{Class, Program}
use Rattle.program_types.specs.Key.{Key}
use Rattle.file_put.specs.inner.Rows.{SpellsFieldRow, SpellsMethodRow, SpellsProtoRow, SpellsProtos, SpellsTable, SpellsTypeRow}
use Rattle.file_put.specs.inner.Data.{has_no_members, with_code_places}
use Rattle.file_put.proofs.SitedLaws.{length-sited}
use Rattle.file_put.specs.inner.ClassDefs.{ClassWithPlaces, SpellsClassRow}
use Rattle.file_put.proofs.PlacedClasses.{length-seated}
use Rattle.file_put.specs.inner.Assembled.{Assembled, DataIsLaid, DataLies, Places, SpellsTables, rows_of}
use Rattle.file_put.proofs.DataParts.{lies_agree}
use Rattle.file_put.proofs.AtLaws.{method_size, field_size, proto_size, type_size}
use Rattle.dex_base.proofs.ListFacts.{zip_length}

-- ---- how many places there are

module _ (b : List ℕ) (s : Five) (p : Program) (plan : Plan) (at : Places) (l : DataLies b s p plan at) where
  pub list_count : length at.lists ≡ length s.protos + length p
  list_count =
      let z = zip_length (Refers is_empty_list l.lists.items) at.lists (list_values s p) l.lists.each in
      let a = length-append (map params_of s.protos) (map (λ (c : Class). c.interfaces) p) in
      let m = length-map s.protos params_of in
      let n = length-map p (λ (c : Class). c.interfaces) in
      omega (arith, z, a, m, n)

  pub text_count : length at.texts ≡ length s.strings
  text_count = zip_length (Refers never l.strings.items) at.texts (text_values s) l.strings.each ∙ length-map s.strings first_of

  pub array_count : length at.arrays ≡ length p
  array_count = zip_length (Refers is_empty_list l.arrays.items) at.arrays (array_values p) l.arrays.each ∙ length-map p (λ (c : Class). c.values)

  pub data_count : length at.datas ≡ length p
  data_count = zip_length (Refers has_no_members l.datas.items) at.datas (with_code_places p at.codes) l.datas.each ∙ length-sited p at.codes

-- ---- how long the rows are

-- rows of so many bytes each
pub each_long : {V : Type 0} (G : List ℕ → V → Type 0) (size : ℕ) → ((bytes : List ℕ) (v : V) → G bytes v → length bytes ≡ size) → (bytes : List ℕ) (vs : List V) → Each G bytes vs → length bytes ≡ size * length vs
each_long G size one bytes [] e = ap length e ∙ omega arith
each_long G size one bytes (v ∷ vs) e =
    let n = ap length e.2 ∙ length-append e.0 e.1 in
    let f = one e.0 v e.3 in
    let r = each_long G size one e.1 vs e.4 in
    omega (arith, n, f, r)

pub class_long : (s : Five) (bytes : List ℕ) (v : ClassWithPlaces) → SpellsClassRow s bytes v → length bytes ≡ 32
class_long s bytes v r = ap length r.whole ∙ length-words _

pub table_long : {V : Type 0} (key : V → Key) (G : List ℕ → V → Type 0) (size : ℕ) → ((bytes : List ℕ) (v : V) → G bytes v → length bytes ≡ size) → (bytes : List ℕ) (table : List Key) → SpellsTable key G bytes table → length bytes ≡ size * length table
table_long key G size one bytes table t =
    let r = each_long G size one bytes t.names t.rows in
    let k = ap length t.keys in
    let m = length-map t.names key in
    let n : length t.names ≡ length table = sym m ∙ k in
    r ∙ ap (λ (x : ℕ). size * x) n

pub protos_long : (s : Five) (places bytes : List ℕ) (table : List Key) → SpellsProtos s places bytes table → length bytes ≡ 12 * length table
protos_long s places bytes table t =
    let r = each_long (SpellsProtoRow s) 12 (proto_size s) bytes t.names t.rows in
    let n : length t.names ≡ length table = sym (length-map t.names _) ∙ ap length t.keys in
    omega (arith, r, n)

pub row_count : (s : Five) (p : Program) (at : Places) (rows : List ℕ) → SpellsTables s p at rows → 112 + length rows ≡ tables_end (rows_of s p)
row_count s p at rows t =
    let r = t.name_rows in
    let w = ap length t.whole ∙ length-append t.names t.classes in
    let n0 = ap length r.whole ∙ length-append (words_bytes at.texts) (r.types ++ (r.protos ++ (r.fields ++ r.methods))) in
    let n1 = length-append r.types (r.protos ++ (r.fields ++ r.methods)) in
    let n2 = length-append r.protos (r.fields ++ r.methods) in
    let n3 = length-append r.fields r.methods in
    let m0 = length-words at.texts in
    let m1 = r.string_ids in
    let m2 = table_long _ (SpellsTypeRow s) 4 (type_size s) r.types s.types r.type_ids in
    let m3 = protos_long s _ r.protos s.protos r.proto_ids in
    let m4 = table_long _ (SpellsFieldRow s) 8 (field_size s) r.fields s.fields r.field_ids in
    let m5 = table_long _ (SpellsMethodRow s) 8 (method_size s) r.methods s.methods r.method_ids in
    let m6 = each_long (SpellsClassRow s) 32 (class_long s) t.classes _ t.class_rows in
    let m7 = length-seated p (drop (length s.protos) at.lists) at.datas at.arrays in
    omega (arith, w, n0, n1, n2, n3, m0, m1, m2, m3, m4, m5, m6, m7)

-- ---- the file

pub assembled : (out b : List ℕ) (s : Five) (p : Program) (plan : Plan) (at : Places) (rows : List ℕ)
    → DataIsLaid out s p plan at → SpellsTables s p at rows → Finishes out b plan rows → length b ≤ length out + 163 → Assembled b s p
assembled out b s p plan at rows d t f short = record {
  plan = plan;
  map = f.map;
  at = at;
  written = f.written;
  next = subst (λ (n : ℕ). IsNext 4 b n f.map) d.end f.next;
  counts = d.counts;
  lies = lies_agree out b s p plan at d f.same;
  once = d.once;
  rows = rows;
  rows_are = f.rows_are;
  tables = t;
  bytes = f.bytes;
  short = let n = d.bound in omega (arith, n, short);
}

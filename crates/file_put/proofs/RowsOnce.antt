-- Names and places decide the rows of a file's tables.
use Rattle.std.proofs.Common.{◌≡◌, ℕ, List, [], ◌∷◌, ◌++◌, map, sym, ap, ◌∙◌, Option, Some, None}
use Rattle.dex_base.specs.Fields.{u16_bytes, u32_bytes}
use Rattle.dex_base.specs.Grammar.{Each}
use Rattle.dex_base.specs.Words.{words_bytes}
use Rattle.program_types.specs.Content.{Units, Proto}
use Rattle.program_types.specs.Key.{Key, text_key, proto_key, field_ref_key, method_ref_key}
use Rattle.program_types.specs.Shorty.{shorty}
use Rattle.tables_names.specs.Rank.{Rising, IsAt}
use Rattle.tables_names.specs.Closure.{Five, AreRising}
use Rattle.file_classes.specs.ClassRows.{IndexOrNone}
use Rattle.file_put.specs.inner.Rows.{SpellsTypeRow, SpellsProtoRow, SpellsFieldRow, SpellsMethodRow, SpellsTable, SpellsRows}
use Rattle.file_put.specs.inner.ClassDefs.{ClassWithPlaces, SpellsClassRow}
use Rattle.tables_names.proofs.PlaceLemmas.{one_place}

-- the same of two keys that are equal
place_same : (ks : List Key) (i j : ℕ) (k l : Key) → Rising ks → k ≡ l → IsAt ks i k → IsAt ks j l → i ≡ j
place_same ks i j k l r e p q = one_place ks i j k r p (q ∙ ap (λ (x : Key). Some x) (sym e))

-- ---- tables of names

-- rows that keys decide
abbrev IsKeyed : {V : Type 0} → (V → Key) → (List ℕ → V → Type 0) → Type 0
IsKeyed {V} key G = (a b : List ℕ) (v w : V) → key v ≡ key w → G a v → G b w → a ≡ b

keyed_rows : {V : Type 0} (key : V → Key) (G : List ℕ → V → Type 0) → IsKeyed key G → (vs ws : List V) (a b : List ℕ) → map key vs ≡ map key ws → Each G a vs → Each G b ws → a ≡ b
keyed_rows key G one [] [] a b e p q = p ∙ sym q
keyed_rows key G one [] (w ∷ ws) a b e p q = absurd cc
keyed_rows key G one (v ∷ vs) [] a b e p q = absurd cc
keyed_rows key G one (v ∷ vs) (w ∷ ws) a b e p q =
    let head : key v ≡ key w = cc in
    let tail : map key vs ≡ map key ws = cc in
    let here = one p.0 q.0 v w head p.3 q.3 in
    let rest = keyed_rows key G one vs ws p.1 q.1 tail p.4 q.4 in
    p.2 ∙ (λ k. here k ++ rest k) ∙ sym q.2

table_once : {V : Type 0} (key : V → Key) (G : List ℕ → V → Type 0) → IsKeyed key G → (a b : List ℕ) (table : List Key) → SpellsTable key G a table → SpellsTable key G b table → a ≡ b
table_once key G one a b table p q = keyed_rows key G one p.names q.names a b (p.keys ∙ sym q.keys) p.rows q.rows

module _ (s : Five) (rising : AreRising s) where
  type_row : IsKeyed text_key (SpellsTypeRow s)
  type_row a b t u e p q =
      let d = place_same s.strings p.descriptor q.descriptor (text_key t) (text_key u) rising.strings e p.descriptor_is q.descriptor_is in
      p.whole ∙ ap u32_bytes d ∙ sym q.whole

  field_row : IsKeyed field_ref_key (SpellsFieldRow s)
  field_row a b f g e p q =
      let c : f.class ≡ g.class = cc in let n : f.name ≡ g.name = cc in let t : f.ty ≡ g.ty = cc in
      let x = place_same s.types p.class q.class (text_key f.class) (text_key g.class) rising.types (ap text_key c) p.class_is q.class_is in
      let y = place_same s.types p.ty q.ty (text_key f.ty) (text_key g.ty) rising.types (ap text_key t) p.ty_is q.ty_is in
      let z = place_same s.strings p.name q.name (text_key f.name) (text_key g.name) rising.strings (ap text_key n) p.name_is q.name_is in
      p.whole ∙ (λ k. u16_bytes (x k) ++ (u16_bytes (y k) ++ u32_bytes (z k))) ∙ sym q.whole

  method_row : IsKeyed method_ref_key (SpellsMethodRow s)
  method_row a b f g e p q =
      let c : f.class ≡ g.class = cc in let n : f.name ≡ g.name = cc in let t : proto_key f.proto ≡ proto_key g.proto = cc in
      let x = place_same s.types p.class q.class (text_key f.class) (text_key g.class) rising.types (ap text_key c) p.class_is q.class_is in
      let y = place_same s.protos p.proto q.proto (proto_key f.proto) (proto_key g.proto) rising.protos t p.proto_is q.proto_is in
      let z = place_same s.strings p.name q.name (text_key f.name) (text_key g.name) rising.strings (ap text_key n) p.name_is q.name_is in
      p.whole ∙ (λ k. u16_bytes (x k) ++ (u16_bytes (y k) ++ u32_bytes (z k))) ∙ sym q.whole

  proto_row : (a b : List ℕ) (v w : ℕ × Proto) → v.0 ≡ w.0 → proto_key v.1 ≡ proto_key w.1 → SpellsProtoRow s a v → SpellsProtoRow s b w → a ≡ b
  proto_row a b v w n e p q =
      let r : v.1.ret ≡ w.1.ret = cc in let ps : v.1.params ≡ w.1.params = cc in
      let whole : shorty v.1 ≡ shorty w.1 = (λ k. shorty (record { ret = r k; params = ps k })) in
      let x = place_same s.strings p.shorty_at q.shorty_at (text_key (shorty v.1)) (text_key (shorty w.1)) rising.strings (ap text_key whole) p.shorty_is q.shorty_is in
      let y = place_same s.types p.ret q.ret (text_key v.1.ret) (text_key w.1.ret) rising.types (ap text_key r) p.ret_is q.ret_is in
      p.whole ∙ (λ k. words_bytes (x k ∷ y k ∷ n k ∷ [])) ∙ sym q.whole

  proto_rows : (vs ws : List (ℕ × Proto)) (a b : List ℕ) → map (λ (p : ℕ × Proto). proto_key p.1) vs ≡ map (λ (p : ℕ × Proto). proto_key p.1) ws
      → map (λ (p : ℕ × Proto). p.0) vs ≡ map (λ (p : ℕ × Proto). p.0) ws → Each (SpellsProtoRow s) a vs → Each (SpellsProtoRow s) b ws → a ≡ b
  proto_rows [] [] a b e f p q = p ∙ sym q
  proto_rows [] (w ∷ ws) a b e f p q = absurd cc
  proto_rows (v ∷ vs) [] a b e f p q = absurd cc
  proto_rows (v ∷ vs) (w ∷ ws) a b e f p q =
      let key : proto_key v.1 ≡ proto_key w.1 = cc in
      let place : v.0 ≡ w.0 = cc in
      let keys : map (λ (p : ℕ × Proto). proto_key p.1) vs ≡ map (λ (p : ℕ × Proto). proto_key p.1) ws = cc in
      let places : map (λ (p : ℕ × Proto). p.0) vs ≡ map (λ (p : ℕ × Proto). p.0) ws = cc in
      let here = proto_row p.0 q.0 v w place key p.3 q.3 in
      let rest = proto_rows vs ws p.1 q.1 keys places p.4 q.4 in
      p.2 ∙ (λ k. here k ++ rest k) ∙ sym q.2

  pub name_rows_once : (texts lists a b : List ℕ) → SpellsRows s texts lists a → SpellsRows s texts lists b → a ≡ b
  name_rows_once texts lists a b p q =
      let ts = table_once text_key (SpellsTypeRow s) type_row p.types q.types s.types p.type_ids q.type_ids in
      let m = p.proto_ids in let n = q.proto_ids in
      let ps = proto_rows m.names n.names p.protos q.protos (m.keys ∙ sym n.keys) (m.places_are ∙ sym n.places_are) m.rows n.rows in
      let fs = table_once field_ref_key (SpellsFieldRow s) field_row p.fields q.fields s.fields p.field_ids q.field_ids in
      let ms = table_once method_ref_key (SpellsMethodRow s) method_row p.methods q.methods s.methods p.method_ids q.method_ids in
      p.whole ∙ (λ k. words_bytes texts ++ (ts k ++ (ps k ++ (fs k ++ ms k)))) ∙ sym q.whole

  -- ---- class_defs

  or_none : (ks : List Key) → Rising ks → (i j : ℕ) (o : Option Units) → IndexOrNone (λ (n : ℕ) (t : Units). IsAt ks n (text_key t)) i o → IndexOrNone (λ (n : ℕ) (t : Units). IsAt ks n (text_key t)) j o → i ≡ j
  or_none ks r i j None p q = p ∙ sym q
  or_none ks r i j (Some t) p q = one_place ks i j (text_key t) r p.1 q.1

  class_row : (a b : List ℕ) (v : ClassWithPlaces) → SpellsClassRow s a v → SpellsClassRow s b v → a ≡ b
  class_row a b v p q =
      let x = one_place s.types p.class q.class (text_key v.class.ty) rising.types p.class_is q.class_is in
      let y = or_none s.types rising.types p.above q.above v.class.superclass p.above_is q.above_is in
      let z = or_none s.strings rising.strings p.source q.source v.class.source p.source_is q.source_is in
      p.whole ∙ (λ k. words_bytes (x k ∷ v.class.flags ∷ y k ∷ v.list ∷ z k ∷ 0 ∷ v.class_data ∷ v.array ∷ [])) ∙ sym q.whole

  pub class_rows_once : (a b : List ℕ) (vs : List ClassWithPlaces) → Each (SpellsClassRow s) a vs → Each (SpellsClassRow s) b vs → a ≡ b
  class_rows_once a b [] p q = p ∙ sym q
  class_rows_once a b (v ∷ vs) p q =
      let here = class_row p.0 q.0 v p.3 q.3 in
      let rest = class_rows_once p.1 q.1 vs p.4 q.4 in
      p.2 ∙ (λ k. here k ++ rest k) ∙ sym q.2

-- A framed file without slack is written by a plan: header and map say what it has.
use Rattle.std.proofs.Common.{◌≡◌, ℕ, zero, suc, ◌+◌, ◌-◌, ◌*◌, ◌<◌, ◌≤◌, Bool, true, false, cond, ltb, List, [], ◌∷◌, length, map, refl, sym, ap, ◌∙◌, subst, arith, inl, inr}
use Rattle.std.proofs.lemmas.Bool.{cases_lt}
use Rattle.std.proofs.lemmas.List.{length-map}
use Rattle.std.specs.Prelude.{if◌then◌else◌, ◌==◌, slice_index}
use Rattle.std.specs.List.{filter, AllByRecursion}
use Rattle.dex_base.specs.Fields.{u16_at, u32_at}
use Rattle.dex_container.specs.Layout.{size_of, offset_of, map_place, map_end, entry_count, entry_place, kind_at, items_at, place_at}
use Rattle.dex_container.specs.Frame.{HasKind, IsFramed}
use Rattle.file_layout.specs.declared.plan.Part.{Part}
use Rattle.file_layout.specs.declared.plan.Plan.{Plan}
use Rattle.file_layout.specs.declared.plan.Rows.{Rows}
use Rattle.file_layout.specs.Parts.{IsWrittenKind}
use Rattle.file_layout.specs.inner.Plan.{type_ids_begin, proto_ids_begin, field_ids_begin, method_ids_begin, class_defs_begin, tables_end, table_offset, header_words, part_span, spans_of, Follows, IsPlanned, IsWritten}
use Rattle.file_layout.specs.inner.Spans.{Span, has_items, span_at, MapNames}
use Rattle.file_layout.specs.Tiles.{IsNext, Tiles, gap}
use Rattle.file_layout.proofs.MapLaws.{Has}
use Rattle.file_layout.proofs.TileLaws.{Tiles-le}
use Rattle.file_put.proofs.DataParts.{tiles_take}
use Rattle.file_write.specs.Packed.{IsPackedSection, MapIsPacked, MapHas, TablesArePacked, table_end}
use Rattle.file_write.proofs.Sections.{first_place}
use Rattle.file_layout.proofs.Named.{◌&◌}

-- ---- entries that rise name spans that do

-- Entry i says what the span has.
record Resolves (b : List ℕ) (i : ℕ) (s : Span) : Type 0 where
  kind : kind_at b i ≡ s.kind
  items : items_at b i ≡ s.items
  place : place_at b i ≡ s.begin

-- The spans stand one after the other; those with items take bytes.
abbrev Chain : ℕ → List Span → Type 0
Chain at [] = Unit {0}
Chain at (s ∷ ss) = (at ≤ s.end) × (0 < s.items → (at ≤ s.begin) × (s.begin < s.end)) × Chain s.end ss

chained : {X : Type 0} (at items begin end : ℕ) → at ≤ end → (0 < items → (at ≤ begin) × (begin < end)) → X → (at ≤ end) × (0 < items → (at ≤ begin) × (begin < end)) × X
chained at items begin end a b x = (a, b, x)

chain_low : (at : ℕ) (ss : List Span) (t : Span) → Chain at ss → Has ss t → 0 < t.items → at ≤ t.begin
chain_low at [] t c h some = absurd h
chain_low at (s ∷ ss) t c (inl e) some = subst (λ (x : Span). at ≤ x.begin) e (c.1 (subst (λ (x : Span). 0 < x.items) (sym e) some)).0
chain_low at (s ∷ ss) t c (inr h) some = let l = chain_low s.end ss t c.2 h some in let k = c.0 in omega (arith, l, k)

module _ (b : List ℕ) (next : (i j : ℕ) → j + 1 ≡ i → i < entry_count b → place_at b j < place_at b i) where
  rises : (i j : ℕ) → i < j → j < entry_count b → place_at b i < place_at b j
  rises i zero lt within = absurd (omega arith)
  rises i (suc j) lt within =
      let last = next (suc j) j (omega arith) within in
      elim (cases_lt i j) [
        | inl l ↦ (let k = rises i j l (omega arith) in omega (arith, k, last))
        | inr l ↦ (let e : j ≡ i = omega arith in subst (λ (k : ℕ). place_at b k < place_at b (suc j)) e last)
      ]

  -- The entries from n on are those of the spans that have items.
  record Rest (n : ℕ) (ss : List Span) : Type 0 where
    each : (i : ℕ) → n ≤ i → i < entry_count b → (s : Span) × Has ss s × (0 < s.items) × Resolves b i s
    all : (s : Span) → Has ss s → 0 < s.items → (i : ℕ) × (n ≤ i) × (i < entry_count b) × Resolves b i s
    within : n ≤ entry_count b

  -- They are these, in this order.
  record Follow (n : ℕ) (ts : List Span) : Type 0 where
    count : entry_count b ≡ n + length ts
    resolves : (k : ℕ) → k < length ts → Resolves b (n + k) (span_at ts k)

  no_more : (n : ℕ) → Rest n [] → Follow n []
  no_more n r = record {
    count = elim (cases_lt n (entry_count b)) [
      | inl l ↦ absurd (r.each n (omega arith) l).1
      | inr l ↦ (let k = r.within in omega (arith, k, l))
    ];
    resolves = λ k lt. absurd (omega (arith, lt));
  }

  without : (n : ℕ) (s : Span) (ss : List Span) → s.items ≡ 0 → Rest n (s ∷ ss) → Rest n ss
  without n s ss none r = record {
    each = λ i low lt. let k = r.each i low lt in elim k.1 [
      | inl e ↦ (let z = ap (λ (x : Span). x.items) e in let some = k.2 in absurd (omega (arith, z, none, some)))
      | inr h ↦ (k.0, h, k.2, k.3)
    ];
    all = λ t h some. r.all t (inr h) some;
    within = r.within;
  }

  -- the first of the spans is that of entry n
  here : (n at : ℕ) (s : Span) (ss : List Span) → Chain at (s ∷ ss) → 0 < s.items → Rest n (s ∷ ss) → (n < entry_count b) × Resolves b n s
  here n at s ss c some r =
      let a = r.all s (inl refl) some in
      let low = a.1 in let lt = a.2 in
      let within : n < entry_count b = omega (arith, low, lt) in
      let k = r.each n (omega arith) within in (
        within,
        elim k.1 [
          | inl e ↦ subst (λ (x : Span). Resolves b n x) (sym e) k.3
          | inr h ↦ (
              let l = chain_low s.end ss k.0 c.2 h k.2 in
              let m = (c.1 some).1 in
              let p = k.3.place in let q = a.3.place in
              elim (cases_lt n a.0) [
                | inl less ↦ (let o = rises n a.0 less lt in absurd (omega (arith, o, p, q, l, m)))
                | inr most ↦ (let e : n ≡ a.0 = omega (arith, low, most) in let same = ap (place_at b) e in absurd (omega (arith, same, p, q, l, m)))
              ])
        ],
      )

  after : (n at : ℕ) (s : Span) (ss : List Span) → Chain at (s ∷ ss) → 0 < s.items → Rest n (s ∷ ss) → n < entry_count b → Resolves b n s → Rest (suc n) ss
  after n at s ss c some r within is = record {
    each = λ i low lt. let k = r.each i (omega (arith, low)) lt in elim k.1 [
      | inl e ↦ (
          let z = ap (λ (x : Span). x.begin) e in let p = k.3.place in let q = is.place in let o = rises n i (omega (arith, low)) lt in
          absurd (omega (arith, z, p, q, o)))
      | inr h ↦ (k.0, h, k.2, k.3)
    ];
    all = λ t h more. let k = r.all t (inr h) more in
        let low = k.1 in let l = chain_low s.end ss t c.2 h more in let m = (c.1 some).1 in let p = k.3.place in let q = is.place in (
          k.0,
          elim (cases_lt n k.0) [
            | inl less ↦ omega (arith, less)
            | inr most ↦ (let e : n ≡ k.0 = omega (arith, low, most) in let same = ap (place_at b) e in absurd (omega (arith, same, p, q, l, m)))
          ],
          k.2,
          k.3,
        );
    within = omega (arith, within);
  }

  one_more : (n : ℕ) (s : Span) (ts : List Span) → Resolves b n s → Follow (suc n) ts → Follow n (s ∷ ts)
  one_more n s ts is f = record { count = let e = f.count in omega (arith, e); resolves = says_at }
    where
      says_at : (k : ℕ) → k < suc (length ts) → Resolves b (n + k) (span_at (s ∷ ts) k)
      says_at zero lt = let e : n ≡ n + 0 = omega arith in subst (λ (i : ℕ). Resolves b i s) e is
      says_at (suc k) lt = let e : suc n + k ≡ n + suc k = omega arith in subst (λ (i : ℕ). Resolves b i (span_at ts k)) e (f.resolves k (omega arith))

  walk : (ss : List Span) (n at : ℕ) → Chain at ss → Rest n ss → Follow n (filter has_items ss)
  walk [] n at c r = no_more n r
  walk (s ∷ ss) n at c r = by (ltb 0 s.items) refl (λ m q. walk ss m s.end c.2 q)
    where
      by : (t : Bool) → ltb 0 s.items ≡ t → ((m : ℕ) → Rest m ss → Follow m (filter has_items ss)) → Follow n (cond t (s ∷ filter has_items ss) (filter has_items ss))
      by true e go =
          let some : 0 < s.items = grind (arith, e) in
          let h = here n at s ss c some r in
          one_more n s (filter has_items ss) h.1 (go (suc n) (after n at s ss c some r h.0 h.1))
      by false e go = let none : s.items ≡ 0 = grind (arith, e) in go n (without n s ss none r)

-- ---- the words of the header

abbrev Words : List ℕ → ℕ → List ℕ → Type 0
Words b n [] = Unit {0}
Words b n (w ∷ ws) = (u32_at b (4 * n) ≡ w) × Words b (suc n) ws

words_at : (b : List ℕ) (n : ℕ) (ws : List ℕ) → Words b n ws → (k : ℕ) → k < length ws → u32_at b (4 * (n + k)) ≡ slice_index ws k
words_at b n [] h k lt = absurd (omega arith)
words_at b n (w ∷ ws) h zero lt = ap (λ (m : ℕ). u32_at b m) (omega arith) ∙ h.0
words_at b n (w ∷ ws) h (suc k) lt = ap (λ (m : ℕ). u32_at b m) (omega arith) ∙ words_at b (suc n) ws h.1 k (omega arith)

-- ---- the file

-- The map says of the kind of a part how many items it has, and that it begins at the first.
pub record PartIsMapped (b : List ℕ) (kind : ℕ) (part : Part) : Type 0 where
  pub places : List ℕ
  pub resolves : MapHas b kind places
  pub many : part.items ≡ length places
  pub first : 0 < length places → part.begin ≡ slice_index places 0

-- a part of these items follows what is before it
pub follows : {V : Type 0} (G : List ℕ → V → Type 0) (align : ℕ) (b : List ℕ) (at begin end first : ℕ) (items : List (ℕ × V)) → Tiles G align b begin end items → at ≤ begin → first ≡ begin + gap align begin
    → Follows at (record { items = length items; begin = first; end = end })
follows G align b at begin end first items tiled low is =
    let l = Tiles-le tiled in
    record {
      after = omega (arith, l, low);
      begins = λ some. omega (arith, low, is);
      takes = λ some. let k = tiles_take tiled some in omega (arith, k, is);
    }

-- the map says what the part has
pub part_says : {V : Type 0} (G : List ℕ → V → Type 0) (align : ℕ) (b : List ℕ) (kind begin end first : ℕ) (references : List ℕ) (x : IsPackedSection G align b kind begin end references) → first ≡ begin + gap align begin
    → PartIsMapped b kind (record { items = length x.items; begin = first; end = end })
part_says {V} G align b kind begin end first references x is =
    let n = length-map x.items (λ (y : ℕ × V). y.0) in
    record {
      places = map (λ (y : ℕ × V). y.0) x.items;
      resolves = x.in_map;
      many = sym n;
      first = λ some. is ∙ sym (first_place x.tiled (omega (arith, n, some)));
    }

-- How many rows the tables have.
pub record HasRows (b : List ℕ) (r : Rows) : Type 0 where
  pub strings : size_of b 0 ≡ r.strings
  pub types : size_of b 1 ≡ r.types
  pub protos : size_of b 2 ≡ r.protos
  pub fields : size_of b 3 ≡ r.fields
  pub methods : size_of b 4 ≡ r.methods
  pub classes : size_of b 5 ≡ r.classes

module _ (b : List ℕ) (p : Plan) (framed : IsFramed b) (packed : TablesArePacked b) (rows : HasRows b p.rows) (link : u32_at b 48 ≡ 0) (kinds : MapIsPacked b) (planned : IsPlanned p)
    (lists : PartIsMapped b 0x1001 p.lists) (codes : PartIsMapped b 0x2001 p.codes) (texts : PartIsMapped b 0x2002 p.strings) (arrays : PartIsMapped b 0x2005 p.arrays) (datas : PartIsMapped b 0x2000 p.datas)
    (next : IsNext 4 b p.datas.end (map_place b)) (last : map_end b ≡ length b) where
  -- where the tables end
  abbrev IsSame : ℕ → ℕ → Type 0
  IsSame k at = table_end b k ≡ at

  end1 : IsSame 1 (type_ids_begin p.rows)
  end1 = let a = rows.strings in omega (arith, a)

  end2 : IsSame 2 (proto_ids_begin p.rows)
  end2 = let a = end1 in let c = rows.types in omega (arith, a, c)

  end3 : IsSame 3 (field_ids_begin p.rows)
  end3 = let a = end2 in let c = rows.protos in omega (arith, a, c)

  end4 : IsSame 4 (method_ids_begin p.rows)
  end4 = let a = end3 in let c = rows.fields in omega (arith, a, c)

  end5 : IsSame 5 (class_defs_begin p.rows)
  end5 = let a = end4 in let c = rows.methods in omega (arith, a, c)

  pub end6 : IsSame 6 (tables_end p.rows)
  end6 = let a = end5 in let c = rows.classes in omega (arith, a, c)

  offset_is : (k n at : ℕ) → k < 6 → size_of b k ≡ n → table_end b k ≡ at → offset_of b k ≡ table_offset n at
  offset_is k n at lt m e = packed.offsets k lt ∙ ap (λ (x : ℕ). if x == 0 then 0 else table_end b k) m ∙ ap (λ (x : ℕ). if n == 0 then 0 else x) e

  -- ---- the header

  -- its words from file_size on
  abbrev later : List ℕ
  later =
      length b ∷ 112 ∷ 0x12345678 ∷ 0 ∷ 0 ∷ map_place b
      ∷ p.rows.strings ∷ table_offset p.rows.strings 112
      ∷ p.rows.types ∷ table_offset p.rows.types (type_ids_begin p.rows)
      ∷ p.rows.protos ∷ table_offset p.rows.protos (proto_ids_begin p.rows)
      ∷ p.rows.fields ∷ table_offset p.rows.fields (field_ids_begin p.rows)
      ∷ p.rows.methods ∷ table_offset p.rows.methods (method_ids_begin p.rows)
      ∷ p.rows.classes ∷ table_offset p.rows.classes (class_defs_begin p.rows)
      ∷ (length b - tables_end p.rows) ∷ tables_end p.rows ∷ []

  words : Words b 8 later
  unfolding size_of offset_of map_place
  words =
      let there : u32_at b 52 ≡ map_place b = refl in
      framed.header.file_size
      & framed.header.header_size
      & framed.header.endian
      & framed.header.unlinked
      & link
      & there
      & rows.strings & offset_is 0 p.rows.strings 112 (omega arith) rows.strings refl
      & rows.types & offset_is 1 p.rows.types (type_ids_begin p.rows) (omega arith) rows.types end1
      & rows.protos & offset_is 2 p.rows.protos (proto_ids_begin p.rows) (omega arith) rows.protos end2
      & rows.fields & offset_is 3 p.rows.fields (field_ids_begin p.rows) (omega arith) rows.fields end3
      & rows.methods & offset_is 4 p.rows.methods (method_ids_begin p.rows) (omega arith) rows.methods end4
      & rows.classes & offset_is 5 p.rows.classes (class_defs_begin p.rows) (omega arith) rows.classes end5
      & data_words
    where
      data_words : Words b 26 ((length b - tables_end p.rows) ∷ tables_end p.rows ∷ [])
      data_words = let a = packed.data_first in let c = packed.data_last in let e = end6 in (omega (arith, a, c, e), (a ∙ e, tt))

  fields_from : (k : ℕ) → k < 20 → u32_at b (4 * (8 + k)) ≡ slice_index (header_words p.rows (map_place b) (length b)) (suc (suc (suc (suc (suc (suc (suc (suc k))))))))
  fields_from k h = words_at b 8 later words k (omega arith)

  fields : (j : ℕ) → 8 ≤ j → j < 28 → u32_at b (4 * j) ≡ slice_index (header_words p.rows (map_place b) (length b)) j
  fields j low high =
      let f = fields_from (j - 8) (omega arith) in
      let e : suc (suc (suc (suc (suc (suc (suc (suc (j - 8)))))))) ≡ j = omega arith in
      ap (λ (m : ℕ). u32_at b m) (omega arith) ∙ f ∙ ap (slice_index (header_words p.rows (map_place b) (length b))) e

  -- ---- the map

  spans : List Span
  spans = spans_of p (map_place b) (length b)

  -- an entry of this kind says what the span has, and there is one if the span has items
  record Is (s : Span) : Type 0 where
    matches : (i : ℕ) → i < entry_count b → kind_at b i ≡ s.kind → Resolves b i s
    found : 0 < s.items → HasKind b s.kind

  some_items : (i : ℕ) → i < entry_count b → 0 < items_at b i
  some_items i lt = (framed.map.each i lt).some

  header_is : (end : ℕ) → Is (record { kind = 0; items = 1; begin = 0; end = end })
  header_is end = record {
    matches = λ i lt e. let h = (framed.map.each i lt).header e in record { kind = e; items = h.1; place = h.0 };
    found = λ some. let m = framed.map.map in let lt : 0 < entry_count b = (let k = m.1 in omega (arith, k)) in (0, lt, (framed.map.each 0 lt).first refl);
  }

  table_is : (k n at end : ℕ) → k < 6 → size_of b k ≡ n → table_end b k ≡ at → Is (record { kind = k + 1; items = n; begin = at; end = end })
  table_is k n at end small m e = record {
    matches = λ i lt is.
        let r = (framed.map.each i lt).table k small is in
        let some = some_items i lt in
        let q = r.items in
        let z : (size_of b k == 0) ≡ false = (let l : 0 < size_of b k = omega (arith, some, q) in grind (arith, l)) in
        let o : offset_of b k ≡ table_end b k = packed.offsets k small ∙ ap (λ (t : Bool). if t then 0 else table_end b k) z in
        record { kind = is; items = r.items ∙ m; place = r.place ∙ o ∙ e };
    found = λ some. framed.map.tables k small (omega (arith, some, m));
  }

  -- a kind is named once
  one_entry : (i j : ℕ) → i < entry_count b → j < entry_count b → kind_at b i ≡ kind_at b j → i ≡ j
  one_entry i j lt less e = elim (cases_lt i j) [
    | inl l ↦ absurd ((framed.map.each j less).once i l e)
    | inr m ↦ elim (cases_lt j i) [
      | inl l ↦ absurd ((framed.map.each i lt).once j l (sym e))
      | inr k ↦ omega arith
    ]
  ]

  part_is : (kind : ℕ) (part : Part) → PartIsMapped b kind part → Is (part_span kind part)
  part_is kind part s = record {
    matches = λ i lt is.
        let many = s.resolves.counted i lt is in
        let some = some_items i lt in
        let n = s.resolves.named (omega (arith, many, some)) in
        let same : n.0 ≡ i = one_entry n.0 i n.1 lt (n.2 ∙ sym is) in
        record { kind = is; items = many ∙ sym s.many; place = ap (place_at b) (sym same) ∙ n.3 ∙ sym (s.first (omega (arith, many, some))) };
    found = λ some. let m = s.many in let n = s.resolves.named (omega (arith, m, some)) in (n.0, n.1, n.2);
  }

  map_is : Is (record { kind = 0x1000; items = 1; begin = map_place b; end = length b })
  map_is = record {
    matches = λ i lt e. let h = (framed.map.each i lt).map e in record { kind = e; items = h.items; place = h.place };
    found = λ some. framed.map.map;
  }

  all_are : AllByRecursion Is spans
  unfolding spans
  all_are =
      header_is 112
      & table_is 0 p.rows.strings 112 (type_ids_begin p.rows) (omega arith) rows.strings refl
      & table_is 1 p.rows.types (type_ids_begin p.rows) (proto_ids_begin p.rows) (omega arith) rows.types end1
      & table_is 2 p.rows.protos (proto_ids_begin p.rows) (field_ids_begin p.rows) (omega arith) rows.protos end2
      & table_is 3 p.rows.fields (field_ids_begin p.rows) (method_ids_begin p.rows) (omega arith) rows.fields end3
      & table_is 4 p.rows.methods (method_ids_begin p.rows) (class_defs_begin p.rows) (omega arith) rows.methods end4
      & table_is 5 p.rows.classes (class_defs_begin p.rows) (tables_end p.rows) (omega arith) rows.classes end5
      & part_is 0x1001 p.lists lists
      & part_is 0x2001 p.codes codes
      & part_is 0x2002 p.strings texts
      & part_is 0x2005 p.arrays arrays
      & part_is 0x2000 p.datas datas
      & map_is
      & tt

  chain : Chain 0 spans
  unfolding spans
  chain =
      let l = planned.lists in let c = planned.codes in let t = planned.strings in let a = planned.arrays in let d = planned.datas in
      let n = next.there in
      chained 0 1 0 112 (omega arith) (λ _. (omega arith, omega arith))
      (chained 112 p.rows.strings 112 (type_ids_begin p.rows) (omega arith) (λ h. (omega arith, omega arith))
      (chained (type_ids_begin p.rows) p.rows.types (type_ids_begin p.rows) (proto_ids_begin p.rows) (omega arith) (λ h. (omega arith, omega arith))
      (chained (proto_ids_begin p.rows) p.rows.protos (proto_ids_begin p.rows) (field_ids_begin p.rows) (omega arith) (λ h. (omega arith, omega arith))
      (chained (field_ids_begin p.rows) p.rows.fields (field_ids_begin p.rows) (method_ids_begin p.rows) (omega arith) (λ h. (omega arith, omega arith))
      (chained (method_ids_begin p.rows) p.rows.methods (method_ids_begin p.rows) (class_defs_begin p.rows) (omega arith) (λ h. (omega arith, omega arith))
      (chained (class_defs_begin p.rows) p.rows.classes (class_defs_begin p.rows) (tables_end p.rows) (omega arith) (λ h. (omega arith, omega arith))
      (chained (tables_end p.rows) p.lists.items p.lists.begin p.lists.end l.after (λ h. (l.begins h, l.takes h))
      (chained p.lists.end p.codes.items p.codes.begin p.codes.end c.after (λ h. (c.begins h, c.takes h))
      (chained p.codes.end p.strings.items p.strings.begin p.strings.end t.after (λ h. (t.begins h, t.takes h))
      (chained p.strings.end p.arrays.items p.arrays.begin p.arrays.end a.after (λ h. (a.begins h, a.takes h))
      (chained p.arrays.end p.datas.items p.datas.begin p.datas.end d.after (λ h. (d.begins h, d.takes h))
      (chained p.datas.end 1 (map_place b) (length b) (omega (arith, n, last)) (λ h. (omega (arith, n), omega (arith, last))) tt))))))))))))

  -- one of these by its kind
  pick : (kind : ℕ) → IsWrittenKind kind → (s : Span) × Has spans s × (s.kind ≡ kind)
  unfolding spans
  pick zero (inl low) = (record { kind = 0; items = 1; begin = 0; end = 112 }, inl refl, refl)
  pick (suc zero) (inl low) = (record { kind = 1; items = p.rows.strings; begin = 112; end = type_ids_begin p.rows }, inr (inl refl), refl)
  pick (suc (suc zero)) (inl low) = (record { kind = 2; items = p.rows.types; begin = type_ids_begin p.rows; end = proto_ids_begin p.rows }, inr (inr (inl refl)), refl)
  pick (suc (suc (suc zero))) (inl low) = (record { kind = 3; items = p.rows.protos; begin = proto_ids_begin p.rows; end = field_ids_begin p.rows }, inr (inr (inr (inl refl))), refl)
  pick (suc (suc (suc (suc zero)))) (inl low) = (record { kind = 4; items = p.rows.fields; begin = field_ids_begin p.rows; end = method_ids_begin p.rows }, inr (inr (inr (inr (inl refl)))), refl)
  pick (suc (suc (suc (suc (suc zero))))) (inl low) = (record { kind = 5; items = p.rows.methods; begin = method_ids_begin p.rows; end = class_defs_begin p.rows }, inr (inr (inr (inr (inr (inl refl))))), refl)
  pick (suc (suc (suc (suc (suc (suc zero)))))) (inl low) = (record { kind = 6; items = p.rows.classes; begin = class_defs_begin p.rows; end = tables_end p.rows }, inr (inr (inr (inr (inr (inr (inl refl)))))), refl)
  pick (suc (suc (suc (suc (suc (suc (suc kind))))))) (inl low) = absurd (omega arith)
  pick kind (inr (inl e)) = (record { kind = 0x1000; items = 1; begin = map_place b; end = length b }, inr (inr (inr (inr (inr (inr (inr (inr (inr (inr (inr (inr (inl refl)))))))))))), sym e)
  pick kind (inr (inr (inl e))) = (part_span 0x1001 p.lists, inr (inr (inr (inr (inr (inr (inr (inl refl))))))), sym e)
  pick kind (inr (inr (inr (inl e)))) = (part_span 0x2000 p.datas, inr (inr (inr (inr (inr (inr (inr (inr (inr (inr (inr (inl refl))))))))))), sym e)
  pick kind (inr (inr (inr (inr (inl e))))) = (part_span 0x2001 p.codes, inr (inr (inr (inr (inr (inr (inr (inr (inl refl)))))))), sym e)
  pick kind (inr (inr (inr (inr (inr (inl e)))))) = (part_span 0x2002 p.strings, inr (inr (inr (inr (inr (inr (inr (inr (inr (inl refl))))))))), sym e)
  pick kind (inr (inr (inr (inr (inr (inr e)))))) = (part_span 0x2005 p.arrays, inr (inr (inr (inr (inr (inr (inr (inr (inr (inr (inl refl)))))))))), sym e)

  has_all : (ss : List Span) (s : Span) → AllByRecursion Is ss → Has ss s → Is s
  has_all [] s h k = absurd k
  has_all (t ∷ ss) s h (inl e) = subst Is e h.0
  has_all (t ∷ ss) s h (inr k) = has_all ss s h.1 k

  rest : Rest b (λ i j e lt. (framed.map.each i lt).rising j e) 0 spans
  rest = record {
    each = λ i low lt.
        let k = pick (kind_at b i) (kinds.kinds i lt) in
        let m = (has_all spans k.0 all_are k.1).matches i lt (sym k.2) in
        let some = some_items i lt in let e = m.items in
        (k.0, k.1, omega (arith, some, e), m);
    all = λ s h some.
        let k = has_all spans s all_are h in
        let f = k.found some in
        (f.0, omega arith, f.1, k.matches f.0 f.1 f.2);
    within = omega arith;
  }

  named : ((i : ℕ) → i < entry_count b → u16_at b (entry_place b i + 2) ≡ 0) → MapNames b (filter has_items spans)
  named unused =
      let f = walk b (λ i j e lt. (framed.map.each i lt).rising j e) spans 0 0 chain rest in
      let n = f.count in
      record {
        count = omega (arith, n);
        kinds = λ i lt. (from_start f i lt).kind;
        items = λ i lt. (from_start f i lt).items;
        places = λ i lt. (from_start f i lt).place;
        unused = λ i lt. unused i (omega (arith, n, lt));
      }
    where
      from_start : Follow b (λ i j e lt. (framed.map.each i lt).rising j e) 0 (filter has_items spans) → (i : ℕ) → i < length (filter has_items spans) → Resolves b i (span_at (filter has_items spans) i)
      from_start f i lt = let e : 0 + i ≡ i = omega arith in subst (λ (j : ℕ). Resolves b j (span_at (filter has_items spans) i)) e (f.resolves i lt)

  pub is_written : ((i : ℕ) → i < entry_count b → u16_at b (entry_place b i + 2) ≡ 0) → IsWritten b p (map_place b)
  unfolding spans
  is_written unused =
      let m = named unused in
      let c = m.count in
      let n = next.there in
      record {
        planned = planned;
        after = omega (arith, n);
        aligned = framed.map.placed.aligned;
        named = m;
        ends = omega (arith, c, last);
        fields = fields;
        magic = framed.header.magic;
        version = framed.header.version;
        sums = framed.sums;
      }

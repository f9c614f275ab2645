-- Bytes that are written by a plan are framed.
use Rattle.std.proofs.Common.{◌≡◌, ℕ, zero, suc, ◌+◌, ◌*◌, ◌%◌, ◌<◌, ◌≤◌, false, eqb, List, length, get_or, refl, sym, ap, ◌∙◌, subst, arith, inl, inr}
use Rattle.std.specs.List.{filter, AllByRecursion}
use Rattle.dex_container.specs.Layout.{size_of, offset_of, map_place, map_end, entry_count, kind_at, data_begin, data_end, row_bytes}
use Rattle.dex_container.specs.Frame.{HeaderHolds, SectionHolds, SectionsHold, MapIsPlaced, MapHolds, IsFramed, IsKind}
use Rattle.file_layout.specs.declared.plan.Part.{Part}
use Rattle.file_layout.specs.declared.plan.Plan.{Plan}
use Rattle.file_layout.specs.inner.Spans.{Span, has_items, no_span, MapNames}
use Rattle.file_layout.specs.Parts.{IsWrittenKind}
use Rattle.file_layout.specs.inner.Parts.{SectionReaches, HasPart}
use Rattle.file_layout.specs.inner.Header.{HasHeader}
use Rattle.file_layout.specs.inner.Plan.{type_ids_begin, proto_ids_begin, field_ids_begin, method_ids_begin, class_defs_begin, tables_end, table_offset, part_span, spans_of, Follows, IsPlanned, IsWritten}
use Rattle.file_layout.proofs.Named.{Follow, follows, IsNamed, rank, ◌&◌}
use Rattle.file_layout.proofs.MapLaws.{counted, map_holds, section, Has, all_kept, all_at}

pub placed : (size place : ℕ) → 0 < size → table_offset size place ≡ place
placed size place h = let z : eqb size 0 ≡ false = grind arith in rw z refl

-- spans of the data, but for the map
data_named : (b : List ℕ) (kind items begin end : ℕ) → 0x1001 ≤ kind → IsKind kind → data_begin b ≤ begin → end ≤ data_end b → IsNamed b (record { kind = kind; items = items; begin = begin; end = end })
data_named b kind items begin end high known low last = record {
  known = known;
  header = λ e. absurd (omega arith);
  table = λ k h e. absurd (omega arith);
  map = λ e. absurd (omega arith);
  inside = λ _. (low, last);
}

table_named : (b : List ℕ) (kind items begin end k : ℕ) → kind ≡ k + 1 → k < 6 → items ≡ size_of b k → offset_of b k ≡ table_offset items begin → end ≡ begin + row_bytes k * items
    → 0 < items → IsNamed b (record { kind = kind; items = items; begin = begin; end = end })
table_named b kind items begin end k is lt n off e some = record {
  known = inl (omega arith);
  header = λ z. absurd (omega arith);
  table = λ j h q.
      let same : k ≡ j = omega arith in
      let o = sym (off ∙ placed items begin some) in
      subst (λ (i : ℕ). (items ≡ size_of b i) × (begin ≡ offset_of b i) × (end ≡ offset_of b i + row_bytes i * size_of b i)) same
      (n, o, e ∙ ap (λ x. x + row_bytes k * items) o ∙ ap (λ x. offset_of b k + row_bytes k * x) n);
  map = λ z. absurd (omega arith);
  inside = λ z. absurd (omega arith);
}

-- a part with items, after where the data begin
part_named : (b : List ℕ) (kind at : ℕ) (q : Part) → 0x1001 ≤ kind → IsKind kind → Follows at q → data_begin b ≤ at → q.end ≤ data_end b → 0 < q.items → IsNamed b (part_span kind q)
part_named b kind at q high known f low last some = let g = f.begins some in data_named b kind q.items q.begin q.end high known (omega (arith, g, low)) last

-- the tables end at or before the data
pub planned_low : (p : Plan) → IsPlanned p → tables_end p.rows ≤ p.datas.end
planned_low p h =
    let a = h.lists.after in let b = h.codes.after in let c = h.strings.after in let d = h.arrays.after in let e = h.datas.after in
    omega (arith, a, b, c, d, e)

module _ (b : List ℕ) (p : Plan) (place : ℕ) (w : IsWritten b p place) where
  pub header_of : HasHeader b p.rows place
  unfolding size_of offset_of map_place
  header_of = record {
    file_size = w.fields 8 (omega arith) (omega arith);
    header_size = w.fields 9 (omega arith) (omega arith);
    endian_tag = w.fields 10 (omega arith) (omega arith);
    link_size = w.fields 11 (omega arith) (omega arith);
    link_off = w.fields 12 (omega arith) (omega arith);
    map_off = w.fields 13 (omega arith) (omega arith);
    string_ids_size = w.fields 14 (omega arith) (omega arith);
    string_ids_off = w.fields 15 (omega arith) (omega arith);
    type_ids_size = w.fields 16 (omega arith) (omega arith);
    type_ids_off = w.fields 17 (omega arith) (omega arith);
    proto_ids_size = w.fields 18 (omega arith) (omega arith);
    proto_ids_off = w.fields 19 (omega arith) (omega arith);
    field_ids_size = w.fields 20 (omega arith) (omega arith);
    field_ids_off = w.fields 21 (omega arith) (omega arith);
    method_ids_size = w.fields 22 (omega arith) (omega arith);
    method_ids_off = w.fields 23 (omega arith) (omega arith);
    class_defs_size = w.fields 24 (omega arith) (omega arith);
    class_defs_off = w.fields 25 (omega arith) (omega arith);
    data_size = w.fields 26 (omega arith) (omega arith);
    data_off = w.fields 27 (omega arith) (omega arith);
  }

  -- where the parts end
  pub record Ends : Type 0 where
    pub lists : tables_end p.rows ≤ p.lists.end
    pub codes : p.lists.end ≤ p.codes.end
    pub strings : p.codes.end ≤ p.strings.end
    pub arrays : p.strings.end ≤ p.arrays.end
    pub datas : p.arrays.end ≤ p.datas.end
    pub map : p.datas.end + 4 ≤ length b
    pub last : place + 4 ≤ length b

  ends : Ends
  ends = let m = w.after in let e = w.ends in record {
    lists = w.planned.lists.after;
    codes = w.planned.codes.after;
    strings = w.planned.strings.after;
    arrays = w.planned.arrays.after;
    datas = w.planned.datas.after;
    map = omega (arith, m, e);
    last = omega (arith, e);
  }

  pub low : tables_end p.rows + 4 ≤ length b
  low = let e0 = ends.lists in let e1 = ends.codes in let e2 = ends.strings in let e3 = ends.arrays in let e4 = ends.datas in let e5 = ends.map in omega (arith, e0, e1, e2, e3, e4, e5)

  pub data_end_is : data_end b ≡ length b
  data_end_is = let f = header_of in let s6 = f.data_size in let o6 = f.data_off in let l = low in omega (arith, s6, o6, l)

  pub header_holds : HeaderHolds b
  header_holds = let f = header_of in let l = low in record {
    long = omega (arith, l);
    magic = w.magic;
    version = w.version;
    file_size = f.file_size;
    header_size = f.header_size;
    endian = f.endian_tag;
    unlinked = f.link_size;
  }

  -- a table of n rows, which begins here if it has some
  table_holds : (k n at : ℕ) → size_of b k ≡ n → offset_of b k ≡ table_offset n at → at % 4 ≡ 0 → 112 ≤ at → at + row_bytes k * n ≤ length b → SectionHolds b k
  table_holds k n at m e aligned after within some =
      let o = e ∙ placed n at (omega (arith, m, some)) in
      record { aligned = λ _. rw o aligned; after = omega (arith, o, after); within = rw (m, o) within }

  section_holds : (k : ℕ) → k < 7 → SectionHolds b k
  section_holds zero h some = table_holds 0 p.rows.strings 112 header_of.string_ids_size header_of.string_ids_off (omega arith) (omega arith) (let l = low in omega (arith, l)) some
  section_holds (suc zero) h some = table_holds 1 p.rows.types (type_ids_begin p.rows) header_of.type_ids_size header_of.type_ids_off (omega arith) (omega arith) (let l = low in omega (arith, l)) some
  section_holds (suc (suc zero)) h some = table_holds 2 p.rows.protos (proto_ids_begin p.rows) header_of.proto_ids_size header_of.proto_ids_off (omega arith) (omega arith) (let l = low in omega (arith, l)) some
  section_holds (suc (suc (suc zero))) h some = table_holds 3 p.rows.fields (field_ids_begin p.rows) header_of.field_ids_size header_of.field_ids_off (omega arith) (omega arith) (let l = low in omega (arith, l)) some
  section_holds (suc (suc (suc (suc zero)))) h some = table_holds 4 p.rows.methods (method_ids_begin p.rows) header_of.method_ids_size header_of.method_ids_off (omega arith) (omega arith) (let l = low in omega (arith, l)) some
  section_holds (suc (suc (suc (suc (suc zero))))) h some = table_holds 5 p.rows.classes (class_defs_begin p.rows) header_of.class_defs_size header_of.class_defs_off (omega arith) (omega arith) (let l = low in omega (arith, l)) some
  section_holds (suc (suc (suc (suc (suc (suc zero)))))) h some =
      let f = header_of in let l = low in let n = f.data_size in let o = f.data_off in record { aligned = λ q. absurd (omega (arith, q)); after = omega (arith, o); within = omega (arith, o, n, l) }
  section_holds (suc (suc (suc (suc (suc (suc (suc k))))))) h some = absurd (omega arith)

  pub sections_hold : SectionsHold b
  sections_hold = record {
    each = section_holds;
    types = let f = header_of in let n = f.type_ids_size in let m = w.planned.few_types in omega (arith, n, m);
    protos = let f = header_of in let n = f.proto_ids_size in let m = w.planned.few_protos in omega (arith, n, m);
  }

  spans : List Span
  spans = spans_of p place (length b)

  follow : Follow rank 0 0 spans
  unfolding spans
  follow =
      let e0 = ends.lists in let e1 = ends.codes in let e2 = ends.strings in let e3 = ends.arrays in let e4 = ends.datas in let e5 = ends.map in let m = w.after in let e6 = ends.last in
      follows 0 0 0 1 0 112 (omega arith) (λ _. (omega arith, omega arith)) (omega arith)
      (follows 112 1 1 p.rows.strings 112 (type_ids_begin p.rows) (omega arith) (λ h. (omega arith, omega arith)) (omega arith)
      (follows (type_ids_begin p.rows) 2 2 p.rows.types (type_ids_begin p.rows) (proto_ids_begin p.rows) (omega arith) (λ h. (omega arith, omega arith)) (omega arith)
      (follows (proto_ids_begin p.rows) 3 3 p.rows.protos (proto_ids_begin p.rows) (field_ids_begin p.rows) (omega arith) (λ h. (omega arith, omega arith)) (omega arith)
      (follows (field_ids_begin p.rows) 4 4 p.rows.fields (field_ids_begin p.rows) (method_ids_begin p.rows) (omega arith) (λ h. (omega arith, omega arith)) (omega arith)
      (follows (method_ids_begin p.rows) 5 5 p.rows.methods (method_ids_begin p.rows) (class_defs_begin p.rows) (omega arith) (λ h. (omega arith, omega arith)) (omega arith)
      (follows (class_defs_begin p.rows) 6 6 p.rows.classes (class_defs_begin p.rows) (tables_end p.rows) (omega arith) (λ h. (omega arith, omega arith)) (omega arith)
      (follows (tables_end p.rows) 7 0x1001 p.lists.items p.lists.begin p.lists.end (omega (arith, e0)) (λ h. (w.planned.lists.begins h, w.planned.lists.takes h)) (omega arith)
      (follows p.lists.end 8 0x2001 p.codes.items p.codes.begin p.codes.end (omega (arith, e1)) (λ h. (w.planned.codes.begins h, w.planned.codes.takes h)) (omega arith)
      (follows p.codes.end 9 0x2002 p.strings.items p.strings.begin p.strings.end (omega (arith, e2)) (λ h. (w.planned.strings.begins h, w.planned.strings.takes h)) (omega arith)
      (follows p.strings.end 10 0x2005 p.arrays.items p.arrays.begin p.arrays.end (omega (arith, e3)) (λ h. (w.planned.arrays.begins h, w.planned.arrays.takes h)) (omega arith)
      (follows p.arrays.end 11 0x2000 p.datas.items p.datas.begin p.datas.end (omega (arith, e4)) (λ h. (w.planned.datas.begins h, w.planned.datas.takes h)) (omega arith)
      (follows p.datas.end 12 0x1000 1 place (length b) (omega (arith, e5, m, e6)) (λ h. (omega (arith, m), omega (arith, e6))) (omega arith) tt))))))))))))

  named : AllByRecursion (λ s. 0 < s.items → IsNamed b s) spans
  unfolding spans
  named =
      let f = header_of in let e0 = ends.lists in let e1 = ends.codes in let e2 = ends.strings in let e3 = ends.arrays in let e4 = ends.datas in let e5 = ends.map in let m = w.after in let e6 = ends.last in let we = w.ends in
      let d = data_end_is in let o6 = f.data_off in
      let head : 0 < 1 → IsNamed b (record { kind = 0; items = 1; begin = 0; end = 112 }) =
      λ _. record { known = inl (omega arith); header = λ _. (refl, refl); table = λ k h e. absurd (omega arith); map = λ e. absurd (omega arith); inside = λ e. absurd (omega arith) } in
      let last : 0 < 1 → IsNamed b (record { kind = 0x1000; items = 1; begin = place; end = length b }) =
      λ _. record {
        known = inr (inl (omega arith, omega arith));
        header = λ e. absurd (omega arith);
        table = λ k h e. absurd (omega arith);
        map = λ _. (refl, sym f.map_off, map_ends);
        inside = λ _. (omega (arith, o6, e0, e1, e2, e3, e4, m), omega (arith, d));
      } in
      head
      & table_named b 1 p.rows.strings 112 (type_ids_begin p.rows) 0 (omega arith) (omega arith) (sym f.string_ids_size) f.string_ids_off (omega arith)
      & table_named b 2 p.rows.types (type_ids_begin p.rows) (proto_ids_begin p.rows) 1 (omega arith) (omega arith) (sym f.type_ids_size) f.type_ids_off (omega arith)
      & table_named b 3 p.rows.protos (proto_ids_begin p.rows) (field_ids_begin p.rows) 2 (omega arith) (omega arith) (sym f.proto_ids_size) f.proto_ids_off (omega arith)
      & table_named b 4 p.rows.fields (field_ids_begin p.rows) (method_ids_begin p.rows) 3 (omega arith) (omega arith) (sym f.field_ids_size) f.field_ids_off (omega arith)
      & table_named b 5 p.rows.methods (method_ids_begin p.rows) (class_defs_begin p.rows) 4 (omega arith) (omega arith) (sym f.method_ids_size) f.method_ids_off (omega arith)
      & table_named b 6 p.rows.classes (class_defs_begin p.rows) (tables_end p.rows) 5 (omega arith) (omega arith) (sym f.class_defs_size) f.class_defs_off (omega arith)
      & part_named b 0x1001 (tables_end p.rows) p.lists (omega arith) (inr (inl (omega arith, omega arith))) w.planned.lists (omega (arith, o6)) (omega (arith, d, e1, e2, e3, e4, e5))
      & part_named b 0x2001 p.lists.end p.codes (omega arith) (inr (inr (inl (omega arith, omega arith)))) w.planned.codes (omega (arith, o6, e0)) (omega (arith, d, e2, e3, e4, e5))
      & part_named b 0x2002 p.codes.end p.strings (omega arith) (inr (inr (inl (omega arith, omega arith)))) w.planned.strings (omega (arith, o6, e0, e1)) (omega (arith, d, e3, e4, e5))
      & part_named b 0x2005 p.strings.end p.arrays (omega arith) (inr (inr (inl (omega arith, omega arith)))) w.planned.arrays (omega (arith, o6, e0, e1, e2)) (omega (arith, d, e4, e5))
      & part_named b 0x2000 p.arrays.end p.datas (omega arith) (inr (inr (inl (omega arith, omega arith)))) w.planned.datas (omega (arith, o6, e0, e1, e2, e3)) (omega (arith, d, e5))
      & last
      & tt
    where
      map_ends : length b ≡ map_end b
      map_ends = let f = header_of in let g = f.map_off in let c = w.named.count in let e = w.ends in omega (arith, g, c, e)

  map_span : Span
  map_span = record { kind = 0x1000; items = 1; begin = place; end = length b }

  tables : (k : ℕ) → k < 6 → 0 < size_of b k → (s : Span) × Has spans s × (s.kind ≡ k + 1) × (0 < s.items)
  unfolding spans
  tables zero h some = let f = header_of in let n = f.string_ids_size in (record { kind = 1; items = p.rows.strings; begin = 112; end = (type_ids_begin p.rows) }, inr (inl refl), refl, omega (arith, n, some))
  tables (suc zero) h some = let f = header_of in let n = f.type_ids_size in (record { kind = 2; items = p.rows.types; begin = (type_ids_begin p.rows); end = (proto_ids_begin p.rows) }, inr (inr (inl refl)), refl, omega (arith, n, some))
  tables (suc (suc zero)) h some = let f = header_of in let n = f.proto_ids_size in (record { kind = 3; items = p.rows.protos; begin = (proto_ids_begin p.rows); end = (field_ids_begin p.rows) }, inr (inr (inr (inl refl))), refl, omega (arith, n, some))
  tables (suc (suc (suc zero))) h some = let f = header_of in let n = f.field_ids_size in (record { kind = 4; items = p.rows.fields; begin = (field_ids_begin p.rows); end = (method_ids_begin p.rows) }, inr (inr (inr (inr (inl refl)))), refl, omega (arith, n, some))
  tables (suc (suc (suc (suc zero)))) h some = let f = header_of in let n = f.method_ids_size in (record { kind = 5; items = p.rows.methods; begin = (method_ids_begin p.rows); end = (class_defs_begin p.rows) }, inr (inr (inr (inr (inr (inl refl))))), refl, omega (arith, n, some))
  tables (suc (suc (suc (suc (suc zero))))) h some = let f = header_of in let n = f.class_defs_size in (record { kind = 6; items = p.rows.classes; begin = (class_defs_begin p.rows); end = (tables_end p.rows) }, inr (inr (inr (inr (inr (inr (inl refl)))))), refl, omega (arith, n, some))
  tables (suc (suc (suc (suc (suc (suc k)))))) h some = absurd (omega arith)

  map_is' : MapNames b (filter has_items spans)
  unfolding spans
  map_is' = w.named

  first_kind : (get_or (filter has_items spans) 0 no_span).kind ≡ 0
  unfolding spans
  first_kind = refl

  has_map : Has spans map_span
  unfolding spans map_span
  has_map = inr (inr (inr (inr (inr (inr (inr (inr (inr (inr (inr (inr (inl refl))))))))))))

  pub map_placed : MapIsPlaced b
  map_placed =
      let f = header_of in let e0 = ends.lists in let e1 = ends.codes in let e2 = ends.strings in let e3 = ends.arrays in let e4 = ends.datas in let m = w.after in
      let d = data_end_is in let o6 = f.data_off in let g = f.map_off in let al = w.aligned in let c = w.named.count in let we = w.ends in
      record { aligned = omega (arith, g, al); after = omega (arith, g, o6, e0, e1, e2, e3, e4, m); within = omega (arith, g, d, c, we) }

  pub map_holds_here : MapHolds b
  unfolding map_span
  map_holds_here = map_holds rank b spans follow named map_is' first_kind map_span map_placed has_map (omega arith) refl tables

  pub framed : IsFramed b
  framed = record { header = header_holds; sums = w.sums; sections = sections_hold; map = map_holds_here }

  section_of : (s : Span) → Has spans s → 0 < s.items → 0x1000 ≤ s.kind → SectionReaches b s.kind s.begin s.end
  section_of s h some kind = section rank b spans follow named map_is' first_kind s h some kind

  part_of : (kind : ℕ) (q : Part) → Has spans (part_span kind q) → 0x1000 ≤ kind → HasPart b kind q
  part_of kind q h high = record {
    counted = counted rank b spans follow named map_is' first_kind (part_span kind q) h;
    stands = λ some. section_of (part_span kind q) h some high;
  }

  pub lists_part : HasPart b 0x1001 p.lists
  unfolding spans
  lists_part = part_of 0x1001 p.lists (inr (inr (inr (inr (inr (inr (inr (inl refl)))))))) (omega arith)

  pub codes_part : HasPart b 0x2001 p.codes
  unfolding spans
  codes_part = part_of 0x2001 p.codes (inr (inr (inr (inr (inr (inr (inr (inr (inl refl))))))))) (omega arith)

  pub strings_part : HasPart b 0x2002 p.strings
  unfolding spans
  strings_part = part_of 0x2002 p.strings (inr (inr (inr (inr (inr (inr (inr (inr (inr (inl refl)))))))))) (omega arith)

  pub arrays_part : HasPart b 0x2005 p.arrays
  unfolding spans
  arrays_part = part_of 0x2005 p.arrays (inr (inr (inr (inr (inr (inr (inr (inr (inr (inr (inl refl))))))))))) (omega arith)

  pub datas_part : HasPart b 0x2000 p.datas
  unfolding spans
  datas_part = part_of 0x2000 p.datas (inr (inr (inr (inr (inr (inr (inr (inr (inr (inr (inr (inl refl)))))))))))) (omega arith)

  written_kinds : AllByRecursion (λ (s : Span). 0 < s.items → IsWrittenKind s.kind) spans
  unfolding spans
  written_kinds = (
    (λ _. inl (omega arith)),
    (
      (λ _. inl (omega arith)),
      (
        (λ _. inl (omega arith)),
        (
          (λ _. inl (omega arith)),
          (
            (λ _. inl (omega arith)),
            (
              (λ _. inl (omega arith)),
              (
                (λ _. inl (omega arith)),
                (
                  (λ _. inr (inr (inl refl))),
                  ((λ _. inr (inr (inr (inr (inl refl))))), ((λ _. inr (inr (inr (inr (inr (inl refl)))))), ((λ _. inr (inr (inr (inr (inr (inr (refl))))))), ((λ _. inr (inr (inr (inl refl)))), ((λ _. inr (inl refl)), tt))))),
                ),
              ),
            ),
          ),
        ),
      ),
    ),
  )

  pub kinds_known : (i : ℕ) → i < entry_count b → IsWrittenKind (kind_at b i)
  kinds_known i h =
      let c = map_is'.count in
      let l : i < length (filter has_items spans) = omega (arith, c, h) in
      subst IsWrittenKind (sym (map_is'.kinds i l)) (all_at (λ (s : Span). IsWrittenKind s.kind) (filter has_items spans) i (all_kept (λ (s : Span). IsWrittenKind s.kind) spans written_kinds) l)

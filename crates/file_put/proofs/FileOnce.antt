-- A well-formed program has one file.
use Rattle.std.proofs.Common.{◌≡◌, ℕ, ◌+◌, ◌-◌, ◌≤◌, List, ◌++◌, length, take, sym, ap, ◌∙◌, subst, arith, Option, Some, None}
use Rattle.std.specs.Prelude.{IfSome}
use Rattle.dex_base.specs.Mutf8.{PacksText}
use Rattle.dex_base.proofs.TextLaws.{packed_one}
use Rattle.dex_base.specs.Leb128.{Shortest}
use Rattle.dex_container.specs.Where.{slice}
use Rattle.dex_value.specs.Spelling.{SpellsArray}
use Rattle.program_types.specs.Content.{Code, Program}
use Rattle.program_types.specs.Formed.{IsFormed}
use Rattle.program_rules.specs.WellFormed.{WellFormed}
use Rattle.tables_names.specs.Closure.{Five, AreRising, NameRanks}
use Rattle.tables_names.specs.Needed.{needed}
use Rattle.tables_names.proofs.NeededLemmas.{needed_is_least}
use Rattle.code_write.proofs.HandlerOnce.{ranks-injective}
use Rattle.file_layout.specs.declared.plan.Plan.{Plan}
use Rattle.file_layout.specs.declared.plan.Part.{Part}
use Rattle.file_layout.specs.inner.Plan.{tables_end, IsWritten}
use Rattle.file_layout.specs.inner.Sections.{is_empty_list, never}
use Rattle.file_layout.specs.inner.Once.{AreSame, HasOneSpelling, part_of}
use Rattle.file_layout.specs.Tiles.{IsNext, gap}
use Rattle.file_layout.specs.inner.Tiles.{AreShared, Lays}
use Rattle.file_layout.proofs.FrontOnce.{written_once}
use Rattle.file_layout.proofs.LayingOnce.{layings_one}
use Rattle.file_layout.proofs.PartLaws.{part_cut}
use Rattle.file_limits.specs.inner.Wide.{array_values, body_values, list_values, text_values}
use Rattle.file_put.specs.inner.Codes.{PacksBody, is_bodiless}
use Rattle.file_put.specs.inner.Data.{PacksData, has_no_members, with_code_places}
use Rattle.file_put.specs.inner.Lists.{SpellsRanks}
use Rattle.file_put.specs.inner.Assembled.{Assembled, Places, SpellsTables, StandOnce}
use Rattle.file_put.proofs.AssembledLaws.{row_count}
use Rattle.dex_value.proofs.ArrayOnce.{array_once}
use Rattle.code_write.proofs.CodeOnce.{code_once}
use Rattle.file_put.proofs.RowsOnce.{name_rows_once, class_rows_once}
use Rattle.file_put.proofs.DataOnce.{data_once}
use Rattle.file_put.proofs.RankedLists.{lists_once}
use Rattle.file_put.proofs.BodyLaws.{bodies_formed}
use Rattle.dex_base.proofs.ListFacts.{all_of}

-- where a file that is written ends its parts
record Ends (b : List ℕ) (x : Plan) (map : ℕ) : Type 0 where
  lists : x.lists.end ≤ length b
  codes : x.codes.end ≤ length b
  strings : x.strings.end ≤ length b
  arrays : x.arrays.end ≤ length b
  datas : x.datas.end ≤ length b
  first : tables_end x.rows ≤ x.lists.end
  second : x.lists.end ≤ x.codes.end
  third : x.codes.end ≤ x.strings.end
  fourth : x.strings.end ≤ x.arrays.end
  fifth : x.arrays.end ≤ x.datas.end
  last : x.datas.end ≤ map
  front : 112 ≤ tables_end x.rows

ends_of : (b : List ℕ) (x : Plan) (map : ℕ) → IsWritten b x map → Ends b x map
ends_of b x map w =
    let a0 = w.planned.lists.after in let a1 = w.planned.codes.after in let a2 = w.planned.strings.after in
    let a3 = w.planned.arrays.after in let a4 = w.planned.datas.after in let a5 = w.after in let a6 = w.ends in
    record {
      lists = omega (arith, a0, a1, a2, a3, a4, a5, a6);
      codes = omega (arith, a0, a1, a2, a3, a4, a5, a6);
      strings = omega (arith, a0, a1, a2, a3, a4, a5, a6);
      arrays = omega (arith, a0, a1, a2, a3, a4, a5, a6);
      datas = omega (arith, a0, a1, a2, a3, a4, a5, a6);
      first = a0;
      second = a1;
      third = a2;
      fourth = a3;
      fifth = a4;
      last = a5;
      front = omega arith;
    }

body_once : (s : Five) → AreRising s → (o : Option Code) → IfSome o IsFormed → HasOneSpelling (PacksBody (NameRanks s)) o
body_once s rising None f a b i j p q = absurd p
body_once s rising (Some c) f a b i j p q = code_once (NameRanks s) (ranks-injective s rising) c a b f i j p q

part_same : (a b : Part) → a.items ≡ b.items → a.begin ≡ b.begin → a.end ≡ b.end → a ≡ b
part_same a b e f g = (λ k. record { items = e k; begin = f k; end = g k })

-- zeros up to the map
zeros_same : (b c : List ℕ) (from m n : ℕ) → IsNext 4 b from m → IsNext 4 c from n → (m ≡ n) × (part_of b from m ≡ part_of c from n)
zeros_same b c from m n p q =
    let e = p.there in let f = q.there in
    let g : m - from ≡ gap 4 from = omega (arith, e) in
    let h : n - from ≡ gap 4 from = omega (arith, f) in
    (omega (arith, e, f), ap (λ (k : ℕ). slice b from k) g ∙ p.clear ∙ sym q.clear ∙ ap (λ (k : ℕ). slice c from k) (sym h))

module _ (s : Five) (p : Program) (rising : AreRising s) (w : WellFormed p) (b c : List ℕ) (x : Assembled b s p) (y : Assembled c s p) (u : StandOnce s p x.at) (v : StandOnce s p y.at) where
  low : Ends b x.plan x.map
  low = ends_of b x.plan x.map x.written

  high : Ends c y.plan y.map
  high = ends_of c y.plan y.map y.written

  rows_same : x.plan.rows ≡ y.plan.rows
  rows_same = x.counts ∙ sym y.counts

  tables_same : tables_end x.plan.rows ≡ tables_end y.plan.rows
  tables_same = ap tables_end rows_same

  begin_same : x.plan.lists.begin ≡ y.plan.lists.begin
  begin_same = x.lies.lists_begin ∙ tables_same ∙ sym y.lies.lists_begin

  lists_same : AreSame b c x.plan.lists.begin x.plan.lists.end y.plan.lists.end x.at.lists y.at.lists x.plan.lists.items y.plan.lists.items
  lists_same =
      layings_one is_empty_list (SpellsRanks s) 4 x.plan.lists.begin x.plan.lists.end y.plan.lists.end b c (list_values s p) x.at.lists y.at.lists x.plan.lists.items y.plan.lists.items
      (λ n ts e l m i j f g. lists_once s rising l m ts f g) x.bytes y.bytes low.lists high.lists x.lies.lists u.lists
      (subst (λ (k : ℕ). Lays is_empty_list (SpellsRanks s) 4 k y.plan.lists.end c (list_values s p) y.at.lists y.plan.lists.items) (sym begin_same) y.lies.lists) v.lists

  codes_same : AreSame b c x.plan.lists.end x.plan.codes.end y.plan.codes.end x.at.codes y.at.codes x.plan.codes.items y.plan.codes.items
  codes_same =
      layings_one is_bodiless (PacksBody (NameRanks s)) 4 x.plan.lists.end x.plan.codes.end y.plan.codes.end b c (body_values p) x.at.codes y.at.codes x.plan.codes.items y.plan.codes.items
      (λ n o e. body_once s rising o (bodies_formed p w n o e)) x.bytes y.bytes low.codes high.codes x.lies.codes u.codes
      (subst (λ (k : ℕ). Lays is_bodiless (PacksBody (NameRanks s)) 4 k y.plan.codes.end c (body_values p) y.at.codes y.plan.codes.items) (sym lists_same.ends) y.lies.codes) v.codes

  strings_begin : x.plan.strings.begin ≡ y.plan.strings.begin
  strings_begin = x.lies.strings_begin ∙ codes_same.ends ∙ sym y.lies.strings_begin

  strings_same : AreSame b c x.plan.strings.begin x.plan.strings.end y.plan.strings.end x.at.texts y.at.texts x.plan.strings.items y.plan.strings.items
  strings_same =
      layings_one never PacksText 1 x.plan.strings.begin x.plan.strings.end y.plan.strings.end b c (text_values s) x.at.texts y.at.texts x.plan.strings.items y.plan.strings.items
      (λ n t e l m i j f g. packed_one l m t (all_of l i) (all_of m j) f g) x.bytes y.bytes low.strings high.strings x.lies.strings u.texts
      (subst (λ (k : ℕ). Lays never PacksText 1 k y.plan.strings.end c (text_values s) y.at.texts y.plan.strings.items) (sym strings_begin) y.lies.strings) v.texts

  arrays_begin : x.plan.arrays.begin ≡ y.plan.arrays.begin
  arrays_begin = x.lies.arrays_begin ∙ strings_same.ends ∙ sym y.lies.arrays_begin

  arrays_same : AreSame b c x.plan.arrays.begin x.plan.arrays.end y.plan.arrays.end x.at.arrays y.at.arrays x.plan.arrays.items y.plan.arrays.items
  arrays_same =
      layings_one is_empty_list (Shortest (SpellsArray (NameRanks s))) 1 x.plan.arrays.begin x.plan.arrays.end y.plan.arrays.end b c (array_values p) x.at.arrays y.at.arrays x.plan.arrays.items y.plan.arrays.items
      (λ n vs e l m i j f g. array_once (NameRanks s) (ranks-injective s rising) vs l m i j f g) x.bytes y.bytes low.arrays high.arrays x.lies.arrays u.arrays
      (subst (λ (k : ℕ). Lays is_empty_list (Shortest (SpellsArray (NameRanks s))) 1 k y.plan.arrays.end c (array_values p) y.at.arrays y.plan.arrays.items) (sym arrays_begin) y.lies.arrays) v.arrays

  datas_begin : x.plan.datas.begin ≡ y.plan.datas.begin
  datas_begin = x.lies.datas_begin ∙ arrays_same.ends ∙ sym y.lies.datas_begin

  datas_same : AreSame b c x.plan.datas.begin x.plan.datas.end y.plan.datas.end x.at.datas y.at.datas x.plan.datas.items y.plan.datas.items
  datas_same =
      layings_one has_no_members (PacksData (NameRanks s)) 1 x.plan.datas.begin x.plan.datas.end y.plan.datas.end b c (with_code_places p x.at.codes) x.at.datas y.at.datas x.plan.datas.items y.plan.datas.items
      (λ n d e l m i j f g. data_once (NameRanks s) (ranks-injective s rising) l m d i j f g) x.bytes y.bytes low.datas high.datas x.lies.datas u.datas
      (subst (λ (ks : List ℕ). Lays has_no_members (PacksData (NameRanks s)) 1 x.plan.datas.begin y.plan.datas.end c (with_code_places p ks) y.at.datas y.plan.datas.items) (sym codes_same.places_are)
      (subst (λ (k : ℕ). Lays has_no_members (PacksData (NameRanks s)) 1 k y.plan.datas.end c (with_code_places p y.at.codes) y.at.datas y.plan.datas.items) (sym datas_begin) y.lies.datas))
      (subst (λ (ks : List ℕ). AreShared y.at.datas (with_code_places p ks)) (sym codes_same.places_are) v.datas)

  -- ---- plan, places and rows

  places_same : x.at ≡ y.at
  places_same =
      let e0 = lists_same.places_are in let e1 = codes_same.places_are in let e2 = strings_same.places_are in let e3 = arrays_same.places_are in let e4 = datas_same.places_are in
      (λ k. record { lists = e0 k; codes = e1 k; texts = e2 k; arrays = e3 k; datas = e4 k })

  codes_begin : x.plan.codes.begin ≡ y.plan.codes.begin
  codes_begin = x.lies.codes_begin ∙ ap (λ (k : ℕ). k + gap 4 k) lists_same.ends ∙ sym y.lies.codes_begin

  plan_same : x.plan ≡ y.plan
  plan_same =
      let e0 = part_same x.plan.lists y.plan.lists lists_same.counts begin_same lists_same.ends in
      let e1 = part_same x.plan.codes y.plan.codes codes_same.counts codes_begin codes_same.ends in
      let e2 = part_same x.plan.strings y.plan.strings strings_same.counts strings_begin strings_same.ends in
      let e3 = part_same x.plan.arrays y.plan.arrays arrays_same.counts arrays_begin arrays_same.ends in
      let e4 = part_same x.plan.datas y.plan.datas datas_same.counts datas_begin datas_same.ends in
      (λ k. record { rows = rows_same k; lists = e0 k; codes = e1 k; strings = e2 k; arrays = e3 k; datas = e4 k })

  tables_are : x.rows ≡ y.rows
  tables_are =
      let t = x.tables in
      let r = subst (λ (at : Places). SpellsTables s p at y.rows) (sym places_same) y.tables in
      let e0 = name_rows_once s rising x.at.texts (take (length s.protos) x.at.lists) t.names r.names t.name_rows r.name_rows in
      let e1 = class_rows_once s rising t.classes r.classes _ t.class_rows r.class_rows in
      t.whole ∙ (λ k. e0 k ++ e1 k) ∙ sym r.whole

  -- ---- bytes between header and map

  rows_part : part_of b 112 (tables_end x.plan.rows) ≡ part_of c 112 (tables_end x.plan.rows)
  rows_part =
      let n = row_count s p x.at x.rows x.tables in
      let m = ap tables_end x.counts in
      let size : tables_end x.plan.rows - 112 ≡ length x.rows = omega (arith, n, m) in
      ap (λ (k : ℕ). slice b 112 k) size ∙ x.rows_are ∙ tables_are ∙ sym y.rows_are ∙ ap (λ (k : ℕ). slice c 112 k) (ap length (sym tables_are) ∙ sym size)

  map_same : (x.map ≡ y.map) × (part_of b x.plan.datas.end x.map ≡ part_of c x.plan.datas.end y.map)
  map_same = zeros_same b c x.plan.datas.end x.map y.map x.next (subst (λ (k : ℕ). IsNext 4 c k y.map) (sym datas_same.ends) y.next)

  -- a part that goes on
  joined : (from mid to : ℕ) → from ≤ mid → mid ≤ to → part_of b from mid ≡ part_of c from mid → part_of b mid to ≡ part_of c mid to → part_of b from to ≡ part_of c from to
  joined from mid to l m e f = part_cut b from mid to l m ∙ (λ k. e k ++ f k) ∙ sym (part_cut c from mid to l m)

  to_lists : part_of b 112 x.plan.lists.end ≡ part_of c 112 x.plan.lists.end
  to_lists =
      let e = subst (λ (k : ℕ). part_of b k x.plan.lists.end ≡ part_of c k y.plan.lists.end) x.lies.lists_begin lists_same.bytes in
      joined 112 (tables_end x.plan.rows) x.plan.lists.end low.front low.first rows_part (e ∙ ap (λ (k : ℕ). part_of c (tables_end x.plan.rows) k) (sym lists_same.ends))

  to_codes : part_of b 112 x.plan.codes.end ≡ part_of c 112 x.plan.codes.end
  to_codes =
      let f = low.front in let g = low.first in
      joined 112 x.plan.lists.end x.plan.codes.end (omega (arith, f, g)) low.second to_lists (codes_same.bytes ∙ ap (λ (k : ℕ). part_of c x.plan.lists.end k) (sym codes_same.ends))

  to_strings : part_of b 112 x.plan.strings.end ≡ part_of c 112 x.plan.strings.end
  to_strings =
      let f = low.front in let g = low.first in let h = low.second in
      let e = subst (λ (k : ℕ). part_of b k x.plan.strings.end ≡ part_of c k y.plan.strings.end) x.lies.strings_begin strings_same.bytes in
      joined 112 x.plan.codes.end x.plan.strings.end (omega (arith, f, g, h)) low.third to_codes (e ∙ ap (λ (k : ℕ). part_of c x.plan.codes.end k) (sym strings_same.ends))

  to_arrays : part_of b 112 x.plan.arrays.end ≡ part_of c 112 x.plan.arrays.end
  to_arrays =
      let f = low.front in let g = low.first in let h = low.second in let i = low.third in
      let e = subst (λ (k : ℕ). part_of b k x.plan.arrays.end ≡ part_of c k y.plan.arrays.end) x.lies.arrays_begin arrays_same.bytes in
      joined 112 x.plan.strings.end x.plan.arrays.end (omega (arith, f, g, h, i)) low.fourth to_strings (e ∙ ap (λ (k : ℕ). part_of c x.plan.strings.end k) (sym arrays_same.ends))

  to_datas : part_of b 112 x.plan.datas.end ≡ part_of c 112 x.plan.datas.end
  to_datas =
      let f = low.front in let g = low.first in let h = low.second in let i = low.third in let j = low.fourth in
      let e = subst (λ (k : ℕ). part_of b k x.plan.datas.end ≡ part_of c k y.plan.datas.end) x.lies.datas_begin datas_same.bytes in
      joined 112 x.plan.arrays.end x.plan.datas.end (omega (arith, f, g, h, i, j)) low.fifth to_arrays (e ∙ ap (λ (k : ℕ). part_of c x.plan.arrays.end k) (sym datas_same.ends))

  to_map : part_of b 112 x.map ≡ part_of c 112 x.map
  to_map =
      let f = low.front in let g = low.first in let h = low.second in let i = low.third in let j = low.fourth in let l = low.fifth in
      joined 112 x.plan.datas.end x.map (omega (arith, f, g, h, i, j, l)) low.last to_datas (map_same.1 ∙ ap (λ (k : ℕ). part_of c x.plan.datas.end k) (sym map_same.0))

  pub assembled_one : b ≡ c
  assembled_one =
      let f = low.front in let g = low.first in let h = low.second in let i = low.third in let j = low.fourth in let l = low.fifth in let m = low.last in
      let other : IsWritten c x.plan x.map = subst (λ (n : ℕ). IsWritten c x.plan n) (sym map_same.0) (subst (λ (q : Plan). IsWritten c q y.map) (sym plan_same) y.written) in
      written_once b c x.plan x.map x.bytes y.bytes x.written other (omega (arith, f, g, h, i, j, l, m)) to_map

pub file_one : (p : Program) → WellFormed p → (b c : List ℕ) → Assembled b (needed p) p → Assembled c (needed p) p → b ≡ c
file_one p w b c x y = assembled_one (needed p) p (needed_is_least p).0 w b c x y x.once y.once

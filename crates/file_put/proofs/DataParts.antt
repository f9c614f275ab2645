-- The parts of the data, one after the other.
use Rattle.std.proofs.Common.{◌≡◌, ℕ, Bool, ◌+◌, ◌<◌, ◌≤◌, List, ◌++◌, length, refl, sym, ap, ◌∙◌, arith, subst, length-append}
use Rattle.dex_base.specs.Mutf8.{PacksText}
use Rattle.dex_base.specs.Leb128.{Shortest}
use Rattle.dex_container.specs.Where.{slice}
use Rattle.file_layout.specs.inner.Plan.{tables_end, Follows}
use Rattle.file_layout.specs.Sections.{wide_all}
use Rattle.file_layout.specs.inner.Sections.{is_empty_list, never, Laid}
use Rattle.file_layout.specs.Tiles.{Tiles, Done, Item, gap}
use Rattle.file_layout.specs.inner.Tiles.{Agree, Lays}
use Rattle.file_layout.specs.declared.plan.Plan.{Plan}
use Rattle.file_layout.proofs.TileLaws.{Tiles-le, Lays-agree, agree-append}
use Rattle.file_limits.specs.Wide.{wide_body, wide_list, wide_of}
use Rattle.file_limits.specs.inner.Wide.{array_values, body_values, list_values, text_values, wide_text}
use Rattle.tables_names.specs.Closure.{Five, NameRanks}
use Rattle.program_types.specs.Content.{Program}
use Rattle.file_put.specs.inner.Codes.{PacksBody, is_bodiless}
use Rattle.file_put.specs.inner.Data.{PacksData, has_no_members, with_code_places, wide_with_codes}
use Rattle.file_put.specs.inner.Lists.{SpellsRanks}
use Rattle.file_put.proofs.SitedLaws.{room_of_sited}
use Rattle.dex_value.specs.Spelling.{SpellsArray}
use Rattle.dex_value.specs.Wide.{wide_array}
use Rattle.file_put.specs.inner.Assembled.{Places, DataLies, DataIsLaid, StandOnce, rows_of}
use Rattle.file_put.proofs.FitsLaws.{HasRoom, Room}

-- items take bytes
pub tiles_take : {V : Type 0} {G : List ℕ → V → Type 0} {align : ℕ} {b : List ℕ} {at end : ℕ} {items : List (ℕ × V)} → Tiles G align b at end items → 0 < length items → at + gap align at < end
tiles_take Done some = absurd (omega arith)
tiles_take (Item next some spelled rest) h = let l = Tiles-le rest in let e = next.there in omega (arith, l, e, some)

agree_trans : (a b c : List ℕ) (from mid to : ℕ) → Agree a b from mid → Agree b c from to → mid ≤ to → Agree a c from mid
agree_trans a b c from mid to x y le = record { each = λ place size lo hi. x.each place size lo hi ∙ y.each place size lo (omega (arith, hi, le)) }

agree_more : (a b : List ℕ) (from : ℕ) → ((more : List ℕ) × (b ≡ a ++ more)) → Agree a b from (length a)
agree_more a b from m = record { each = λ place size lo hi. subst (λ (c : List ℕ). slice a place size ≡ slice c place size) (sym m.1) ((agree-append a m.0).each place size (omega arith) hi) }

longer : (a b : List ℕ) → ((more : List ℕ) × (b ≡ a ++ more)) → length a ≤ length b
longer a b m = let e = ap length m.1 ∙ length-append a m.0 in omega (arith, e)

-- a part that is laid takes no more than its room
pub next : {V : Type 0} {none : V → Bool} {G : List ℕ → V → Type 0} {align : ℕ} {wide : V → ℕ} {o o1 : List ℕ} {vs : List V} {places : List ℕ} {count more : ℕ}
    → HasRoom (length o) (wide_all wide vs + more) → Laid none G align wide o o1 vs places count → HasRoom (length o1) more
next {o = o} {o1 = o1} r l =
    let g = longer o o1 l.grown in
    let b = l.bound in
    record { some = omega (arith, r.some, g); small = omega (arith, r.small, b) }

-- a part that is laid, and begins at its first item or where that is aligned
part_follows : {V : Type 0} (none : V → Bool) (G : List ℕ → V → Type 0) (align at begin first end : ℕ) (b : List ℕ) (vs : List V) (places : List ℕ) (count : ℕ)
    → Lays none G align begin end b vs places count → at ≤ begin → begin ≤ first → first ≤ begin + gap align begin → Follows at (record { items = count; begin = first; end = end })
part_follows none G align at begin first end b vs places count l low from upto =
    let t = Tiles-le l.tiled in
    let c = l.counted in
    record {
      after = omega (arith, t, low);
      begins = λ h. omega (arith, low, from);
      takes = λ h. let k = tiles_take l.tiled (omega (arith, c, h)) in omega (arith, k, upto);
    }

-- how many items each part has
pub record Counts : Type 0 where
  pub lists : ℕ
  pub codes : ℕ
  pub texts : ℕ
  pub arrays : ℕ
  pub datas : ℕ

-- the plan of these parts
abbrev pub plan_of : Five → Program → Counts → ℕ → ℕ → ℕ → ℕ → ℕ → ℕ → Plan
plan_of s p n e0 e1 e2 e3 e4 e5 = record {
  rows = rows_of s p;
  lists = record { items = n.lists; begin = e0; end = e1 };
  codes = record { items = n.codes; begin = e1 + gap 4 e1; end = e2 };
  strings = record { items = n.texts; begin = e2; end = e3 };
  arrays = record { items = n.arrays; begin = e3; end = e4 };
  datas = record { items = n.datas; begin = e4; end = e5 };
}

-- the parts, as they were laid one after the other
pub record AreLaid (s : Five) (p : Program) (o0 o1 o2 o3 o4 o5 : List ℕ) (at : Places) (n : Counts) : Type 0 where
  pub lists : Laid is_empty_list (SpellsRanks s) 4 wide_list o0 o1 (list_values s p) at.lists n.lists
  pub codes : Laid is_bodiless (PacksBody (NameRanks s)) 4 wide_body o1 o2 (body_values p) at.codes n.codes
  pub texts : Laid never PacksText 1 wide_text o2 o3 (text_values s) at.texts n.texts
  pub arrays : Laid is_empty_list (Shortest (SpellsArray (NameRanks s))) 1 wide_array o3 o4 (array_values p) at.arrays n.arrays
  pub datas : Laid has_no_members (PacksData (NameRanks s)) 1 wide_with_codes o4 o5 (with_code_places p at.codes) at.datas n.datas
  pub once : StandOnce s p at

module _ (s : Five) (p : Program) (room : Room s p) (o0 o1 o2 o3 o4 o5 : List ℕ) (at : Places) (n : Counts)
    (front : length o0 ≡ tables_end (rows_of s p)) (l : AreLaid s p o0 o1 o2 o3 o4 o5 at n) where
  bounded : length o5 + 163 ≤ wide_of s p
  bounded =
      let b1 = l.lists.bound in let b2 = l.codes.bound in let b3 = l.texts.bound in let b4 = l.arrays.bound in let b5 = l.datas.bound in
      let w = room_of_sited p at.codes in
      let r = room in omega (arith, front, b1, b2, b3, b4, b5, w, r.rows_are, r.lists_are, r.codes_are, r.texts_are, r.arrays_are, r.datas_are, r.sum)

  a4 : Agree o4 o5 0 (length o4)
  a4 = agree_more o4 o5 0 l.datas.grown

  a3 : Agree o3 o5 0 (length o3)
  a3 = agree_trans o3 o4 o5 0 (length o3) (length o4) (agree_more o3 o4 0 l.arrays.grown) a4 (longer o3 o4 l.arrays.grown)

  a2 : Agree o2 o5 0 (length o2)
  a2 = agree_trans o2 o3 o5 0 (length o2) (length o3) (agree_more o2 o3 0 l.texts.grown) a3 (longer o2 o3 l.texts.grown)

  a1 : Agree o1 o5 0 (length o1)
  a1 = agree_trans o1 o2 o5 0 (length o1) (length o2) (agree_more o1 o2 0 l.codes.grown) a2 (longer o1 o2 l.codes.grown)

  pub laid : DataIsLaid o5 s p (plan_of s p n (length o0) (length o1) (length o2) (length o3) (length o4) (length o5)) at
  laid =
      let g1 = longer o0 o1 l.lists.grown in let g2 = longer o1 o2 l.codes.grown in let g3 = longer o2 o3 l.texts.grown in let g4 = longer o3 o4 l.arrays.grown in let g5 = longer o4 o5 l.datas.grown in
      record {
        counts = refl;
        planned = record {
          lists = part_follows is_empty_list (SpellsRanks s) 4 (tables_end (rows_of s p)) (length o0) (length o0) (length o1) o1 (list_values s p) at.lists n.lists l.lists.lays (omega (arith, front)) (omega arith) (omega arith);
          codes = part_follows is_bodiless _ 4 (length o1) (length o1) (length o1 + gap 4 (length o1)) (length o2) o2 (body_values p) at.codes n.codes l.codes.lays (omega arith) (omega arith) (omega arith);
          strings = part_follows never PacksText 1 (length o2) (length o2) (length o2) (length o3) o3 (text_values s) at.texts n.texts l.texts.lays (omega arith) (omega arith) (omega arith);
          arrays = part_follows is_empty_list _ 1 (length o3) (length o3) (length o3) (length o4) o4 (array_values p) at.arrays n.arrays l.arrays.lays (omega arith) (omega arith) (omega arith);
          datas = part_follows has_no_members _ 1 (length o4) (length o4) (length o4) (length o5) o5 (with_code_places p at.codes) at.datas n.datas l.datas.lays (omega arith) (omega arith) (omega arith);
          few_types = room.few_types;
          few_protos = room.few_protos;
        };
        end = refl;
        front = omega (arith, front, g1, g2, g3, g4, g5);
        bound = bounded;
        lies = record {
          lists_begin = front;
          codes_begin = refl;
          strings_begin = refl;
          arrays_begin = refl;
          datas_begin = refl;
          lists = Lays-agree is_empty_list (SpellsRanks s) 4 (length o0) (length o1) o1 o5 0 (list_values s p) at.lists n.lists l.lists.lays (omega arith) a1;
          codes = Lays-agree is_bodiless _ 4 (length o1) (length o2) o2 o5 0 (body_values p) at.codes n.codes l.codes.lays (omega arith) a2;
          strings = Lays-agree never PacksText 1 (length o2) (length o3) o3 o5 0 (text_values s) at.texts n.texts l.texts.lays (omega arith) a3;
          arrays = Lays-agree is_empty_list _ 1 (length o3) (length o4) o4 o5 0 (array_values p) at.arrays n.arrays l.arrays.lays (omega arith) a4;
          datas = l.datas.lays;
        };
        once = l.once;
      }

-- the data lies in the finished file as it was laid
pub lies_agree : (out b : List ℕ) (s : Five) (p : Program) (plan : Plan) (at : Places) → DataIsLaid out s p plan at → Agree out b (tables_end plan.rows) (length out) → DataLies b s p plan at
lies_agree out b s p plan at d same =
    let l = d.lies in
    let f = d.planned in let f1 = f.lists.after in let f2 = f.codes.after in let f3 = f.strings.after in let f4 = f.arrays.after in let f5 = f.datas.after in
    let en = d.end in
    let e1 = l.lists_begin in let e3 = l.strings_begin in let e4 = l.arrays_begin in let e5 = l.datas_begin in
    let upto : (to : ℕ) → to ≤ length out → Agree out b (tables_end plan.rows) to = λ to le. record { each = λ place size lo hi. same.each place size lo (omega (arith, hi, le)) } in
    record {
      lists_begin = l.lists_begin;
      codes_begin = l.codes_begin;
      strings_begin = l.strings_begin;
      arrays_begin = l.arrays_begin;
      datas_begin = l.datas_begin;
      lists = Lays-agree is_empty_list (SpellsRanks s) 4 plan.lists.begin plan.lists.end out b (tables_end plan.rows) (list_values s p) at.lists plan.lists.items l.lists (omega (arith, e1)) (upto plan.lists.end (omega (arith, f2, f3, f4, f5, en)));
      codes = Lays-agree is_bodiless _ 4 plan.lists.end plan.codes.end out b (tables_end plan.rows) (body_values p) at.codes plan.codes.items l.codes (omega (arith, f1)) (upto plan.codes.end (omega (arith, f3, f4, f5, en)));
      strings = Lays-agree never PacksText 1 plan.strings.begin plan.strings.end out b (tables_end plan.rows) (text_values s) at.texts plan.strings.items l.strings (omega (arith, f1, f2, e3)) (upto plan.strings.end (omega (arith, f4, f5, en)));
      arrays = Lays-agree is_empty_list _ 1 plan.arrays.begin plan.arrays.end out b (tables_end plan.rows) (array_values p) at.arrays plan.arrays.items l.arrays (omega (arith, f1, f2, f3, e4)) (upto plan.arrays.end (omega (arith, f5, en)));
      datas = Lays-agree has_no_members _ 1 plan.datas.begin plan.datas.end out b (tables_end plan.rows) (with_code_places p at.codes) at.datas plan.datas.items l.datas (omega (arith, f1, f2, f3, f4, e5)) (upto plan.datas.end (omega (arith, en)));
    }

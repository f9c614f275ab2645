-- What a program within the limits has room for.
use Rattle.std.proofs.Common.{◌≡◌, ℕ, zero, suc, ◌+◌, ◌<◌, ◌≤◌, ◌∙◌, List, [], ◌∷◌, ◌++◌, length, refl, subst, ap, arith, Some}
use Rattle.std.specs.List.{slice_get}
use Rattle.file_layout.specs.inner.Plan.{tables_end}
use Rattle.file_layout.specs.Sections.{wide_all}
use Rattle.file_layout.specs.declared.plan.Rows.{Rows}
use Rattle.file_limits.specs.Limits.{Fits}
use Rattle.file_limits.specs.Wide.{bodies_of, wide, wide_body, wide_data, wide_list, wide_of}
use Rattle.file_limits.specs.inner.Wide.{array_values, body_values, list_values, text_values, wide_rows, wide_text}
use Rattle.file_limits.proofs.PartLaws.{by_parts}
use Rattle.file_limits.proofs.SumLaws.{wide_all_append}
use Rattle.tables_names.specs.Closure.{Five}
use Rattle.tables_names.specs.Needed.{needed}
use Rattle.program_types.specs.Content.{Class, Program}
use Rattle.file_put.specs.inner.Named.{FewNames}
use Rattle.dex_value.specs.Wide.{wide_array}
use Rattle.file_put.specs.inner.Assembled.{rows_of}

-- the parts of the sum
pub record Room (s : Five) (p : Program) : Type 0 where
  pub rows : ℕ
  pub lists : ℕ
  pub codes : ℕ
  pub texts : ℕ
  pub arrays : ℕ
  pub datas : ℕ
  pub rows_are : rows ≡ wide_rows s p
  pub lists_are : lists ≡ wide_all wide_list (list_values s p)
  pub codes_are : codes ≡ wide_all wide_body (body_values p)
  pub texts_are : texts ≡ wide_all wide_text (text_values s)
  pub arrays_are : arrays ≡ wide_all wide_array (array_values p)
  pub datas_are : datas ≡ wide_all wide_data p
  pub sum : wide_of s p ≡ rows + lists + codes + texts + arrays + datas + 163
  pub whole : rows + lists + codes + texts + arrays + datas + 163 ≤ 4294967295
  pub few_types : length s.types ≤ 65535
  pub few_protos : length s.protos ≤ 65535

pub room_by_parts : (p : Program) → wide p ≤ 4294967295 → length (needed p).types ≤ 65535 → length (needed p).protos ≤ 65535 → Room (needed p) p
room_by_parts p small types protos = record {
  rows = _;
  lists = _;
  codes = _;
  texts = _;
  arrays = _;
  datas = _;
  rows_are = refl;
  lists_are = refl;
  codes_are = refl;
  texts_are = refl;
  arrays_are = refl;
  datas_are = refl;
  sum = by_parts (needed p) p;
  whole = let b = by_parts (needed p) p in omega (arith, small, b);
  few_types = types;
  few_protos = protos;
}

pub room_of : (s : Five) (p : Program) → s ≡ needed p → Fits p → Room s p
room_of s p e f = rw e (room_by_parts p f.small f.few_types f.few_protos)

pub few_of : (s : Five) (p : Program) → Room s p → FewNames s
few_of s p r = record {
  strings = omega (arith, r.rows_are, r.whole);
  types = omega (arith, r.few_types);
  fields = omega (arith, r.rows_are, r.whole);
  methods = omega (arith, r.rows_are, r.whole);
}

-- So many bytes stand, and there is room after them for so many more and the map.
pub record HasRoom (n more : ℕ) : Type 0 where
  pub some : 0 < n
  pub small : n + more + 163 ≤ 4294967295

-- how much all parts of the data take at most, in their order
abbrev pub all_parts : Five → Program → ℕ
all_parts s p = wide_all wide_list (list_values s p) + (wide_all wide_body (body_values p) + (wide_all wide_text (text_values s) + (wide_all wide_array (array_values p) + wide_all wide_data p)))

-- header and tables have room after them for these
pub after_tables : (s : Five) (p : Program) (rows : Rows) (n : ℕ) → Room s p → rows ≡ rows_of s p → n ≡ tables_end rows → HasRoom n (all_parts s p)
after_tables s p rows n w r m =
    let t : n ≡ tables_end (rows_of s p) = m ∙ ap tables_end r in
    record { some = omega (arith, t); small = omega (arith, t, w.rows_are, w.lists_are, w.codes_are, w.texts_are, w.arrays_are, w.datas_are, w.whole) }

pub after : {s : Five} {p : Program} {rows : Rows} {n : ℕ} → s ≡ needed p → Fits p → rows ≡ rows_of s p → n ≡ tables_end rows → HasRoom n (all_parts s p)
after {s = s} {p = p} {rows = rows} {n = n} e f r m = after_tables s p rows n (room_of s p e f) r m

-- a part of a sum is no greater
pub front_small : {V : Type 0} (w : V → ℕ) (xs ys : List V) (n : ℕ) → wide_all w (xs ++ ys) ≤ n → wide_all w xs ≤ n
front_small w xs ys n h = let r = wide_all_append w xs ys in omega (arith, r, h)

pub back_small : {V : Type 0} (w : V → ℕ) (xs ys : List V) (n : ℕ) → wide_all w (xs ++ ys) ≤ n → wide_all w ys ≤ n
back_small w xs ys n h = let r = wide_all_append w xs ys in omega (arith, r, h)

-- the bodies of class i are small
pub class_small : (p : Program) (i : ℕ) (c : Class) (n : ℕ) → slice_get p i ≡ Some c → wide_all wide_body (body_values p) ≤ n → wide_all wide_body (bodies_of c) ≤ n
class_small [] i c n e h = absurd (cc e)
class_small (d ∷ p) zero c n e h =
    let same : d ≡ c = cc e in
    subst (λ (x : Class). wide_all wide_body (bodies_of x) ≤ n) same (front_small wide_body (bodies_of d) (body_values p) n h)
class_small (d ∷ p) (suc i) c n e h = class_small p i c n e (back_small wide_body (bodies_of d) (body_values p) n h)

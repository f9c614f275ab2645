-- The bodies of all methods of a file, by class.
use Rattle.std.proofs.Common.{◌≡◌, ℕ, zero, suc, ◌+◌, ◌^◌, ◌<◌, ◌≤◌, Bool, true, false, List, [], ◌∷◌, ◌++◌, length, map, take, refl, sym, ap, subst, ◌∙◌, arith, slice_get, Some, None, Option, append_assoc, append-nil}
use Rattle.std.specs.Prelude.{MatchBool, ◌==◌}
use Rattle.std.specs.List.{AllByRecursion, flat_map}
use Rattle.std.proofs.lemmas.List.{take_all, map-append}
use Rattle.std.proofs.lemmas.Option.{slice_get_within}
use Rattle.dex_base.specs.Fields.{AreBytes}
use Rattle.code_write.proofs.HandlerOnce.{ranks-injective}
use Rattle.code_read.proofs.CodesFormed.{standing-formed}
use Rattle.dex_container.specs.Layout.{size_of}
use Rattle.file_classes.specs.ClassData.{Entries, EntriesAt}
use Rattle.file_classes.specs.Classes.{CodeAt, CodesAre, SomeCodeStands}
use Rattle.file_classes.specs.ClassRows.{class_word}
use Rattle.file_classes.specs.inner.Reading.{entries, method_entry}
use Rattle.file_classes.specs.declared.class_data.Entries as held
use Rattle.file_classes.specs.declared.class_data.MethodEntry as held_method
use Rattle.file_classes.proofs.EntryLaws.{entries_one}
use Rattle.file_classes.proofs.OnceLaws.{class_one}
use Rattle.file_strip.specs.inner.AtLeast.{AreNoFurther}
use Rattle.file_strip.proofs.StandingFits.{codes-fit}
use Rattle.file_layout.specs.Sections.{wide_all}
use Rattle.file_limits.specs.Wide.{bodies_in, bodies_of, wide_body}
use Rattle.file_limits.specs.inner.Wide.{body_values}
use Rattle.file_limits.proofs.SumLaws.{wide_all_append}
use Rattle.file_needed.proofs.ClassNames.{directs_kept, virtuals_kept}
use Rattle.program_types.specs.Content.{Class, Code, Descriptor, Method, Name, OfDesc, OfField, OfMethod, OfText, Program}
use Rattle.program_types.specs.Mentions.{if_any, names_of_code, names_of_method}
use Rattle.tables_names.specs.Closure.{NameRanks}
use Rattle.tables_names.specs.inner.Closure.{Holds}
use Rattle.tables_names.specs.Needed.{needed}
use Rattle.file_renumber.specs.inner.Marked.{Columns, IsColumn, kind_of}
use Rattle.file_renumber.specs.inner.Numbers.{Carries, Counts, column_of}
use Rattle.tables_rows.specs.Stands.{NameStands}
use Rattle.file_strip.specs.inner.Bodies.{AreFirstBodies, AreOwned, IsCarriedBody, IsCarriedSome, IsOwned, body_of, numbered}
use Rattle.file_strip.specs.declared.codes.PlacedBody.{PlacedBody}
use Rattle.file_strip.specs.inner.Keeping.{Keeps}
use Rattle.file_strip.proofs.KeepLaws.{carried, class_holds, number_is}
use Rattle.file_strip.proofs.FarLaws.{pairs}
use Rattle.file_strip.proofs.RowsFrom.{ranked_holds}
use Rattle.file_renumber.proofs.ColumnLemmas.{before_few}
use Rattle.dex_base.proofs.ListFacts.{some_inj, all_front, all_back, all_weaker, zip_append}
use Rattle.file_classes.proofs.EntryLaws.{entry_at, list_same}

-- ---- no number is above its row

low_number : (n : ℕ) (column numbers : List ℕ) → IsColumn n column → Counts column numbers → (i number : ℕ) → slice_get numbers i ≡ Some number → number ≤ i
low_number n column numbers shape counts i number at =
    let lt = slice_get_within numbers i number at in
    let long = counts.long in
    let e = counts.each i (omega (arith, lt, long)) in
    let f = before_few column i shape.small in
    let g = number_is numbers i number at in
    omega (arith, e, f, g)

module _ (b : List ℕ) (numbers : Columns) (p : Program) (k : Keeps b numbers p) where
  low_of : (which : Name) (i number : ℕ) → slice_get (column_of numbers (kind_of which)) i ≡ Some number → number ≤ i
  low_of (OfText t) i number at = low_number (size_of b 0) k.marks.columns.strings numbers.strings k.marked.strings.shape k.numbered.strings i number at
  low_of (OfDesc t) i number at = low_number (size_of b 1) k.marks.columns.types numbers.types k.marked.types.shape k.numbered.types i number at
  low_of (OfField f) i number at = low_number (size_of b 3) k.marks.columns.fields numbers.fields k.marked.fields.shape k.numbered.fields i number at
  low_of (OfMethod m) i number at = low_number (size_of b 4) k.marks.columns.methods numbers.methods k.marked.methods.shape k.numbered.methods i number at

  no_further : AreNoFurther (needed p) b
  no_further which row rank stands ranked =
      let r = carried b numbers p k which (ranked_holds (needed p) rank which ranked) row stands in
      let l = low_of which row r.0 r.1 in
      let same : rank ≡ r.0 = ranks-injective (needed p) k.marked.rise rank r.0 which ranked r.2 in
      omega (arith, l, same)

  -- ---- one body

  some_body : (off : ℕ) (v : Option Code) → AreBytes b → AllByRecursion (Holds (needed p)) (if_any names_of_code v) → wide_body v < 2 ^ 32 → SomeCodeStands b off v → IsCarriedSome b numbers (needed p) off v
  some_body off v are held short x =
      let F = codes-fit b (needed p) off x.some are k.marked.framed x.stands no_further in
      let w = subst (λ (o : Option Code). wide_body o < 2 ^ 32) x.is short in
      record {
        code = x.some;
        is = x.is;
        carried = record {
          stands = x.stands;
          rise = k.marked.rise;
          carried = all_weaker (Holds (needed p)) (Carries (NameStands b) (NameRanks (needed p)) numbers) (carried b numbers p k) (names_of_code x.some) (subst (λ (o : Option Code). AllByRecursion (Holds (needed p)) (if_any names_of_code o)) x.is held);
          fits = F.names;
          short = omega (arith, w);
        };
        fits = F;
        formed = standing-formed b are k.marked.framed off x.some x.stands;
      }

  body_carried : (off : ℕ) (v : Option Code) → AreBytes b → AllByRecursion (Holds (needed p)) (if_any names_of_code v) → wide_body v < 2 ^ 32 → CodeAt b off v → IsCarriedBody b numbers (needed p) off v
  body_carried off v are held short x =
      elim (off == 0) as (λ (t : Bool). MatchBool t (v ≡ None) (SomeCodeStands b off v) → MatchBool t (v ≡ None) (IsCarriedSome b numbers (needed p) off v)) [
        | true ↦ λ e. e
        | false ↦ λ y. some_body off v are held short y
      ] x

  -- ---- the methods of a class

  methods_owned : (n : ℕ) (class : Descriptor) (es : List held_method.MethodEntry) (ms : List Method) → AreBytes b → length ms ≡ length (map method_entry es) → CodesAre b (map method_entry es) ms
      → AllByRecursion (Holds (needed p)) (flat_map (names_of_method class) ms) → wide_all wide_body (bodies_in ms) < 2 ^ 32 → AreOwned b numbers (needed p) (map (body_of n) es) (map (λ v. (n, v)) (bodies_in ms))
  methods_owned n class [] [] are count codes held short = tt
  methods_owned n class [] (m ∷ ms) are count codes held short = absurd (omega (arith, count))
  methods_owned n class (e ∷ es) [] are count codes held short = absurd (omega (arith, count))
  methods_owned n class (e ∷ es) (m ∷ ms) are count codes held short = (
    record { class = refl; body = body_carried e.code m.code are (all_front (Holds (needed p)) (if_any names_of_code m.code) (flat_map (names_of_method class) ms) held.1) (omega (arith, short)) (codes 0 (method_entry e) m refl refl) },
    methods_owned n class es ms are (omega (arith, count)) (λ j x y at_x at_y. codes (suc j) x y at_x at_y) (all_back (Holds (needed p)) (if_any names_of_code m.code) (flat_map (names_of_method class) ms) held.1) (omega (arith, short)),
  )

-- ---- one more class

numbered_more : (n : ℕ) (p : Program) (i : ℕ) (c : Class) → slice_get p i ≡ Some c → numbered n (take (suc i) p) ≡ numbered n (take i p) ++ map (λ v. (n + i, v)) (bodies_of c)
numbered_more n [] i c at = absurd cc
numbered_more n (d ∷ p) zero c at =
    let e = some_inj d c at in
    let z : n + 0 ≡ n = omega arith in
    append-nil (map (λ v. (n, v)) (bodies_of d)) ∙ (λ j. map (λ v. ((sym z) j, v)) (bodies_of (e j)))
numbered_more n (d ∷ p) (suc i) c at =
    let r = numbered_more (n + 1) p i c at in
    let z : (n + 1) + i ≡ n + suc i = omega arith in
    ap (λ (l : List (ℕ × Option Code)). map (λ v. (n, v)) (bodies_of d) ++ l) (r ∙ ap (λ (m : ℕ). numbered (n + 1) (take i p) ++ map (λ v. (m, v)) (bodies_of c)) z)
    ∙ sym (append_assoc (map (λ v. (n, v)) (bodies_of d)) (numbered (n + 1) (take i p)) (map (λ v. (n + suc i, v)) (bodies_of c)))

class_wide : (p : Program) (i : ℕ) (c : Class) → slice_get p i ≡ Some c → wide_all wide_body (bodies_of c) ≤ wide_all wide_body (body_values p)
class_wide [] i c at = absurd cc
class_wide (d ∷ p) zero c at =
    let e = ap (λ (x : Class). wide_all wide_body (bodies_of x)) (some_inj d c at) in
    let a = wide_all_append wide_body (bodies_of d) (body_values p) in
    omega (arith, e, a)
class_wide (d ∷ p) (suc i) c at =
    let r = class_wide p i c at in
    let a = wide_all_append wide_body (bodies_of d) (body_values p) in
    omega (arith, r, a)

numbered_next : (p : Program) (i : ℕ) (c : Class) → slice_get p i ≡ Some c
    → numbered 0 (take (i + 1) p) ≡ numbered 0 (take i p) ++ (map (λ v. (i, v)) (bodies_in c.directs) ++ map (λ v. (i, v)) (bodies_in c.virtuals))
numbered_next p i c at =
    let one : i + 1 ≡ suc i = omega arith in
    let own : 0 + i ≡ i = omega arith in
    ap (λ (j : ℕ). numbered 0 (take j p)) one ∙ numbered_more 0 p i c at ∙ ap (λ (m : ℕ). numbered 0 (take i p) ++ map (λ (v : Option Code). (m, v)) (bodies_of c)) own
    ∙ ap (λ (l : List (ℕ × Option Code)). numbered 0 (take i p) ++ l) (pairs i c)

module _ (b : List ℕ) (numbers : Columns) (p : Program) (k : Keeps b numbers p) where
  class_owned : (i : ℕ) (c : Class) (all : held.Entries) → slice_get p i ≡ Some c → AreBytes b → EntriesAt b (class_word b i 6) (entries all) → wide_all wide_body (body_values p) < 2 ^ 32
      → AreOwned b numbers (needed p) (map (body_of i) all.directs.items ++ map (body_of i) all.virtuals.items) (map (λ v. (i, v)) (bodies_in c.directs) ++ map (λ v. (i, v)) (bodies_in c.virtuals))
  class_owned i c all at are stands short =
      let st = k.classes.each i c at in
      let same : st.entries ≡ entries all = entries_one b k.marked.framed (class_word b i 6) st.entries (entries all) st.head.class_data stands in
      let held = class_holds p i c at in
      let w = class_wide p i c at in
      let a = wide_all_append wide_body (bodies_in c.directs) (bodies_in c.virtuals) in
      zip_append (IsOwned b numbers (needed p)) (map (body_of i) all.directs.items) (map (body_of i) all.virtuals.items) (map (λ v. (i, v)) (bodies_in c.directs)) (map (λ v. (i, v)) (bodies_in c.virtuals))
      (methods_owned b numbers p k i c.ty all.directs.items c.directs are (st.head.members.directs.count ∙ ap (λ (y : Entries). length y.directs) same) (subst (λ (y : Entries). CodesAre b y.directs c.directs) same st.directs) (directs_kept (Holds (needed p)) c held) (omega (arith, short, w, a)))
      (methods_owned b numbers p k i c.ty all.virtuals.items c.virtuals are (st.head.members.virtuals.count ∙ ap (λ (y : Entries). length y.virtuals) same) (subst (λ (y : Entries). CodesAre b y.virtuals c.virtuals) same st.virtuals) (virtuals_kept (Holds (needed p)) c held) (omega (arith, short, w, a)))

  pub class_pushed : (i : ℕ) (all : held.Entries) (old new : List PlacedBody) → AreBytes b → i < size_of b 5 → EntriesAt b (class_word b i 6) (entries all) → wide_all wide_body (body_values p) < 2 ^ 32
      → new ≡ (old ++ map (body_of i) all.directs.items) ++ map (body_of i) all.virtuals.items → AreFirstBodies b numbers p i old → AreFirstBodies b numbers p (i + 1) new
  class_pushed i all old new are lt stands short n z =
      let count = k.classes.count in
      let c = entry_at p i (omega (arith, count, lt)) in
      let ds = map (body_of i) all.directs.items in
      let vs = map (body_of i) all.virtuals.items in
      let xs : List (ℕ × Option Code) = map (λ v. (i, v)) (bodies_in c.0.directs) ++ map (λ v. (i, v)) (bodies_in c.0.virtuals) in
      let more = zip_append (IsOwned b numbers (needed p)) old (ds ++ vs) (numbered 0 (take i p)) xs z (class_owned i c.0 all c.1 are stands short) in
      subst (λ (l : List PlacedBody). AreOwned b numbers (needed p) l (numbered 0 (take (i + 1) p))) (sym (n ∙ append_assoc old ds vs))
      (subst (λ (l : List (ℕ × Option Code)). AreOwned b numbers (needed p) (old ++ (ds ++ vs)) l) (sym (numbered_next p i c.0 c.1)) more)

  pub all_pushed : (i : ℕ) (es : List PlacedBody) → i ≡ size_of b 5 → AreFirstBodies b numbers p i es → AreOwned b numbers (needed p) es (numbered 0 p)
  all_pushed i es e z =
      let count = k.classes.count in
      subst (λ (q : Program). AreOwned b numbers (needed p) es (numbered 0 q)) (take_all i p (omega (arith, count, e))) z

-- the bodies alone are those of the program
alone_pairs : (n : ℕ) (vs : List (Option Code)) → map (λ (x : ℕ × Option Code). x.1) (map (λ v. (n, v)) vs) ≡ vs
alone_pairs n [] = refl
alone_pairs n (v ∷ vs) = ap (λ (l : List (Option Code)). v ∷ l) (alone_pairs n vs)

alone_from : (n : ℕ) (p : Program) → map (λ (x : ℕ × Option Code). x.1) (numbered n p) ≡ body_values p
alone_from n [] = refl
alone_from n (c ∷ p) =
    map-append (λ (x : ℕ × Option Code). x.1) (map (λ v. (n, v)) (bodies_of c)) (numbered (n + 1) p)
    ∙ (λ j. alone_pairs n (bodies_of c) j ++ alone_from (n + 1) p j)

pub alone : (p : Program) → map (λ (x : ℕ × Option Code). x.1) (numbered 0 p) ≡ body_values p
alone p = alone_from 0 p

-- ---- one file means one program

pub program_one : (b : List ℕ) (numbers : Columns) (p q : Program) → Keeps b numbers p → Keeps b numbers q → p ≡ q
program_one b numbers p q k l = list_same p q (k.classes.count ∙ sym l.classes.count) (λ i c d at_c at_d. class_one b k.marked.framed i c d (k.classes.each i c at_c) (l.classes.each i d at_d))

-- so the room for the bodies of one is that for the other's
pub short_of : (b : List ℕ) (numbers : Columns) (p q : Program) → Keeps b numbers p → Keeps b numbers q → (n : ℕ) → n + wide_all wide_body (body_values p) < 2 ^ 32 → wide_all wide_body (body_values q) < 2 ^ 32
short_of b numbers p q k l n room = subst (λ (x : Program). wide_all wide_body (body_values x) < 2 ^ 32) (program_one b numbers p q k l) (omega (arith, room))

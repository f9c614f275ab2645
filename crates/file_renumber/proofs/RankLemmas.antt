-- The numbers of marked rows are the ranks of their names.
use Rattle.std.proofs.Common.{◌≡◌, ℕ, zero, suc, ◌+◌, ◌<◌, ◌≤◌, Bool, true, false, List, [], ◌∷◌, length, map, get_or, refl, sym, ap, ◌∙◌, subst, arith, slice_get, Some, true≢false, inl, inr}
use Rattle.std.specs.List.{AllByRecursion}
use Rattle.std.specs.Prelude.{◌↔◌}
use Rattle.std.specs.List.Sorted.{IsStrictlySortedBy}
use Rattle.std.specs.declared.cmp.Ordering.TheVariants.{Less}
use Rattle.std.proofs.lemmas.Bool.{cases_lt}
use Rattle.std.proofs.lemmas.List.{get_or_past, length-map}
use Rattle.std.proofs.lemmas.List.Sums.{sum_by_more}
use Rattle.std.proofs.lemmas.Option.{slice_get-get_or, none-some}
use Rattle.dex_container.specs.Layout.{size_of}
use Rattle.program_types.specs.Content.{Proto, Name, OfText, OfDesc, OfField, OfMethod}
use Rattle.program_types.specs.Key.{Key, key_cmp, text_key, proto_key, field_ref_key, method_ref_key}
use Rattle.program_types.specs.inner.KeyLaws.{key_cmp-total, key_cmp-same}
use Rattle.tables_names.specs.Rank.{Rising, IsAt, is_member}
use Rattle.tables_names.specs.Closure.{Five, NameRanks, AreRising}
use Rattle.tables_names.specs.inner.Closure.{Holds}
use Rattle.tables_names.proofs.RisingLemmas.{same_rising}
use Rattle.tables_names.proofs.PlaceLemmas.{member_at, member_index, rank_at}
use Rattle.tables_rows.specs.Names.{Names, AreNamesOf, NameIsAt}
use Rattle.tables_rows.specs.Stands.{StringStands, TypeStands, ProtoStands, FieldStands, MethodStands, NameStands}
use Rattle.tables_rows.specs.Sorted.{TablesHold}
use Rattle.tables_rows.proofs.NameLaws.{proto_one, row_is, stands_names}
use Rattle.tables_laws.specs.inner.FileNames.{five_of}
use Rattle.tables_laws.proofs.FileLemmas.{tables_have_names, names_rise, row_of, key_at}
use Rattle.file_renumber.proofs.ColumnLemmas.{before-cons}
use Rattle.file_renumber.specs.inner.Marked.{Columns, Marked, MarksOf, AreMarks, kind_of}
use Rattle.file_renumber.specs.inner.Numbers.{before, Counts, AreRowNumbers, IsKept, Carries, column_of, KeptRowsAreRanks, KeptProtosAreRanks, KeptRowsAreHeld, HaveLengths, TotalsAreLengths}

-- ---- the kept ones of a list, and how many stand before each

-- what has a 1
abbrev kept : {A : Type 0} → List A → List ℕ → List A
kept [] c = []
kept (x ∷ xs) [] = []
kept (x ∷ xs) (zero ∷ c) = kept xs c
kept (x ∷ xs) (suc n ∷ c) = x ∷ kept xs c

module _ {A : Type 0} where
  -- what is marked stands, among the kept ones, after as many as are marked before it
  kept_at : (xs : List A) (c : List ℕ) (i : ℕ) (x : A) → ((k : ℕ) → get_or c k 0 ≤ 1) → get_or c i 0 ≡ 1 → slice_get xs i ≡ Some x → slice_get (kept xs c) (before c i) ≡ Some x
  kept_at [] c i x s m e = absurd (none-some x e)
  kept_at (y ∷ ys) [] i x s m e = let h : 0 ≡ 1 = m in absurd (omega arith)
  kept_at (y ∷ ys) (suc zero ∷ c) zero x s m e = e
  kept_at (y ∷ ys) (zero ∷ c) zero x s m e = let h : 0 ≡ 1 = m in absurd (omega arith)
  kept_at (y ∷ ys) (suc (suc n) ∷ c) zero x s m e = let h : suc (suc n) ≤ 1 = s zero in absurd (omega arith)
  kept_at (y ∷ ys) (zero ∷ c) (suc i) x s m e =
      let n : before c i ≡ before (zero ∷ c) (suc i) = (let h = before-cons zero c i in omega (arith, h)) in
      subst (λ (j : ℕ). slice_get (kept ys c) j ≡ Some x) n (kept_at ys c i x (λ k. s (suc k)) m e)
  kept_at (y ∷ ys) (suc zero ∷ c) (suc i) x s m e =
      let n : suc (before c i) ≡ before (suc zero ∷ c) (suc i) = (let h = before-cons 1 c i in omega (arith, h)) in
      subst (λ (j : ℕ). slice_get (y ∷ kept ys c) j ≡ Some x) n (kept_at ys c i x (λ k. s (suc k)) m e)
  kept_at (y ∷ ys) (suc (suc n) ∷ c) (suc i) x s m e = let h : suc (suc n) ≤ 1 = s zero in absurd (omega arith)

  -- what is kept is marked
  kept_from : (xs : List A) (c : List ℕ) (j : ℕ) (x : A) → ((k : ℕ) → get_or c k 0 ≤ 1) → slice_get (kept xs c) j ≡ Some x → (i : ℕ) × (slice_get xs i ≡ Some x) × (get_or c i 0 ≡ 1)
  kept_from [] c j x s e = absurd (none-some x e)
  kept_from (y ∷ ys) [] j x s e = absurd (none-some x e)
  kept_from (y ∷ ys) (zero ∷ c) j x s e = let r = kept_from ys c j x (λ k. s (suc k)) e in (suc r.0, r.1, r.2)
  kept_from (y ∷ ys) (suc zero ∷ c) zero x s e = (zero, e, refl)
  kept_from (y ∷ ys) (suc zero ∷ c) (suc j) x s e = let r = kept_from ys c j x (λ k. s (suc k)) e in (suc r.0, r.1, r.2)
  kept_from (y ∷ ys) (suc (suc n) ∷ c) j x s e = let h : suc (suc n) ≤ 1 = s zero in absurd (omega arith)

  kept_all : (P : A → Type 0) (xs : List A) (c : List ℕ) → AllByRecursion P xs → AllByRecursion P (kept xs c)
  kept_all P [] c all = tt
  kept_all P (x ∷ xs) [] all = tt
  kept_all P (x ∷ xs) (zero ∷ c) all = kept_all P xs c all.1
  kept_all P (x ∷ xs) (suc n ∷ c) all = (all.0, kept_all P xs c all.1)

  kept_length : (xs : List A) (c : List ℕ) → ((k : ℕ) → get_or c k 0 ≤ 1) → length xs ≤ length c → length (kept xs c) ≡ before c (length xs)
  kept_length [] c s long = refl
  kept_length (x ∷ xs) [] s long = absurd (omega (arith, long))
  kept_length (x ∷ xs) (zero ∷ c) s long =
      let h = before-cons zero c (length xs) in let r = kept_length xs c (λ k. s (suc k)) (omega (arith, long)) in omega (arith, h, r)
  kept_length (x ∷ xs) (suc zero ∷ c) s long =
      let h = before-cons 1 c (length xs) in let r = kept_length xs c (λ k. s (suc k)) (omega (arith, long)) in omega (arith, h, r)
  kept_length (x ∷ xs) (suc (suc n) ∷ c) s long = let h : suc (suc n) ≤ 1 = s zero in absurd (omega arith)

kept_rising : (ks : List Key) (c : List ℕ) → Rising ks → Rising (kept ks c)
unfolding IsStrictlySortedBy
kept_rising [] c up = tt
kept_rising (k ∷ ks) [] up = tt
kept_rising (k ∷ ks) (zero ∷ c) up = kept_rising ks c up.1
kept_rising (k ∷ ks) (suc n ∷ c) up = (kept_all (λ y. key_cmp k y ≡ Less) ks c up.0, kept_rising ks c up.1)

both_ways : (a b : Bool) → (a ≡ true → b ≡ true) → (b ≡ true → a ≡ true) → a ≡ b
both_ways true b f g = sym (f refl)
both_ways false true f g = absurd (true≢false (sym (g refl)))
both_ways false false f g = refl

-- ---- one table

module _ {V : Type 0} (n : ℕ) (Stands : ℕ → V → Type 0) (key : V → Key) (held : List Key) (column numbers : List ℕ) (names : List V) (long : length names ≡ n) (is : (i : ℕ) (v : V) → Stands i v → slice_get names i ≡ Some v)
    (each : (i : ℕ) (v : V) → slice_get names i ≡ Some v → Stands i v) (high : Rising (map key names)) (up : Rising held) (m : MarksOf n Stands key held column) (counts : Counts column numbers) where
  -- the kept keys are the set
  kept_are : kept (map key names) column ≡ held
  kept_are =
      let small = m.shape.small in
      same_rising key_cmp-total key_cmp-same (kept (map key names) column) held (kept_rising (map key names) column high) up
      (λ q.
      both_ways (is_member (kept (map key names) column) q) (is_member held q)
      (λ h.
      let at = member_index (kept (map key names) column) q h in
      let from = kept_from (map key names) column at.0 q small at.1 in
      let row = row_of key names from.0 q from.1 in
      subst (λ (k : Key). is_member held k ≡ true) (sym row.2) (m.held from.0 row.0 (each from.0 row.0 row.1) from.2))
      (λ h.
      let r = m.rows q h in
      let at : IsAt (map key names) r.row q = subst (λ (k : Key). IsAt (map key names) r.row k) (sym r.named) (key_at key names r.row r.name (is r.row r.name r.stands)) in
      member_at (kept (map key names) column) (before column r.row) q (kept_at (map key names) column r.row q small r.marked at)))

  -- the row of a name that is held is marked
  marked_row : (i : ℕ) (v : V) → Stands i v → is_member held (key v) ≡ true → get_or column i 0 ≡ 1
  marked_row i v st h =
      let r = m.rows (key v) h in
      let here : IsAt (map key names) i (key v) = key_at key names i v (is i v st) in
      let there : IsAt (map key names) r.row (key v) = subst (λ (k : Key). IsAt (map key names) r.row k) (sym r.named) (key_at key names r.row r.name (is r.row r.name r.stands)) in
      let same : r.row ≡ i = sym (rank_at (map key names) r.row (key v) high there) ∙ rank_at (map key names) i (key v) high here in
      subst (λ (j : ℕ). get_or column j 0 ≡ 1) same r.marked

  within : (i : ℕ) → get_or column i 0 ≡ 1 → i < length column
  within i at = elim (cases_lt i (length column)) [
    | inl lt ↦ lt
    | inr ge ↦ let e = get_or_past column i 0 ge in absurd (omega (arith, e, at))
  ]

  -- its number is its rank
  pub number_is_rank : (i : ℕ) (v : V) → Stands i v → is_member held (key v) ≡ true → (number : ℕ) × (slice_get numbers i ≡ Some number) × IsAt held number (key v)
  number_is_rank i v st h =
      let at = marked_row i v st h in
      let lt = within i at in
      let size = counts.long in
      let here : slice_get numbers i ≡ Some (get_or numbers i 0) = slice_get-get_or numbers i 0 (omega (arith, lt, size)) in
      let rank : IsAt (kept (map key names) column) (before column i) (key v) = kept_at (map key names) column i (key v) m.shape.small at (key_at key names i v (is i v st)) in
      (get_or numbers i 0, here, subst (λ (j : ℕ). IsAt held j (key v)) (sym (counts.each i lt)) (subst (λ (ks : List Key). IsAt ks (before column i) (key v)) kept_are rank))

  -- one number more after it
  step : (i : ℕ) → i < n → get_or numbers (i + 1) 0 ≡ get_or numbers i 0 + get_or column i 0
  step i lt =
      let size = m.shape.long in
      counts.each (i + 1) (omega (arith, lt, size)) ∙ sum_by_more (λ x. x) column i 0 (omega (arith, lt, size)) ∙ ap (λ k. k + get_or column i 0) (sym (counts.each i (omega (arith, lt, size))))

  pub kept_is_held : (i : ℕ) (v : V) → i < n → Stands i v → IsKept numbers i ↔ (is_member held (key v) ≡ true)
  kept_is_held i v lt st =
      let e = step i lt in (
        λ k. let s = m.shape.small i in m.held i v st (omega (arith, e, s, k)),
        λ h. let at = marked_row i v st h in omega (arith, e, at),
      )

  pub total_is_length : get_or numbers n 0 ≡ length held
  total_is_length =
      let size = m.shape.long in
      let count = length-map names key in
      counts.each n (omega (arith, size))
      ∙ ap (before column) (sym (count ∙ long))
      ∙ sym (kept_length (map key names) column m.shape.small (omega (arith, size, count, long)))
      ∙ ap length kept_are

-- ---- the five tables

module _ (b : List ℕ) (m : Marked) (s : Five) (numbers : Columns) (hold : TablesHold b) (a : AreMarks b m s) (counts : AreRowNumbers m.columns numbers) where
  -- the names of the file's rows, which rise
  rows_of : (names : Names) × AreNamesOf b names
  rows_of = tables_have_names b hold

  rise : AreRising (five_of rows_of.0)
  rise = names_rise b rows_of.0 a.framed hold rows_of.1

  name_at : (i : ℕ) (which : Name) → NameStands b i which → NameIsAt rows_of.0 i which
  name_at i which st = stands_names b rows_of.0 i which a.framed rows_of.1 st

  proto_at : (i : ℕ) (p : Proto) → ProtoStands b i p → slice_get rows_of.0.protos i ≡ Some p
  proto_at i p st = row_is ProtoStands b 2 i rows_of.0.protos p (λ q at. proto_one b a.framed i q p at st) rows_of.1.protos st.row

  name_rank : (which : Name) → Holds s which → Carries (NameStands b) (NameRanks s) numbers which
  name_rank (OfText t) h i st = number_is_rank (size_of b 0) (StringStands b) text_key s.strings m.columns.strings numbers.strings rows_of.0.strings rows_of.1.strings.count (λ j v x. name_at j (OfText v) x) rows_of.1.strings.each rise.strings a.rise.strings a.strings counts.strings i t st h
  name_rank (OfDesc t) h i st = number_is_rank (size_of b 1) (TypeStands b) text_key s.types m.columns.types numbers.types rows_of.0.types rows_of.1.types.count (λ j v x. name_at j (OfDesc v) x) rows_of.1.types.each rise.types a.rise.types a.types counts.types i t st h
  name_rank (OfField f) h i st = number_is_rank (size_of b 3) (FieldStands b) field_ref_key s.fields m.columns.fields numbers.fields rows_of.0.fields rows_of.1.fields.count (λ j v x. name_at j (OfField v) x) rows_of.1.fields.each rise.fields a.rise.fields a.fields counts.fields i f st h
  name_rank (OfMethod r) h i st = number_is_rank (size_of b 4) (MethodStands b) method_ref_key s.methods m.columns.methods numbers.methods rows_of.0.methods rows_of.1.methods.count (λ j v x. name_at j (OfMethod v) x) rows_of.1.methods.each rise.methods a.rise.methods a.methods counts.methods i r st h

  proto_rank : (p : Proto) → is_member s.protos (proto_key p) ≡ true → (i : ℕ) → ProtoStands b i p → (number : ℕ) × (slice_get numbers.protos i ≡ Some number) × IsAt s.protos number (proto_key p)
  proto_rank p h i st = number_is_rank (size_of b 2) (ProtoStands b) proto_key s.protos m.columns.protos numbers.protos rows_of.0.protos rows_of.1.protos.count proto_at rows_of.1.protos.each rise.protos a.rise.protos a.protos counts.protos i p st h

  name_held : (which : Name) (i : ℕ) → NameStands b i which → IsKept (column_of numbers (kind_of which)) i ↔ Holds s which
  name_held (OfText t) i st = kept_is_held (size_of b 0) (StringStands b) text_key s.strings m.columns.strings numbers.strings rows_of.0.strings rows_of.1.strings.count (λ j v x. name_at j (OfText v) x) rows_of.1.strings.each rise.strings a.rise.strings a.strings counts.strings i t st.row st
  name_held (OfDesc t) i st = kept_is_held (size_of b 1) (TypeStands b) text_key s.types m.columns.types numbers.types rows_of.0.types rows_of.1.types.count (λ j v x. name_at j (OfDesc v) x) rows_of.1.types.each rise.types a.rise.types a.types counts.types i t st.row st
  name_held (OfField f) i st = kept_is_held (size_of b 3) (FieldStands b) field_ref_key s.fields m.columns.fields numbers.fields rows_of.0.fields rows_of.1.fields.count (λ j v x. name_at j (OfField v) x) rows_of.1.fields.each rise.fields a.rise.fields a.fields counts.fields i f st.row st
  name_held (OfMethod r) i st = kept_is_held (size_of b 4) (MethodStands b) method_ref_key s.methods m.columns.methods numbers.methods rows_of.0.methods rows_of.1.methods.count (λ j v x. name_at j (OfMethod v) x) rows_of.1.methods.each rise.methods a.rise.methods a.methods counts.methods i r st.row st

  proto_held : (p : Proto) (i : ℕ) → ProtoStands b i p → IsKept numbers.protos i ↔ (is_member s.protos (proto_key p) ≡ true)
  proto_held p i st = kept_is_held (size_of b 2) (ProtoStands b) proto_key s.protos m.columns.protos numbers.protos rows_of.0.protos rows_of.1.protos.count proto_at rows_of.1.protos.each rise.protos a.rise.protos a.protos counts.protos i p st.row st

  lengths : HaveLengths b numbers s
  lengths = record {
    strings = total_is_length (size_of b 0) (StringStands b) text_key s.strings m.columns.strings numbers.strings rows_of.0.strings rows_of.1.strings.count (λ j v x. name_at j (OfText v) x) rows_of.1.strings.each rise.strings a.rise.strings a.strings counts.strings;
    types = total_is_length (size_of b 1) (TypeStands b) text_key s.types m.columns.types numbers.types rows_of.0.types rows_of.1.types.count (λ j v x. name_at j (OfDesc v) x) rows_of.1.types.each rise.types a.rise.types a.types counts.types;
    protos = total_is_length (size_of b 2) (ProtoStands b) proto_key s.protos m.columns.protos numbers.protos rows_of.0.protos rows_of.1.protos.count proto_at rows_of.1.protos.each rise.protos a.rise.protos a.protos counts.protos;
    fields = total_is_length (size_of b 3) (FieldStands b) field_ref_key s.fields m.columns.fields numbers.fields rows_of.0.fields rows_of.1.fields.count (λ j v x. name_at j (OfField v) x) rows_of.1.fields.each rise.fields a.rise.fields a.fields counts.fields;
    methods = total_is_length (size_of b 4) (MethodStands b) method_ref_key s.methods m.columns.methods numbers.methods rows_of.0.methods rows_of.1.methods.count (λ j v x. name_at j (OfMethod v) x) rows_of.1.methods.each rise.methods a.rise.methods a.methods counts.methods;
  }

pub kept_rows_are_ranks : KeptRowsAreRanks
kept_rows_are_ranks b m s numbers hold a counts which h = name_rank b m s numbers hold a counts which h

pub kept_protos_are_ranks : KeptProtosAreRanks
kept_protos_are_ranks b m s numbers hold a counts p h i st = proto_rank b m s numbers hold a counts p h i st

pub kept_rows_are_held : KeptRowsAreHeld
kept_rows_are_held b m s numbers hold a counts = (name_held b m s numbers hold a counts, proto_held b m s numbers hold a counts)

pub totals_are_lengths : TotalsAreLengths
totals_are_lengths b m s numbers hold a counts = lengths b m s numbers hold a counts

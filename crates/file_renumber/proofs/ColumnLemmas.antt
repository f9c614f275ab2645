-- The marks of one table.
use Rattle.std.proofs.Common.{◌≡◌, ℕ, zero, suc, ◌+◌, ◌<◌, ◌≤◌, ◌^◌, Bool, true, false, true≢false, List, [], ◌∷◌, ◌++◌, length, get_or, set, replicate, drop, nat_lt, if◌then◌else◌, refl, ap, ◌∙◌, subst, sym, arith, take, ◌⊎◌, inl, inr}
use Rattle.std.proofs.lemmas.Bool.{cases_lt, lt-ltb}
use Rattle.std.proofs.lemmas.List.Sums.{sum_by-cons, sum_by_more}
use Rattle.file_renumber.specs.inner.Numbers.{before, Counts}
use Rattle.std.proofs.lemmas.List.{length-set, length-replicate, get_or-set_same, get_or-set_other, take_at}
use Rattle.program_types.specs.Key.{Key}
use Rattle.tables_names.specs.Rank.{insert_key}
use Rattle.tables_names.proofs.SubsetLemmas as sub
use Rattle.code_read.proofs.Lists.{zero_at}
use Rattle.file_renumber.specs.inner.Marked.{IsColumn, MarksOf}

-- ---- a place more has a 1

set_small : (xs : List ℕ) (i j : ℕ) → ((k : ℕ) → get_or xs k 0 ≤ 1) → get_or (set xs i 1) j 0 ≤ 1
set_small [] i j s = s j
set_small (x ∷ xs) zero zero s = omega arith
set_small (x ∷ xs) zero (suc j) s = s (suc j)
set_small (x ∷ xs) (suc i) zero s = s zero
set_small (x ∷ xs) (suc i) (suc j) s = set_small xs i j (λ k. s (suc k))

set_cases : (xs : List ℕ) (i j : ℕ) → get_or (set xs i 1) j 0 ≡ 1 → (j ≡ i) ⊎ (get_or xs j 0 ≡ 1)
set_cases [] i j h = inr h
set_cases (x ∷ xs) zero zero h = inl refl
set_cases (x ∷ xs) zero (suc j) h = inr h
set_cases (x ∷ xs) (suc i) zero h = inr h
set_cases (x ∷ xs) (suc i) (suc j) h = elim (set_cases xs i j h) [ inl e ↦ inl (ap suc e) | inr at ↦ inr at ]

set_keeps : (xs : List ℕ) (i j : ℕ) → get_or xs j 0 ≡ 1 → get_or (set xs i 1) j 0 ≡ 1
set_keeps [] i j h = h
set_keeps (x ∷ xs) zero zero h = refl
set_keeps (x ∷ xs) zero (suc j) h = h
set_keeps (x ∷ xs) (suc i) zero h = h
set_keeps (x ∷ xs) (suc i) (suc j) h = set_keeps xs i j h

column_more : (n : ℕ) (column : List ℕ) (i : ℕ) → i < n → IsColumn n column → IsColumn n (set column i 1)
column_more n column i lt c = record {
  long = length-set column i 1 ∙ c.long;
  few = c.few;
  small = λ j. set_small column i j c.small;
  last = get_or-set_other column i n 1 0 (λ e. omega (arith, e, lt)) ∙ c.last;
}

-- ---- a row more is marked

module _ {V : Type 0} (n : ℕ) (Stands : ℕ → V → Type 0) (key : V → Key) where
  pub marks_more : (set_of : List Key) (column : List ℕ) (i : ℕ) (v : V) → ((w : V) → Stands i w → w ≡ v) → i < n → Stands i v → MarksOf n Stands key set_of column → MarksOf n Stands key (insert_key set_of (key v)) (set column i 1)
  marks_more set_of column i v one lt st m = record {
    shape = column_more n column i lt m.shape;
    held = λ j w there at. elim (set_cases column i j at) [
      | inl e ↦ let same : w ≡ v = one w (subst (λ (k : ℕ). Stands k w) e there) in rw same (sub.member_inserted set_of (key v))
      | inr old ↦ (sub.IsSubset-insert set_of (key v)).each (key w) (m.held j w there old)
    ];
    rows = λ k h. elim (sub.inserted_cases set_of (key v) k h) [
      | inl e ↦ let long = m.shape.long in record { row = i; name = v; stands = st; named = e; marked = get_or-set_same column i 1 0 (omega (arith, lt, long)) }
      | inr old ↦ let r = m.rows k old in record { row = r.row; name = r.name; stands = r.stands; named = r.named; marked = set_keeps column i r.row r.marked }
    ];
  }

-- ---- no row is marked

pub marks_none : {V : Type 0} (n : ℕ) (Stands : ℕ → V → Type 0) (key : V → Key) (column : List ℕ) → n < 2 ^ 32 → column ≡ replicate (n + 1) 0 → MarksOf n Stands key [] column
marks_none n Stands key column few is = rw is (record {
  shape = record {
    long = length-replicate (n + 1) 0;
    few = few;
    small = λ i. let e = zero_at (n + 1) i in omega (arith, e);
    last = zero_at (n + 1) n;
  };
  held = λ i v there at. let e = zero_at (n + 1) i in absurd (omega (arith, e, at));
  rows = λ k h. absurd cc;
})

-- ---- how many before each

pub before-cons : (n : ℕ) (c : List ℕ) (i : ℕ) → before (n ∷ c) (suc i) ≡ n + before c i
before-cons n c i = sum_by-cons (λ x. x) n (take i c)

pub before_few : (c : List ℕ) (i : ℕ) → ((k : ℕ) → get_or c k 0 ≤ 1) → before c i ≤ i
before_few c zero small = omega arith
before_few [] (suc i) small = omega arith
before_few (x ∷ c) (suc i) small =
    let e = before-cons x c i in let first = small zero in let rest = before_few c i (λ k. small (suc k)) in omega (arith, e, first, rest)

-- the sum after a row has 32 bits
pub before_fits : (n : ℕ) (c : List ℕ) (i : ℕ) → IsColumn n c → i < length c → before c i + get_or c i 0 < 2 ^ 32
before_fits n c i s lt = elim (cases_lt i n) [
  | inl before_last ↦
      let few = before_few c i s.small in let one = s.small i in let bound = s.few in omega (arith, before_last, few, one, bound)
  | inr ge ↦
      let long = s.long in
      let is : i ≡ n = omega (arith, ge, lt, long) in
      let none : get_or c i 0 ≡ 0 = subst (λ (k : ℕ). get_or c k 0 ≡ 0) (sym is) s.last in
      let few = before_few c i s.small in let bound = s.few in omega (arith, is, none, few, bound)
]

-- one row more is counted
pub before_next : (c : List ℕ) (i : ℕ) → i < length c → before c (i + 1) ≡ before c i + get_or c i 0
before_next c i lt = sum_by_more (λ x. x) c i 0 lt

-- ---- a column in its Vec

-- what was written to a Vec of the same length stands in it
put_back : (len : ℕ) (items rows : List ℕ) → len ≡ length items → length rows ≡ length items → take len (rows ++ drop (length rows) items) ≡ rows
put_back len items rows is same = ap (λ (n : ℕ). take n (rows ++ drop (length rows) items)) (is ∙ sym same) ∙ take_at rows (drop (length rows) items) (length rows) refl

pub set_back : (len : ℕ) (items rows now : List ℕ) (i : ℕ) → len ≡ length items → now ≡ items → rows ≡ set now i 1 → take len (rows ++ drop (length rows) items) ≡ set items i 1
set_back len items rows now i is e r =
    let whole : rows ≡ set items i 1 = r ∙ ap (λ xs. set xs i 1) e in put_back len items rows is (ap length whole ∙ length-set items i 1) ∙ whole

pub counts_back : (len : ℕ) (items rows now old : List ℕ) → len ≡ length items → now ≡ items → items ≡ old → Counts now rows → Counts old (take len (rows ++ drop (length rows) items))
counts_back len items rows now old is e f c =
    subst (λ (xs : List ℕ). Counts xs (take len (rows ++ drop (length rows) items))) (e ∙ f)
    (subst (λ (xs : List ℕ). Counts now xs) (sym (put_back len items rows is (c.long ∙ ap length e))) c)

pub within : (n : ℕ) (now column : List ℕ) (i : ℕ) → now ≡ column → length column ≡ n + 1 → i < n → i < length now
within n now column i e long lt = rw e (omega (arith, long, lt))

-- ---- how many rows a table has

abbrev first_of : ℕ × ℕ → ℕ
first_of p = p.0

pub table_size : (n off : ℕ) → first_of (if nat_lt 0 n then (n, off) else (0, 0)) ≡ n
table_size n off = by (nat_lt 0 n) refl
  where
    by : (t : Bool) → nat_lt 0 n ≡ t → first_of (if t then (n, off) else (0, 0)) ≡ n
    by true e = refl
    by false e = elim (cases_lt 0 n) [ inl lt ↦ absurd (true≢false (sym (lt-ltb 0 n lt) ∙ e)) | inr ge ↦ omega (arith, ge) ]

-- How many bytes kept rows take at most.
use Rattle.std.proofs.Common.{◌≡◌, ℕ, ◌+◌, ◌-◌, ◌*◌, ◌<◌, List, [], ◌∷◌, ◌++◌, length, take, get_or, refl, sym, ap, subst, ◌∙◌, arith, slice_get, Some, inl, length-append}
use Rattle.std.proofs.lemmas.List.{take_more, take_all}
use Rattle.std.proofs.lemmas.List.Sums.{sum_by-cons}
use Rattle.std.proofs.lemmas.Option.{slice_get_within, get_or_from_slice_get}
use Rattle.dex_base.specs.Grammar.{Each, Ended, Many}
use Rattle.dex_base.specs.Mutf8.{SpellsUnit, mutf8_length, unit_bytes}
use Rattle.dex_container.specs.Layout.{size_of}
use Rattle.file_layout.specs.Sections.{wide_all}
use Rattle.file_limits.specs.inner.Sum.{IsSum}
use Rattle.file_limits.specs.Wide.{wide_list, wide_proto, wide_string}
use Rattle.file_limits.specs.inner.Wide.{wide_text}
use Rattle.file_limits.proofs.SumLaws.{Adds, wide_all_append}
use Rattle.program_types.specs.Content.{Units, Program, OfText}
use Rattle.program_types.specs.Key.{Key, text_key, proto_key}
use Rattle.tables_names.specs.Needed.{needed}
use Rattle.tables_names.specs.Rank.{IsAt}
use Rattle.file_renumber.specs.inner.Marked.{Columns, IsColumn}
use Rattle.file_renumber.specs.inner.Numbers.{Counts, HaveLengths, IsKept}
use Rattle.file_renumber.proofs.RankLemmas.{kept_rows_are_held, kept_protos_are_ranks, totals_are_lengths}
use Rattle.tables_rows.specs.RowFields.{proto_parameters}
use Rattle.tables_rows.specs.Stands.{StringStands, TypesAt}
use Rattle.file_strip.specs.inner.Keeping.{Keeps}
use Rattle.file_strip.specs.inner.Sizes.{IsFirstSum}
use Rattle.file_strip.proofs.KeepLaws.{number_is, numbers_long, next_kept, next_not_kept, first_number, carried}

-- ---- a text

units_length : (bytes : List ℕ) (t : Units) → Each SpellsUnit bytes t → length bytes ≡ mutf8_length t
units_length bytes [] e = ap length e
units_length bytes (u ∷ t) e =
    let f : ℕ → ℕ = λ v. length (unit_bytes v) in
    let n = ap length e.2 ∙ length-append e.0 e.1 in
    let one = ap length e.3.1 in
    let rest = units_length e.1 t e.4 in
    rw (sum_by-cons f u t) (omega (arith, n, one, rest))

-- the units and the zero
pub text_wide : (bytes : List ℕ) (t : Units) (new : ℕ) → Ended (Many SpellsUnit (length t)) bytes t → Adds 5 (length bytes) new → IsSum new (wide_text t)
text_wide bytes t new e add =
    let n = ap length e.joined ∙ length-append e.front (0 ∷ []) in
    let u = units_length e.front t e.spelled.1 in
    subst (IsSum new) (omega (arith, n, u)) (add 5 (length bytes) (inl refl) (inl refl))

-- ---- a list

pub no_list : (ts : List Units) → length ts ≡ 0 → IsSum 0 (wide_list ts)
no_list [] n = inl refl
no_list (t ∷ ts) n = absurd (omega (arith, n))

pub some_list : (ts : List Units) (r : ℕ) → 0 < length ts → IsSum r (7 + 2 * length ts) → IsSum r (wide_list ts)
some_list [] r lt s = absurd (omega (arith, lt))
some_list (t ∷ ts) r lt s = s

-- ---- one table

module _ (W : Key → ℕ) (n : ℕ) (column numbers : List ℕ) (shape : IsColumn n column) (counts : Counts column numbers) (table : List Key) where
  pub sum_start : IsFirstSum W numbers table 0 0
  sum_start = subst (λ (m : ℕ). IsSum 0 (wide_all W (take m table))) (sym (first_number n column numbers shape counts)) (inl refl)

  pub sum_not_kept : (i sum : ℕ) → i < n → ¬ IsKept numbers i → IsFirstSum W numbers table i sum → IsFirstSum W numbers table (i + 1) sum
  sum_not_kept i sum lt not s = subst (λ (m : ℕ). IsSum sum (wide_all W (take m table))) (sym (next_not_kept n column numbers shape counts i lt not)) s

  pub sum_kept : (i sum more new : ℕ) (k : Key) → i < n → IsKept numbers i → IsAt table (get_or numbers i 0) k → Adds sum more new → IsSum more (W k) → IsFirstSum W numbers table i sum → IsFirstSum W numbers table (i + 1) new
  sum_kept i sum more new k lt kept at add m s =
      let j = get_or numbers i 0 in
      let within = slice_get_within table j k at in
      let own : get_or table j [] ≡ k = get_or_from_slice_get table j k [] at in
      let one : take (j + 1) table ≡ take j table ++ k ∷ [] = take_more table j [] within ∙ ap (λ (x : Key). take j table ++ x ∷ []) own in
      let a = wide_all_append W (take j table) (k ∷ []) in
      let both : wide_all W (take j table) + W k ≡ wide_all W (take (j + 1) table) = sym (ap (wide_all W) one ∙ omega (arith, a)) in
      subst (λ (x : ℕ). IsSum new (wide_all W (take x table))) (sym (next_kept n column numbers shape counts i lt kept))
      (subst (IsSum new) both (add _ _ s m))

  pub sum_end : (i sum : ℕ) → i ≡ n → get_or numbers n 0 ≡ length table → IsFirstSum W numbers table i sum → IsSum sum (wide_all W table)
  sum_end i sum is total s =
      let e : get_or numbers i 0 ≡ length table = ap (λ (j : ℕ). get_or numbers j 0) is ∙ total in
      subst (λ (ks : List Key). IsSum sum (wide_all W ks)) (take_all (get_or numbers i 0) table (omega (arith, e))) s

-- ---- strings and prototypes

module _ (b : List ℕ) (numbers : Columns) (p : Program) (k : Keeps b numbers p) where
  pub totals : HaveLengths b numbers (needed p)
  totals = totals_are_lengths b k.marks (needed p) numbers k.tables k.marked k.numbered

  pub string_kept : (i sum size more new : ℕ) → i < size_of b 0 → IsKept numbers.strings i → ((t : Units) → StringStands b i t → IsSum size (wide_text t)) → Adds 4 size more → Adds sum more new
      → IsFirstSum wide_string numbers.strings (needed p).strings i sum → IsFirstSum wide_string numbers.strings (needed p).strings (i + 1) new
  string_kept i sum size more new lt kept wide row add s =
      let st = k.tables.strings i lt in
      let t = st.name in
      let held = ((kept_rows_are_held b k.marks (needed p) numbers k.tables k.marked k.numbered).0 (OfText t) i st.stands).0 kept in
      let rank = carried b numbers p k (OfText t) held i st.stands in
      let at = subst (λ (n : ℕ). IsAt (needed p).strings n (text_key t)) (sym (number_is numbers.strings i rank.0 rank.1)) rank.2 in
      let one : IsSum more (wide_string (text_key t)) = subst (IsSum more) (omega arith) (row 4 _ (inl refl) (wide t st.stands)) in
      sum_kept wide_string (size_of b 0) k.marks.columns.strings numbers.strings k.marked.strings.shape k.numbered.strings (needed p).strings i sum more new (text_key t) lt kept at add one s

  pub proto_kept : (i sum size more new : ℕ) → i < size_of b 2 → IsKept numbers.protos i → ((ts : List Units) → TypesAt b (proto_parameters b i) ts → IsSum size (wide_list ts)) → Adds 12 size more → Adds sum more new
      → IsFirstSum wide_proto numbers.protos (needed p).protos i sum → IsFirstSum wide_proto numbers.protos (needed p).protos (i + 1) new
  proto_kept i sum size more new lt kept wide row add s =
      let st = k.tables.protos i lt in
      let q = st.name in
      let held = ((kept_rows_are_held b k.marks (needed p) numbers k.tables k.marked k.numbered).1 q i st.stands).0 kept in
      let rank = kept_protos_are_ranks b k.marks (needed p) numbers k.tables k.marked k.numbered q held i st.stands in
      let at = subst (λ (n : ℕ). IsAt (needed p).protos n (proto_key q)) (sym (number_is numbers.protos i rank.0 rank.1)) rank.2 in
      let one : IsSum more (wide_proto (proto_key q)) = row 12 _ (inl refl) (wide q.params st.stands.params) in
      sum_kept wide_proto (size_of b 2) k.marks.columns.protos numbers.protos k.marked.protos.shape k.numbered.protos (needed p).protos i sum more new (proto_key q) lt kept at add one s

-- ---- how many rows of a table are kept

pub count_is : {n : ℕ} {column numbers : List ℕ} {count total : ℕ} → IsColumn n column → Counts column numbers → get_or numbers n 0 ≡ total → slice_get numbers (length numbers - 1) ≡ Some count → count ≡ total
count_is {n} {column} {numbers} {count} {total} shape counts is at =
    let long = numbers_long n column numbers shape counts in
    let last : length numbers - 1 ≡ n = omega (arith, long) in
    sym (number_is numbers (length numbers - 1) count at) ∙ ap (λ (i : ℕ). get_or numbers i 0) last ∙ is

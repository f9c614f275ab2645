-- One pass over the rows: the first and the last one of each type.
use Rattle.std.proofs.Common.{◌≡◌, ◌≢◌, ℕ, zero, suc, ◌+◌, ◌<◌, ◌≤◌, inl, inr, List, [], ◌∷◌, length, get_or, set, replicate, Option, Some, None, refl, sym, ap, ◌∙◌, subst, arith}
use Rattle.std.proofs.lemmas.Bool.{cases_lt, cases_eq}
use Rattle.std.proofs.lemmas.Grind.{get_or-set_at}
use Rattle.dex_container.specs.Layout.{size_of}
use Rattle.file_classes.specs.ClassRows.{class_word, no_index, IndexOrNone, NoneDefines}
use Rattle.std.specs.Prelude.{slice_index}
use Rattle.std.specs.List.{AllZip}
use Rattle.dex_container.specs.Frame.{IsFramed}
use Rattle.program_types.specs.Content.{Units}
use Rattle.tables_rows.specs.Stands.{TypeStands}
use Rattle.tables_rows.proofs.HalvesLaws.{list_or_none_one}
use Rattle.tables_rows.proofs.TypeLists.{indexes_of}
use Rattle.file_classes.specs.Classes.{RowIs, InterfacesAt}
use Rattle.file_classes.specs.inner.Places.{ArePlaces, TypesHaveRows}
use Rattle.std.proofs.lemmas.List.{length-set}

abbrev zero_list : ℕ → List ℕ
zero_list m = replicate m 0

zero_at : (m t : ℕ) → get_or (zero_list m) t 0 ≡ 0
zero_at zero t = refl
zero_at (suc m) zero = refl
zero_at (suc m) (suc t) = zero_at m t

set_other : (xs : List ℕ) (i j y : ℕ) → j ≢ i → get_or (set xs i y) j 0 ≡ get_or xs j 0
set_other [] i j y not = refl
set_other (x ∷ xs) zero zero y not = absurd (not refl)
set_other (x ∷ xs) zero (suc j) y not = refl
set_other (x ∷ xs) (suc i) zero y not = refl
set_other (x ∷ xs) (suc i) (suc j) y not = set_other xs i j y (λ e. not (ap suc e))

none_more : (b : List ℕ) (i n t : ℕ) → class_word b n 0 ≢ t → NoneDefines b i n t → NoneDefines b i (n + 1) t
none_more b i n t not none j low high = elim (cases_lt j n) [
  | inl lt ↦ none j low lt
  | inr ge ↦ let e : n ≡ j = omega (arith, ge, high) in subst (λ (k : ℕ). class_word b k 0 ≢ t) e not
]

none_less : (b : List ℕ) (i n t : ℕ) → NoneDefines b i (n + 1) t → NoneDefines b i n t
none_less b i n t none j low high = none j low (omega (arith, high))

module _ (b : List ℕ) where
  -- a row of a type that has no row of its own
  pub places_pass : (n : ℕ) (first last : List ℕ) → size_of b 1 ≤ class_word b n 0 → ArePlaces b n first last → ArePlaces b (n + 1) first last
  places_pass n first last past p =
      let other : (t : ℕ) → t < size_of b 1 → class_word b n 0 ≡ t → ⊥ = λ t lt e. omega (arith, past, lt, e) in
      record {
        firsts = p.firsts;
        lasts = p.lasts;
        none = λ t lt is. none_more b 0 n t (other t lt) (p.none t lt is);
        lowest = p.lowest;
        highest = λ t i lt. (λ le. none_more b i n t (other t lt) ((p.highest t i lt).0 le), λ none. (p.highest t i lt).1 (none_less b i n t none));
      }

  module _ (n ty : ℕ) (last : List ℕ) (is : ty ≡ class_word b n 0) (in_table : ty < size_of b 1) where
    after : (t i : ℕ) → length last ≡ size_of b 1 → (get_or last t 0 ≤ i → NoneDefines b i n t) → (NoneDefines b i n t → get_or last t 0 ≤ i) → (get_or (set last ty (n + 1)) t 0 ≤ i → NoneDefines b i (n + 1) t) × (NoneDefines b i (n + 1) t → get_or (set last ty (n + 1)) t 0 ≤ i)
    after t i size to from = elim (cases_eq t ty) [
      | inl e ↦
          let here = get_or-set_at last ty t (n + 1) 0 e (omega (arith, size, in_table)) in (
            (λ le j low high. absurd (omega (arith, here, le, low, high))),
            λ none. elim (cases_lt n i) [
              | inl lt ↦ omega (arith, here, lt)
              | inr ge ↦ absurd (none n ge (omega arith) (sym is ∙ sym e))
            ],
          )
      | inr not ↦
          let here = set_other last ty t (n + 1) not in
          let other = λ (x : class_word b n 0 ≡ t). not (sym x ∙ sym is) in
          ((λ le. none_more b i n t other (to (omega (arith, here, le)))), λ none. let l = from (none_less b i n t none) in omega (arith, here, l))
    ]

    -- a row of a type that has none yet
    pub places_first : (first : List ℕ) → get_or first ty 0 ≡ 0 → ArePlaces b n first last → ArePlaces b (n + 1) (set first ty (n + 1)) (set last ty (n + 1))
    places_first first new p =
        let size = p.firsts in
        record {
          firsts = length-set first ty (n + 1) ∙ p.firsts;
          lasts = length-set last ty (n + 1) ∙ p.lasts;
          none = λ t lt zero_at. elim (cases_eq t ty) [
            | inl e ↦ let here = get_or-set_at first ty t (n + 1) 0 e (omega (arith, size, in_table)) in absurd (omega (arith, here, zero_at))
            | inr not ↦ let here = set_other first ty t (n + 1) not in none_more b 0 n t (λ x. not (sym x ∙ sym is)) (p.none t lt (omega (arith, here, zero_at)))
          ];
          lowest = λ t k lt at. elim (cases_eq t ty) [
            | inl e ↦
                let here = get_or-set_at first ty t (n + 1) 0 e (omega (arith, size, in_table)) in
                let same : n ≡ k = omega (arith, here, at) in
                subst (λ (j : ℕ). (class_word b j 0 ≡ t) × NoneDefines b 0 j t) same (sym is ∙ sym e, p.none t lt (ap (λ (x : ℕ). get_or first x 0) e ∙ new))
            | inr not ↦ let here = set_other first ty t (n + 1) not in p.lowest t k lt (sym here ∙ at)
          ];
          highest = λ t i lt. after t i p.lasts (p.highest t i lt).0 (p.highest t i lt).1;
        }

    -- of a type that has some
    pub places_again : (first : List ℕ) → get_or first ty 0 ≢ 0 → ArePlaces b n first last → ArePlaces b (n + 1) first (set last ty (n + 1))
    places_again first old p = record {
      firsts = p.firsts;
      lasts = length-set last ty (n + 1) ∙ p.lasts;
      none = λ t lt zero_at. elim (cases_eq t ty) [
        | inl e ↦ absurd (old (ap (λ (x : ℕ). get_or first x 0) (sym e) ∙ zero_at))
        | inr not ↦ none_more b 0 n t (λ x. not (sym x ∙ sym is)) (p.none t lt zero_at)
      ];
      lowest = p.lowest;
      highest = λ t i lt. after t i p.lasts (p.highest t i lt).0 (p.highest t i lt).1;
    }

  -- of either
  pub places_marked : (n ty types : ℕ) (first last first' last' : List ℕ) → ty ≡ class_word b n 0 → types ≡ size_of b 1 → ty < types → (get_or first ty 0 ≡ 0 → first' ≡ set first ty (n + 1)) → (get_or first ty 0 ≢ 0 → first' ≡ first) → last' ≡ set last ty (n + 1) → ArePlaces b n first last → ArePlaces b (n + 1) first' last'
  places_marked n ty types first last first' last' is all in_table new old after_is p =
      let within : ty < size_of b 1 = omega (arith, all, in_table) in
      elim (cases_eq (get_or first ty 0) 0) [
        | inl z ↦ rw (new z, after_is) (places_first n ty last is within first z p)
        | inr nz ↦ rw (old nz, after_is) (places_again n ty last is within first nz p)
      ]

  -- of neither
  pub places_passed : (n ty types : ℕ) (first last : List ℕ) → ty ≡ class_word b n 0 → types ≡ size_of b 1 → types ≤ ty → ArePlaces b n first last → ArePlaces b (n + 1) first last
  places_passed n ty types first last is all past p = places_pass n first last (omega (arith, is, all, past)) p

  -- a row is its type's first exactly if no earlier one is of that type
  pub first_is : (n i t : ℕ) (first last : List ℕ) → ArePlaces b n first last → i < n → t ≡ class_word b i 0 → t < size_of b 1 → (get_or first t 0 ≡ i + 1 → NoneDefines b 0 i t) × (NoneDefines b 0 i t → get_or first t 0 ≡ i + 1)
  first_is n i t first last p lt is within = ((λ e. (p.lowest t i within e).1), λ none. by (get_or first t 0) refl none)
    where
      by : (x : ℕ) → get_or first t 0 ≡ x → NoneDefines b 0 i t → get_or first t 0 ≡ i + 1
      by zero e none = absurd (p.none t within e i (omega arith) lt (sym is))
      by (suc k) e none =
          let next : suc k ≡ k + 1 = omega arith in
          let found = p.lowest t k within (e ∙ next) in
          elim (cases_lt k i) [
            | inl less ↦ absurd (none k (omega arith) less found.0)
            | inr ge ↦ elim (cases_lt i k) [
              | inl more ↦ absurd (found.1 i (omega arith) more (sym is))
              | inr le ↦ omega (arith, e, ge, le)
            ]
          ]

-- ---- what a row names has rows

zip_row : (b : List ℕ) (is : List ℕ) (ts : List Units) → AllZip (TypeStands b) is ts → (k : ℕ) → k < length is → slice_index is k < size_of b 1
zip_row b [] ts z k lt = absurd (omega (arith, lt))
zip_row b (i ∷ is) [] z k lt = absurd z
zip_row b (i ∷ is) (t ∷ ts) z zero lt = z.0.row
zip_row b (i ∷ is) (t ∷ ts) z (suc k) lt = zip_row b is ts z.1 k (omega (arith, lt))

some_row : (b : List ℕ) (k : ℕ) (name : Option Units) → IndexOrNone (TypeStands b) k name → k ≢ no_index → k < size_of b 1
some_row b k None is some = absurd (some is)
some_row b k (Some n) is some = is.1.row

pub types_have_rows : (b : List ℕ) → IsFramed b → (i : ℕ) (ty : Units) (flags : ℕ) (superclass source : Option Units) (ts : List Units) → RowIs b i ty flags superclass source → InterfacesAt b (class_word b i 3) ts → TypesHaveRows b i
types_have_rows b framed i ty flags superclass source ts row at =
    let own = indexes_of b (class_word b i 3) ts at.types in
    record {
      class = row.named.row;
      superclass = some_row b (class_word b i 2) superclass row.above;
      interfaces = λ indexes there.
          let same = list_or_none_one b framed 0x1001 4 (class_word b i 3) own.indexes indexes own.spelled there in
          zip_row b indexes ts (subst (λ (xs : List ℕ). AllZip (TypeStands b) xs ts) same own.named);
    }

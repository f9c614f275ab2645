-- Whether something stands at a place of a file is decided.
use Rattle.std.proofs.Common.{◌≡◌, ◌≢◌, ℕ, ◌^◌, ◌<◌, ◌≤◌, inl, inr, Bool, true, false, List, [], ◌∷◌, ◌++◌, length, drop, refl, subst, arith}
use Rattle.std.specs.Prelude.{MatchBool, ◌==◌}
use Rattle.std.proofs.lemmas.Bool.{cases_lt}
use Rattle.std.specs.List.{AllByRecursion, AllZip}
use Rattle.dex_base.specs.Fields.{u32_bytes}
use Rattle.dex_base.specs.Words.{halves_bytes}
use Rattle.dex_base.specs.Mutf8.{SpellsText}
use Rattle.dex_container.specs.Frame.{IsFramed}
use Rattle.dex_container.specs.Layout.{size_of}
use Rattle.program_types.specs.Content.{Units}
use Rattle.tables_rows.specs.inner.Halves.{halves}
use Rattle.dex_container.specs.Where.{At, AtOrNone}
use Rattle.tables_rows.specs.RowFields.{string_place}
use Rattle.tables_rows.specs.Sorted.{AllRows}
use Rattle.program_types.specs.Kinds.{void}
use Rattle.tables_rows.specs.Stands.{StringStands, TypeStands, TypesAt, SpellsIndexes}
use Rattle.tables_rows.specs.TableFaults.{TypeHolds, ParametersAt}
use Rattle.tables_rows.proofs.HalvesLaws.{spelled_numbers, list_or_none_one}
use Rattle.tables_rows.proofs.TypeLists.{indexes_of, types_of, types_one}
use Rattle.dex_base.specs.Deciding.{Decided, DecidedFront}
use Rattle.dex_base.proofs.Deciding.{decide_like, decide_both, decide_lt, decide_list, decide_all, decide_by}
use Rattle.dex_base.proofs.TextsDecided.{decide_text}
use Rattle.dex_container.proofs.PlacesDecided.{decide_at}

-- ---- rows

pub decide_string : (b : List ℕ) → IsFramed b → (i : ℕ) → Decided ((s : Units) × StringStands b i s)
decide_string b framed i = decide_like
    (λ x. (x.1.0, record { row = x.0; text = x.1.1 }))
    (λ (x : (s : Units) × StringStands b i s). (x.1.row, (x.0, x.1.text)))
    (decide_both (decide_lt i (size_of b 0)) (decide_at SpellsText decide_text b framed 0x2002 1 (string_place b i)))

-- ---- lists of types

pub decide_indexes : (bytes : List ℕ) → DecidedFront SpellsIndexes bytes
decide_indexes = decide_by SpellsIndexes (λ front. halves (drop 4 front)) (λ front v s. (spelled_numbers front v s).numbers) (λ front.
    let xs = halves (drop 4 front) in
    decide_like (λ x. record { spelled = x.0; small = x.1.0; few = x.1.1 }) (λ (s : SpellsIndexes front xs). (s.spelled, (s.small, s.few)))
    (decide_both (decide_list front (u32_bytes (length xs) ++ halves_bytes xs)) (decide_both (decide_all (λ i. i < 2 ^ 16) (λ i. decide_lt i (2 ^ 16)) xs) (decide_lt (length xs) (2 ^ 32)))))

pub decide_list_at : (b : List ℕ) → IsFramed b → (off : ℕ) → Decided ((indexes : List ℕ) × AtOrNone SpellsIndexes b 0x1001 4 off indexes)
decide_list_at b framed off = by (off == 0)
  where
    by : (z : Bool) → Decided ((indexes : List ℕ) × MatchBool z (indexes ≡ []) (At SpellsIndexes b 0x1001 4 off indexes))
    by true = inl ([], refl)
    by false = decide_at SpellsIndexes decide_indexes b framed 0x1001 4 off

decide_zip : (b : List ℕ) → AllRows TypeHolds b 1 → (indexes : List ℕ) → Decided ((ts : List Units) × AllZip (TypeStands b) indexes ts)
decide_zip b types [] = inl ([], tt)
decide_zip b types (i ∷ is) = elim (cases_lt i (size_of b 1)) [
  | inl lt ↦ elim (decide_zip b types is) [
    | inl x ↦ let t = types i lt in inl (t.name ∷ x.0, (t.stands, x.1))
    | inr none ↦ inr (λ x. no_rest x.0 none x.1)
  ]
  | inr ge ↦ inr (λ x. no_first x.0 ge x.1)
]
  where
    no_rest : (ts : List Units) → ((x : (us : List Units) × AllZip (TypeStands b) is us) → ⊥) → AllZip (TypeStands b) (i ∷ is) ts → ⊥
    no_rest [] none z = z
    no_rest (t ∷ ts) none z = none (ts, z.1)

    no_first : (ts : List Units) → size_of b 1 ≤ i → AllZip (TypeStands b) (i ∷ is) ts → ⊥
    no_first [] ge z = z
    no_first (t ∷ ts) ge z = let row = z.0.row in omega (arith, row, ge)

pub decide_types : (b : List ℕ) → IsFramed b → AllRows TypeHolds b 1 → (off : ℕ) → Decided ((ts : List Units) × TypesAt b off ts)
decide_types b framed types off = elim (decide_list_at b framed off) [
  | inl x ↦ elim (decide_zip b types x.0) [
    | inl y ↦ inl (y.0, types_of b off x.0 y.0 x.1 y.1)
    | inr none ↦ inr (λ z.
        let own = indexes_of b off z.0 z.1 in
        let same = list_or_none_one b framed 0x1001 4 off own.indexes x.0 own.spelled x.1 in
        none (z.0, subst (λ (l : List ℕ). AllZip (TypeStands b) l z.0) same own.named))
  ]
  | inr none ↦ inr (λ z. let own = indexes_of b off z.0 z.1 in none (own.indexes, own.spelled))
]

pub decide_not : {P : Type 0} → Decided P → Decided (P → ⊥)
decide_not (inl p) = inr (λ nay. nay p)
decide_not (inr nay) = inl nay

pub decide_parameters : (b : List ℕ) → IsFramed b → AllRows TypeHolds b 1 → (off : ℕ) → Decided ((ts : List Units) × ParametersAt b off ts)
decide_parameters b framed types off = elim (decide_types b framed types off) [
  | inl x ↦ elim (decide_all (λ (t : Units). t ≢ void) (λ t. decide_not (decide_list t void)) x.0) [
    | inl all ↦ inl (x.0, record { types = x.1; values = all })
    | inr nay ↦ inr (λ z. nay (subst (λ (l : List Units). AllByRecursion (λ t. t ≢ void) l) (types_one b off z.0 x.0 framed z.1.types x.1) z.1.values))
  ]
  | inr none ↦ inr (λ z. none (z.0, z.1.types))
]

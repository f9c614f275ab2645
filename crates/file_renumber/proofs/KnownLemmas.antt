-- Handlers that are written once each, and try_items.
use Rattle.std.proofs.Common.{◌≡◌, ℕ, ◌+◌, ◌-◌, ◌<◌, ◌≤◌, inl, inr, List, [], ◌∷◌, ◌++◌, length, drop, get_or, set, min, Some, sym, ap, subst, ◌∙◌, arith, append_assoc}
use Rattle.std.specs.Prelude.{slice_get}
use Rattle.std.specs.List.{AllByRecursion}
use Rattle.std.proofs.lemmas.Bool.{cases_lt}
use Rattle.std.proofs.lemmas.List.{get_or-set_same, get_or-set_other}
use Rattle.std.proofs.lemmas.Option.{slice_get_within}
use Rattle.program_types.specs.Content.{Try}
use Rattle.program_types.specs.Formed.{try_at}
use Rattle.program_types.specs.Mentions.{names_of_try}
use Rattle.tables_names.specs.Closure.{NameRanks}
use Rattle.tables_rows.specs.Stands.{NameStands}
use Rattle.file_renumber.specs.inner.Marked.{Columns}
use Rattle.file_renumber.specs.inner.Numbers.{Carries}
use Rattle.dex_base.specs.Fields.{u16_bytes, u32_bytes}
use Rattle.code_write.specs.Packs.{bound_of, covered, item_bytes}
use Rattle.code_read.specs.Places.{position, count_below}
use Rattle.code_read.proofs.PlaceLaws.{position-there}
use Rattle.code_read.specs.Item.{try_start, try_count, try_handler}
use Rattle.code_read.specs.Tries.{handler_of}
use Rattle.code_read.specs.declared.item.Item.{Item}
use Rattle.code_write.specs.inner.Writing.{IsHeldAs}
use Rattle.code_write.proofs.ListLaws.{all-from}
use Rattle.file_renumber.specs.inner.CarriedCodes.{CarriedHandler, CarriedTries}
use Rattle.file_renumber.specs.inner.TryWalks.{CarriedList, IsWrittenOf, AreKnown, CoversTry}
use Rattle.file_renumber.proofs.ListLemmas.{all-part}
use Rattle.file_renumber.proofs.TryLemmas.{taken_at, all_zero}
use Rattle.dex_base.proofs.ListFacts.{slice_left}
use Rattle.code_read.proofs.TryLaws.{no_try}

-- ---- with other indices

-- the handler of try i is carried
pub types_carried : (numbers : Columns) (i : Item) (x : CarriedTries numbers i) (j : ℕ) → j < i.tries → AllByRecursion (Carries (NameStands x.file) (NameRanks x.names) numbers) (names_of_try (try_at x.tries j))
types_carried numbers i x j lt =
    let count = x.read.tries.count in
    all-part (Carries (NameStands x.file) (NameRanks x.names) numbers) names_of_try x.tries j no_try x.carried (omega (arith, lt, count))

abbrev pub carried_at : (numbers : Columns) (i : Item) (offsets : List ℕ) → 0 < i.tries → CarriedList numbers i offsets → (j k : ℕ) → j < i.tries → position offsets (try_handler i.items.now j) ≡ Some k
    → CarriedHandler numbers (drop (get_or offsets k 0) i.list.now)
carried_at numbers i offsets some x j k lt at =
    let a = x.all in
    let t = taken_at a.file a.starts i.size i.tries i.items.now i.list.now offsets x.catches a.tries some a.read x.listed j k lt at in
    record { file = a.file; names = a.names; starts = a.starts; handler = handler_of (try_at a.tries j); rest = t.0; taken = t.1; carried = types_carried numbers i a j lt }

-- nothing is known
pub known_none : (numbers : Columns) (bytes offsets known : List ℕ) (keys : List (List ℕ)) → ((k : ℕ) → get_or known k 0 ≡ 0) → AreKnown numbers bytes offsets known keys
known_none numbers bytes offsets known keys z k l = absurd (all_zero known z k l)

still_held : (keys new : List (List ℕ)) (key : List ℕ) (n : ℕ) (k : ℕ) (y : List ℕ) → IsHeldAs keys new key n → slice_get keys k ≡ Some y → slice_get new k ≡ Some y
still_held keys new key n k y m e = elim m.is_new [
  | inl same ↦ subst (λ (ks : List (List ℕ)). slice_get ks k ≡ Some y) (sym same) e
  | inr fresh ↦ subst (λ (ks : List (List ℕ)). slice_get ks k ≡ Some y) (sym fresh.1) (slice_left keys (key ∷ []) k y e)
]

-- one handler more is known
pub known_more : (numbers : Columns) (bytes offsets known : List ℕ) (keys new : List (List ℕ)) (key : List ℕ) (k n : ℕ) → k < length known → AreKnown numbers bytes offsets known keys → IsHeldAs keys new key n → IsWrittenOf numbers (drop (get_or offsets k 0) bytes) key
    → AreKnown numbers bytes offsets (set known k (n + 1)) new
known_more numbers bytes offsets known keys new key k n inside a m w q l = elim (cases_lt q k) [
  | inl lt ↦ other (λ e. omega (arith, e, lt))
  | inr ge ↦ elim (cases_lt k q) [
    | inl gt ↦ other (λ e. omega (arith, e, gt))
    | inr le ↦
        let same : k ≡ q = omega (arith, ge, le) in
        let at : get_or (set known k (n + 1)) q 0 ≡ n + 1 = subst (λ (z : ℕ). get_or (set known k (n + 1)) z 0 ≡ n + 1) same (get_or-set_same known k (n + 1) 0 inside) in
        let number : n ≡ get_or (set known k (n + 1)) q 0 - 1 = omega (arith, at) in
        (key, subst (λ (z : ℕ). slice_get new z ≡ Some key) number m.there, subst (λ (z : ℕ). IsWrittenOf numbers (drop (get_or offsets z 0) bytes) key) same w)
  ]
]
  where
    other : (q ≡ k → ⊥) → (x : List ℕ) × (slice_get new (get_or (set known k (n + 1)) q 0 - 1) ≡ Some x) × IsWrittenOf numbers (drop (get_or offsets q 0) bytes) x
    other ne =
        let e = get_or-set_other known k q (n + 1) 0 ne in
        let o = a q (subst (λ (z : ℕ). 0 < z) e l) in
        (o.0, still_held keys new key n (get_or (set known k (n + 1)) q 0 - 1) o.0 m (subst (λ (z : ℕ). slice_get keys (z - 1) ≡ Some o.0) (sym e) o.1), o.2)

pub all_bytes : (bytes : List ℕ) → ((i : ℕ) → get_or bytes i 0 < 256) → AllByRecursion (λ byte. byte < 256) bytes
all_bytes bytes h = all-from (λ (byte : ℕ). byte < 256) bytes 0 (λ k l. h k)

-- ---- try_items

-- the bytes of a try_item, by its own numbers
pub item_put : (size : ℕ) (ss items : List ℕ) (i off begin cov : ℕ) (t : Try) (old a c new : List ℕ) → CoversTry ss items i t → begin ≡ try_start items i
    → cov ≡ min 65535 (bound_of size ss (count_below (try_start items i + try_count items i) ss) - begin) → a ≡ old ++ u32_bytes begin → c ≡ a ++ u16_bytes cov → new ≡ c ++ u16_bytes off → new ≡ old ++ item_bytes size ss t off
item_put size ss items i off begin cov t old a c new x e f p q r =
    let from : get_or ss t.from 0 ≡ begin = (position-there ss (try_start items i) t.from x.from).1 ∙ sym e in
    let cover : cov ≡ covered size ss t = f ∙ (λ k. min 65535 (bound_of size ss (sym x.to k) - sym from k)) in
    r ∙ ap (λ z. z ++ u16_bytes off) (q ∙ ap (λ z. z ++ u16_bytes cov) p)
    ∙ ap (λ z. z ++ u16_bytes off) (append_assoc old (u32_bytes begin) (u16_bytes cov)) ∙ append_assoc old (u32_bytes begin ++ u16_bytes cov) (u16_bytes off)
    ∙ (λ k. old ++ ((u32_bytes (sym from k) ++ u16_bytes (cover k)) ++ u16_bytes off))

-- ---- numbers of handlers

pub number_low : (old new : List (List ℕ)) (key : List ℕ) (n : ℕ) → IsHeldAs old new key n → n ≤ length old
number_low old new key n m = elim m.is_new [
  | inl same ↦ let w = slice_get_within new n key m.there in let e = ap length same in omega (arith, w, e)
  | inr fresh ↦ let e = fresh.0 in omega (arith, e)
]

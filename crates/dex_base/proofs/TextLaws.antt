-- Texts in MUTF-8, as wholes.
use Rattle.std.proofs.Common.{◌≡◌, ℕ, ◌+◌, ◌*◌, ◌≤◌, ◌<◌, List, [], ◌∷◌, ◌++◌, length, take, get_or, sym, ap, subst, ◌∙◌, inl, inr, arith}
use Rattle.std.proofs.lemmas.Bool.{cases_lt}
use Rattle.std.proofs.lemmas.List.Sums.{sum_by-cons, sum_by_more}
use Rattle.dex_base.specs.Grammar.{IsPrefixUnique, Each, Counted}
use Rattle.dex_base.specs.Leb128.{Spells, Shortest}
use Rattle.dex_base.specs.Mutf8.{unit_bytes, SpellsUnit, SpellsText, PacksText, mutf8_length}
use Rattle.dex_base.proofs.Numbers.{spells_unique}
use Rattle.dex_base.proofs.ShortestLaws.{AllBytes, shortest_one}
use Rattle.dex_base.proofs.UnitLaws.{bytes_one, bytes_zero, bytes_two, bytes_three, unit_unique}
use Rattle.dex_base.proofs.GrammarLaws.{Counted-unique, Ended-unique}
use Rattle.dex_base.proofs.WeakerLaws.{Implies, Shortest-weaker, Counted-weaker, Ended-weaker}
use Rattle.dex_base.proofs.LengthLaws.{IsAtMost, Spells-most, Shortest-most, Counted-most, Ended-most}
use Rattle.dex_base.proofs.ListFacts.{all_front}

pub text_unique : IsPrefixUnique SpellsText
text_unique = Ended-unique (Counted Spells SpellsUnit) (Counted-unique Spells SpellsUnit spells_unique unit_unique)

pub packed_is_text : Implies PacksText SpellsText
packed_is_text = Ended-weaker (Counted (Shortest Spells) SpellsUnit) (Counted Spells SpellsUnit) (Counted-weaker (Shortest Spells) Spells SpellsUnit SpellsUnit (Shortest-weaker Spells) (λ bytes u s. s))

pub unit_length : (u : ℕ) → (1 ≤ length (unit_bytes u)) × (length (unit_bytes u) ≤ 3)
unit_length u = elim (cases_lt u 128) [
  | inl l ↦ elim (cases_lt 0 u) [
    | inl p ↦ rw (bytes_one u p l) (omega arith, omega arith)
    | inr p ↦ rw (bytes_zero u (omega arith)) (omega arith, omega arith)
  ]
  | inr l ↦ elim (cases_lt u 2048) [
    | inl p ↦ rw (bytes_two u l p) (omega arith, omega arith)
    | inr p ↦ rw (bytes_three u p) (omega arith, omega arith)
  ]
]

pub mutf8_length-most : (units : List ℕ) → mutf8_length units ≤ 3 * length units
mutf8_length-most [] = omega arith
mutf8_length-most (u ∷ units) =
    let f : ℕ → ℕ = λ v. length (unit_bytes v) in
    let r = mutf8_length-most units in
    rw (sum_by-cons f u units) (omega (arith, r, (unit_length u).1))

pub mutf8_length-least : (units : List ℕ) → length units ≤ mutf8_length units
mutf8_length-least [] = omega arith
mutf8_length-least (u ∷ units) =
    let f : ℕ → ℕ = λ v. length (unit_bytes v) in
    let r = mutf8_length-least units in
    rw (sum_by-cons f u units) (omega (arith, r, (unit_length u).0))

-- one unit more
pub mutf8_length-more : (units : List ℕ) (i : ℕ) → i < length units → mutf8_length (take (i + 1) units) ≡ mutf8_length (take i units) + length (unit_bytes (get_or units i 0))
mutf8_length-more units i h = let f : ℕ → ℕ = λ v. length (unit_bytes v) in sum_by_more f units i 0 h

unit_most : IsAtMost SpellsUnit (λ u. length (unit_bytes u))
unit_most bytes u s = let e = ap length s.1 in omega (arith, e)

pub packed_length : IsAtMost PacksText (λ units. mutf8_length units + 6)
packed_length bytes units p =
    let c = Ended-most (Counted (Shortest Spells) SpellsUnit) _ (Counted-most (Shortest Spells) SpellsUnit 5 (λ u. length (unit_bytes u)) (Shortest-most Spells (λ _. 5) Spells-most) unit_most) bytes units p in
    omega (arith, c)

-- the same units, one after the other, are the same bytes
pub each_same : (units a b : List ℕ) → Each SpellsUnit a units → Each SpellsUnit b units → a ≡ b
each_same [] a b p q = p ∙ sym q
each_same (u ∷ units) a b p q =
    let f = p.3.1 ∙ sym q.3.1 in
    let r = each_same units p.1 q.1 p.4 q.4 in
    let s = p.2 in let t = q.2 in
    cc

-- the bytes of a written text are decided by its units
pub packed_one : (a b units : List ℕ) → AllBytes a → AllBytes b → PacksText a units → PacksText b units → a ≡ b
packed_one a b units m n p q =
    let s = p.spelled in
    let t = q.spelled in
    let count : s.front ≡ t.front = shortest_one s.front t.front (length units) (count_bytes a m p) (count_bytes b n q) s.first t.first in
    let back : s.back ≡ t.back = each_same units s.back t.back s.second.1 t.second.1 in
    let whole : s.front ++ s.back ≡ t.front ++ t.back = ap (λ l. l ++ s.back) count ∙ ap (λ l. t.front ++ l) back in
    p.joined ∙ ap (λ l. l ++ 0 ∷ []) (s.joined ∙ whole ∙ sym t.joined) ∙ sym q.joined
  where
    count_bytes : (c : List ℕ) → AllBytes c → (r : PacksText c units) → AllBytes r.spelled.front
    count_bytes c h r = all_front (λ x. x < 256) r.spelled.front r.spelled.back (subst AllBytes r.spelled.joined (all_front (λ x. x < 256) r.front (0 ∷ []) (subst AllBytes r.joined h)))

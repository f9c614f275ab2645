-- Entries of class data: what they stand for decides them.
use Rattle.std.proofs.Common.{◌≡◌, ℕ, zero, suc, ◌+◌, ◌<◌, List, [], ◌∷◌, ◌++◌, length, map, take, sum, refl, sym, ◌∙◌, subst, arith}
use Rattle.std.proofs.lemmas.List.{length-map}
use Rattle.dex_base.specs.Grammar.{Pair, Many}
use Rattle.dex_base.specs.Leb128.{Spells, Shortest}
use Rattle.dex_base.proofs.AdlerSums.{sum-cons}
use Rattle.file_classes.specs.ClassData.{Entries, SpellsFieldEntry, SpellsMethodEntry, SpellsCounts, SpellsLists, SpellsEntries, EntriesAre, steps, index_of, counts_of, lists_of}
use Rattle.dex_base.proofs.ShortestLaws.{AllBytes}
use Rattle.file_put.proofs.GrammarOnce.{IsSpelledOnce, number_once, then_once, pair_once, many_once, mapped_same}
use Rattle.file_classes.proofs.EntryLaws.{entry_at}

-- ---- bytes

field_once : IsSpelledOnce (SpellsFieldEntry (Shortest Spells))
field_once = pair_once (Shortest Spells) (Shortest Spells) number_once number_once

method_once : IsSpelledOnce (SpellsMethodEntry (Shortest Spells))
method_once = pair_once (Shortest Spells) (Pair (Shortest Spells) (Shortest Spells)) number_once (pair_once (Shortest Spells) (Shortest Spells) number_once number_once)

counts_once : IsSpelledOnce (SpellsCounts (Shortest Spells))
counts_once =
    pair_once (Shortest Spells) (Pair (Shortest Spells) (Pair (Shortest Spells) (Shortest Spells))) number_once
    (pair_once (Shortest Spells) (Pair (Shortest Spells) (Shortest Spells)) number_once (pair_once (Shortest Spells) (Shortest Spells) number_once number_once))

lists_once : (n : ℕ × (ℕ × (ℕ × ℕ))) → IsSpelledOnce (SpellsLists (Shortest Spells) n)
lists_once n =
    let F = SpellsFieldEntry (Shortest Spells) in
    let M = SpellsMethodEntry (Shortest Spells) in
    pair_once (Many F n.0) (Pair (Many F n.1.0) (Pair (Many M n.1.1.0) (Many M n.1.1.1))) (many_once F n.0 field_once)
    (pair_once (Many F n.1.0) (Pair (Many M n.1.1.0) (Many M n.1.1.1)) (many_once F n.1.0 field_once)
    (pair_once (Many M n.1.1.0) (Many M n.1.1.1) (many_once M n.1.1.0 method_once) (many_once M n.1.1.1 method_once)))

pub entries_once : (a b : List ℕ) (e : Entries) → AllBytes a → AllBytes b → SpellsEntries (Shortest Spells) a e → SpellsEntries (Shortest Spells) b e → a ≡ b
entries_once a b e i j p q = then_once (SpellsCounts (Shortest Spells)) (SpellsLists (Shortest Spells)) counts_once lists_once a b (counts_of e, lists_of e) i j p q

-- ---- differences of indices

-- sums from the front decide what is summed
sums_same : (xs ys : List ℕ) → length xs ≡ length ys → ((k : ℕ) → k < length xs → sum (take (k + 1) xs) ≡ sum (take (k + 1) ys)) → xs ≡ ys
sums_same [] [] n h = refl
sums_same [] (y ∷ ys) n h = absurd (omega arith)
sums_same (x ∷ xs) [] n h = absurd (omega arith)
sums_same (x ∷ xs) (y ∷ ys) n h =
    let first : x ≡ y = let e = h zero (omega arith) in omega (arith, e) in
    let rest = sums_same xs ys (omega arith) (λ k lt.
    (let m : suc k + 1 ≡ suc (k + 1) = omega arith in
    let e : x + sum (take (k + 1) xs) ≡ y + sum (take (k + 1) ys) = sym (sum-cons x (take (k + 1) xs)) ∙ subst (λ (j : ℕ). sum (take j (x ∷ xs)) ≡ sum (take j (y ∷ ys))) m (h (suc k) (omega arith)) ∙ sum-cons y (take (k + 1) ys) in
    omega (arith, e, first))) in
    (λ k. first k ∷ rest k)

-- ---- runs

pub steps_same : {R V : Type 0} (M : ℕ → ℕ × R → V → Type 0) → ((i j : ℕ) (d e : ℕ × R) (v : V) → M i d v → M j e v → i ≡ j)
    → (es fs : List (ℕ × R)) (vs : List V) → EntriesAre M es vs → EntriesAre M fs vs → steps es ≡ steps fs
steps_same {R} {V} M one es fs vs p q =
    let m = p.count in let n = q.count in
    let k0 = length-map es (λ (e : ℕ × R). e.0) in let k1 = length-map fs (λ (e : ℕ × R). e.0) in
    sums_same (steps es) (steps fs) (omega (arith, m, n, k0, k1)) (λ k lt.
    (let e = entry_at es k (omega (arith, lt, k0)) in
    let f = entry_at fs k (omega (arith, lt, k0, m, n)) in
    let v = entry_at vs k (omega (arith, lt, k0, m)) in
    one (index_of (steps es) k) (index_of (steps fs) k) e.0 f.0 v.0 (p.each k e.0 v.0 e.1 v.1) (q.each k f.0 v.0 f.1 v.1)))

-- what each entry has of its value
pub marks_same : {R V C : Type 0} (M : ℕ → ℕ × R → V → Type 0) (f : R → C) (g : V → C) → ((i : ℕ) (e : ℕ × R) (v : V) → M i e v → f e.1 ≡ g v)
    → (es : List (ℕ × R)) (vs : List V) → EntriesAre M es vs → map (λ (e : ℕ × R). f e.1) es ≡ map g vs
marks_same {R} M f g one es vs p =
    mapped_same (λ (e : ℕ × R). f e.1) g es vs (sym p.count)
    (λ k e v at_e at_v. one (index_of (steps es) k) e v (p.each k e v at_e at_v))

pub seconds_same : {A B C : Type 0} (xs ys : List (A × (B × C))) → map (λ (p : A × (B × C)). p.0) xs ≡ map (λ (p : A × (B × C)). p.0) ys
    → map (λ (p : A × (B × C)). p.1.0) xs ≡ map (λ (p : A × (B × C)). p.1.0) ys → map (λ (p : A × (B × C)). p.1.1) xs ≡ map (λ (p : A × (B × C)). p.1.1) ys → xs ≡ ys
seconds_same [] [] e f g = refl
seconds_same [] (y ∷ ys) e f g = absurd cc
seconds_same (x ∷ xs) [] e f g = absurd cc
seconds_same {A} {B} {C} (x ∷ xs) (y ∷ ys) e f g =
    let a : x.0 ≡ y.0 = cc in
    let b : x.1.0 ≡ y.1.0 = cc in
    let c : x.1.1 ≡ y.1.1 = cc in
    let d0 : map (λ (p : A × (B × C)). p.0) xs ≡ map (λ (p : A × (B × C)). p.0) ys = cc in
    let d1 : map (λ (p : A × (B × C)). p.1.0) xs ≡ map (λ (p : A × (B × C)). p.1.0) ys = cc in
    let d2 : map (λ (p : A × (B × C)). p.1.1) xs ≡ map (λ (p : A × (B × C)). p.1.1) ys = cc in
    let rest = seconds_same xs ys d0 d1 d2 in
    (λ k. (a k, (b k, c k)) ∷ rest k)

-- lists after lists of one length
pub split_same : {A : Type 0} (xs ys us ws : List A) → length xs ≡ length ys → xs ++ us ≡ ys ++ ws → (xs ≡ ys) × (us ≡ ws)
split_same [] [] us ws n e = (refl, e)
split_same [] (y ∷ ys) us ws n e = absurd (omega arith)
split_same (x ∷ xs) [] us ws n e = absurd (omega arith)
split_same (x ∷ xs) (y ∷ ys) us ws n e =
    let head : x ≡ y = cc in
    let tail : xs ++ us ≡ ys ++ ws = cc in
    let r = split_same xs ys us ws (omega arith) tail in
    ((λ k. head k ∷ r.0 k), r.1)

-- What is made of grammars of one spelling is one.
use Rattle.std.proofs.Common.{◌≡◌, ℕ, zero, suc, List, [], ◌∷◌, ◌++◌, length, map, refl, sym, ◌∙◌, arith, Some}
use Rattle.std.specs.List.{slice_get}
use Rattle.dex_base.specs.Grammar.{Then, Pair, Each, Many}
use Rattle.dex_base.specs.Leb128.{Spells, Shortest}
use Rattle.dex_base.proofs.ShortestLaws.{AllBytes, shortest_one}
use Rattle.code_write.proofs.HandlerOnce.{two-parts}

-- Of all lists of bytes one at most spells a value.
abbrev pub IsSpelledOnce : {V : Type 0} → (List ℕ → V → Type 0) → Type 0
IsSpelledOnce {V} G = (a b : List ℕ) (v : V) → AllBytes a → AllBytes b → G a v → G b v → a ≡ b

pub number_once : IsSpelledOnce (Shortest Spells)
number_once a b n i j p q = shortest_one a b n i j p q

pub then_once : {V W : Type 0} (G : List ℕ → V → Type 0) (H : V → List ℕ → W → Type 0) → IsSpelledOnce G → ((v : V) → IsSpelledOnce (H v)) → IsSpelledOnce (Then G H)
then_once G H g h a b v i j p q =
    let x = two-parts a p.front p.back p.joined i in let y = two-parts b q.front q.back q.joined j in
    let first = g p.front q.front v.0 x.0 y.0 p.first q.first in
    let second = h v.0 p.back q.back v.1 x.1 y.1 p.second q.second in
    p.joined ∙ (λ k. first k ++ second k) ∙ sym q.joined

pub pair_once : {V W : Type 0} (G : List ℕ → V → Type 0) (H : List ℕ → W → Type 0) → IsSpelledOnce G → IsSpelledOnce H → IsSpelledOnce (Pair G H)
pair_once {V} G H g h = then_once G (λ (v : V). H) g (λ v. h)

pub each_once : {V : Type 0} (G : List ℕ → V → Type 0) → IsSpelledOnce G → IsSpelledOnce (Each G)
each_once G g a b [] i j p q = p ∙ sym q
each_once G g a b (v ∷ vs) i j p q =
    let x = two-parts a p.0 p.1 p.2 i in let y = two-parts b q.0 q.1 q.2 j in
    let one = g p.0 q.0 v x.0 y.0 p.3 q.3 in
    let rest = each_once G g p.1 q.1 vs x.1 y.1 p.4 q.4 in
    p.2 ∙ (λ k. one k ++ rest k) ∙ sym q.2

pub many_once : {V : Type 0} (G : List ℕ → V → Type 0) (n : ℕ) → IsSpelledOnce G → IsSpelledOnce (Many G n)
many_once G n g a b vs i j p q = each_once G g a b vs i j p.1 q.1

-- ---- lists, element by element

pub mapped_same : {A B C : Type 0} (f : A → C) (g : B → C) (xs : List A) (ys : List B) → length xs ≡ length ys
    → ((k : ℕ) (x : A) (y : B) → slice_get xs k ≡ Some x → slice_get ys k ≡ Some y → f x ≡ g y) → map f xs ≡ map g ys
mapped_same f g [] [] n h = refl
mapped_same f g [] (y ∷ ys) n h = absurd (omega arith)
mapped_same f g (x ∷ xs) [] n h = absurd (omega arith)
mapped_same f g (x ∷ xs) (y ∷ ys) n h =
    let here = h zero x y refl refl in
    let rest = mapped_same f g xs ys (omega arith) (λ k u w. h (suc k) u w) in
    (λ k. here k ∷ rest k)

-- pairs are their two-parts
pub pairs_same : {A B : Type 0} (xs ys : List (A × B)) → map (λ (p : A × B). p.0) xs ≡ map (λ (p : A × B). p.0) ys → map (λ (p : A × B). p.1) xs ≡ map (λ (p : A × B). p.1) ys → xs ≡ ys
pairs_same [] [] e f = refl
pairs_same [] (y ∷ ys) e f = absurd cc
pairs_same (x ∷ xs) [] e f = absurd cc
pairs_same {A} {B} (x ∷ xs) (y ∷ ys) e f =
    let a : x.0 ≡ y.0 = cc in
    let b : x.1 ≡ y.1 = cc in
    let c : map (λ (p : A × B). p.0) xs ≡ map (λ (p : A × B). p.0) ys = cc in
    let d : map (λ (p : A × B). p.1) xs ≡ map (λ (p : A × B). p.1) ys = cc in
    let rest = pairs_same xs ys c d in
    (λ k. (a k, b k) ∷ rest k)

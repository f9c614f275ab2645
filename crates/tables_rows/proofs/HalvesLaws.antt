-- Numbers of two bytes, and the bytes of a type_list.
use Rattle.std.proofs.Common.{Bool, true, false, ◌≡◌, ℕ, zero, suc, ◌+◌, ◌*◌, ◌-◌, ◌^◌, ◌%◌, ◌/◌, ◌<◌, ◌≤◌, List, [], ◌∷◌, ◌++◌, length, take, drop, get_or, refl, sym, ap, ◌∙◌, arith, length-take, length-drop, length-append}
use Rattle.std.proofs.lemmas.List.{take_at, drop_at}
use Rattle.std.proofs.Math.Seq.{take-add}
use Rattle.std.specs.List.{AllByRecursion}
use Rattle.dex_base.specs.Fields.{AreBytes, u16_at, u32_at, u16_bytes, u32_bytes}
use Rattle.dex_base.specs.Words.{halves_bytes}
use Rattle.dex_base.specs.Grammar.{Begins, NoneBegins, IsPrefixUnique}
use Rattle.dex_base.proofs.FieldBounds.{u32_at-bytes, length-u32_bytes, u32_at-front, u32_at-fits}
use Rattle.tables_rows.specs.inner.Halves.{halves}
use Rattle.dex_container.specs.Frame.{IsFramed}
use Rattle.std.specs.Prelude.{MatchBool, ◌==◌}
use Rattle.tables_rows.specs.Stands.{SpellsIndexes}
use Rattle.dex_container.specs.Where.{slice, At, AtOrNone, IsInSection}
use Rattle.dex_container.proofs.Standing.{at_place, At-one}
use Rattle.dex_base.proofs.ListFacts.{take_bytes}
use Rattle.dex_base.proofs.FieldBounds.{drop-AreBytes}

-- ---- numbers and their bytes

pub halves-halves_bytes : (xs rest : List ℕ) → AllByRecursion (λ i. i < 2 ^ 16) xs → halves (halves_bytes xs) ≡ xs
unfolding halves_bytes u16_bytes
halves-halves_bytes [] rest small = refl
halves-halves_bytes (x ∷ xs) rest small =
    let first : x % 256 + 256 * (x / 256 % 256) ≡ x = let s = small.0 in omega (arith, s) in
    let others = halves-halves_bytes xs rest small.1 in
    rw (first, others) refl

pub length-halves_bytes : (xs : List ℕ) → length (halves_bytes xs) ≡ 2 * length xs
unfolding halves_bytes u16_bytes
length-halves_bytes [] = refl
length-halves_bytes (x ∷ xs) = let e = length-halves_bytes xs in omega (arith, e)

pub halves_bytes-halves : (n : ℕ) (bytes : List ℕ) → AreBytes bytes → length bytes ≡ 2 * n → halves_bytes (halves bytes) ≡ bytes
unfolding halves_bytes u16_bytes
halves_bytes-halves n [] are even = refl
halves_bytes-halves n (x ∷ []) are even = absurd (omega (arith, even))
halves_bytes-halves zero (x ∷ y ∷ rest) are even = absurd (omega (arith, even))
halves_bytes-halves (suc n) (x ∷ y ∷ rest) are even =
    let a = are 0 in let c = are 1 in
    let low : (x + 256 * y) % 256 ≡ x = omega (arith, a) in
    let high : (x + 256 * y) / 256 % 256 ≡ y = omega (arith, a, c) in
    let others = halves_bytes-halves n rest (λ i. are (suc (suc i))) (omega (arith, even)) in
    rw (low, high, others) refl

pub length-halves : (n : ℕ) (bytes : List ℕ) → length bytes ≡ 2 * n → length (halves bytes) ≡ n
length-halves n [] even = omega (arith, even)
length-halves n (x ∷ []) even = absurd (omega (arith, even))
length-halves zero (x ∷ y ∷ rest) even = absurd (omega (arith, even))
length-halves (suc n) (x ∷ y ∷ rest) even = ap suc (length-halves n rest (omega (arith, even)))

pub small-halves : (bytes : List ℕ) → AreBytes bytes → AllByRecursion (λ i. i < 2 ^ 16) (halves bytes)
small-halves (x ∷ y ∷ rest) are = (let a = are 0 in let c = are 1 in omega (arith, a, c), small-halves rest (λ i. are (suc (suc i))))
small-halves _ are = tt

-- the number at place 2 i is the i-th
pub u16_at-halves : (bytes : List ℕ) (i : ℕ) → i < length (halves bytes) → u16_at bytes (2 * i) ≡ get_or (halves bytes) i 0
unfolding u16_at
u16_at-halves [] i lt = absurd (omega (arith, lt))
u16_at-halves (x ∷ []) i lt = absurd (omega (arith, lt))
u16_at-halves (x ∷ y ∷ rest) zero lt = omega arith
u16_at-halves (x ∷ y ∷ rest) (suc i) lt =
    let e : 2 * suc i ≡ suc (suc (2 * i)) = omega arith in
    rw e (u16_at-halves rest i (omega (arith, lt)))

-- ---- the bytes of a type_list

-- a count and its bytes
pub u32_bytes-u32_at : (bytes : List ℕ) → AreBytes bytes → 4 ≤ length bytes → u32_bytes (u32_at bytes 0) ≡ take 4 bytes
unfolding u32_bytes u32_at
u32_bytes-u32_at (x ∷ y ∷ z ∷ w ∷ rest) are long =
    let a = are 0 in let b = are 1 in let c = are 2 in let d = are 3 in
    let n : ℕ = x + 256 * (y + 256 * (z + 256 * (w + 256 * 0))) in
    let e0 : n % 256 ≡ x = omega (arith, a, b, c, d) in
    let e1 : n / 256 % 256 ≡ y = omega (arith, a, b, c, d) in
    let e2 : n / 65536 % 256 ≡ z = omega (arith, a, b, c, d) in
    let e3 : n / 16777216 % 256 ≡ w = omega (arith, a, b, c, d) in
    (cc)
u32_bytes-u32_at _ are long = absurd (omega (arith, long))

-- what a spelling says in numbers
pub record IsListOf (bytes indexes : List ℕ) : Type 0 where
  pub count : length indexes ≡ u32_at bytes 0
  pub size : length bytes ≡ 4 + 2 * length indexes
  pub numbers : indexes ≡ halves (drop 4 bytes)

pub spelled_numbers : (bytes indexes : List ℕ) → SpellsIndexes bytes indexes → IsListOf bytes indexes
spelled_numbers bytes indexes s =
    let four = length-u32_bytes (length indexes) in
    let more = length-halves_bytes indexes in
    let back : drop 4 (u32_bytes (length indexes) ++ halves_bytes indexes) ≡ halves_bytes indexes = drop_at (u32_bytes (length indexes)) (halves_bytes indexes) 4 four in
    record {
      count = sym (rw s.spelled (u32_at-bytes (length indexes) (halves_bytes indexes) s.few));
      size = rw (s.spelled, length-append) (omega (arith, four, more));
      numbers = rw (s.spelled, back) (sym (halves-halves_bytes indexes [] s.small));
    }

-- the list at the front of these bytes
pub list_begins : (rest : List ℕ) (count : ℕ) → AreBytes rest → count ≡ u32_at rest 0 → 4 + 2 * count ≤ length rest → Begins SpellsIndexes rest (halves (take (2 * count) (drop 4 rest))) (4 + 2 * count)
list_begins rest count are is long =
    let tail = take (2 * count) (drop 4 rest) in
    let below : AreBytes tail = take_bytes (2 * count) (drop 4 rest) (drop-AreBytes rest 4 are) in
    let even : length tail ≡ 2 * count = simp (length-take, length-drop) (omega (arith, long)) in
    let n : length (halves tail) ≡ count = length-halves count tail even in
    record {
      inside = long;
      spelled = record {
        spelled = take-add 4 (2 * count) rest ∙ ap (λ front. front ++ tail) (sym (u32_bytes-u32_at rest are (omega (arith, long)))) ∙ ap (λ m. u32_bytes m ++ tail) (sym is ∙ sym n) ∙ ap (λ back. u32_bytes (length (halves tail)) ++ back) (sym (halves_bytes-halves count tail below even));
        small = small-halves tail below;
        few = rw n (rw is (u32_at-fits rest 0 are));
      };
    }

-- no list is at the front of bytes that are too few for their count
pub no_list : (rest : List ℕ) → (4 ≤ length rest → (length rest - 4) / 2 < u32_at rest 0) → NoneBegins SpellsIndexes rest
no_list rest short front more indexes joined s =
    let l = spelled_numbers front indexes s in
    let n : length rest ≡ length front + length more = ap length joined ∙ length-append front more in
    let z = l.size in let k = l.count in
    let same : u32_at rest 0 ≡ u32_at front 0 = ap (λ b. u32_at b 0) joined ∙ u32_at-front front more 0 (omega (arith, z)) in
    let few = short (omega (arith, n, z)) in
    omega (arith, n, z, k, same, few)

-- no list begins another one, and it is one list
pub indexes_unique : IsPrefixUnique SpellsIndexes
indexes_unique a b x y v w s t e =
    let l = spelled_numbers a v s in let m = spelled_numbers b w t in
    let lz = l.size in let lk = l.count in let mz = m.size in let mk = m.count in
    let same : u32_at a 0 ≡ u32_at b 0 = sym (u32_at-front a x 0 (omega (arith, lz))) ∙ ap (λ z. u32_at z 0) e ∙ u32_at-front b y 0 (omega (arith, mz)) in
    let sizes : length a ≡ length b = omega (arith, lz, lk, mz, mk, same) in
    let whole : a ≡ b = sym (take_at a x (length b) sizes) ∙ ap (take (length b)) e ∙ take_at b y (length b) refl in
    (whole, l.numbers ∙ ap (λ z. halves (drop 4 z)) whole ∙ sym m.numbers)

-- ---- where a type_list stands

-- where one stands, its first byte lies in the section
pub list_placed : (b : List ℕ) (kind align off : ℕ) (indexes : List ℕ) → At SpellsIndexes b kind align off indexes → IsInSection b kind off
unfolding slice
list_placed b kind align off indexes a =
    let l = (spelled_numbers _ indexes a.spelled).size in
    let short = length-take a.size (drop off b) in
    at_place SpellsIndexes b kind align off indexes a (omega (arith, l, short))

-- what stands at a place is one list
pub list_one : (b : List ℕ) → IsFramed b → (kind align off : ℕ) (x y : List ℕ) → At SpellsIndexes b kind align off x → At SpellsIndexes b kind align off y → x ≡ y
list_one b framed kind align off x y p q = At-one SpellsIndexes indexes_unique b framed kind align off x y p q

pub list_or_none_one : (b : List ℕ) → IsFramed b → (kind align off : ℕ) (x y : List ℕ) → AtOrNone SpellsIndexes b kind align off x → AtOrNone SpellsIndexes b kind align off y → x ≡ y
list_or_none_one b framed kind align off x y p q = by (off == 0) p q
  where
    by : (z : Bool) → MatchBool z (x ≡ []) (At SpellsIndexes b kind align off x) → MatchBool z (y ≡ []) (At SpellsIndexes b kind align off y) → x ≡ y
    by true p q = p ∙ sym q
    by false p q = list_one b framed kind align off x y p q

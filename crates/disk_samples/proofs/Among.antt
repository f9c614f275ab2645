-- The names of a disk.
use Rattle.std.proofs.Common.{◌≡◌, ◌⊎◌, inl, inr, ℕ, zero, suc, ◌+◌, ◌<◌, ◌≤◌, Bool, true, false, List, [], ◌∷◌, ◌++◌, length, get_or, take, Option, None, refl, sym, ◌∙◌, ap, subst, arith}
use Rattle.std.specs.Prelude.{◌||◌, is_some, bytes_eq, if◌then◌else◌}
use Rattle.std.specs.Borrow.{Bor}
use Rattle.std.proofs.lemmas.Slice.Eq.{bytes_eq-Decides}
use Rattle.std.proofs.lemmas.List.{take_more}
use Rattle.dexasm_world.specs.State.{Path}
use Rattle.disk_samples.specs.Logs.{is_a_name, one_if, standing, stands_at}

or_right : (a b : Bool) → b ≡ true → (a || b) ≡ true
or_right true b h = refl
or_right false b h = h

or_false : (b : Bool) → (b || false) ≡ b
or_false true = refl
or_false false = refl

or_assoc : (a b c : Bool) → (a || (b || c)) ≡ ((a || b) || c)
or_assoc true b c = refl
or_assoc false b c = refl

or_either : (a b : Bool) → (a || b) ≡ true → (a ≡ true) ⊎ (b ≡ true)
or_either true b h = inl refl
or_either false b h = inr h

-- a name that was read is among the names
among_at : (p : Path) (names : List (Bor Path)) (i : ℕ) (d : Bor Path) → i < length names → p ≡ (get_or names i d).now → is_a_name p names ≡ true
among_at p [] i d within same = absurd (omega (arith, within))
among_at p (x ∷ xs) zero d within same = ap (λ b. b || is_a_name p xs) ((bytes_eq-Decides p x.now).1 same)
among_at p (x ∷ xs) (suc i) d within same = or_right (bytes_eq p x.now) (is_a_name p xs) (among_at p xs i d (omega (arith, within)) same)

among_push : (p : Path) (xs : List (Bor Path)) (q : Bor Path) → is_a_name p (xs ++ q ∷ []) ≡ (is_a_name p xs || bytes_eq p q.now)
among_push p [] q = or_false (bytes_eq p q.now)
among_push p (x ∷ xs) q = ap (λ b. bytes_eq p x.now || b) (among_push p xs q) ∙ or_assoc (bytes_eq p x.now) (is_a_name p xs) (bytes_eq p q.now)

-- one name more was read
pub among_more : (p : Path) (names : List (Bor Path)) (i : ℕ) (d : Bor Path) → i < length names
    → is_a_name p (take (i + 1) names) ≡ (is_a_name p (take i names) || bytes_eq p (get_or names i d).now)
among_more p names i d within = ap (is_a_name p) (take_more names i d within) ∙ among_push p (take i names) (get_or names i d)

-- and it is the path
pub among_now : (p : Path) (names : List (Bor Path)) (i : ℕ) (d : Bor Path) (r : Bool) → i < length names → r ≡ bytes_eq p (get_or names i d).now → r ≡ true
    → ((get_or names i d).now ≡ p) × (is_a_name p names ≡ true)
among_now p names i d r within is found =
    let same : p ≡ (get_or names i d).now = (bytes_eq-Decides p (get_or names i d).now).0 (sym is ∙ found) in
    (sym same, among_at p names i d within same)

-- or another
pub among_not : (p : Path) (names : List (Bor Path)) (i : ℕ) (d : Bor Path) (r : Bool) → i < length names → r ≡ bytes_eq p (get_or names i d).now → r ≡ false
    → is_a_name p (take i names) ≡ false → is_a_name p (take (i + 1) names) ≡ false
among_not p names i d r within is missed before =
    let here : bytes_eq p (get_or names i d).now ≡ false = sym is ∙ missed in
    among_more p names i d within ∙ (λ j. before j || here j)

-- what is so of each name read before, and of this one, is so of each
pub each_among : (P : Path → Type 0) (names : List (Bor Path)) (i : ℕ) (d : Bor Path) → i < length names → ((q : Path) → is_a_name q (take i names) ≡ true → P q)
    → P (get_or names i d).now → (q : Path) → is_a_name q (take (i + 1) names) ≡ true → P q
each_among P names i d within before here q among =
    elim (or_either (is_a_name q (take i names)) (bytes_eq q (get_or names i d).now) (sym (among_more q names i d within) ∙ among)) [
      | inl earlier ↦ before q earlier
      | inr now ↦ subst P (sym ((bytes_eq-Decides q (get_or names i d).now).0 now)) here
    ]

-- no more names than there are
pub standing_within : (stands : Path → Option ℕ) (names : List (Bor Path)) → standing stands names ≤ length names
standing_within stands [] = omega arith
standing_within stands (q ∷ qs) = omega (arith, one_at_most (is_some (stands q.now)), standing_within stands qs)
  where
    one_at_most : (b : Bool) → one_if b ≤ 1
    one_at_most true = omega arith
    one_at_most false = omega arith

pub none_stand : (names : List (Bor Path)) → standing (λ p. None) names ≡ 0
none_stand [] = refl
none_stand (q ∷ qs) = omega (arith, none_stand qs)

here_fewer : (b : Bool) (o : Option ℕ) → one_if (is_some (if b then None else o)) ≤ one_if (is_some o)
here_fewer true o = omega arith
here_fewer false o = omega arith

fewer : (place : Path) (stands : Path → Option ℕ) (names : List (Bor Path)) → standing (stands_at place None stands) names ≤ standing stands names
fewer place stands [] = omega arith
fewer place stands (q ∷ qs) = omega (arith, here_fewer (bytes_eq q.now place) (stands q.now), fewer place stands qs)

-- one name fewer, where a file stood
one_fewer : (place : Path) (stands : Path → Option ℕ) (q : Path) → place ≡ q → is_some (stands place) ≡ true
    → one_if (is_some (stands_at place None stands q)) + 1 ≤ one_if (is_some (stands q))
one_fewer place stands q same there =
    let gone : one_if (is_some (stands_at place None stands q)) ≡ 0 = ap (λ b. one_if (is_some (if b then None else stands q))) ((bytes_eq-Decides q place).1 (sym same)) in
    let stood : one_if (is_some (stands q)) ≡ 1 = ap (λ p. one_if (is_some (stands p))) (sym same) ∙ ap one_if there in
    omega (arith, gone, stood)

pub taken_away : (place : Path) (stands : Path → Option ℕ) (names : List (Bor Path)) → is_a_name place names ≡ true → is_some (stands place) ≡ true
    → standing (stands_at place None stands) names + 1 ≤ standing stands names
taken_away place stands [] among there = cc
taken_away place stands (q ∷ qs) among there = elim (or_either (bytes_eq place q.now) (is_a_name place qs) among) [
  | inl is ↦ omega (arith, one_fewer place stands q.now ((bytes_eq-Decides place q.now).0 is) there, fewer place stands qs)
  | inr later ↦ omega (arith, here_fewer (bytes_eq q.now place) (stands q.now), taken_away place stands qs later there)
]

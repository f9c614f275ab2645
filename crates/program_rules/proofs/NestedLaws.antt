-- What is left of the names in a value.
use Rattle.std.proofs.Common.{◌≡◌, ℕ, ◌+◌, ◌<◌, ◌≤◌, List, [], ◌∷◌, map, length, get_or, drop, arith, refl, sym, subst, zero, suc}
use Rattle.std.specs.Prelude.{◌↔◌}
use Rattle.program_types.specs.Content as content
use Rattle.program_types.specs.Content.{Values, Array, more_values, values}
use Rattle.program_types.specs.Depth.{depth, greatest_depth}
use Rattle.program_types.specs.View.{value}
use Rattle.program_types.specs.declared.value.Value.{Value as Held}
use Rattle.program_types.proofs.Nesting.{from, from_next, value_less}
use Rattle.program_rules.specs.inner.Nested.{IsGood, AreGood, IsWalked, IsProgress, IsSoFar}
use Rattle.program_rules.specs.declared.nested.Walked.{Walked}
use Rattle.program_rules.specs.declared.nested.Walked.TheVariants as walked
use Rattle.program_rules.specs.declared.nested.Progress.{Progress}
use Rattle.program_rules.specs.declared.nested.Progress.TheVariants as progress

-- how deep what is left is
abbrev pub rest_of : Progress → ℕ
rest_of (progress.One left) = depth (value left.now) + 1
rest_of _ = 0

pub good-at : (xs : List Held) (i : ℕ) (d : Held) → i < length xs → AreGood (from xs 0) → IsGood (value (get_or xs i d))
good-at [] i d l h = absurd (omega arith)
good-at (x ∷ xs) zero d l h = h.0
good-at (x ∷ xs) (suc i) d l h = good-at xs i d (omega arith) h.1

-- the first value that is left
pub one-left : (xs : List Held) (i : ℕ) (d : Held) (left : content.Value) → i < length xs → AreGood (from xs 0) ↔ AreGood (from xs i) → IsGood (value (get_or xs i d)) ↔ IsGood left → depth left ≤ depth (value (get_or xs i d)) → (AreGood (from xs 0) ↔ (IsGood left × AreGood (from xs (i + 1)))) × (depth left ≤ greatest_depth (from xs 0))
one-left xs i d left l h k m =
    let e = from_next xs i d l in
    let g : AreGood (from xs 0) ↔ AreGood (more_values (value (get_or xs i d)) (from xs (i + 1))) = subst (λ (vs : Values). AreGood (from xs 0) ↔ AreGood vs) e h in
    let deep = value_less xs i d l in
    ((λ a. let p = g.0 a in (k.0 p.0, p.1), λ p. g.1 (k.1 p.0, p.1)), omega arith)

-- one after the other: what is left of what is left
pub progress-deeper : (v w : content.Value) (k : Progress) → IsGood v ↔ IsGood w → depth w < depth v → IsProgress w k → IsProgress v k
progress-deeper v w progress.Valid g l h = g.1 h
progress-deeper v w progress.Invalid g l h = λ a. h (g.0 a)
progress-deeper v w _ g l h = ((λ a. h.0.0 (g.0 a), λ b. g.1 (h.0.1 b)), omega arith)

pub walked-deeper : (v w : content.Value) (k : Walked) → IsGood v ↔ IsGood w → depth w ≤ depth v → IsWalked w k → IsWalked v k
walked-deeper v w walked.Valid g l h = g.1 h
walked-deeper v w walked.Invalid g l h = λ a. h (g.0 a)
walked-deeper v w (walked.Left left) g l h = ((λ a. h.0.0 (g.0 a), λ b. g.1 (h.0.1 b)), omega arith)

-- all values of an array are looked at
pub progress-whole : (v : content.Value) (xs : List Held) (i : ℕ) (k : Progress) → v ≡ Array (values (map value xs)) → length xs ≤ i → IsSoFar v xs i k → IsProgress v k
progress-whole v xs i k e l s = subst (λ (w : content.Value). IsProgress w k) (sym e) (whole k (subst (λ (w : content.Value). IsSoFar w xs i k) e s))
  where
    none : AreGood (from xs i)
    none = rw (past xs i l) tt
      where
        past : (ys : List Held) (j : ℕ) → length ys ≤ j → drop j ys ≡ []
        past [] zero m = refl
        past [] (suc j) m = refl
        past (y ∷ ys) zero m = absurd (omega arith)
        past (y ∷ ys) (suc j) m = past ys j (omega arith)

    whole : (k : Progress) → IsSoFar (Array (values (map value xs))) xs i k → IsProgress (Array (values (map value xs))) k
    whole progress.Valid s = s.1 none
    whole progress.Invalid s = s
    whole (progress.One left) s = ((λ a. (s.0.0 a).0, λ g. s.0.1 (g, none)), omega arith)
    whole (progress.Many left) s = rw s ((λ a. a, λ a. a), omega arith)

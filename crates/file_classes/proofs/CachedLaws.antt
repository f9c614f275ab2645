-- What is cached by its offset.
use Rattle.std.proofs.Common.{◌≡◌, ℕ, ap, sym, ◌∙◌, refl, ◌≢◌, Result, Ok, Err, ◌-◌, ◌<◌, ◌≤◌, List, ◌++◌, length, take, drop, arith, length-take, append_assoc, inl, inr}
use Rattle.std.specs.Prelude.{IfErr, IsErrAnd}
use Rattle.dex_base.specs.Fault.{memory}
use Rattle.dex_base.specs.declared.fault.Fault.{Fault}
use Rattle.std.proofs.lemmas.List.{take-take, take-append-drop}
use Rattle.dex_container.specs.Where.{slice}
use Rattle.program_types.specs.Content.{Name, Value}
use Rattle.dex_value.specs.Standing.{ArrayStands}
use Rattle.dex_value.specs.Faults.{ArrayBreaksAt}
use Rattle.dex_value.proofs.Places.{SpellsArray-least}

-- ---- arrays that are used again

pub array_fewer : (N : ℕ → Name → Type 0) (b : List ℕ) (off most m : ℕ) (vs : List Value) → ArrayStands N b off most vs → length vs ≤ m → ArrayStands N b off m vs
array_fewer N b off most m vs a few = record { stands = a.stands; few = few; deep = a.deep }

-- one that has more values than are wanted
pub array_above : (N : ℕ → Name → Type 0) (b : List ℕ) (off most m : ℕ) (vs : List Value) → ArrayStands N b off most vs → m < length vs → ArrayBreaksAt N b off m (record { code = 49; place = off })
unfolding slice
array_above N b off most m vs a above =
    let s = a.stands in
    let rest = take (s.end - off) (drop off b) in
    let l = SpellsArray-least N (take s.size (drop off b)) vs s.spelled in
    let t = length-take s.size (drop off b) in
    let w = s.within in
    let front : take s.size rest ≡ take s.size (drop off b) = take-take s.size (s.end - off) (drop off b) (omega (arith, w)) in
    let whole : rest ≡ s.spelled.front ++ (s.spelled.back ++ drop s.size rest) =
    sym (take-append-drop s.size rest) ∙ ap (λ (x : List ℕ). x ++ drop s.size rest) (front ∙ s.spelled.joined) ∙ append_assoc s.spelled.front s.spelled.back (drop s.size rest) in
    inr (
      s.end,
      rest,
      record { begin = s.begin; section = s.section; after = s.after; before = omega (arith, l, t, w); same = refl },
      inr (inl (record { n = length vs; after = s.spelled.back ++ drop s.size rest; counted = record { front = s.spelled.front; whole = whole; spelled = s.spelled.first }; above = above }, refl)),
    )

-- ---- out of memory

pub refused : {T : Type 0} (r : Result T Fault) (P : Fault → Type 0) → IsErrAnd r (λ x. x ≡ memory) → IfErr r (λ e. e ≢ memory → P e)
refused (Ok x) P h = tt
refused (Err y) P h = λ ne. absurd (ne h)

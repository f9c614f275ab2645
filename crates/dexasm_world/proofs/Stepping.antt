-- What two steps do together.
use Rattle.std.proofs.Common.{◌≡◌, ℕ, subst, ◌+◌, ◌≤◌, refl, sym, ◌∙◌, ap, List, [], ◌++◌, append_assoc, append-nil, take, drop, length, length-drop, arith}
use Rattle.std.proofs.Math.Seq.{take-add}
use Rattle.dexasm_world.specs.State.{FileState, Files, Passes}
use Rattle.dexasm_world.specs.inner.Steps.{TouchesOnly, Wrote}
use Rattle.dexasm_world.proofs.Passing.{goes_on}

pub touches_nothing : (n : ℕ) (s : FileState) → TouchesOnly n s s
touches_nothing n s = record { names = λ p. refl; files = λ m e. refl }

pub touches_then : (n : ℕ) (s t u : FileState) → TouchesOnly n s t → TouchesOnly n t u → TouchesOnly n s u
touches_then n s t u a b = record { names = λ p. b.names p ∙ a.names p; files = λ m e. b.files m e ∙ a.files m e }

pub wrote_nothing : (n : ℕ) (s : FileState) → Wrote n [] s s
wrote_nothing n s = record { only = touches_nothing n s; bytes = sym (append-nil (s.file n).bytes); mode = refl }

wrote_more : (n : ℕ) (x y : List ℕ) (s t u : FileState) → Wrote n x s t → Wrote n y t u → Wrote n (x ++ y) s u
wrote_more n x y s t u a b = record {
  only = touches_then n s t u a.only b.only;
  bytes = b.bytes ∙ ap (λ l. l ++ y) a.bytes ∙ append_assoc (s.file n).bytes x y;
  mode = b.mode ∙ a.mode;
}

-- the front of some bytes was written, and then of the rest
wrote_front : (n : ℕ) (all : List ℕ) (done k : ℕ) (s t u : FileState) → Wrote n (take done all) s t → Wrote n (take k (drop done all)) t u → Wrote n (take (done + k) all) s u
wrote_front n all done k s t u a b = rw (take-add done k all) (wrote_more n (take done all) (take k (drop done all)) s t u a b)

-- at a moment some front of the bytes was written
abbrev pub IsFront : Files → ℕ → List ℕ → FileState → Type 0
IsFront a n all t = (k : ℕ) × (k ≤ length all) × Wrote n (take k all) a.now t

-- a call wrote a front of the rest, which is the piece
pub fronts_go_on : (a b c : Files) (n m : ℕ) (all piece : List ℕ) (done : ℕ) → done ≤ length all → piece ≡ drop done all → m ≡ n
    → Wrote n (take done all) a.now b.now → Passes a b (IsFront a n all) → Passes b c (IsFront b m piece) → Passes a c (IsFront a n all)
fronts_go_on a b c n m all piece done within is same wrote p q =
    let q' = subst (λ k. Passes b c (IsFront b k piece)) same q in
    let r = subst (λ l. Passes b c (IsFront b n l)) is q' in
    goes_on a b c (IsFront a n all) (IsFront b n (drop done all)) p r
    (λ t f. (done + f.0, omega (arith, f.1, length-drop done all), wrote_front n all done f.0 a.now b.now t wrote f.2))

-- and then the front is longer
pub front_grows : (n m : ℕ) (all piece : List ℕ) (done k : ℕ) (s t u : FileState) → piece ≡ drop done all → m ≡ n
    → Wrote n (take done all) s t → Wrote m (take k piece) t u → Wrote n (take (done + k) all) s u
front_grows n m all piece done k s t u is same a b =
    let b' = subst (λ l. Wrote l (take k piece) t u) same b in
    wrote_front n all done k s t u a (subst (λ l. Wrote n (take k l) t u) is b')

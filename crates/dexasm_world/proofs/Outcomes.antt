-- For each call there is an outcome.
use Rattle.std.specs.Prelude.{if◌then◌else◌}
use Rattle.std.proofs.Common.{◌≡◌, ◌≢◌, ◌⊎◌, ◌==◌, inl, inr, ℕ, Bool, true, false, [], ◌∷◌, ◌++◌, append_assoc, append-nil, length, take, ◌≤◌, ◌+◌, Option, Some, None, refl, sym, ◌∙◌, ap, arith}
use Rattle.std.specs.Bool.{Decides}
use Rattle.std.specs.Str.{bytes_eq}
use Rattle.std.proofs.lemmas.Slice.Eq.{bytes_eq-Decides}
use Rattle.std.proofs.lemmas.Bool.Decides.{Decides-eqb}
use Rattle.std.proofs.lemmas.List.Elements.{All-nil, All-cons}
use Rattle.dexasm_world.specs.State.{Path, FileState, Stored, Files, place_of}
use Rattle.dexasm_world.specs.Steps.{private_mode}
use Rattle.dexasm_world.specs.inner.Steps.{Same, TouchesOnly, Made, MadeAs, Wrote, Emptied, Dressed, Kept, Moved, Removed, Begun}
use Rattle.dexasm_world.specs.inner.Possible.{CanBecome, CanMake, CanDress, CanAppend, CanKeep, CanMove, CanRemove, CanBegin, CanFail}

module _ {A : Type 0} (x y : A) where
  if_is : (r : Bool) (P : Type 0) → Decides r P → P → (if r then x else y) ≡ x
  if_is true P d p = refl
  if_is false P d p = let e = d.1 p in cc

  if_not : (r : Bool) (P : Type 0) → Decides r P → (P → ⊥) → (if r then x else y) ≡ y
  if_not true P d isnt = absurd (isnt (d.0 refl))
  if_not false P d isnt = refl

-- this stands at a place
abbrev stands_at : Path → Option ℕ → (Path → Option ℕ) → Path → Option ℕ
stands_at place o stands p = if bytes_eq p place then o else stands p

stands_here : (place : Path) (o : Option ℕ) (stands : Path → Option ℕ) → stands_at place o stands place ≡ o
stands_here place o stands = if_is o (stands place) (bytes_eq place place) (place ≡ place) (bytes_eq-Decides place place) refl

stands_away : (place : Path) (o : Option ℕ) (stands : Path → Option ℕ) (p : Path) → p ≢ place → stands_at place o stands p ≡ stands p
stands_away place o stands p away = if_not o (stands p) (bytes_eq p place) (p ≡ place) (bytes_eq-Decides p place) away

-- a file has this
abbrev file_at : ℕ → Stored → (ℕ → Stored) → ℕ → Stored
file_at n x file m = if m == n then x else file m

file_here : (n : ℕ) (x : Stored) (file : ℕ → Stored) → file_at n x file n ≡ x
file_here n x file = if_is x (file n) (n == n) (n ≡ n) (Decides-eqb n n) refl

file_away : (n : ℕ) (x : Stored) (file : ℕ → Stored) (m : ℕ) → m ≢ n → file_at n x file m ≡ file m
file_away n x file m away = if_not x (file m) (m == n) (m ≡ n) (Decides-eqb m n) away

-- a call leads there at once
resolves : (f : Files) (t : FileState) (P Q : FileState → Type 0) → P t → Q t → CanBecome f P Q
resolves f t P Q p q = (
  record { paths = f.paths; now = t; past = f.past ++ f.now ∷ []; faults = f.faults; leftovers = f.leftovers },
  record { same_paths = refl; moments = t ∷ []; goes_on = append_assoc f.past (f.now ∷ []) (t ∷ []); each = All-cons P t [] p (All-nil P); last = p; later = omega arith; no_fewer = omega arith },
  q,
)

-- a file is changed
changes : (n : ℕ) (x : Stored) (s : FileState) → TouchesOnly n s (record { stands = s.stands; file = file_at n x s.file })
changes n x s = record { names = λ p. refl; files = λ m away. file_away n x s.file m away }

-- what a new file holds
abbrev new_file : Stored
new_file = record { bytes = []; mode = private_mode; kept = false }

made_so : (place : Path) (n : ℕ) (s : FileState) → s.stands place ≡ None → ((p : Path) → s.stands p ≢ Some n)
    → Made place n s (record { stands = stands_at place (Some n) s.stands; file = file_at n new_file s.file })
made_so place n s free own = record {
  free = free;
  own = own;
  here = stands_here place (Some n) s.stands;
  names = λ p away. stands_away place (Some n) s.stands p away;
  bytes = ap (λ (x : Stored). x.bytes) (file_here n new_file s.file);
  files = λ m away. file_away n new_file s.file m away;
}

pub can_make : CanMake
can_make f is_private path n plain free own =
    let s = f.now in
    let t : FileState = record { stands = stands_at (place_of f path) (Some n) s.stands; file = file_at n new_file s.file } in
    let m : MadeAs is_private (place_of f path) n s t = record { made = made_so (place_of f path) n s free own; mode = λ is. ap (λ (x : Stored). x.mode) (file_here n new_file s.file) } in
    resolves f t (λ u. Same s u ⊎ ((k : ℕ) × (f.paths.is_plain path ≡ true) × MadeAs is_private (place_of f path) k s u)) (MadeAs is_private (place_of f path) n s) (inr (n, plain, m)) m

pub can_dress : CanDress
can_dress f n mode =
    let s = f.now in
    let x : Stored = record { bytes = (s.file n).bytes; mode = mode; kept = (s.file n).kept } in
    let t : FileState = record { stands = s.stands; file = file_at n x s.file } in
    let d : Dressed n mode s t = record { only = changes n x s; bytes = ap (λ (y : Stored). y.bytes) (file_here n x s.file); has = ap (λ (y : Stored). y.mode) (file_here n x s.file) } in
    resolves f t (λ u. Same s u ⊎ Dressed n mode s u) (Dressed n mode s) (inr d) d

pub can_put : CanAppend
can_put f n k piece within =
    let s = f.now in
    let x : Stored = record { bytes = (s.file n).bytes ++ take k piece; mode = (s.file n).mode; kept = false } in
    let t : FileState = record { stands = s.stands; file = file_at n x s.file } in
    let w : Wrote n (take k piece) s t = record { only = changes n x s; bytes = ap (λ (y : Stored). y.bytes) (file_here n x s.file); mode = ap (λ (y : Stored). y.mode) (file_here n x s.file) } in
    resolves f t (λ u. (j : ℕ) × (j ≤ length piece) × Wrote n (take j piece) s u) (Wrote n (take k piece) s) (k, within, w) w

pub can_keep : CanKeep
can_keep f n =
    let s = f.now in
    let x : Stored = record { bytes = (s.file n).bytes; mode = (s.file n).mode; kept = true } in
    let t : FileState = record { stands = s.stands; file = file_at n x s.file } in
    let bytes = ap (λ (y : Stored). y.bytes) (file_here n x s.file) in
    let mode = ap (λ (y : Stored). y.mode) (file_here n x s.file) in
    resolves f t (λ u. Wrote n [] s u) (Kept n s) (record { only = changes n x s; bytes = bytes ∙ sym (append-nil (s.file n).bytes); mode = mode })
    (record { only = changes n x s; bytes = bytes; mode = mode; kept = ap (λ (y : Stored). y.kept) (file_here n x s.file) })

pub can_move : CanMove
can_move f from to can =
    let s = f.now in
    let a = place_of f from in
    let b = place_of f to in
    let apart : b ≢ a = λ e. can.two (ap s.stands (sym e)) in
    let inner = stands_at b (s.stands a) s.stands in
    let t : FileState = record { stands = stands_at a None inner; file = s.file } in
    let m : Moved a b s t = record {
      here = stands_away a None inner b apart ∙ stands_here b (s.stands a) s.stands;
      gone = stands_here a None inner;
      names = λ p from_here to_here. stands_away a None inner p from_here ∙ stands_away b (s.stands a) s.stands p to_here;
      files = λ k. refl;
    } in
    resolves f t (λ u. Same s u ⊎ Moved a b s u) (Moved a b s) (inr m) m

pub can_remove : CanRemove
can_remove f path =
    let s = f.now in
    let a = place_of f path in
    let t : FileState = record { stands = stands_at a None s.stands; file = s.file } in
    let r : Removed a s t = record { gone = stands_here a None s.stands; names = λ p away. stands_away a None s.stands p away; files = λ k. refl } in
    resolves f t (λ u. Same s u ⊎ Removed a s u) (Removed a s) (inr r) r

begins_so : (f : Files) (path : Path) (n : ℕ) (t : FileState) → Begun (place_of f path) n f.now t
    → CanBecome f (λ u. Same f.now u ⊎ ((m : ℕ) × Begun (place_of f path) m f.now u)) (Begun (place_of f path) n f.now)
begins_so f path n t b = resolves f t (λ u. Same f.now u ⊎ ((m : ℕ) × Begun (place_of f path) m f.now u)) (Begun (place_of f path) n f.now) (inr (n, b)) b

pub can_begin : CanBegin
can_begin f path n h = elim h [
  | inl is ↦
      let s = f.now in
      let x : Stored = record { bytes = []; mode = (s.file n).mode; kept = false } in
      let e : Emptied n s (record { stands = s.stands; file = file_at n x s.file }) =
      record { only = changes n x s; bytes = ap (λ (y : Stored). y.bytes) (file_here n x s.file); mode = ap (λ (y : Stored). y.mode) (file_here n x s.file) } in
      begins_so f path n (record { stands = s.stands; file = file_at n x s.file }) (inl (is, e))
  | inr new ↦
      let s = f.now in
      begins_so f path n (record { stands = stands_at (place_of f path) (Some n) s.stands; file = file_at n (new_file) s.file })
      (inr (made_so (place_of f path) n s new.0 new.1))
]

pub can_fail : CanFail
can_fail f = (
  record { paths = f.paths; now = f.now; past = f.past; faults = f.faults + 1; leftovers = f.leftovers + 1 },
  record { same_paths = refl; moments = []; goes_on = refl; each = All-nil (Same f.now); last = record { names = λ p. refl; files = λ m. refl }; later = omega arith; no_fewer = omega arith },
  omega arith,
  omega arith,
)

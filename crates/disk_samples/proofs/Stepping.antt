-- What one change does, and one entry more.
use Rattle.std.specs.Prelude.{if◌then◌else◌}
use Rattle.std.specs.Global.{Global}
use Rattle.std.proofs.Common.{◌≡◌, ◌≢◌, ◌==◌, ℕ, Bool, true, false, List, [], ◌∷◌, ◌++◌, append-nil, length, get_or, take, ◌<◌, ◌+◌, Option, Some, None, refl, sym, ◌∙◌, ap, subst, arith}
use Rattle.std.specs.Bool.{Decides}
use Rattle.std.specs.Prelude.{Vec, is_some}
use Rattle.std.specs.Str.{bytes_eq}
use Rattle.std.specs.Borrow.{Bor}
use Rattle.std.proofs.lemmas.Slice.Eq.{bytes_eq-Decides}
use Rattle.std.proofs.lemmas.Bool.Decides.{Decides-eqb}
use Rattle.std.proofs.lemmas.List.{take_more}
use Rattle.dexasm_world.specs.State.{Path, FileState, Stored}
use Rattle.dexasm_world.specs.inner.Steps.{Same, TouchesOnly, Made, Wrote, Emptied, Dressed, Kept, Moved, Removed}
use Rattle.disk_samples.specs.Logs.{stands_at, file_at, step, after, moments_before, no_files, state_of, faults_in, fault_count, leftovers_in, leftover_count, HoldsAt}
use Rattle.disk_samples.specs.declared.change.Change.TheVariants.{Make, Link, Write, Empty, Dress, Keep, Move, Remove}
use Rattle.disk_samples.specs.declared.change.Entry.{Entry}

module _ {A : Type 0} (x y : A) where
  if_is : (r : Bool) (P : Type 0) → Decides r P → P → (if r then x else y) ≡ x
  if_is true P d p = refl
  if_is false P d p = let e = d.1 p in cc

  if_not : (r : Bool) (P : Type 0) → Decides r P → (P → ⊥) → (if r then x else y) ≡ y
  if_not true P d isnt = absurd (isnt (d.0 refl))
  if_not false P d isnt = refl

pub stands_here : (place : Path) (o : Option ℕ) (stands : Path → Option ℕ) → stands_at place o stands place ≡ o
stands_here place o stands = if_is o (stands place) (bytes_eq place place) (place ≡ place) (bytes_eq-Decides place place) refl

pub stands_away : (place : Path) (o : Option ℕ) (stands : Path → Option ℕ) (p : Path) → p ≢ place → stands_at place o stands p ≡ stands p
stands_away place o stands p away = if_not o (stands p) (bytes_eq p place) (p ≡ place) (bytes_eq-Decides p place) away

pub file_here : (n : ℕ) (x : Stored) (file : ℕ → Stored) → file_at n x file n ≡ x
file_here n x file = if_is x (file n) (n == n) (n ≡ n) (Decides-eqb n n) refl

pub file_away : (n : ℕ) (x : Stored) (file : ℕ → Stored) (m : ℕ) → m ≢ n → file_at n x file m ≡ file m
file_away n x file m away = if_not x (file m) (m == n) (m ≡ n) (Decides-eqb m n) away

-- one entry more

after_more : (s : FileState) (es : List Entry) (e : Entry) → after s (es ++ e ∷ []) ≡ step e.change (after s es)
after_more s [] e = refl
after_more s (d ∷ es) e = after_more (step d.change s) es e

pub before_more : (s : FileState) (es : List Entry) (e : Entry) → moments_before s (es ++ e ∷ []) ≡ moments_before s es ++ after s es ∷ []
before_more s [] e = refl
before_more s (d ∷ es) e = ap (λ l. s ∷ l) (before_more (step d.change s) es e)

pub state_more : (es : List Entry) (e : Entry) → state_of (es ++ e ∷ []) ≡ step e.change (state_of es)
state_more es e = after_more no_files es e

pub faults_more : (es : List Entry) (e : Entry) → faults_in (es ++ e ∷ []) ≡ faults_in es + fault_count e.outcome
faults_more [] e = omega arith
faults_more (d ∷ es) e = omega (arith, faults_more es e)

pub leftovers_more : (es : List Entry) (e : Entry) → leftovers_in (es ++ e ∷ []) ≡ leftovers_in es + leftover_count e.outcome
leftovers_more [] e = omega arith
leftovers_more (d ∷ es) e = omega (arith, leftovers_more es e)

-- an entry that was read is the next one
pub state_at : (log : List Entry) (i : ℕ) (e : Entry) → i < length log → e ≡ get_or log i e → state_of (take (i + 1) log) ≡ step e.change (state_of (take i log))
state_at log i e within is =
    ap state_of (take_more log i e within) ∙ state_more (take i log) (get_or log i e) ∙ ap (λ (x : Entry). step x.change (state_of (take i log))) (sym is)

-- each change is what the calls say

pub unchanged : (s : FileState) → Same s s
unchanged s = record { names = λ p. refl; files = λ m. refl }

changes : (n : ℕ) (x : Stored) (s : FileState) → TouchesOnly n s (record { stands = s.stands; file = file_at n x s.file })
changes n x s = record { names = λ p. refl; files = λ m away. file_away n x s.file m away }

pub made_so : (at : Bor Path) (n : ℕ) (bytes : Vec ℕ Global) (mode : ℕ) (s : FileState) → bytes.items ≡ [] → s.stands at.now ≡ None → ((p : Path) → s.stands p ≢ Some n)
    → Made at.now n s (step (Make at n bytes mode) s)
made_so at n bytes mode s empty free own = record {
  free = free;
  own = own;
  here = stands_here at.now (Some n) s.stands;
  names = λ p away. stands_away at.now (Some n) s.stands p away;
  bytes = ap (λ (x : Stored). x.bytes) (file_here n (record { bytes = bytes.items; mode = mode; kept = false }) s.file) ∙ empty;
  files = λ m away. file_away n (record { bytes = bytes.items; mode = mode; kept = false }) s.file m away;
}

pub wrote_so : (n : ℕ) (piece : Vec ℕ Global) (s : FileState) → Wrote n piece.items s (step (Write n piece) s)
wrote_so n piece s =
    let x : Stored = record { bytes = (s.file n).bytes ++ piece.items; mode = (s.file n).mode; kept = false } in
    record { only = changes n x s; bytes = ap (λ (y : Stored). y.bytes) (file_here n x s.file); mode = ap (λ (y : Stored). y.mode) (file_here n x s.file) }

pub wrote_nothing : (n : ℕ) (s : FileState) → Wrote n [] s s
wrote_nothing n s = record { only = record { names = λ p. refl; files = λ m e. refl }; bytes = sym (append-nil (s.file n).bytes); mode = refl }

pub emptied_so : (n : ℕ) (s : FileState) → Emptied n s (step (Empty n) s)
emptied_so n s =
    let x : Stored = record { bytes = []; mode = (s.file n).mode; kept = false } in
    record { only = changes n x s; bytes = ap (λ (y : Stored). y.bytes) (file_here n x s.file); mode = ap (λ (y : Stored). y.mode) (file_here n x s.file) }

pub dressed_so : (n mode : ℕ) (s : FileState) → Dressed n mode s (step (Dress n mode) s)
dressed_so n mode s =
    let x : Stored = record { bytes = (s.file n).bytes; mode = mode; kept = (s.file n).kept } in
    record { only = changes n x s; bytes = ap (λ (y : Stored). y.bytes) (file_here n x s.file); has = ap (λ (y : Stored). y.mode) (file_here n x s.file) }

pub kept_so : (n : ℕ) (s : FileState) → Kept n s (step (Keep n) s)
kept_so n s =
    let x : Stored = record { bytes = (s.file n).bytes; mode = (s.file n).mode; kept = true } in
    record {
      only = changes n x s;
      bytes = ap (λ (y : Stored). y.bytes) (file_here n x s.file);
      mode = ap (λ (y : Stored). y.mode) (file_here n x s.file);
      kept = ap (λ (y : Stored). y.kept) (file_here n x s.file);
    }

-- what is kept has no bytes more
pub kept_wrote : (n : ℕ) (s t : FileState) → Kept n s t → Wrote n [] s t
kept_wrote n s t k = record { only = k.only; bytes = k.bytes ∙ sym (append-nil (s.file n).bytes); mode = k.mode }

pub moved_so : (from to : Bor Path) (n : ℕ) (s : FileState) → s.stands from.now ≡ Some n → to.now ≢ from.now → Moved from.now to.now s (step (Move from to n) s)
moved_so from to n s there apart =
    let inner = stands_at to.now (Some n) s.stands in
    record {
      here = stands_away from.now None inner to.now apart ∙ stands_here to.now (Some n) s.stands ∙ sym there;
      gone = stands_here from.now None inner;
      names = λ p from_here to_here. stands_away from.now None inner p from_here ∙ stands_away to.now (Some n) s.stands p to_here;
      files = λ k. refl;
    }

pub removed_so : (at : Bor Path) (s : FileState) → Removed at.now s (step (Remove at) s)
removed_so at s = record { gone = stands_here at.now None s.stands; names = λ p away. stands_away at.now None s.stands p away; files = λ k. refl }

pub linked_so : (place : Bor Path) (other name : Path) (n : ℕ) (s : FileState) → place.now ≡ other → s.stands name ≡ Some n → (step (Link place n) s).stands other ≡ s.stands name
linked_so place other name n s is there = subst (λ p. stands_at place.now (Some n) s.stands p ≡ s.stands name) is (stands_here place.now (Some n) s.stands ∙ sym there)

pub stored_so : (place : Bor Path) (name : Path) (n : ℕ) (held : Vec ℕ Global) (bytes : List ℕ) (mode : ℕ) (s : FileState) → place.now ≡ name → held.items ≡ bytes
    → HoldsAt (step (Make place n held mode) s) name bytes mode
stored_so place name n held bytes mode s is whole =
    let x : Stored = record { bytes = held.items; mode = mode; kept = false } in
    record {
      number = n;
      here = subst (λ p. stands_at place.now (Some n) s.stands p ≡ Some n) is (stands_here place.now (Some n) s.stands);
      held = ap (λ (y : Stored). y.bytes) (file_here n x s.file) ∙ whole;
      has = ap (λ (y : Stored). y.mode) (file_here n x s.file);
    }

-- what was looked up in a log
pub seen : (log slice : List Entry) (path : Path) (r o : Option ℕ) → slice ≡ log → r ≡ (state_of slice).stands path → r ≡ o → (state_of log).stands path ≡ o
seen log slice path r o is got was = ap (λ l. (state_of l).stands path) (sym is) ∙ sym got ∙ was

-- nothing is there
pub none_there : (r : Option ℕ) (b : Bool) → b ≡ is_some r → b ≡ false → r ≡ None
none_there None b is isnt = refl
none_there (Some n) b is isnt = let e : true ≡ false = sym is ∙ isnt in cc

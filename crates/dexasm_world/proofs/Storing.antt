-- What is written to a file of one's own.
use Rattle.std.proofs.Common.{◌≡◌, ◌⊎◌, inl, inr, ℕ, List, [], Option, Some, None, subst, sym, ◌∙◌, ap}
use Rattle.std.specs.Option.{IfSome}
use Rattle.dexasm_world.specs.State.{FileState, Stored, Files, Passes}
use Rattle.dexasm_world.specs.inner.Steps.{Same, TouchesOnly, Wrote, Dressed}
use Rattle.dexasm_world.specs.inner.Parts.{IsStill, Fills}
use Rattle.dexasm_world.specs.declared.world.Dress.{Dress}
use Rattle.dexasm_world.proofs.Passing.{weaker, goes_on}
use Rattle.dexasm_world.proofs.Stepping.{IsFront, touches_then}

touches_from_same : (n : ℕ) (s t : FileState) → Same s t → TouchesOnly n s t
touches_from_same n s t same = record { names = same.names; files = λ m other. same.files m }

-- it is as it was, or has its mode
fills_by : (n : ℕ) (dress : Option Dress) (d : Dress) (s t : FileState) → dress ≡ Some d → TouchesOnly n s t → IsStill n s t ⊎ ((t.file n).mode ≡ d.mode) → Fills n dress s t
fills_by n dress d s t is only h = record {
  only = only;
  narrow = subst (λ (o : Option Dress). IfSome o (λ e. IsStill n s t ⊎ ((t.file n).mode ≡ e.mode))) (sym is) h;
}

-- it is to have no mode of its own
fills_undressed : (n : ℕ) (dress : Option Dress) (s t : FileState) → dress ≡ None → TouchesOnly n s t → Fills n dress s t
fills_undressed n dress s t is only = record {
  only = only;
  narrow = subst (λ (o : Option Dress). IfSome o (λ e. IsStill n s t ⊎ ((t.file n).mode ≡ e.mode))) (sym is) tt;
}

-- it is dressed
pub dressing : (f b : Files) (n : ℕ) (dress : Option Dress) (d : Dress) → dress ≡ Some d → Passes f b (λ t. Same f.now t ⊎ Dressed n d.mode f.now t) → Passes f b (Fills n dress f.now)
dressing f b n dress d is p = weaker f b (λ t. Same f.now t ⊎ Dressed n d.mode f.now t) (Fills n dress f.now)
    (λ t m. elim m [
      | inl same ↦ fills_by n dress d f.now t is (touches_from_same n f.now t same) (inl (ap (λ (x : Stored). x.bytes) (same.files n), ap (λ (x : Stored). x.mode) (same.files n)))
      | inr dressed ↦ fills_by n dress d f.now t is dressed.only (inr dressed.has)
    ]) p

-- then written to
pub stored_at : (f b c : Files) (n : ℕ) (dress : Option Dress) (d : Dress) (bytes : List ℕ) → dress ≡ Some d → Passes f b (Fills n dress f.now) → (b.now.file n).mode ≡ d.mode
    → Passes b c (IsFront b n bytes) → Passes f c (Fills n dress f.now)
stored_at f b c n dress d bytes is p has q = goes_on f b c (Fills n dress f.now) (IsFront b n bytes) p q
    (λ t front. fills_by n dress d f.now t is (touches_then n f.now b.now t p.last.only front.2.only) (inr (front.2.mode ∙ has)))

pub stored_at_once : (f c : Files) (n : ℕ) (dress : Option Dress) (bytes : List ℕ) → dress ≡ None → Passes f c (IsFront f n bytes) → Passes f c (Fills n dress f.now)
stored_at_once f c n dress bytes is q = weaker f c (IsFront f n bytes) (Fills n dress f.now) (λ t front. fills_undressed n dress f.now t is front.2.only) q

-- and kept
pub stored_and_kept : (f b c : Files) (n m : ℕ) (dress : Option Dress) (d : Dress) → dress ≡ Some d → Passes f b (Fills n dress f.now) → (b.now.file n).mode ≡ d.mode → m ≡ n
    → Passes b c (Wrote m [] b.now) → Passes f c (Fills n dress f.now)
stored_and_kept f b c n m dress d is p has same q =
    let q' = subst (λ k. Passes b c (Wrote k [] b.now)) same q in
    goes_on f b c (Fills n dress f.now) (Wrote n [] b.now) p q'
    (λ t kept. fills_by n dress d f.now t is (touches_then n f.now b.now t p.last.only kept.only) (inr (kept.mode ∙ has)))

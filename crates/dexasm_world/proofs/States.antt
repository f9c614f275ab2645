-- What is touched since a moment.
use Rattle.std.proofs.Common.{◌≡◌, ◌≢◌, ◌⊎◌, inl, inr, ℕ, None, Some, sym, ◌∙◌, ap}
use Rattle.dexasm_world.specs.State.{Path, FileState}
use Rattle.dexasm_world.specs.inner.Steps.{Same, TouchesOnly, Begun}
use Rattle.dexasm_world.specs.inner.Parts.{Overwrites}

-- two moments with the same names and files are one
pub same_state : (s t : FileState) → Same s t → t ≡ s
same_state s t h = λ i. record { stands = λ p. h.names p i; file = λ m. h.files m i }

-- the file at a place, or a new one there, is all that is touched
pub record TouchesPlace (place : Path) (n : ℕ) (s t : FileState) : Type 0 where
  pub own : (s.stands place ≡ Some n) ⊎ ((s.stands place ≡ None) × ((p : Path) → s.stands p ≢ Some n))
  pub here : t.stands place ≡ Some n
  pub names : (p : Path) → p ≢ place → t.stands p ≡ s.stands p
  pub files : (m : ℕ) → m ≢ n → t.file m ≡ s.file m

pub begins : (place : Path) (n : ℕ) (s t : FileState) → Begun place n s t → TouchesPlace place n s t
begins place n s t begun = elim begun [
  | inl e ↦ record { own = inl e.0; here = e.1.only.names place ∙ e.0; names = λ p away. e.1.only.names p; files = e.1.only.files }
  | inr m ↦ record { own = inr (m.free, m.own); here = m.here; names = m.names; files = m.files }
]

pub touches_on : (place : Path) (n : ℕ) (s t u : FileState) → TouchesPlace place n s t → TouchesOnly n t u → TouchesPlace place n s u
touches_on place n s t u a b = record {
  own = a.own;
  here = b.names place ∙ a.here;
  names = λ p away. b.names p ∙ a.names p away;
  files = λ m other. b.files m other ∙ a.files m other;
}

pub overwrites : (place : Path) (n : ℕ) (s t : FileState) → TouchesPlace place n s t → Overwrites place s t
overwrites place n s t a = record {
  names = a.names;
  files = λ m there other. a.files m (λ e. elim a.own [ inl is ↦ other (is ∙ ap Some (sym e)) | inr new ↦ new.1 there.0 (there.1 ∙ ap Some e) ]);
  stays = λ m is. elim a.own [ inl was ↦ a.here ∙ sym was ∙ is | inr new ↦ let e = sym new.0 ∙ is in cc ];
}

pub nothing_overwritten : (place : Path) (s t : FileState) → Same s t → Overwrites place s t
nothing_overwritten place s t same = record { names = λ p away. same.names p; files = λ n there other. same.files n; stays = λ n is. same.names place ∙ is }

-- Calls, one after another.
use Rattle.std.proofs.Common.{Bool, true, ◌≡◌, ◌⊎◌, refl, sym, ◌∙◌, ap, subst, [], ◌∷◌, ◌++◌, append_assoc, arith}
use Rattle.std.proofs.lemmas.List.Elements.{All-nil, All-append, All-weaker}
use Rattle.dexasm_world.specs.State.{Path, Paths, Files, Passes, FileState, place_of}
use Rattle.dexasm_world.specs.inner.Steps.{Same, Removed}

-- nothing was called
pub stays : (f : Files) (P : FileState → Type 0) → P f.now → Passes f f P
stays f P p = record { same_paths = refl; moments = []; goes_on = refl; each = All-nil P; last = p; later = omega arith; no_fewer = omega arith }

pub then : (a b c : Files) (P : FileState → Type 0) → Passes a b P → Passes b c P → Passes a c P
then a b c P p q = record {
  same_paths = q.same_paths ∙ p.same_paths;
  moments = p.moments ++ q.moments;
  goes_on = q.goes_on ∙ sym (append_assoc b.past (b.now ∷ []) q.moments) ∙ ap (λ l. l ++ q.moments) p.goes_on ∙ append_assoc a.past (a.now ∷ p.moments) q.moments;
  each = All-append P p.moments q.moments p.each q.each;
  last = q.last;
  later = omega (arith, p.later, q.later);
  no_fewer = omega (arith, p.no_fewer, q.no_fewer);
}

pub weaker : (a b : Files) (P Q : FileState → Type 0) → ((t : FileState) → P t → Q t) → Passes a b P → Passes a b Q
weaker a b P Q f p = record {
  same_paths = p.same_paths;
  moments = p.moments;
  goes_on = p.goes_on;
  each = All-weaker P Q f p.moments p.each;
  last = f b.now p.last;
  later = p.later;
  no_fewer = p.no_fewer;
}

-- a further call, whose moments have P since its start had it
pub goes_on : (a b c : Files) (P Q : FileState → Type 0) → Passes a b P → Passes b c Q → ((t : FileState) → Q t → P t) → Passes a c P
goes_on a b c P Q p q f = then a b c P p (weaker b c Q P f q)

-- a path leads on to the same place, and is a link or not as before
pub resolves_on : (a b : Files) (P : FileState → Type 0) (path : Path) → Passes a b P → place_of b path ≡ place_of a path
resolves_on a b P path p = ap (λ (x : Paths). x.place path) p.same_paths

pub plain_on : (a b : Files) (P : FileState → Type 0) (path : Path) (v : Bool) → Passes a b P → a.paths.is_plain path ≡ v → b.paths.is_plain path ≡ v
plain_on a b P path v p h = ap (λ (x : Paths). x.is_plain path) p.same_paths ∙ h

-- a name is taken away, of a path that leads where it led
pub removed_on : (f b c : Files) (P : FileState → Type 0) (part : Path) → Passes f b P → f.paths.is_plain part ≡ true
    → (b.paths.is_plain part ≡ true → Passes b c (λ t. Same b.now t ⊎ Removed (place_of b part) b.now t)) → Passes b c (λ t. Same b.now t ⊎ Removed (place_of f part) b.now t)
removed_on f b c P part p plain q = subst (λ (x : Path). Passes b c (λ t. Same b.now t ⊎ Removed x b.now t)) (resolves_on f b P part p) (q (plain_on f b P part true p plain))

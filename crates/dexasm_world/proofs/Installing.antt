-- The file beside OUT takes its place.
use Rattle.std.specs.Prelude.{⊤}
use Rattle.std.proofs.Common.{◌≡◌, ◌≢◌, ◌⊎◌, inl, inr, ℕ, List, Some, true, subst, refl, sym, ◌∙◌}
use Rattle.dexasm_world.specs.State.{Path, Paths, FileState, Files, IsThere, Passes, place_of}
use Rattle.dexasm_world.specs.inner.Steps.{Same, Moved, Removed}
use Rattle.dexasm_world.specs.inner.FileKinds.{CanReplace}
use Rattle.dexasm_world.specs.Safe.{KeepsFile, IsWholeAt, IsNarrow}
use Rattle.dexasm_world.specs.inner.Parts.{HasPartFile, HasFullPart, Brings, HasBrought}
use Rattle.dexasm_world.proofs.Passing.{weaker, goes_on, removed_on}
use Rattle.dexasm_world.proofs.States.{same_state}
use Rattle.dexasm_world.proofs.Copying.{answer_carries, part_at_first, narrow_part, narrow_gone}

-- OUT is whole, and no file but the part is touched
pub record IsFine (part out : Path) (answer : List ℕ) (s t : FileState) : Type 0 where
  pub names : (p : Path) → p ≢ part → p ≢ out → t.stands p ≡ s.stands p
  pub files : (n : ℕ) → IsThere s n → s.stands part ≢ Some n → t.file n ≡ s.file n
  pub old : KeepsFile out s t
  pub whole : IsWholeAt out answer s t
  pub narrow : IsNarrow out part s t

pub fine_brings : (part out : Path) (answer : List ℕ) (D : Type 0) (s t : FileState) → IsFine part out answer s t → Brings part out answer D s t
fine_brings part out answer D s t h = record { names = h.names; files = λ n there apart other. h.files n there apart; safe = inl h.whole; whole = λ d. h.whole; old = λ d. h.old; narrow = h.narrow }

-- the part can take OUT's place
pub can_replace : (f : Files) (part path : Path) (n : ℕ) → HasPartFile f part path n → CanReplace f part path
can_replace f part path n h = record {
  from_plain = h.part_plain;
  to_plain = h.path_plain;
  two = λ e. h.two (sym (h.only (place_of f path) (sym e ∙ h.here)));
}

pub replacing : (f b : Files) (part path : Path) (answer : List ℕ) → HasFullPart f part path answer
    → (CanReplace f part path → Passes f b (λ t. Same f.now t ⊎ Moved (place_of f part) (place_of f path) f.now t))
    → Passes f b (IsFine (place_of f part) (place_of f path) answer f.now)
replacing f b part path answer h p =
    let beside = place_of f part in
    let out = place_of f path in
    weaker f b (λ t. Same f.now t ⊎ Moved beside out f.now t) (IsFine beside out answer f.now)
    (λ t m. elim m [
      | inl same ↦ record {
        names = λ p away elsewhere. same.names p;
        files = λ n there apart. same.files n;
        old = λ n is. same.files n;
        whole = inl (record { name = same.names out; file = λ n is. same.files n });
        narrow = narrow_part f part path answer t h (same.names beside) (same.files h.number);
      }
      | inr moved ↦ record {
        names = moved.names;
        files = λ n there apart. moved.files n;
        old = λ n is. moved.files n;
        whole = inr (answer_carries out answer f.now beside out f.now t (part_at_first f part path answer h) moved.here (moved.files h.number));
        narrow = narrow_gone beside out f.now t moved.gone;
      }
    ])
    (p (can_replace f part path h.number h.stands))

-- the part is taken away
fine_when_removed : (part out : Path) (answer : List ℕ) (s t u : FileState) → out ≢ part → IsFine part out answer s t → Removed part t u → IsFine part out answer s u
fine_when_removed part out answer s t u two h gone = record {
  names = λ p away elsewhere. gone.names p away ∙ h.names p away elsewhere;
  files = λ n there apart. gone.files n ∙ h.files n there apart;
  old = λ n is. gone.files n ∙ h.old n is;
  whole = elim h.whole [
    | inl before ↦ inl (record { name = gone.names out two ∙ before.name; file = λ n is. gone.files n ∙ before.file n is })
    | inr a ↦ inr (answer_carries out answer s out out t u a (gone.names out two) (gone.files a.number))
  ];
  narrow = narrow_gone part out s u gone.gone;
}

pub brings : (f b : Files) (part out : Path) (answer : List ℕ) (D : Type 0) → Passes f b (IsFine part out answer f.now) → Passes f b (Brings part out answer D f.now)
brings f b part out answer D p = weaker f b (IsFine part out answer f.now) (Brings part out answer D f.now) (λ t h. fine_brings part out answer D f.now t h) p

pub removing : (f b c : Files) (part out : Path) (answer : List ℕ) (D : Type 0) → out ≢ place_of f part → f.paths.is_plain part ≡ true → Passes f b (IsFine (place_of f part) out answer f.now)
    → (b.paths.is_plain part ≡ true → Passes b c (λ t. Same b.now t ⊎ Removed (place_of b part) b.now t)) → Passes f c (Brings (place_of f part) out answer D f.now)
removing f b c part out answer D two plain p q =
    let beside = place_of f part in
    let fine = IsFine beside out answer f.now in
    brings f c beside out answer D (goes_on f b c fine (λ t. Same b.now t ⊎ Removed beside b.now t) p (removed_on f b c fine part p plain q)
    (λ t m. elim m [
      | inl same ↦ subst fine (sym (same_state b.now t same)) p.last
      | inr gone ↦ fine_when_removed beside out answer f.now b.now t two p.last gone
    ]))

-- where nothing was changed the part stands as it stood
pub carry_file : (f b : Files) (part path : Path) (n : ℕ) → b.paths ≡ f.paths → b.now ≡ f.now → HasPartFile f part path n → HasPartFile b part path n
carry_file f b part path n p now h =
    let e : f ≡ record f { paths = b.paths; now = b.now } = λ i. record f { paths = sym p i; now = sym now i } in
    let s = subst (λ (x : Files). HasPartFile x part path n) e h in
    record { part_plain = s.part_plain; path_plain = s.path_plain; two = s.two; here = s.here; only = s.only }

pub carry_part : (f b : Files) (part path : Path) (answer : List ℕ) → b.paths ≡ f.paths → b.now ≡ f.now → HasFullPart f part path answer → HasFullPart b part path answer
carry_part f b part path answer p now h =
    let g : Files = record f { paths = b.paths; now = b.now } in
    let e : f ≡ g = λ i. record f { paths = sym p i; now = sym now i } in
    let full = subst (λ (x : Files). HasFullPart x part path answer) e h in
    record { number = full.number; stands = carry_file g b part path full.number refl refl full.stands; bytes = full.bytes; mode = full.mode; kept = full.kept }

-- what is brought otherwise where it can't be brought in one step
pub otherwise : (f b c : Files) (part path : Path) (answer : List ℕ) (D : Type 0) → (D → ⊥) → b.now ≡ f.now → Passes f b (IsFine (place_of f part) (place_of f path) answer f.now)
    → Passes b c (Brings (place_of b part) (place_of b path) answer ⊥ b.now) → Passes f c (Brings (place_of f part) (place_of f path) answer D f.now)
otherwise f b c part path answer D never same p q =
    let beside = place_of f part in
    let out = place_of f path in
    let q₁ = subst (λ (x : Paths). Passes b c (Brings (x.place part) (x.place path) answer ⊥ b.now)) p.same_paths q in
    let q₂ = subst (λ (s : FileState). Passes b c (Brings beside out answer ⊥ s)) same q₁ in
    goes_on f b c (Brings beside out answer D f.now) (Brings beside out answer ⊥ f.now) (brings f b beside out answer D p) q₂
    (λ t h. record { names = h.names; files = h.files; safe = h.safe; whole = λ d. absurd (never d); old = λ d. absurd (never d); narrow = h.narrow })

pub brought_otherwise : (f b : Files) (part path : Path) (answer : List ℕ) (D : Type 0) (t : FileState) → (D → ⊥) → b.now ≡ f.now → b.paths ≡ f.paths
    → HasBrought (place_of b part) (place_of b path) answer ⊥ ⊤ b.now t → HasBrought (place_of f part) (place_of f path) answer D ⊥ f.now t
brought_otherwise f b part path answer D t never same p h =
    let h₁ = subst (λ (x : Paths). HasBrought (x.place part) (x.place path) answer ⊥ ⊤ b.now t) p h in
    let h₂ = subst (λ (s : FileState). HasBrought (place_of f part) (place_of f path) answer ⊥ ⊤ s t) same h₁ in
    record { has = h₂.has; gone = λ d. absurd (never d); stays = λ none. absurd none }

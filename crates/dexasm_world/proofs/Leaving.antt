-- What is left beside OUT.
use Rattle.std.specs.Prelude.{Result, OnOk, OnErr}
use Rattle.std.proofs.Common.{false, true, ◌≡◌, ◌≢◌, ◌⊎◌, ◌<◌, ◌≤◌, inl, inr, ℕ, List, None, Ok, Err, arith, subst, sym, ◌∙◌, ap}
use Rattle.dexasm_world.specs.State.{Path, Paths, FileState, Files, Passes, place_of}
use Rattle.dexasm_world.specs.inner.Steps.{Same, Removed}
use Rattle.dexasm_world.specs.Safe.{IsPartPlace, HasAnswer, CanGive, IsTidy, StandsBeside, Leaves}
use Rattle.dexasm_world.specs.inner.FileKinds.{IsLinkTarget}
use Rattle.dexasm_world.specs.inner.Parts.{Brings, IsGone, LeavesPart}
use Rattle.dexasm_world.specs.declared.world.Refusal.{Refusal}
use Rattle.dexasm_world.proofs.Passing.{resolves_on, plain_on}
use Rattle.dexasm_world.proofs.Bringing.{brings_since, carry_answer}
use Rattle.dexasm_world.proofs.Choosing.{IsNewBeside, same_place_or_not}
use Rattle.dexasm_world.proofs.Leading.{give_at_target, one_target, part_beside}

-- a name was to be taken away
pub gone_since : {T : Type 0} (f b d : Files) (P : FileState → Type 0) (part : Path) (r : Result T Refusal) → Passes f b P → f.paths.is_plain part ≡ true
    → (b.paths.is_plain part ≡ true → OnOk r (Removed (place_of b part) b.now d.now)) → OnErr r (b.leftovers < d.leftovers) → IsGone (place_of f part) f d
gone_since f b d P part (Ok x) p plain done left = inl (sym (ap d.now.stands (resolves_on f b P part p)) ∙ (done (plain_on f b P part true p plain)).gone)
gone_since f b d P part (Err e) p plain done left = inr (omega (arith, p.no_fewer, left))

gone_from : (f b d : Files) (part : Path) → b.paths ≡ f.paths → f.leftovers ≤ b.leftovers → IsGone (place_of b part) b d → IsGone (place_of f part) f d
gone_from f b d part p so_far gone = elim gone [ inl none ↦ inl (sym (ap (λ (x : Paths). d.now.stands (x.place part)) p) ∙ none) | inr more ↦ inr (omega (arith, so_far, more)) ]

-- what is left since a moment is left since the one before
pub leaves_since : {T : Type 0} (f b d : Files) (part path : Path) (answer : List ℕ) (D E : Type 0) (r : Result T Refusal) → b.paths ≡ f.paths → f.leftovers ≤ b.leftovers
    → (HasAnswer (place_of f path) answer b.now (place_of f part) d.now → HasAnswer (place_of f path) answer f.now (place_of f part) d.now) → ((D → ⊥) → (E → ⊥))
    → LeavesPart (place_of b part) (place_of b path) answer D b d r → LeavesPart (place_of f part) (place_of f path) answer E f d r
leaves_since f b d part path answer D E (Ok x) p so_far carry to h = gone_from f b d part p so_far h
leaves_since f b d part path answer D E (Err e) p so_far carry to h = elim h [
  | inl gone ↦ inl (gone_from f b d part p so_far gone)
  | inr full ↦ inr (carry (subst (λ (x : Paths). HasAnswer (x.place path) answer b.now (x.place part) d.now) p full.0), to full.1)
]

-- nothing but OUT was touched, or a call failed that may have left something
pub leaves_tidy : {T : Type 0} (f c : Files) (out : Path) (answer : List ℕ) (r : Result T Refusal) → IsTidy f out c → Leaves f out answer c r
leaves_tidy f c out answer (Ok x) tidy = tidy
leaves_tidy f c out answer (Err e) tidy = inl tidy

-- a file wasn't made
pub tidy_unmade : (f a b : Files) (out : Path) → a.now ≡ f.now → f.leftovers ≤ a.leftovers → Same a.now b.now ⊎ (a.leftovers < b.leftovers) → IsTidy f out b
tidy_unmade f a b out same so_far h = elim h [
  | inl is ↦ inl (λ p away. is.names p ∙ ap (λ (s : FileState). s.stands p) same)
  | inr more ↦ inr (omega (arith, so_far, more))
]

-- what was brought by way of a new file
tidy_after : (f c : Files) (path place : Path) → f.now.stands place ≡ None → ((p : Path) → p ≢ place → p ≢ place_of f path → c.now.stands p ≡ f.now.stands p) → IsGone place f c → IsTidy f path c
tidy_after f c path place free names gone = elim gone [
  | inl none ↦ inl (λ p away. elim (same_place_or_not p place) [
    | inl e ↦ ap c.now.stands e ∙ none ∙ sym free ∙ ap f.now.stands (sym e)
    | inr other ↦ names p other away
  ])
  | inr more ↦ inr more
]

leaves_after : {T : Type 0} (f c : Files) (path place : Path) (answer : List ℕ) (D : Type 0) (r : Result T Refusal) → IsPartPlace f path place
    → ((p : Path) → p ≢ place → p ≢ place_of f path → c.now.stands p ≡ f.now.stands p) → (CanGive f path → D) → LeavesPart place (place_of f path) answer D f c r → Leaves f path answer c r
leaves_after f c path place answer D (Ok x) part names give h = tidy_after f c path place part.free names h
leaves_after f c path place answer D (Err e) part names give h = elim h [
  | inl gone ↦ inl (tidy_after f c path place part.free names gone)
  | inr full ↦ inr (record { place = place; part = part; has = full.0; fixed = λ can. full.1 (give can); clean = λ p away other. names p other away })
]

pub leaves_brought : {T : Type 0} (f b c : Files) (path part : Path) (n : ℕ) (answer : List ℕ) (D : Type 0) (r : Result T Refusal) → b.paths ≡ f.paths → f.leftovers ≤ b.leftovers
    → IsNewBeside f path part n b.now → (CanGive f path → D) → Passes b c (Brings (place_of b part) (place_of b path) answer D b.now)
    → LeavesPart (place_of b part) (place_of b path) answer D b c r → Leaves f path answer c r
leaves_brought f b c path part n answer D r p so_far new give q h =
    let place = place_of f part in
    let l = (brings_since f b c part path answer D D p new.two new.differs (λ x. x) q).last in
    leaves_after f c path place answer D r new.place (λ p other away. l.names p other away) give
    (leaves_since f b c part path answer D D r p so_far (λ a. carry_answer place (place_of f path) answer place f.now b.now c.now new.two new.differs a) (λ x. x) h)

-- what is left beside a link's target is left beside what the link leads to
tidy_at_link : (f c : Files) (out target : Path) → IsLinkTarget f out target → IsTidy f target c → IsTidy f out c
tidy_at_link f c out target is h = elim h [ inl clean ↦ inl (λ p away. clean p (λ e. away (e ∙ is.same))) | inr more ↦ inr more ]

beside_at_link : (f : Files) (out target : Path) (answer : List ℕ) (t : FileState) → f.paths.is_plain out ≡ false → IsLinkTarget f out target → StandsBeside f target answer t → StandsBeside f out answer t
beside_at_link f out target answer t link is h = record {
  place = h.place;
  part = part_beside f out target h.place (one_target f out target link is) h.part;
  has = subst (λ (x : Path). HasAnswer x answer f.now h.place t) is.same h.has;
  fixed = λ give. h.fixed (give_at_target f out target link is give);
  clean = λ p away other. h.clean p (λ e. away (e ∙ is.same)) other;
}

pub leaves_at_link : {T : Type 0} (f c : Files) (out target : Path) (answer : List ℕ) (r : Result T Refusal) → f.paths.is_plain out ≡ false → IsLinkTarget f out target → Leaves f target answer c r → Leaves f out answer c r
leaves_at_link f c out target answer (Ok x) link is h = tidy_at_link f c out target is h
leaves_at_link f c out target answer (Err e) link is h = elim h [
  | inl tidy ↦ inl (tidy_at_link f c out target is tidy)
  | inr beside ↦ inr (beside_at_link f out target answer c.now link is beside)
]

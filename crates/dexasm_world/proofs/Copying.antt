-- An answer that stands beside OUT is written over it.
use Rattle.std.proofs.Common.{◌≡◌, ◌≢◌, ◌⊎◌, inl, inr, ℕ, List, Some, None, true, subst, refl, sym, ◌∙◌, ap}
use Rattle.dexasm_world.specs.State.{Path, FileState, Stored, Files, Passes, place_of}
use Rattle.dexasm_world.specs.inner.Steps.{Same, Removed}
use Rattle.dexasm_world.specs.Safe.{HasAnswer, IsNarrow}
use Rattle.dexasm_world.specs.inner.Parts.{Overwrites, HoldsBytes, HasPartFile, HasFullPart, Brings}
use Rattle.dexasm_world.proofs.Passing.{weaker, goes_on, removed_on}
use Rattle.dexasm_world.proofs.States.{same_state}

-- the part isn't OUT's file
pub part_is_other : (f : Files) (part path : Path) (n : ℕ) → HasPartFile f part path n → f.now.stands (place_of f path) ≢ Some n
part_is_other f part path n h e = h.two (sym (h.only (place_of f path) e))

-- an answer is the same as long as its name and its file are
pub answer_carries : (out : Path) (answer : List ℕ) (r : FileState) (from to : Path) (s t : FileState) (a : HasAnswer out answer r from s) → t.stands to ≡ s.stands from → t.file a.number ≡ s.file a.number
    → HasAnswer out answer r to t
answer_carries out answer r from to s t a name file = record {
  number = a.number;
  here = name ∙ a.here;
  bytes = ap (λ (x : Stored). x.bytes) file ∙ a.bytes;
  mode = λ n is. ap (λ (x : Stored). x.mode) file ∙ a.mode n is;
  kept = λ is. ap (λ (x : Stored). x.kept) file ∙ a.kept is;
}

-- the whole answer stands beside OUT
abbrev pub part_at_first : (f : Files) (part path : Path) (answer : List ℕ) → HasFullPart f part path answer → HasAnswer (place_of f path) answer f.now (place_of f part) f.now
part_at_first f part path answer h = record { number = h.number; here = h.stands.here; bytes = h.bytes; mode = h.mode; kept = h.kept }

-- a full part has OUT's mode
pub narrow_part : (f : Files) (part path : Path) (answer : List ℕ) (t : FileState) (h : HasFullPart f part path answer) → t.stands (place_of f part) ≡ f.now.stands (place_of f part)
    → t.file h.number ≡ f.now.file h.number → IsNarrow (place_of f path) (place_of f part) f.now t
narrow_part f part path answer t h name file k m there is =
    let one : Some h.number ≡ Some k = sym (name ∙ h.stands.here) ∙ there in
    let same : h.number ≡ k = cc in
    inr (subst (λ (n : ℕ). (t.file n).mode ≡ (f.now.file m).mode) same (ap (λ (x : Stored). x.mode) file ∙ h.mode m is))

pub narrow_gone : (part out : Path) (s t : FileState) → t.stands part ≡ None → IsNarrow out part s t
narrow_gone part out s t gone k m there is = absurd (let e : None ≡ Some k = sym gone ∙ there in cc)

-- the answer still stands there while OUT is written
pub answer_beside : (f : Files) (part path : Path) (answer : List ℕ) (t : FileState) → HasFullPart f part path answer → Overwrites (place_of f path) f.now t
    → HasAnswer (place_of f path) answer f.now (place_of f part) t
answer_beside f part path answer t h o =
    answer_carries (place_of f path) answer f.now (place_of f part) (place_of f part) f.now t (part_at_first f part path answer h) (o.names (place_of f part) h.stands.two)
    (o.files h.number (place_of f part, h.stands.here) (part_is_other f part path h.number h.stands))

pub copying : (f b : Files) (part path : Path) (answer : List ℕ) → HasFullPart f part path answer → Passes f b (Overwrites (place_of f path) f.now)
    → Passes f b (Brings (place_of f part) (place_of f path) answer ⊥ f.now)
copying f b part path answer h p =
    let out = place_of f path in
    let beside = place_of f part in
    weaker f b (Overwrites out f.now) (Brings beside out answer ⊥ f.now)
    (λ t o. record {
      names = λ q away elsewhere. o.names q elsewhere;
      files = λ n there apart other. o.files n there other;
      safe = inr (answer_beside f part path answer t h o);
      whole = λ never. absurd never;
      old = λ never. absurd never;
      narrow = narrow_part f part path answer t h (o.names beside h.stands.two) (o.files h.number (beside, h.stands.here) (part_is_other f part path h.number h.stands));
    })
    p

pub answer_from_holds : (out : Path) (answer : List ℕ) (s t : FileState) → HoldsBytes out answer true s t → HasAnswer out answer s out t
answer_from_holds out answer s t h = record { number = h.number; here = h.here; bytes = h.is; mode = h.mode; kept = λ is. h.kept refl }

-- and then the part is taken away
pub copied : (f b c : Files) (part path : Path) (answer : List ℕ) → HasFullPart f part path answer → Passes f b (Overwrites (place_of f path) f.now)
    → HoldsBytes (place_of f path) answer true f.now b.now → (b.paths.is_plain part ≡ true → Passes b c (λ t. Same b.now t ⊎ Removed (place_of b part) b.now t))
    → Passes f c (Brings (place_of f part) (place_of f path) answer ⊥ f.now)
copied f b c part path answer h p holds q =
    let out = place_of f path in
    let beside = place_of f part in
    let at = answer_from_holds out answer f.now b.now holds in
    goes_on f b c (Brings beside out answer ⊥ f.now) (λ t. Same b.now t ⊎ Removed beside b.now t) (copying f b part path answer h p)
    (removed_on f b c (Overwrites out f.now) part p h.stands.part_plain q)
    (λ t m. elim m [
      | inl same ↦ subst (Brings beside out answer ⊥ f.now) (sym (same_state b.now t same)) (copying f b part path answer h p).last
      | inr gone ↦ record {
        names = λ x away elsewhere. gone.names x away ∙ p.last.names x elsewhere;
        files = λ n there apart other. gone.files n ∙ p.last.files n there other;
        safe = inl (inr (answer_carries out answer f.now out out b.now t at (gone.names out (λ e. h.stands.two (sym e))) (gone.files at.number)));
        whole = λ never. absurd never;
        old = λ never. absurd never;
        narrow = narrow_gone beside out f.now t gone.gone;
      }
    ])

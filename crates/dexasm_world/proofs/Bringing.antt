-- An answer is stored beside OUT, and goes there.
use Rattle.std.proofs.Common.{◌≡◌, ◌≢◌, ◌⊎◌, inl, inr, ℕ, List, [], ◌++◌, Option, Some, None, IsSome, subst, refl, sym, ◌∙◌, ap}
use Rattle.std.specs.Option.{IfSome, IsSomeAnd}
use Rattle.dexasm_world.specs.State.{Path, Paths, FileState, Stored, Files, IsThere, Passes, place_of}
use Rattle.dexasm_world.specs.Steps.{private_mode}
use Rattle.dexasm_world.specs.inner.Steps.{TouchesOnly}
use Rattle.dexasm_world.specs.Safe.{KeepsFile, HasAnswer, IsWholeAt, IsNarrow}
use Rattle.dexasm_world.specs.inner.Parts.{IsStill, Fills, Stores, Dresses, HasPartFile, HasFullPart, Brings, HasBrought}
use Rattle.dexasm_world.specs.declared.world.Dress.{Dress}
use Rattle.dexasm_world.proofs.Passing.{weaker, then}
use Rattle.dexasm_world.proofs.Installing.{IsFine, brings, carry_part}

-- two moments that differ at one place and in the file that stands there
pub record DiffersAt (part : Path) (s t : FileState) : Type 0 where
  pub names : (p : Path) → p ≢ part → t.stands p ≡ s.stands p
  pub files : (n : ℕ) → IsThere s n → s.stands part ≢ Some n → t.file n ≡ s.file n
  -- what stands at the place stands at no other
  pub own : (p : Path) (n : ℕ) → p ≢ part → s.stands p ≡ Some n → (s.stands part ≢ Some n) × (t.stands part ≢ Some n)

pub differs_at_part : (f : Files) (part path : Path) (n : ℕ) (t : FileState) → HasPartFile f part path n → TouchesOnly n f.now t → DiffersAt (place_of f part) f.now t
differs_at_part f part path n t h only =
    let apart : (p : Path) (m : ℕ) → p ≢ place_of f part → f.now.stands p ≡ Some m → f.now.stands (place_of f part) ≢ Some m =
    λ p m away here there. away (h.only p (here ∙ sym there ∙ h.here)) in
    record {
      names = λ p away. only.names p;
      files = λ m there other. only.files m (λ e. other (h.here ∙ ap Some (sym e)));
      own = λ p m away here. (apart p m away here, λ there. apart p m away here (sym (only.names (place_of f part)) ∙ there));
    }

fine_beside : (part out : Path) (answer : List ℕ) (s t : FileState) → out ≢ part → IsNarrow out part s t → DiffersAt part s t → IsFine part out answer s t
fine_beside part out answer s t two narrow d =
    let old : KeepsFile out s t = λ n is. d.files n (out, is) (d.own out n two is).0 in
    record { names = λ p away elsewhere. d.names p away; files = d.files; old = old; whole = inl (record { name = d.names out two; file = old }); narrow = narrow }

-- it is as it was, or has the mode of the file that it is to replace
dress_narrow : (o : Option Dress) (P : Type 0) (mode m : ℕ) → IfSome o (λ d. P ⊎ (m ≡ d.mode)) → IsSomeAnd o (λ d. d.mode ≡ mode) → P ⊎ (m ≡ mode)
dress_narrow None P mode m h is = absurd is
dress_narrow (Some d) P mode m h is = elim h [ inl p ↦ inl p | inr e ↦ inr (e ∙ is) ]

-- a dress that a file has is there
pub dressed_some : (o : Option Dress) (m : ℕ) → IsSomeAnd o (λ d. d.mode ≡ m) → IsSome o
dressed_some None m h = absurd h
dressed_some (Some d) m h = refl

narrow_filled : (f : Files) (part path : Path) (n : ℕ) (dress : Option Dress) (t : FileState) → HasPartFile f part path n → (f.now.file n).bytes ≡ []
    → (IsSome dress → (f.now.file n).mode ≡ private_mode) → Dresses (place_of f path) dress f.now
    → Fills n dress f.now t → IsNarrow (place_of f path) (place_of f part) f.now t
narrow_filled f part path n dress t h empty private wears fills k m there is =
    let one : Some n ≡ Some k = sym (fills.only.names (place_of f part) ∙ h.here) ∙ there in
    let same : n ≡ k = cc in
    let narrow = dress_narrow dress (IsStill n f.now t) ((f.now.file m).mode) ((t.file n).mode) fills.narrow (wears m is) in
    let private_now = private (dressed_some dress ((f.now.file m).mode) (wears m is)) in
    subst (λ (i : ℕ). (((t.file i).bytes ≡ []) × ((t.file i).mode ≡ private_mode)) ⊎ ((t.file i).mode ≡ (f.now.file m).mode)) same
    (elim narrow [ inl still ↦ inl (still.0 ∙ empty, still.1 ∙ private_now) | inr e ↦ inr e ])

pub storing : (f b : Files) (part path : Path) (n : ℕ) (answer : List ℕ) (dress : Option Dress) → HasPartFile f part path n → (f.now.file n).bytes ≡ []
    → (IsSome dress → (f.now.file n).mode ≡ private_mode) → Dresses (place_of f path) dress f.now → Passes f b (Fills n dress f.now) → Passes f b (IsFine (place_of f part) (place_of f path) answer f.now)
storing f b part path n answer dress h empty private wears p = weaker f b (Fills n dress f.now) (IsFine (place_of f part) (place_of f path) answer f.now)
    (λ t fills. fine_beside (place_of f part) (place_of f path) answer f.now t (λ e. h.two (sym e)) (narrow_filled f part path n dress t h empty private wears fills)
    (differs_at_part f part path n t h fills.only)) p

dressed_mode : (o : Option Dress) (m k : ℕ) → IfSome o (λ d. k ≡ d.mode) → IsSomeAnd o (λ d. d.mode ≡ m) → k ≡ m
dressed_mode None m k h is = absurd is
dressed_mode (Some d) m k h is = h ∙ is

some_number : (o : Option ℕ) → IsSome o → (n : ℕ) × (o ≡ Some n)
some_number None h = absurd (let e = h in cc)
some_number (Some n) h = (n, refl)

-- the answer stands beside OUT
pub full_part : (f b : Files) (part path : Path) (n : ℕ) (answer : List ℕ) (dress : Option Dress) → b.paths ≡ f.paths → HasPartFile f part path n → (f.now.file n).bytes ≡ []
    → Dresses (place_of f path) dress f.now → Stores n answer dress f.now b.now → HasFullPart b part path answer
full_part f b part path n answer dress p h empty wears s =
    let out = s.only.names (place_of f path) in
    carry_part (record b { paths = f.paths }) b part path answer p refl (record {
      number = n;
      stands = record {
        part_plain = h.part_plain;
        path_plain = h.path_plain;
        two = h.two;
        here = s.only.names (place_of f part) ∙ h.here;
        only = λ q e. h.only q (sym (s.only.names q) ∙ e);
      };
      bytes = s.more ∙ ap (λ l. l ++ answer) empty;
      mode = λ m is.
          let was = sym out ∙ is in
          let same : b.now.file m ≡ f.now.file m = s.only.files m (λ e. h.two (sym (h.only (place_of f path) (was ∙ ap Some e)))) in
          dressed_mode dress ((f.now.file m).mode) ((b.now.file n).mode) s.mode (wears m was) ∙ sym (ap (λ (x : Stored). x.mode) same);
      kept = λ is.
          let m = some_number (f.now.stands (place_of f path)) (subst (λ (o : Option ℕ). IsSome o) out is) in
          s.kept (dressed_some dress ((f.now.file m.0).mode) (wears m.0 m.1));
    })

pub carry_answer : (part out : Path) (answer : List ℕ) (p : Path) (r s t : FileState) → out ≢ part → DiffersAt part r s → HasAnswer out answer s p t → HasAnswer out answer r p t
carry_answer part out answer p r s t two d a = record {
  number = a.number;
  here = a.here;
  bytes = a.bytes;
  mode = λ n is. a.mode n (d.names out two ∙ is) ∙ ap (λ (x : Stored). x.mode) (d.files n (out, is) (d.own out n two is).0);
  kept = λ is. a.kept (subst (λ (o : Option ℕ). IsSome o) (sym (d.names out two)) is);
}

carry_old : (part out : Path) (r s t : FileState) → out ≢ part → DiffersAt part r s → KeepsFile out s t → KeepsFile out r t
carry_old part out r s t two d k n is = k n (d.names out two ∙ is) ∙ d.files n (out, is) (d.own out n two is).0

carry_whole : (part out : Path) (answer : List ℕ) (r s t : FileState) → out ≢ part → DiffersAt part r s → IsWholeAt out answer s t → IsWholeAt out answer r t
carry_whole part out answer r s t two d w = elim w [
  | inl before ↦ inl (record { name = before.name ∙ d.names out two; file = carry_old part out r s t two d before.file })
  | inr a ↦ inr (carry_answer part out answer out r s t two d a)
]

-- what is brought since a moment that differs at the part alone is brought since the moment before
pub brings_since : (f b c : Files) (part path : Path) (answer : List ℕ) (D E : Type 0) → b.paths ≡ f.paths → place_of f path ≢ place_of f part → DiffersAt (place_of f part) f.now b.now → (E → D)
    → Passes b c (Brings (place_of b part) (place_of b path) answer D b.now) → Passes b c (Brings (place_of f part) (place_of f path) answer E f.now)
brings_since f b c part path answer D E p two d to q =
    let beside = place_of f part in
    let out = place_of f path in
    weaker b c (Brings beside out answer D b.now) (Brings beside out answer E f.now)
    (λ t h. record {
      names = λ x away elsewhere. h.names x away elsewhere ∙ d.names x away;
      files = λ n there apart other.
          let away : there.0 ≢ beside = λ e. apart (ap f.now.stands (sym e) ∙ there.1) in
          h.files n (there.0, d.names there.0 away ∙ there.1) (d.own there.0 n away there.1).1 (λ e. other (sym (d.names out two) ∙ e)) ∙ d.files n there apart;
      safe = elim h.safe [
        | inl w ↦ inl (carry_whole beside out answer f.now b.now t two d w)
        | inr a ↦ inr (carry_answer beside out answer beside f.now b.now t two d a)
      ];
      whole = λ e. carry_whole beside out answer f.now b.now t two d (h.whole (to e));
      old = λ e. carry_old beside out f.now b.now t two d (h.old (to e));
      narrow = λ k m there is. elim (h.narrow k m there (d.names out two ∙ is)) [
        | inl empty ↦ inl empty
        | inr mode ↦ inr (mode ∙ ap (λ (x : Stored). x.mode) (d.files m (out, is) (d.own out m two is).0))
      ];
    })
    (subst (λ (x : Paths). Passes b c (Brings (x.place part) (x.place path) answer D b.now)) p q)

pub brought_since : (f b : Files) (part path : Path) (answer : List ℕ) (D E P Q : Type 0) (t : FileState) → b.paths ≡ f.paths → place_of f path ≢ place_of f part → DiffersAt (place_of f part) f.now b.now
    → (E → D) → (Q → P) → HasBrought (place_of b part) (place_of b path) answer D P b.now t → HasBrought (place_of f part) (place_of f path) answer E Q f.now t
brought_since f b part path answer D E P Q t p two d to in_place h₀ =
    let h = subst (λ (x : Paths). HasBrought (x.place part) (x.place path) answer D P b.now t) p h₀ in
    record {
      has = carry_answer (place_of f part) (place_of f path) answer (place_of f path) f.now b.now t two d h.has;
      gone = λ e. h.gone (to e);
      stays = λ q n is. h.stays (in_place q) n (d.names (place_of f path) two ∙ is);
    }

-- stored, and then brought
pub brings_then : (f b c : Files) (part path : Path) (answer : List ℕ) (D E : Type 0) → place_of f path ≢ place_of f part → (E → D) → DiffersAt (place_of f part) f.now b.now
    → Passes f b (IsFine (place_of f part) (place_of f path) answer f.now) → Passes b c (Brings (place_of b part) (place_of b path) answer D b.now)
    → Passes f c (Brings (place_of f part) (place_of f path) answer E f.now)
brings_then f b c part path answer D E two to d p q =
    then f b c (Brings (place_of f part) (place_of f path) answer E f.now) (brings f b (place_of f part) (place_of f path) answer E p) (brings_since f b c part path answer D E p.same_paths two d to q)

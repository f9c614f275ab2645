-- A free name beside OUT is chosen.
use Rattle.std.specs.Prelude.{if◌then◌else◌}
use Rattle.std.proofs.Common.{arith, ◌+◌, ◌<◌, ◌≡◌, ◌≢◌, ◌⊎◌, inl, inr, ℕ, Bool, List, [], Option, Some, None, IsSome, true, false, subst, refl, sym, ◌∙◌, ap}
use Rattle.std.specs.Bool.{Decides}
use Rattle.std.specs.Str.{bytes_eq}
use Rattle.std.proofs.lemmas.Slice.Eq.{bytes_eq-Decides}
use Rattle.dexasm_world.specs.State.{Path, Paths, FileState, Stored, Files, Passes, place_of}
use Rattle.dexasm_world.specs.Steps.{private_mode}
use Rattle.dexasm_world.specs.inner.Steps.{Same, Made, MadeAs}
use Rattle.dexasm_world.specs.Safe.{part_path, name_count, target_of, IsTaken, IsNarrow, IsPartPlace, IsAsBefore, KeepsFile, IsAlone, HasSpaceBeside, CanGive, IsSafe, IsDelivered}
use Rattle.std.specs.Option.{IsSomeAnd}
use Rattle.dexasm_world.specs.declared.world.Dress.{Dress}
use Rattle.dexasm_world.specs.inner.Parts.{HasPartFile, Overwrites, HoldsBytes, Dresses, Brings, HasBrought}
use Rattle.std.proofs.lemmas.Bool.{cases_order}
use Rattle.dexasm_world.proofs.Passing.{goes_on}
use Rattle.dexasm_world.proofs.Installing.{carry_file}
use Rattle.dexasm_world.proofs.Bringing.{DiffersAt, brings_since, brought_since}

either : (r : Bool) (P : Type 0) → Decides r P → P ⊎ (P → ⊥)
either true P d = inl (d.0 refl)
either false P d = inr (λ p. let e = d.1 p in cc)

pub same_place_or_not : (p q : Path) → (p ≡ q) ⊎ (p ≢ q)
same_place_or_not p q = either (bytes_eq p q) (p ≡ q) (bytes_eq-Decides p q)

pub true_or : (b : Bool) (A : Type 0) → (b ≡ false → A) → (b ≡ true) ⊎ A
true_or true A h = inl refl
true_or false A h = inr (h refl)

-- the laws of a free name beside a path
pub record IsBeside (f : Files) (path part : Path) : Type 0 where
  pub number : ℕ
  pub low : number < name_count
  pub is : part ≡ part_path path number
  pub plain : f.paths.is_plain path ≡ true
  pub apart : f.paths.is_plain part ≡ true → place_of f part ≢ place_of f path

-- what an answer is written beside, where OUT is no link and where it is one
pub target_plain : (f : Files) (path : Path) → f.paths.is_plain path ≡ true → target_of f path ≡ path
target_plain f path plain = ap (λ (b : Bool). if b then path else place_of f path) plain

pub target_link : (f : Files) (path : Path) → f.paths.is_plain path ≡ false → target_of f path ≡ place_of f path
target_link f path link = ap (λ (b : Bool). if b then path else place_of f path) link

-- a place beside is a part of OUT's
pub a_part : (f : Files) (path part : Path) → IsBeside f path part → f.paths.is_plain part ≡ true → f.now.stands (place_of f part) ≡ None → IsPartPlace f path (place_of f part)
a_part f path part b plain free = record {
  number = b.number;
  is = ap f.paths.place (b.is ∙ ap (λ (x : Path). part_path x b.number) (sym (target_plain f path b.plain)));
  plain = ap f.paths.is_plain (sym (b.is ∙ ap (λ (x : Path). part_path x b.number) (sym (target_plain f path b.plain)))) ∙ plain;
  free = free;
}

-- where nothing but OUT has changed its name, nothing stands at a part's place
narrow_free : (f : Files) (out place : Path) (t : FileState) → IsPartPlace f out place → (place ≢ place_of f out → t.stands place ≡ f.now.stands place) → IsNarrow (place_of f out) place f.now t
narrow_free f out place t part name k m there is =
    let away : place ≢ place_of f out = λ e. (let x : None ≡ Some m = sym part.free ∙ ap f.now.stands e ∙ is in cc) in
    absurd (let x : None ≡ Some k = sym part.free ∙ sym (name away) ∙ there in cc)

-- nothing has happened yet
pub safe_at_first : (f : Files) (out : Path) (answer : List ℕ) (t : FileState) → Same f.now t → IsSafe f out answer t
safe_at_first f out answer t same =
    let old : KeepsFile (place_of f out) f.now t = λ n is. same.files n in
    let before : IsAsBefore (place_of f out) f.now t = record { name = same.names (place_of f out); file = old } in
    record { names = λ p away beside. same.names p; files = λ n there other. same.files n; never_lost = λ room. inl (inl before); whole = λ give. inl before; old = λ give. old; narrow = λ p part. narrow_free f out p t part (λ away. same.names p) }

-- a new file at a place differs there alone
pub made_differs : (place : Path) (n : ℕ) (s t : FileState) → Made place n s t → DiffersAt place s t
made_differs place n s t m = record {
  names = m.names;
  files = λ k there other. m.files k (λ e. m.own there.0 (there.1 ∙ ap Some e));
  own = λ p k away here. (λ e. let x = sym m.free ∙ e in cc, λ e. m.own p (here ∙ sym (sym m.here ∙ e)));
}

-- a new file beside, since f
pub record IsNewBeside (f : Files) (path part : Path) (n : ℕ) (t : FileState) : Type 0 where
  pub path_plain : f.paths.is_plain path ≡ true
  pub part_plain : f.paths.is_plain part ≡ true
  pub two : place_of f path ≢ place_of f part
  pub place : IsPartPlace f path (place_of f part)
  pub made : Made (place_of f part) n f.now t
  pub differs : DiffersAt (place_of f part) f.now t

pub new_beside : (f a : Files) (path part : Path) (n : ℕ) (t : FileState) → IsBeside f path part → a.now ≡ f.now → a.paths ≡ f.paths → a.paths.is_plain part ≡ true → Made (place_of a part) n a.now t
    → IsNewBeside f path part n t
new_beside f a path part n t beside same p plain m =
    let plain_now = sym (ap (λ (x : Paths). x.is_plain part) p) ∙ plain in
    let at = subst (λ (x : Paths). Made (x.place part) n a.now t) p m in
    let made = subst (λ (s : FileState). Made (place_of f part) n s t) same at in
    record {
      path_plain = beside.plain;
      part_plain = plain_now;
      two = λ e. beside.apart plain_now (sym e);
      place = a_part f path part beside plain_now made.free;
      made = made;
      differs = made_differs (place_of f part) n f.now t made;
    }

safe_beside : (f : Files) (path part : Path) (answer : List ℕ) (n : ℕ) (t : FileState) → IsNewBeside f path part n t
    → ((m : ℕ) → f.now.stands (place_of f path) ≡ Some m → (t.file n).mode ≡ private_mode) → IsSafe f path answer t
safe_beside f path part answer n t new private =
    let out = place_of f path in
    let place = place_of f part in
    let d = new.differs in
    let old : KeepsFile out f.now t = λ n is. d.files n (out, is) (d.own out n new.two is).0 in
    let before : IsAsBefore out f.now t = record { name = d.names out new.two; file = old } in
    record {
      names = λ p away beside. d.names p (λ e. beside (subst (IsPartPlace f path) (sym e) new.place));
      files = λ n there other. d.files n there (λ e. let x = sym new.made.free ∙ e in cc);
      never_lost = λ room. inl (inl before);
      whole = λ give. inl before;
      old = λ give. old;
      narrow = λ p beside. elim (same_place_or_not p place) [
        | inl e ↦ λ k m there is. inl (
            let one : Some n ≡ Some k = sym new.made.here ∙ ap t.stands (sym e) ∙ there in
            let same : n ≡ k = cc in
            subst (λ (i : ℕ). ((t.file i).bytes ≡ []) × ((t.file i).mode ≡ private_mode)) same (new.made.bytes, private m is))
        | inr other ↦ narrow_free f path p t beside (λ away. d.names p other)
      ];
    }

-- a try to make a file beside
pub trying : (f a b : Files) (path part : Path) (answer : List ℕ) (is_private : Bool) → IsBeside f path part → a.now ≡ f.now
    → ((m : ℕ) → f.now.stands (place_of f path) ≡ Some m → is_private ≡ true) → Passes f a (IsSafe f path answer)
    → Passes a b (λ t. Same a.now t ⊎ ((n : ℕ) × (a.paths.is_plain part ≡ true) × MadeAs is_private (place_of a part) n a.now t))
    → Passes f b (IsSafe f path answer)
trying f a b path part answer is_private beside same private p q =
    goes_on f a b (IsSafe f path answer) (λ t. Same a.now t ⊎ ((n : ℕ) × (a.paths.is_plain part ≡ true) × MadeAs is_private (place_of a part) n a.now t)) p q
    (λ t m. elim m [
      | inl is ↦ safe_at_first f path answer t (subst (λ (s : FileState). Same s t) same is)
      | inr made ↦ safe_beside f path part answer made.0 t (new_beside f a path part made.0 t beside same p.same_paths made.1 made.2.made) (λ m is. made.2.mode (private m is))
    ])

-- the new file beside is a part
pub has_part : (f b : Files) (path part : Path) (n : ℕ) → b.paths ≡ f.paths → IsNewBeside f path part n b.now → HasPartFile b part path n
has_part f b path part n p new = carry_file (record b { paths = f.paths }) b part path n p refl (record {
  part_plain = new.part_plain;
  path_plain = new.path_plain;
  two = λ e. new.two (sym e);
  here = new.made.here;
  only = λ x e. elim (same_place_or_not x (place_of f part)) [ inl is ↦ is | inr away ↦ absurd (new.made.own x (sym (new.made.names x away) ∙ e)) ];
})

-- what is brought by way of the new file is safe
pub bringing : (f b c : Files) (path part : Path) (n : ℕ) (answer : List ℕ) (D : Type 0) → IsNewBeside f path part n b.now → (CanGive f path → D)
    → Passes f b (IsSafe f path answer) → Passes b c (Brings (place_of b part) (place_of b path) answer D b.now)
    → Passes f c (IsSafe f path answer)
bringing f b c path part n answer D new give p q =
    let place = place_of f part in
    let out = place_of f path in
    goes_on f b c (IsSafe f path answer) (Brings place out answer D f.now) p (brings_since f b c part path answer D D p.same_paths new.two new.differs (λ x. x) q)
    (λ t h. record {
      names = λ x away other. h.names x (λ e. other (subst (IsPartPlace f path) (sym e) new.place)) away;
      files = λ k there other. h.files k there (λ e. let x = sym new.made.free ∙ e in cc) other;
      never_lost = λ room. elim h.safe [ inl w ↦ inl w | inr beside ↦ inr (place, new.place, beside) ];
      whole = λ can. h.whole (give can);
      old = λ can. h.old (give can);
      narrow = λ x part'. elim (same_place_or_not x place) [
        | inl e ↦ subst (λ (y : Path). IsNarrow out y f.now t) (sym e) h.narrow
        | inr other ↦ narrow_free f path x t part' (λ away. h.names x other away)
      ];
    })

pub delivered : (f b c : Files) (path part : Path) (n : ℕ) (answer : List ℕ) (D P : Type 0) → b.paths ≡ f.paths → IsNewBeside f path part n b.now → (CanGive f path → D)
    → P ⊎ IsAlone (place_of f path) f.now → Passes b c (Brings (place_of b part) (place_of b path) answer D b.now)
    → HasBrought (place_of b part) (place_of b path) answer D P b.now c.now → IsDelivered f path answer c.now
delivered f b c path part n answer D P paths new give alone q h₀ =
    let place = place_of f part in
    let h = brought_since f b part path answer D D P P c.now paths new.two new.differs (λ x. x) (λ x. x) h₀ in
    let l = (brings_since f b c part path answer D D paths new.two new.differs (λ x. x) q).last in
    record {
      number = h.has.number;
      here = h.has.here;
      bytes = h.has.bytes;
      mode = h.has.mode;
      kept = λ room is. h.has.kept is;
      together = λ k p is there. elim (same_place_or_not p (place_of f path)) [
        | inl e ↦ ap c.now.stands e
        | inr away ↦ elim alone [
          | inl in_place ↦
              let other : p ≢ place = λ e. let x = sym new.made.free ∙ ap f.now.stands (sym e) ∙ there in cc in
              l.names p other away ∙ there ∙ sym (h.stays in_place k is)
          | inr only ↦ absurd (away (only k p is there))
        ]
      ];
      clean = λ can p away. elim (same_place_or_not p place) [
        | inl e ↦ ap c.now.stands e ∙ h.gone (give can) ∙ sym new.made.free ∙ ap f.now.stands (sym e)
        | inr other ↦ l.names p other away
      ];
    }

-- where there is no room beside, OUT is written where it is
pub in_place : (f b c : Files) (path : Path) (answer : List ℕ) → (HasSpaceBeside f path → ⊥) → b.now ≡ f.now → Passes f b (IsSafe f path answer)
    → Passes b c (Overwrites (place_of b path) b.now) → Passes f c (IsSafe f path answer)
in_place f b c path answer none same p q =
    let q₁ = subst (λ (x : Paths). Passes b c (Overwrites (x.place path) b.now)) p.same_paths q in
    let q₂ = subst (λ (s : FileState). Passes b c (Overwrites (place_of f path) s)) same q₁ in
    goes_on f b c (IsSafe f path answer) (Overwrites (place_of f path) f.now) p q₂
    (λ t h. record {
      names = λ x away beside. h.names x away;
      files = h.files;
      never_lost = λ room. absurd (none room);
      whole = λ give. absurd (none give.room);
      old = λ give. absurd (none give.room);
      narrow = λ x part. narrow_free f path x t part (λ away. h.names x away);
    })

pub in_place_delivered : (f b : Files) (path : Path) (answer : List ℕ) (t : FileState) → (HasSpaceBeside f path → ⊥) → b.paths ≡ f.paths → b.now ≡ f.now
    → Overwrites (place_of b path) b.now t → HoldsBytes (place_of b path) answer false b.now t → IsDelivered f path answer t
in_place_delivered f b path answer t none p same o₀ h₀ =
    let place = ap (λ (y : Paths). y.place path) p in
    let h = subst (λ (s : FileState). HoldsBytes (place_of f path) answer false s t) same (subst (λ (x : Path). HoldsBytes x answer false b.now t) place h₀) in
    let o = subst (λ (s : FileState). Overwrites (place_of f path) s t) same (subst (λ (x : Path). Overwrites x b.now t) place o₀) in
    record {
      number = h.number;
      here = h.here;
      bytes = h.is;
      mode = h.mode;
      kept = λ room. absurd (none room);
      together = λ k q is there. elim (same_place_or_not q (place_of f path)) [
        | inl e ↦ ap t.stands e
        | inr away ↦ o.names q away ∙ there ∙ sym (o.stays k is)
      ];
      clean = λ give. absurd (none give.room);
    }

-- no room is where the folder takes no file beside
pub no_space : (f : Files) (path part : Path) (n : ℕ) → n < name_count → part ≡ part_path path n → f.paths.is_plain path ≡ true → ((k : ℕ) → k < n → IsTaken f (part_path path k))
    → f.paths.is_closed part ≡ true → HasSpaceBeside f path → ⊥
no_space f path part n low is plain taken closed room =
    let same = sym (target_plain f path plain) in
    let named = is ∙ ap (λ (x : Path). part_path x n) same in
    let before = λ (k : ℕ) (below : k < n). subst (λ (x : Path). IsTaken f (part_path x k)) same (taken k below) in
    let e = sym closed ∙ ap f.paths.is_closed named ∙ room.takes n low before in
    cc

-- what stands at OUT is what stood there when a file was made beside it
pub made_keeps : (f b : Files) (path part : Path) (n : ℕ) → b.paths ≡ f.paths → IsNewBeside f path part n b.now → (dress : Option Dress) → Dresses (place_of f path) dress f.now
    → Dresses (place_of b path) dress b.now
made_keeps f b path part n p new dress wears m is =
    let d = new.differs in
    let was = sym (ap (λ (x : Paths). b.now.stands (x.place path)) p ∙ d.names (place_of f path) new.two) ∙ is in
    let file = d.files m (place_of f path, was) (d.own (place_of f path) m new.two was).0 in
    subst (λ (x : Stored). IsSomeAnd dress (λ d. d.mode ≡ x.mode)) (sym file) (wears m was)

-- by the law that a file beside another stands at a place of its own
pub beside_by : (f : Files) (path part : Path) (number : ℕ) → number < name_count → part ≡ part_path path number → f.paths.is_plain path ≡ true
    → (f.paths.is_plain path ≡ true → f.paths.is_plain (part_path path number) ≡ true → place_of f (part_path path number) ≢ place_of f path) → IsBeside f path part
beside_by f path part number low is plain apart = record {
  number = number;
  low = low;
  is = is;
  plain = plain;
  apart = λ part_plain e. apart plain (ap f.paths.is_plain (sym is) ∙ part_plain) (ap f.paths.place (sym is) ∙ e);
}

-- one name more is taken
pub taken_at_first : (f a : Files) (path part : Path) (n : ℕ) → part ≡ part_path path n → a.paths ≡ f.paths → a.now ≡ f.now → IsTaken a part → IsTaken f (part_path path n)
taken_at_first f a path part n is p same taken =
    let t₁ = subst (λ (x : Paths). (x.is_plain part ≡ false) ⊎ IsSome (a.now.stands (x.place part))) p taken in
    let t₂ = subst (λ (s : FileState). (f.paths.is_plain part ≡ false) ⊎ IsSome (s.stands (place_of f part))) same t₁ in
    subst (λ (x : Path). IsTaken f x) is t₂

pub taken_more : (f : Files) (path : Path) (n : ℕ) → ((m : ℕ) → m < n → IsTaken f (part_path path m)) → IsTaken f (part_path path n)
    → (m : ℕ) → m < n + 1 → IsTaken f (part_path path m)
taken_more f path n before at m low = elim (cases_order m n) [
  | inl is ↦ subst (λ (k : ℕ). IsTaken f (part_path path k)) (sym is) at
  | inr other ↦ elim other [ inl below ↦ before m below | inr above ↦ absurd (omega (arith, low, above)) ]
]

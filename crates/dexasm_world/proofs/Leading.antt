-- What OUT stands for decides how the answer goes there.
use Rattle.std.proofs.Common.{◌<◌, ◌≡◌, ◌⊎◌, inl, inr, ℕ, List, Option, IsSome, is_some, true, false, subst, refl, sym, ◌∙◌, ap}
use Rattle.std.specs.Prelude.{Result}
use Rattle.dexasm_world.specs.State.{Path, FileState, Files, Passes, place_of}
use Rattle.dexasm_world.specs.inner.Steps.{Same}
use Rattle.dexasm_world.specs.inner.FileKinds.{IsLinkTarget, IsDangling}
use Rattle.dexasm_world.specs.Safe.{part_path, target_of, IsTaken, IsNarrow, IsPartPlace, HasAnswer, IsWholeAt, HasSpaceBeside, CanGive, IsSafe, IsDelivered}
use Rattle.dexasm_world.specs.inner.Parts.{Overwrites, HoldsBytes}
use Rattle.dexasm_world.proofs.Passing.{stays, weaker}
use Rattle.dexasm_world.specs.FileKinds.{HasCauseAt, IsBarred, NoneIsFree}
use Rattle.dexasm_world.specs.declared.world.Refusal.{Refusal}
use Rattle.dexasm_world.proofs.Failing.{caused_by}
use Rattle.dexasm_world.proofs.Choosing.{safe_at_first, in_place_delivered, target_plain, target_link}

pub same_as_it_is : (s : FileState) → Same s s
same_as_it_is s = record { names = λ p. refl; files = λ m. refl }

-- nothing was done
pub untouched : (f : Files) (out : Path) (answer : List ℕ) → Passes f f (IsSafe f out answer)
untouched f out answer = stays f (IsSafe f out answer) (safe_at_first f out answer f.now (same_as_it_is f.now))

pub no_space_at_device : (f : Files) (out : Path) → f.paths.is_device (place_of f out) ≡ true → HasSpaceBeside f out → ⊥
no_space_at_device f out device room = let e = sym device ∙ room.no_device in cc

pub no_space_nowhere : (f : Files) (out : Path) → f.paths.is_plain out ≡ false → IsDangling f out → HasSpaceBeside f out → ⊥
no_space_nowhere f out link nowhere room = elim nowhere [
  | inl none ↦ elim room.resolves [
    | inl plain ↦ let e = sym link ∙ plain in cc
    | inr some ↦ let e = sym (ap is_some none) ∙ some in cc
  ]
  | inr device ↦ no_space_at_device f out device room
]

pub over_delivered : (f : Files) (out : Path) (answer : List ℕ) (t : FileState) → (HasSpaceBeside f out → ⊥) → Overwrites (place_of f out) f.now t → HoldsBytes (place_of f out) answer false f.now t → IsDelivered f out answer t
over_delivered f out answer t none o h = in_place_delivered f f out answer t none refl refl o h

-- a link's target has room where the link has, and can be given where it can
pub one_target : (f : Files) (out target : Path) → f.paths.is_plain out ≡ false → IsLinkTarget f out target → target_of f target ≡ target_of f out
one_target f out target link t = target_plain f target t.plain ∙ t.is ∙ sym (target_link f out link)

space_at_target : (f : Files) (out target : Path) → f.paths.is_plain out ≡ false → IsLinkTarget f out target → HasSpaceBeside f out → HasSpaceBeside f target
space_at_target f out target link t room = record {
  no_device = ap f.paths.is_device t.same ∙ room.no_device;
  resolves = inl t.plain;
  takes = λ n low taken. ap (λ (x : Path). f.paths.is_closed (part_path x n)) (one_target f out target link t)
      ∙ room.takes n low (λ k before. subst (λ (x : Path). IsTaken f (part_path x k)) (one_target f out target link t) (taken k before));
}

pub give_at_target : (f : Files) (out target : Path) → f.paths.is_plain out ≡ false → IsLinkTarget f out target → CanGive f out → CanGive f target
give_at_target f out target link t give = record {
  room = space_at_target f out target link t give.room;
  free = ap f.paths.is_fixed t.same ∙ give.free;
  alone = λ n p there here. give.alone n p (sym (ap f.now.stands t.same) ∙ there) here ∙ sym t.same;
}

-- a part's place is one for each path whose answer is written beside the same
pub part_beside : (f : Files) (out target p : Path) → target_of f target ≡ target_of f out → IsPartPlace f target p → IsPartPlace f out p
part_beside f out target p one part = record {
  number = part.number;
  is = part.is ∙ ap (λ (x : Path). place_of f (part_path x part.number)) one;
  plain = ap (λ (x : Path). f.paths.is_plain (part_path x part.number)) (sym one) ∙ part.plain;
  free = part.free;
}

-- what is safe for the target is safe for the link
safe_at_link : (f : Files) (out target : Path) (answer : List ℕ) (s : FileState) → f.paths.is_plain out ≡ false → IsLinkTarget f out target → IsSafe f target answer s → IsSafe f out answer s
safe_at_link f out target answer s link t h = record {
  names = λ p away beside. h.names p (λ e. away (e ∙ t.same)) (λ part. beside (part_beside f out target p (one_target f out target link t) part));
  files = λ n there other. h.files n there (λ e. other (ap f.now.stands (sym t.same) ∙ e));
  never_lost = λ room. elim (h.never_lost (space_at_target f out target link t room)) [
    | inl w ↦ inl (subst (λ (x : Path). IsWholeAt x answer f.now s) t.same w)
    | inr b ↦ inr (b.0, part_beside f out target b.0 (one_target f out target link t) b.1, subst (λ (x : Path). HasAnswer x answer f.now b.0 s) t.same b.2)
  ];
  whole = λ give. subst (λ (x : Path). IsWholeAt x answer f.now s) t.same (h.whole (give_at_target f out target link t give));
  old = λ give n is. h.old (give_at_target f out target link t give) n (ap f.now.stands t.same ∙ is);
  narrow = λ p part. subst (λ (x : Path). IsNarrow x p f.now s) t.same (h.narrow p (part_beside f target out p (sym (one_target f out target link t)) part));
}

pub delivered_at_link : (f : Files) (out target : Path) (answer : List ℕ) (s : FileState) → f.paths.is_plain out ≡ false → IsLinkTarget f out target → IsDelivered f target answer s → IsDelivered f out answer s
delivered_at_link f out target answer s link t h = record {
  number = h.number;
  here = ap s.stands (sym t.same) ∙ h.here;
  bytes = h.bytes;
  mode = λ n is. h.mode n (ap f.now.stands t.same ∙ is);
  kept = λ room is. h.kept (space_at_target f out target link t room) (subst (λ (o : Option ℕ). IsSome o) (ap f.now.stands (sym t.same)) is);
  together = λ n p is there. h.together n p (ap f.now.stands t.same ∙ is) there ∙ ap s.stands t.same;
  clean = λ give p away. h.clean (give_at_target f out target link t give) p (λ e. away (e ∙ t.same));
}

pub through_link : (f c : Files) (out target : Path) (answer : List ℕ) → f.paths.is_plain out ≡ false → IsLinkTarget f out target → Passes f c (IsSafe f target answer) → Passes f c (IsSafe f out answer)
through_link f c out target answer link t p = weaker f c (IsSafe f target answer) (IsSafe f out answer) (λ s h. safe_at_link f out target answer s link t h) p

-- and so the cause at a link's target is one at the link
pub cause_at_link : {T : Type 0} (f g : Files) (out target : Path) (r : Result T Refusal) → f.paths.is_plain out ≡ false → IsLinkTarget f out target → HasCauseAt target f g r → HasCauseAt out f g r
cause_at_link f g out target r link t h =
    caused_by r ((f.faults < g.faults) ⊎ IsBarred f target ⊎ NoneIsFree f (target_of f target)) ((f.faults < g.faults) ⊎ IsBarred f out ⊎ NoneIsFree f (target_of f out))
    (λ c. elim c [
      | inl failed ↦ inl failed
      | inr other ↦ inr (elim other [
        | inl barred ↦ inl (barred.0, barred.1 ∙ t.same, barred.2)
        | inr none ↦ inr (subst (NoneIsFree f) (one_target f out target link t) none)
      ])
    ])
    h

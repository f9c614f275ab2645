-- What some file means breaks none of the limits 80 to 88.
use Rattle.std.proofs.Common.{◌≡◌, ℕ, ◌≤◌, ◌⊎◌, inl, inr, Bool, true, false, List, [], ◌∷◌, refl, sym, subst, arith, Option, Some, None}
use Rattle.std.specs.Prelude.{MatchBool, IfSome, ◌==◌}
use Rattle.std.specs.Option.{option_to_list}
use Rattle.std.specs.List.{AllByRecursion}
use Rattle.dex_base.specs.Fields.{AreBytes}
use Rattle.dex_base.specs.declared.fault.Fault.{Fault}
use Rattle.file_classes.specs.ClassData.{EntriesAre, MethodEntry}
use Rattle.file_classes.specs.Classes.{CodeAt, CodesAre, IsMethod, SomeCodeStands, SpellsClass}
use Rattle.code_write.specs.Fits.{BranchOutOfReach, CodeBreaksLimit, FieldOutOfReach, HandlerTooFar, MethodOutOfReach, Misaligned, StringOutOfReach, TooManyTries, TryTooLong}
use Rattle.dex_container.specs.Frame.{IsFramed}
use Rattle.dex_insn.specs.declared.opcode.IndexKind.TheVariants as kind
use Rattle.file_limits.specs.Limits as limits
use Rattle.file_limits.specs.Limits.{BodyBreaks, ClassBreaksLimit, IsLowestLimit, LimitBreaks, TooBig, TooManyProtos, TooManyTypes, method_code, codes_in, codes_of}
use Rattle.tables_names.specs.Closure.{Five, NameRanks}
use Rattle.tables_names.specs.Needed.{needed}
use Rattle.program_types.specs.Content.{Class, Code, Method, Name, Program, Units}
use Rattle.file_read.specs.Means.{Means}
use Rattle.file_read.proofs.WellLaws.{run_entry}
use Rattle.file_strip.specs.inner.AtLeast.{AreNoFurther, FitsButHandlers}
use Rattle.file_strip.proofs.RowsFrom.{holds_at_least, no_further}
use Rattle.file_strip.proofs.StandingFits.{standing-fits}
use Rattle.dex_base.proofs.ListFacts.{all_append, all_get, all_there}

-- ---- a code

-- a code that fits its fields breaks no limit but how far handlers may be
only_far : (N : ℕ → Name → Type 0) (c : Code) (n : ℕ) → FitsButHandlers N c → CodeBreaksLimit N c n → n ≡ 89
only_far N c n f (StringOutOfReach broken) = absurd (broken (f.names kind.String))
only_far N c n f (FieldOutOfReach broken) = absurd (broken (f.names kind.Field))
only_far N c n f (MethodOutOfReach broken) = absurd (broken (f.names kind.Method))
only_far N c n f (BranchOutOfReach broken) = absurd (broken f.offsets)
only_far N c n f (Misaligned broken) = absurd (broken f.even)
only_far N c n f (TryTooLong broken) = absurd (broken f.tries)
only_far N c n f (TooManyTries many) = absurd (let few = f.few in omega (arith, few, many))
only_far N c n f (HandlerTooFar short far) = refl

-- ---- the codes of a class

one_code : (P : Code → Type 0) (o : Option Code) → IfSome o P → AllByRecursion P (option_to_list o)
one_code P None h = tt
one_code P (Some c) h = (h, tt)

all_codes : (P : Code → Type 0) (ms : List Method) → AllByRecursion (λ (m : Method). IfSome m.code P) ms → AllByRecursion P (codes_in ms)
all_codes P [] h = tt
all_codes P (m ∷ ms) h = all_append P (method_code m) (codes_in ms) (one_code P m.code h.0) (all_codes P ms h.1)

module _ (b : List ℕ) (are : AreBytes b) (framed : IsFramed b) (names : Five) (low : AreNoFurther names b) where
  -- the fields of the file of these names
  abbrev Fits : Code → Type 0
  Fits = FitsButHandlers (NameRanks names)

  code_fits : (off : ℕ) (code : Option Code) → CodeAt b off code → IfSome code Fits
  code_fits off code st = by (off == 0) st
    where
      by : (t : Bool) → MatchBool t (code ≡ None) (SomeCodeStands b off code) → IfSome code Fits
      by true e = subst (λ (x : Option Code). IfSome x Fits) (sym e) tt
      by false s = subst (λ (x : Option Code). IfSome x Fits) (sym s.is) (standing-fits b are framed off s.some s.stands names low)

  methods_fit : (class : Units) (es : List MethodEntry) (ms : List Method) → EntriesAre (IsMethod b class) es ms → CodesAre b es ms → AllByRecursion Fits (codes_in ms)
  methods_fit class es ms run codes = all_codes Fits ms (all_there _ ms (λ k m at.
      let x = run_entry (IsMethod b class) es ms run k m at in
      code_fits x.0.1.1 m.code (codes k x.0 m x.1 at)))

  pub class_fits : (i : ℕ) (c : Class) → SpellsClass b i c → AllByRecursion Fits (codes_of c)
  class_fits i c s =
      all_append Fits (codes_in c.directs) (codes_in c.virtuals)
      (methods_fit c.ty s.entries.directs c.directs s.head.members.directs s.directs)
      (methods_fit c.ty s.entries.virtuals c.virtuals s.head.members.virtuals s.virtuals)

-- ---- a program

module _ (b : List ℕ) (p : Program) (are : AreBytes b) (m : Means b p) where
  class_far : (n i : ℕ) → ClassBreaksLimit (NameRanks (needed p)) n p i → n ≡ 89
  class_far n i h =
      let fits = class_fits b are m.framed (needed p) (no_further b p m) i h.class (m.classes.each i h.class h.there) in
      only_far (NameRanks (needed p)) h.body.code n (all_get (FitsButHandlers (NameRanks (needed p))) (codes_of h.class) h.body.index h.body.code fits h.body.there) h.body.breaks

  -- a limit that the program breaks
  pub only_late : (n place : ℕ) → LimitBreaks p n place → (n ≡ 89) ⊎ (n ≡ 90)
  only_late n place (TooManyTypes many) = absurd (let l = (holds_at_least b p m).types in let few = m.framed.sections.types in omega (arith, many, l, few))
  only_late n place (TooManyProtos many) = absurd (let l = (holds_at_least b p m).protos in let few = m.framed.sections.protos in omega (arith, many, l, few))
  only_late n place (BodyBreaks most first) = inl (class_far n place first.here)
  only_late n place (limits.HandlerTooFar small first) = inl refl
  only_late n place (TooBig big) = inr refl

pub meant : (b : List ℕ) (p : Program) (e : Fault) → AreBytes b → Means b p → IsLowestLimit p e → (e.code ≡ 89) ⊎ (e.code ≡ 90)
meant b p e are m l = only_late b p are m e.code e.place l.breaks

pub without_file : (p : Program) (e : Fault) → IsLowestLimit p e → e.code ≤ 88 → (b : List ℕ) → AreBytes b → Means b p → ⊥
without_file p e l low b are m = elim (meant b p e are m l) [
  | inl x ↦ omega (arith, x, low)
  | inr x ↦ omega (arith, x, low)
]

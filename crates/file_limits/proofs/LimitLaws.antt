-- The lowest limit that a program breaks.
use Rattle.std.proofs.Common.{◌≡◌, ◌≢◌, Bool, true, false, ℕ, zero, suc, ◌<◌, ◌≤◌, ⊎_elim, eqb, rules, List, [], ◌∷◌, length, refl, sym, ap, subst, arith, Option, Some, None}
use Rattle.std.proofs.lemmas.Bool.{cases_lt, eqb-true, eqb-false}
use Rattle.std.specs.Prelude.{if◌then◌else◌, IsTrue}
use Rattle.std.specs.List.{AllByRecursion, slice_get}
use Rattle.dex_base.specs.declared.fault.Fault.{Fault}
use Rattle.code_write.proofs.BreakLaws.{breaks_range, clear_fits, fits_clear}
use Rattle.code_write.specs.Fits.{FitsCode}
use Rattle.tables_names.specs.Closure.{NameRanks}
use Rattle.tables_names.specs.Needed.{needed}
use Rattle.program_types.specs.Content.{Name, Code, Program}
use Rattle.file_limits.specs.Limits.{BodyBreaks, ClassBreaksLimit, Fits, HandlerTooFar, IsFirstToBreak, IsLowestLimit, LimitBreaks, TooBig, TooManyProtos, TooManyTypes, codes_of}
use Rattle.file_limits.specs.inner.Lowest.{IsLowestOf, or_too_big}
use Rattle.file_limits.specs.Wide.{wide}
use Rattle.dex_base.proofs.ListFacts.{all_there, some_inj}

abbrev N : Program → ℕ → Name → Type 0
N p = NameRanks (needed p)

pub class_range : (p : Program) (n i : ℕ) → ClassBreaksLimit (N p) n p i → (82 ≤ n) × (n ≤ 89)
class_range p n i h = breaks_range (N p) h.body.code n h.body.breaks

at_least_80 : (p : Program) (n place : ℕ) → LimitBreaks p n place → 80 ≤ n
at_least_80 p n place (BodyBreaks most f) = let r = class_range p n place f.here in let low = r.0 in omega (arith, low)
at_least_80 p n place _ = omega arith

pub types_lowest : (p : Program) (n : ℕ) → n ≡ length (needed p).types → 65535 < n → IsLowestLimit p (record { code = 80; place = n })
types_lowest p n e many = record { breaks = subst (LimitBreaks p 80) (sym e) (TooManyTypes (omega (arith, e, many))); lowest = at_least_80 p }

at_least_81 : (p : Program) (n place : ℕ) → length (needed p).types ≤ 65535 → LimitBreaks p n place → 81 ≤ n
at_least_81 p n place few (TooManyTypes many) = absurd (omega (arith, few, many))
at_least_81 p n place few (BodyBreaks most f) = let r = class_range p n place f.here in let low = r.0 in omega (arith, low)
at_least_81 p n place few _ = omega arith

pub protos_lowest : (p : Program) (n : ℕ) → n ≡ length (needed p).protos → length (needed p).types ≤ 65535 → 65535 < n → IsLowestLimit p (record { code = 81; place = n })
protos_lowest p n e few many = record { breaks = subst (LimitBreaks p 81) (sym e) (TooManyProtos (omega (arith, e, many))); lowest = λ k place b. at_least_81 p k place few b }

-- a limit that a body breaks
body_breaks : (p : Program) (n place : ℕ) → n ≢ 89 → IsFirstToBreak (N p) n p place → LimitBreaks p n place
body_breaks p n place other f = let r = class_range p n place f.here in let high = r.1 in BodyBreaks (below n high other) f
  where
    below : (n : ℕ) → n ≤ 89 → n ≢ 89 → n ≤ 88
    below n high other = ⊎_elim (λ (lt : n < 89). omega (arith, lt)) (λ (le : 89 ≤ n). absurd (other (omega (arith, high, le)))) (cases_lt n 89)

-- no lower limit stands than that of the bodies, where types and protos are few
module _ (p : Program) (few_types : length (needed p).types ≤ 65535) (few_protos : length (needed p).protos ≤ 65535) where
  least_class : (f : Fault) → IsLowestOf (N p) p (Some f) → (m i : ℕ) → ClassBreaksLimit (N p) m p i → f.code ≤ m
  least_class f x m i h = let q = x.least m i h in let e = ap (λ (z : Fault). z.code) (some_inj f q.0 q.1) in let g = q.2 in omega (arith, e, g)

  -- where the file is too big
  big_least : (best : Option Fault) → IsLowestOf (N p) p best → 4294967295 < wide p → (n place : ℕ) → LimitBreaks p n place → (or_too_big best).code ≤ n
  big_least best x big n place (TooManyTypes many) = absurd (omega (arith, few_types, many))
  big_least best x big n place (TooManyProtos many) = absurd (omega (arith, few_protos, many))
  big_least best x big n place (HandlerTooFar small f) = absurd (omega (arith, big, small))
  big_least None x big n place (TooBig over) = omega arith
  big_least (Some f) x big n place (TooBig over) =
      elim (eqb f.code 89) as (λ (t : Bool). (if t then record { code = 90; place = 0 } else f).code ≤ n) [
        | true ↦ omega arith
        | false ↦ (let r = class_range p f.code f.place x.some.here in let high = r.1 in omega (arith, high))
      ]
  big_least None x big n place (BodyBreaks most f) = absurd (cc (x.least n place f.here).1)
  big_least (Some g) x big n place (BodyBreaks most f) =
      elim (eqb g.code 89) as (λ (t : Bool). eqb g.code 89 ≡ t → (if t then record { code = 90; place = 0 } else g).code ≤ n) [
        | true ↦ λ e. (let c = eqb-true g.code 89 e in let l = least_class g x n place f.here in absurd (omega (arith, c, l, most)))
        | false ↦ λ e. least_class g x n place f.here
      ] refl

  pub big_lowest : (best : Option Fault) (f : Fault) → f ≡ or_too_big best → IsLowestOf (N p) p best → 4294967295 < wide p → IsLowestLimit p f
  big_lowest best f e x big = subst (IsLowestLimit p) (sym e) (record { breaks = stands best x; lowest = big_least best x big })
    where
      stands : (best : Option Fault) → IsLowestOf (N p) p best → LimitBreaks p (or_too_big best).code (or_too_big best).place
      stands None x = TooBig big
      stands (Some g) x = elim (eqb g.code 89) as (λ (t : Bool). eqb g.code 89 ≡ t → LimitBreaks p (if t then record { code = 90; place = 0 } else g).code (if t then record { code = 90; place = 0 } else g).place) [
        | true ↦ λ e. TooBig big
        | false ↦ λ e. body_breaks p g.code g.place (eqb-false g.code 89 e) x.some
      ] refl

  -- where it isn't
  small_least : (f : Fault) → IsLowestOf (N p) p (Some f) → wide p ≤ 4294967295 → (n place : ℕ) → LimitBreaks p n place → f.code ≤ n
  small_least f x small n place (TooManyTypes many) = absurd (omega (arith, few_types, many))
  small_least f x small n place (TooManyProtos many) = absurd (omega (arith, few_protos, many))
  small_least f x small n place (TooBig big) = absurd (omega (arith, small, big))
  small_least f x small n place (HandlerTooFar most g) = least_class f x 89 place g.here
  small_least f x small n place (BodyBreaks most g) = least_class f x n place g.here

  pub small_lowest : (f : Fault) → IsLowestOf (N p) p (Some f) → wide p ≤ 4294967295 → IsLowestLimit p f
  small_lowest f x small = record {
    breaks = elim (eqb f.code 89) as (λ (t : Bool). eqb f.code 89 ≡ t → LimitBreaks p f.code f.place) [
      | true ↦ λ e. (let c = eqb-true f.code 89 e in subst (λ (k : ℕ). LimitBreaks p k f.place) (sym c) (HandlerTooFar small (subst (λ (k : ℕ). IsFirstToBreak (N p) k p f.place) c x.some)))
      | false ↦ λ e. body_breaks p f.code f.place (eqb-false f.code 89 e) x.some
    ] refl;
    lowest = small_least f x small;
  }

-- ---- a program that fits

code_there : (p : Program) (cs : List Code) (i : ℕ) (c : Code) → AllByRecursion (FitsCode (N p)) cs → slice_get cs i ≡ Some c → FitsCode (N p) c
code_there p [] i c h e = absurd (cc e)
code_there p (x ∷ cs) zero c h e = let s : x ≡ c = cc in subst (FitsCode (N p)) s h.0
code_there p (x ∷ cs) (suc i) c h e = code_there p cs i c h.1 e

no_class_breaks : (p : Program) → Fits p → (n i : ℕ) → ¬ ClassBreaksLimit (N p) n p i
no_class_breaks p f n i h = fits_clear (N p) h.body.code n (code_there p (codes_of h.class) h.body.index h.body.code (f.bodies i h.class h.there) h.body.there) h.body.breaks

pub fits_breaks_none : (p : Program) → Fits p → (n place : ℕ) → ¬ LimitBreaks p n place
fits_breaks_none p f n place (TooManyTypes many) = let few = f.few_types in omega (arith, few, many)
fits_breaks_none p f n place (TooManyProtos many) = let few = f.few_protos in omega (arith, few, many)
fits_breaks_none p f n place (TooBig big) = let small = f.small in omega (arith, small, big)
fits_breaks_none p f n place (HandlerTooFar small g) = no_class_breaks p f 89 place g.here
fits_breaks_none p f n place (BodyBreaks most g) = no_class_breaks p f n place g.here

-- ---- a program that breaks no limit

-- none of the numbers below k has it, where none is the first that has it
none_below : (P : ℕ → Type 0) → ((i : ℕ) → P i → ((j : ℕ) → P j → i ≤ j) → ⊥) → (k i : ℕ) → i < k → ¬ P i
none_below P f zero i lt h = absurd (omega (arith, lt))
none_below P f (suc k) i lt h = f i h (λ j g. ⊎_elim (λ (less : j < i). absurd (none_below P f k j (omega (arith, less, lt)) g)) (λ (le : i ≤ j). le) (cases_lt j i))

-- what isn't above a number is at most that
at_most : (n m : ℕ) → (¬ (m < n)) → n ≤ m
at_most n m not = ⊎_elim (λ (lt : m < n). absurd (not lt)) (λ (le : n ≤ m). le) (cases_lt m n)

module _ (p : Program) (clear : (n place : ℕ) → ¬ LimitBreaks p n place) where
  not_big : wide p ≤ 4294967295
  not_big = at_most (wide p) 4294967295 (λ big. clear 90 0 (TooBig big))

  not_first : (n i : ℕ) → ¬ IsFirstToBreak (N p) n p i
  not_first n i f = elim (eqb n 89) as (λ (t : Bool). eqb n 89 ≡ t → ⊥) [
    | true ↦ λ e. clear 89 i (HandlerTooFar not_big (subst (λ (k : ℕ). IsFirstToBreak (N p) k p i) (eqb-true n 89 e) f))
    | false ↦ λ e. clear n i (body_breaks p n i (eqb-false n 89 e) f)
  ] refl

  not_class : (n i : ℕ) → ¬ ClassBreaksLimit (N p) n p i
  not_class n i = none_below (ClassBreaksLimit (N p) n p) (λ j h first. not_first n j (record { here = h; first = first })) (suc i) i (omega arith)

  pub none_broken_fits : Fits p
  none_broken_fits = record {
    few_types = at_most (length (needed p).types) 65535 (λ many. clear 80 (length (needed p).types) (TooManyTypes many));
    few_protos = at_most (length (needed p).protos) 65535 (λ many. clear 81 (length (needed p).protos) (TooManyProtos many));
    bodies = λ i c at. all_there (FitsCode (N p)) (codes_of c) (λ k code there.
        clear_fits (N p) code (λ n breaks. not_class n i (record { class = c; there = at; body = record { index = k; code = code; there = there; breaks = breaks } })));
    small = not_big;
  }

-- what a test says that is false
pub small_of : (b : Bool) (n : ℕ) → b ≡ false → (4294967295 < n → IsTrue b) → n ≤ 4294967295
small_of b n e f = ⊎_elim (λ (lt : 4294967295 < n). absurd (never (subst IsTrue e (f lt)))) (λ (le : n ≤ 4294967295). le) (cases_lt 4294967295 n)
  where
    never : IsTrue false → ⊥
    never h = search rules

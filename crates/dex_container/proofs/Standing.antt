-- What stands at a place of a section.
use Rattle.std.proofs.Common.{◌≡◌, ℕ, ◌-◌, ◌%◌, ◌<◌, ◌≤◌, List, length, take, drop, sym, subst, ◌∙◌, arith, length-take}
use Rattle.std.proofs.lemmas.List.{take-take, take-append-drop}
use Rattle.dex_base.specs.Grammar.{Begins, NoneBegins, IsPrefixUnique}
use Rattle.dex_container.specs.Frame.{IsFramed, IsSection}
use Rattle.dex_container.proofs.Framed.{IsSection-one}
use Rattle.dex_container.specs.declared.section.Section.{Section}
use Rattle.dex_container.specs.Where.{slice, At, IsInSection, IsSectionOf}

module _ {V : Type 0} (G : List ℕ → V → Type 0) (b : List ℕ) (kind align : ℕ) (s : Section) (place : ℕ) where
  -- a front of what the section has from `place` on
  pub at_front : (v : V) (n : ℕ) → IsSectionOf b kind s → s.begin ≤ place → place < s.end → place % align ≡ 0
      → Begins G (take (s.end - place) (drop place b)) v n → At G b kind align place v
  unfolding slice
  at_front v n is low high even f =
      let i : n ≤ s.end - place = let k = f.inside in let l = length-take (s.end - place) (drop place b) in omega (arith, k, l) in
      record {
        begin = s.begin;
        end = s.end;
        section = is.some (omega arith);
        after = low;
        aligned = even;
        size = n;
        within = omega (arith, i, high);
        spelled = subst (λ (x : List ℕ). G x v) (take-take n (s.end - place) (drop place b) i) f.spelled;
      }

  -- and nothing else stands there
  pub at_none : (v : V) → IsSectionOf b kind s → NoneBegins G (take (s.end - place) (drop place b)) → At G b kind align place v → ⊥
  unfolding slice
  at_none v is none a =
      let one = is.only a.begin a.end a.section in
      let e = one.1 in
      let w = a.within in
      let i : a.size ≤ s.end - place = omega (arith, e, w) in
      let rest = take (s.end - place) (drop place b) in
      none (take a.size rest) (drop a.size rest) v (sym (take-append-drop a.size rest))
      (subst (λ (x : List ℕ). G x v) (sym (take-take a.size (s.end - place) (drop place b) i)) a.spelled)

-- where something that has bytes stands, its first byte lies in the section
pub at_place : {V : Type 0} (G : List ℕ → V → Type 0) (b : List ℕ) (kind align place : ℕ) (v : V) (a : At G b kind align place v) → 0 < a.size → IsInSection b kind place
at_place G b kind align place v a some =
    let w = a.within in
    record { begin = a.begin; end = a.end; section = a.section; after = a.after; before = omega (arith, w, some) }

-- what stands at a place is one value
pub At-one : {V : Type 0} (G : List ℕ → V → Type 0) → IsPrefixUnique G → (b : List ℕ) → IsFramed b → (kind align place : ℕ) (v w : V)
    → At G b kind align place v → At G b kind align place w → v ≡ w
unfolding slice
At-one G unique b framed kind align place v w x y =
    (unique (take x.size (drop place b)) (take y.size (drop place b)) (drop x.size (drop place b)) (drop y.size (drop place b)) v w x.spelled y.spelled
    (take-append-drop x.size (drop place b) ∙ sym (take-append-drop y.size (drop place b)))).1

pub placed_low : (b : List ℕ) (kind : ℕ) (s : Section) (place : ℕ) → IsSectionOf b kind s → IsInSection b kind place → s.begin ≤ place
placed_low b kind s place is p = let e = (is.only p.begin p.end p.section).0 in let l = p.after in omega (arith, e, l)

pub placed_high : (b : List ℕ) (kind : ℕ) (s : Section) (place : ℕ) → IsSectionOf b kind s → IsInSection b kind place → place < s.end
placed_high b kind s place is p = let e = (is.only p.begin p.end p.section).1 in let h = p.before in omega (arith, e, h)

-- a section that the map names, and one that it doesn't
pub section_some : (b : List ℕ) (kind : ℕ) (s : Section) → IsFramed b → IsSection b kind s.begin s.end → (s.begin < s.end) × (s.end ≤ length b) → IsSectionOf b kind s
section_some b kind s framed is within = record {
  ordered = omega (arith, within.0);
  within = within.1;
  some = λ _. is;
  only = λ begin end other. IsSection-one b framed kind begin end s.begin s.end other is;
}

-- the same over the bytes in hand
module _ {V : Type 0} (G : List ℕ → V → Type 0) (b rest : List ℕ) (kind align : ℕ) (s : Section) (place : ℕ) (is : IsSectionOf b kind s) (same : rest ≡ take (s.end - place) (drop place b)) where
  pub stands_at : (v : V) (n : ℕ) → s.begin ≤ place → place < s.end → place % align ≡ 0 → Begins G rest v n → At G b kind align place v
  stands_at v n low high even f = at_front G b kind align s place v n is low high even (subst (λ (x : List ℕ). Begins G x v n) same f)

  pub stands_not : (v : V) → NoneBegins G rest → At G b kind align place v → ⊥
  stands_not v none = at_none G b kind align s place v is (subst (λ (x : List ℕ). NoneBegins G x) same none)

pub mod_one : (n : ℕ) → n % 1 ≡ 0
mod_one n = omega arith

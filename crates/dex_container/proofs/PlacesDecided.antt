-- Whether something stands at a place of a file is decided.
use Rattle.std.proofs.Common.{◌≡◌, ℕ, ◌-◌, ◌%◌, ◌≤◌, inl, inr, List, length, take, drop, refl, sym, ◌∙◌, subst, arith, length-take}
use Rattle.std.proofs.lemmas.List.{take-append-drop, take-take}
use Rattle.std.proofs.lemmas.Bool.{cases_eq}
use Rattle.dex_base.specs.Deciding.{Decided, DecidedFront}
use Rattle.dex_base.specs.Grammar.{Takes}
use Rattle.dex_base.proofs.Deciding.{decide_like, decide_both, decide_lt, decide_le, decide_below, front_is}
use Rattle.dex_base.proofs.TakesLaws.{Takes-length}
use Rattle.dex_container.specs.Frame.{IsFramed, IsSection, end_at}
use Rattle.dex_container.specs.Layout.{entry_count, kind_at, place_at}
use Rattle.dex_container.specs.Where.{slice, At, IsInSection}
use Rattle.dex_container.proofs.Framed.{IsSection-one}

-- the map has a section of the kind
pub record HasSection (b : List ℕ) (kind : ℕ) : Type 0 where
  pub begin : ℕ
  pub end : ℕ
  pub section : IsSection b kind begin end

pub decide_section : (b : List ℕ) (kind : ℕ) → Decided (HasSection b kind)
decide_section b kind = decide_like
    (λ x. record { begin = place_at b x.1.0; end = end_at b x.1.0; section = record { entry = x.1.0; in_map = x.1.1; of_data = x.0; named = x.1.2; begins = refl; ends = refl } })
    (λ (s : HasSection b kind). (s.section.of_data, (s.section.entry, s.section.in_map, s.section.named)))
    (decide_both (decide_le 0x1000 kind) (decide_below (λ i. kind_at b i ≡ kind) (λ i. cases_eq (kind_at b i) kind) (entry_count b)))

pub decide_in : (b : List ℕ) → IsFramed b → (kind place : ℕ) → Decided (IsInSection b kind place)
decide_in b framed kind place = elim (decide_section b kind) [
  | inl s ↦ decide_like
      (λ x. record { begin = s.begin; end = s.end; section = s.section; after = x.0; before = x.1 })
      (λ (p : IsInSection b kind place).
      let one = IsSection-one b framed kind p.begin p.end s.begin s.end p.section s.section in
      let low = p.after in let high = p.before in let begins = one.0 in let ends = one.1 in
      (omega (arith, low, begins), omega (arith, high, ends)))
      (decide_both (decide_le s.begin place) (decide_lt place s.end))
  | inr none ↦ inr (λ p. none (record { begin = p.begin; end = p.end; section = p.section }))
]

-- what the section has from the place on begins with a value, where one stands at the place
module _ {V : Type 0} (G : List ℕ → V → Type 0) (b : List ℕ) (framed : IsFramed b) (kind align place : ℕ) (s : HasSection b kind) where
  pub found_at : s.begin ≤ place → place ≤ s.end → place % align ≡ 0 → (v : V) (rest : List ℕ) → Takes G (take (s.end - place) (drop place b)) v rest → At G b kind align place v
  unfolding slice
  found_at low high even v rest t =
      let n = length t.front in
      let size = Takes-length G (take (s.end - place) (drop place b)) v rest t in
      let short = length-take (s.end - place) (drop place b) in
      let inside : n ≤ s.end - place = omega (arith, size, short) in
      let same : t.front ≡ take n (drop place b) = sym (front_is G (take (s.end - place) (drop place b)) rest v t) ∙ take-take n (s.end - place) (drop place b) inside in
      record {
        begin = s.begin;
        end = s.end;
        section = s.section;
        after = low;
        aligned = even;
        size = n;
        within = omega (arith, inside, high);
        spelled = subst (λ (x : List ℕ). G x v) same t.spelled;
      }

  pub at_front : (v : V) (a : At G b kind align place v) → Takes G (take (s.end - place) (drop place b)) v (drop a.size (take (s.end - place) (drop place b)))
  unfolding slice
  at_front v a =
      let one = (IsSection-one b framed kind a.begin a.end s.begin s.end a.section s.section).1 in
      let w = a.within in
      let inside : a.size ≤ s.end - place = omega (arith, one, w) in
      record {
        front = take a.size (take (s.end - place) (drop place b));
        whole = sym (take-append-drop a.size (take (s.end - place) (drop place b)));
        spelled = subst (λ (x : List ℕ). G x v) (sym (take-take a.size (s.end - place) (drop place b) inside)) a.spelled;
      }

  at_within : (v : V) → At G b kind align place v → (s.begin ≤ place) × ((place ≤ s.end) × (place % align ≡ 0))
  at_within v a =
      let one = IsSection-one b framed kind a.begin a.end s.begin s.end a.section s.section in
      let begins = one.0 in let ends = one.1 in let low = a.after in let high = a.within in
      (omega (arith, begins, low), (omega (arith, ends, high), a.aligned))

pub decide_at : {V : Type 0} (G : List ℕ → V → Type 0) → ((bytes : List ℕ) → DecidedFront G bytes) → (b : List ℕ) → IsFramed b → (kind align place : ℕ) → Decided ((v : V) × At G b kind align place v)
decide_at G d b framed kind align place = elim (decide_section b kind) [
  | inl s ↦ elim (decide_both (decide_le s.begin place) (decide_both (decide_le place s.end) (cases_eq (place % align) 0))) [
    | inl c ↦ elim (d (take (s.end - place) (drop place b))) [
      | inl x ↦ inl (x.0, found_at G b framed kind align place s c.0 c.1.0 c.1.1 x.0 x.1 x.2)
      | inr none ↦ inr (λ a. none a.0 _ (at_front G b framed kind align place s a.0 a.1))
    ]
    | inr nay ↦ inr (λ a. nay (at_within G b framed kind align place s a.0 a.1))
  ]
  | inr none ↦ inr (λ a. none (record { begin = a.1.begin; end = a.1.end; section = a.1.section }))
]

-- The first line with a target that is no instruction of its code.
use Rattle.std.proofs.Common.{◌≡◌, ℕ, ◌+◌, ◌&&◌, Bool, true, false, not, nat_lt, nat_le, max, inl, inr, List, [], ◌∷◌, ◌++◌, Option, Some, None, option_map, if◌then◌else◌, refl, sym, ap, ◌∙◌, arith}
use Rattle.std.specs.List.{list_all}
use Rattle.std.proofs.lemmas.Bool.{cases_lt, lt-ltb, le-ltb, lt-leb, le-leb}
use Rattle.program_types.specs.Formed.{insn_leads}
use Rattle.program_types.specs.Content.{Insn}
use Rattle.listing_lines.specs.Lines.{Line, first_line, open_class, end_class, open_code, end_code, insn_line, try_line, catch_line, catch_all_line}
use Rattle.listing_lines.specs.Places.{is_start, is_top}
use Rattle.listing_lines.specs.Needs.{Need, most_needed, insn_needs, line_needs, with_need, first_late, earliest}
use Rattle.listing_parse.specs.States.{State, at_top, at_heads, in_class, stage_of, opened, closed, begun, class_of, owner_of, with_body, code_ended, late_in, with_block, inside, add}
use Rattle.listing_parse.specs.Codes.{Numbered, unnumbered, has_targets_within}
use Rattle.listing_parse.specs.inner.Codes.{late_line}
use Rattle.listing_parse.specs.inner.Runs.{at_line, Runs}
use Rattle.dex_base.proofs.ListFacts.{by_kind}

-- What the targets of these lines need besides.
abbrev pub needs_from : List Need → List Numbered → List Need
needs_from needs [] = needs
needs_from needs ((n, l) ∷ ls) = needs_from (with_need needs n (line_needs l)) ls

pub earliest_none : (o : Option ℕ) → earliest o None ≡ o
earliest_none None = refl
earliest_none (Some n) = refl

earliest_assoc : (a b c : Option ℕ) → earliest (earliest a b) c ≡ earliest a (earliest b c)
earliest_assoc None b c = refl
earliest_assoc (Some n) b c = refl

-- ---- one target, and all

target_needs : (c to : ℕ) → nat_lt c (to + 1) ≡ not (nat_lt to c)
target_needs c to = elim (cases_lt to c) [
  | inl h ↦ rw (lt-ltb to c h) (le-ltb c (to + 1) (omega arith))
  | inr h ↦ rw (le-ltb to c h) (lt-ltb c (to + 1) (omega arith))
]

most_needs : (c : ℕ) (ts : List ℕ) → nat_lt c (most_needed ts) ≡ not (list_all (λ to. nat_lt to c) ts)
most_needs c [] = le-ltb c 0 (omega arith)
most_needs c (to ∷ ts) = elim (cases_lt to c) [
  | inl h ↦ elim (cases_lt c (most_needed ts)) [
    | inl k ↦ let e = lt-ltb c (most_needed ts) k in let f : true ≡ not (list_all (λ to. nat_lt to c) ts) = sym e ∙ most_needs c ts in rw (lt-ltb to c h) (lt-ltb c (max (to + 1) (most_needed ts)) (omega arith) ∙ f)
    | inr k ↦ let e = le-ltb c (most_needed ts) k in let f : false ≡ not (list_all (λ to. nat_lt to c) ts) = sym e ∙ most_needs c ts in rw (lt-ltb to c h) (le-ltb c (max (to + 1) (most_needed ts)) (omega arith) ∙ f)
  ]
  | inr h ↦ rw (le-ltb to c h) (lt-ltb c (max (to + 1) (most_needed ts)) (omega arith))
]

insn_lead : (c : ℕ) (i : Insn) → nat_lt c (insn_needs i) ≡ not (list_all (λ to. nat_lt to c) (insn_leads i))
insn_lead c i = most_needs c (insn_leads i)

try_lead : (c from to : ℕ) → nat_lt c (max (from + 1) to) ≡ not (nat_lt from c && nat_le to c)
try_lead c from to = elim (cases_lt from c) [
  | inl h ↦ elim (cases_lt c to) [
    | inl k ↦ rw (lt-ltb from c h, lt-leb to c k) (lt-ltb c (max (from + 1) to) (omega arith))
    | inr k ↦ rw (lt-ltb from c h, le-leb to c k) (le-ltb c (max (from + 1) to) (omega arith))
  ]
  | inr h ↦ rw (le-ltb from c h) (lt-ltb c (max (from + 1) to) (omega arith))
]

-- A line needs more than c instructions exactly if it doesn't lead into c of them.
line_lead : (c : ℕ) (l : Line) → nat_lt c (line_needs l) ≡ not (has_targets_within c l)
line_lead c (insn_line i) = insn_lead c i
line_lead c (try_line from to) = try_lead c from to
line_lead c (catch_line d k) = target_needs c k
line_lead c (catch_all_line k) = target_needs c k
line_lead c _ = le-ltb c 0 (omega arith)

-- ---- the first

-- The line, if it is late.
abbrev if_late : ℕ → ℕ → Line → Option ℕ
if_late c n l = if has_targets_within c l then None else Some n

late_cons : (c n : ℕ) (l : Line) (ls : List Numbered) → late_line c ((n, l) ∷ ls) ≡ earliest (if_late c n l) (late_line c ls)
late_cons c n l ls = elim (by_kind (has_targets_within c l)) [
  | inl e ↦ rw e refl
  | inr e ↦ rw e refl
]

late_last : (c : ℕ) (needs : List Need) (m : Need) → first_late c (needs ++ m ∷ []) ≡ earliest (first_late c needs) (if nat_lt c m.count then Some m.line else None)
unfolding first_late
late_last c [] m = refl
late_last c (k ∷ needs) m = elim (by_kind (nat_lt c k.count)) [
  | inl e ↦ rw e refl
  | inr e ↦ rw e (late_last c needs m)
]

late_more : (c : ℕ) (needs : List Need) (n k : ℕ) → first_late c (with_need needs n k) ≡ earliest (first_late c needs) (if nat_lt c k then Some n else None)
late_more c needs n k = elim (cases_lt 0 k) [
  | inl h ↦ rw (lt-ltb 0 k h) (late_last c needs (record { line = n; count = k }))
  | inr h ↦ rw (le-ltb 0 k h, le-ltb c k (omega arith)) (sym (earliest_none (first_late c needs)))
]

if_lead : (c n : ℕ) (l : Line) → (if nat_lt c (line_needs l) then Some n else None) ≡ if_late c n l
if_lead c n l = elim (by_kind (has_targets_within c l)) [
  | inl e ↦ rw (line_lead c l, e) refl
  | inr e ↦ rw (line_lead c l, e) refl
]

pub late_is : (c : ℕ) (needs : List Need) (ls : List Numbered) → first_late c (needs_from needs ls) ≡ earliest (first_late c needs) (late_line c ls)
late_is c needs [] = sym (earliest_none (first_late c needs))
late_is c needs ((n, l) ∷ ls) =
    late_is c (with_need needs n (line_needs l)) ls
    ∙ ap (λ x. earliest x (late_line c ls)) (late_more c needs n (line_needs l) ∙ ap (earliest (first_late c needs)) (if_lead c n l))
    ∙ earliest_assoc (first_late c needs) (if_late c n l) (late_line c ls)
    ∙ ap (earliest (first_late c needs)) (sym (late_cons c n l ls))

-- ---- no line is late

pub none_late : (c : ℕ) (ls : List Numbered) → list_all (has_targets_within c) (unnumbered ls) ≡ true → late_line c ls ≡ None
none_late c [] e = refl
none_late c ((n, l) ∷ ls) e = elim (by_kind (has_targets_within c l)) [
  | inl f ↦ let g : list_all (has_targets_within c) (unnumbered ls) ≡ true = rw f at e in rw f (none_late c ls g)
  | inr f ↦ let g : false ≡ true = rw f at e in absurd cc
]

pub all_lead : (c : ℕ) (ls : List Numbered) → late_line c ls ≡ None → list_all (has_targets_within c) (unnumbered ls) ≡ true
all_lead c [] e = refl
all_lead c ((n, l) ∷ ls) e = elim (by_kind (has_targets_within c l)) [
  | inl f ↦ let g : late_line c ls ≡ None = rw f at e in rw f (all_lead c ls g)
  | inr f ↦ let g : Some n ≡ None = rw f at e in absurd cc
]

pub neither_late : (a b : Option ℕ) → earliest a b ≡ None → (a ≡ None) × (b ≡ None)
neither_late None b e = (refl, e)
neither_late (Some n) b e = absurd cc

pub mapped : {X Y : Type 0} (f : X → Y) (o : Option X) (y : Y) → option_map f o ≡ Some y → (x : X) × (f x ≡ y)
mapped f None y e = absurd cc
mapped f (Some x) y e = (x, cc)

pub chosen : (b : Bool) (s u : State) → (if b then Some s else None) ≡ Some u → s ≡ u
chosen true s u e = cc
chosen false s u e = absurd cc

late_kept : (s u : State) (l : Line) → add s l ≡ Some u → u.late ≡ None → s.late ≡ None
unfolding add
late_kept s u first_line e h = ap (λ (x : State). x.late) (chosen (is_start (stage_of s.block)) (with_block s at_top) u e) ∙ h
late_kept s u (open_class d f) e h = ap (λ (x : State). x.late) (chosen (is_top (stage_of s.block)) (with_block s (in_class (opened d f) at_heads)) u e) ∙ h
late_kept s u end_class e h = ap (λ (x : State). x.late) (mapped (λ o. record s { done = s.done ++ closed o ∷ []; block = at_top }) (class_of s.block) u e).1 ∙ h
late_kept s u (open_code r i o) e h = ap (λ (x : State). x.late) (mapped (λ m. with_block s (with_body s.block (begun m r i o))) (owner_of s.block) u e).1 ∙ h
late_kept s u end_code e h = (neither_late s.late (late_in s.block) (ap (λ (x : State). x.late) (mapped (λ b. record s { block = b; late = earliest s.late (late_in s.block) }) (code_ended s.block) u e).1 ∙ h)).0
late_kept s u l e h = ap (λ (x : State). x.late) (mapped (λ b. with_block s b) (inside s.block s.lines l) u e).1 ∙ h

pub runs_late : (s t : State) (ls : List Numbered) → Runs s ls t → t.late ≡ None → s.late ≡ None
runs_late s t [] r h = sym (ap (λ (x : State). x.late) r) ∙ h
runs_late s t ((n, l) ∷ ls) r h = late_kept (at_line s n) r.0 l r.1.added (runs_late r.0 t ls r.2 h)

-- The labels of a code mark its targets.
use Rattle.std.proofs.Common.{◌≡◌, ℕ, ◌+◌, ◌<◌, ◌≤◌, ◌^◌, ◌==◌, true, List, [], ◌∷◌, ◌++◌, length, map, take, ℤ, Option, Some, refl, ◌∙◌, arith, rules}
use Rattle.std.specs.List.{AllByRecursion, flat_map}
use Rattle.std.proofs.Math.Nat.{min-eq_left, le-max_left, le-max_right}
use Rattle.std.proofs.lemmas.Bool.{eq-eqb, or_left, or_right}
use Rattle.std.proofs.lemmas.List.Folds.{list_any-append}
use Rattle.program_types.specs.Content as content
use Rattle.program_types.specs.Formed.{insn_leads}
use Rattle.program_types.specs.Content.{Insn, Name, OfText, Code}
use Rattle.listing_slots.specs.declared.key.Key.TheVariants as key
use Rattle.listing_lines.specs.Needs.{most_needed, insn_needs}
use Rattle.listing_lines.specs.declared.form.Form.{Form}
use Rattle.listing_lines.specs.declared.form.Form.TheVariants.{One, Two}
use Rattle.listing_lines.specs.Labels.{Label, lookup, marked_by}
use Rattle.listing_print.specs.Operands.{Operand, keyword, v4, to, name_operand, label_name, pair_operands, element_operands, insn_operands}
use Rattle.listing_print.specs.Canon.{try_numbers, code_numbers, is_named}
use Rattle.listing_print.specs.inner.Reading.{FitOperands}
use Rattle.listing_laws.proofs.FormWords.{TargetIsMarked, TargetsAreMarked, first_marked}
use Rattle.listing_laws.proofs.Ahead.{labels_from, none_before, found_each}
use Rattle.dex_base.proofs.ListFacts.{all_append}

-- Each named number up to the count is marked by its label.
abbrev pub MarkAll : Form → List ℕ → List Label → ℕ → Type 0
MarkAll One ns es c = Unit {0}
MarkAll Two ns es c = (j : ℕ) → is_named ns j ≡ true → j ≤ c → j ≤ 4294967295 → marked_by (lookup (label_name j) es) ≡ j

-- These numbers are named.
abbrev pub AreNamed : List ℕ → List ℕ → Type 0
AreNamed ns js = AllByRecursion (λ j. is_named ns j ≡ true) js

number_marked : (o : Option Label) (l : Label) (j : ℕ) → o ≡ Some l → l.number ≡ j → j ≤ 4294967295 → marked_by o ≡ j
number_marked o l j e n h = rw (e, n) (min-eq_left h)

-- the labels that are printed mark them
pub labels_mark : (ns : List ℕ) (is : List Insn) (n : ℕ) → length is < 2 ^ 64 → MarkAll Two ns (labels_from ns n 0 is) (length is)
labels_mark ns is n h j y a b = let r = found_each ns is [] n 0 j (none_before 0) (omega arith) y (omega arith) (omega arith) in number_marked (lookup (label_name j) (labels_from ns n 0 is)) r.0 j r.1 r.2 b

-- ---- operands

name_marked : (es : List Label) (which : Name) → TargetsAreMarked Two es (name_operand which ∷ [])
name_marked es (OfText us) = (tt, tt)
name_marked es _ = (tt, tt)

regs_marked : (es : List Label) (rs : List ℕ) → TargetsAreMarked Two es (map v4 rs)
regs_marked es [] = tt
regs_marked es (r ∷ rs) = (tt, regs_marked es rs)

targets_marked : (ns : List ℕ) (es : List Label) (c : ℕ) (ts : List ℕ) → MarkAll Two ns es c → FitOperands (map to ts) → most_needed ts ≤ c → AreNamed ns ts → TargetsAreMarked Two es (map to ts)
targets_marked ns es c [] m f h y = tt
targets_marked ns es c (t ∷ ts) m f h y =
    let a = le-max_left (t + 1) (most_needed ts) in let b = le-max_right (t + 1) (most_needed ts) in
    (m t y.0 (omega arith) f.0.0, targets_marked ns es c ts m f.1 (omega arith) y.1)

pairs_marked : (ns : List ℕ) (es : List Label) (c : ℕ) (ks : List ℤ) (ts : List ℕ) → MarkAll Two ns es c → FitOperands (pair_operands ks ts) → most_needed ts ≤ c → AreNamed ns ts → TargetsAreMarked Two es (pair_operands ks ts)
pairs_marked ns es c [] ts m f h y = tt
pairs_marked ns es c (k ∷ ks) [] m f h y = tt
pairs_marked ns es c (k ∷ ks) (t ∷ ts) m f h y =
    let a = le-max_left (t + 1) (most_needed ts) in let b = le-max_right (t + 1) (most_needed ts) in
    (tt, (m t y.0 (omega arith) f.1.0.0, pairs_marked ns es c ks ts m f.1.1 (omega arith) y.1))

elements_marked : (es : List Label) (bs : List ℕ) → TargetsAreMarked Two es (element_operands bs)
elements_marked es [] = tt
elements_marked es (b ∷ bs) = (tt, tt)

marked_in : (ns : List ℕ) (es : List Label) (c : ℕ) (i : Insn) → MarkAll Two ns es c → FitOperands (insn_operands i) → insn_needs i ≤ c → AreNamed ns (insn_leads i) → TargetsAreMarked Two es (insn_operands i)
marked_in ns es c (content.I10t op k) m f h y = (m k y.0 (omega arith) f.0.0, tt)
marked_in ns es c (content.I20t op k) m f h y = (m k y.0 (omega arith) f.0.0, tt)
marked_in ns es c (content.I30t op k) m f h y = (m k y.0 (omega arith) f.0.0, tt)
marked_in ns es c (content.I21t op a k) m f h y = (tt, (m k y.0 (omega arith) f.1.0.0, tt))
marked_in ns es c (content.I31t op a k) m f h y = (tt, (m k y.0 (omega arith) f.1.0.0, tt))
marked_in ns es c (content.I21c op a which) m f h y = (tt, name_marked es which)
marked_in ns es c (content.I31c op a which) m f h y = (tt, name_marked es which)
marked_in ns es c (content.I22t op a b k) m f h y = (tt, (tt, (m k y.0 (omega arith) f.1.1.0.0, tt)))
marked_in ns es c (content.I22c op a b which) m f h y = (tt, (tt, name_marked es which))
marked_in ns es c (content.I35c op n regs which) m f h y = (tt, all_append (λ (o : Operand). TargetIsMarked Two es o.slot o.value) (map v4 (take n regs)) (keyword key.Close ∷ name_operand which ∷ []) (regs_marked es (take n regs)) (tt, name_marked es which))
marked_in ns es c (content.I3rc op n first which) m f h y = (tt, (tt, name_marked es which))
marked_in ns es c (content.Packed first targets) m f h y = (tt, targets_marked ns es c targets m f.1 h y)
marked_in ns es c (content.Sparse keys targets) m f h y = pairs_marked ns es c keys targets m f h y
marked_in ns es c (content.Data width bytes) m f h y = (tt, elements_marked es bytes)
marked_in ns es c _ m f h y = search rules

pub insn_marked : (form : Form) (ns : List ℕ) (es : List Label) (c : ℕ) (i : Insn) → MarkAll form ns es c → FitOperands (insn_operands i) → insn_needs i ≤ c → AreNamed ns (insn_leads i) → TargetsAreMarked form es (insn_operands i)
insn_marked One ns es c i m f h y = first_marked es (insn_operands i)
insn_marked Two ns es c i m f h y = marked_in ns es c i m f h y

-- ---- what a code names is named

named_left : (xs ys : List ℕ) (j : ℕ) → is_named xs j ≡ true → is_named (xs ++ ys) j ≡ true
named_left xs ys j e = list_any-append (λ n. n == j) xs ys ∙ or_left (is_named xs j) (is_named ys j) e

named_right : (xs ys : List ℕ) (j : ℕ) → is_named ys j ≡ true → is_named (xs ++ ys) j ≡ true
named_right xs ys j e = list_any-append (λ n. n == j) xs ys ∙ or_right (is_named xs j) (is_named ys j) e

-- All that these numbers name, those name.
abbrev pub AreAmong : List ℕ → List ℕ → Type 0
AreAmong xs ns = (j : ℕ) → is_named xs j ≡ true → is_named ns j ≡ true

pub each_named : (xs ns : List ℕ) → AreAmong xs ns → AreNamed ns xs
each_named [] ns h = tt
each_named (x ∷ xs) ns h = (h x (or_left (x == x) (is_named xs x) (eq-eqb x x refl)), each_named xs ns (λ j e. h j (or_right (x == j) (is_named xs j) e)))

-- Of all these, each names what is named.
pub all_named : {X : Type 0} (f : X → List ℕ) (xs : List X) (ns : List ℕ) → AreAmong (flat_map f xs) ns → AllByRecursion (λ x. AreNamed ns (f x)) xs
all_named {X} f [] ns h = tt
all_named {X} f (x ∷ xs) ns h = (each_named (f x) ns (λ j e. h j (named_left (f x) (flat_map f xs) j e)), all_named f xs ns (λ j e. h j (named_right (f x) (flat_map f xs) j e)))

pub insns_among : (c : Code) → AreAmong (flat_map insn_leads c.insns) (code_numbers c)
insns_among c j e = named_left (flat_map insn_leads c.insns) (flat_map try_numbers c.tries) j e

pub tries_among : (c : Code) → AreAmong (flat_map try_numbers c.tries) (code_numbers c)
tries_among c j e = named_right (flat_map insn_leads c.insns) (flat_map try_numbers c.tries) j e

-- What stands before the members of a class, as the reader adds it.
use Rattle.std.proofs.Common.{◌≡◌, ◌≢◌, ℕ, Bool, true, false, inl, inr, List, [], ◌∷◌, ◌++◌, Option, Some, None, option_map, refl, sym, ap, subst, ◌∙◌, append_assoc}
use Rattle.std.specs.List.{AllByRecursion, flat_map, list_all}
use Rattle.std.proofs.lemmas.List.{append-nil}
use Rattle.std.proofs.lemmas.Bool.{cases_eq, eq-eqb, ne_eqb}
use Rattle.program_types.specs.Content.{Units, Descriptor, Class}
use Rattle.listing_lines.specs.Lines.{Line, super_line, implements_line, source_line}
use Rattle.listing_slots.specs.Keys.{same}
use Rattle.listing_parse.specs.States.{Open, ClassPart, at_heads, at_members, at_top, in_class, State, is_among, with_superclass, with_interface, with_source, with_block, class_line, inside, add}
use Rattle.listing_parse.specs.Codes.{Numbered, unnumbered}
use Rattle.listing_parse.specs.Classes.{is_head, superclass_in, interface_in, source_in, at_most_one, NoneTwice}
use Rattle.listing_parse.specs.inner.Runs.{at_line, Runs}
use Rattle.listing_parse.proofs.HeldLaws.{first_false, second_false}
use Rattle.listing_parse.proofs.Numbering.{Front, more_front, Behind, goes, starts, none_read, within, class_open}

-- ---- types that are the same

pub same_true : (xs ys : List ℕ) → xs ≡ ys → same xs ys ≡ true
unfolding same
same_true [] [] e = refl
same_true [] (y ∷ ys) e = absurd cc
same_true (x ∷ xs) [] e = absurd cc
same_true (x ∷ xs) (y ∷ ys) e = let h : x ≡ y = cc in let t : xs ≡ ys = cc in rw (eq-eqb x y h) (same_true xs ys t)

same_false : (xs ys : List ℕ) → xs ≢ ys → same xs ys ≡ false
unfolding same
same_false [] [] n = absurd (n refl)
same_false [] (y ∷ ys) n = refl
same_false (x ∷ xs) [] n = refl
same_false (x ∷ xs) (y ∷ ys) n = elim (cases_eq x y) [
  | inl e ↦ rw (eq-eqb x y e) (same_false xs ys (λ t. n (let h = e in cc)))
  | inr d ↦ rw (ne_eqb x y d) refl
]

apart : (xs ys : List ℕ) → same xs ys ≡ false → xs ≢ ys
apart xs ys n e = let t = same_true xs ys e in cc

-- What isn't among them differs from each.
pub distinct_more : (ds : List Descriptor) (d : Descriptor) → NoneTwice ds → is_among ds d ≡ false → NoneTwice (ds ++ d ∷ [])
distinct_more [] d h n = (tt, tt)
distinct_more (e ∷ ds) d h n = (last ds h.0, distinct_more ds d h.1 (second_false (same d e) (is_among ds d) n))
  where
    last : (es : List Descriptor) → AllByRecursion (λ f. e ≢ f) es → AllByRecursion (λ f. e ≢ f) (es ++ d ∷ [])
    last [] a = ((λ q. apart d e (first_false (same d e) (is_among ds d) n) (sym q)), tt)
    last (f ∷ es) a = (a.0, last es a.1)

pub distinct_last : (ds : List Descriptor) (d : Descriptor) (es : List Descriptor) → NoneTwice (ds ++ (d ∷ es)) → is_among ds d ≡ false
distinct_last [] d es h = refl
distinct_last (e ∷ ds) d es h = rw (same_false d e (λ q. reach ds h.0 (sym q))) (distinct_last ds d es h.1)
  where
    reach : (fs : List Descriptor) → AllByRecursion (λ f. e ≢ f) (fs ++ (d ∷ es)) → e ≢ d
    reach [] a = a.0
    reach (f ∷ fs) a = reach fs a.1

-- ---- a superclass, an interface, a source file

super_step : (s u : State) (o : Open) (d : Descriptor) (x : Option Descriptor) → o.superclass ≡ x → option_map (λ b. with_block s b) (option_map (λ (c : Open × ClassPart). in_class c.0 c.1) (class_line o (super_line d))) ≡ Some u
    → (o.superclass ≡ None) × (with_block s (in_class (record o { superclass = Some d }) at_heads) ≡ u)
unfolding with_superclass
super_step s u o d None e r = let k : Some (with_block s (in_class (record o { superclass = Some d }) at_heads)) ≡ Some u = rw e at r in (e, cc)
super_step s u o d (Some x) e r = let k : None ≡ Some u = rw e at r in absurd cc

super_goes : (s : State) (o : Open) (d : Descriptor) → o.superclass ≡ None → option_map (λ b. with_block s b) (option_map (λ (c : Open × ClassPart). in_class c.0 c.1) (class_line o (super_line d))) ≡ Some (with_block s (in_class (record o { superclass = Some d }) at_heads))
unfolding with_superclass
super_goes s o d e = rw e refl

source_step : (s u : State) (o : Open) (us : Units) (x : Option Units) → o.source ≡ x → option_map (λ b. with_block s b) (option_map (λ (c : Open × ClassPart). in_class c.0 c.1) (class_line o (source_line us))) ≡ Some u
    → (o.source ≡ None) × (with_block s (in_class (record o { source = Some us }) at_heads) ≡ u)
unfolding with_source
source_step s u o us None e r = let k : Some (with_block s (in_class (record o { source = Some us }) at_heads)) ≡ Some u = rw e at r in (e, cc)
source_step s u o us (Some x) e r = let k : None ≡ Some u = rw e at r in absurd cc

source_goes : (s : State) (o : Open) (us : Units) → o.source ≡ None → option_map (λ b. with_block s b) (option_map (λ (c : Open × ClassPart). in_class c.0 c.1) (class_line o (source_line us))) ≡ Some (with_block s (in_class (record o { source = Some us }) at_heads))
unfolding with_source
source_goes s o us e = rw e refl

interface_step : (s u : State) (o : Open) (d : Descriptor) (b : Bool) → is_among o.interfaces d ≡ b → option_map (λ b. with_block s b) (option_map (λ (c : Open × ClassPart). in_class c.0 c.1) (class_line o (implements_line d))) ≡ Some u
    → (is_among o.interfaces d ≡ false) × (with_block s (in_class (record o { interfaces = o.interfaces ++ d ∷ [] }) at_heads) ≡ u)
unfolding with_interface
interface_step s u o d false e r = let k : Some (with_block s (in_class (record o { interfaces = o.interfaces ++ d ∷ [] }) at_heads)) ≡ Some u = rw e at r in (e, cc)
interface_step s u o d true e r = let k : None ≡ Some u = rw e at r in absurd cc

interface_goes : (s : State) (o : Open) (d : Descriptor) → is_among o.interfaces d ≡ false → option_map (λ b. with_block s b) (option_map (λ (c : Open × ClassPart). in_class c.0 c.1) (class_line o (implements_line d))) ≡ Some (with_block s (in_class (record o { interfaces = o.interfaces ++ d ∷ [] }) at_heads))
unfolding with_interface
interface_goes s o d e = rw e refl

-- ---- what is read stands before the members

-- The class with these heads.
abbrev pub with_heads : Open → Option Descriptor → List Descriptor → Option Units → Open
with_heads o d is us = record o { superclass = d; interfaces = is; source = us }

pub record HeadsRead (done : List Class) (late : Option ℕ) (o : Open) (ls : List Numbered) (t : State) : Type 0 where
  pub heads : List Line
  pub front : Front ls heads
  pub are_heads : list_all is_head heads ≡ true
  pub behind : Behind (within at_members done late) front.after t
  pub superclass : at_most_one o.superclass ++ flat_map superclass_in heads ≡ at_most_one behind.final.superclass
  pub interfaces : o.interfaces ++ flat_map interface_in heads ≡ behind.final.interfaces
  pub none_twice : NoneTwice behind.final.interfaces
  pub source : at_most_one o.source ++ flat_map source_in heads ≡ at_most_one behind.final.source
  pub same : behind.final ≡ with_heads o behind.final.superclass behind.final.interfaces behind.final.source

pub heads_read : (ls : List Numbered) (done : List Class) (late : Option ℕ) (o : Open) (k : ℕ) (t : State) → NoneTwice o.interfaces → t.block ≡ at_top → Runs (within at_heads done late o k) ls t → HeadsRead done late o ls t
unfolding add inside
heads_read [] done late o k t i top r = absurd (class_open at_heads done late o k t top r)
heads_read ((n, super_line d) ∷ ls) done late o k t i top r =
    let p = super_step (at_line (within at_heads done late o k) n) r.0 o d o.superclass refl r.1.added in
    let y = heads_read ls done late (record o { superclass = Some d }) n t i top (subst (λ u. Runs u ls t) (sym p.1) r.2) in
    record {
      heads = super_line d ∷ y.heads;
      front = more_front n (super_line d) y.front;
      are_heads = y.are_heads;
      behind = y.behind;
      superclass = ap (λ x. at_most_one x ++ (d ∷ flat_map superclass_in y.heads)) p.0 ∙ y.superclass;
      interfaces = y.interfaces;
      none_twice = y.none_twice;
      source = y.source;
      same = y.same;
    }
heads_read ((n, implements_line d) ∷ ls) done late o k t i top r =
    let p = interface_step (at_line (within at_heads done late o k) n) r.0 o d (is_among o.interfaces d) refl r.1.added in
    let y = heads_read ls done late (record o { interfaces = o.interfaces ++ d ∷ [] }) n t (distinct_more o.interfaces d i p.0) top (subst (λ u. Runs u ls t) (sym p.1) r.2) in
    record {
      heads = implements_line d ∷ y.heads;
      front = more_front n (implements_line d) y.front;
      are_heads = y.are_heads;
      behind = y.behind;
      superclass = y.superclass;
      interfaces = sym (append_assoc o.interfaces (d ∷ []) (flat_map interface_in y.heads)) ∙ y.interfaces;
      none_twice = y.none_twice;
      source = y.source;
      same = y.same;
    }
heads_read ((n, source_line us) ∷ ls) done late o k t i top r =
    let p = source_step (at_line (within at_heads done late o k) n) r.0 o us o.source refl r.1.added in
    let y = heads_read ls done late (record o { source = Some us }) n t i top (subst (λ u. Runs u ls t) (sym p.1) r.2) in
    record {
      heads = source_line us ∷ y.heads;
      front = more_front n (source_line us) y.front;
      are_heads = y.are_heads;
      behind = y.behind;
      superclass = y.superclass;
      interfaces = y.interfaces;
      none_twice = y.none_twice;
      source = ap (λ x. at_most_one x ++ (us ∷ flat_map source_in y.heads)) p.0 ∙ y.source;
      same = y.same;
    }
heads_read ((n, l) ∷ ls) done late o k t i top r = record {
  heads = [];
  front = record { mine = []; after = (n, l) ∷ ls; split = refl; word_values = refl };
  are_heads = refl;
  behind = record { final = o; line = k; runs = (r.0, record { stands = r.1.stands; added = r.1.added }, r.2) };
  superclass = append-nil (at_most_one o.superclass);
  interfaces = append-nil o.interfaces;
  none_twice = i;
  source = append-nil (at_most_one o.source);
  same = refl;
}

-- ---- what stands before the members is read

one_more : {X : Type 0} (a b : Option X) → at_most_one a ≡ at_most_one b → a ≡ b
one_more None None e = refl
one_more (Some x) (Some y) e = cc
one_more _ _ e = absurd cc

none_before : {X : Type 0} (a b : Option X) (x : X) (xs : List X) → at_most_one a ++ (x ∷ xs) ≡ at_most_one b → a ≡ None
none_before None b x xs e = refl
none_before (Some a) None x xs e = absurd cc
none_before (Some a) (Some b) x xs e = absurd cc

three : (o final : Open) → final ≡ with_heads o final.superclass final.interfaces final.source → o.superclass ≡ final.superclass → o.interfaces ≡ final.interfaces → o.source ≡ final.source → final ≡ o
three o final e a b c =
    e
    ∙ ap (λ x. with_heads o x final.interfaces final.source) (sym a)
    ∙ ap (λ x. with_heads o o.superclass x final.source) (sym b)
    ∙ ap (λ x. with_heads o o.superclass o.interfaces x) (sym c)

pub heads_go : (hs : List Line) (done : List Class) (late : Option ℕ) (o : Open) (k : ℕ) (after : List Numbered) (t : State) (ls : List Numbered) → unnumbered ls ≡ hs → list_all is_head hs ≡ true → (final : Open)
    → at_most_one o.superclass ++ flat_map superclass_in hs ≡ at_most_one final.superclass → o.interfaces ++ flat_map interface_in hs ≡ final.interfaces → NoneTwice final.interfaces
    → at_most_one o.source ++ flat_map source_in hs ≡ at_most_one final.source → final ≡ with_heads o final.superclass final.interfaces final.source
    → ((m : ℕ) → Runs (within at_heads done late final m) after t) → Runs (within at_heads done late o k) (ls ++ after) t
unfolding add inside
heads_go [] done late o k after t ls e h final a b i c same r =
    let f = three o final same (one_more o.superclass final.superclass (sym (append-nil (at_most_one o.superclass)) ∙ a)) (sym (append-nil o.interfaces) ∙ b) (one_more o.source final.source (sym (append-nil (at_most_one o.source)) ∙ c)) in
    subst (λ xs. Runs (within at_heads done late o k) (xs ++ after) t) (sym (none_read ls e)) (subst (λ x. Runs (within at_heads done late x k) after t) f (r k))
heads_go (super_line d ∷ hs) done late o k after t ls e h final a b i c same r =
    let st = starts ls (super_line d) hs e in
    let o1 = record o { superclass = Some d } in
    let none = none_before o.superclass final.superclass d (flat_map superclass_in hs) a in
    let a1 : at_most_one o1.superclass ++ flat_map superclass_in hs ≡ at_most_one final.superclass = ap (λ x. at_most_one x ++ (d ∷ flat_map superclass_in hs)) (sym none) ∙ a in
    let y = heads_go hs done late o1 st.number after t st.rest st.word_values h final a1 b i c same r in
    goes (within at_heads done late o k) (within at_heads done late o1 st.number) ls after t (super_line d) hs st (record { stands = refl; added = super_goes (at_line (within at_heads done late o k) st.number) o d none }) y
heads_go (implements_line d ∷ hs) done late o k after t ls e h final a b i c same r =
    let st = starts ls (implements_line d) hs e in
    let o1 = record o { interfaces = o.interfaces ++ d ∷ [] } in
    let none = distinct_last o.interfaces d (flat_map interface_in hs) (subst NoneTwice (sym b) i) in
    let b1 : o1.interfaces ++ flat_map interface_in hs ≡ final.interfaces = append_assoc o.interfaces (d ∷ []) (flat_map interface_in hs) ∙ b in
    let y = heads_go hs done late o1 st.number after t st.rest st.word_values h final a b1 i c same r in
    goes (within at_heads done late o k) (within at_heads done late o1 st.number) ls after t (implements_line d) hs st (record { stands = refl; added = interface_goes (at_line (within at_heads done late o k) st.number) o d none }) y
heads_go (source_line us ∷ hs) done late o k after t ls e h final a b i c same r =
    let st = starts ls (source_line us) hs e in
    let o1 = record o { source = Some us } in
    let none = none_before o.source final.source us (flat_map source_in hs) c in
    let c1 : at_most_one o1.source ++ flat_map source_in hs ≡ at_most_one final.source = ap (λ x. at_most_one x ++ (us ∷ flat_map source_in hs)) (sym none) ∙ c in
    let y = heads_go hs done late o1 st.number after t st.rest st.word_values h final a b i c1 same r in
    goes (within at_heads done late o k) (within at_heads done late o1 st.number) ls after t (source_line us) hs st (record { stands = refl; added = source_goes (at_line (within at_heads done late o k) st.number) o us none }) y
heads_go (l ∷ hs) done late o k after t ls e h final a b i c same r = absurd cc

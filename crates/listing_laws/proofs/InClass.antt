-- Texts that run into a class that is open.
use Rattle.std.proofs.Common.{◌≡◌, ℕ, false, Some, refl, ap, ◌∙◌, List, [], ◌∷◌, ◌++◌, map, None, sym, subst, append_assoc}
use Rattle.std.proofs.lemmas.List.{append-nil, map-append}
use Rattle.std.specs.List.{AllByRecursion, flat_map}
use Rattle.std.specs.declared.cmp.Ordering.TheVariants as ordering
use Rattle.program_types.specs.Content.{Class}
use Rattle.std.specs.Ordering.{is_eq, ordering_reverse}
use Rattle.program_types.specs.Key.{Key, key_cmp}
use Rattle.program_types.specs.inner.KeyLaws.{key_cmp-total}
use Rattle.listing_parse.specs.Members.{is_held, put_in, with_member}
use Rattle.listing_parse.specs.States.{State, Open, ClassPart}
use Rattle.listing_laws.proofs.Printable.{IsBelowAll, KeysAreSorted, AllBelow}
use Rattle.listing_lines.specs.declared.form.Form.{Form}
use Rattle.listing_laws.proofs.Runs.{bare, RunsTo, within}
use Rattle.listing_laws.proofs.RunLaws.{runs_join}
use Rattle.listing_laws.proofs.CodeRuns.{nothing_runs}

-- From state s, the text leads into this class, and no target was late.
pub record InClass (form : Form) (done : List Class) (s : State) (text : List ℕ) (o : Open) : Type 0 where
  pub part : ClassPart
  pub lines : ℕ
  pub runs : RunsTo (bare form) s text (within part done o None lines)

-- one text after the other
pub in_then : (form : Form) (done : List Class) (s : State) (a t : List ℕ) (o p : Open) (x : InClass form done s a o) → InClass form done (within x.part done o None x.lines) t p → InClass form done s (a ++ t) p
in_then form done s a t o p x y = record { part = y.part; lines = y.lines; runs = runs_join (bare form) s (within x.part done o None x.lines) (within y.part done p None y.lines) a t x.runs y.runs }

-- ---- members that rise

below_last : (q : Key) (qs : List Key) (k : Key) (rest : List Key) → IsBelowAll q (qs ++ (k ∷ rest)) → key_cmp q k ≡ ordering.Less
below_last q [] k rest h = h.0
below_last q (p ∷ ps) k rest h = below_last q ps k rest h.1

sorted_front : (ks : List Key) (k : Key) (rest : List Key) → KeysAreSorted (ks ++ (k ∷ rest)) → AllBelow ks k
sorted_front [] k rest h = tt
sorted_front (q ∷ qs) k rest h = (below_last q qs k rest h.0, sorted_front qs k rest h.1)

-- what stands in front is below
pub front_below : {X : Type 0} (key : X → Key) (before : List X) (x : X) (rest : List X) → KeysAreSorted (map key (before ++ (x ∷ rest))) → AllBelow (map key before) (key x)
front_below key before x rest h = sorted_front (map key before) (key x) (map key rest) (subst KeysAreSorted (map-append key before (x ∷ rest)) h)

above : (q k : Key) → key_cmp q k ≡ ordering.Less → key_cmp k q ≡ ordering.Greater
above q k e = key_cmp-total.antisymm k q ∙ ap ordering_reverse e

not_held : {X : Type 0} (key : X → Key) (k : Key) (ys : List X) → AllBelow (map key ys) k → is_held key k ys ≡ false
not_held key k [] h = refl
not_held key k (y ∷ ys) h = rw (above (key y) k h.0) (not_held key k ys h.1)

last_in : {X : Type 0} (key : X → Key) (x : X) (ys : List X) → AllBelow (map key ys) (key x) → put_in key x ys ≡ ys ++ x ∷ []
last_in key x [] h = refl
last_in key x (y ∷ ys) h = rw (above (key y) (key x) h.0) (ap (λ t. y ∷ t) (last_in key x ys h.1))

-- what is above all goes last
pub with_last : {X : Type 0} (key : X → Key) (x : X) (ys : List X) → AllBelow (map key ys) (key x) → with_member key x ys ≡ Some (ys ++ x ∷ [])
with_last key x ys h = rw (not_held key (key x) ys h, last_in key x ys h) refl

pub code_skips : (q k : Key) → key_cmp q k ≡ ordering.Less → is_eq (key_cmp k q) ≡ false
code_skips q k e = ap is_eq (above q k e)

-- Members of one list, one after the other, where each goes last.
pub each_runs : {X : Type 0} (form : Form) (done : List Class) (text : X → List ℕ) (with : List X → Open) (Fits : X → Type 0) (key : X → Key)
    → ((p : ClassPart) (n : ℕ) (before : List X) (x : X) → Fits x → AllBelow (map key before) (key x) → InClass form done (within p done (with before) None n) (text x) (with (before ++ x ∷ [])))
    → (xs before : List X) (p : ClassPart) (n : ℕ) → AllByRecursion Fits xs → KeysAreSorted (map key (before ++ xs)) → InClass form done (within p done (with before) None n) (flat_map text xs) (with (before ++ xs))
each_runs {X} form done text with Fits key step [] before p n f s =
    let t = within p done (with before) None n in
    record { part = p; lines = n; runs = subst (λ (ys : List X). RunsTo (bare form) t [] (within p done (with ys) None n)) (sym (append-nil before)) (nothing_runs (bare form) t) }
each_runs {X} form done text with Fits key step (x ∷ xs) before p n f s =
    let t = within p done (with before) None n in
    let e : (before ++ x ∷ []) ++ xs ≡ before ++ (x ∷ xs) = append_assoc before (x ∷ []) xs in
    let y = step p n before x f.0 (front_below key before x xs s) in
    let z = each_runs form done text with Fits key step xs (before ++ x ∷ []) y.part y.lines f.1 (subst (λ (ys : List X). KeysAreSorted (map key ys)) (sym e) s) in
    subst (λ (ys : List X). InClass form done t (text x ++ flat_map text xs) (with ys)) e (in_then form done t (text x) (flat_map text xs) (with (before ++ x ∷ [])) (with ((before ++ x ∷ []) ++ xs)) y z)

-- Descriptors at the front of units, by the run of code points there.
use Rattle.std.proofs.Common.{◌≡◌, ℕ, zero, suc, ◌+◌, ◌-◌, ◌<◌, ◌≤◌, ◌⊎◌, inl, inr, List, [], ◌∷◌, ◌++◌, length, take, drop, replicate, get_or, refl, sym, ap, subst, ◌∙◌, append_assoc, arith}
use Rattle.std.proofs.Math.Seq.{take-add}
use Rattle.std.proofs.lemmas.Bool.{cases_order}
use Rattle.std.proofs.lemmas.List.{length-append, length-drop, take-append-drop, append_cancel_left, drop_more, drop-drop, get_or-drop, get_or-take, get_or-replicate, get_or-append_right, get_or_append_left, length-replicate, take_more, take_all, length-take-le, append-nil, drop_at}
use Rattle.dex_base.specs.Descriptor.{IsSimpleName, Joins, IsArray, IsClass, IsElement, IsFieldType, IsDescriptor, NoFront, IsPrefixFree}
use Rattle.dex_base.specs.inner.Descriptor.{HasFront}
use Rattle.dex_base.specs.inner.Names.{IsRun, IsClassTail, IsDepth}
use Rattle.dex_base.proofs.NameUnits.{element_not_open, primitive_not_class}
use Rattle.dex_base.proofs.NameLaws.{none_at_stop, run_simple, run_whole}

-- ---- a class name and `;`

-- what stands after the run at the front of a class name and `;`
pub record IsTailStep (units : List ℕ) (run : ℕ) : Type 0 where
  pub some : 0 < run
  pub inside : run < length units
  pub next : (get_or units run 0 ≡ 59) ⊎ ((get_or units run 0 ≡ 47) × ((front : List ℕ) × (rest : List ℕ) × (drop (run + 1) units ≡ front ++ rest) × IsClassTail front))

after_name : (units name rest : List ℕ) (c run : ℕ) → units ≡ name ++ c ∷ rest → take run units ≡ name → drop run units ≡ c ∷ rest
after_name units name rest c run e t = append_cancel_left (take run units) (drop run units) (c ∷ rest) (take-append-drop run units ∙ e ∙ ap (λ l. l ++ c ∷ rest) (sym t))

stop_inside : (units rest : List ℕ) (c run : ℕ) → drop run units ≡ c ∷ rest → run < length units
stop_inside units rest c run d = let n = length-drop run units in let m = ap length d in omega arith

stop_at : (units rest : List ℕ) (c run : ℕ) → drop run units ≡ c ∷ rest → (get_or units run 0 ≡ c) × (drop (run + 1) units ≡ rest)
stop_at units rest c run d =
    let e : get_or units run 0 ∷ drop (run + 1) units ≡ c ∷ rest = sym (drop_more units run 0 (stop_inside units rest c run d)) ∙ d in
    (cc, cc)

tail_joined : (units name tail : List ℕ) (run : ℕ) (names : List (List ℕ)) → IsRun units run → Joins name names → units ≡ name ++ 59 ∷ tail → IsTailStep units run
tail_joined units name tail run [] r j e = absurd j
tail_joined units name tail run (n ∷ []) r j e =
    let whole : units ≡ n ++ 59 ∷ tail = e ∙ ap (λ l. l ++ 59 ∷ tail) j.1 in
    let w = run_whole units n (59 ∷ tail) run r j.0 (none_at_stop 59 tail (inr (inl refl))) whole in
    let d = after_name units n tail 59 run whole w.0 in
    record { some = w.1; inside = stop_inside units tail 59 run d; next = inl (stop_at units tail 59 run d).0 }
tail_joined units name tail run (n ∷ m ∷ ns) r j e =
    let more = j.1.0 ++ 59 ∷ tail in
    let whole : units ≡ n ++ 47 ∷ more = e ∙ ap (λ l. l ++ 59 ∷ tail) j.1.1 ∙ append_assoc n (47 ∷ j.1.0) (59 ∷ tail) in
    let w = run_whole units n (47 ∷ more) run r j.0 (none_at_stop 47 more (inl refl)) whole in
    let d = after_name units n more 47 run whole w.0 in
    let s = stop_at units more 47 run d in
    record {
      some = w.1;
      inside = stop_inside units more 47 run d;
      next = inr (s.0, (j.1.0 ++ 59 ∷ [], tail, s.1 ∙ sym (append_assoc j.1.0 (59 ∷ []) tail), (j.1.0, (m ∷ ns, j.1.2), refl)));
    }

-- the run at the front of a class name and `;` is its first simple name
pub tail_step : (units front rest : List ℕ) (run : ℕ) → IsRun units run → units ≡ front ++ rest → IsClassTail front → IsTailStep units run
tail_step units front rest run r e t = tail_joined units t.0 rest run t.1.0 r t.1.1 (e ∙ ap (λ l. l ++ rest) t.2 ∙ append_assoc t.0 (59 ∷ []) rest)

pub tail_none : (units : List ℕ) (run : ℕ) → IsRun units run → (IsTailStep units run → ⊥) → NoFront IsClassTail units
tail_none units run r never front rest e t = never (tail_step units front rest run r e t)

-- the run, and `;` after it
pub tail_last : (units : List ℕ) (run : ℕ) → IsRun units run → 0 < run → run < length units → get_or units run 0 ≡ 59 → HasFront IsClassTail units (run + 1)
tail_last units run r some inside end =
    let s = run_simple units run r some in
    (omega arith, (take run units, ((take run units ∷ []), (s, refl)), take_more units run 0 inside ∙ ap (λ c. take run units ++ c ∷ []) end))

-- the run, `/` after it, and then more
pub tail_more : (units : List ℕ) (run n : ℕ) → IsRun units run → 0 < run → run < length units → get_or units run 0 ≡ 47 → HasFront IsClassTail (drop (run + 1) units) n → HasFront IsClassTail units (run + 1 + n)
tail_more units run n r some inside slash (fits, (name, (names, j), e)) =
    let l = length-drop (run + 1) units in
    (omega (arith, l, fits), go names j (run_simple units run r some))
  where
    whole : take (run + 1 + n) units ≡ (take run units ++ 47 ∷ name) ++ 59 ∷ []
    whole =
        take-add (run + 1) n units ∙ ap (λ t. t ++ take n (drop (run + 1) units)) (take_more units run 0 inside ∙ ap (λ c. take run units ++ c ∷ []) slash)
        ∙ append_assoc (take run units) (47 ∷ []) (take n (drop (run + 1) units)) ∙ ap (λ t. take run units ++ 47 ∷ t) e ∙ sym (append_assoc (take run units) (47 ∷ name) (59 ∷ []))

    go : (names : List (List ℕ)) → Joins name names → IsSimpleName (take run units) → IsClassTail (take (run + 1 + n) units)
    go [] j s = absurd j
    go (m ∷ ms) j s = (take run units ++ 47 ∷ name, (take run units ∷ m ∷ ms, (s, (name, refl, j))), whole)

-- where nothing goes on after the `/`, nothing stands at the front
pub tail_skip : (units : List ℕ) (run : ℕ) → IsRun units run → 0 < run → run < length units → get_or units run 0 ≡ 47 → NoFront IsClassTail (drop (run + 1) units) → NoFront IsClassTail units
tail_skip units run r some inside slash never = tail_none units run r (λ s. elim s.next [ inl e ↦ absurd (omega arith) | inr e ↦ never e.1.0 e.1.1 e.1.2 e.1.3 ])

-- ---- the tail of the units after the first simple names

-- after the first `k` units a class name and `;` goes on, if one stands at the front at all
pub record IsTailAt (units : List ℕ) (k : ℕ) : Type 0 where
  pub inside : k ≤ length units
  pub found : (n : ℕ) → HasFront IsClassTail (drop k units) n → HasFront IsClassTail units (k + n)
  pub none : NoFront IsClassTail (drop k units) → NoFront IsClassTail units

-- `k` units, a run and what stands after it
pub record IsTailRun (units : List ℕ) (k run : ℕ) : Type 0 where
  pub before : IsTailAt units k
  pub run_is : IsRun (drop k units) run

pub tail_next : (units : List ℕ) (k run : ℕ) → IsTailRun units k run → 0 < run → k + run < length units → get_or units (k + run) 0 ≡ 47 → IsTailAt units (k + run + 1)
tail_next units k run t some inside slash =
    let l = length-drop k units in
    let g : get_or (drop k units) run 0 ≡ 47 = get_or-drop k units run 0 ∙ slash in
    let in_rest : run < length (drop k units) = omega arith in
    let d : drop (run + 1) (drop k units) ≡ drop (k + run + 1) units = drop-drop (run + 1) k units ∙ ap (λ m. drop m units) (sum3 k run) in
    record {
      inside = omega arith;
      found = λ n h. subst (HasFront IsClassTail units) (sum4 k run n) (t.before.found (run + 1 + n) (tail_more (drop k units) run n t.run_is some in_rest g (subst (λ u. HasFront IsClassTail u n) (sym d) h)));
      none = λ h. t.before.none (tail_skip (drop k units) run t.run_is some in_rest g (subst (NoFront IsClassTail) (sym d) h));
    }
  where
    sum3 : (k run : ℕ) → k + (run + 1) ≡ k + run + 1
    sum3 k run = omega arith

    sum4 : (k run n : ℕ) → k + (run + 1 + n) ≡ k + run + 1 + n
    sum4 k run n = omega arith

pub tail_fails : (units : List ℕ) (k run : ℕ) → IsTailRun units k run → (run ≡ 0) ⊎ (k + run ≡ length units) → NoFront IsClassTail units
tail_fails units k run t bad =
    let l = length-drop k units in
    t.before.none (tail_none (drop k units) run t.run_is (λ s. let a = s.some in let b = s.inside in elim bad [ inl z ↦ omega arith | inr e ↦ omega arith ]))

pub tail_breaks : (units : List ℕ) (k run : ℕ) → IsTailRun units k run → (get_or units (k + run) 0 ≡ 59 → ⊥) → (get_or units (k + run) 0 ≡ 47 → ⊥) → NoFront IsClassTail units
tail_breaks units k run t no_end no_slash =
    let g = get_or-drop k units run 0 in
    t.before.none (tail_none (drop k units) run t.run_is (λ s. elim s.next [ inl e ↦ no_end (sym g ∙ e) | inr e ↦ no_slash (sym g ∙ e.0) ]))

pub tail_ends : (units : List ℕ) (k run : ℕ) → IsTailRun units k run → 0 < run → k + run < length units → get_or units (k + run) 0 ≡ 59 → HasFront IsClassTail units (k + run + 1)
tail_ends units k run t some inside end =
    let l = length-drop k units in
    let e : k + (run + 1) ≡ k + run + 1 = omega arith in
    subst (HasFront IsClassTail units) e (t.before.found (run + 1) (tail_last (drop k units) run t.run_is some (omega arith) (get_or-drop k units run 0 ∙ end)))

-- ---- arrays

same_depth : (units tail : List ℕ) (m n : ℕ) → IsDepth units n → n ≤ length units → (get_or tail 0 0 ≡ 91 → ⊥) → units ≡ replicate m 91 ++ tail → m ≡ n
same_depth units tail m n d inside head e = elim (cases_order m n) [
  | inl same ↦ same
  | inr (inl less) ↦
      let a : get_or units m 0 ≡ 91 = sym (get_or-take n units m 0 less) ∙ ap (λ l. get_or l m 0) d.front ∙ get_or-replicate n m 91 0 less in
      let b : get_or units m 0 ≡ get_or tail (m - m) 0 = ap (λ l. get_or l m 0) e ∙ get_or-append_right (replicate m 91) tail m m 0 (length-replicate m 91) (omega arith) in
      let z : m - m ≡ 0 = omega arith in
      absurd (head (sym (b ∙ ap (λ k. get_or tail k 0) z) ∙ a))
  | inr (inr more) ↦
      let a : get_or units n 0 ≡ 91 = ap (λ l. get_or l n 0) e ∙ get_or_append_left (replicate m 91) tail 0 n (omega (arith, length-replicate {A = ℕ} m 91)) ∙ get_or-replicate m n 91 0 more in
      absurd (d.next (omega (arith, ap length e, length-append (replicate m 91) tail, length-replicate {A = ℕ} m 91)) a)
]

pub field_found : (units : List ℕ) (n m : ℕ) → IsDepth units n → n ≤ length units → n ≤ 255 → HasFront IsElement (drop n units) m → HasFront IsFieldType units (n + m)
field_found units n m d inside small (fits, e) =
    let l = length-drop n units in
    (omega arith, (n, take m (drop n units), small, e, take-add n m units ∙ ap (λ t. t ++ take m (drop n units)) d.front))

-- the `[` of a field's type are all that stand at the front, and after them stands an element
field_front : (units front rest : List ℕ) (n : ℕ) → IsDepth units n → n ≤ length units → units ≡ front ++ rest → IsFieldType front → (n ≤ 255) × ((el : List ℕ) × IsElement el × (drop n units ≡ el ++ rest))
field_front units front rest n d inside e (m, el, small, p, f) =
    let whole : units ≡ replicate m 91 ++ (el ++ rest) = e ∙ ap (λ l. l ++ rest) f ∙ append_assoc (replicate m 91) el rest in
    let same = same_depth units (el ++ rest) m n d inside (element_not_open el rest p) whole in
    (omega arith, (el, p, ap (drop n) whole ∙ drop_at (replicate m 91) (el ++ rest) n (length-replicate m 91 ∙ same)))

pub field_none_deep : (units : List ℕ) (n : ℕ) → IsDepth units n → n ≤ length units → 255 < n → NoFront IsFieldType units
field_none_deep units n d inside deep front rest e f = let s = (field_front units front rest n d inside e f).0 in absurd (omega arith)

pub field_none : (units : List ℕ) (n : ℕ) → IsDepth units n → n ≤ length units → NoFront IsElement (drop n units) → NoFront IsFieldType units
field_none units n d inside never front rest e f = let s = (field_front units front rest n d inside e f).1 in never s.0 rest s.2 s.1

-- ---- fronts and wholes

-- a front is all, exactly if its length is
pub front_is_all : (IsText : List ℕ → Type 0) (units : List ℕ) (n : ℕ) → IsPrefixFree IsText → IsText (take n units) → (n ≡ length units → IsText units) × (IsText units → n ≤ length units → n ≡ length units)
front_is_all IsText units n free t = (
  λ e. subst IsText (take_all n units (omega arith)) t,
  λ u inside. let s = (free (take n units) units (drop n units) [] t u (take-append-drop n units ∙ sym (append-nil units))).0 in let l = ap length s in omega (arith, l, length-take-le n units inside),
)

pub front_not_all : (IsText : List ℕ → Type 0) (units : List ℕ) → NoFront IsText units → IsText units → ⊥
front_not_all IsText units never t = never units [] (sym (append-nil units)) t

-- ---- classes and arrays by their first unit

pub class_by_head : (units : List ℕ) → IsDescriptor units → get_or units 0 0 ≡ 76 → IsClass units
class_by_head units (inl e) h = let f : ◌≡◌ {A = ℕ} 86 76 = ap (λ l. get_or l 0 0) (sym e) ∙ h in absurd (omega (arith, f))
class_by_head units (inr (zero, el, small, inl p, e)) h = absurd (primitive_not_class p.0 p.1 (ap (λ l. get_or l 0 0) (sym (e ∙ p.2)) ∙ h))
class_by_head units (inr (zero, el, small, inr c, e)) h = subst IsClass (sym e) c
class_by_head units (inr (suc n, el, small, p, e)) h = let f : ◌≡◌ {A = ℕ} 91 76 = ap (λ l. get_or l 0 0) (sym e) ∙ h in absurd (omega (arith, f))

pub class_is_descriptor : (units : List ℕ) → IsClass units → IsDescriptor units × (get_or units 0 0 ≡ 76)
class_is_descriptor units c = (inr (0, units, omega arith, inr c, refl), ap (λ l. get_or l 0 0) c.2)

-- what has methods, a class or an array, is a type
pub owner_is_descriptor : (units : List ℕ) → IsClass units ⊎ IsArray units → IsDescriptor units
owner_is_descriptor units (inl c) = (class_is_descriptor units c).0
owner_is_descriptor units (inr a) = a.0

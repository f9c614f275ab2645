-- What is written of the handlers of tries is one list, with one offset for each try.
use Rattle.std.proofs.Common.{◌≡◌, ℕ, ◌+◌, ◌<◌, ◌++◌, List, [], ◌∷◌, map, length, get_or, refl, ap, sym, ◌∙◌, arith, zero, suc, subst, Some, Bool, true, false, inl, inr, ◌==◌, if◌then◌else◌}
use Rattle.std.specs.Prelude.{slice_get, option_map}
use Rattle.std.proofs.lemmas.List.{length-map}
use Rattle.std.proofs.lemmas.Bool.{cases_lt}
use Rattle.std.proofs.lemmas.Option.{slice_get_within, slice_get-get_or, slice_get-map}
use Rattle.dex_base.specs.Grammar.{Placed}
use Rattle.dex_base.specs.Leb128.{Spells, Shortest}
use Rattle.dex_base.proofs.ShortestLaws.{AllBytes, shortest_one}
use Rattle.program_types.specs.Content.{Name, Try}
use Rattle.program_types.specs.Formed.{try_at}
use Rattle.code_read.specs.Handlers.{Handler, PacksHandlers, handler_at}
use Rattle.code_read.specs.Tries.{handler_of}
use Rattle.code_read.specs.Places.{Rises}
use Rattle.code_write.specs.Packs.{IsFirstUse, PacksHandlersOf}
use Rattle.code_write.specs.inner.Packs.{PacksHandler}
use Rattle.code_write.proofs.DistinctLaws.{zip-left}
use Rattle.code_write.proofs.HandlerOnce.{IsInjective, handler-once, two-parts}
use Rattle.dex_insn.proofs.Mnemonics.{equal}
use Rattle.std.proofs.lemmas.Grind.{same_number_lists}
use Rattle.dex_base.proofs.ListFacts.{some_one}

-- ---- things in the order of their first use

module _ (A : Type 0) (f : ℕ → A) (n : ℕ) where
  -- whoever uses y, one before it uses x
  abbrev Before : A → A → Type 0
  Before x y = (i : ℕ) → i < n → f i ≡ y → (j : ℕ) × (j < i) × (f j ≡ x)

  abbrev Used : A → Type 0
  Used x = (i : ℕ) × (i < n) × (f i ≡ x)

  abbrev In : A → List A → Type 0
  In x xs = (k : ℕ) × (slice_get xs k ≡ Some x)

  record Ordered (xs : List A) : Type 0 where
    order : (k l : ℕ) (g h : A) → k < l → slice_get xs k ≡ Some g → slice_get xs l ≡ Some h → Before g h
    used : (k : ℕ) (h : A) → slice_get xs k ≡ Some h → Used h

  never : (x y : A) → Before x y → Before y x → (m i : ℕ) → i < m → i < n → f i ≡ x → ⊥
  never x y p q zero i l b e = omega arith
  never x y p q (suc m) i l b e =
      let s = q i b e in let s1 = s.1 in
      let t = p s.0 (omega arith) s.2 in let t1 = t.1 in
      never x y p q m t.0 (omega arith) (omega arith) t.2

  both-ways : (x y : A) → Before x y → Before y x → Used x → ⊥
  both-ways x y p q u = never x y p q (suc u.0) u.0 (omega arith) u.1 u.2

  ordered-tail : (x : A) (xs : List A) → Ordered (x ∷ xs) → Ordered xs
  ordered-tail x xs o = record { order = λ k l g h lt a b. o.order (suc k) (suc l) g h (omega arith) a b; used = λ k h e. o.used (suc k) h e }

  heads : (x y : A) (xs ys : List A) → Ordered (x ∷ xs) → Ordered (y ∷ ys) → (k l : ℕ) → slice_get (y ∷ ys) k ≡ Some x → slice_get (x ∷ xs) l ≡ Some y → x ≡ y
  heads x y xs ys o p zero l a b = cc
  heads x y xs ys o p (suc k) zero a b = cc
  heads x y xs ys o p (suc k) (suc l) a b =
      absurd (both-ways y x (p.order zero (suc k) y x (omega arith) refl a) (o.order zero (suc l) x y (omega arith) refl b) (p.used zero y refl))

  -- what is in one tail is in the other
  tails : (x y z : A) (xs ys : List A) → Ordered (x ∷ xs) → x ≡ y → In z xs → (k : ℕ) → slice_get (y ∷ ys) k ≡ Some z → In z ys
  tails x y z xs ys o e i zero a =
      let same : z ≡ x = cc in
      let b = o.order zero (suc i.0) x x (omega arith) refl (i.1 ∙ ap (λ (t : A). Some t) same) in
      absurd (both-ways x x b b (o.used zero x refl))
  tails x y z xs ys o e i (suc k) a = (k, a)

  ordered-one : (xs ys : List A) → Ordered xs → Ordered ys → ((x : A) → In x xs → In x ys) → ((y : A) → In y ys → In y xs) → xs ≡ ys
  ordered-one [] [] o p there back = refl
  ordered-one [] (y ∷ ys) o p there back = let s = back y (zero, refl) in let s1 = s.1 in absurd cc
  ordered-one (x ∷ xs) [] o p there back = let s = there x (zero, refl) in let s1 = s.1 in absurd cc
  ordered-one (x ∷ xs) (y ∷ ys) o p there back =
      let s = there x (zero, refl) in let t = back y (zero, refl) in
      let e = heads x y xs ys o p s.0 t.0 s.1 t.1 in
      let r = ordered-one xs ys (ordered-tail x xs o) (ordered-tail y ys p)
      (λ z i. let m = there z (suc i.0, i.1) in tails x y z xs ys o e i m.0 m.1)
      (λ z i. let m = back z (suc i.0, i.1) in tails y x z ys xs p (sym e) i m.0 m.1) in
      (λ k. e k ∷ r k)

-- ---- handlers and their offsets

rise-at : (xs : List ℕ) (k l x y : ℕ) → Rises xs → k < l → slice_get xs k ≡ Some x → slice_get xs l ≡ Some y → x < y
rise-at xs k l x y r lt a b =
    let inside = slice_get_within xs l y b in
    let less = r.each k l lt inside in
    let p : get_or xs k 0 ≡ x = some_one (slice_get xs k) _ _ (slice_get-get_or xs k 0 (omega (arith, lt, inside))) a in
    let q : get_or xs l 0 ≡ y = some_one (slice_get xs l) _ _ (slice_get-get_or xs l 0 inside) b in
    omega (arith, less, p, q)

second-get : (hs : List (ℕ × Handler)) (k : ℕ) (r : ℕ × Handler) → slice_get hs k ≡ Some r → slice_get (map (λ (p : ℕ × Handler). p.1) hs) k ≡ Some r.1
second-get hs k r e = slice_get-map (λ (p : ℕ × Handler). p.1) hs k ∙ ap (option_map (λ (p : ℕ × Handler). p.1)) e

-- a handler that begins at a place is one of the list
handler-in : (hs : List (ℕ × Handler)) (off : ℕ) (h : Handler) → handler_at hs off ≡ Some h → (k : ℕ) × (r : ℕ × Handler) × (slice_get hs k ≡ Some r) × (r.0 ≡ off) × (r.1 ≡ h)
unfolding handler_at
handler-in [] off h e = absurd cc
handler-in (p ∷ ps) off h e = by-test (p.0 == off) refl e (λ g. handler-in ps off h g)
  where
    by-test : (b : Bool) → (p.0 == off) ≡ b → (if b then Some p.1 else handler_at ps off) ≡ Some h
        → (handler_at ps off ≡ Some h → (k : ℕ) × (r : ℕ × Handler) × (slice_get ps k ≡ Some r) × (r.0 ≡ off) × (r.1 ≡ h))
        → (k : ℕ) × (r : ℕ × Handler) × (slice_get (p ∷ ps) k ≡ Some r) × (r.0 ≡ off) × (r.1 ≡ h)
    by-test true t g more = (zero, p, refl, equal p.0 off t, cc)
    by-test false t g more = let r = more g in (suc r.0, r.1, r.2, r.3, r.4)

module _ (N : ℕ → Name → Type 0) (ss : List ℕ) (inj : IsInjective N) where
  placed-once : (at : ℕ) (a b : List ℕ) (gs hs : List (ℕ × Handler)) → map (λ (p : ℕ × Handler). p.1) gs ≡ map (λ (p : ℕ × Handler). p.1) hs → AllBytes a → AllBytes b
      → Placed (PacksHandler N ss) at a gs → Placed (PacksHandler N ss) at b hs → (a ≡ b) × (gs ≡ hs)
  placed-once at a b [] [] e p q x y = (x ∙ sym y, refl)
  placed-once at a b [] (h ∷ hs) e p q x y = absurd cc
  placed-once at a b (g ∷ gs) [] e p q x y = absurd cc
  placed-once at a b (g ∷ gs) (h ∷ hs) e p q x y =
      let u = two-parts a x.0 x.1 x.2 p in let v = two-parts b y.0 y.1 y.2 q in
      let one : g.1 ≡ h.1 = cc in
      let rest : map (λ (r : ℕ × Handler). r.1) gs ≡ map (λ (r : ℕ × Handler). r.1) hs = cc in
      let f = handler-once N ss inj x.0 y.0 h.1 u.0 v.0 (subst (λ (k : Handler). PacksHandler N ss x.0 k) one x.4) y.4 in
      let t = placed-once (at + length x.0) x.1 y.1 gs hs rest u.1 v.1 x.5
      (subst (λ (l : List ℕ). Placed (PacksHandler N ss) (at + length l) y.1 hs) (sym f) y.5) in
      let places : g.0 ≡ h.0 = cc in
      (x.2 ∙ (λ k. f k ++ t.0 k) ∙ sym y.2, λ k. (places k, one k) ∷ t.1 k)

  list-once : (m : ℕ) (a b : List ℕ) (gs hs : List (ℕ × Handler)) → map (λ (p : ℕ × Handler). p.1) gs ≡ map (λ (p : ℕ × Handler). p.1) hs → AllBytes a → AllBytes b
      → PacksHandlers N ss m a gs → PacksHandlers N ss m b hs → (a ≡ b) × (gs ≡ hs)
  list-once zero a b gs hs e p q x y = (x.0 ∙ sym y.0, x.1 ∙ sym y.1)
  list-once (suc m) a b gs hs e p q x y =
      let u = two-parts a x.front x.back x.joined p in let v = two-parts b y.front y.back y.joined q in
      let n : length gs ≡ length hs = sym (length-map gs (λ (p : ℕ × Handler). p.1)) ∙ ap length e ∙ length-map hs (λ (p : ℕ × Handler). p.1) in
      let f = shortest_one x.front y.front (length gs) u.0 v.0 x.count (subst (λ (k : ℕ). Shortest Spells y.front k) (sym n) y.count) in
      let t = placed-once (length x.front) x.back y.back gs hs e u.1 v.1 x.each (subst (λ (l : List ℕ). Placed (PacksHandler N ss) (length l) y.back hs) (sym f) y.each) in
      (x.joined ∙ (λ k. f k ++ t.0 k) ∙ sym y.joined, t.1)

  module _ (ts : List Try) where
    ordered-of : (list offs : List ℕ) (p : PacksHandlersOf N ss ts list offs) → Ordered Handler (λ i. handler_of (try_at ts i)) (length ts) (map (λ (r : ℕ × Handler). r.1) p.handlers)
    ordered-of list offs p = record {
      order = λ k l g h lt a b i li e.
          let r = zip-left (IsFirstUse ts) (map (λ (x : ℕ × Handler). x.1) p.handlers) p.order.firsts k g p.order.each a in
          let s = zip-left (IsFirstUse ts) (map (λ (x : ℕ × Handler). x.1) p.handlers) p.order.firsts l h p.order.each b in
          let rise = rise-at p.order.firsts k l r.0 s.0 p.order.rise lt r.1 s.1 in
          let le = s.2.first i e in
          (r.0, omega (arith, rise, le), r.2.uses);
      used = λ k h e. let r = zip-left (IsFirstUse ts) (map (λ (x : ℕ × Handler). x.1) p.handlers) p.order.firsts k h p.order.each e in (r.0, r.2.inside, r.2.uses);
    }

    into : (la oa lb ob : List ℕ) (p : PacksHandlersOf N ss ts la oa) (q : PacksHandlersOf N ss ts lb ob) (h : Handler)
        → In Handler (λ i. handler_of (try_at ts i)) (length ts) h (map (λ (r : ℕ × Handler). r.1) p.handlers) → In Handler (λ i. handler_of (try_at ts i)) (length ts) h (map (λ (r : ℕ × Handler). r.1) q.handlers)
    into la oa lb ob p q h i =
        let u = (ordered-of la oa p).used i.0 h i.1 in
        let k = handler-in q.handlers (get_or ob u.0 0) (handler_of (try_at ts u.0)) (q.offsets.each u.0 u.1) in
        (k.0, second-get q.handlers k.0 k.1 k.2 ∙ ap (λ (x : Handler). Some x) (k.4 ∙ u.2))

    offset-once : (list offs : List ℕ) (p : PacksHandlersOf N ss ts list offs) (i a b : ℕ) → handler_at p.handlers a ≡ Some (handler_of (try_at ts i)) → handler_at p.handlers b ≡ Some (handler_of (try_at ts i)) → a ≡ b
    offset-once list offs p i a b x y =
        let r = handler-in p.handlers a (handler_of (try_at ts i)) x in let s = handler-in p.handlers b (handler_of (try_at ts i)) y in
        elim (cases_lt r.0 s.0) [
          | inl lt ↦ absurd (twice r.0 s.0 r.1 s.1 lt r.2 s.2 (r.4 ∙ sym s.4))
          | inr ge ↦ elim (cases_lt s.0 r.0) [
            | inl lt ↦ absurd (twice s.0 r.0 s.1 r.1 lt s.2 r.2 (s.4 ∙ sym r.4))
            | inr le ↦ let e : r.0 ≡ s.0 = omega arith in
                let same : r.1 ≡ s.1 = one-there p.handlers r.0 s.0 r.1 s.1 e r.2 s.2 in
                sym r.3 ∙ ap (λ (t : ℕ × Handler). t.0) same ∙ s.3
          ]
        ]
      where
        twice : (k l : ℕ) (g h : ℕ × Handler) → k < l → slice_get p.handlers k ≡ Some g → slice_get p.handlers l ≡ Some h → g.1 ≡ h.1 → ⊥
        twice k l g h lt m n e =
            let o = (ordered-of list offs p).order k l g.1 h.1 lt (second-get p.handlers k g m) (second-get p.handlers l h n) in
            let back = subst (λ (z : Handler). Before Handler (λ j. handler_of (try_at ts j)) (length ts) z h.1) e o in
            both-ways Handler (λ j. handler_of (try_at ts j)) (length ts) h.1 h.1 back back ((ordered-of list offs p).used l h.1 (second-get p.handlers l h n))

        one-there : (hs : List (ℕ × Handler)) (k l : ℕ) (g h : ℕ × Handler) → k ≡ l → slice_get hs k ≡ Some g → slice_get hs l ≡ Some h → g ≡ h
        one-there hs k l g h e m n = cc

    pub layout-once : (la oa lb ob : List ℕ) → PacksHandlersOf N ss ts la oa → PacksHandlersOf N ss ts lb ob → (la ≡ lb) × (oa ≡ ob)
    layout-once la oa lb ob p q =
        let e = ordered-one Handler (λ i. handler_of (try_at ts i)) (length ts) (map (λ (r : ℕ × Handler). r.1) p.handlers) (map (λ (r : ℕ × Handler). r.1) q.handlers)
        (ordered-of la oa p) (ordered-of lb ob q) (into la oa lb ob p q) (into lb ob la oa q p) in
        let l = list-once (length ts) la lb p.handlers q.handlers e p.bytes q.bytes p.spelled q.spelled in
        let a = p.offsets.count in let b = q.offsets.count in (
          l.0,
          same_number_lists oa ob (a ∙ sym b) (λ i li.
              offset-once la oa p i (get_or oa i 0) (get_or ob i 0) (p.offsets.each i (omega arith))
              (ap (λ (hs : List (ℕ × Handler)). handler_at hs (get_or ob i 0)) l.1 ∙ q.offsets.each i (omega arith))),
        )

-- The list of handlers, one by one.
use Rattle.std.proofs.Common.{◌≡◌, ℕ, ◌+◌, ◌-◌, ◌<◌, ◌≤◌, ◌++◌, List, [], ◌∷◌, length, map, get_or, refl, ap, sym, ◌∙◌, arith, zero, suc, subst, append_assoc, length-append}
use Rattle.std.proofs.lemmas.List.{map-append, length-map}
use Rattle.dex_base.specs.Grammar.{Takes, NoneBegins, Placed}
use Rattle.dex_base.specs.Leb128.{Spells, SpellsSigned}
use Rattle.dex_base.proofs.TakesLaws.{Takes-unique, Takes-length}
use Rattle.dex_base.proofs.GrammarLaws.{Each-next}
use Rattle.dex_base.proofs.PlacedLaws.{Placed-push, Placed-each}
use Rattle.dex_base.proofs.Numbers.{spells_unique, some_byte}
use Rattle.dex_base.proofs.Signed.{signed_unique}
use Rattle.program_types.specs.Content.{Name}
use Rattle.code_read.specs.inner.Symbols.{IsFunctional}
use Rattle.code_read.specs.Places.{Rises}
use Rattle.code_read.specs.Handlers.{Handler, SpellsList}
use Rattle.code_read.specs.inner.Handlers.{SpellsHandler}
use Rattle.code_read.specs.inner.HandlerViews.{handler}
use Rattle.code_read.specs.declared.handlers.Caught.{Caught}
use Rattle.code_read.specs.inner.ItemReading.{ReadList}
use Rattle.code_read.proofs.HandlerLaws.{handler-unique}

-- After the count stand these handlers, at these offsets from the list's begin, and what is left follows.
pub record ReadSome (N : ℕ → Name → Type 0) (ss bytes after left offsets : List ℕ) (hs : List Handler) (n : ℕ) : Type 0 where
  pub front : List ℕ
  pub joined : after ≡ front ++ left
  pub placed : List (ℕ × Handler)
  pub spelled : Placed (SpellsHandler N ss) (length bytes - length after) front placed
  pub offsets_are : offsets ≡ map (λ p. p.0) placed
  pub handlers_are : hs ≡ map (λ p. p.1) placed
  pub count : length placed ≡ n

module _ (N : ℕ → Name → Type 0) (ss : List ℕ) where
  pub some-none : (bytes entries offsets : List ℕ) (hs : List Caught) → offsets ≡ [] → hs ≡ [] → ReadSome N ss bytes entries entries offsets (map handler hs) 0
  some-none bytes entries offsets hs a b = record { front = []; joined = refl; placed = []; spelled = refl; offsets_are = a; handlers_are = ap (map handler) b; count = refl }

  pub some-more : (bytes entries left after offsets new : List ℕ) (hs more : List Caught) (h : Caught) (n at : ℕ) → ReadSome N ss bytes entries left offsets (map handler hs) n → Takes (SpellsHandler N ss) left (handler h) after
      → length entries ≤ length bytes → at ≡ length bytes - length left → new ≡ offsets ++ at ∷ [] → more ≡ hs ++ h ∷ [] → ReadSome N ss bytes entries after new (map handler more) (n + 1)
  some-more bytes entries left after offsets new hs more h n at s t l e a b =
      let start = length bytes - length entries in
      let j = ap length s.joined ∙ length-append s.front left in
      let place : start + length s.front ≡ at = omega arith in
      let push = Placed-push (SpellsHandler N ss) start s.front t.front s.placed (handler h) s.spelled t.spelled in
      record {
        front = s.front ++ t.front;
        joined = s.joined ∙ ap (λ (z : List ℕ). s.front ++ z) t.whole ∙ sym (append_assoc s.front t.front after);
        placed = s.placed ++ (at, handler h) ∷ [];
        spelled = subst (λ (k : ℕ). Placed (SpellsHandler N ss) start (s.front ++ t.front) (s.placed ++ (k, handler h) ∷ [])) place push;
        offsets_are = a ∙ ap (λ (z : List ℕ). z ++ at ∷ []) s.offsets_are ∙ sym (map-append (λ (p : ℕ × Handler). p.0) s.placed ((at, handler h) ∷ []));
        handlers_are = ap (map handler) b ∙ map-append handler hs (h ∷ []) ∙ ap (λ (z : List Handler). z ++ handler h ∷ []) s.handlers_are ∙ sym (map-append (λ (p : ℕ × Handler). p.1) s.placed ((at, handler h) ∷ []));
        count = let c = s.count in omega (arith, length-append s.placed ((at, handler h) ∷ []));
      }

  pub some-all : (bytes entries left offsets : List ℕ) (hs : List Handler) (n : ℕ) → Takes Spells bytes n entries → ReadSome N ss bytes entries left offsets hs n → ReadList N ss bytes offsets hs
  some-all bytes entries left offsets hs n t s =
      let l = Takes-length Spells bytes n entries t in
      let start : length bytes - length entries ≡ length t.front = omega arith in
      record {
        list = t.front ++ s.front;
        after = left;
        joined = t.whole ∙ ap (λ (z : List ℕ). t.front ++ z) s.joined ∙ sym (append_assoc t.front s.front left);
        placed = s.placed;
        spelled = record {
          front = t.front;
          back = s.front;
          joined = refl;
          count = subst (λ (k : ℕ). Spells t.front k) (sym s.count) t.spelled;
          each = subst (λ (k : ℕ). Placed (SpellsHandler N ss) k s.front s.placed) start s.spelled;
        };
        offsets_are = s.offsets_are;
        handlers_are = s.handlers_are;
      }

  pub list-none : IsFunctional N → (bytes entries left offsets : List ℕ) (hs : List Handler) (n turn : ℕ) → Takes Spells bytes n entries → ReadSome N ss bytes entries left offsets hs turn → turn < n → NoneBegins (SpellsHandler N ss) left → NoneBegins (SpellsList N ss) bytes
  list-none f bytes entries left offsets hs n turn t s l none front rest gs e q =
      let w : bytes ≡ q.front ++ (q.back ++ rest) = e ∙ ap (λ (z : List ℕ). z ++ rest) q.joined ∙ append_assoc q.front q.back rest in
      let one = Takes-unique Spells bytes n (length gs) entries (q.back ++ rest) spells_unique t (record { front = q.front; whole = w; spelled = q.count }) in
      let k = s.count in let m = one.0 in
      let short : length (map (λ (p : ℕ × Handler). p.1) s.placed) < length (map (λ (p : ℕ × Handler). p.1) gs) = omega (arith, length-map s.placed (λ (p : ℕ × Handler). p.1), length-map gs (λ (p : ℕ × Handler). p.1)) in
      let next = Each-next (SpellsHandler N ss) (handler-unique Spells SpellsSigned N ss spells_unique signed_unique f) (map (λ (p : ℕ × Handler). p.1) s.placed) (map (λ (p : ℕ × Handler). p.1) gs) s.front q.back left rest short
      (Placed-each (SpellsHandler N ss) _ s.front s.placed s.spelled) (Placed-each (SpellsHandler N ss) _ q.back gs q.each) (sym s.joined ∙ one.1) in
      none next.0 next.1 next.2 next.3 next.4

  -- ---- offsets rise

  handler-some : (bytes : List ℕ) (h : Handler) → SpellsHandler N ss bytes h → 0 < length bytes
  handler-some bytes h s =
      let a = some_byte s.spelled.front s.spelled.first.sequence in
      let j = ap length s.spelled.joined ∙ length-append s.spelled.front s.spelled.back in
      omega arith

  placed-low : (start : ℕ) (bytes : List ℕ) (ps : List (ℕ × Handler)) (i : ℕ) → Placed (SpellsHandler N ss) start bytes ps → i < length ps → start ≤ get_or (map (λ (p : ℕ × Handler). p.0) ps) i 0
  placed-low start bytes [] i h l = absurd (omega arith)
  placed-low start bytes (p ∷ ps) zero h l = let e = h.3 in omega arith
  placed-low start bytes (p ∷ ps) (suc i) h l = let r = placed-low (start + length h.0) h.1 ps i h.5 (omega arith) in omega arith

  placed-rises : (start : ℕ) (bytes : List ℕ) (ps : List (ℕ × Handler)) (i j : ℕ) → Placed (SpellsHandler N ss) start bytes ps → i < j → j < length ps → get_or (map (λ (p : ℕ × Handler). p.0) ps) i 0 < get_or (map (λ (p : ℕ × Handler). p.0) ps) j 0
  placed-rises start bytes [] i j h a l = absurd (omega arith)
  placed-rises start bytes (p ∷ ps) i zero h a l = absurd (omega arith)
  placed-rises start bytes (p ∷ ps) zero (suc j) h a l =
      let r = placed-low (start + length h.0) h.1 ps j h.5 (omega arith) in
      let e = h.3 in let s = handler-some h.0 p.1 h.4 in omega arith
  placed-rises start bytes (p ∷ ps) (suc i) (suc j) h a l = placed-rises (start + length h.0) h.1 ps i j h.5 (omega arith) (omega arith)

  pub offsets-rise : (bytes entries left offsets : List ℕ) (hs : List Handler) (n : ℕ) → ReadSome N ss bytes entries left offsets hs n → Rises offsets
  offsets-rise bytes entries left offsets hs n s =
      let k = length-map s.placed (λ (p : ℕ × Handler). p.0) in
      let o = ap length s.offsets_are in
      record { each = λ i j a l. rw s.offsets_are (placed-rises _ s.front s.placed i j s.spelled a (omega arith)) }

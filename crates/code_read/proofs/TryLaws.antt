-- Tries, from try_items and handlers.
use Rattle.std.proofs.Common.{◌≡◌, ◌≢◌, ℕ, ◌+◌, ◌*◌, ◌<◌, ◌++◌, List, [], ◌∷◌, length, map, get_or, refl, ap, sym, ◌∙◌, arith, zero, suc, subst, Option, Some, None, inl, inr, if◌then◌else◌, ◌==◌, Bool, true, false, length-append}
use Rattle.std.specs.Prelude.{option_map, slice_get, Result, Ok, Err, IfErr}
use Rattle.dex_base.specs.declared.fault.Fault.{Fault}
use Rattle.dex_base.specs.Grammar.{NoneBegins}
use Rattle.program_types.specs.Content.{Name, Try}
use Rattle.code_read.specs.inner.Symbols.{IsFunctional}
use Rattle.code_read.specs.Places.{position}
use Rattle.code_rules.specs.First.{AllHold}
use Rattle.code_read.specs.Item.{try_handler}
use Rattle.code_read.specs.Handlers.{Handler, SpellsList, handler_at}
use Rattle.code_read.specs.Tries.{TryHolds, handler_of}
use Rattle.program_types.specs.Formed.{try_at}
use Rattle.code_read.specs.Faults.{TriesBreak, list_fault}
use Rattle.code_read.specs.inner.ItemReading.{ReadTries, ReadList, TakesTry, TakesTries, NoHandler}
use Rattle.code_read.proofs.PlaceLaws.{map-suc}
use Rattle.code_read.proofs.HandlerLaws.{SpellsList-unique}
use Rattle.std.proofs.lemmas.Bool.{cases_lt}
use Rattle.std.proofs.lemmas.List.{map-append}
use Rattle.program_types.specs.View.{try}
use Rattle.program_types.specs.declared.code.Try.{Try as Held}
use Rattle.code_read.proofs.Lists.{at-old, at-new}
use Rattle.code_read.specs.inner.HandlerViews.{handler}
use Rattle.code_read.specs.declared.handlers.Caught.{Caught}

-- the offsets, and the handlers
abbrev pub offs : List (ℕ × Handler) → List ℕ
offs ps = map (λ (p : ℕ × Handler). p.0) ps

abbrev pub hans : List (ℕ × Handler) → List Handler
hans ps = map (λ (p : ℕ × Handler). p.1) ps

found_case : (t : Bool) (ps : List (ℕ × Handler)) (q : Handler) (off k : ℕ) (h : Handler) → (if t then Some 0 else option_map (λ (n : ℕ). n + 1) (position (offs ps) off)) ≡ Some k → slice_get (q ∷ hans ps) k ≡ Some h
    → ((j : ℕ) → position (offs ps) off ≡ Some j → slice_get (hans ps) j ≡ Some h → handler_at ps off ≡ Some h) → (if t then Some q else handler_at ps off) ≡ Some h
found_case true ps q off k h e g r = let z : k ≡ 0 = cc in subst (λ (j : ℕ). slice_get (q ∷ hans ps) j ≡ Some h) z g
found_case false ps q off k h e g r =
    let m = map-suc (position (offs ps) off) k e in
    let q1 = m.2 in
    let z : k ≡ suc m.0 = omega arith in
    r m.0 m.1 (subst (λ (j : ℕ). slice_get (q ∷ hans ps) j ≡ Some h) z g)

-- the handler at an offset, by where the offset stands among the offsets
found : (ps : List (ℕ × Handler)) (off k : ℕ) (h : Handler) → position (offs ps) off ≡ Some k → slice_get (hans ps) k ≡ Some h → handler_at ps off ≡ Some h
unfolding position handler_at
found [] off k h e g = cc
found (p ∷ ps) off k h e g = found_case (p.0 == off) ps p.1 off k h e g (λ j a c. found ps off j h a c)

missing_case : (t : Bool) (ps : List (ℕ × Handler)) (q : Handler) (off : ℕ) (h : Handler) → (if t then Some 0 else option_map (λ (n : ℕ). n + 1) (position (offs ps) off)) ≡ None → (if t then Some q else handler_at ps off) ≡ Some h
    → (position (offs ps) off ≡ None → handler_at ps off ≡ Some h → ⊥) → ⊥
missing_case true ps q off h e g r = cc
missing_case false ps q off h e g r = r (map-none (position (offs ps) off) e) g
  where
    map-none : (o : Option ℕ) → option_map (λ (n : ℕ). n + 1) o ≡ None → o ≡ None
    map-none None e = refl
    map-none (Some n) e = cc

missing : (ps : List (ℕ × Handler)) (off : ℕ) (h : Handler) → position (offs ps) off ≡ None → handler_at ps off ≡ Some h → ⊥
unfolding position handler_at
missing [] off h e g = cc
missing (p ∷ ps) off h e g = missing_case (p.0 == off) ps p.1 off h e g (λ a c. missing ps off h a c)

pub no-tries : (N : ℕ → Name → Type 0) (ss : List ℕ) (size n : ℕ) (items rest : List ℕ) → n ≡ 0 → ReadTries N ss size n items rest []
no-tries N ss size zero items rest e =
    record { list = []; after = rest; joined = refl; tries = record { count = refl; hold = λ k l. absurd (omega arith); handlers = []; spelled = (refl, refl); each = λ k l. absurd (omega arith) } }
no-tries N ss size (suc n) items rest e = absurd (omega arith)

pub some-tries : (N : ℕ → Name → Type 0) (ss : List ℕ) (size n : ℕ) (items rest offsets : List ℕ) (hs : List Handler) (ts : List Try) → n ≢ 0 → AllHold (TryHolds ss size items) n
    → ReadList N ss rest offsets hs → TakesTries ss items offsets hs n ts → ReadTries N ss size n items rest ts
some-tries N ss size zero items rest offsets hs ts nz hold l t = absurd (nz refl)
some-tries N ss size (suc n) items rest offsets hs ts nz hold l t = record {
  list = l.list;
  after = l.after;
  joined = l.joined;
  tries = record {
    count = t.count;
    hold = hold;
    handlers = l.placed;
    spelled = l.spelled;
    each = λ i m. record {
      from = (t.each i m).from;
      to = (t.each i m).to;
      handler = found l.placed _ (t.each i m).number _
          (subst (λ (os : List ℕ). position os (try_handler items i) ≡ Some (t.each i m).number) l.offsets_are (t.each i m).at)
          (subst (λ (gs : List Handler). slice_get gs (t.each i m).number ≡ Some (handler_of (try_at ts i))) l.handlers_are (t.each i m).handler);
    };
  };
}

pub no-list : (N : ℕ → Name → Type 0) (ss : List ℕ) (size n : ℕ) (items rest : List ℕ) (base : ℕ) (fault : Fault) → n ≢ 0 → AllHold (TryHolds ss size items) n → fault ≡ list_fault (base + 8 * n) → NoneBegins (SpellsList N ss) rest → TriesBreak N ss size n items rest base fault
no-list N ss size n items rest base fault nz hold e none = inr (hold, inl (λ has. (let h = has (omega arith) in none h.list h.after h.handlers h.joined h.spelled), e))

pub no-handler : (N : ℕ → Name → Type 0) (ss : List ℕ) (size n : ℕ) (items rest offsets : List ℕ) (hs : List Handler) (base : ℕ) (fault : Fault) → IsFunctional N → n ≢ 0 → AllHold (TryHolds ss size items) n → fault ≡ list_fault (base + 8 * n)
    → ReadList N ss rest offsets hs → NoHandler items offsets n → TriesBreak N ss size n items rest base fault
no-handler N ss size n items rest offsets hs base fault f nz hold e l none = inr (
  hold,
  inl (
    (λ has.
        let h = has (omega arith) in
        let same = (SpellsList-unique N ss f l.list h.list l.after h.after l.placed h.handlers l.spelled h.spelled (sym l.joined ∙ h.joined)).1 in
        let one = h.each none.0 none.1 in
        missing l.placed (try_handler items none.0) one.0
        (subst (λ (os : List ℕ). position os (try_handler items none.0) ≡ None) l.offsets_are none.2)
        (subst (λ (ps : List (ℕ × Handler)). handler_at ps (try_handler items none.0) ≡ Some one.0) (sym same) one.1)),
    e,
  ),
)

-- two facts of a refusal at once
pub err-both : {T E : Type 0} (P Q R : E → Type 0) (r : Result T E) → ((e : E) → P e → Q e → R e) → IfErr r P → IfErr r Q → IfErr r R
err-both P Q R (Ok x) f p q = tt
err-both P Q R (Err e) f p q = f e p q

-- ---- one by one

-- the first n are taken
pub record SomeTaken (ss items offsets : List ℕ) (hs : List Handler) (ts : List Try) (n : ℕ) : Type 0 where
  pub count : length ts ≡ n
  pub each : (j : ℕ) → j < n → TakesTry ss items offsets hs j (try_at ts j)

pub taken-none : (ss items offsets : List ℕ) (hs : List Handler) (xs : List Held) → xs ≡ [] → SomeTaken ss items offsets hs (map try xs) 0
taken-none ss items offsets hs xs e = record { count = ap (λ (l : List Held). length (map try l)) e; each = λ j l. absurd (omega arith) }

-- past the end of a list
abbrev pub no_try : Try
no_try = record { from = 0; to = 0; catches = []; catch_all = None }

pub taken-more : (ss items offsets : List ℕ) (hs : List Handler) (k : ℕ) (xs new : List Held) (x : Held) → SomeTaken ss items offsets hs (map try xs) k → TakesTry ss items offsets hs k (try x) → new ≡ xs ++ x ∷ [] → SomeTaken ss items offsets hs (map try new) (k + 1)
taken-more ss items offsets hs k xs new x s h e =
    let ts = map try xs in
    let m : map try new ≡ ts ++ try x ∷ [] = ap (map try) e ∙ map-append try xs (x ∷ []) in
    let n = s.count in
    subst (λ (l : List Try). SomeTaken ss items offsets hs l (k + 1)) (sym m) (record {
      count = omega (arith, length-append ts (try x ∷ []));
      each = λ j l. elim (cases_lt j k) [
        | inl a ↦ subst (λ (t : Try). TakesTry ss items offsets hs j t) (sym (at-old ts (try x) no_try j (omega arith))) (s.each j a)
        | inr a ↦
            let i : k ≡ j = omega arith in
            let g : get_or (ts ++ try x ∷ []) k no_try ≡ try x = subst (λ (q : ℕ). get_or (ts ++ try x ∷ []) q no_try ≡ try x) n (at-new ts (try x) no_try) in
            subst (λ (q : ℕ). TakesTry ss items offsets hs q (get_or (ts ++ try x ∷ []) q no_try)) i (subst (λ (t : Try). TakesTry ss items offsets hs k t) (sym g) h)
      ];
    })

pub taken-all : (ss items offsets : List ℕ) (hs : List Handler) (ts : List Try) (n k : ℕ) → k ≡ n → SomeTaken ss items offsets hs ts k → TakesTries ss items offsets hs n ts
taken-all ss items offsets hs ts n k e s = record { count = s.count ∙ e; each = λ j l. s.each j (omega arith) }

-- a handler by its number
pub held-at : (xs : List Caught) (k : ℕ) (x : Caught) → k < length xs → x ≡ get_or xs k x → slice_get (map handler xs) k ≡ Some (handler x)
held-at [] k x l e = absurd (omega arith)
held-at (y ∷ ys) zero x l e = ap (λ (h : Caught). Some (handler h)) (sym e)
held-at (y ∷ ys) (suc k) x l e = held-at ys k x (omega arith) e

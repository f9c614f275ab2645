-- Handlers at the front of bytes.
use Rattle.std.proofs.Common.{◌≡◌, ℕ, ℤ, pos, negsuc, ◌<◌, ◌++◌, List, [], ◌∷◌, length, map, refl, ap, sym, ◌∙◌, arith, zero, suc, subst, Option, Some, None, ◌<ℤ◌}
use Rattle.std.proofs.lemmas.Int.{ints}
use Rattle.std.proofs.lemmas.List.{map-append}
use Rattle.program_types.specs.View.{catch}
use Rattle.program_types.specs.declared.code.Catch.{Catch as Held}
use Rattle.dex_base.specs.Grammar.{Takes, NoneBegins, Then, Pair, Many, Each}
use Rattle.dex_base.specs.Leb128.{Spells, SpellsSigned}
use Rattle.dex_base.proofs.TakesLaws.{Begins-from_takes, Takes-then, Takes-each_push}
use Rattle.dex_base.proofs.ViaLaws.{via-none, second-none}
use Rattle.dex_base.proofs.GrammarLaws.{Then-none_first, Many-none, Many-unique}
use Rattle.dex_base.proofs.Numbers.{spells_unique}
use Rattle.dex_base.proofs.Signed.{signed_unique}
use Rattle.program_types.specs.Content.{Catch, Name}
use Rattle.code_read.specs.inner.Symbols.{IsFunctional}
use Rattle.code_read.specs.Handlers.{Handler, catches_of, HasAll, AllBy, PartsBy}
use Rattle.code_read.specs.inner.Handlers.{SpellsAddress, SpellsCatchType, SpellsCatch, SpellsHandler}
use Rattle.code_read.proofs.HandlerLaws.{catch-unique}

-- The catch-all, there exactly if the count isn't positive.
abbrev pub SpellsCatchAll : (ℕ → Name → Type 0) → List ℕ → ℤ → List ℕ → Option ℕ → Type 0
SpellsCatchAll = AllBy Spells SpellsSigned

-- The catches of a handler, and its catch-all.
abbrev pub SpellsParts : (ℕ → Name → Type 0) → List ℕ → ℤ → List ℕ → List Catch × Option ℕ → Type 0
SpellsParts = PartsBy Spells SpellsSigned

-- ---- catches

module _ (N : ℕ → Name → Type 0) (ss : List ℕ) where
  pub catch-takes : (bytes mid rest : List ℕ) (c : Catch) → Takes (SpellsCatchType N ss) bytes c.ty mid → Takes (SpellsAddress N ss) mid c.at rest → Takes (SpellsCatch N ss) bytes c rest
  catch-takes bytes mid rest c p q =
      let t = Takes-then (SpellsCatchType N ss) (λ _. SpellsAddress N ss) bytes mid rest c.ty c.at p q in
      record { front = t.front; whole = t.whole; spelled = t.spelled }

  pub catch-none : (bytes : List ℕ) → NoneBegins (Pair (SpellsCatchType N ss) (SpellsAddress N ss)) bytes → NoneBegins (SpellsCatch N ss) bytes
  catch-none bytes none front rest c e s = none front rest (c.ty, c.at) e s

  pub catches-none : IsFunctional N → (n : ℕ) (bytes left : List ℕ) (cs : List Catch) → Takes (Each (SpellsCatch N ss)) bytes cs left → length cs < n → NoneBegins (SpellsCatch N ss) left → NoneBegins (Many (SpellsCatch N ss) n) bytes
  catches-none f n bytes left cs t l none =
      let b = Begins-from_takes (Each (SpellsCatch N ss)) bytes cs left t in
      Many-none (SpellsCatch N ss) n bytes cs (length t.front) (catch-unique Spells SpellsSigned N ss spells_unique signed_unique f) b.0 l (subst (λ (z : List ℕ). NoneBegins (SpellsCatch N ss) z) (sym b.1) none)

  -- ---- a handler

  pub handler-takes : (z : ℤ) (bytes r1 r2 r3 : List ℕ) (h : Handler) → Takes SpellsSigned bytes z r1 → Takes (Many (SpellsCatch N ss) (catches_of z)) r1 h.catches r2 → Takes (SpellsCatchAll N ss z) r2 h.all r3 → Takes (SpellsHandler N ss) bytes h r3
  handler-takes z bytes r1 r2 r3 h p q r =
      let parts = Takes-then (Many (SpellsCatch N ss) (catches_of z)) (λ _. SpellsCatchAll N ss z) r1 r2 r3 h.catches h.all q r in
      let all = Takes-then SpellsSigned (SpellsParts N ss) bytes r1 r3 z (h.catches, h.all) p parts in
      record { front = all.front; whole = all.whole; spelled = record { raw = (z, (h.catches, h.all)); spelled = all.spelled; means = refl } }

  pub all-none : (z : ℤ) (bytes : List ℕ) → (HasAll z → ⊥) → Takes (SpellsCatchAll N ss z) bytes None bytes
  all-none z bytes lacks = record { front = []; whole = refl; spelled = (lacks, refl) }

  pub all-some : (z : ℤ) (bytes rest : List ℕ) (n : ℕ) → HasAll z → Takes (SpellsAddress N ss) bytes n rest → Takes (SpellsCatchAll N ss z) bytes (Some n) rest
  all-some z bytes rest n h t = record { front = t.front; whole = t.whole; spelled = (h, t.spelled) }

  pub handler-none-number : (bytes : List ℕ) → NoneBegins SpellsSigned bytes → NoneBegins (SpellsHandler N ss) bytes
  handler-none-number bytes none = via-none (Then SpellsSigned (SpellsParts N ss)) _ bytes (Then-none_first SpellsSigned (SpellsParts N ss) bytes none)

  pub handler-none-catches : (z : ℤ) (bytes mid : List ℕ) → Takes SpellsSigned bytes z mid → NoneBegins (Many (SpellsCatch N ss) (catches_of z)) mid → NoneBegins (SpellsHandler N ss) bytes
  handler-none-catches z bytes mid t none =
      via-none (Then SpellsSigned (SpellsParts N ss)) _ bytes
      (second-none SpellsSigned (SpellsParts N ss) bytes mid z signed_unique t (Then-none_first (Many (SpellsCatch N ss) (catches_of z)) (λ _. SpellsCatchAll N ss z) mid none))

  pub handler-none-all : IsFunctional N → (z : ℤ) (bytes r1 r2 : List ℕ) (cs : List Catch) → Takes SpellsSigned bytes z r1 → Takes (Many (SpellsCatch N ss) (catches_of z)) r1 cs r2 → HasAll z → NoneBegins (SpellsAddress N ss) r2 → NoneBegins (SpellsHandler N ss) bytes
  handler-none-all f z bytes r1 r2 cs t q has none =
      via-none (Then SpellsSigned (SpellsParts N ss)) _ bytes
      (second-none SpellsSigned (SpellsParts N ss) bytes r1 z signed_unique t
      (second-none (Many (SpellsCatch N ss) (catches_of z)) (λ _. SpellsCatchAll N ss z) r1 r2 cs (Many-unique (SpellsCatch N ss) (catches_of z) (catch-unique Spells SpellsSigned N ss spells_unique signed_unique f)) q
      (all-refused z r2 has none)))
    where
      all-refused : (y : ℤ) (bs : List ℕ) → HasAll y → NoneBegins (SpellsAddress N ss) bs → NoneBegins (SpellsCatchAll N ss y) bs
      all-refused y bs h p front rest None e s = s.0 h
      all-refused y bs h p front rest (Some k) e s = p front rest k e s.1

pub has-all : (z : ℤ) → (pos 0 <ℤ z → ⊥) → HasAll z
has-all (pos zero) h = tt
has-all (pos (suc n)) h = absurd (h (omega (arith, ints)))
has-all (negsuc n) h = tt

pub lacks-all : (z : ℤ) → pos 0 <ℤ z → HasAll z → ⊥
lacks-all (pos zero) h a = omega (arith, ints)
lacks-all (pos (suc n)) h a = a
lacks-all (negsuc n) h a = omega (arith, ints)

-- one catch more
pub taken-more : (G : List ℕ → Catch → Type 0) (bytes mid left : List ℕ) (items new : List Held) (one : Held) → Takes (Each G) bytes (map catch items) mid → Takes G mid (catch one) left → new ≡ items ++ one ∷ [] → Takes (Each G) bytes (map catch new) left
taken-more G bytes mid left items new one p q e =
    let t = Takes-each_push G bytes mid left (map catch items) (catch one) p q in
    subst (λ (cs : List Catch). Takes (Each G) bytes cs left) (sym (ap (map catch) e ∙ map-append catch items (one ∷ []))) t

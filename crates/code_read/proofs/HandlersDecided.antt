-- Whether handlers stand at the front of bytes is decided.
use Rattle.std.proofs.Common.{◌≡◌, ℕ, ℤ, pos, negsuc, zero, suc, inl, inr, Option, Some, None, List, ◌++◌, length, map, refl, sym, ap, ◌∙◌, subst, append_assoc}
use Rattle.std.proofs.lemmas.List.{length-map}
use Rattle.dex_base.specs.Deciding.{Decided, DecidedFront}
use Rattle.dex_base.specs.Grammar.{Takes, Each, Many, Then}
use Rattle.dex_base.specs.Leb128.{Spells, SpellsSigned}
use Rattle.dex_base.proofs.Deciding.{DecidedEach, decide_uleb, decide_each, decide_like}
use Rattle.dex_base.proofs.GrammarLaws.{Then-unique, Many-unique}
use Rattle.dex_base.proofs.Numbers.{spells_unique}
use Rattle.dex_base.proofs.PlacedLaws.{Placed-each, Placed-from_each}
use Rattle.dex_base.proofs.Signed.{signed_unique}
use Rattle.dex_base.proofs.TakesLaws.{Takes-unique}
use Rattle.dex_insn.specs.declared.opcode.IndexKind.TheVariants as kind
use Rattle.program_types.specs.Content.{Name, OfDesc, Descriptor}
use Rattle.program_types.specs.Kinds.{IsOfKind}
use Rattle.code_read.specs.Places.{position}
use Rattle.code_read.specs.inner.Symbols.{IsFunctional}
use Rattle.code_read.specs.Handlers.{Handler, catches_of, HasAll, SpellsList}
use Rattle.code_read.specs.inner.Handlers.{SpellsAddress, SpellsCatchType, SpellsCatch, SpellsHandler}
use Rattle.code_read.proofs.HandlerLaws.{type-unique, catch-unique, parts-unique, handler-unique}
use Rattle.code_read.proofs.HandlerReading.{SpellsCatchAll, SpellsParts, all-none, all-some}
use Rattle.code_read.proofs.Deciding.{decide-then, decide-many, decide-via, decide-sleb, decide-there}
use Rattle.code_read.proofs.RulesDecided.{AreNamesDecided}

decide-has-all : (z : ℤ) → Decided (HasAll z)
decide-has-all (pos zero) = inl tt
decide-has-all (pos (suc n)) = inr (λ h. h)
decide-has-all (negsuc n) = inl tt

module _ (N : ℕ → Name → Type 0) (names : AreNamesDecided N) (functional : IsFunctional N) (ss : List ℕ) where
  decide-place : (bytes : List ℕ) → DecidedFront (SpellsAddress N ss) bytes
  decide-place = decide-via Spells (λ address n. position ss address ≡ Some n) spells_unique decide_uleb (λ address. decide-there (position ss address))

  type-there : (i : ℕ) → Decided ((ty : Descriptor) × N i (OfDesc ty))
  type-there i = decide_like (λ x. desc-of x.0 x.1 x.2) (λ (x : (ty : Descriptor) × N i (OfDesc ty)). (OfDesc x.0, tt, x.1)) (names kind.Type i)
    where
      desc-of : (which : Name) → IsOfKind kind.Type which → N i which → (ty : Descriptor) × N i (OfDesc ty)
      desc-of (OfDesc ty) k n = (ty, n)
      desc-of _ k n = absurd k

  decide-type : (bytes : List ℕ) → DecidedFront (SpellsCatchType N ss) bytes
  decide-type = decide-via Spells (λ i ty. N i (OfDesc ty)) spells_unique decide_uleb type-there

  decide-catch : (bytes : List ℕ) → DecidedFront (SpellsCatch N ss) bytes
  decide-catch bytes = elim (decide-then (SpellsCatchType N ss) (λ _. SpellsAddress N ss) (type-unique Spells SpellsSigned N ss spells_unique signed_unique functional) decide-type (λ _. decide-place) bytes) [
    | inl x ↦ inl (record { ty = x.0.0; at = x.0.1 }, x.1, record { front = x.2.front; whole = x.2.whole; spelled = x.2.spelled })
    | inr none ↦ inr (λ c rest t. none (c.ty, c.at) rest (record { front = t.front; whole = t.whole; spelled = t.spelled }))
  ]

  decide-all : (z : ℤ) (bytes : List ℕ) → DecidedFront (SpellsCatchAll N ss z) bytes
  decide-all z bytes = elim (decide-has-all z) [
    | inr lacks ↦ inl (None, bytes, all-none N ss z bytes lacks)
    | inl has ↦ elim (decide-place bytes) [
      | inl x ↦ inl (Some x.0, x.1, all-some N ss z bytes x.1 x.0 has x.2)
      | inr none ↦ inr (refused has none)
    ]
  ]
    where
      refused : HasAll z → ((n : ℕ) (rest : List ℕ) → Takes (SpellsAddress N ss) bytes n rest → ⊥) → (o : Option ℕ) (rest : List ℕ) → Takes (SpellsCatchAll N ss z) bytes o rest → ⊥
      refused has none None rest t = t.spelled.0 has
      refused has none (Some n) rest t = none n rest (record { front = t.front; whole = t.whole; spelled = t.spelled.1 })

  decide-parts : (z : ℤ) (bytes : List ℕ) → DecidedFront (SpellsParts N ss z) bytes
  decide-parts z =
      let one = catch-unique Spells SpellsSigned N ss spells_unique signed_unique functional in
      decide-then (Many (SpellsCatch N ss) (catches_of z)) (λ _. SpellsCatchAll N ss z) (Many-unique (SpellsCatch N ss) (catches_of z) one) (decide-many (SpellsCatch N ss) one decide-catch (catches_of z)) (λ _. decide-all z)

  decide-handler : (bytes : List ℕ) → DecidedFront (SpellsHandler N ss) bytes
  decide-handler = decide-via (Then SpellsSigned (SpellsParts N ss)) (λ p h. p.1 ≡ (h.catches, h.all))
      (Then-unique SpellsSigned (SpellsParts N ss) signed_unique (parts-unique Spells SpellsSigned N ss spells_unique signed_unique functional))
      (decide-then SpellsSigned (SpellsParts N ss) signed_unique decide-sleb decide-parts)
      (λ p. inl (record { catches = p.1.0; all = p.1.1 }, refl))

  -- ---- the list

  list-from : (n : ℕ) (bytes mid rest : List ℕ) (hs : List Handler) → Takes Spells bytes n mid → length hs ≡ n → Takes (Each (SpellsHandler N ss)) mid hs rest → (ps : List (ℕ × Handler)) × Takes (SpellsList N ss) bytes ps rest
  list-from n bytes mid rest hs c e t =
      let p = Placed-from_each (SpellsHandler N ss) (length c.front) t.front hs t.spelled in
      let count : n ≡ length p.0 = sym e ∙ sym (ap length p.2) ∙ length-map p.0 (λ (q : ℕ × Handler). q.1) in (
        p.0,
        record {
          front = c.front ++ t.front;
          whole = c.whole ∙ ap (λ (l : List ℕ). c.front ++ l) t.whole ∙ sym (append_assoc c.front t.front rest);
          spelled = record { front = c.front; back = t.front; joined = refl; count = subst (λ (k : ℕ). Spells c.front k) count c.spelled; each = p.1 };
        },
      )

  no-count : (bytes : List ℕ) → ((n : ℕ) (rest : List ℕ) → Takes Spells bytes n rest → ⊥) → (hs : List (ℕ × Handler)) (rest : List ℕ) → Takes (SpellsList N ss) bytes hs rest → ⊥
  no-count bytes none hs rest t =
      let s = t.spelled in
      none (length hs) (s.back ++ rest) (record { front = s.front; whole = t.whole ∙ ap (λ (l : List ℕ). l ++ rest) s.joined ∙ append_assoc s.front s.back rest; spelled = s.count })

  no-handlers : (n : ℕ) (bytes mid : List ℕ) → Takes Spells bytes n mid → ((vs : List Handler) (rest : List ℕ) → length vs ≡ n → Takes (Each (SpellsHandler N ss)) mid vs rest → ⊥) → (hs : List (ℕ × Handler)) (rest : List ℕ) → Takes (SpellsList N ss) bytes hs rest → ⊥
  no-handlers n bytes mid c none hs rest t =
      let s = t.spelled in
      let d : Takes Spells bytes (length hs) (s.back ++ rest) = record { front = s.front; whole = t.whole ∙ ap (λ (l : List ℕ). l ++ rest) s.joined ∙ append_assoc s.front s.back rest; spelled = s.count } in
      let same = Takes-unique Spells bytes (length hs) n (s.back ++ rest) mid spells_unique d c in
      none (map (λ (q : ℕ × Handler). q.1) hs) rest (length-map hs (λ (q : ℕ × Handler). q.1) ∙ same.0)
      (subst (λ (l : List ℕ). Takes (Each (SpellsHandler N ss)) l (map (λ (q : ℕ × Handler). q.1) hs) rest) same.1
      (record { front = s.back; whole = refl; spelled = Placed-each (SpellsHandler N ss) (length s.front) s.back hs s.each }))

  pub decide-list : (bytes : List ℕ) → DecidedFront (SpellsList N ss) bytes
  unfolding DecidedEach
  decide-list bytes = elim (decide_uleb bytes) [
    | inr none ↦ inr (no-count bytes none)
    | inl c ↦ elim (decide_each (SpellsHandler N ss) (handler-unique Spells SpellsSigned N ss spells_unique signed_unique functional) decide-handler c.0 c.1) [
      | inl x ↦ let l = list-from c.0 bytes c.1 x.1 x.0 c.2 x.2 x.3 in inl (l.0, x.1, l.1)
      | inr none ↦ inr (no-handlers c.0 bytes c.1 c.2 none)
    ]
  ]

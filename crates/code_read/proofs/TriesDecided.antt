-- try_items and handlers spell tries, or one breaks a rule.
use Rattle.std.proofs.Common.{◌≡◌, ℕ, zero, suc, ◌+◌, ◌*◌, ◌≤◌, ◌⊎◌, inl, inr, Some, None, List, [], refl, sym, ◌∙◌, subst, arith}
use Rattle.dex_base.specs.Deciding.{Decided}
use Rattle.dex_base.specs.FirstFault.{FirstBroken}
use Rattle.dex_base.proofs.FirstFaultLaws.{broken_decided}
use Rattle.dex_base.specs.declared.fault.Fault.{Fault}
use Rattle.dex_base.proofs.Deciding.{decide_like, decide_both, decide_lt, decide_le}
use Rattle.program_types.specs.Content.{Name, Try}
use Rattle.code_read.specs.Places.{position, count_below}
use Rattle.code_rules.specs.First.{AllHold}
use Rattle.code_read.specs.inner.Symbols.{IsFunctional}
use Rattle.code_read.specs.Item.{try_start, try_count, try_handler}
use Rattle.code_read.specs.Handlers.{Handler, handler_at}
use Rattle.code_read.specs.Tries.{TryHolds, SpellsTry}
use Rattle.code_read.specs.Faults.{HasHandlers, TriesBreak, list_fault, try_fault}
use Rattle.code_read.specs.inner.ItemReading.{ReadTries}
use Rattle.code_read.proofs.HandlerLaws.{SpellsList-unique}
use Rattle.code_read.proofs.TryLaws.{no-tries}
use Rattle.code_read.proofs.Deciding.{decide-all-below, build, decide-there}
use Rattle.code_read.proofs.RulesDecided.{AreNamesDecided}
use Rattle.code_read.proofs.HandlersDecided.{decide-list}

module _ (ss : List ℕ) (size : ℕ) (items : List ℕ) where
  decide-after : (i : ℕ) → Decided ((j : ℕ) → j + 1 ≡ i → try_start items j + try_count items j ≤ try_start items i)
  decide-after zero = inl (λ j e. absurd (omega (arith, e)))
  decide-after (suc m) = decide_like
      (λ le j e. let same : m ≡ j = omega (arith, e) in subst (λ (k : ℕ). try_start items k + try_count items k ≤ try_start items (suc m)) same le)
      (λ f. f m (omega arith))
      (decide_le (try_start items m + try_count items m) (try_start items (suc m)))

  decide-try : (i : ℕ) → Decided (TryHolds ss size items i)
  decide-try i = decide_like
      (λ x. record { begins = x.0; some = x.1.0; within = x.1.1.0; after = x.1.1.1 })
      (λ (h : TryHolds ss size items i). (h.begins, (h.some, (h.within, h.after))))
      (decide_both (decide-there (position ss (try_start items i)))
      (decide_both (decide_lt 0 (try_count items i))
      (decide_both (decide_le (try_start items i + try_count items i) size) (decide-after i))))

module _ (N : ℕ → Name → Type 0) (names : AreNamesDecided N) (functional : IsFunctional N) (ss : List ℕ) where
  abbrev Targets : List (ℕ × Handler) → List ℕ → ℕ → Type 0
  Targets hs items i = (h : Handler) × (handler_at hs (try_handler items i) ≡ Some h)

  decide-handlers : (n : ℕ) (items rest : List ℕ) → Decided (HasHandlers N ss n items rest)
  decide-handlers n items rest = elim (decide-list N names functional ss rest) [
    | inr none ↦ inr (λ h. none h.handlers h.after (record { front = h.list; whole = h.joined; spelled = h.spelled }))
    | inl x ↦ elim (decide-all-below (Targets x.0 items) (λ i. decide-there (handler_at x.0 (try_handler items i))) n) [
      | inl all ↦ inl (record { list = x.2.front; after = x.1; joined = x.2.whole; handlers = x.0; spelled = x.2.spelled; each = all })
      | inr nay ↦ inr (λ h.
          let same = (SpellsList-unique N ss functional h.list x.2.front h.after x.1 h.handlers x.0 h.spelled x.2.spelled (sym h.joined ∙ x.2.whole)).1 in
          nay (subst (λ (hs : List (ℕ × Handler)). AllHold (Targets hs items) n) same h.each))
    ]
  ]

  -- where all rules hold, tries are spelled
  try-of : (size : ℕ) (items : List ℕ) (hs : List (ℕ × Handler)) (i : ℕ) → TryHolds ss size items i → Targets hs items i → (t : Try) × SpellsTry ss items hs i t
  try-of size items hs i t l = (
    record { from = t.begins.0; to = count_below (try_start items i + try_count items i) ss; catches = l.0.catches; catch_all = l.0.all },
    record { from = t.begins.1; to = refl; handler = l.1 },
  )

  tries-of : (size m : ℕ) (items rest : List ℕ) → AllHold (TryHolds ss size items) (suc m) → HasHandlers N ss (suc m) items rest → (ts : List Try) × ReadTries N ss size (suc m) items rest ts
  tries-of size m items rest hold h =
      let x = build (record { from = 0; to = 0; catches = []; catch_all = None }) (SpellsTry ss items h.handlers) (suc m) (λ i l. try-of size items h.handlers i (hold i l) (h.each i l)) in
      (x.0, record { list = h.list; after = h.after; joined = h.joined; tries = record { count = x.1; hold = hold; handlers = h.handlers; spelled = h.spelled; each = x.2 } })

  pub tries-decided : (size n : ℕ) (items rest : List ℕ) (base : ℕ) → ((ts : List Try) × ReadTries N ss size n items rest ts) ⊎ ((e : Fault) × TriesBreak N ss size n items rest base e)
  tries-decided size zero items rest base = inl ([], no-tries N ss size 0 items rest refl)
  tries-decided size (suc m) items rest base =
      let each : AllHold (TryHolds ss size items) (suc m) ⊎ ((e : Fault) × FirstBroken (suc m) (TryHolds ss size items) (try_fault base) e) = broken_decided (decide-try ss size items) in
      elim each [
        | inr f ↦ inr (f.0, inl f.1)
        | inl hold ↦ elim (decide-handlers (suc m) items rest) [
          | inr none ↦ inr (list_fault (base + 8 * suc m), inr (hold, inl (λ h. none (h (omega arith)), refl)))
          | inl h ↦ inl (tries-of size m items rest hold h)
        ]
      ]

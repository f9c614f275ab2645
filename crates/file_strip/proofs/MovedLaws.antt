-- Items that are kept by the offset at which they stood.
use Rattle.std.proofs.Common.{◌≡◌, ℕ, ◌<◌, Bool, true, false, nat_eq, List, [], ◌∷◌, length, refl, sym, subst, arith, Some, inl, inr}
use Rattle.std.specs.Prelude.{MatchBool}
use Rattle.std.specs.HashMap.{HashMap, IsEmpty, Updates}
use Rattle.file_layout.specs.inner.Sections.{IsItself, is_empty_list}
use Rattle.file_layout.specs.inner.OneMore.{Entry, HasItemAt, PutsOnce}
use Rattle.file_layout.specs.inner.Sharing.{UsesItem}
use Rattle.tables_rows.proofs.CachedLaws.{cached_none, cached_more}
use Rattle.file_strip.specs.inner.Moved.{IsItem, IsPlaced, AreMoved}
use Rattle.dex_base.proofs.ListFacts.{slice_left, get_last}

-- no byte takes no item
pub no_item : (align : ℕ) (kept : List Entry) (old bytes : List ℕ) → length bytes ≡ 0 → UsesItem is_empty_list IsItself align kept kept old old bytes 0
no_item align kept old [] e = (refl, refl, refl)
no_item align kept old (x ∷ bytes) e = absurd (omega (arith, e))

-- some take one
pub some_item : (align : ℕ) (kept more : List Entry) (old new bytes : List ℕ) (place : ℕ) → 0 < length bytes → PutsOnce align kept more old new bytes place → UsesItem is_empty_list IsItself align kept more old new bytes place
some_item align kept more old new [] place some u = absurd (omega (arith, some))
some_item align kept more old new (x ∷ bytes) place some u = (x ∷ bytes, refl, u)

bytes_put : (align : ℕ) (kept more : List Entry) (old new bytes : List ℕ) (place : ℕ) → 0 < length bytes → UsesItem is_empty_list IsItself align kept more old new bytes place → PutsOnce align kept more old new bytes place
bytes_put align kept more old new [] place some u = absurd (omega (arith, some))
bytes_put align kept more old new (x ∷ bytes) place some u = subst (λ (l : List ℕ). PutsOnce align kept more old new l place) u.1 u.2

-- the item of a value's bytes is the value's
pub item_used : {V : Type 0} (none : V → Bool) (K : List ℕ → V → Type 0) (align : ℕ) (kept more : List Entry) (old new bytes : List ℕ) (v : V) (place : ℕ) → IsItem none K bytes v → UsesItem is_empty_list IsItself align kept more old new bytes place
    → UsesItem none K align kept more old new v place
item_used none K align kept more old new bytes v place w u =
    elim (none v) as (λ (t : Bool). MatchBool t (bytes ≡ []) ((0 < length bytes) × K bytes v) → MatchBool t ((place ≡ 0) × (new ≡ old) × (more ≡ kept)) ((bytes : List ℕ) × K bytes v × PutsOnce align kept more old new bytes place)) [
      | true ↦ λ e. subst (λ (l : List ℕ). UsesItem is_empty_list IsItself align kept more old new l place) e u
      | false ↦ λ h. (bytes, h.1, bytes_put align kept more old new bytes place h.0 u)
    ] w

placed_again : (align : ℕ) (kept : List Entry) (old bytes : List ℕ) (place : ℕ) → IsPlaced kept bytes place → UsesItem is_empty_list IsItself align kept kept old old bytes place
placed_again align kept old [] place p = (p, refl, refl)
placed_again align kept old (x ∷ bytes) place p = (x ∷ bytes, refl, inl (record { there = p; whole = refl; same = refl }))

-- what is kept of an offset is used again
pub item_again : {V : Type 0} (none : V → Bool) (K : List ℕ → V → Type 0) (align : ℕ) (kept : List Entry) (old bytes : List ℕ) (v : V) (place : ℕ) → IsItem none K bytes v → IsPlaced kept bytes place → UsesItem none K align kept kept old old v place
item_again none K align kept old bytes v place w p = item_used none K align kept kept old old bytes v place w (placed_again align kept old bytes place p)

-- what is kept stays
put_grows : (align : ℕ) (kept more : List Entry) (old new bytes : List ℕ) (place : ℕ) → PutsOnce align kept more old new bytes place → (b : List ℕ) (p : ℕ) → HasItemAt kept b p → HasItemAt more b p
put_grows align kept more old new bytes place u b p k = elim u [
  | inl again ↦ subst (λ (es : List Entry). HasItemAt es b p) (sym again.same) k
  | inr first ↦ subst (λ (es : List Entry). HasItemAt es b p) (sym first.last) (k.0, slice_left kept ((bytes, place) ∷ []) k.0 (b, p) k.1)
]

grows : (align : ℕ) (kept more : List Entry) (old new bytes : List ℕ) (place : ℕ) → UsesItem is_empty_list IsItself align kept more old new bytes place → (b : List ℕ) (p : ℕ) → HasItemAt kept b p → HasItemAt more b p
grows align kept more old new [] place u b p k = subst (λ (es : List Entry). HasItemAt es b p) (sym u.2) k
grows align kept more old new (x ∷ bytes) place u b p k = put_grows align kept more old new u.0 place u.2 b p k

placed_grows : (kept more : List Entry) → ((b : List ℕ) (p : ℕ) → HasItemAt kept b p → HasItemAt more b p) → (bytes : List ℕ) (place : ℕ) → IsPlaced kept bytes place → IsPlaced more bytes place
placed_grows kept more g [] place p = p
placed_grows kept more g (x ∷ bytes) place p = g (x ∷ bytes) place p

put_there : (align : ℕ) (kept more : List Entry) (old new bytes : List ℕ) (place : ℕ) → PutsOnce align kept more old new bytes place → HasItemAt more bytes place
put_there align kept more old new bytes place u = elim u [
  | inl again ↦ subst (λ (es : List Entry). HasItemAt es bytes place) (sym again.same) again.there
  | inr first ↦ subst (λ (es : List Entry). HasItemAt es bytes place) (sym first.last) (length kept, get_last kept (bytes, place))
]

used_placed : (align : ℕ) (kept more : List Entry) (old new bytes : List ℕ) (place : ℕ) → UsesItem is_empty_list IsItself align kept more old new bytes place → IsPlaced more bytes place
used_placed align kept more old new [] place u = u.0
used_placed align kept more old new (x ∷ bytes) place u = put_there align kept more old new (x ∷ bytes) place (bytes_put align kept more old new (x ∷ bytes) place (omega arith) u)

-- nothing is kept yet
pub moved_none : {S : Type 0} (W : ℕ → List ℕ → Type 0) (kept : List Entry) (places : HashMap ℕ ℕ S) → IsEmpty places → AreMoved W kept places
moved_none W kept places e = cached_none (λ off place. (bytes : List ℕ) × W off bytes × IsPlaced kept bytes place) places e

-- one more is
pub moved_more : {S : Type 0} (W : ℕ → List ℕ → Type 0) (align : ℕ) (kept more : List Entry) (old new bytes : List ℕ) (off place : ℕ) (places further : HashMap ℕ ℕ S) → AreMoved W kept places → W off bytes
    → UsesItem is_empty_list IsItself align kept more old new bytes place → Updates nat_eq places further off (Some place) → AreMoved W more further
moved_more W align kept more old new bytes off place places further m w u up =
    cached_more (λ off place. (bytes : List ℕ) × W off bytes × IsPlaced more bytes place) places further off place
    (λ o q at. let r = m o q at in (r.0, r.1, placed_grows kept more (grows align kept more old new bytes place u) r.0 q r.2))
    (bytes, w, used_placed align kept more old new bytes place u)
    up

-- Items by their bytes.
use Rattle.std.proofs.Common.{◌≡◌, ℕ, zero, suc, ◌<◌, Bool, true, false, cond, List, [], ◌∷◌, ◌++◌, map, length, refl, sym, ap, ◌∙◌, arith, true≢false, Some, None, inl, inr, if◌then◌else◌}
use Rattle.std.proofs.lemmas.Option.{none-some}
use Rattle.std.proofs.lemmas.List.{map-append}
use Rattle.std.proofs.lemmas.Slice.Eq.{bytes_eq-Decides}
use Rattle.std.specs.Map.{lookup}
use Rattle.std.specs.Str.{bytes_eq}
use Rattle.indexmap.specs.IndexMap.{insert_entry}
use Rattle.file_layout.specs.Tiles.{zeros, gap}
use Rattle.file_layout.specs.inner.Sections.{Adds, IsItself}
use Rattle.file_layout.proofs.SectionLaws.{unpadded, gap_one, length-padded}
use Rattle.file_layout.specs.declared.item.Item.{Item}
use Rattle.file_layout.specs.inner.OneMore.{Entry, kept_entry, HasItemAt, PutsOnce}
use Rattle.dex_base.proofs.ListFacts.{some_inj}

abbrev Held : Type 0
Held = Item × ℕ

-- what is found by a test of its bytes
module _ (test : Item → Bool) (bytes : List ℕ) where
  found : ((v : Item) → test v ≡ true → v.bytes.items ≡ bytes) → (es : List Held) (place : ℕ) → lookup test es ≡ Some place → HasItemAt (map kept_entry es) bytes place
  found is [] place e = absurd (none-some place e)
  found is (x ∷ xs) place e = by (test x.0) refl (found is xs place) e
    where
      by : (t : Bool) → test x.0 ≡ t → (lookup test xs ≡ Some place → HasItemAt (map kept_entry xs) bytes place) → cond t (Some x.1) (lookup test xs) ≡ Some place → HasItemAt (map kept_entry (x ∷ xs)) bytes place
      by true t rest e = let p : x.1 ≡ place = cc in (0, λ i. Some (is x.0 t i, p i))
      by false t rest e = let r = rest e in (suc r.0, r.1)

  absent : ((v : Item) → v.bytes.items ≡ bytes → test v ≡ true) → (es : List Held) → lookup test es ≡ None → (place : ℕ) → ¬ HasItemAt (map kept_entry es) bytes place
  absent has [] e place kept = cc kept.1
  absent has (x ∷ xs) e place kept = by (test x.0) refl (λ e k. absent has xs e place k) e kept
    where
      by : (t : Bool) → test x.0 ≡ t → (lookup test xs ≡ None → ¬ HasItemAt (map kept_entry xs) bytes place) → cond t (Some x.1) (lookup test xs) ≡ None → HasItemAt (map kept_entry (x ∷ xs)) bytes place → ⊥
      by true t rest e kept = none-some x.1 (sym e)
      by false t rest e (zero, at) = let b : x.0.bytes.items ≡ bytes = ap (λ (h : Entry). h.0) (some_inj (kept_entry x) (bytes, place) at) in true≢false (sym (has x.0 b) ∙ t)
      by false t rest e (suc k, at) = rest e (k, at)

-- bytes as a key of the map
abbrev same_bytes : Item → Item → Bool
same_bytes x y = bytes_eq x.bytes.items y.bytes.items

-- an item that is there, put once more, changes nothing
insert_again : (es : List Held) (one : Item) (place : ℕ) → lookup (same_bytes one) es ≡ Some place → insert_entry same_bytes es one place ≡ es
insert_again [] one place e = absurd (none-some place e)
insert_again (x ∷ xs) one place e = by (same_bytes one x.0) (insert_again xs one place) e
  where
    by : (t : Bool) → (lookup (same_bytes one) xs ≡ Some place → insert_entry same_bytes xs one place ≡ xs) → cond t (Some x.1) (lookup (same_bytes one) xs) ≡ Some place
        → (if t then (x.0, place) ∷ xs else x ∷ insert_entry same_bytes xs one place) ≡ x ∷ xs
    by true rest e = let p : x.1 ≡ place = cc in (λ i. (x.0, sym p i) ∷ xs)
    by false rest e = ap (λ (l : List Held). x ∷ l) (rest e)

-- a new item goes last
insert_last : (es : List Held) (one : Item) (place : ℕ) → ((other : ℕ) → ¬ HasItemAt (map kept_entry es) one.bytes.items other) → insert_entry same_bytes es one place ≡ es ++ (one, place) ∷ []
insert_last [] one place fresh = refl
insert_last (x ∷ xs) one place fresh = by (bytes_eq one.bytes.items x.0.bytes.items) refl (insert_last xs one place (λ other k. fresh other (suc k.0, k.1)))
  where
    by : (t : Bool) → bytes_eq one.bytes.items x.0.bytes.items ≡ t → insert_entry same_bytes xs one place ≡ xs ++ (one, place) ∷ []
        → (if t then (x.0, place) ∷ xs else x ∷ insert_entry same_bytes xs one place) ≡ x ∷ (xs ++ (one, place) ∷ [])
    by true t rest = absurd (fresh x.1 (0, λ i. Some (sym ((bytes_eq-Decides one.bytes.items x.0.bytes.items).0 t) i, x.1)))
    by false t rest = ap (λ (l : List Held). x ∷ l) rest

last_entry : (es new : List Held) (one : Item) (place : ℕ) → new ≡ es ++ (one, place) ∷ [] → map kept_entry new ≡ map kept_entry es ++ (one.bytes.items, place) ∷ []
last_entry es new one place e = ap (map kept_entry) e ∙ map-append kept_entry es ((one, place) ∷ [])

-- an item after others, with no zeros between
pub adds_here : (old new bytes : List ℕ) (place : ℕ) → 0 < length bytes → place ≡ length old → new ≡ old ++ bytes → Adds IsItself 1 old new bytes place
adds_here old new bytes place some p e = let g = gap_one (length old) in record {
  there = omega (arith, p, g);
  bytes = bytes;
  whole = e ∙ ap (λ (l : List ℕ). l ++ bytes) (sym (unpadded old));
  some = some;
  spelled = refl;
}

-- .. at the next place that 4 divides
pub adds_aligned : (old mid new bytes : List ℕ) (place : ℕ) → 0 < length bytes → mid ≡ old ++ zeros (gap 4 (length old)) → place ≡ length mid → new ≡ mid ++ bytes → Adds IsItself 4 old new bytes place
adds_aligned old mid new bytes place some m p e = record {
  there = p ∙ ap length m ∙ length-padded old (gap 4 (length old));
  bytes = bytes;
  whole = e ∙ ap (λ (l : List ℕ). l ++ bytes) m;
  some = some;
  spelled = refl;
}

-- what the map's entry of these bytes answers, and what the map is once this place is written there
pub puts_again : (align : ℕ) (es new : List Held) (out more : List ℕ) (one : Item) (place : ℕ) → lookup (same_bytes one) es ≡ Some place → new ≡ insert_entry same_bytes es one place → more ≡ out
    → PutsOnce align (map kept_entry es) (map kept_entry new) out more one.bytes.items place
puts_again align es new out more one place e n w = inl (record {
  there = found (same_bytes one) one.bytes.items (λ v t. sym ((bytes_eq-Decides one.bytes.items v.bytes.items).0 t)) es place e;
  whole = w;
  same = ap (map kept_entry) (n ∙ insert_again es one place e);
})

pub puts_first : (align : ℕ) (es new : List Held) (out more : List ℕ) (one : Item) (place : ℕ) → lookup (same_bytes one) es ≡ None → new ≡ insert_entry same_bytes es one place → Adds IsItself align out more one.bytes.items place
    → PutsOnce align (map kept_entry es) (map kept_entry new) out more one.bytes.items place
puts_first align es new out more one place e n a =
    let fresh = absent (same_bytes one) one.bytes.items (λ v s. (bytes_eq-Decides one.bytes.items v.bytes.items).1 (sym s)) es e in
    inr (record { fresh = fresh; adds = a; last = last_entry es new one place (n ∙ insert_last es one place fresh) })

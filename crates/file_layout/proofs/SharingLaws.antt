-- A part of which each item is written once, value by value.
use Rattle.std.proofs.Common.{◌≡◌, ℕ, ◌+◌, ◌<◌, ◌≤◌, Bool, true, false, List, [], ◌∷◌, ◌++◌, length, refl, sym, ap, subst, ◌∙◌, arith, length-append, Some, inl, inr, slice_get, take, drop, get_or}
use Rattle.std.proofs.lemmas.List.{take_more, drop_more, take_all, drop_all}
use Rattle.std.specs.Prelude.{MatchBool}
use Rattle.file_layout.specs.Tiles.{zeros, gap}
use Rattle.file_layout.specs.inner.Tiles.{AreShared, Refers}
use Rattle.file_layout.specs.inner.Sections.{Adds, Laying, Laid}
use Rattle.file_layout.proofs.SectionLaws.{Laying-start, Laying-none, Laying-item, Laying-again, length-padded}
use Rattle.file_layout.proofs.HeldLaws.{held_start, held_none, held_again, held_first, held_shared}
use Rattle.file_layout.specs.inner.OneMore.{Entry, HasItemAt, IsAgain, IsAdded, PutsOnce}
use Rattle.file_layout.specs.inner.Sharing.{IsItemOfDone, AreApart, Sharing, UsesItem}
use Rattle.dex_base.proofs.ListFacts.{zip_length, slice_left, get_last, slice_split}

-- ---- uses

use_more : {V : Type 0} (K : List ℕ → V → Type 0) (done : List V) (places bytes : List ℕ) (place : ℕ) (v : V) (last : ℕ) → IsItemOfDone K done places bytes place → IsItemOfDone K (done ++ v ∷ []) (places ++ last ∷ []) bytes place
use_more K done places bytes place v last u = record {
  turn = u.turn;
  value = u.value;
  there = slice_left done (v ∷ []) u.turn u.value u.there;
  at = slice_left places (last ∷ []) u.turn place u.at;
  spelled = u.spelled;
}

use_last : {V : Type 0} (K : List ℕ → V → Type 0) (done : List V) (places bytes : List ℕ) (place : ℕ) (v : V) → length places ≡ length done → K bytes v → IsItemOfDone K (done ++ v ∷ []) (places ++ place ∷ []) bytes place
use_last K done places bytes place v n k = record {
  turn = length done;
  value = v;
  there = get_last done v;
  at = subst (λ (m : ℕ). slice_get (places ++ place ∷ []) m ≡ Some place) n (get_last places place);
  spelled = k;
}

apart_more : (kept : List Entry) (bytes : List ℕ) (place : ℕ) → AreApart kept → ((other : ℕ) → ¬ HasItemAt kept bytes other) → AreApart (kept ++ (bytes, place) ∷ [])
apart_more kept bytes place apart fresh j k x y at_j at_k same =
    elim (slice_split kept (bytes, place) x j at_j) [
      | inl a ↦ elim (slice_split kept (bytes, place) y k at_k) [
        | inl b ↦ apart j k x y a b same
        | inr b ↦ absurd (fresh x.1 (j, a ∙ (λ i. Some ((same ∙ sym (ap (λ (e : Entry). e.0) b.1)) i, x.1))))
      ]
      | inr a ↦ elim (slice_split kept (bytes, place) y k at_k) [
        | inl b ↦ absurd (fresh y.1 (k, b ∙ (λ i. Some ((sym same ∙ sym (ap (λ (e : Entry). e.0) a.1)) i, y.1))))
        | inr b ↦ a.0 ∙ sym b.0
      ]
    ]

-- ---- value by value

module _ {V : Type 0} (none : V → Bool) (G K : List ℕ → V → Type 0) (align : ℕ) (wide : V → ℕ) where
  pub sharing_start : (old : List ℕ) (all : List V) → Sharing none G K align wide old old [] all all [] []
  sharing_start old all = record { laying = Laying-start none G align wide old all; uses = λ k e at. absurd (cc at); apart = λ j k x y at. absurd (cc at); held = held_start none K [] }

  -- a value that takes no item
  sharing_none : (old out new : List ℕ) (done rest all : List V) (v : V) (places : List ℕ) (place : ℕ) (kept more : List Entry)
      → Sharing none G K align wide old out done (v ∷ rest) all places kept → none v ≡ true → (place ≡ 0) × (new ≡ out) × (more ≡ kept)
      → Sharing none G K align wide old new (done ++ v ∷ []) rest all (places ++ place ∷ []) more
  sharing_none old out new done rest all v places place kept more s e a =
      rw a.2
      (record {
        laying = Laying-none none G align wide old out new done rest all v places place (length kept) s.laying e (a.0, a.1);
        uses = λ k x at. use_more K done places x.0 x.1 v place (s.uses k x at);
        apart = s.apart;
        held = held_none none K done v places place kept s.held e;
      })

  -- one whose item stands already
  sharing_again : (old out new : List ℕ) (done rest all : List V) (v : V) (places : List ℕ) (place : ℕ) (kept more : List Entry) (bytes : List ℕ)
      → ((bytes : List ℕ) (u w : V) → K bytes u → K bytes w → u ≡ w)
      → Sharing none G K align wide old out done (v ∷ rest) all places kept → none v ≡ false → K bytes v → IsAgain kept more out new bytes place
      → Sharing none G K align wide old new (done ++ v ∷ []) rest all (places ++ place ∷ []) more
  sharing_again old out new done rest all v places place kept more bytes one s e k a =
      let u = s.uses a.there.0 (bytes, place) a.there.1 in
      let there : slice_get done u.turn ≡ Some v = u.there ∙ ap (λ (w : V). Some w) (one bytes u.value v u.spelled k) in
      rw (a.whole, a.same)
      (record {
        laying = Laying-again none G align wide old out done rest all v places place (length kept) u.turn s.laying e there u.at;
        uses = λ j x at. use_more K done places x.0 x.1 v place (s.uses j x at);
        apart = s.apart;
        held = held_again none K done v places place kept bytes s.held k a.there;
      })

  -- one with an item of its own
  sharing_first : (old out new : List ℕ) (done rest all : List V) (v : V) (places : List ℕ) (place : ℕ) (kept more : List Entry) (bytes : List ℕ)
      → ((bytes : List ℕ) (u : V) → K bytes u → G bytes u)
      → Sharing none G K align wide old out done (v ∷ rest) all places kept → 0 < length old → none v ≡ false → K bytes v → IsAdded align kept more out new bytes place → length new ≤ length out + wide v
      → Sharing none G K align wide old new (done ++ v ∷ []) rest all (places ++ place ∷ []) more
  sharing_first old out new done rest all v places place kept more bytes packs s front e k f small =
      let a = f.adds in
      let adds : Adds G align out new v place = record { there = a.there; bytes = a.bytes; whole = a.whole; some = a.some; spelled = subst (λ (l : List ℕ). G l v) (sym a.spelled) (packs bytes v k) } in
      let n : length places ≡ length done = zip_length (Refers none s.laying.lays.items) places done s.laying.lays.each in
      let l : length kept + 1 ≡ length (kept ++ (bytes, place) ∷ []) = sym (length-append kept ((bytes, place) ∷ [])) in
      rw f.last
      (record {
        laying = subst (λ (c : ℕ). Laying none G align wide old new (done ++ v ∷ []) rest all (places ++ place ∷ []) c) l (Laying-item none G align wide old out new done rest all v places place (length kept) s.laying front e adds small);
        uses = λ j x at. elim (slice_split kept (bytes, place) x j at) [
          | inl b ↦ use_more K done places x.0 x.1 v place (s.uses j x b)
          | inr b ↦ subst (λ (y : Entry). IsItemOfDone K (done ++ v ∷ []) (places ++ place ∷ []) y.0 y.1) b.1 (use_last K done places bytes place v n k)
        ];
        apart = apart_more kept bytes place s.apart f.fresh;
        held = held_first none K done v places place kept bytes s.held k;
      })

  pub sharing_more : (old out new : List ℕ) (done rest all : List V) (v : V) (places : List ℕ) (place : ℕ) (kept more : List Entry)
      → ((bytes : List ℕ) (u : V) → K bytes u → G bytes u) → ((bytes : List ℕ) (u w : V) → K bytes u → K bytes w → u ≡ w)
      → Sharing none G K align wide old out done (v ∷ rest) all places kept → 0 < length old → UsesItem none K align kept more out new v place → length new ≤ length out + wide v
      → Sharing none G K align wide old new (done ++ v ∷ []) rest all (places ++ place ∷ []) more
  sharing_more old out new done rest all v places place kept more packs one s front a small =
      elim (none v) as (λ (t : Bool). none v ≡ t → MatchBool t ((place ≡ 0) × (new ≡ out) × (more ≡ kept)) ((bytes : List ℕ) × K bytes v × PutsOnce align kept more out new bytes place) → Sharing none G K align wide old new (done ++ v ∷ []) rest all (places ++ place ∷ []) more) [
        | true ↦ λ e a. sharing_none old out new done rest all v places place kept more s e a
        | false ↦ λ e a. elim a.2 [
          | inl again ↦ sharing_again old out new done rest all v places place kept more a.0 one s e a.1 again
          | inr first ↦ sharing_first old out new done rest all v places place kept more a.0 packs s front e a.1 first small
        ]
      ] refl a

  -- how much longer it gets
  pub sharing_bound : (old new : List ℕ) (v : V) (place : ℕ) (kept more : List Entry) → (none v ≡ false → (bytes : List ℕ) (at : ℕ) → K bytes v → gap align at + length bytes ≤ wide v) → UsesItem none K align kept more old new v place → length new ≤ length old + wide v
  sharing_bound old new v place kept more most a =
      elim (none v) as (λ (t : Bool). none v ≡ t → MatchBool t ((place ≡ 0) × (new ≡ old) × (more ≡ kept)) ((bytes : List ℕ) × K bytes v × PutsOnce align kept more old new bytes place) → length new ≤ length old + wide v) [
        | true ↦ λ e a. let n = ap length a.1 in omega (arith, n)
        | false ↦ λ e a. elim a.2 [
          | inl again ↦ (let n = ap length again.whole in omega (arith, n))
          | inr first ↦ (
              let d = first.adds in
              let n = ap length d.whole ∙ length-append (old ++ zeros (gap align (length old))) d.bytes in
              let p = length-padded old (gap align (length old)) in
              let b = ap length d.spelled in
              let m = most e a.0 (length old) a.1 in
              omega (arith, n, p, b, m))
        ]
      ] refl a

  -- ---- in a loop over all of them

  -- the values that are done are laid
  pub sharing_end : (old out : List ℕ) (vs : List V) (i : ℕ) (places : List ℕ) (kept : List Entry) (count : ℕ) → length vs ≤ i → Sharing none G K align wide old out (take i vs) (drop i vs) vs places kept → count ≡ length kept → Laid none G align wide old out vs places count
  sharing_end old out vs i places kept count le s n =
      rw n
      (subst (λ (done : List V). Laying none G align wide old out done [] vs places (length kept)) (take_all i vs le)
      (subst (λ (rest : List V). Laying none G align wide old out (take i vs) rest vs places (length kept)) (drop_all i vs le) s.laying))

  pub sharing_next : (old out new : List ℕ) (vs : List V) (i : ℕ) (d : V) (places more_places : List ℕ) (place : ℕ) (kept more : List Entry)
      → ((bytes : List ℕ) (u : V) → K bytes u → G bytes u) → ((bytes : List ℕ) (u w : V) → K bytes u → K bytes w → u ≡ w)
      → (none (get_or vs i d) ≡ false → (bytes : List ℕ) (at : ℕ) → K bytes (get_or vs i d) → gap align at + length bytes ≤ wide (get_or vs i d))
      → i < length vs → Sharing none G K align wide old out (take i vs) (drop i vs) vs places kept → 0 < length old → UsesItem none K align kept more out new (get_or vs i d) place → more_places ≡ places ++ place ∷ []
      → Sharing none G K align wide old new (take (i + 1) vs) (drop (i + 1) vs) vs more_places more
  sharing_next old out new vs i d places more_places place kept more packs one most lt s front a n =
      let v = get_or vs i d in
      let before = subst (λ (rest : List V). Sharing none G K align wide old out (take i vs) rest vs places kept) (drop_more vs i d lt) s in
      let after = sharing_more old out new (take i vs) (drop (i + 1) vs) vs v places place kept more packs one before front a (sharing_bound out new v place kept more most a) in
      rw n (subst (λ (done : List V). Sharing none G K align wide old new done (drop (i + 1) vs) vs (places ++ place ∷ []) more) (sym (take_more vs i d lt)) after)

  -- equal values have one place, where a value has one list of bytes
  pub sharing_shared : ((a b : List ℕ) (v : V) → K a v → K b v → a ≡ b) → (old out : List ℕ) (done rest all : List V) (places : List ℕ) (kept : List Entry) → Sharing none G K align wide old out done rest all places kept → AreShared places done
  sharing_shared one old out done rest all places kept s = held_shared none K one done places kept s.laying.lays.items s.held s.apart s.laying.lays.each

-- Values whose items are kept.
use Rattle.std.proofs.Common.{◌≡◌, ℕ, ◌+◌, Bool, true, false, List, [], ◌∷◌, ◌++◌, length, refl, sym, ap, subst, ◌∙◌, arith, length-append, Some, inl, inr}
use Rattle.std.specs.List.{AllZip, slice_get}
use Rattle.std.proofs.lemmas.Option.{slice_get_within}
use Rattle.file_layout.specs.inner.Tiles.{AreShared, Refers}
use Rattle.file_layout.proofs.TileLaws.{zip_there}
use Rattle.file_layout.specs.inner.OneMore.{Entry, HasItemAt}
use Rattle.file_layout.specs.inner.Sharing.{AreApart, AreHeld}
use Rattle.dex_base.proofs.ListFacts.{slice_split, get_last, slice_left}

-- ---- lists with one more at the end

-- ---- value by value

module _ {V : Type 0} (none : V → Bool) (K : List ℕ → V → Type 0) where
  pub held_start : (kept : List Entry) → AreHeld none K [] [] kept
  held_start kept = record { counts = refl; each = λ turn v place a n b. absurd (cc a) }

  record Grown (v : V) (place : ℕ) (kept more : List Entry) : Type 0 where
    keeps : (b : List ℕ) (p : ℕ) → HasItemAt kept b p → HasItemAt more b p
    own : none v ≡ false → (bytes : List ℕ) × K bytes v × HasItemAt more bytes place

  held_step : (done : List V) (v : V) (places : List ℕ) (place : ℕ) (kept more : List Entry) → AreHeld none K done places kept → Grown v place kept more → AreHeld none K (done ++ v ∷ []) (places ++ place ∷ []) more
  held_step done v places place kept more h g =
      let n = h.counts in
      record {
        counts = length-append places (place ∷ []) ∙ ap (λ (m : ℕ). m + 1) n ∙ sym (length-append done (v ∷ []));
        each = λ turn u p at_u some at_p. elim (slice_split done v u turn at_u) [
          | inl x ↦ elim (slice_split places place p turn at_p) [
            | inl y ↦ (let r = h.each turn u p x some y in (r.0, r.1, g.keeps r.0 p r.2))
            | inr y ↦ (let l = slice_get_within done turn u x in let m = y.0 in absurd (omega (arith, l, m, n)))
          ]
          | inr x ↦ elim (slice_split places place p turn at_p) [
            | inl y ↦ (let l = slice_get_within places turn p y in let m = x.0 in absurd (omega (arith, l, m, n)))
            | inr y ↦ (
                let r = g.own (ap none x.1 ∙ some) in
                (r.0, subst (λ (w : V). K r.0 w) x.1 r.1, subst (λ (q : ℕ). HasItemAt more r.0 q) y.1 r.2))
          ]
        ];
      }

  pub held_none : (done : List V) (v : V) (places : List ℕ) (place : ℕ) (kept : List Entry) → AreHeld none K done places kept → none v ≡ true → AreHeld none K (done ++ v ∷ []) (places ++ place ∷ []) kept
  held_none done v places place kept h e = held_step done v places place kept kept h (record { keeps = λ b p k. k; own = λ f. (let g : true ≡ false = sym e ∙ f in absurd cc) })

  pub held_again : (done : List V) (v : V) (places : List ℕ) (place : ℕ) (kept : List Entry) (bytes : List ℕ) → AreHeld none K done places kept → K bytes v → HasItemAt kept bytes place → AreHeld none K (done ++ v ∷ []) (places ++ place ∷ []) kept
  held_again done v places place kept bytes h k there = held_step done v places place kept kept h (record { keeps = λ b p l. l; own = λ f. (bytes, k, there) })

  pub held_first : (done : List V) (v : V) (places : List ℕ) (place : ℕ) (kept : List Entry) (bytes : List ℕ) → AreHeld none K done places kept → K bytes v → AreHeld none K (done ++ v ∷ []) (places ++ place ∷ []) (kept ++ (bytes, place) ∷ [])
  held_first done v places place kept bytes h k =
      held_step done v places place kept (kept ++ (bytes, place) ∷ []) h
      (record { keeps = λ b p l. (l.0, slice_left kept ((bytes, place) ∷ []) l.0 (b, p) l.1); own = λ f. (bytes, k, (length kept, get_last kept (bytes, place))) })

  -- equal values have one place
  pub held_shared : ((a b : List ℕ) (v : V) → K a v → K b v → a ≡ b) → (done : List V) (places : List ℕ) (kept : List Entry) (items : List (ℕ × V))
      → AreHeld none K done places kept → AreApart kept → AllZip (Refers none items) places done → AreShared places done
  held_shared one done places kept items h apart each i j v p q at_i at_j place_i place_j =
      elim (none v) as (λ (t : Bool). none v ≡ t → p ≡ q) [
        | true ↦ λ e. nothing p e (zip_there (Refers none items) places done i p v each place_i at_i) ∙ sym (nothing q e (zip_there (Refers none items) places done j q v each place_j at_j))
        | false ↦ λ e. (
            let r = h.each i v p at_i e place_i in
            let s = h.each j v q at_j e place_j in
            let same = one r.0 s.0 v r.1 s.1 in
            let x = r.2 in let y = s.2 in
            let k = apart x.0 y.0 (r.0, p) (s.0, q) x.1 y.1 same in
            let there : slice_get kept x.0 ≡ Some (s.0, q) = ap (λ (m : ℕ). slice_get kept m) k ∙ y.1 in
            let found : Some (r.0, p) ≡ Some (s.0, q) = sym x.1 ∙ there in
            let pair : (r.0, p) ≡ (s.0, q) = cc in
            ap (λ (z : Entry). z.1) pair)
      ] refl
    where
      nothing : (n : ℕ) → none v ≡ true → Refers none items n v → n ≡ 0
      nothing n e r = rw e at r

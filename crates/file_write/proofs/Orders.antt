-- The rows of classes stand in an order in which each comes after what it stands on.
use Rattle.std.proofs.Common.{◌≡◌, ◌≢◌, ℕ, zero, suc, ◌<◌, ◌≤◌, List, [], ◌∷◌, length, get_or, refl, sym, ap, ◌∙◌, subst, arith, Option, Some, None, option_map, slice_get}
use Rattle.std.proofs.lemmas.Option.{slice_get-map}
use Rattle.std.specs.Prelude.{IfSome}
use Rattle.file_classes.specs.ClassRows.{InOrder, IndexOrNone, NoneDefines, class_word, no_index}
use Rattle.file_classes.proofs.EntryLaws.{entry_at}
use Rattle.file_put.specs.inner.ClassDefs.{TypeRanks}
use Rattle.dex_container.specs.Frame.{IsFramed}
use Rattle.dex_container.specs.Layout.{size_of}
use Rattle.dex_container.specs.Where.{AtOrNone}
use Rattle.tables_names.specs.Closure.{Five}
use Rattle.tables_names.specs.inner.Indices.{AreIndices}
use Rattle.program_types.specs.Content.{Class, Descriptor, Program}
use Rattle.program_types.specs.Key.{text_key}
use Rattle.program_rules.specs.Rules.{IsOfType, NoneFrom, OrderHolds}
use Rattle.tables_rows.specs.Stands.{SpellsIndexes}
use Rattle.tables_rows.proofs.HalvesLaws.{list_or_none_one}
use Rattle.file_write.proofs.RowLaws.{ClassRowIs}
use Rattle.dex_base.proofs.ListFacts.{all_get}

-- an index is that of one type
one_type : (s : Five) (i j : ℕ) (t u : Descriptor) → i ≡ j → TypeRanks s i t → TypeRanks s j u → t ≡ u
one_type s i j t u e x y =
    let both : ◌≡◌ {A = Option (List Descriptor)} (Some (text_key t)) (Some (text_key u)) = sym x ∙ ap (slice_get s.types) e ∙ y in
    (cc both)

-- the type of an index in a list
indexed : (s : Five) (xs : List ℕ) (ts : List Descriptor) (k : ℕ) → AreIndices s.types xs ts → k < length xs → (t : Descriptor) × (slice_get ts k ≡ Some t) × TypeRanks s (get_or xs k 0) t
indexed s [] ts k z lt = absurd (omega (arith, lt))
indexed s (x ∷ xs) [] k z lt = absurd z
indexed s (x ∷ xs) (t ∷ ts) zero z lt = (t, refl, z.0)
indexed s (x ∷ xs) (t ∷ ts) (suc k) z lt = indexed s xs ts k z.1 (omega (arith, lt))

module _ (b : List ℕ) (s : Five) (p : Program) (many : size_of b 5 ≡ length p) (own : (j : ℕ) (d : Class) → slice_get p j ≡ Some d → TypeRanks s (class_word b j 0) d.ty) where
  -- where no class is of a type, no row defines its index
  none_defines : (from to x : ℕ) (t : Descriptor) → to ≤ size_of b 5 → TypeRanks s x t → ((j : ℕ) → from ≤ j → j < to → ¬ IsOfType p j t) → NoneDefines b from to x
  none_defines from to x t within at none j low high e =
      let d = entry_at p j (omega (arith, many, within, high)) in
      let same = one_type s (class_word b j 0) x d.0.ty t e (own j d.0 d.1) at in
      none j low high (slice_get-map (λ (c : Class). c.ty) p j ∙ ap (option_map (λ (c : Class). c.ty)) d.1 ∙ ap (λ (u : Descriptor). Some u) same)

  super_none : (i x : ℕ) (name : Option Descriptor) → IfSome name (NoneFrom p i) → IndexOrNone (TypeRanks s) x name → x ≢ no_index → NoneDefines b i (size_of b 5) x
  super_none i x None none at some = absurd (some at)
  super_none i x (Some t) none at some = none_defines i (size_of b 5) x t (omega arith) at.1 (λ j low high. none j low)

  -- row i
  pub in_order : IsFramed b → (list datum array i : ℕ) (c : Class) → i < size_of b 5 → slice_get p i ≡ Some c → ClassRowIs b s list datum array i c
      → (xs : List ℕ) → AtOrNone SpellsIndexes b 0x1001 4 list xs → AreIndices s.types xs c.interfaces → OrderHolds p i c → InOrder b i
  in_order framed list datum array i c lt here r xs there named o = record {
    once = none_defines 0 i (class_word b i 0) c.ty (omega (arith, lt)) (own i c here) (λ j low high. o.once j high);
    superclass = super_none i (class_word b i 2) c.superclass o.superclass r.above_is;
    interfaces = λ indexes at k within.
        let same = list_or_none_one b framed 0x1001 4 (class_word b i 3) indexes xs at (subst (λ (q : ℕ). AtOrNone SpellsIndexes b 0x1001 4 q xs) (sym r.interfaces) there) in
        let l : k < length xs = let n = ap length same in omega (arith, n, within) in
        let found = indexed s xs c.interfaces k named l in
        let at_k : TypeRanks s (get_or indexes k 0) found.0 = subst (λ (ys : List ℕ). TypeRanks s (get_or ys k 0) found.0) (sym same) found.2 in
        none_defines i (size_of b 5) (get_or indexes k 0) found.0 (omega arith) at_k (λ j low high. all_get (NoneFrom p i) c.interfaces k found.0 o.interfaces found.1 j low);
  }

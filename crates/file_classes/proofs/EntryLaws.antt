-- The entries of class data: one list at a place, and what a run of them says.
use Rattle.std.proofs.Common.{◌≡◌, ◌≢◌, ℕ, zero, suc, ◌+◌, ◌<◌, Bool, true, false, List, [], ◌∷◌, ◌++◌, length, Option, Some, inl, inr, refl, sym, ap, ◌∙◌, subst, arith, slice_get}
use Rattle.std.specs.Prelude.{MatchBool, ◌==◌, slice_index}
use Rattle.std.proofs.lemmas.List.{length_push}
use Rattle.std.proofs.lemmas.Bool.{cases_lt, eqb-true}
use Rattle.std.proofs.lemmas.Option.{slice_get_within}
use Rattle.dex_base.specs.Grammar.{IsPrefixUnique, Pair, Many}
use Rattle.dex_base.specs.Leb128.{Spells}
use Rattle.dex_base.proofs.GrammarLaws.{Then-unique, Pair-unique, Many-unique}
use Rattle.dex_base.proofs.Numbers.{spells_unique}
use Rattle.dex_container.specs.Frame.{IsFramed}
use Rattle.dex_container.specs.Where.{At}
use Rattle.dex_container.proofs.Standing.{At-one}
use Rattle.file_classes.specs.ClassData.{FieldEntry, MethodEntry, Entries, no_entries, counts_of, lists_of, SpellsFieldEntry, SpellsMethodEntry, SpellsCounts, SpellsLists, SpellsEntries, EntriesAt, steps, index_of, FirstEntriesAre, EntriesAre}
use Rattle.dex_base.proofs.ListFacts.{slice_split}

-- ---- no spelling begins another one

pub field_unique : IsPrefixUnique (SpellsFieldEntry Spells)
field_unique = Pair-unique Spells Spells spells_unique spells_unique

pub method_unique : IsPrefixUnique (SpellsMethodEntry Spells)
method_unique = Pair-unique Spells (Pair Spells Spells) spells_unique field_unique

pub counts_unique : IsPrefixUnique (SpellsCounts Spells)
counts_unique = Pair-unique Spells (Pair Spells (Pair Spells Spells)) spells_unique method_unique

lists_unique : (n : ℕ × (ℕ × (ℕ × ℕ))) → IsPrefixUnique (SpellsLists Spells n)
lists_unique n =
    let fields = λ (k : ℕ). Many-unique (SpellsFieldEntry Spells) k field_unique in
    let methods = λ (k : ℕ). Many-unique (SpellsMethodEntry Spells) k method_unique in
    let third = Pair-unique (Many (SpellsMethodEntry Spells) n.1.1.0) (Many (SpellsMethodEntry Spells) n.1.1.1) (methods n.1.1.0) (methods n.1.1.1) in
    let second = Pair-unique (Many (SpellsFieldEntry Spells) n.1.0) (Pair (Many (SpellsMethodEntry Spells) n.1.1.0) (Many (SpellsMethodEntry Spells) n.1.1.1)) (fields n.1.0) third in
    Pair-unique (Many (SpellsFieldEntry Spells) n.0) (Pair (Many (SpellsFieldEntry Spells) n.1.0) (Pair (Many (SpellsMethodEntry Spells) n.1.1.0) (Many (SpellsMethodEntry Spells) n.1.1.1))) (fields n.0) second

abbrev Whole : Type 0
Whole = (ℕ × (ℕ × (ℕ × ℕ))) × (List FieldEntry × (List FieldEntry × (List MethodEntry × List MethodEntry)))

same_whole : (d e : Entries) → lists_of d ≡ lists_of e → d ≡ e
same_whole d e s = λ k. record { statics = (s k).0; instances = (s k).1.0; directs = (s k).1.1.0; virtuals = (s k).1.1.1 }

pub entries_unique : IsPrefixUnique (SpellsEntries Spells)
entries_unique a b x y d e p q joined =
    let r = Then-unique (SpellsCounts Spells) (SpellsLists Spells) counts_unique lists_unique a b x y (counts_of d, lists_of d) (counts_of e, lists_of e) p q joined in
    (r.0, same_whole d e (ap (λ (w : Whole). w.1) r.1))

pub entries_one : (b : List ℕ) → IsFramed b → (place : ℕ) (d e : Entries) → EntriesAt b place d → EntriesAt b place e → d ≡ e
entries_one b framed place d e x y = by (place == 0) x y
  where
    by : (t : Bool) → MatchBool t (d ≡ no_entries) (At (SpellsEntries Spells) b 0x2000 1 place d) → MatchBool t (e ≡ no_entries) (At (SpellsEntries Spells) b 0x2000 1 place e) → d ≡ e
    by true p q = p ∙ sym q
    by false p q = At-one (SpellsEntries Spells) entries_unique b framed 0x2000 1 place d e p q

-- ---- runs

-- an entry by its number
pub entry_at : {E : Type 0} (es : List E) (k : ℕ) → k < length es → (e : E) × (slice_get es k ≡ Some e)
entry_at [] k lt = absurd (omega arith)
entry_at (e ∷ es) zero lt = (e, refl)
entry_at (e ∷ es) (suc k) lt = entry_at es k (omega arith)

-- two lists with the same elements are one
pub list_same : {V : Type 0} (us vs : List V) → length us ≡ length vs → ((i : ℕ) (v w : V) → slice_get us i ≡ Some v → slice_get vs i ≡ Some w → v ≡ w) → us ≡ vs
list_same [] [] size alike = refl
list_same [] (v ∷ vs) size alike = absurd (omega (arith, size))
list_same (u ∷ us) [] size alike = absurd (omega (arith, size))
list_same (u ∷ us) (v ∷ vs) size alike = rw (alike 0 u v refl refl, list_same us vs (omega (arith, size)) (λ i. alike (suc i))) refl

module _ {R V : Type 0} (M : ℕ → ℕ × R → V → Type 0) (es : List (ℕ × R)) where
  pub runs_none : FirstEntriesAre M es 0 []
  runs_none = record { count = refl; each = λ k e v p q. absurd cc; rises = λ k some lt. absurd (omega arith) }

  pub runs_more : (n : ℕ) (vs : List V) (e : ℕ × R) (v : V) → FirstEntriesAre M es n vs → slice_get es n ≡ Some e → M (index_of (steps es) n) e v → (0 < n → 0 < slice_index (steps es) n) → FirstEntriesAre M es (n + 1) (vs ++ v ∷ [])
  runs_more n vs e v runs there stands up = record {
    count = length_push vs v ∙ ap (λ k. k + 1) runs.count;
    each = λ k d w p q. elim (slice_split vs v w k q) [
      | inl at ↦ runs.each k d w p at
      | inr is ↦
          let same : n ≡ k = sym (is.0 ∙ runs.count) in
          let here : ◌≡◌ {A = Option (ℕ × R)} (Some e) (Some d) = sym there ∙ ap (slice_get es) same ∙ p in
          let d_is : e ≡ d = cc in
          subst (λ (x : V). M (index_of (steps es) k) d x) is.1 (subst (λ (x : ℕ × R). M (index_of (steps es) k) x v) d_is (subst (λ (j : ℕ). M (index_of (steps es) j) e v) same stands))
    ];
    rises = λ k some lt. elim (cases_lt k n) [
      | inl before ↦ runs.rises k some before
      | inr ge ↦ let same : n ≡ k = omega arith in subst (λ (j : ℕ). 0 < slice_index (steps es) j) same (up (omega (arith, some, same)))
    ];
  }

  -- what the entries stand for is one list
  pub run_one : ((k : ℕ) (e : ℕ × R) (v w : V) → M k e v → M k e w → v ≡ w) → (vs ws : List V) → EntriesAre M es vs → EntriesAre M es ws → vs ≡ ws
  run_one one vs ws p q =
      list_same vs ws (p.count ∙ sym q.count)
      (λ i v w x y. let at = entry_at es i (let n = p.count in let l = slice_get_within vs i v x in omega (arith, n, l)) in one (index_of (steps es) i) at.0 v w (p.each i at.0 v at.1 x) (q.each i at.0 w at.1 y))

-- the case of an offset that isn't 0
pub at_some : (place : ℕ) (P Q : Type 0) → place ≢ 0 → MatchBool (place == 0) P Q → Q
at_some place P Q some m = by (place == 0) (λ e. some (eqb-true place 0 e)) m
  where
    by : (t : Bool) → (t ≢ true) → MatchBool t P Q → Q
    by true not p = absurd (not refl)
    by false not q = q

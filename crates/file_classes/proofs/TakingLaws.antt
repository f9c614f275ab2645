-- What stands at the front of bytes, one piece after the other.
use Rattle.std.proofs.Common.{◌≡◌, ◌≢◌, Bool, true, false, length-take, length-append, ℕ, ◌+◌, ◌-◌, ◌<◌, ◌≤◌, List, [], ◌∷◌, ◌++◌, length, take, drop, refl, sym, ap, ◌∙◌, subst, arith}
use Rattle.std.specs.Prelude.{MatchBool, ◌==◌}
use Rattle.std.proofs.lemmas.List.{length_push}
use Rattle.std.proofs.lemmas.Bool.{eqb-true}
use Rattle.dex_base.proofs.LengthLaws.{Spells-least}
use Rattle.dex_container.specs.declared.section.Section.{Section}
use Rattle.dex_container.specs.Where.{slice, At, IsInSection, IsSectionOf}
use Rattle.dex_container.proofs.Standing.{at_place, stands_at, stands_not, mod_one}
use Rattle.dex_base.specs.Grammar.{NoneBegins, Takes, IsPrefixUnique, Then, Pair, Each, Many}
use Rattle.dex_base.specs.Leb128.{Spells}
use Rattle.dex_base.proofs.GrammarLaws.{Then-none_first, Many-none, Many-unique}
use Rattle.dex_base.proofs.TakesLaws.{Begins-from_takes, Takes-then, Takes-each_push}
use Rattle.file_classes.specs.ClassData.{FieldEntry, MethodEntry, Entries, counts_of, lists_of, SpellsFieldEntry, SpellsMethodEntry, SpellsCounts, SpellsLists, SpellsEntries, no_entries, EntriesAt}
use Rattle.file_classes.proofs.EntryLaws.{at_some, field_unique, method_unique, counts_unique}
use Rattle.dex_base.proofs.ViaLaws.{second-none}

-- ---- so many of one kind

module _ {V : Type 0} (G : List ℕ → V → Type 0) (bytes : List ℕ) where
  pub record Taken (n : ℕ) (vs : List V) (left : List ℕ) : Type 0 where
    pub count : length vs ≡ n
    pub taken : Takes (Each G) bytes vs left

  pub taken_more : (n : ℕ) (vs : List V) (v : V) (left rest : List ℕ) → Taken n vs left → Takes G left v rest → Taken (n + 1) (vs ++ v ∷ []) rest
  taken_more n vs v left rest t u = record { count = length_push vs v ∙ ap (λ k. k + 1) t.count; taken = Takes-each_push G bytes left rest vs v t.taken u }

  pub taken_all : (n k : ℕ) (vs : List V) (left : List ℕ) → n ≡ k → Taken n vs left → Takes (Many G k) bytes vs left
  taken_all n k vs left e t = record { front = t.taken.front; whole = t.taken.whole; spelled = (t.count ∙ e, t.taken.spelled) }

  pub taken_short : (n k : ℕ) (vs : List V) (left : List ℕ) → IsPrefixUnique G → n < k → Taken n vs left → NoneBegins G left → NoneBegins (Many G k) bytes
  taken_short n k vs left one lt t none =
      let f = Begins-from_takes (Each G) bytes vs left t.taken in
      let c = t.count in
      Many-none G k bytes vs (length t.taken.front) one f.0 (omega (arith, c, lt)) (subst (λ (l : List ℕ). NoneBegins G l) (sym f.1) none)

-- ---- a class_data_item

abbrev pub Fields : ℕ → List ℕ → List FieldEntry → Type 0
Fields n = Many (SpellsFieldEntry Spells) n

abbrev pub Methods : ℕ → List ℕ → List MethodEntry → Type 0
Methods n = Many (SpellsMethodEntry Spells) n

fields_unique : (n : ℕ) → IsPrefixUnique (Fields n)
fields_unique n = Many-unique (SpellsFieldEntry Spells) n field_unique

methods_unique : (n : ℕ) → IsPrefixUnique (Methods n)
methods_unique n = Many-unique (SpellsMethodEntry Spells) n method_unique

module _ (bytes : List ℕ) where
  -- no counts or lists, no entries
  none_whole : NoneBegins (Then (SpellsCounts Spells) (SpellsLists Spells)) bytes → NoneBegins (SpellsEntries Spells) bytes
  none_whole none front rest e joined s = none front rest (counts_of e, lists_of e) joined s

  pub none_counts : NoneBegins (SpellsCounts Spells) bytes → NoneBegins (SpellsEntries Spells) bytes
  none_counts none = none_whole (Then-none_first (SpellsCounts Spells) (SpellsLists Spells) bytes none)

  module _ (n : ℕ × (ℕ × (ℕ × ℕ))) (lists : List ℕ) (counted : Takes (SpellsCounts Spells) bytes n lists) where
    none_lists : NoneBegins (SpellsLists Spells n) lists → NoneBegins (SpellsEntries Spells) bytes
    none_lists none = none_whole (second-none (SpellsCounts Spells) (SpellsLists Spells) bytes lists n counts_unique counted none)

    abbrev Third : List ℕ → List MethodEntry × List MethodEntry → Type 0
    Third = Pair (Methods n.1.1.0) (Methods n.1.1.1)

    abbrev Second : List ℕ → List FieldEntry × (List MethodEntry × List MethodEntry) → Type 0
    Second = Pair (Fields n.1.0) Third

    pub none_first : NoneBegins (Fields n.0) lists → NoneBegins (SpellsEntries Spells) bytes
    none_first none = none_lists (Then-none_first (Fields n.0) (λ (_ : List FieldEntry). Second) lists none)

    module _ (statics : List FieldEntry) (second : List ℕ) (one : Takes (Fields n.0) lists statics second) where
      after_first : NoneBegins Second second → NoneBegins (SpellsEntries Spells) bytes
      after_first none = none_lists (second-none (Fields n.0) (λ (_ : List FieldEntry). Second) lists second statics (fields_unique n.0) one none)

      pub none_second : NoneBegins (Fields n.1.0) second → NoneBegins (SpellsEntries Spells) bytes
      none_second none = after_first (Then-none_first (Fields n.1.0) (λ (_ : List FieldEntry). Third) second none)

      module _ (instances : List FieldEntry) (third : List ℕ) (two : Takes (Fields n.1.0) second instances third) where
        after_second : NoneBegins Third third → NoneBegins (SpellsEntries Spells) bytes
        after_second none = after_first (second-none (Fields n.1.0) (λ (_ : List FieldEntry). Third) second third instances (fields_unique n.1.0) two none)

        pub none_third : NoneBegins (Methods n.1.1.0) third → NoneBegins (SpellsEntries Spells) bytes
        none_third none = after_second (Then-none_first (Methods n.1.1.0) (λ (_ : List MethodEntry). Methods n.1.1.1) third none)

        module _ (directs : List MethodEntry) (fourth : List ℕ) (three : Takes (Methods n.1.1.0) third directs fourth) where
          pub none_fourth : NoneBegins (Methods n.1.1.1) fourth → NoneBegins (SpellsEntries Spells) bytes
          none_fourth none = after_second (second-none (Methods n.1.1.0) (λ (_ : List MethodEntry). Methods n.1.1.1) third fourth directs (methods_unique n.1.1.0) three none)

          pub entries_taken : (virtuals : List MethodEntry) (rest : List ℕ) → Takes (Methods n.1.1.1) fourth virtuals rest
              → Takes (SpellsEntries Spells) bytes (record { statics = statics; instances = instances; directs = directs; virtuals = virtuals }) rest
          entries_taken virtuals rest four =
              let t3 = Takes-then (Methods n.1.1.0) (λ (_ : List MethodEntry). Methods n.1.1.1) third fourth rest directs virtuals three four in
              let t2 = Takes-then (Fields n.1.0) (λ (_ : List FieldEntry). Third) second third rest instances (directs, virtuals) two t3 in
              let t1 = Takes-then (Fields n.0) (λ (_ : List FieldEntry). Second) lists second rest statics (instances, (directs, virtuals)) one t2 in
              let t0 = Takes-then (SpellsCounts Spells) (SpellsLists Spells) bytes lists rest n (statics, (instances, (directs, virtuals))) counted t1 in
              let a = sym one.spelled.0 in
              let b = sym two.spelled.0 in
              let c = sym three.spelled.0 in
              let d = sym four.spelled.0 in
              let same : n ≡ (length statics, (length instances, (length directs, length virtuals))) = λ k. (a k, (b k, (c k, d k))) in
              record { front = t0.front; whole = t0.whole; spelled = subst (λ (m : ℕ × (ℕ × (ℕ × ℕ))). Then (SpellsCounts Spells) (SpellsLists Spells) t0.front (m, (statics, (instances, (directs, virtuals))))) same t0.spelled }

-- ---- where it stands

entries_some : (bytes : List ℕ) (e : Entries) → SpellsEntries Spells bytes e → 0 < length bytes
entries_some bytes e s =
    let l = Spells-least s.first.front (length e.statics) s.first.first in
    let n = ap length s.joined ∙ length-append s.front s.back in
    let m = ap length s.first.joined ∙ length-append s.first.front s.first.back in
    omega (arith, l, n, m)

module _ (b : List ℕ) (off : ℕ) (some : off ≢ 0) where
  pub entries_stand : (e : Entries) → At (SpellsEntries Spells) b 0x2000 1 off e → EntriesAt b off e
  entries_stand e a = by (off == 0) (λ z. some (eqb-true off 0 z))
    where
      by : (t : Bool) → (t ≢ true) → MatchBool t (e ≡ no_entries) (At (SpellsEntries Spells) b 0x2000 1 off e)
      by true not = absurd (not refl)
      by false not = a

  stand_entries : (e : Entries) → EntriesAt b off e → At (SpellsEntries Spells) b 0x2000 1 off e
  stand_entries e at = at_some off (e ≡ no_entries) (At (SpellsEntries Spells) b 0x2000 1 off e) some at

  pub entries_outside : (e : Entries) → (IsInSection b 0x2000 off → ⊥) → EntriesAt b off e → ⊥
  unfolding slice
  entries_outside e out at =
      let a = stand_entries e at in
      let l = entries_some (take a.size (drop off b)) e a.spelled in
      let t = length-take a.size (drop off b) in
      out (at_place (SpellsEntries Spells) b 0x2000 1 off e a (omega (arith, l, t)))

  module _ (rest : List ℕ) (s : Section) (is : IsSectionOf b 0x2000 s) (same : rest ≡ take (s.end - off) (drop off b)) where
    pub entries_found : (e : Entries) (left : List ℕ) → s.begin ≤ off → off < s.end → Takes (SpellsEntries Spells) rest e left → EntriesAt b off e
    entries_found e left low high t =
        entries_stand e (stands_at (SpellsEntries Spells) b rest 0x2000 1 s off is same e (length t.front) low high (mod_one off) (Begins-from_takes (SpellsEntries Spells) rest e left t).0)

    pub entries_not : (e : Entries) → NoneBegins (SpellsEntries Spells) rest → EntriesAt b off e → ⊥
    entries_not e none at = stands_not (SpellsEntries Spells) b rest 0x2000 1 s off is same e none (stand_entries e at)

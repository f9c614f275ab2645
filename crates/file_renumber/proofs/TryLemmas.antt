-- Tries, one by one.
use Rattle.std.proofs.Common.{◌≡◌, ℕ, ◌+◌, ◌<◌, ◌≤◌, inl, inr, List, ◌++◌, length, take, drop, get_or, set, Some, refl, sym, ap, subst, ◌∙◌, arith, length-append}
use Rattle.std.specs.Prelude.{replicate}
use Rattle.std.specs.List.{AllByRecursion, flat_map}
use Rattle.std.proofs.lemmas.Bool.{cases_lt}
use Rattle.std.proofs.lemmas.List.{take_all, get_or-take, get_or-set_other, length-map, length-replicate, length-take-le}
use Rattle.dex_base.specs.Grammar.{Takes}
use Rattle.dex_base.proofs.Numbers.{some_byte}
use Rattle.program_types.specs.Content.{Name, Catch, Try}
use Rattle.program_types.specs.Formed.{try_at}
use Rattle.program_types.specs.Mentions.{names_of_try}
use Rattle.tables_names.specs.Closure.{Five, with_names}
use Rattle.tables_names.specs.inner.Closure.{Holds}
use Rattle.tables_names.proofs.NeededLemmas.{names_append, with_names-holds}
use Rattle.tables_rows.specs.Stands.{NameStands}
use Rattle.file_renumber.specs.inner.Marked.{Marked, AreMarks, AddsNames}
use Rattle.file_renumber.proofs.MarkLemmas.{adds_none, adds_next, names_next, types_add_nothing}
use Rattle.code_read.specs.Places.{position}
use Rattle.code_read.proofs.PlaceLaws.{position-there}
use Rattle.code_read.specs.Handlers.{Handler, handler_at}
use Rattle.code_read.specs.inner.Handlers.{SpellsHandler}
use Rattle.code_read.specs.Item.{try_handler}
use Rattle.code_read.specs.inner.ItemReading.{ReadTries}
use Rattle.code_read.specs.Tries.{handler_of}
use Rattle.code_write.specs.Fits.{catches_in}
use Rattle.code_write.proofs.DistinctLaws.{catches-more}
use Rattle.file_renumber.specs.inner.Fronts.{AreListed, types_of}
use Rattle.file_renumber.specs.inner.TryWalks.{MarksOnce}
use Rattle.file_renumber.proofs.ListLemmas.{all-part, HandlerThere, handler_there}
use Rattle.code_read.proofs.TryLaws.{no_try}
use Rattle.dex_base.proofs.ListFacts.{some_one}

-- a handler takes some byte
pub handler_some : (N : ℕ → Name → Type 0) (ss bytes : List ℕ) (h : Handler) (rest : List ℕ) → Takes (SpellsHandler N ss) bytes h rest → 0 < length bytes
handler_some N ss bytes h rest t =
    let s = t.spelled.spelled in
    let a = some_byte s.front s.first.sequence in
    let j = ap length s.joined ∙ length-append s.front s.back in
    let w = ap length t.whole ∙ length-append t.front rest in
    omega (arith, a, j, w)

-- ---- names that are marked already

-- types that were among the names add nothing
adds_again : (b : List ℕ) (old new : Marked) (xs : List Name) (cs : List Catch) → ((s : Five) → AllByRecursion (Holds (with_names s xs)) (types_of cs)) → AddsNames b old new xs → AddsNames b old new (xs ++ types_of cs)
adds_again b old new xs cs held f s a =
    let m = f s a in
    subst (AreMarks b new) (types_add_nothing (λ (c : Catch). c.ty) (with_names s xs) cs m.closed m.rise (held s) ∙ sym (names_append s xs (types_of cs))) m

-- ---- the handlers that were seen

-- the types of the first i tries are marked, and each handler that was seen is that of one of them
pub record MarkedTries (b items offsets : List ℕ) (old new : Marked) (seen : List ℕ) (sum i : ℕ) (ts : List Try) : Type 0 where
  pub marked : AddsNames b old new (flat_map names_of_try (take i ts))
  pub known : (k : ℕ) → 0 < get_or seen k 0 → (j : ℕ) × (j < i) × (position offsets (try_handler items j) ≡ Some k)
  pub counted : sum ≡ catches_in (take i ts)

pub all_zero : (seen : List ℕ) → ((k : ℕ) → get_or seen k 0 ≡ 0) → (k : ℕ) → 0 < get_or seen k 0 → ⊥
all_zero seen h k l = let z = h k in omega (arith, z, l)

pub tries_start : (b items offsets : List ℕ) (m : Marked) (seen : List ℕ) (ts : List Try) → ((k : ℕ) → get_or seen k 0 ≡ 0) → MarkedTries b items offsets m m seen 0 0 ts
tries_start b items offsets m seen ts z = record { marked = adds_none b m; known = λ k l. absurd (all_zero seen z k l); counted = refl }

-- tries with one handler catch the same types
same_handler : (items offsets : List ℕ) (i j k : ℕ) → position offsets (try_handler items i) ≡ Some k → position offsets (try_handler items j) ≡ Some k → try_handler items j ≡ try_handler items i
same_handler items offsets i j k p q = sym (position-there offsets (try_handler items j) k q).1 ∙ (position-there offsets (try_handler items i) k p).1

module _ (b : List ℕ) (ss : List ℕ) (size n : ℕ) (items bytes offsets catches : List ℕ) (ts : List Try) (some : 0 < n) (r : ReadTries (NameStands b) ss size n items bytes ts) (l : AreListed r.tries.handlers offsets catches) where
  pub there : (i : ℕ) → i < n → HandlerThere (NameStands b) ss items bytes offsets catches i (handler_of (try_at ts i))
  there i lt = handler_there (NameStands b) ss size n items bytes offsets catches ts some r l i lt

  -- .. whose number was found
  pub taken_at : (i k : ℕ) → i < n → position offsets (try_handler items i) ≡ Some k → (after : List ℕ) × Takes (SpellsHandler (NameStands b) ss) (drop (get_or offsets k 0) bytes) (handler_of (try_at ts i)) after
  taken_at i k lt at =
      let h = there i lt in
      let same : h.number ≡ k = some_one (position offsets (try_handler items i)) h.number k h.at at in
      (h.after, subst (λ (m : ℕ). Takes (SpellsHandler (NameStands b) ss) (drop (get_or offsets m 0) bytes) (handler_of (try_at ts i)) h.after) same h.taken)

  pub count_there : (i k : ℕ) → i < n → position offsets (try_handler items i) ≡ Some k → get_or catches k 0 ≡ length (try_at ts i).catches
  count_there i k lt at =
      let h = there i lt in
      let same : h.number ≡ k = some_one (position offsets (try_handler items i)) h.number k h.at at in
      subst (λ (m : ℕ). get_or catches m 0 ≡ length (try_at ts i).catches) same h.count

  same_catches : (i j k : ℕ) → i < n → j < n → position offsets (try_handler items i) ≡ Some k → position offsets (try_handler items j) ≡ Some k → names_of_try (try_at ts j) ≡ names_of_try (try_at ts i)
  same_catches i j k lt ltj p q =
      let off = same_handler items offsets i j k p q in
      let x = (r.tries.each i lt).handler in
      let y = (r.tries.each j ltj).handler in
      let h : handler_of (try_at ts j) ≡ handler_of (try_at ts i) =
      some_one (handler_at r.tries.handlers (try_handler items i)) (handler_of (try_at ts j)) (handler_of (try_at ts i)) (subst (λ (o : ℕ). handler_at r.tries.handlers o ≡ Some (handler_of (try_at ts j))) off y) x in
      ap (λ (g : Handler). types_of g.catches) h

  held_again : (i j k : ℕ) → i < n → j < i → position offsets (try_handler items i) ≡ Some k → position offsets (try_handler items j) ≡ Some k → (s : Five) → AllByRecursion (Holds (with_names s (flat_map names_of_try (take i ts)))) (names_of_try (try_at ts i))
  held_again i j k lt before p q s =
      let t = with_names s (flat_map names_of_try (take i ts)) in
      let count = r.tries.count in
      let all = with_names-holds s (flat_map names_of_try (take i ts)) in
      let long = length-take-le i ts (omega (arith, lt, count)) in
      let one = all-part (Holds t) names_of_try (take i ts) j no_try all (omega (arith, long, before)) in
      let here : AllByRecursion (Holds t) (names_of_try (try_at ts j)) = subst (λ (x : Try). AllByRecursion (Holds t) (names_of_try x)) (get_or-take i ts j no_try before) one in
      subst (λ (ns : List Name). AllByRecursion (Holds t) ns) (same_catches i j k lt (omega (arith, before, lt)) p q) here

  pub tries_more : (old mid new : Marked) (seen more : List ℕ) (sum types i k : ℕ) → i < n → position offsets (try_handler items i) ≡ Some k → k < length seen → types ≡ get_or catches k 0 → MarkedTries b items offsets old mid seen sum i ts
      → MarksOnce b bytes (get_or offsets k 0) mid new seen more k → MarkedTries b items offsets old new more (sum + types) (i + 1) ts
  tries_more old mid new seen more sum types i k lt at inside tys m (inl f) =
      let count = r.tries.count in
      let x = taken_at i k lt at in
      record {
        marked = adds_next names_of_try b old mid new ts i no_try (omega (arith, lt, count)) m.marked (f.1 ss (handler_of (try_at ts i)) x.0 x.1);
        known = λ q l. elim (cases_lt q k) [
          | inl a ↦ old_one q (subst (λ (xs : List ℕ). 0 < get_or xs q 0) f.0 l) (λ e. omega (arith, e, a))
          | inr a ↦ elim (cases_lt k q) [
            | inl c ↦ old_one q (subst (λ (xs : List ℕ). 0 < get_or xs q 0) f.0 l) (λ e. omega (arith, e, c))
            | inr c ↦ let e : k ≡ q = omega (arith, a, c) in (i, omega arith, subst (λ (z : ℕ). position offsets (try_handler items i) ≡ Some z) e at)
          ]
        ];
        counted = sum_more;
      }
    where
      sum_more : sum + types ≡ catches_in (take (i + 1) ts)
      sum_more = let a = m.counted in let c = count_there i k lt at in let d = catches-more ts i in omega (arith, a, c, d, tys)

      old_one : (q : ℕ) → 0 < get_or (set seen k 1) q 0 → (q ≡ k → ⊥) → (j : ℕ) × (j < i + 1) × (position offsets (try_handler items j) ≡ Some q)
      old_one q l ne =
          let e = get_or-set_other seen k q 1 0 ne in
          let o = m.known q (subst (λ (z : ℕ). 0 < z) e l) in
          let before = o.1 in
          (o.0, omega (arith, before), o.2)
  tries_more old mid new seen more sum types i k lt at inside tys m (inr f) =
      let count = r.tries.count in
      let o = m.known k f.0 in
      let again = adds_again b old mid (flat_map names_of_try (take i ts)) (try_at ts i).catches (λ s. held_again i o.0 k lt o.1 at o.2 s) m.marked in
      record {
        marked = subst (λ (x : Marked). AddsNames b old x (flat_map names_of_try (take (i + 1) ts))) (sym f.2) (subst (λ (ns : List Name). AddsNames b old mid ns) (names_next names_of_try ts i no_try (omega (arith, lt, count))) again);
        known = λ q l.
            let p = m.known q (subst (λ (xs : List ℕ). 0 < get_or xs q 0) f.1 l) in
            let before = p.1 in
            (p.0, omega (arith, before), p.2);
        counted = (let a = m.counted in let c = count_there i k lt at in let d = catches-more ts i in omega (arith, a, c, d, tys));
      }

  pub tries_end : (old new : Marked) (seen : List ℕ) (sum i : ℕ) → n ≤ i → MarkedTries b items offsets old new seen sum i ts → AddsNames b old new (flat_map names_of_try ts) × (sum ≡ catches_in ts)
  tries_end old new seen sum i le m =
      let count = r.tries.count in
      let whole : take i ts ≡ ts = take_all i ts (omega (arith, le, count)) in
      (subst (λ (us : List Try). AddsNames b old new (flat_map names_of_try us)) whole m.marked, m.counted ∙ ap catches_in whole)

-- there are as many counts as offsets
pub as_many : (hs : _) (offsets catches : List ℕ) → AreListed hs offsets catches → length catches ≡ length offsets
as_many hs offsets catches l = ap length l.catches_are ∙ length-map hs (λ p. length p.1.catches) ∙ sym (ap length l.offsets_are ∙ length-map hs (λ p. p.0))

-- the number that was found is one of them
pub number_inside : (items offsets : List ℕ) (i k : ℕ) → position offsets (try_handler items i) ≡ Some k → k < length offsets
number_inside items offsets i k e = (position-there offsets (try_handler items i) k e).0

-- .. also where the offsets and the number of the try_item are called otherwise
pub found_in : (items offsets others : List ℕ) (i j k : ℕ) → others ≡ offsets → j ≡ i → position others (try_handler items j) ≡ Some k → position offsets (try_handler items i) ≡ Some k
found_in items offsets others i j k o e at =
    subst (λ (os : List ℕ). position os (try_handler items i) ≡ Some k) o (subst (λ (n : ℕ). position others (try_handler items n) ≡ Some k) e at)

pub zeros_long : (xs : List ℕ) (n : ℕ) → xs ≡ replicate n 0 → length xs ≡ n
zeros_long xs n e = ap length e ∙ length-replicate {A = ℕ} n 0

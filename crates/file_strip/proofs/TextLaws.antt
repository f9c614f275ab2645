-- Texts of kept rows.
use Rattle.std.proofs.Common.{◌≡◌, ℕ, zero, suc, ◌+◌, ◌-◌, ◌<◌, ◌≤◌, true, List, [], ◌∷◌, ◌++◌, length, map, take, drop, get_or, refl, sym, ap, subst, ◌∙◌, arith, slice_get, Some, None, option_map, inl, inr, append_assoc, length-append}
use Rattle.std.specs.Prelude.{◌==◌}
use Rattle.std.specs.List.{AllByRecursion}
use Rattle.std.proofs.lemmas.Bool.{cases_lt, eqb-true}
use Rattle.std.proofs.lemmas.List.{take_more, take_all, drop_more, drop_all, take_at, length-map, take-take, take-append-drop, get_or_append_left}
use Rattle.std.proofs.lemmas.Option.{slice_get_within, get_or_from_slice_get, slice_get-map}
use Rattle.memchr.specs.Find.{IsFirstByte, is_byte}
use Rattle.dex_base.specs.Grammar.{Appends, Takes, Each, Ended, Many, Counted, Begins, NoneBegins}
use Rattle.dex_base.specs.Leb128.{Spells, Shortest}
use Rattle.dex_base.proofs.Numbers.{spells_unique}
use Rattle.dex_base.proofs.TakesLaws.{Takes-from_begins, Takes-none, Takes-unique, Ended-takes, Takes-ended, Counted-takes}
use Rattle.dex_base.specs.Mutf8.{PacksText, SpellsText, SpellsUnit, unit_bytes}
use Rattle.dex_base.proofs.UnitLaws.{bytes_one, bytes_zero, bytes_two, bytes_three}
use Rattle.dex_base.proofs.TextLaws.{packed_length}
use Rattle.dex_container.specs.Layout.{size_of}
use Rattle.dex_container.specs.Where.{slice, At, IsSectionOf}
use Rattle.dex_container.specs.declared.section.Section.{Section}
use Rattle.file_layout.specs.inner.Sections.{Adds, Laying, never}
use Rattle.file_layout.proofs.SectionLaws.{Laying-start, Laying-more, gap_one, unpadded}
use Rattle.file_limits.specs.inner.Wide.{text_values, wide_text}
use Rattle.file_put.proofs.LengthLaws.{text_some}
use Rattle.program_types.specs.Content.{Units, Program, OfText}
use Rattle.program_types.specs.Key.{Key, text_key}
use Rattle.tables_names.specs.Needed.{needed}
use Rattle.tables_names.specs.Rows.{first_of}
use Rattle.tables_names.proofs.PlaceLemmas.{member_at}
use Rattle.file_renumber.specs.inner.Marked.{Columns}
use Rattle.file_renumber.specs.inner.Numbers.{IsKept}
use Rattle.file_renumber.proofs.RankLemmas.{kept_rows_are_held, totals_are_lengths}
use Rattle.tables_rows.specs.Stands.{StringStands}
use Rattle.file_strip.specs.inner.Keeping.{Keeps}
use Rattle.file_strip.specs.inner.Texts.{AreFirstTexts}
use Rattle.file_strip.proofs.KeepLaws.{number_is, numbers_long, next_kept, next_not_kept, first_number, carried}
use Rattle.code_write.proofs.ListLaws.{all-at}
use Rattle.dex_base.proofs.ListFacts.{all_append}

-- ---- no unit has a zero byte

positive : (u : ℕ) → AllByRecursion (λ x. 0 < x) (unit_bytes u)
positive u = elim (cases_lt u 128) [
  | inl l ↦ elim (cases_lt 0 u) [
    | inl p ↦ rw (bytes_one u p l) (p, tt)
    | inr p ↦ rw (bytes_zero u (omega arith)) (omega arith, (omega arith, tt))
  ]
  | inr l ↦ elim (cases_lt u 2048) [
    | inl p ↦ rw (bytes_two u l p) (omega arith, (omega arith, tt))
    | inr p ↦ rw (bytes_three u p) (omega arith, (omega arith, (omega arith, tt)))
  ]
]

all_positive : (bytes : List ℕ) (ts : List ℕ) → Each SpellsUnit bytes ts → AllByRecursion (λ x. 0 < x) bytes
all_positive bytes [] e = subst (AllByRecursion (λ x. 0 < x)) (sym e) tt
all_positive bytes (t ∷ ts) e =
    subst (AllByRecursion (λ x. 0 < x)) (sym e.2)
    (all_append (λ x. 0 < x) e.0 e.1 (subst (AllByRecursion (λ x. 0 < x)) (sym e.3.1) (positive t)) (all_positive e.1 ts e.4))

positive_at : (xs ys : List ℕ) (i : ℕ) → AllByRecursion (λ x. 0 < x) xs → i < length xs → 0 < get_or (xs ++ ys) i 0
positive_at xs ys i all lt = subst (λ (n : ℕ). 0 < n) (sym (get_or_append_left xs ys 0 i lt)) (all-at (λ x. 0 < x) xs i 0 all lt)

at_end : (xs ys : List ℕ) → get_or (xs ++ 0 ∷ ys) (length xs) 0 ≡ 0
at_end [] ys = refl
at_end (x ∷ xs) ys = at_end xs ys

-- the first zero ends the units
zero_at : (front rest : List ℕ) (k : ℕ) → AllByRecursion (λ x. 0 < x) front → IsFirstByte (is_byte 0) (front ++ 0 ∷ rest) (Some k) → k ≡ length front
zero_at front rest k all f =
    let is : get_or (front ++ 0 ∷ rest) k 0 ≡ 0 = eqb-true (get_or (front ++ 0 ∷ rest) k 0) 0 f.1 in
    elim (cases_lt k (length front)) [
      | inl less ↦ let p = positive_at front (0 ∷ rest) k all less in absurd (omega (arith, p, is))
      | inr ge ↦ elim (cases_lt (length front) k) [
        | inl more ↦ (
            let passes : (get_or (front ++ 0 ∷ rest) (length front) 0 == 0) ≡ true = rw (at_end front rest) refl in
            absurd (f.0.before (length front) (omega arith) more passes))
        | inr le ↦ omega (arith, ge, le)
      ]
    ]

pub no_zero : (bytes : List ℕ) (t : Units) (rest : List ℕ) → Takes (Ended (Many SpellsUnit (length t))) bytes t rest → IsFirstByte (is_byte 0) bytes None → ⊥
no_zero bytes t rest a none =
    let e = Ended-takes (Many SpellsUnit (length t)) bytes rest t a in
    let n = ap length e.whole ∙ length-append e.front (0 ∷ rest) in
    let zero : get_or bytes (length e.front) 0 ≡ 0 = ap (λ (l : List ℕ). get_or l (length e.front) 0) e.whole ∙ at_end e.front rest in
    let passes : (get_or bytes (length e.front) 0 == 0) ≡ true = ap (λ (m : ℕ). m == 0) zero in
    none (length e.front) (omega arith) (omega (arith, n)) passes

pub units_ended : (bytes : List ℕ) (t : Units) (rest : List ℕ) (k : ℕ) → Takes (Ended (Many SpellsUnit (length t))) bytes t rest → IsFirstByte (is_byte 0) bytes (Some k) → Ended (Many SpellsUnit (length t)) (take (k + 1) bytes) t
units_ended bytes t rest k a f =
    let e = Ended-takes (Many SpellsUnit (length t)) bytes rest t a in
    let is = zero_at e.front rest k (all_positive e.front t e.spelled.1) (subst (λ (l : List ℕ). IsFirstByte (is_byte 0) l (Some k)) e.whole f) in
    let n = length-append e.front (0 ∷ []) in
    record {
      front = e.front;
      joined = ap (take (k + 1)) (e.whole ∙ sym (append_assoc e.front (0 ∷ []) rest)) ∙ take_at (e.front ++ 0 ∷ []) rest (k + 1) (omega (arith, n, is));
      spelled = e.spelled;
    }

-- ---- where a text stands

pub text_taken : (b rest : List ℕ) (s : Section) (place : ℕ) (t : Units) → IsSectionOf b 0x2002 s → rest ≡ take (s.end - place) (drop place b) → At SpellsText b 0x2002 1 place t → (after : List ℕ) × Takes SpellsText rest t after
unfolding slice
text_taken b rest s place t is same a =
    let e = (is.only a.begin a.end a.section).1 in
    let w = a.within in
    let i : a.size ≤ s.end - place = omega (arith, e, w) in
    let front : take a.size rest ≡ take a.size (drop place b) = (λ j. take a.size (same j)) ∙ take-take a.size (s.end - place) (drop place b) i in
    (drop a.size rest, record { front = take a.size rest; whole = sym (take-append-drop a.size rest); spelled = subst (λ (l : List ℕ). SpellsText l t) (sym front) a.spelled })

-- ---- a count, and then the units

pub no_count : (bytes : List ℕ) (t : Units) (rest : List ℕ) → Takes SpellsText bytes t rest → NoneBegins Spells bytes → ⊥
no_count bytes t rest a none =
    let e = Ended-takes (Counted Spells SpellsUnit) bytes rest t a in
    let c = Counted-takes Spells SpellsUnit bytes (0 ∷ rest) t e in
    Takes-none Spells bytes (length t) c.0 none c.1

pub counted : (bytes : List ℕ) (t : Units) (rest : List ℕ) (count length_of : ℕ) → Takes SpellsText bytes t rest → Begins Spells bytes count length_of → (count ≡ length t) × Takes (Ended (Many SpellsUnit (length t))) (drop length_of bytes) t rest
counted bytes t rest count length_of a b =
    let e = Ended-takes (Counted Spells SpellsUnit) bytes rest t a in
    let c = Counted-takes Spells SpellsUnit bytes (0 ∷ rest) t e in
    let one = Takes-unique Spells bytes count (length t) (drop length_of bytes) c.0 spells_unique (Takes-from_begins Spells bytes count length_of b) c.1 in
    let many : Takes (Many SpellsUnit (length t)) (drop length_of bytes) t (0 ∷ rest) =
    subst (λ (l : List ℕ). Takes (Many SpellsUnit (length t)) l t (0 ∷ rest)) (sym one.1) (record { front = c.2.front; whole = c.2.whole; spelled = (refl, c.2.spelled) }) in
    (one.0, Takes-ended (Many SpellsUnit (length t)) (drop length_of bytes) rest t many)

pub text_appends : (old mid new units : List ℕ) (t : Units) (count : ℕ) → count ≡ length t → Appends (Shortest Spells) old mid count → new ≡ mid ++ units → Ended (Many SpellsUnit (length t)) units t → Appends PacksText old new t
text_appends old mid new units t count is a n e = record {
  bytes = a.bytes ++ units;
  joined = n ∙ ap (λ (l : List ℕ). l ++ units) a.joined ∙ append_assoc old a.bytes units;
  spelled = record {
    front = a.bytes ++ e.front;
    joined = ap (λ (l : List ℕ). a.bytes ++ l) e.joined ∙ sym (append_assoc a.bytes e.front (0 ∷ []));
    spelled = record { front = a.bytes; back = e.front; joined = refl; first = subst (λ (k : ℕ). Shortest Spells a.bytes k) is a.spelled; second = e.spelled };
  };
}

-- ---- the texts of a file

module _ (b : List ℕ) (numbers : Columns) (p : Program) (k : Keeps b numbers p) where
  pub strings_long : length numbers.strings ≡ size_of b 0 + 1
  strings_long = numbers_long (size_of b 0) k.marks.columns.strings numbers.strings k.marked.strings.shape k.numbered.strings

  pub first_texts : (old : List ℕ) → AreFirstTexts numbers p old old 0 []
  first_texts old =
      let e = first_number (size_of b 0) k.marks.columns.strings numbers.strings k.marked.strings.shape k.numbered.strings in
      let vs = text_values (needed p) in
      subst (λ (n : ℕ). Laying never PacksText 1 wide_text old old (take n vs) (drop n vs) vs [] n) (sym e) (Laying-start never PacksText 1 wide_text old vs)

  -- a string that isn't kept has no text
  pub text_not_kept : (i : ℕ) (old out places : List ℕ) → i < size_of b 0 → ¬ IsKept numbers.strings i → AreFirstTexts numbers p old out i places → AreFirstTexts numbers p old out (i + 1) places
  text_not_kept i old out places lt not l =
      let e = next_not_kept (size_of b 0) k.marks.columns.strings numbers.strings k.marked.strings.shape k.numbered.strings i lt not in
      let vs = text_values (needed p) in
      subst (λ (n : ℕ). Laying never PacksText 1 wide_text old out (take n vs) (drop n vs) vs places n) (sym e) l

  -- one that is has its own
  pub text_kept : (i : ℕ) (t : Units) (old out new places more : List ℕ) (place : ℕ) → i < size_of b 0 → StringStands b i t → IsKept numbers.strings i → 0 < length old → place ≡ length out → more ≡ places ++ place ∷ [] → Appends PacksText out new t
      → AreFirstTexts numbers p old out i places → AreFirstTexts numbers p old new (i + 1) more
  text_kept i t old out new places more place lt st kept front there m a l =
      let s = needed p in
      let vs = text_values s in
      let held = ((kept_rows_are_held b k.marks s numbers k.tables k.marked k.numbered).0 (OfText t) i st).0 kept in
      let rank = carried b numbers p k (OfText t) held i st in
      let e = next_kept (size_of b 0) k.marks.columns.strings numbers.strings k.marked.strings.shape k.numbered.strings i lt kept in
      let is : get_or numbers.strings i 0 ≡ rank.0 = number_is numbers.strings i rank.0 rank.1 in
      let at : slice_get vs rank.0 ≡ Some t = slice_get-map first_of s.strings rank.0 ∙ ap (option_map first_of) rank.2 in
      let within = slice_get_within vs rank.0 t at in
      let own : get_or vs rank.0 [] ≡ t = get_or_from_slice_get vs rank.0 t [] at in
      let before : Laying never PacksText 1 wide_text old out (take rank.0 vs) (drop rank.0 vs) vs places rank.0 = subst (λ (n : ℕ). Laying never PacksText 1 wide_text old out (take n vs) (drop n vs) vs places n) is l in
      let due : drop rank.0 vs ≡ t ∷ drop (rank.0 + 1) vs = drop_more vs rank.0 [] within ∙ ap (λ (v : Units). v ∷ drop (rank.0 + 1) vs) own in
      let g = gap_one (length out) in
      let adds : Adds PacksText 1 out new t place = record {
        there = omega (arith, there, g);
        bytes = a.bytes;
        whole = a.joined ∙ ap (λ (x : List ℕ). x ++ a.bytes) (sym (unpadded out));
        some = text_some a.bytes t a.spelled;
        spelled = a.spelled;
      } in
      let n = ap length a.joined ∙ length-append out a.bytes in
      let w = packed_length a.bytes t a.spelled in
      let after : Laying never PacksText 1 wide_text old new (take rank.0 vs ++ t ∷ []) (drop (rank.0 + 1) vs) vs (places ++ place ∷ []) (rank.0 + 1) =
      Laying-more never PacksText 1 wide_text old out new (take rank.0 vs) (drop (rank.0 + 1) vs) vs t places place rank.0 (rank.0 + 1)
      (subst (λ (rest : List Units). Laying never PacksText 1 wide_text old out (take rank.0 vs) rest vs places rank.0) due before) front adds (omega (arith, n, w)) refl in
      let done : take rank.0 vs ++ t ∷ [] ≡ take (rank.0 + 1) vs = ap (λ (v : Units). take rank.0 vs ++ v ∷ []) (sym own) ∙ sym (take_more vs rank.0 [] within) in
      let next : rank.0 + 1 ≡ get_or numbers.strings (i + 1) 0 = ap (λ (n : ℕ). n + 1) (sym is) ∙ sym e in
      subst (λ (ps : List ℕ). AreFirstTexts numbers p old new (i + 1) ps) (sym m)
      (subst (λ (n : ℕ). Laying never PacksText 1 wide_text old new (take n vs) (drop n vs) vs (places ++ place ∷ []) n) next
      (subst (λ (xs : List Units). Laying never PacksText 1 wide_text old new xs (drop (rank.0 + 1) vs) vs (places ++ place ∷ []) (rank.0 + 1)) done after))

  pub texts_count : get_or numbers.strings (size_of b 0) 0 ≡ length (text_values (needed p))
  texts_count = (totals_are_lengths b k.marks (needed p) numbers k.tables k.marked k.numbered).strings ∙ sym (length-map (needed p).strings first_of)

  pub all_texts : (i : ℕ) (old out places : List ℕ) → i ≡ size_of b 0 → AreFirstTexts numbers p old out i places → Laying never PacksText 1 wide_text old out (text_values (needed p)) [] (text_values (needed p)) places (length (text_values (needed p)))
  all_texts i old out places is l =
      let vs = text_values (needed p) in
      let e : get_or numbers.strings i 0 ≡ length vs = ap (λ (n : ℕ). get_or numbers.strings n 0) is ∙ texts_count in
      subst (λ (rest : List Units). Laying never PacksText 1 wide_text old out vs rest vs places (length vs)) (drop_all (length vs) vs (omega arith))
      (subst (λ (done : List Units). Laying never PacksText 1 wide_text old out done (drop (length vs) vs) vs places (length vs)) (take_all (length vs) vs (omega arith))
      (subst (λ (n : ℕ). Laying never PacksText 1 wide_text old out (take n vs) (drop n vs) vs places n) e l))

  -- each string's key is its text
  pub texts_of_keys : map text_key (text_values (needed p)) ≡ (needed p).strings
  texts_of_keys = by (needed p).strings (λ i q at. let r = k.marked.strings.rows q (member_at (needed p).strings i q at) in ap (λ (x : Key). text_key (first_of x)) r.named ∙ sym r.named)
    where
      by : (ks : List Key) → ((i : ℕ) (q : Key) → slice_get ks i ≡ Some q → text_key (first_of q) ≡ q) → map text_key (map first_of ks) ≡ ks
      by [] f = refl
      by (q ∷ ks) f = let a = f zero q refl in let r = by ks (λ i x at. f (suc i) x at) in (λ j. a j ∷ r j)

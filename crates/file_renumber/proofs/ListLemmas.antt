-- The list of handlers.
use Rattle.std.proofs.Common.{◌≡◌, ℕ, zero, suc, ◌+◌, ◌-◌, ◌<◌, ◌≤◌, List, [], ◌∷◌, ◌++◌, length, map, take, drop, get_or, Some, None, Bool, true, false, if◌then◌else◌, ◌==◌, refl, sym, ap, subst, ◌∙◌, arith, append_assoc, length-append}
use Rattle.std.specs.Prelude.{slice_get, option_map}
use Rattle.std.proofs.Math.Seq.{drop-cons}
use Rattle.std.proofs.lemmas.List.{take_more, take_all, map-append, drop_at}
use Rattle.std.specs.List.{AllByRecursion, flat_map}
use Rattle.dex_base.specs.Grammar.{Takes, Placed}
use Rattle.dex_base.specs.Leb128.{Spells}
use Rattle.program_types.specs.Content.{Name, Try}
use Rattle.code_read.specs.Places.{Rises, position}
use Rattle.code_read.specs.Handlers.{Handler, SpellsList, SpellsHandlers, handler_at}
use Rattle.code_read.specs.inner.Handlers.{SpellsHandler}
use Rattle.code_read.specs.Item.{try_handler}
use Rattle.code_read.specs.inner.ItemReading.{ReadTries}
use Rattle.code_read.specs.Tries.{handler_of}
use Rattle.code_read.proofs.ListReading.{ReadSome, offsets-rise}
use Rattle.program_types.specs.Formed.{try_at}
use Rattle.file_renumber.specs.inner.Fronts.{AreListed}
use Rattle.dex_base.proofs.ListFacts.{all_front, all_back, number_one}
use Rattle.code_read.proofs.TryLaws.{offs, hans}

-- what holds of the parts of all holds of those of each
pub all-part : {A B : Type 0} (P : B → Type 0) (f : A → List B) (xs : List A) (k : ℕ) (d : A) → AllByRecursion P (flat_map f xs) → k < length xs → AllByRecursion P (f (get_or xs k d))
all-part P f [] k d all l = absurd (omega (arith, l))
all-part P f (x ∷ xs) zero d all l = all_front P (f x) (flat_map f xs) all
all-part P f (x ∷ xs) (suc k) d all l = all-part P f xs k d (all_back P (f x) (flat_map f xs) all) (omega (arith, l))

-- how many types each catches
abbrev pub counts : List (ℕ × Handler) → List ℕ
counts ps = map (λ (p : ℕ × Handler). length p.1.catches) ps

-- past the end of a list
abbrev pub no_handler : ℕ × Handler
no_handler = (0, record { catches = []; all = None })

-- ---- one by one

-- of a list of n bytes so many are left, and the handlers from number `turn` on stand there
pub record ListDue (N : ℕ → Name → Type 0) (ss : List ℕ) (n : ℕ) (left : List ℕ) (turn : ℕ) (hs : List (ℕ × Handler)) (rest : List ℕ) : Type 0 where
  pub back : List ℕ
  pub whole : left ≡ back ++ rest
  pub placed : Placed (SpellsHandler N ss) (n - length left) back (drop turn hs)
  pub short : length left ≤ n

module _ (N : ℕ → Name → Type 0) (ss : List ℕ) where
  pub list_parts : (bytes : List ℕ) (hs : List (ℕ × Handler)) (rest : List ℕ) → Takes (SpellsList N ss) bytes hs rest → (mid : List ℕ) × Takes Spells bytes (length hs) mid × ListDue N ss (length bytes) mid 0 hs rest
  list_parts bytes hs rest t =
      let s = t.spelled in
      let whole : bytes ≡ s.front ++ (s.back ++ rest) = t.whole ∙ ap (λ l. l ++ rest) s.joined ∙ append_assoc s.front s.back rest in
      let size : length bytes ≡ length s.front + length (s.back ++ rest) = ap length whole ∙ length-append s.front (s.back ++ rest) in
      let at : length s.front ≡ length bytes - length (s.back ++ rest) = omega (arith, size) in (
        s.back ++ rest,
        record { front = s.front; whole = whole; spelled = s.count },
        record { back = s.back; whole = refl; placed = subst (λ (k : ℕ). Placed (SpellsHandler N ss) k s.back hs) at s.each; short = omega (arith, size) },
      )

  -- after the count that was read
  pub list_from : (bytes : List ℕ) (hs : List (ℕ × Handler)) (rest : List ℕ) (n : ℕ) (mid : List ℕ) → Takes Spells bytes n mid → Takes (SpellsList N ss) bytes hs rest → (length hs ≡ n) × ListDue N ss (length bytes) mid 0 hs rest
  list_from bytes hs rest n mid p t =
      let x = list_parts bytes hs rest t in
      let one = number_one bytes (length hs) n x.0 mid x.1 p in
      (one.0, subst (λ (l : List ℕ). ListDue N ss (length bytes) l 0 hs rest) one.1 x.2)

  pub record NextHandler (n : ℕ) (left : List ℕ) (turn : ℕ) (hs : List (ℕ × Handler)) (rest : List ℕ) : Type 0 where
    pub mid : List ℕ
    pub one : Takes (SpellsHandler N ss) left (get_or hs turn no_handler).1 mid
    pub at : (get_or hs turn no_handler).0 ≡ n - length left
    pub more : ListDue N ss n mid (turn + 1) hs rest

  next_placed : (n : ℕ) (left back : List ℕ) (p : ℕ × Handler) (ps : List (ℕ × Handler)) (rest : List ℕ) → left ≡ back ++ rest → length left ≤ n → Placed (SpellsHandler N ss) (n - length left) back (p ∷ ps)
      → (mid : List ℕ) × Takes (SpellsHandler N ss) left p.1 mid × (p.0 ≡ n - length left) × (b : List ℕ) × (mid ≡ b ++ rest) × Placed (SpellsHandler N ss) (n - length mid) b ps × (length mid ≤ n)
  next_placed n left back p ps rest whole short s =
      let mid = s.1 ++ rest in
      let e : left ≡ s.0 ++ mid = whole ∙ ap (λ l. l ++ rest) s.2 ∙ append_assoc s.0 s.1 rest in
      let size : length left ≡ length s.0 + length mid = ap length e ∙ length-append s.0 mid in
      let at : n - length left + length s.0 ≡ n - length mid = omega (arith, size, short) in (
        mid,
        record { front = s.0; whole = e; spelled = s.4 },
        s.3,
        s.1,
        refl,
        subst (λ (k : ℕ). Placed (SpellsHandler N ss) k s.1 ps) at s.5,
        omega (arith, size, short),
      )

  pub next_handler : (n : ℕ) (left : List ℕ) (turn : ℕ) (hs : List (ℕ × Handler)) (rest : List ℕ) → turn < length hs → ListDue N ss n left turn hs rest → NextHandler n left turn hs rest
  next_handler n left turn hs rest lt d =
      let x = next_placed n left d.back (get_or hs turn no_handler) (drop (suc turn) hs) rest d.whole d.short (subst (λ (ps : List (ℕ × Handler)). Placed (SpellsHandler N ss) (n - length left) d.back ps) (drop-cons hs turn no_handler lt) d.placed) in
      let e : suc turn ≡ turn + 1 = omega arith in
      record {
        mid = x.0;
        one = x.1;
        at = x.2;
        more = record { back = x.3; whole = x.4; placed = subst (λ (k : ℕ). Placed (SpellsHandler N ss) (n - length x.0) x.3 (drop k hs)) e x.5; short = x.6 };
      }

-- the first handlers are listed
pub record ListedTo (N : ℕ → Name → Type 0) (ss : List ℕ) (n : ℕ) (left : List ℕ) (turn : ℕ) (hs : List (ℕ × Handler)) (rest offsets catches : List ℕ) : Type 0 where
  pub due : ListDue N ss n left turn hs rest
  pub offsets_are : offsets ≡ offs (take turn hs)
  pub catches_are : catches ≡ counts (take turn hs)

module _ (N : ℕ → Name → Type 0) (ss : List ℕ) where
  pub listed_start : (bytes : List ℕ) (hs : List (ℕ × Handler)) (rest : List ℕ) (n : ℕ) (mid offsets catches : List ℕ) → Takes Spells bytes n mid → Takes (SpellsList N ss) bytes hs rest → offsets ≡ [] → catches ≡ [] → ListedTo N ss (length bytes) mid 0 hs rest offsets catches
  listed_start bytes hs rest n mid offsets catches p t a b = record { due = (list_from N ss bytes hs rest n mid p t).1; offsets_are = a; catches_are = b }

  pub listed_more : (n : ℕ) (left after : List ℕ) (turn : ℕ) (hs : List (ℕ × Handler)) (rest offsets catches more most : List ℕ) (at types : ℕ) → turn < length hs → ListedTo N ss n left turn hs rest offsets catches → (x : NextHandler N ss n left turn hs rest)
      → at ≡ n - length left → types ≡ length (get_or hs turn no_handler).1.catches → after ≡ x.mid → more ≡ offsets ++ at ∷ [] → most ≡ catches ++ types ∷ [] → ListedTo N ss n after (turn + 1) hs rest more most
  listed_more n left after turn hs rest offsets catches more most at types lt l x e f g a b =
      let p = get_or hs turn no_handler in
      let step : take (turn + 1) hs ≡ take turn hs ++ p ∷ [] = take_more hs turn no_handler lt in
      record {
        due = subst (λ (z : List ℕ). ListDue N ss n z (turn + 1) hs rest) (sym g) x.more;
        offsets_are = a ∙ (λ i. l.offsets_are i ++ (e ∙ sym x.at) i ∷ []) ∙ sym (map-append (λ (p : ℕ × Handler). p.0) (take turn hs) (p ∷ [])) ∙ ap offs (sym step);
        catches_are = b ∙ (λ i. l.catches_are i ++ f i ∷ []) ∙ sym (map-append (λ (p : ℕ × Handler). length p.1.catches) (take turn hs) (p ∷ [])) ∙ ap counts (sym step);
      }

  pub listed_end : (n : ℕ) (left : List ℕ) (turn : ℕ) (hs : List (ℕ × Handler)) (rest offsets catches : List ℕ) → length hs ≤ turn → ListedTo N ss n left turn hs rest offsets catches → AreListed hs offsets catches
  listed_end n left turn hs rest offsets catches le l = record { offsets_are = l.offsets_are ∙ ap offs (take_all turn hs le); catches_are = l.catches_are ∙ ap counts (take_all turn hs le) }

  pub listed_rise : (bytes : List ℕ) (hs : List (ℕ × Handler)) (rest : List ℕ) (n : ℕ) (mid offsets catches : List ℕ) → Takes Spells bytes n mid → Takes (SpellsList N ss) bytes hs rest → AreListed hs offsets catches → Rises offsets
  listed_rise bytes hs rest n mid offsets catches p t l =
      let d = (list_from N ss bytes hs rest n mid p t).1 in
      let s : ReadSome N ss bytes mid rest offsets (hans hs) (length hs) = record { front = d.back; joined = d.whole; placed = hs; spelled = d.placed; offsets_are = l.offsets_are; handlers_are = refl; count = refl } in
      offsets-rise N ss bytes mid rest offsets (hans hs) (length hs) s

-- ---- the handler of a try

abbrev FoundBy : Bool → List (ℕ × Handler) → Handler → ℕ → Handler → Type 0
FoundBy t ps q off h = (k : ℕ) × ((if t then Some 0 else option_map (λ (n : ℕ). n + 1) (position (offs ps) off)) ≡ Some k) × (slice_get (q ∷ hans ps) k ≡ Some h)

abbrev pub Found : List (ℕ × Handler) → ℕ → Handler → Type 0
Found ps off h = (k : ℕ) × (position (offs ps) off ≡ Some k) × (slice_get (hans ps) k ≡ Some h)

found_case : (t : Bool) (ps : List (ℕ × Handler)) (q : Handler) (off : ℕ) (h : Handler) → (if t then Some q else handler_at ps off) ≡ Some h → (handler_at ps off ≡ Some h → Found ps off h) → FoundBy t ps q off h
found_case true ps q off h e r = (0, refl, e)
found_case false ps q off h e r =
    let f = r e in
    let s : suc f.0 ≡ f.0 + 1 = omega arith in
    (f.0 + 1, ap (option_map (λ (n : ℕ). n + 1)) f.1, subst (λ (k : ℕ). slice_get (q ∷ hans ps) k ≡ Some h) s f.2)

pub found_at : (ps : List (ℕ × Handler)) (off : ℕ) (h : Handler) → handler_at ps off ≡ Some h → Found ps off h
unfolding position handler_at
found_at [] off h e = absurd cc
found_at (p ∷ ps) off h e = found_case (p.0 == off) ps p.1 off h e (λ f. found_at ps off h f)

-- how many types it catches
pub count_at : (ps : List (ℕ × Handler)) (k : ℕ) (h : Handler) → slice_get (hans ps) k ≡ Some h → get_or (counts ps) k 0 ≡ length h.catches
count_at [] k h e = absurd cc
count_at (p ∷ ps) zero h e = let same : p.1 ≡ h = cc in ap (λ (x : Handler). length x.catches) same
count_at (p ∷ ps) (suc k) h e = count_at ps k h e

module _ (N : ℕ → Name → Type 0) (ss : List ℕ) where
  -- it stands at its offset
  placed_at : (at : ℕ) (pre back rest whole : List ℕ) (ps : List (ℕ × Handler)) (k : ℕ) (h : Handler) → whole ≡ pre ++ (back ++ rest) → length pre ≡ at → Placed (SpellsHandler N ss) at back ps → slice_get (hans ps) k ≡ Some h
      → (after : List ℕ) × Takes (SpellsHandler N ss) (drop (get_or (offs ps) k 0) whole) h after
  placed_at at pre back rest whole [] k h e l s f = absurd cc
  placed_at at pre back rest whole (p ∷ ps) zero h e l s f =
      let same : p.1 ≡ h = cc in
      let skip : drop p.0 whole ≡ back ++ rest = ap (λ (o : ℕ). drop o whole) s.3 ∙ ap (drop at) e ∙ drop_at pre (back ++ rest) at l in (
        s.1 ++ rest,
        record { front = s.0; whole = skip ∙ ap (λ z. z ++ rest) s.2 ∙ append_assoc s.0 s.1 rest; spelled = subst (λ (x : Handler). SpellsHandler N ss s.0 x) same s.4 },
      )
  placed_at at pre back rest whole (p ∷ ps) (suc k) h e l s f =
      placed_at (at + length s.0) (pre ++ s.0) s.1 rest whole ps k h
      (e ∙ ap (λ z. pre ++ (z ++ rest)) s.2 ∙ ap (λ z. pre ++ z) (append_assoc s.0 s.1 rest) ∙ sym (append_assoc pre s.0 (s.1 ++ rest)))
      (length-append pre s.0 ∙ ap (λ (n : ℕ). n + length s.0) l) s.5 f

  pub stands_there : (bytes : List ℕ) (hs : List (ℕ × Handler)) (rest : List ℕ) (k : ℕ) (h : Handler) → Takes (SpellsList N ss) bytes hs rest → slice_get (hans hs) k ≡ Some h → (after : List ℕ) × Takes (SpellsHandler N ss) (drop (get_or (offs hs) k 0) bytes) h after
  stands_there bytes hs rest k h t f =
      let s = t.spelled in
      placed_at (length s.front) s.front s.back rest bytes hs k h (t.whole ∙ ap (λ l. l ++ rest) s.joined ∙ append_assoc s.front s.back rest) refl s.each f

  -- the list is there where there are tries
  some_list : (n : ℕ) (list : List ℕ) (hs : List (ℕ × Handler)) → 0 < n → SpellsHandlers N ss n list hs → SpellsList N ss list hs
  some_list zero list hs l s = absurd (omega (arith, l))
  some_list (suc n) list hs l s = s

  pub list_of_tries : (size n : ℕ) (items bytes : List ℕ) (ts : List Try) → 0 < n → (r : ReadTries N ss size n items bytes ts) → Takes (SpellsList N ss) bytes r.tries.handlers r.after
  list_of_tries size n items bytes ts some r = record { front = r.list; whole = r.joined; spelled = some_list n r.list r.tries.handlers some r.tries.spelled }

-- the handler of try i, by its number in the list
pub record HandlerThere (N : ℕ → Name → Type 0) (ss items bytes offsets catches : List ℕ) (i : ℕ) (h : Handler) : Type 0 where
  pub number : ℕ
  pub at : position offsets (try_handler items i) ≡ Some number
  pub after : List ℕ
  pub taken : Takes (SpellsHandler N ss) (drop (get_or offsets number 0) bytes) h after
  pub count : get_or catches number 0 ≡ length h.catches

pub handler_there : (N : ℕ → Name → Type 0) (ss : List ℕ) (size n : ℕ) (items bytes offsets catches : List ℕ) (ts : List Try) → 0 < n → (r : ReadTries N ss size n items bytes ts) → AreListed r.tries.handlers offsets catches
    → (i : ℕ) → i < n → HandlerThere N ss items bytes offsets catches i (handler_of (try_at ts i))
handler_there N ss size n items bytes offsets catches ts some r l i lt =
    let hs = r.tries.handlers in
    let h = handler_of (try_at ts i) in
    let f = found_at hs (try_handler items i) h (r.tries.each i lt).handler in
    let x = stands_there N ss bytes hs r.after f.0 h (list_of_tries N ss size n items bytes ts some r) f.2 in
    record {
      number = f.0;
      at = subst (λ (os : List ℕ). position os (try_handler items i) ≡ Some f.0) (sym l.offsets_are) f.1;
      after = x.0;
      taken = subst (λ (os : List ℕ). Takes (SpellsHandler N ss) (drop (get_or os f.0 0) bytes) h x.0) (sym l.offsets_are) x.1;
      count = ap (λ (cs : List ℕ). get_or cs f.0 0) l.catches_are ∙ count_at hs f.0 h f.2;
    }

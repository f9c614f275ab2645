-- The handlers of tries, laid out in one list.
use Rattle.std.proofs.Common.{◌≡◌, ◌≢◌, ℕ, ◌+◌, ◌*◌, ◌<◌, ◌≤◌, ◌++◌, List, [], ◌∷◌, map, take, length, get_or, refl, ap, sym, ◌∙◌, arith, zero, suc, subst, Option, Some, inl, inr, length-append, append-nil, ◌==◌, if◌then◌else◌}
use Rattle.std.specs.Prelude.{slice_get}
use Rattle.std.specs.List.{AllZip}
use Rattle.std.proofs.lemmas.Bool.{cases_lt}
use Rattle.std.proofs.lemmas.Bool.Decides.{nat_tests}
use Rattle.std.proofs.lemmas.Option.{slice_get_within}
use Rattle.dex_base.specs.Grammar.{Placed}
use Rattle.dex_base.specs.Leb128.{Spells, Shortest}
use Rattle.program_types.specs.Content.{Name, Try}
use Rattle.program_types.specs.Formed.{try_at}
use Rattle.dex_base.proofs.Numbers.{some_byte}
use Rattle.dex_base.proofs.ShortestLaws.{AllBytes}
use Rattle.code_read.specs.Handlers.{Handler, PacksHandlers, PacksList, handler_at}
use Rattle.code_read.specs.Tries.{handler_of}
use Rattle.code_read.proofs.Lists.{at-old, at-new}
use Rattle.code_write.specs.Fits.{catches_in}
use Rattle.code_write.specs.Packs.{AreByFirstUse, PacksHandlersOf}
use Rattle.code_write.specs.inner.Packs.{PacksHandler}
use Rattle.code_write.specs.inner.Writing.{IsDistinct, IsListed, joined_keys, places_from}
use Rattle.code_write.proofs.ListedLaws.{bytes-few}
use Rattle.dex_base.proofs.ListFacts.{zip_length}
use Rattle.std.proofs.lemmas.List.{take_all}

-- the handlers, each with its place
abbrev placed_of : ℕ → List (List ℕ) → List Handler → List (ℕ × Handler)
placed_of at [] hs = []
placed_of at (k ∷ ks) [] = []
placed_of at (k ∷ ks) (h ∷ hs) = (at, h) ∷ placed_of (at + length k) ks hs

module _ (N : ℕ → Name → Type 0) (ss : List ℕ) where
  packs-some : (key : List ℕ) (h : Handler) → PacksHandler N ss key h → 0 < length key
  packs-some key h p =
      let s = p.spelled in
      let a = some_byte s.front s.first.spelled.sequence in
      omega (arith, ap length s.joined, length-append s.front s.back)

  placed-all : (at : ℕ) (ks : List (List ℕ)) (hs : List Handler) → AllZip (PacksHandler N ss) ks hs → Placed (PacksHandler N ss) at (joined_keys ks) (placed_of at ks hs)
  placed-all at [] [] h = refl
  placed-all at [] (x ∷ hs) h = absurd h
  placed-all at (k ∷ ks) [] h = absurd h
  placed-all at (k ∷ ks) (x ∷ hs) h = (k, joined_keys ks, refl, refl, h.0, placed-all (at + length k) ks hs h.1)

  placed-count : (at : ℕ) (ks : List (List ℕ)) (hs : List Handler) → AllZip (PacksHandler N ss) ks hs → length (placed_of at ks hs) ≡ length ks
  placed-count at [] [] h = refl
  placed-count at [] (x ∷ hs) h = absurd h
  placed-count at (k ∷ ks) [] h = absurd h
  placed-count at (k ∷ ks) (x ∷ hs) h = ap suc (placed-count (at + length k) ks hs h.1)

  -- without their places they are the handlers
  placed-handlers : (at : ℕ) (ks : List (List ℕ)) (hs : List Handler) → AllZip (PacksHandler N ss) ks hs → map (λ (p : ℕ × Handler). p.1) (placed_of at ks hs) ≡ hs
  placed-handlers at [] [] h = refl
  placed-handlers at [] (x ∷ hs) h = absurd h
  placed-handlers at (k ∷ ks) [] h = absurd h
  placed-handlers at (k ∷ ks) (x ∷ hs) h = ap (λ (l : List Handler). x ∷ l) (placed-handlers (at + length k) ks hs h.1)

  places-low : (at : ℕ) (ks : List (List ℕ)) (hs : List Handler) (n : ℕ) → AllZip (PacksHandler N ss) ks hs → n < length ks → at ≤ get_or (places_from at ks) n 0
  places-low at [] hs n h l = absurd (omega arith)
  places-low at (k ∷ ks) [] n h l = absurd h
  places-low at (k ∷ ks) (x ∷ hs) zero h l = omega arith
  places-low at (k ∷ ks) (x ∷ hs) (suc n) h l = let r = places-low (at + length k) ks hs n h.1 (omega arith) in omega arith

  first-other : (t : Option Handler) (a b : ℕ) (x : Handler) → a ≢ b → (if a == b then Some x else t) ≡ t
  first-other t a b x ne = grind (arith, nat_tests)

  first-same : (t : Option Handler) (a : ℕ) (x : Handler) → (if a == a then Some x else t) ≡ Some x
  first-same t a x = grind (arith, nat_tests)

  -- the handler that begins at place n is handler n
  handler-there : (at : ℕ) (ks : List (List ℕ)) (hs : List Handler) (n : ℕ) (h : Handler) → AllZip (PacksHandler N ss) ks hs → slice_get hs n ≡ Some h → handler_at (placed_of at ks hs) (get_or (places_from at ks) n 0) ≡ Some h
  unfolding handler_at
  handler-there at [] [] n h z e = absurd cc
  handler-there at [] (x ∷ hs) n h z e = absurd z
  handler-there at (k ∷ ks) [] n h z e = absurd z
  handler-there at (k ∷ ks) (x ∷ hs) zero h z e = first-same _ at x ∙ e
  handler-there at (k ∷ ks) (x ∷ hs) (suc n) h z e =
      let r = handler-there (at + length k) ks hs n h z.1 e in
      let v = slice_get_within hs n h e in
      let low = places-low (at + length k) ks hs n z.1 (let m = zip_length (PacksHandler N ss) ks hs z.1 in omega arith) in
      let some = packs-some k x z.0 in
      first-other _ at (get_or (places_from (at + length k) ks) n 0) x (λ q. omega arith) ∙ r

  pub laid : (ts : List Try) (keys : List (List ℕ)) (numbers list places offs : List ℕ) (n : ℕ) → n ≡ length ts → 0 < n → IsDistinct N ss ts n keys numbers → IsListed keys list places → length offs ≡ length numbers
      → ((i : ℕ) → i < length numbers → get_or offs i 0 ≡ get_or places (get_or numbers i 0) 0) → AllBytes list → PacksHandlersOf N ss ts list offs
  laid ts keys numbers list places offs n en pos d l c o bytes =
      let at = length l.front in
      let hs = placed_of at keys d.handlers in
      let count = placed-count at keys d.handlers d.spelled in
      let k = d.count in
      record {
        handlers = hs;
        spelled = some-handlers (length ts) (omega arith) (record { front = l.front; back = joined_keys keys; joined = l.is; count = subst (λ (x : ℕ). Shortest Spells l.front x) (sym count) l.count; each = placed-all at keys d.handlers d.spelled });
        order = subst (λ (l : List Handler). AreByFirstUse l ts) (sym (placed-handlers at keys d.handlers d.spelled)) d.order;
        offsets = record {
          count = c ∙ k ∙ en;
          each = λ i li.
              let place : get_or offs i 0 ≡ get_or (places_from at keys) (get_or numbers i 0) 0 = o i (omega arith) ∙ ap (λ (ps : List ℕ). get_or ps (get_or numbers i 0) 0) l.places_are in
              ap (handler_at hs) place ∙ handler-there at keys d.handlers (get_or numbers i 0) (handler_of (try_at ts i)) d.spelled (d.each i (omega arith));
        };
        bytes = bytes;
        short =
            let s = d.short in
            let w : catches_in (take n ts) ≡ catches_in ts = ap catches_in (take_all n ts (omega arith)) in
            let f = bytes-few keys list l.front [] (length keys) (append-nil list ∙ l.is) l.count in
            omega arith;
      }
    where
      some-handlers : (m : ℕ) {bytes : List ℕ} {gs : List (ℕ × Handler)} → 0 < m → PacksList N ss bytes gs → PacksHandlers N ss m bytes gs
      some-handlers zero p q = absurd (omega arith)
      some-handlers (suc m) p q = q

  pub laid-none : (ts : List Try) (list offs : List ℕ) → length ts ≡ 0 → list ≡ [] → offs ≡ [] → PacksHandlersOf N ss ts list offs
  laid-none [] list offs e f g = record {
    handlers = [];
    spelled = (f, refl);
    order = record { firsts = []; each = tt; rise = record { each = λ i j a b. absurd (omega arith) } };
    offsets = record { count = ap length g; each = λ i li. absurd (omega arith) };
    bytes = subst AllBytes (sym f) tt;
    short = let n = ap length f in omega arith;
  }
  laid-none (t ∷ ts) list offs e f g = absurd (omega arith)

  pub listed-few : (ts : List Try) (keys : List (List ℕ)) (numbers : List ℕ) (n : ℕ) → n ≡ length ts → IsDistinct N ss ts n keys numbers → 26 + 18 * n + 10 * catches_in ts ≤ 4294967295 → 5 + length (joined_keys keys) ≤ 4294967295
  listed-few ts keys numbers n e d h =
      let s = d.short in
      let w : catches_in (take n ts) ≡ catches_in ts = ap catches_in (take_all n ts (omega arith)) in
      omega arith

  -- each number is that of a handler
  pub number-inside : (ts : List Try) (keys : List (List ℕ)) (numbers : List ℕ) (n i : ℕ) → IsDistinct N ss ts n keys numbers → i < n → get_or numbers i 0 < length keys
  number-inside ts keys numbers n i d l = let v = slice_get_within d.handlers (get_or numbers i 0) (handler_of (try_at ts i)) (d.each i l) in let c = zip_length (PacksHandler N ss) keys d.handlers d.spelled in omega arith

pub length-places : (at : ℕ) (ks : List (List ℕ)) → length (places_from at ks) ≡ length ks
length-places at [] = refl
length-places at (k ∷ ks) = ap suc (length-places (at + length k) ks)

-- ---- one by one

-- the first n offsets are taken
pub record SomeOffsets (places numbers offs : List ℕ) (n : ℕ) : Type 0 where
  pub count : length offs ≡ n
  pub each : (i : ℕ) → i < n → get_or offs i 0 ≡ get_or places (get_or numbers i 0) 0

pub offset-more : (places numbers offs more : List ℕ) (n at : ℕ) → SomeOffsets places numbers offs n → at ≡ get_or places (get_or numbers n 0) 0 → more ≡ offs ++ at ∷ [] → SomeOffsets places numbers more (n + 1)
offset-more places numbers offs more n at s e m = subst (λ (os : List ℕ). SomeOffsets places numbers os (n + 1)) (sym m) (let c = s.count in record {
  count = omega (arith, length-append offs (at ∷ []));
  each = λ i l. elim (cases_lt i n) [
    | inl a ↦ at-old offs at 0 i (omega arith) ∙ s.each i a
    | inr a ↦ let q : length offs ≡ i = omega arith in let r : n ≡ i = omega arith in
        ap (λ (k : ℕ). get_or (offs ++ at ∷ []) k 0) (sym q) ∙ at-new offs at 0 ∙ e ∙ ap (λ (k : ℕ). get_or places (get_or numbers k 0) 0) r
  ];
})

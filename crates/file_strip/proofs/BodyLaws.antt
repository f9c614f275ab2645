-- Bodies that are written by the numbers of kept rows.
use Rattle.std.proofs.Common.{◌≡◌, ℕ, zero, suc, ◌+◌, ◌<◌, Bool, true, false, List, [], ◌∷◌, length, take, get_or, refl, sym, subst, ◌∙◌, arith, Some, None, Option, inl, inr}
use Rattle.std.specs.Prelude.{MatchBool, ◌==◌}
use Rattle.std.specs.List.{AllByRecursion}
use Rattle.std.proofs.lemmas.List.{take_more, length-map}
use Rattle.dex_base.specs.Fields.{AreBytes}
use Rattle.code_write.specs.Fits.{CodeBreaksLimit, FitsCode, HandlersAreNear, HandlerTooFar}
use Rattle.code_write.specs.Packs.{PacksCode}
use Rattle.code_write.proofs.HandlerOnce.{ranks-injective}
use Rattle.code_write.proofs.LayoutOnce.{layout-once}
use Rattle.code_write.proofs.PackedLaws.{packed-spells}
use Rattle.file_renumber.specs.inner.CarriedCodes.{IsCarriedCode}
use Rattle.dex_insn.specs.declared.opcode.IndexKind.TheVariants as kind
use Rattle.file_strip.specs.inner.AtLeast.{FitsButHandlers}
use Rattle.file_put.specs.inner.Codes.{WritesBody, is_bodiless}
use Rattle.file_put.proofs.OneBody.{packed_room}
use Rattle.file_layout.specs.inner.OneMore.{Entry}
use Rattle.file_layout.specs.inner.Sharing.{UsesItem}
use Rattle.program_types.specs.Content.{Code}
use Rattle.program_types.specs.Sizes.{addresses_of}
use Rattle.tables_names.specs.Closure.{Five, AreRising, NameRanks}
use Rattle.file_renumber.specs.inner.Marked.{Columns}
use Rattle.file_strip.specs.inner.Bodies.{AreNear, AreOwned, IsCarriedBody, IsCarriedSome, IsFar, IsFirstFar, IsOwned, bodies_alone}
use Rattle.file_strip.specs.declared.codes.PlacedBody.{PlacedBody}
use Rattle.file_strip.specs.inner.Moved.{IsItem}
use Rattle.code_write.proofs.ListLaws.{all-at}
use Rattle.file_renumber.proofs.MarkLemmas.{zip_at}
use Rattle.dex_base.proofs.ListFacts.{zip_length, some_inj, all_append}

-- ---- what is written is near, so it fits

no_code : (c : Code) (o : Option Code) → o ≡ None → o ≡ Some c → ⊥
no_code c o e f = absurd cc

-- handlers are laid in one way, in which those of a code that is written are near
near_of : (s : Five) (c : Code) (bytes : List ℕ) → AreRising s → PacksCode (NameRanks s) bytes c → HandlersAreNear (NameRanks s) (addresses_of c.insns) c.tries
near_of s c bytes rise packs = λ list offs laid i lt.
    let once = layout-once (NameRanks s) (addresses_of c.insns) (ranks-injective s rise) c.tries list offs packs.list packs.offsets laid packs.handlers in
    all-at (λ off. off < 65536) offs i 0 (subst (λ (os : List ℕ). AllByRecursion (λ off. off < 65536) os) (sym once.1) packs.near) lt

not_far : (N : ℕ → _ → Type 0) (c : Code) → HandlersAreNear N (addresses_of c.insns) c.tries → ¬ CodeBreaksLimit N c 89
not_far N c near (HandlerTooFar short some) = let n = near some.list some.offs some.laid some.index some.inside in let f = some.far in omega (arith, n, f)

fits_code : (s : Five) (c : Code) (bytes : List ℕ) → AreRising s → FitsButHandlers (NameRanks s) c → PacksCode (NameRanks s) bytes c → FitsCode (NameRanks s) c
fits_code s c bytes rise fits packs = record {
  strings = fits.names kind.String;
  fields = fits.names kind.Field;
  methods = fits.names kind.Method;
  offsets = fits.offsets;
  even = fits.even;
  tries = fits.tries;
  few = fits.few;
  handlers = λ short. near_of s c bytes rise packs;
}

-- ---- one body

-- the item of a body
pub body_item : (b : List ℕ) (numbers : Columns) (s : Five) (off : ℕ) (v : Option Code) (bytes : List ℕ) → AreBytes bytes → IsCarriedSome b numbers s off v
    → ((c : Code) → IsCarriedCode b off numbers s c → PacksCode (NameRanks s) bytes c) → IsItem is_bodiless (WritesBody s) bytes v
body_item b numbers s off v bytes are x packs =
    let p = packs x.code x.carried in
    subst (λ (o : Option Code). IsItem is_bodiless (WritesBody s) bytes o) (sym x.is) (
      (packed_room (NameRanks s) x.code bytes p).0,
      record { packs = p; spells = packed-spells (NameRanks s) x.code x.formed (fits_code s x.code bytes x.carried.rise x.fits p) x.carried.short bytes p; formed = x.formed; are = are },
    )

-- a handler is too far in it
pub body_far : (b : List ℕ) (numbers : Columns) (s : Five) (off : ℕ) (v : Option Code) → IsCarriedSome b numbers s off v
    → ((c : Code) → IsCarriedCode b off numbers s c → CodeBreaksLimit (NameRanks s) c 89) → IsFar s v
body_far b numbers s off v x far = record { code = x.code; is = x.is; breaks = far x.code x.carried }

near_written : (s : Five) → AreRising s → (bytes : List ℕ) (v : Option Code) → WritesBody s bytes v → ¬ IsFar s v
near_written s rise bytes None w f = absurd w
near_written s rise bytes (Some c) w f = not_far (NameRanks s) c (near_of s c bytes rise w.packs) (subst (λ (d : Code). CodeBreaksLimit (NameRanks s) d 89) (sym (some_inj c f.code f.is)) f.breaks)

-- a body that has its place is near
near_used : (s : Five) → AreRising s → (align : ℕ) (kept more : List Entry) (old new : List ℕ) (v : Option Code) (place : ℕ) → UsesItem is_bodiless (WritesBody s) align kept more old new v place → ¬ IsFar s v
near_used s rise align kept more old new None place u f = absurd (no_code f.code None refl f.is)
near_used s rise align kept more old new (Some c) place u f = near_written s rise u.0 (Some c) u.1 f

-- after an offset other than 0 a code stands
pub some_carried : (b : List ℕ) (numbers : Columns) (s : Five) (off : ℕ) (v : Option Code) → (off == 0) ≡ false → IsCarriedBody b numbers s off v → IsCarriedSome b numbers s off v
some_carried b numbers s off v e x = subst (λ (t : Bool). MatchBool t (v ≡ None) (IsCarriedSome b numbers s off v)) e x

pub near_body : (b : List ℕ) (numbers : Columns) (s : Five) (off : ℕ) (v : Option Code) (align : ℕ) (kept more : List Entry) (old new : List ℕ) (place : ℕ) → IsCarriedBody b numbers s off v
    → UsesItem is_bodiless (WritesBody s) align kept more old new v place → ¬ IsFar s v
near_body b numbers s off v align kept more old new place x u =
    elim (off == 0) as (λ (t : Bool). MatchBool t (v ≡ None) (IsCarriedSome b numbers s off v) → ¬ IsFar s v) [
      | true ↦ λ e f. absurd (no_code f.code v e f.is)
      | false ↦ λ y. near_used s y.carried.rise align kept more old new v place u
    ] x

-- ---- bodies one by one

-- the body alone of turn i
pub turn_of : (xs : List (ℕ × Option Code)) (i : ℕ) → get_or (bodies_alone xs) i None ≡ (get_or xs i (0, None)).1
turn_of [] i = refl
turn_of (y ∷ xs) zero = refl
turn_of (y ∷ xs) (suc i) = turn_of xs i

-- each of them stands where the entry of its method says
pub carried_at : (b : List ℕ) (numbers : Columns) (s : Five) (es : List PlacedBody) (xs : List (ℕ × Option Code)) (i : ℕ) → i < length es → AreOwned b numbers s es xs
    → ((get_or es i (record { class = 0; code = 0 })).class ≡ (get_or xs i (0, None)).0) × IsCarriedBody b numbers s (get_or es i (record { class = 0; code = 0 })).code (get_or (bodies_alone xs) i None)
carried_at b numbers s es xs i lt z =
    let o = zip_at (IsOwned b numbers s) es xs i (record { class = 0; code = 0 }) (0, None) lt z in
    (o.class, subst (IsCarriedBody b numbers s (get_or es i (record { class = 0; code = 0 })).code) (sym (turn_of xs i)) o.body)

pub owned_long : (b : List ℕ) (numbers : Columns) (s : Five) (es : List PlacedBody) (xs : List (ℕ × Option Code)) → AreOwned b numbers s es xs → (length es ≡ length xs) × (length es ≡ length (bodies_alone xs))
owned_long b numbers s es xs z =
    let n = zip_length (IsOwned b numbers s) es xs z in
    (n, n ∙ sym (length-map xs (λ (x : ℕ × Option Code). x.1)))

pub near_more : (s : Five) (xs : List (ℕ × Option Code)) (i : ℕ) (x : ℕ × Option Code) → i < length xs → AreNear s (take i xs) → (¬ IsFar s (get_or xs i x).1) → AreNear s (take (i + 1) xs)
near_more s xs i x lt near one =
    subst (λ (ys : List (ℕ × Option Code)). AreNear s ys) (sym (take_more xs i x lt)) (all_append (λ y. ¬ IsFar s y.1) (take i xs) (get_or xs i x ∷ []) near (one, tt))

-- the first that is far
pub first_far : (s : Five) (xs : List (ℕ × Option Code)) (i : ℕ) (x : ℕ × Option Code) (class : ℕ) → i < length xs → AreNear s (take i xs) → (get_or xs i x).0 ≡ class → IsFar s (get_or xs i x).1 → IsFirstFar s xs class
first_far s [] i x class lt near e far = absurd (omega (arith, lt))
first_far s (y ∷ xs) zero x class lt near e far = inl (e, far)
first_far s (y ∷ xs) (suc i) x class lt near e far = inr (near.0, first_far s xs i x class (omega (arith, lt)) near.1 e far)

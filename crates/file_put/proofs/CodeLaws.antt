-- Bodies, one after the other.
use Rattle.std.proofs.Common.{◌≡◌, ℕ, ◌+◌, ◌<◌, ◌≤◌, List, [], ◌∷◌, ◌++◌, length, map, take, drop, get_or, sym, ap, ◌∙◌, arith, subst, append_assoc, Option, Some}
use Rattle.std.proofs.lemmas.Grind.{flat_map-append}
use Rattle.std.proofs.lemmas.List.{take_all, drop_all, append-nil}
use Rattle.std.specs.List.{AllByRecursion, flat_map}
use Rattle.code_write.proofs.PackedLaws.{packed-spells}
use Rattle.code_write.specs.Packs.{PacksCode}
use Rattle.file_layout.specs.Sections.{wide_all}
use Rattle.file_layout.specs.inner.OneMore.{Entry, PutsOnce}
use Rattle.file_layout.specs.inner.Sharing.{Sharing, UsesItem}
use Rattle.file_layout.proofs.SharingLaws.{sharing_more, sharing_bound}
use Rattle.dex_base.specs.Fields.{AreBytes}
use Rattle.file_limits.specs.Wide.{bodies_in, bodies_of, wide_body}
use Rattle.tables_names.specs.Closure.{Five, NameRanks}
use Rattle.program_types.specs.Content.{Code, Class}
use Rattle.program_types.specs.Content as content
use Rattle.program_types.specs.View as view
use Rattle.program_types.specs.declared.class.Class as made
use Rattle.program_types.specs.declared.class.Method as made_method
use Rattle.file_put.proofs.LengthLaws.{map_drop}
use Rattle.file_put.specs.inner.Codes.{PacksBody, WritesBody, is_bodiless}
use Rattle.file_put.specs.inner.Named.{CanPut}
use Rattle.dex_base.proofs.ListFacts.{map_more, all_at}
use Rattle.file_limits.proofs.PartLaws.{map_map}
use Rattle.file_put.proofs.OneBody.{bodies_packs, bodies_one, bodies_most}

-- ---- one body

pub body_used : (s : Five) (kept more : List Entry) (old new : List ℕ) (c : Code) (bytes : List ℕ) (place : ℕ) → CanPut s c → AreBytes bytes → PacksCode (NameRanks s) bytes c → PutsOnce 4 kept more old new bytes place
    → UsesItem is_bodiless (WritesBody s) 4 kept more old new (Some c) place
body_used s kept more old new c bytes place can are p u =
    (bytes, record { packs = p; spells = packed-spells (NameRanks s) c can.formed can.fits can.ranked.short bytes p; formed = can.formed; are = are }, u)

-- ---- the bodies of methods

abbrev pub Bodies : Five → List ℕ → List ℕ → List (Option Code) → List (Option Code) → List (Option Code) → List ℕ → List Entry → Type 0
Bodies s old out done rest all places kept = Sharing is_bodiless (PacksBody (NameRanks s)) (WritesBody s) 4 wide_body old out done rest all places kept

-- What the bodies of methods do to what was laid before them.
pub record BodiesTo (s : Five) (before now : List ℕ) (bodies done rest : List (Option Code)) (places_before places_now : List ℕ) (items_before items_now : List Entry) : Type 0 where
  pub lays : (old : List ℕ) (front back all : List (Option Code)) → 0 < length old → Bodies s old before front (bodies ++ back) all places_before items_before
      → Bodies s old now (front ++ done) (rest ++ back) all places_now items_now
  pub bound : length now + wide_all wide_body rest ≤ length before + wide_all wide_body bodies

bodies_more : (ms : List made_method.Method) (i : ℕ) (d : made_method.Method) → i < length ms
    → bodies_in (map view.method (take (i + 1) ms)) ≡ bodies_in (map view.method (take i ms)) ++ (view.method (get_or ms i d)).code ∷ []
bodies_more ms i d lt =
    map_map (λ (m : content.Method). m.code) view.method (take (i + 1) ms) ∙ map_more (λ (m : made_method.Method). (view.method m).code) ms i d lt
    ∙ ap (λ (l : List (Option Code)). l ++ (view.method (get_or ms i d)).code ∷ []) (sym (map_map (λ (m : content.Method). m.code) view.method (take i ms)))

bodies_left : (ms : List made_method.Method) (i : ℕ) (d : made_method.Method) → i < length ms
    → bodies_in (map view.method (drop i ms)) ≡ (view.method (get_or ms i d)).code ∷ bodies_in (map view.method (drop (i + 1) ms))
bodies_left ms i d lt = ap (λ (l : List content.Method). bodies_in l) (map_drop view.method ms i d lt)

pub bodies_start : (s : Five) (before : List ℕ) (bodies : List (Option Code)) (places : List ℕ) (items : List Entry) → BodiesTo s before before bodies [] bodies places places items items
bodies_start s before bodies places items = record {
  lays = λ old front back all some l. subst (λ (f : List (Option Code)). Bodies s old before f (bodies ++ back) all places items) (sym (append-nil front)) l;
  bound = omega arith;
}

-- one more method
pub bodies_step : (s : Five) (before mid now : List ℕ) (bodies : List (Option Code)) (ms : List made_method.Method) (i : ℕ) (d : made_method.Method) (places_before places more : List ℕ) (items_before items kept : List Entry) (place : ℕ) → i < length ms
    → BodiesTo s before mid bodies (bodies_in (map view.method (take i ms))) (bodies_in (map view.method (drop i ms))) places_before places items_before items
    → UsesItem is_bodiless (WritesBody s) 4 items kept mid now (view.method (get_or ms i d)).code place → more ≡ places ++ place ∷ []
    → BodiesTo s before now bodies (bodies_in (map view.method (take (i + 1) ms))) (bodies_in (map view.method (drop (i + 1) ms))) places_before more items_before kept
bodies_step s before mid now bodies ms i d places_before places more items_before items kept place lt b a m =
    let v = (view.method (get_or ms i d)).code in
    let left = bodies_left ms i d lt in
    let right = bodies_more ms i d lt in
    let w = ap (wide_all wide_body) left in
    let bound = b.bound in
    let small = sharing_bound is_bodiless (PacksBody (NameRanks s)) (WritesBody s) 4 wide_body mid now v place items kept (bodies_most s v) a in
    record {
      lays = λ old front back all some l.
          let before_one = subst (λ (r : List (Option Code)). Bodies s old mid (front ++ bodies_in (map view.method (take i ms))) (r ++ back) all places items) left (b.lays old front back all some l) in
          let after = sharing_more is_bodiless (PacksBody (NameRanks s)) (WritesBody s) 4 wide_body old mid now (front ++ bodies_in (map view.method (take i ms))) (bodies_in (map view.method (drop (i + 1) ms)) ++ back) all v places place items kept (bodies_packs s) (bodies_one s) before_one some a small in
          rw m (subst (λ (f : List (Option Code)). Bodies s old now f (bodies_in (map view.method (drop (i + 1) ms)) ++ back) all (places ++ place ∷ []) kept)
          (append_assoc front (bodies_in (map view.method (take i ms))) (v ∷ []) ∙ ap (λ (l : List (Option Code)). front ++ l) (sym right)) after);
      bound = omega (arith, w, bound, small);
    }

-- all methods are done
pub bodies_end : (s : Five) (before now : List ℕ) (ms : List made_method.Method) (i : ℕ) (places_before places : List ℕ) (items_before items : List Entry) → length ms ≤ i
    → BodiesTo s before now (bodies_in (map view.method ms)) (bodies_in (map view.method (take i ms))) (bodies_in (map view.method (drop i ms))) places_before places items_before items
    → (old : List ℕ) (front back all : List (Option Code)) → 0 < length old → Bodies s old before front (bodies_in (map view.method ms) ++ back) all places_before items_before
    → Bodies s old now (front ++ bodies_in (map view.method ms)) back all places items
bodies_end s before now ms i places_before places items_before items le b old front back all some l =
    let done = ap (λ (xs : List made_method.Method). bodies_in (map view.method xs)) (take_all i ms le) in
    let none = ap (λ (xs : List made_method.Method). bodies_in (map view.method xs)) (drop_all i ms le) in
    subst (λ (d : List (Option Code)). Bodies s old now (front ++ d) back all places items) done
    (subst (λ (r : List (Option Code)). Bodies s old now (front ++ bodies_in (map view.method (take i ms))) (r ++ back) all places items) none (b.lays old front back all some l))

-- ---- the bodies of classes

-- those of class i come first of the rest
pub class_left : (cs : List made.Class) (i : ℕ) (d : made.Class) → i < length cs
    → flat_map bodies_of (map view.class (drop i cs)) ≡ bodies_in (map view.method (get_or cs i d).directs.now) ++ (bodies_in (map view.method (get_or cs i d).virtuals.now) ++ flat_map bodies_of (map view.class (drop (i + 1) cs)))
class_left cs i d lt =
    ap (flat_map bodies_of) (map_drop view.class cs i d lt) ∙ append_assoc (bodies_in (map view.method (get_or cs i d).directs.now)) (bodies_in (map view.method (get_or cs i d).virtuals.now)) (flat_map bodies_of (map view.class (drop (i + 1) cs)))

pub class_done : (cs : List made.Class) (i : ℕ) (d : made.Class) → i < length cs
    → flat_map bodies_of (map view.class (take (i + 1) cs)) ≡ (flat_map bodies_of (map view.class (take i cs)) ++ bodies_in (map view.method (get_or cs i d).directs.now)) ++ bodies_in (map view.method (get_or cs i d).virtuals.now)
class_done cs i d lt =
    ap (flat_map bodies_of) (map_more view.class cs i d lt) ∙ flat_map-append bodies_of (map view.class (take i cs)) (view.class (get_or cs i d) ∷ [])
    ∙ ap (λ (l : List (Option Code)). flat_map bodies_of (map view.class (take i cs)) ++ l) (append-nil (bodies_of (view.class (get_or cs i d))))
    ∙ sym (append_assoc (flat_map bodies_of (map view.class (take i cs))) (bodies_in (map view.method (get_or cs i d).directs.now)) (bodies_in (map view.method (get_or cs i d).virtuals.now)))

-- the body of one of the methods
pub body_at : (P : Option Code → Type 0) (ms : List made_method.Method) (i : ℕ) (d : made_method.Method) → i < length ms → AllByRecursion P (bodies_in (map view.method ms)) → P (view.method (get_or ms i d)).code
body_at P ms i d lt h = all_at P (λ (m : made_method.Method). (view.method m).code) ms i d lt (subst (λ (l : List (Option Code)). AllByRecursion P l) (map_map (λ (m : content.Method). m.code) view.method ms) h)

pub body_room : (ms : List made_method.Method) (i : ℕ) (d : made_method.Method) → i < length ms → wide_body (view.method (get_or ms i d)).code ≤ wide_all wide_body (bodies_in (map view.method (drop i ms)))
body_room ms i d lt = let e = ap (wide_all wide_body) (bodies_left ms i d lt) in omega (arith, e)

-- so there is room for it
pub body_fits : (out old : List ℕ) (ms : List made_method.Method) (i : ℕ) (d : made_method.Method) (limit : ℕ) → i < length ms
    → length out + wide_all wide_body (bodies_in (map view.method (drop i ms))) ≤ length old + wide_all wide_body (bodies_in (map view.method ms))
    → length old + wide_all wide_body (bodies_in (map view.method ms)) < limit → length out + wide_body (view.method (get_or ms i d)).code < limit
body_fits out old ms i d limit lt b room = let w = body_room ms i d lt in omega (arith, b, w, room)

-- what is known of the bodies of methods that were put
abbrev pub PutsBodies : Five → List ℕ → List ℕ → List made_method.Method → List ℕ → List ℕ → List Entry → List Entry → Type 0
PutsBodies s mid now ms places_before places items_before items =
    (old : List ℕ) (front back all : List (Option Code)) → 0 < length old → Bodies s old mid front (bodies_in (map view.method ms) ++ back) all places_before items_before
    → Bodies s old now (front ++ bodies_in (map view.method ms)) back all places items

-- the direct methods of one more class
pub first_part : (s : Five) (cs : List made.Class) (i : ℕ) (d : made.Class) (old mid now places more : List ℕ) (items count : List Entry) → i < length cs → 0 < length old
    → Bodies s old mid (flat_map bodies_of (map view.class (take i cs))) (flat_map bodies_of (map view.class (drop i cs))) (flat_map bodies_of (map view.class cs)) places items
    → PutsBodies s mid now (get_or cs i d).directs.now places more items count
    → Bodies s old now (flat_map bodies_of (map view.class (take i cs)) ++ bodies_in (map view.method (get_or cs i d).directs.now)) (bodies_in (map view.method (get_or cs i d).virtuals.now) ++ flat_map bodies_of (map view.class (drop (i + 1) cs))) (flat_map bodies_of (map view.class cs)) more count
first_part s cs i d old mid now places more items count lt some l puts =
    puts old (flat_map bodies_of (map view.class (take i cs))) (bodies_in (map view.method (get_or cs i d).virtuals.now) ++ flat_map bodies_of (map view.class (drop (i + 1) cs))) (flat_map bodies_of (map view.class cs)) some
    (subst (λ (r : List (Option Code)). Bodies s old mid (flat_map bodies_of (map view.class (take i cs))) r (flat_map bodies_of (map view.class cs)) places items) (class_left cs i d lt) l)

-- and its virtual ones
pub both_parts : (s : Five) (cs : List made.Class) (i : ℕ) (d : made.Class) (old mid now last places more most : List ℕ) (items count all_count : List Entry) → i < length cs → 0 < length old
    → Bodies s old mid (flat_map bodies_of (map view.class (take i cs))) (flat_map bodies_of (map view.class (drop i cs))) (flat_map bodies_of (map view.class cs)) places items
    → PutsBodies s mid now (get_or cs i d).directs.now places more items count
    → PutsBodies s now last (get_or cs i d).virtuals.now more most count all_count
    → Bodies s old last (flat_map bodies_of (map view.class (take (i + 1) cs))) (flat_map bodies_of (map view.class (drop (i + 1) cs))) (flat_map bodies_of (map view.class cs)) most all_count
both_parts s cs i d old mid now last places more most items count all_count lt some l puts again =
    subst (λ (f : List (Option Code)). Bodies s old last f (flat_map bodies_of (map view.class (drop (i + 1) cs))) (flat_map bodies_of (map view.class cs)) most all_count) (sym (class_done cs i d lt))
    (again old (flat_map bodies_of (map view.class (take i cs)) ++ bodies_in (map view.method (get_or cs i d).directs.now)) (flat_map bodies_of (map view.class (drop (i + 1) cs))) (flat_map bodies_of (map view.class cs)) some
    (first_part s cs i d old mid now places more items count lt some l puts))

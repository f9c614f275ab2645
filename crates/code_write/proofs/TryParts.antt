-- What a try in memory has, by what its content has.
use Rattle.std.proofs.Common.{◌≡◌, ◌≢◌, ℕ, ◌+◌, ◌*◌, ◌<◌, ◌≤◌, List, [], ◌∷◌, map, length, get_or, ap, sym, ◌∙◌, arith, zero, suc, subst, None}
use Rattle.std.specs.Prelude.{IfSome, IfNone}
use Rattle.std.specs.List.{AllByRecursion, flat_map}
use Rattle.std.proofs.lemmas.List.{length-map}
use Rattle.std.proofs.lemmas.List.Folds.{length-flat_map-take}
use Rattle.program_types.specs.Content.{Name, OfDesc, Try, Catch}
use Rattle.program_types.specs.Mentions.{names_of_try}
use Rattle.program_types.specs.Formed.{try_at, TryFormed}
use Rattle.program_types.specs.View.{try, catch}
use Rattle.program_types.specs.declared.code.Try.{Try as Held}
use Rattle.code_write.specs.Fits.{catches_in}
use Rattle.code_write.proofs.ItemPieces.{seen-at}
use Rattle.dex_base.proofs.ListFacts.{all_front, all_back}

all-named : (P : Name → Type 0) (cs : List Catch) → AllByRecursion P (map (λ (c : Catch). OfDesc c.ty) cs) → AllByRecursion (λ (c : Catch). P (OfDesc c.ty)) cs
all-named P [] h = tt
all-named P (c ∷ cs) h = (h.0, all-named P cs h.1)

caught-at : (P : Name → Type 0) (ts : List Try) (i : ℕ) → AllByRecursion P (flat_map names_of_try ts) → i < length ts → AllByRecursion (λ (c : Catch). P (OfDesc c.ty)) (try_at ts i).catches
caught-at P [] i h l = absurd (omega arith)
caught-at P (t ∷ ts) zero h l = all-named P t.catches (all_front P (names_of_try t) (flat_map names_of_try ts) h)
caught-at P (t ∷ ts) (suc i) h l = caught-at P ts i (all_back P (names_of_try t) (flat_map names_of_try ts) h) (omega arith)

module _ (xs : List Held) (i : ℕ) (x : Held) (l : i < length xs) where
  pub few-catches : 26 + 18 * length xs + 10 * catches_in (map try xs) ≤ 4294967295 → length (get_or xs i x).catches.now ≤ 2147483647
  few-catches h =
      let n = length-map xs try in
      let f = length-flat_map-take (λ (t : Try). t.catches) (map try xs) i (record { from = 0; to = 0; catches = []; catch_all = None }) (omega arith) in
      let e = seen-at xs i x l in
      let m : length (try_at (map try xs) i).catches ≡ length (get_or xs i x).catches.now = ap (λ (t : Try). length t.catches) (sym e) ∙ length-map (get_or xs i x).catches.now catch in
      omega arith

  pub places-inside : (count : ℕ) → TryFormed count (map try xs) i → AllByRecursion (λ (c : Catch). c.at < count) (map catch (get_or xs i x).catches.now)
  places-inside count f = subst (λ (t : Try). AllByRecursion (λ (c : Catch). c.at < count) t.catches) (sym (seen-at xs i x l)) f.places

  pub types-named : (P : Name → Type 0) → AllByRecursion P (flat_map names_of_try (map try xs)) → AllByRecursion (λ (c : Catch). P (OfDesc c.ty)) (map catch (get_or xs i x).catches.now)
  types-named P h = let n = length-map xs try in subst (λ (t : Try). AllByRecursion (λ (c : Catch). P (OfDesc c.ty)) t.catches) (sym (seen-at xs i x l)) (caught-at P (map try xs) i h (omega arith))

  pub last-inside : (count : ℕ) → TryFormed count (map try xs) i → IfSome (get_or xs i x).catch_all (λ k. k < count)
  last-inside count f = subst (λ (t : Try). IfSome t.catch_all (λ k. k < count)) (sym (seen-at xs i x l)) f.last

  pub some-handled : (count : ℕ) → TryFormed count (map try xs) i → IfNone (get_or xs i x).catch_all (map catch (get_or xs i x).catches.now ≢ [])
  some-handled count f = subst (λ (t : Try). IfNone t.catch_all (t.catches ≢ [])) (sym (seen-at xs i x l)) f.handled

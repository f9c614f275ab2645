-- Byte strings that are held once each.
use Rattle.std.proofs.Common.{◌≡◌, ℕ, ◌++◌, List, [], ◌∷◌, map, length, refl, ap, sym, ◌∙◌, arith, zero, suc, Some, inl, inr, ◌⊎◌, Bool, true, false, if◌then◌else◌, Vec, Global}
use Rattle.std.specs.Prelude.{slice_get, option_map}
use Rattle.std.specs.List.{list_any, position_or_len}
use Rattle.std.specs.Str.{bytes_eq}
use Rattle.std.proofs.lemmas.Slice.Eq.{bytes_eq-Decides}
use Rattle.std.proofs.lemmas.Option.{slice_get-map}
use Rattle.std.proofs.lemmas.List.{length-map, map-append}
use Rattle.indexmap.specs.IndexSet.{insert_key}
use Rattle.code_write.specs.inner.Writing.{IsHeldAs}
use Rattle.std.proofs.lemmas.Bool.{or_parts}

abbrev Held : Type 0
Held = Vec ℕ Global

abbrev items : Held → List ℕ
items v = v.items

-- the test by which they are found
abbrev same : Held → Held → Bool
same v w = bytes_eq v.items w.items

none-there : (ks : List Held) (b : Held) (k : ℕ) → list_any (same b) ks ≡ false → slice_get (map items ks) k ≡ Some b.items → ⊥
none-there [] b k e g = cc
none-there (x ∷ xs) b zero e g = let o = or_parts (same b x) (list_any (same b) xs) e in let t = (bytes_eq-Decides b.items x.items).1 cc in let f = o.0 in cc
none-there (x ∷ xs) b (suc k) e g = none-there xs b k (or_parts (same b x) (list_any (same b) xs) e).1 g

last-place : (ks : List Held) (b : Held) → list_any (same b) ks ≡ false → position_or_len (same b) ks ≡ length ks
last-place [] b e = refl
last-place (x ∷ xs) b e = let o = or_parts (same b x) (list_any (same b) xs) e in let r = last-place xs b o.1 in rw o.0 (omega arith)

by-test : (t : Bool) (ks new : List Held) (b : Held) (n : ℕ) → list_any (same b) ks ≡ t → new ≡ (if t then ks else ks ++ b ∷ []) → n ≡ position_or_len (same b) ks
    → (map items new ≡ map items ks) ⊎ ((n ≡ length (map items ks)) × (map items new ≡ map items ks ++ b.items ∷ []) × ((k : ℕ) → slice_get (map items ks) k ≡ Some b.items → ⊥))
by-test true ks new b n e f g = inl (ap (map items) f)
by-test false ks new b n e f g = inr (g ∙ last-place ks b e ∙ sym (length-map ks items), ap (map items) f ∙ map-append items ks (b ∷ []), λ k h. none-there ks b k e h)

pub numbered : (ks new : List Held) (b : Held) (n : ℕ) (x : Held) → slice_get new n ≡ Some x → bytes_eq b.items x.items ≡ true → new ≡ insert_key same ks b → n ≡ position_or_len (same b) ks → IsHeldAs (map items ks) (map items new) b.items n
numbered ks new b n x there eq keys index = record {
  there = slice_get-map items new n ∙ ap (option_map items) there ∙ ap (λ (l : List ℕ). Some l) (sym ((bytes_eq-Decides b.items x.items).0 eq));
  is_new = by-test (list_any (same b) ks) ks new b n refl keys index;
}

pub none-held : (ks : List Held) → length ks ≡ 0 → map items ks ≡ []
none-held [] e = refl
none-held (k ∷ ks) e = absurd (omega arith)

-- Byte strings after a count, and their places.
use Rattle.std.proofs.Common.{◌≡◌, ℕ, ◌+◌, ◌≤◌, ◌++◌, List, [], ◌∷◌, map, length, drop, ap, sym, ◌∙◌, arith, subst, Some, Vec, Global, append_assoc, append-nil, length-append}
use Rattle.std.specs.Prelude.{slice_get, option_map}
use Rattle.std.proofs.lemmas.List.{drop_more, length-map, drop_all}
use Rattle.std.proofs.lemmas.Option.{slice_get-map, slice_get_within, get_or_from_slice_get}
use Rattle.dex_base.specs.Grammar.{Appends}
use Rattle.dex_base.specs.Leb128.{Spells, Shortest}
use Rattle.code_write.specs.inner.Writing.{joined_keys, places_from, IsListed}
use Rattle.code_write.proofs.HandlerPacks.{alone}

abbrev Held : Type 0
Held = Vec ℕ Global

abbrev pub seen : List Held → List (List ℕ)
seen ks = map (λ (v : Held). v.items) ks

next : (keys : List (List ℕ)) (k : ℕ) (key : List ℕ) → slice_get keys k ≡ Some key → drop k keys ≡ key ∷ drop (k + 1) keys
next keys k key e = drop_more keys k [] (slice_get_within keys k key e) ∙ ap (λ (x : List ℕ). x ∷ drop (k + 1) keys) (get_or_from_slice_get keys k key [] e)

pub key-at : (ks : List Held) (k : ℕ) (x : Held) → Some x ≡ slice_get ks k → slice_get (seen ks) k ≡ Some x.items
key-at ks k x e = slice_get-map (λ (v : Held). v.items) ks k ∙ ap (option_map (λ (v : Held). v.items)) (sym e)

pub bytes-turn : (keys : List (List ℕ)) (k : ℕ) (key bytes new all : List ℕ) → slice_get keys k ≡ Some key → new ≡ bytes ++ key → bytes ++ joined_keys (drop k keys) ≡ all → new ++ joined_keys (drop (k + 1) keys) ≡ all
bytes-turn keys k key bytes new all e f h =
    ap (λ (z : List ℕ). z ++ joined_keys (drop (k + 1) keys)) f ∙ append_assoc bytes key (joined_keys (drop (k + 1) keys)) ∙ ap (λ (z : List ℕ). bytes ++ z) (sym (ap joined_keys (next keys k key e))) ∙ h

pub places-turn : (keys : List (List ℕ)) (k at after : ℕ) (key places more all : List ℕ) → slice_get keys k ≡ Some key → after ≡ at + length key → more ≡ places ++ at ∷ [] → places ++ places_from at (drop k keys) ≡ all → more ++ places_from after (drop (k + 1) keys) ≡ all
places-turn keys k at after key places more all e f m h =
    ap (λ (z : List ℕ). z ++ places_from after (drop (k + 1) keys)) m ∙ append_assoc places (at ∷ []) (places_from after (drop (k + 1) keys))
    ∙ ap (λ (n : ℕ). places ++ at ∷ places_from n (drop (k + 1) keys)) f ∙ ap (λ (z : List ℕ). places ++ z) (sym (ap (places_from at) (next keys k key e))) ∙ h

pub bytes-end : (keys : List (List ℕ)) (k : ℕ) (bytes all : List ℕ) → length keys ≤ k → bytes ++ joined_keys (drop k keys) ≡ all → bytes ≡ all
bytes-end keys k bytes all l h = sym (append-nil bytes) ∙ ap (λ (z : List (List ℕ)). bytes ++ joined_keys z) (sym (drop_all k keys l)) ∙ h

pub places-end : (keys : List (List ℕ)) (k at : ℕ) (places all : List ℕ) → length keys ≤ k → places ++ places_from at (drop k keys) ≡ all → places ≡ all
places-end keys k at places all l h = sym (append-nil places) ∙ ap (λ (z : List (List ℕ)). places ++ places_from at z) (sym (drop_all k keys l)) ∙ h

pub bytes-few : (keys : List (List ℕ)) (bytes front rest : List ℕ) (n : ℕ) → bytes ++ rest ≡ front ++ joined_keys keys → Shortest Spells front n → length bytes ≤ 5 + length (joined_keys keys)
bytes-few keys bytes front rest n e s = let l = s.spelled.short in omega (arith, ap length e, length-append bytes rest, length-append front (joined_keys keys))

pub listed : (ks : List Held) (k n : ℕ) (front bytes places old : List ℕ) → length ks ≤ k → n ≡ length ks → old ≡ [] → Appends (Shortest Spells) old front n → bytes ++ joined_keys (drop k (seen ks)) ≡ front ++ joined_keys (seen ks)
    → places ++ places_from (length bytes) (drop k (seen ks)) ≡ places_from (length front) (seen ks) → IsListed (seen ks) bytes places
listed ks k n front bytes places old l e o a h p =
    let m = length-map ks (λ (v : Held). v.items) in
    let e2 : n ≡ length (seen ks) = e ∙ sym m in
    record {
      front = front;
      count = subst (λ (x : ℕ). Shortest Spells front x) e2 (alone (Shortest Spells) old front n o a);
      is = bytes-end (seen ks) k bytes _ (omega arith) h;
      places_are = places-end (seen ks) k (length bytes) places _ (omega arith) p;
    }

-- Type lists of types in memory.
use Rattle.std.proofs.Common.{◌≡◌, ℕ, ◌+◌, ◌*◌, ◌^◌, ◌<◌, List, [], ◌∷◌, ◌++◌, length, map, take, get_or, refl, sym, ap, ◌∙◌, arith, subst, append_assoc}
use Rattle.std.proofs.lemmas.List.{length-map}
use Rattle.dex_base.specs.Fields.{u16_bytes, u32_bytes}
use Rattle.dex_base.specs.Grammar.{Appends}
use Rattle.dex_base.specs.Words.{halves_bytes}
use Rattle.program_types.specs.Content.{Units}
use Rattle.program_types.specs.Key.{text_key}
use Rattle.program_types.specs.View as view
use Rattle.program_types.specs.declared.names.Desc.{Desc}
use Rattle.tables_names.specs.Closure.{Five}
use Rattle.tables_names.specs.Rank.{IsAt}
use Rattle.file_layout.specs.inner.Sections.{is_empty_list}
use Rattle.file_layout.proofs.SectionLaws.{not_none}
use Rattle.file_layout.specs.inner.OneMore.{Entry, PutsOnce}
use Rattle.file_layout.specs.inner.Sharing.{UsesItem}
use Rattle.file_put.specs.inner.Lists.{AddsIndices, SpellsRanks}
use Rattle.file_limits.specs.Wide.{wide_list}
use Rattle.dex_base.proofs.ListFacts.{zip_length, zip_more, map_more, all_append}
use Rattle.file_put.proofs.RankedLists.{halves_push}

pub indices_more : (s : Five) (old mid new bytes : List ℕ) (k : ℕ) (xs : List Desc) (i : ℕ) (d : Desc) → i < length xs → AddsIndices s old mid (map view.desc (take i xs)) → new ≡ mid ++ bytes → bytes ≡ u16_bytes k → k < 2 ^ 16 → IsAt s.types k (text_key (view.desc (get_or xs i d))) → AddsIndices s old new (map view.desc (take (i + 1) xs))
indices_more s old mid new bytes k xs i d lt a n b small at =
    subst (AddsIndices s old new) (sym (map_more view.desc xs i d lt))
    (record {
      indexes = a.indexes ++ k ∷ [];
      whole = n ∙ ap (λ (l : List ℕ). l ++ bytes) a.whole ∙ append_assoc old (halves_bytes a.indexes) bytes ∙ ap (λ (l : List ℕ). old ++ l) (ap (λ (l : List ℕ). halves_bytes a.indexes ++ l) b ∙ sym (halves_push a.indexes k));
      small = all_append (λ (j : ℕ). j < 2 ^ 16) a.indexes (k ∷ []) a.small (small, tt);
      named = zip_more (λ (j : ℕ) (t : Units). IsAt s.types j (text_key t)) a.indexes (map view.desc (take i xs)) k (view.desc (get_or xs i d)) a.named at;
    })

pub list_appends : (s : Five) (old mid new bytes : List ℕ) (xs : List Desc) → length xs < 2 ^ 32 → mid ≡ old ++ bytes → bytes ≡ u32_bytes (length xs) → AddsIndices s mid new (map view.desc xs) → Appends (SpellsRanks s) old new (map view.desc xs)
list_appends s old mid new bytes xs few m b a =
    let n : length a.indexes ≡ length xs = zip_length (λ (j : ℕ) (t : Units). IsAt s.types j (text_key t)) a.indexes (map view.desc xs) a.named ∙ length-map xs view.desc in
    record {
      bytes = bytes ++ halves_bytes a.indexes;
      joined = a.whole ∙ ap (λ (l : List ℕ). l ++ halves_bytes a.indexes) m ∙ append_assoc old bytes (halves_bytes a.indexes);
      spelled = record {
        indexes = a.indexes;
        spelled = record { spelled = ap (λ (l : List ℕ). l ++ halves_bytes a.indexes) (b ∙ ap u32_bytes (sym n)); small = a.small; few = omega (arith, n, few) };
        named = a.named;
      };
    }

wide_some : (ts : List Units) → 0 < length ts → wide_list ts ≡ 7 + 2 * length ts
wide_some [] h = absurd (omega (arith, h))
wide_some (t ∷ ts) h = refl

pub list_room : (xs : List Desc) → 0 < length xs → wide_list (map view.desc xs) ≡ 7 + 2 * length xs
list_room xs some = let n = length-map xs view.desc in let w = wide_some (map view.desc xs) (omega (arith, n, some)) in omega (arith, n, w)

-- ---- a list that is written once

pub list_used : (s : Five) (kept more : List Entry) (old new : List ℕ) (xs : List Desc) (bytes : List ℕ) (place : ℕ) → 0 < length xs → SpellsRanks s bytes (map view.desc xs) → PutsOnce 4 kept more old new bytes place
    → UsesItem is_empty_list (SpellsRanks s) 4 kept more old new (map view.desc xs) place
list_used s kept more old new xs bytes place some p u =
    let n = length-map xs view.desc in
    rw (not_none (map view.desc xs) (omega (arith, n, some))) (bytes, p, u)

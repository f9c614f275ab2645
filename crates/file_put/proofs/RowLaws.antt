-- Rows of a table, one after the other.
use Rattle.std.proofs.Common.{◌≡◌, ℕ, zero, suc, ◌+◌, ◌<◌, ◌≤◌, List, [], ◌∷◌, length, map, take, get_or, refl, sym, ap, ◌∙◌, arith, subst}
use Rattle.std.proofs.lemmas.List.{take_more, take_all, map-append}
use Rattle.std.proofs.lemmas.Option.{slice_get-map, slice_get-get_or}
use Rattle.std.specs.Prelude.{option_map}
use Rattle.std.specs.List.{slice_get, zip}
use Rattle.dex_base.specs.Grammar.{Appends, Each}
use Rattle.dex_base.proofs.GrammarLaws.{Each-appends_more}
use Rattle.tables_names.specs.Closure.{Five}
use Rattle.tables_names.specs.Rank.{IsAt}
use Rattle.program_types.specs.Content.{Proto}
use Rattle.program_types.specs.Key.{Key, proto_key}
use Rattle.file_put.specs.inner.Rows.{SpellsTable, SpellsProtos, SpellsProtoRow}
use Rattle.file_limits.proofs.PartLaws.{map_map}

-- what a set has at an index
pub held_at : {U : Type 0} (key : U → Key) (xs : List U) (table : List Key) (i : ℕ) (d : U) → map key xs ≡ table → i < length xs → IsAt table i (key (get_or xs i d))
held_at key xs table i d e lt = ap (λ (t : List Key). slice_get t i) (sym e) ∙ slice_get-map key xs i ∙ ap (option_map key) (slice_get-get_or xs i d lt)

-- one more row
pub rows_more : {U V : Type 0} (view : U → V) (G : List ℕ → V → Type 0) (old mid new : List ℕ) (xs : List U) (i : ℕ) (d : U) → i < length xs
    → Appends (Each G) old mid (map view (take i xs)) → Appends G mid new (view (get_or xs i d)) → Appends (Each G) old new (map view (take (i + 1) xs))
rows_more {V = V} view G old mid new xs i d lt rows row =
    subst (λ (vs : List V). Appends (Each G) old new vs) (sym (map-append view (take i xs) (get_or xs i d ∷ [])) ∙ ap (map view) (sym (take_more xs i d lt)))
    (Each-appends_more G old mid new (map view (take i xs)) (view (get_or xs i d)) rows row)

-- all rows are a table
pub rows_are_table : {U V : Type 0} (view : U → V) (key : V → Key) (G : List ℕ → V → Type 0) (old new : List ℕ) (xs : List U) (table : List Key) (i : ℕ)
    → map (λ x. key (view x)) xs ≡ table → length xs ≤ i → Appends (Each G) old new (map view (take i xs)) → Appends (SpellsTable key G) old new table
rows_are_table {U = U} view key G old new xs table i e all a = record {
  bytes = a.bytes;
  joined = a.joined;
  spelled = record { names = map view xs; keys = map_map key view xs ∙ e; rows = subst (λ (ys : List U). Each G a.bytes (map view ys)) (take_all i xs all) a.spelled };
}

-- ---- protos, each with a place

zip_firsts : {A B : Type 0} (as_ : List A) (bs : List B) → length as_ ≡ length bs → map (λ (p : A × B). p.0) (zip as_ bs) ≡ as_
zip_firsts [] bs e = refl
zip_firsts (a ∷ as_) [] e = absurd (omega (arith, e))
zip_firsts (a ∷ as_) (b ∷ bs) e = ap (λ l. a ∷ l) (zip_firsts as_ bs (omega (arith, e)))

zip_seconds : {A B C : Type 0} (f : B → C) (as_ : List A) (bs : List B) → length as_ ≡ length bs → map (λ (p : A × B). f p.1) (zip as_ bs) ≡ map f bs
zip_seconds f [] [] e = refl
zip_seconds f [] (b ∷ bs) e = absurd (omega (arith, e))
zip_seconds f (a ∷ as_) [] e = absurd (omega (arith, e))
zip_seconds f (a ∷ as_) (b ∷ bs) e = ap (λ l. f b ∷ l) (zip_seconds f as_ bs (omega (arith, e)))

length-zip : {A B : Type 0} (as_ : List A) (bs : List B) → length as_ ≡ length bs → length (zip as_ bs) ≡ length bs
length-zip [] [] e = refl
length-zip [] (b ∷ bs) e = absurd (omega (arith, e))
length-zip (a ∷ as_) [] e = absurd (omega (arith, e))
length-zip (a ∷ as_) (b ∷ bs) e = ap suc (length-zip as_ bs (omega (arith, e)))

zip_at : {A B : Type 0} (as_ : List A) (bs : List B) (i : ℕ) (a : A) (b : B) → length as_ ≡ length bs → get_or (zip as_ bs) i (a, b) ≡ (get_or as_ i a, get_or bs i b)
zip_at [] [] i a b e = refl
zip_at [] (y ∷ bs) i a b e = absurd (omega (arith, e))
zip_at (x ∷ as_) [] i a b e = absurd (omega (arith, e))
zip_at (x ∷ as_) (y ∷ bs) zero a b e = refl
zip_at (x ∷ as_) (y ∷ bs) (suc i) a b e = zip_at as_ bs i a b (omega (arith, e))

-- one more row of a proto
pub protos_more : {U : Type 0} (view : U → Proto) (s : Five) (old mid new : List ℕ) (places : List ℕ) (xs : List U) (i : ℕ) (d : U) → length places ≡ length xs → i < length xs
    → Appends (Each (SpellsProtoRow s)) old mid (map (λ (p : ℕ × U). (p.0, view p.1)) (take i (zip places xs)))
    → Appends (SpellsProtoRow s) mid new (get_or places i 0, view (get_or xs i d))
    → Appends (Each (SpellsProtoRow s)) old new (map (λ (p : ℕ × U). (p.0, view p.1)) (take (i + 1) (zip places xs)))
protos_more {U = U} view s old mid new places xs i d n lt rows row =
    let l = length-zip places xs n in
    rows_more (λ (p : ℕ × U). (p.0, view p.1)) (SpellsProtoRow s) old mid new (zip places xs) i (0, d) (omega (arith, l, lt)) rows
    (subst (λ (p : ℕ × U). Appends (SpellsProtoRow s) mid new (p.0, view p.1)) (sym (zip_at places xs i 0 d n)) row)

-- all rows are the table of the protos
pub protos_are_table : {U : Type 0} (view : U → Proto) (s : Five) (old new : List ℕ) (places : List ℕ) (xs : List U) (table : List Key) (i : ℕ) → length places ≡ length xs
    → map (λ x. proto_key (view x)) xs ≡ table → length xs ≤ i
    → Appends (Each (SpellsProtoRow s)) old new (map (λ (p : ℕ × U). (p.0, view p.1)) (take i (zip places xs)))
    → Appends (SpellsProtos s places) old new table
protos_are_table {U = U} view s old new places xs table i n e all a =
    let l = length-zip places xs n in
    let pair : (ℕ × U) → ℕ × Proto = λ p. (p.0, view p.1) in
    record {
      bytes = a.bytes;
      joined = a.joined;
      spelled = record {
        names = map pair (zip places xs);
        keys = map_map (λ (p : ℕ × Proto). proto_key p.1) pair (zip places xs) ∙ zip_seconds (λ (x : U). proto_key (view x)) places xs n ∙ e;
        places_are = map_map (λ (p : ℕ × Proto). p.0) pair (zip places xs) ∙ zip_firsts places xs n;
        rows = subst (λ (ys : List (ℕ × U)). Each (SpellsProtoRow s) a.bytes (map pair ys)) (take_all i (zip places xs) (omega (arith, l, all))) a.spelled;
      };
    }

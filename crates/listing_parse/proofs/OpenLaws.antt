-- Interfaces given once.
use Rattle.std.proofs.Common.{◌≡◌, Bool, true, false, not, ◌||◌, MatchBool, List, [], ◌∷◌, ◌++◌, map, Some, None, refl, sym, ap, ◌∙◌}
use Rattle.std.specs.List.{list_any}
use Rattle.std.proofs.lemmas.List.{map-append}
use Rattle.indexmap.specs.IndexSet.{insert_key}
use Rattle.program_types.specs.View.{desc}
use Rattle.program_types.specs.declared.names.Desc.{Desc as Made}
use Rattle.listing_slots.specs.Keys.{same}
use Rattle.listing_parse.specs.States.{Open, is_among, with_interface}

-- ---- interfaces

-- equal where their texts are
abbrev pub IsByText : (Made → Made → Bool) → Type 0
IsByText eq = (x y : Made) → eq x y ≡ same (desc x) (desc y)

among_keys : (eq : Made → Made → Bool) (v : Made) (ks : List Made) → IsByText eq → list_any (eq v) ks ≡ is_among (map desc ks) (desc v)
among_keys eq v [] e = refl
among_keys eq v (k ∷ ks) e = λ i. e v k i || among_keys eq v ks e i

new_among : (eq : Made → Made → Bool) (old : List Made) (v : Made) (b : Bool) → list_any (eq v) old ≡ b → IsByText eq → is_among (map desc old) (desc v) ≡ b
new_among eq old v b h e = sym (among_keys eq v old e) ∙ h

new_last : (eq : Made → Made → Bool) (old : List Made) (v : Made) → list_any (eq v) old ≡ false → map desc (insert_key eq old v) ≡ map desc old ++ desc v ∷ []
new_last eq old v h = let k : insert_key eq old v ≡ old ++ v ∷ [] = rw h refl in ap (map desc) k ∙ map-append desc old (v ∷ [])

put_by : (o : Open) (eq : Made → Made → Bool) (old : List Made) (v : Made) (b : Bool) → list_any (eq v) old ≡ b → IsByText eq → o.interfaces ≡ map desc old
    → MatchBool (not b) (with_interface o (desc v) ≡ Some (record o { interfaces = map desc (insert_key eq old v) })) (with_interface o (desc v) ≡ None)
unfolding with_interface
put_by o eq old v true h e i = rw (i, new_among eq old v true h e) refl
put_by o eq old v false h e i = rw (i, new_among eq old v false h e, new_last eq old v h) refl

pub interface_put : (o : Open) (eq : Made → Made → Bool) (old new : List Made) (v : Made) (r : Bool) → IsByText eq → o.interfaces ≡ map desc old → r ≡ not (list_any (eq v) old) → new ≡ insert_key eq old v
    → MatchBool r (with_interface o (desc v) ≡ Some (record o { interfaces = map desc new })) (with_interface o (desc v) ≡ None)
interface_put o eq old new v r e i f g = rw (f, g) (put_by o eq old v (list_any (eq v) old) refl e i)

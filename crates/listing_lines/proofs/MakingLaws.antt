-- Values in the making.
use Rattle.std.proofs.Common.{◌≡◌, ℕ, ◌+◌, ◌<◌, ◌≤◌, List, [], ◌∷◌, ◌++◌, length, get_or, drop, take, map, refl, sym, ap, ◌∙◌, arith, drop_of_length-le, min}
use Rattle.std.specs.Prelude.{fold, reverse}
use Rattle.listing_slots.specs.Data.{Datum, key_word}
use Rattle.listing_slots.specs.inner.View.{datum}
use Rattle.listing_slots.specs.declared.datum.Datum.{Datum as Made}
use Rattle.std.proofs.lemmas.List.{reverse-append, take-map, drop-map, take_min, drop_min}
use Rattle.program_types.specs.Content as content
use Rattle.program_types.specs.Content.{Value}
use Rattle.program_types.specs.View.{value}
use Rattle.program_types.proofs.ValueViews.{value_null}
use Rattle.program_types.specs.declared.value.Value.{Value as Put}
use Rattle.program_types.specs.declared.value.Value.TheVariants as made
use Rattle.listing_slots.specs.declared.key.Key.TheVariants as key
use Rattle.listing_lines.specs.declared.making.Making.{Making as InMaking}
use Rattle.listing_lines.specs.inner.MakingView.{making}
use Rattle.listing_lines.specs.Lines.{Making, with_word, value_of, first_value}

pub fold_end : (m : Making) (ds : List Made) (i : ℕ) → length ds ≤ i → fold with_word m (map datum (drop i ds)) ≡ m
fold_end m ds i h = rw (drop_of_length-le ds {i = i} h) refl

-- ---- arrays

pub close_empty : (vs : List Value) (bs cs : List ℕ) → bs ≡ cs ++ [] → length bs ≡ 0 → ◌≡◌ {A = Making} (record { values = vs; begins = reverse cs }) (with_word (record { values = vs; begins = reverse bs }) (key_word key.Close))
close_empty vs [] [] e l = refl
close_empty vs [] (c ∷ cs) e l = absurd cc
close_empty vs (b ∷ bs) cs e l = absurd (omega arith)

pub close_one : (vs new : List Value) (bs cs : List ℕ) (begin cut : ℕ) → bs ≡ cs ++ begin ∷ [] → cut ≡ min begin (length vs) → new ≡ take cut vs ++ content.Array (content.values (drop cut vs)) ∷ []
    → ◌≡◌ {A = Making} (record { values = new; begins = reverse cs }) (with_word (record { values = vs; begins = reverse bs }) (key_word key.Close))
close_one vs new bs cs begin cut e f g =
    let r : reverse bs ≡ begin ∷ reverse cs = ap reverse e ∙ reverse-append cs (begin ∷ []) in
    let t : take cut vs ≡ take begin vs = rw f (take_min begin vs) in
    let d : drop cut vs ≡ drop begin vs = rw f (drop_min begin vs) in
    rw (r, g, t, d) refl

pub values_cut : (vs : List Put) (cut : ℕ) (inner : List Put) → inner ≡ drop cut vs → map value (take cut vs) ++ content.Array (content.values (map value inner)) ∷ [] ≡ take cut (map value vs) ++ content.Array (content.values (drop cut (map value vs))) ∷ []
values_cut vs cut inner e = rw (e, take-map, drop-map) refl

-- ---- the whole value

pub fold_start : (ds : List Datum) (vs : List Put) (bs : List ℕ) → vs ≡ [] → bs ≡ [] → fold with_word (record { values = []; begins = [] }) ds ≡ fold with_word (record { values = map value vs; begins = reverse bs }) ds
fold_start ds vs bs e f = rw (e, f) refl

value_is : (ds : List Datum) (m : Making) → fold with_word (record { values = []; begins = [] }) ds ≡ m → value_of ds ≡ first_value m.values
unfolding value_of
value_is ds m e = ap (λ (x : Making). first_value x.values) e

values_of_made : (m : InMaking) → (making m).values ≡ map value m.values.items
unfolding making
values_of_made m = refl

first_none : (vs : List Put) → length vs ≡ 0 → first_value (map value vs) ≡ content.Null
first_none [] e = refl
first_none (v ∷ vs) e = absurd (omega arith)

first_some : (vs : List Put) (x : Put) → 0 < length vs → x ≡ get_or vs 0 x → first_value (map value vs) ≡ value x
first_some [] x h e = absurd (omega arith)
first_some (v ∷ vs) x h e = ap value (sym e)

pub none_made : (ds : List Datum) (m : InMaking) → fold with_word (record { values = []; begins = [] }) ds ≡ making m → length m.values.items ≡ 0 → value made.Null ≡ value_of ds
none_made ds m e l = value_null ∙ sym (value_is ds (making m) e ∙ ap first_value (values_of_made m) ∙ first_none m.values.items l)

pub one_made : (ds : List Datum) (m : InMaking) (x : Put) → fold with_word (record { values = []; begins = [] }) ds ≡ making m → 0 < length m.values.items → x ≡ get_or m.values.items 0 x → value x ≡ value_of ds
one_made ds m x e l f = sym (value_is ds (making m) e ∙ ap first_value (values_of_made m) ∙ first_some m.values.items x l f)

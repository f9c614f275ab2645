-- Sums of sizes.
use Rattle.std.proofs.Common.{◌≡◌, ℕ, ◌+◌, ◌-◌, ◌*◌, ◌<◌, List, [], ◌∷◌, ◌++◌, map, take, get_or, length, sym, ap, ◌∙◌, arith, subst, inl, inr}
use Rattle.std.proofs.lemmas.List.{take_more, map-append, length-map}
use Rattle.std.proofs.lemmas.List.Sums.{sum_by-append}
use Rattle.dex_base.specs.Mutf8.{mutf8_length, unit_bytes}
use Rattle.file_layout.specs.Sections.{wide_all}
use Rattle.program_types.specs.Content as content
use Rattle.program_types.specs.Content.{values, Insn}
use Rattle.program_types.specs.Sizes.{insn_units, length_of, total}
use Rattle.program_types.specs.View.{value, desc, insn}
use Rattle.program_types.specs.declared.insn.Insn as held
use Rattle.program_types.specs.declared.names.Desc.{Desc}
use Rattle.program_types.specs.declared.value.Value as made
use Rattle.dex_value.specs.Wide.{wide_value, wide_values}
use Rattle.file_limits.specs.inner.Sum.{IsSum}
use Rattle.file_limits.specs.Wide.{wide_list}
use Rattle.dex_base.proofs.ListFacts.{map_more}

-- what `plus` says
abbrev pub Adds : ℕ → ℕ → ℕ → Type 0
Adds sum more new = (n m : ℕ) → IsSum sum n → IsSum more m → IsSum new (n + m)

pub wide_all_append : {V : Type 0} (W : V → ℕ) (vs ws : List V) → wide_all W (vs ++ ws) ≡ wide_all W vs + wide_all W ws
wide_all_append W [] ws = omega arith
wide_all_append W (v ∷ vs) ws = let r = wide_all_append W vs ws in omega (arith, r)

pub room_more : {A V : Type 0} (W : V → ℕ) (g : A → V) (sum more new : ℕ) (xs : List A) (i : ℕ) (d : A) → i < length xs → Adds sum more new → IsSum sum (wide_all W (map g (take i xs))) → IsSum more (W (g (get_or xs i d))) → IsSum new (wide_all W (map g (take (i + 1) xs)))
room_more W g sum more new xs i d lt add s m =
    let a = wide_all_append W (map g (take i xs)) (g (get_or xs i d) ∷ []) in
    let e : wide_all W (map g (take (i + 1) xs)) ≡ wide_all W (map g (take i xs)) + W (g (get_or xs i d)) = ap (wide_all W) (map_more g xs i d lt) ∙ omega (arith, a) in
    subst (IsSum new) (sym e) (add _ _ s m)

values_push : (vs : List content.Value) (v : content.Value) → wide_values (values (vs ++ v ∷ [])) ≡ wide_values (values vs) + wide_value v
values_push [] v = omega arith
values_push (w ∷ vs) v = let r = values_push vs v in omega (arith, r)

pub values_room_more : (sum more new : ℕ) (xs : List made.Value) (i : ℕ) (d : made.Value) → i < length xs → Adds sum more new → IsSum sum (wide_values (values (map value (take i xs)))) → IsSum more (wide_value (value (get_or xs i d))) → IsSum new (wide_values (values (map value (take (i + 1) xs))))
values_room_more sum more new xs i d lt add s m =
    subst (IsSum new) (sym (ap (λ vs. wide_values (values vs)) (map_more value xs i d lt) ∙ values_push (map value (take i xs)) (value (get_or xs i d)))) (add _ _ s m)

pub limit_of : (r n : ℕ) → IsSum r n → ((4294967295 < r → 4294967295 < n) × (4294967295 < n → 4294967295 < r))
limit_of r n (inl e) = (λ h. omega (arith, e, h), λ h. omega (arith, e, h))
limit_of r n (inr e) = (λ h. e.1, λ h. e.0)

pub text_more : (sum more new : ℕ) (xs : List ℕ) (i d : ℕ) → i < length xs → Adds sum more new → IsSum sum (10 + mutf8_length (take i xs)) → IsSum more (mutf8_length (get_or xs i d ∷ [])) → IsSum new (10 + mutf8_length (take (i + 1) xs))
text_more sum more new xs i d lt add s m =
    let e : mutf8_length (take (i + 1) xs) ≡ mutf8_length (take i xs) + mutf8_length (get_or xs i d ∷ []) = ap mutf8_length (take_more xs i d lt) ∙ sum_by-append (λ u. length (unit_bytes u)) (take i xs) (get_or xs i d ∷ []) in
    subst (IsSum new) (omega (arith, e)) (add _ _ s m)

pub some_list : (xs : List Desc) (r : ℕ) → 0 < length xs → IsSum r (7 + 2 * length xs) → IsSum r (wide_list (map desc xs))
some_list [] r e s = absurd (omega (arith, e))
some_list (x ∷ xs) r e s = let n = length-map xs desc in subst (IsSum r) (omega (arith, n)) s

-- ---- bodies

total_append : (xs ys : List ℕ) → total (xs ++ ys) ≡ total xs + total ys
unfolding total
total_append [] ys = omega arith
total_append (x ∷ xs) ys = let r = total_append xs ys in omega (arith, r)

total_one : (n : ℕ) → total (n ∷ []) ≡ n
unfolding total
total_one n = omega arith

-- one more instruction
pub units_more : (sum more new units : ℕ) (xs : List held.Insn) (i : ℕ) (d : held.Insn) → i < length xs → Adds sum more new → IsSum sum (2 * length_of (map insn (take i xs))) → IsSum more (units + units)
    → units ≡ insn_units (insn (get_or xs i d)) → IsSum new (2 * length_of (map insn (take (i + 1) xs)))
units_more sum more new units xs i d lt add s m e =
    let a = ap (λ (is : List Insn). length_of is) (map_more insn xs i d lt) ∙ ap total (map-append insn_units (map insn (take i xs)) (insn (get_or xs i d) ∷ []))
    ∙ total_append (map insn_units (map insn (take i xs))) (insn_units (insn (get_or xs i d)) ∷ []) in
    let o = total_one (insn_units (insn (get_or xs i d))) in
    subst (IsSum new) (omega (arith, a, o, e)) (add _ _ s m)

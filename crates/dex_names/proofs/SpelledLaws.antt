-- A text spells its units in one way: what they aren't it doesn't spell.
use Rattle.std.specs.Prelude.{ℕ, Option, Some, None, Result, Ok, Err, IfOk, IfSome, IfNone}
use Rattle.std.proofs.Common.{zero, suc, ◌<◌, ◌^◌, List, [], ◌∷◌, get_or, subst, arith}
use Rattle.std.specs.List.{AllByRecursion}
use Rattle.dex_base.specs.declared.fault.Fault.{Fault}
use Rattle.listing_words.specs.Words.{IsGraphic}
use Rattle.listing_words.specs.Written.{name_text}
use Rattle.listing_words.proofs.NameLaws.{units_one}
use Rattle.listing_words.proofs.WrittenLaws.{name_again, name_graphic}
use Rattle.dex_names.specs.Spelled.{SpellsInAscii}

pub no_form : {V : Type 0} (G : List ℕ → V → Type 0) (written us : List ℕ) → SpellsInAscii written us
    → ((v : V) → G us v → ⊥) → (v : V) → (units : List ℕ) × SpellsInAscii written units × G units v → ⊥
no_form G written us spells none v h =
    none v (subst (λ (units : List ℕ). G units v) (units_one written h.0 us h.1.1 spells.1) h.2)

pub no_units : {V : Type 0} (G : List ℕ → V → Type 0) (written : List ℕ) → ((us : List ℕ) → SpellsInAscii written us → ⊥)
    → (v : V) → (units : List ℕ) × SpellsInAscii written units × G units v → ⊥
no_units G written none v h = none h.0 h.1

-- the same of what a reader of units answers, and what it finds
pub found_in : {V W : Type 0} (G : List ℕ → V → Type 0) (view : W → V) (written us : List ℕ) (r : Result (Option W) Fault)
    → SpellsInAscii written us → IfOk r (λ o. IfSome o (λ w. G us (view w)))
    → IfOk r (λ o. IfSome o (λ w. (units : List ℕ) × SpellsInAscii written units × G units (view w)))
found_in G view written us (Ok (Some w)) spells h = (us, spells, h)
found_in G view written us (Ok None) spells h = tt
found_in G view written us (Err e) spells h = tt

pub none_in : {V W : Type 0} (G : List ℕ → V → Type 0) (written us : List ℕ) (r : Result (Option W) Fault)
    → SpellsInAscii written us → IfOk r (λ o. IfNone o ((v : V) → G us v → ⊥))
    → IfOk r (λ o. IfNone o ((v : V) → (units : List ℕ) × SpellsInAscii written units × G units v → ⊥))
none_in G written us (Ok (Some w)) spells h = tt
none_in G written us (Ok None) spells h = no_form G written us spells h
none_in G written us (Err e) spells h = tt

-- what is written is ASCII, and read as what was written
graphic_ascii : (cs : List ℕ) → AllByRecursion IsGraphic cs → (i : ℕ) → get_or cs i 0 < 128
graphic_ascii [] h i = omega arith
graphic_ascii (c ∷ cs) h zero = let high = h.0.1 in omega arith
graphic_ascii (c ∷ cs) h (suc i) = graphic_ascii cs h.1 i

pub written_spells : (us : List ℕ) → AllByRecursion (λ u. u < 2 ^ 16) us → SpellsInAscii (name_text us) us
written_spells us h = (graphic_ascii (name_text us) (name_graphic us), name_again us h)

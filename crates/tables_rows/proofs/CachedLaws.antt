-- What is cached by its offset.
use Rattle.std.proofs.Common.{◌≡◌, ℕ, Bool, true, false, cond, eqb, nat_eq, ap, sym, subst, ◌∙◌, Some, refl}
use Rattle.std.proofs.lemmas.Bool.{eqb-true}
use Rattle.std.proofs.lemmas.Option.{none-some}
use Rattle.std.specs.Map.{lookup}
use Rattle.std.specs.HashMap.{HashMap, get, IsEmpty, Updates}
use Rattle.tables_rows.specs.inner.Cached.{AreCached}
use Rattle.dex_base.proofs.ListFacts.{some_inj}

-- nothing is cached yet
pub cached_none : {V S : Type 0} (Stands : ℕ → V → Type 0) (m : HashMap ℕ V S) → IsEmpty m → AreCached Stands m
cached_none Stands m e off v at = absurd (none-some v (sym (ap (lookup (nat_eq off)) e) ∙ at))

-- one more value
pub cached_more : {V S : Type 0} (Stands : ℕ → V → Type 0) (m n : HashMap ℕ V S) (off : ℕ) (v : V) → AreCached Stands m → Stands off v → Updates nat_eq m n off (Some v) → AreCached Stands n
cached_more {V} Stands m n off v cached stands u other w at = by (eqb off other) refl (sym (u.0 other) ∙ at)
  where
    by : (t : Bool) → eqb off other ≡ t → cond t (Some v) (get nat_eq m other) ≡ Some w → Stands other w
    by true t e = subst (λ (k : ℕ). Stands k w) (eqb-true off other t) (subst (λ (x : V). Stands off x) (some_inj v w e) stands)
    by false t e = cached other w e

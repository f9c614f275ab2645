-- The letters of a shorty, one by one.
use Rattle.std.proofs.Common.{◌≡◌, ℕ, zero, suc, ◌-◌, ◌<◌, List, ◌∷◌, length, get_or, refl, arith, ◌≢◌}
use Rattle.program_types.specs.Shorty.{letter_of}
use Rattle.program_types.specs.View.{desc}
use Rattle.program_types.specs.declared.names.Desc.{Desc}
use Rattle.program_types.proofs.Letters.{letters, letter_at}

-- after the first letter, the parameter's
pub letter_after : (first : ℕ) (params : List Desc) (i : ℕ) (d : Desc) → i ≢ 0 → i - 1 < length params → get_or (first ∷ letters params) i 0 ≡ letter_of (desc (get_or params (i - 1) d))
letter_after first params zero d some lt = absurd (some refl)
letter_after first params (suc k) d some lt =
    let e : suc k - 1 ≡ k = omega arith in
    rw e (letter_at params k d (rw e at lt))

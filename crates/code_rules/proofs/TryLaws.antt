-- Tries by their numbers.
use Rattle.std.proofs.Common.{◌≡◌, ℕ, ◌-◌, ◌<◌, ◌≤◌, List, [], map, length, get_or, subst, ap, arith, None}
use Rattle.std.specs.Prelude.{◌↔◌}
use Rattle.std.proofs.lemmas.List.{get_or-map}
use Rattle.program_types.specs.Content as content
use Rattle.program_types.specs.Formed.{try_at}
use Rattle.program_types.specs.View.{try}
use Rattle.program_types.specs.declared.code.Try.{Try}
use Rattle.code_rules.specs.inner.Parts.{IsBehind}

-- what an index past the end gives
abbrev pub no_try : Try
no_try = record { from = 0; to = 0; catches = record { ref_ptr = (0, 0); now = [] }; catch_all = None }

pub try-at : (xs : List Try) (i : ℕ) → i < length xs → try_at (map try xs) i ≡ try (get_or xs i no_try)
try-at xs i l = get_or-map try xs i no_try (record { from = 0; to = 0; catches = []; catch_all = None }) l

pub after-at : (xs : List Try) (i : ℕ) → 0 < i → i < length xs → ((get_or xs (i - 1) no_try).to ≤ (get_or xs i no_try).from) ↔ IsBehind (map try xs) i
after-at xs i s l =
    let e : (try_at (map try xs) (i - 1)).to ≡ (get_or xs (i - 1) no_try).to = ap (λ (t : content.Try). t.to) (try-at xs (i - 1) (omega arith)) in
    let f : (try_at (map try xs) i).from ≡ (get_or xs i no_try).from = ap (λ (t : content.Try). t.from) (try-at xs i l) in (
      λ t j q.
          let w : i - 1 ≡ j = omega arith in
          subst (λ (k : ℕ). (try_at (map try xs) k).to ≤ (try_at (map try xs) i).from) w (omega (arith)),
      λ h. let b = h (i - 1) (omega arith) in omega arith,
    )

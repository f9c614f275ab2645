-- Which limits a code breaks: none exactly if it fits, and of those that it breaks the lowest.
use Rattle.std.proofs.Common.{◌≡◌, ℕ, pos, ◌-ℤ◌, ◌+◌, ◌%◌, ◌<◌, ◌≤◌, ⊎_elim, List, [], ◌∷◌, length, get_or, refl, subst, arith, Option, Some, None}
use Rattle.std.proofs.lemmas.Bool.{cases_lt}
use Rattle.std.proofs.lemmas.Int.{ints}
use Rattle.std.specs.Int.{w8, w16, w32}
use Rattle.std.specs.Prelude.{FitsSigned, IfSome}
use Rattle.std.specs.List.{AllByRecursion}
use Rattle.dex_base.specs.declared.fault.Fault.{Fault}
use Rattle.dex_insn.specs.declared.opcode.IndexKind.{IndexKind}
use Rattle.dex_insn.specs.declared.opcode.IndexKind.TheVariants as kind
use Rattle.program_types.specs.Content.{Name, Insn, Code}
use Rattle.program_types.specs.Content as made
use Rattle.program_types.specs.Formed.{insn_at, insn_targets}
use Rattle.program_types.specs.Kinds.{IsOfKind}
use Rattle.program_types.specs.Sizes.{addresses_of}
use Rattle.code_write.specs.Fits.{AllInsns, AllNumbers, AllTries, BranchFits, CodeBreaksLimit, FieldOutOfReach, FitsCode, HandlerTooFar, HandlersAreNear, IsEven, IsUnfit, BranchOutOfReach, MethodOutOfReach, Misaligned, OffsetsFit, ShortFits, SomeHandlerIsFar, StringOutOfReach, TargetsFit, TooManyTries, TryFits, TryTooLong, distance_of, short_name, wide_code}

-- ---- by the number

-- the numbers of the limits of a code
abbrev pub IsCodeLimit : ℕ → Type 0
IsCodeLimit m = (82 ≤ m) × (m ≤ 89)

pub breaks_range : (N : ℕ → Name → Type 0) (c : Code) (m : ℕ) → CodeBreaksLimit N c m → IsCodeLimit m
breaks_range N c m (StringOutOfReach broken) = (omega arith, omega arith)
breaks_range N c m _ = (omega arith, omega arith)

-- ---- the lowest that is broken

-- The code breaks no limit below this number.
abbrev pub IsClearBelow : (ℕ → Name → Type 0) → Code → ℕ → Type 0
IsClearBelow N c k = (m : ℕ) → m < k → ¬ CodeBreaksLimit N c m

-- the refusal of this number
abbrev pub unfit : ℕ → Fault
unfit number = record { code = number; place = 0 }

module _ (N : ℕ → Name → Type 0) (c : Code) where
  kept82 : AllInsns (ShortFits N kind.String) c → ¬ CodeBreaksLimit N c 82
  kept82 kept (StringOutOfReach broken) = broken kept

  kept83 : AllInsns (ShortFits N kind.Field) c → ¬ CodeBreaksLimit N c 83
  kept83 kept (FieldOutOfReach broken) = broken kept

  kept84 : AllInsns (ShortFits N kind.Method) c → ¬ CodeBreaksLimit N c 84
  kept84 kept (MethodOutOfReach broken) = broken kept

  kept85 : AllNumbers OffsetsFit c → ¬ CodeBreaksLimit N c 85
  kept85 kept (BranchOutOfReach broken) = broken kept

  kept86 : AllNumbers IsEven c → ¬ CodeBreaksLimit N c 86
  kept86 kept (Misaligned broken) = broken kept

  kept87 : AllTries TryFits c → ¬ CodeBreaksLimit N c 87
  kept87 kept (TryTooLong broken) = broken kept

  kept88 : length c.tries ≤ 65535 → ¬ CodeBreaksLimit N c 88
  kept88 few (TooManyTries many) = omega (arith, few, many)

  kept89 : (wide_code c ≤ 4294967295 → HandlersAreNear N (addresses_of c.insns) c.tries) → ¬ CodeBreaksLimit N c 89
  kept89 near (HandlerTooFar short some) = let n = near short some.list some.offs some.laid some.index some.inside in let f = some.far in omega (arith, n, f)

  next : (k : ℕ) → IsClearBelow N c k → (¬ CodeBreaksLimit N c k) → IsClearBelow N c (k + 1)
  next k below here m lt h = ⊎_elim (λ (less : m < k). below m less h) (λ (same : k ≤ m). let e : m ≡ k = omega (arith, lt, same) in here (subst (λ (n : ℕ). CodeBreaksLimit N c n) e h)) (cases_lt m k)

  lowest : (k : ℕ) → IsClearBelow N c k → CodeBreaksLimit N c k → IsUnfit N c (unfit k)
  lowest k below h = record {
    breaks = h;
    lowest = λ m x. ⊎_elim (λ (less : m < k). absurd (below m less x)) (λ (le : k ≤ m). le) (cases_lt m k);
    place = refl;
  }

  clear82 : IsClearBelow N c 82
  clear82 m lt h = let r = (breaks_range N c m h).0 in omega (arith, lt, r)

  pub unfit82 : (¬ AllInsns (ShortFits N kind.String) c) → IsUnfit N c (unfit 82)
  unfit82 broken = lowest 82 clear82 (StringOutOfReach broken)

  module _ (strings : AllInsns (ShortFits N kind.String) c) where
    clear83 : IsClearBelow N c 83
    clear83 = next 82 clear82 (kept82 strings)

    pub unfit83 : (¬ AllInsns (ShortFits N kind.Field) c) → IsUnfit N c (unfit 83)
    unfit83 broken = lowest 83 clear83 (FieldOutOfReach broken)

    module _ (fields : AllInsns (ShortFits N kind.Field) c) where
      clear84 : IsClearBelow N c 84
      clear84 = next 83 clear83 (kept83 fields)

      pub unfit84 : (¬ AllInsns (ShortFits N kind.Method) c) → IsUnfit N c (unfit 84)
      unfit84 broken = lowest 84 clear84 (MethodOutOfReach broken)

      module _ (methods : AllInsns (ShortFits N kind.Method) c) where
        clear85 : IsClearBelow N c 85
        clear85 = next 84 clear84 (kept84 methods)

        pub unfit85 : (¬ AllNumbers OffsetsFit c) → IsUnfit N c (unfit 85)
        unfit85 broken = lowest 85 clear85 (BranchOutOfReach broken)

        module _ (offsets : AllNumbers OffsetsFit c) where
          clear86 : IsClearBelow N c 86
          clear86 = next 85 clear85 (kept85 offsets)

          pub unfit86 : (¬ AllNumbers IsEven c) → IsUnfit N c (unfit 86)
          unfit86 broken = lowest 86 clear86 (Misaligned broken)

          module _ (even : AllNumbers IsEven c) where
            clear87 : IsClearBelow N c 87
            clear87 = next 86 clear86 (kept86 even)

            pub unfit87 : (¬ AllTries TryFits c) → IsUnfit N c (unfit 87)
            unfit87 broken = lowest 87 clear87 (TryTooLong broken)

            module _ (tries : AllTries TryFits c) where
              clear88 : IsClearBelow N c 88
              clear88 = next 87 clear87 (kept87 tries)

              pub unfit88 : 65535 < length c.tries → IsUnfit N c (unfit 88)
              unfit88 many = lowest 88 clear88 (TooManyTries many)

              module _ (few : length c.tries ≤ 65535) where
                clear89 : IsClearBelow N c 89
                clear89 = next 88 clear88 (kept88 few)

                pub unfit89 : wide_code c ≤ 4294967295 → SomeHandlerIsFar N (addresses_of c.insns) c.tries → IsUnfit N c (unfit 89)
                unfit89 short far = lowest 89 clear89 (HandlerTooFar short far)

                pub clear90 : (wide_code c ≤ 4294967295 → HandlersAreNear N (addresses_of c.insns) c.tries) → IsClearBelow N c 90
                clear90 near = next 89 clear89 (kept89 near)

-- what fits breaks no limit
pub fits_clear : (N : ℕ → Name → Type 0) (c : Code) (m : ℕ) → FitsCode N c → ¬ CodeBreaksLimit N c m
fits_clear N c m f h =
    let r = (breaks_range N c m h).1 in
    clear90 N c f.strings f.fields f.methods f.offsets f.even f.tries f.few f.handlers m (omega (arith, r)) h

-- ---- what breaks no limit fits

-- it holds, if it isn't so that it doesn't
abbrev Stable : Type 0 → Type 0
Stable P = (¬ (¬ P)) → P

less_stable : (m n : ℕ) → Stable (m < n)
less_stable m n h = ⊎_elim (λ (lt : m < n). lt) (λ (le : n ≤ m). absurd (h (λ lt. omega (arith, lt, le)))) (cases_lt m n)

most_stable : (m n : ℕ) → Stable (m ≤ n)
most_stable m n h = ⊎_elim (λ (lt : n < m). absurd (h (λ le. omega (arith, lt, le)))) (λ (le : m ≤ n). le) (cases_lt n m)

none_stable : (n : ℕ) → Stable (n ≡ 0)
none_stable n h = let l = most_stable n 0 (λ no. h (λ e. no (omega (arith, e)))) in omega (arith, l)

all_stable : {A : Type 0} (P : A → Type 0) → ((x : A) → Stable (P x)) → (xs : List A) → Stable (AllByRecursion P xs)
all_stable P s [] h = tt
all_stable P s (x ∷ xs) h = (s x (λ no. h (λ f. no f.0)), all_stable P s xs (λ no. h (λ f. no f.1)))

-- ---- names

short_stable : (N : ℕ → Name → Type 0) (k : IndexKind) (i : Insn) → Stable (ShortFits N k i)
short_stable N k i = by (short_name i)
  where
    by : (o : Option Name) → Stable (IfSome o (λ which. IsOfKind k which → (index : ℕ) → N index which → index < 65536))
    by None h = tt
    by (Some which) h = λ is index at. less_stable index 65536 (λ no. h (λ f. no (f is index at)))

insns_stable : (P : Insn → Type 0) → ((i : Insn) → Stable (P i)) → (c : Code) → Stable (AllInsns P c)
insns_stable P s c h = λ k lt. s (insn_at c.insns k) (λ no. h (λ f. no (f k lt)))

-- ---- offsets

both_stable : (P Q R : Type 0) → Stable P → Stable Q → (R → P × Q) → (P → Q → R) → Stable R
both_stable P Q R p q to from h = from (p (λ no. h (λ f. no (to f).0))) (q (λ no. h (λ f. no (to f).1)))

near8 : (a b : ℕ) → Stable (FitsSigned w8 (pos a -ℤ pos b))
near8 a b = both_stable _ _ _ (most_stable a (b + 127)) (most_stable b (a + 128)) (λ f. (omega (arith, ints, f), omega (arith, ints, f))) (λ high low. omega (arith, ints, high, low))

near16 : (a b : ℕ) → Stable (FitsSigned w16 (pos a -ℤ pos b))
near16 a b = both_stable _ _ _ (most_stable a (b + 32767)) (most_stable b (a + 32768)) (λ f. (omega (arith, ints, f), omega (arith, ints, f))) (λ high low. omega (arith, ints, high, low))

near32 : (a b : ℕ) → Stable (FitsSigned w32 (pos a -ℤ pos b))
near32 a b = both_stable _ _ _ (most_stable a (b + 2147483647)) (most_stable b (a + 2147483648)) (λ f. (omega (arith, ints, f), omega (arith, ints, f))) (λ high low. omega (arith, ints, high, low))

branch_stable : (ss : List ℕ) (at : ℕ) (i : Insn) → Stable (BranchFits ss at i)
branch_stable ss at (made.I10t op to) h = near8 (get_or ss to 0) at h
branch_stable ss at (made.I20t op to) h = near16 (get_or ss to 0) at h
branch_stable ss at (made.I21t op a to) h = near16 (get_or ss to 0) at h
branch_stable ss at (made.I22t op a b to) h = near16 (get_or ss to 0) at h
branch_stable ss at (made.I30t op to) h = near32 (get_or ss to 0) at h
branch_stable ss at (made.I31t op a to) h = near32 (get_or ss to 0) at h
branch_stable ss at _ h = tt

targets_stable : (ss : List ℕ) (at : ℕ) (i : Insn) → Stable (TargetsFit ss at i)
targets_stable ss at i = all_stable (λ (to : ℕ). FitsSigned w32 (distance_of ss at to)) (λ to. near32 (get_or ss to 0) at) (insn_targets i)

offsets_stable : (is : List Insn) (ss : List ℕ) (k : ℕ) → Stable (OffsetsFit is ss k)
offsets_stable is ss k h = record {
  branch = branch_stable ss (get_or ss k 0) (insn_at is k) (λ no. h (λ f. no f.branch));
  targets = λ j r. targets_stable ss (get_or ss j 0) (insn_at is k) (λ no. h (λ f. no (f.targets j r)));
}

even_stable : (is : List Insn) (ss : List ℕ) (k : ℕ) → Stable (IsEven is ss k)
even_stable is ss k h = λ some. none_stable (get_or ss k 0 % 2) (λ no. h (λ f. no (f some)))

numbers_stable : (P : List Insn → List ℕ → ℕ → Type 0) → ((is : List Insn) (ss : List ℕ) (k : ℕ) → Stable (P is ss k)) → (c : Code) → Stable (AllNumbers P c)
numbers_stable P s c h = λ k lt. s c.insns (addresses_of c.insns) k (λ no. h (λ f. no (f k lt)))

-- ---- tries

tries_stable : (c : Code) → Stable (AllTries TryFits c)
tries_stable c h = λ i lt. most_stable _ _ (λ no. h (λ f. no (f i lt)))

handlers_near : (N : ℕ → Name → Type 0) (c : Code) → ((m : ℕ) → ¬ CodeBreaksLimit N c m) → wide_code c ≤ 4294967295 → HandlersAreNear N (addresses_of c.insns) c.tries
handlers_near N c clear short list offs laid i inside =
    less_stable (get_or offs i 0) 65536 (λ far. clear 89 (HandlerTooFar short (record { list = list; offs = offs; laid = laid; index = i; inside = inside; far = at_least (get_or offs i 0) far })))
  where
    at_least : (n : ℕ) → (¬ (n < 65536)) → 65535 < n
    at_least n far = ⊎_elim (λ (lt : n < 65536). absurd (far lt)) (λ (le : 65536 ≤ n). omega (arith, le)) (cases_lt n 65536)

pub clear_fits : (N : ℕ → Name → Type 0) (c : Code) → ((m : ℕ) → ¬ CodeBreaksLimit N c m) → FitsCode N c
clear_fits N c clear = record {
  strings = insns_stable (ShortFits N kind.String) (short_stable N kind.String) c (λ broken. clear 82 (StringOutOfReach broken));
  fields = insns_stable (ShortFits N kind.Field) (short_stable N kind.Field) c (λ broken. clear 83 (FieldOutOfReach broken));
  methods = insns_stable (ShortFits N kind.Method) (short_stable N kind.Method) c (λ broken. clear 84 (MethodOutOfReach broken));
  offsets = numbers_stable OffsetsFit offsets_stable c (λ broken. clear 85 (BranchOutOfReach broken));
  even = numbers_stable IsEven even_stable c (λ broken. clear 86 (Misaligned broken));
  tries = tries_stable c (λ broken. clear 87 (TryTooLong broken));
  few = ⊎_elim (λ (many : 65535 < length c.tries). absurd (clear 88 (TooManyTries many))) (λ (few : length c.tries ≤ 65535). few) (cases_lt 65535 (length c.tries));
  handlers = handlers_near N c clear;
}

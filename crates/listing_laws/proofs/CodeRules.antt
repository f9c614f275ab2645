-- A well-formed code is written.
use Rattle.std.proofs.Common.{ℕ, zero, suc, ◌<◌, ◌≤◌, List, [], ◌∷◌, length, map, Option, Some, None, IfSome, arith}
use Rattle.std.specs.List.{AllByRecursion, flat_map}
use Rattle.program_types.specs.Content.{OfDesc, Insn, Catch, Try, Code}
use Rattle.program_types.specs.Formed.{insn_at, try_at, TryFormed, IsFormed}
use Rattle.program_types.specs.Mentions.{names_of_insn, names_of_try, names_of_code}
use Rattle.program_types.specs.Operands.{IsOperand}
use Rattle.listing_laws.proofs.Printable.{InstructionsFit, CatchFits, CatchAllFits, TryFits, CodeFits}
use Rattle.listing_laws.proofs.NameFits.{IsNamed, name_fits}
use Rattle.listing_laws.proofs.InsnFits.{target_fits, insn_fits}
use Rattle.dex_base.proofs.ListFacts.{all_back, all_front}

-- ---- what holds of two lists

-- ---- instructions

insns_fit : (count : ℕ) (is : List Insn) → count ≤ 2147483647 → ((k : ℕ) → k < length is → IsOperand count (insn_at is k)) → AllByRecursion IsNamed (flat_map names_of_insn is) → InstructionsFit count is
insns_fit count [] l h w = tt
insns_fit count (i ∷ is) l h w =
    let ns = names_of_insn i in
    let more = flat_map names_of_insn is in
    (insn_fits count i l (h 0 (omega arith)) (all_front IsNamed ns more w), insns_fit count is l (λ k a. h (suc k) (omega arith)) (all_back IsNamed ns more w))

-- ---- tries

catches_fit : (count : ℕ) (cs : List Catch) → count ≤ 2147483647 → AllByRecursion (λ c. c.at < count) cs → AllByRecursion IsNamed (map (λ c. OfDesc c.ty) cs) → AllByRecursion (CatchFits count) cs
catches_fit count [] l h w = tt
catches_fit count (c ∷ cs) l h w = let a = h.0 in (((name_fits (OfDesc c.ty) w.0, (target_fits count c.at l (omega arith), tt)), omega arith), catches_fit count cs l h.1 w.1)

last_fits : (count : ℕ) (all : Option ℕ) → count ≤ 2147483647 → IfSome all (λ k. k < count) → CatchAllFits count all
last_fits count None l h = tt
last_fits count (Some k) l h = ((target_fits count k l (omega (arith, h)), tt), omega (arith, h))

try_fits : (count : ℕ) (ts : List Try) (i : ℕ) → count ≤ 2147483647 → TryFormed count ts i → AllByRecursion IsNamed (names_of_try (try_at ts i)) → TryFits count (try_at ts i)
try_fits count ts i l h w =
    let a = h.some in let b = h.within in
    ((target_fits count (try_at ts i).from l (omega arith), (target_fits count (try_at ts i).to l (omega arith), tt)), omega arith, catches_fit count (try_at ts i).catches l h.places w, last_fits count (try_at ts i).catch_all l h.last)

-- one by one
each_fits : (count : ℕ) (ts : List Try) → ((i : ℕ) → i < length ts → TryFits count (try_at ts i)) → AllByRecursion (TryFits count) ts
each_fits count [] h = tt
each_fits count (t ∷ ts) h = (h 0 (omega arith), each_fits count ts (λ i a. h (suc i) (omega arith)))

names_at : (ts : List Try) (i : ℕ) → AllByRecursion IsNamed (flat_map names_of_try ts) → AllByRecursion IsNamed (names_of_try (try_at ts i))
names_at [] i w = tt
names_at (t ∷ ts) zero w = all_front IsNamed (names_of_try t) (flat_map names_of_try ts) w
names_at (t ∷ ts) (suc i) w = names_at ts i (all_back IsNamed (names_of_try t) (flat_map names_of_try ts) w)

pub code_fits : (c : Code) → IsFormed c → AllByRecursion IsNamed (names_of_code c) → CodeFits c
code_fits c f w =
    let few = f.few in
    let names = flat_map names_of_insn c.insns in
    let caught = flat_map names_of_try c.tries in
    let a = f.registers in let b = f.ins in let d = f.outs in (
      ((omega arith, omega arith), ((omega arith, omega arith), ((omega arith, omega arith), tt))),
      omega arith,
      insns_fit (length c.insns) c.insns few f.operands (all_front IsNamed names caught w),
      each_fits (length c.insns) c.tries (λ i a. try_fits (length c.insns) c.tries i few (f.tries i a) (names_at c.tries i (all_back IsNamed names caught w))),
    )

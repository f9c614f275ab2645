-- A code whose payloads are at even addresses, by nops put before some of them.
-- Page: "Dalvik bytecode": packed-switch, sparse-switch and fill-array-data refer to payloads at even addresses.
use Rattle.std.specs.Prelude.{ℕ, ◌≡◌, ◌≢◌, ◌+◌, ◌%◌, if◌then◌else◌, List, [], ◌∷◌, map, option_map, zero, suc, Bool, true, false, None, ⊤}
use Rattle.program_types.specs.Content.{Insn, Code, Try, Catch}
use Rattle.program_types.specs.Content as made
use Rattle.program_types.specs.Formed.{insn_payload}
use Rattle.program_types.specs.Sizes.{insn_units}

-- it is a payload
abbrev pub IsPayloadInsn : Insn → Type 0
IsPayloadInsn i = insn_payload i ≢ None

-- each payload is at an even address, if the first instruction is at `at`
abbrev pub PayloadsEven : ℕ → List Insn → Type 0
PayloadsEven at [] = ⊤
PayloadsEven at (i ∷ is) = (IsPayloadInsn i → at % 2 ≡ 0) × PayloadsEven (at + insn_units i) is

-- the instructions, with a nop before each that the list of pads marks
abbrev pub with_nops : List Bool → List Insn → List Insn
with_nops (true ∷ ps) (i ∷ is) = made.I10x 0 ∷ i ∷ with_nops ps is
with_nops (false ∷ ps) (i ∷ is) = i ∷ with_nops ps is
with_nops _ is = is

-- only payloads have nops before them
abbrev pub PadsPayloads : List Bool → List Insn → Type 0
PadsPayloads (p ∷ ps) (i ∷ is) = (p ≡ true → IsPayloadInsn i) × PadsPayloads ps is
PadsPayloads [] [] = ⊤
PadsPayloads _ _ = ⊥

-- how many nops are put before the instructions up to number k, and before it
abbrev pub nops_to : List Bool → ℕ → ℕ
nops_to [] k = 0
nops_to (p ∷ ps) zero = if p then 1 else 0
nops_to (p ∷ ps) (suc k) = (if p then 1 else 0) + nops_to ps k

-- the new number of instruction k; the number past the last one moves by all nops
abbrev pub moved : List Bool → ℕ → ℕ
moved ps k = k + nops_to ps k

-- the instruction with its targets moved
abbrev pub moved_insn : (ℕ → ℕ) → Insn → Insn
moved_insn f (made.I10t op to) = made.I10t op (f to)
moved_insn f (made.I20t op to) = made.I20t op (f to)
moved_insn f (made.I21t op a to) = made.I21t op a (f to)
moved_insn f (made.I22t op a b to) = made.I22t op a b (f to)
moved_insn f (made.I30t op to) = made.I30t op (f to)
moved_insn f (made.I31t op a to) = made.I31t op a (f to)
moved_insn f (made.Packed first to) = made.Packed first (map f to)
moved_insn f (made.Sparse keys to) = made.Sparse keys (map f to)
moved_insn f i = i

-- a catch with its handler moved
abbrev pub moved_catch : (ℕ → ℕ) → Catch → Catch
moved_catch f c = record { ty = c.ty; at = f c.at }

-- a try with what it names moved
abbrev pub moved_try : (ℕ → ℕ) → Try → Try
moved_try f t = record { from = f t.from; to = f t.to; catches = map (moved_catch f) t.catches; catch_all = option_map f t.catch_all }

-- the code with these nops
abbrev pub padded : List Bool → Code → Code
padded ps c = record {
  registers = c.registers;
  ins = c.ins;
  outs = c.outs;
  insns = map (moved_insn (moved ps)) (with_nops ps c.insns);
  tries = map (moved_try (moved ps)) c.tries;
}

-- The second code is the first with a nop before some payloads, so that all are at even addresses.
pub record Aligned (c d : Code) : Type 0 where
  pub pads : List Bool
  pub payloads : PadsPayloads pads c.insns
  pub even : PayloadsEven 0 (with_nops pads c.insns)
  pub is : d ≡ padded pads c

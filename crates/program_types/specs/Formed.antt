-- Codes that are well formed: the rules of branches, switches, payloads and tries, by the numbers of instructions.
-- Pages: "Dalvik bytecode": goto, packed-switch, sparse-switch, fill-array-data; "Dalvik Executable format": code_item, try_item,
-- encoded_catch_handler.
use Rattle.std.specs.Prelude.{ℕ, ◌≡◌, ◌≢◌, ◌≤◌, ◌<◌, ◌+◌, ◌==◌, if◌then◌else◌, List, [], ◌∷◌, take, length, Option, Some, None, IfSome, IfNone, slice_index_or, ⊤}
use Rattle.std.specs.List.{AllByRecursion, range_with_len}
use Rattle.program_types.specs.Content.{Insn, Code, Try}
use Rattle.program_types.specs.Content as made
use Rattle.program_types.specs.Operands.{IsOperand}
use Rattle.program_types.specs.declared.payload.Payload.{Payload}
use Rattle.program_types.specs.declared.payload.Payload.TheVariants as payload

-- ---- payloads, and what refers to them

-- the payload that an opcode of format 31t refers to
abbrev pub wanted_by : ℕ → Payload
wanted_by op = if op == 0x2b then payload.PackedSwitch else (if op == 0x2c then payload.SparseSwitch else payload.Array)

-- both are payloads of one kind
abbrev pub AreAlike : Option Payload → Option Payload → Type 0
AreAlike (Some payload.PackedSwitch) (Some payload.PackedSwitch) = ⊤
AreAlike (Some payload.SparseSwitch) (Some payload.SparseSwitch) = ⊤
AreAlike (Some payload.Array) (Some payload.Array) = ⊤
AreAlike _ _ = ⊥

-- what is wanted is some payload
abbrev pub WantsPayload : Option Payload → Type 0
WantsPayload wanted = AreAlike wanted wanted

-- it is the payload of a switch
abbrev pub IsSwitch : Option Payload → Type 0
IsSwitch (Some payload.PackedSwitch) = ⊤
IsSwitch (Some payload.SparseSwitch) = ⊤
IsSwitch _ = ⊥

-- ---- references of an instruction to others

-- instruction k of a list: a nop past the end
abbrev pub insn_at : List Insn → ℕ → Insn
insn_at is k = slice_index_or is k (made.I10x 0)

-- which payload an instruction is
unfoldable pub insn_payload : Insn → Option Payload
insn_payload (made.Packed first to) = Some payload.PackedSwitch
insn_payload (made.Sparse keys to) = Some payload.SparseSwitch
insn_payload (made.Data width bytes) = Some payload.Array
insn_payload _ = None

-- which payload it refers to
unfoldable pub insn_wants : Insn → Option Payload
insn_wants (made.I31t op a to) = Some (wanted_by op)
insn_wants _ = None

-- where it refers to
unfoldable pub insn_reach : Insn → ℕ
insn_reach (made.I31t op a to) = to
insn_reach _ = 0

-- the target of a branch; what refers to a payload is none
unfoldable pub insn_branch : Insn → Option ℕ
insn_branch (made.I10t op to) = Some to
insn_branch (made.I20t op to) = Some to
insn_branch (made.I30t op to) = Some to
insn_branch (made.I21t op a to) = Some to
insn_branch (made.I22t op a b to) = Some to
insn_branch _ = None

-- the target of a branch that must not be itself: of all but goto/32
unfoldable pub insn_short_branch : Insn → Option ℕ
insn_short_branch (made.I30t op to) = None
insn_short_branch i = insn_branch i

-- the targets of a switch's payload
unfoldable pub insn_targets : Insn → List ℕ
insn_targets (made.Packed first to) = to
insn_targets (made.Sparse keys to) = to
insn_targets _ = []

-- the instructions that an instruction branches or refers to, except the one after it
abbrev pub insn_leads : Insn → List ℕ
insn_leads (made.I10t op to) = to ∷ []
insn_leads (made.I20t op to) = to ∷ []
insn_leads (made.I30t op to) = to ∷ []
insn_leads (made.I21t op a to) = to ∷ []
insn_leads (made.I31t op a to) = to ∷ []
insn_leads (made.I22t op a b to) = to ∷ []
insn_leads (made.Packed first targets) = targets
insn_leads (made.Sparse keys targets) = targets
insn_leads _ = []

-- ---- the rules of one instruction

-- Instruction j refers to payload k, which is of its kind.
pub record RefersToPayload (is : List Insn) (j k : ℕ) : Type 0 where
  pub there : j < length is
  pub payload : k < length is
  pub kind : AreAlike (insn_wants (insn_at is j)) (insn_payload (insn_at is k))
  pub leads : insn_reach (insn_at is j) ≡ k

-- `to` is the number of an instruction that is no payload.
pub record IsTarget (is : List Insn) (to : ℕ) : Type 0 where
  pub inside : to < length is
  pub plain : insn_payload (insn_at is to) ≡ None

-- The targets of instruction k are instructions that are no payloads; a branch other than goto/32 isn't its own.
pub record TargetHolds (is : List Insn) (k : ℕ) : Type 0 where
  pub lands : IfSome (insn_branch (insn_at is k)) (IsTarget is)
  pub moves : IfSome (insn_short_branch (insn_at is k)) (λ to. to ≢ k)
  pub all : AllByRecursion (IsTarget is) (insn_targets (insn_at is k))

-- What instruction k refers to is a payload of its kind, and a switch's payload has one switch.
pub record PayloadHolds (is : List Insn) (k : ℕ) : Type 0 where
  pub refers : WantsPayload (insn_wants (insn_at is k)) → RefersToPayload is k (insn_reach (insn_at is k))
  pub used : IsSwitch (insn_payload (insn_at is k)) → (by : ℕ) × RefersToPayload is by k × ((i : ℕ) → RefersToPayload is i k → i ≡ by)

-- ---- the rules of tries

-- try i of a list: an empty one past the end
abbrev pub try_at : List Try → ℕ → Try
try_at ts i = slice_index_or ts i (record { from = 0; to = 0; catches = []; catch_all = None })

-- Try i covers some of the `count` instructions, from the end of the one before on, and its handlers are instructions, one at
-- least.
pub record TryFormed (count : ℕ) (ts : List Try) (i : ℕ) : Type 0 where
  pub some : (try_at ts i).from < (try_at ts i).to
  pub within : (try_at ts i).to ≤ count
  pub after : (j : ℕ) → j + 1 ≡ i → (try_at ts j).to ≤ (try_at ts i).from
  pub places : AllByRecursion (λ c. c.at < count) (try_at ts i).catches
  pub last : IfSome (try_at ts i).catch_all (λ k. k < count)
  pub handled : IfNone (try_at ts i).catch_all ((try_at ts i).catches ≢ [])

-- ---- the rule of registers

-- the registers that an instruction names, format by format: of 35c the first n of the five, of 3rc n from the first on; other
-- formats and payloads name none, and the second half of a wide pair isn't named
unfoldable pub insn_registers : Insn → List ℕ
insn_registers (made.I12x op a b) = a ∷ b ∷ []
insn_registers (made.I11n op a b) = a ∷ []
insn_registers (made.I11x op a) = a ∷ []
insn_registers (made.I22x op a b) = a ∷ b ∷ []
insn_registers (made.I21t op a to) = a ∷ []
insn_registers (made.I21s op a b) = a ∷ []
insn_registers (made.I21h op a b) = a ∷ []
insn_registers (made.I21c op a which) = a ∷ []
insn_registers (made.I23x op a b c) = a ∷ b ∷ c ∷ []
insn_registers (made.I22b op a b c) = a ∷ b ∷ []
insn_registers (made.I22t op a b to) = a ∷ b ∷ []
insn_registers (made.I22s op a b c) = a ∷ b ∷ []
insn_registers (made.I22c op a b which) = a ∷ b ∷ []
insn_registers (made.I32x op a b) = a ∷ b ∷ []
insn_registers (made.I31i op a b) = a ∷ []
insn_registers (made.I31t op a to) = a ∷ []
insn_registers (made.I31c op a which) = a ∷ []
insn_registers (made.I35c op n regs which) = take n regs
insn_registers (made.I3rc op n first which) = range_with_len first n
insn_registers (made.I51l op a b) = a ∷ []
insn_registers _ = []

-- The registers that an instruction names are among the first `count`.
abbrev pub AreAmong : ℕ → Insn → Type 0
AreAmong count i = AllByRecursion (λ v. v < count) (insn_registers i)

-- Instruction k names registers of the code.
abbrev pub RegisterHolds : Code → ℕ → Type 0
RegisterHolds c k = AreAmong c.registers (insn_at c.insns k)

-- The ins are registers of the code, and so is every register that an instruction names.
pub record RegistersHold (c : Code) : Type 0 where
  pub ins : c.ins ≤ c.registers
  pub each : (k : ℕ) → k < length c.insns → RegisterHolds c k

-- ---- a code

-- The code keeps these rules, its instructions and its tries one by one, and its counts are numbers of 16 bits.
pub record IsFormed (c : Code) : Type 0 where
  pub some : 0 < length c.insns
  pub few : length c.insns ≤ 2147483647
  pub operands : (k : ℕ) → k < length c.insns → IsOperand (length c.insns) (insn_at c.insns k)
  pub targets : (k : ℕ) → k < length c.insns → TargetHolds c.insns k
  pub payloads : (k : ℕ) → k < length c.insns → PayloadHolds c.insns k
  pub tries : (i : ℕ) → i < length c.tries → TryFormed (length c.insns) c.tries i
  pub registers : c.registers < 65536
  pub ins : c.ins < 65536
  pub outs : c.outs < 65536
  pub named : RegistersHold c

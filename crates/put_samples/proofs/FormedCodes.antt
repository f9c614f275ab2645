-- Codes by hand: those that keep the rules are well formed, and where no name has an index all indices fit.
use Rattle.std.proofs.Common.{ℕ, ◌≡◌, ◌<◌, ◌≤◌, ◌++◌, List, [], ◌∷◌, Option, None, Some}
use Rattle.std.specs.Prelude.{IfSome}
use Rattle.std.specs.List.{AllByRecursion, flat_map}
use Rattle.code_write.specs.Fits.{AllInsns, CanBePut, HasIndexBelow, ShortFits, short_name, wide_code}
use Rattle.code_rules.proofs.OperandLaws.{operands_of}
use Rattle.code_rules.specs.CodeRules.{OperandsHold, TargetsHold, PayloadsHold, TriesHold}
use Rattle.dex_insn.specs.declared.opcode.IndexKind.TheVariants as kind
use Rattle.tables_names.specs.Closure.{NameRanks, nothing}
use Rattle.program_types.specs.Content.{Name, OfText, OfDesc, OfField, OfMethod, Code}
use Rattle.program_types.specs.Formed.{IsFormed, RegistersHold, insn_at}
use Rattle.program_types.specs.Kinds.{IsOfKind}
use Rattle.program_types.specs.Mentions.{names_of_insn, names_of_try}

pub formed_of : (c : Code) → OperandsHold c → TargetsHold c → PayloadsHold c → TriesHold c → RegistersHold c → c.registers < 65536 → c.ins < 65536 → c.outs < 65536 → IsFormed c
formed_of c o t p r g registers ins outs = record {
  some = o.some;
  few = o.few;
  operands = operands_of c o t p;
  targets = t;
  payloads = p;
  tries = r;
  registers = registers;
  ins = ins;
  outs = outs;
  named = g;
}

none_ranks : (o : Option Name) → IfSome o (λ n. IsOfKind kind.Type n → (i : ℕ) → NameRanks nothing i n → i < 65536)
none_ranks None = tt
none_ranks (Some (OfText t)) = λ k. absurd k
none_ranks (Some (OfDesc t)) = λ k i at. absurd (cc at)
none_ranks (Some (OfField f)) = λ k. absurd k
none_ranks (Some (OfMethod m)) = λ k. absurd k

types_fit : (c : Code) → AllInsns (ShortFits (NameRanks nothing) kind.Type) c
types_fit c k l = none_ranks (short_name (insn_at c.insns k))

no_names : (N : ℕ → Name → Type 0) (xs ys : List Name) → xs ≡ [] → ys ≡ [] → AllByRecursion (HasIndexBelow N 4294967296) (xs ++ ys)
no_names N [] [] i t = tt
no_names N (x ∷ xs) ys i t = absurd (cc i)
no_names N [] (y ∷ ys) i t = absurd (cc t)

-- a code without names can be put where nothing has an index
pub can_be_put : (c : Code) → flat_map names_of_insn c.insns ≡ [] → flat_map names_of_try c.tries ≡ [] → wide_code c ≤ 4294967295 → CanBePut (NameRanks nothing) c
can_be_put c i t short = record {
  ranked = no_names (NameRanks nothing) (flat_map names_of_insn c.insns) (flat_map names_of_try c.tries) i t;
  types = types_fit c;
  short = short;
}

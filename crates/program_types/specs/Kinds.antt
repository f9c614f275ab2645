-- The kinds of types that a use requires, and the kinds of names.
-- Page: "Dalvik Executable format", "String syntax": TypeDescriptor; string_ids, type_ids, field_ids and method_ids.
use Rattle.std.specs.Prelude.{ℕ, codes, ⊤}
use Rattle.dex_insn.specs.declared.opcode.IndexKind.{IndexKind}
use Rattle.dex_insn.specs.declared.opcode.IndexKind.TheVariants as kind
use Rattle.program_types.specs.Content.{Units, Name, OfText, OfDesc, OfField, OfMethod}

-- The return type of a method that returns nothing: no value has it.
abbrev pub void : Units
void = codes "V"

-- The name is one of this table.
abbrev pub IsOfKind : IndexKind → Name → Type 0
IsOfKind kind.String (OfText s) = ⊤
IsOfKind kind.Type (OfDesc t) = ⊤
IsOfKind kind.Field (OfField f) = ⊤
IsOfKind kind.Method (OfMethod m) = ⊤
IsOfKind _ _ = ⊥

-- The name has an index; N relates an index to the name that it denotes.
abbrev pub HasIndex : (ℕ → Name → Type 0) → Name → Type 0
HasIndex N which = (i : ℕ) × N i which

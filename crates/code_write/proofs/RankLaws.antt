-- Ranks are indices.
use Rattle.std.proofs.Common.{ℕ, ◌<◌, ap, arith}
use Rattle.dex_insn.specs.declared.opcode.IndexKind.TheVariants as kind
use Rattle.code_read.specs.inner.Symbols.{IsFunctional}
use Rattle.program_types.specs.Content.{Name, OfText, OfDesc, OfField, OfMethod}
use Rattle.tables_names.specs.Closure.{Five, AreRising, NameRanks}
use Rattle.code_write.specs.Fits.{HasIndexBelow}
use Rattle.tables_names.proofs.PlaceLemmas.{rank_one, one_key}
use Rattle.program_types.proofs.KeysTell.{text_told, field_told, method_told}

pub below-limit : (s : Five) (i limit : ℕ) (which : Name) → AreRising s → NameRanks s i which → HasIndexBelow (NameRanks s) limit which → i < limit
below-limit s i limit which r p h = let e = rank_one s i h.0 which r p h.2 in let l = h.1 in omega arith

-- ---- an index has one name of a kind

pub ranks-functional : (s : Five) → IsFunctional (NameRanks s)
ranks-functional s kind.String i (OfText m) (OfText n) a b p q = ap OfText (text_told m n (one_key s.strings i _ _ p q))
ranks-functional s kind.Type i (OfDesc m) (OfDesc n) a b p q = ap OfDesc (text_told m n (one_key s.types i _ _ p q))
ranks-functional s kind.Field i (OfField m) (OfField n) a b p q = ap OfField (field_told m n (one_key s.fields i _ _ p q))
ranks-functional s kind.Method i (OfMethod m) (OfMethod n) a b p q = ap OfMethod (method_told m n (one_key s.methods i _ _ p q))
ranks-functional s kind.String i (OfText m) _ a b p q = absurd b
ranks-functional s kind.Type i (OfDesc m) _ a b p q = absurd b
ranks-functional s kind.Field i (OfField m) _ a b p q = absurd b
ranks-functional s kind.Method i (OfMethod m) _ a b p q = absurd b
ranks-functional s _ i _ _ a b p q = absurd a

-- An index stands for one name of a kind.
use Rattle.std.proofs.Common.{ℕ, List, sym, ap, ◌∙◌, arith}
use Rattle.program_types.specs.Content.{Name, OfText, OfDesc, OfField, OfMethod, Value, Named, Enum}
use Rattle.tables_rows.specs.Names.{Names, NameIsAt}
use Rattle.dex_value.specs.Reading.{IsNumber}
use Rattle.dex_value.specs.inner.Reading.{ValueStands}
use Rattle.dex_value.specs.Unique.{IsFunctionalByType}
use Rattle.dex_base.proofs.ListFacts.{some_inj}

pub NameIsAt-functional : (names : Names) → IsFunctionalByType (NameIsAt names)
NameIsAt-functional names i (OfText m) (OfText n) e p q = ap OfText (some_inj m n (sym p ∙ q))
NameIsAt-functional names i (OfDesc m) (OfDesc n) e p q = ap OfDesc (some_inj m n (sym p ∙ q))
NameIsAt-functional names i (OfField m) (OfField n) e p q = ap OfField (some_inj m n (sym p ∙ q))
NameIsAt-functional names i (OfMethod m) (OfMethod n) e p q = ap OfMethod (some_inj m n (sym p ∙ q))
NameIsAt-functional names i _ _ e p q = absurd (omega arith)

-- a number stands whatever names are
pub number_stands : (N : ℕ → Name → Type 0) (type : ℕ) (low : List ℕ) (v : Value) → IsNumber type low v → ValueStands N type low v
number_stands N type low (Named which) s = absurd s
number_stands N type low (Enum f) s = absurd s
number_stands N type low _ s = s

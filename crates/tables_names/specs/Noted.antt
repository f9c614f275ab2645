-- Names that code mentions and classes define, noted by their numbers in the order of first need while names are added, and by their ranks once
-- these are sorted.
-- Page: "Dalvik bytecode": the formats with an index, as 21c, name a string, a type, a field or a method by it.
use Rattle.std.specs.Prelude.{◌≡◌, ℕ, List, ◌++◌, map}
use Rattle.std.specs.List.{AllZip}
use Rattle.program_types.specs.Content.{Class, Name, OfText, OfDesc, OfField, OfMethod}
use Rattle.program_types.specs.Key.{text_key, field_ref_key, method_ref_key}
use Rattle.tables_names.specs.Rank.{IsAt}
use Rattle.program_types.specs.Mentions.{field_of_class}
use Rattle.tables_names.specs.Closure.{Five, NameRanks, method_of_class, with_names}
use Rattle.tables_names.specs.Numbers.{AllGrow, sets}
use Rattle.tables_names.specs.declared.noted.Number.{Number}
use Rattle.tables_names.specs.declared.noted.Number.TheVariants.{Text, Desc, Field, Method}

-- the number of a name among those of its kind
abbrev pub NumberIs : Five → Name → Number → Type 0
NumberIs s (OfText t) (Text n) = IsAt s.strings n (text_key t)
NumberIs s (OfDesc t) (Desc n) = IsAt s.types n (text_key t)
NumberIs s (OfField f) (Field n) = IsAt s.fields n (field_ref_key f)
NumberIs s (OfMethod m) (Method n) = IsAt s.methods n (method_ref_key m)
NumberIs s _ _ = ⊥

-- names in the order of first need, and the numbers that were noted
pub record Notes : Type 0 where
  pub names : Five
  pub numbers : List Number

-- what was noted is these names, one by one
abbrev pub AreNoted : Notes → List Name → Type 0
AreNoted n names = AllZip (NumberIs n.names) names n.numbers

-- these names were added, with their parts, and noted after the others
pub record AddsNoted (old new : Notes) (names : List Name) : Type 0 where
  pub added : sets new.names ≡ with_names (sets old.names) names
  pub noted : (before : List Name) → AreNoted old before → AreNoted new (before ++ names)

-- each name keeps its number, and the notes so far are in front
pub record Continues (old new : Notes) : Type 0 where
  pub grows : AllGrow old.names new.names
  pub front : (more : List Number) × (new.numbers ≡ old.numbers ++ more)

-- the members that a class defines: static fields, then instance fields, direct methods and virtual ones
abbrev pub members_of : Class → List Name
members_of c =
    map (field_of_class c.ty) c.statics ++ map (field_of_class c.ty) c.instances ++ map (method_of_class c.ty) c.directs ++ map (method_of_class c.ty) c.virtuals

-- these are the ranks of names, one by one
abbrev pub AreRanks : Five → List Name → List ℕ → Type 0
AreRanks s names ranks = AllZip (λ name i. NameRanks s i name) names ranks

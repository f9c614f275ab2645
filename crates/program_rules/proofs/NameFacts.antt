-- What names are known to be by their types alone: their units are numbers of 16 bits. `Known` is the logic's word for what
-- owning a value, or holding a `&` to it, says of the value.
use Rattle.std.proofs.Common.{ℕ, ◌<◌, List, [], ◌∷◌, arith, suc}
use Rattle.std.specs.Prelude.{map}
use Rattle.std.specs.List.{AllByRecursion}
use mir.Syntax.{w16}
use denote.Plain.{UInt}
use denote.RattleType.{RattleType}
use denote.Ref.{NamedLft, ShrRef}
use denote.Slice.{ShrSlice}
use denote.Struct.Struct.{Struct}
use denote.Struct.Declared.{Declared, row, shape}
use denote.Enum.Enum.{Enum}
use denote.Enum.Declared.{shape as enum_shape}
use denote.Known.{Says-map, Known, All, nothing_known, uint_known, shr_known, shr_slice_known, struct_known, enum_known, recorded_known, declared_known, declared_enum_known}
use Rattle.program_types.specs.contracts.names.Str as Str
use Rattle.program_types.specs.Content.{AreUnits}
use Rattle.program_types.specs.contracts.names.Desc as Desc
use Rattle.program_types.specs.contracts.names.Proto as Proto
use Rattle.program_types.specs.contracts.names.FieldRef as FieldRef
use Rattle.program_types.specs.contracts.names.MethodRef as MethodRef
use Rattle.program_types.specs.contracts.names.Name as Name
use Rattle.program_types.specs.declared.names.Name.TheVariants as named
use Rattle.program_types.specs.declared.insn.Insn.TheVariants as made
use Rattle.program_types.specs.contracts.insn.Insn as Insn
use Rattle.program_types.specs.Mentions.{names_of_insn}
use Rattle.program_types.specs.View as view
use Rattle.program_rules.specs.Ranges.{ProtoInRange, FieldInRange, MethodInRange, NameInRange}

-- a fact in other words
abbrev pub told : {R : RattleType} (k : Known R) (F : R.Denot → Type 0) → ((x : R.Denot) → k.Fact x → F x) → Known R
told {R} k F f = record { Fact = F; owned = λ x vs. Says-map (R.own_val x vs) (f x) (k.owned x vs); shared = λ x b o κ. Says-map (R.shr_at x b o κ) (f x) (k.shared x b o κ) }

-- of each element
pub each : {A B : Type 0} (P : B → Type 0) (f : A → B) (xs : List A) → All (λ x. P (f x)) xs → AllByRecursion P (map f xs)
each P f [] h = tt
each P f (x ∷ xs) h = (h 0 x (omega arith), each P f xs (λ i d l. h (suc i) d (omega arith)))

pub each_unit : (us : List ℕ) → All (λ u. u < 65536) us → AreUnits us
each_unit [] h = tt
each_unit (u ∷ us) h = (h 0 u (omega arith), each_unit us (λ i d l. h (suc i) d (omega arith)))

-- of a struct, from its parts
abbrev pub declared : (T : Declared) → Known (Struct (shape T)) → Known (row T)
declared T k = recorded_known (Struct (shape T)) k T.D T.to T.to_one

infixr 5 ◌&◌
abbrev pub ◌&◌ : {A B : Type 2} → A → B → A × B
◌&◌ x y = (x, y)

-- nothing is asked of a field, or of all fields of a variant
abbrev pub no : {A : RattleType} → Known A
no {A} = nothing_known A

abbrev pub one : {A : RattleType} → Known A × Unit {2}
one = no & tt

abbrev pub two : {A B : RattleType} → Known A × (Known B × Unit {2})
two = no & one

abbrev pub three : {A B C : RattleType} → Known A × (Known B × (Known C × Unit {2}))
three = no & two

abbrev pub four : {A B C D : RattleType} → Known A × (Known B × (Known C × (Known D × Unit {2})))
four = no & three

module _ (a : NamedLft) where
  abbrev pub str : Known (Struct (shape (Str.the_type a)))
  str = told (struct_known (shape (Str.the_type a)) (shr_slice_known (UInt w16) (uint_known w16) a.mir a.lft, tt)) (λ s. AreUnits s.0.now) (λ s f. each_unit s.0.now f.0)

  abbrev pub desc : Known (Struct (shape (Desc.the_type a)))
  desc = told (struct_known (shape (Desc.the_type a)) (str, tt)) (λ d. AreUnits d.0.0.now) (λ d f. f.0)

  abbrev pub descs : Known (ShrSlice a.mir a.lft (Desc.the_row a))
  descs = shr_slice_known (Desc.the_row a) (declared (Desc.the_type a) desc) a.mir a.lft

  abbrev pub proto : Known (ShrRef a.mir a.lft (Proto.the_row a))
  proto = shr_known (Proto.the_row a) (told (declared_known (Proto.the_type a) (desc & descs & tt)) (λ p. ProtoInRange (view.proto p)) (λ p f. record { ret = f.0; params = each AreUnits view.desc p.params.now f.1.0 })) a.mir a.lft

  abbrev pub field : Known (ShrRef a.mir a.lft (FieldRef.the_row a))
  field = shr_known (FieldRef.the_row a) (told (declared_known (FieldRef.the_type a) (desc & str & desc & tt)) (λ r. FieldInRange (view.field_ref r)) (λ r f. record { class = f.0; name = f.1.0; ty = f.1.1.0 })) a.mir a.lft

  abbrev pub method : Known (ShrRef a.mir a.lft (MethodRef.the_row a))
  method = shr_known (MethodRef.the_row a) (told (declared_known (MethodRef.the_type a) (desc & str & proto & tt)) (λ r. MethodInRange (view.method_ref r)) (λ r f. record { class = f.0; name = f.1.0; proto = f.1.1.0 })) a.mir a.lft

  abbrev pub name : Known (Enum (enum_shape (Name.the_type a)))
  name = enum_known (enum_shape (Name.the_type a)) ((str & tt) & (desc & tt) & (field & tt) & (method & tt) & tt)

  pub name_told : (n : named.the_data) → name.Fact ((Name.the_type a).to n) → NameInRange (view.name n)
  name_told (named.Text s) f = f.0
  name_told _ f = f.0

  abbrev pub formats : Known (Insn.the_row a)
  formats = declared_enum_known (Insn.the_type a) (one & three & three & two & two & two & three & three & three & three & (no & no & name & tt) & four & four & four & four & (no & no & no & name & tt)
      & two & three & three & three & (no & no & name & tt) & (no & no & no & name & tt) & (no & no & no & name & tt) & three & two & two & two & tt)

  pub insn_told : (i : made.the_data) → formats.Fact i → AllByRecursion NameInRange (names_of_insn (view.insn i))
  insn_told (made.I21c op r n) f = (name_told n f.1.1.0, tt)
  insn_told (made.I22c op r s n) f = (name_told n f.1.1.1.0, tt)
  insn_told (made.I31c op r n) f = (name_told n f.1.1.0, tt)
  insn_told (made.I35c op k rs n) f = (name_told n f.1.1.1.0, tt)
  insn_told (made.I3rc op k first n) f = (name_told n f.1.1.1.0, tt)
  insn_told _ f = tt

  abbrev pub insn : Known (Insn.the_row a)
  insn = told formats (λ i. AllByRecursion NameInRange (names_of_insn (view.insn i))) insn_told

-- The content of a program, wherever it lies in memory. Two programs are equal if their contents are.
-- Names are texts, and a branch, a try or a handler refers to an instruction by its number in its code, from 0.
-- Pages: "Dalvik Executable format", whose name of each item is in parentheses below; for instructions "Dalvik Executable
-- instruction formats" and "Dalvik bytecode".
use Rattle.std.specs.Prelude.{ℕ, ℤ, ◌<◌, Bool, List, [], ◌∷◌, Option}
use Rattle.std.specs.List.{AllByRecursion}

-- ---- Names

-- The UTF-16 units of a text (string_data_item).
abbrev pub Units : Type 0
Units = List ℕ

-- UTF-16 units are numbers of 16 bits.
abbrev pub AreUnits : Units → Type 0
AreUnits units = AllByRecursion (λ u. u < 65536) units

-- A type: the units of its descriptor (type_id_item).
abbrev pub Descriptor : Type 0
Descriptor = Units

-- A method prototype: its return type and its parameters (proto_id_item).
pub record Proto : Type 0 where
  pub ret : Descriptor
  pub params : List Descriptor

-- A field of a class (field_id_item).
pub record FieldRef : Type 0 where
  pub class : Descriptor
  pub name : Units
  pub ty : Descriptor

-- A method of a class or an array type (method_id_item).
pub record MethodRef : Type 0 where
  pub class : Descriptor
  pub name : Units
  pub proto : Proto

-- What a value or an instruction can name: a string, a type, a field or a method.
pub data Name : Type 0 where
  OfText : (units : Units) → Name
  OfDesc : (type : Descriptor) → Name
  OfField : (field : FieldRef) → Name
  OfMethod : (method : MethodRef) → Name

-- ---- Values

-- A value, and a list of values (encoded_value, encoded_array). Float and Double have the bits of their number, Named is
-- VALUE_STRING, VALUE_TYPE, VALUE_FIELD or VALUE_METHOD.
mutual
  pub data Value : Type 0 where
    Byte : (n : ℤ) → Value
    Short : (n : ℤ) → Value
    Char : (unit : ℕ) → Value
    Int : (n : ℤ) → Value
    Long : (n : ℤ) → Value
    Float : (bits : ℕ) → Value
    Double : (bits : ℕ) → Value
    Named : (which : Name) → Value
    Enum : (constant : FieldRef) → Value
    Array : (vs : Values) → Value
    Null : Value
    Boolean : (b : Bool) → Value

  pub data Values : Type 0 where
    no_values : Values
    more_values : (v : Value) (vs : Values) → Values

-- The values of a list.
abbrev pub values : List Value → Values
values [] = no_values
values (v ∷ vs) = more_values v (values vs)

-- ---- Instructions

-- An instruction, a constructor a format, or a payload. `op` is the opcode; `a`, `b` and `c` are the format's A, B and C, which
-- are registers, or a literal in ℤ; `to` is the target instruction; `which` is what the format's index names.
pub data Insn : Type 0 where
  I10x : (op : ℕ) → Insn
  I12x : (op a b : ℕ) → Insn
  I11n : (op a : ℕ) (b : ℤ) → Insn
  I11x : (op a : ℕ) → Insn
  I10t : (op to : ℕ) → Insn
  I20t : (op to : ℕ) → Insn
  I22x : (op a b : ℕ) → Insn
  I21t : (op a to : ℕ) → Insn
  I21s : (op a : ℕ) (b : ℤ) → Insn
  I21h : (op a : ℕ) (b : ℤ) → Insn
  I21c : (op a : ℕ) (which : Name) → Insn
  I23x : (op a b c : ℕ) → Insn
  I22b : (op a b : ℕ) (c : ℤ) → Insn
  I22t : (op a b to : ℕ) → Insn
  I22s : (op a b : ℕ) (c : ℤ) → Insn
  I22c : (op a b : ℕ) (which : Name) → Insn
  I30t : (op to : ℕ) → Insn
  I32x : (op a b : ℕ) → Insn
  I31i : (op a : ℕ) (b : ℤ) → Insn
  I31t : (op a to : ℕ) → Insn
  I31c : (op a : ℕ) (which : Name) → Insn
  -- A is the count `n`, and C, D, E, F and G are `regs`
  I35c : (op n : ℕ) (regs : List ℕ) (which : Name) → Insn
  -- A is the count `n`, and C is the first register
  I3rc : (op n first : ℕ) (which : Name) → Insn
  I51l : (op a : ℕ) (b : ℤ) → Insn
  -- packed-switch-payload: the first key, and the target of each key
  Packed : (first : ℤ) (targets : List ℕ) → Insn
  -- sparse-switch-payload: the keys, and the target of each
  Sparse : (keys : List ℤ) (targets : List ℕ) → Insn
  -- fill-array-data-payload: bytes an element, and the bytes of all
  Data : (width : ℕ) (bytes : List ℕ) → Insn

-- ---- Code

-- Where an exception of a type goes (encoded_type_addr_pair).
pub record Catch : Type 0 where
  pub ty : Descriptor
  pub at : ℕ

-- The instructions from `from` on, short of `to`, and what catches their exceptions (try_item, encoded_catch_handler).
pub record Try : Type 0 where
  pub from : ℕ
  pub to : ℕ
  pub catches : List Catch
  pub catch_all : Option ℕ

-- The body of a method (code_item).
pub record Code : Type 0 where
  pub registers : ℕ
  pub ins : ℕ
  pub outs : ℕ
  pub insns : List Insn
  pub tries : List Try

-- ---- Classes

-- A field that a class defines (encoded_field).
pub record Member : Type 0 where
  pub name : Units
  pub ty : Descriptor
  pub flags : ℕ

-- A method that a class defines, with a body or none (encoded_method).
pub record Method : Type 0 where
  pub name : Units
  pub proto : Proto
  pub flags : ℕ
  pub code : Option Code

-- A class (class_def_item, class_data_item). The values are the initial ones of its first static fields, in their order.
pub record Class : Type 0 where
  pub ty : Descriptor
  pub flags : ℕ
  pub superclass : Option Descriptor
  pub interfaces : List Descriptor
  pub source : Option Units
  pub statics : List Member
  pub values : List Value
  pub instances : List Member
  pub directs : List Method
  pub virtuals : List Method

-- A program: its classes, in order.
abbrev pub Program : Type 0
Program = List Class

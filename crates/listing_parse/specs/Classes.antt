-- The lines of a class, and the class that they mean.
-- Page: docs/LISTING.md, "The lines", "Values", "A grammar", "Faults" (104).
use Rattle.std.specs.Prelude.{◌≡◌, ◌≢◌, ◌==◌, Bool, true, false, pos, List, [], ◌∷◌, ◌++◌, length, map, slice_index, Option, Some, None, codes}
use Rattle.std.specs.List.{AllByRecursion, flat_map, list_all, list_any}
use Rattle.std.specs.List.Sorted.{IsPermutation}
use Rattle.std.specs.declared.cmp.Ordering.TheVariants.{Less}
use Rattle.program_types.specs.Content as content
use Rattle.program_types.specs.Content.{Units, Descriptor, Value, Code, Member, Method, Class, Program}
use Rattle.program_types.specs.Key.{Key, key_cmp}
use Rattle.program_rules.specs.Rules.{member_key, method_key}
use Rattle.listing_lines.specs.Lines.{Line, open_class, end_class, super_line, implements_line, source_line, static_line, instance_line, direct_line, virtual_line}
use Rattle.listing_parse.specs.Members.{Given, given_key}
use Rattle.listing_parse.specs.Codes.{code_lines, has_targets_within}

-- ---- before the members

-- The line gives a superclass, an interface or a source file.
abbrev pub is_head : Line → Bool
is_head (super_line d) = true
is_head (implements_line d) = true
is_head (source_line us) = true
is_head _ = false

-- The superclass that the line gives, if it gives one.
abbrev pub superclass_in : Line → List Descriptor
superclass_in (super_line d) = d ∷ []
superclass_in _ = []

-- The interface that it gives.
abbrev pub interface_in : Line → List Descriptor
interface_in (implements_line d) = d ∷ []
interface_in _ = []

-- The source file that it gives.
abbrev pub source_in : Line → List Units
source_in (source_line us) = us ∷ []
source_in _ = []

-- None, or one.
abbrev pub at_most_one : {X : Type 0} → Option X → List X
at_most_one None = []
at_most_one (Some x) = x ∷ []

-- Each differs from those after it.
abbrev pub NoneTwice : List Descriptor → Type 0
NoneTwice [] = Unit {0}
NoneTwice (d ∷ ds) = AllByRecursion (λ e. d ≢ e) ds × NoneTwice ds

-- ---- members

-- A member as the text has it: a field, of a static one its value too if the text gives one; or a method, and the code
-- after it if there is one.
pub data ListedMember : Type 0 where
  static_entry : Given → ListedMember
  instance_entry : Member → ListedMember
  direct_entry : Method → Option Code → ListedMember
  virtual_entry : Method → Option Code → ListedMember

-- The code after a method, if there is one.
abbrev pub its_code : Option Code → List Line
its_code None = []
its_code (Some c) = code_lines c

-- The lines of a member.
abbrev pub entry_lines : ListedMember → List Line
entry_lines (static_entry g) = static_line g.field g.value ∷ []
entry_lines (instance_entry m) = instance_line m ∷ []
entry_lines (direct_entry m c) = direct_line m ∷ its_code c
entry_lines (virtual_entry m c) = virtual_line m ∷ its_code c

-- The method with the code after it.
abbrev pub method_with : Method → Option Code → Method
method_with m None = m
method_with m (Some c) = record m { code = Some c }

-- The static field that it is, if it is one.
abbrev pub static_in : ListedMember → List Given
static_in (static_entry g) = g ∷ []
static_in _ = []

-- The instance field.
abbrev pub instance_in : ListedMember → List Member
instance_in (instance_entry m) = m ∷ []
instance_in _ = []

-- The direct method, with the code after it.
abbrev pub direct_in : ListedMember → List Method
direct_in (direct_entry m c) = method_with m c ∷ []
direct_in _ = []

-- The virtual method, with the code after it.
abbrev pub virtual_in : ListedMember → List Method
virtual_in (virtual_entry m c) = method_with m c ∷ []
virtual_in _ = []

-- The code that it has.
abbrev pub code_in : ListedMember → List Code
code_in (direct_entry m c) = at_most_one c
code_in (virtual_entry m c) = at_most_one c
code_in _ = []

-- Each target in the code is one of its instructions.
abbrev pub TargetsWithin : Code → Type 0
TargetsWithin c = list_all (has_targets_within (length c.insns)) (code_lines c) ≡ true

-- Each key is below those after it.
abbrev pub Rise : List Key → Type 0
Rise [] = Unit {0}
Rise (k ∷ ks) = AllByRecursion (λ q. key_cmp k q ≡ Less) ks × Rise ks

-- What the text gives in any order is held in the order of its keys, none of them twice.
pub record AreSorted {X : Type 0} (key : X → Key) (given held : List X) : Type 0 where
  pub same : IsPermutation given held
  pub rise : Rise (map key held)

-- ---- values

-- The zero of a type, which the first character of its descriptor tells: Z, B, S, C, I, J, F or D, or another one.
pub data IsZero (ty : Descriptor) : Value → Type 0 where
  of_boolean : slice_index ty 0 ≡ 90 → IsZero ty (content.Boolean false)
  of_byte : slice_index ty 0 ≡ 66 → IsZero ty (content.Byte (pos 0))
  of_short : slice_index ty 0 ≡ 83 → IsZero ty (content.Short (pos 0))
  of_char : slice_index ty 0 ≡ 67 → IsZero ty (content.Char 0)
  of_int : slice_index ty 0 ≡ 73 → IsZero ty (content.Int (pos 0))
  of_long : slice_index ty 0 ≡ 74 → IsZero ty (content.Long (pos 0))
  of_float : slice_index ty 0 ≡ 70 → IsZero ty (content.Float 0)
  of_double : slice_index ty 0 ≡ 68 → IsZero ty (content.Double 0)
  of_reference : list_any (λ c. slice_index ty 0 == c) (codes "ZBSCIJFD") ≡ false → IsZero ty content.Null

-- The value of a field of this type: the one that the text gives, or the type's zero.
abbrev pub IsValue : Descriptor → Option Value → Value → Type 0
IsValue ty (Some w) v = w ≡ v
IsValue ty None v = IsZero ty v

-- The text gives it no value.
abbrev pub HasNone : Given → Type 0
HasNone g = g.value ≡ None

-- The values of static fields, in order: up to the last field that the text gives one.
abbrev pub AreValues : List Given → List Value → Type 0
AreValues gs [] = AllByRecursion HasNone gs
AreValues (g ∷ gs) (v ∷ []) = (g.value ≡ Some v) × AllByRecursion HasNone gs
AreValues (g ∷ gs) (v ∷ (w ∷ vs)) = IsValue g.field.ty g.value v × AreValues gs (w ∷ vs)
AreValues [] _ = ⊥

-- ---- a class, and all classes

-- The lines are the text of the class: the line that opens it, what is before its members, these in any order, and
-- `end class`.
pub record ClassText (ls : List Line) (c : Class) : Type 0 where
  pub heads : List Line
  pub entries : List ListedMember
  pub lines : ls ≡ open_class c.ty c.flags ∷ (heads ++ (flat_map entry_lines entries ++ end_class ∷ []))
  pub are_heads : list_all is_head heads ≡ true
  pub superclass : flat_map superclass_in heads ≡ at_most_one c.superclass
  pub interfaces : flat_map interface_in heads ≡ c.interfaces
  pub none_twice : NoneTwice c.interfaces
  pub source : flat_map source_in heads ≡ at_most_one c.source
  pub statics : List Given
  pub statics_held : AreSorted given_key (flat_map static_in entries) statics
  pub fields : map (λ (g : Given). g.field) statics ≡ c.statics
  pub values : AreValues statics c.values
  pub instances : AreSorted member_key (flat_map instance_in entries) c.instances
  pub directs : AreSorted method_key (flat_map direct_in entries) c.directs
  pub virtuals : AreSorted method_key (flat_map virtual_in entries) c.virtuals
  pub targets : AllByRecursion TargetsWithin (flat_map code_in entries)

-- The lines are the texts of the classes, one after the other.
abbrev pub ClassesText : List Line → Program → Type 0
ClassesText ls [] = ls ≡ []
ClassesText ls (c ∷ cs) = (text after : List Line) × (ls ≡ text ++ after) × ClassText text c × ClassesText after cs

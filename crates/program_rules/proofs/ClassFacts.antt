-- What classes are known to be by their types alone: all numbers and units in them lie in their ranges.
use Rattle.std.proofs.Common.{ℕ, List, Option, Some, None}
use Rattle.std.specs.Prelude.{IfSome, option_map}
use Rattle.std.specs.List.{AllByRecursion}
use Rattle.std.specs.contracts.option.Option as Opt
use mir.Syntax.{w16, w32}
use mir.Val.{Val}
use base.Fml.{Lft}
use denote.RattleType.{RattleType}
use denote.Ref.{NamedLft, ShrRef}
use denote.Slice.{ShrSlice}
use denote.Enum.Enum.{Enum}
use denote.Enum.Declared.{shape}
use denote.Known.{Says, Says-map, Known, uint_known, shr_known, shr_slice_known, enum_known, declared_known}
use Rattle.program_types.specs.contracts.names.Str as Str
use Rattle.program_types.specs.Content.{AreUnits}
use Rattle.program_types.specs.contracts.names.Desc as Desc
use Rattle.program_types.specs.contracts.insn.Insn as Insn
use Rattle.program_types.specs.contracts.value.Value as Value
use Rattle.program_types.specs.contracts.code.Catch as Catch
use Rattle.program_types.specs.contracts.code.Try as Try
use Rattle.program_types.specs.contracts.code.Code as Code
use Rattle.program_types.specs.contracts.class.Member as Member
use Rattle.program_types.specs.contracts.class.Method as Method
use Rattle.program_types.specs.contracts.class.Class as Class
use Rattle.program_types.specs.declared.class.Class.{Class}
use Rattle.program_types.specs.Mentions.{names_of_insn}
use Rattle.program_types.specs.View as view
use Rattle.program_rules.specs.Ranges.{NameInRange, ClassInRange}
use Rattle.program_rules.proofs.PartRanges.{FieldFits, ValueFits, CodeFits, MethodFits, code-names, class-whole}
use Rattle.program_rules.proofs.NameFacts.{◌&◌, no, told, each, declared, str, desc, descs, proto, insn}
use Rattle.program_rules.proofs.ValueFacts.{each_value}

-- of what may be missing
abbrev if_any : (R : RattleType) → Known R → Known (Enum (shape (Opt.the_type R)))
if_any R k = enum_known (shape (Opt.the_type R)) (tt & (k & tt) & tt)

if_told : {A : Type 0} (R : RattleType) (k : Known R) (P : A → Type 0) (f : R.Denot → A) → ((x : R.Denot) → k.Fact x → P (f x))
    → (o : Option R.Denot) → (if_any R k).Fact ((Opt.the_type R).to o) → IfSome (option_map f o) P
if_told R k P f g None h = tt
if_told R k P f g (Some x) h = g x h.0

module _ (a : NamedLft) where
  abbrev catch : Known (Catch.the_row a)
  catch = told (declared_known (Catch.the_type a) (desc a & no & tt)) (λ c. AreUnits (view.catch c).ty) (λ c f. f.0)

  abbrev try : Known (Try.the_row a)
  try = told (declared_known (Try.the_type a) (no & no & shr_slice_known (Catch.the_row a) catch a.mir a.lft & no & tt))
      (λ t. AllByRecursion (λ c. AreUnits c.ty) (view.try t).catches) (λ t f. each (λ c. AreUnits c.ty) view.catch t.catches.now f.1.1.0)

  abbrev code : Known (Code.the_row a)
  code = told (declared_known (Code.the_type a) (uint_known w16 & uint_known w16 & uint_known w16 & shr_slice_known (Insn.the_row a) (insn a) a.mir a.lft & shr_slice_known (Try.the_row a) try a.mir a.lft & tt))
      (λ c. CodeFits (view.code c)) (λ c f. record {
        counts = record { registers = f.0; ins = f.1.0; outs = f.1.1.0 };
        names = code-names (view.code c) (each (λ i. AllByRecursion NameInRange (names_of_insn i)) view.insn c.insns.now f.1.1.1.0)
            (each (λ t. AllByRecursion (λ c. AreUnits c.ty) t.catches) view.try c.tries.now f.1.1.1.1.0);
      })

  abbrev member : Known (Member.the_row a)
  member = told (declared_known (Member.the_type a) (str a & desc a & uint_known w32 & tt)) (λ m. FieldFits (view.member m)) (λ m f. record { flags = f.1.1.0; name = f.0; ty = f.1.0 })

  abbrev body : Known (ShrRef a.mir a.lft (Code.the_row a))
  body = shr_known (Code.the_row a) code a.mir a.lft

  abbrev method : Known (Method.the_row a)
  method = told (declared_known (Method.the_type a) (str a & proto a & uint_known w32 & if_any _ body & tt)) (λ m. MethodFits (view.method m))
      (λ m f. record { flags = f.1.1.0; name = f.0; proto = f.1.0; code = if_told _ body CodeFits (λ c. view.code c.now) (λ c h. h) m.code f.1.1.1.0 })

  abbrev each_desc : Known (Desc.the_row a)
  each_desc = declared (Desc.the_type a) (desc a)

  abbrev each_str : Known (Str.the_row a)
  each_str = declared (Str.the_type a) (str a)

  abbrev members : Known (ShrSlice a.mir a.lft (Member.the_row a))
  members = shr_slice_known (Member.the_row a) member a.mir a.lft

  abbrev methods : Known (ShrSlice a.mir a.lft (Method.the_row a))
  methods = shr_slice_known (Method.the_row a) method a.mir a.lft

  abbrev parts : Known (Class.the_row a)
  parts = declared_known (Class.the_type a) (desc a & uint_known w32 & if_any _ each_desc & descs a & if_any _ each_str & members & shr_slice_known (Value.the_row a) (each_value a) a.mir a.lft & members & methods & methods & tt)

  class_told : (c : Class) → parts.Fact c → ClassInRange (view.class c)
  class_told c f = class-whole (view.class c) (record {
    class = f.0;
    flags = f.1.0;
    superclass = if_told _ each_desc AreUnits view.desc (λ d h. h) c.superclass f.1.1.0;
    interfaces = each AreUnits view.desc c.interfaces.now f.1.1.1.0;
    source = if_told _ each_str AreUnits view.str (λ s h. h) c.source f.1.1.1.1.0;
    statics = each FieldFits view.member c.statics.now f.1.1.1.1.1.0;
    values = each ValueFits view.value c.values.now f.1.1.1.1.1.1.0;
    instances = each FieldFits view.member c.instances.now f.1.1.1.1.1.1.1.0;
    directs = each MethodFits view.method c.directs.now f.1.1.1.1.1.1.1.1.0;
    virtuals = each MethodFits view.method c.virtuals.now f.1.1.1.1.1.1.1.1.1.0;
  })

  pub class_owned : (c : Class) (vs : List Val) → Says ((Class.the_row a).own_val c vs) (ClassInRange (view.class c))
  class_owned c vs = Says-map _ (class_told c) (parts.owned c vs)

  pub class_shared : (c : Class) (b at : ℕ) (κ : Lft) → Says ((Class.the_row a).shr_at c b at κ) (ClassInRange (view.class c))
  class_shared c b at κ = Says-map _ (class_told c) (parts.shared c b at κ)

  -- of every class
  abbrev pub class : Known (Class.the_row a)
  class = record { Fact = λ c. ClassInRange (view.class c); owned = class_owned; shared = class_shared }

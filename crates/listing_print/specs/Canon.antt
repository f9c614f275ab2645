-- The canonical listing of a program: what is printed.
-- Page: docs/LISTING.md, "The lines".
use Rattle.std.specs.Prelude.{ℕ, ◌+◌, ◌==◌, Bool, if◌then◌else◌, List, [], ◌∷◌, ◌++◌, map, Option, Some, None, codes}
use Rattle.std.specs.List.{flat_map, list_any}
use Rattle.program_types.specs.Formed.{insn_leads}
use Rattle.listing_lines.specs.declared.form.Form.{Form}
use Rattle.listing_lines.specs.declared.form.Form.TheVariants.{One, Two}
use Rattle.program_types.specs.Content.{Units, Descriptor, Value, Insn, Catch, Try, Code, Member, Method, Class, Program}
use Rattle.listing_lines.specs.Lines.{open_class, end_class, super_line, implements_line, source_line, static_line, instance_line, direct_line, virtual_line, open_code, end_code, try_line, catch_line, catch_all_line}
use Rattle.listing_print.specs.Printed.{keyed_text, keyed_text_in, insn_text, label_text}

-- ---- which instructions are named

-- The handler of all else, if there is one.
abbrev pub all_numbers : Option ℕ → List ℕ
all_numbers None = []
all_numbers (Some k) = k ∷ []

-- What a try covers, and its handlers.
abbrev pub try_numbers : Try → List ℕ
try_numbers t = t.from ∷ t.to ∷ (map (λ (c : Catch). c.at) t.catches ++ all_numbers t.catch_all)

-- All instructions that a code names.
abbrev pub code_numbers : Code → List ℕ
code_numbers c = flat_map insn_leads c.insns ++ flat_map try_numbers c.tries

-- The code names instruction k.
abbrev pub is_named : List ℕ → ℕ → Bool
is_named ns k = list_any (λ n. n == k) ns

-- ---- the text

-- The label of instruction k if the code names it, in the second form.
abbrev pub label_if_named : Form → List ℕ → ℕ → List ℕ
label_if_named One ns k = []
label_if_named Two ns k = if is_named ns k then label_text k else []

-- The instructions from number k on, each after its label, and the label after the last, where they are named.
abbrev pub insns_text : Form → List ℕ → ℕ → List Insn → List ℕ
insns_text form ns k [] = label_if_named form ns k
insns_text form ns k (i ∷ is) = label_if_named form ns k ++ (insn_text form k i ++ insns_text form ns (k + 1) is)

-- Catches in their order.
abbrev pub catches_text : Form → List Catch → List ℕ
catches_text form cs = flat_map (λ c. keyed_text_in form (catch_line c.ty c.at)) cs

-- The handler of all else, if there is one.
abbrev pub catch_all_text : Form → Option ℕ → List ℕ
catch_all_text form None = []
catch_all_text form (Some k) = keyed_text_in form (catch_all_line k)

-- A try, then its catches.
abbrev pub try_text : Form → Try → List ℕ
try_text form t = keyed_text_in form (try_line t.from t.to) ++ (catches_text form t.catches ++ catch_all_text form t.catch_all)

-- A code block: its instructions, then its tries.
abbrev pub code_text : Form → Code → List ℕ
code_text form c = keyed_text (open_code c.registers c.ins c.outs) ++ (insns_text form (code_numbers c) 0 c.insns ++ (flat_map (try_text form) c.tries ++ keyed_text end_code))

-- The code of a method, if it has one.
abbrev pub body_text : Form → Option Code → List ℕ
body_text form None = []
body_text form (Some c) = code_text form c

-- A method and its code.
abbrev pub direct_text : Form → Method → List ℕ
direct_text form m = keyed_text (direct_line m) ++ body_text form m.code

-- A virtual method and its code.
abbrev pub virtual_text : Form → Method → List ℕ
virtual_text form m = keyed_text (virtual_line m) ++ body_text form m.code

-- Static fields: the first of them have the values.
abbrev pub statics_text : List Member → List Value → List ℕ
statics_text [] vs = []
statics_text (m ∷ ms) [] = keyed_text (static_line m None) ++ statics_text ms []
statics_text (m ∷ ms) (v ∷ vs) = keyed_text (static_line m (Some v)) ++ statics_text ms vs

-- The superclass, if there is one.
abbrev pub super_text : Option Descriptor → List ℕ
super_text None = []
super_text (Some d) = keyed_text (super_line d)

-- The source file, if there is one.
abbrev pub source_text : Option Units → List ℕ
source_text None = []
source_text (Some us) = keyed_text (source_line us)

-- The first line of a class, its superclass, its interfaces in their order, its source file.
abbrev pub heads_text : Class → List ℕ
heads_text c = keyed_text (open_class c.ty c.flags) ++ (super_text c.superclass ++ (flat_map (λ d. keyed_text (implements_line d)) c.interfaces ++ source_text c.source))

-- Static fields, then instance fields, each in order.
abbrev pub fields_text : Class → List ℕ
fields_text c = statics_text c.statics c.values ++ flat_map (λ m. keyed_text (instance_line m)) c.instances

-- Direct methods, then virtual methods, each in order.
abbrev pub methods_text : Form → Class → List ℕ
methods_text form c = flat_map (direct_text form) c.directs ++ flat_map (virtual_text form) c.virtuals

-- A class.
abbrev pub class_text : Form → Class → List ℕ
class_text form c = heads_text c ++ (fields_text c ++ (methods_text form c ++ keyed_text end_class))

-- The first line.
abbrev pub first_text : Form → List ℕ
first_text One = codes "dex 035\n"
first_text Two = codes "dex 035 listing 2\n"

-- The whole text in a form.
abbrev pub text_in : Form → Program → List ℕ
text_in form p = first_text form ++ flat_map (class_text form) p

-- The canonical text, of the second form.
abbrev pub canon : Program → List ℕ
canon p = text_in Two p

-- The canonical text of the first form.
abbrev pub canon_1 : Program → List ℕ
canon_1 p = text_in One p

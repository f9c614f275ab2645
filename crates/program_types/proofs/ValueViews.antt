-- What a value says, an equation a variant.
use Rattle.std.proofs.Common.{◌≡◌, ◌∙◌, ap, sym, ℕ, ℤ, Bool, List, map, Bor}
use Rattle.program_types.specs.Content as content
use Rattle.program_types.specs.View.{str, desc, field_ref, method_ref, value, value_step}
use Rattle.program_types.specs.declared.names.Str.{Str}
use Rattle.program_types.specs.declared.names.Desc.{Desc}
use Rattle.program_types.specs.declared.names.FieldRef.{FieldRef}
use Rattle.program_types.specs.declared.names.MethodRef.{MethodRef}
use Rattle.program_types.specs.declared.value.Value.{Value}
use Rattle.program_types.specs.declared.value.Value.TheVariants as made
use Rattle.program_types.specs.declared.value.Value.TheOpen as layer
use Rattle.program_types.specs.declared.value.Value.TheFolds.{fold-roll-Value}

pub value_byte : (n : ℤ) → value (made.Byte n) ≡ content.Byte n
value_byte n = ap value (sym (made.rolls-Byte n)) ∙ fold-roll-Value content.Value value_step (layer.Byte n)

pub value_short : (n : ℤ) → value (made.Short n) ≡ content.Short n
value_short n = ap value (sym (made.rolls-Short n)) ∙ fold-roll-Value content.Value value_step (layer.Short n)

pub value_char : (unit : ℕ) → value (made.Char unit) ≡ content.Char unit
value_char unit = ap value (sym (made.rolls-Char unit)) ∙ fold-roll-Value content.Value value_step (layer.Char unit)

pub value_int : (n : ℤ) → value (made.Int n) ≡ content.Int n
value_int n = ap value (sym (made.rolls-Int n)) ∙ fold-roll-Value content.Value value_step (layer.Int n)

pub value_long : (n : ℤ) → value (made.Long n) ≡ content.Long n
value_long n = ap value (sym (made.rolls-Long n)) ∙ fold-roll-Value content.Value value_step (layer.Long n)

pub value_float : (bits : ℕ) → value (made.Float bits) ≡ content.Float bits
value_float bits = ap value (sym (made.rolls-Float bits)) ∙ fold-roll-Value content.Value value_step (layer.Float bits)

pub value_double : (bits : ℕ) → value (made.Double bits) ≡ content.Double bits
value_double bits = ap value (sym (made.rolls-Double bits)) ∙ fold-roll-Value content.Value value_step (layer.Double bits)

pub value_text : (s : Str) → value (made.Text s) ≡ content.Named (content.OfText (str s))
value_text s = ap value (sym (made.rolls-Text s)) ∙ fold-roll-Value content.Value value_step (layer.Text s)

pub value_desc : (d : Desc) → value (made.Desc d) ≡ content.Named (content.OfDesc (desc d))
value_desc d = ap value (sym (made.rolls-Desc d)) ∙ fold-roll-Value content.Value value_step (layer.Desc d)

pub value_field : (f : Bor FieldRef) → value (made.Field f) ≡ content.Named (content.OfField (field_ref f.now))
value_field f = ap value (sym (made.rolls-Field f)) ∙ fold-roll-Value content.Value value_step (layer.Field f)

pub value_method : (m : Bor MethodRef) → value (made.Method m) ≡ content.Named (content.OfMethod (method_ref m.now))
value_method m = ap value (sym (made.rolls-Method m)) ∙ fold-roll-Value content.Value value_step (layer.Method m)

pub value_enum : (f : Bor FieldRef) → value (made.Enum f) ≡ content.Enum (field_ref f.now)
value_enum f = ap value (sym (made.rolls-Enum f)) ∙ fold-roll-Value content.Value value_step (layer.Enum f)

pub value_array : (vs : Bor (List Value)) → value (made.Array vs) ≡ content.Array (content.values (map value vs.now))
value_array vs = ap value (sym (made.rolls-Array vs)) ∙ fold-roll-Value content.Value value_step (layer.Array vs)

pub value_null : value made.Null ≡ content.Null
value_null = ap value (sym made.rolls-Null) ∙ fold-roll-Value content.Value value_step layer.Null

pub value_bool : (b : Bool) → value (made.Bool b) ≡ content.Boolean b
value_bool b = ap value (sym (made.rolls-Bool b)) ∙ fold-roll-Value content.Value value_step (layer.Bool b)

-- All of them.
pub ruleset value_views = (value_byte, value_short, value_char, value_int, value_long, value_float, value_double, value_text, value_desc, value_field, value_method, value_enum, value_array, value_null, value_bool)

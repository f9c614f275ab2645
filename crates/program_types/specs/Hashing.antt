-- What names feed a hasher. A string: its length, its units four at a time, and those that are left.
use Rattle.std.specs.Prelude.{◌≡◌, ℕ, suc, zero, ◌+◌, ◌-◌, ◌*◌, ◌/◌, List, [], ◌++◌, length, drop, slice_index, IsTrue, nat_eq, nat_lt, if◌then◌else◌}
use Rattle.std.specs.List.{flat_map}
use Rattle.std.specs.Hash as fed
use Rattle.std.specs.Hash.{Alike, items_Alike, and-Alike, on_Alike}
use Rattle.std.specs.Cmp.Lexicographic.{pointwise, same_text}
use Rattle.std.proofs.Common.{sym, ap}
use Rattle.program_types.specs.declared.names.Str.{Str}
use Rattle.program_types.specs.declared.names.Desc.{Desc}
use Rattle.program_types.specs.declared.names.FieldRef.{FieldRef}
use Rattle.program_types.specs.declared.names.MethodRef.{MethodRef}
use Rattle.program_types.specs.Equality.{same_type, same_field, same_method}

-- the four units from a place on as one number, the first in the lowest bits
abbrev pub packed_word : List ℕ → ℕ → ℕ
packed_word us at =
    slice_index us at + slice_index us (at + 1) * 65536 + slice_index us (at + 2) * 4294967296 + slice_index us (at + 3) * 281474976710656

-- so many of these numbers
abbrev pub words : List ℕ → ℕ → List (List ℕ)
words us zero = []
words us (suc k) = words us k ++ fed.u64 (packed_word us (4 * k))

-- all that is fed
abbrev pub units_input : List ℕ → List (List ℕ)
units_input us = fed.usize (length us) ++ words us (length us / 4) ++ flat_map fed.u16 (drop (length us / 4 * 4) us)

-- all that is fed of a string in memory
abbrev pub str_input : Str → List (List ℕ)
str_input s = units_input s.units.now

-- A type that is a part of a field or a method: all of it, and of a very long one its length and the four units at its half, at three
-- quarters and at its end.
abbrev pub part_input : List ℕ → List (List ℕ)
part_input us =
    if nat_lt (length us) 1024
    then units_input us
    else (fed.usize (length us) ++ fed.u64 (packed_word us (length us / 2)) ++ fed.u64 (packed_word us (length us - length us / 4)) ++ fed.u64 (packed_word us (length us - 4)))

-- a field: its class, its name and its type
abbrev pub field_input : FieldRef → List (List ℕ)
field_input f = part_input f.class.text.units.now ++ (str_input f.name ++ part_input f.ty.text.units.now)

-- a method: its class, its name, its return type, and how many parameters it has and which
abbrev pub method_input : MethodRef → List (List ℕ)
method_input m =
    part_input m.class.text.units.now
    ++ (str_input m.name ++ (part_input m.proto.now.ret.text.units.now ++ fed.slice (λ (d : Desc). part_input d.text.units.now) m.proto.now.params.now))

-- equal strings feed the same
pub str_respects : (x y : Str) → IsTrue (pointwise nat_eq x.units.now y.units.now) → str_input x ≡ str_input y
str_respects x y same = ap units_input (same_text x.units.now y.units.now (sym same))

-- equal types feed the same words to the hasher
part_alike : Alike same_type (λ d. part_input d.text.units.now)
part_alike = record { fed = λ d e same. ap part_input (same_text d.text.units.now e.text.units.now (sym same)) }

str_alike : Alike (λ (s t : Str). pointwise nat_eq s.units.now t.units.now) str_input
str_alike = record { fed = str_respects }

parts_alike : Alike (pointwise same_type) (fed.slice (λ (d : Desc). part_input d.text.units.now))
parts_alike = items_Alike part_alike

field_alike : Alike same_field field_input
field_alike = and-Alike (on_Alike (λ (x : FieldRef). x.class) part_alike) (and-Alike (on_Alike (λ (x : FieldRef). x.name) str_alike) (on_Alike (λ (x : FieldRef). x.ty) part_alike))

-- equal fields feed the same
pub field_respects : (x y : FieldRef) → IsTrue (same_field x y) → field_input x ≡ field_input y
field_respects = field_alike.fed

method_alike : Alike same_method method_input
method_alike = and-Alike (on_Alike (λ (x : MethodRef). x.class) part_alike) (and-Alike (on_Alike (λ (x : MethodRef). x.name) str_alike) (and-Alike (on_Alike (λ (x : MethodRef). x.proto.now.ret) part_alike) (on_Alike (λ (x : MethodRef). x.proto.now.params.now) parts_alike)))

-- equal methods feed the same
pub method_respects : (x y : MethodRef) → IsTrue (same_method x y) → method_input x ≡ method_input y
method_respects = method_alike.fed

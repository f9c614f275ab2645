-- What a reader of classes has read, one class more, and what comes after the last.
use Rattle.std.proofs.Common.{◌≡◌, ℕ, ◌+◌, ◌<◌, ◌≤◌, inl, inr, List, ◌∷◌, [], ◌++◌, Option, Some, None, subst, arith, below_more}
use Rattle.std.specs.Prelude.{IfSome, IfNone}
use Rattle.std.specs.Option.{option_or}
use Rattle.dex_base.specs.declared.fault.Fault.{Fault}
use Rattle.dex_container.specs.Layout.{size_of}
use Rattle.program_types.specs.Content.{Class}
use Rattle.tables_rows.specs.Sorted.{RowsHold}
use Rattle.tables_rows.proofs.RowReading.{first_more}
use Rattle.file_classes.specs.ClassFaults.{BodiesBreak, BodiesHold, RowRegistersBreak, RowRegistersHold}
use Rattle.file_classes.specs.inner.ClassFaults.{IsFirstClass}
use Rattle.file_classes.specs.inner.Reading.{SpellsBodies}
use Rattle.file_classes.proofs.MethodLaws.{RowsUpTo, rows_turn, bodies_hold, all_spelled}
use Rattle.file_classes.proofs.StaticsLaws.{first_class}
use Rattle.file_read.specs.Means.{Means}
use Rattle.file_read.specs.Refused.{IsRefused}
use Rattle.file_read.specs.inner.ByClass.{IsReader, HasRead}
use Rattle.file_read.specs.declared.class_reader.ClassReader.{ClassReader}
use Rattle.file_read.proofs.PassLaws.{last_refused, means_these}

module _ (r : ClassReader) (is : IsReader r) where
  -- a code of its row breaks a rule
  pub row_refused : (e : Fault) → r.row < size_of r.sections 5 → BodiesBreak r.sections r.row e → IsRefused r.sections e
  row_refused e lt breaks =
      last_refused r.sections e is.framed is.tables is.classes is.values (inl (first_class BodiesBreak BodiesHold r.sections r.row e lt is.bodies breaks))

  -- a class more
  module _ (c : Class) (spells : SpellsBodies r.sections r.row c) where
    pub read_more : (past : Option Fault) (cs : List Class) → HasRead r cs → HasRead (record r { row = r.row + 1; past = past }) (cs ++ c ∷ [])
    read_more past cs read = first_more SpellsBodies BodiesHold r.sections r.row cs c read spells (bodies_hold r.sections r.row c spells)

    pub reader_more : (next past : Option Fault) → r.row < size_of r.sections 5 → past ≡ option_or r.past next
        → IfNone next (RowRegistersHold r.sections r.row) → IfSome next (RowRegistersBreak r.sections r.row) → IsReader (record r { row = r.row + 1; past = past })
    reader_more next past lt first hold breaks =
        let turned : RowsUpTo r.sections (r.row + 1) past = rows_turn r.sections r.row r.past next past first lt (record { none = is.hold; some = is.past }) hold breaks in
        record {
          framed = is.framed;
          tables = is.tables;
          names = is.names;
          classes = is.classes;
          heads = is.heads;
          values = is.values;
          statics = is.statics;
          within = omega (arith, lt);
          bodies = below_more _ _ is.bodies (bodies_hold r.sections r.row c spells);
          hold = turned.none;
          past = turned.some;
        }

  -- after the last row
  module _ (over : size_of r.sections 5 ≤ r.row) where
    all : r.row ≡ size_of r.sections 5
    all = omega (arith, over, is.within)

    pub whole_means : (cs : List Class) → r.past ≡ None → HasRead r cs → Means r.sections cs
    whole_means cs none read =
        means_these r.sections cs is.framed is.tables is.classes
        (all_spelled r.sections is.framed r.row cs all read (subst (λ (o : Option Fault). IfNone o (RowsHold RowRegistersHold r.sections r.row)) none is.hold))

    pub registers_refused : (e : Fault) → r.past ≡ Some e → IsRefused r.sections e
    registers_refused e some =
        last_refused r.sections e is.framed is.tables is.classes is.values (inr (
          subst (λ (n : ℕ). RowsHold BodiesHold r.sections n) all is.bodies,
          subst (λ (o : Option Fault). IfSome o (IsFirstClass RowRegistersBreak RowRegistersHold r.sections)) some is.past,
        ))

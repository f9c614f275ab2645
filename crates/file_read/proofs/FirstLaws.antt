-- A file with a fault has it in one group, and no earlier group has one.
use Rattle.std.proofs.Common.{◌≡◌, ℕ, ◌+◌, ◌<◌, inl, inr, List, refl, subst, arith}
use Rattle.std.proofs.lemmas.Bool.{cases_lt}
use Rattle.dex_base.specs.declared.fault.Fault.{Fault}
use Rattle.dex_container.specs.Frame.{IsFramed}
use Rattle.dex_container.specs.Layout.{size_of}
use Rattle.dex_container.proofs.Framed.{framed_clear}
use Rattle.tables_rows.specs.Sorted.{RowsHold, AllRows}
use Rattle.tables_rows.specs.TableFaults.{StringHolds, TypeHolds, ProtoHolds, FieldHolds, MethodHolds}
use Rattle.tables_rows.proofs.ClearRows.{string_clear, type_clear, proto_clear, field_clear, method_clear}
use Rattle.file_classes.specs.ClassFaults.{ValuesHold, BodiesHold, RowRegistersHold}
use Rattle.file_classes.specs.inner.ClassFaults.{ClassRowsHold}
use Rattle.file_classes.proofs.RowFaults.{class_clear}
use Rattle.file_classes.proofs.ClearLaws.{values_clear, bodies_clear, methods_clear}
use Rattle.file_read.specs.inner.Broken.{Broken, GroupBreaks}
use Rattle.file_read.specs.inner.Groups.{turn, IsCheckedBefore, Group, Frame, Strings, Types, Protos, Fields, Methods, Classes, Values, Codes, Registers}
use Rattle.file_read.specs.Means.{Means}
use Rattle.file_read.specs.Refused.{IsRefused}
use Rattle.file_read.proofs.PassLaws.{means_classes, means_values, means_bodies, means_methods}
use Rattle.program_types.specs.Content.{Program}

-- the rules of a group hold
abbrev GroupHolds : Group → List ℕ → Type 0
GroupHolds Frame b = IsFramed b
GroupHolds Strings b = AllRows StringHolds b 0
GroupHolds Types b = AllRows TypeHolds b 1
GroupHolds Protos b = AllRows ProtoHolds b 2
GroupHolds Fields b = AllRows FieldHolds b 3
GroupHolds Methods b = AllRows MethodHolds b 4
GroupHolds Classes b = ClassRowsHold b
GroupHolds Values b = RowsHold ValuesHold b (size_of b 5)
GroupHolds Codes b = RowsHold BodiesHold b (size_of b 5)
GroupHolds Registers b = RowsHold RowRegistersHold b (size_of b 5)

-- where they do, no fault of it stands
clear : (b : List ℕ) (g : Group) (f : Fault) → IsFramed b → GroupHolds g b → GroupBreaks g b f → ⊥
clear b Frame f framed hold x = framed_clear b framed f.code f.place x
clear b Strings f framed hold x = string_clear b x.0 f.code (hold x.0 x.1) x.2.breaks
clear b Types f framed hold x = type_clear b x.0 f.code (hold x.0 x.1) x.2.breaks
clear b Protos f framed hold x = proto_clear b x.0 f.code (hold x.0 x.1) x.2.breaks
clear b Fields f framed hold x = field_clear b x.0 f.code (hold x.0 x.1) x.2.breaks
clear b Methods f framed hold x = method_clear b x.0 f.code (hold x.0 x.1) x.2.breaks
clear b Classes f framed hold x = class_clear b framed x.0 f.code (hold x.0 x.1) x.2.breaks
clear b Values f framed hold x = values_clear b framed x.0 f (hold x.0 x.1) x.2
clear b Codes f framed hold x = bodies_clear b framed x.0 f (hold x.0 x.1) x.2
clear b Registers f framed hold x = methods_clear b framed x.0 f (hold x.0 x.1) x.2

-- ---- the group of a refusal: all before it hold

turn_one : (g h : Group) → turn g ≡ turn h → g ≡ h
turn_one Frame Frame e = refl
turn_one Strings Strings e = refl
turn_one Types Types e = refl
turn_one Protos Protos e = refl
turn_one Fields Fields e = refl
turn_one Methods Methods e = refl
turn_one Classes Classes e = refl
turn_one Values Values e = refl
turn_one Codes Codes e = refl
turn_one Registers Registers e = refl
turn_one g h e = absurd (grind (arith, e))

module _ (b : List ℕ) where
  -- all groups before turn n hold
  abbrev Before : ℕ → Type 0
  Before n = (h : Group) → turn h < n → GroupHolds h b

  before_0 : Before 0
  before_0 h lt = absurd (omega (arith, lt))

  more : (g : Group) → GroupHolds g b → Before (turn g) → Before (turn g + 1)
  more g hold before h lt = elim (cases_lt (turn h) (turn g)) [
    | inl less ↦ before h less
    | inr ge ↦ let same : g ≡ h = turn_one g h (omega (arith, lt, ge)) in subst (λ (x : Group). GroupHolds x b) same hold
  ]

  -- the group, its fault, and what holds before it
  abbrev Found : Fault → Type 0
  Found e = (g : Group) × GroupBreaks g b e × Before (turn g)

  found : (e : Fault) → IsRefused b e → Found e
  found e (inl x) = (Frame, x.stands, before_0)
  found e (inr (h0, inl x)) = (Strings, (x.number, x.within, x.breaks), more Frame h0 before_0)
  found e (inr (h0, inr (h1, inl x))) = (Types, (x.number, x.within, x.breaks), more Strings h1 (more Frame h0 before_0))
  found e (inr (h0, inr (h1, inr (h2, inl x)))) = (Protos, (x.number, x.within, x.breaks), more Types h2 (more Strings h1 (more Frame h0 before_0)))
  found e (inr (h0, inr (h1, inr (h2, inr (h3, inl x))))) = (Fields, (x.number, x.within, x.breaks), more Protos h3 (more Types h2 (more Strings h1 (more Frame h0 before_0))))
  found e (inr (h0, inr (h1, inr (h2, inr (h3, inr (h4, inl x)))))) = (Methods, (x.number, x.within, x.breaks), more Fields h4 (more Protos h3 (more Types h2 (more Strings h1 (more Frame h0 before_0)))))
  found e (inr (h0, inr (h1, inr (h2, inr (h3, inr (h4, inr (h5, inl x))))))) = (Classes, (x.number, x.within, x.breaks), more Methods h5 (more Fields h4 (more Protos h3 (more Types h2 (more Strings h1 (more Frame h0 before_0))))))
  found e (inr (h0, inr (h1, inr (h2, inr (h3, inr (h4, inr (h5, inr (h6, inl x)))))))) = (Values, (x.number, x.within, x.breaks), more Classes h6 (more Methods h5 (more Fields h4 (more Protos h3 (more Types h2 (more Strings h1 (more Frame h0 before_0)))))))
  found e (inr (h0, inr (h1, inr (h2, inr (h3, inr (h4, inr (h5, inr (h6, inr (h7, inl x))))))))) = (Codes, (x.number, x.within, x.breaks), more Values h7 (more Classes h6 (more Methods h5 (more Fields h4 (more Protos h3 (more Types h2 (more Strings h1 (more Frame h0 before_0))))))))
  found e (inr (h0, inr (h1, inr (h2, inr (h3, inr (h4, inr (h5, inr (h6, inr (h7, inr (h8, inl x)))))))))) = (Registers, (x.number, x.within, x.breaks), more Codes h8 (more Values h7 (more Classes h6 (more Methods h5 (more Fields h4 (more Protos h3 (more Types h2 (more Strings h1 (more Frame h0 before_0)))))))))
  found e (inr (h0, inr (h1, inr (h2, inr (h3, inr (h4, inr (h5, inr (h6, inr (h7, inr (h8, inr (h9, none))))))))))) = absurd none

  -- a fault that refuses is there
  pub refused_broken : (e : Fault) → IsRefused b e → Broken b e
  refused_broken e x = let r = found e x in (r.0, r.1)

  pub refused_first : (e : Fault) → IsRefused b e → (g : Group) × GroupBreaks g b e × ((h : Group) (f : Fault) → IsCheckedBefore h g → GroupBreaks h b f → ⊥)
  refused_first e x =
      let r = found e x in
      (r.0, r.1, λ h f before. clear b h f (r.2 Frame (omega (arith, before))) (r.2 h before))

-- a file that means a program has no fault
means_holds : (b : List ℕ) (p : Program) → Means b p → (g : Group) → GroupHolds g b
means_holds b p m Classes = means_classes b p m
means_holds b p m Values = means_values b p m
means_holds b p m Codes = means_bodies b p m
means_holds b p m Registers = means_methods b p m
means_holds b p m g = assumption m

pub means_clear : (b : List ℕ) (p : Program) → Means b p → (f : Fault) → Broken b f → ⊥
means_clear b p m f x = clear b x.0 f m.framed (means_holds b p m x.0) x.1

-- A file is refused with one fault, and none that means a program is.
use Rattle.std.proofs.Common.{◌≡◌, ℕ, inl, inr, List}
use Rattle.dex_base.specs.declared.fault.Fault.{Fault}
use Rattle.dex_base.proofs.FirstFaultLaws.{first_later, none_one}
use Rattle.dex_container.proofs.Framed.{framed_clear}
use Rattle.dex_container.proofs.OneFault.{one_fault}
use Rattle.program_types.specs.Content.{Program}
use Rattle.tables_rows.proofs.OneFault.{table_one, tables_one}
use Rattle.file_classes.specs.ClassFaults.{ClassRowBreaks, ClassRowHolds}
use Rattle.file_classes.proofs.RowFaults.{class_clear, class_number}
use Rattle.file_classes.proofs.ClearLaws.{values_clear, bodies_clear, methods_clear}
use Rattle.file_classes.proofs.OneFault.{values_one_fault, bodies_one_fault, registers_of_row_one_fault}
use Rattle.file_read.specs.Means.{Means}
use Rattle.file_read.specs.Refused.{IsRefused}
use Rattle.file_read.proofs.FirstLaws.{refused_broken, means_clear}

module _ (b : List ℕ) where
  pub one_refusal : (e f : Fault) → IsRefused b e → IsRefused b f → e ≡ f
  one_refusal e f (inl x) (inl y) = one_fault b e f x y
  one_refusal e f (inl x) (inr y) = absurd (framed_clear b y.0 e.code e.place x.stands)
  one_refusal e f (inr x) (inl y) = absurd (framed_clear b x.0 f.code f.place y.stands)
  one_refusal e f (inr x) (inr y) =
      let framed = x.0 in
      tables_one b (
      table_one b ClassRowBreaks ClassRowHolds 5 (class_clear b framed) (class_number b framed) (
      first_later (values_clear b framed) (values_one_fault b framed) (
      first_later (bodies_clear b framed) (bodies_one_fault b framed) (
      first_later (methods_clear b framed) (registers_of_row_one_fault b framed) none_one)))) x.1 y.1

  -- a file that means a program isn't refused
  pub none_meant : (e : Fault) (p : Program) → IsRefused b e → Means b p → ⊥
  none_meant e p x m = means_clear b p m e (refused_broken b e x)

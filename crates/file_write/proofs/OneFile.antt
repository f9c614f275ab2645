-- A program has one file.
use Rattle.std.proofs.Common.{◌≡◌, ℕ, List, sym, ◌∙◌, subst}
use Rattle.std.specs.Prelude.{◌↔◌}
use Rattle.file_read.specs.Means.{Means}
use Rattle.file_read.proofs.PassLaws.{program_one}
use Rattle.file_read.proofs.RangeLaws.{well_formed}
use Rattle.file_put.proofs.FileOnce.{file_one as assembled_one}
use Rattle.program_types.specs.Content.{Program}
use Rattle.file_write.specs.Written.{IsFileOf, IsStripped}
use Rattle.file_write.proofs.Converse.{assembled_of}

pub file_one : (p : Program) (b c : List ℕ) → IsFileOf p b → IsFileOf p c → b ≡ c
file_one p b c x y =
    assembled_one p (well_formed b x.packed.bytes p x.means) b c (assembled_of b p x.means x.tables x.packed) (assembled_of c p y.means y.tables y.packed)

-- two files of one program
pub stripped_same : (a b c d : List ℕ) → (x : IsStripped a c) → (y : IsStripped b d) → x.program ≡ y.program → c ≡ d
stripped_same a b c d x y e = file_one x.program c d x.file (subst (λ (p : Program). IsFileOf p d) (sym e) y.file)

pub stripped_alike : (a b c d : List ℕ) → IsStripped a c → IsStripped b d → (c ≡ d) ↔ ((p : Program) × Means a p × Means b p)
stripped_alike a b c d x y = (
  λ e. (
      let same = program_one d x.program y.program (subst (λ (l : List ℕ). Means l x.program) e x.file.means) y.file.means in
      (x.program, x.meant, subst (λ (p : Program). Means b p) (sym same) y.meant)),
  λ m. stripped_same a b c d x y (program_one a x.program m.0 x.meant m.1 ∙ program_one b m.0 y.program m.2 y.meant),
)

pub stripped_stays : (a b c : List ℕ) → IsStripped a b → IsStripped b c → b ≡ c
stripped_stays a b c x y = stripped_same a b b c x y (program_one b x.program y.program x.file.means y.meant)

-- what is written of a program is read as it
pub written_read : (p q : Program) (b : List ℕ) → IsFileOf p b → Means b q → q ≡ p
written_read p q b x m = program_one b q p m x.means

-- What is assembled is the file of its program.
use Rattle.std.proofs.Common.{◌≡◌, ◌≢◌, ℕ, zero, suc, ◌≤◌, List, ap, arith, inr}
use Rattle.file_put.specs.inner.Assembled.{Assembled}
use Rattle.dex_base.specs.Fault.{memory}
use Rattle.dex_base.specs.Fields.{AreBytes}
use Rattle.dex_base.specs.declared.fault.Fault.{Fault}
use Rattle.file_read.specs.Means.{Means}
use Rattle.file_strip.specs.AtLeast.{HoldsAtLeast}
use Rattle.file_strip.proofs.RowsFrom.{holds_at_least}
use Rattle.file_strip.proofs.VainLaws.{meant, without_file}
use Rattle.file_limits.specs.Limits.{Fits, IsLowestLimit}
use Rattle.file_limits.proofs.LimitLaws.{fits_breaks_none}
use Rattle.tables_names.specs.Closure.{Five}
use Rattle.tables_names.specs.Needed.{needed}
use Rattle.program_types.specs.Content.{Program}
use Rattle.program_rules.specs.WellFormed.{WellFormed}
use Rattle.file_write.proofs.Classes.{means}
use Rattle.file_write.proofs.Converse.{assembled_of}
use Rattle.file_write.proofs.Files.{packed}
use Rattle.file_write.specs.Least.{HoldsExactly}
use Rattle.file_write.specs.Packed.{Packed}
use Rattle.file_write.proofs.TableLaws.{holds_exactly}
use Rattle.file_write.specs.Written.{AreNoLonger, IsFileOf, IsStripRefused, IsStripped}

no_longer : (b c : List ℕ) (s : Five) → HoldsExactly b s → HoldsAtLeast c s → AreNoLonger b c
no_longer b c s e h zero l = omega (arith, e.strings, h.strings)
no_longer b c s e h (suc zero) l = omega (arith, e.types, h.types)
no_longer b c s e h (suc (suc zero)) l = omega (arith, e.protos, h.protos)
no_longer b c s e h (suc (suc (suc zero))) l = omega (arith, e.fields, h.fields)
no_longer b c s e h (suc (suc (suc (suc zero)))) l = omega (arith, e.methods, h.methods)
no_longer b c s e h (suc (suc (suc (suc (suc k))))) l = absurd (omega arith)

-- what means a program, holds exactly its names and is packed is its file
pub packed_file : (b : List ℕ) (p : Program) → Means b p → HoldsExactly b (needed p) → Packed b → IsFileOf p b
packed_file b p meant exactly whole = record {
  means = meant;
  packed = whole;
  tables = exactly;
  least = λ c m. holds_at_least c p m;
  no_longer = λ c m. no_longer b c (needed p) exactly (holds_at_least c p m);
  short = (assembled_of b p meant exactly whole).short;
}

pub file_of : (b : List ℕ) (p : Program) → WellFormed p → Fits p → Assembled b (needed p) p → IsFileOf p b
file_of b p well fits file = packed_file b p (means b p well fits file) (holds_exactly b p well file) (packed b p file well fits)

-- the file of what a file means
pub stripped : (given made : List ℕ) (p : Program) → Means given p → Fits p → IsFileOf p made → IsStripped given made
stripped given made p meant fits file = record { program = p; meant = meant; fits = fits; file = file; no_longer = file.no_longer given meant }

-- a program that fits breaks no limit
pub none_broken : (p : Program) (e : Fault) → Fits p → ¬ IsLowestLimit p e
none_broken p e fits broken = fits_breaks_none p fits e.code e.place broken.breaks

-- a program that is refused with 80 to 88 is meant by no file
pub vain : (p : Program) (e : Fault) → (e ≢ memory → IsLowestLimit p e) → e.code ≤ 88 → (b : List ℕ) → AreBytes b → ¬ Means b p
vain p e broken low = without_file p e (broken (λ is. let code : e.code ≡ 255 = ap (λ f. f.code) is in absurd (omega (arith, code, low)))) low

-- what strip refuses of a program that was read
pub late_limit : (b : List ℕ) (p : Program) → AreBytes b → Means b p → (e : Fault) → (e ≢ memory → IsLowestLimit p e) → e ≢ memory → IsStripRefused b e
late_limit b p are m e broken ne = inr (record { program = p; meant = m; limit = broken ne; late = meant b p e are m (broken ne) })

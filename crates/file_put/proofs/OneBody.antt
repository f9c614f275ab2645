-- One body.
use Rattle.std.proofs.Common.{◌≡◌, ℕ, ◌+◌, ◌<◌, ◌≤◌, false, List, [], length, refl, ap, arith, Option, Some, None}
use Rattle.code_write.proofs.PackedLaws.{packed-length}
use Rattle.code_write.specs.Fits.{wide_code}
use Rattle.code_write.specs.Packs.{PacksCode}
use Rattle.file_layout.specs.Tiles.{gap}
use Rattle.code_read.proofs.CodeLaws.{SpellsCode-unique}
use Rattle.code_write.proofs.RankLaws.{ranks-functional}
use Rattle.code_write.proofs.HandlerOnce.{ranks-injective}
use Rattle.code_write.proofs.CodeOnce.{code_once}
use Rattle.file_limits.specs.Wide.{wide_body}
use Rattle.tables_names.specs.Closure.{Five, AreRising, NameRanks}
use Rattle.program_types.specs.Content.{Name, Code}
use Rattle.file_put.proofs.RankedLists.{gap_four}
use Rattle.file_put.specs.inner.Codes.{PacksBody, WritesBody, is_bodiless}

-- ---- how long a body is

pub packed_room : (N : ℕ → Name → Type 0) (c : Code) (bytes : List ℕ) → PacksCode N bytes c → (0 < length bytes) × (length bytes + 3 ≤ wide_code c)
packed_room N c bytes p = let l = packed-length N c bytes p in (omega (arith, l.0), l.1)

-- ---- one body

pub bodies_packs : (s : Five) (bytes : List ℕ) (v : Option Code) → WritesBody s bytes v → PacksBody (NameRanks s) bytes v
bodies_packs s bytes None p = absurd p
bodies_packs s bytes (Some c) p = p.packs

-- the bytes of a body have one value
pub bodies_one : (s : Five) (bytes : List ℕ) (u v : Option Code) → WritesBody s bytes u → WritesBody s bytes v → u ≡ v
bodies_one s bytes None v p q = absurd p
bodies_one s bytes (Some c) None p q = absurd q
bodies_one s bytes (Some c) (Some d) p q = ap (λ (x : Code). Some x) (SpellsCode-unique (NameRanks s) (ranks-functional s) bytes bytes [] [] c d p.spells q.spells refl).1

pub bodies_most : (s : Five) (v : Option Code) → is_bodiless v ≡ false → (bytes : List ℕ) (at : ℕ) → WritesBody s bytes v → gap 4 at + length bytes ≤ wide_body v
bodies_most s None e bytes at p = absurd p
bodies_most s (Some c) e bytes at p =
    let r = (packed_room (NameRanks s) c bytes p.packs).1 in
    let g = gap_four at in
    omega (arith, r, g)

-- a body has one list of bytes
pub bodies_once : (s : Five) → AreRising s → (a b : List ℕ) (v : Option Code) → WritesBody s a v → WritesBody s b v → a ≡ b
bodies_once s rising a b None p q = absurd p
bodies_once s rising a b (Some c) p q = code_once (NameRanks s) (ranks-injective s rising) c a b p.formed p.are q.are p.packs q.packs

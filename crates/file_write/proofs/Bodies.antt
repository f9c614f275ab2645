-- Bodies that are laid stand at their places.
use Rattle.std.proofs.Common.{◌≡◌, ℕ, zero, suc, ◌+◌, List, [], ◌∷◌, refl, subst, arith, Option, Some, None}
use Rattle.std.specs.List.{AllZip}
use Rattle.file_classes.specs.ClassData.{MethodEntry}
use Rattle.file_classes.specs.Classes.{CodeAt, CodesAre, SomeCodeStands}
use Rattle.file_classes.proofs.StaticsLaws.{at_none, at_other}
use Rattle.code_read.specs.Code.{SpellsCode, CodeStands}
use Rattle.code_read.proofs.CarryLaws.{SpellsCode-weaker}
use Rattle.code_write.proofs.PackedLaws.{packed-spells}
use Rattle.file_layout.specs.declared.plan.Part.{Part}
use Rattle.file_layout.specs.inner.Parts.{HasPart}
use Rattle.file_layout.specs.Tiles.{Among, gap}
use Rattle.file_layout.specs.inner.Tiles.{Lays, Refers}
use Rattle.file_layout.proofs.StandLaws.{at_item, even_four}
use Rattle.file_limits.specs.Wide.{bodies_in}
use Rattle.tables_names.specs.Closure.{Five, NameRanks}
use Rattle.program_types.specs.Content.{Name, Code, Method}
use Rattle.file_put.specs.inner.Codes.{PacksBody, is_bodiless}
use Rattle.file_put.specs.Data.{code_offs}
use Rattle.file_put.specs.inner.Named.{BodyCanBePut}
use Rattle.tables_rows.specs.Stands.{NameStands}

-- the bytes are a code_item of the body, if there is one
abbrev pub SpellsBody : (ℕ → Name → Type 0) → List ℕ → Option Code → Type 0
SpellsBody N bytes None = ⊥
SpellsBody N bytes (Some c) = SpellsCode N bytes c

body_spelled : (s : Five) (M : ℕ → Name → Type 0) → ((i : ℕ) (which : Name) → NameRanks s i which → M i which) → (o : Option Code) → BodyCanBePut s o → (bytes : List ℕ) → PacksBody (NameRanks s) bytes o → SpellsBody M bytes o
body_spelled s M f None k bytes p = p
body_spelled s M f (Some c) k bytes p = SpellsCode-weaker (NameRanks s) M f bytes c (packed-spells (NameRanks s) c k.formed k.fits k.ranked.short bytes p)

module _ (b : List ℕ) (s : Five) (stand : (i : ℕ) (which : Name) → NameRanks s i which → NameStands b i which) (part : Part) (begin : ℕ) (first : part.begin ≡ begin + gap 4 begin) (vs : List (Option Code)) (places : List ℕ)
    (has : HasPart b 0x2001 part) (l : Lays is_bodiless (PacksBody (NameRanks s)) 4 begin part.end b vs places part.items) where
  code_stands : (place : ℕ) (c : Code) → BodyCanBePut s (Some c) → Among l.items place (Some c) → CodeStands (NameStands b) b place c
  code_stands place c k among =
      let a = at_item is_bodiless (PacksBody (NameRanks s)) (SpellsBody (NameStands b)) 4 b 0x2001 part.begin begin part.end vs places part.items place (Some c) l has.stands (omega (arith, first)) even_four
      (body_spelled s (NameStands b) stand (Some c) k) among in
      record { begin = a.begin; end = a.end; section = a.section; after = a.after; aligned = a.aligned; size = a.size; within = a.within; spelled = a.spelled }

  -- a place that refers to a body has it
  pub body_at : (place : ℕ) (o : Option Code) → BodyCanBePut s o → Refers is_bodiless l.items place o → CodeAt b place o
  body_at place None k r = at_none place (◌≡◌ {A = Option Code} None None) (SomeCodeStands b place None) r refl
  body_at place (Some c) k r =
      let some = r.0 in
      at_other place (◌≡◌ {A = Option Code} (Some c) None) (SomeCodeStands b place (Some c)) (λ z. omega (arith, z, some)) (record { some = c; is = refl; stands = code_stands place c k r.1 })

-- Methods whose entries have the places of their bodies have these bodies.
pub codes_are : (b : List ℕ) (es : List MethodEntry) (ms : List Method) → AllZip (CodeAt b) (code_offs es) (bodies_in ms) → CodesAre b es ms
codes_are b [] ms z k e m p q = absurd (cc p)
codes_are b (x ∷ es) [] z k e m p q = absurd (cc q)
codes_are b (x ∷ es) (y ∷ ms) z zero e m p q =
    let f : x ≡ e = cc p in
    let g : y ≡ m = cc q in
    subst (λ (n : MethodEntry). CodeAt b n.1.1 m.code) f (subst (λ (n : Method). CodeAt b x.1.1 n.code) g z.0)
codes_are b (x ∷ es) (y ∷ ms) z (suc k) e m p q = codes_are b es ms z.1 k e m p q

-- What a file that is ready has room for, and which limits its program breaks.
use Rattle.std.proofs.Common.{◌≡◌, ℕ, suc, ◌+◌, ◌≤◌, ◌<◌, Bool, List, [], ◌∷◌, length, refl, sym, subst, arith, slice_get, Some, inl, inr}
use Rattle.std.specs.Prelude.{slice_index}
use Rattle.std.specs.List.{AllByRecursion}
use Rattle.std.proofs.lemmas.Bool.{cases_lt}
use Rattle.dex_base.specs.Fields.{AreBytes}
use Rattle.dex_base.specs.declared.fault.Fault.{Fault}
use Rattle.code_write.specs.Fits.{CodeBreaksLimit, FitsCode, HandlerTooFar}
use Rattle.dex_insn.specs.declared.opcode.IndexKind.TheVariants as kind
use Rattle.file_put.specs.inner.Assembled.{rows_of}
use Rattle.file_put.proofs.FitsLaws.{all_parts, after_tables, HasRoom, Room, room_by_parts}
use Rattle.file_put.proofs.DataParts.{next}
use Rattle.file_strip.specs.inner.Keeping.{Keeps}
use Rattle.file_read.proofs.RangeLaws.{well_formed}
use Rattle.file_layout.specs.inner.Plan.{tables_end}
use Rattle.file_layout.specs.Sections.{wide_all}
use Rattle.file_layout.specs.inner.Sections.{Laid}
use Rattle.file_layout.specs.declared.plan.Rows.{Rows}
use Rattle.file_strip.specs.inner.AtLeast.{FitsButHandlers}
use Rattle.file_strip.proofs.RowsFrom.{holds_at_least, no_further}
use Rattle.file_strip.proofs.VainLaws.{class_fits, only_late}
use Rattle.file_limits.specs.Limits as limits
use Rattle.file_limits.specs.Limits.{BodyBreaks, ClassBreaksLimit, Fits, IsFirstToBreak, IsLowestLimit, LimitBreaks, TooBig, TooManyProtos, TooManyTypes, codes_of}
use Rattle.file_limits.specs.Wide.{wide}
use Rattle.file_read.specs.Means.{Means}
use Rattle.file_strip.specs.inner.Ready.{IsReady}
use Rattle.program_types.specs.Content.{Code, Name, Program}
use Rattle.tables_names.specs.Closure.{NameRanks}
use Rattle.tables_names.specs.Needed.{needed}
use Rattle.file_renumber.specs.inner.Marked.{Columns, Marked, AreMarks}
use Rattle.file_renumber.specs.inner.Numbers.{AreRowNumbers}

-- ---- what is ready

pub keeps_of : (b : List ℕ) (marks : Marked) (numbers : Columns) (p : Program) → Means b p → AreMarks b marks (needed p) → AreRowNumbers marks.columns numbers → Keeps b numbers p
keeps_of b marks numbers p m marked numbered = record { tables = m.tables; classes = m.classes; marks = marks; marked = marked; numbered = numbered }

pub ready_of : (b : List ℕ) (numbers : Columns) (p : Program) → AreBytes b → Means b p → Keeps b numbers p → wide p ≤ 4294967295 → IsReady b numbers p
ready_of b numbers p are m keeps small = record {
  keeps = keeps;
  formed = well_formed b are p m;
  few_types = let l = (holds_at_least b p m).types in let few = m.framed.sections.types in omega (arith, l, few);
  few_protos = let l = (holds_at_least b p m).protos in let few = m.framed.sections.protos in omega (arith, l, few);
  small = small;
}

-- ---- room

module _ (b : List ℕ) (numbers : Columns) (p : Program) (r : IsReady b numbers p) where
  pub room : Room (needed p) p
  room = room_by_parts p r.small r.few_types r.few_protos

-- So many bytes stand for a program that is ready, and there is room after them for so many more.
pub record Stands (b : List ℕ) (numbers : Columns) (n : ℕ) (more : Program → ℕ) : Type 0 where
  pub program : Program
  pub ready : IsReady b numbers program
  pub room : HasRoom n (more program)

-- header and tables stand
pub first : {b : List ℕ} {numbers : Columns} {rows : Rows} {n : ℕ} → ((p : Program) × IsReady b numbers p) → ((p : Program) → IsReady b numbers p → rows ≡ rows_of (needed p) p) → n ≡ tables_end rows
    → Stands b numbers n (λ p. all_parts (needed p) p)
first {b = b} {numbers = numbers} {rows = rows} {n = n} r counts front = record { program = r.0; ready = r.1; room = after_tables (needed r.0) r.0 rows n (room b numbers r.0 r.1) (counts r.0 r.1) front }

-- one part more is laid
pub and_laid : {V : Type 0} {none : V → Bool} {align : ℕ} {wide : V → ℕ} {b o o1 places : List ℕ} {numbers : Columns} {count : ℕ} {G : Program → List ℕ → V → Type 0} {vs : Program → List V} {more : Program → ℕ}
    → Stands b numbers (length o) (λ p. wide_all wide (vs p) + more p) → ((p : Program) → Keeps b numbers p → Laid none (G p) align wide o o1 (vs p) places count) → Stands b numbers (length o1) more
and_laid s laid = record { program = s.program; ready = s.ready; room = next s.room (laid s.program s.ready.keeps) }

-- ---- limits

-- a code that fits its fields, and breaks no limit of handlers, fits
fits_near : (N : ℕ → Name → Type 0) (c : Code) → FitsButHandlers N c → (¬ CodeBreaksLimit N c 89) → FitsCode N c
fits_near N c fits near = record {
  strings = fits.names kind.String;
  fields = fits.names kind.Field;
  methods = fits.names kind.Method;
  offsets = fits.offsets;
  even = fits.even;
  tries = fits.tries;
  few = fits.few;
  handlers = λ short list offs laid i lt. elim (cases_lt (slice_index offs i) 65536) [
    | inl less ↦ less
    | inr most ↦ absurd (near (HandlerTooFar short (record { list = list; offs = offs; laid = laid; index = i; inside = lt; far = omega (arith, most) })))
  ];
}

all_near : (N : ℕ → Name → Type 0) (cs : List Code) → AllByRecursion (FitsButHandlers N) cs → ((k : ℕ) (c : Code) → slice_get cs k ≡ Some c → ¬ CodeBreaksLimit N c 89) → AllByRecursion (FitsCode N) cs
all_near N [] fits near = tt
all_near N (c ∷ cs) fits near = (fits_near N c fits.0 (near 0 c refl), all_near N cs fits.1 (λ k d at. near (suc k) d at))

module _ (b : List ℕ) (p : Program) (are : AreBytes b) (m : Means b p) where
  pub fits_of : ((i : ℕ) → ¬ ClassBreaksLimit (NameRanks (needed p)) 89 p i) → wide p ≤ 4294967295 → Fits p
  fits_of near small = record {
    few_types = let l = (holds_at_least b p m).types in let few = m.framed.sections.types in omega (arith, l, few);
    few_protos = let l = (holds_at_least b p m).protos in let few = m.framed.sections.protos in omega (arith, l, few);
    bodies = λ i c there.
        all_near (NameRanks (needed p)) (codes_of c) (class_fits b are m.framed (needed p) (no_further b p m) i c (m.classes.each i c there))
        (λ k d at breaks. near i (record { class = c; there = there; body = record { index = k; code = d; there = at; breaks = breaks } }));
    small = small;
  }

  -- no limit below 90 stands where the file is too big
  only_big : 4294967295 < wide p → (n place : ℕ) → LimitBreaks p n place → 90 ≤ n
  only_big big n place (TooManyTypes many) = elim (only_late b p are m n place (TooManyTypes many)) [ inl x ↦ absurd (omega (arith, x)) | inr x ↦ absurd (omega (arith, x)) ]
  only_big big n place (TooManyProtos many) = elim (only_late b p are m n place (TooManyProtos many)) [ inl x ↦ absurd (omega (arith, x)) | inr x ↦ absurd (omega (arith, x)) ]
  only_big big n place (BodyBreaks most first) = elim (only_late b p are m n place (BodyBreaks most first)) [ inl x ↦ absurd (omega (arith, x, most)) | inr x ↦ absurd (omega (arith, x, most)) ]
  only_big big n place (limits.HandlerTooFar small first) = absurd (omega (arith, big, small))
  only_big big n place (TooBig more) = omega arith

  pub too_big : 4294967295 < wide p → IsLowestLimit p (record { code = 90; place = 0 })
  too_big big = record { breaks = TooBig big; lowest = only_big big }

  pub too_far : (e : Fault) → wide p ≤ 4294967295 → e.code ≡ 89 → IsFirstToBreak (NameRanks (needed p)) 89 p e.place → IsLowestLimit p e
  too_far e small code first = record {
    breaks = subst (λ n. LimitBreaks p n e.place) (sym code) (limits.HandlerTooFar small first);
    lowest = λ n place broken. elim (only_late b p are m n place broken) [
      | inl x ↦ omega (arith, x, code)
      | inr x ↦ omega (arith, x, code)
    ];
  }

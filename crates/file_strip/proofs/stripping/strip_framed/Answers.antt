use Rattle.std.proofs.Common.{◌≤◌, ℕ, List, subst, sym}
use Rattle.dex_base.specs.Fields.{AreBytes}
use Rattle.dex_base.specs.declared.fault.Fault.{Fault}
use Rattle.program_types.specs.Content.{Program}
use Rattle.file_read.specs.Means.{Means}
use Rattle.file_strip.specs.inner.Keeping.{Keeps}
use Rattle.file_strip.specs.inner.Ready.{IsReady}
use Rattle.file_limits.specs.Limits.{IsLowestLimit}
use Rattle.file_limits.specs.Wide.{wide}
use Rattle.file_limits.proofs.LimitLaws.{small_of}
use Rattle.file_strip.proofs.ReadyLaws.{fits_of, keeps_of, ready_of, too_big, too_far}
use Rattle.file_strip.proofs.stripping.strip_framed.Goals as goal
use Rattle.file_strip.proofs.stripping.strip_framed.Goals.{Else-is_too_big}
use Rattle.dex_base.proofs.ListFacts.{passed}

pub is_too_big-requires : goal.is_too_big-requires
is_too_big-requires c =
    let p = c.requires.means.0 in
    let m = c.requires.means.1 in
    record { kept = (p, keeps_of c.args.sections.now c.in_ok-marks.field-0.marks c.number-numbers.result p m (c.in_ok-marks.ensures.ok p m.classes).marks c.number-numbers.ensures) }

pub returns-then-is_too_big-clause-refused : goal.returns-then-is_too_big-clause-refused
returns-then-is_too_big-clause-refused c = λ ne p m.
    let b = c.args.sections.now in
    let s = c.in_ok-marks.ensures.ok p m.classes in
    let k = keeps_of b c.in_ok-marks.field-0.marks c.number-numbers.result p m s.marks c.number-numbers.ensures in
    let are = subst (λ (x : List ℕ). AreBytes x) c.bytes.ensures.value c.are_bytes.ensures.each in
    subst (λ (e : Fault). IsLowestLimit p e) (sym c.at.ensures) (too_big b p are m ((c.is_too_big.ensures p k s.wide).0 c.if-is_too_big.true))

-- a file that isn't too big
module _ (c : Else-is_too_big) (p : Program) (m : Means c.args.sections.now p) where
  are : AreBytes c.args.sections.now
  are = subst (λ (x : List ℕ). AreBytes x) c.bytes.ensures.value c.are_bytes.ensures.each

  keeps : Keeps c.args.sections.now c.number-numbers.result p
  keeps = keeps_of c.args.sections.now c.in_ok-marks.field-0.marks c.number-numbers.result p m (c.in_ok-marks.ensures.ok p m.classes).marks c.number-numbers.ensures

  small : wide p ≤ 4294967295
  small = small_of c.is_too_big.result (wide p) c.if-is_too_big.false (c.is_too_big.ensures p keeps (c.in_ok-marks.ensures.ok p m.classes).wide).1

  ready : IsReady c.args.sections.now c.number-numbers.result p
  ready = ready_of c.args.sections.now c.number-numbers.result p are m keeps small

pub assemble_kept-requires : goal.assemble_kept-requires
assemble_kept-requires c = record {
  ready = (c.requires.means.0, ready (goal.at.assemble_kept-requires c).Else-is_too_big c.requires.means.0 c.requires.means.1);
  members = rw c.deref.ensures.value c.in_ok-marks.ensures.members;
}

pub returns-in_err-assemble_kept-clause-refused : goal.returns-in_err-assemble_kept-clause-refused
returns-in_err-assemble_kept-clause-refused c =
    passed _ _ _ c.from_residual-in_err-assemble_kept.ensures.1
    (λ ne p m.
    let e = (goal.at.returns-in_err-assemble_kept-clause-refused c).Else-is_too_big in
    let f = c.in_err-assemble_kept.ensures.far ne in
    too_far c.args.sections.now p (are e p m) m _ (small e p m) f.0 (f.1 p (ready e p m)))

pub returns-clause-assembled : goal.returns-clause-assembled
returns-clause-assembled c = λ p m. c.in_ok-assemble_kept.ensures.ok p (ready (goal.at.returns-clause-assembled c).Else-is_too_big p m)

pub returns-clause-fits : goal.returns-clause-fits
returns-clause-fits c = λ p m.
    let e = (goal.at.returns-clause-fits c).Else-is_too_big in
    fits_of c.args.sections.now p (are e p m) m (c.in_ok-assemble_kept.ensures.near p (ready e p m)) (small e p m)

use Rattle.std.proofs.Common.{inl, inr, ◌∙◌}
use Rattle.program_types.specs.View.{desc}
use Rattle.file_classes.specs.inner.Reading.{entries}
use Rattle.file_classes.proofs.EntryFaults.{fields_hold, bares_hold}
use Rattle.file_classes.proofs.members.read_members.Goals as goal
use Rattle.dex_base.proofs.ListFacts.{passed}

pub returns-in_err-statics-clause-err : goal.returns-in_err-statics-clause-err
returns-in_err-statics-clause-err c =
    passed _ _ _ c.from_residual.ensures.1 (λ ne. let f = rw c.deref.ensures.value at (c.in_err-statics.ensures.err ne) in record { breaks = inl f.breaks; there = f.there ∙ c.class_place.ensures })

pub returns-in_err-instances-clause-err : goal.returns-in_err-instances-clause-err
returns-in_err-instances-clause-err c =
    let b = c.args.sections.now in
    let e = entries c.args.entries.now in
    let statics = fields_hold b (desc c.args.class) e.statics _ (rw c.deref.ensures.value at c.in_ok-statics.ensures.ok) in
    passed _ _ _ c.from_residual-in_err-instances.ensures.1 (λ ne. let f = rw c.deref-2.ensures.value at (c.in_err-instances.ensures.err ne) in record { breaks = inr (statics, inl f.breaks); there = f.there ∙ c.class_place.ensures })

pub returns-in_err-directs-clause-err : goal.returns-in_err-directs-clause-err
returns-in_err-directs-clause-err c =
    let b = c.args.sections.now in
    let e = entries c.args.entries.now in
    let statics = fields_hold b (desc c.args.class) e.statics _ (rw c.deref.ensures.value at c.in_ok-statics.ensures.ok) in
    let instances = fields_hold b (desc c.args.class) e.instances _ (rw c.deref-2.ensures.value at c.in_ok-instances.ensures.ok) in
    passed _ _ _ c.from_residual-in_err-directs.ensures.1 (λ ne. let f = rw c.deref-3.ensures.value at (c.in_err-directs.ensures.err ne) in
    record { breaks = inr (statics, inr (instances, inl f.breaks)); there = f.there ∙ c.class_place.ensures })

pub returns-in_err-virtuals-clause-err : goal.returns-in_err-virtuals-clause-err
returns-in_err-virtuals-clause-err c =
    let b = c.args.sections.now in
    let e = entries c.args.entries.now in
    let statics = fields_hold b (desc c.args.class) e.statics _ (rw c.deref.ensures.value at c.in_ok-statics.ensures.ok) in
    let instances = fields_hold b (desc c.args.class) e.instances _ (rw c.deref-2.ensures.value at c.in_ok-instances.ensures.ok) in
    let directs = bares_hold b (desc c.args.class) e.directs _ (rw c.deref-3.ensures.value at c.in_ok-directs.ensures.ok) in
    passed _ _ _ c.from_residual-in_err-virtuals.ensures.1 (λ ne. let f = rw c.deref-4.ensures.value at (c.in_err-virtuals.ensures.err ne) in
    record { breaks = inr (statics, inr (instances, inr (directs, f.breaks))); there = f.there ∙ c.class_place.ensures })

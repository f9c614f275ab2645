use Rattle.std.proofs.Common.{ℕ, ◌≡◌, ◌∷◌, ◌++◌, [], length, refl, subst, arith, get_or}
use Rattle.dex_base.proofs.ListFacts.{passed}
use Rattle.file_classes.specs.ClassFaults.{BodyHolds, BodyFails, CodeHolds, RegistersFail}
use Rattle.file_classes.specs.inner.Reading.{AreDone, CodesUpTo, with_code}
use Rattle.file_classes.proofs.MethodLaws.{no_bare, done_at, bares_break, up_turn}
use Rattle.file_classes.proofs.keeping.Walk.methods.Goals as goal

pub loop-bare-preserved : goal.loop-bare-preserved
loop-bare-preserved g c =
    let bare = get_or c.args.bares.now c.loop-bare.bare-index no_bare in
    let all = c.loop-bare.invariant.done in
    let found = c.in_ok-found.ensures.ok in
    record {
      done = (
        all.0 ++ with_code bare found.some ∷ [],
        done_at c.args.self.now.sections.now c.args.bares.now c.loop-bare.bare-index all.0 bare found.some all.1 c.loop-bare-test.true refl found.body,
        c.in_ok-add.ensures.ok all.0 found.some all.2 found.is,
      );
      past = up_turn c.args.self.now.sections.now c.args.bares.now c.loop-bare.bare-index bare c.loop-bare.past c.in_ok-found.found.past c.or-past.result c.or-past.ensures
          c.loop-bare-test.true refl c.loop-bare.invariant.past found.hold found.past;
      cached = c.in_ok-found.ensures.cached;
    }

pub returns-in_err-found-clause-err : goal.returns-in_err-found-clause-err
returns-in_err-found-clause-err g c =
    passed _ _ _ c.from_residual-in_err-found.ensures.1 (λ ne. bares_break c.args.self.now.sections.now c.args.bares.now BodyHolds BodyFails c.loop-bare.bare-index (get_or c.args.bares.now c.loop-bare.bare-index no_bare) _
    c.loop-bare-test.true refl c.loop-bare.invariant.done.1.hold (c.in_err-found.ensures.err ne))

pub returns-clause-ok : goal.returns-clause-ok
returns-clause-ok g c =
    let all = c.loop-bare.invariant.done in
    let end : c.loop-bare.bare-index ≡ length c.args.bares.now = omega (arith, c.loop-bare.auto.bare-index-end, c.loop-bare-test.false) in
    (all.0, subst (λ (n : ℕ). AreDone c.args.self.now.sections.now c.args.bares.now n all.0) end all.1, all.2)

pub returns-clause-past : goal.returns-clause-past
returns-clause-past g c =
    let end : c.loop-bare.bare-index ≡ length c.args.bares.now = omega (arith, c.loop-bare.auto.bare-index-end, c.loop-bare-test.false) in
    subst (λ (n : ℕ). CodesUpTo CodeHolds RegistersFail c.args.self.now.sections.now c.args.bares.now n c.loop-bare.past) end c.loop-bare.invariant.past

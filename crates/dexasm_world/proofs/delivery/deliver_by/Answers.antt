use Rattle.std.proofs.Common.{rules, ◌≡◌, ◌≢◌, inl, ◌∙◌, sym, ap, true, false}
use Rattle.std.specs.Prelude.{⊤}
use Rattle.std.proofs.lemmas.Result.{on_ok_weaker}
use Rattle.dexasm_world.specs.State.{Path, Paths, Files, Passes, place_of}
use Rattle.dexasm_world.specs.Safe.{HasAnswer}
use Rattle.dexasm_world.proofs.Installing.{IsFine, removing}
use Rattle.dexasm_world.proofs.Bringing.{DiffersAt, differs_at_part, storing, full_part, brings_then, brought_since, carry_answer}
use Rattle.dexasm_world.proofs.Leaving.{gone_since, leaves_since}
use Rattle.dexasm_world.proofs.delivery.deliver_by.Given as given
use Rattle.dexasm_world.proofs.delivery.deliver_by.Goals as goal
use Rattle.dexasm_world.proofs.delivery.deliver_by.Goals.{After-store}

-- after the answer was stored beside, or could not be
module _ (g : given.Over) (c : After-store g) (k : g.W.World.is_known ≡ true) where
  abbrev first : Files
  first = g.W.World.files c.args.world.now

  abbrev stored : Files
  stored = g.W.World.files c.store.new.world

  abbrev part : Path
  part = place_of first c.args.part.now

  abbrev out : Path
  out = place_of first c.args.path.now

  two : out ≢ part
  two e = (c.requires.new k).two (sym e)

  free : first.paths.is_fixed out ≡ false → stored.paths.is_fixed (place_of stored c.args.path.now) ≡ false
  free e = ap (λ (x : Paths). x.is_fixed (x.place c.args.path.now)) (c.store.ensures.moments k).same_paths ∙ e

  apart : DiffersAt part first.now stored.now
  apart = differs_at_part first c.args.part.now c.args.path.now (g.W.File.Handle.number c.args.file) stored.now (c.requires.new k) (c.store.ensures.moments k).last.only

  fine : Passes first stored (IsFine part out c.args.answer.now first.now)
  fine = storing first stored c.args.part.now c.args.path.now (g.W.File.Handle.number c.args.file) c.args.answer.now c.args.dress (c.requires.new k) (c.requires.empty k) (c.requires.private k) (c.requires.dressed k) (c.store.ensures.moments k)

  carried : (t : Files) → HasAnswer out c.args.answer.now stored.now part t.now → HasAnswer out c.args.answer.now first.now part t.now
  carried t = carry_answer part out c.args.answer.now part first.now stored.now t.now two apart

pub copy_over-requires : goal.copy_over-requires
copy_over-requires g c k =
    full_part (g.W.World.files c.args.world.now) (g.W.World.files c.store.new.world) c.args.part.now c.args.path.now (g.W.File.Handle.number c.args.file) c.args.answer.now c.args.dress (c.store.ensures.moments k).same_paths (c.requires.new k) (c.requires.empty k) (c.requires.dressed k) (c.in-Ok.ensures.stored k)

pub returns-in-Ok : goal.returns-in-Ok
returns-in-Ok g c =
    let m = (goal.at.returns-in-Ok g c).After-store in
    let d = g.W.World.files c.copy_over.new.world in
    record {
      moments = λ k. brings_then (first g m k) (stored g m k) d c.args.part.now c.args.path.now c.args.answer.now ⊥ _ (two g m k) (λ e. let x = sym c.if-is_shared.true ∙ e.1 in cc) (apart g m k) (fine g m k) (c.copy_over.ensures.moments k);
      done = λ k. on_ok_weaker c.copy_over.result (brought_since (first g m k) (stored g m k) c.args.part.now c.args.path.now c.args.answer.now ⊥ _ ⊤ _ d.now (fine g m k).same_paths (two g m k) (apart g m k)
          (λ e. let x = sym c.if-is_shared.true ∙ e.1 in cc) (λ q. tt)) (c.copy_over.ensures.done k);
      cause = search rules;
      left = λ k. leaves_since (first g m k) (stored g m k) d c.args.part.now c.args.path.now c.args.answer.now ⊥ _ c.copy_over.result (fine g m k).same_paths (fine g m k).no_fewer (carried g m k d)
          (λ never e. let x = sym c.if-is_shared.true ∙ e.1 in cc) (c.copy_over.ensures.left k);
    }

pub install-requires : goal.install-requires
install-requires g c k =
    full_part (g.W.World.files c.args.world.now) (g.W.World.files c.store.new.world) c.args.part.now c.args.path.now (g.W.File.Handle.number c.args.file) c.args.answer.now c.args.dress (c.store.ensures.moments k).same_paths (c.requires.new k) (c.requires.empty k) (c.requires.dressed k) (c.in-Ok-2.ensures.stored k)

pub returns-in-Ok-2 : goal.returns-in-Ok-2
returns-in-Ok-2 g c =
    let m = (goal.at.returns-in-Ok-2 g c).After-store in
    let d = g.W.World.files c.install.new.world in
    record {
      moments = λ k. brings_then (first g m k) (stored g m k) d c.args.part.now c.args.path.now c.args.answer.now _ _ (two g m k) (λ e. free g m k e.0) (apart g m k) (fine g m k) (c.install.ensures.moments k);
      done = λ k. on_ok_weaker c.install.result (brought_since (first g m k) (stored g m k) c.args.part.now c.args.path.now c.args.answer.now _ _ ⊥ _ d.now (fine g m k).same_paths (two g m k) (apart g m k)
          (λ e. free g m k e.0) (λ q. let x = sym c.if-is_shared.false ∙ q in cc)) (c.install.ensures.done k);
      cause = search rules;
      left = λ k. leaves_since (first g m k) (stored g m k) d c.args.part.now c.args.path.now c.args.answer.now _ _ c.install.result (fine g m k).same_paths (fine g m k).no_fewer (carried g m k d)
          (λ fixed e. fixed (free g m k e.0)) (c.install.ensures.left k);
    }

pub returns-clause-moments : goal.returns-clause-moments
returns-clause-moments g c k =
    let m = (goal.at.returns-clause-moments g c).After-store in
    removing (first g m k) (stored g m k) (g.W.World.files c.remove.new.self) c.args.part.now _ c.args.answer.now _ (two g m k) (c.requires.new k).part_plain (fine g m k) (c.remove.ensures.moments k)

pub returns-clause-left : goal.returns-clause-left
returns-clause-left g c k =
    inl (gone_since _ _ (g.W.World.files c.remove.new.self) _ c.args.part.now c.remove.result (c.store.ensures.moments k) (c.requires.new k).part_plain (c.remove.ensures.removed k) (c.remove.ensures.left k))

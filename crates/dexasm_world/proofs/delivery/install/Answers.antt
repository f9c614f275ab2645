use Rattle.std.proofs.Common.{rules, ◌≡◌, inl, ◌∙◌, sym, subst, true}
use Rattle.std.proofs.lemmas.Result.{on_ok_weaker}
use Rattle.dexasm_world.specs.State.{FileState, Files, Passes, place_of}
use Rattle.dexasm_world.specs.Safe.{HasAnswer}
use Rattle.dexasm_world.specs.inner.FileKinds.{CanReplace}
use Rattle.dexasm_world.proofs.States.{same_state}
use Rattle.dexasm_world.proofs.Leaving.{gone_since, leaves_since}
use Rattle.dexasm_world.proofs.Installing.{IsFine, replacing, removing, otherwise, brought_otherwise, can_replace, carry_part}
use Rattle.dexasm_world.proofs.delivery.install.Given as given
use Rattle.dexasm_world.proofs.delivery.install.Goals as goal
use Rattle.dexasm_world.proofs.delivery.install.Goals.{After-replace}

-- after a try to put the part in OUT's place
module _ (g : given.Over) (c : After-replace g) (k : g.W.World.is_known ≡ true) where
  abbrev first : Files
  first = g.W.World.files c.args.world.now

  abbrev after : Files
  after = g.W.World.files c.replace.new.self

  can : CanReplace first c.args.part.now c.args.path.now
  can = can_replace first c.args.part.now c.args.path.now (c.requires k).number (c.requires k).stands

  fine : Passes first after (IsFine (place_of first c.args.part.now) (place_of first c.args.path.now) c.args.answer.now first.now)
  fine = replacing first after c.args.part.now c.args.path.now c.args.answer.now (c.requires k) (c.replace.ensures.moments k)

pub copy_over-requires : goal.copy_over-requires
copy_over-requires g c k =
    let m = (goal.at.copy_over-requires g c).After-replace in
    let fixed = rw c.in-Err-Fixed.field-0-is at (c.in-Err-Fixed.ensures.why k (can g m k)) in
    carry_part (first g m k) (after g m k) c.args.part.now c.args.path.now c.args.answer.now (fine g m k).same_paths (same_state (first g m k).now (after g m k).now fixed.1) (c.requires k)

pub returns-in-Err-Fixed : goal.returns-in-Err-Fixed
returns-in-Err-Fixed g c =
    let m = (goal.at.returns-in-Err-Fixed g c).After-replace in
    let d = g.W.World.files c.copy_over.new.world in
    let fixed = λ (k : g.W.World.is_known ≡ true). rw c.in-Err-Fixed.field-0-is at (c.in-Err-Fixed.ensures.why k (can g m k)) in
    let same = λ (k : g.W.World.is_known ≡ true). same_state (first g m k).now (after g m k).now (fixed k).1 in
    record {
      moments = λ k. otherwise (first g m k) (after g m k) d c.args.part.now c.args.path.now c.args.answer.now _ (λ is. let e = sym (fixed k).0 ∙ is in cc) (same k) (fine g m k) (c.copy_over.ensures.moments k);
      done = λ k. on_ok_weaker c.copy_over.result (brought_otherwise (first g m k) (after g m k) c.args.part.now c.args.path.now c.args.answer.now _ d.now
          (λ is. let e = sym (fixed k).0 ∙ is in cc) (same k) (fine g m k).same_paths) (c.copy_over.ensures.done k);
      cause = search rules;
      left = λ k. leaves_since (first g m k) (after g m k) d c.args.part.now c.args.path.now c.args.answer.now ⊥ _ c.copy_over.result (fine g m k).same_paths (fine g m k).no_fewer
          (subst (λ (s : FileState). HasAnswer (place_of (first g m k) c.args.path.now) c.args.answer.now s (place_of (first g m k) c.args.part.now) d.now) (same k))
          (λ never is. let e = sym (fixed k).0 ∙ is in cc) (c.copy_over.ensures.left k);
    }

pub returns-in-Err-Failed-clause-moments : goal.returns-in-Err-Failed-clause-moments
returns-in-Err-Failed-clause-moments g c k =
    let m = (goal.at.returns-in-Err-Failed-clause-moments g c).After-replace in
    removing (first g m k) (after g m k) (g.W.World.files c.remove.new.self) c.args.part.now _ c.args.answer.now _ (λ e. (c.requires k).stands.two (sym e)) (c.requires k).stands.part_plain (fine g m k) (c.remove.ensures.moments k)

pub returns-in-Ok-clause-left : goal.returns-in-Ok-clause-left
returns-in-Ok-clause-left g c k = inl (c.in-Ok.ensures.moved k (can g (goal.at.returns-in-Ok-clause-left g c).After-replace k)).gone

pub returns-in-Err-Failed-clause-left : goal.returns-in-Err-Failed-clause-left
returns-in-Err-Failed-clause-left g c k =
    let m = (goal.at.returns-in-Err-Failed-clause-left g c).After-replace in
    inl (gone_since (first g m k) (after g m k) (g.W.World.files c.remove.new.self) _ c.args.part.now c.remove.result (fine g m k) (c.requires k).stands.part_plain (c.remove.ensures.removed k) (c.remove.ensures.left k))

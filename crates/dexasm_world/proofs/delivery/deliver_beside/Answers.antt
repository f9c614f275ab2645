use Rattle.std.proofs.Common.{rules, ◌≡◌, ℕ, true, false, Some, ◌∙◌, sym, ap, subst, arith, refl, inl}
use Rattle.std.proofs.lemmas.Result.{on_ok_weaker}
use Rattle.dexasm_world.specs.State.{Path, Paths, FileState, Files, Passes, place_of}
use Rattle.dexasm_world.specs.Safe.{IsSafe, CanGive, HasSpaceBeside}
use Rattle.dexasm_world.specs.inner.Steps.{Same, MadeAs}
use Rattle.dexasm_world.proofs.States.{same_state}
use Rattle.dexasm_world.proofs.Leaving.{leaves_tidy, tidy_unmade, leaves_brought}
use Rattle.dexasm_world.proofs.Passing.{stays}
use Rattle.dexasm_world.proofs.Bringing.{dressed_some}
use Rattle.dexasm_world.proofs.Choosing.{IsBeside, IsNewBeside, beside_by, new_beside, safe_at_first, trying, has_part, bringing, delivered, in_place, in_place_delivered, no_space, true_or, made_keeps, taken_more, taken_at_first}
use Rattle.dexasm_world.proofs.delivery.deliver_beside.Given as given
use Rattle.dexasm_world.proofs.delivery.deliver_beside.Goals as goal
use Rattle.dexasm_world.proofs.delivery.deliver_beside.Goals.{After-make}
use Rattle.std.proofs.lemmas.Bool.{false_from_ne_true}

-- after a try to make a file beside
module _ (g : given.Over) (c : After-make g) (k : g.W.World.is_known ≡ true) where
  abbrev first : Files
  first = g.W.World.files c.args.world.now

  abbrev before : Files
  before = g.W.World.files c.loop-number.world

  abbrev after : Files
  after = g.W.World.files c.make.new.self

  abbrev path : Path
  path = c.args.path.now

  abbrev part : Path
  part = c.as_str-name.result.now

  beside : IsBeside first path part
  beside = beside_by first path part c.loop-number.number c.loop-number-test.true (c.as_str-name.ensures.value ∙ c.in-Ok.ensures) (c.requires.plain k) (g.met.W.World.apart c.args.world.now path c.loop-number.number k)

  same : before.now ≡ first.now
  same = same_state first.now before.now (c.loop-number.invariant.same k)

  -- a file that stands at OUT has a dress
  is_private : (m : ℕ) → first.now.stands (place_of first path) ≡ Some m → c.is_some.result ≡ true
  is_private m is = c.is_some.ensures ∙ dressed_some c.args.dress ((first.now.file m).mode) (c.requires.dressed k m is)

  tried : Passes first after (IsSafe first path c.args.answer.now)
  tried = trying first before after path part c.args.answer.now c.is_some.result beside same is_private (c.loop-number.invariant.moments k) (c.make.ensures.moments k)

  -- the file was made
  new : (n : ℕ) → before.paths.is_plain part ≡ true → MadeAs c.is_some.result (place_of before part) n before.now after.now → IsNewBeside first path part n after.now
  new n plain is = new_beside first before path part n after.now beside same (c.loop-number.invariant.moments k).same_paths plain is.made

  gives : CanGive first path → (after.paths.is_fixed (place_of after path) ≡ false) × (c.args.is_shared ≡ false)
  gives can = (ap (λ (x : Paths). x.is_fixed (x.place path)) tried.same_paths ∙ can.free, false_from_ne_true c.args.is_shared (λ is. c.requires.shared k is can))

  -- the folder takes no new file
  none : before.paths.is_closed part ≡ true → HasSpaceBeside first path → ⊥
  none closed =
      no_space first path part c.loop-number.number c.loop-number-test.true (c.as_str-name.ensures.value ∙ c.in-Ok.ensures) (c.requires.plain k) (c.loop-number.invariant.taken k) (ap (λ (x : Paths). x.is_closed part) (sym (c.loop-number.invariant.moments k).same_paths) ∙ closed)

-- nothing is changed at first
pub loop-number-init : goal.loop-number-init
loop-number-init g c =
    let f = g.W.World.files c.args.world.now in
    record {
      taken = λ k m low. absurd (omega (arith, low));
      moments = λ k. stays f _ (safe_at_first f c.args.path.now c.args.answer.now f.now record { names = λ p. refl; files = λ m. refl });
      same = λ k. record { names = λ p. refl; files = λ m. refl };
    }

pub deliver_by-requires-clause-new : goal.deliver_by-requires-clause-new
deliver_by-requires-clause-new g c k =
    let m = (goal.at.deliver_by-requires-clause-new g c).After-make in
    has_part (first g m k) (after g m k) c.args.path.now c.as_str-name.result.now _ (tried g m k).same_paths (new g m k _ (c.in-Ok-make.ensures.plain k) (c.in-Ok-make.ensures.made k))

pub deliver_by-requires-clause-dressed : goal.deliver_by-requires-clause-dressed
deliver_by-requires-clause-dressed g c k =
    let m = (goal.at.deliver_by-requires-clause-dressed g c).After-make in
    made_keeps (first g m k) (after g m k) c.args.path.now c.as_str-name.result.now _ (tried g m k).same_paths (new g m k _ (c.in-Ok-make.ensures.plain k) (c.in-Ok-make.ensures.made k)) c.args.dress (c.requires.dressed k)

pub deliver_by-requires-clause-private : goal.deliver_by-requires-clause-private
deliver_by-requires-clause-private g c k = λ some. (c.in-Ok-make.ensures.made k).mode (c.is_some.ensures ∙ some)

pub returns-in-Ok-make : goal.returns-in-Ok-make
returns-in-Ok-make g c =
    let m = (goal.at.returns-in-Ok-make g c).After-make in
    let d = g.W.World.files c.deliver_by.new.world in
    let at = λ (k : g.W.World.is_known ≡ true). new g m k (g.W.File.Handle.number c.in-Ok-make.file) (c.in-Ok-make.ensures.plain k) (c.in-Ok-make.ensures.made k) in
    record {
      moments = λ k. bringing (first g m k) (after g m k) d c.args.path.now c.as_str-name.result.now _ c.args.answer.now _ (at k) (gives g m k) (tried g m k) (c.deliver_by.ensures.moments k);
      done = λ k. on_ok_weaker c.deliver_by.result (delivered (first g m k) (after g m k) d c.args.path.now c.as_str-name.result.now _ c.args.answer.now _ _ (tried g m k).same_paths (at k) (gives g m k)
          (true_or c.args.is_shared _ (c.requires.alone k)) (c.deliver_by.ensures.moments k)) (c.deliver_by.ensures.done k);
      cause = search rules;
      left = λ k. leaves_brought (first g m k) (after g m k) d c.args.path.now c.as_str-name.result.now _ c.args.answer.now _ c.deliver_by.result (tried g m k).same_paths (tried g m k).no_fewer (at k) (gives g m k)
          (c.deliver_by.ensures.moments k) (c.deliver_by.ensures.left k);
    }

-- the folder takes no new file
pub returns-in-Err-Closed : goal.returns-in-Err-Closed
returns-in-Err-Closed g c =
    let m = (goal.at.returns-in-Err-Closed g c).After-make in
    let d = g.W.World.files c.overwrite.new.world in
    let why = λ (k : g.W.World.is_known ≡ true). rw c.in-Err-Closed.field-0-is at (c.in-Err-Closed.ensures.why k) in
    let now = λ (k : g.W.World.is_known ≡ true). same_state (before g m k).now (after g m k).now (why k).1 ∙ same g m k in
    record {
      moments = λ k. in_place (first g m k) (after g m k) d c.args.path.now c.args.answer.now (none g m k (why k).0) (now k) (tried g m k) (c.overwrite.ensures.moments k);
      done = λ k. on_ok_weaker c.overwrite.result (in_place_delivered (first g m k) (after g m k) c.args.path.now c.args.answer.now d.now (none g m k (why k).0) (tried g m k).same_paths (now k)
          (c.overwrite.ensures.moments k).last) (c.overwrite.ensures.done k);
      cause = search rules;
      left = λ k. leaves_tidy (first g m k) d c.args.path.now c.args.answer.now c.overwrite.result (inl (λ p away.
          (c.overwrite.ensures.moments k).last.names p (λ e. away (e ∙ ap (λ (y : Paths). y.place c.args.path.now) (tried g m k).same_paths)) ∙ ap (λ (s : FileState). s.stands p) (now k)));
    }

pub returns-in-Err-Failed-clause-moments : goal.returns-in-Err-Failed-clause-moments
returns-in-Err-Failed-clause-moments g c k = tried g (goal.at.returns-in-Err-Failed-clause-moments g c).After-make k

pub loop-number-preserved : goal.loop-number-preserved
loop-number-preserved g c =
    let m = (goal.at.loop-number-preserved g c).After-make in
    let why = λ (k : g.W.World.is_known ≡ true). rw c.in-Err-Taken.field-0-is at (c.in-Err-Taken.ensures.why k) in
    record {
      moments = tried g m;
      taken = λ k. taken_more (first g m k) c.args.path.now c.loop-number.number (c.loop-number.invariant.taken k)
          (taken_at_first (first g m k) (before g m k) c.args.path.now c.as_str-name.result.now c.loop-number.number (c.as_str-name.ensures.value ∙ c.in-Ok.ensures) (c.loop-number.invariant.moments k).same_paths (same g m k) (why k).0);
      same = λ k. subst (λ (s : FileState). Same s (after g m k).now) (same g m k) (why k).1;
    }

pub returns-in-Err-Failed-clause-left : goal.returns-in-Err-Failed-clause-left
returns-in-Err-Failed-clause-left g c k =
    let m = (goal.at.returns-in-Err-Failed-clause-left g c).After-make in
    let why = rw c.in-Err-Failed.field-0-is at (c.in-Err-Failed.ensures.why k) in
    inl (tidy_unmade (first g m k) (before g m k) (after g m k) c.args.path.now (same g m k) (c.loop-number.invariant.moments k).no_fewer why.1)

pub returns-clause-left : goal.returns-clause-left
returns-clause-left g c k = inl (inl (λ p away. (c.loop-number.invariant.same k).names p))

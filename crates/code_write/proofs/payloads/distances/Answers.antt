use Rattle.std.proofs.Common.{◌≡◌, ℕ, List, length, map, take, ◌∷◌, [], ◌++◌, arith, ap, sym, ◌∙◌, ◌<◌, rules}
use Rattle.std.specs.Prelude.{FitsSigned}
use Rattle.std.specs.Int.{w32}
use mir.Val.{SFits}
use Rattle.std.proofs.lemmas.Int.{to_z-of_z}
use Rattle.std.proofs.lemmas.List.{take_more, length-append, map-append, take_all}
use Rattle.code_read.specs.Linked.{target_number}
use Rattle.code_write.specs.Fits.{distance_of}
use Rattle.code_write.proofs.ListLaws.{all-at}
use Rattle.code_write.proofs.payloads.distances.Goals as goal

pub distance-requires-clause-inside : goal.distance-requires-clause-inside
distance-requires-clause-inside c = all-at (λ (to : ℕ). to < length c.args.starts.now) c.args.targets.now c.loop-to.to-index 0 c.requires.inside c.loop-to-test.true

pub distance-requires-clause-fits : goal.distance-requires-clause-fits
distance-requires-clause-fits c = all-at (λ (to : ℕ). FitsSigned w32 (distance_of c.args.starts.now c.args.at to)) c.args.targets.now c.loop-to.to-index 0 c.requires.fits c.loop-to-test.true

pub loop-to-preserved : goal.loop-to-preserved
loop-to-preserved c =
    let z = c.distance.result in
    let fits : SFits w32 z = search rules in
    let e : c.push.new.self.items ≡ c.loop-to.all.items ++ z ∷ [] = simp to_z-of_z at c.in_ok-push.ensures.items in
    let leads = c.distance.ensures.leads in
    record {
      so_far =
          ap (map (target_number c.args.starts.now c.args.at)) e
          ∙ map-append (target_number c.args.starts.now c.args.at) c.loop-to.all.items (z ∷ [])
          ∙ ap (λ (l : List ℕ). l ++ target_number c.args.starts.now c.args.at z ∷ []) c.loop-to.invariant.so_far
          ∙ ap (λ (n : ℕ). take c.loop-to.to-index c.args.targets.now ++ n ∷ []) leads
          ∙ sym (take_more c.args.targets.now c.loop-to.to-index 0 c.loop-to-test.true);
      count = let n = c.loop-to.invariant.count in omega (arith, ap length e, length-append c.loop-to.all.items (z ∷ []));
    }

pub returns-clause-ok : goal.returns-clause-ok
returns-clause-ok c = c.loop-to.invariant.so_far ∙ take_all c.loop-to.to-index c.args.targets.now (omega arith)

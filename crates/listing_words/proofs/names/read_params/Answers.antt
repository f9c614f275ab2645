use Rattle.std.proofs.Common.{arith, length, take, ◌<◌, ap}
use Rattle.std.proofs.lemmas.List.{map-append}
use Rattle.listing_words.specs.inner.Names.{TakesDescriptor}
use Rattle.listing_words.proofs.TakingLaws.{Each-push}
use Rattle.listing_words.proofs.NameLaws.{no_front, front_taken}
use Rattle.listing_words.proofs.names.read_params.Goals as goal
use Rattle.program_types.proofs.Letters.{descriptor_some}

pub loop-n-smaller : goal.loop-n-smaller
loop-n-smaller c = let k = descriptor_some (take c.in-Some.n c.loop-n.rest.now) c.in-Some.ensures.found in let r : length c.split_at.result.1.now < length c.loop-n.rest.now = omega (arith, c.in-Some.ensures.inside, c.split_at.ensures.back_len, ap length c.split_at.ensures.back, ap length c.split_at.ensures.front) in r

pub loop-n-preserved : goal.loop-n-preserved
loop-n-preserved c = rw (c.in_ok-push.ensures.items, map-append) (Each-push TakesDescriptor _ _ _ _ _ c.loop-n.invariant (front_taken c.loop-n.rest.now c.split_at.result.0.now c.split_at.result.1.now c.in-Some.n c.in-Some.ensures.found c.split_at.ensures.front c.split_at.ensures.back))

pub returns-clause-all : goal.returns-clause-all
returns-clause-all c = no_front c.loop-n.rest.now c.in_default.ensures.none

use Rattle.std.proofs.Common.{◌∙◌}
use Rattle.file_renumber.proofs.IndexLemmas.{plain_unindexed, payload_unindexed, short_index, five_index, long_index, short_there, five_there, long_there}
use Rattle.file_renumber.proofs.ShapeLemmas.{second_unit, second_units}
use Rattle.file_renumber.proofs.shapes.index_at.Goals as goal

pub u16_at-requires : goal.u16_at-requires
u16_at-requires c = short_there c.args.front.now c.requires.0 _ c.requires.1.spelled (c.requires.1.shaped ∙ c.in-Short.is)

pub u16_at-requires-in-Five : goal.u16_at-requires-in-Five
u16_at-requires-in-Five c = five_there c.args.front.now c.requires.0 c.requires.1.spelled (c.requires.1.shaped ∙ c.in-Five.is)

pub u32_at-requires : goal.u32_at-requires
u32_at-requires c = long_there c.args.front.now c.requires.0 c.requires.1.spelled (c.requires.1.shaped ∙ c.in-Long.is)

pub returns-in-Short-clause-some : goal.returns-in-Short-clause-some
returns-in-Short-clause-some c = λ r s. short_index c.args.front.now r _ _ (c.from.ensures ∙ c.u16_at.ensures ∙ second_unit c.args.front.now) s.spelled (s.shaped ∙ c.in-Short.is)

pub returns-in-Five-clause-some : goal.returns-in-Five-clause-some
returns-in-Five-clause-some c = λ r s. five_index c.args.front.now r _ (c.from-in-Five.ensures ∙ c.u16_at-in-Five.ensures ∙ second_unit c.args.front.now) s.spelled (s.shaped ∙ c.in-Five.is)

pub returns-in-Long-clause-some : goal.returns-in-Long-clause-some
returns-in-Long-clause-some c = λ r s. long_index c.args.front.now r _ (c.u32_at.ensures ∙ second_units c.args.front.now) s.spelled (s.shaped ∙ c.in-Long.is)

pub returns-in-Plain-clause-none : goal.returns-in-Plain-clause-none
returns-in-Plain-clause-none c = λ r s. plain_unindexed r _ (s.shaped ∙ c.in-Plain.is)

pub returns-in-Payload-clause-none : goal.returns-in-Payload-clause-none
returns-in-Payload-clause-none c = λ r s. payload_unindexed r (s.shaped ∙ c.in-Payload.is)

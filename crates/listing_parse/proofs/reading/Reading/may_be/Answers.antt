use Rattle.listing_parse.specs.inner.View.{state}
use Rattle.listing_parse.proofs.reading.Reading.may_be.Goals as goal

pub returns-in-One : goal.returns-in-One
returns-in-One c = λ ss ws. rw c.in-One.is (c.stands.ensures ss ws)

pub returns-in-Two : goal.returns-in-Two
unfolding state
returns-in-Two c = λ ss ws. rw (c.in-Two.is, ← c.stage.ensures) c.may_stand.ensures

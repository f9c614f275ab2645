-- The reader's state in memory, as its content.
use Rattle.listing_parse.specs.inner.View.{state}
use Rattle.listing_parse.specs.Text as text
use Rattle.listing_parse.specs.declared.reading.Reading.{Reading}

-- The listing that is being read.
unfoldable pub reading : Reading → text.Reading
reading r = record { form = r.form; labels = r.labels; base = state r.draft }

use Rattle.std.proofs.lemmas.Option.{IfSome_then}
use Rattle.listing_parse.proofs.ShortLaws.{target_read}
use Rattle.listing_parse.proofs.short.last_target.Goals as goal

pub returns : goal.returns
returns c = IfSome_then c.read_target.result c.read_target.ensures.found (λ n h. target_read c.args.listing.now.labels c.in_ok-last_plain.ensures h)

use Rattle.file_classes.proofs.heads.read_heads.Goals as goal
use Rattle.tables_rows.proofs.CachedLaws.{cached_none}

pub push_heads-requires-clause-cached : goal.push_heads-requires-clause-cached
push_heads-requires-clause-cached c = cached_none _ c.new-cached.result c.new-cached.ensures.empty

use Rattle.listing_words.proofs.NameLaws.{read_taken}
use Rattle.listing_words.proofs.names.read_plain.Goals as goal

pub returns-clause-taken : goal.returns-clause-taken
returns-clause-taken c =
    let cut = c.split_before.ensures in
    read_taken c.args.word.now c.split_before.result.0.now c.split_before.result.1.now c.widen.new.units _ c.resize.new.self.len
    cut.joined cut.before c.widen.ensures c.in_ok-resize.ensures.len

use Rattle.program_types.specs.Key.{text_key}
use Rattle.program_types.specs.Shorty.{shorty}
use Rattle.program_types.specs.View.{proto}
use Rattle.tables_names.proofs.PlaceLemmas.{some_of, none_of}
use Rattle.tables_names.proofs.ranks.Ranks.index_of_shorty.Goals as goal

pub returns-clause-some : goal.returns-clause-some
returns-clause-some c =
    rw (← c.self.view_is) (some_of c.self.inside.strings (text_key (shorty (proto c.args.name.now))) c.index_of_shorty.result c.rises.ensures (rw c.names.ensures at c.index_of_shorty.ensures))

pub returns-clause-none : goal.returns-clause-none
returns-clause-none c =
    rw (← c.self.view_is) (none_of c.self.inside.strings (text_key (shorty (proto c.args.name.now))) c.index_of_shorty.result c.rises.ensures (rw c.names.ensures at c.index_of_shorty.ensures))

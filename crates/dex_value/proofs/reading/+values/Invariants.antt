use Rattle.std.proofs.Common.{◌≡◌, ◌+◌, ◌*◌, List, length}
use Rattle.dex_base.specs.Grammar.{Takes, Each}
use Rattle.program_types.specs.Content.{Value}
use Rattle.tables_rows.specs.Names.{NameIsAt}
use Rattle.dex_value.specs.Standing.{Shallow}
use Rattle.dex_value.proofs.reading.+values.Given as goal

abbrev pub decreases-read_value : goal.decreases-read_value
decreases-read_value g l = 2 * l.limit

abbrev pub decreases-read_values : goal.decreases-read_values
decreases-read_values g l = 2 * l.limit + 1

abbrev pub invariant-read_values-loop-turn : goal.invariant-read_values-loop-turn
invariant-read_values-loop-turn g l =
    (vs : List Value) × Takes (Each (Shallow (NameIsAt (g.K.Keep.names l.keep)) l.limit)) l.bytes vs l.left × g.K.Keep.many l.many vs × (length vs ≡ l._turn)

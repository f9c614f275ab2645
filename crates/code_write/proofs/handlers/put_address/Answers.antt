use Rattle.std.specs.Prelude.{◌≡◌, Some}
use Rattle.std.proofs.lemmas.Result.{on_ok_weaker}
use Rattle.dex_base.specs.Leb128.{Spells, Shortest}
use Rattle.code_read.specs.Places.{position}
use Rattle.code_write.proofs.HandlerPacks.{position-own, via-appends}
use Rattle.code_write.proofs.handlers.put_address.Goals as goal

pub returns-clause-ok : goal.returns-clause-ok
returns-clause-ok c =
    on_ok_weaker c.put_uleb.result
    (λ a. via-appends (Shortest Spells) (λ address n. position c.args.starts.now address ≡ Some n) _ _ _ c.args.at (rw c.at.ensures.value at a) (position-own c.args.starts.now c.args.at c.at.ensures.rises c.requires.inside))
    c.put_uleb.ensures.ok

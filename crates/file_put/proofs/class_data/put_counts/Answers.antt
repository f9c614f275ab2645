use Rattle.std.proofs.Common.{ℕ}
use Rattle.std.proofs.lemmas.Result.{on_ok_weaker}
use Rattle.dex_base.proofs.GrammarLaws.{Then-appends}
use Rattle.dex_base.specs.Grammar.{Pair}
use Rattle.dex_base.specs.Leb128.{Spells, Shortest}
use Rattle.file_put.proofs.class_data.put_counts.Goals as goal

pub returns-clause-ok : goal.returns-clause-ok
returns-clause-ok c =
    on_ok_weaker c.put_uleb-4.result
    (λ a. Then-appends (Shortest Spells) (λ (n : ℕ). Pair (Shortest Spells) (Pair (Shortest Spells) (Shortest Spells))) _ _ _ _ _ c.in_ok-put_uleb.ensures.ok
    (Then-appends (Shortest Spells) (λ (n : ℕ). Pair (Shortest Spells) (Shortest Spells)) _ _ _ _ _ c.in_ok-put_uleb-2.ensures.ok
    (Then-appends (Shortest Spells) (λ (n : ℕ). Shortest Spells) _ _ _ _ _ c.in_ok-put_uleb-3.ensures.ok a)))
    c.put_uleb-4.ensures.ok

use Rattle.std.proofs.Common.{refl, sym, ◌∙◌, true≢false}
use Rattle.tables_rows.proofs.RowReading.{below_last, last_below}
use Rattle.tables_rows.proofs.string_ids.is_above_last.Goals as goal

pub returns-in-Less : goal.returns-in-Less
returns-in-Less c = (λ _. below_last _ _ _ c.in-Some.ensures.value (sym c.in-Less.ensures), λ _. refl)

pub returns-in_default : goal.returns-in_default
returns-in_default c = (λ f. absurd (true≢false (sym f)), λ all. let less = last_below _ _ _ c.in-Some.ensures.value all in absurd (c.in_default.not-Less (c.cmp_units.ensures ∙ less)))

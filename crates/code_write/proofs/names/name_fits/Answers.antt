use Rattle.std.proofs.Common.{◌≡◌, ◌<◌, ℕ, subst, rules, Option, Some}
use Rattle.std.specs.Prelude.{IfSome, IsTrue}
use Rattle.program_types.specs.Content.{Name}
use Rattle.program_types.specs.Kinds.{IsOfKind}
use Rattle.tables_names.specs.Closure.{NameRanks}
use Rattle.program_types.specs.View.{insn}
use Rattle.program_types.specs.View as view
use Rattle.code_write.specs.Fits.{short_name}
use Rattle.code_write.proofs.names.name_fits.Goals as goal

pub returns-else-not-is_of_kind : goal.returns-else-not-is_of_kind
returns-else-not-is_of_kind c =
    let s : Some (view.name c.in-Some.name) ≡ short_name (insn c.args.one.now) = search rules in
    let kind : IsOfKind c.args.kind (view.name c.in-Some.name) = c.is_of_kind.ensures.0 (search rules) in
    subst (λ (o : Option Name). (IsTrue c.is_short.result → IfSome o (λ which. IsOfKind c.args.kind which → (index : ℕ) → NameRanks c.args.ranks.now index which → index < 65536))
    × (IfSome o (λ which. IsOfKind c.args.kind which → (index : ℕ) → NameRanks c.args.ranks.now index which → index < 65536) → IsTrue c.is_short.result)) s
    (λ t k. c.is_short.ensures.0 t, λ h. c.is_short.ensures.1 (h kind))

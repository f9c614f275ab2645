use Rattle.std.proofs.Common.{◌≡◌, refl, subst, arith}
use Rattle.program_types.specs.View.{desc}
use Rattle.tables_rows.specs.RowFields.{member_class}
use Rattle.tables_rows.specs.inner.RowFields.{number_of}
use Rattle.tables_rows.specs.Stands.{TypeStands}
use Rattle.tables_rows.proofs.TypeLists.{type_one}
use Rattle.file_classes.proofs.owners.is_member_of.Goals as goal

pub returns-then-from-row : goal.returns-then-from-row
returns-then-from-row c =
    let b = c.args.sections.now in
    let same : member_class b (number_of c.args.table) c.args.index ≡ c.args.row = omega arith in
    let here : TypeStands b c.args.row (desc c.args.of.now) = subst (λ z. TypeStands b z (desc c.args.of.now)) same c.requires.member in (
      λ t. type_one b c.args.row (desc c.args.of.now) (desc c.args.class) c.framed.ensures here c.requires.class,
      λ e. refl,
    )

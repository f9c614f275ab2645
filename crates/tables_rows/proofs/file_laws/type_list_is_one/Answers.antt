use Rattle.tables_rows.proofs.TypeLists.{types_one}
use Rattle.tables_rows.proofs.file_laws.type_list_is_one.Goals as goal

pub returns : goal.returns
returns c = λ b framed off xs ys x y. types_one b off xs ys framed x y

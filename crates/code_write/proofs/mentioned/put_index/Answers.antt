use Rattle.std.proofs.Common.{List, ◌∷◌, ◌++◌, [], subst, sym}
use Rattle.std.proofs.lemmas.List.{append-nil}
use Rattle.std.proofs.lemmas.Result.{on_ok_weaker}
use Rattle.std.specs.List.{AllByRecursion}
use Rattle.program_types.specs.Content.{Name}
use Rattle.program_types.specs.View.{name}
use Rattle.tables_names.specs.Closure.{NameRanks}
use Rattle.tables_names.specs.Noted.{AreRanks}
use Rattle.code_write.specs.Fits.{HasIndexBelow}
use Rattle.code_write.proofs.mentioned.put_index.Goals as goal

pub put_name-requires : goal.put_name-requires
put_name-requires c =
    let h : AllByRecursion (HasIndexBelow (NameRanks c.args.ranks.now) 4294967296) (name c.in-Some.name ∷ []) = subst (λ (ns : List Name). AllByRecursion (HasIndexBelow (NameRanks c.args.ranks.now) 4294967296) ns) (sym c.in-Some.ensures) c.requires in
    h.0

pub returns-in-Some : goal.returns-in-Some
returns-in-Some c = record { ok = on_ok_weaker c.put_name.result (λ f names so_far. subst (λ (ns : List Name). AreRanks c.args.ranks.now (names ++ ns) c.put_name.new.indices.items) c.in-Some.ensures (f names so_far)) c.put_name.ensures.ok }

pub returns-in-None : goal.returns-in-None
returns-in-None c = record { ok = λ names so_far. subst (λ (ns : List Name). AreRanks c.args.ranks.now (names ++ ns) c.args.indices.now.items) c.in-None.ensures (subst (λ (l : List Name). AreRanks c.args.ranks.now l c.args.indices.now.items) (sym (append-nil names)) so_far) }

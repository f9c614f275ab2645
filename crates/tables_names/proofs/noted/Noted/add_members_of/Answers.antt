use Rattle.std.proofs.Common.{◌≡◌, ap, arith, length, subst, sym, take}
use Rattle.std.specs.List.{AllZip}
use Rattle.tables_names.specs.Noted.{Notes, NumberIs}
use Rattle.tables_names.proofs.NotedLemmas.{noted_cut}
use Rattle.tables_names.proofs.noted.Noted.add_members_of.Goals as goal

pub returns-in-Err-clause-stays : goal.returns-in-Err-clause-stays
returns-in-Err-clause-stays c names so_far =
    let old = c.args.self.now.numbers in
    let cut = noted_cut c.args.self.now c.note_members_of.new.self names c.note_members_of.ensures.continues so_far in
    let count : c.len-noted.result ≡ length old = omega (arith, c.len-noted.ensures, c.self.inside.numbers.ok.0, ap (λ (n : Notes). length n.numbers) c.self.view_is) in
    rw (c.truncate.ensures.items, count) (subst (λ (n : Notes). AllZip (NumberIs n.names) names (take (length old) n.numbers)) (sym c.self-2.view_is) cut)

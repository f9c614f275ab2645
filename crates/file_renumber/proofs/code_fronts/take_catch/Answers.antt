use Rattle.tables_rows.specs.Stands.{NameStands}
use Rattle.file_renumber.proofs.HandlerLemmas.{catch_parts, address_there, catch_is}
use Rattle.file_renumber.proofs.code_fronts.take_catch.Goals as goal

pub take_number-ty-requires : goal.take_number-ty-requires
take_number-ty-requires c =
    let p = catch_parts (NameStands c.requires.0) c.requires.1 c.args.bytes.now c.requires.2 c.requires.3 c.requires.4 in
    (p.ty, p.mid, p.first)

pub take_number-address-requires : goal.take_number-address-requires
take_number-address-requires c =
    address_there (NameStands c.requires.0) c.requires.1 c.args.bytes.now c.requires.2 c.requires.3 c.take_number-ty.result.0 c.take_number-ty.result.1.now c.requires.4 c.take_number-ty.ensures

pub returns : goal.returns
returns c = λ b ss one rest t.
    catch_is (NameStands b) ss c.args.bytes.now one rest c.take_number-ty.result.0 c.take_number-address.result.0 c.take_number-ty.result.1.now c.take_number-address.result.1.now c.take_number-ty.ensures c.take_number-address.ensures t

use Rattle.std.proofs.Common.{◌≡◌, ◌∙◌, ◌<ℤ◌, pos, ℕ, List, sym, subst, arith, rules}
use Rattle.std.proofs.lemmas.Int.{ints, to_z-of_z}
use mir.Val.{SFits}
use mir.Syntax.{w32}
use Rattle.dex_base.specs.Leb128.{Spells, SpellsSigned, Shortest}
use Rattle.dex_base.specs.Grammar.{Appends, Takes}
use Rattle.tables_rows.specs.Stands.{NameStands}
use Rattle.file_renumber.specs.inner.CarriedCodes.{CarriedCatches, CarriedHandler}
use Rattle.code_read.specs.Handlers.{catches_of}
use Rattle.code_read.proofs.HandlerReading.{has-all, lacks-all}
use Rattle.file_renumber.proofs.HandlerLemmas.{HandlerParts, handler_parts, parts_from, last_place, no_last}
use Rattle.file_renumber.proofs.CatchLemmas.{place_read, written_without, written_with}
use Rattle.file_renumber.proofs.handlers.renumber_handler.Goals as goal
use Rattle.file_renumber.proofs.handlers.renumber_handler.Goals.{After-unsigned_abs}
use Rattle.dex_base.proofs.ListFacts.{number_one}

pub take_signed-n-requires : goal.take_signed-n-requires
take_signed-n-requires c =
    let x = c.requires in
    let p = handler_parts (NameStands x.file) x.starts c.args.bytes.now x.handler x.rest x.taken in
    (p.0, p.1, p.2)

-- after the number of its catches
module _ (c : After-unsigned_abs) where
  count : c.unsigned_abs.result ≡ catches_of c.take_signed-n.result.0
  count =
      let fits : SFits w32 c.take_signed-n.result.0 = search rules in
      simp to_z-of_z at c.unsigned_abs.ensures.value

  parts : (x : CarriedHandler c.args.numbers.now c.args.bytes.now) → HandlerParts (NameStands x.file) x.starts c.take_signed-n.result.0 c.unsigned_abs.result c.take_signed-n.result.1.now x.handler x.rest
  parts x = parts_from (NameStands x.file) x.starts c.args.bytes.now x.handler x.rest c.take_signed-n.result.0 c.take_signed-n.result.1.now c.unsigned_abs.result count c.take_signed-n.ensures x.taken

  abbrev due : (x : CarriedHandler c.args.numbers.now c.args.bytes.now) → CarriedCatches c.args.numbers.now c.unsigned_abs.result c.take_signed-n.result.1.now
  due x = record { file = x.file; names = x.names; starts = x.starts; catches = x.handler.catches; rest = (parts x).left; taken = (parts x).catches; carried = x.carried }

pub renumber_catches-requires : goal.renumber_catches-requires
renumber_catches-requires c = due (goal.at.renumber_catches-requires c).After-unsigned_abs c.requires

pub take_number-address-requires : goal.take_number-address-requires
take_number-address-requires c =
    let m = (goal.at.take_number-address-requires c).After-unsigned_abs in
    let n = c.take_signed-n.result.0 in
    let x = c.requires in
    let last = last_place (NameStands x.file) x.starts n (parts m x).left _ x.rest (has-all n (λ h. omega (arith, ints, c.if-n-gt0.false))) (parts m x).last in
    (last.address, x.rest, subst (λ (l : List ℕ). Takes Spells l last.address x.rest) (sym (c.in_ok-rest.ensures.follows (due m x))) last.taken)

pub returns-then-n-gt0-clause-ok : goal.returns-then-n-gt0-clause-ok
returns-then-n-gt0-clause-ok c = λ x.
    let m = (goal.at.returns-then-n-gt0-clause-ok c).After-unsigned_abs in
    let n = c.take_signed-n.result.0 in
    let fits : SFits w32 n = search rules in
    let sleb : Appends (Shortest SpellsSigned) c.new-out.result.items c.put_sleb.new.out.items n = simp to_z-of_z at c.in_ok-put_sleb.ensures.ok in
    let above : pos 0 <ℤ n = omega (arith, ints, c.if-n-gt0.true) in
    let p = parts m x in
    written_without x.names x.starts c.new-out.result.items c.put_sleb.new.out.items c.renumber_catches.new.out.items n x.handler (p.catches.spelled.0 ∙ count m) sleb (c.in_ok-rest.ensures.ok (due m x)) c.new-out.ensures.items (lacks-all n above)
    (no_last (NameStands x.file) x.starts n p.left _ x.rest (lacks-all n above) p.last).0

pub returns-clause-ok : goal.returns-clause-ok
returns-clause-ok c = λ x.
    let m = (goal.at.returns-clause-ok c).After-unsigned_abs in
    let n = c.take_signed-n.result.0 in
    let fits : SFits w32 n = search rules in
    let sleb : Appends (Shortest SpellsSigned) c.new-out.result.items c.put_sleb.new.out.items n = simp to_z-of_z at c.in_ok-put_sleb.ensures.ok in
    let has = has-all n (λ e. omega (arith, ints, c.if-n-gt0.false)) in
    let p = parts m x in
    let last = last_place (NameStands x.file) x.starts n p.left _ x.rest has p.last in
    let one = number_one c.in_ok-rest.rest.now c.take_number-address.result.0 last.address _ x.rest c.take_number-address.ensures (subst (λ (l : List ℕ). Takes Spells l last.address x.rest) (sym (c.in_ok-rest.ensures.follows (due m x))) last.taken) in
    written_with x.names x.starts c.new-out.result.items c.put_sleb.new.out.items c.renumber_catches.new.out.items n x.handler (p.catches.spelled.0 ∙ count m) sleb (c.in_ok-rest.ensures.ok (due m x)) c.put_uleb.new.out.items c.take_number-address.result.0 last.number
    c.new-out.ensures.items has last.is (place_read x.starts c.take_number-address.result.0 last.address last.number one.0 last.place) c.in_ok-put_uleb.ensures.ok

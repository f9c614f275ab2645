use Rattle.std.proofs.Common.{refl, sym, true≢false}
use Rattle.program_types.specs.View.{method_ref}
use Rattle.file_classes.proofs.EntryFaults.{method_owner_one}
use Rattle.file_classes.proofs.MemberLaws.{index_foreign}
use Rattle.file_classes.proofs.members.method_at.Goals as goal

pub returns-then-not-is_member_of-clause-err : goal.returns-then-not-is_member_of-clause-err
returns-then-not-is_member_of-clause-err c = rw c.at-then-not-is_member_of.ensures (record {
  breaks =
      let stands = c.requires.names.methods.each c.args.index (method_ref c.in-Some.method.now) (sym c.in-Some.ensures) in
      index_foreign _ _ _ _ stands.row (λ o. true≢false (sym (c.if-not-is_member_of.ensures.1 (method_owner_one c.args.sections.now c.framed.ensures c.args.index _ _ (method_ref c.in-Some.method.now, stands, refl) o))));
  there = refl;
})

pub returns-clause-stands : goal.returns-clause-stands
returns-clause-stands c = c.requires.names.methods.each c.args.index (method_ref c.in-Some.method.now) (sym c.in-Some.ensures)

pub is_member_of-requires-clause-member : goal.is_member_of-requires-clause-member
is_member_of-requires-clause-member c = (c.requires.names.methods.each c.args.index (method_ref c.in-Some.method.now) (sym c.in-Some.ensures)).class

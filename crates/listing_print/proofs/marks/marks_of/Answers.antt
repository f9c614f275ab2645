use Rattle.std.proofs.Common.{rules, ◌≡◌, List, [], Bool, length, sym, subst}
use Rattle.program_types.specs.View.{code}
use Rattle.listing_print.specs.Canon.{code_numbers}
use Rattle.listing_print.specs.inner.Marks.{IsMarked}
use Rattle.listing_print.proofs.MarkLaws.{whole_written, none_marked}
use Rattle.listing_print.proofs.marks.marks_of.Goals as goal

pub returns-clause-marked : goal.returns-clause-marked
returns-clause-marked c =
    let len : length c.push.new.self.items ≡ c.push.new.self.len = search rules in
    let none : IsMarked c.push.new.self.items [] = none_marked _ _ c.new-marks.result.items c.resize.new.self.items c.push.new.self.items c.new-marks.ensures.items c.in_ok-resize.ensures.items c.in_ok-push.ensures.items in
    let slice : c.as_mut_slice.result.now ≡ c.push.new.self.items = c.as_mut_slice.ensures.value in
    let b : IsMarked c.as_mut_slice.result.now [] = subst (λ (l : List Bool). IsMarked l []) (sym slice) none in
    let d : length c.mark_code.new.marks ≡ c.push.new.self.len = search rules in
    subst (λ (l : List Bool). IsMarked l (code_numbers (code c.args.one.now))) (sym (whole_written c.mark_code.new.marks c.push.new.self.items c.push.new.self.len d len)) (c.mark_code.ensures.marked [] b)

use Rattle.std.proofs.Common.{◌≡◌, ◌∙◌, sym, refl, true, false}
use Rattle.listing_lines.specs.Labels.{is_target}
use Rattle.listing_lines.proofs.labels.read_here.Goals as goal

pub returns-then-is_target-clause-found : goal.returns-then-is_target-clause-found
returns-then-is_target-clause-found c = let e : is_target c.args.slot ≡ true = sym c.is_target.ensures ∙ c.if-is_target.true in rw e c.read_label.ensures.found

pub returns-then-is_target-clause-none : goal.returns-then-is_target-clause-none
returns-then-is_target-clause-none c = let e : is_target c.args.slot ≡ true = sym c.is_target.ensures ∙ c.if-is_target.true in rw e c.read_label.ensures.none

pub returns-in-Key-clause-found : goal.returns-in-Key-clause-found
returns-in-Key-clause-found c = rw c.in-Key.is refl

pub returns-in-Byte-clause-found : goal.returns-in-Byte-clause-found
returns-in-Byte-clause-found c = rw c.in-Byte.is c.read_byte.ensures.found

pub returns-in-Byte-clause-none : goal.returns-in-Byte-clause-none
returns-in-Byte-clause-none c = rw c.in-Byte.is c.read_byte.ensures.none

pub returns-in_default-clause-found : goal.returns-in_default-clause-found
returns-in_default-clause-found c = let e : is_target c.args.slot ≡ false = sym c.is_target.ensures ∙ c.if-is_target.false in rw e c.read_datum.ensures.found

pub returns-in_default-clause-none : goal.returns-in_default-clause-none
returns-in_default-clause-none c = let e : is_target c.args.slot ≡ false = sym c.is_target.ensures ∙ c.if-is_target.false in rw e c.read_datum.ensures.none

use Rattle.std.proofs.Common.{refl}
use lib.Pointwise.{pointwise}
use lib.Dec.{eqb}
use Rattle.program_types.specs.View.{desc}
use Rattle.program_types.specs.declared.names.Desc.{Desc}
use Rattle.listing_slots.proofs.KeyLaws.{same_is}
use Rattle.listing_parse.specs.inner.View.{open_class}
use Rattle.listing_parse.proofs.OpenLaws.{interface_put}
use Rattle.listing_parse.proofs.open_class.Open.put_interface.Goals as goal

pub returns-clause-put : goal.returns-clause-put
unfolding open_class
returns-clause-put c =
    interface_put (open_class c.args.self.now) (λ (x : Desc) (y : Desc). pointwise eqb (desc x) (desc y)) c.args.self.now.interfaces.keys c.insert.new.self.keys c.args.ty c.in_ok-insert.field-0
    (λ x y. same_is (desc x) (desc y)) refl c.in_ok-insert.ensures.added c.in_ok-insert.ensures.keys

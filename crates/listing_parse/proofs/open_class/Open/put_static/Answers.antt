use Rattle.std.proofs.Common.{refl, ◌∙◌, sym, ap, is_some}
use Rattle.listing_parse.specs.inner.View.{open_class}
use Rattle.listing_parse.proofs.EntryLaws.{static_put}
use Rattle.listing_parse.proofs.open_class.Open.put_static.Goals as goal

pub returns-clause-put : goal.returns-clause-put
unfolding open_class
returns-clause-put c =
    static_put (open_class c.args.self.now) c.args.self.now.statics.entries c.insert.new.self.entries (c.args.field.name, c.args.field.ty) (record { flags = c.args.field.flags; value = c.args.initial }) refl c.in_ok-old.ensures.entries c.is_none.result
    (ap is_some (sym c.in_ok-old.ensures.old) ∙ c.is_none.ensures)

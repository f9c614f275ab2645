use Rattle.std.proofs.Common.{sym, ◌∙◌}
use Rattle.std.proofs.lemmas.Bool.{eqb-true, eq-eqb}
use Rattle.dex_container.specs.Layout.{size_of}
use Rattle.file_classes.proofs.PlaceLaws.{first_is}
use Rattle.file_classes.proofs.places.is_first.Goals as goal

pub returns : goal.returns
returns c =
    let w = first_is c.args.sections.now (size_of c.args.sections.now 5) c.args.i c.args.ty c.args.places.now.first.items c.args.places.now.last.items c.requires.places c.requires.row c.requires.ty c.requires.within in (
      λ t. w.0 (sym c.at.ensures ∙ eqb-true _ _ t),
      λ none. eq-eqb _ _ (c.at.ensures ∙ w.1 none),
    )

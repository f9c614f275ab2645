use Rattle.std.proofs.Common.{arith}
use Rattle.std.proofs.lemmas.Bool.{leb-true, le-leb}
use Rattle.file_classes.proofs.places.is_undefined.Goals as goal

pub returns : goal.returns
returns c =
    let w = c.requires.places.highest c.args.ty c.args.from c.requires.within in
    let at = c.at.ensures in (
      λ t. w.0 (let le = leb-true _ _ t in omega (arith, at, le)),
      λ none. le-leb _ _ (let le = w.1 none in omega (arith, at, le)),
    )

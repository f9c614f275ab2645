use Rattle.std.proofs.Common.{◌∷◌, [], ◌++◌, ℕ, sym, subst, ap, ◌∙◌, arith, refl, true≢false}
use Rattle.file_strip.specs.inner.Lists.{AreFirstLists}
use Rattle.file_strip.proofs.ListLaws.{list_kept, list_not_kept, protos_long}
use Rattle.file_strip.proofs.lists.push_parameters.Goals as goal

pub keeps_proto-requires : goal.keeps_proto-requires
keeps_proto-requires c = let n = protos_long c.args.sections.now c.args.numbers.now c.requires.kept.0 c.requires.kept.1 in omega (arith, n, c.requires.row)

pub returns-then-not-keeps_proto-clause-ok : goal.returns-then-not-keeps_proto-clause-ok
returns-then-not-keeps_proto-clause-ok c = λ p k z. list_not_kept c.args.sections.now c.args.numbers.now p k c.args.i c.args.offs.now.items c.requires.row (λ is. true≢false (sym (c.if-not-keeps_proto.ensures.1 is))) z

pub returns-clause-ok : goal.returns-clause-ok
returns-clause-ok c = λ p k z.
    subst (AreFirstLists c.args.sections.now c.args.numbers.now p _) (sym (c.in_ok-push.ensures.items ∙ ap (λ (o : ℕ). c.args.offs.now.items ++ o ∷ []) c.proto_parameters.ensures))
    (list_kept c.args.sections.now c.args.numbers.now p k c.args.i c.args.offs.now.items c.requires.row (c.if-not-keeps_proto.ensures.0 refl) z)

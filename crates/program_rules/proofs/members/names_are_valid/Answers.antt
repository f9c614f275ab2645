use Rattle.std.proofs.Common.{rules}
use Rattle.program_types.specs.View.{class}
use Rattle.program_rules.proofs.MemberLaws.{class-parts, class-whole}
use Rattle.program_rules.proofs.members.names_are_valid.Goals as goal

pub returns-then-not-fields_are_valid : goal.returns-then-not-fields_are_valid
returns-then-not-fields_are_valid c = (
  λ t. absurd cc,
  λ h. let x = c.fields_are_valid.ensures.1 (class-parts (class c.args.one.now) h).statics in search rules,
)

pub returns-then-not-values_are_valid : goal.returns-then-not-values_are_valid
returns-then-not-values_are_valid c = (
  λ t. absurd cc,
  λ h. let x = c.values_are_valid.ensures.1 (class-parts (class c.args.one.now) h).values in search rules,
)

pub returns-then-not-fields_are_valid-2 : goal.returns-then-not-fields_are_valid-2
returns-then-not-fields_are_valid-2 c = (
  λ t. absurd cc,
  λ h. let x = c.fields_are_valid-2.ensures.1 (class-parts (class c.args.one.now) h).instances in search rules,
)

pub returns-then-not-methods_are_valid : goal.returns-then-not-methods_are_valid
returns-then-not-methods_are_valid c = (
  λ t. absurd cc,
  λ h. let x = c.methods_are_valid.ensures.1 (class-parts (class c.args.one.now) h).directs in search rules,
)

pub returns : goal.returns
returns c =
    let types = c.types_are_classes.ensures.0 (search rules) in (
      λ t. class-whole (class c.args.one.now) (record {
        class = types.0;
        superclass = types.1;
        interfaces = types.2;
        statics = c.fields_are_valid.ensures.0 (search rules);
        values = c.values_are_valid.ensures.0 (search rules);
        instances = c.fields_are_valid-2.ensures.0 (search rules);
        directs = c.methods_are_valid.ensures.0 (search rules);
        virtuals = c.methods_are_valid-2.ensures.0 t;
      }),
      λ h. c.methods_are_valid-2.ensures.1 (class-parts (class c.args.one.now) h).virtuals,
    )

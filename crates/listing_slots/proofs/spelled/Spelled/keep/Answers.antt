use Rattle.std.proofs.Common.{◌∙◌, sym, ap, Some}
use Rattle.std.proofs.lemmas.List.Elements.{All-set}
use Rattle.listing_slots.specs.inner.Spelled.{IsSpelled, IsValid}
use Rattle.listing_slots.specs.inner.ValidNames.{Spellings}
use Rattle.listing_slots.proofs.spelled.Spelled.keep.Goals as goal

pub invariant_of-self : goal.invariant_of-self
invariant_of-self c =
    let one = Some (record { slot = c.args.slot; text = c.args.text; name = c.args.name }) in
    record {
      spelled = All-set IsSpelled c.self.inside.buckets.items c.args.at one c.requires.word_value c.self.invariant.spelled;
      valid_names = λ valid. All-set IsValid c.self.inside.buckets.items c.args.at one (c.requires.valid (sym (ap (λ (k : Spellings). k.valid) c.self.view_is) ∙ valid)) (c.self.invariant.valid_names valid);
    }

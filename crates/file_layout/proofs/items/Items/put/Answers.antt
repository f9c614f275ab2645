use Rattle.std.proofs.Common.{◌≡◌, ◌∙◌, ◌++◌, sym, ap, rules}
use Rattle.indexmap.specs.declared.map.entry.Entry.TheVariants.{Occupied, Vacant}
use Rattle.indexmap.specs.Entry.{entry_key, entry_value, map_with_value}
use Rattle.file_layout.proofs.ItemLaws.{adds_here, puts_again, puts_first}
use Rattle.file_layout.proofs.items.Items.put.Goals.{in-Occupied, in-Vacant+in_ok-place-in-Vacant}
use Rattle.file_layout.proofs.items.Items.put.Goals as goal

pub returns-clause-ok : goal.returns-clause-ok
returns-clause-ok c = elim c.match-branch-2.branch [
  | in-Occupied w ↦ (
      let v = w.into_mut.result.now in
      let end : c.match-branch-2.self-inside.places ≡ map_with_value (Occupied w.in-Occupied.entry) v = search rules in
      let same = ap (λ e. (map_with_value e v).entries) w.in-Occupied.is in
      let found = sym c.in_ok-entry.ensures.value ∙ ap entry_value w.in-Occupied.is ∙ w.into_mut.ensures.value in
      let new = ap (λ m. m.entries) end ∙ sym same ∙ c.in_ok-entry.ensures.update.1 v in
      rw (w.result-is, ← c.self.view_is)
      (puts_again 1 c.self.inside.places.entries _ c.args.out.now.items _ (record { bytes = c.args.bytes }) v found new (ap (λ o. o.items) w.out-is)))
  | in-Vacant+in_ok-place-in-Vacant w ↦ (
      let place = w.in_ok-place-in-Vacant.place in
      let end : c.match-branch-2.self-inside.places ≡ map_with_value (Vacant w.in-Vacant.entry) place = search rules in
      let same = ap (λ e. (map_with_value e place).entries) w.in-Vacant.is in
      let none = rw w.in-Vacant.is at c.in_ok-entry.ensures.found in
      let new = ap (λ m. m.entries) end ∙ sym same ∙ c.in_ok-entry.ensures.update.1 place in
      let key = w.key.ensures ∙ ap entry_key (sym w.in-Vacant.is) ∙ c.in_ok-entry.ensures.key (c.in_ok-entry.ensures.value ∙ none) in
      let bytes = w.deref.ensures.value ∙ ap (λ b. b.bytes.items) key in
      let out = ap (λ o. o.items) w.out-is ∙ w.in_ok-place-in-Vacant.ensures.out ∙ ap (λ l. c.args.out.now.items ++ l) bytes in
      rw (w.result-is, ← c.self.view_is)
      (puts_first 1 c.self.inside.places.entries _ c.args.out.now.items _ (record { bytes = c.args.bytes }) place none new
      (adds_here c.args.out.now.items _ c.args.bytes.items _ c.requires.some w.in_ok-place-in-Vacant.ensures.place out)))
]

use Rattle.std.proofs.Common.{◌∙◌, sym, ap, map, ◌≡◌, []}
use Rattle.std.proofs.lemmas.List.{map-append, nil_from_length}
use Rattle.std.proofs.lemmas.Result.{on_ok_weaker}
use Rattle.listing_lines.specs.inner.View.{label}
use Rattle.listing_lines.proofs.OrderLaws.{rising_push, goes_above, stays, goes_after}
use Rattle.listing_lines.proofs.known.Labels.put.Goals as goal

pub invariant_of-self-then-is_above : goal.invariant_of-self-then-is_above
invariant_of-self-then-is_above c =
    rw (c.in_ok-push.ensures.items, map-append) (rising_push (map label c.self.inside.front.items) (label (c.args.name, c.args.place)) c.self.invariant
    (sym (rw c.as_slice.ensures.value at c.is_above.ensures) ∙ c.if-is_above.true))

pub returns-then-is_above-clause-put : goal.returns-then-is_above-clause-put
returns-then-is_above-clause-put c =
    let none : map label c.self.inside.rest.entries ≡ [] = ap (map label) (nil_from_length c.self.inside.rest.entries (c.is_empty.ensures.0 c.if-is_empty.true)) in
    rw (c.in_ok-push.ensures.items, map-append, ← c.self.view_is) (goes_above (map label c.self.inside.front.items) (map label c.self.inside.rest.entries) (label (c.args.name, c.args.place)) none
    (sym (rw c.as_slice.ensures.value at c.is_above.ensures) ∙ c.if-is_above.true))

pub returns-then-is_some-clause-put : goal.returns-then-is_some-clause-put
returns-then-is_some-clause-put c =
    rw (← c.self.view_is) (stays (map label c.self.inside.front.items) (map label c.self.inside.rest.entries) (label (c.args.name, c.args.place)) c.search.result
    (rw c.as_slice-2.ensures.value at c.search.ensures) (sym c.is_some.ensures ∙ c.if-is_some.true))

pub returns-clause-put : goal.returns-clause-put
returns-clause-put c =
    rw (← c.self.view_is) (on_ok_weaker c.put_hashed.result (goes_after (map label c.self.inside.front.items) (map label c.self.inside.rest.entries) (map label c.put_hashed.new.rest.entries) (label (c.args.name, c.args.place)) c.search.result
    (rw c.as_slice-2.ensures.value at c.search.ensures) (sym c.is_some.ensures ∙ c.if-is_some.false)) c.put_hashed.ensures.put)

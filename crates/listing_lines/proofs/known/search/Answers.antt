use Rattle.std.proofs.Common.{◌∙◌, sym, ap, rules, []}
use Rattle.std.proofs.lemmas.Fn.{always_returns_same}
use Rattle.listing_lines.specs.inner.Order.{shortlex}
use Rattle.listing_lines.specs.inner.View.{place_in}
use Rattle.listing_lines.proofs.OrderLaws.{above_missing, searched}
use Rattle.listing_lines.proofs.known.search.Goals as goal

pub returns-then-is_above : goal.returns-then-is_above
returns-then-is_above c = sym (ap place_in (above_missing _ c.args.name.now (sym c.is_above.ensures ∙ c.if-is_above.true)))

pub returns-in-Ok : goal.returns-in-Ok
returns-in-Ok c =
    let n = c.args.name.now in
    let facts = c.binary_search_by-found.ensures in
    let is = facts.position (λ e. shortlex e.0.now n) (always_returns_same _ _ _ (λ a r g called. search rules)) in
    let s = searched c.args.front.now n (record { ref_ptr = (0, 0); now = [] }, record { line = 0; number = 0 }) c.requires c.binary_search_by-found.result facts.bound is in
    sym (rw c.in-Ok.is at s)

pub returns-in-Err : goal.returns-in-Err
returns-in-Err c =
    let n = c.args.name.now in
    let facts = c.binary_search_by-found.ensures in
    let is = facts.position (λ e. shortlex e.0.now n) (always_returns_same _ _ _ (λ a r g called. search rules)) in
    let s = searched c.args.front.now n (record { ref_ptr = (0, 0); now = [] }, record { line = 0; number = 0 }) c.requires c.binary_search_by-found.result facts.bound is in
    sym (ap place_in (rw c.in-Err.is at s))

use Rattle.std.proofs.Common.{◌∙◌, sym, ap, ℕ, ◌+◌, map, Some}
use Rattle.std.proofs.lemmas.Result.{on_ok_weaker}
use Rattle.listing_words.specs.inner.View.{word}
use Rattle.listing_slots.specs.inner.View.{datum}
use Rattle.listing_slots.specs.inner.ShapeView.{shape}
use Rattle.listing_parse.specs.inner.View.{state}
use Rattle.listing_lines.specs.Splitting.{lines}
use Rattle.listing_parse.specs.Text.{Reading, labels_after}
use Rattle.listing_parse.specs.inner.ReadingView.{reading}
use Rattle.listing_parse.proofs.NamedLaws.{read_named}
use Rattle.listing_parse.proofs.RefusedLaws.{shapeless, misplaced, misspelled, twice, taken}
use Rattle.listing_parse.proofs.lines.add_content.Goals as goal

pub returns-in_default-clause-refused : goal.returns-in_default-clause-refused
unfolding reading
returns-in_default-clause-refused c = λ ne.
    rw c.at.ensures (shapeless (reading c.args.listing.now) (map word c.args.scratch.now.words.items) (rw (c.in_default.is, c.as_slice-words.ensures.value) at c.in_ok-found.ensures.none))

pub returns-then-not-may_be-clause-refused : goal.returns-then-not-may_be-clause-refused
unfolding reading
returns-then-not-may_be-clause-refused c = λ ne.
    let ws = map word c.args.scratch.now.words.items in
    rw c.at-then-not-may_be.ensures (misplaced (reading c.args.listing.now) ws (shape c.in-Some.found c.read_form.new.slots.items ws) (rw (c.in-Some.is, c.as_slice-words.ensures.value) at c.in_ok-found.ensures.found) (sym (c.may_be.ensures c.read_form.new.slots.items ws) ∙ c.if-not-may_be.true))

pub returns-in-Some-2-clause-refused : goal.returns-in-Some-2-clause-refused
unfolding reading
returns-in-Some-2-clause-refused c = λ ne.
    let ws = map word c.args.scratch.now.words.items in
    rw c.at-in-Some-2.ensures (misspelled (reading c.args.listing.now) ws (shape c.in-Some.found c.read_form.new.slots.items ws) _ (rw (c.in-Some.is, c.as_slice-words.ensures.value) at c.in_ok-found.ensures.found) (sym (c.may_be.ensures c.read_form.new.slots.items ws) ∙ c.if-not-may_be.false)
    (rw c.in-Some-2.is at c.in_ok-code.ensures.bad))

pub returns-then-not-branch-clause-refused : goal.returns-then-not-branch-clause-refused
unfolding reading
returns-then-not-branch-clause-refused c = λ ne.
    let ws = map word c.args.scratch.now.words.items in
    rw c.at-then-not-branch.ensures (twice (reading c.args.listing.now) ws (shape c.in-Some.found c.read_form.new.slots.items ws) (map datum c.read_slots.new.scratch.word_values.items) (rw (c.in-Some.is, c.as_slice-words.ensures.value) at c.in_ok-found.ensures.found) (sym (c.may_be.ensures c.read_form.new.slots.items ws) ∙ c.if-not-may_be.false)
    (rw c.in_default-2.is at c.in_ok-code.ensures.all)
    (rw (c.if-not-branch.true, c.as_slice-word_values.ensures.value) at c.in_ok-add_kind.ensures.added))

pub returns-clause-taken : goal.returns-clause-taken
unfolding reading state
returns-clause-taken c =
    let ws = map word c.args.scratch.now.words.items in
    let ls = lines c.args.after.now in
    let es = c.args.listing.now.labels in
    let form = c.args.listing.now.form in
    on_ok_weaker c.find_labels.result (λ read_ahead. taken (reading c.args.listing.now) (reading c.find_labels.new.self) ls ws (shape c.in-Some.found c.read_form.new.slots.items ws) (map datum c.read_slots.new.scratch.word_values.items) (state c.add_kind.new.draft)
    (rw (c.in-Some.is, c.as_slice-words.ensures.value) at c.in_ok-found.ensures.found) (sym (c.may_be.ensures c.read_form.new.slots.items ws) ∙ c.if-not-may_be.false)
    (rw c.in_default-2.is at c.in_ok-code.ensures.all)
    (rw (c.if-not-branch.false, c.as_slice-word_values.ensures.value) at c.in_ok-add_kind.ensures.added)
    (read_ahead ∙ ap (λ (n : ℕ). record { form = form; labels = labels_after form c.in-Some.found.kind (n + 1) ls es; base = state c.add_kind.new.draft }) c.in_ok-add_kind.ensures.lines))
    c.find_labels.ensures.read_ahead

pub returns-clause-named : goal.returns-clause-named
unfolding reading state
returns-clause-named c =
    on_ok_weaker c.find_labels.result (λ read_ahead. read_named c.args.scratch.now.spelled c.read_slots.new.scratch.spelled (reading c.args.listing.now) (reading c.find_labels.new.self) c.in-Some.found.kind (map datum c.read_slots.new.scratch.word_values.items)
    (rw c.in_default-2.is at c.in_ok-code.ensures.valid)
    ((rw (c.if-not-branch.false, c.as_slice-word_values.ensures.value) at c.in_ok-add_kind.ensures.added) ∙ ap Some (sym (ap (λ (r : Reading). r.base) read_ahead))))
    c.find_labels.ensures.read_ahead

use Rattle.std.proofs.Common.{◌≡◌, ◌++◌, List, [], map, refl, sym, ◌∙◌, append-nil, append_assoc}
use Rattle.std.proofs.lemmas.Result.{on_err_weaker, on_ok_weaker}
use Rattle.dex_base.proofs.ListFacts.{all_back, all_front}
use Rattle.program_types.specs.Content.{Class, Name}
use Rattle.program_types.specs.Mentions.{field_of_class}
use Rattle.program_types.specs.View as view
use Rattle.tables_names.specs.Closure.{HasShorty, method_of_class}
use Rattle.tables_names.specs.Keys.{key_of_desc}
use Rattle.tables_names.specs.Noted.{members_of}
use Rattle.tables_names.specs.Numbers.{sets}
use Rattle.tables_names.proofs.FiveLemmas.{refused}
use Rattle.tables_names.proofs.NotedLemmas.{class_alone, class_noted, class_refused, goes_on_both, goes_on_same, notes_both, notes_none, noted_still}
use Rattle.tables_names.proofs.noted.Noted.note_members_of.Goals as goal

abbrev statics : Class → List Name
statics k = map (field_of_class k.ty) k.statics

abbrev instances : Class → List Name
instances k = map (field_of_class k.ty) k.instances

abbrev directs : Class → List Name
directs k = map (method_of_class k.ty) k.directs

abbrev virtuals : Class → List Name
virtuals k = map (method_of_class k.ty) k.virtuals

-- after the static fields, and after all fields
with_fields : (k : Class) → members_of k ≡ statics k ++ instances k ++ (directs k ++ virtuals k)
with_fields k = append_assoc (statics k ++ instances k) (directs k) (virtuals k)

from_fields : (k : Class) → members_of k ≡ [] ++ statics k ++ (instances k ++ (directs k ++ virtuals k))
from_fields k = with_fields k ∙ append_assoc (statics k) (instances k) (directs k ++ virtuals k)

pub note_fields-requires-2 : goal.note_fields-requires-2
note_fields-requires-2 c = c.note_fields.ensures.continues.grows.types.each c.in_ok-number.number (key_of_desc c.args.class.now.ty) c.in_ok-number.ensures.number

pub note_methods-requires : goal.note_methods-requires
note_methods-requires c =
    let k = view.class c.args.class.now in
    record {
      class = c.note_fields-2.ensures.continues.grows.types.each c.in_ok-number.number (key_of_desc c.args.class.now.ty) (c.note_fields.ensures.continues.grows.types.each c.in_ok-number.number (key_of_desc c.args.class.now.ty) c.in_ok-number.ensures.number);
      shorties = all_back HasShorty (statics k ++ instances k) (directs k) (all_front HasShorty (statics k ++ instances k ++ directs k) (virtuals k) c.requires);
    }

pub note_methods-requires-2 : goal.note_methods-requires-2
note_methods-requires-2 c =
    let k = view.class c.args.class.now in
    record {
      class = c.note_methods.ensures.continues.grows.types.each c.in_ok-number.number (key_of_desc c.args.class.now.ty) (c.note_fields-2.ensures.continues.grows.types.each c.in_ok-number.number (key_of_desc c.args.class.now.ty) (c.note_fields.ensures.continues.grows.types.each c.in_ok-number.number (key_of_desc c.args.class.now.ty) c.in_ok-number.ensures.number));
      shorties = all_back HasShorty (statics k ++ instances k ++ directs k) (virtuals k) c.requires;
    }

pub returns-in_err-number-clause-partly : goal.returns-in_err-number-clause-partly
returns-in_err-number-clause-partly c =
    let k = view.class c.args.class.now in
    refused c.from_residual.result (class_alone (sets c.args.self.now.names) (sets c.add_class.new.self.names) k.ty (members_of k) c.in_err-number.ensures.partly)

pub returns-in_err-number-clause-continues : goal.returns-in_err-number-clause-continues
returns-in_err-number-clause-continues c = goes_on_same c.args.self.now c.add_class.new.self c.add_class.ensures.grows c.add_class.ensures.same

pub returns-in_err-note_fields-clause-partly : goal.returns-in_err-note_fields-clause-partly
returns-in_err-note_fields-clause-partly c =
    let k = view.class c.args.class.now in
    refused c.from_residual-in_err-note_fields.result
    (class_refused (sets c.args.self.now.names) c.add_class.new.self c.add_class.new.self c.note_fields.new.self k.ty [] (statics k) (instances k ++ (directs k ++ virtuals k)) (members_of k) c.in_ok-number.ensures.added (notes_none c.add_class.new.self) (from_fields k) c.in_err-note_fields.ensures.partly)

pub returns-in_err-note_fields-clause-continues : goal.returns-in_err-note_fields-clause-continues
returns-in_err-note_fields-clause-continues c = goes_on_both c.args.self.now c.add_class.new.self c.note_fields.new.self (goes_on_same c.args.self.now c.add_class.new.self c.add_class.ensures.grows c.add_class.ensures.same) c.note_fields.ensures.continues

pub returns-in_err-note_fields-2-clause-partly : goal.returns-in_err-note_fields-2-clause-partly
returns-in_err-note_fields-2-clause-partly c =
    let k = view.class c.args.class.now in
    refused c.from_residual-in_err-note_fields-2.result
    (class_refused (sets c.args.self.now.names) c.add_class.new.self c.note_fields.new.self c.note_fields-2.new.self k.ty (statics k) (instances k) (directs k ++ virtuals k) (members_of k) c.in_ok-number.ensures.added c.in_ok-note_fields.ensures.added (with_fields k) c.in_err-note_fields-2.ensures.partly)

pub returns-in_err-note_fields-2-clause-continues : goal.returns-in_err-note_fields-2-clause-continues
returns-in_err-note_fields-2-clause-continues c = goes_on_both c.args.self.now c.note_fields.new.self c.note_fields-2.new.self (goes_on_both c.args.self.now c.add_class.new.self c.note_fields.new.self (goes_on_same c.args.self.now c.add_class.new.self c.add_class.ensures.grows c.add_class.ensures.same) c.note_fields.ensures.continues) c.note_fields-2.ensures.continues

pub returns-in_err-note_methods-clause-partly : goal.returns-in_err-note_methods-clause-partly
returns-in_err-note_methods-clause-partly c =
    let k = view.class c.args.class.now in
    refused c.from_residual-in_err-note_methods.result
    (class_refused (sets c.args.self.now.names) c.add_class.new.self c.note_fields-2.new.self c.note_methods.new.self k.ty (statics k ++ instances k) (directs k) (virtuals k) (members_of k) c.in_ok-number.ensures.added
    (notes_both c.add_class.new.self c.note_fields.new.self c.note_fields-2.new.self (statics k) (instances k) c.in_ok-note_fields.ensures.added c.in_ok-note_fields-2.ensures.added) refl c.in_err-note_methods.ensures.partly)

pub returns-in_err-note_methods-clause-continues : goal.returns-in_err-note_methods-clause-continues
returns-in_err-note_methods-clause-continues c = goes_on_both c.args.self.now c.note_fields-2.new.self c.note_methods.new.self
    (goes_on_both c.args.self.now c.note_fields.new.self c.note_fields-2.new.self (goes_on_both c.args.self.now c.add_class.new.self c.note_fields.new.self (goes_on_same c.args.self.now c.add_class.new.self c.add_class.ensures.grows c.add_class.ensures.same) c.note_fields.ensures.continues) c.note_fields-2.ensures.continues) c.note_methods.ensures.continues

pub returns-clause-added : goal.returns-clause-added
returns-clause-added c =
    let k = view.class c.args.class.now in
    let three = notes_both c.add_class.new.self c.note_fields-2.new.self c.note_methods.new.self (statics k ++ instances k) (directs k) (notes_both c.add_class.new.self c.note_fields.new.self c.note_fields-2.new.self (statics k) (instances k) c.in_ok-note_fields.ensures.added c.in_ok-note_fields-2.ensures.added) c.in_ok-note_methods.ensures.added in
    on_ok_weaker c.note_methods-2.result
    (λ last. class_noted (sets c.args.self.now.names) (sets c.add_class.new.self.names) (sets c.note_methods-2.new.self.names) k.ty (members_of k) c.in_ok-number.ensures.added (notes_both c.add_class.new.self c.note_methods.new.self c.note_methods-2.new.self (statics k ++ instances k ++ directs k) (virtuals k) three last).added)
    c.note_methods-2.ensures.added

pub returns-clause-noted : goal.returns-clause-noted
returns-clause-noted c =
    let k = view.class c.args.class.now in
    let three = notes_both c.add_class.new.self c.note_fields-2.new.self c.note_methods.new.self (statics k ++ instances k) (directs k) (notes_both c.add_class.new.self c.note_fields.new.self c.note_fields-2.new.self (statics k) (instances k) c.in_ok-note_fields.ensures.added c.in_ok-note_fields-2.ensures.added) c.in_ok-note_methods.ensures.added in
    on_ok_weaker c.note_methods-2.result
    (λ last names so_far. (notes_both c.add_class.new.self c.note_methods.new.self c.note_methods-2.new.self (statics k ++ instances k ++ directs k) (virtuals k) three last).noted names (rw c.add_class.ensures.same (noted_still c.args.self.now.names c.add_class.new.self.names names c.args.self.now.numbers c.add_class.ensures.grows so_far)))
    c.note_methods-2.ensures.added

pub returns-clause-partly : goal.returns-clause-partly
returns-clause-partly c =
    let k = view.class c.args.class.now in
    let three = notes_both c.add_class.new.self c.note_fields-2.new.self c.note_methods.new.self (statics k ++ instances k) (directs k) (notes_both c.add_class.new.self c.note_fields.new.self c.note_fields-2.new.self (statics k) (instances k) c.in_ok-note_fields.ensures.added c.in_ok-note_fields-2.ensures.added) c.in_ok-note_methods.ensures.added in
    on_err_weaker c.note_methods-2.result
    (λ last. class_refused (sets c.args.self.now.names) c.add_class.new.self c.note_methods.new.self c.note_methods-2.new.self k.ty (statics k ++ instances k ++ directs k) (virtuals k) [] (members_of k) c.in_ok-number.ensures.added three (sym (append-nil (members_of k))) last)
    c.note_methods-2.ensures.partly

pub returns-clause-continues : goal.returns-clause-continues
returns-clause-continues c = goes_on_both c.args.self.now c.note_methods.new.self c.note_methods-2.new.self (goes_on_both c.args.self.now c.note_fields-2.new.self c.note_methods.new.self (goes_on_both c.args.self.now c.note_fields.new.self c.note_fields-2.new.self
    (goes_on_both c.args.self.now c.add_class.new.self c.note_fields.new.self (goes_on_same c.args.self.now c.add_class.new.self c.add_class.ensures.grows c.add_class.ensures.same) c.note_fields.ensures.continues) c.note_fields-2.ensures.continues) c.note_methods.ensures.continues) c.note_methods-2.ensures.continues

use Rattle.std.proofs.Common.{List, ◌∷◌, [], map, take, get_or, subst, arith, sym, refl, inl, ℕ}
use Rattle.std.specs.List.{flat_map}
use Rattle.std.proofs.lemmas.List.{length-map}
use Rattle.program_types.specs.Content.{Method}
use Rattle.program_types.specs.Mentions.{if_any, names_of_code, names_of_method}
use Rattle.file_layout.specs.Sections.{wide_all}
use Rattle.file_limits.specs.inner.Sum.{IsSum}
use Rattle.file_limits.specs.Wide.{bodies_in, wide_body}
use Rattle.file_classes.specs.Classes.{IsMethod}
use Rattle.file_classes.specs.inner.Reading.{method_entry}
use Rattle.file_classes.specs.declared.class_data.MethodEntry.{MethodEntry}
use Rattle.file_classes.proofs.MemberLaws.{next_index, there}
use Rattle.file_strip.specs.inner.Survey.{FindsNames}
use Rattle.file_strip.specs.declared.survey.Surveyed.{Surveyed}
use Rattle.file_strip.proofs.FoundLaws.{finds_marked, finds_more, has_found_after, has_marks}
use Rattle.file_strip.proofs.WalkLaws.{all_of_run, method_row, method_small, method_step, next_body, next_method, self_name}
use Rattle.file_strip.proofs.members.visit_methods.Goals as goal

pub overflow_add-index : goal.overflow_add-index
overflow_add-index c =
    let b = c.args.sections.now in
    let d : MethodEntry = (record { step = 0; flags = 0; code = 0 }) in
    let f = method_step b c.args.entries.now c.loop-entry.entry-index d c.loop-entry-test.true c.loop-entry.index c.loop-entry.invariant.summed c.requires.run.class c.requires.run.methods c.requires.run.spelled in
    record { fits = method_small b c.loop-entry.found.marks c.requires.run.class _ _ f.0 (has_marks b c.loop-entry.found c.loop-entry.invariant.known) f.2 }

pub mark-requires-clause-row : goal.mark-requires-clause-row
mark-requires-clause-row c =
    let b = c.args.sections.now in
    let d : MethodEntry = (record { step = 0; flags = 0; code = 0 }) in
    let f = method_step b c.args.entries.now c.loop-entry.entry-index d c.loop-entry-test.true c.loop-entry.index c.loop-entry.invariant.summed c.requires.run.class c.requires.run.methods c.requires.run.spelled in
    (self_name c.requires.run.class f.0, method_row b c.requires.run.class _ _ f.0 f.2)

pub visit_code-requires-clause-found : goal.visit_code-requires-clause-found
visit_code-requires-clause-found c =
    let b = c.args.sections.now in
    let d : MethodEntry = (record { step = 0; flags = 0; code = 0 }) in
    let f = method_step b c.args.entries.now c.loop-entry.entry-index d c.loop-entry-test.true c.loop-entry.index c.loop-entry.invariant.summed c.requires.run.class c.requires.run.methods c.requires.run.spelled in
    has_found_after b c.loop-entry.found _ (self_name c.requires.run.class f.0 ∷ []) c.loop-entry.invariant.known
    (finds_marked b c.loop-entry.found c.mark.new.self (self_name c.requires.run.class f.0 ∷ []) (c.in_ok-mark.ensures.marked (self_name c.requires.run.class f.0) (method_row b c.requires.run.class _ _ f.0 f.2)))

pub visit_code-requires-clause-code : goal.visit_code-requires-clause-code
visit_code-requires-clause-code c =
    let b = c.args.sections.now in
    let d : MethodEntry = (record { step = 0; flags = 0; code = 0 }) in
    let f = method_step b c.args.entries.now c.loop-entry.entry-index d c.loop-entry-test.true c.loop-entry.index c.loop-entry.invariant.summed c.requires.run.class c.requires.run.methods c.requires.run.spelled in
    (f.0.code, c.requires.run.codes c.loop-entry.entry-index _ f.0 (there method_entry c.args.entries.now c.loop-entry.entry-index d c.loop-entry-test.true) f.1)

pub returns-clause-found : goal.returns-clause-found
returns-clause-found c = λ x.
    let b = c.args.sections.now in
    let es = c.args.entries.now in
    let l = length-map es method_entry in
    subst (λ (xs : List Method). FindsNames b c.args.found.now c.loop-entry.found (flat_map (names_of_method x.class) xs))
    (all_of_run (IsMethod b x.class) (map method_entry es) x.methods c.loop-entry.entry-index x.spelled (omega (arith, l, c.loop-entry-test.false))) (c.loop-entry.invariant.found x)

pub returns-clause-wide : goal.returns-clause-wide
returns-clause-wide c = λ x.
    let b = c.args.sections.now in
    let es = c.args.entries.now in
    let l = length-map es method_entry in
    subst (λ (xs : List Method). IsSum c.loop-entry.sum (wide_all wide_body (bodies_in xs)))
    (all_of_run (IsMethod b x.class) (map method_entry es) x.methods c.loop-entry.entry-index x.spelled (omega (arith, l, c.loop-entry-test.false))) (c.loop-entry.invariant.wide x)

pub loop-entry-preserved : goal.loop-entry-preserved
loop-entry-preserved c =
    let b = c.args.sections.now in
    let es = c.args.entries.now in
    let k = c.loop-entry.entry-index in
    let d : MethodEntry = (record { step = 0; flags = 0; code = 0 }) in
    let own = c.requires.run.class in
    let f = method_step b es k d c.loop-entry-test.true c.loop-entry.index c.loop-entry.invariant.summed own c.requires.run.methods c.requires.run.spelled in
    let code = c.requires.run.codes k _ f.0 (there method_entry es k d c.loop-entry-test.true) f.1 in
    let mid : Surveyed = (record c.loop-entry.found { marks = c.mark.new.self }) in
    record {
      summed = next_index method_entry es k d c.loop-entry-test.true c.loop-entry.index (get_or es k d).step c.loop-entry.invariant.summed refl;
      small = method_small b c.loop-entry.found.marks own _ _ f.0 (has_marks b c.loop-entry.found c.loop-entry.invariant.known) f.2;
      known = has_found_after b mid c.visit_code.new.found (if_any names_of_code f.0.code) (has_found_after b c.loop-entry.found mid (self_name own f.0 ∷ []) c.loop-entry.invariant.known
          (finds_marked b c.loop-entry.found c.mark.new.self (self_name own f.0 ∷ []) (c.in_ok-mark.ensures.marked (self_name own f.0) (method_row b own _ _ f.0 f.2)))) (c.in_ok-visit_code.ensures.found f.0.code code);
      found = λ x.
          let g = method_step b es k d c.loop-entry-test.true c.loop-entry.index c.loop-entry.invariant.summed x.class x.methods x.spelled in
          next_method b c.args.found.now c.loop-entry.found c.visit_code.new.found x.class x.methods k g.0 g.1 (c.loop-entry.invariant.found x)
          (finds_more b c.loop-entry.found mid c.visit_code.new.found (self_name x.class g.0 ∷ []) (if_any names_of_code g.0.code)
          (finds_marked b c.loop-entry.found c.mark.new.self (self_name x.class g.0 ∷ []) (c.in_ok-mark.ensures.marked (self_name x.class g.0) (method_row b x.class _ _ g.0 g.2)))
          (c.in_ok-visit_code.ensures.found g.0.code (x.codes k _ g.0 (there method_entry es k d c.loop-entry-test.true) g.1)));
      wide = λ x.
          let g = method_step b es k d c.loop-entry-test.true c.loop-entry.index c.loop-entry.invariant.summed x.class x.methods x.spelled in
          subst (λ (n : ℕ). IsSum c.plus-sum.result n) (sym (next_body x.methods k g.0 g.1))
          (c.plus-sum.ensures (wide_all wide_body (bodies_in (take k x.methods))) (wide_body g.0.code) (c.loop-entry.invariant.wide x)
          (inl (c.in_ok-visit_code.ensures.wide g.0.code (x.codes k _ g.0 (there method_entry es k d c.loop-entry-test.true) g.1))));
    }

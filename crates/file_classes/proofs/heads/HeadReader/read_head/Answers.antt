use Rattle.std.proofs.Common.{refl, sym, map, subst, true≢false}
use Rattle.program_types.specs.View.{desc}
use Rattle.file_classes.specs.ClassData.{EntriesAt}
use Rattle.file_classes.specs.Classes.{InterfacesAt}
use Rattle.file_classes.specs.inner.Reading.{entries}
use Rattle.file_classes.proofs.MemberLaws.{head_stands, head_holds, member_breaks}
use Rattle.file_classes.proofs.PlaceLaws.{types_have_rows}
use Rattle.file_classes.proofs.RowFaults.{interface_list, class_order, class_data}
use Rattle.file_classes.proofs.heads.HeadReader.read_head.Goals as goal
use Rattle.dex_base.proofs.ListFacts.{passed}

pub returns-clause-ok : goal.returns-clause-ok
returns-clause-ok c =
    let b = c.args.self.now.sections.now in
    head_stands b c.args.i (entries c.in-Some-2.entries) _ c.in_ok-row.ensures.ok
    (rw (← c.class_word-list.ensures) (rw c.in-Some.is at c.in_ok-interfaces.ensures.found)) (rw (← c.class_word-data.ensures) (rw c.in-Some-2.is at c.in_ok-entries.ensures.found))
    (record { statics = c.in_ok-members.ensures.ok.statics; instances = c.in_ok-members.ensures.ok.instances; directs = c.in_ok-members.ensures.ok.directs; virtuals = c.in_ok-members.ensures.ok.virtuals })

pub returns-clause-holds : goal.returns-clause-holds
returns-clause-holds c =
    let b = c.args.self.now.sections.now in
    head_holds b c.args.i (entries c.in-Some-2.entries) (record {
      ty = c.in_ok-row.row.ty;
      flags = c.in_ok-row.row.flags;
      superclass = c.in_ok-row.row.superclass;
      interfaces = c.in-Some.interfaces;
      source = c.in_ok-row.row.source;
      statics = c.in_ok-members.members.statics;
      instances = c.in_ok-members.members.instances;
      directs = c.in_ok-members.members.directs;
      virtuals = c.in_ok-members.members.virtuals;
    }) c.in_ok-row.ensures.ok
    (rw (← c.class_word-list.ensures) (rw c.in-Some.is at c.in_ok-interfaces.ensures.found)) (rw (← c.class_word-data.ensures) (rw c.in-Some-2.is at c.in_ok-entries.ensures.found))
    (record { statics = c.in_ok-members.ensures.ok.statics; instances = c.in_ok-members.ensures.ok.instances; directs = c.in_ok-members.ensures.ok.directs; virtuals = c.in_ok-members.ensures.ok.virtuals }) (c.if-not-is_in_order.ensures.0 refl)

pub is_in_order-requires-clause-within : goal.is_in_order-requires-clause-within
is_in_order-requires-clause-within c =
    types_have_rows c.args.self.now.sections.now c.framed.ensures c.args.i _ _ _ _ (map desc c.in-Some.interfaces.now) c.in_ok-row.ensures.ok (rw (← c.class_word-list.ensures) (rw c.in-Some.is at c.in_ok-interfaces.ensures.found))

pub returns-in_err-members-clause-err : goal.returns-in_err-members-clause-err
returns-in_err-members-clause-err c =
    let b = c.args.self.now.sections.now in
    passed _ _ _ c.from_residual-in_err-members.ensures.1 (λ ne. member_breaks b c.args.i (entries c.in-Some-2.entries) _ (map desc c.in-Some.interfaces.now) c.in_ok-row.ensures.ok
    (rw (← c.class_word-list.ensures) (rw c.in-Some.is at c.in_ok-interfaces.ensures.found)) (c.if-not-is_in_order.ensures.0 refl) (rw (← c.class_word-data.ensures) (rw c.in-Some-2.is at c.in_ok-entries.ensures.found)) (c.in_err-members.ensures.err ne))

pub returns-in_default-clause-err : goal.returns-in_default-clause-err
returns-in_default-clause-err c =
    let b = c.args.self.now.sections.now in
    λ _. rw c.at.ensures (record {
      breaks = interface_list _ _ c.in_ok-row.ensures.ok (λ ts at. (rw c.in_default.is at c.in_ok-interfaces.ensures.none) ts (subst (λ n. InterfacesAt b n ts) (sym c.class_word-list.ensures) at));
      place = c.class_place-place.ensures;
    })

pub returns-then-not-is_in_order-clause-err : goal.returns-then-not-is_in_order-clause-err
returns-then-not-is_in_order-clause-err c =
    let b = c.args.self.now.sections.now in
    λ _. rw c.at-then-not-is_in_order.ensures (record {
      breaks = class_order _ _ c.in_ok-row.ensures.ok (subst (λ n. InterfacesAt b n (map desc c.in-Some.interfaces.now)) c.class_word-list.ensures (rw c.in-Some.is at c.in_ok-interfaces.ensures.found)) (λ o. true≢false (sym (c.if-not-is_in_order.ensures.1 o)));
      place = c.class_place-place.ensures;
    })

pub returns-in_default-2-clause-err : goal.returns-in_default-2-clause-err
returns-in_default-2-clause-err c =
    let b = c.args.self.now.sections.now in
    λ _. rw c.at-in_default-2.ensures (record {
      breaks = class_data _ _ c.in_ok-row.ensures.ok (subst (λ n. InterfacesAt b n (map desc c.in-Some.interfaces.now)) c.class_word-list.ensures (rw c.in-Some.is at c.in_ok-interfaces.ensures.found)) (c.if-not-is_in_order.ensures.0 refl)
          (λ e at. (rw c.in_default-2.is at c.in_ok-entries.ensures.none) e (subst (λ n. EntriesAt b n e) (sym c.class_word-data.ensures) at));
      place = c.class_place-place.ensures;
    })

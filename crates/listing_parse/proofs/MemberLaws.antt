-- The members of a class, in any order, as the reader adds them.
use Rattle.std.proofs.Common.{◌≡◌, ℕ, zero, suc, ◌≤◌, true, false, List, [], ◌∷◌, ◌++◌, length, Option, Some, None, option_map, refl, sym, ap, subst, ◌∙◌, append_assoc, arith, inl, inr}
use Rattle.std.specs.List.{AllByRecursion, flat_map, list_all}
use Rattle.program_types.specs.Content.{Code, Member, Method, Class}
use Rattle.program_types.specs.Key.{Key}
use Rattle.program_rules.specs.Rules.{member_key, method_key}
use Rattle.listing_lines.specs.Lines.{Line, end_class, static_line, instance_line, direct_line, virtual_line, open_code}
use Rattle.listing_lines.specs.Needs.{earliest}
use Rattle.listing_parse.specs.Members.{Given, given_key, is_held, put_in, with_member}
use Rattle.listing_parse.specs.States.{Open, Owner, ClassPart, at_members, after_method, at_top, in_class, State, with_code_at, with_static, with_instance, with_direct, with_virtual, at_part, with_block, inside, add}
use Rattle.dex_base.proofs.ListFacts.{all_append, all_back, all_front, by_kind}
use Rattle.listing_parse.specs.Codes.{Numbered, unnumbered, code_lines, has_targets_within}
use Rattle.listing_parse.specs.inner.Codes.{late_line}
use Rattle.listing_parse.specs.Classes.{at_most_one, ListedMember, static_entry, instance_entry, direct_entry, virtual_entry, its_code, entry_lines, method_with, static_in, instance_in, direct_in, virtual_in, code_in, TargetsWithin}
use Rattle.listing_parse.specs.inner.Runs.{at_line, Steps, Runs, is_outside, with_its_code}
use Rattle.listing_parse.proofs.LateLaws.{earliest_none, none_late, all_lead, neither_late, runs_late}
use Rattle.listing_parse.proofs.CodeLaws.{again, code_read, text_runs}
use Rattle.listing_parse.proofs.HeldLaws.{ArePut, code_write}
use Rattle.listing_parse.proofs.Numbering.{Splits, Front, more_front, front_then, Behind, goes, starts, splits, none_read, length_after, within, after_class, class_open}
use Rattle.listing_parse.proofs.StageLaws.{class_goes_on}

-- ---- one member more

-- What a member's line makes of the class, if it is no second one.
abbrev put_by : {X : Type 0} → (X → Key) → X → List X → (List X → Open) → ClassPart → State → Option State
put_by key x ys with q s = option_map (λ b. with_block s b) (option_map (λ (c : Open × ClassPart). in_class c.0 c.1) (at_part q (option_map with (with_member key x ys))))

put_step : {X : Type 0} (key : X → Key) (x : X) (ys : List X) (with : List X → Open) (q : ClassPart) (s u : State) → put_by key x ys with q s ≡ Some u
    → (is_held key (key x) ys ≡ false) × (with_block s (in_class (with (put_in key x ys)) q) ≡ u)
put_step key x ys with q s u e = elim (by_kind (is_held key (key x) ys)) [
  | inl h ↦ let k : None ≡ Some u = rw h at e in absurd cc
  | inr h ↦ let k : Some (with_block s (in_class (with (put_in key x ys)) q)) ≡ Some u = rw h at e in (h, cc)
]

put_goes : {X : Type 0} (key : X → Key) (x : X) (ys : List X) (with : List X → Open) (q : ClassPart) (s : State) → is_held key (key x) ys ≡ false → put_by key x ys with q s ≡ Some (with_block s (in_class (with (put_in key x ys)) q))
put_goes key x ys with q s h = rw h refl

-- ---- the code after a method

-- The class, whose method has the code, if there is one.
abbrev coded : Open → Owner → Option Code → Open
coded o m None = o
coded o m (Some c) = with_code_at o m c

record Followed (done : List Class) (late : Option ℕ) (o : Open) (m : Owner) (ls : List Numbered) (t : State) : Type 0 where
  code : Option Code
  front : Front ls (its_code code)
  reaches : AllByRecursion TargetsWithin (at_most_one code)
  line : ℕ
  runs : Runs (within at_members done late (coded o m code) line) front.after t

followed : (done : List Class) (late : Option ℕ) (o : Open) (m : Owner) (n : ℕ) (ls : List Numbered) (t : State) → t.block ≡ at_top → t.late ≡ None → Runs (within (after_method m) done late o n) ls t → Followed done late o m ls t
unfolding add inside
followed done late o m n [] t e f r = absurd (class_open (after_method m) done late o n t e r)
followed done late o m n ((k, open_code x i u) ∷ ls) t e f r =
    let s : State = record { done = done; block = at_top; lines = n; late = late } in
    let y = code_read s t o m k x i u ls (ap is_outside e) r in
    let c = y.code in
    let after = with_its_code s o m c (late_line (length c.insns) y.text) in
    let none = neither_late late (late_line (length c.insns) y.text) (runs_late after t y.after y.runs f) in
    let same : earliest late (late_line (length c.insns) y.text) ≡ late = ap (earliest late) none.1 ∙ earliest_none late in
    record {
      code = Some c;
      front = record { mine = y.text; after = y.after; split = y.split; word_values = y.is_text };
      reaches = (ap (list_all (has_targets_within (length c.insns))) (sym y.is_text) ∙ all_lead (length c.insns) y.text none.1, tt);
      line = n;
      runs = subst (λ l. Runs (within at_members done l (with_code_at o m c) n) y.after t) same y.runs;
    }
followed done late o m n ((k, l) ∷ ls) t e f r = record {
  code = None;
  front = record { mine = []; after = (k, l) ∷ ls; split = refl; word_values = refl };
  reaches = tt;
  line = n;
  runs = (r.0, record { stands = r.1.stands; added = r.1.added }, r.2);
}

code_follows : (done : List Class) (late : Option ℕ) (o : Open) (m : Owner) (n : ℕ) (c : Code) (ls : List Numbered) (more : List Line) (sp : Splits ls (code_lines c) more) (after : List Numbered) (t : State) → TargetsWithin c
    → Runs (within at_members done late (with_code_at o m c) n) (sp.back ++ after) t → Runs (within (after_method m) done late o n) (ls ++ after) t
code_follows done late o m n c ls more sp after t h r =
    let s : State = record { done = done; block = at_top; lines = n; late = late } in
    let none = none_late (length c.insns) sp.front (ap (list_all (has_targets_within (length c.insns))) sp.in_front ∙ h) in
    let same : late ≡ earliest late (late_line (length c.insns) sp.front) = sym (ap (earliest late) none ∙ earliest_none late) in
    let all = text_runs s t o m c sp.front (sp.back ++ after) sp.in_front (subst (λ l. Runs (within at_members done l (with_code_at o m c) n) (sp.back ++ after) t) same r) in
    subst (λ xs. Runs (within (after_method m) done late o n) xs t) (sym (ap (λ xs. xs ++ after) sp.is ∙ append_assoc sp.front sp.back after)) all

-- ---- methods with their codes

direct_owner : Method → Owner
direct_owner m = record { direct = true; method = method_key m }

virtual_owner : Method → Owner
virtual_owner m = record { direct = false; method = method_key m }

held_with : (m : Method) (c : Option Code) (ms : List Method) → is_held method_key (method_key (method_with m c)) ms ≡ is_held method_key (method_key m) ms
held_with m None ms = refl
held_with m (Some c) ms = refl

direct_coded : (o : Open) (m : Method) (c : Option Code) → is_held method_key (method_key m) o.directs ≡ false
    → coded (record o { directs = put_in method_key m o.directs }) (direct_owner m) c ≡ record o { directs = put_in method_key (method_with m c) o.directs }
unfolding direct_owner
direct_coded o m None h = refl
direct_coded o m (Some c) h = ap (λ ms. record o { directs = ms }) (code_write m c o.directs h)

virtual_coded : (o : Open) (m : Method) (c : Option Code) → is_held method_key (method_key m) o.virtuals ≡ false
    → coded (record o { virtuals = put_in method_key m o.virtuals }) (virtual_owner m) c ≡ record o { virtuals = put_in method_key (method_with m c) o.virtuals }
unfolding virtual_owner
virtual_coded o m None h = refl
virtual_coded o m (Some c) h = ap (λ ms. record o { virtuals = ms }) (code_write m c o.virtuals h)

-- ---- what is read is the text of members

-- The class with these members.
abbrev pub with_members : Open → List Given → List Member → List Method → List Method → Open
with_members o gs is ds vs = record o { statics = gs; instances = is; directs = ds; virtuals = vs }

pub record MembersRead (done : List Class) (late : Option ℕ) (o : Open) (ls : List Numbered) (t : State) : Type 0 where
  pub entries : List ListedMember
  pub front : Front ls (flat_map entry_lines entries ++ end_class ∷ [])
  pub behind : Behind (after_class done late) front.after t
  pub statics : ArePut given_key o.statics (flat_map static_in entries) behind.final.statics
  pub instances : ArePut member_key o.instances (flat_map instance_in entries) behind.final.instances
  pub directs : ArePut method_key o.directs (flat_map direct_in entries) behind.final.directs
  pub virtuals : ArePut method_key o.virtuals (flat_map virtual_in entries) behind.final.virtuals
  pub same : behind.final ≡ with_members o behind.final.statics behind.final.instances behind.final.directs behind.final.virtuals
  pub reaches : AllByRecursion TargetsWithin (flat_map code_in entries)

pub members_read : (f : ℕ) (ls : List Numbered) → length ls ≤ f → (done : List Class) (late : Option ℕ) (o : Open) (k : ℕ) (t : State) → t.block ≡ at_top → t.late ≡ None → Runs (within at_members done late o k) ls t → MembersRead done late o ls t
unfolding add inside with_static with_instance with_direct with_virtual direct_owner virtual_owner
members_read f [] q done late o k t top fine r = absurd (class_open at_members done late o k t top r)
members_read zero (l ∷ ls) q done late o k t top fine r = absurd (omega arith)
members_read (suc f) ((n, static_line m v) ∷ ls) q done late o k t top fine r =
    let g : Given = record { field = m; value = v } in
    let p = put_step given_key g o.statics (λ gs. record o { statics = gs }) at_members (at_line (within at_members done late o k) n) r.0 r.1.added in
    let y = members_read f ls (omega arith) done late (record o { statics = put_in given_key g o.statics }) n t top fine (subst (λ u. Runs u ls t) (sym p.1) r.2) in
    record {
      entries = static_entry g ∷ y.entries;
      front = more_front {xs = flat_map entry_lines y.entries ++ end_class ∷ []} n (static_line m v) y.front;
      behind = y.behind;
      statics = (p.0, y.statics);
      instances = y.instances;
      directs = y.directs;
      virtuals = y.virtuals;
      same = y.same;
      reaches = y.reaches;
    }
members_read (suc f) ((n, instance_line m) ∷ ls) q done late o k t top fine r =
    let p = put_step member_key m o.instances (λ ms. record o { instances = ms }) at_members (at_line (within at_members done late o k) n) r.0 r.1.added in
    let y = members_read f ls (omega arith) done late (record o { instances = put_in member_key m o.instances }) n t top fine (subst (λ u. Runs u ls t) (sym p.1) r.2) in
    record {
      entries = instance_entry m ∷ y.entries;
      front = more_front {xs = flat_map entry_lines y.entries ++ end_class ∷ []} n (instance_line m) y.front;
      behind = y.behind;
      statics = y.statics;
      instances = (p.0, y.instances);
      directs = y.directs;
      virtuals = y.virtuals;
      same = y.same;
      reaches = y.reaches;
    }
members_read (suc f) ((n, direct_line m) ∷ ls) q done late o k t top fine r =
    let w = direct_owner m in
    let o1 = record o { directs = put_in method_key m o.directs } in
    let p = put_step method_key m o.directs (λ ms. record o { directs = ms }) (after_method w) (at_line (within at_members done late o k) n) r.0 r.1.added in
    let x = followed done late o1 w n ls t top fine (subst (λ u. Runs u ls t) (sym p.1) r.2) in
    let o2 = record o { directs = put_in method_key (method_with m x.code) o.directs } in
    let fewer = length_after ls x.front.mine x.front.after x.front.split in
    let y = members_read f x.front.after (omega arith) done late o2 x.line t top fine (subst (λ z. Runs (within at_members done late z x.line) x.front.after t) (direct_coded o m x.code p.0) x.runs) in
    record {
      entries = direct_entry m x.code ∷ y.entries;
      front = more_front {xs = (its_code x.code ++ flat_map entry_lines y.entries) ++ end_class ∷ []} n (direct_line m) (front_then x.front y.front (sym (append_assoc (its_code x.code) (flat_map entry_lines y.entries) (end_class ∷ []))));
      behind = y.behind;
      statics = y.statics;
      instances = y.instances;
      directs = (held_with m x.code o.directs ∙ p.0, y.directs);
      virtuals = y.virtuals;
      same = y.same;
      reaches = all_append TargetsWithin (at_most_one x.code) (flat_map code_in y.entries) x.reaches y.reaches;
    }
members_read (suc f) ((n, virtual_line m) ∷ ls) q done late o k t top fine r =
    let w = virtual_owner m in
    let o1 = record o { virtuals = put_in method_key m o.virtuals } in
    let p = put_step method_key m o.virtuals (λ ms. record o { virtuals = ms }) (after_method w) (at_line (within at_members done late o k) n) r.0 r.1.added in
    let x = followed done late o1 w n ls t top fine (subst (λ u. Runs u ls t) (sym p.1) r.2) in
    let o2 = record o { virtuals = put_in method_key (method_with m x.code) o.virtuals } in
    let fewer = length_after ls x.front.mine x.front.after x.front.split in
    let y = members_read f x.front.after (omega arith) done late o2 x.line t top fine (subst (λ z. Runs (within at_members done late z x.line) x.front.after t) (virtual_coded o m x.code p.0) x.runs) in
    record {
      entries = virtual_entry m x.code ∷ y.entries;
      front = more_front {xs = (its_code x.code ++ flat_map entry_lines y.entries) ++ end_class ∷ []} n (virtual_line m) (front_then x.front y.front (sym (append_assoc (its_code x.code) (flat_map entry_lines y.entries) (end_class ∷ []))));
      behind = y.behind;
      statics = y.statics;
      instances = y.instances;
      directs = y.directs;
      virtuals = (held_with m x.code o.virtuals ∙ p.0, y.virtuals);
      same = y.same;
      reaches = all_append TargetsWithin (at_most_one x.code) (flat_map code_in y.entries) x.reaches y.reaches;
    }
members_read (suc f) ((n, end_class) ∷ ls) q done late o k t top fine r =
    let e : r.0 ≡ after_class done late o n = let h : Some (after_class done late o n) ≡ Some r.0 = r.1.added in cc in
    record {
      entries = [];
      front = record { mine = (n, end_class) ∷ []; after = ls; split = refl; word_values = refl };
      behind = record { final = o; line = n; runs = subst (λ u. Runs u ls t) e r.2 };
      statics = refl;
      instances = refl;
      directs = refl;
      virtuals = refl;
      same = refl;
      reaches = tt;
    }
members_read (suc f) ((n, l) ∷ ls) q done late o k t top fine r = let h = r.1.stands in absurd cc

-- ---- the text of members is read

four : (o final : Open) → final ≡ with_members o final.statics final.instances final.directs final.virtuals → o.statics ≡ final.statics → o.instances ≡ final.instances → o.directs ≡ final.directs → o.virtuals ≡ final.virtuals → final ≡ o
four o final e a b c d =
    e
    ∙ ap (λ x. with_members o x final.instances final.directs final.virtuals) (sym a)
    ∙ ap (λ x. with_members o o.statics x final.directs final.virtuals) (sym b)
    ∙ ap (λ x. with_members o o.statics o.instances x final.virtuals) (sym c)
    ∙ ap (λ x. with_members o o.statics o.instances o.directs x) (sym d)

-- A method and its code, and what is read after them.
method_goes : (i : Option Code) (l : Line) (w : Owner) (es : List ListedMember) (p : ClassPart) (done : List Class) (late : Option ℕ) (o o1 o2 : Open) (k : ℕ) (after : List Numbered) (t : State) (ls : List Numbered)
    → unnumbered ls ≡ l ∷ ((its_code i ++ flat_map entry_lines es) ++ end_class ∷ []) → ((n : ℕ) → Steps (within p done late o k) n l (within (after_method w) done late o1 n)) → coded o1 w i ≡ o2 → AllByRecursion TargetsWithin (at_most_one i)
    → ((q : ClassPart) (n : ℕ) (ns : List Numbered) → unnumbered ns ≡ flat_map entry_lines es ++ end_class ∷ [] → Runs (within q done late o2 n) (ns ++ after) t) → Runs (within p done late o k) (ls ++ after) t
method_goes None l w es p done late o o1 o2 k after t ls e step same reaches rest =
    let st = starts ls l (flat_map entry_lines es ++ end_class ∷ []) e in
    goes (within p done late o k) (within (after_method w) done late o1 st.number) ls after t l (flat_map entry_lines es ++ end_class ∷ []) st (step st.number)
    (subst (λ h. Runs (within (after_method w) done late h st.number) (st.rest ++ after) t) (sym same) (rest (after_method w) st.number st.rest st.word_values))
method_goes (Some i) l w es p done late o o1 o2 k after t ls e step same reaches rest =
    let more = flat_map entry_lines es ++ end_class ∷ [] in
    let st = starts ls l ((code_lines i ++ flat_map entry_lines es) ++ end_class ∷ []) e in
    let sp = splits st.rest (code_lines i) more (st.word_values ∙ append_assoc (code_lines i) (flat_map entry_lines es) (end_class ∷ [])) in
    let z = subst (λ h. Runs (within at_members done late h st.number) (sp.back ++ after) t) (sym same) (rest at_members st.number sp.back sp.after) in
    goes (within p done late o k) (within (after_method w) done late o1 st.number) ls after t l ((code_lines i ++ flat_map entry_lines es) ++ end_class ∷ []) st (step st.number) (code_follows done late o1 w st.number i st.rest more sp after t reaches.0 z)

pub members_go : (es : List ListedMember) (p : ClassPart) (done : List Class) (late : Option ℕ) (o : Open) (k : ℕ) (after : List Numbered) (t : State) (m : ℕ) (ls : List Numbered) → unnumbered ls ≡ flat_map entry_lines es ++ end_class ∷ [] → (final : Open)
    → ArePut given_key o.statics (flat_map static_in es) final.statics → ArePut member_key o.instances (flat_map instance_in es) final.instances → ArePut method_key o.directs (flat_map direct_in es) final.directs → ArePut method_key o.virtuals (flat_map virtual_in es) final.virtuals
    → final ≡ with_members o final.statics final.instances final.directs final.virtuals → AllByRecursion TargetsWithin (flat_map code_in es) → Runs (after_class done late final m) after t → Runs (within p done late o k) (ls ++ after) t
unfolding add inside with_static with_instance with_direct with_virtual direct_owner virtual_owner
members_go [] p done late o k after t m ls e final a b c d same reaches r =
    let st = starts ls end_class [] e in
    let u = after_class done late o st.number in
    let h = subst (λ x. Runs (after_class done late x m) after t) (four o final same a b c d) r in
    let g = again (after_class done late o m) t after st.number h in
    goes (within p done late o k) u ls after t end_class [] st (record { stands = class_goes_on p; added = refl }) (subst (λ xs. Runs u (xs ++ after) t) (sym (none_read st.rest st.word_values)) g)
members_go (static_entry g ∷ es) p done late o k after t m ls e final a b c d same reaches r =
    let st = starts ls (static_line g.field g.value) (flat_map entry_lines es ++ end_class ∷ []) e in
    let s = at_line (within p done late o k) st.number in
    let o1 = record o { statics = put_in given_key g o.statics } in
    let y = members_go es at_members done late o1 st.number after t m st.rest st.word_values final a.1 b c d same reaches r in
    goes (within p done late o k) (within at_members done late o1 st.number) ls after t (static_line g.field g.value) (flat_map entry_lines es ++ end_class ∷ []) st (record { stands = class_goes_on p; added = put_goes given_key g o.statics (λ gs. record o { statics = gs }) at_members s a.0 }) y
members_go (instance_entry x ∷ es) p done late o k after t m ls e final a b c d same reaches r =
    let st = starts ls (instance_line x) (flat_map entry_lines es ++ end_class ∷ []) e in
    let s = at_line (within p done late o k) st.number in
    let o1 = record o { instances = put_in member_key x o.instances } in
    let y = members_go es at_members done late o1 st.number after t m st.rest st.word_values final a b.1 c d same reaches r in
    goes (within p done late o k) (within at_members done late o1 st.number) ls after t (instance_line x) (flat_map entry_lines es ++ end_class ∷ []) st (record { stands = class_goes_on p; added = put_goes member_key x o.instances (λ ms. record o { instances = ms }) at_members s b.0 }) y
members_go (direct_entry x i ∷ es) p done late o k after t m ls e final a b c d same reaches r =
    let n = sym (held_with x i o.directs) ∙ c.0 in
    let step = λ (j : ℕ). put_goes method_key x o.directs (λ ms. record o { directs = ms }) (after_method (direct_owner x)) (at_line (within p done late o k) j) n in
    method_goes i (direct_line x) (direct_owner x) es p done late o (record o { directs = put_in method_key x o.directs }) _ k after t ls e (λ j. record { stands = class_goes_on p; added = step j }) (direct_coded o x i n)
    (all_front TargetsWithin (at_most_one i) (flat_map code_in es) reaches)
    (λ q j ns word_values. members_go es q done late _ j after t m ns word_values final a b c.1 d same (all_back TargetsWithin (at_most_one i) (flat_map code_in es) reaches) r)
members_go (virtual_entry x i ∷ es) p done late o k after t m ls e final a b c d same reaches r =
    let n = sym (held_with x i o.virtuals) ∙ d.0 in
    let step = λ (j : ℕ). put_goes method_key x o.virtuals (λ ms. record o { virtuals = ms }) (after_method (virtual_owner x)) (at_line (within p done late o k) j) n in
    method_goes i (virtual_line x) (virtual_owner x) es p done late o (record o { virtuals = put_in method_key x o.virtuals }) _ k after t ls e (λ j. record { stands = class_goes_on p; added = step j }) (virtual_coded o x i n)
    (all_front TargetsWithin (at_most_one i) (flat_map code_in es) reaches)
    (λ q j ns word_values. members_go es q done late _ j after t m ns word_values final a b c d.1 same (all_back TargetsWithin (at_most_one i) (flat_map code_in es) reaches) r)

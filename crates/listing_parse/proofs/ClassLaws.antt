-- The lines of classes, as the reader adds them.
use Rattle.std.proofs.Common.{◌≡◌, ℕ, zero, suc, ◌≤◌, List, [], ◌∷◌, ◌++◌, length, map, None, refl, sym, ap, subst, ◌∙◌, append_assoc, arith}
use Rattle.std.specs.List.{flat_map}
use Rattle.std.proofs.lemmas.List.{append-nil}
use Rattle.program_types.specs.Content.{Descriptor, Class, Program}
use Rattle.program_types.specs.Key.{Key}
use Rattle.program_rules.specs.Rules.{member_key, method_key}
use Rattle.listing_lines.specs.Lines.{Line, open_class, end_class}
use Rattle.listing_parse.specs.Members.{Given, given_key, values_of}
use Rattle.listing_parse.specs.States.{Open, at_heads, at_top, State, opened, closed, with_block, add}
use Rattle.listing_parse.specs.Codes.{Numbered, unnumbered}
use Rattle.listing_parse.specs.Classes.{AreSorted, entry_lines, static_in, instance_in, direct_in, virtual_in, ClassText, ClassesText}
use Rattle.listing_parse.specs.inner.Runs.{at_line, Runs, with_class, with_classes, RunsBehindClass, RunsToClasses}
use Rattle.listing_parse.proofs.CodeLaws.{next, again}
use Rattle.listing_parse.proofs.HeldLaws.{ArePut, put_are_held, held_are_put}
use Rattle.listing_parse.proofs.ValueLaws.{values_one, values_there}
use Rattle.listing_parse.proofs.Numbering.{more_front, front_then, goes, starts, splits, none_read, read_append, length_after, within, after_class}
use Rattle.listing_parse.proofs.HeadLaws.{with_heads, heads_read, heads_go}
use Rattle.listing_parse.proofs.MemberLaws.{with_members, members_read, members_go}

-- The class that a read one is.
read_class : (d : Descriptor) (fl : ℕ) (o final : Open) → o ≡ with_heads (opened d fl) o.superclass o.interfaces o.source → final ≡ with_members o final.statics final.instances final.directs final.virtuals
    → closed final ≡ closed (with_members (with_heads (opened d fl) o.superclass o.interfaces o.source) final.statics final.instances final.directs final.virtuals)
read_class d fl o final e f = ap closed f ∙ ap (λ x. closed (with_members x final.statics final.instances final.directs final.virtuals)) e

-- Before its members a class has none.
none_yet : (d : Descriptor) (fl : ℕ) (h : Open) → h ≡ with_heads (opened d fl) h.superclass h.interfaces h.source → (h.statics ≡ []) × (h.instances ≡ []) × (h.directs ≡ []) × (h.virtuals ≡ [])
none_yet d fl h e = (ap (λ (o : Open). o.statics) e, ap (λ (o : Open). o.instances) e, ap (λ (o : Open). o.directs) e, ap (λ (o : Open). o.virtuals) e)

held_from : {X : Type 0} (key : X → Key) (ys xs zs : List X) → ys ≡ [] → ArePut key ys xs zs → AreSorted key xs zs
held_from key ys xs zs e h = put_are_held key xs zs (subst (λ y. ArePut key y xs zs) e h)

pub class_read : (s t : State) (n fl : ℕ) (d : Descriptor) (ls : List Numbered) → t.block ≡ at_top → t.late ≡ None → Runs (with_block s at_top) ((n, open_class d fl) ∷ ls) t → RunsBehindClass s ((n, open_class d fl) ∷ ls) t
unfolding add
class_read s t n fl d ls top fine r =
    let h = heads_read ls s.done s.late (opened d fl) n t tt top (next r.0 (within at_heads s.done s.late (opened d fl) n) ls t r.1.added r.2) in
    let head = h.behind.final in
    let m = members_read (length h.front.after) h.front.after (omega arith) s.done s.late head h.behind.line t top fine h.behind.runs in
    let o = m.behind.final in
    let c = closed (with_members (with_heads (opened d fl) head.superclass head.interfaces head.source) o.statics o.instances o.directs o.virtuals) in
    let e : closed o ≡ c = read_class d fl head o h.same m.same in
    let none = none_yet d fl head h.same in
    let f = more_front n (open_class d fl) (front_then h.front m.front refl) in
    record {
      class = c;
      text = f.mine;
      after = f.after;
      split = f.split;
      is_text = record {
        heads = h.heads;
        entries = m.entries;
        lines = f.word_values;
        are_heads = h.are_heads;
        superclass = h.superclass;
        interfaces = h.interfaces;
        none_twice = h.none_twice;
        source = h.source;
        statics = o.statics;
        statics_held = held_from given_key head.statics (flat_map static_in m.entries) o.statics none.0 m.statics;
        fields = refl;
        values = values_there o.statics;
        instances = held_from member_key head.instances (flat_map instance_in m.entries) o.instances none.1 m.instances;
        directs = held_from method_key head.directs (flat_map direct_in m.entries) o.directs none.2 m.directs;
        virtuals = held_from method_key head.virtuals (flat_map virtual_in m.entries) o.virtuals none.3 m.virtuals;
        targets = m.reaches;
      };
      runs = subst (λ x. Runs (with_class s x) f.after t) e (again (after_class s.done s.late o m.behind.line) t f.after s.lines m.behind.runs);
    }

-- The class, made of its parts.
given_class : (c : Class) (gs : List Given) → map (λ (g : Given). g.field) gs ≡ c.statics → c.values ≡ values_of gs
    → closed (with_members (with_heads (opened c.ty c.flags) c.superclass c.interfaces c.source) gs c.instances c.directs c.virtuals) ≡ c
given_class c gs e f = ap (λ x. record c { statics = x; values = values_of gs }) e ∙ ap (λ x. record c { values = x }) (sym f)

pub class_runs : (s t : State) (c : Class) (text after : List Numbered) → ClassText (unnumbered text) c → Runs (with_class s c) after t → Runs (with_block s at_top) (text ++ after) t
unfolding add
class_runs s t c text after x r =
    let o = opened c.ty c.flags in
    let h = with_heads o c.superclass c.interfaces c.source in
    let f = with_members h x.statics c.instances c.directs c.virtuals in
    let more = flat_map entry_lines x.entries ++ end_class ∷ [] in
    let st = starts text (open_class c.ty c.flags) (x.heads ++ more) x.lines in
    let sp = splits st.rest x.heads more st.word_values in
    let e : closed f ≡ c = given_class c x.statics x.fields (values_one x.statics c.values x.values) in
    let r1 = subst (λ y. Runs (with_class s y) after t) (sym e) r in
    let m : (k : ℕ) → Runs (within at_heads s.done s.late h k) (sp.back ++ after) t =
    λ k. members_go x.entries at_heads s.done s.late h k after t s.lines sp.back sp.after f (held_are_put given_key (flat_map static_in x.entries) x.statics x.statics_held) (held_are_put member_key (flat_map instance_in x.entries) c.instances x.instances)
    (held_are_put method_key (flat_map direct_in x.entries) c.directs x.directs) (held_are_put method_key (flat_map virtual_in x.entries) c.virtuals x.virtuals) refl x.targets r1 in
    let g = heads_go x.heads s.done s.late o st.number (sp.back ++ after) t sp.front sp.in_front x.are_heads h x.superclass x.interfaces x.none_twice x.source refl m in
    let g1 = subst (λ ys. Runs (within at_heads s.done s.late o st.number) ys t) (sym (append_assoc sp.front sp.back after)) g in
    let g2 = subst (λ ys. Runs (within at_heads s.done s.late o st.number) (ys ++ after) t) (sym sp.is) g1 in
    goes (with_block s at_top) (within at_heads s.done s.late o st.number) text after t (open_class c.ty c.flags) (x.heads ++ more) st (record { stands = refl; added = refl }) g2

pub class_goes : (s t : State) (ls : List Numbered) → RunsBehindClass s ls t → Runs (with_block s at_top) ls t
class_goes s t ls x = subst (λ ys. Runs (with_block s at_top) ys t) (sym x.split) (class_runs s t x.class x.text x.after x.is_text x.runs)

-- ---- all classes

fewer : (l : Numbered) (ls text after : List Numbered) (x : Line) (xs : List Line) (f : ℕ) → l ∷ ls ≡ text ++ after → unnumbered text ≡ x ∷ xs → length (l ∷ ls) ≤ suc f → length after ≤ f
fewer l ls [] after x xs f e h q = absurd cc
fewer l ls (k ∷ text) after x xs f e h q = let t : ls ≡ text ++ after = cc in let m = length_after ls text after t in omega arith

classes_by : (f : ℕ) (s t : State) (ls : List Numbered) → length ls ≤ f → t.block ≡ at_top → t.late ≡ None → Runs (with_block s at_top) ls t → RunsToClasses s ls t
classes_by f s t [] q top fine r = record { classes = []; are_texts = refl; whole = r ∙ ap (λ x. record s { done = x; block = at_top; lines = t.lines }) (sym (append-nil s.done)) }
classes_by zero s t (l ∷ ls) q top fine r = absurd (omega arith)
classes_by (suc f) s t ((n, open_class d fl) ∷ ls) q top fine r =
    let x = class_read s t n fl d ls top fine r in
    let few = fewer (n, open_class d fl) ls x.text x.after (open_class x.class.ty x.class.flags) (x.is_text.heads ++ (flat_map entry_lines x.is_text.entries ++ end_class ∷ [])) f x.split x.is_text.lines q in
    let y = classes_by f (with_class s x.class) t x.after few top fine x.runs in
    record {
      classes = x.class ∷ y.classes;
      are_texts = (unnumbered x.text, unnumbered x.after, ap unnumbered x.split ∙ read_append x.text x.after, x.is_text, y.are_texts);
      whole = y.whole ∙ ap (λ z. record s { done = z; block = at_top; lines = t.lines }) (append_assoc s.done (x.class ∷ []) y.classes);
    }
classes_by (suc f) s t ((n, l) ∷ ls) q top fine r = let h = r.1.stands in absurd cc

pub classes_read : (s t : State) (ls : List Numbered) → t.block ≡ at_top → t.late ≡ None → Runs (with_block s at_top) ls t → RunsToClasses s ls t
classes_read s t ls top fine r = classes_by (length ls) s t ls (omega arith) top fine r

classes_run : (p : Program) (s t : State) (ls : List Numbered) → ClassesText (unnumbered ls) p → t ≡ with_classes s p t.lines → Runs (with_block s at_top) ls t
classes_run [] s t ls x e =
    let h : t ≡ at_line (with_block s at_top) t.lines = e ∙ ap (λ z. record s { done = z; block = at_top; lines = t.lines }) (append-nil s.done) in
    subst (λ ys. Runs (with_block s at_top) ys t) (sym (none_read ls x)) h
classes_run (c ∷ p) s t ls x e =
    let sp = splits ls x.0 x.1 x.2 in
    let h = e ∙ ap (λ z. record s { done = z; block = at_top; lines = t.lines }) (sym (append_assoc s.done (c ∷ []) p)) in
    let y = classes_run p (with_class s c) t sp.back (subst (λ z. ClassesText z p) (sym sp.after) x.4) h in
    subst (λ ys. Runs (with_block s at_top) ys t) (sym sp.is) (class_runs s t c sp.front sp.back (subst (λ z. ClassText z c) (sym sp.in_front) x.3) y)

pub classes_go : (s t : State) (ls : List Numbered) → RunsToClasses s ls t → Runs (with_block s at_top) ls t
classes_go s t ls x = classes_run x.classes s t ls x.are_texts x.whole

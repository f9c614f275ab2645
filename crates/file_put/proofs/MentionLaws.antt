-- The indices of what bodies name, body by body.
use Rattle.std.proofs.Common.{ℕ, zero, suc, ◌+◌, ◌<◌, ◌≤◌, ◌++◌, List, [], ◌∷◌, map, length, get_or, take, drop, arith, append_assoc, length-append, subst, ◌≡◌, ◌∙◌, ap, sym, None}
use Rattle.std.proofs.lemmas.List.{length-map}
use Rattle.std.specs.List.{flat_map}
use Rattle.program_types.specs.Content.{Name}
use Rattle.program_types.specs.View as view
use Rattle.program_types.specs.declared.class.Class as made
use Rattle.program_types.specs.declared.class.Member as made_member
use Rattle.program_types.specs.declared.class.Method as made_method
use Rattle.program_types.specs.Mentions.{field_of_class}
use Rattle.tables_names.specs.Closure.{Five, NameRanks, method_of_class}
use Rattle.tables_names.specs.Noted.{AreRanks}
use Rattle.code_write.proofs.MentionLaws.{zip_split}
use Rattle.file_needed.specs.inner.Bodies.{defined_in, named_in_body, named_in_code}
use Rattle.file_put.proofs.NumberLaws.{no_proto}
use Rattle.file_put.specs.inner.Named.{fields_of, methods_of}

abbrev pub no_method : made_method.Method
no_method = record {
  name = record { units = record { ref_ptr = (0, 0); now = [] } };
  proto = record { ref_ptr = (0, 0); now = no_proto };
  flags = 0;
  code = None;
}

abbrev pub no_member : made_member.Member
no_member = record {
  name = record { units = record { ref_ptr = (0, 0); now = [] } };
  ty = record { text = record { units = record { ref_ptr = (0, 0); now = [] } } };
  flags = 0;
}

module _ (s : Five) where
  -- those of the next element, and those of the elements after it
  pub next_named : {A V : Type 0} (f : V → List Name) (g : A → V) (xs : List A) (k : ℕ) (d : A) (more : List Name) (rest : List ℕ) → k < length xs → AreRanks s (flat_map f (map g (drop k xs)) ++ more) rest
      → let own = f (g (get_or xs k d)) in (length own ≤ length rest) × AreRanks s own (take (length own) rest) × AreRanks s (flat_map f (map g (drop (suc k) xs)) ++ more) (drop (length own) rest)
  next_named f g [] k d more rest lt h = absurd (omega (arith, lt))
  next_named f g (x ∷ xs) zero d more rest lt h =
      zip_split (λ name i. NameRanks s i name) (f (g x)) (flat_map f (map g xs) ++ more) rest (subst (λ (l : List Name). AreRanks s l rest) (append_assoc (f (g x)) (flat_map f (map g xs)) more) h)
  next_named f g (x ∷ xs) (suc k) d more rest lt h = next_named f g xs k d more rest (omega (arith, lt)) h

  -- those of a class's direct methods come before those of its virtual ones, and these before those of other classes
  pub next_class : (cs : List made.Class) (i : ℕ) (d : made.Class) (more : List Name) (rest : List ℕ) → i < length cs → AreRanks s (named_in_code (map view.class (drop i cs)) ++ more) rest
      → AreRanks s (flat_map named_in_body (map view.method (get_or cs i d).directs.now) ++ (flat_map named_in_body (map view.method (get_or cs i d).virtuals.now) ++ (named_in_code (map view.class (drop (suc i) cs)) ++ more))) rest
  next_class [] i d more rest lt h = absurd (omega (arith, lt))
  next_class (c ∷ cs) zero d more rest lt h = simp append_assoc at h
  next_class (c ∷ cs) (suc i) d more rest lt h = next_class cs i d more rest (omega (arith, lt)) h

  -- the index of a member of a class
  pub member_ranked : {A V : Type 0} (f : V → Name) (g : A → V) (xs : List A) (own : List ℕ) (i : ℕ) (d : A) → i < length xs → AreRanks s (map f (map g xs)) own → (i < length own) × NameRanks s (get_or own i 0) (f (g (get_or xs i d)))
  member_ranked f g [] own i d lt all = absurd (omega (arith, lt))
  member_ranked f g (x ∷ xs) [] i d lt all = absurd all
  member_ranked f g (x ∷ xs) (n ∷ own) zero d lt all = (omega arith, all.0)
  member_ranked f g (x ∷ xs) (n ∷ own) (suc i) d lt all = let rest = member_ranked f g xs own i d (omega (arith, lt)) all.1 in (omega (arith, rest.0), rest.1)

  -- the next class's members: its fields, its methods, and those of the classes after it
  pub next_members : (cs : List made.Class) (i : ℕ) (d : made.Class) (rest : List ℕ) → i < length cs → AreRanks s (defined_in (map view.class (drop i cs))) rest
      → let c = view.class (get_or cs i d) in
      let m = length (fields_of c) in
      let n = length (methods_of c) in
      (m ≤ length rest) × AreRanks s (fields_of c) (take m rest) × (n ≤ length (drop m rest)) × AreRanks s (methods_of c) (take n (drop m rest)) × AreRanks s (defined_in (map view.class (drop (suc i) cs))) (drop n (drop m rest))
  next_members [] i d rest lt h = absurd (omega (arith, lt))
  next_members (k ∷ cs) zero d rest lt h =
      let c = view.class k in
      let R = λ (name : Name) (i : ℕ). NameRanks s i name in
      let others = defined_in (map view.class cs) in
      let all : AreRanks s (fields_of c ++ (methods_of c ++ others)) rest = simp append_assoc (simp append_assoc at h) in
      let one = zip_split R (fields_of c) (methods_of c ++ others) rest all in
      let two = zip_split R (methods_of c) others (drop (length (fields_of c)) rest) one.2 in
      (one.0, one.1, two.0, two.1, two.2)
  next_members (k ∷ cs) (suc i) d rest lt h = next_members cs i d rest (omega (arith, lt)) h

  -- the first of two lists of members of a class, and the second
  pub members_split : {A V : Type 0} (f : V → Name) (g : A → V) (xs ys : List A) (own front back : List ℕ) → AreRanks s (map f (map g xs) ++ map f (map g ys)) own → front ≡ take (length xs) own → back ≡ drop (length xs) own → AreRanks s (map f (map g xs)) front × AreRanks s (map f (map g ys)) back
  members_split f g xs ys own front back all low high =
      let n : length (map f (map g xs)) ≡ length xs = length-map (map g xs) f ∙ length-map xs g in
      let both = zip_split (λ name i. NameRanks s i name) (map f (map g xs)) (map f (map g ys)) own all in (
        subst (AreRanks s (map f (map g xs))) (sym (low ∙ ap (λ (k : ℕ). take k own) (sym n))) both.1,
        subst (AreRanks s (map f (map g ys))) (sym (high ∙ ap (λ (k : ℕ). drop k own) (sym n))) both.2,
      )

  pub members_within : {A V : Type 0} (f : V → Name) (g : A → V) (xs ys : List A) (own : List ℕ) → AreRanks s (map f (map g xs) ++ map f (map g ys)) own → length xs ≤ length own
  members_within f g xs ys own all =
      let n : length (map f (map g xs)) ≡ length xs = length-map (map g xs) f ∙ length-map xs g in
      omega (arith, n, (zip_split (λ name i. NameRanks s i name) (map f (map g xs)) (map f (map g ys)) own all).0)

-- how many fields and methods a class in memory has
pub fields_count : (c : made.Class) → length (fields_of (view.class c)) ≡ length c.statics.now + length c.instances.now
fields_count c = length-append (map (field_of_class (view.desc c.ty)) (map view.member c.statics.now)) (map (field_of_class (view.desc c.ty)) (map view.member c.instances.now))
    ∙ (λ i. (length-map (map view.member c.statics.now) (field_of_class (view.desc c.ty)) ∙ length-map c.statics.now view.member) i + (length-map (map view.member c.instances.now) (field_of_class (view.desc c.ty)) ∙ length-map c.instances.now view.member) i)

pub methods_count : (c : made.Class) → length (methods_of (view.class c)) ≡ length c.directs.now + length c.virtuals.now
methods_count c = length-append (map (method_of_class (view.desc c.ty)) (map view.method c.directs.now)) (map (method_of_class (view.desc c.ty)) (map view.method c.virtuals.now))
    ∙ (λ i. (length-map (map view.method c.directs.now) (method_of_class (view.desc c.ty)) ∙ length-map c.directs.now view.method) i + (length-map (map view.method c.virtuals.now) (method_of_class (view.desc c.ty)) ∙ length-map c.virtuals.now view.method) i)

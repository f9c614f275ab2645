-- Entries of a map as members in their order.
use Rattle.std.proofs.Common.{◌≡◌, ℕ, Bool, true, false, not, cond, MatchBool, if◌then◌else◌, ◌||◌, List, [], ◌∷◌, map, Option, Some, None, is_some, refl, sym, ap, ◌∙◌}
use Rattle.std.specs.Ordering.{is_eq, is_lt, match_ordering}
use Rattle.std.specs.Map.{lookup, set_value}
use Rattle.std.specs.BTreeMap.{insert_entry}
use Rattle.std.specs.declared.cmp.Ordering.{Ordering}
use Rattle.std.specs.declared.cmp.Ordering.TheVariants as ordering
use Rattle.std.specs.Borrow.{Bor}
use Rattle.std.specs.Ordering.{ordering_then}
use Rattle.program_types.specs.Content.{Code}
use Rattle.program_types.specs.Key.{Key, units_cmp, key_cmp, proto_key}
use Rattle.program_types.specs.KeyLaws.{ordering_then-equal, derived_proto_cmp, proto_cmp}
use Rattle.program_types.specs.View.{str, desc, proto, code}
use Rattle.program_types.specs.declared.names.Str.{Str}
use Rattle.program_types.specs.declared.names.Desc.{Desc}
use Rattle.program_types.specs.declared.names.Proto.{Proto}
use Rattle.program_types.specs.declared.code.Code.{Code as Put}
use Rattle.program_rules.specs.Rules.{member_key, method_key}
use Rattle.listing_parse.specs.declared.open_class.Static.{Static}
use Rattle.listing_parse.specs.declared.open_class.Defined.{Defined}
use Rattle.listing_parse.specs.Members.{given_key, is_held, put_in, with_member}
use Rattle.listing_parse.specs.States.{Open, with_static, with_instance, with_direct, with_virtual, with_code}
use Rattle.listing_parse.specs.inner.View.{held_static, held_instance, held_method}

-- Entries whose view has their key, and keys that compare as those do.
pub record Holds {K V X : Type 0} (cmp : K → K → Ordering) (parts_of_key : K → Key) (view : K × V → X) (key : X → Key) : Type 0 where
  pub by_key : (j k : K) → cmp j k ≡ key_cmp (parts_of_key j) (parts_of_key k)
  pub of_view : (e : K × V) → key (view e) ≡ parts_of_key e.0

module _ {K V X : Type 0} (cmp : K → K → Ordering) (parts_of_key : K → Key) (view : K × V → X) (key : X → Key) (h : Holds cmp parts_of_key view key) where
  compares : (k : K) (e : K × V) → cmp k e.0 ≡ key_cmp (parts_of_key k) (key (view e))
  compares k e = h.by_key k e.0 ∙ ap (key_cmp (parts_of_key k)) (sym (h.of_view e))

  read_ahead : (b : Bool) (v : V) (o : Option V) → is_some (cond b (Some v) o) ≡ b || is_some o
  read_ahead true v o = refl
  read_ahead false v o = refl

  -- what is found is held
  pub held_found : (k : K) (es : List (K × V)) → is_some (lookup (λ q. is_eq (cmp k q)) es) ≡ is_held key (parts_of_key k) (map view es)
  held_found k [] = refl
  held_found k (e ∷ es) = read_ahead (is_eq (cmp k e.0)) e.1 (lookup (λ q. is_eq (cmp k q)) es) ∙ (λ i. is_eq (compares k e i) || held_found k es i)

  front : (o : Ordering) (k : K) (v : V) (e : K × V) (es : List (K × V)) → cmp k e.0 ≡ o → is_eq o || is_some (lookup (λ q. is_eq (cmp k q)) es) ≡ false
      → (is_some (lookup (λ q. is_eq (cmp k q)) es) ≡ false → map view (insert_entry cmp es k v) ≡ put_in key (view (k, v)) (map view es))
      → map view (match_ordering o ((k, v) ∷ e ∷ es) ((e.0, v) ∷ es) (e ∷ insert_entry cmp es k v)) ≡ (if is_lt o then view (k, v) ∷ (view e ∷ map view es) else view e ∷ put_in key (view (k, v)) (map view es))
  front ordering.Less k v e es c n more = refl
  front ordering.Equal k v e es c n more = absurd cc
  front ordering.Greater k v e es c n more = ap (λ t. view e ∷ t) (more n)

  -- what isn't found goes in its place
  pub entry_put : (k : K) (v : V) (es : List (K × V)) → is_some (lookup (λ q. is_eq (cmp k q)) es) ≡ false → map view (insert_entry cmp es k v) ≡ put_in key (view (k, v)) (map view es)
  entry_put k v [] n = refl
  entry_put k v (e ∷ es) n =
      let c : key_cmp (key (view (k, v))) (key (view e)) ≡ cmp k e.0 = ap (λ t. key_cmp t (key (view e))) (h.of_view (k, v)) ∙ sym (compares k e) in
      rw c (front (cmp k e.0) k v e es refl (sym (read_ahead (is_eq (cmp k e.0)) e.1 (lookup (λ q. is_eq (cmp k q)) es)) ∙ n) (entry_put k v es))

  pub member_none : (k : K) (v : V) (es : List (K × V)) → is_some (lookup (λ q. is_eq (cmp k q)) es) ≡ true → with_member key (view (k, v)) (map view es) ≡ None
  member_none k v es f =
      let held : is_held key (key (view (k, v))) (map view es) ≡ true = ap (λ t. is_held key t (map view es)) (h.of_view (k, v)) ∙ sym (held_found k es) ∙ f in
      rw held refl

  pub member_put : (k : K) (v : V) (es : List (K × V)) → is_some (lookup (λ q. is_eq (cmp k q)) es) ≡ false → with_member key (view (k, v)) (map view es) ≡ Some (map view (insert_entry cmp es k v))
  member_put k v es f =
      let held : is_held key (key (view (k, v))) (map view es) ≡ false = ap (λ t. is_held key t (map view es)) (h.of_view (k, v)) ∙ sym (held_found k es) ∙ f in
      rw held (ap Some (sym (entry_put k v es f)))

-- ---- fields

abbrev pub field_cmp : Str × Desc → Str × Desc → Ordering
field_cmp x y = ordering_then (units_cmp (str x.0) (str y.0)) (units_cmp (desc x.1) (desc y.1))

abbrev pub field_of_key : Str × Desc → Key
field_of_key k = str k.0 ∷ desc k.1 ∷ []

fields_by_key : (j k : Str × Desc) → field_cmp j k ≡ key_cmp (field_of_key j) (field_of_key k)
fields_by_key j k = ap (ordering_then (units_cmp (str j.0) (str k.0))) (ordering_then-equal (units_cmp (desc j.1) (desc k.1)))

statics_held : Holds field_cmp field_of_key held_static given_key
statics_held = record { by_key = fields_by_key; of_view = λ e. refl }

instances_held : Holds field_cmp field_of_key held_instance member_key
instances_held = record { by_key = fields_by_key; of_view = λ e. refl }

-- ---- methods

abbrev pub method_cmp : Str × Bor Proto → Str × Bor Proto → Ordering
method_cmp x y = ordering_then (units_cmp (str x.0) (str y.0)) (derived_proto_cmp (λ d e. units_cmp (desc d) (desc e)) (λ d e. refl) x.1.now y.1.now)

abbrev pub method_of_key : Str × Bor Proto → Key
method_of_key k = str k.0 ∷ proto_key (proto k.1.now)

methods_by_key : (j k : Str × Bor Proto) → method_cmp j k ≡ key_cmp (method_of_key j) (method_of_key k)
methods_by_key j k = ap (ordering_then (units_cmp (str j.0) (str k.0))) (proto_cmp (λ d e. units_cmp (desc d) (desc e)) (λ d e. refl) j.1.now k.1.now)

methods_held : Holds method_cmp method_of_key held_method method_key
methods_held = record { by_key = methods_by_key; of_view = λ e. refl }

-- ---- a class with one member more, or that has it already

module _ (o : Open) (es new : List ((Str × Desc) × Static)) (k : (Str × Desc)) (v : Static) (is : o.statics ≡ map held_static es) (e : new ≡ insert_entry field_cmp es k v) where
  pub static_put : (yes : Bool) → is_some (lookup (λ q. is_eq (field_cmp k q)) es) ≡ not yes
      → MatchBool yes (with_static o (held_static (k, v)) ≡ Some (record o { statics = map held_static new })) (with_static o (held_static (k, v)) ≡ None)
  unfolding with_static
  static_put true f = rw (e, is, member_put field_cmp field_of_key held_static given_key statics_held k v es f) refl
  static_put false f = rw (is, member_none field_cmp field_of_key held_static given_key statics_held k v es f) refl

module _ (o : Open) (es new : List ((Str × Desc) × ℕ)) (k : (Str × Desc)) (v : ℕ) (is : o.instances ≡ map held_instance es) (e : new ≡ insert_entry field_cmp es k v) where
  pub instance_put : (yes : Bool) → is_some (lookup (λ q. is_eq (field_cmp k q)) es) ≡ not yes
      → MatchBool yes (with_instance o (held_instance (k, v)) ≡ Some (record o { instances = map held_instance new })) (with_instance o (held_instance (k, v)) ≡ None)
  unfolding with_instance
  instance_put true f = rw (e, is, member_put field_cmp field_of_key held_instance member_key instances_held k v es f) refl
  instance_put false f = rw (is, member_none field_cmp field_of_key held_instance member_key instances_held k v es f) refl

module _ (o : Open) (es new : List ((Str × Bor Proto) × Defined)) (k : (Str × Bor Proto)) (v : Defined) (is : o.directs ≡ map held_method es) (e : new ≡ insert_entry method_cmp es k v) where
  pub direct_put : (yes : Bool) → is_some (lookup (λ q. is_eq (method_cmp k q)) es) ≡ not yes
      → MatchBool yes (with_direct o (held_method (k, v)) ≡ Some (record o { directs = map held_method new })) (with_direct o (held_method (k, v)) ≡ None)
  unfolding with_direct
  direct_put true f = rw (e, is, member_put method_cmp method_of_key held_method method_key methods_held k v es f) refl
  direct_put false f = rw (is, member_none method_cmp method_of_key held_method method_key methods_held k v es f) refl

module _ (o : Open) (es new : List ((Str × Bor Proto) × Defined)) (k : (Str × Bor Proto)) (v : Defined) (is : o.virtuals ≡ map held_method es) (e : new ≡ insert_entry method_cmp es k v) where
  pub virtual_put : (yes : Bool) → is_some (lookup (λ q. is_eq (method_cmp k q)) es) ≡ not yes
      → MatchBool yes (with_virtual o (held_method (k, v)) ≡ Some (record o { virtuals = map held_method new })) (with_virtual o (held_method (k, v)) ≡ None)
  unfolding with_virtual
  virtual_put true f = rw (e, is, member_put method_cmp method_of_key held_method method_key methods_held k v es f) refl
  virtual_put false f = rw (is, member_none method_cmp method_of_key held_method method_key methods_held k v es f) refl

-- ---- the code of a method that is held

coded_at : (b : Bool) (k : Str × Bor Proto) (e : (Str × Bor Proto) × Defined) (es : List ((Str × Bor Proto) × Defined)) (v w : Defined) (c : Bor Put) → cond b (Some e.1) (lookup (λ q. is_eq (method_cmp k q)) es) ≡ Some v → w ≡ record v { code = Some c }
    → (lookup (λ q. is_eq (method_cmp k q)) es ≡ Some v → map held_method (set_value (λ q. is_eq (method_cmp k q)) es w) ≡ with_code (map held_method es) (method_of_key k) (code c.now))
    → map held_method (cond b ((e.0, w) ∷ es) (e ∷ set_value (λ q. is_eq (method_cmp k q)) es w)) ≡ (if b then record (held_method e) { code = Some (code c.now) } ∷ map held_method es else held_method e ∷ with_code (map held_method es) (method_of_key k) (code c.now))
coded_at true k e es v w c f g more =
    let i : w ≡ record e.1 { code = Some c } = (let j : e.1 ≡ v = cc in rw j g) in
    ap (λ (x : Defined). held_method (e.0, x) ∷ map held_method es) i
coded_at false k e es v w c f g more = ap (λ t. held_method e ∷ t) (more f)

pub method_coded : (k : Str × Bor Proto) (es : List ((Str × Bor Proto) × Defined)) (v w : Defined) (c : Bor Put) → lookup (λ q. is_eq (method_cmp k q)) es ≡ Some v → w ≡ record v { code = Some c }
    → map held_method (set_value (λ q. is_eq (method_cmp k q)) es w) ≡ with_code (map held_method es) (method_of_key k) (code c.now)
method_coded k [] v w c f g = absurd cc
method_coded k (e ∷ es) v w c f g =
    rw (← methods_by_key k e.0) (coded_at (is_eq (method_cmp k e.0)) k e es v w c f g (λ h. method_coded k es v w c h g))

uncoded_at : (b : Bool) (k : Str × Bor Proto) (e : (Str × Bor Proto) × Defined) (es : List ((Str × Bor Proto) × Defined)) (c : Code) → cond b (Some e.1) (lookup (λ q. is_eq (method_cmp k q)) es) ≡ None
    → (lookup (λ q. is_eq (method_cmp k q)) es ≡ None → map held_method es ≡ with_code (map held_method es) (method_of_key k) c)
    → map held_method (e ∷ es) ≡ (if b then record (held_method e) { code = Some c } ∷ map held_method es else held_method e ∷ with_code (map held_method es) (method_of_key k) c)
uncoded_at true k e es c f more = absurd cc
uncoded_at false k e es c f more = ap (λ t. held_method e ∷ t) (more f)

pub method_uncoded : (k : Str × Bor Proto) (es : List ((Str × Bor Proto) × Defined)) (c : Code) → lookup (λ q. is_eq (method_cmp k q)) es ≡ None → map held_method es ≡ with_code (map held_method es) (method_of_key k) c
method_uncoded k [] c f = refl
method_uncoded k (e ∷ es) c f = rw (← methods_by_key k e.0) (uncoded_at (is_eq (method_cmp k e.0)) k e es c f (method_uncoded k es c))

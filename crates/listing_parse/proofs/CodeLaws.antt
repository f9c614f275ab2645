-- The lines of a code, as the reader adds them.
use Rattle.std.proofs.Common.{◌≡◌, ℕ, true, false, List, [], ◌∷◌, ◌++◌, length, Option, Some, None, refl, sym, ap, subst, ◌∙◌, append_assoc}
use Rattle.std.specs.List.{flat_map}
use Rattle.std.proofs.lemmas.List.{append-nil}
use Rattle.program_types.specs.Content.{Insn, Catch, Try, Code, Class}
use Rattle.listing_lines.specs.Lines.{Line, open_code, end_code, insn_line, try_line, catch_line, catch_all_line}
use Rattle.listing_lines.specs.Needs.{Need, first_late, earliest}
use Rattle.listing_parse.specs.States.{Open, Owner, OpenBody, OpenTry, at_members, CodePart, at_insns, after_try, in_try, in_class, in_code, State, begun, noted, with_insn, with_tries, try_of, whole_code, with_code_at, add, inside}
use Rattle.listing_parse.specs.Codes.{Numbered, unnumbered, insn_lines, catch_lines, catch_all_lines, try_lines, inner_lines, code_lines}
use Rattle.listing_parse.specs.inner.Codes.{late_line}
use Rattle.listing_parse.specs.inner.Runs.{at_line, Runs, is_outside, after_its_method, with_its_code, RunsBehindCode}
use Rattle.listing_parse.proofs.LateLaws.{needs_from, late_is}
use Rattle.listing_parse.proofs.Numbering.{none_read, Front, more_front, Behind}
use Rattle.listing_parse.proofs.StageLaws.{code_goes_on}

-- ---- runs

-- How many lines were read before doesn't matter.
pub again : (s t : State) (ls : List Numbered) (n : ℕ) → Runs s ls t → Runs (at_line s n) ls t
again s t [] n r = r
again s t ((k, l) ∷ ls) n r = (r.0, record { stands = r.1.stands; added = r.1.added }, r.2)

-- What a step leads to.
pub next : (u v : State) (ls : List Numbered) (t : State) → Some v ≡ Some u → Runs u ls t → Runs v ls t
next u v ls t e r = let q : u ≡ v = cc in subst (λ x. Runs x ls t) q r

-- ---- what a code gets after one of its parts

record Rest : Type 0 where
  insns : List Insn
  catches : List Catch
  all : Option ℕ
  tries : List Try

abbrev rest : List Insn → List Catch → Option ℕ → List Try → Rest
rest is cs all ts = record { insns = is; catches = cs; all = all; tries = ts }

abbrev rest_lines : CodePart → Rest → List Line
rest_lines at_insns r = insn_lines r.insns ++ flat_map try_lines r.tries
rest_lines after_try r = flat_map try_lines r.tries
rest_lines (in_try t) r = (catch_lines r.catches ++ catch_all_lines r.all) ++ flat_map try_lines r.tries

abbrev rest_insns : CodePart → Rest → List Insn
rest_insns at_insns r = r.insns
rest_insns _ r = []

-- The open try with these catches more.
abbrev try_with : OpenTry → List Catch → Option ℕ → Try
try_with t cs all = record { from = t.from; to = t.to; catches = t.catches ++ cs; catch_all = all }

abbrev rest_tries : CodePart → Rest → List Try
rest_tries (in_try t) r = try_with t r.catches r.all ∷ r.tries
rest_tries _ r = r.tries

abbrev made : OpenBody → List Insn → List Try → Code
made b is ts = record { registers = b.registers; ins = b.ins; outs = b.outs; insns = is; tries = ts }

abbrev whole : OpenBody → CodePart → Rest → Code
whole b p r = made b (b.insns ++ rest_insns p r) (b.tries ++ rest_tries p r)

insn_first : (b : OpenBody) (i : Insn) (is : List Insn) (ts : List Try) → made b ((b.insns ++ i ∷ []) ++ is) ts ≡ made b (b.insns ++ (i ∷ is)) ts
insn_first b i is ts = ap (λ y. made b y ts) (append_assoc b.insns (i ∷ []) is)

catch_first : (b : OpenBody) (is : List Insn) (t : OpenTry) (c : Catch) (cs : List Catch) (all : Option ℕ) (ts : List Try)
    → made b is (b.tries ++ (try_with (record t { catches = t.catches ++ c ∷ [] }) cs all ∷ ts)) ≡ made b is (b.tries ++ (try_with t (c ∷ cs) all ∷ ts))
catch_first b is t c cs all ts = ap (λ y. made b is (b.tries ++ (record { from = t.from; to = t.to; catches = y; catch_all = all } ∷ ts))) (append_assoc t.catches (c ∷ []) cs)

try_closed : (b : OpenBody) (is : List Insn) (t : OpenTry) (all : Option ℕ) (ts : List Try) → made b is ((b.tries ++ try_of t all ∷ []) ++ ts) ≡ made b is (b.tries ++ (try_with t [] all ∷ ts))
try_closed b is t all ts =
    ap (made b is) (append_assoc b.tries (try_of t all ∷ []) ts)
    ∙ ap (λ y. made b is (b.tries ++ (record { from = t.from; to = t.to; catches = y; catch_all = all } ∷ ts))) (sym (append-nil t.catches))

all_there : (b : OpenBody) (p : CodePart) → whole_code (with_tries b p None) ≡ whole b p (rest [] [] None [])
all_there b at_insns = ap (λ y. made b y b.tries) (sym (append-nil b.insns)) ∙ ap (made b (b.insns ++ [])) (sym (append-nil b.tries))
all_there b after_try = ap (λ y. made b y b.tries) (sym (append-nil b.insns)) ∙ ap (made b (b.insns ++ [])) (sym (append-nil b.tries))
all_there b (in_try t) =
    ap (λ y. made b y (b.tries ++ try_of t None ∷ [])) (sym (append-nil b.insns))
    ∙ ap (λ y. made b (b.insns ++ []) (b.tries ++ (record { from = t.from; to = t.to; catches = y; catch_all = None } ∷ []))) (sym (append-nil t.catches))

no_more : (p : CodePart) → rest_lines p (rest [] [] None []) ≡ []
no_more at_insns = refl
no_more _ = refl

-- ---- states

abbrev coding : CodePart → List Class → Option ℕ → Open → OpenBody → ℕ → State
coding p done late o b n = record { done = done; block = in_code o b p; lines = n; late = late }

abbrev ended : List Class → Option ℕ → Open → Owner → Code → List Need → ℕ → State
ended done late o m c needs n = record { done = done; block = in_class (with_code_at o m c) at_members; lines = n; late = earliest late (first_late (length c.insns) needs) }

-- ---- what is read is the text of a code

record Read (done : List Class) (late : Option ℕ) (o : Open) (b : OpenBody) (p : CodePart) (ls : List Numbered) (t : State) : Type 0 where
  more : Rest
  front : Front ls (rest_lines p more ++ end_code ∷ [])
  behind : Behind (λ (c : Code) (n : ℕ). ended done late o b.owner c (needs_from b.needs front.mine) n) front.after t
  is : behind.final ≡ whole b p more

still_open : (done : List Class) (late : Option ℕ) (o : Open) (b : OpenBody) (p : CodePart) (n : ℕ) (t : State) → is_outside t.block ≡ true → t ≡ at_line (coding p done late o b n) t.lines → true ≡ false
still_open done late o b p n t e r = sym e ∙ ap (λ (x : State). is_outside x.block) r

read_back : (ls : List Numbered) (done : List Class) (late : Option ℕ) (o : Open) (b : OpenBody) (p : CodePart) (k : ℕ) (t : State) → is_outside t.block ≡ true → Runs (coding p done late o b k) ls t → Read done late o b p ls t
unfolding add inside
read_back [] done late o b p k t e r = let h = still_open done late o b p k t e r in absurd cc
read_back ((n, end_code) ∷ ls) done late o b p k t e r = record {
  more = rest [] [] None [];
  front = record { mine = (n, end_code) ∷ []; after = ls; split = refl; word_values = ap (λ y. y ++ end_code ∷ []) (sym (no_more p)) };
  behind = record { final = whole_code (with_tries b p None); line = n; runs = next r.0 (ended done late o b.owner (whole_code (with_tries b p None)) b.needs n) ls t r.1.added r.2 };
  is = all_there b p;
}
read_back ((n, insn_line i) ∷ ls) done late o b at_insns k t e r =
    let c = with_insn (noted b n (insn_line i)) i in
    let x = read_back ls done late o c at_insns n t e (next r.0 (coding at_insns done late o c n) ls t r.1.added r.2) in
    record {
      more = rest (i ∷ x.more.insns) x.more.catches x.more.all x.more.tries;
      front = more_front n (insn_line i) x.front;
      behind = x.behind;
      is = x.is ∙ insn_first b i x.more.insns (b.tries ++ x.more.tries);
    }
read_back ((n, try_line from to) ∷ ls) done late o b (in_try f) k t e r =
    let c = with_tries (noted b n (try_line from to)) (in_try f) None in
    let q : CodePart = in_try (record { from = from; to = to; catches = [] }) in
    let x = read_back ls done late o c q n t e (next r.0 (coding q done late o c n) ls t r.1.added r.2) in
    let g : Try = record { from = from; to = to; catches = x.more.catches; catch_all = x.more.all } in
    record {
      more = rest [] [] None (g ∷ x.more.tries);
      front = more_front n (try_line from to) x.front;
      behind = x.behind;
      is = x.is ∙ try_closed b (b.insns ++ []) f None (g ∷ x.more.tries);
    }
read_back ((n, try_line from to) ∷ ls) done late o b p k t e r =
    let c = with_tries (noted b n (try_line from to)) p None in
    let q : CodePart = in_try (record { from = from; to = to; catches = [] }) in
    let x = read_back ls done late o c q n t e (next r.0 (coding q done late o c n) ls t r.1.added r.2) in
    record {
      more = rest [] [] None (record { from = from; to = to; catches = x.more.catches; catch_all = x.more.all } ∷ x.more.tries);
      front = more_front n (try_line from to) x.front;
      behind = x.behind;
      is = x.is;
    }
read_back ((n, catch_line d h) ∷ ls) done late o b (in_try f) k t e r =
    let c = noted b n (catch_line d h) in
    let a : Catch = record { ty = d; at = h } in
    let q : CodePart = in_try (record f { catches = f.catches ++ a ∷ [] }) in
    let x = read_back ls done late o c q n t e (next r.0 (coding q done late o c n) ls t r.1.added r.2) in
    record {
      more = rest [] (a ∷ x.more.catches) x.more.all x.more.tries;
      front = more_front n (catch_line d h) x.front;
      behind = x.behind;
      is = x.is ∙ catch_first b (b.insns ++ []) f a x.more.catches x.more.all x.more.tries;
    }
read_back ((n, catch_all_line h) ∷ ls) done late o b (in_try f) k t e r =
    let c = with_tries (noted b n (catch_all_line h)) (in_try f) (Some h) in
    let x = read_back ls done late o c after_try n t e (next r.0 (coding after_try done late o c n) ls t r.1.added r.2) in
    record {
      more = rest [] [] (Some h) x.more.tries;
      front = more_front n (catch_all_line h) x.front;
      behind = x.behind;
      is = x.is ∙ try_closed b (b.insns ++ []) f (Some h) x.more.tries;
    }
read_back ((n, l) ∷ ls) done late o b at_insns k t e r = let h = r.1.stands in absurd cc
read_back ((n, l) ∷ ls) done late o b _ k t e r = let h = r.1.stands in absurd cc

late_there : (c n : ℕ) (l : Line) (r i u : ℕ) (ls : List Numbered) → l ≡ open_code r i u → first_late c (needs_from [] ls) ≡ late_line c ((n, l) ∷ ls)
unfolding first_late
late_there c n l r i u ls e = late_is c [] ls ∙ sym (ap (λ x. late_line c ((n, x) ∷ ls)) e)

pub code_read : (s t : State) (o : Open) (m : Owner) (n r i u : ℕ) (ls : List Numbered) → is_outside t.block ≡ true → Runs (after_its_method s o m) ((n, open_code r i u) ∷ ls) t → RunsBehindCode s o m ((n, open_code r i u) ∷ ls) t
unfolding add
code_read s t o m n r i u ls e h =
    let b = begun m r i u in
    let x = read_back ls s.done s.late o b at_insns n t e (next h.0 (coding at_insns s.done s.late o b n) ls t h.1.added h.2) in
    let code = x.behind.final in
    let f = more_front n (open_code r i u) x.front in
    record {
      code = code;
      text = f.mine;
      after = f.after;
      split = f.split;
      is_text = f.word_values ∙ ap code_lines (sym x.is);
      runs = subst (λ late. Runs (with_its_code s o m code late) f.after t) (late_there (length code.insns) n (open_code r i u) r i u x.front.mine refl) (again (ended s.done s.late o m code (needs_from [] x.front.mine) x.behind.line) t f.after s.lines x.behind.runs);
    }

-- ---- the text of a code is read

never_empty : (xs : List Line) (l : Line) → [] ≡ xs ++ l ∷ [] → ⊥
never_empty [] l e = cc
never_empty (x ∷ xs) l e = cc

end_goes : (p : CodePart) (n : ℕ) (l : Line) (ls : List Numbered) (done : List Class) (late : Option ℕ) (o : Open) (b : OpenBody) (k : ℕ) (after : List Numbered) (t : State) (m : ℕ) → l ≡ end_code → unnumbered ls ≡ [] → (c : Code) → c ≡ whole b p (rest [] [] None [])
    → Runs (ended done late o b.owner c (needs_from b.needs ((n, l) ∷ ls)) m) after t → Runs (coding p done late o b k) ((n, l) ∷ (ls ++ after)) t
unfolding add
end_goes p n l ls done late o b k after t m el es c ec r =
    let d = whole_code (with_tries b p None) in
    let ed : c ≡ d = ec ∙ sym (all_there b p) in
    let r1 = subst (λ x. Runs (ended done late o b.owner c (needs_from b.needs ((n, x) ∷ ls)) m) after t) el r in
    let r2 = subst (λ xs. Runs (ended done late o b.owner c (needs_from b.needs ((n, end_code) ∷ xs)) m) after t) (none_read ls es) r1 in
    let r3 = subst (λ x. Runs (ended done late o b.owner x b.needs m) after t) ed r2 in
    let g : Runs (coding p done late o b k) ((n, end_code) ∷ after) t = (ended done late o b.owner d b.needs n, record { stands = code_goes_on p; added = refl }, again (ended done late o b.owner d b.needs m) t after n r3) in
    let g1 = subst (λ xs. Runs (coding p done late o b k) ((n, end_code) ∷ (xs ++ after)) t) (sym (none_read ls es)) g in
    subst (λ x. Runs (coding p done late o b k) ((n, x) ∷ (ls ++ after)) t) (sym el) g1

go : (ls : List Numbered) (p : CodePart) (is : List Insn) (cs : List Catch) (all : Option ℕ) (ts : List Try) (done : List Class) (late : Option ℕ) (o : Open) (b : OpenBody) (k : ℕ) (after : List Numbered) (t : State) (m : ℕ)
    → unnumbered ls ≡ rest_lines p (rest is cs all ts) ++ end_code ∷ [] → (c : Code) → c ≡ whole b p (rest is cs all ts) → Runs (ended done late o b.owner c (needs_from b.needs ls) m) after t → Runs (coding p done late o b k) (ls ++ after) t
unfolding add inside
go [] p is cs all ts done late o b k after t m e c q r = absurd (never_empty (rest_lines p (rest is cs all ts)) end_code e)
go ((n, l) ∷ ls) at_insns (i ∷ is) cs all ts done late o b k after t m e c q r =
    let x = insn_line i in
    let el : x ≡ l = cc in
    let d = with_insn (noted b n x) i in
    let f = go ls at_insns is cs all ts done late o d n after t m (cc) c (q ∙ sym (insn_first b i is (b.tries ++ ts))) in
    subst (λ y. Runs (ended done late o b.owner c (needs_from b.needs ((n, y) ∷ ls)) m) after t → Runs (coding at_insns done late o b k) ((n, y) ∷ (ls ++ after)) t) el (λ h. (coding at_insns done late o d n, record { stands = refl; added = refl }, f h)) r
go ((n, l) ∷ ls) (in_try w) is (a ∷ cs) all ts done late o b k after t m e c q r =
    let x = catch_line a.ty a.at in
    let p : CodePart = in_try (record w { catches = w.catches ++ a ∷ [] }) in
    let el : x ≡ l = cc in
    let d = noted b n x in
    let f = go ls p [] cs all ts done late o d n after t m (cc) c (q ∙ sym (catch_first b (b.insns ++ []) w a cs all ts)) in
    subst (λ y. Runs (ended done late o b.owner c (needs_from b.needs ((n, y) ∷ ls)) m) after t → Runs (coding (in_try w) done late o b k) ((n, y) ∷ (ls ++ after)) t) el (λ h. (coding p done late o d n, record { stands = refl; added = refl }, f h)) r
go ((n, l) ∷ ls) (in_try w) is [] (Some a) ts done late o b k after t m e c q r =
    let x = catch_all_line a in
    let el : x ≡ l = cc in
    let d = with_tries (noted b n x) (in_try w) (Some a) in
    let f = go ls after_try [] [] None ts done late o d n after t m (cc) c (q ∙ sym (try_closed b (b.insns ++ []) w (Some a) ts)) in
    subst (λ y. Runs (ended done late o b.owner c (needs_from b.needs ((n, y) ∷ ls)) m) after t → Runs (coding (in_try w) done late o b k) ((n, y) ∷ (ls ++ after)) t) el (λ h. (coding after_try done late o d n, record { stands = refl; added = refl }, f h)) r
go ((n, l) ∷ ls) (in_try w) is [] None (a ∷ ts) done late o b k after t m e c q r =
    let x = try_line a.from a.to in
    let p : CodePart = in_try (record { from = a.from; to = a.to; catches = [] }) in
    let el : x ≡ l = cc in
    let d = with_tries (noted b n x) (in_try w) None in
    let f = go ls p [] a.catches a.catch_all ts done late o d n after t m (cc) c (q ∙ sym (try_closed b (b.insns ++ []) w None (a ∷ ts))) in
    subst (λ y. Runs (ended done late o b.owner c (needs_from b.needs ((n, y) ∷ ls)) m) after t → Runs (coding (in_try w) done late o b k) ((n, y) ∷ (ls ++ after)) t) el (λ h. (coding p done late o d n, record { stands = refl; added = refl }, f h)) r
go ((n, l) ∷ ls) p is cs all (a ∷ ts) done late o b k after t m e c q r =
    let x = try_line a.from a.to in
    let v : CodePart = in_try (record { from = a.from; to = a.to; catches = [] }) in
    let el : x ≡ l = cc in
    let d = with_tries (noted b n x) p None in
    let f = go ls v [] a.catches a.catch_all ts done late o d n after t m (cc) c q in
    subst (λ y. Runs (ended done late o b.owner c (needs_from b.needs ((n, y) ∷ ls)) m) after t → Runs (coding p done late o b k) ((n, y) ∷ (ls ++ after)) t) el (λ h. (coding v done late o d n, record { stands = refl; added = refl }, f h)) r
go ((n, l) ∷ ls) p is cs all [] done late o b k after t m e c q r = end_goes p n l ls done late o b k after t m (cc) (cc) c q r

-- From `code` on.
code_on : (s t : State) (o : Open) (m : Owner) (n : ℕ) (c : Code) (text after : List Numbered) → unnumbered text ≡ inner_lines c ++ end_code ∷ [] → Runs (with_its_code s o m c (late_line (length c.insns) ((n, open_code c.registers c.ins c.outs) ∷ text))) after t
    → Runs (after_its_method s o m) ((n, open_code c.registers c.ins c.outs) ∷ (text ++ after)) t
unfolding add
code_on s t o m n c text after e h =
    let b = begun m c.registers c.ins c.outs in
    let late = late_there (length c.insns) n (open_code c.registers c.ins c.outs) c.registers c.ins c.outs text refl in
    let k = subst (λ late. Runs (with_its_code s o m c late) after t) (sym late) h in
    (coding at_insns s.done s.late o b n, record { stands = refl; added = refl }, go text at_insns c.insns [] None c.tries s.done s.late o b n after t s.lines e c refl k)

pub text_runs : (s t : State) (o : Open) (m : Owner) (c : Code) (text after : List Numbered) → unnumbered text ≡ code_lines c → Runs (with_its_code s o m c (late_line (length c.insns) text)) after t → Runs (after_its_method s o m) (text ++ after) t
text_runs s t o m c [] after e h = absurd cc
text_runs s t o m c ((n, l) ∷ text) after e h =
    let x = open_code c.registers c.ins c.outs in
    let el : x ≡ l = cc in
    let es : unnumbered text ≡ inner_lines c ++ end_code ∷ [] = cc in
    subst (λ y. Runs (with_its_code s o m c (late_line (length c.insns) ((n, y) ∷ text))) after t → Runs (after_its_method s o m) ((n, y) ∷ (text ++ after)) t) el (code_on s t o m n c text after es) h

pub code_goes : (s t : State) (o : Open) (m : Owner) (ls : List Numbered) → RunsBehindCode s o m ls t → Runs (after_its_method s o m) ls t
code_goes s t o m ls x = subst (λ ys. Runs (after_its_method s o m) ys t) (sym x.split) (text_runs s t o m x.code x.text x.after x.is_text x.runs)

-- A switch compares its labels, and so comes to the number of sections that are skipped.
use Rattle.std.proofs.Common.{◌≡◌, ℕ, zero, suc, ◌+◌, ◌*◌, ◌≤◌, Bool, true, false, cond}
use Rattle.std.proofs.Common.{List, [], ◌∷◌, ◌++◌, drop, length, Option, Some, None, refl, sym, ap, ◌∙◌, subst}
use Rattle.std.proofs.Common.{arith}
use Rattle.std.specs.Prelude.{nat_eq}
use Rattle.c_tree.specs.declared.TypedStmt.{TypedStmt}
use Rattle.c_tree.specs.declared.TypedSection.{TypedSection}
use Rattle.c_tree.specs.declared.TypedProgram.{TypedProgram}
use Rattle.c_meaning_spec.specs.declared.signal.Ending.TheVariants.{More}
use Rattle.c_meaning_spec.specs.declared.signal.Halt.TheVariants.{NoStep}
use Rattle.c_meaning_spec.specs.State.{Result, Over, spend_of}
use Rattle.c_meaning_spec.specs.State as eval
use Rattle.c_meaning_spec.specs.Statement.{Target, bodies, leading, targets, run_from, compared}
use Rattle.c_meaning_spec.specs.Eval.{meaning}
use Rattle.trips_isa.specs.declared.op.Op.TheVariants as op
use Rattle.trips_isa.specs.Alu.{test}
use Rattle.ir_forms.specs.declared.flat.Arg.TheVariants.{Const, Var}
use Rattle.ir_forms.specs.inside.FlatCode.{Code, Nop, Then, only, Let, If}
use Rattle.ir_forms.specs.inside.Cells.{apply}
use Rattle.ir_forms.specs.inside.FlatSteps.{State, Broke, settle}
use Rattle.ir_forms.specs.inside.FlatRuns.{checked}
use Rattle.ir_forms.proofs.Leads.{Leads, Stops, Moves, leads_from, stops_from, waits_stop, moves_from}
use Rattle.ir_forms.proofs.Steps.{code_waits, then_moves, then_then, first_leads, nop_leads}
use Rattle.ir_forms.proofs.Statements.{if_one, if_other}
use Rattle.flat_lower.specs.inside.Operations.{temp, scratch}
use Rattle.flat_lower.specs.declared.held.Held.{Held}
use Rattle.flat_lower.specs.declared.held.Held.TheVariants as held
use Rattle.flat_lower.specs.inside.Labels.{found_code, equal_code, either_code, choice_code, labels_code, compared_code}
use Rattle.flat_lower.specs.inside.Switches.{has_default, default_at}
use Rattle.flat_lower.specs.inside.Emitted.{sections_in}
use Rattle.flat_lower.specs.inside.FitsSwitches.{case_count, cases_in, free_sections, one_if_none}
use Rattle.flat_lower.proofs.Straight.{puts_let, var_read}
use Rattle.flat_lower.proofs.Related.{Scene, IsScene, Related, sets_unseen, spent}
use Rattle.flat_lower.proofs.Values.{functions, base, run}
use Rattle.flat_lower.proofs.LeafStatements.{left_with}

same_leg : {A : Type 0} → (b : Bool) (a : A) → cond b a a ≡ a
same_leg true a = refl
same_leg false a = refl

pub drop_next : (all xs : List TypedSection) (x : TypedSection) (n : ℕ) → drop n all ≡ x ∷ xs
    → drop (suc n) all ≡ xs
drop_next [] xs x zero h = absurd (cc h)
drop_next [] xs x (suc n) h = absurd (cc h)
drop_next (y ∷ ys) xs x zero h = cc h
drop_next (y ∷ ys) xs x (suc n) h = drop_next ys xs x n h

-- a section counts in one of two ways
pub one_of_two : (n : ℕ) → 1 ≤ n + one_if_none n
one_of_two zero = omega arith
one_of_two (suc n) = omega arith

-- what two comparisons give together
either_is : (b c : Bool) → apply checked op.Or (test b) (test c) ≡ Some (test (cond b true c))
unfolding apply
either_is true true = refl
either_is true false = refl
either_is false true = refl
either_is false false = refl

-- where a three is begun, its if is still to come
abbrev pub due : Held → ℕ
due held.Zero = 0
due held.One = 1
due held.Two = 1

-- none of a three that were compared is equal
abbrev pub NoneHeld : Held → State → Type 0
NoneHeld held.Zero f = Unit {0}
NoneHeld held.One f = f.vars (scratch 0) ≡ Some 0
NoneHeld held.Two f = f.vars (scratch 0) ≡ Some 0

label_more : (a c : ℕ) → suc (a + c) ≡ suc a + c
label_more a c = omega arith

module _ (P : TypedProgram) (most : ℕ) (S : Scene) (y : IsScene P S) where
  -- no step is left for a label, where c were to come; so many turns more than steps pay were there
  pub record Stopped (a : Code) (f : State) (s : eval.State) (more c : ℕ) (r : Result) : Type 0 where
    pub t : ℕ
    pub at : eval.State
    pub is : r ≡ Over NoStep at
    pub few : t ≤ 8 * s.stock + more
    pub all : s.stock ≤ c
    pub stops : Stops (run P most S y a f) t at.output f.rounds

  -- so many sections are skipped, where c labels were to come, in so many turns more than steps pay
  pub record Found (all : List TypedSection) (a : Code) (f : State) (s : eval.State) (more c : ℕ)
      (r : Result) : Type 0 where
    pub t : ℕ
    pub m : ℕ
    pub at : eval.State
    pub to : State
    pub is : r ≡ run_from (meaning P) (bodies (drop m all)) at
    pub count : m ≤ length all
    pub few : t + 2 * m + 8 * at.stock ≤ 8 * s.stock + more
    pub less : at.stock ≤ s.stock
    pub left : s.stock ≤ at.stock + c
    pub rel : Related S at to
    pub word : to.vars (temp 0) ≡ Some m
    pub rounds : to.rounds ≡ f.rounds
    pub leads : Leads (run P most S y a f) t (Broke to)

  -- what comparing the labels comes to: no step is left, or the sections to skip are found
  pub data Choice (all : List TypedSection) (a : Code) (f : State) (s : eval.State) (more c : ℕ)
      (r : Result) : Type 0 where
    Ends_there : Stopped a f s more c r → Choice all a f s more c r
    Goes_to : Found all a f s more c r → Choice all a f s more c r

  -- where more turns and labels may come
  choice_within : (all : List TypedSection) (a : Code) (f : State) (s : eval.State) (more spare c d : ℕ) (r : Result)
      → more ≤ spare → c ≤ d → Choice all a f s more c r → Choice all a f s spare d r
  choice_within all a f s more spare c d r few le (Ends_there x) =
      Ends_there (record {
        t = x.t;
        at = x.at;
        is = x.is;
        few = omega (arith, few, x.few);
        all = omega (arith, le, x.all);
        stops = x.stops;
      })
  choice_within all a f s more spare c d r few le (Goes_to x) =
      Goes_to (record {
        t = x.t;
        m = x.m;
        at = x.at;
        to = x.to;
        is = x.is;
        count = x.count;
        few = omega (arith, few, x.few);
        less = x.less;
        left = omega (arith, le, x.left);
        rel = x.rel;
        word = x.word;
        rounds = x.rounds;
        leads = x.leads;
      })

  -- behind code that a step pays or the turns that may come
  choice_from : (all : List TypedSection) (a b : Code) (f g : State) (s s1 : eval.State) (t more spare c d : ℕ)
      (r : Result) → s1.stock ≤ s.stock → t + more + 8 * s1.stock ≤ 8 * s.stock + spare
      → s.stock + c ≤ s1.stock + d → g.rounds ≡ f.rounds → Moves (run P most S y a f) t (run P most S y b g)
      → Choice all b g s1 more c r → Choice all a f s spare d r
  choice_from all a b f g s s1 t more spare c d r le few cs same m (Ends_there x) =
      Ends_there (record {
        t = t + x.t;
        at = x.at;
        is = x.is;
        few = omega (arith, few, x.few);
        all = omega (arith, cs, x.all);
        stops = subst (Stops (run P most S y a f) (t + x.t) x.at.output) same
            (stops_from (run P most S y a f) (run P most S y b g) t x.t x.at.output g.rounds m x.stops);
      })
  choice_from all a b f g s s1 t more spare c d r le few cs same m (Goes_to x) =
      Goes_to (record {
        t = t + x.t;
        m = x.m;
        at = x.at;
        to = x.to;
        is = x.is;
        count = x.count;
        few = omega (arith, few, x.few);
        less = omega (arith, le, x.less);
        left = omega (arith, cs, x.left);
        rel = x.rel;
        word = x.word;
        rounds = x.rounds ∙ same;
        leads = leads_from (run P most S y a f) (run P most S y b g) t x.t (Broke x.to) m x.leads;
      })

  -- COMPARISONS

  -- code compares a label and goes on; scratch variable 0 says whether one of its three is equal
  record Compared (a b : Code) (f : State) (s : eval.State) (w turns : ℕ) (o : Bool) : Type 0 where
    pub t : ℕ
    pub to : State
    pub few : t ≤ turns
    pub rel : Related S s to
    pub value : to.vars (temp 0) ≡ Some w
    pub holds : to.vars (scratch 0) ≡ Some (test o)
    pub rounds : to.rounds ≡ f.rounds
    pub moves : Moves (run P most S y a f) t (run P most S y b to)

  -- the first of a three
  compares_first : (rest : Code) (f : State) (s : eval.State) (w v : ℕ) (o : Bool) → Related S s f
      → f.vars (temp 0) ≡ Some w → nat_eq w v ≡ o → Compared (Then (equal_code 0 v) rest) rest f s w 1 o
  unfolding apply
  compares_first rest f s w v o r e eo =
      let fs = functions P most in
      let bs = base P most in
      let p = puts_let fs bs S.env op.Teq (Var (temp 0)) (Const v) f 1 (scratch 0) 81 w v (test o)
      (omega arith) (var_read fs bs S.env f (temp 0) w e) refl (ap (λ b. Some (test b)) eo) in
      record {
        t = p.t;
        to = p.to;
        few = p.few;
        rel = sets_unseen S y s f p.to (scratch 0) 81 (test o) (omega arith) (omega arith) p.sets r;
        value = p.sets.others (temp 0) (λ e. omega arith) (λ e. omega arith) ∙ e;
        holds = p.sets.value;
        rounds = p.sets.rounds;
        moves = then_moves checked fs bs S.env (equal_code 0 v) rest f p.to p.t p.leads;
      }

  -- another
  compares_other : (rest : Code) (f : State) (s : eval.State) (w v : ℕ) (b o : Bool) → Related S s f
      → f.vars (temp 0) ≡ Some w → f.vars (scratch 0) ≡ Some (test b) → nat_eq w v ≡ o
      → Compared (Then (either_code v) rest) rest f s w 2 (cond b true o)
  unfolding apply
  compares_other rest f s w v b o r e eb eo =
      let fs = functions P most in
      let bs = base P most in
      let both = only (Let (scratch 0) op.Or (Var (scratch 0)) (Var (scratch 1))) in
      let p = puts_let fs bs S.env op.Teq (Var (temp 0)) (Const v) f 1 (scratch 1) 82 w v (test o)
      (omega arith) (var_read fs bs S.env f (temp 0) w e) refl (ap (λ b. Some (test b)) eo) in
      let rp = sets_unseen S y s f p.to (scratch 1) 82 (test o) (omega arith) (omega arith) p.sets r in
      let tp = p.sets.others (temp 0) (λ e. omega arith) (λ e. omega arith) ∙ e in
      let bp = p.sets.others (scratch 0) (λ e. omega arith) (λ e. omega arith) ∙ eb in
      let q = puts_let fs bs S.env op.Or (Var (scratch 0)) (Var (scratch 1)) p.to 1 (scratch 0) 82 (test b) (test o)
      (test (cond b true o)) (omega arith) (var_read fs bs S.env p.to (scratch 0) (test b) bp)
      (var_read fs bs S.env p.to (scratch 1) (test o) p.sets.value) (either_is b o) in
      record {
        t = p.t + q.t;
        to = q.to;
        few = omega (arith, p.few, q.few);
        rel = sets_unseen S y s p.to q.to (scratch 0) 82 (test (cond b true o)) (omega arith) (omega arith) q.sets rp;
        value = q.sets.others (temp 0) (λ e. omega arith) (λ e. omega arith) ∙ tp;
        holds = q.sets.value;
        rounds = q.sets.rounds ∙ p.sets.rounds;
        moves = moves_from (run P most S y (Then (either_code v) rest) f) (run P most S y (Then both rest) p.to)
            (run P most S y rest q.to) p.t q.t
            (then_moves checked fs bs S.env (equal_code 1 v) (Then both rest) f p.to p.t p.leads)
            (then_moves checked fs bs S.env both rest p.to q.to q.t q.leads);
      }

  -- where none of a three is equal its if does nothing
  passes : (rest : Code) (f : State) (n : ℕ) → f.vars (scratch 0) ≡ Some 0
      → Moves (run P most S y (Then (choice_code n) rest) f) 1 (run P most S y rest f)
  passes rest f n e =
      let fs = functions P most in
      let bs = base P most in
      let none = leads_from (run P most S y (choice_code n) f) (run P most S y Nop f) 1 0
      (settle f) (if_other checked fs bs S.env (Var (scratch 0)) (found_code n) Nop f
      (var_read fs bs S.env f (scratch 0) 0 e)) (nop_leads checked fs bs S.env f) in
      then_moves checked fs bs S.env (choice_code n) rest f f (1 + 0) none

  -- a label that is equal ends the comparing
  record Taken (a : Code) (f : State) (n turns : ℕ) (s : eval.State) : Type 0 where
    pub t : ℕ
    pub to : State
    pub few : t ≤ turns
    pub rel : Related S s to
    pub word : to.vars (temp 0) ≡ Some n
    pub rounds : to.rounds ≡ f.rounds
    pub leads : Leads (run P most S y a f) t (Broke to)

  -- behind a comparison
  taken_behind : (a b : Code) (f : State) (n w turns more : ℕ) (o : Bool) (s : eval.State)
      → (c : Compared a b f s w turns o) → Taken b c.to n more s → Taken a f n (turns + more) s
  taken_behind a b f n w turns more o s c x = record {
    t = c.t + x.t;
    to = x.to;
    few = omega (arith, c.few, x.few);
    rel = x.rel;
    word = x.word;
    rounds = x.rounds ∙ c.rounds;
    leads = leads_from (run P most S y a f) (run P most S y b c.to) c.t x.t (Broke x.to) c.moves x.leads;
  }

  -- by the if of its three
  taken_here : (rest : Code) (f : State) (n : ℕ) (s : eval.State) → Related S s f → f.vars (scratch 0) ≡ Some 1
      → Taken (Then (choice_code n) rest) f n 3 s
  taken_here rest f n s r e =
      let fs = functions P most in
      let bs = base P most in
      let x = left_with P most S y n s f r in
      let one = if_one checked fs bs S.env (Var (scratch 0)) (found_code n) Nop f 0
      (var_read fs bs S.env f (scratch 0) 1 e) in
      record {
        t = 1 + x.t;
        to = x.to;
        few = omega (arith, x.few);
        rel = x.rel;
        word = x.is;
        rounds = x.rounds;
        leads = first_leads checked fs bs S.env (choice_code n) rest f (1 + x.t) (Broke x.to)
            (λ k next. refl) (leads_from (run P most S y (choice_code n) f)
            (run P most S y (found_code n) f) 1 x.t (Broke x.to) one x.leads);
      }

  -- by the second of a three, or the first
  taken_two : (C : Code) (n w : ℕ) (ls : List (Option ℕ)) (s : eval.State) (f : State) → Related S s f
      → f.vars (temp 0) ≡ Some w → f.vars (scratch 0) ≡ Some 1 → Taken (Then (labels_code held.Two n ls) C) f n 5 s
  taken_two C n w [] s f r e h =
      let x = taken_here C f n s r h in
      record {
        t = x.t;
        to = x.to;
        few = omega (arith, x.few);
        rel = x.rel;
        word = x.word;
        rounds = x.rounds;
        leads = x.leads;
      }
  taken_two C n w (None ∷ ls) s f r e h = taken_two C n w ls s f r e h
  taken_two C n w (Some v ∷ ls) s f r e h =
      let rest = Then (labels_code held.Zero n ls) C in
      let c = compares_other (Then (choice_code n) rest) f s w v true (nat_eq w v) r e h refl in
      taken_behind (Then (labels_code held.Two n (Some v ∷ ls)) C) (Then (choice_code n) rest) f n w 2 3 true s c
      (taken_here rest c.to n s c.rel c.holds)

  -- by the first of a three
  taken_one : (C : Code) (n w : ℕ) (ls : List (Option ℕ)) (s : eval.State) (f : State) → Related S s f
      → f.vars (temp 0) ≡ Some w → f.vars (scratch 0) ≡ Some 1 → Taken (Then (labels_code held.One n ls) C) f n 7 s
  taken_one C n w [] s f r e h =
      let x = taken_here C f n s r h in
      record {
        t = x.t;
        to = x.to;
        few = omega (arith, x.few);
        rel = x.rel;
        word = x.word;
        rounds = x.rounds;
        leads = x.leads;
      }
  taken_one C n w (None ∷ ls) s f r e h = taken_one C n w ls s f r e h
  taken_one C n w (Some v ∷ ls) s f r e h =
      let rest = Then (labels_code held.Two n ls) C in
      let c = compares_other rest f s w v true (nat_eq w v) r e h refl in
      taken_behind (Then (labels_code held.One n (Some v ∷ ls)) C) rest f n w 2 5 true s c
      (taken_two C n w ls s c.to c.rel c.value c.holds)

  -- a label that is equal, which a step pays
  label_found : (all : List TypedSection) (a : Code) (f : State) (n turns k more c : ℕ) (here : List TypedStmt)
      (s : eval.State) → here ≡ bodies (drop n all) → n ≤ length all → s.stock ≡ suc k
      → turns + 2 * n ≤ 8 + more → Taken a f n turns (record s { stock = k })
      → Choice all a f s more (suc c) (run_from (meaning P) here (record s { stock = k }))
  label_found all a f n turns k more c here s hn hl ek few x =
      Goes_to (record {
        t = x.t;
        m = n;
        at = record s { stock = k };
        to = x.to;
        is = ap (λ b. run_from (meaning P) b (record s { stock = k })) hn;
        count = hl;
        few = omega (arith, ek, few, x.few);
        less = omega (arith, ek);
        left = omega (arith, ek);
        rel = x.rel;
        word = x.word;
        rounds = x.rounds;
        leads = x.leads;
      })

  -- LABELS

  -- one label, which is the one or is followed by others
  one_label : (all : List TypedSection) (n w c l k v : ℕ) (here : List TypedStmt) (C : Code) (ls : List (Option ℕ))
      (s : eval.State) (f : State) (q : Result) → here ≡ bodies (drop n all) → n ≤ length all → n ≤ suc l
      → s.stock ≡ suc k → Related S s f → f.vars (temp 0) ≡ Some w → (h : Held) → NoneHeld h f
      → ((o : Held) (g : State) → Related S (record s { stock = k }) g → g.vars (temp 0) ≡ Some w
      → NoneHeld o g → Choice all (Then (labels_code o n ls) C) g (record s { stock = k })
      (2 + 6 * suc l + due o) c q)
      → (b : Bool) → nat_eq w v ≡ b → Choice all (Then (labels_code h n (Some v ∷ ls)) C) f s
      (2 + 6 * l + due h) (suc c) (cond b (run_from (meaning P) here (record s { stock = k })) q)
  one_label all n w c l k v here C ls s f q hn hl le ek r e held.Zero none ih true eb =
      let s1 = record s { stock = k } in
      let rest = Then (labels_code held.One n ls) C in
      let x = compares_first rest f s1 w v true (spent S s f k r) e eb in
      label_found all (Then (labels_code held.Zero n (Some v ∷ ls)) C) f n 8 k (2 + 6 * l + 0) c here s hn hl ek
      (omega (arith, le))
      (taken_behind (Then (labels_code held.Zero n (Some v ∷ ls)) C) rest f n w 1 7 true s1 x
      (taken_one C n w ls s1 x.to x.rel x.value x.holds))
  one_label all n w c l k v here C ls s f q hn hl le ek r e held.One none ih true eb =
      let s1 = record s { stock = k } in
      let rest = Then (labels_code held.Two n ls) C in
      let x = compares_other rest f s1 w v false true (spent S s f k r) e none eb in
      label_found all (Then (labels_code held.One n (Some v ∷ ls)) C) f n 7 k (2 + 6 * l + 1) c here s hn hl ek
      (omega (arith, le))
      (taken_behind (Then (labels_code held.One n (Some v ∷ ls)) C) rest f n w 2 5 true s1 x
      (taken_two C n w ls s1 x.to x.rel x.value x.holds))
  one_label all n w c l k v here C ls s f q hn hl le ek r e held.Two none ih true eb =
      let s1 = record s { stock = k } in
      let rest = Then (labels_code held.Zero n ls) C in
      let x = compares_other (Then (choice_code n) rest) f s1 w v false true (spent S s f k r) e none eb in
      label_found all (Then (labels_code held.Two n (Some v ∷ ls)) C) f n 5 k (2 + 6 * l + 1) c here s hn hl ek
      (omega (arith, le))
      (taken_behind (Then (labels_code held.Two n (Some v ∷ ls)) C) (Then (choice_code n) rest) f n w 2 3 true s1 x
      (taken_here rest x.to n s1 x.rel x.holds))
  one_label all n w c l k v here C ls s f q hn hl le ek r e held.Zero none ih false eb =
      let s1 = record s { stock = k } in
      let rest = Then (labels_code held.One n ls) C in
      let x = compares_first rest f s1 w v false (spent S s f k r) e eb in
      choice_from all (Then (labels_code held.Zero n (Some v ∷ ls)) C) rest f x.to s s1 x.t (2 + 6 * suc l + 1)
      (2 + 6 * l + 0) c (suc c) q (omega (arith, ek)) (omega (arith, ek, x.few)) (omega (arith, ek)) x.rounds x.moves
      (ih held.One x.to x.rel x.value x.holds)
  one_label all n w c l k v here C ls s f q hn hl le ek r e held.One none ih false eb =
      let s1 = record s { stock = k } in
      let rest = Then (labels_code held.Two n ls) C in
      let x = compares_other rest f s1 w v false false (spent S s f k r) e none eb in
      choice_from all (Then (labels_code held.One n (Some v ∷ ls)) C) rest f x.to s s1 x.t (2 + 6 * suc l + 1)
      (2 + 6 * l + 1) c (suc c) q (omega (arith, ek)) (omega (arith, ek, x.few)) (omega (arith, ek)) x.rounds x.moves
      (ih held.Two x.to x.rel x.value x.holds)
  one_label all n w c l k v here C ls s f q hn hl le ek r e held.Two none ih false eb =
      let s1 = record s { stock = k } in
      let rest = Then (labels_code held.Zero n ls) C in
      let x = compares_other (Then (choice_code n) rest) f s1 w v false false (spent S s f k r) e none eb in
      choice_from all (Then (labels_code held.Two n (Some v ∷ ls)) C) rest f x.to s s1 (x.t + 1)
      (2 + 6 * suc l + 0) (2 + 6 * l + 1) c (suc c) q (omega (arith, ek)) (omega (arith, ek, x.few)) (omega (arith, ek))
      x.rounds (moves_from (run P most S y (Then (labels_code held.Two n (Some v ∷ ls)) C) f)
      (run P most S y (Then (choice_code n) rest) x.to) (run P most S y rest x.to) x.t 1 x.moves
      (passes rest x.to n x.holds)) (ih held.Zero x.to x.rel x.value tt)

  -- at the end of a section of which none of those left is equal
  labels_pass : (all : List TypedSection) (C : Code) (n c l : ℕ) (s : eval.State) (f : State) (q : Result)
      (h : Held) → NoneHeld h f → Choice all C f s (2 + 6 * l) c q
      → Choice all (Then (labels_code h n []) C) f s (2 + 6 * l + due h) (0 + c) q
  labels_pass all C n c l s f q held.Zero none x =
      choice_within all C f s (2 + 6 * l) (2 + 6 * l + 0) c (0 + c) q (omega arith) (omega arith) x
  labels_pass all C n c l s f q held.One none x =
      choice_from all (Then (choice_code n) C) C f f s s 1 (2 + 6 * l) (2 + 6 * l + 1) c (0 + c) q (omega arith)
      (omega arith) (omega arith) refl (passes C f n none) x
  labels_pass all C n c l s f q held.Two none x =
      choice_from all (Then (choice_code n) C) C f f s s 1 (2 + 6 * l) (2 + 6 * l + 1) c (0 + c) q (omega arith)
      (omega arith) (omega arith) refl (passes C f n none) x

  -- the labels of one section, of which some are to come, and what follows them
  labels_choose : (all : List TypedSection) (n w c : ℕ) (here : List TypedStmt) (C : Code)
      (ts : List Target) → here ≡ bodies (drop n all) → n ≤ length all → (ls : List (Option ℕ)) (h : Held) (l : ℕ)
      (other : List TypedStmt) (s : eval.State) (f : State) → n ≤ suc l → Related S s f
      → f.vars (temp 0) ≡ Some w → NoneHeld h f
      → ((s1 : eval.State) (g : State) (l1 : ℕ) → l1 ≡ l + case_count ls → Related S s1 g
      → g.vars (temp 0) ≡ Some w → Choice all C g s1 (2 + 6 * l1) c
      (compared (meaning P) w ts (cond (has_default ls) here other) s1))
      → Choice all (Then (labels_code h n ls) C) f s (2 + 6 * l + due h) (case_count ls + c)
      (compared (meaning P) w (leading ls here ++ ts) other s)
  labels_choose all n w c here C ts hn hl [] h l other s f le r e none go =
      labels_pass all C n c l s f (compared (meaning P) w ts other s) h none (go s f l (omega arith) r e)
  labels_choose all n w c here C ts hn hl (None ∷ ls) h l other s f le r e none go =
      labels_choose all n w c here C ts hn hl ls h l here s f le r e none (λ s1 g l1 el r1 e1.
      subst (λ o. Choice all C g s1 (2 + 6 * l1) c (compared (meaning P) w ts o s1))
      (sym (same_leg (has_default ls) here)) (go s1 g l1 el r1 e1))
  labels_choose all n w c here C ts hn hl (Some v ∷ ls) h l other s f le r e none go =
      stepped (λ k o g r1 e1 no. labels_choose all n w c here C ts hn hl ls o (suc l) other (record s { stock = k }) g
      (omega arith) r1 e1 no (λ s2 g2 l1 el r2 e2. go s2 g2 l1 (omega (arith, el)) r2 e2)) s.stock refl
    where
      stepped : ((k : ℕ) (o : Held) (g : State) → Related S (record s { stock = k }) g → g.vars (temp 0) ≡ Some w
          → NoneHeld o g → Choice all (Then (labels_code o n ls) C) g (record s { stock = k })
          (2 + 6 * suc l + due o) (case_count ls + c)
          (compared (meaning P) w (leading ls here ++ ts) other (record s { stock = k })))
          → (k : ℕ) → s.stock ≡ k → Choice all (Then (labels_code h n (Some v ∷ ls)) C) f s
          (2 + 6 * l + due h) (suc (case_count ls) + c) (spend_of k s (λ s. cond (nat_eq w v)
          (run_from (meaning P) here s) (compared (meaning P) w (leading ls here ++ ts) other s)))
      stepped ih zero ek =
          Ends_there (record {
            t = 0;
            at = s;
            is = refl;
            few = omega arith;
            all = omega (arith, ek);
            stops = waits_stop (run P most S y (Then (labels_code h n (Some v ∷ ls)) C) f) s.output f.rounds
                (code_waits checked (functions P most) (base P most) S.env
                (Then (labels_code h n (Some v ∷ ls)) C) f s.output r.output);
          })
      stepped ih (suc k) ek =
          subst (λ m. Choice all (Then (labels_code h n (Some v ∷ ls)) C) f s (2 + 6 * l + due h) m (cond (nat_eq w v)
          (run_from (meaning P) here (record s { stock = k }))
          (compared (meaning P) w (leading ls here ++ ts) other (record s { stock = k }))))
          (label_more (case_count ls) c)
          (one_label all n w (case_count ls + c) l k v here C ls s f
          (compared (meaning P) w (leading ls here ++ ts) other (record s { stock = k })) hn hl le ek r e h none (ih k)
          (nat_eq w v) refl)

  -- the labels of the sections that are to come
  pub sections_choose : (all : List TypedSection) (w D : ℕ) (xs : List TypedSection) (n l e o : ℕ)
      (other : List TypedStmt) (s : eval.State) (f : State) → drop n all ≡ xs
      → n + length xs ≡ length all → n ≤ l + e → e + free_sections (sections_in xs) ≤ 1
      → other ≡ bodies (drop o all) → o ≤ length all → default_at n o (sections_in xs) ≡ D
      → D ≤ 3 * (l + cases_in (sections_in xs)) → Related S s f → f.vars (temp 0) ≡ Some w
      → Choice all (Then (compared_code n (sections_in xs)) (found_code D)) f s (2 + 6 * l)
      (cases_in (sections_in xs)) (compared (meaning P) w (targets xs) other s)
  sections_choose all w D [] n l e o other s f hd hc hn hf ho hl eD few r t =
      let x = left_with P most S y D s f r in
      Goes_to (record {
        t = x.t;
        m = D;
        at = s;
        to = x.to;
        is = ap (λ b. run_from (meaning P) b s) (ho ∙ ap (λ o. bodies (drop o all)) eD);
        count = subst (λ o. o ≤ length all) eD hl;
        few = omega (arith, x.few, few);
        less = omega arith;
        left = omega arith;
        rel = x.rel;
        word = x.is;
        rounds = x.rounds;
        leads = x.leads;
      })
  sections_choose all w D (x ∷ xs) n l e o other s f hd hc hn hf ho hl eD few r t =
      let here = bodies (x ∷ xs) in
      let C = Then (compared_code (suc n) (sections_in xs)) (found_code D) in
      let two = one_of_two (case_count x.labels) in
      subst (λ a. Choice all a f s (2 + 6 * l) (case_count x.labels + cases_in (sections_in xs))
      (compared (meaning P) w (targets (x ∷ xs)) other s))
      (sym (then_then (labels_code held.Zero n x.labels) (compared_code (suc n) (sections_in xs)) (found_code D)))
      (choice_within all (Then (labels_code held.Zero n x.labels) C) f s (2 + 6 * l + 0) (2 + 6 * l)
      (case_count x.labels + cases_in (sections_in xs)) (case_count x.labels + cases_in (sections_in xs))
      (compared (meaning P) w (targets (x ∷ xs)) other s) (omega arith) (omega arith)
      (labels_choose all n w (cases_in (sections_in xs)) here C (targets xs) (ap bodies (sym hd))
      (omega arith) x.labels held.Zero l other s f (omega arith) r t tt (λ s1 g l1 el r1 t1.
      sections_choose all w D xs (suc n) l1 (e + one_if_none (case_count x.labels))
      (cond (has_default x.labels) n o) (cond (has_default x.labels) here other) s1 g
      (drop_next all xs x n hd) (omega arith) (omega (arith, el, two)) (omega arith)
      (by_default (has_default x.labels)) (below (has_default x.labels)) eD (omega (arith, el, few)) r1 t1)))
    where
      by_default : (b : Bool) → cond b (bodies (x ∷ xs)) other ≡ bodies (drop (cond b n o) all)
      by_default true = ap bodies (sym hd)
      by_default false = ho

      below : (b : Bool) → cond b n o ≤ length all
      below true = omega arith
      below false = hl

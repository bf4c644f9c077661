-- The sections of a switch: those that are skipped, and those that run.
use Rattle.std.proofs.Common.{◌≡◌, ℕ, zero, suc, ◌+◌, ◌-◌, ◌*◌, ◌<◌, ◌≤◌, true, false, List, [], ◌∷◌}
use Rattle.std.proofs.Common.{drop, length, Option, Some, refl, sym, ap, ◌∙◌, subst, arith}
use Rattle.std.specs.Prelude.{nat_lt}
use Rattle.std.proofs.lemmas.Bool.Decides.{nat_tests}
use Rattle.c_tree.specs.declared.TypedStmt.{TypedStmt}
use Rattle.c_tree.specs.declared.TypedSection.{TypedSection}
use Rattle.c_tree.specs.declared.TypedProgram.{TypedProgram}
use Rattle.c_meaning_spec.specs.declared.signal.Signal.{Signal}
use Rattle.c_meaning_spec.specs.declared.signal.Signal.TheVariants.{Nothing, Value, Breaks, Continues}
use Rattle.c_meaning_spec.specs.declared.signal.Signal.TheVariants.{Returns}
use Rattle.c_meaning_spec.specs.State.{Result, Go, Over}
use Rattle.c_meaning_spec.specs.inside.State.{then}
use Rattle.c_meaning_spec.specs.State as eval
use Rattle.c_meaning_spec.specs.Statement.{going_on, sequence, bodies}
use Rattle.c_meaning_spec.specs.Eval.{meaning}
use Rattle.trips_isa.specs.declared.op.Op.TheVariants as op
use Rattle.trips_isa.specs.Alu.{test}
use Rattle.ir_forms.specs.declared.flat.Arg.TheVariants.{Const, Var}
use Rattle.ir_forms.specs.inside.FlatCode.{Code, Nop, Then, only, Let, If}
use Rattle.ir_forms.specs.inside.Cells.{apply}
use Rattle.ir_forms.specs.inside.FlatSteps.{State, settle}
use Rattle.ir_forms.specs.inside.FlatRuns.{checked}
use Rattle.ir_forms.proofs.Leads.{Run, Moves, leads_from, moves_from, waits_stop}
use Rattle.ir_forms.proofs.Steps.{then_moves, both_lead, first_leads, nop_leads, code_waits}
use Rattle.ir_forms.proofs.Statements.{if_one, if_other}
use Rattle.flat_lower.specs.declared.around.Around.{Around}
use Rattle.flat_lower.specs.inside.Operations.{temp, scratch, set_word}
use Rattle.flat_lower.specs.inside.Switches.{section_code}
use Rattle.flat_lower.specs.inside.Statements.{stmts_code, sections_code}
use Rattle.flat_lower.specs.inside.Emitted.{block_of, sections_in}
use Rattle.flat_lower.specs.inside.FitsSwitches.{IsFilled}
use Rattle.flat_lower.specs.inside.Fits.{FitsStmts, FitsSections}
use Rattle.flat_lower.specs.inside.Sizes.{size_of_all, size_of_sections}
use Rattle.c_tree.specs.declared.Kind.{Kind}
use Rattle.flat_lower.proofs.Sequences.{sequence_both, no_steps}
use Rattle.flat_lower.proofs.Straight.{puts_let, var_read}
use Rattle.flat_lower.proofs.Follows.{Post, Settles, GoesIn, FollowsIn, moved_in, then_follows_in}
use Rattle.flat_lower.proofs.Follows.{ends_in, leaving_in}
use Rattle.flat_lower.proofs.Related.{Scene, IsScene, scope, context, Related, sets_unseen}
use Rattle.flat_lower.proofs.Values.{functions, base, run}
use Rattle.flat_lower.proofs.Returns.{EndedIn}
use Rattle.flat_lower.proofs.LeafStatements.{EndsHere}

-- what a section comes to: behind it temporary 0 is 0
abbrev pub RunTo : Around → Scene → Post
RunTo x S Nothing s f = Related S s f × (f.vars (temp 0) ≡ Some 0)
RunTo x S (Value w) s f = ⊥
RunTo x S Breaks s f = EndedIn x S Breaks s f
RunTo x S Continues s f = EndedIn x S Continues s f
RunTo x S (Returns w) s f = EndedIn x S (Returns w) s f

moves_none : (run : Run) → Moves run 0 run
moves_none run = record {
  by = λ k m d j q le lt.
      let e : m ≡ k = omega arith in (j, omega arith, ap (run d j) e);
}

-- a section before the number is skipped, any other is not
is_below : (k m : ℕ) → k < m → nat_lt k m ≡ true
is_below k m h = grind (arith, nat_tests)

is_reached : (k m : ℕ) → m ≤ k → nat_lt k m ≡ false
is_reached k m h = grind (arith, nat_tests)

module _ (P : TypedProgram) (most : ℕ) (S : Scene) (y : IsScene P S) (x : Around) where
  abbrev pub block : List TypedStmt → Code
  block all = stmts_code (context P S) x (block_of all)

  -- the code of the sections that are left, behind k others
  abbrev pub rest_of : ℕ → List TypedSection → Code
  rest_of k xs = sections_code (context P S) x k (sections_in xs)

  -- the section behind k others, where its number was compared
  abbrev test_of : ℕ → Code
  test_of k = only (Let (scratch 0) op.Tgtu (Var (temp 0)) (Const k))

  abbrev choice_of : List TypedStmt → Code
  choice_of all = only (If (Var (scratch 0)) Nop (Then (block all) (set_word (temp 0) 0)))

  -- SKIPPING

  pub record Skipped (a : Code) (f : State) (s : eval.State) (m most_turns : ℕ) (b : Code) : Type 0 where
    pub t : ℕ
    pub to : State
    pub few : t ≤ most_turns
    pub rel : Related S s to
    pub word : to.vars (temp 0) ≡ Some m
    pub rounds : to.rounds ≡ f.rounds
    pub moves : Moves (run P most S y a f) t (run P most S y b to)

  -- none is skipped
  skips_none : (xs : List TypedSection) (k m : ℕ) (b : Code) (s : eval.State) (f : State) → k ≡ m
      → Related S s f → f.vars (temp 0) ≡ Some m
      → Skipped (Then (rest_of k xs) b) f s m 0 (Then (rest_of m xs) b)
  skips_none xs k m b s f h r e = record {
    t = 0;
    to = f;
    few = omega arith;
    rel = r;
    word = e;
    rounds = refl;
    moves = subst (λ n. Moves (run P most S y (Then (rest_of k xs) b) f) 0
        (run P most S y (Then (rest_of n xs) b) f)) h (moves_none (run P most S y (Then (rest_of k xs) b) f));
  }

  -- so many sections are skipped, two turns for each
  pub skipping : (xs : List TypedSection) (k d m : ℕ) (b : Code) (s : eval.State) (f : State)
      → d ≤ length xs → k + d ≡ m → Related S s f → f.vars (temp 0) ≡ Some m
      → Skipped (Then (rest_of k xs) b) f s m (2 * d) (Then (rest_of m (drop d xs)) b)
  unfolding apply
  skipping [] k zero m b s f le h r e = skips_none [] k m b s f (omega (arith, h)) r e
  skipping [] k (suc d) m b s f le h r e = absurd (omega arith)
  skipping (z ∷ xs) k zero m b s f le h r e = skips_none (z ∷ xs) k m b s f (omega (arith, h)) r e
  skipping (z ∷ xs) k (suc d) m b s f le h r e =
      skip (λ g rg eg. skipping xs (suc k) d m b s g (omega arith) (omega (arith, h)) rg eg)
    where
      skip : ((g : State) → Related S s g → g.vars (temp 0) ≡ Some m
          → Skipped (Then (rest_of (suc k) xs) b) g s m (2 * d) (Then (rest_of m (drop d xs)) b))
          → Skipped (Then (rest_of k (z ∷ xs)) b) f s m (2 * suc d) (Then (rest_of m (drop d xs)) b)
      skip ih =
          let fs = functions P most in
          let bs = base P most in
          let runs = Then (block z.body) (set_word (temp 0) 0) in
          let choice = choice_of z.body in
          let rest = Then (rest_of (suc k) xs) b in
          let whole = Then (rest_of k (z ∷ xs)) b in
          let p = puts_let fs bs S.env op.Tgtu (Var (temp 0)) (Const k) f 1 (scratch 0) 81 m k 1
          (omega arith) (var_read fs bs S.env f (temp 0) m e) refl
          (ap (λ b. Some (test b)) (is_below k m (omega (arith, h)))) in
          let rp = sets_unseen S y s f p.to (scratch 0) 81 1 (omega arith) (omega arith) p.sets r in
          let tp = p.sets.others (temp 0) (λ e. omega arith) (λ e. omega arith) ∙ e in
          let none = leads_from (run P most S y choice p.to) (run P most S y Nop p.to) 1 0 (settle p.to)
          (if_one checked fs bs S.env (Var (scratch 0)) Nop runs p.to 0
          (var_read fs bs S.env p.to (scratch 0) 1 p.sets.value)) (nop_leads checked fs bs S.env p.to) in
          let tested = then_moves checked fs bs S.env (test_of k) (Then choice rest) f p.to p.t p.leads in
          let chosen = then_moves checked fs bs S.env choice rest p.to p.to (1 + 0) none in
          let first = moves_from (run P most S y whole f) (run P most S y (Then choice rest) p.to)
          (run P most S y rest p.to) p.t (1 + 0) tested chosen in
          let n = ih p.to rp tp in
          record {
            t = p.t + (1 + 0) + n.t;
            to = n.to;
            few = omega (arith, p.few, n.few);
            rel = n.rel;
            word = n.word;
            rounds = n.rounds ∙ p.sets.rounds;
            moves = moves_from (run P most S y whole f) (run P most S y rest p.to)
                (run P most S y (Then (rest_of m (drop d xs)) b) n.to) (p.t + (1 + 0)) n.t first n.moves;
          }

  -- RUNNING

  -- what is said of the statements of a section
  abbrev pub FollowsBlock : ℕ → Type 0
  FollowsBlock n =
      (all : List TypedStmt) (s : eval.State) (f : State) (top low : ℕ) → s.stock ≤ n
      → IsFilled (block_of all) → FitsStmts (scope P S) S.func.result x (block_of all)
      → size_of_all (block_of all) ≤ most → Related S s f → 8 * s.stock ≤ top + 4
      → low ≤ s.stock + most * f.rounds - size_of_all (block_of all)
      → EndsHere P most S y x (block all) f top low (sequence (meaning P) all s)

  -- what leaves some code leaves what it begins
  block_left : (A C : Post) (B b : Code) (f : State) (up down top low : ℕ) (v : Signal) (s : eval.State)
      → (Settles v → ⊥) → ((g : State) → A v s g → C v s g) → up ≤ top → low ≤ down
      → GoesIn x most A (run P most S y B f) up down v s
      → GoesIn x most C (run P most S y (Then B b) f) top low v s
  block_left A C B b f up down top low v s n h hu hl g = record {
    t = g.t;
    to = g.to;
    upper = omega (arith, g.upper);
    lower = omega (arith, g.lower);
    holds = h g.to g.holds;
    leads = first_leads checked (functions P most) (base P most) S.env B b f g.t (ends_in x v g.to)
        (λ k next. leaving_in (functions P most) (base P most) most S.env x v n g.to k next) g.leads;
  }

  -- the statements of a section, and then 0 in temporary 0
  block_ends : (B : Code) (f : State) (up down top low : ℕ) (r : Result)
      → EndsHere P most S y x B f up down r → suc up ≤ top → low ≤ down
      → FollowsIn x most (RunTo x S) (run P most S y (Then B (set_word (temp 0) 0)) f) top low r
  unfolding apply
  block_ends B f up down top low (Go Nothing s) h hu hl =
      let fs = functions P most in
      let bs = base P most in
      let p = puts_let fs bs S.env op.Mov (Const 0) (Const 0) h.to 1 (temp 0) 80 0 0 0 (omega arith) refl refl
      refl in
      record {
        t = h.t + p.t;
        to = p.to;
        upper = omega (arith, h.upper, p.few);
        lower = subst (λ r. low ≤ s.stock + most * r) (sym p.sets.rounds) (omega (arith, h.lower));
        holds = (
          sets_unseen S y s h.to p.to (temp 0) 80 0 (omega arith) (omega arith) p.sets h.holds,
          p.sets.value,
        );
        leads = both_lead checked fs bs S.env B (set_word (temp 0) 0) f h.to h.t p.t (settle p.to) h.leads
            p.leads;
      }
  block_ends B f up down top low (Go (Value w) s) h hu hl = absurd h.holds
  block_ends B f up down top low (Go Breaks s) h hu hl =
      block_left (EndedIn x S) (RunTo x S) B (set_word (temp 0) 0) f up down top low Breaks s (λ z. z)
      (λ g z. z) (omega arith) hl h
  block_ends B f up down top low (Go Continues s) h hu hl =
      block_left (EndedIn x S) (RunTo x S) B (set_word (temp 0) 0) f up down top low Continues s (λ z. z)
      (λ g z. z) (omega arith) hl h
  block_ends B f up down top low (Go (Returns w) s) h hu hl =
      block_left (EndedIn x S) (RunTo x S) B (set_word (temp 0) 0) f up down top low (Returns w) s (λ z. z)
      (λ g z. z) (omega arith) hl h
  block_ends B f up down top low (Over why s) h hu hl =
      then_follows_in (functions P most) (base P most) most S.env x x (EndedIn x S) (RunTo x S) B
      (set_word (temp 0) 0) f up down top low (Over why s) (λ v s. Go v s) h (omega arith) hl
      (λ v s2 g t e holds us ds. absurd (cc e))

  -- one section, where no more is skipped
  section_ends : (n : ℕ) → FollowsBlock n → (k v : ℕ) (all : List TypedStmt) (s : eval.State) (f : State)
      (top low : ℕ) → s.stock ≤ n → IsFilled (block_of all)
      → FitsStmts (scope P S) S.func.result x (block_of all) → size_of_all (block_of all) ≤ most
      → Related S s f → f.vars (temp 0) ≡ Some v → v ≤ k → 8 * s.stock ≤ top + 1
      → 3 ≤ top
      → low ≤ s.stock + most * f.rounds - size_of_all (block_of all)
      → FollowsIn x most (RunTo x S) (run P most S y (section_code k (block all)) f) top low
      (sequence (meaning P) all s)
  unfolding apply
  section_ends n h k v all s f top low le fill t z r e under hu three hl =
      let fs = functions P most in
      let bs = base P most in
      let runs = Then (block all) (set_word (temp 0) 0) in
      let choice = choice_of all in
      let p = puts_let fs bs S.env op.Tgtu (Var (temp 0)) (Const k) f 1 (scratch 0) 81 v k 0
      (omega arith) (var_read fs bs S.env f (temp 0) v e) refl
      (ap (λ b. Some (test b)) (is_reached k v under)) in
      let rp = sets_unseen S y s f p.to (scratch 0) 81 0 (omega arith) (omega arith) p.sets r in
      let few = p.few in
      let there = subst (λ r. low ≤ s.stock + most * r - size_of_all (block_of all)) (sym p.sets.rounds) hl in
      let moves = moves_from (run P most S y (section_code k (block all)) f) (run P most S y choice p.to)
      (run P most S y runs p.to) p.t 1 (then_moves checked fs bs S.env (test_of k) choice f p.to p.t p.leads)
      (if_other checked fs bs S.env (Var (scratch 0)) Nop runs p.to
      (var_read fs bs S.env p.to (scratch 0) 0 p.sets.value)) in
      moved_in x most (RunTo x S) (run P most S y (section_code k (block all)) f) (run P most S y runs p.to)
      (p.t + 1) top low (sequence (meaning P) all s) moves (omega (arith, few))
      (block_ends (block all) p.to (top - 3) low (top - (p.t + 1)) low (sequence (meaning P) all s)
      (h all s p.to (top - 3) low le fill t z rp (omega arith) there) (omega (arith, few)) (omega arith))

  -- a section and those behind it
  sections_seq : (a b : Code) (f : State) (up down top low : ℕ) (r : Result)
      (next : eval.State → Result) → FollowsIn x most (RunTo x S) (run P most S y a f) up down r → up ≤ top
      → low ≤ down
      → ((s1 : eval.State) (g : State) (t : ℕ) → Related S s1 g → g.vars (temp 0) ≡ Some 0
      → t + 8 * s1.stock ≤ up → down ≤ s1.stock + most * g.rounds
      → FollowsIn x most (EndedIn x S) (run P most S y b g) (top - t) low (next s1))
      → FollowsIn x most (EndedIn x S) (run P most S y (Then a b) f) top low (then r (λ v s. going_on v s next))
  sections_seq a b f up down top low (Go Nothing s1) next h hu hl go =
      then_follows_in (functions P most) (base P most) most S.env x x (RunTo x S)
      (EndedIn x S) a b f up down top low (Go Nothing s1) (λ v s. going_on v s next) h hu hl
      (λ v s2 g t e holds us ds. nothing v s2 g t e holds us ds)
    where
      nothing : (v : Signal) (s2 : eval.State) (g : State) (t : ℕ) → Go Nothing s1 ≡ Go v s2
          → RunTo x S v s2 g → t + 8 * s2.stock ≤ up → down ≤ s2.stock + most * g.rounds
          → Settles v × FollowsIn x most (EndedIn x S) (run P most S y b g) (top - t) low (going_on v s2 next)
      nothing Nothing s2 g t e holds us ds = (tt, go s2 g t holds.0 holds.1 us ds)
      nothing (Value w) s2 g t e holds us ds = absurd (cc e)
      nothing Breaks s2 g t e holds us ds = absurd (cc e)
      nothing Continues s2 g t e holds us ds = absurd (cc e)
      nothing (Returns w) s2 g t e holds us ds = absurd (cc e)
  sections_seq a b f up down top low (Go (Value w) s1) next h hu hl go = absurd h.holds
  sections_seq a b f up down top low (Go Breaks s1) next h hu hl go =
      block_left (RunTo x S) (EndedIn x S) a b f up down top low Breaks s1 (λ z. z) (λ g z. z) hu hl h
  sections_seq a b f up down top low (Go Continues s1) next h hu hl go =
      block_left (RunTo x S) (EndedIn x S) a b f up down top low Continues s1 (λ z. z) (λ g z. z) hu hl h
  sections_seq a b f up down top low (Go (Returns w) s1) next h hu hl go =
      block_left (RunTo x S) (EndedIn x S) a b f up down top low (Returns w) s1 (λ z. z) (λ g z. z) hu hl h
  sections_seq a b f up down top low (Over why s1) next h hu hl go =
      then_follows_in (functions P most) (base P most) most S.env x x (RunTo x S)
      (EndedIn x S) a b f up down top low (Over why s1) (λ v s. going_on v s next) h hu hl
      (λ v s2 g t e holds us ds. absurd (cc e))

  -- all sections from one on, of which none is skipped
  pub sections_run : (n : ℕ) → FollowsBlock n → (j : Option Kind) (k v : ℕ) (xs : List TypedSection)
      (s : eval.State) (f : State) (top low : ℕ) → s.stock ≤ n
      → FitsSections (scope P S) S.func.result x j (sections_in xs)
      → size_of_sections (sections_in xs) ≤ most → Related S s f → f.vars (temp 0) ≡ Some v → v ≤ k
      → 8 * s.stock ≤ top → low ≤ s.stock + most * f.rounds - size_of_sections (sections_in xs)
      → FollowsIn x most (EndedIn x S) (run P most S y (rest_of k xs) f) top low
      (sequence (meaning P) (bodies xs) s)
  sections_run n h j k v [] s f top low le t z r e under hu hl = record {
    t = 0;
    to = f;
    upper = omega arith;
    lower = omega arith;
    holds = r;
    leads = nop_leads checked (functions P most) (base P most) S.env f;
  }
  sections_run n h j k v (w ∷ xs) s f top low le t z r e under hu hl =
      subst (λ q. FollowsIn x most (EndedIn x S) (run P most S y (rest_of k (w ∷ xs)) f) top low q)
      (sym (sequence_both P w.body (bodies xs) s))
      (by_stock (λ s1 g up down le1 rel e1 us ds. sections_run n h j (suc k) 0 xs s1 g up down le1 t.4
      (omega arith) rel e1 (omega arith) us ds) s.stock refl)
    where
      by_stock : ((s1 : eval.State) (g : State) (up down : ℕ) → s1.stock ≤ n → Related S s1 g
          → g.vars (temp 0) ≡ Some 0 → 8 * s1.stock ≤ up
          → down ≤ s1.stock + most * g.rounds - size_of_sections (sections_in xs)
          → FollowsIn x most (EndedIn x S) (run P most S y (rest_of (suc k) xs) g) up down
          (sequence (meaning P) (bodies xs) s1)) → (i : ℕ) → s.stock ≡ i
          → FollowsIn x most (EndedIn x S) (run P most S y (rest_of k (w ∷ xs)) f) top low
          (then (sequence (meaning P) w.body s) (λ v s. going_on v s (sequence (meaning P) (bodies xs))))
      by_stock ih zero ek =
          subst (λ q. FollowsIn x most (EndedIn x S) (run P most S y (rest_of k (w ∷ xs)) f) top low
          (then q (λ v s. going_on v s (sequence (meaning P) (bodies xs)))))
          (sym (no_steps P w.body s ek t.2))
          (record {
            t = 0;
            r = f.rounds;
            upper = omega arith;
            lower = omega (arith, ek);
            stops = waits_stop (run P most S y (rest_of k (w ∷ xs)) f) s.output f.rounds
                (code_waits checked (functions P most) (base P most) S.env (rest_of k (w ∷ xs)) f s.output
                r.output);
          })
      by_stock ih (suc i) ek =
          let down = s.stock + most * f.rounds - size_of_all (block_of w.body) in
          sections_seq (section_code k (block w.body)) (rest_of (suc k) xs) f (8 * s.stock) down top low
          (sequence (meaning P) w.body s) (sequence (meaning P) (bodies xs))
          (section_ends n h k v w.body s f (8 * s.stock) down le t.2 t.3 (omega arith) r e under (omega arith)
          (omega (arith, ek)) (omega arith)) hu (omega arith)
          (λ s1 g t1 rel e1 us ds. ih s1 g (top - t1) low (omega arith) rel e1 (omega arith) (omega arith))

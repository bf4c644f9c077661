-- Runs of a loop of flat code: its turns, what its body leads to, and what its last part does.
use Rattle.std.proofs.Common.{◌≡◌, ℕ, zero, suc, ◌+◌, ◌<◌, ◌≤◌, List, refl, sym, ap, ◌∙◌, arith}
use Rattle.ir_forms.specs.inside.FlatCode.{Loop, Code, only, Function}
use Rattle.ir_forms.specs.inside.Cells.{Checks}
use Rattle.ir_forms.specs.inside.FlatSteps.{State, Env, Res, Gone, Broke, Again, Gave, Halts}
use Rattle.ir_forms.specs.inside.FlatSteps.{Unfinished, Wild, unfinished, settle, then_run, counted}
use Rattle.ir_forms.specs.inside.FlatSteps.{after_post, after_body, loop_turns, Calls, exec}
use Rattle.ir_forms.proofs.Leads.{Run, Leads, Stops, Moves, Waits}
use Rattle.ir_forms.proofs.Steps.{settle_settled, at_zero}
use Rattle.ir_forms.proofs.Steps

post_closed : (r : Res) (h : State → ℕ → Res)
    → ((s : State) (m : ℕ) → then_run (h s m) settle ≡ h s m)
    → then_run (after_post r h) settle ≡ after_post r h
post_closed (Gone s m) h w = w s m
post_closed (Broke s m) h w = refl
post_closed (Again s m) h w = refl
post_closed (Gave v s m) h w = refl
post_closed (Halts how) h w = refl
post_closed (Unfinished out r) h w = refl
post_closed Wild h w = refl

body_closed : (r : Res) (p h : State → ℕ → Res)
    → ((s : State) (m : ℕ) → then_run (h s m) settle ≡ h s m)
    → then_run (after_body r p h) settle ≡ after_body r p h
body_closed (Gone s m) p h w = post_closed (p s m) h w
body_closed (Broke s m) p h w = settle_settled s m
body_closed (Again s m) p h w = post_closed (p s m) h w
body_closed (Gave v s m) p h w = refl
body_closed (Halts how) p h w = refl
body_closed (Unfinished out r) p h w = refl
body_closed Wild p h w = refl

-- a loop is settled at its end
turns_closed : (j : ℕ) (b p : State → ℕ → Res) (s : State) (m : ℕ)
    → then_run (loop_turns j b p s m) settle
    ≡ loop_turns j b p s m
turns_closed zero b p s m = refl
turns_closed (suc j) b p s zero = refl
turns_closed (suc j) b p s (suc m) = body_closed (b (counted s) m) p (loop_turns j b p)
    (λ t k. turns_closed j b p t k)

module _ (c : Checks) (fs : List Function) (base : ℕ) where
  -- what the functions do when they are called, with calls that nest less than d deep
  abbrev call_at : ℕ → Calls
  call_at = Steps.call_at c fs base

  -- code from a state on
  abbrev code_run : Env → Code → State → Run
  code_run = Steps.code_run c fs base

  -- the turns of a loop from a state on
  abbrev pub loop_run : Env → Code → Code → State → Run
  loop_run e a b s d j m = loop_turns j (exec c (call_at d) e a) (exec c (call_at d) e b) s m

  turns_zero : (j : ℕ) (b p : State → ℕ → Res) (s : State) → loop_turns j b p s 0 ≡ unfinished s
  turns_zero zero b p s = refl
  turns_zero (suc j) b p s = refl

  -- with no turns left a loop is unfinished, with what the state has put out
  pub loop_waits : (e : Env) (a b : Code) (s : State) (out : List ℕ) → s.output ≡ out
      → Waits (loop_run e a b s) out s.rounds
  loop_waits e a b s out h = record {
    by = λ d j lt.
        turns_zero j (exec c (call_at d) e a) (exec c (call_at d) e b) s
        ∙ ap (λ o. Unfinished o s.rounds) h;
  }

  -- a loop begins with its turns
  pub loop_moves : (e : Env) (a b : Code) (s : State)
      → Moves (code_run e (only (Loop a b)) s) 0 (loop_run e a b s)
  loop_moves e a b s = record {
    by = λ k m d j q le lt.
        let e1 : m ≡ k = omega arith in (
          suc k,
          omega arith,
          ap (exec c (call_at d) e (only (Loop a b)) s) e1
              ∙ turns_closed (suc k) (exec c (call_at d) e a) (exec c (call_at d) e b) s k,
        );
  }

  -- a turn, from what its body does
  turn_is : (e : Env) (a b : Code) (s : State) (t : ℕ) (g : ℕ → Res)
      → Leads (code_run e a (counted s)) t g
      → (k m d j : ℕ) → m ≡ suc t + k → m ≤ d → m < j
      → (i : ℕ) × (k < i) × (loop_run e a b s d j m ≡ after_body (g k) (exec c (call_at d) e b)
      (loop_turns i (exec c (call_at d) e a) (exec c (call_at d) e b)))
  turn_is e a b s t g l k m d zero q le lt = absurd (omega arith)
  turn_is e a b s t g l k m d (suc j) q le lt =
      let e1 : m ≡ suc (t + k) = omega arith in
      let h = exec c (call_at d) e a in
      let p = exec c (call_at d) e b in (
        j,
        omega arith,
        ap (loop_turns (suc j) h p s) e1
            ∙ ap (λ r. after_body r p (loop_turns j h p))
            (l.by k (t + k) d j refl (omega arith) (omega arith)),
      )

  -- the body goes on, or continues: then comes the part after it
  abbrev pub post_run : Env → Code → Code → State → Run
  post_run e a b s d j m =
      after_post (exec c (call_at d) e b s m)
      (loop_turns j (exec c (call_at d) e a) (exec c (call_at d) e b))

  -- what ends a turn ends the loop
  pub turn_leads : (e : Env) (a b : Code) (s : State) (t : ℕ) (g h : ℕ → Res)
      → ((k : ℕ) (p next : State → ℕ → Res) → after_body (g k) p next ≡ h k)
      → Leads (code_run e a (counted s)) t g
      → Leads (loop_run e a b s) (suc t) h
  turn_leads e a b s t g h w l = record {
    by = λ k m d j q le lt.
        let x = turn_is e a b s t g l k m d j q le lt in
        x.2 ∙ w k (exec c (call_at d) e b)
        (loop_turns x.0 (exec c (call_at d) e a) (exec c (call_at d) e b));
  }

  -- where a loop's body has not ended, the loop has not, with a turn more
  pub turn_stops : (e : Env) (a b : Code) (s : State) (t : ℕ) (out : List ℕ) (r : ℕ)
      → Stops (code_run e a (counted s)) t out r → Stops (loop_run e a b s) (suc t) out r
  turn_stops e a b s t out r l = record { by = λ d j le lt. stop d j le lt }
    where
      stop : (d j : ℕ) → suc t ≤ d → suc t < j
          → loop_turns j (exec c (call_at d) e a) (exec c (call_at d) e b) s
          (suc t) ≡ Unfinished out r
      stop d zero le lt = absurd (omega arith)
      stop d (suc j) le lt =
          ap (λ r. after_body r (exec c (call_at d) e b)
          (loop_turns j (exec c (call_at d) e a) (exec c (call_at d) e b)))
          (l.by d j (omega arith) (omega arith))

  body_settled : (d j : ℕ) (e : Env) (a b : Code) (g : State) (k : ℕ)
      → after_body (settle g k) (exec c (call_at d) e b)
      (loop_turns j (exec c (call_at d) e a) (exec c (call_at d) e b)) ≡ post_run e a b g d j k
  body_settled d j e a b g zero =
      sym (ap (λ r. after_post r (loop_turns j (exec c (call_at d) e a) (exec c (call_at d) e b)))
      (at_zero c fs base d e b g))
  body_settled d j e a b g (suc k) = refl

  -- where the body goes on, or continues, the part after it begins
  pub turn_goes : (e : Env) (a b : Code) (s g : State) (t : ℕ)
      → Leads (code_run e a (counted s)) t (settle g)
      → Moves (loop_run e a b s) (suc t) (post_run e a b g)
  turn_goes e a b s g t l = record {
    by = λ k m d j q le lt.
        let x = turn_is e a b s t (settle g) l k m d j q le lt in
        (x.0, x.1, x.2 ∙ body_settled d x.0 e a b g k);
  }

  -- where a loop's body continues, the loop goes on with its last part, a turn later
  pub turn_continues : (e : Env) (a b : Code) (s g : State) (t : ℕ)
      → Leads (code_run e a (counted s)) t (Again g)
      → Moves (loop_run e a b s) (suc t) (post_run e a b g)
  turn_continues e a b s g t l = record {
    by = λ k m d j q le lt. turn_is e a b s t
        (Again g) l k m d j q le lt;
  }

  post_settled : (j : ℕ) (h p : State → ℕ → Res) (g : State) (k : ℕ)
      → after_post (settle g k) (loop_turns j h p)
      ≡ loop_turns j h p g k
  post_settled j h p g zero = sym (turns_zero j h p g)
  post_settled j h p g (suc k) = refl

  -- and after it the next turn
  pub post_moves : (e : Env) (a b : Code) (s g : State) (t : ℕ)
      → Leads (code_run e b s) t (settle g)
      → Moves (post_run e a b s) t (loop_run e a b g)
  post_moves e a b s g t l = record {
    by = λ k m d j q le lt.
        let h = exec c (call_at d) e a in
        let p = exec c (call_at d) e b in (
          j,
          omega arith,
          ap (λ r. after_post r (loop_turns j h p)) (l.by k m d j q le lt)
              ∙ post_settled j h p g k,
        );
  }

  -- where the last part of a loop's turn leads, what follows it does
  pub post_leads : (e : Env) (a b : Code) (s : State) (t : ℕ) (g h : ℕ → Res)
      → ((k : ℕ) (next : State → ℕ → Res) → after_post (g k) next ≡ h k)
      → Leads (code_run e b s) t g
      → Leads (post_run e a b s) t h
  post_leads e a b s t g h w l = record {
    by = λ k m d j q le lt.
        ap (λ r. after_post r (loop_turns j (exec c (call_at d) e a) (exec c (call_at d) e b)))
        (l.by k m d j q le lt)
        ∙ w k (loop_turns j (exec c (call_at d) e a) (exec c (call_at d) e b));
  }

  -- where the last part of a loop's turn has not ended, the loop has not
  pub post_stops : (e : Env) (a b : Code) (s : State) (t : ℕ) (out : List ℕ) (r : ℕ)
      → Stops (code_run e b s) t out r
      → Stops (post_run e a b s) t out r
  post_stops e a b s t out r l = record {
    by = λ d j le lt.
        ap (λ r. after_post r (loop_turns j (exec c (call_at d) e a) (exec c (call_at d) e b)))
        (l.by d j le lt);
  }

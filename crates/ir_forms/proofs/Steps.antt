-- Runs of flat code: with no turn, and two codes in a row.
use Rattle.std.proofs.Common.{◌≡◌, ℕ, zero, suc, ◌+◌, List, Option, Some, refl, sym, ap, ◌∙◌, arith}
use Rattle.ir_forms.specs.inside.FlatCode.{Step, Let, Frame, Load, Save, Call, Put, Get, If, Loop}
use Rattle.ir_forms.specs.inside.FlatCode.{Break, Continue, Return, Halt, Code, Nop, ◌▹◌, Then, Function}
use Rattle.ir_forms.specs.inside.Cells.{Checks}
use Rattle.ir_forms.specs.inside.FlatSteps.{State, Env, Res, Gone, Broke, Again, Gave, Halts}
use Rattle.ir_forms.specs.inside.FlatSteps.{Unfinished, Wild, unfinished, settle, must, then_run, Calls}
use Rattle.ir_forms.specs.inside.FlatSteps.{act, exec}
use Rattle.ir_forms.specs.inside.FlatRuns.{calls_within}
use Rattle.ir_forms.proofs.Leads.{Run, Leads, Stops, Moves, Waits}

-- RESULTS

-- what begins with nothing left to do may begin at once
pub then_settled : (g : State → ℕ → Res) → ((s : State) → g s 0 ≡ unfinished s)
    → (s : State) (k : ℕ)
    → then_run (settle s k) g ≡ g s k
then_settled g h s zero = sym (h s)
then_settled g h s (suc k) = refl

-- nothing more after what is settled
pub settle_settled : (s : State) (m : ℕ) → then_run (settle s m) settle ≡ settle s m
settle_settled s zero = refl
settle_settled s (suc m) = refl

-- what follows may be grouped either way
pub then_assoc : (r : Res) (g h k : State → ℕ → Res)
    → ((s : State) (m : ℕ) → h s m ≡ then_run (g s m) k) → then_run r h
    ≡ then_run (then_run r g) k
then_assoc (Gone s m) g h k w = w s m
then_assoc (Broke s m) g h k w = refl
then_assoc (Again s m) g h k w = refl
then_assoc (Gave v s m) g h k w = refl
then_assoc (Halts how) g h k w = refl
then_assoc (Unfinished out r) g h k w = refl
then_assoc Wild g h k w = refl

-- no code after code is that code
pub then_nop : (a : Code) → Then a Nop ≡ a
then_nop Nop = refl
then_nop (c ▹ a) = ap (λ x. c ▹ x) (then_nop a)

-- code may be grouped either way
pub then_then : (a b c : Code) → Then (Then a b) c ≡ Then a (Then b c)
then_then Nop b c = refl
then_then (x ▹ a) b c = ap (λ y. x ▹ y) (then_then a b c)

-- what is there is taken
pub must_is : {A : Type 0} (o : Option A) (a : A) (next : A → Res) → o ≡ Some a
    → must o next ≡ next a
must_is o a next e = ap (λ o. must o next) e

module _ (c : Checks) (fs : List Function) (base : ℕ) where
  -- what the functions do when they are called, with calls that nest less than d deep
  abbrev pub call_at : ℕ → Calls
  call_at d = calls_within c fs base d

  -- code from a state on
  abbrev pub code_run : Env → Code → State → Run
  code_run e a s d j m = exec c (call_at d) e a s m

  -- WITH NO TURN

  act_zero : (d : ℕ) (e : Env) (a : Step) (s : State) → act c (call_at d) e a s 0 ≡ unfinished s
  act_zero d e (Let to op x y) s = refl
  act_zero d e (Frame to at) s = refl
  act_zero d e (Load to op x) s = refl
  act_zero d e (Save op x y) s = refl
  act_zero d e (Call f xs to kept) s = refl
  act_zero d e (Put x) s = refl
  act_zero d e (Get to) s = refl
  act_zero d e (If x a b) s = refl
  act_zero d e (Loop a b) s = refl
  act_zero d e Break s = refl
  act_zero d e Continue s = refl
  act_zero d e (Return x) s = refl
  act_zero d e (Halt x) s = refl

  -- code that has no turn has not ended
  pub at_zero : (d : ℕ) (e : Env) (a : Code) (s : State) → exec c (call_at d) e a s 0 ≡ unfinished s
  at_zero d e Nop s = refl
  at_zero d e (x ▹ a) s = ap (λ r. then_run r (exec c (call_at d) e a)) (act_zero d e x s)

  -- With no turns left code is unfinished, with what the state has put out.
  pub code_waits : (e : Env) (a : Code) (s : State) (out : List ℕ) → s.output ≡ out
      → Waits (code_run e a s) out s.rounds
  code_waits e a s out h = record {
    by = λ d j lt. at_zero d e a s
        ∙ ap (λ o. Unfinished o s.rounds) h;
  }

  -- CODE AFTER CODE

  -- statements after others
  pub exec_then : (d : ℕ) (e : Env) (a b : Code) (s : State) (m : ℕ)
      → exec c (call_at d) e (Then a b) s m
      ≡ then_run (exec c (call_at d) e a s m) (exec c (call_at d) e b)
  exec_then d e Nop b s m = sym (then_settled (exec c (call_at d) e b) (λ t. at_zero d e b t) s m)
  exec_then d e (x ▹ a) b s m =
      then_assoc (act c (call_at d) e x s m) (exec c (call_at d) e a)
      (exec c (call_at d) e (Then a b))
      (exec c (call_at d) e b)
      (λ t k. exec_then d e a b t k)

  -- code is settled at its end
  pub code_closed : (d : ℕ) (e : Env) (a : Code) (s : State) (m : ℕ)
      → then_run (exec c (call_at d) e a s m) settle
      ≡ exec c (call_at d) e a s m
  code_closed d e a s m = sym (exec_then d e a Nop s m)
      ∙ ap (λ x. exec c (call_at d) e x s m) (then_nop a)

  -- Code that does nothing leads to the state where it began, in no turns.
  pub nop_leads : (e : Env) (s : State) → Leads (code_run e Nop s) 0 (settle s)
  nop_leads e s = record { by = λ k m d j q le lt. let e1 : m ≡ k = omega arith in ap (settle s) e1 }

  -- where the first code goes on, the second begins
  pub then_moves : (e : Env) (a b : Code) (s g : State) (t : ℕ)
      → Leads (code_run e a s) t (settle g)
      → Moves (code_run e (Then a b) s) t (code_run e b g)
  then_moves e a b s g t l = record {
    by = λ k m d j q le lt. (
      suc k,
      omega arith,
      exec_then d e a b s m
          ∙ ap (λ r. then_run r (exec c (call_at d) e b)) (l.by k m d j q le lt)
          ∙ then_settled (exec c (call_at d) e b) (λ t. at_zero d e b t) g k,
    );
  }

  -- Where the first part leads to a state and the second leads on from it, both do one behind the other.
  pub both_lead : (e : Env) (a b : Code) (s g : State) (t u : ℕ) (h : ℕ → Res)
      → Leads (code_run e a s) t (settle g)
      → Leads (code_run e b g) u h → Leads (code_run e (Then a b) s) (t + u) h
  both_lead e a b s g t u h l n = record {
    by = λ k m d j q le lt.
        exec_then d e a b s m
        ∙ ap (λ r. then_run r (exec c (call_at d) e b)) (l.by (u + k) m d j (omega arith) le lt)
        ∙ then_settled (exec c (call_at d) e b) (λ t. at_zero d e b t) g (u + k)
        ∙ n.by k (u + k) d (suc (u + k)) refl (omega arith) (omega arith);
  }

  -- what ends the first code ends both
  pub first_leads : (e : Env) (a b : Code) (s : State) (t : ℕ) (g : ℕ → Res)
      → ((k : ℕ) (next : State → ℕ → Res) → then_run (g k) next ≡ g k) → Leads (code_run e a s) t g
      → Leads (code_run e (Then a b) s) t g
  first_leads e a b s t g h l = record {
    by = λ k m d j q le lt.
        exec_then d e a b s m
        ∙ ap (λ r. then_run r (exec c (call_at d) e b)) (l.by k m d j q le lt)
        ∙ h k (exec c (call_at d) e b);
  }

  -- Where the first part of code stops, the code does.
  pub first_stops : (e : Env) (a b : Code) (s : State) (t : ℕ) (out : List ℕ) (r : ℕ)
      → Stops (code_run e a s) t out r
      → Stops (code_run e (Then a b) s) t out r
  first_stops e a b s t out r l = record {
    by = λ d j le lt.
        exec_then d e a b s t ∙ ap (λ r. then_run r (exec c (call_at d) e b)) (l.by d j le lt);
  }

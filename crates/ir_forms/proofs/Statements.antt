-- Runs of one statement of flat code that ends at once, and of a choice.
use Rattle.std.proofs.Common.{◌≡◌, ℕ, zero, suc, ◌+◌, ◌%◌, List, Some, None, refl, ap, ◌∙◌, arith}
use Rattle.trips_isa.specs.declared.op.Op.{Op}
use Rattle.ir_forms.specs.declared.flat.Arg.{Arg}
use Rattle.ir_forms.specs.inside.FlatCode.{Step, Let, Frame, Load, Save, Put, Get, If, Break, Continue}
use Rattle.ir_forms.specs.inside.FlatCode.{Return, Halt, Code, only, Function}
use Rattle.ir_forms.specs.inside.Cells.{Memory, Checks, apply, load, save}
use Rattle.ir_forms.specs.inside.FlatSteps.{State, Env, Res, Broke, Again, Gave, Halts, Exited}
use Rattle.ir_forms.specs.inside.FlatSteps.{settle, must, then_run, without_vars}
use Rattle.ir_forms.specs.inside.FlatSteps.{read, with_var, with_memory, with_output, with_next, Calls}
use Rattle.ir_forms.specs.inside.FlatSteps.{chosen, act, exec}
use Rattle.ir_forms.proofs.Leads.{Run, Leads, Moves}
use Rattle.ir_forms.proofs.Steps.{settle_settled, must_is, code_closed}
use Rattle.ir_forms.proofs.Steps

module _ (c : Checks) (fs : List Function) (base : ℕ) where
  -- what the functions do when they are called, with calls that nest less than d deep
  abbrev call_at : ℕ → Calls
  call_at = Steps.call_at c fs base

  -- code from a state on
  abbrev code_run : Env → Code → State → Run
  code_run = Steps.code_run c fs base

  -- ONE STATEMENT

  -- a statement of one turn
  pub single : (e : Env) (a : Step) (s : State) (g : ℕ → Res)
      → ((m : ℕ) → then_run (g m) settle ≡ g m)
      → ((m d : ℕ) → act c (call_at d) e a s (suc m) ≡ g m) → Leads (code_run e (only a) s) 1 g
  single e a s g w h = record {
    by = λ k m d j q le lt.
        let e1 : m ≡ suc k = omega arith in
        ap (exec c (call_at d) e (only a) s) e1 ∙ ap (λ r. then_run r settle) (h k d) ∙ w k;
  }

  -- an operation whose operands have words puts its result into its variable, in a turn
  pub let_leads : (e : Env) (to : ℕ) (op : Op) (x y : Arg) (s : State) (u v w : ℕ)
      → read c s x ≡ Some u → read c s y
      ≡ Some v → apply c op u v ≡ Some w → Leads (code_run e (only (Let to op x y)) s) 1
      (settle (with_var s to w))
  let_leads e to op x y s u v w hx hy ho =
      single e (Let to op x y) s (settle (with_var s to w)) (settle_settled (with_var s to w))
      (λ m d.
      must_is (read c s x) u (λ u. must (read c s y)
      (λ v. must (apply c op u v) (λ w. settle (with_var s to w) m))) hx
      ∙ must_is (read c s y) v (λ v. must (apply c op u v) (λ w. settle (with_var s to w) m)) hy
      ∙ must_is (apply c op u v) w (λ w. settle (with_var s to w) m) ho)

  -- the address of an array is put into a variable, in a turn
  pub frame_leads : (e : Env) (to at : ℕ) (s : State) → Leads (code_run e (only (Frame to at)) s) 1
      (settle (with_var s to (e.arrays + at)))
  frame_leads e to at s =
      single e (Frame to at) s (settle (with_var s to (e.arrays + at)))
      (settle_settled (with_var s to (e.arrays + at)))
      (λ m d. refl)

  -- a load puts what memory holds into its variable, in a turn
  pub load_leads : (e : Env) (to : ℕ) (op : Op) (x : Arg) (s : State) (a w : ℕ)
      → read c s x ≡ Some a
      → load c op s.memory a ≡ Some w → Leads (code_run e (only (Load to op x)) s) 1
      (settle (with_var s to w))
  load_leads e to op x s a w hx hl =
      single e (Load to op x) s (settle (with_var s to w)) (settle_settled (with_var s to w))
      (λ m d.
      must_is (read c s x) a (λ a. must (load c op s.memory a) (λ w. settle (with_var s to w) m)) hx
      ∙ must_is (load c op s.memory a) w (λ w. settle (with_var s to w) m) hl)

  -- a store changes memory, in a turn
  pub save_leads : (e : Env) (op : Op) (x y : Arg) (s : State) (a v : ℕ) (mem : Memory)
      → read c s x ≡ Some a
      → read c s y ≡ Some v → save c op s.memory a v ≡ Some mem
      → Leads (code_run e (only (Save op x y)) s) 1 (settle (with_memory s mem))
  save_leads e op x y s a v mem hx hy hs =
      single e (Save op x y) s (settle (with_memory s mem)) (settle_settled (with_memory s mem))
      (λ m d.
      must_is (read c s x) a (λ a. must (read c s y) (λ v. must (save c op s.memory a v)
      (λ mem. settle (with_memory s mem) m))) hx
      ∙ must_is (read c s y) v (λ v. must (save c op s.memory a v)
      (λ mem. settle (with_memory s mem) m)) hy
      ∙ must_is (save c op s.memory a v) mem (λ mem. settle (with_memory s mem) m) hs)

  -- a byte is put out, in a turn
  pub put_leads : (e : Env) (x : Arg) (s : State) (v : ℕ) → read c s x ≡ Some v
      → Leads (code_run e (only (Put x)) s) 1 (settle (with_output s (v % 256)))
  put_leads e x s v hx =
      single e (Put x) s (settle (with_output s (v % 256)))
      (settle_settled (with_output s (v % 256))) (λ m d.
      must_is (read c s x) v (λ v. settle (with_output s (v % 256)) m) hx)

  -- the next byte of the input is put into a variable, in a turn
  pub get_leads : (e : Env) (to : ℕ) (s : State) → Leads (code_run e (only (Get to)) s) 1
      (settle (with_next s to s.input))
  get_leads e to s =
      single e (Get to) s (settle (with_next s to s.input))
      (settle_settled (with_next s to s.input)) (λ m d. refl)

  -- A return leads to the end of the function with its word, in one turn.
  pub return_leads : (e : Env) (x : Arg) (s : State) (v : ℕ) → read c s x ≡ Some v
      → Leads (code_run e (only (Return (Some x))) s) 1 (Gave (Some v) s)
  return_leads e x s v hx =
      single e (Return (Some x)) s (Gave (Some v) s) (λ m. refl)
      (λ m d. must_is (read c s x) v (λ v. Gave (Some v) s m) hx)

  -- a return without a value ends the function, in a turn
  pub return_none_leads : (e : Env) (s : State)
      → Leads (code_run e (only (Return None)) s) 1 (Gave None s)
  return_none_leads e s = single e (Return None) s (Gave None s) (λ m. refl) (λ m d. refl)

  -- where the whole run is ended, it is with a word, in a turn
  pub halt_leads : (e : Env) (x : Arg) (s : State) (v : ℕ) → read c s x ≡ Some v
      → Leads (code_run e (only (Halt x)) s) 1 (λ k. Halts (Exited v (without_vars s) k))
  halt_leads e x s v hx =
      single e (Halt x) s (λ k. Halts (Exited v (without_vars s) k)) (λ m. refl)
      (λ m d. must_is (read c s x) v (λ w. Halts (Exited w (without_vars s) m)) hx)

  -- a break ends the loop, in a turn
  pub break_leads : (e : Env) (s : State) → Leads (code_run e (only Break) s) 1 (Broke s)
  break_leads e s = single e Break s (Broke s) (λ m. refl) (λ m d. refl)

  -- a continue ends the loop's turn, in a turn
  pub continue_leads : (e : Env) (s : State) → Leads (code_run e (only Continue) s) 1 (Again s)
  continue_leads e s = single e Continue s (Again s) (λ m. refl) (λ m d. refl)

  -- CHOICES

  step_moves : (e : Env) (a : Step) (n : Code) (s g : State)
      → ((m d : ℕ) → act c (call_at d) e a s (suc m) ≡ exec c (call_at d) e n g m)
      → Moves (code_run e (only a) s) 1 (code_run e n g)
  step_moves e a n s g h = record {
    by = λ k m d j q le lt.
        let e1 : m ≡ suc k = omega arith in (
          suc k,
          omega arith,
          ap (exec c (call_at d) e (only a) s) e1 ∙ ap (λ r. then_run r settle) (h k d)
              ∙ code_closed c fs base d e n g k,
        );
  }

  -- where the test's word is 0 the second part is done
  pub if_other : (e : Env) (x : Arg) (a b : Code) (s : State) → read c s x ≡ Some zero
      → Moves (code_run e (only (If x a b)) s) 1 (code_run e b s)
  if_other e x a b s h = step_moves e (If x a b) b s s (λ m d.
      must_is (read c s x) zero (λ v. chosen v (exec c (call_at d) e a s m)
      (exec c (call_at d) e b s m)) h)

  -- and else the first
  pub if_one : (e : Env) (x : Arg) (a b : Code) (s : State) (v : ℕ) → read c s x ≡ Some (suc v)
      → Moves (code_run e (only (If x a b)) s) 1 (code_run e a s)
  if_one e x a b s v h = step_moves e (If x a b) a s s (λ m d.
      must_is (read c s x) (suc v) (λ v. chosen v (exec c (call_at d) e a s m)
      (exec c (call_at d) e b s m)) h)

-- Runs of a call in flat code.
use Rattle.std.proofs.Common.{◌≡◌, ℕ, zero, suc, ◌+◌, ◌-◌, ◌<◌, ◌≤◌, Bool, false, cond, List, Option}
use Rattle.std.proofs.Common.{Some, refl, ap, ◌∙◌, arith}
use Rattle.std.specs.Prelude.{nat_lt}
use Rattle.std.proofs.lemmas.Bool.Decides.{nat_tests}
use Rattle.ir_forms.specs.declared.flat.Arg.{Arg}
use Rattle.ir_forms.specs.inside.FlatCode.{Call, Code, only, Function}
use Rattle.ir_forms.specs.inside.Cells.{Checks}
use Rattle.ir_forms.specs.inside.FlatSteps.{State, Env, Res, Gone, Broke, Again, Gave, Halts}
use Rattle.ir_forms.specs.inside.FlatSteps.{Unfinished, Wild, unfinished, settle, ten_turns, must}
use Rattle.ir_forms.specs.inside.FlatSteps.{then_run, read_all, counted, Calls, after_call, exec}
use Rattle.ir_forms.proofs.Leads.{Run, Leads, Stops}
use Rattle.ir_forms.proofs.Steps.{must_is}
use Rattle.ir_forms.proofs.Steps

-- a call is settled at its end
call_closed : (s : State) (kept : ℕ → Bool) (to : Option ℕ) (r : Res)
    → then_run (after_call s kept to r) settle
    ≡ after_call s kept to r
call_closed s kept to (Gone t zero) = refl
call_closed s kept to (Gone t (suc m)) = refl
call_closed s kept to (Broke t m) = refl
call_closed s kept to (Again t m) = refl
call_closed s kept to (Gave w t zero) = refl
call_closed s kept to (Gave w t (suc m)) = refl
call_closed s kept to (Halts how) = refl
call_closed s kept to (Unfinished out r) = refl
call_closed s kept to Wild = refl

-- a call that can be paid
pub ten_are : (s : State) (k : ℕ) (next : ℕ → Res) → ten_turns s (10 + k) next ≡ next k
ten_are s k next =
    let e : nat_lt (10 + k) 10 ≡ false = grind (arith, nat_tests) in
    let f : 10 + k - 10 ≡ k = omega arith in
    ap (λ b. cond b (unfinished s) (next (10 + k - 10))) e ∙ ap next f

module _ (c : Checks) (fs : List Function) (base : ℕ) where
  -- what the functions do when they are called, with calls that nest less than d deep
  abbrev call_at : ℕ → Calls
  call_at = Steps.call_at c fs base

  -- code from a state on
  abbrev code_run : Env → Code → State → Run
  code_run = Steps.code_run c fs base

  -- a call from the caller's state on; its own calls nest less than d deep
  abbrev pub call_run : ℕ → List ℕ → ℕ → State → Run
  call_run f ws used s d j m = call_at (suc d) f ws used s m

  -- a call that is paid
  call_is : (e : Env) (f : ℕ) (xs : List Arg) (to : Option ℕ) (kept : ℕ → Bool) (s : State)
      (ws : List ℕ)
      → read_all c s xs ≡ Some ws → (d m k : ℕ) → m ≡ 10 + k
      → exec c (call_at d) e (only (Call f xs to kept)) s m
      ≡ after_call s kept to (call_at d f ws e.used (counted s) k)
  call_is e f xs to kept s ws h d m k q =
      let next = λ (m : ℕ). must (read_all c s xs)
      (λ ws. after_call s kept to (call_at d f ws e.used (counted s) m)) in
      ap (exec c (call_at d) e (only (Call f xs to kept)) s) q
      ∙ ap (λ r. then_run r settle)
      (ten_are s k next ∙ must_is (read_all c s xs) ws (λ ws. after_call s kept to
      (call_at d f ws e.used (counted s) k)) h)
      ∙ call_closed s kept to (call_at d f ws e.used (counted s) k)

  -- where the called function leads, so does the call
  pub call_leads : (e : Env) (f : ℕ) (xs : List Arg) (to : Option ℕ) (kept : ℕ → Bool) (s : State)
      (ws : List ℕ) (t : ℕ)
      (h r : ℕ → Res) → read_all c s xs ≡ Some ws → ((k : ℕ) → after_call s kept to (h k) ≡ r k)
      → Leads (call_run f ws e.used (counted s)) t h
      → Leads (code_run e (only (Call f xs to kept)) s) (10 + t) r
  call_leads e f xs to kept s ws t h r hx w l = record { by = leads }
    where
      leads : (k m d j : ℕ) → m ≡ 10 + t + k → m ≤ d → m < j
          → code_run e (only (Call f xs to kept)) s d j m ≡ r k
      leads k m zero j q le lt = absurd (omega arith)
      leads k m (suc d) j q le lt =
          call_is e f xs to kept s ws hx (suc d) m (t + k) (omega arith)
          ∙ ap (after_call s kept to) (l.by k (t + k) d (suc (t + k)) refl (omega arith)
          (omega arith))
          ∙ w k

  -- where the function that is called has not ended, the call has not
  pub call_stops : (e : Env) (f : ℕ) (xs : List Arg) (to : Option ℕ) (kept : ℕ → Bool) (s : State)
      (ws : List ℕ) (t : ℕ)
      (out : List ℕ) (r : ℕ) → read_all c s xs ≡ Some ws
      → Stops (call_run f ws e.used (counted s)) t out r
      → Stops (code_run e (only (Call f xs to kept)) s) (10 + t) out r
  call_stops e f xs to kept s ws t out r hx l = record { by = stops }
    where
      stops : (d j : ℕ) → 10 + t ≤ d → 10 + t < j
          → code_run e (only (Call f xs to kept)) s d j (10 + t)
          ≡ Unfinished out r
      stops zero j le lt = absurd (omega arith)
      stops (suc d) j le lt =
          call_is e f xs to kept s ws hx (suc d) (10 + t) t refl
          ∙ ap (after_call s kept to) (l.by d (suc t) (omega arith) (omega arith))

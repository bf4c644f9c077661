-- From the body of a called function back to its caller.
use Rattle.std.proofs.Common.{◌≡◌, ◌≢◌, ℕ, zero, suc, ◌+◌, ◌-◌, ◌*◌, ◌%◌, ◌<◌, ◌≤◌, ◌⊎◌, inl, inr}
use Rattle.std.proofs.Common.{Bool, true, false, cond, List, [], ◌∷◌, ◌++◌, map, length, take}
use Rattle.std.proofs.Common.{Option, Some, None, refl, sym, ap, ap₂, ◌∙◌, subst, arith}
use Rattle.std.specs.Prelude.{slice_get, nat_eq, nat_lt}
use Rattle.std.proofs.lemmas.Bool.Decides.{nat_tests}
use Rattle.c_tree.specs.declared.Kind.{Kind}
use Rattle.c_tree.specs.declared.Slot.{Slot}
use Rattle.c_tree.specs.declared.TypedStmt.{TypedStmt}
use Rattle.c_tree.specs.declared.TypedGlobal.{TypedGlobal}
use Rattle.c_tree.specs.declared.TypedFunc.{TypedFunc}
use Rattle.c_tree.specs.declared.TypedProgram.{TypedProgram}
use Rattle.c_meaning_spec.specs.declared.signal.Signal.{Signal}
use Rattle.c_meaning_spec.specs.declared.signal.Signal.TheVariants.{Nothing, Value, Breaks, Continues}
use Rattle.c_meaning_spec.specs.declared.signal.Signal.TheVariants.{Returns}
use Rattle.c_meaning_spec.specs.declared.signal.Ending.{Ending}
use Rattle.c_meaning_spec.specs.declared.signal.Ending.TheVariants.{More, Undefined, Deep}
use Rattle.c_meaning_spec.specs.State.{Result, Go, Over}
use Rattle.c_meaning_spec.specs.inside.State.{then}
use Rattle.c_meaning_spec.specs.State as eval
use Rattle.c_meaning_spec.specs.Task as task
use Rattle.c_meaning_spec.specs.Call.{returned, left}
use Rattle.c_meaning_spec.specs.Eval.{meaning}
use Rattle.ir_forms.specs.declared.flat.Arg.{Arg}
use Rattle.ir_forms.specs.declared.flat.Arg.TheVariants.{Const, Var}
use Rattle.ir_forms.specs.inside.FlatCode.{Code, Nop, Then, only, Function}
use Rattle.ir_forms.specs.inside.FlatCode as flat
use Rattle.ir_forms.specs.inside.FlatViews.{stays}
use Rattle.ir_forms.specs.inside.Frames.{frame_limit, frame_of, arrays_at}
use Rattle.ir_forms.specs.inside.Cells.{Closed, marked}
use Rattle.ir_forms.specs.inside.FlatSteps.{State, Env, Res, Gone, Broke, Again, Gave, TooDeep, Unfinished}
use Rattle.ir_forms.specs.inside.FlatSteps.{Wild, turn, settle, read_all, var_put, result_put, back_in}
use Rattle.ir_forms.specs.inside.FlatSteps.{after_call, counted, exec}
use Rattle.ir_forms.specs.inside.FlatRuns.{checked, closed, closing, begun, env_of, enter, enter_if}
use Rattle.ir_forms.specs.inside.FlatRuns.{calls_within}
use Rattle.ir_forms.proofs.Leads.{Run, Leads, Stops, Waits}
use Rattle.ir_forms.proofs.Steps.{at_zero, code_run, first_leads, first_stops, both_lead, nop_leads}
use Rattle.ir_forms.proofs.CallRuns.{call_run, call_leads, call_stops}
use Rattle.ir_forms.proofs.Statements.{return_leads}
use Rattle.flat_lower.specs.inside.Tree.{Func}
use Rattle.flat_lower.specs.inside.TreeViews.{func_of, stmt_of}
use Rattle.c_constant.specs.Kinds.{IsWord}
use Rattle.flat_lower.specs.inside.Operations.{temp}
use Rattle.flat_lower.specs.inside.Expressions.{result_var}
use Rattle.flat_lower.specs.inside.Statements.{end_code, stmt_code, lowered_func, lowered_from}
use Rattle.flat_lower.specs.declared.around.Around.{Around}
use Rattle.flat_lower.specs.declared.around.Around.TheVariants as around
use Rattle.flat_lower.specs.inside.Fits.{FitsStmt}
use Rattle.flat_lower.specs.inside.FitsSwitches.{IsLooped}
use Rattle.flat_lower.specs.inside.Sizes.{size_of}
use Rattle.flat_lower.proofs.Straight.{put_at, put_other}
use Rattle.flat_lower.proofs.Bytes.{marked_out}
use Rattle.flat_lower.proofs.Objects.{Object, all_first, all_same, all_length, within_row}
use Rattle.flat_lower.proofs.Objects.{AllStored, object_row}
use Rattle.flat_lower.proofs.Follows.{Post, Goes, Follows, FollowsIn, FollowsOver, run_of}
use Rattle.flat_lower.proofs.Related.{Scene, IsScene, scope, context, frames_from, IsScalar}
use Rattle.flat_lower.proofs.Related.{Related}
use Rattle.flat_lower.proofs.Values.{KeptIs, ValueIs, Valued, functions, base, run}
use Rattle.flat_lower.proofs.Entered.{own_objects, called_scene, LoweredIs, rows_first}

-- STATEMENTS, AS WHAT IS SAID OF THEM

-- a value is returned exactly where the function has a type, and is a word of it
abbrev pub ReturnIs : Option Kind → Option ℕ → Type 0
ReturnIs None None = Unit {0}
ReturnIs None (Some w) = ⊥
ReturnIs (Some k) None = ⊥
ReturnIs (Some k) (Some w) = IsWord k w

-- what is left behind a break or a continue, by what stands around it: a switch in a loop is left with a word
-- in temporary 0, and no continue leaves a switch in no loop
abbrev pub LeftBy : Around → Scene → ℕ → eval.State → State → Type 0
LeftBy around.SwitchInLoop S w s f = Related S s f × (f.vars (temp 0) ≡ Some w)
LeftBy _ S w s f = Related S s f

-- what a statement comes to, by what stands around it
abbrev pub EndedIn : Around → Scene → Post
EndedIn x S Nothing s f = Related S s f
EndedIn x S (Value w) s f = ⊥
EndedIn x S Breaks s f = LeftBy x S 0 s f
EndedIn x S Continues s f = IsLooped x × LeftBy x S 1 s f
EndedIn x S (Returns w) s f = Related S s f × ReturnIs S.func.result w

-- the same in a loop
abbrev pub Ended : Scene → Post
Ended S v s f = EndedIn around.Loop S v s f

module _ (P : TypedProgram) (most : ℕ) where
  -- a statement is paid by its steps but for four turns
  abbrev pub FollowsRun : TypedStmt → eval.State → Type 0
  FollowsRun st s =
      (S : Scene) → IsScene P S → (x : Around) (top low : ℕ) (f : State)
      → FitsStmt (scope P S) S.func.result x (stmt_of st) → size_of (stmt_of st) ≤ most
      → Related S s f → 8 * s.stock ≤ top + 4
      → low ≤ s.stock + most * f.rounds - size_of (stmt_of st)
      → FollowsIn x most (EndedIn x S) (run_of (functions P most) (base P most) most S.env
      (stmt_code (context P S) x (stmt_of st)) f) top low (meaning P (task.Run st) s)

  -- FUNCTIONS

  lowered_at : (globals : List TypedGlobal) (main n j : ℕ) (fs : List TypedFunc) (f : TypedFunc)
      → slice_get fs j ≡ Some f → slice_get (lowered_from globals main n (map func_of fs)) j
      ≡ Some (lowered_func globals (nat_eq (n + j) main) (func_of f))
  lowered_at globals main n j [] f h = absurd (cc h)
  lowered_at globals main n zero (g ∷ fs) f h =
      let e : g ≡ f = cc h in
      let z : n ≡ n + 0 = omega arith in
      ap₂ (λ m g. Some (lowered_func globals (nat_eq m main) (func_of g))) z e
  lowered_at globals main n (suc j) (g ∷ fs) f h =
      let z : suc n + j ≡ n + suc j = omega arith in
      lowered_at globals main (suc n) j fs f h
      ∙ ap (λ m. Some (lowered_func globals (nat_eq m main) (func_of f))) z

  -- a function of the program in its lowered form
  pub function_at : (j : ℕ) (f : TypedFunc) → slice_get P.functions j ≡ Some f
      → slice_get (functions P most) j ≡ Some (lowered_func P.globals (nat_eq j P.main) (func_of f))
  function_at j f h =
      let z : 0 + j ≡ j = omega arith in
      lowered_at P.globals P.main 0 j P.functions f h
      ∙ ap (λ m. Some (lowered_func P.globals (nat_eq m P.main) (func_of f))) z

  -- the flat function of a typed one
  abbrev pub lowered_of : TypedFunc → Bool → Function
  lowered_of f is_main = lowered_func P.globals is_main (func_of f)

  -- the flat function of a typed one is its lowering
  pub lowered_is : (f : TypedFunc) (b : Bool) → LoweredIs P f (lowered_of f b)
  lowered_is f b = record { scalars = refl; arrays = refl }

  -- a call that begins in a state, where frames take some bytes
  module _ (used : ℕ) (j : ℕ) (f : TypedFunc) (found : slice_get P.functions j ≡ Some f) (vs : List ℕ)
      (c : State) where
    abbrev called : Function
    called = lowered_of f (nat_eq j P.main)

    abbrev own : ℕ
    own = arrays_at (base P most) called used

    abbrev first : State
    first = begun (base P most) called vs used c

    -- the run of code in the first state of a called function
    abbrev pub body_run : Code → Run
    body_run a = code_run checked (functions P most) (base P most)
        (env_of (base P most) called used) a first

    -- the run of the call
    abbrev pub this_call : Run
    this_call = call_run checked (functions P most) (base P most) j vs used c

    -- a call is its function's body, where its frame has room
    call_is : nat_lt frame_limit (used + frame_of called) ≡ false → (d i m : ℕ)
        → this_call d i m ≡ closing own called.arrays (body_run called.body d i m)
    call_is e d i m =
        ap (λ o. enter_if checked (calls_within checked (functions P most) (base P most) d)
        (base P most) o vs used c m) (function_at j f found)
        ∙ ap (λ b. enter b checked (calls_within checked (functions P most) (base P most) d)
        (base P most) called vs used c m) e

    -- a call for whose frame no room is left ends too deep, in a turn
    pub call_dives : nat_lt frame_limit (used + frame_of called) ≡ true
        → Leads this_call 1 (λ k. TooDeep c.output)
    call_dives e = record {
      by = λ k m d i q le lt.
          let q1 : m ≡ suc k = omega arith in
          ap (λ o. enter_if checked (calls_within checked (functions P most) (base P most) d)
          (base P most) o vs used c m) (function_at j f found)
          ∙ ap (λ b. enter b checked (calls_within checked (functions P most) (base P most) d)
          (base P most) called vs used c m) e
          ∙ ap (λ m. turn c m (λ m. TooDeep c.output)) q1;
    }

    -- with no turn a call has done nothing
    pub call_waits : Waits this_call c.output c.rounds
    call_waits = record {
      by = λ d i lt. ap
          (λ o. enter_if checked (calls_within checked (functions P most) (base P most) d)
          (base P most) o vs used c 0) (function_at j f found)
          ∙ go d (nat_lt frame_limit (used + frame_of called));
    }
      where
        go : (d : ℕ) (b : Bool) → enter b checked
            (calls_within checked (functions P most) (base P most) d) (base P most) called vs used c 0
            ≡ Unfinished c.output c.rounds
        go d true = refl
        go d false = ap (closing own called.arrays)
            (at_zero checked (functions P most) (base P most) d
            (env_of (base P most) called used) called.body first)

    -- where the body of a called function leads, the call does, with the function's arrays closed
    pub closed_leads : nat_lt frame_limit (used + frame_of called) ≡ false → (t : ℕ) (h k : ℕ → Res)
        → ((n : ℕ) → closing own called.arrays (h n) ≡ k n) → Leads (body_run called.body) t h
        → Leads this_call t k
    closed_leads e t h k w l = record {
      by = λ n m d i q le lt. call_is e d i m
          ∙ ap (closing own called.arrays) (l.by n m d i q le lt) ∙ w n;
    }

    -- where the body of a called function has not ended, the call has not
    pub closed_stops : nat_lt frame_limit (used + frame_of called) ≡ false
        → (t : ℕ) (out : List ℕ) (r : ℕ) → Stops (body_run called.body) t out r
        → Stops this_call t out r
    closed_stops e t out r l = record {
      by = λ d i le lt. call_is e d i t
          ∙ ap (closing own called.arrays) (l.by d i le lt);
    }

  module _ (S : Scene) (y : IsScene P S) (j : ℕ) (f : TypedFunc) (found : slice_get P.functions j ≡ Some f)
      (vs : List ℕ) (g : State) where
    abbrev F : Function
    F = lowered_of f (nat_eq j P.main)

    abbrev at : ℕ
    at = arrays_at (base P most) F S.env.used

    -- THE CALLER AGAIN

    -- the caller's state behind the call
    abbrev pub after : State → Option ℕ → Option ℕ → State
    after h to o = back_in g stays to o (closed at F.arrays h)

    kept_var : (to o : Option ℕ) (v : ℕ) → v < 80 → (to ≡ Some v → ⊥)
        → result_put (λ v. cond (stays v) (g.vars v) None) to o v ≡ g.vars v
    kept_var None o v lt n = let e : nat_lt v 80 ≡ true = grind (arith, nat_tests) in
        ap (λ b. cond b (g.vars v) None) e
    kept_var (Some t) o v lt n =
        let e : nat_lt v 80 ≡ true = grind (arith, nat_tests) in
        put_other (λ v. cond (stays v) (g.vars v) None) t o v (λ q. n (ap Some (sym q)))
        ∙ ap (λ b. cond b (g.vars v) None) e

    -- the evaluation's caller again
    abbrev pub resumed : eval.State → eval.State → eval.State
    resumed s s2 = record s2 {
      scalars = s.scalars;
      arrays = take (length s.arrays) s2.arrays;
      rows = take (length s.arrays) s2.rows;
      base = s.base;
      room = s.room;
    }

    -- the caller's state behind a call is related to the one of the evaluation
    pub returns : (s s2 : eval.State) (h : State) (d : ℕ) (to o : Option ℕ)
        → ((v : ℕ) → to ≡ Some v → v ≡ temp d) → d < 16 → Related S s g
        → Related (called_scene P S f F) s2 h → KeptIs S d g (resumed s s2) (after h to o)
    returns s s2 h d to o ht ld r q =
        let own = own_objects at f.arrays in
        let n : length s.arrays ≡ length S.objects = all_length S.objects s.arrays g.memory r.stored in
        let st : AllStored S.objects (take (length s.arrays) s2.arrays) h.memory = subst
        (λ n. AllStored S.objects (take n s2.arrays) h.memory) (sym n)
        (all_first S.objects own s2.arrays h.memory q.stored) in
        record {
          rel = record {
            scalars = λ i w x e k.
                let lt : i < 64 = omega (arith, within_row S.func.scalars i x e, y.few) in
                subst (IsScalar S.objects x w)
                (sym (kept_var to o i (omega arith) (λ z. omega (arith, ht i z))))
                (r.scalars i w x e k);
            count = r.count;
            stored = all_same 0 (base P most + S.env.used) S.objects
                (take (length s.arrays) s2.arrays) h.memory
                (marked h.memory at F.arrays Closed) y.laid
                (λ b lo hi. marked_out h.memory at F.arrays Closed b (inl (omega arith))) st;
            rows = ap (λ n. take n s2.rows) n
                ∙ ap (take (length S.objects)) q.rows ∙ rows_first S.objects own;
            input = q.input;
            bytes = q.bytes;
            output = q.output;
            first = r.first;
            room = r.room;
          };
          kept = λ i lt. kept_var to o (temp i) (omega arith) (λ z. omega (arith, ht (temp i) z));
        }

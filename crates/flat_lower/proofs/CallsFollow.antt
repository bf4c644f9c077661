-- A call follows the evaluation where its function's body does.
use Rattle.std.proofs.Common.{◌≡◌, ◌≢◌, ℕ, zero, suc, ◌+◌, ◌-◌, ◌*◌, ◌%◌, ◌<◌, ◌≤◌, ◌⊎◌, inl, inr}
use Rattle.std.proofs.Common.{Bool, true, false, cond, List, [], ◌∷◌, ◌++◌, map, length, take}
use Rattle.std.proofs.Common.{Option, Some, None, refl, sym, ap, ap₂, ◌∙◌, subst, arith}
use Rattle.std.specs.Prelude.{slice_get, nat_eq, nat_lt}
use Rattle.std.proofs.lemmas.Bool.Decides.{nat_tests}
use Rattle.c_tree.specs.declared.Kind.{Kind}
use Rattle.c_tree.specs.declared.Kind.TheVariants.{Int}
use Rattle.c_tree.specs.declared.Slot.{Slot}
use Rattle.c_tree.specs.declared.TypedStmt.{TypedStmt}
use Rattle.c_tree.specs.declared.TypedGlobal.{TypedGlobal}
use Rattle.c_tree.specs.declared.TypedFunc.{TypedFunc}
use Rattle.c_tree.specs.declared.TypedProgram.{TypedProgram}
use Rattle.c_meaning_spec.specs.declared.signal.Signal.{Signal}
use Rattle.c_meaning_spec.specs.declared.signal.Signal.TheVariants.{Nothing, Value, Breaks, Continues}
use Rattle.c_meaning_spec.specs.declared.signal.Signal.TheVariants.{Returns}
use Rattle.c_meaning_spec.specs.declared.signal.Ending.{Ending}
use Rattle.c_meaning_spec.specs.declared.signal.Ending.TheVariants.{More, Undefined, Deep}
use Rattle.c_meaning_spec.specs.declared.signal.Halt.TheVariants.{NoStep, TooDeep, Faults, Exits}
use Rattle.c_meaning_spec.specs.State.{Result, Go, Over}
use Rattle.c_meaning_spec.specs.inside.State.{then}
use Rattle.c_meaning_spec.specs.State as eval
use Rattle.c_meaning_spec.specs.Task as task
use Rattle.c_meaning_spec.specs.Call.{returned, left}
use Rattle.c_meaning_spec.specs.Eval.{meaning}
use Rattle.ir_forms.specs.declared.flat.Arg.{Arg}
use Rattle.ir_forms.specs.declared.flat.Arg.TheVariants.{Const, Var}
use Rattle.ir_forms.specs.inside.FlatCode.{Code, Nop, Then, only, Function}
use Rattle.ir_forms.specs.inside.FlatCode as flat
use Rattle.ir_forms.specs.inside.FlatViews.{stays}
use Rattle.ir_forms.specs.inside.Frames.{frame_limit, frame_of, arrays_at}
use Rattle.ir_forms.specs.inside.Cells.{Closed, marked}
use Rattle.ir_forms.specs.inside.FlatSteps.{State, Env, Res, Gone, Broke, Again, Gave, TooDeep as Sinks, Unfinished}
use Rattle.ir_forms.specs.inside.FlatSteps.{Wild, settle, read_all, var_put, result_put, back_in}
use Rattle.ir_forms.specs.inside.FlatSteps.{after_call, counted, exec}
use Rattle.ir_forms.specs.inside.FlatRuns.{checked, closed, closing, begun, env_of, enter, enter_if}
use Rattle.ir_forms.specs.inside.FlatRuns.{calls_within}
use Rattle.ir_forms.proofs.Leads.{Run, Leads, Stops}
use Rattle.ir_forms.proofs.Steps.{code_run, first_leads, first_stops, both_lead, nop_leads}
use Rattle.ir_forms.proofs.CallRuns.{call_run, call_leads, call_stops}
use Rattle.ir_forms.proofs.Statements.{return_leads}
use Rattle.flat_lower.specs.inside.Tree.{Func}
use Rattle.flat_lower.specs.inside.TreeViews.{func_of, stmt_of}
use Rattle.c_constant.specs.Kinds.{IsWord}
use Rattle.flat_lower.specs.inside.Operations.{temp}
use Rattle.flat_lower.specs.inside.Expressions.{result_var}
use Rattle.flat_lower.specs.inside.Statements.{end_code, stmt_code, lowered_func, lowered_from}
use Rattle.flat_lower.specs.declared.around.Around.TheVariants as around
use Rattle.flat_lower.specs.inside.Sizes.{size_of}
use Rattle.flat_lower.proofs.Straight.{put_at, put_other}
use Rattle.flat_lower.proofs.Bytes.{marked_out}
use Rattle.flat_lower.proofs.Objects.{Object, all_first, all_same, all_length, within_row}
use Rattle.flat_lower.proofs.Objects.{AllStored}
use Rattle.flat_lower.proofs.Follows.{Post, Goes, Follows, FollowsIn, FollowsOver, run_of, quits}
use Rattle.flat_lower.proofs.Related.{Scene, IsScene, scope, context, frames_from, IsScalar}
use Rattle.flat_lower.proofs.Related.{Related}
use Rattle.flat_lower.proofs.Values.{KeptIs, ValueIs, Valued, functions, base, run}
use Rattle.flat_lower.proofs.Entered.{own_objects, called_scene, LoweredIs}
use Rattle.flat_lower.proofs.Returns.{EndedIn, ReturnIs, FollowsRun, function_at, lowered_of}
use Rattle.flat_lower.proofs.Returns.{lowered_is, body_run, this_call, call_dives, closed_leads}
use Rattle.flat_lower.proofs.Returns.{closed_stops, after, resumed, returns}

-- 0 is a word of an int
pub zero_fits : IsWord Int 0
zero_fits = record { below = omega arith; narrow = omega arith }

module _ (P : TypedProgram) (most : ℕ) (S : Scene) (y : IsScene P S) (j : ℕ) (f : TypedFunc)
    (found : slice_get P.functions j ≡ Some f) (vs : List ℕ) (g : State) where
  abbrev F : Function
  F = lowered_of P most f (nat_eq j P.main)

  abbrev at : ℕ
  at = arrays_at (base P most) F S.env.used

  abbrev B : Code
  B = stmt_code (context P (called_scene P S f F)) around.Nowhere (stmt_of f.body)

  -- the call of the function with these arguments
  module _ (xs : List Arg) (are : read_all checked g xs ≡ Some vs) (d : ℕ) (ld : d < 16) (k : Option Kind)
      (ek : k ≡ f.result) (f0 : State) (room : nat_lt frame_limit (S.env.used + frame_of F) ≡ false) where
    abbrev to : Option ℕ
    to = result_var k d

    abbrev C : Code
    C = only (flat.Call j xs (result_var k d) stays)

    -- the call's run, from its function's
    goes : (u : ℕ) (q : ℕ → Res) (h : State) (o : Option ℕ)
        → Leads (this_call P most S.env.used j f found vs (counted g)) u q
        → ((n : ℕ) → after_call g stays (result_var k d) (q n)
        ≡ settle (after P most S y j f found vs g h (result_var k d) o) n)
        → Leads (run P most S y C g) (10 + u)
        (settle (after P most S y j f found vs g h (result_var k d) o))
    goes u q h o l e = call_leads checked (functions P most) (base P most) S.env j xs
        (result_var k d) stays g vs u q (settle
        (after P most S y j f found vs g h (result_var k d) o)) are e l

    closing_settled : (h : State) (n : ℕ)
        → closing at F.arrays (settle h n) ≡ settle (closed at F.arrays h) n
    closing_settled h zero = refl
    closing_settled h (suc n) = refl

    after_settled : (h : State) (n : ℕ) → after_call g stays (result_var k d)
        (settle (closed at F.arrays h) n) ≡ settle
        (after P most S y j f found vs g h (result_var k d) None) n
    after_settled h zero = refl
    after_settled h (suc n) = refl

    -- a body that falls off its end, and what that gives
    pub record FallsOff (h : State) (t : ℕ) (value : Option ℕ) : Type 0 where
      pub u : ℕ
      pub few : u ≤ t + 1
      pub leads : Leads (run P most S y C g) (10 + u)
          (settle (after P most S y j f found vs g h (result_var k d) value))

    -- the code of the function is that of its body and of its end
    with_end : (b : Bool) → nat_eq j P.main ≡ b → (u : ℕ) (r : ℕ → Res)
        → Leads (body_run P most S.env.used j f found vs (counted g) (Then B (end_code b))) u r
        → Leads (body_run P most S.env.used j f found vs (counted g) F.body) u r
    with_end b e u r x = subst (λ b. Leads
        (body_run P most S.env.used j f found vs (counted g) (Then B (end_code b))) u r) (sym e) x

    -- another function's gives nothing
    falls_off : (h : State) (t : ℕ) → nat_eq j P.main ≡ false → Leads
        (body_run P most S.env.used j f found vs (counted g) B) t (settle h) → FallsOff h t None
    falls_off h t e l =
        let x = both_lead checked (functions P most) (base P most) (env_of (base P most) F S.env.used) B Nop
        (begun (base P most) F vs S.env.used (counted g)) h t 0 (settle h) l
        (nop_leads checked (functions P most) (base P most) (env_of (base P most) F S.env.used) h) in
        record {
          u = t + 0;
          few = omega arith;
          leads = goes (t + 0) (settle (closed at F.arrays h)) h None
              (closed_leads P most S.env.used j f found vs (counted g) room (t + 0) (settle h)
              (settle (closed at F.arrays h)) (closing_settled h)
              (with_end false e (t + 0) (settle h) x)) (after_settled h);
        }

    -- main's returns 0
    main_falls_off : (h : State) (t : ℕ) → nat_eq j P.main ≡ true → Leads
        (body_run P most S.env.used j f found vs (counted g) B) t (settle h) → FallsOff h t (Some 0)
    main_falls_off h t e l =
        let x = both_lead checked (functions P most) (base P most) (env_of (base P most) F S.env.used) B
        (only (flat.Return (Some (Const 0)))) (begun (base P most) F vs S.env.used (counted g)) h t 1
        (Gave (Some 0) h) l (return_leads checked (functions P most) (base P most)
        (env_of (base P most) F S.env.used) (Const 0) h 0 refl) in
        record {
          u = t + 1;
          few = omega arith;
          leads = goes (t + 1) (Gave (Some 0) (closed at F.arrays h)) h (Some 0)
              (closed_leads P most S.env.used j f found vs (counted g) room (t + 1)
              (Gave (Some 0) h) (Gave (Some 0) (closed at F.arrays h)) (λ n. refl)
              (with_end true e (t + 1) (Gave (Some 0) h) x)) (λ n. refl);
        }

    gives : (h : State) (t : ℕ) (w : Option ℕ)
        → Leads (body_run P most S.env.used j f found vs (counted g) B) t (Gave w h)
        → Leads (run P most S y C g) (10 + t)
        (settle (after P most S y j f found vs g h (result_var k d) w))
    gives h t w l =
        let x = first_leads checked (functions P most) (base P most) (env_of (base P most) F S.env.used) B
        (end_code (nat_eq j P.main)) (begun (base P most) F vs S.env.used (counted g)) t (Gave w h)
        (λ n next. refl) l in
        goes t (Gave w (closed at F.arrays h)) h w
        (closed_leads P most S.env.used j f found vs (counted g) room t (Gave w h)
        (Gave w (closed at F.arrays h)) (λ n. refl) x) (λ n. refl)

    to_is : (v : ℕ) → result_var k d ≡ Some v → v ≡ temp d
    to_is v h = go k h
      where
        go : (k : Option Kind) → result_var k d ≡ Some v → v ≡ temp d
        go None h = absurd (cc h)
        go (Some q) h = cc h

    -- the variable that takes the result has it
    result_is : (h : State) (w : ℕ) (kind : Kind) → k ≡ Some kind
        → (after P most S y j f found vs g h (result_var k d) (Some w)).vars (temp d) ≡ Some w
    result_is h w kind kinds =
        ap (λ k. (after P most S y j f found vs g h (result_var k d) (Some w)).vars (temp d)) kinds
        ∙ put_at (λ v. cond (stays v) (g.vars v) None) (temp d) (Some w)

    -- whatever the body came to; main is of type int
    pub comes_back : (nat_eq j P.main ≡ true → f.result ≡ Some Int) → (s : eval.State)
        (top low : ℕ) (r : Result) → Related S s g → KeptIs S d f0 s g
        → 11 ≤ top → FollowsIn around.Nowhere most (EndedIn around.Nowhere (called_scene P S f F))
        (body_run P most S.env.used j f found vs (counted g) B) (top - 11) low r
        → Follows most (Valued S d k f0) (run P most S y C g) top low
        (then r (left (nat_eq j P.main) s.scalars (length s.arrays) s.base s.room))
    comes_back int s top low (Go Nothing s2) rel ke lt h = go (nat_eq j P.main) refl
      where
        go : (b : Bool) → nat_eq j P.main ≡ b
            → Follows most (Valued S d k f0) (run P most S y C g) top low
            (then (Go Nothing s2) (left b s.scalars (length s.arrays) s.base s.room))
        go false e =
            let x = falls_off h.to h.t e h.leads in
            let b = returns P most S y j f found vs g s s2 h.to d (result_var k d) None to_is ld rel h.holds in
            record {
              t = 10 + x.u;
              to = after P most S y j f found vs g h.to (result_var k d) None;
              upper = omega (arith, x.few, h.upper);
              lower = h.lower;
              holds = record { rel = b.rel; kept = λ i l. b.kept i l ∙ ke.kept i l };
              leads = x.leads;
            }
        go true e =
            let x = main_falls_off h.to h.t e h.leads in
            let b = returns P most S y j f found vs g s s2 h.to d (result_var k d) (Some 0) to_is ld rel h.holds in
            let kinds : k ≡ Some Int = ek ∙ int e in
            record {
              t = 10 + x.u;
              to = after P most S y j f found vs g h.to (result_var k d) (Some 0);
              upper = omega (arith, x.few, h.upper);
              lower = h.lower;
              holds = record {
                keeps = record { rel = b.rel; kept = λ i l. b.kept i l ∙ ke.kept i l };
                kind = Int;
                is_kind = kinds;
                fits = zero_fits;
                is = result_is h.to 0 Int kinds;
              };
              leads = x.leads;
            }
    comes_back int s top low (Go (Value w) s2) rel ke lt h = absurd h.holds
    comes_back int s top low (Go Breaks s2) rel ke lt h = tt
    comes_back int s top low (Go Continues s2) rel ke lt h = tt
    comes_back int s top low (Go (Returns None) s2) rel ke lt h =
        let b = returns P most S y j f found vs g s s2 h.to d (result_var k d) None to_is ld rel h.holds.0 in
        record {
          t = 10 + h.t;
          to = after P most S y j f found vs g h.to (result_var k d) None;
          upper = omega (arith, h.upper);
          lower = h.lower;
          holds = record { rel = b.rel; kept = λ i l. b.kept i l ∙ ke.kept i l };
          leads = gives h.to h.t None h.leads;
        }
    comes_back int s top low (Go (Returns (Some w)) s2) rel ke lt h = go f.result refl h.holds.1
      where
        go : (q : Option Kind) → f.result ≡ q → ReturnIs q (Some w)
            → Follows most (Valued S d k f0) (run P most S y C g) top low
            (then (Go (Returns (Some w)) s2)
            (left (nat_eq j P.main) s.scalars (length s.arrays) s.base s.room))
        go None e x = absurd x
        go (Some kind) e x =
            let b = returns P most S y j f found vs g s s2 h.to d (result_var k d) (Some w) to_is ld rel h.holds.0 in
            let kinds : k ≡ Some kind = ek ∙ e in
            record {
              t = 10 + h.t;
              to = after P most S y j f found vs g h.to (result_var k d) (Some w);
              upper = omega (arith, h.upper);
              lower = h.lower;
              holds = record {
                keeps = record { rel = b.rel; kept = λ i l. b.kept i l ∙ ke.kept i l };
                kind = kind;
                is_kind = kinds;
                fits = x;
                is = result_is h.to w kind kinds;
              };
              leads = gives h.to h.t (Some w) h.leads;
            }
    comes_back int s top low (Over NoStep s2) rel ke lt h = record {
      t = 10 + h.t;
      r = h.r;
      upper = omega (arith, h.upper);
      lower = h.lower;
      stops = call_stops checked (functions P most) (base P most) S.env j xs
          (result_var k d) stays g vs h.t s2.output h.r are
          (closed_stops P most S.env.used j f found vs (counted g) room h.t s2.output h.r
          (first_stops checked (functions P most) (base P most)
          (env_of (base P most) F S.env.used) B (end_code (nat_eq j P.main))
          (begun (base P most) F vs S.env.used (counted g)) h.t s2.output h.r h.stops));
    }
    comes_back int s top low (Over (Faults c) s2) rel ke lt h = tt
    comes_back int s top low (Over TooDeep s2) rel ke lt h = record {
      t = 10 + h.t;
      upper = omega (arith, h.upper);
      leads = call_leads checked (functions P most) (base P most) S.env j xs
          (result_var k d) stays g vs h.t (λ n. Sinks s2.output) (λ n. Sinks s2.output) are
          (λ n. refl)
          (closed_leads P most S.env.used j f found vs (counted g) room h.t (λ n. Sinks s2.output)
          (λ n. Sinks s2.output) (λ n. refl)
          (first_leads checked (functions P most) (base P most)
          (env_of (base P most) F S.env.used) B (end_code (nat_eq j P.main))
          (begun (base P most) F vs S.env.used (counted g)) h.t (λ n. Sinks s2.output)
          (λ n next. refl) h.leads));
    }
    comes_back int s top low (Over (Exits w) s2) rel ke lt h = record {
      t = 10 + h.t;
      to = h.to;
      upper = omega (arith, h.upper);
      lower = h.lower;
      output = h.output;
      fits = h.fits;
      leads = call_leads checked (functions P most) (base P most) S.env j xs
          (result_var k d) stays g vs h.t (λ n. quits w h.to n) (λ n. quits w h.to n) are (λ n. refl)
          (closed_leads P most S.env.used j f found vs (counted g) room h.t (λ n. quits w h.to n)
          (λ n. quits w h.to n) (λ n. refl)
          (first_leads checked (functions P most) (base P most)
          (env_of (base P most) F S.env.used) B (end_code (nat_eq j P.main))
          (begun (base P most) F vs S.env.used (counted g)) h.t (λ n. quits w h.to n)
          (λ n next. refl) h.leads));
    }

-- A switch follows the evaluation where the statements of its sections do.
use Rattle.std.proofs.Common.{◌≡◌, ℕ, suc, ◌+◌, ◌-◌, ◌*◌, ◌≤◌, List}
use Rattle.std.proofs.Common.{Option, refl, subst, arith}
use Rattle.c_tree.specs.declared.TypedProgram.{TypedProgram}
use Rattle.c_meaning_spec.specs.declared.signal.Signal.TheVariants.{Nothing, Value, Breaks, Continues}
use Rattle.c_meaning_spec.specs.declared.signal.Signal.TheVariants.{Returns}
use Rattle.c_meaning_spec.specs.declared.signal.Ending.TheVariants.{More, Undefined, Deep}
use Rattle.c_meaning_spec.specs.declared.signal.Halt.TheVariants.{NoStep, TooDeep, Faults, Exits}
use Rattle.c_meaning_spec.specs.State.{Result, Go, Over}
use Rattle.c_meaning_spec.specs.inside.State.{then}
use Rattle.c_meaning_spec.specs.State as eval
use Rattle.c_meaning_spec.specs.Statement.{after_sections}
use Rattle.ir_forms.specs.declared.flat.Arg.TheVariants.{Var}
use Rattle.ir_forms.specs.inside.FlatCode.{Code, Nop, Then, only, Loop}
use Rattle.ir_forms.specs.inside.FlatSteps.{State, Res, Broke, Gave, How, NoRoom, Exited, Halts, settle}
use Rattle.ir_forms.specs.inside.FlatSteps.{counted}
use Rattle.ir_forms.specs.inside.FlatRuns.{checked}
use Rattle.ir_forms.proofs.Leads.{Run, Leads, Stops, Moves, leads_from, stops_from}
use Rattle.ir_forms.proofs.Steps.{then_moves, both_lead, first_leads, first_stops}
use Rattle.ir_forms.proofs.Statements.{if_one, if_other}
use Rattle.ir_forms.proofs.LoopRuns.{loop_moves, turn_leads, turn_stops}
use Rattle.flat_lower.specs.declared.around.Around.{Around}
use Rattle.flat_lower.specs.declared.around.Around.TheVariants as around
use Rattle.flat_lower.specs.inside.Operations.{temp}
use Rattle.flat_lower.specs.inside.Switches.{in_switch, break_code, continue_code, behind_code}
use Rattle.flat_lower.specs.inside.FitsSwitches.{IsLooped}
use Rattle.flat_lower.proofs.Straight.{var_read}
use Rattle.flat_lower.proofs.Follows.{FollowsIn, moved_in, continues_in}
use Rattle.flat_lower.proofs.Related.{Scene, IsScene}
use Rattle.flat_lower.proofs.Values.{functions, base, run}
use Rattle.flat_lower.proofs.Returns.{EndedIn, LeftBy}
use Rattle.flat_lower.proofs.LeafStatements.{EndsHere, nothing_left, break_ends, continue_ends}
use Rattle.flat_lower.proofs.Loops.{loop_of}

-- a continue leaves a switch that stands in a loop
continue_leaves : (a : Around) → IsLooped (in_switch a) → (r : Run) (t : ℕ) (to : State)
    → Leads r t (continues_in (in_switch a) to) → Leads r t (Broke to)
continue_leaves around.Nowhere h r t to l = absurd h
continue_leaves around.Loop h r t to l = l
continue_leaves around.Switch h r t to l = absurd h
continue_leaves around.SwitchInLoop h r t to l = l

none_before : (n : ℕ) → 0 + n ≡ n
none_before n = omega arith

module _ (P : TypedProgram) (most : ℕ) (S : Scene) (y : IsScene P S) where
  -- BEHIND A SWITCH

  behind_goes_on : (a : Around) (s : eval.State) (g : State) (top low : ℕ) → LeftBy (in_switch a) S 0 s g
      → 1 + 8 * s.stock ≤ top → low ≤ s.stock + most * g.rounds
      → EndsHere P most S y a (behind_code a) g top low (Go Nothing s)
  behind_goes_on around.Nowhere s g top low r hu hl =
      nothing_left P most S y around.Nowhere s g top low r (omega arith) hl
  behind_goes_on around.Switch s g top low r hu hl =
      nothing_left P most S y around.Switch s g top low r (omega arith) hl
  behind_goes_on around.Loop s g top low r hu hl =
      moved_in around.Loop most (EndedIn around.Loop S) (run P most S y (behind_code around.Loop) g)
      (run P most S y Nop g) 1 top low (Go Nothing s)
      (if_other checked (functions P most) (base P most) S.env (Var (temp 0)) (continue_code around.Loop) Nop g
      (var_read (functions P most) (base P most) S.env g (temp 0) 0 r.1)) (omega arith)
      (nothing_left P most S y around.Loop s g (top - 1) low r.0 (omega arith) hl)
  behind_goes_on around.SwitchInLoop s g top low r hu hl =
      moved_in around.SwitchInLoop most (EndedIn around.SwitchInLoop S)
      (run P most S y (behind_code around.SwitchInLoop) g)
      (run P most S y Nop g) 1 top low (Go Nothing s)
      (if_other checked (functions P most) (base P most) S.env (Var (temp 0))
      (continue_code around.SwitchInLoop) Nop g
      (var_read (functions P most) (base P most) S.env g (temp 0) 0 r.1)) (omega arith)
      (nothing_left P most S y around.SwitchInLoop s g (top - 1) low r.0 (omega arith) hl)

  behind_continues : (a : Around) (s : eval.State) (g : State) (top low : ℕ) → IsLooped (in_switch a)
      → LeftBy (in_switch a) S 1 s g → 3 + 8 * s.stock ≤ top → low ≤ s.stock + most * g.rounds
      → EndsHere P most S y a (behind_code a) g top low (Go Continues s)
  behind_continues around.Nowhere s g top low h r hu hl = absurd h
  behind_continues around.Switch s g top low h r hu hl = absurd h
  behind_continues around.Loop s g top low h r hu hl =
      moved_in around.Loop most (EndedIn around.Loop S) (run P most S y (behind_code around.Loop) g)
      (run P most S y (continue_code around.Loop) g) 1 top low (Go Continues s)
      (if_one checked (functions P most) (base P most) S.env (Var (temp 0)) (continue_code around.Loop) Nop g 0
      (var_read (functions P most) (base P most) S.env g (temp 0) 1 r.1)) (omega arith)
      (continue_ends P most S y around.Loop tt s g (top - 1) low r.0 (omega arith) hl)
  behind_continues around.SwitchInLoop s g top low h r hu hl =
      moved_in around.SwitchInLoop most (EndedIn around.SwitchInLoop S)
      (run P most S y (behind_code around.SwitchInLoop) g)
      (run P most S y (continue_code around.SwitchInLoop) g) 1 top low (Go Continues s)
      (if_one checked (functions P most) (base P most) S.env (Var (temp 0))
      (continue_code around.SwitchInLoop) Nop g 0
      (var_read (functions P most) (base P most) S.env g (temp 0) 1 r.1)) (omega arith)
      (continue_ends P most S y around.SwitchInLoop tt s g (top - 1) low r.0 (omega arith) hl)

  -- A LOOP OF ONE TURN

  module _ (A B : Code) (f : State) where
    abbrev whole : Run
    whole = run P most S y (Then (only (Loop A Nop)) B) f

    -- what its body leads to leads out of it
    turned : (t : ℕ) (g h : ℕ → Res)
        → Leads (run P most S y A (counted f)) t g → Leads (loop_of P most S y A Nop f) (suc t) h
        → Leads (run P most S y (only (Loop A Nop)) f) (suc t) h
    turned t g h l m =
        subst (λ n. Leads (run P most S y (only (Loop A Nop)) f) n h) (none_before (suc t))
        (leads_from (run P most S y (only (Loop A Nop)) f) (loop_of P most S y A Nop f) 0 (suc t) h
        (loop_moves checked (functions P most) (base P most) S.env A Nop f) m)

    -- where the body of a switch's loop breaks, what stands behind it goes on, a turn later
    pub loop_left : (t : ℕ) (to : State) → Leads (run P most S y A (counted f)) t (Broke to)
        → Moves whole (suc t) (run P most S y B to)
    loop_left t to l =
        then_moves checked (functions P most) (base P most) S.env (only (Loop A Nop)) B f to (suc t)
        (turned t (Broke to) (settle to) l
        (turn_leads checked (functions P most) (base P most) S.env A Nop f t (Broke to) (settle to)
        (λ k p next. refl) l))

    loop_gives : (t : ℕ) (w : Option ℕ) (to : State) → Leads (run P most S y A (counted f)) t (Gave w to)
        → Leads whole (suc t) (Gave w to)
    loop_gives t w to l =
        first_leads checked (functions P most) (base P most) S.env (only (Loop A Nop)) B f (suc t) (Gave w to)
        (λ k next. refl) (turned t (Gave w to) (Gave w to) l
        (turn_leads checked (functions P most) (base P most) S.env A Nop f t (Gave w to) (Gave w to)
        (λ k p next. refl) l))

    loop_halts : (t : ℕ) (how : ℕ → How) → Leads (run P most S y A (counted f)) t (λ k. Halts (how k))
        → Leads whole (suc t) (λ k. Halts (how k))
    loop_halts t how l =
        first_leads checked (functions P most) (base P most) S.env (only (Loop A Nop)) B f (suc t)
        (λ k. Halts (how k)) (λ k next. refl) (turned t (λ k. Halts (how k)) (λ k. Halts (how k)) l
        (turn_leads checked (functions P most) (base P most) S.env A Nop f t (λ k. Halts (how k))
        (λ k. Halts (how k)) (λ k p next. refl) l))

    -- where the body of a switch's loop has not ended, the switch has not
    pub loop_stops : (t : ℕ) (out : List ℕ) (r : ℕ) → Stops (run P most S y A (counted f)) t out r
        → Stops whole (suc t) out r
    loop_stops t out r l =
        first_stops checked (functions P most) (base P most) S.env (only (Loop A Nop)) B f (suc t) out r
        (subst (λ n. Stops (run P most S y (only (Loop A Nop)) f) n out r) (none_before (suc t))
        (stops_from (run P most S y (only (Loop A Nop)) f) (loop_of P most S y A Nop f) 0 (suc t) out r
        (loop_moves checked (functions P most) (base P most) S.env A Nop f)
        (turn_stops checked (functions P most) (base P most) S.env A Nop f t out r l)))

  -- THE SECTIONS THAT RUN

  -- a switch follows the evaluation, where its body comes to the sections and these do
  pub runs_out : (a : Around) (all Secs : Code) (f g : State) (t0 up down top low : ℕ) (r : Result)
      → Moves (run P most S y (Then all (break_code (in_switch a))) (counted f)) t0
      (run P most S y (Then Secs (break_code (in_switch a))) g)
      → FollowsIn (in_switch a) most (EndedIn (in_switch a) S) (run P most S y Secs g) up down r
      → t0 + up + 4 ≤ top → low ≤ down
      → EndsHere P most S y a (Then (only (Loop (Then all (break_code (in_switch a))) Nop)) (behind_code a)) f top low
      (then r after_sections)
  runs_out a all Secs f g t0 up down top low (Go Nothing s) m h hu hl =
      let K = break_code (in_switch a) in
      let A = Then all K in
      let B = behind_code a in
      let q = break_ends P most S y (in_switch a) s h.to (2 + 8 * s.stock) low h.holds (omega arith)
      (omega (arith, h.lower)) in
      let t = t0 + (h.t + q.t) in
      let l = leads_from (run P most S y A (counted f)) (run P most S y (Then Secs K) g) t0
      (h.t + q.t) (Broke q.to) m (both_lead checked (functions P most) (base P most) S.env Secs K g
      h.to h.t q.t (Broke q.to) h.leads q.leads) in
      moved_in a most (EndedIn a S) (run P most S y (Then (only (Loop A Nop)) B) f) (run P most S y B q.to)
      (suc t) top low (Go Nothing s) (loop_left A B f t q.to l) (omega (arith, h.upper, q.upper))
      (behind_goes_on a s q.to (top - suc t) low q.holds (omega (arith, h.upper, q.upper)) q.lower)
  runs_out a all Secs f g t0 up down top low (Go (Value w) s) m h hu hl = absurd h.holds
  runs_out a all Secs f g t0 up down top low (Go Breaks s) m h hu hl =
      let A = Then all (break_code (in_switch a)) in
      let B = behind_code a in
      let t = t0 + h.t in
      let l = leads_from (run P most S y A (counted f)) (run P most S y (Then Secs (break_code (in_switch a))) g) t0
      h.t (Broke h.to) m (first_leads checked (functions P most) (base P most) S.env Secs (break_code (in_switch a)) g
      h.t (Broke h.to) (λ k next. refl) h.leads) in
      moved_in a most (EndedIn a S) (run P most S y (Then (only (Loop A Nop)) B) f) (run P most S y B h.to)
      (suc t) top low (Go Nothing s) (loop_left A B f t h.to l) (omega (arith, h.upper))
      (behind_goes_on a s h.to (top - suc t) low h.holds (omega (arith, h.upper)) (omega (arith, h.lower)))
  runs_out a all Secs f g t0 up down top low (Go Continues s) m h hu hl =
      let A = Then all (break_code (in_switch a)) in
      let B = behind_code a in
      let t = t0 + h.t in
      let broke = continue_leaves a h.holds.0 (run P most S y Secs g) h.t h.to h.leads in
      let l = leads_from (run P most S y A (counted f)) (run P most S y (Then Secs (break_code (in_switch a))) g) t0
      h.t (Broke h.to) m (first_leads checked (functions P most) (base P most) S.env Secs (break_code (in_switch a)) g
      h.t (Broke h.to) (λ k next. refl) broke) in
      moved_in a most (EndedIn a S) (run P most S y (Then (only (Loop A Nop)) B) f) (run P most S y B h.to)
      (suc t) top low (Go Continues s) (loop_left A B f t h.to l) (omega (arith, h.upper))
      (behind_continues a s h.to (top - suc t) low h.holds.0 h.holds.1 (omega (arith, h.upper))
      (omega (arith, h.lower)))
  runs_out a all Secs f g t0 up down top low (Go (Returns w) s) m h hu hl =
      let A = Then all (break_code (in_switch a)) in
      record {
        t = suc (t0 + h.t);
        to = h.to;
        upper = omega (arith, h.upper);
        lower = omega (arith, h.lower);
        holds = h.holds;
        leads = loop_gives A (behind_code a) f (t0 + h.t) w h.to
            (leads_from (run P most S y A (counted f)) (run P most S y (Then Secs (break_code (in_switch a))) g) t0
            h.t (Gave w h.to) m (first_leads checked (functions P most) (base P most) S.env Secs
            (break_code (in_switch a)) g h.t (Gave w h.to) (λ k next. refl) h.leads));
      }
  runs_out a all Secs f g t0 up down top low (Over NoStep s) m h hu hl =
      let A = Then all (break_code (in_switch a)) in
      record {
        t = suc (t0 + h.t);
        r = h.r;
        upper = omega (arith, h.upper);
        lower = omega (arith, h.lower);
        stops = loop_stops A (behind_code a) f (t0 + h.t) s.output h.r
            (stops_from (run P most S y A (counted f)) (run P most S y (Then Secs (break_code (in_switch a))) g) t0
            h.t s.output h.r m (first_stops checked (functions P most) (base P most) S.env Secs
            (break_code (in_switch a)) g h.t s.output h.r h.stops));
      }
  runs_out a all Secs f g t0 up down top low (Over (Faults c) s) m h hu hl = tt
  runs_out a all Secs f g t0 up down top low (Over TooDeep s) m h hu hl =
      let A = Then all (break_code (in_switch a)) in
      record {
        t = suc (t0 + h.t);
        upper = omega (arith, h.upper);
        leads = loop_halts A (behind_code a) f (t0 + h.t) (λ k. NoRoom s.output)
            (leads_from (run P most S y A (counted f)) (run P most S y (Then Secs (break_code (in_switch a))) g) t0
            h.t (λ k. Halts (NoRoom s.output)) m (first_leads checked (functions P most) (base P most) S.env
            Secs (break_code (in_switch a)) g h.t (λ k. Halts (NoRoom s.output)) (λ k next. refl) h.leads));
      }
  runs_out a all Secs f g t0 up down top low (Over (Exits w) s) m h hu hl =
      let A = Then all (break_code (in_switch a)) in
      record {
        t = suc (t0 + h.t);
        to = h.to;
        upper = omega (arith, h.upper);
        lower = omega (arith, h.lower);
        output = h.output;
        fits = h.fits;
        leads = loop_halts A (behind_code a) f (t0 + h.t) (λ k. Exited w h.to k)
            (leads_from (run P most S y A (counted f)) (run P most S y (Then Secs (break_code (in_switch a))) g) t0
            h.t (λ k. Halts (Exited w h.to k)) m (first_leads checked (functions P most) (base P most) S.env
            Secs (break_code (in_switch a)) g h.t (λ k. Halts (Exited w h.to k)) (λ k next. refl) h.leads));
      }

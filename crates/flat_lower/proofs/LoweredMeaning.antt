-- The lowered program keeps the meaning of its source.
use Rattle.std.proofs.Common.{◌≡◌, ◌≢◌, ℕ, zero, suc, ◌+◌, ◌-◌, ◌*◌, ◌%◌, ◌<◌, ◌≤◌, ℤ, Bool, true}
use Rattle.std.proofs.Common.{false, cond, List, [], ◌∷◌, length, take, Option, Some, None, refl}
use Rattle.std.proofs.Common.{sym, ap, ap₂, ◌∙◌, subst, mul-suc, mul-add, mul-one, mul-zero, arith}
use Rattle.std.specs.Prelude.{slice_get, nat_eq, nat_le, nat_lt}
use Rattle.std.proofs.lemmas.Bool.Decides.{nat_tests}
use Rattle.c_tree.specs.declared.Kind.{Kind}
use Rattle.c_tree.specs.declared.Kind.TheVariants.{Int, Long}
use Rattle.c_tree.specs.declared.Callee.TheVariants as callee
use Rattle.c_tree.specs.declared.Slot.{Slot}
use Rattle.c_tree.specs.declared.TypedFunc.{TypedFunc}
use Rattle.c_tree.specs.declared.TypedProgram.{TypedProgram}
use Rattle.c_constant.specs.Kinds.{number, converted}
use Rattle.c_meaning_spec.specs.declared.fault.Fault.TheVariants.{IllFormed}
use Rattle.c_meaning_spec.specs.declared.signal.Signal.{Signal}
use Rattle.c_meaning_spec.specs.declared.signal.Signal.TheVariants.{Nothing, Value, Breaks, Continues}
use Rattle.c_meaning_spec.specs.declared.signal.Signal.TheVariants.{Returns}
use Rattle.c_meaning_spec.specs.declared.signal.Ending.{Ending}
use Rattle.c_meaning_spec.specs.declared.signal.Ending.TheVariants.{More, Undefined, Deep}
use Rattle.c_meaning_spec.specs.declared.signal.Halt.TheVariants.{NoStep, TooDeep, Faults, Exits}
use Rattle.c_meaning_spec.specs.State.{Result, Go, Over}
use Rattle.c_meaning_spec.specs.inside.State.{then}
use Rattle.c_meaning_spec.specs.State as eval
use Rattle.c_meaning_spec.specs.Task as task
use Rattle.c_meaning_spec.specs.Call.{frame, entered, entered_if, enter, left, called}
use Rattle.c_meaning_spec.specs.Eval.{meaning, outcome}
use Rattle.c_meaning_spec.specs.Eval as evaluation
use Rattle.ir_forms.specs.declared.flat.Arg.TheVariants.{Const}
use Rattle.ir_forms.specs.inside.FlatCode.{Code, Then, only, Function, Program}
use Rattle.ir_forms.specs.inside.FlatCode as flat
use Rattle.ir_forms.specs.inside.Frames.{frame_limit, frame_of, arrays_at}
use Rattle.ir_forms.specs.inside.FlatSteps.{State, Env, Res, Gave, TooDeep as Sinks, Unfinished, settle}
use Rattle.ir_forms.specs.inside.FlatRuns.{checked, closed, begun, env_of, flat_run, concluded}
use Rattle.ir_forms.proofs.Leads.{Run, Leads, Stops, waits_stop}
use Rattle.ir_forms.proofs.Steps.{first_leads, first_stops, both_lead}
use Rattle.ir_forms.proofs.Statements.{return_leads}
use Rattle.flat_lower.specs.inside.Tree.{Func}
use Rattle.flat_lower.specs.inside.TreeViews.{func_of, stmt_of, source_of}
use Rattle.c_constant.specs.Kinds.{IsWord}
use Rattle.flat_lower.specs.inside.Statements.{end_code, stmt_code, lowered, lowered_program}
use Rattle.flat_lower.specs.inside.Fits.{FitsFunc, FitsSource}
use Rattle.flat_lower.specs.inside.Sizes.{size_of, IsMost}
use Rattle.c_meaning_spec.specs.Laws.{IsInput}
use Rattle.flat_lower.specs.inside.Keeps.{Finishes, Overflows, GoesOn, Keeps, Means, KeepsMeaning}
use Rattle.c_constant.proofs.Conversions.{converted_is}
use Rattle.flat_lower.specs.declared.around.Around.TheVariants as around
use Rattle.flat_lower.proofs.Follows.{Goes, Dives, Halts, Follows, FollowsIn, quits}
use Rattle.flat_lower.proofs.Related.{Scene, IsScene, context, Related}
use Rattle.flat_lower.proofs.Values.{functions, base}
use Rattle.flat_lower.proofs.Entered.{ArgsAre, called_scene, called_is, begins, frame_is}
use Rattle.flat_lower.proofs.Returns.{ReturnIs, EndedIn, lowered_of, lowered_is, body_run, this_call}
use Rattle.flat_lower.proofs.Returns.{call_dives, call_waits, closed_leads, closed_stops}
use Rattle.flat_lower.proofs.Calls.{typed_at, func_at, within, beyond, under, limit}
use Rattle.flat_lower.proofs.CallsFollow.{zero_fits}
use Rattle.flat_lower.proofs.EveryStmt.{runs_follow}
use Rattle.flat_lower.proofs.Starts.{first_scene, first_is, first_state, first_related}

-- main's run ends with a word
pub record Gives (most n : ℕ) (run : Run) (w : ℕ) (s : eval.State) : Type 0 where
  pub t : ℕ
  pub to : State
  pub upper : t + 8 * s.stock ≤ 8 * n
  pub lower : n ≤ s.stock + most * (to.rounds + 1)
  pub output : to.output ≡ s.output
  pub fits : IsWord Int w
  pub leads : Leads run t (Gave (Some w) to)

-- main's run is ended with a word
pub record Quitted (most n : ℕ) (run : Run) (w : ℕ) (s : eval.State) : Type 0 where
  pub t : ℕ
  pub to : State
  pub upper : t + 8 * s.stock ≤ 8 * n
  pub lower : n ≤ s.stock + most * (to.rounds + 1)
  pub output : to.output ≡ s.output
  pub fits : IsWord Long w
  pub leads : Leads run t (λ k. quits w to k)

pub record Dived (n : ℕ) (run : Run) (out : List ℕ) : Type 0 where
  pub t : ℕ
  pub upper : t ≤ 8 * n
  pub leads : Leads run t (λ k. Sinks out)

pub record Halted (most n : ℕ) (run : Run) (out : List ℕ) : Type 0 where
  pub t : ℕ
  pub r : ℕ
  pub upper : t ≤ 8 * n
  pub lower : n ≤ most * (r + 1)
  pub stops : Stops run t out r

abbrev MainEnds : ℕ → ℕ → Run → Result → Type 0
MainEnds most n run (Go Nothing s) = Unit {0}
MainEnds most n run (Go (Value w) s) = Gives most n run w s
MainEnds most n run (Go Breaks s) = ⊥
MainEnds most n run (Go Continues s) = ⊥
MainEnds most n run (Go (Returns w) s) = ⊥
MainEnds most n run (Over NoStep s) = Halted most n run s.output
MainEnds most n run (Over (Faults c) s) = Unit {0}
MainEnds most n run (Over TooDeep s) = Dived n run s.output
MainEnds most n run (Over (Exits w) s) = Quitted most n run w s

-- the word of an int is that of the same number as a long
as_long : (w : ℕ) → IsWord Int w → IsWord Long w
as_long w h = record { below = h.below; narrow = omega arith }

more_rounds : (most r : ℕ) → most * (r + 1) ≡ most + most * r
more_rounds most r = let e : r + 1 ≡ suc r = omega arith in ap (λ n. most * n) e ∙ mul-suc most r ∙ omega arith

module _ (P : TypedProgram) (most : ℕ) (sound : FitsSource (source_of P)) (large : IsMost (source_of P) most)
    (input : List ℕ) (bytes : IsInput input) (f : TypedFunc) (found : slice_get P.functions P.main ≡ Some f)
    (result : f.result ≡ Some Int) (params : f.params ≡ 0) where
  abbrev S0 : Scene
  S0 = first_scene P sound f

  abbrev F : Function
  F = lowered_of P most f (nat_eq P.main P.main)

  abbrev S1 : Scene
  S1 = called_scene P S0 f F

  abbrev g0 : State
  g0 = first_state P sound input

  abbrev main_run : Run
  main_run = this_call P most 0 P.main f found [] g0

  abbrev inner : Code → Run
  inner a = body_run P most 0 P.main f found [] g0 a

  abbrev B : Code
  B = stmt_code (context P S1) around.Nowhere (stmt_of f.body)

  abbrev env : Env
  env = env_of (base P most) F 0

  abbrev first : State
  first = begun (base P most) F [] 0 g0

  is_main : nat_eq P.main P.main ≡ true
  is_main = grind (arith, nat_tests)

  size : 1 + size_of (stmt_of f.body) ≤ most
  size = large P.main (func_of f) (func_at P.functions P.main f found)

  word_is : (w : ℕ) → ReturnIs f.result (Some w) → IsWord Int w
  word_is w h = subst (λ k. ReturnIs k (Some w)) result h

  none_is : ReturnIs f.result None → ⊥
  none_is h = subst (λ k. ReturnIs k None) result h

  -- after the body
  module _ (room : nat_lt frame_limit (0 + frame_of F) ≡ false) (n : ℕ) where
    abbrev low : ℕ
    low = n - size_of (stmt_of f.body)

    comes_out : (r : Result) → FollowsIn around.Nowhere most (EndedIn around.Nowhere S1) (inner B) (8 * n + 4) low r
        → MainEnds most (suc n) main_run (then r
        (left true [] (length (evaluation.start P input n).arrays) 0 0))
    comes_out (Go Nothing s) h =
        let end = both_lead checked (functions P most) (base P most) env B (only (flat.Return (Some (Const 0)))) first
        h.to h.t 1 (Gave (Some 0) h.to) h.leads (return_leads checked (functions P most) (base P most) env
        (Const 0) h.to 0 refl) in
        let whole : Leads (inner F.body) (h.t + 1) (Gave (Some 0) h.to) = subst
        (λ b. Leads (inner (Then B (end_code b))) (h.t + 1) (Gave (Some 0) h.to)) (sym is_main) end in
        let m = more_rounds most h.to.rounds in
        let z = size in
        record {
          t = h.t + 1;
          to = closed (arrays_at (base P most) F 0) F.arrays h.to;
          upper = omega (arith, h.upper);
          lower = omega (arith, h.lower);
          output = h.holds.output;
          fits = zero_fits;
          leads = closed_leads P most 0 P.main f found [] g0 room (h.t + 1) (Gave (Some 0) h.to)
              (Gave (Some 0) (closed (arrays_at (base P most) F 0) F.arrays h.to)) (λ k. refl) whole;
        }
    comes_out (Go (Value w) s) h = absurd h.holds
    comes_out (Go Breaks s) h = tt
    comes_out (Go Continues s) h = tt
    comes_out (Go (Returns None) s) h = absurd (none_is h.holds.1)
    comes_out (Go (Returns (Some w)) s) h =
        let end = first_leads checked (functions P most) (base P most) env B
        (end_code (nat_eq P.main P.main)) first h.t (Gave (Some w) h.to) (λ k next. refl) h.leads in
        let m = more_rounds most h.to.rounds in
        let z = size in
        record {
          t = h.t;
          to = closed (arrays_at (base P most) F 0) F.arrays h.to;
          upper = omega (arith, h.upper);
          lower = omega (arith, h.lower);
          output = h.holds.0.output;
          fits = word_is w h.holds.1;
          leads = closed_leads P most 0 P.main f found [] g0 room h.t (Gave (Some w) h.to)
              (Gave (Some w) (closed (arrays_at (base P most) F 0) F.arrays h.to)) (λ k. refl) end;
        }
    comes_out (Over NoStep s) h =
        let m = more_rounds most h.r in
        let z = size in
        record {
          t = h.t;
          r = h.r;
          upper = omega (arith, h.upper);
          lower = omega (arith, h.lower);
          stops = closed_stops P most 0 P.main f found [] g0 room h.t s.output h.r
              (first_stops checked (functions P most) (base P most) env B
              (end_code (nat_eq P.main P.main)) first h.t s.output h.r h.stops);
        }
    comes_out (Over (Faults c) s) h = tt
    comes_out (Over TooDeep s) h = record {
      t = h.t;
      upper = omega (arith, h.upper);
      leads = closed_leads P most 0 P.main f found [] g0 room h.t (λ k. Sinks s.output)
          (λ k. Sinks s.output) (λ k. refl)
          (first_leads checked (functions P most) (base P most) env B
          (end_code (nat_eq P.main P.main)) first h.t (λ k. Sinks s.output)
          (λ k next. refl) h.leads);
    }
    comes_out (Over (Exits w) s) h =
        let m = more_rounds most h.to.rounds in
        let z = size in
        record {
          t = h.t;
          to = h.to;
          upper = omega (arith, h.upper);
          lower = omega (arith, h.lower);
          output = h.output;
          fits = h.fits;
          leads = closed_leads P most 0 P.main f found [] g0 room h.t (λ k. quits w h.to k)
              (λ k. quits w h.to k) (λ k. refl)
              (first_leads checked (functions P most) (base P most) env B
              (end_code (nat_eq P.main P.main)) first h.t (λ k. quits w h.to k)
              (λ k next. refl) h.leads);
        }

  -- main's frame has room or it has not
  main_enters : (n : ℕ) (b : Bool) → nat_le (0 + frame f) 1048576 ≡ b
      → MainEnds most (suc n) main_run (entered_if (meaning P) true b f [] (evaluation.start P input n))
  main_enters n false e =
      let same : 0 + frame f ≡ 0 + frame_of F = ap (λ n. 0 + n)
      (frame_is P f F (lowered_is P most f (nat_eq P.main P.main))) in
      let full : nat_lt frame_limit (0 + frame_of F) ≡ true = subst (λ m. nat_lt m (0 + frame_of F) ≡ true)
      (sym limit) (beyond (0 + frame_of F) 1048576 (subst (λ x. nat_le x 1048576 ≡ false) same e)) in
      record { t = 1; upper = omega arith; leads = call_dives P most 0 P.main f found [] g0 full }
  main_enters n true e =
      let is = lowered_is P most f (nat_eq P.main P.main) in
      let fits : FitsFunc (source_of P) (func_of f) = sound.each P.main (func_of f)
      (func_at P.functions P.main f found) in
      let few = fits.scalars in
      let z = size in
      let same : 0 + frame f ≡ 0 + frame_of F = ap (λ n. 0 + n) (frame_is P f F is) in
      let below : nat_le (0 + frame_of F) 1048576 ≡ true = subst (λ x. nat_le x 1048576 ≡ true) same e in
      let room : nat_lt frame_limit (0 + frame_of F) ≡ false = subst (λ m. nat_lt m (0 + frame_of F) ≡ false)
      (sym limit) (within (0 + frame_of F) 1048576 below) in
      let le : 0 + frame_of F ≤ frame_limit = subst (λ m. 0 + frame_of F ≤ m) (sym limit)
      (under (0 + frame_of F) 1048576 below) in
      let all = sound.room in
      let s = evaluation.start P input n in
      let y0 = first_is P sound f in
      let y1 = called_is P S0 y0 f F is few (omega arith) in
      let rel = begins P S0 y0 f F is [] [] s g0 (omega arith) (no_args f.scalars f.params params)
      (first_related P sound f input n bytes) in
      comes_out room n (meaning P (task.Run f.body) (entered f [] s))
      (runs_follow P most sound large f.body (entered f [] s) S1 y1 around.Nowhere (8 * n + 4)
      (n - size_of (stmt_of f.body)) first fits.body (omega arith) rel (omega arith)
      (omega (arith, mul-zero most)))
    where
      no_args : (slots : List Slot) (n : ℕ) → n ≡ 0 → ArgsAre P S0.objects (take n slots) [] []
      no_args slots n e = subst (λ n. ArgsAre P S0.objects (take n slots) [] []) (sym e) tt

  main_ends : (n : ℕ) → MainEnds most n main_run
      (called (meaning P) P (callee.Func P.main) [] (evaluation.start P input n))
  main_ends zero = record {
    t = 0;
    r = 0;
    upper = omega arith;
    lower = omega arith;
    stops = waits_stop main_run [] 0 (call_waits P most 0 P.main f found [] g0);
  }
  main_ends (suc n) =
      subst (λ b. MainEnds most (suc n) main_run
      (enter (meaning P) b (slice_get P.functions P.main) [] (evaluation.start P input n))) (sym is_main)
      (subst (λ o. MainEnds most (suc n) main_run
      (enter (meaning P) true o [] (evaluation.start P input n))) (sym found)
      (subst (λ p. MainEnds most (suc n) main_run
      (cond (nat_eq 0 p) (entered_if (meaning P) true (nat_le (0 + frame f) 1048576) f []
      (evaluation.start P input n)) (Over (Faults IllFormed) (evaluation.start P input n)))) (sym params)
      (main_enters n (nat_le (0 + frame f) 1048576) refl)))

  -- A RUN BY ITS TURNS

  abbrev by_turns : ℕ → Res
  by_turns = flat_run checked (lowered_program P) input

  turns_are : (m : ℕ) → by_turns m ≡ concluded (main_run m (suc m) m)
  unfolding flat_run lowered
  turns_are m = refl

  turns_lead : (t : ℕ) (g : ℕ → Res) → Leads main_run t g → (k : ℕ) → by_turns (t + k) ≡ concluded (g k)
  turns_lead t g l k = turns_are (t + k) ∙ ap concluded (l.by k (t + k) (t + k) (suc (t + k)) refl
      (omega arith) (omega arith))

  keeps : (n : ℕ) (r : Result) → MainEnds most n main_run r → Keeps most by_turns n (outcome n r)
  keeps n (Go Nothing s) h = tt
  keeps n (Go (Value w) s) h = record {
    turns = h.t;
    word = w;
    to = h.to;
    few = omega (arith, h.upper);
    many = omega (arith, h.lower);
    fits = as_long w h.fits;
    is = ap (number Int) (sym (converted_is Int w h.fits));
    output = h.output;
    ends = turns_lead h.t (Gave (Some w) h.to) h.leads;
  }
  keeps n (Go Breaks s) h = absurd h
  keeps n (Go Continues s) h = absurd h
  keeps n (Go (Returns w) s) h = absurd h
  keeps n (Over NoStep s) h = record {
    turns = h.t;
    rounds = h.r;
    few = h.upper;
    many = h.lower;
    is = turns_are h.t ∙ ap concluded (h.stops.by h.t (suc h.t) (omega arith) (omega arith));
  }
  keeps n (Over (Faults c) s) h = tt
  keeps n (Over TooDeep s) h = record {
    turns = h.t;
    few = h.upper;
    ends = turns_lead h.t (λ k. Sinks s.output) h.leads;
  }
  keeps n (Over (Exits w) s) h = record {
    turns = h.t;
    word = w;
    to = h.to;
    few = omega (arith, h.upper);
    many = omega (arith, h.lower);
    fits = h.fits;
    is = refl;
    output = h.output;
    ends = turns_lead h.t (λ k. quits w h.to k) h.leads;
  }

  pub main_keeps : (n : ℕ) → Keeps most by_turns n (evaluation.eval P input n)
  unfolding evaluation.eval
  main_keeps n = keeps n (called (meaning P) P (callee.Func P.main) [] (evaluation.start P input n))
      (main_ends n)

-- the lowered program keeps the meaning of its source
pub keeps_meaning : KeepsMeaning
keeps_meaning P most sound large input bytes n =
    let main = sound.main in
    let x = typed_at P.functions P.main main.main main.found in
    main_keeps P most sound large input bytes x.f x.found
    (ap (λ (g : Func). g.result) x.is ∙ main.result)
    (ap (λ (g : Func). g.params) x.is ∙ main.params) n

-- and so does a program that is the lowered one
pub meant : (P : TypedProgram) (flat : Program) → flat ≡ lowered_program P → Means P flat
meant P flat e = subst (Means P) (sym e) (keeps_meaning P)

-- The image of a flat program does what the program means.
use Rattle.std.proofs.Common.{◌≡◌, ℕ, ◌+◌, ◌*◌, ◌≤◌, true, List, length, Some, sym, ap, subst}
use Rattle.std.proofs.Common.{◌∙◌, arith, get_or, mul-le-mul, mul-suc, mul_assoc, mul_comm, suc}
use Rattle.std.proofs.lemmas.Option.{slice_get-get_or}
use Rattle.trips_isa.specs.declared.block.Image.{Image}
use Rattle.trips_isa.specs.Stores.{data_size}
use Rattle.c_tree.specs.declared.Kind.TheVariants.{Long}
use Rattle.c_tree.specs.declared.typed.TypedProgram.{TypedProgram}
use Rattle.c_constant.specs.Kinds.{number, IsWord}
use Rattle.c_meaning_spec.specs.Eval.{Outcome}
use Rattle.c_meaning_spec.proofs.Stocks.{steps-are-least}
use Rattle.ir_forms.specs.inside.FlatCode.{Program}
use Rattle.ir_forms.specs.inside.FlatRuns.{checked, flat_run}
use Rattle.ir_forms.specs.inside.FlatSteps.{State, Res, Gave, TooDeep, Unfinished}
use Rattle.ir_forms.specs.inside.Frames.{frames_at, frame_limit}
use Rattle.ir_forms.specs.inside.HyperRuns.{Layout, Standing, Running, Ended, Full, hyper_run}
use Rattle.ir_forms.specs.inside.HyperCode.{Block}
use Rattle.ir_forms.specs.inside.HyperWords.{AreBytes, IsFaithful}
use Rattle.ir_forms.specs.inside.Laws.{StandsAs}
use Rattle.hyper_narrow.specs.inside.NarrowedCode.{Narrowed}
use Rattle.hyper_narrow.specs.inside.NarrowedRuns.{narrowed_run}
use Rattle.c_meaning_spec.specs.Laws.{IsInput}
use Rattle.flat_lower.specs.inside.Keeps.{Keeps, Finishes, Overflows}
use Rattle.flat_lower.specs.inside.Keeps as flat
use Rattle.reg_assign.specs.inside.Keeps.{tame_and, assigned_program, EndsAs, Reaches}
use Rattle.hyper_build.specs.inside.Routines.{built}
use Rattle.hyper_build.specs.inside.Tree.{annotated_all, Routine}
use Rattle.hyper_build.specs.inside.Whole.{EndsSo, Stops, IsUnended}
use Rattle.hyper_build.specs.inside.Laws.{built_program, plan_of}
use Rattle.hyper_build.proofs.Assigned.{gives_assigned, keeps_assigned}
use Rattle.loop_unroll.specs.inside.Laws.{ComesTo, HasStopped}
use Rattle.loop_unroll.proofs.Programs.{unrolls_blocks}
use Rattle.grid_place.specs.declared.placed.Placing.{Placing}
use Rattle.c_compile_layout.specs.inside.Layouts.{laid_out}
use Rattle.c_compile_layout.specs.inside.Emitted.{AreEmitted}
use Rattle.c_compile_layout.specs.inside.Standings.{standing_of}
use Rattle.c_compile_layout.proofs.Faithful.{faithful}
use Rattle.c_compile_layout.proofs.Linked.{image_means}
use Rattle.c_compile_blocks.specs.inside.Blocks.{FitsPasses}
use Rattle.c_compile_blocks.proofs.Emitted.{chunks_few, gives_emitted}
use Rattle.c_compile_laws.specs.inside.Compiled.{FlatMeans, IsCompiled}
use Rattle.c_compile_laws.specs.Runs.{run_of}
use Rattle.c_compile_laws.specs.Runs.{DoesFinished, DoesDeep, DoesUnfinished}
use Rattle.c_compile_laws.proofs.UnrolledPrograms.{unrolled_fits, left_comes, left_stops}
use Rattle.c_compile_laws.proofs.RunStandings.{running_is, full_is, ended_is}

-- an input is bytes
bytes_of_input : (input : List ℕ) → IsInput input → AreBytes input
bytes_of_input input h i d l = h i (get_or input i d) (slice_get-get_or input i d l)

-- the data lies in data memory
pub data_fits : (bytes : List ℕ) (limit size : ℕ) → frames_at bytes + limit ≤ size → length bytes ≤ size
data_fits bytes limit size l = omega (arith, l)

-- a program has three blocks besides those of its functions
built_some : (base : ℕ) (fs : List Routine) (main : ℕ) → 1 ≤ length (built base fs main)
built_some base fs main = omega arith

-- the passes take what is left of the blocks that are built of a flat program
pub blocks_pass : (P : TypedProgram) (F : Program) (t : ℕ) (p : Placing) (w : ℕ) (i : Image) → FlatMeans P F t
    → (c : IsCompiled F p w i) → FitsPasses c.left
blocks_pass P F t p w i m c =
    let shape = gives_assigned c.cuts c.joins F c.lists c.groups m.fits c.assigned in
    let n = shape.few in
    let b = m.blocks in
    let f = m.few in
    unrolled_fits c.times (built_program (plan_of c.cuts c.joins c.groups) F) c.left
    (built_some (frames_at F.bytes) (annotated_all (plan_of c.cuts c.joins c.groups) 0 0 F.functions) F.main)
    (omega (arith, n, b, f)) shape.followed (shape.fit (omega (arith, n, b, f))) c.narrows

module _ (P : TypedProgram) (F : Program) (t : ℕ) (p : Placing) (w : ℕ) (i : Image)
    (m : FlatMeans P F t) (c : IsCompiled F p w i) where
  -- the blocks as they were built
  abbrev source : List Block
  source = built_program (plan_of c.cuts c.joins c.groups) F

  -- what is left of them, unrolled
  abbrev program : List Narrowed
  program = c.left

  abbrev at : Layout
  at = laid_out c.blocks

  -- the blocks of the image are what the layout takes
  pub emitted : AreEmitted program c.blocks
  emitted = gives_emitted p program c.blocks (blocks_pass P F t p w i m c) c.made

  found_again : IsFaithful at (length source)
  found_again =
      subst (λ (n : ℕ). IsFaithful at n)
      ((c.made).size ∙ (c.narrows).count ∙ (unrolls_blocks c.times source).size)
      (faithful c.blocks (chunks_few p program c.blocks (blocks_pass P F t p w i m c) c.made))

  -- the checked run of the narrowed program, which the image's run is where nothing faults
  abbrev hyper_of : List ℕ → ℕ → Standing
  hyper_of input n = narrowed_run true at program F.bytes input n

  -- and that of the blocks as they were built
  abbrev source_of : List ℕ → ℕ → Standing
  source_of input n = hyper_run true at source F.bytes input n

  abbrev assigned_of : List ℕ → ℕ → Res
  assigned_of input n = flat_run (tame_and true) (assigned_program F c.lists) input n

  blocks_end : (input : List ℕ) → IsInput input → (n : ℕ)
      → EndsSo (source_of input) n (assigned_of input n)
  blocks_end input h n =
      keeps_assigned true at c.cuts c.joins F c.lists c.groups input n m.fits c.assigned found_again
      (bytes_of_input input h)

  -- what so many of these come to
  comes : (input : List ℕ) (b : ℕ) → ComesTo w Standing (source_of input) (hyper_of input) b
  comes input b = left_comes w c.times c.low at source program c.narrows F.bytes input b

  -- where their run ends, so does that of what is left
  stops : (input : List ℕ) (n : ℕ) (end : Standing) → HasStopped end → Stops (source_of input) n end
      → Stops (hyper_of input) n end
  stops input n end h s = left_stops w c.times c.low at source program c.narrows F.bytes input n end h s

  image_stands : (input : List ℕ) → IsInput input → (n : ℕ)
      → StandsAs (hyper_of input n) (standing_of (run_of i input n))
  image_stands input h n =
      subst (λ (j : Image). StandsAs (hyper_of input n) (standing_of (run_of j input n))) (sym c.is)
      (image_means program c.blocks emitted F.bytes input n (m.fits).bytes (bytes_of_input input h)
      (data_fits F.bytes frame_limit data_size (m.fits).room))

  -- where the evaluation is done within n steps, the run ends so within 16 n + 6 blocks
  pub does_finished : DoesFinished P i
  does_finished input h n out result steps e =
      let f : Finishes (flat_run checked F input) m.most steps out result =
      subst (λ (o : Outcome). Keeps m.most (flat_run checked F input) n o) e (m.keeps input h n) in
      let turns : ℕ = f.turns + 0 in
      let a : Reaches (λ (s : State). Gave (Some f.word) s 0) f.to (assigned_of input turns) =
      subst (λ (r : Res). EndsAs r (assigned_of input turns)) (f.ends 0) (c.keeps true input turns) in
      let s : Stops (hyper_of input) turns (Ended a.state.output f.word) =
      stops input turns (Ended a.state.output f.word) tt
      (subst (λ (r : Res). EndsSo (source_of input) turns r) a.same (blocks_end input h turns)) in
      let least : steps ≤ n = (steps-are-least P input n out result steps e).0 in
      let x = s.few in
      let y = f.few in
      record {
        blocks = s.blocks;
        few = omega (arith, x, y, least);
        from = λ k.
            let r = run_of i input (s.blocks + k) in
            let z : standing_of r ≡ Ended a.state.output f.word =
            subst (λ (q : Standing). StandsAs q (standing_of r)) (s.stands k)
            (image_stands input h (s.blocks + k)) in
            let w = ended_is r.0 r.1 a.state.output f.word z in
            record {
              answer = w.0;
              output = w.1 ∙ (a.outside).output ∙ f.output;
              word = subst (λ (v : ℕ). IsWord Long v) (sym w.2) f.fits;
              is = ap (number Long) w.2 ∙ f.is;
            };
      }

  -- where the evaluation's frames are too large within n steps, the stack is full within 16 n + 6 blocks
  pub does_deep : DoesDeep P i
  does_deep input h n out e =
      let f : Overflows (flat_run checked F input) n out =
      subst (λ (o : Outcome). Keeps m.most (flat_run checked F input) n o) e (m.keeps input h n) in
      let turns : ℕ = f.turns + 0 in
      let a : assigned_of input turns ≡ TooDeep out =
      subst (λ (r : Res). EndsAs r (assigned_of input turns)) (f.ends 0) (c.keeps true input turns) in
      let s : Stops (hyper_of input) turns (Full out) =
      stops input turns (Full out) tt
      (subst (λ (r : Res). EndsSo (source_of input) turns r) a (blocks_end input h turns)) in
      let x = s.few in
      let y = f.few in
      record {
        blocks = s.blocks;
        few = omega (arith, x, y);
        from = λ k.
            let r = run_of i input (s.blocks + k) in
            let z : standing_of r ≡ Full out =
            subst (λ (q : Standing). StandsAs q (standing_of r)) (s.stands k)
            (image_stands input h (s.blocks + k)) in
            let w = full_is r.0 r.1 out z in record { answer = w.0; output = w.1 };
      }

  -- where the evaluation has not ended after n steps, neither has the run, as far as that
  pub does_unfinished : DoesUnfinished (suc w * t) P i
  does_unfinished input h n out e =
      let f : flat.GoesOn (flat_run checked F input) m.most n out =
      subst (λ (o : Outcome). Keeps m.most (flat_run checked F input) n o) e (m.keeps input h n) in
      let a : assigned_of input f.turns ≡ Unfinished out f.rounds =
      subst (λ (r : Res). EndsAs r (assigned_of input f.turns)) f.is (c.keeps true input f.turns) in
      let s : IsUnended (source_of input) f.turns out f.rounds =
      subst (λ (r : Res). EndsSo (source_of input) f.turns r) a (blocks_end input h f.turns) in
      let u = comes input s.blocks in
      let x = s.few in
      let y = f.few in
      let q = s.rounds in
      let fewer = u.few in
      let fair = u.enough in
      let enough = mul-suc (suc w) u.blocks in
      let plus : u.blocks + 1 ≡ suc u.blocks = omega arith in
      let paid : m.most * (f.rounds + 1) ≤ t * (suc w * suc u.blocks) =
      mul-le-mul m.short (omega (arith, q, fair, enough)) in
      let turned : t * (suc w * suc u.blocks) ≡ suc w * t * (u.blocks + 1) =
      sym (mul_assoc t (suc w) (suc u.blocks)) ∙ ap (λ v. v * suc u.blocks) (mul_comm t (suc w))
      ∙ ap (λ v. suc w * t * v) (sym plus) in
      let many = f.many in
      let r = run_of i input u.blocks in
      let z : standing_of r ≡ Running out =
      subst (λ (q : Standing). StandsAs q (standing_of r)) (u.same ∙ s.stands) (image_stands input h u.blocks) in
      let v = running_is r.0 r.1 out z in
      record {
        blocks = u.blocks;
        few = omega (arith, x, y, fewer);
        enough = omega (arith, many, paid, turned);
        goes = record { answer = v.0; output = v.1 };
      }

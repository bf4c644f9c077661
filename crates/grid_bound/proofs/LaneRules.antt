-- The lane of a grid that has its rule has the rule of lanes.
use Rattle.std.proofs.Common.{◌≡◌, ℕ, ◌+◌, ◌-◌, ◌<◌, ◌≤◌, Bool, true, false, cond, nat_lt, ◌⊎◌, inl, inr, List, []}
use Rattle.std.proofs.Common.{◌∷◌, length, Option, Some, None, slice_get, refl, sym, ap, ◌∙◌, subst, arith}
use Rattle.std.proofs.lemmas.Bool.{lt-ltb, le-ltb}
use Rattle.std.proofs.lemmas.Bool.Decides.{nat_tests}
use Rattle.trips_isa.specs.declared.block.Block.{Block}
use Rattle.trips_isa.specs.Rule.{Answer}
use Rattle.trips_isa.specs.Blocks.{Responses}
use Rattle.trips_isa.specs.inside.Blocks.{Solves}
use Rattle.block_cases.specs.Orders.{slot_of}
use Rattle.commit_flush_spec.specs.Frames.{Frame}
use Rattle.commit_flush_spec.specs.Older.{committed, follows}
use Rattle.commit_flush_spec.specs.inside.Invariant.{AllGood, FrameOk, FramesOk, IsRunnable}
use Rattle.commit_flush_spec.specs.inside.Laws.{AllKept, NoneLost, WindowOk}
use Rattle.grid_cycle_spec.specs.Grid.{Grid, Fetching}
use Rattle.grid_cycle_spec.specs.Acting.{known_next}
use Rattle.grid_bound.specs.inside.Course.{Course}
use Rattle.grid_bound.specs.inside.Lane.{Lane, is_complete, is_there}
use Rattle.grid_bound.specs.inside.Lane as lane
use Rattle.grid_bound.specs.inside.Laws.{FineAt, FrontRule, LaneRule, StageRule}
use Rattle.grid_bound.specs.inside.Blocks.{course_of, read_task, room, slot_task, slot_tasks, task_of}
use Rattle.grid_bound.specs.inside.Programs.{size_in}
use Rattle.grid_bound.specs.inside.Seen.{fetch_of, front_of, has_come, lane_of, phase_of, read_phase, slot_phase}
use Rattle.grid_bound.specs.inside.Seen.{stage_of}
use Rattle.grid_bound.proofs.Courses.{course_good}
use Rattle.grid_bound.proofs.Seen.{complete_seen}
use Rattle.grid_bound.proofs.Sizes.{room_is, slot_tasks_is, tasks_are}
use Rattle.grid_bound.specs.inside.UnderWay.{Tied}
use Rattle.grid_bound.specs.inside.Rule.{EachFrame, FetchRule, GridRule, HeldFrom, RunsTied, UnitsRule}
use Rattle.grid_bound.proofs.Landing.{read_fine, read_placed, slot_fine, slot_placed}

next_is : (n k : ℕ) → follows (Some n) k ≡ true → n ≡ k
next_is n k e = grind (arith, nat_tests)

-- the fetch of the next block --------------------------------------------------------------------

fetch_rule : {W : Type 0} (n : ℕ) (u : ℕ → ℕ) (g : Grid W) (known : Option ℕ) (o : Option Fetching)
    → FetchRule known o
    → StageRule n u (fetch_of g o)
fetch_rule n u g known None h = tt
fetch_rule n u g known (Some f) h = let l = h.0 in omega (arith, l)

-- a grid without a frame in flight has a lane that has its rule
pub no_lane : {W : Type 0} (sizes : ℕ → ℕ) (g : Grid W) (c : Course) → GridRule g → g.window.frames ≡ []
    → LaneRule sizes (lane_of c g)
no_lane sizes g c rule e = record {
  units = rule.units.most;
  stage = inr (subst (λ l. StageRule (sizes (length g.window.state.trace)) g.units (stage_of c g l)) (sym e)
      (fetch_rule (sizes (length g.window.state.trace)) g.units g (known_next g.window) g.fetching rule.fetch));
}

-- the oldest frame -------------------------------------------------------------------------------

module _ {W : Type 0} (blocks : List Block) (good : AllGood blocks) (g : Grid W) (f : Frame)
    (ok : FrameOk blocks (committed g.window.state) f) (lost : NoneLost f)
    (tied : Tied (g.parcels f.number) (g.asked f.number) (g.works f.number) f)
    (units : UnitsRule g.units g.works) (held : (p : ℕ) → p < 320 → HeldFrom 1 (g.parcels f.number p))
    (a : Responses) (t : ℕ → Answer) (solves : Solves f.code a t) where
  runnable : IsRunnable f.code
  runnable = good f.block f.code ok.code

  -- a task is that of a slot or of a read
  by_task : (P : ℕ → Type 0) → ((s : ℕ) → s < 128 → P s) → ((r : ℕ) → r < 32 → P (slot_tasks + r)) → (x : ℕ)
      → x < room → P x
  by_task P slots reads x l = go (nat_lt x 128) refl
    where
      go : (b : Bool) → nat_lt x 128 ≡ b → P x
      go true e = slots x (grind (arith, nat_tests))
      go false e =
          let m : 128 ≤ x = grind (arith, nat_tests) in
          let z = slot_tasks_is in
          let w = room_is in
          let at' : slot_tasks + (x - 128) ≡ x = omega (arith, m, z) in
          subst P at' (reads (x - 128) (omega (arith, l, w)))

  slot_low : (s : ℕ) → s < 128 → nat_lt s slot_tasks ≡ true
  slot_low s l = lt-ltb s slot_tasks (let z = slot_tasks_is in omega (arith, l, z))

  read_high : (r : ℕ) → nat_lt (slot_tasks + r) slot_tasks ≡ false
  read_high r = le-ltb (slot_tasks + r) slot_tasks (omega arith)

  read_back : (r : ℕ) → slot_tasks + r - slot_tasks ≡ r
  read_back r = omega arith

  slot_task_is : (s : ℕ) → s < 128 → task_of f.code t s ≡ slot_task f.code t s (slot_of f.code s)
  slot_task_is s l = ap (λ b. cond b (slot_task f.code t s (slot_of f.code s))
      (read_task f.code (slice_get f.code.reads.items (s - slot_tasks)))) (slot_low s l)

  slot_phase_is : (s : ℕ) → s < 128 → phase_of g f s ≡ slot_phase g f s (slot_of f.code s)
  slot_phase_is s l = ap (λ b. cond b (slot_phase g f s (slot_of f.code s))
      (read_phase g f (s - slot_tasks) (slice_get f.code.reads.items (s - slot_tasks)))) (slot_low s l)

  read_task_is : (r : ℕ) → task_of f.code t (slot_tasks + r) ≡ read_task f.code (slice_get f.code.reads.items r)
  read_task_is r = ap (λ b. cond b (slot_task f.code t (slot_tasks + r) (slot_of f.code (slot_tasks + r)))
      (read_task f.code (slice_get f.code.reads.items (slot_tasks + r - slot_tasks)))) (read_high r)
      ∙ ap (λ k. read_task f.code (slice_get f.code.reads.items k)) (read_back r)

  read_phase_is : (r : ℕ) → phase_of g f (slot_tasks + r) ≡ read_phase g f r (slice_get f.code.reads.items r)
  read_phase_is r = ap (λ b. cond b (slot_phase g f (slot_tasks + r) (slot_of f.code (slot_tasks + r)))
      (read_phase g f (slot_tasks + r - slot_tasks) (slice_get f.code.reads.items (slot_tasks + r - slot_tasks))))
      (read_high r) ∙ ap (λ k. read_phase g f k (slice_get f.code.reads.items k)) (read_back r)

  fine : (x : ℕ) → x < room → FineAt g.units (has_come f) (task_of f.code t x) (phase_of g f x)
  fine = by_task (λ x. FineAt g.units (has_come f) (task_of f.code t x) (phase_of g f x))
      (λ s l. subst (λ k. FineAt g.units (has_come f) k (phase_of g f s)) (sym (slot_task_is s l))
      (subst (FineAt g.units (has_come f) (slot_task f.code t s (slot_of f.code s))) (sym (slot_phase_is s l))
      (slot_fine blocks good (committed g.window.state) g f ok lost tied units held t s l (slot_of f.code s) refl)))
      (λ r l. subst (λ k. FineAt g.units (has_come f) k (phase_of g f (slot_tasks + r))) (sym (read_task_is r))
      (subst (FineAt g.units (has_come f) (read_task f.code (slice_get f.code.reads.items r))) (sym (read_phase_is r))
      (read_fine blocks good (committed g.window.state) g f ok lost tied units held r l
      (slice_get f.code.reads.items r) refl)))

  placed : (x : ℕ) → x < room → is_there (phase_of g f x) ≡ (task_of f.code t x).declared
  placed = by_task (λ x. is_there (phase_of g f x) ≡ (task_of f.code t x).declared)
      (λ s l. ap is_there (slot_phase_is s l) ∙ slot_placed g f t s (slot_of f.code s)
      ∙ sym (ap (λ k. k.declared) (slot_task_is s l)))
      (λ r l. ap is_there (read_phase_is r) ∙ read_placed g f r (slice_get f.code.reads.items r)
      ∙ sym (ap (λ k. k.declared) (read_task_is r)))

  front_rule : (n : ℕ) → n ≡ size_in (Some f.code) → FrontRule n g.units (front_of (course_of f.code t) g f)
  front_rule n e = record {
    size = tasks_are f.code t (runnable).fits ∙ sym e;
    good = course_good f.code runnable a t solves;
    placed = placed;
    fine = fine;
  }

-- a grid with a frame in flight has a lane that has its rule
pub frame_lane : {W : Type 0} (blocks : List Block) (budget : ℕ) (sizes : ℕ → ℕ) (g : Grid W) (f : Frame)
    (fs : List Frame) (a : Responses) (t : ℕ → Answer) → AllGood blocks → WindowOk blocks budget g.window → GridRule g
    → g.window.frames ≡ f ∷ fs → Solves f.code a t
    → sizes (length g.window.state.trace) ≡ size_in (slice_get blocks g.window.state.next)
    → LaneRule sizes (lane_of (course_of f.code t) g)
frame_lane blocks budget sizes g f fs a t good ok rule e solves size = record {
  units = rule.units.most;
  stage = subst (λ l. (is_complete (stage_of (course_of f.code t) g l) ≡ true)
      ⊎ StageRule (sizes (length g.window.state.trace)) g.units (stage_of (course_of f.code t) g l)) (sym e)
      (go f.sealed refl);
}
  where
    frames : FramesOk blocks (committed g.window.state) (f ∷ fs)
    frames = subst (FramesOk blocks (committed g.window.state)) e ok.frames

    kept : AllKept (f ∷ fs)
    kept = subst AllKept e ok.kept

    tied : f.sealed ≡ false → Tied (g.parcels f.number) (g.asked f.number) (g.works f.number) f
    tied = (subst (EachFrame (RunsTied g)) e rule.tied).0

    few : length f.code.writes.items ≤ 32
    few = (good f.block f.code frames.2.code).fits.writes

    sized : sizes (length g.window.state.trace) ≡ size_in (Some f.code)
    sized = size ∙ ap (λ k. size_in (slice_get blocks k)) (next_is g.window.state.next f.block frames.1)
        ∙ ap size_in frames.2.code

    go : (b : Bool) → f.sealed ≡ b → (lane.complete (front_of (course_of f.code t) g f) ≡ true)
        ⊎ FrontRule (sizes (length g.window.state.trace)) g.units (front_of (course_of f.code t) g f)
    go true i = inl (complete_seen g f t few ∙ frames.2.whole i)
    go false i = inr (front_rule blocks good g f frames.2 (kept.0 i) (tied i) rule.units
        (λ p l. rule.mesh f.number p l) a t solves (sizes (length g.window.state.trace)) sized)

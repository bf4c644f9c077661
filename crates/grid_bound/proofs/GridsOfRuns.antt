-- Each grid of a run that goes on stands as its next cycle asks.
use Rattle.std.proofs.Common.{◌≡◌, ℕ, zero, suc, ◌+◌, ◌-◌, ◌^◌, ◌<◌, ◌≤◌, List, [], ◌∷◌, length, Some, slice_get}
use Rattle.std.proofs.Common.{slice_index, refl, sym, ap, ◌∙◌, arith}
use Rattle.trips_isa.specs.declared.block.Block.{Block}
use Rattle.trips_isa.specs.declared.run.Stepped.{Stepped}
use Rattle.trips_isa.specs.declared.run.Stepped.TheVariants as stepped
use Rattle.trips_isa.specs.Machine.{State, runs}
use Rattle.commit_flush_spec.specs.Frames.{Frame}
use Rattle.block_predict.specs.Predicts.{Holding}
use Rattle.commit_flush_spec.specs.InFlight.{opened}
use Rattle.commit_flush_spec.specs.Older.{committed}
use Rattle.commit_flush_spec.specs.inside.Invariant.{AllGood}
use Rattle.commit_flush_spec.specs.Laws.{TakesSteps, Reached}
use Rattle.commit_flush_spec.specs.inside.Laws.{WindowOk}
use Rattle.grid_cycle_spec.specs.Grid.{Grid}
use Rattle.grid_cycle_spec.specs.Ends.{ends}
use Rattle.grid_cycle_spec.specs.Fetches.{fetches}
use Rattle.grid_cycle_spec.specs.Cycles.{Eager, begun_at}
use Rattle.grid_cycle_spec.specs.inside.Cycles.{AfterCycles}
use Rattle.grid_cycle_spec.proofs.Agreeing.{takes_steps}
use Rattle.grid_cycle_spec.proofs.Events.{cycles_steps}
use Rattle.grid_bound.specs.inside.Laws.{LaneRule}
use Rattle.grid_bound.specs.inside.Programs.{size_in, sizes_from}
use Rattle.grid_bound.specs.inside.Seen.{lane_of}
use Rattle.grid_bound.specs.inside.CycleRule.{CycleRule}
use Rattle.grid_bound.specs.inside.Lanes.{table_in, course_in, lane_in}
use Rattle.grid_bound.specs.inside.Parts.{Tells}
use Rattle.grid_bound.specs.inside.Runs.{Stands, AfterStanding}
use Rattle.grid_bound.proofs.OldestEnds.{oldest_ok}
use Rattle.grid_bound.proofs.FarUnits.{far_cycle}
use Rattle.grid_bound.proofs.FrameTable.{table_tells}
use Rattle.grid_bound.specs.inside.Rule.{GridRule, GenerationsCounted}
use Rattle.grid_bound.proofs.CycleParts.{cycles_rule, cycles_window}
use Rattle.grid_bound.proofs.EndParts.{Ruled, ends_ruled}
use Rattle.grid_bound.proofs.FetchParts.{fetches_going}
use Rattle.grid_bound.proofs.Generations.{cycles_count}
use Rattle.grid_bound.proofs.GoingGrids.{Going}
use Rattle.grid_bound.proofs.Ties.{rule_of, ties_of}
use Rattle.grid_bound.proofs.Asked.{cycle_rule, due}
use Rattle.grid_bound.proofs.LaneRules.{frame_lane, no_lane}
use Rattle.grid_bound.specs.inside.GoesOn.{GoesOn}
use Rattle.grid_bound.proofs.StartPredictors.{begun_rule, begun_counted}
use Rattle.grid_bound.proofs.CycleGrows.{cycles_before, steps, went_before}

-- an item below the length is there
item_at : {A : Type 0} (xs : List A) (n : ℕ) → n < length xs → (x : A) × (slice_get xs n ≡ Some x)
item_at [] n l = absurd (omega (arith, l))
item_at (x ∷ xs) zero l = (x, refl)
item_at (x ∷ xs) (suc n) l = item_at xs n (omega (arith, l))

-- the state that the machine has reached
pub reached_state : (blocks : List Block) (s t : State) (n : ℕ) (o : Stepped) → Reached blocks s n t o
    → t ≡ (runs blocks s n).0
reached_state blocks s t n stepped.Went r = ap (λ (p : State × Stepped). p.0) r
reached_state blocks s t n stepped.Ended r = ap (λ (p : State × Stepped). p.0) r
reached_state blocks s t n stepped.StackFull r = ap (λ (p : State × Stepped). p.0) r
reached_state blocks s t n (stepped.Trap c) r = ap (λ (p : State × Stepped). p.0) r.0

-- one grid that has its rule, where `sizes` tells how many tasks the block has that commits next
module _ {W : Type 0} (blocks : List Block) (good : AllGood blocks) (budget : ℕ) (h : Grid W)
    (ok : WindowOk blocks budget h.window) (rule : GridRule h) (made : GenerationsCounted h)
    (far : (t : ℕ) → 16 ≤ t → h.units t ≡ 0) (on : GoesOn budget h) (few : h.counts.cycles < 2 ^ 64 - 1)
    (sizes : ℕ → ℕ)
    (next_size : sizes (length h.window.state.trace) ≡ size_in (slice_get blocks h.window.state.next)) where
  parts : (ends blocks budget h).window.over ≡ stepped.Went
      → CycleRule blocks budget (fetches blocks budget (ends blocks budget h))
  parts e =
      let r : Ruled blocks budget 1 (ends blocks budget h) =
      ends_ruled blocks good budget 1 h (record { ok = ok; ties = ties_of 1 h rule; fetch = rule.fetch }) in
      let k : Going blocks budget 1 (fetches blocks budget (ends blocks budget h)) =
      fetches_going blocks good budget 1 (ends blocks budget h)
      (record { ok = r.ok; went = e; ties = r.ties; fetch = r.fetch }) in
      cycle_rule blocks good budget (fetches blocks budget (ends blocks budget h)) k.ok k.went
      (rule_of 1 (fetches blocks budget (ends blocks budget h)) k.ties k.fetch)

  lane : LaneRule sizes (lane_in h)
  lane = by h.window.frames refl
    where
      by : (l : List Frame) → h.window.frames ≡ l
          → LaneRule sizes (lane_of (course_in (committed h.window.state) l) h)
      by [] e = no_lane sizes h (course_in (committed h.window.state) []) rule e
      by (f ∷ fs) e =
          let t : Tells (committed h.window.state) f (table_in (committed h.window.state) f) =
          table_tells blocks good (committed h.window.state) f (oldest_ok blocks budget h.window f fs ok e).code in
          frame_lane blocks budget sizes h f fs t.seen (table_in (committed h.window.state) f) good ok rule e t.solves
          next_size

  next_block : (x : Block) × (slice_get blocks h.window.state.next ≡ Some x)
  next_block = item_at blocks h.window.state.next ok.next

  -- a grid that has its rule, and whose run goes on, stands as its next cycle asks
  pub stands_here : Stands blocks budget sizes h
  stands_here = record {
    ok = ok;
    went = on.went;
    room = on.room;
    parts = parts;
    none = far;
    due = λ e. (
      due h rule e,
      (let c : slice_index h.window.generations 0 ≤ h.counts.cycles = made 0 in
          omega (arith, c, few)),
    );
    block = next_block.0;
    is_next = next_block.1;
    is_size = sym (ap size_in next_block.1) ∙ sym next_size;
    lane = lane;
  }

module _ {W : Type 0} (blocks : List Block) (good : AllGood blocks) (budget : ℕ) (next : W → ℕ)
    (follows : W → W → Type 0) (bound : (w : W) → next w ≤ 3) (s : State) (predictor : Holding) (weather : W)
    (opens : WindowOk blocks budget (opened s)) where
  abbrev g : Grid W
  g = record (begun_at s [] weather) { predictor = predictor }

  abbrev sizes : ℕ → ℕ
  sizes = sizes_from blocks s

  abbrev After : ℕ → Grid W → Type 0
  After n h = AfterCycles next follows blocks budget n g h

  far_rest : (n : ℕ) (h : Grid W) → After n h → (t : ℕ) → 16 ≤ t → h.units t ≡ 0
  far_rest zero h a t l = ap (λ (k : Grid W). k.units t) a
  far_rest (suc n) h a t l =
      far_cycle blocks budget t l next follows a.between h a.after ∙ far_rest n a.between a.before t l

  -- one grid of the run
  module _ (n : ℕ) (h : Grid W) (a : After n h) (on : GoesOn budget h) (few : h.counts.cycles < 2 ^ 64 - 1) where
    ok : WindowOk blocks budget h.window
    ok = cycles_window blocks good budget next follows bound n g h opens (begun_rule s predictor weather) a

    rule : GridRule h
    rule = cycles_rule blocks good budget next follows bound n g h opens (begun_rule s predictor weather) a

    made : GenerationsCounted h
    made = cycles_count blocks budget next follows n g h (begun_counted s predictor weather) a

    ran : TakesSteps blocks s h.window
    ran = takes_steps blocks good budget g.window h.window opens refl
        (cycles_steps blocks budget next follows n g h a)

    -- how many tasks the next block has
    next_size : sizes (length h.window.state.trace) ≡ size_in (slice_get blocks h.window.state.next)
    next_size =
        let grown : length h.window.state.trace ≡ length s.trace + ran.steps = ran.grown in
        let k : length h.window.state.trace - length s.trace ≡ ran.steps = omega (arith, grown) in
        ap (λ m. size_in (slice_get blocks (runs blocks s m).0.next)) k
        ∙ ap (λ (t : State). size_in (slice_get blocks t.next))
        (sym (reached_state blocks s h.window.state ran.steps h.window.over ran.reached))

    -- the grid has what its next cycle asks
    pub stands : Stands blocks budget sizes h
    stands = stands_here blocks good budget h ok rule made (far_rest n h a) on few sizes next_size

  -- the grid before goes on too
  on_before : (n : ℕ) (m h : Grid W) → After n m → Eager next follows blocks budget m h → GoesOn budget h
      → GoesOn budget m
  on_before n m h a c on =
      let went : m.window.over ≡ stepped.Went = went_before blocks budget next follows m h c on.went in
      let okm : WindowOk blocks budget m.window =
      cycles_window blocks good budget next follows bound n g m opens (begun_rule s predictor weather) a in
      let one : TakesSteps blocks m.window.state h.window =
      takes_steps blocks good budget m.window h.window okm went (steps blocks budget next follows m h c) in
      let grown : length h.window.state.trace ≡ length m.window.state.trace + one.steps = one.grown in
      let room : length h.window.state.trace < budget = on.room in
      record { went = went; room = omega (arith, grown, room) }

  -- each grid that eager cycles lead to from the stated start stands as its next cycle asks
  pub all_stand : (n : ℕ) (h : Grid W) → After n h → GoesOn budget h → h.counts.cycles < 2 ^ 64 - 1
      → AfterStanding next follows blocks budget sizes n g h
  all_stand zero h a on few = a
  all_stand (suc n) h a on few =
      let m : GoesOn budget a.between = on_before n a.between h a.before a.after on in
      let c : (a.between).counts.cycles ≤ h.counts.cycles =
      cycles_before blocks budget next follows a.between h a.after in
      let k : (a.between).counts.cycles < 2 ^ 64 - 1 = omega (arith, c, few) in
      record {
        between = a.between;
        before = all_stand n a.between a.before m k;
        stands = stands n a.between a.before m k;
        cycle = a.after;
      }

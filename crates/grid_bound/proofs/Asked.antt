-- What the parts of a cycle ask of the oldest frame, of a grid that has its rule.
use Rattle.std.proofs.Common.{◌≡◌, ℕ, false, true, List, [], ◌∷◌, Option, Some, None, sym, ap, ◌∙◌, subst, arith}
use Rattle.std.proofs.lemmas.Bool.Decides.{nat_tests}
use Rattle.trips_isa.specs.declared.block.Block.{Block}
use Rattle.trips_isa.specs.declared.run.Stepped.TheVariants.{Went}
use Rattle.commit_flush_spec.specs.Frames.{Frame}
use Rattle.commit_flush_spec.specs.Older.{after_all, committed, follows}
use Rattle.commit_flush_spec.specs.inside.Invariant.{AllGood, FrameOk, FramesOk}
use Rattle.commit_flush_spec.specs.inside.Laws.{WindowOk}
use Rattle.commit_flush_spec.specs.inside.Work.{none_guessed}
use Rattle.grid_cycle_spec.specs.Grid.{Grid, Fetching}
use Rattle.grid_cycle_spec.specs.Acting.{known_next}
use Rattle.grid_cycle_spec.specs.Choosing.{each}
use Rattle.grid_cycle_spec.specs.Banks.{reads_answered}
use Rattle.grid_cycle_spec.specs.DataTiles.{data_turn, answers}
use Rattle.grid_cycle_spec.specs.Units.{unit_turn, works_on}
use Rattle.grid_bound.specs.inside.Shows.{IsDue, QuietReads}
use Rattle.grid_bound.specs.inside.DataRule.{DataRule}
use Rattle.grid_bound.specs.inside.UnitRule.{UnitRule}
use Rattle.grid_bound.specs.inside.MoveRule.{MoveRule}
use Rattle.grid_bound.specs.inside.CycleRule.{CycleRule}
use Rattle.grid_bound.specs.inside.UnderWay.{Tied}
use Rattle.grid_bound.specs.inside.Rule.{EachFrame, FetchRule, FrameRule, GridRule}
use Rattle.grid_bound.proofs.Ties.{ties_of}
use Rattle.grid_bound.proofs.BankParts.{banks_going}
use Rattle.grid_bound.proofs.DataParts.{answers_going, data_turns_going}
use Rattle.grid_bound.proofs.UnitParts.{unit_turns_going, works_going}
use Rattle.grid_bound.proofs.GoingGrids.{Going}
use Rattle.grid_bound.proofs.Oldest.{data_rule, quiet_reads, unit_rule}
use Rattle.grid_bound.proofs.OldestMoves.{move_rule}

-- the fetch --------------------------------------------------------------------------------------

next_is : (n k : ℕ) → follows (Some n) k ≡ true → n ≡ k
next_is n k e = grind (arith, nat_tests)

fetch_due : {W : Type 0} (g : Grid W) (known : Option ℕ) (o : Option Fetching) → known ≡ Some g.window.state.next
    → FetchRule known o → IsDue g o
fetch_due g known None e h = tt
fetch_due g known (Some x) e h = sym (next_is g.window.state.next x.block (sym (ap (λ k. follows k x.block) e) ∙ h.1))

-- without a frame in flight a fetch under way is of the committed next block
pub due : {W : Type 0} (g : Grid W) → GridRule g → g.window.frames ≡ [] → IsDue g g.fetching
due g rule e = fetch_due g (known_next g.window) g.fetching
    (ap (λ l. (after_all l (committed g.window.state)).known) e) rule.fetch

-- the oldest frame -------------------------------------------------------------------------------

module _ {W : Type 0} (blocks : List Block) (good : AllGood blocks) (budget : ℕ) (h : Grid W)
    (go : Going blocks budget 1 h) (f : Frame) (fs : List Frame) (e : h.window.frames ≡ f ∷ fs)
    (runs : f.sealed ≡ false) where
  ok : FrameOk blocks (committed h.window.state) f
  ok = (subst (FramesOk blocks (committed h.window.state)) e go.ok.frames).2

  rule : FrameRule f
  rule = (subst (EachFrame FrameRule) e go.ties.frames).0

  tied : Tied (h.parcels f.number) (h.asked f.number) (h.works f.number) f
  tied = (subst (EachFrame (λ x. x.sealed ≡ false → Tied (h.parcels x.number) (h.asked x.number)
      (h.works x.number) x)) e
      go.ties.tied).0 runs

  careful : h.careful f.number ≡ true → none_guessed f ≡ true
  careful = (subst (EachFrame (λ x. h.careful x.number ≡ true → none_guessed x ≡ true)) e go.ties.unguessed).0

  reads_of : QuietReads h f
  reads_of = quiet_reads blocks good (committed h.window.state) h f ok rule tied go.ties.busy

  tiles_of : DataRule h f
  tiles_of = data_rule blocks good (committed h.window.state) h f ok rule tied go.ties.busy careful

  units_of : UnitRule h f
  units_of = unit_rule blocks good (committed h.window.state) h f ok rule tied go.ties.busy

  moves_of : MoveRule h f
  moves_of = move_rule blocks good (committed h.window.state) h f ok rule tied go.ties.busy

module _ {W : Type 0} (blocks : List Block) (good : AllGood blocks) (budget : ℕ) where
  going_rule : (g : Grid W) → Going blocks budget 1 g → CycleRule blocks budget g
  going_rule g go =
      let a : Grid W = reads_answered blocks budget g in
      let b : Grid W = answers blocks budget a in
      let go_a : Going blocks budget 1 a = banks_going blocks good budget 1 g go in
      let go_b : Going blocks budget 1 b = answers_going blocks good budget 1 a go_a in
      record {
        reads = λ f fs e runs. reads_of blocks good budget g go f fs e runs;
        tiles = λ d f fs e runs. tiles_of blocks good budget (each (data_turn blocks budget) d a)
            (data_turns_going blocks good budget 1 d a go_a) f fs e runs;
        units = λ k f fs e runs. units_of blocks good budget (each (unit_turn blocks budget) k b)
            (unit_turns_going blocks good budget 1 k b go_b) f fs e runs;
        moves = λ f fs e runs. moves_of blocks good budget (works_on blocks budget b)
            (works_going blocks good budget 1 b go_b) f fs e runs;
      }

  -- a grid that has its rule gives parts (3) to (6) of its cycle what they ask of the oldest frame
  pub cycle_rule : (g : Grid W) → WindowOk blocks budget g.window → g.window.over ≡ Went → GridRule g
      → CycleRule blocks budget g
  cycle_rule g ok went rule =
      going_rule g (record { ok = ok; went = went; ties = ties_of 1 g rule; fetch = rule.fetch })

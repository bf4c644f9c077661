-- Marks of what may happen stay while banks answer and units issue, and nothing happens where there is none.
use Rattle.std.proofs.Common.{◌≡◌, ℕ, suc, ◌+◌, ◌*◌, ◌==◌, Bool, true, false, cond, List, Option}
use Rattle.std.proofs.Common.{Some, None, is_some, is_none}
use Rattle.std.proofs.Common.{slice_get, refl, sym, ap, ◌∙◌, subst}
use Rattle.std.proofs.lemmas.Bool.{false≢true}
use Rattle.trips_isa.specs.declared.block.Block.{Block}
use Rattle.block_cases.specs.Orders.{slot_of}
use Rattle.commit_flush_spec.specs.Frames.{Frame, at, target}
use Rattle.commit_flush_spec.specs.Window.{Window, Read, happens}
use Rattle.grid_cycle_spec.specs.Stations.{home, bank_node}
use Rattle.grid_cycle_spec.specs.Grid.{Grid}
use Rattle.grid_cycle_spec.specs.Banks.{answers_read, bank_turn, read_chosen}
use Rattle.grid_cycle_spec.specs.Choosing.{eldest, slots, reads, with_frame}
use Rattle.grid_cycle_spec.specs.Sending.{enters, enters_if, enter_both}
use Rattle.grid_cycle_spec.specs.Units.{issued, issue_chosen, issues, ready, takes}
use Rattle.grid_parts.specs.inside.EldestChoices.{lowest_slot}
use Rattle.grid_parts.specs.inside.Asked.{frame_of}
use Rattle.grid_parts.specs.inside.Marked.{SlotsMarked, ReadsMarked}
use Rattle.grid_parts.proofs.FrameFacts.{by_frame, with_frame_is}
use Rattle.grid_parts.proofs.MarkFacts.{reads_left, slots_left, none_issued}

-- marks of one window are those of an equal one
pub reads_moved : (bs cs : List Block) (b d : ℕ) (v w : Window) (words : List ℕ) → cs ≡ bs → d ≡ b → w ≡ v
    → ReadsMarked bs b v words → ReadsMarked cs d w words
reads_moved bs cs b d v w words e f h m =
    subst (λ x. ReadsMarked x d w words) (sym e)
    (subst (λ x. ReadsMarked bs x w words) (sym f) (subst (λ x. ReadsMarked bs b x words) (sym h) m))

-- marks of slots that may fire stay right of the same blocks, budget and window
pub slots_moved : (bs cs : List Block) (b d : ℕ) (v w : Window) (marks : ℕ) → cs ≡ bs → d ≡ b → w ≡ v
    → SlotsMarked bs b v marks → SlotsMarked cs d w marks
slots_moved bs cs b d v w marks e f h m =
    subst (λ x. SlotsMarked x d w marks) (sym e)
    (subst (λ x. SlotsMarked bs x w marks) (sym f) (subst (λ x. SlotsMarked bs b x marks) (sym h) m))

module _ {W : Type 0} where
  -- banks ------------------------------------------------------------------------------------------

  enters_window : (b : Bool) (n place from to : ℕ) (g : Grid W)
      → (cond b (enters n place from to g) g).window ≡ g.window
  enters_window true n place from to g = refl
  enters_window false n place from to g = refl

  -- tokens that enter the mesh change nothing in the window
  both_window : (from place : ℕ) (f : Frame) (g : Grid W) → (enter_both from f place g).window ≡ g.window
  both_window from place f g =
      enters_window (is_some (at f.places (suc place))) f.number (suc place) from
      (home f.code (target f.code (suc place)))
      (enters_if from f place g)
      ∙ enters_window (is_some (at f.places place)) f.number place from (home f.code (target f.code place)) g

  frame_window : (from place n : ℕ) (fs : List Frame) (g : Grid W)
      → (with_frame n (λ f h. enter_both from f place h) fs g).window ≡ g.window
  frame_window from place n fs g =
      ap (λ (h : Grid W). h.window) (with_frame_is n (λ f h. enter_both from f place h) fs g) ∙ go (frame_of n fs)
    where
      go : (o : Option Frame) → (by_frame (λ f h. enter_both from f place h) g o).window ≡ g.window
      go None = refl
      go (Some f) = both_window from place f g

  -- marks of reads that may be answered stay right while a bank has its turn
  pub reads_kept : (blocks : List Block) (budget bank : ℕ) (g : Grid W) (words : List ℕ)
      → ReadsMarked blocks budget g.window words
      → ReadsMarked blocks budget (bank_turn blocks budget bank g).window words
  reads_kept blocks budget bank g words m = by (eldest (answers_read blocks budget g bank) reads g.window.frames)
    where
      by : (q : Option (ℕ × ℕ)) → ReadsMarked blocks budget (read_chosen blocks budget bank q g).window words
      by None = m
      by (Some q) =
          let after : Window = happens blocks budget (Read q.0 q.1) g.window in
          subst (λ w. ReadsMarked blocks budget w words)
          (sym (frame_window (bank_node bank) (256 + 2 * q.1) q.0 after.frames (record g { window = after })))
          (reads_left blocks budget g.window words q.0 q.1 m)

  -- units ------------------------------------------------------------------------------------------

  module _ (blocks : List Block) (budget tile : ℕ) (g : Grid W) (marks : ℕ)
      (m : SlotsMarked blocks budget g.window marks) where
    -- marks of slots that may fire stay right while a tile issues
    pub slots_kept : SlotsMarked blocks budget (issues blocks budget tile g).window marks
    slots_kept = go (g.units tile == 0)
      where
        in_frame : (q : ℕ × ℕ) (o : Option Frame) → SlotsMarked blocks budget
            (by_frame (λ f h. issued blocks budget tile q.0 q.1 (takes (slot_of f.code q.1)) h) g o).window marks
        in_frame q None = m
        in_frame q (Some f) = slots_left blocks budget g.window marks q.0 q.1 m

        by : (q : Option (ℕ × ℕ)) → SlotsMarked blocks budget (issue_chosen blocks budget tile q g).window marks
        by None = m
        by (Some q) = subst (λ (h : Grid W). SlotsMarked blocks budget h.window marks)
            (sym (with_frame_is q.0 (λ f h. issued blocks budget tile q.0 q.1 (takes (slot_of f.code q.1)) h)
            g.window.frames g)) (in_frame q (frame_of q.0 g.window.frames))

        go : (b : Bool) → SlotsMarked blocks budget (cond b (issue_chosen blocks budget tile
            (eldest (ready blocks budget g tile) slots g.window.frames) g) g).window marks
        go true = by (eldest (ready blocks budget g tile) slots g.window.frames)
        go false = m

    -- a tile without a marked slot issues nothing
    pub not_issued : false ≡ is_some (lowest_slot marks tile) → g ≡ issues blocks budget tile g
    not_issued off = same (g.units tile == 0)
        (issue_chosen blocks budget tile (eldest (ready blocks budget g tile) slots g.window.frames) g)
        (ap (λ o. issue_chosen blocks budget tile o g)
        (none_issued blocks budget g.window marks tile m (no_some (lowest_slot marks tile) off)))
      where
        no_some : (o : Option ℕ) → false ≡ is_some o → o ≡ None
        no_some None e = refl
        no_some (Some s) e = absurd (false≢true e)

        same : (b : Bool) (h : Grid W) → h ≡ g → g ≡ cond b h g
        same true h e = sym e
        same false h e = refl

-- A parcel that has arrived in a place of a frame.
use Rattle.std.proofs.Common.{◌≡◌, ℕ, ◌/◌, ◌<◌, ◌≤◌, cond, List, Some, None}
use Rattle.std.proofs.Common.{sym, ap, ◌∙◌}
use Rattle.std.proofs.lemmas.Bool.{lt-ltb, le-ltb}
use Rattle.trips_isa.specs.declared.block.Inst.{Inst}
use Rattle.trips_isa.specs.declared.block.Block.{Block}
use Rattle.trips_isa.specs.Forms.{form_of}
use Rattle.block_cases.specs.Orders.{slot_of}
use Rattle.commit_flush_spec.specs.Frames.{Frame}
use Rattle.grid_cycle_spec.specs.Grid.{Grid}
use Rattle.grid_cycle_spec.specs.Choosing.{with_frame}
use Rattle.grid_cycle_spec.specs.inside.Arrivals.{delivers, inst_arrives, place_arrives, slot_arrives}
use Rattle.grid_parts.specs.inside.Asked.{frame_of}
use Rattle.grid_parts.proofs.FrameFacts.{by_frame, frame_number, with_frame_is}

module _ {W : Type 0} (blocks : List Block) (budget n p : ℕ) (g : Grid W) where
  abbrev lands : Frame → Grid W → Grid W
  lands f h = place_arrives blocks budget p f h

  -- in a frame that is in flight no longer
  pub placed_nowhere : frame_of n g.window.frames ≡ None
      → g ≡ with_frame n (place_arrives blocks budget p) g.window.frames g
  placed_nowhere e = sym (with_frame_is n lands g.window.frames g ∙ ap (by_frame lands g) e)

  in_frame : (f : Frame) → frame_of n g.window.frames ≡ Some f
      → lands f g ≡ with_frame n (place_arrives blocks budget p) g.window.frames g
  in_frame f e = sym (with_frame_is n lands g.window.frames g ∙ ap (by_frame lands g) e)

  -- of a read
  pub placed_read : (f : Frame) → frame_of n g.window.frames ≡ Some f → 256 ≤ p
      → delivers blocks budget n p g ≡ with_frame n (place_arrives blocks budget p) g.window.frames g
  placed_read f e far =
      ap (λ m. delivers blocks budget m p g) (sym (frame_number n g.window.frames f e))
      ∙ ap (λ b. cond b (inst_arrives blocks budget (slot_of f.code (p / 2)) p f g)
      (delivers blocks budget f.number p g))
      (sym (le-ltb p 256 far))
      ∙ in_frame f e

  slot_lands : (f : Frame) → p < 256 → inst_arrives blocks budget (slot_of f.code (p / 2)) p f g ≡ lands f g
  slot_lands f near =
      ap (λ b. cond b (inst_arrives blocks budget (slot_of f.code (p / 2)) p f g)
      (delivers blocks budget f.number p g))
      (sym (lt-ltb p 256 near))

  -- of an empty slot, and of an instruction's
  pub placed_empty : (f : Frame) → frame_of n g.window.frames ≡ Some f → p < 256 → slot_of f.code (p / 2) ≡ None
      → g ≡ with_frame n (place_arrives blocks budget p) g.window.frames g
  placed_empty f e near none =
      ap (λ o. inst_arrives blocks budget o p f g) (sym none) ∙ slot_lands f near ∙ in_frame f e

  -- a parcel that arrives at a slot arrives as the form of its instruction has it
  pub placed_inst : (f : Frame) (i : Inst) → frame_of n g.window.frames ≡ Some f → p < 256
      → slot_of f.code (p / 2) ≡ Some i
      → slot_arrives blocks budget (form_of i.op) i p f g
      ≡ with_frame n (place_arrives blocks budget p) g.window.frames g
  placed_inst f i e near some =
      ap (λ o. inst_arrives blocks budget o p f g) (sym some) ∙ slot_lands f near ∙ in_frame f e

-- What each primitive change of the grid keeps, the arrivals of part (6) keep.
use Rattle.std.proofs.Common.{◌≡◌, ℕ, ◌/◌, ◌<◌, ◌≤◌, nat_lt, List, [], ◌∷◌, Option, Some, None, refl}
use Rattle.std.proofs.Common.{arith}
use Rattle.trips_isa.specs.declared.block.Block.{Block}
use Rattle.trips_isa.specs.declared.block.Inst.{Inst}
use Rattle.trips_isa.specs.declared.form.Form.{Form}
use Rattle.trips_isa.specs.declared.form.Form.TheVariants as form
use Rattle.trips_isa.specs.Forms.{form_of}
use Rattle.block_cases.specs.Orders.{slot_of}
use Rattle.operand_net.specs.declared.parcel.Parcel.{Parcel}
use Rattle.operand_net.specs.inside.Places.{come, without}
use Rattle.commit_flush_spec.specs.Frames.{Frame, at, first_read_place}
use Rattle.grid_cycle_spec.specs.Grid.{Grid}
use Rattle.grid_cycle_spec.specs.Choosing.{each, with_frame}
use Rattle.grid_cycle_spec.specs.inside.Choosing.{places}
use Rattle.grid_cycle_spec.specs.inside.Arrivals.{asks, delivers, is_waiting, load_arrives}
use Rattle.grid_cycle_spec.specs.inside.Arrivals.{slot_arrives, inst_arrives, place_arrives, arrives_if}
use Rattle.grid_cycle_spec.specs.inside.Arrivals.{arrival, arrivals}
use Rattle.grid_cycle_spec.proofs.KeptChanges.{Kinds, Keeps}
use Rattle.grid_cycle_spec.proofs.KeptByTurns.{either, each_below, frame_keeps}

module _ {W : Type 0} {s : Kinds} (blocks : List Block) (budget : ℕ) (R : Grid W → Grid W → Type 0)
    (k : Keeps s blocks budget R) where
  loads_keep : (i : Inst) (p : ℕ) → p < places → (f : Frame) → s.of f.number → (g : Grid W)
      → R g (load_arrives blocks budget i p f g)
  loads_keep i p l f o g = either blocks budget R k g (asks f.number i.number g) (delivers blocks budget f.number p g)
      (is_waiting (at f.requests i.number) (p / 2))
      (k.asking f.number o i.number g) (k.delivering f.number o p l g)

  form_keeps : (kind : Form) (i : Inst) (p : ℕ) → p < places → (f : Frame) → s.of f.number → (g : Grid W)
      → R g (slot_arrives blocks budget kind i p f g)
  form_keeps form.Load i p l f o g = loads_keep i p l f o g
  form_keeps form.Store i p l f o g = k.asking f.number o i.number g
  form_keeps form.Branch i p l f o g = k.exiting f.number o g
  form_keeps form.General i p l f o g = k.delivering f.number o p l g
  form_keeps form.Immediate i p l f o g = k.delivering f.number o p l g
  form_keeps form.Constant i p l f o g = k.delivering f.number o p l g

  inst_keeps : (w : Option Inst) (p : ℕ) → p < places → (f : Frame) → s.of f.number → (g : Grid W)
      → R g (inst_arrives blocks budget w p f g)
  inst_keeps None p l f o g = k.same g
  inst_keeps (Some i) p l f o g = form_keeps (form_of i.op) i p l f o g

  -- what has arrived in a place of a frame keeps the relation
  pub place_keeps : (p : ℕ) → p < places → (f : Frame) → s.of f.number → (g : Grid W)
      → R g (place_arrives blocks budget p f g)
  place_keeps p l f o g = either blocks budget R k g (inst_arrives blocks budget (slot_of f.code (p / 2)) p f g)
      (delivers blocks budget f.number p g) (nat_lt p first_read_place)
      (inst_keeps (slot_of f.code (p / 2)) p l f o g) (k.delivering f.number o p l g)

  -- so does the frame of a number with it
  pub there_keeps : (n : ℕ) → s.of n → (p : ℕ) → p < places → (fs : List Frame) (g : Grid W)
      → R g (with_frame n (place_arrives blocks budget p) fs g)
  there_keeps n o p l fs g = frame_keeps blocks budget R k (place_arrives blocks budget p) n o (place_keeps p l) fs g

  comes_keeps : (n : ℕ) → s.of n → (p : ℕ) → p < places → (w : Option Parcel) (g : Grid W)
      → come n p (g.parcels n p) ≡ w → R g (arrives_if blocks budget n p w g)
  comes_keeps n o p l None g e = k.same g
  comes_keeps n o p l (Some c) g e =
      let m : Grid W = record g { parcels = without g.parcels (Some c) } in
      k.chain g m (arrives_if blocks budget n p (Some c) g) (k.taking n o p c g e)
      (there_keeps n o p l g.window.frames m)

  -- what may have come in one place of a frame keeps the relation
  pub arrival_keeps : (n : ℕ) → s.of n → (p : ℕ) → p < places → (g : Grid W)
      → R g (arrival blocks budget n p g)
  arrival_keeps n o p l g = comes_keeps n o p l (come n p (g.parcels n p)) g refl

  -- so does what has come in the first places of a frame
  pub places_keep : (n : ℕ) → s.of n → (p : ℕ) → p ≤ places → (g : Grid W)
      → R g (each (arrival blocks budget n) p g)
  places_keep n o p l g = each_below blocks budget R k (arrival blocks budget n) places (arrival_keeps n o) p l g

  module _ (all : (n : ℕ) → s.of n) where
    -- part (6), the arrivals of some frames, keeps the relation
    pub arrivals_keep : (ns : List ℕ) (g : Grid W) → R g (arrivals blocks budget ns g)
    arrivals_keep [] g = k.same g
    arrivals_keep (n ∷ ns) g =
        let m : Grid W = each (arrival blocks budget n) places g in
        k.chain g m (arrivals blocks budget ns m) (places_keep n (all n) places (omega arith) g)
        (arrivals_keep ns m)

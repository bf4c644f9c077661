-- Beside what is believed of Moves.antt: A block whose instructions stand in other slots, and whose targets
-- follow them.
use Rattle.std.specs.Prelude.{◌≡◌, ℕ, ◌≤◌, map, length}
use Rattle.std.specs.Prelude.{option_map}
use Rattle.trips_isa.specs.declared.block.Spot.{Spot}
use Rattle.trips_isa.specs.declared.block.Spot.TheVariants as spot
use Rattle.trips_isa.specs.declared.block.Inst.{Inst}
use Rattle.trips_isa.specs.declared.block.ReadSlot.{ReadSlot}
use Rattle.trips_isa.specs.declared.block.Block.{Block}
use Rattle.block_cases.specs.Orders.{slot_of}

-- what a target names once slot s stands at p s
abbrev pub renamed : (ℕ → ℕ) → Spot → Spot
renamed p (spot.Inst s) = spot.Inst (p s)
renamed p (spot.Left s) = spot.Left (p s)
renamed p (spot.Right s) = spot.Right (p s)
renamed p (spot.Pred s) = spot.Pred (p s)
renamed p (spot.Read r) = spot.Read r
renamed p (spot.Write w) = spot.Write w
renamed p (spot.Store n) = spot.Store n

-- a read with its targets renamed
abbrev pub renamed_read : (ℕ → ℕ) → ReadSlot → ReadSlot
renamed_read p r = record {
  register = r.register;
  first = renamed p r.first;
  second = option_map (renamed p) r.second;
}

-- an instruction with its targets renamed
abbrev pub renamed_inst : (ℕ → ℕ) → Inst → Inst
renamed_inst p i = record {
  op = i.op;
  sense = i.sense;
  imm = i.imm;
  number = i.number;
  first = option_map (renamed p) i.first;
  second = option_map (renamed p) i.second;
}

-- the parts of a block have their sizes, whatever stands in them
pub record HasSizes (b : Block) : Type 0 where
  pub reads : length b.reads.items ≤ 32
  pub writes : length b.writes.items ≤ 32
  -- a slot for each number, used or not
  pub insts : length b.insts.items ≡ 128

-- c is b with the instruction of each slot s at p s, every target renamed with it
pub record IsMoved (p : ℕ → ℕ) (b c : Block) : Type 0 where
  -- their targets name slots by their new numbers
  pub reads : c.reads.items ≡ map (renamed_read p) b.reads.items
  pub writes : c.writes.items ≡ b.writes.items
  pub mask : c.mask ≡ b.mask
  pub size : length c.insts.items ≡ 128
  -- the instruction of slot s, with its targets renamed too
  pub insts : (s : ℕ) → slot_of c (p s) ≡ option_map (renamed_inst p) (slot_of b s)

-- What a frame in flight tells to those who move the window: what it reads, loads and stores, where it leads, and
-- what it hands to its commit. Nothing is told where no frame is in flight.
use Rattle.std.specs.Prelude.{ℕ, ◌+◌, ◌-◌, Bool, true, false, cond, nat_le, List, Option}
use Rattle.std.specs.Prelude.{Some, None, is_none, slice_get}
use Rattle.trips_isa.specs.declared.block.Inst.{Inst}
use Rattle.trips_isa.specs.declared.block.ReadSlot.{ReadSlot}
use Rattle.trips_isa.specs.declared.block.Stored.{Stored}
use Rattle.trips_isa.specs.declared.block.Block.{Block}
use Rattle.trips_isa.specs.PlaceNumbers.{first_write}
use Rattle.trips_isa.specs.TrapCauses.{no_mark}
use Rattle.trips_isa.specs.Rule.{Answer}
use Rattle.trips_isa.specs.Stores.{stored_of}
use Rattle.trips_isa.specs.Outcomes.{Effects}
use Rattle.commit_flush_spec.specs.Frames.{Frame, Exit, Taken, at, target}
use Rattle.commit_flush_spec.specs.Older.{is_serial, successor_of}
use Rattle.commit_flush_spec.specs.Memory.{request, taken_of}
use Rattle.commit_flush_spec.specs.Ends.{exit_by, branch_of, outputs, cause_held}

-- the number of the block
abbrev pub block_in : Option Frame → Option ℕ
block_in None = None
block_in (Some f) = Some f.block

-- whether the block may make a system call
abbrev pub is_serial_in : Option Frame → Bool
is_serial_in None = false
is_serial_in (Some f) = is_serial f.code

-- registers ------------------------------------------------------------------------------------

-- the register of a declared read
abbrev pub register_of : Option ReadSlot → Option ℕ
register_of None = None
register_of (Some r) = Some r.register

-- the register of read r
abbrev pub read_register : ℕ → Option Frame → Option ℕ
read_register r None = None
read_register r (Some f) = register_of (slice_get f.code.reads.items r)

-- the token on its way in place p
abbrev pub token_in : ℕ → Option Frame → Answer
token_in p None = None
token_in p (Some f) = at f.places p

-- whether the place of the block is empty to which the token in place p goes
abbrev pub finds_room : ℕ → Option Frame → Bool
finds_room p None = true
finds_room p (Some f) = is_none (at f.spots (target f.code p))

-- the register of the write at place q of the block, if a write is there
abbrev pub write_at : List ℕ → ℕ → Option ℕ
write_at writes q = cond (nat_le first_write q) (slice_get writes (q - first_write)) None

-- the register of the write to which the token in place p goes, if it goes to one
abbrev pub register_to : ℕ → Option Frame → Option ℕ
register_to p None = None
register_to p (Some f) = write_at f.code.writes.items (target f.code p)

-- loads and stores -----------------------------------------------------------------------------

-- what the load of a slot takes
abbrev pub taken_by : Frame → Option (ℕ × Inst) → Option Taken
taken_by f None = None
taken_by f (Some q) = Some (taken_of q.1 (at f.spots q.0))

-- what the load that waits with number n takes
abbrev pub waiting_load : ℕ → Option Frame → Option Taken
waiting_load n None = None
waiting_load n (Some f) = taken_by f (request f n)

-- what the store of a slot is resolved to
abbrev pub stored_by : Frame → Option (ℕ × Inst) → Option Stored
stored_by f None = None
stored_by f (Some q) = stored_of q.1 (at f.spots q.0) (at f.spots (128 + q.0))

-- what the store that waits with number n will be resolved to
abbrev pub waiting_store : ℕ → Option Frame → Option Stored
waiting_store n None = None
waiting_store n (Some f) = stored_by f (request f n)

-- ends -----------------------------------------------------------------------------------------

-- the exit that has come
abbrev pub exit_come : Option Frame → Option Exit
exit_come None = None
exit_come (Some f) = f.exit

-- the block to which the waiting branch leads
abbrev pub leads_to : List Block → Option Frame → Option ℕ
leads_to blocks None = None
leads_to blocks (Some f) = successor_of (exit_by blocks f.block (branch_of f f.leaving))

-- whether the frame is sealed
abbrev pub is_sealed_in : Option Frame → Bool
is_sealed_in None = false
is_sealed_in (Some f) = f.sealed

-- the least mark of what a sealed frame hands to its commit, or none
abbrev pub cause_in : Option Frame → ℕ
cause_in None = no_mark
cause_in (Some f) = cond f.sealed (cause_held f) no_mark

-- what a sealed frame hands to its commit
abbrev pub outputs_in : Option Frame → Option Effects
outputs_in None = None
outputs_in (Some f) = cond f.sealed (Some (outputs f)) None

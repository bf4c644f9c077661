-- The lane of a grid, by what its oldest frame has been answered and would be.
use Rattle.std.specs.Prelude.{ℕ, Bool, true, false, List, [], ◌∷◌, Option, Some, None, slice_get}
use Rattle.trips_isa.specs.declared.block.Inst.{Inst}
use Rattle.trips_isa.specs.Forms.{size_of}
use Rattle.trips_isa.specs.Places.{nodes_of}
use Rattle.trips_isa.specs.Rule.{Answer}
use Rattle.trips_isa.specs.Stores.{bytes_seen}
use Rattle.trips_isa.specs.Tables.{deepest}
use Rattle.trips_isa.specs.inside.Tables.{pulled}
use Rattle.trips_isa.specs.Blocks.{Responses, computes, is_read, inst_at}
use Rattle.commit_flush_spec.specs.Frames.{Frame, at}
use Rattle.commit_flush_spec.specs.Older.{Older, committed}
use Rattle.commit_flush_spec.specs.Dataflow.{read_seen}
use Rattle.grid_cycle_spec.specs.Grid.{Grid}
use Rattle.grid_bound.specs.inside.Course.{Course}
use Rattle.grid_bound.specs.inside.Lane.{Lane}
use Rattle.grid_bound.specs.inside.Blocks.{vacant, course_of}
use Rattle.grid_bound.specs.inside.Seen.{lane_of}

-- a register that is not known yet is told as 0; no read of it has been answered
abbrev pub or_none : Option ℕ → ℕ
or_none None = 0
or_none (Some w) = w

-- what a load finds: the committed bytes under the stores of the frame that have come
abbrev pub finds : Older → Frame → Option Inst → ℕ → ℕ
finds o f None address = 0
finds o f (Some i) address = bytes_seen (at f.stores) o.memory i.number address (size_of i.op)

-- a read sees its register, and any other node what a load of its address finds
abbrev pub sees_at : Bool → Older → Frame → ℕ → ℕ → ℕ
sees_at true o f x address = or_none (read_seen o (slice_get f.code.reads.items x))
sees_at false o f x address = finds o f (inst_at f.code x) address

-- what a frame sees now at every read and every address
abbrev pub sees : Older → Frame → Responses
sees o f x address = sees_at (is_read f.code x) o f x address

-- what its block then gives
abbrev pub table_in : Older → Frame → ℕ → Answer
table_in o f = pulled (nodes_of f.code) (computes f.code (sees o f)) deepest

-- the course of the oldest frame of some; there is none without a frame
abbrev pub course_in : Older → List Frame → Course
course_in o [] = record { room = 0; task = λ x. vacant; outputs = [] }
course_in o (f ∷ fs) = course_of f.code (table_in o f)

-- by what its oldest frame sees over the committed state now
abbrev pub lane_in : {W : Type 0} → Grid W → Lane
lane_in g = lane_of (course_in (committed g.window.state) g.window.frames) g

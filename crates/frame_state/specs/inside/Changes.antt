-- What the events of one frame want of it, and what they do where the window's definitions say so only for a
-- frame at which they are done.
use Rattle.std.specs.Prelude.{◌≡◌, ℕ, ◌<◌, cond, length, Option, Some, None, slice_get}
use Rattle.trips_isa.specs.declared.block.Inst.{Inst}
use Rattle.commit_flush_spec.specs.Frames.{Frame, at}
use Rattle.commit_flush_spec.specs.Older.{Older}
use Rattle.commit_flush_spec.specs.Dataflow.{read_seen}
use Rattle.commit_flush_spec.specs.Memory.{request, taken_of, taken_word}
use Rattle.commit_flush_spec.specs.Ends.{complete, seal}

-- the frame's block declares read r
abbrev pub Declares : ℕ → Option Frame → Type 0
Declares r None = Unit {0}
Declares r (Some f) = r < length f.code.reads.items

-- a word is what read r of the frame is answered, where its register is known
abbrev pub IsSeen : Older → ℕ → Option ℕ → Option Frame → Type 0
IsSeen o r word None = Unit {0}
IsSeen o r word (Some f) = word ≡ read_seen o (slice_get f.code.reads.items r)

-- the number that the bytes make which a load takes, where it waits with number n
abbrev pub word_of : Older → ℕ → Frame → Option (ℕ × Inst) → ℕ
word_of o n f None = 0
word_of o n f (Some q) = taken_word o f n (taken_of q.1 (at f.spots q.0))

-- a number is that of the load that waits with number n
abbrev pub IsWord : Older → ℕ → ℕ → Option Frame → Type 0
IsWord o n bytes None = Unit {0}
IsWord o n bytes (Some f) = bytes ≡ word_of o n f (request f n)

-- a frame that has all its outputs is sealed
abbrev pub sealed_if : Older → Frame → Frame
sealed_if o f = cond (complete f) (seal o f) f

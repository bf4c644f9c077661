-- Why an event of the window does not happen: the causes of docs/WINDOW.md, in the order of its rows.
use Rattle.std.specs.Prelude.{Bool, cond, List, [], ◌∷◌}

-- why an event does not happen; each event has its row of causes
pub data Cause : Type 0 where
  -- the run has ended
  Over : Cause
  -- no frame of this number is in flight, or it is sealed, which a Flush does not mind; of a Fetch:
  -- no frame is empty
  NoFrame : Cause
  -- the image has no block of this number
  NoBlock : Cause
  -- the empty frame's generation is at its last value
  Worn : Cause
  -- the youngest block has a system call, which nothing may be fetched behind
  Serial : Cause
  -- the next block is known, and is another one
  Wrong : Cause
  -- the block declares no such read, or it is answered
  NoRead : Cause
  -- the word of the read's register is not known
  NotYet : Cause
  -- the slot is empty, or has fired
  NoInst : Cause
  -- an operand has not come, or no predicate that matches
  NotReady : Cause
  -- there is no token on its way in this place
  NoToken : Cause
  -- no load, or no store, waits with this number
  NoRequest : Cause
  -- no branch waits
  NoExit : Cause
  -- an output has not come
  Missing : Cause
  -- no frame is in flight, or the oldest is not sealed
  Unsealed : Cause
  -- as many blocks were committed as the budget allows
  Spent : Cause

-- what an event is answered
pub data Happened : Type 0 where
  Done : Happened
  NotNow : (cause : Cause) → Happened

-- the first cause that holds, and Done where none does
abbrev pub judged : List (Bool × Cause) → Happened
judged [] = Done
judged (p ∷ rest) = cond p.0 (NotNow p.1) (judged rest)

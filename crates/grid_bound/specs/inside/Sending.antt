-- Parts (2) and (3) of a cycle as the oldest frame sees it: which task a station takes, what enters the mesh, the
-- fetch of its block, and its reads.
use Rattle.std.specs.Prelude.{ℕ, zero, suc, Bool, false, cond, ◌==◌, ◌&&◌, not, Option, Some, None}
use Rattle.operand_net.specs.declared.parcel.Stand.{Stand}
use Rattle.operand_net.specs.declared.parcel.Stand.TheVariants.{Nowhere, Away}
use Rattle.grid_bound.specs.inside.Course.{Kind, Reading, Plain, Serving, Target, Task, Course}
use Rattle.grid_bound.specs.inside.Lane.{any, Phase, Absent, Idle, Asking, Sent, Front, Stage, Running, Fetching}
use Rattle.grid_bound.specs.inside.Lane.{unread}

-- choosing --------------------------------------------------------------------------------------

-- x is chosen: it may act, its station is not busy, and no lower task of the frame that may act is of its station
abbrev pub pick : (ℕ → Bool) → (ℕ → ℕ) → (ℕ → Bool) → ℕ → Bool
pick may station busy x = may x && (not (busy (station x)) && not (any x (λ y. may y && station y == station x)))

-- no station is busy
abbrev pub none_busy : ℕ → Bool
none_busy s = false

-- what f gives of the greatest number below n that passes, 0 where none does
abbrev pub found : ℕ → (ℕ → Bool) → (ℕ → ℕ) → ℕ
found zero p f = 0
found (suc n) p f = cond (p n) (f n) (found n p f)

-- the bank of a read, or the data tile of a request, 0 to 3
abbrev pub station_of : Front → ℕ → ℕ
station_of f x = (f.course.task x).station

-- the tile of an instruction, 0 to 15
abbrev pub tile_of : Front → ℕ → ℕ
tile_of f x = (f.course.task x).tile

-- sending ---------------------------------------------------------------------------------------

-- a parcel from a node to another
abbrev pub parcel : ℕ → ℕ → ℕ → Stand
parcel generation from to = Away (record { generation = generation; from = from; to = to }) from

-- a parcel from a node to a target, if there is one
abbrev pub launch : ℕ → ℕ → Option Target → Stand
launch generation from None = Nowhere
launch generation from (Some t) = parcel generation from t.there

-- both tokens of a task enter at a node
abbrev pub sent_from : ℕ → ℕ → Task → Phase
sent_from generation from t = Sent (launch generation from t.first) (launch generation from t.second)

-- what a unit gives: the tokens, or a request
abbrev pub result : ℕ → Kind → Task → Phase
result generation Reading t = sent_from generation t.here t
result generation Plain t = sent_from generation t.here t
result generation Serving t = Asking (parcel generation t.here t.served_at)

-- (2) -------------------------------------------------------------------------------------------

-- a frame that has just been filled
abbrev pub fresh : ℕ → Course → Bool → Front
fresh generation c careful = record {
  course = c;
  generation = generation;
  at = λ x. cond (c.task x).declared Idle Absent;
  come = λ s. false;
  careful = careful;
}

-- a fetch begins, goes on, or fills a frame
abbrev pub fetching : ℕ → Course → Stage → Stage
fetching generation c (Running f) = Running f
fetching generation c (Fetching None s) = Fetching (Some 7) s
fetching generation c (Fetching (Some zero) s) = Running (fresh generation c s)
fetching generation c (Fetching (Some (suc n)) s) = Fetching (Some n) s

-- (3) -------------------------------------------------------------------------------------------

-- each bank answers the frame's lowest read
abbrev pub reads_front : Front → Front
reads_front f = record f {
  at = λ x. cond (pick (unread f) (station_of f) none_busy x)
      (sent_from f.generation (f.course.task x).here (f.course.task x)) (f.at x);
}

-- part (3) of the lane's stage; a block that is being fetched has no reads yet
abbrev pub reading : Stage → Stage
reading (Running f) = Running (reads_front f)
reading (Fetching o s) = Fetching o s

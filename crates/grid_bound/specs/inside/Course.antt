-- A block as the cycle bound sees it: what each of its instructions and reads waits for, and whom it gives tokens.
use Rattle.std.specs.Prelude.{◌≡◌, ℕ, zero, suc, ◌+◌, ◌<◌, ◌≤◌, ◌⊎◌, Bool, true, false, cond, List, [], ◌∷◌}
use Rattle.std.specs.Prelude.{Option, Some, None}

-- sums over the numbers below n
abbrev pub sum : ℕ → (ℕ → ℕ) → ℕ
sum zero f = 0
sum (suc n) f = f n + sum n f

-- how a task is done: a read is answered at its bank; an operation is done by the unit of its tile, and so is a
-- branch, whose exit is its token; a load or a store then has a request at its data tile
pub data Kind : Type 0 where
  Reading : Kind
  Plain : Kind
  Serving : Kind

-- only a read is done without a unit
abbrev pub is_reading : Kind → Bool
is_reading Reading = true
is_reading Plain = false
is_reading Serving = false

-- where a token goes: a spot, and the node of the mesh at which it is used
pub record Target : Type 0 where
  -- the place of the block that it goes to: an operand, a predicate, a write, a store number or the
  -- exit
  pub spot : ℕ
  -- its node, 0 to 24
  pub there : ℕ

-- whether a target is this spot
abbrev pub Hits : Option Target → ℕ → Type 0
Hits None q = ⊥
Hits (Some t) q = t.spot ≡ q

-- a task: an instruction or a read of the block, where its reads and loads are answered in some way
pub record Task : Type 0 where
  -- which stations do it, one after another
  pub kind : Kind
  -- whether the block has it, and whether it is done: where its predicate, if it has one, lets it
  pub declared : Bool
  pub met : Bool
  -- the spots of its operands and its predicate, and of the lower stores that a load may wait for
  pub needs : List ℕ
  pub waits : List ℕ
  -- its tile, the node of what does it, and the cycles that this takes
  pub tile : ℕ
  pub here : ℕ
  pub latency : ℕ
  -- its bank or its data tile, and the node of the latter
  pub station : ℕ
  pub served_at : ℕ
  -- whether it is a store, whose spots have their token as soon as its request is answered
  pub stores : Bool
  -- the spots that its token goes to, with their nodes, where it names one or two
  pub first : Option Target
  pub second : Option Target

-- a block: room for so many tasks, and the spots of its outputs
pub record Course : Type 0 where
  -- a bound of the numbers of its tasks, of which some may be vacant
  pub room : ℕ
  -- each task by its number
  pub task : ℕ → Task
  -- the spots that are to have their token before the frame commits
  pub outputs : List ℕ

-- how many instructions and reads the block has
abbrev pub tasks : Course → ℕ
tasks c = sum c.room (λ x. cond (c.task x).declared 1 0)

-- good courses -----------------------------------------------------------------------------------

-- whether a spot is one of some
abbrev pub Member : ℕ → List ℕ → Type 0
Member q [] = ⊥
Member q (p ∷ ps) = (p ≡ q) ⊎ Member q ps

-- a task that is done, of rank below r, gives the spot its token
pub record Fed (c : Course) (rank : ℕ → ℕ) (r q : ℕ) : Type 0 where
  -- the number of the task that gives it
  pub giver : ℕ
  pub inside : giver < c.room
  pub met : (c.task giver).met ≡ true
  -- it stands before what takes the token
  pub below : rank giver < r
  pub gives : Hits (c.task giver).first q ⊎ Hits (c.task giver).second q

-- a target is on the mesh
abbrev pub OnMesh : Option Target → Type 0
OnMesh None = Unit {0}
OnMesh (Some t) = t.there < 25

-- a task takes 1 to 24 cycles of its unit, and its nodes are on the mesh
pub record GoodTask (t : Task) : Type 0 where
  -- only what the block has is ever done
  pub declared : t.met ≡ true → t.declared ≡ true
  -- an operation takes one cycle at least, and the longest, a division, 24
  pub takes : 1 ≤ t.latency
  pub at_most : t.latency ≤ 24
  -- there are 16 tiles, 25 nodes, and four banks or data tiles
  pub tile : t.tile < 16
  pub here : t.here < 25
  pub served_at : t.served_at < 25
  pub station : t.station < 4
  pub first : OnMesh t.first
  pub second : OnMesh t.second

-- each spot that a done task needs is fed from below, by rank, and so is each output
pub record GoodBy (c : Course) (rank : ℕ → ℕ) (top : ℕ) : Type 0 where
  -- each number has a good task, be it vacant
  pub good : (x : ℕ) → GoodTask (c.task x)
  -- whatever a done task takes at its operands and its predicate is given by a task below it
  pub fed : (x q : ℕ) → x < c.room → (c.task x).met ≡ true → Member q (c.task x).needs → Fed c rank (rank x) q
  -- so is each store that it may have to wait for
  pub held : (x q : ℕ) → x < c.room → (c.task x).met ≡ true → Member q (c.task x).waits → Fed c rank (rank x) q
  -- and each output, by a task below the top
  pub ends : (q : ℕ) → Member q c.outputs → Fed c rank top q

-- a course by which all outputs can come
pub record Good (c : Course) : Type 0 where
  -- an order of the tasks, along which tokens go upward
  pub rank : ℕ → ℕ
  -- a rank above that of each task that gives an output
  pub top : ℕ
  pub by : GoodBy c rank top

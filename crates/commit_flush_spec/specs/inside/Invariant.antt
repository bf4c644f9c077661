-- The invariant of the frames in flight: every token is the one that the rules give, whatever the
-- reads and loads that are still open will be answered.
use Rattle.std.specs.Prelude.{◌≡◌, ◌≢◌, ℕ, ◌+◌, ◌/◌, ◌-◌, Bool, true, false, cond, not, ◌&&◌, ◌||◌, nat_lt, List}
use Rattle.std.specs.Prelude.{[], ◌∷◌, length, Option, Some, None, slice_get, slice_index_or, is_some}
use Rattle.trips_isa.specs.declared.block.Inst.{Inst}
use Rattle.trips_isa.specs.declared.block.ReadSlot.{ReadSlot}
use Rattle.trips_isa.specs.declared.block.Block.{Block}
use Rattle.trips_isa.specs.declared.form.Form.TheVariants.{Branch}
use Rattle.trips_isa.specs.PlaceNumbers.{first_store, exit_place}
use Rattle.trips_isa.specs.Places.{nodes_of}
use Rattle.trips_isa.specs.Marks.{mark_at}
use Rattle.trips_isa.specs.inside.Marks.{IsMarking}
use Rattle.trips_isa.specs.Forms.{form_of, size_of, is_load}
use Rattle.trips_isa.specs.Rule.{Answer}
use Rattle.trips_isa.specs.Blocks.{Responses, at_place, store_of, leaving_of}
use Rattle.trips_isa.specs.inside.Blocks.{Solves}
use Rattle.trips_isa.specs.Fits.{FitsBlock}
use Rattle.block_cases.specs.Good.{GoodBlock}
use Rattle.block_cases.specs.Orders.{slot_of}
use Rattle.commit_flush_spec.specs.Marks.{mark_on}
use Rattle.commit_flush_spec.specs.Frames.{Frame, Bytes, at, token_places, first_read_place, slot_node}
use Rattle.commit_flush_spec.specs.Marks.{mark_on}
use Rattle.commit_flush_spec.specs.Frames.{source, target}
use Rattle.commit_flush_spec.specs.Sending.{token_with}
use Rattle.trips_isa.specs.Stores.{bytes_seen}
use Rattle.commit_flush_spec.specs.Older.{Older, after, follows}
use Rattle.commit_flush_spec.specs.Ends.{exit_by, complete}

-- t has not come, or it is u
abbrev pub Below : {A : Type 0} → Option A → Option A → Type 0
Below None u = Unit {0}
Below (Some t) u = Some t ≡ u

-- the invariant's parts `reads` and `loads`: these answers are those that the frame was given, which
-- are what it sees now
pub record Agrees (o : Older) (f : Frame) (answers : Responses) : Type 0 where
  -- an answered read has the word that is seen of its register; a read is asked at address 0
  pub reads : (r v : ℕ) (slot : ReadSlot) → slice_index_or f.reads r false ≡ true
      → slice_get f.code.reads.items r ≡ Some slot → o.look slot.register ≡ Some v → answers r 0 ≡ v
  -- a load that took bytes has those that are seen there now: of its frame's stores with lower
  -- numbers, of older frames and of memory
  pub loads : (s address size : ℕ) (i : Inst) → slot_of f.code s ≡ Some i
      → is_load (form_of i.op) ≡ true → at f.loads i.number ≡ Some (Bytes address size)
      → answers (slot_node f.code s) address
      ≡ bytes_seen (at f.stores) o.memory i.number address (size_of i.op)

-- the invariant's part `tokens`: what has come is what the table g gives
pub record Holds (blocks : List Block) (f : Frame) (g : ℕ → Answer) : Type 0 where
  -- a token at place q of the block is the one that g brings there
  pub spots : (q : ℕ) → Below (at f.spots q) (at_place f.code g q)
  -- a token on its way in place p is that of the node that has sent it
  pub places : (p : ℕ) → Below (at f.places p) (g (source f.code p))
  -- a resolved store has the address and the value that its tokens give
  pub stores : (n : ℕ) → Below (at f.stores n) (store_of f.code g n)
  -- the exit that has come is the one by which the block leaves
  pub exit : Below f.exit (exit_by blocks f.block (leaving_of f.code g))
  -- what has fired gives a token: its operands have come and its predicate matches
  pub fired : (s : ℕ) → slice_index_or f.fired s false ≡ true → g (slot_node f.code s) ≢ None

-- the invariant's part `marks`: beside what has come stands the mark that m gives
pub record MarksAgree (f : Frame) (g : ℕ → Answer) (m : ℕ → ℕ) : Type 0 where
  -- m is the mark of each node's token, and `mark_at` that of what stands at a place of the block
  pub spots : (q : ℕ) → at f.spots q ≢ None → mark_on f.marks.spots q ≡ mark_at (nodes_of f.code) g m q
  pub places : (p : ℕ) → at f.places p ≢ None → mark_on f.marks.places p ≡ m (source f.code p)
  pub stores : (n : ℕ) → at f.stores n ≢ None
      → mark_on f.marks.stores n ≡ mark_at (nodes_of f.code) g m (first_store + n)
  pub exit : f.exit ≢ None → f.marks.exit ≡ mark_at (nodes_of f.code) g m exit_place

-- a load has sent its token once it is answered, and another instruction once it has fired
abbrev pub inst_sent : Frame → Option Inst → Bool
inst_sent f None = false
inst_sent f (Some i) = not (is_load (form_of i.op)) || is_some (at f.loads i.number)

-- whether what slot s holds has sent its token
abbrev pub slot_sent : Frame → ℕ → Bool
slot_sent f s = slice_index_or f.fired s false && inst_sent f (slot_of f.code s)

-- whether the read or instruction whose token travels in place p has sent it
abbrev pub has_sent : Frame → ℕ → Bool
has_sent f p = cond (nat_lt p first_read_place) (slot_sent f (p / 2))
    (slice_index_or f.reads ((p - first_read_place) / 2) false)

-- a token came to q from a place that is empty now
abbrev pub CameFrom : Frame → ℕ → Type 0
CameFrom f q = (p : ℕ) × (target f.code p ≡ q) × (has_sent f p ≡ true) × (at f.places p ≡ None)

-- each token was sent once
pub record Once (f : Frame) : Type 0 where
  -- a token that has arrived came from a place that is empty now, and its sender sends no other
  pub spots : (q : ℕ) → at f.spots q ≢ None → CameFrom f q
  -- a token on its way is that of a read that is answered, or of an instruction that has fired and,
  -- where it is a load, is answered
  pub places : (p : ℕ) → at f.places p ≢ None → has_sent f p ≡ true

-- a request stands for an instruction that has fired and is not answered
pub record Asked (f : Frame) (n s : ℕ) : Type 0 where
  pub inst : Inst
  pub is_inst : slot_of f.code s ≡ Some inst
  pub number : inst.number ≡ n
  pub fired : slice_index_or f.fired s false ≡ true
  -- the tokens that it takes have come, and stay where they are until it is answered
  pub ready : token_with f (slot_node f.code s) 0 ≢ None
  -- a load that waits has taken no bytes yet
  pub open_load : is_load (form_of inst.op) ≡ true → at f.loads n ≡ None

-- the branch that waits has fired
pub record Leaves (f : Frame) (s : ℕ) : Type 0 where
  pub inst : Inst
  pub is_inst : slot_of f.code s ≡ Some inst
  pub is_branch : form_of inst.op ≡ Branch
  pub fired : slice_index_or f.fired s false ≡ true
  -- its operand and its predicate have come, and stay where they are until the exit is known
  pub ready : token_with f (slot_node f.code s) 0 ≢ None

-- a read that is answered is declared, and its register is known
pub record Known (o : Older) (f : Frame) (r : ℕ) : Type 0 where
  pub slot : ReadSlot
  pub word : ℕ
  pub is_slot : slice_get f.code.reads.items r ≡ Some slot
  pub is_word : o.look slot.register ≡ Some word

-- the sizes of a frame's lists
pub record IsSized (f : Frame) : Type 0 where
  -- an entry for each operand, predicate and write of a block, and for each token on its way
  pub spots : length f.spots ≡ first_store
  pub places : length f.places ≡ token_places
  -- an entry for each slot, for each read, and for each load/store number
  pub fired : length f.fired ≡ 128
  pub reads : length f.reads ≡ 32
  pub requests : length f.requests ≡ 32
  pub loads : length f.loads ≡ 32
  pub stores : length f.stores ≡ 32
  -- a mark for each token, each token on its way, and each store
  pub spot_marks : length f.marks.spots ≡ first_store
  pub place_marks : length f.marks.places ≡ token_places
  pub store_marks : length f.marks.stores ≡ 32

-- one frame is right, where `o` is what it sees
pub record FrameOk (blocks : List Block) (o : Older) (f : Frame) : Type 0 where
  -- its block is the one that the image has under its number
  pub code : slice_get blocks f.block ≡ Some f.code
  pub sized : IsSized f
  -- an answered read is declared, and its register is known still
  pub reads : (r : ℕ) → slice_index_or f.reads r false ≡ true → Known o f r
  -- a load that took bytes took as many as its operation does
  pub sizes : (s address size : ℕ) (i : Inst) → slot_of f.code s ≡ Some i
      → is_load (form_of i.op) ≡ true → at f.loads i.number ≡ Some (Bytes address size)
      → size ≡ size_of i.op
  -- a load is answered only once it has fired
  pub answered : (s : ℕ) (i : Inst) → slot_of f.code s ≡ Some i → is_load (form_of i.op) ≡ true
      → at f.loads i.number ≢ None → slice_index_or f.fired s false ≡ true
  -- what waits with a number is the load or the store of that number, and has fired
  pub asked : (n s : ℕ) → at f.requests n ≡ Some s → Asked f n s
  -- what waits to leave is a branch that has fired
  pub leaving : (s : ℕ) → f.leaving ≡ Some s → Leaves f s
  -- what has come is that of each table of tokens that solves the block, whatever is answered to
  -- what is still open
  pub holds : (answers : Responses) (g : ℕ → Answer) → Solves f.code answers g → Agrees o f answers
      → Holds blocks f g
  -- the marks are those of each marking of each such table
  pub marks : (answers : Responses) (g : ℕ → Answer) → Solves f.code answers g → Agrees o f answers
      → (m : ℕ → ℕ) → IsMarking f.code g m → MarksAgree f g m
  -- no token was sent twice
  pub once : Once f
  -- a sealed frame has all its outputs
  pub whole : f.sealed ≡ true → complete f ≡ true

-- all frames are right; the parts `successor` and `serial`
abbrev pub FramesOk : List Block → Older → List Frame → Type 0
FramesOk blocks o [] = Unit {0}
FramesOk blocks o (f ∷ fs) = (o.serial ≡ false) × (follows o.known f.block ≡ true)
    × FrameOk blocks o f × FramesOk blocks (after f o) fs

-- the window runs checked blocks
pub record IsRunnable (b : Block) : Type 0 where
  -- its numbers are in their ranges, and in no case does it stall, leave twice or give two tokens
  -- to one spot
  pub fits : FitsBlock b
  pub good : GoodBlock b

-- all blocks of an image are checked
abbrev pub AllGood : List Block → Type 0
AllGood blocks = (k : ℕ) (b : Block) → slice_get blocks k ≡ Some b → IsRunnable b

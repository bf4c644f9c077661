-- What the parts of a verifier are seen as, and what stands of them, for the code.
use Rattle.std.specs.Prelude.{◌≡◌, ℕ, ◌<◌, ◌≤◌, List, [], ◌∷◌, length, drop, Option, Some, None, slice_get}
use Rattle.std.specs.Prelude.{slice_index_or, take}
use Rattle.trips_isa.specs.declared.block.Inst.{Inst}
use Rattle.trips_isa.specs.declared.block.Block.{Block}
use Rattle.trips_isa.specs.declared.run.Stepped.TheVariants.{Went}
use Rattle.block_atomic.specs.Told.{TellsNext}
use Rattle.trace_verify.specs.declared.parts.Parts.{Parts}
use Rattle.trace_verify.specs.declared.parts.Stage.{Stage}
use Rattle.trace_verify.specs.declared.parts.Stage.TheVariants as stage
use Rattle.trace_verify.specs.Spelling.{Listed, listed_from, slot_bytes}
use Rattle.trace_verify.specs.FirstFault.{IsShort}
use Rattle.trace_verify.specs.Reading.{Place, Front, Number, Exit, Records, Whole, Stopped, Progress, Reading}

-- the slots of a block that may not be there
abbrev pub slots_in : Option Block → List (Option Inst)
slots_in None = []
slots_in (Some b) = b.insts.items

-- the slots of the next block
abbrev pub slots_of : Parts → List (Option Inst)
slots_of p = slots_in (slice_get p.image.blocks p.arch.state.next)

-- the records of the used slots from number j on
abbrev pub rest_from : Parts → ℕ → List Listed
rest_from p j = listed_from (λ i. slice_index_or p.tokens i None) (λ i. slice_index_or p.marks i 0) j
    (drop j (slots_of p))

-- before a record; there is one
abbrev pub records_place : ℕ → List Listed → Place
records_place exit [] = Exit
records_place exit (l ∷ ls) = Records exit l ls

abbrev pub place_of : Parts → Stage → Place
place_of p stage.Front = Front
place_of p stage.Number = Number
place_of p stage.Exit = Exit
place_of p (stage.Slot j) = records_place p.exit (rest_from p j)
place_of p stage.Whole = Whole
place_of p (stage.Stopped f) = Stopped f

abbrev pub progress_of : Parts → Progress
progress_of p = record { state = p.arch.state; answer = p.answer; count = p.count; at = p.at }

-- what is seen
abbrev pub reading_of : Parts → Reading
reading_of p = record { progress = progress_of p; place = place_of p p.stage; seen = p.seen.items }

-- the next block's entry is being read
pub record IsReady (p : Parts) : Type 0 where
  pub went : p.answer ≡ Went
  pub room : p.count < p.budget
  pub tells : TellsNext p.image.blocks p.arch.state p.tokens p.marks p.taken

-- a slot holds an instruction
pub data IsUsed : Option Inst → Type 0 where
  used : {i : Inst} → IsUsed (Some i)

-- what stands at a stage
abbrev pub StandsAt : Parts → Stage → Type 0
StandsAt p stage.Front = length p.seen.items < 12
StandsAt p stage.Number = length p.seen.items < 4
StandsAt p stage.Exit = (p.seen.items ≡ []) × IsReady p
StandsAt p (stage.Slot j) =
    IsShort p.seen.items × IsReady p × (j < 128) × IsUsed (slice_index_or (slots_of p) j None)
StandsAt p stage.Whole = Unit {0}
StandsAt p (stage.Stopped f) = Unit {0}

-- the run and the entries that have come
pub record IsRunning (p : Parts) : Type 0 where
  pub next : p.arch.state.next < length p.image.blocks
  pub room : p.arch.budget ≡ p.budget
  pub made : p.count ≡ length p.arch.state.trace
  pub few : p.count ≤ p.budget

-- what stands between two bytes
pub record IsHeld (p : Parts) : Type 0 where
  pub runs : IsRunning p
  pub stands : StandsAt p p.stage

-- none of the record of this slot, which is wanted, has come, and the bytes begin with it, which has this size
pub record IsAhead (p : Parts) (slot size : ℕ) (ahead : List ℕ) : Type 0 where
  pub at_slot : p.stage ≡ stage.Slot slot
  pub low : slot < 128
  pub none : p.seen.items ≡ []
  pub some : 0 < size
  pub few : size ≤ 9
  pub long : size ≤ length ahead
  pub bytes : take size ahead ≡ slot_bytes (slice_index_or (slots_of p) slot None) (slice_index_or p.marks slot 0)
      (slice_index_or p.tokens slot None)

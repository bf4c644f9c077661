-- Reads and requests that may be answered.
use Rattle.std.proofs.Common.{◌≡◌, ℕ, ◌==◌, ◌&&◌, ◌||◌, Bool, true, false, not, List, Option, Some, None, slice_get}
use Rattle.std.proofs.Common.{refl, sym, ap, ap₂, ◌∙◌}
use Rattle.std.proofs.Math.Path.{fun_ext}
use Rattle.trips_isa.specs.declared.block.Inst.{Inst}
use Rattle.trips_isa.specs.declared.block.ReadSlot.{ReadSlot}
use Rattle.trips_isa.specs.declared.block.Block.{Block}
use Rattle.commit_flush_spec.specs.Frames.{Frame, numbers}
use Rattle.commit_flush_spec.specs.inside.Laws.{AreNumbers}
use Rattle.commit_flush_spec.specs.Window.{Window, Read, can}
use Rattle.grid_cycle_spec.specs.Grid.{Grid, numbers_of}
use Rattle.grid_cycle_spec.specs.Acting.{is_done}
use Rattle.grid_cycle_spec.specs.Banks.{is_bank, bank_in}
use Rattle.grid_cycle_spec.specs.Choosing.{least, slots, reads, eldest}
use Rattle.grid_cycle_spec.specs.DataTiles.{tile_for, asks_store, answers_request}
use Rattle.grid_parts.specs.inside.EldestChoices.{first_found}
use Rattle.grid_parts.proofs.ChoiceFacts.{first_found_is}
use Rattle.grid_parts.specs.inside.Asked.{frame_of, found_in, holds_of, register_in, request_at, tile_in, store_in}
use Rattle.grid_parts.specs.inside.Choices.{fires, lowest_ready, in_bank, lowest_read}
use Rattle.grid_parts.specs.inside.Choices.{answers, lowest_request, load_goes, served}
use Rattle.commit_flush_spec.specs.Memory.{request}
use Rattle.grid_parts.proofs.FrameFacts.{frame_number}
use Rattle.grid_parts.proofs.NamedFacts.{all_named, first_named}

-- units ----------------------------------------------------------------------------------------

-- the first frame with a ready slot, and the lowest such slot, is the eldest of those that may fire
pub ready_is : (blocks : List Block) (budget : ℕ) (w : Window) (tile : ℕ) (fs : List Frame)
    → first_found (lowest_ready blocks budget w tile) (numbers_of fs) ≡ eldest (fires blocks budget w tile) slots fs
ready_is blocks budget w tile fs =
    first_found_is (lowest_ready blocks budget w tile) (fires blocks budget w tile) slots (λ f. refl) fs

-- banks ----------------------------------------------------------------------------------------

bank_is : (bank : ℕ) (o : Option ReadSlot) → in_bank bank (register_in o) ≡ is_bank bank (bank_in o)
bank_is bank None = refl
bank_is bank (Some r) = refl

-- the first frame with a read that a bank may answer, and the lowest such read, is the eldest of those
pub readable_is : (blocks : List Block) (budget : ℕ) (w : Window) (bank : ℕ) → AreNumbers (numbers_of w.frames)
    → first_found (lowest_read blocks budget w bank) (numbers_of w.frames)
    ≡ eldest (answers blocks budget w bank) reads w.frames
readable_is blocks budget w bank distinct =
    first_named w.frames (lowest_read blocks budget w bank) (answers blocks budget w bank) reads
    (λ f e. ap (λ t. least t reads 0) (fun_ext (λ r.
    ap (λ b. b && is_done (can blocks budget (Read f.number r) w))
    (ap (λ o. in_bank bank (found_in (λ h. register_in (slice_get h.code.reads.items r)) o)) e
    ∙ bank_is bank (slice_get f.code.reads.items r)))))
    w.frames (all_named w.frames distinct)

-- data tiles -----------------------------------------------------------------------------------

-- the first frame with a request that a data tile may answer, and the lowest such request, is the eldest of
-- those
pub answerable_is : {W : Type 0} (g : Grid W) (tile : ℕ) → AreNumbers (numbers_of g.window.frames)
    → first_found (lowest_request g tile) (numbers_of g.window.frames)
    ≡ eldest (answers_request g tile) numbers g.window.frames
answerable_is g tile distinct =
    first_named g.window.frames (lowest_request g tile) (answers_request g tile) numbers
    (λ f e. ap (found_in (λ h. least (answers_request g tile h) numbers 0)) e)
    g.window.frames (all_named g.window.frames distinct)

pub tile_is : (f : Frame) (q : Option (ℕ × Inst)) → tile_in (request_at f q) ≡ tile_for f q
tile_is f None = refl
tile_is f (Some q) = refl

pub store_is : (f : Frame) (q : Option (ℕ × Inst)) → store_in (request_at f q) ≡ asks_store q
store_is f None = refl
store_is f (Some q) = refl

abbrev block_in : Option ℕ → ℕ
block_in None = 0
block_in (Some k) = k

and_groups : (a b c : Bool) → ((a && b) && c) ≡ (a && (b && c))
and_groups true true true = refl
and_groups true true false = refl
and_groups true false true = refl
and_groups true false false = refl
and_groups false true true = refl
and_groups false true false = refl
and_groups false false true = refl
and_groups false false false = refl

-- nothing is answered in a frame that is not in flight
pub none_served : (test : Frame → Bool) (o : Option Frame) → None ≡ found_in (λ f. Some f.block) o
    → false ≡ holds_of test o
none_served test None e = refl
none_served test (Some f) e = absurd (cc)

-- what is answered in a frame of a number and a block is what is answered in the frame
pub served_is : {W : Type 0} (g : Grid W) (tile n k block : ℕ) (o : Option Frame)
    → frame_of n g.window.frames ≡ o → Some block ≡ found_in (λ f. Some f.block) o
    → served g tile n block k (found_in (λ f. request_at f (request f k)) o)
    ≡ holds_of (λ f. answers_request g tile f k) o
served_is g tile n k block None e b = absurd (cc)
served_is g tile n k block (Some f) e b =
    ap₂ (λ m c. served g tile m c k (request_at f (request f k))) (sym (frame_number n g.window.frames f e))
    (ap block_in b)
    ∙ ap₂ (λ t s. (g.asked f.number k && (t == tile)) && (s || load_goes g f.number f.block k))
    (tile_is f (request f k)) (store_is f (request f k))
    ∙ and_groups (g.asked f.number k) (tile_for f (request f k) == tile)
    (asks_store (request f k) || load_goes g f.number f.block k)

-- the lowest number for which a test holds of the frame, where there is one
pub lowest_in : {W : Type 0} (g : Grid W) (tile : ℕ) (o : Option Frame)
    → least (λ k. holds_of (λ f. answers_request g tile f k) o) numbers 0
    ≡ found_in (λ f. least (answers_request g tile f) numbers 0) o
lowest_in g tile None = Rattle.grid_parts.proofs.SlotFacts.least_none (λ k. false) numbers 0 (λ i l m. refl)
lowest_in g tile (Some f) = refl

-- a load goes at once unless it waits, and else where the older stores are resolved
pub goes_now : (r m s : Bool) → r ≡ m → r ≡ false → not r ≡ (not m || s)
goes_now r m s e f = ap not f ∙ first s ∙ ap (λ b. not b || s) (sym f ∙ e)
  where
    first : (s : Bool) → true ≡ (true || s)
    first true = refl
    first false = refl

-- a load that waits goes where the older stores are resolved
pub goes_later : (r m s t : Bool) → r ≡ m → r ≡ true → t ≡ s → t ≡ (not m || s)
goes_later r m s t e f d = d ∙ second s ∙ ap (λ b. not b || s) (sym f ∙ e)
  where
    second : (s : Bool) → s ≡ (false || s)
    second true = refl
    second false = refl

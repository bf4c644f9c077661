-- Beside what is believed of Seen.antt: how the window in code is seen.
use Rattle.std.specs.Prelude.{◌≡◌, ℕ, suc, List, [], ◌∷◌, All, map}
use Rattle.trips_isa.specs.declared.block.Block.{Block}
use Rattle.trips_isa.specs.declared.block.Image.{Image}
use Rattle.trips_isa.specs.declared.run.Stepped.{Stepped}
use Rattle.trips_isa.specs.Machine.{State, Machine}
use Rattle.block_check.specs.inside.Images.{IsCheckedImage}
use Rattle.commit_flush_spec.specs.Frames.{Frame}
use Rattle.commit_flush_spec.specs.InFlight.{Window}
use Rattle.commit_flush_spec.specs.inside.Numbered.{by_age}
use Rattle.commit_flush_spec.specs.inside.Laws.{WindowOk}
use Rattle.reg_bank.specs.inside.Ages.{Ages}
use Rattle.commit_flush.specs.inside.Kept.{AreKept}
use Rattle.frame_state.specs.declared.phase.Phase.{Phase}
use Rattle.frame_state.specs.declared.phase.Phase.TheVariants.{Free}
use Rattle.frame_state.specs.inside.Phases.{generation_of, number_of, slots_of, HasBlock}

-- the frames in flight, the oldest first
abbrev pub flying : List Block → List Phase → List ℕ → List Frame
flying blocks phases order = by_age (slots_of blocks phases) order

-- the window of these frames by number, with this order of age
abbrev pub window_of : List Block → State → Stepped → List Phase → List ℕ → Window
window_of blocks state over phases order = record {
  state = state;
  over = over;
  generations = map generation_of phases;
  frames = flying blocks phases order;
}

-- the numbers of the eight frames
abbrev pub eight_numbers : List ℕ
eight_numbers = 0 ∷ 1 ∷ 2 ∷ 3 ∷ 4 ∷ 5 ∷ 6 ∷ 7 ∷ []

-- the parts of a window in code fit together
pub record IsSound (image : Image) (budget : ℕ) (machine : Machine) (over : Stepped) (phases : List Phase)
    (order : List ℕ) (registers : Ages) : Type 0 where
  -- each frame stands at its number, and holds a block of the image where it is in flight
  pub numbers : map number_of phases ≡ eight_numbers
  pub blocks : All (HasBlock image.blocks) phases
  -- frames by number, order and banks fit together
  pub kept : AreKept (slots_of image.blocks phases) order registers
  -- the machine has room for the budget
  pub room : machine.budget ≡ budget
  -- the blocks are good
  pub checked : IsCheckedImage image
  -- the window's invariant
  pub window : WindowOk image.blocks budget (window_of image.blocks machine.state over phases order)

-- a frame of this number that was never filled
abbrev pub IsFresh : ℕ → Phase → Type 0
IsFresh n (Free h) = (h.number ≡ n) × (h.generation ≡ 0)
IsFresh n _ = ⊥

-- frames from this number on, of which none was ever filled
abbrev pub AreFresh : ℕ → List Phase → Type 0
AreFresh n [] = Unit {0}
AreFresh n (p ∷ ps) = IsFresh n p × AreFresh (suc n) ps

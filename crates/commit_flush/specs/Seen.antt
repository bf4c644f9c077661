-- How the window in code is seen: its frames are kept by number, with an order of age and banks of registers beside.
use Rattle.std.specs.Prelude.{ℕ}
use Rattle.trips_isa.specs.declared.block.Image.{Image}
use Rattle.commit_flush_spec.specs.InFlight.{Window}

-- a window with its image and its budget
pub record Seen : Type 0 where
  -- the image whose blocks are run, and how many may be committed
  pub image : Image
  pub budget : ℕ
  -- the window of the definitions
  pub window : Window

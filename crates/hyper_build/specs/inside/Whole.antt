-- That a whole built program ends as the flat one does.
use Rattle.std.specs.Prelude.{◌≡◌, ℕ, ◌+◌, ◌*◌, ◌<◌, ◌≤◌, Bool, List, map, length, Some}
use Rattle.std.specs.Prelude.{None, slice_get}
use Rattle.trips_isa.specs.Stores.{data_size}
use Rattle.ir_forms.specs.inside.Frames.{frames_at, frame_limit}
use Rattle.ir_forms.specs.inside.FlatCode.{Program}
use Rattle.ir_forms.specs.inside.FlatSteps.{Res, Gone, Broke, Again, Gave, Halts, Unfinished, Wild}
use Rattle.ir_forms.specs.inside.FlatRuns.{flat_run}
use Rattle.ir_forms.specs.inside.HyperRuns.{Layout, Standing, Running, Ended, hyper_run}
use Rattle.hyper_build.specs.inside.Tree.{Routine, function_of}
use Rattle.hyper_build.specs.inside.Routines.{entry_from, built}
use Rattle.hyper_build.specs.inside.World.{World, IsFaithful, AreBytes, checks_of}
use Rattle.hyper_build.specs.inside.Follow.{standing_of}
use Rattle.hyper_build.specs.inside.Fits.{FitsRoutine}

-- what is built of functions, of which `main` is called first, where the frames begin at `base`
abbrev pub world_of : Bool → Layout → ℕ → List Routine → ℕ → World
world_of check at base fs main = record {
  check = check;
  at = at;
  program = built base fs main;
  routines = fs;
  entries = entry_from 3 fs;
  base = base;
}

-- the flat program below
abbrev pub flat_of : List ℕ → List Routine → ℕ → Program
flat_of bytes fs main = record { functions = map function_of fs; bytes = bytes; main = main }

-- What is asked of a program and of where its blocks are laid out.
pub record FitsWorld (W : World) (bytes : List ℕ) (main : ℕ) : Type 0 where
  pub fits : (f : ℕ) (g : Routine) → slice_get W.routines f ≡ Some g → FitsRoutine W g
  pub room : frames_at bytes + frame_limit ≤ data_size
  pub faithful : (l : ℕ) → l < length W.program → IsFaithful W.at l
  -- each is below 256
  pub small : AreBytes bytes
  -- main takes no arguments
  pub routine : Routine
  pub found : slice_get W.routines main ≡ Some routine
  pub alone : routine.params ≡ 0

-- a run that stands so from some block on
pub record Stops (run : ℕ → Standing) (n : ℕ) (end : Standing) : Type 0 where
  pub blocks : ℕ
  pub stands : (k : ℕ) → run (blocks + k) ≡ end
  -- besides two a turn six are enough
  pub few : blocks ≤ 2 * n + 6

-- a run that has not ended, where r rounds were begun
pub record IsUnended (run : ℕ → Standing) (n : ℕ) (out : List ℕ) (r : ℕ) : Type 0 where
  pub blocks : ℕ
  pub stands : run blocks ≡ Running out
  pub few : blocks ≤ 2 * n + 6
  pub rounds : r ≤ blocks

-- the built program's run, for each ending of the flat program's with n turns
abbrev pub EndsSo : (ℕ → Standing) → ℕ → Res → Type 0
EndsSo run n (Gone s m) = (r : ℕ) × Stops run n (Ended s.output r)
EndsSo run n (Broke s m) = Unit {0}
EndsSo run n (Again s m) = Unit {0}
EndsSo run n (Gave None s m) = (r : ℕ) × Stops run n (Ended s.output r)
EndsSo run n (Gave (Some w) s m) = Stops run n (Ended s.output w)
EndsSo run n (Halts how) = Stops run n (standing_of how)
EndsSo run n (Unfinished out r) = IsUnended run n out r
EndsSo run n Wild = Unit {0}

-- Of all functions that fit and every layout with faithful addresses: the built program ends as the
-- flat one does, within two blocks a turn and six more.
abbrev pub WholeClaim : Type 0
WholeClaim =
    (check : Bool) (at : Layout) (bytes : List ℕ) (fs : List Routine) (main : ℕ) (input : List ℕ)
    (n : ℕ) → FitsWorld (world_of check at (frames_at bytes) fs main) bytes main → AreBytes input
    → EndsSo (hyper_run check at (built (frames_at bytes) fs main) bytes input) n
    (flat_run (checks_of (world_of check at (frames_at bytes) fs main)) (flat_of bytes fs main) input
    n)

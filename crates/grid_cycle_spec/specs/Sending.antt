-- How tokens and requests enter the mesh (docs/GRID.md, "Parcels").
use Rattle.std.specs.Prelude.{ℕ, suc, cond, slice_index, is_some}
use Rattle.operand_net.specs.Places.{injected}
use Rattle.operand_net.specs.declared.parcel.Parcel.{Parcel}
use Rattle.commit_flush_spec.specs.Frames.{Frame, at, target}
use Rattle.grid_cycle_spec.specs.Stations.{home}
use Rattle.grid_cycle_spec.specs.Grid.{Grid}

-- the parcel of a frame's place, from one node to another
abbrev pub parcel_of : {W : Type 0} → Grid W → ℕ → ℕ → ℕ → ℕ → Parcel
parcel_of g n place from to = record {
  frame = n;
  generation = slice_index g.window.generations n;
  from = from;
  to = to;
  place = place;
}

-- a parcel enters the mesh at a node
abbrev pub enters : {W : Type 0} → ℕ → ℕ → ℕ → ℕ → Grid W → Grid W
enters n place from to g = record g { parcels = injected g.parcels (parcel_of g n place from to) }

-- the token in a place of a frame enters at a node, where there is one there
abbrev pub enters_if : {W : Type 0} → ℕ → Frame → ℕ → Grid W → Grid W
enters_if from f place g =
    cond (is_some (at f.places place)) (enters f.number place from (home f.code (target f.code place)) g) g

-- both tokens of a node enter, the place of the first one being given
abbrev pub enter_both : {W : Type 0} → ℕ → Frame → ℕ → Grid W → Grid W
enter_both from f place g = enters_if from f (suc place) (enters_if from f place g)

-- Programs in code at the start of their runs.
use Rattle.std.specs.Prelude.{◌≡◌, ℕ, List, [], ◌∷◌}
use Rattle.trips_isa.specs.Machine.{start}
use Rattle.commit_flush_spec.specs.InFlight.{opened}
use Rattle.commit_flush_spec.specs.inside.Invariant.{AllGood}
use Rattle.commit_flush_spec.specs.inside.Laws.{WindowOk}
use Rattle.grid_parts.specs.inside.Changes.{begun_with}
use Rattle.smt_mode.specs.declared.four.Started.{Started}
use Rattle.smt_mode.specs.Machines.{Program, blocks_of, seen_of}

-- a program of an image and an input, with a predictor, has begun
pub record HasBegun (most : ℕ) (s : Started) (x : Program) : Type 0 where
  pub begun : seen_of x ≡ begun_with (start s.image.bytes s.input.items) s.predictor tt
  pub image : blocks_of x ≡ s.image.blocks
  pub budget : x.window.budget ≡ most
  -- the image is good, and a window opens right on the start
  pub good : AllGood s.image.blocks
  pub opens : WindowOk s.image.blocks most (opened (start s.image.bytes s.input.items))

-- so has each of some
abbrev pub HaveBegun : ℕ → List Started → List Program → Type 0
HaveBegun budget [] [] = Unit {0}
HaveBegun budget (s ∷ ss) (x ∷ xs) = HasBegun budget s x × HaveBegun budget ss xs
HaveBegun budget _ _ = ⊥

-- the first of some programs has begun, and the others are left
pub record IsNext (budget : ℕ) (before after : List Started) (x : Program) : Type 0 where
  pub first : Started
  pub taken : before ≡ first ∷ after
  pub begun : HasBegun budget first x

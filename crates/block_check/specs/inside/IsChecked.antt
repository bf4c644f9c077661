-- What is known of a block that the checker took.
use Rattle.std.specs.Prelude.{ℕ, List}
use Rattle.trips_isa.specs.declared.block.Block.{Block}
use Rattle.trips_isa.specs.Fits.{FitsBlock}
use Rattle.trips_isa.specs.Rule.{Answer}
use Rattle.trips_isa.specs.Blocks.{Responses, token_of}
use Rattle.trips_isa.specs.inside.Blocks.{Solves}
use Rattle.trips_isa.specs.Tables.{deepest}
use Rattle.block_cases.specs.Blocks.{nodes_of, wanted_of}
use Rattle.block_cases.specs.Good.{GoodBlock}
use Rattle.block_cases.specs.inside.Good.{OneToken}
use Rattle.block_cases.specs.inside.Shapes.{shape}
use Rattle.block_check.specs.Faults.{IsGood}

-- whatever reads and loads are answered: no spot gets two tokens, each declared write and each
-- number of the mask gets one, and one exit is taken
abbrev pub KeepsOneToken : Block → Type 0
KeepsOneToken b =
    (responses : Responses) (g : ℕ → Answer) → Solves b responses g →
    OneToken (nodes_of b) (wanted_of b) (λ x. shape (g x))

-- law one token in every entry state: the same of the tokens that the block gives from any registers
-- and any memory
abbrev pub KeepsOneTokenFromEntry : Block → Type 0
KeepsOneTokenFromEntry b =
    (regs mem : List ℕ) → OneToken (nodes_of b) (wanted_of b)
    (λ x. shape (token_of b regs mem deepest x))

-- a checked block fits, has no fault, is good by its cases, and keeps one token
pub record IsChecked (b : Block) : Type 0 where
  -- each field is in its width
  pub fits : FitsBlock b
  -- it has no fault
  pub good : IsGood b
  -- it is good, by its cases
  pub cases : GoodBlock b
  -- so it keeps one token, whatever its reads and loads are answered
  pub one_token : KeepsOneToken b
  -- also from every entry state
  pub from_entry : KeepsOneTokenFromEntry b

-- Where in a text of C the run of its image traps.
use Rattle.std.specs.Prelude.{◌≡◌, ℕ, List, [], ◌∷◌, ◌++◌, codes}
use Rattle.std.specs.Fmt.{decimal}
use Rattle.trips_isa.specs.declared.block.Image.{Image}
use Rattle.trips_isa.specs.declared.run.Ending.{Ending}
use Rattle.trips_isa.specs.declared.run.Ending.TheVariants as ending
use Rattle.trips_isa.specs.declared.run.Stepped.{Stepped}
use Rattle.trips_isa.specs.declared.run.Stepped.TheVariants as stepped
use Rattle.trips_isa.specs.Machine.{start, runs}
use Rattle.trips_isa.specs.TrapCauses.{number_of}
use Rattle.c_tree.specs.Limits.{most_tokens}
use Rattle.c_tree.specs.declared.tree.Program.{Program}
use Rattle.c_pre.specs.Texts.{Tokens, Lexed}
use Rattle.c_grammar.specs.Accepted.{IsUnit}
use Rattle.grid_place.specs.declared.placed.Placing.TheVariants.{Greedy}
use Rattle.c_compile.specs.Listed.{IsListed}
use Rattle.trips_listing_text.specs.Comments.{comments}
use Rattle.trips_listing_text.specs.Functions.{told_all}

-- how a run ends, by the answer to its last step and the block that is next: a block that traps is next still
abbrev pub ending_of : Stepped → ℕ → Ending
ending_of stepped.Went next = ending.Budget
ending_of stepped.Ended next = ending.Ended
ending_of stepped.StackFull next = ending.StackFull
ending_of (stepped.Trap cause) next = ending.Trap next cause

-- how the machine's run of an image on an input ends within so many blocks
abbrev pub end_of : Image → List ℕ → ℕ → Ending
end_of image input budget = let run = runs image.blocks (start image.bytes input) budget in
    ending_of run.1 run.0.next

-- the line of a trap, as `run` writes it
unfoldable pub trap_line : ℕ → ℕ → List ℕ
trap_line block cause =
    codes "trap block " ++ (decimal block ++ (codes " cause " ++ (decimal cause ++ 10 ∷ [])))

-- the line of a run that does not trap within so many blocks
unfoldable pub no_trap_line : ℕ → List ℕ
no_trap_line budget = codes "no trap within " ++ (decimal budget ++ codes " blocks\n")

-- what is told of a run that ends so, within so many blocks: where it traps, the block, and what there is to say of it
abbrev pub ending_told : ℕ → (ℕ → List ℕ) → Ending → List ℕ
ending_told budget block_told (ending.Trap block cause) = trap_line block (number_of cause) ++ block_told block
ending_told budget block_told other = no_trap_line budget

-- This is told of the run of an image that is made of a text of C, on an input: of a block at which it traps the lines
-- that stand before it in the listing of this image, which name its function.
pub record IsTrapTold (text input : List ℕ) (budget : ℕ) (told : List ℕ) : Type 0 where
  pub image : Image
  -- the first block of each function, in the order of the text
  pub entries : List ℕ
  pub listed : IsListed text Greedy 1 image entries
  -- the text's tokens, and the unit that they spell
  pub tokens : Tokens
  pub lexed : Lexed most_tokens text tokens
  pub tree : Program
  pub unit : IsUnit tokens tree.items
  pub is : told ≡ ending_told budget (comments entries (told_all text tokens tree.items)) (end_of image input budget)

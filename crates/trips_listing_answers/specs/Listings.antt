-- The listing of a text of C.
use Rattle.std.specs.Prelude.{◌≡◌, ℕ, List}
use Rattle.trips_isa.specs.declared.block.Image.{Image}
use Rattle.c_tree.specs.Limits.{most_tokens}
use Rattle.c_tree.specs.declared.tree.Program.{Program}
use Rattle.c_pre.specs.Texts.{Tokens, Lexed}
use Rattle.c_grammar.specs.Accepted.{IsUnit}
use Rattle.grid_place.specs.declared.placed.Placing.{Placing}
use Rattle.c_compile.specs.Images.{IsImageOf}
use Rattle.c_compile.specs.Listed.{IsListed}
use Rattle.target_asm_spec.specs.Text.{TargetText}
use Rattle.target_file.specs.Files.{TargetFile}
use Rattle.trips_listing_text.specs.Listed.{listing_text}

-- The report is the target text of an image, in which comments tell of each block which of the functions it comes from
-- that the tokens of the text of C spell, where these begin at such blocks.
pub record IsWritten (text : List ℕ) (i : Image) (entries report : List ℕ) : Type 0 where
  -- the text's tokens, and the unit that they spell
  pub tokens : Tokens
  pub lexed : Lexed most_tokens text tokens
  pub tree : Program
  pub unit : IsUnit tokens tree.items
  -- what `dis` writes of the image
  pub target : List ℕ
  pub spelled : TargetText i target
  pub is : report ≡ listing_text text tokens tree.items entries target

-- The report is the listing of a text of C: it is written of an image of the text, and of the first blocks of the
-- text's functions in this image.
pub record IsListing (text : List ℕ) (p : Placing) (turns : ℕ) (report : List ℕ) : Type 0 where
  pub image : Image
  -- one for each function, in the order of the text
  pub entries : List ℕ
  pub listed : IsListed text p turns image entries
  pub written : IsWritten text image entries report

-- A listing is a file of target text that tells an image of the text: `asm` makes this image of it.
abbrev pub ListingsTellImages : Type 0
ListingsTellImages =
    (text : List ℕ) (p : Placing) (turns : ℕ) (report : List ℕ) → IsListing text p turns report
    → (i : Image) × IsImageOf text p turns i × TargetFile i report

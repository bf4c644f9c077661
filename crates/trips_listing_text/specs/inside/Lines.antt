-- How the code finds the first line of a text.
use Rattle.std.specs.Prelude.{◌≡◌, ◌<◌, ℕ, List, [], ◌∷◌, Bool, false, if◌then◌else◌, length}
use Rattle.target_file.specs.Bare.{lines_of}

-- the first line of a text, whether a line feed ends it, and what comes after that
pub record IsLine (text line : List ℕ) (ended : Bool) (rest : List ℕ) : Type 0 where
  -- the lines of the text are this one, and those of the rest where a line feed ends it
  pub lines : lines_of text ≡ line ∷ (if ended then lines_of rest else [])
  -- without a line feed nothing comes after it
  pub last : ended ≡ false → rest ≡ []
  -- some of the text is taken, where there is some
  pub less : 0 < length text → length rest < length text

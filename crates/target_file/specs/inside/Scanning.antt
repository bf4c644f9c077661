-- How the code finds the first line of a text, and what it tells.
use Rattle.std.specs.Prelude.{◌≡◌, ◌<◌, ℕ, suc, ◌==◌, List, [], ◌∷◌, Bool, false, if◌then◌else◌}
use Rattle.std.specs.Prelude.{length}
use Rattle.target_file.specs.Bare.{is_blank, told, lines_of}

-- how many characters stand before the first line feed
unfoldable pub line_size : List ℕ → ℕ
line_size [] = 0
line_size (c ∷ cs) = if c == 10 then 0 else suc (line_size cs)

-- How long is what a line tells, whose rest begins at a place, where what comes before it tells so much: up to the
-- last character before a `#` that is no blank.
unfoldable pub told_from : ℕ → ℕ → List ℕ → ℕ
told_from size i [] = size
told_from size i (c ∷ cs) =
    if c == 35 then size else told_from (if is_blank c then size else suc i) (suc i) cs

-- what the first line of a text tells, whether a line feed ends it, and what comes after that
pub record IsFirstLine (text tells : List ℕ) (ended : Bool) (rest : List ℕ) : Type 0 where
  pub line : List ℕ
  pub is_told : tells ≡ told line
  -- the lines of the text are this one, and those of the rest where a line feed ends it
  pub lines : lines_of text ≡ line ∷ (if ended then lines_of rest else [])
  -- without a line feed nothing comes after it
  pub last : ended ≡ false → rest ≡ []
  -- some of the text is taken, where there is some
  pub less : 0 < length text → length rest < length text

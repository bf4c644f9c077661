-- A line that begins with `#` and is no include.
use Rattle.std.specs.Prelude.{◌≡◌, Bool, true, ◌∷◌, take, None}
use Rattle.c_lex.specs.Ascii as ascii
use Rattle.c_lex.specs.Bytes.{Bytes, by_class, not_feed}
use Rattle.c_lex.specs.inside.Runs.{run_len}
use Rattle.c_lex.specs.inside.Scans.{include_at}

-- the text begins with `#` and such a line
pub record IsOtherLine (starts : Bool) (text line : Bytes) : Type 0 where
  -- what follows the `#`
  pub behind : Bytes
  pub starts_is : starts ≡ true
  pub text_is : text ≡ ascii.hash ∷ behind
  -- up to its first line feed
  pub line_is : line ≡ take (run_len (by_class not_feed) 0 behind) behind
  pub other : include_at line ≡ None

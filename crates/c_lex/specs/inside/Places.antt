-- The lexer as a place.
use Rattle.std.specs.Prelude.{◌≡◌, ◌≤◌, ◌<◌, ℕ, ◌+◌, true, false, [], length, min, vec_capacity}
use Rattle.c_lex.specs.declared.lexer.Lexer.{Lexer}
use Rattle.c_lex.specs.inside.Turns.{Place}

-- what of it a turn speaks of
abbrev pub place : Lexer → Place
place l = record {
  offset = l.offset;
  line = record { starts = l.starts; directs = l.directs };
  rest = l.rest.now;
  tokens = l.tokens.items;
}

-- the start of a text of which each offset fits a `u32`
pub record IsStart (l : Lexer) : Type 0 where
  pub offset_is : l.offset ≡ 0
  -- nothing stands on the line yet
  pub starts_is : l.starts ≡ true
  pub directs_is : l.directs ≡ false
  pub none : l.tokens.items ≡ []
  -- so many bytes have a number in 32 bits
  pub short : length l.rest.now < 4294967295

-- there is room for a token for each byte that is left, up to so many tokens
abbrev pub HasRoom : ℕ → Lexer → Type 0
HasRoom most l = min (length l.tokens.items + length l.rest.now) most ≤ vec_capacity l.tokens

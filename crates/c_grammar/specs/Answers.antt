-- What is answered of a list of tokens: its tree, or a fault and its offset.
use Rattle.std.specs.Prelude.{ℕ, [], ◌∷◌}
use Rattle.c_tree.specs.declared.token.Lexeme.{Lexeme}
use Rattle.c_grammar.specs.Tokens.{Tokens}
use Rattle.c_grammar.specs.Places.{SyntaxAt, EndsEarly, DeepAt}
use Rattle.c_grammar.specs.Accepted.{UnitIs, limit}

-- the offset of the last token, or 0
abbrev pub last_offset : Tokens → ℕ
last_offset [] = 0
last_offset (t ∷ []) = t.offset
last_offset (t ∷ u ∷ ts) = last_offset (u ∷ ts)

-- The tokens are no unit, whatever the depth; the offset is that of the first token with which no
-- unit goes on, or the last one's where the tokens only end too early.
pub data HasSyntaxFault (tokens : Tokens) : ℕ → Type 0 where
  wrong_token : {front back : Tokens} {t : Lexeme} → SyntaxAt UnitIs limit tokens front t back
      → HasSyntaxFault tokens t.offset
  too_short : EndsEarly UnitIs limit tokens → HasSyntaxFault tokens (last_offset tokens)

-- the offset is that of the first token that opens a construct that is too deep
pub data IsTooDeep (tokens : Tokens) : ℕ → Type 0 where
  opener : {front back : Tokens} {t : Lexeme} → DeepAt UnitIs limit tokens front t back
      → IsTooDeep tokens t.offset

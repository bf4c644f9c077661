-- The punctuators (C17 6.4.6) that the profile has, and the operators that they are (C17 6.5).
use Rattle.std.specs.Prelude.{ℕ, List, [], ◌∷◌, ◌++◌, Option, Some, None, codes}
use Rattle.c_tree.specs.declared.token.Mark.{Mark}
use Rattle.c_tree.specs.declared.token.Mark.TheVariants as mark
use Rattle.c_tree.specs.declared.tree.BinaryOp.{BinaryOp}
use Rattle.c_tree.specs.declared.tree.BinaryOp.TheVariants as binary

-- OPERATORS

-- what the language says of an operator between two operands
pub record Operator : Type 0 where
  -- its bytes
  pub text : List ℕ
  pub token : Mark
  -- how many levels above a cast its right side is
  pub level : ℕ
  -- its compound assignment (6.5.16.2), whose bytes are its own and `=`
  pub compound : Option Mark

-- a row of the table
abbrev pub row : List ℕ → Mark → ℕ → Option Mark → Operator
row w m l c = record { text = w; token = m; level = l; compound = c }

-- The table, from the tightest level on: 6.5.5 multiplicative, 6.5.6 additive, 6.5.7 shifts, 6.5.8
-- relational, 6.5.9 equality, 6.5.10 `&`, 6.5.11 `^`, 6.5.12 `|`, 6.5.13 `&&`, 6.5.14 `||`.
abbrev pub operator : BinaryOp → Operator
operator binary.Multiply = row (codes "*") mark.Star 0 (Some mark.StarAssign)
operator binary.Divide = row (codes "/") mark.Slash 0 (Some mark.SlashAssign)
operator binary.Remainder = row (codes "%") mark.Percent 0 (Some mark.PercentAssign)
operator binary.Add = row (codes "+") mark.Plus 1 (Some mark.PlusAssign)
operator binary.Subtract = row (codes "-") mark.Minus 1 (Some mark.MinusAssign)
operator binary.ShiftLeft = row (codes "<<") mark.ShiftLeft 2 (Some mark.ShiftLeftAssign)
operator binary.ShiftRight = row (codes ">>") mark.ShiftRight 2 (Some mark.ShiftRightAssign)
operator binary.Less = row (codes "<") mark.Less 3 None
operator binary.Greater = row (codes ">") mark.Greater 3 None
operator binary.LessEqual = row (codes "<=") mark.LessEqual 3 None
operator binary.GreaterEqual = row (codes ">=") mark.GreaterEqual 3 None
operator binary.Equal = row (codes "==") mark.Equal 4 None
operator binary.NotEqual = row (codes "!=") mark.NotEqual 4 None
operator binary.BitAnd = row (codes "&") mark.And 5 (Some mark.AndAssign)
operator binary.BitXor = row (codes "^") mark.Xor 6 (Some mark.XorAssign)
operator binary.BitOr = row (codes "|") mark.Or 7 (Some mark.OrAssign)
operator binary.LogicalAnd = row (codes "&&") mark.AndAnd 8 None
operator binary.LogicalOr = row (codes "||") mark.OrOr 9 None

-- all of them, in this order
abbrev pub operators : List BinaryOp
operators =
    binary.Multiply ∷ binary.Divide ∷ binary.Remainder ∷ binary.Add ∷ binary.Subtract
    ∷ binary.ShiftLeft ∷ binary.ShiftRight ∷ binary.Less ∷ binary.Greater ∷ binary.LessEqual
    ∷ binary.GreaterEqual ∷ binary.Equal ∷ binary.NotEqual ∷ binary.BitAnd ∷ binary.BitXor
    ∷ binary.BitOr ∷ binary.LogicalAnd ∷ binary.LogicalOr ∷ []

-- is there a mark?
abbrev pub Holds : Option Mark → Type 0
Holds None = ⊥
Holds (Some m) = Unit {0}

-- that mark
abbrev pub held : (x : Option Mark) → Holds x → Mark
held None h = absurd h
held (Some m) h = m

-- has the operator a compound assignment?
abbrev pub IsCompound : BinaryOp → Type 0
IsCompound o = Holds (operator o).compound

-- its mark
abbrev pub compound_mark : (o : BinaryOp) → IsCompound o → Mark
compound_mark o c = held (operator o).compound c

-- PUNCTUATORS

-- a mark with its bytes
abbrev pub Written : Type 0
Written = List ℕ × Mark

-- the bytes of a compound assignment, before others
abbrev pub and_compound : Operator → Option Mark → List Written → List Written
and_compound r None ms = ms
and_compound r (Some m) ms = (r.text ++ codes "=", m) ∷ ms

-- operators with their bytes, before others
abbrev pub and_operators : List BinaryOp → List Written → List Written
and_operators [] ms = ms
and_operators (o ∷ os) ms = ((operator o).text, (operator o).token) ∷ and_operators os ms

-- compound assignments with their bytes
abbrev pub compounds : List BinaryOp → List Written
compounds [] = []
compounds (o ∷ os) = and_compound (operator o) (operator o).compound (compounds os)

-- all punctuators: those that are no operator between two operands, the operators, and the compound
-- assignments
unfoldable pub marks : List Written
marks =
    (codes "(", mark.LeftParen) ∷ (codes ")", mark.RightParen)
    ∷ (codes "{", mark.LeftBrace) ∷ (codes "}", mark.RightBrace)
    ∷ (codes "[", mark.LeftBracket) ∷ (codes "]", mark.RightBracket)
    ∷ (codes ";", mark.Semicolon) ∷ (codes ",", mark.Comma)
    ∷ (codes "?", mark.Question) ∷ (codes ":", mark.Colon)
    ∷ (codes "~", mark.Tilde) ∷ (codes "!", mark.Not)
    ∷ (codes "=", mark.Assign) ∷ (codes "++", mark.PlusPlus) ∷ (codes "--", mark.MinusMinus)
    ∷ and_operators operators (compounds operators)

-- the place of a mark among them, by which marks are told apart
abbrev pub mark_number : Mark → ℕ
mark_number mark.LeftParen = 0
mark_number mark.RightParen = 1
mark_number mark.LeftBrace = 2
mark_number mark.RightBrace = 3
mark_number mark.LeftBracket = 4
mark_number mark.RightBracket = 5
mark_number mark.Semicolon = 6
mark_number mark.Comma = 7
mark_number mark.Question = 8
mark_number mark.Colon = 9
mark_number mark.Tilde = 10
mark_number mark.Not = 11
mark_number mark.Plus = 12
mark_number mark.Minus = 13
mark_number mark.Star = 14
mark_number mark.Slash = 15
mark_number mark.Percent = 16
mark_number mark.ShiftLeft = 17
mark_number mark.ShiftRight = 18
mark_number mark.Less = 19
mark_number mark.Greater = 20
mark_number mark.LessEqual = 21
mark_number mark.GreaterEqual = 22
mark_number mark.Equal = 23
mark_number mark.NotEqual = 24
mark_number mark.And = 25
mark_number mark.Xor = 26
mark_number mark.Or = 27
mark_number mark.AndAnd = 28
mark_number mark.OrOr = 29
mark_number mark.Assign = 30
mark_number mark.PlusAssign = 31
mark_number mark.MinusAssign = 32
mark_number mark.StarAssign = 33
mark_number mark.SlashAssign = 34
mark_number mark.PercentAssign = 35
mark_number mark.ShiftLeftAssign = 36
mark_number mark.ShiftRightAssign = 37
mark_number mark.AndAssign = 38
mark_number mark.XorAssign = 39
mark_number mark.OrAssign = 40
mark_number mark.PlusPlus = 41
mark_number mark.MinusMinus = 42

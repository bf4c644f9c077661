-- The operator of an expression that binds lowest (C17 6.5).
use Rattle.std.specs.Prelude.{ℕ, ◌+◌, Bool, not, ◌&&◌, nat_eq, nat_lt, if◌then◌else◌, [], ◌∷◌, Option, Some, None}
use Rattle.c_tree.specs.declared.Form.{Form}
use Rattle.c_tree.specs.declared.Form.TheVariants as form
use Rattle.c_tree.specs.declared.Mark.{Mark}
use Rattle.c_tree.specs.declared.Mark.TheVariants as mark
use Rattle.c_lex.specs.Lexes.{Tokens}
use Rattle.c_sizes.specs.declared.behind.Behind.{Behind}
use Rattle.c_sizes.specs.Behinds.{start, past, is_operand}
use Rattle.c_sizes.specs.Counts.{depth_past}

-- How strongly one binds: from 2 for a comma to 14 for `*`; the `:` between two arms binds lowest, and any other
-- punctuator has 0.
abbrev pub rank : Mark → ℕ
rank mark.Colon = 1
rank mark.Comma = 2
rank mark.Assign = 3
rank mark.PlusAssign = 3
rank mark.MinusAssign = 3
rank mark.StarAssign = 3
rank mark.SlashAssign = 3
rank mark.PercentAssign = 3
rank mark.ShiftLeftAssign = 3
rank mark.ShiftRightAssign = 3
rank mark.AndAssign = 3
rank mark.XorAssign = 3
rank mark.OrAssign = 3
rank mark.Question = 4
rank mark.OrOr = 5
rank mark.AndAnd = 6
rank mark.Or = 7
rank mark.Xor = 8
rank mark.And = 9
rank mark.Equal = 10
rank mark.NotEqual = 10
rank mark.Less = 11
rank mark.Greater = 11
rank mark.LessEqual = 11
rank mark.GreaterEqual = 11
rank mark.ShiftLeft = 12
rank mark.ShiftRight = 12
rank mark.Plus = 13
rank mark.Minus = 13
rank mark.Star = 14
rank mark.Slash = 14
rank mark.Percent = 14
rank _ = 0

-- an operator, and how many tokens stand before it
abbrev pub Found : Type 0
Found = Option (Mark × ℕ)

-- does it bind lower than this one, or is there none?
abbrev pub is_lower : Mark → Found → Bool
is_lower m None = not (nat_eq (rank m) 0)
is_lower m (Some (l, n)) = not (nat_eq (rank m) 0) && nat_lt (rank m) (rank l)

-- The lowest behind a token that has so many before it, in so many brackets and arms, and that stands so: of those that
-- bind alike the first.
abbrev pub lower : ℕ → ℕ → Behind → Form → Found → Found
lower n d b (form.Mark m) l = if nat_eq d 0 && (is_operand b && is_lower m l) then Some (m, n) else l
lower n d b _ l = l

-- That of tokens that have so many before them and so many brackets and arms open, and that stand so, or the one that
-- was lowest before them. What stands between `?` and its `:` is in no part of another operand.
abbrev pub lowest_from : ℕ → ℕ → Behind → Found → Tokens → Found
lowest_from n d b l [] = l
lowest_from n d b l (t ∷ ts) = lowest_from (n + 1) (depth_past d t.form) (past b t.form) (lower n d b t.form l) ts

abbrev pub lowest : Tokens → Found
lowest ts = lowest_from 0 0 start None ts

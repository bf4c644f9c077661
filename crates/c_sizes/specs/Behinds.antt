-- What a token of an expression stands behind, which tells an operator of two operands from one of one (C17 6.5).
use Rattle.std.specs.Prelude.{ℕ, suc, Bool, true, false, not, ◌&&◌, nat_eq, if◌then◌else◌, [], ◌∷◌}
use Rattle.c_tree.specs.declared.Form.{Form}
use Rattle.c_tree.specs.declared.Form.TheVariants as form
use Rattle.c_tree.specs.declared.Mark.{Mark}
use Rattle.c_tree.specs.declared.Mark.TheVariants as mark
use Rattle.c_lex.specs.Lexes.{Tokens}
use Rattle.c_words.specs.Keys.{is_type_word}
use Rattle.c_sizes.specs.declared.behind.Behind.{Behind}
use Rattle.c_sizes.specs.declared.behind.Behind.TheVariants as behind
use Rattle.c_sizes.specs.Counts.{depth_past}

-- the first token stands behind nothing
abbrev pub start : Behind
start = behind.Other

-- is it an operand?
abbrev pub is_operand : Behind → Bool
is_operand behind.Operand = true
is_operand _ = false

-- behind a `)`: one that stands behind the words of a type closes a cast
abbrev pub closed : Behind → Behind
closed behind.Word = behind.Other
closed _ = behind.Operand

-- behind a punctuator, which stands so: `++` and `--` are behind their operand or before it
abbrev pub past_mark : Behind → Mark → Behind
past_mark b mark.RightParen = closed b
past_mark b mark.RightBracket = behind.Operand
past_mark b mark.PlusPlus = b
past_mark b mark.MinusMinus = b
past_mark b _ = behind.Other

-- behind a token of no such kind
abbrev pub past_other : Form → Behind
past_other f = if is_type_word f then behind.Word else behind.Other

-- behind a token
abbrev pub past : Behind → Form → Behind
past b (form.Name w) = behind.Operand
past b (form.Number n j) = behind.Operand
past b (form.Mark m) = past_mark b m
past b f = past_other f

-- does the token add or take one?
abbrev pub is_step : Form → Bool
is_step (form.Mark mark.PlusPlus) = true
is_step (form.Mark mark.MinusMinus) = true
is_step _ = false

-- are these that token alone?
abbrev pub is_one_step : Tokens → Bool
is_one_step (t ∷ []) = is_step t.form
is_one_step _ = false

-- OPERANDS

-- does an operand go on with this token, as an element, a call or a step?
abbrev pub goes_on : Form → Bool
goes_on (form.Mark mark.LeftBracket) = true
goes_on (form.Mark mark.LeftParen) = true
goes_on f = is_step f

-- Does the operand of a `sizeof` end before a token in so many brackets that stands so? It is a unary expression:
-- signs, casts and the like, one operand, and what that goes on with (6.5.3).
abbrev pub ends : ℕ → Behind → Form → Bool
ends d b f = nat_eq d 0 && (is_operand b && not (goes_on f))

-- how many tokens it has, where these stand in so many brackets and so
abbrev pub reach_from : ℕ → Behind → Tokens → ℕ
reach_from d b [] = 0
reach_from d b (t ∷ ts) =
    if ends d b t.form then 0 else suc (reach_from (depth_past d t.form) (past b t.form) ts)

-- and where it begins with them
abbrev pub reach : Tokens → ℕ
reach ts = reach_from 0 start ts

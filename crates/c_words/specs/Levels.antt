-- What is known directly within the brackets that are open, and of what stands before a token.
use Rattle.std.specs.Prelude.{Bool, true, false, List, [], ◌∷◌}
use Rattle.c_tree.specs.declared.Key.{Key}
use Rattle.c_tree.specs.declared.Key.TheVariants as key
use Rattle.c_tree.specs.declared.Mark.{Mark}
use Rattle.c_tree.specs.declared.Mark.TheVariants as mark
use Rattle.c_words.specs.declared.level.Before.{Before}
use Rattle.c_words.specs.declared.level.Before.TheVariants as before
use Rattle.c_words.specs.declared.level.Declares.{Declares}
use Rattle.c_words.specs.declared.level.Declares.TheVariants as declares
use Rattle.c_words.specs.declared.level.Ends.{Ends}
use Rattle.c_words.specs.declared.level.Ends.TheVariants as ends
use Rattle.c_words.specs.declared.level.Level.{Level}

-- OPERANDS

-- what stands before is an object that is const, an element of one, or a group of that
abbrev pub is_fixed_operand : Before → Bool
is_fixed_operand before.Fixed = true
is_fixed_operand _ = false

-- an operand, of such an object or not
abbrev pub operand : Bool → Before
operand true = before.Fixed
operand false = before.Other

-- `++` or `--`, and groups that open behind it
abbrev pub is_bump : Before → Bool
is_bump before.Bump = true
is_bump _ = false

-- `++` and `--`, and the operators that assign (6.5.16)
abbrev pub is_setting : Mark → Bool
is_setting mark.PlusPlus = true
is_setting mark.MinusMinus = true
is_setting mark.Assign = true
is_setting mark.PlusAssign = true
is_setting mark.MinusAssign = true
is_setting mark.StarAssign = true
is_setting mark.SlashAssign = true
is_setting mark.PercentAssign = true
is_setting mark.ShiftLeftAssign = true
is_setting mark.ShiftRightAssign = true
is_setting mark.AndAssign = true
is_setting mark.XorAssign = true
is_setting mark.OrAssign = true
is_setting _ = false

-- DECLARATIONS

-- is a declarator awaited?
abbrev pub awaits_declarator : Before → Bool
awaits_declarator before.Word = true
awaits_declarator before.Star = true
awaits_declarator before.Comma = true
awaits_declarator _ = false

-- what is before the token behind a keyword of declarations, which behind `*` is the pointer's
abbrev pub behind_word : Before → Before
behind_word before.Star = before.Star
behind_word _ = before.Word

-- what is declared behind such a keyword, which is `const` or not
abbrev pub with_word : Before → Bool → Declares → Declares
with_word before.Star is_const d = d
with_word before.Word true d = declares.Fixed
with_word before.Word false d = d
with_word _ true d = declares.Fixed
with_word _ false d = declares.Any

-- behind another keyword: `restrict` is a pointer's, and what stands in parentheses behind these four is no group
abbrev pub behind_key : Key → Before → Before
behind_key key.Restrict before.Star = before.Star
behind_key key.If b = before.Test
behind_key key.While b = before.Test
behind_key key.For b = before.Test
behind_key key.Switch b = before.Test
behind_key _ b = before.Other

-- behind `*`
abbrev pub behind_star : Before → Before
behind_star before.Word = before.Star
behind_star before.Star = before.Star
behind_star _ = before.Other

-- behind `,`
abbrev pub behind_comma : Declares → Before
behind_comma declares.Nothing = before.Other
behind_comma _ = before.Comma

-- are objects declared that are const?
abbrev pub is_fixed_declaration : Declares → Bool
is_fixed_declaration declares.Fixed = true
is_fixed_declaration _ = false

-- BRACKETS

-- what the closing of a `(` makes of what stands in it
abbrev pub group_ends : Before → Ends
group_ends before.Test = ends.Nothing
group_ends _ = ends.Inner

-- and that of a `[` of the operand before it
abbrev pub index_ends : Before → Ends
index_ends before.Fixed = ends.Fixed
index_ends _ = ends.Nothing

-- behind a `(`
abbrev pub behind_paren : Before → Before
behind_paren before.Bump = before.Bump
behind_paren _ = before.Other

-- behind the bracket that closes
abbrev pub behind_closing : Ends → Before → Before
behind_closing ends.Fixed b = before.Fixed
behind_closing ends.Inner b = operand (is_fixed_operand b)
behind_closing _ b = before.Other

-- is it a choice, from `?` to `:`?
abbrev pub is_choice : Ends → Bool
is_choice ends.Choice = true
is_choice _ = false

-- directly within brackets, before anything is declared there
abbrev pub level : Ends → Level
level e = record { declares = declares.Nothing; ends = e }

-- the innermost of the brackets, and those around it
abbrev pub innermost : List Level → Level
innermost [] = level ends.Nothing
innermost (l ∷ ls) = l

abbrev pub outer : List Level → List Level
outer [] = []
outer (l ∷ ls) = ls

-- is there none?
abbrev pub is_outside : List Level → Bool
is_outside [] = true
is_outside (l ∷ ls) = false

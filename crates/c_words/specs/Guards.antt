-- Objects that are const are set nowhere (C17 6.7.3, paragraph 6): where a unit would set one stands a keyword
-- `const`, which is no part of a declaration there, so that the grammar goes no further.
use Rattle.std.specs.Prelude.{Bool, true, false, not, ◌&&◌, ◌||◌, if◌then◌else◌, [], ◌∷◌, ◌++◌}
use Rattle.c_tree.specs.declared.Form.{Form}
use Rattle.c_tree.specs.declared.Form.TheVariants as form
use Rattle.c_tree.specs.declared.Key.{Key}
use Rattle.c_tree.specs.declared.Key.TheVariants as key
use Rattle.c_tree.specs.declared.Lexeme.{Lexeme}
use Rattle.c_tree.specs.declared.Mark.{Mark}
use Rattle.c_tree.specs.declared.Mark.TheVariants as mark
use Rattle.c_lex.specs.Bytes.{Bytes}
use Rattle.c_lex.specs.Lexes.{Tokens}
use Rattle.c_library.specs.Calls.{opens}
use Rattle.c_words.specs.declared.guard.Guard.{Guard}
use Rattle.c_words.specs.declared.level.Before.{Before}
use Rattle.c_words.specs.declared.level.Before.TheVariants as before
use Rattle.c_words.specs.declared.level.Declares.TheVariants as declares
use Rattle.c_words.specs.declared.level.Ends.{Ends}
use Rattle.c_words.specs.declared.level.Ends.TheVariants as ends
use Rattle.c_words.specs.Keys.{is_word, is_key}
use Rattle.c_words.specs.Levels.{is_setting, is_fixed_operand, operand, is_bump, awaits_declarator, behind_word}
use Rattle.c_words.specs.Levels.{with_word, behind_key, behind_star, behind_comma, is_fixed_declaration, group_ends}
use Rattle.c_words.specs.Levels.{index_ends}
use Rattle.c_words.specs.Levels.{behind_paren, behind_closing, is_choice, level, innermost, outer, is_outside}
use Rattle.c_words.specs.Names.{is_among}
use Rattle.c_words.specs.Ordered.{key_at}

-- WHERE ONE IS SET

-- is it that of an object that is const, of the unit or of the item of the unit that is read?
abbrev pub is_fixed : Bytes → Guard → Bool
is_fixed w g = is_among w g.unit || is_among w g.item

-- is one set at this token?
abbrev pub sets : Guard → Form → Bool
sets g (form.Name w) = is_bump g.before && is_fixed w g
sets g (form.Mark m) = is_fixed_operand g.before && is_setting m
sets g _ = false

-- BEHIND A TOKEN

-- with this before the next token
abbrev pub behind : Before → Guard → Guard
behind b g = record g { before = b }

-- the name is that of an object that is const, from outside of all brackets to the end of the unit, else of the item
abbrev pub with_name : Bytes → Guard → Guard
with_name w g =
    if is_outside g.around then record g { unit = g.unit ++ w ∷ [] } else record g { item = g.item ++ w ∷ [] }

-- behind a declarator, of a function or not
abbrev pub declared : Bytes → Bool → Guard → Guard
declared w is_function g = if is_fixed_declaration g.level.declares && not is_function then with_name w g else g

-- behind a name, before these tokens
abbrev pub past_name : Bytes → Tokens → Guard → Guard
past_name w ts g =
    if awaits_declarator g.before then behind before.Other (declared w (opens ts) g)
    else behind (operand (is_fixed w g)) g

-- behind a keyword of declarations, which is `const` or not
abbrev pub past_word : Bool → Guard → Guard
past_word is_const g = record g {
  before = behind_word g.before;
  level = record g.level { declares = with_word g.before is_const g.level.declares };
}

-- behind a keyword
abbrev pub past_key : Key → Guard → Guard
past_key k g =
    if is_word (form.Key k) then past_word (is_key key.Const (form.Key k)) g else behind (behind_key k g.before) g

-- behind a bracket that opens
abbrev pub opened : Ends → Before → Guard → Guard
opened e b g = record g { before = b; level = level e; around = g.level ∷ g.around }

-- behind one that closes
abbrev pub closed : Guard → Guard
closed g = record g {
  before = behind_closing g.level.ends g.before;
  level = innermost g.around;
  around = outer g.around;
}

-- where no bracket is open an item of the unit ends
abbrev pub item_ends : Guard → Guard
item_ends g = if is_outside g.around then record g { item = [] } else g

-- behind the end of a declaration, if it is one
abbrev pub declaration_ends : Guard → Guard
declaration_ends g = record g { before = before.Other; level = record g.level { declares = declares.Nothing } }

-- behind the `:` of a choice or a label
abbrev pub past_colon : Guard → Guard
past_colon g = if is_choice g.level.ends then closed g else behind before.Other g

-- behind a punctuator
abbrev pub past_mark : Mark → Guard → Guard
past_mark mark.LeftParen g = opened (group_ends g.before) (behind_paren g.before) g
past_mark mark.LeftBracket g = opened (index_ends g.before) before.Other g
past_mark mark.LeftBrace g = opened ends.Nothing before.Other g
past_mark mark.Question g = opened ends.Choice before.Other g
past_mark mark.RightParen g = closed g
past_mark mark.RightBracket g = closed g
past_mark mark.RightBrace g = item_ends (closed g)
past_mark mark.Colon g = past_colon g
past_mark mark.Semicolon g = item_ends (declaration_ends g)
past_mark mark.Comma g = behind (behind_comma g.level.declares) g
past_mark mark.Star g = behind (behind_star g.before) g
past_mark mark.PlusPlus g = behind before.Bump g
past_mark mark.MinusMinus g = behind before.Bump g
past_mark _ g = behind before.Other g

-- behind a token, which stands before these
abbrev pub past : Form → Tokens → Guard → Guard
past (form.Name w) ts g = past_name w ts g
past (form.Key k) ts g = past_key k g
past (form.Mark m) ts g = past_mark m g
past _ ts g = behind before.Other g

-- THE TOKENS

-- what stands for a token
abbrev pub stands_for : Bool → Lexeme → Tokens
stands_for is_set t = if is_set then key_at t.offset key.Const ∷ t ∷ [] else t ∷ []

-- the tokens from here on
abbrev pub guarded_from : Guard → Tokens → Tokens
guarded_from g [] = []
guarded_from g (t ∷ ts) = stands_for (sets g t.form) t ++ guarded_from (past t.form ts g) ts

-- before the first token
abbrev pub start : Guard
start = record { before = before.Other; level = level ends.Nothing; around = []; unit = []; item = [] }

-- does the keyword `const` stand among the tokens?
abbrev pub has_const : Tokens → Bool
has_const [] = false
has_const (t ∷ ts) = is_key key.Const t.form || has_const ts

-- the tokens of a unit: without that keyword no object is const
abbrev pub guarded : Tokens → Tokens
guarded ts = if has_const ts then guarded_from start ts else ts

-- Static objects of blocks, in front of their functions (C17 6.2.4, paragraph 3; 6.7.1).
use Rattle.std.specs.Prelude.{◌+◌, Bool, not, ◌&&◌, nat_eq, if◌then◌else◌, [], ◌∷◌, ◌++◌}
use Rattle.std.specs.Prelude.{Option, Some, None, is_none}
use Rattle.c_tree.specs.declared.Form.{Form}
use Rattle.c_tree.specs.declared.Form.TheVariants as form
use Rattle.c_tree.specs.declared.Key.TheVariants as key
use Rattle.c_tree.specs.declared.Mark.TheVariants as mark
use Rattle.c_tree.specs.declared.Lexeme.{Lexeme}
use Rattle.c_lex.specs.Bytes.{Bytes}
use Rattle.c_lex.specs.Lexes.{Tokens}
use Rattle.c_library.specs.Calls.{is_mark}
use Rattle.c_library.specs.Places.{token}
use Rattle.c_locals.specs.declared.state.Mode.{Mode}
use Rattle.c_locals.specs.declared.state.Mode.TheVariants as mode
use Rattle.c_locals.specs.declared.state.State.{State}
use Rattle.c_locals.specs.Names.{found, object_name, renamed, around}
use Rattle.c_locals.specs.Walks.{is_word, blocks_past, parens_past}
use Rattle.c_locals.specs.Stages.{ends, declares, is_value, is_static, ends_item}
use Rattle.c_locals.specs.States.{beginning, to_item, to_front, refused, declaring, ended, going_on, named}
use Rattle.c_locals.specs.States.{hidden, with_object, flushed}

-- WHERE TOKENS GO

-- DECLARATIONS

-- A name that is declared and is not static hides an object in its block; in the head of a loop, where the end of its
-- scope is not known, it is refused.
abbrev pub hides : Bytes → Lexeme → State → State
hides w t s =
    to_item (t ∷ [])
    (if is_none (found w s.names) then s else if nat_eq s.parens 0 then hidden w s else refused t.offset s)

-- what is no declaration with static, within it
abbrev pub local_by : Lexeme → Option Bytes → State → State
local_by t None s = going_on t.form (to_item (renamed s.names t ∷ []) s)
local_by t (Some w) s = named (hides w t s)

abbrev pub local_past : Lexeme → State → State
local_past t s =
    if ends s.depth t.form then ended (to_item (t ∷ []) s) else local_by t (declares s.stage t.form) s

-- the tokens that declare a name in the block as it was declared, so that it is declared once
abbrev pub kept : Lexeme → Tokens
kept t = token t.offset (form.Key key.Int) ∷ t ∷ token t.offset (form.Mark mark.Semicolon) ∷ []

-- a static object: it is declared in front by its own name, for which its name stands from here on
abbrev pub object : Bytes → Lexeme → State → State
object w t s =
    with_object w (object_name w s.count)
    (to_item (kept t) (to_front (token t.offset (form.Name (object_name w s.count)) ∷ []) s))

abbrev pub is_function : State → Form → Bool
is_function s f = is_mark mark.LeftParen f && (nat_eq s.depth 0 && not (is_value s.stage))

-- what refuses it
abbrev pub checked : Lexeme → State → State
checked t s = if is_function s t.form then refused t.offset s else s

-- a declaration with static, within it
abbrev pub static_by : Lexeme → Option Bytes → State → State
static_by t None s = going_on t.form (to_front (t ∷ []) (checked t s))
static_by t (Some w) s = named (object w t s)

abbrev pub static_past : Lexeme → State → State
static_past t s =
    if is_mark mark.Semicolon t.form then ended (to_front (t ∷ []) s)
    else if ends s.depth t.form then ended (to_item (t ∷ []) (refused t.offset s))
    else static_by t (declares s.stage t.form) s

-- OUTSIDE OF DECLARATIONS

-- does a declaration with static begin: in braces, outside of other brackets?
abbrev pub begins_static : State → Form → Bool
begins_static s f = not (nat_eq s.blocks 0) && (nat_eq s.parens 0 && is_static f)

-- does any other begin, or a cast?
abbrev pub begins_local : State → Form → Bool
begins_local s f = not (nat_eq s.blocks 0) && is_word f

abbrev pub code_past : Lexeme → State → State
code_past t s =
    if begins_static s t.form then declaring mode.Static s
    else if begins_local s t.form then declaring mode.Local (to_item (t ∷ []) s)
    else to_item (renamed s.names t ∷ []) s

-- THE UNIT

abbrev pub part_past : Mode → Lexeme → State → State
part_past mode.Code t s = code_past t s
part_past mode.Local t s = local_past t s
part_past mode.Static t s = static_past t s

-- the brackets and names behind a token
abbrev pub bracketed : Form → State → State
bracketed f s =
    record s {
      blocks = blocks_past s.blocks f;
      parens = parens_past s.parens f;
      names = if is_mark mark.RightBrace f then around s.blocks s.names else s.names;
    }

abbrev pub flushed_if : Form → State → State
flushed_if f s = if ends_item s.blocks f then flushed s else s

-- behind a token
abbrev pub past : Lexeme → State → State
past t s = flushed_if t.form (bracketed t.form (part_past s.mode t s))

-- all tokens, from here on
abbrev pub run : State → Tokens → Tokens
run s [] = s.out ++ (s.front ++ s.item)
run s (t ∷ ts) = run (past t s) ts

-- A unit in which no object of a block is static: these stand in front of their functions, by names that no text can
-- say, and their names in the blocks stand for those.
abbrev pub with_statics : Tokens → Tokens
with_statics ts = run beginning ts

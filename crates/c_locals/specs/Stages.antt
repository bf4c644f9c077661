-- How far a declaration of a block is read, and where it and an item of the unit end.
use Rattle.std.specs.Prelude.{ℕ, Bool, true, false, ◌&&◌, ◌||◌, nat_eq, if◌then◌else◌}
use Rattle.std.specs.Prelude.{Option, Some, None}
use Rattle.c_tree.specs.declared.Form.{Form}
use Rattle.c_tree.specs.declared.Form.TheVariants as form
use Rattle.c_tree.specs.declared.Key.TheVariants as key
use Rattle.c_tree.specs.declared.Mark.TheVariants as mark
use Rattle.c_lex.specs.Bytes.{Bytes}
use Rattle.c_library.specs.Calls.{is_mark}
use Rattle.c_locals.specs.declared.stages.Stage.{Stage}
use Rattle.c_locals.specs.declared.stages.Stage.TheVariants as stage
use Rattle.c_locals.specs.Walks.{closes}

-- does it end with this token, where so many brackets are open in it: at `;`, or at a bracket around it?
abbrev pub ends : ℕ → Form → Bool
ends d f = is_mark mark.Semicolon f || (nat_eq d 0 && (closes f || is_mark mark.RightBrace f))

-- the stage behind a token outside of brackets
abbrev pub stage_by : Stage → Form → Stage
stage_by g f = if is_mark mark.Comma f then stage.Name else if is_mark mark.Assign f then stage.Value else g

-- and behind any
abbrev pub stage_past : ℕ → Stage → Form → Stage
stage_past d g f = if nat_eq d 0 then stage_by g f else g

-- the name that a token declares
abbrev pub declares : Stage → Form → Option Bytes
declares stage.Name (form.Name w) = Some w
declares _ _ = None

-- is the token the `(` of a function's declarator?
abbrev pub is_value : Stage → Bool
is_value stage.Value = true
is_value _ = false

-- is it `static`?
abbrev pub is_static : Form → Bool
is_static (form.Key key.Static) = true
is_static _ = false

-- is it an include?
abbrev pub is_include : Form → Bool
is_include form.Include = true
is_include _ = false

-- does an item of the unit end with the token, with so many braces open behind it?
abbrev pub ends_item : ℕ → Form → Bool
ends_item n f = nat_eq n 0 && (is_mark mark.Semicolon f || (is_mark mark.RightBrace f || is_include f))

-- Macros without parameters, and what replacing names by their bodies gives (C17 6.10.3, 6.10.3.4).
use Rattle.std.specs.Prelude.{ℕ, zero, suc, Bool, false, ◌||◌, if◌then◌else◌, is_some, List, [], ◌∷◌, ◌++◌, Option}
use Rattle.std.specs.Prelude.{Some, None}
use Rattle.std.specs.Str.{bytes_eq}
use Rattle.c_tree.specs.declared.Form.{Form}
use Rattle.c_tree.specs.declared.Form.TheVariants as form
use Rattle.c_lex.specs.Strings.{string_named}
use Rattle.c_pre.specs.declared.macros.Macro.{Macro}

-- a name, byte by byte
abbrev pub Name : Type 0
Name = List ℕ

-- the name that a token is, if it is one, and no string literal
abbrev pub name_of : Form → Option Name
name_of (form.Name w) = if is_some (string_named w) then None else Some w
name_of _ = None

-- what the name is behind these lines, where it was this body, or no macro, before them: the last line with the name
-- says it
abbrev pub last_body : Name → List Macro → Option (List Form) → Option (List Form)
last_body w [] body = body
last_body w (m ∷ ms) body = last_body w ms (if bytes_eq m.name w then m.body else body)

-- the body of the macro of this name, if it is one
abbrev pub body_of : Name → List Macro → Option (List Form)
body_of w ms = last_body w ms None

-- is the name one of these?
abbrev pub is_hidden : Name → List Name → Bool
is_hidden w [] = false
is_hidden w (h ∷ hs) = bytes_eq h w || is_hidden w hs

-- the body that stands for the name, where these names are being replaced: these are not replaced again
abbrev pub live_body : List Macro → List Name → Name → Option (List Form)
live_body ms hs w = if is_hidden w hs then None else body_of w ms

-- a turn of the replacement: a token that stays, or (none) a name that gives way to its body
abbrev pub Turn : Type 0
Turn = Option Form

-- the turns of each of these forms, one after another
abbrev pub each : (Form → List Turn) → List Form → List Turn
each f [] = []
each f (x ∷ xs) = f x ++ each f xs

-- the turns of a form whose name has this body, or no live one
abbrev pub turns_by : (List Name → Form → List Turn) → List Name → Form → Name → Option (List Form) → List Turn
turns_by rec hs f w None = Some f ∷ []
turns_by rec hs f w (Some body) = None ∷ each (rec (hs ++ w ∷ [])) body

-- the turns of a form that is this name, or none
abbrev pub turns_of : (List Name → Form → List Turn) → List Macro → List Name → Form → Option Name → List Turn
turns_of rec ms hs f None = Some f ∷ []
turns_of rec ms hs f (Some w) = turns_by rec hs f w (live_body ms hs w)

-- The turns of a form, where these names are being replaced. A body in a body hides one name more, so that as many
-- levels as there are macros are all.
abbrev pub turns : ℕ → List Macro → List Name → Form → List Turn
turns zero ms hs f = Some f ∷ []
turns (suc n) ms hs f = turns_of (λ hs f. turns n ms hs f) ms hs f (name_of f)

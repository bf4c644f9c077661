-- A size in brackets, and the number of values in braces (C17 6.7.6.2, 6.7.9).
use Rattle.std.specs.Prelude.{ℕ, ◌+◌, ◌-◌, Bool, true, false, not, ◌&&◌, ◌||◌, nat_eq, if◌then◌else◌, List, [], ◌∷◌}
use Rattle.c_tree.specs.declared.Form.{Form}
use Rattle.c_tree.specs.declared.Form.TheVariants as form
use Rattle.c_tree.specs.declared.Key.TheVariants as key
use Rattle.c_tree.specs.declared.Mark.{Mark}
use Rattle.c_tree.specs.declared.Mark.TheVariants as mark
use Rattle.c_lex.specs.Lexes.{Tokens}
use Rattle.c_library.specs.Calls.{is_mark}
use Rattle.c_sizes.specs.Firsts.{begins, rest}

-- A SIZE

-- may the token stand in a size that is the same wherever it stands? So no name may, and no `sizeof`.
abbrev pub is_constant : Form → Bool
is_constant (form.Name w) = false
is_constant (form.Key key.Sizeof) = false
is_constant _ = true

-- is each token up to the first `]` such a one?
abbrev pub is_size : Tokens → Bool
is_size [] = false
is_size (t ∷ ts) = is_mark mark.RightBracket t.form || (is_constant t.form && is_size ts)

-- the tokens up to the first `]`
abbrev pub size : Tokens → List Form
size [] = []
size (t ∷ ts) = if is_mark mark.RightBracket t.form then [] else t.form ∷ size ts

-- the tokens behind the first `]`
abbrev pub behind_size : Tokens → Tokens
behind_size [] = []
behind_size (t ∷ ts) = if is_mark mark.RightBracket t.form then ts else behind_size ts

-- VALUES

-- does it open what a `,` may stand in: a bracket, or the middle of `? :`?
abbrev pub is_opening : Mark → Bool
is_opening mark.LeftParen = true
is_opening mark.LeftBracket = true
is_opening mark.LeftBrace = true
is_opening mark.Question = true
is_opening _ = false

-- does it close that?
abbrev pub is_closing : Mark → Bool
is_closing mark.RightParen = true
is_closing mark.RightBracket = true
is_closing mark.RightBrace = true
is_closing mark.Colon = true
is_closing _ = false

-- how many of these are open behind a token
abbrev pub depth_past : ℕ → Form → ℕ
depth_past d (form.Mark m) = if is_opening m then d + 1 else if is_closing m then d - 1 else d
depth_past d _ = d

-- does a token, before these, part two values of a list? It is a `,` that is in nothing else, and not the last one.
abbrev pub parts : ℕ → Form → Tokens → Bool
parts d f ts = nat_eq d 0 && (is_mark mark.Comma f && not (begins mark.RightBrace ts))

-- how many tokens do, up to the brace that closes the list
abbrev pub parted : ℕ → Tokens → ℕ
parted d [] = 0
parted d (t ∷ ts) =
    if nat_eq d 0 && is_mark mark.RightBrace t.form then 0
    else (if parts d t.form ts then 1 else 0) + parted (depth_past d t.form) ts

-- How many values, or rows, `= { .. }` has, where that stands first; else 0. The grammar has no braces without any.
abbrev pub values : Tokens → ℕ
values ts =
    if begins mark.Assign ts && begins mark.LeftBrace (rest ts) then 1 + parted 0 (rest (rest ts)) else 0

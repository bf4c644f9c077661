-- What the first tokens of a unit come to.
use Rattle.std.specs.Prelude.{ℕ, Bool, true, false, not, ◌&&◌, if◌then◌else◌, [], ◌∷◌}
use Rattle.std.specs.Prelude.{Option, Some, None}
use Rattle.c_tree.specs.declared.Form.{Form}
use Rattle.c_tree.specs.declared.Form.TheVariants as form
use Rattle.c_tree.specs.declared.Key.{Key}
use Rattle.c_tree.specs.declared.Key.TheVariants as key
use Rattle.c_tree.specs.declared.Kind.TheVariants as kind
use Rattle.c_tree.specs.declared.Lexeme.{Lexeme}
use Rattle.c_tree.specs.declared.Mark.{Mark}
use Rattle.c_tree.specs.declared.Mark.TheVariants as mark
use Rattle.c_lex.specs.Bytes.{Bytes}
use Rattle.c_lex.specs.Lexes.{Tokens}
use Rattle.c_library.specs.Places.{token}
use Rattle.c_names.specs.declared.turn.Names.{Names}
use Rattle.c_names.specs.Pieces.{Pieces, spelled}
use Rattle.c_names.specs.Scope.{Scope, look_up, in_parens, past}
use Rattle.c_names.specs.Words.{begins}
use Rattle.c_names.specs.Headers.{sizes, is_header, goes, types_of, with_types}
use Rattle.c_names.specs.Enums.{Taken, enum_behind, type_from, typedef_behind}

-- What the first tokens come to.
pub record Turn : Type 0 where
  -- the tokens that stand for them
  pub out : Tokens
  -- what is known behind them
  pub names : Names
  -- the tokens behind them
  pub rest : Tokens

-- these
abbrev pub turn : Tokens → Bool → Scope → Tokens → Turn
turn out starts es ts = record { out = out; names = record { starts = starts; scope = es }; rest = ts }

-- A malformed declaration stays, and all that is behind it. The grammar has no `typedef` and no `enum`, and refuses the
-- unit there.
abbrev pub left : Lexeme → Tokens → Turn
left t ts = turn (t ∷ ts) false [] []

-- the tokens but the first
abbrev pub behind_first : Tokens → Tokens
behind_first [] = []
behind_first (t ∷ ts) = ts

-- a token that is nothing of names stays
abbrev pub plain : Names → Lexeme → Tokens → Turn
plain ns t ts = turn (t ∷ []) false ns.scope ts

-- DECLARATIONS

-- names of types go whole
abbrev pub typedef_turn : Lexeme → Tokens → Taken → Turn
typedef_turn t ts None = left t ts
typedef_turn t ts (Some p) = turn [] true p.0 p.1

-- an enumeration is `int`, or goes with the `;` where it is a declaration of its own
abbrev pub enum_by : Names → Lexeme → Tokens → Turn
enum_by ns t ts =
    if ns.starts && begins mark.Semicolon ts then turn [] true ns.scope (behind_first ts)
    else turn (token t.offset (form.Key key.Int) ∷ []) false ns.scope ts

abbrev pub enum_turn : Bool → Lexeme → Tokens → Taken → Turn
enum_turn starts t ts None = left t ts
enum_turn starts t ts (Some p) = enum_by (record { starts = starts; scope = p.0 }) t p.1

-- SIZES

-- the size of a type, where a `)` follows it
abbrev pub sizeof_by : Names → Lexeme → Tokens → Option ℕ → Tokens → Turn
sizeof_by ns t ts (Some n) rest =
    if begins mark.RightParen rest
    then turn (token t.offset (form.Number n kind.ULong) ∷ []) false ns.scope (behind_first rest)
    else plain ns t ts
sizeof_by ns t ts None rest = plain ns t ts

-- `sizeof` of a type in parentheses is a constant (C17 6.5.3.4); any other stays
abbrev pub sizeof_type : Names → Lexeme → Tokens → Option ℕ × Tokens → Turn
sizeof_type ns t ts p = sizeof_by ns t ts p.0 p.1

abbrev pub sizeof_turn : Names → Lexeme → Tokens → Turn
sizeof_turn ns t ts =
    if begins mark.LeftParen ts then sizeof_type ns t ts (type_from ns.scope (behind_first ts))
    else plain ns t ts

-- NAMES

-- what stands for a name
abbrev pub replaced : Lexeme → Option Pieces → Tokens
replaced t None = t ∷ []
replaced t (Some ps) = spelled t.offset ps

-- a name that is no header's
abbrev pub own_turn : Scope → Lexeme → Tokens → Bytes → Turn
own_turn es t ts w = turn (replaced t (look_up w es)) false es ts

-- a header declares its types, and stays if it has more
abbrev pub header_turn : Scope → Lexeme → Tokens → Bytes → Turn
header_turn es t ts w = turn (if goes w then [] else t ∷ []) true (with_types (types_of w) es) ts

-- either
abbrev pub name_turn : Scope → Lexeme → Tokens → Bytes → Turn
name_turn es t ts w = if is_header w then header_turn es t ts w else own_turn es t ts w

-- `#include <stdio.h>`
abbrev pub include_turn : Scope → Lexeme → Tokens → Turn
include_turn es t ts = turn (t ∷ []) true (with_types sizes es) ts

-- ALL

-- may a declaration stand behind the punctuator?
abbrev pub starts_behind : Mark → Bool
starts_behind mark.Semicolon = true
starts_behind mark.LeftBrace = true
starts_behind mark.RightBrace = true
starts_behind _ = false

-- a punctuator
abbrev pub mark_turn : Scope → Lexeme → Tokens → Mark → Turn
mark_turn es t ts m = turn (t ∷ []) (starts_behind m) (past m es) ts

-- a keyword
abbrev pub key_turn : Names → Lexeme → Tokens → Key → Turn
key_turn ns t ts key.Typedef =
    if ns.starts && not (in_parens ns.scope) then typedef_turn t ts (typedef_behind ns.scope ts) else left t ts
key_turn ns t ts key.Enum = enum_turn ns.starts t ts (enum_behind ns.scope ts)
key_turn ns t ts key.Sizeof = sizeof_turn ns t ts
key_turn ns t ts _ = plain ns t ts

-- the first token, of this form
abbrev pub turn_by : Names → Lexeme → Tokens → Form → Turn
turn_by ns t ts (form.Key k) = key_turn ns t ts k
turn_by ns t ts (form.Name w) = name_turn ns.scope t ts w
turn_by ns t ts (form.Mark m) = mark_turn ns.scope t ts m
turn_by ns t ts form.Include = include_turn ns.scope t ts
turn_by ns t ts _ = plain ns t ts

-- the first token
abbrev pub turn_of : Names → Lexeme → Tokens → Turn
turn_of ns t ts = turn_by ns t ts t.form

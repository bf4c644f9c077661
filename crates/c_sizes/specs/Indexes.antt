-- The indexes behind a name (C17 6.5.2.1).
use Rattle.std.specs.Prelude.{ℕ, Bool, true, false, ◌&&◌, if◌then◌else◌, is_some, [], ◌∷◌, Option, Some, None}
use Rattle.c_tree.specs.declared.Form.{Form}
use Rattle.c_tree.specs.declared.Form.TheVariants as form
use Rattle.c_tree.specs.declared.Mark.TheVariants as mark
use Rattle.c_lex.specs.Lexes.{Tokens}
use Rattle.c_library.specs.Calls.{is_mark}
use Rattle.c_locals.specs.Brackets.{Parts, split}
use Rattle.c_sizes.specs.declared.known.Known.{Known}
use Rattle.c_sizes.specs.Scopes.{find}

-- is a token in scope, if it is a name?
abbrev pub is_known : Known → Form → Bool
is_known k (form.Name w) = is_some (find w k)
is_known k _ = true

-- is each of these?
abbrev pub are_known : Known → Tokens → Bool
are_known k [] = true
are_known k (t ∷ ts) = is_known k t.form && are_known k ts

-- are they an index, which is not judged further?
abbrev pub is_index : Known → Tokens → Bool
is_index k [] = false
is_index k (t ∷ ts) = are_known k (t ∷ ts)

-- the tokens behind the brackets of an index
abbrev pub behind_by : Known → Option Parts → Option Tokens
behind_by k None = None
behind_by k (Some (a, b)) = if is_index k a then Some b else None

-- the tokens behind an index in brackets that stands first
abbrev pub behind_index : Known → Tokens → Option Tokens
behind_index k [] = None
behind_index k (t ∷ ts) = if is_mark mark.LeftBracket t.form then behind_by k (split mark.RightBracket ts) else None

-- so many indexes, and the tokens behind them
abbrev pub Indexed : Type 0
Indexed = ℕ × Tokens

abbrev pub with_second : Tokens → Option Tokens → Indexed
with_second ts None = (1, ts)
with_second ts (Some us) = (2, us)

abbrev pub with_first : Known → Tokens → Option Tokens → Indexed
with_first k ts None = (0, ts)
with_first k ts (Some us) = with_second us (behind_index k us)

-- the indexes that stand first, of two at most
abbrev pub indexed : Known → Tokens → Indexed
indexed k ts = with_first k ts (behind_index k ts)

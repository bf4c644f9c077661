-- What a listing tells of each function of a text: its name, the lines of its definition, and the names of its scalars.
use Rattle.std.specs.Prelude.{ℕ, ◌+◌, ◌-◌, ◌==◌, ◌&&◌, Bool, true, false, if◌then◌else◌, nat_le, take}
use Rattle.std.specs.Prelude.{List, [], ◌∷◌, ◌++◌, Option, Some, None, slice_get}
use Rattle.c_tree.specs.declared.token.Form.{Form}
use Rattle.c_tree.specs.declared.token.Form.TheVariants as form
use Rattle.c_tree.specs.declared.token.Mark.TheVariants as mark
use Rattle.c_tree.specs.declared.token.Lexeme.{Lexeme}
use Rattle.c_tree.specs.declared.tree.Param.{Param}
use Rattle.c_tree.specs.declared.tree.Stmt.{Stmt}
use Rattle.c_tree.specs.declared.tree.Top.{Top}
use Rattle.c_tree.specs.declared.tree.TopNode.{TopNode}
use Rattle.c_tree.specs.declared.tree.TopNode.TheVariants.{Include, Global, Func}
use Rattle.trips_listing_text.specs.declared.told.Told.{Told}
use Rattle.trips_listing_text.specs.Scalars.{scalar_names}

-- LINES

-- 1 for a line feed
abbrev pub feed : ℕ → ℕ
feed c = if c == 10 then 1 else 0

-- how many line feeds some characters have
abbrev pub feeds : List ℕ → ℕ
feeds [] = 0
feeds (c ∷ cs) = feed c + feeds cs

-- the line on which a place of a text is, counted from 1
abbrev pub line_at : List ℕ → ℕ → ℕ
line_at text at = 1 + feeds (take at text)

-- how many braces are open behind a token, where so many are open before it
abbrev pub open_behind : Form → ℕ → ℕ
open_behind (form.Mark mark.LeftBrace) depth = depth + 1
open_behind (form.Mark mark.RightBrace) depth = depth - 1
open_behind _ depth = depth

-- whether it is the first brace that is looked for
abbrev pub is_opener : Form → Bool
is_opener (form.Mark mark.LeftBrace) = true
is_opener _ = false

-- The same, where none counts before the one that opens at a place.
abbrev pub open_from : ℕ → Lexeme → ℕ → ℕ
open_from at t depth =
    if depth == 0 then (if is_opener t.form && (t.offset == at) then 1 else 0) else open_behind t.form depth

-- the offset of the brace that closes the one that opens at a place, where so many are open of those from it on; where
-- none does, the place itself
abbrev pub closing : ℕ → ℕ → List Lexeme → ℕ
closing at depth [] = at
closing at depth (t ∷ ts) =
    if nat_le 1 depth && (open_from at t depth == 0) then t.offset else closing at (open_from at t depth) ts

-- LIBRARY

-- whether a place is that of an include, at which all tokens stand that its library's definitions have
abbrev pub is_include : Option ℕ → Bool
is_include None = false
is_include (Some c) = c == 35

-- FUNCTIONS

-- what is told of a definition whose name stands at a place
abbrev pub told_of : List ℕ → List Lexeme → ℕ → List ℕ → List Param → Stmt → Told
told_of text tokens at w params body = record {
  name = w;
  library = is_include (slice_get text at);
  first = line_at text at;
  last = line_at text (closing body.offset 0 tokens);
  names = scalar_names params body;
}

-- what is told of an item: nothing of one that is no definition of a function
abbrev pub told_item : List ℕ → List Lexeme → ℕ → TopNode → List Told
told_item text tokens at (Func result w params (Some body)) = told_of text tokens at w params body ∷ []
told_item text tokens at _ = []

-- what is told of each function of a unit, in the order of the text
abbrev pub told_all : List ℕ → List Lexeme → List Top → List Told
told_all text tokens [] = []
told_all text tokens (t ∷ ts) = told_item text tokens t.offset t.node ++ told_all text tokens ts

-- What token lists spell which translation units (C17 6.9).
use Rattle.std.specs.Prelude.{ℕ, List, [], ◌∷◌, ◌++◌, Option, Some, None}
use Rattle.c_tree.specs.declared.token.Form.TheVariants as form
use Rattle.c_tree.specs.declared.token.Mark.TheVariants as mark
use Rattle.c_tree.specs.declared.token.Key.TheVariants as key
use Rattle.c_tree.specs.declared.token.Kind.{Kind}
use Rattle.c_tree.specs.declared.tree.Expr.{Expr}
use Rattle.c_tree.specs.declared.tree.ArraySize.{ArraySize}
use Rattle.c_tree.specs.declared.tree.ArraySize.TheVariants as sizes
use Rattle.c_tree.specs.declared.tree.Stmt.{Stmt}
use Rattle.c_tree.specs.declared.tree.StmtNode.TheVariants as node
use Rattle.c_tree.specs.declared.tree.Param.{Param}
use Rattle.c_tree.specs.declared.tree.Top.{Top}
use Rattle.c_tree.specs.declared.tree.TopNode.{TopNode}
use Rattle.c_tree.specs.declared.tree.TopNode.TheVariants as tops
use Rattle.c_grammar.specs.Tokens.{Tokens, token, punct, word, named, May}
use Rattle.c_grammar.specs.Types.{Types}
use Rattle.c_grammar.specs.Operators.{conditional}
use Rattle.c_grammar.specs.Expressions.{Spells, expr}
use Rattle.c_grammar.specs.Statements as s
use Rattle.c_grammar.specs.Statements.{Writes, entries}

-- the item of an offset and a node
abbrev pub at : ℕ → TopNode → Top
at l n = record { offset = l; node = n }

-- the sizes of a global and the lists of its initial values
abbrev pub Shape : Type 0
Shape = ArraySize × List (List Expr)

-- one pair of brackets, with a size or empty
abbrev pub one_size : Option Expr → ArraySize
one_size None = sizes.Open
one_size (Some e) = sizes.Sized e

-- a global
abbrev pub global : ℕ → Kind → List ℕ → Shape → Top
global l k w s = at l (tops.Global k w s.0 s.1)

-- a prototype or a definition
abbrev pub function : ℕ → Option Kind → List ℕ → List Param → Option Stmt → Top
function l r w ps b = at l (tops.Func r w ps b)

-- the offset and the name of a parameter
abbrev pub Label : Type 0
Label = ℕ × Option (List ℕ)

-- a parameter
abbrev pub parameter : Label → Kind → ArraySize → Param
parameter n k a = record { offset = n.0; kind = k; name = n.1; size = a }

-- what a part of a unit spells
pub data Phrase : Type 0 where
  -- a size or none, up to the bracket
  size : Option Expr → Phrase
  -- values up to the brace
  values : List Expr → Phrase
  -- rows of values in braces of their own, up to the brace
  rows : List (List Expr) → Phrase
  -- what stands behind the name of a global
  shape : Shape → Phrase
  -- globals up to the semicolon
  globals : Kind → List Top → Phrase
  -- a parameter's name or none, behind a type of this offset
  label : ℕ → Label → Phrase
  brackets : ArraySize → Phrase
  param : Param → Phrase
  -- parameters up to the closing parenthesis
  params : List Param → Phrase
  param_list : List Param → Phrase
  -- the type that a function gives, or void
  result : Option Kind → Phrase
  -- a function from its name on
  func : Option Kind → Top → Phrase
  item : List Top → Phrase
  unit : List Top → Phrase

-- The tokens from the first list up to the second spell the phrase, which stands at depth 0.
pub data Units (may : May) : Phrase → Tokens → Tokens → Type 0 where
  -- 6.7.6.2
  no_size : {k : ℕ} {t : Tokens} → Units may (size None) (punct k mark.RightBracket ∷ t) t
  some_size : {k : ℕ} {e : Expr} {f t : Tokens}
      → Spells may (expr conditional e) 0 f (punct k mark.RightBracket ∷ t)
      → Units may (size (Some e)) f t
  -- 6.7.9
  last_value : {k : ℕ} {e : Expr} {f t : Tokens}
      → Spells may (expr conditional e) 0 f (punct k mark.RightBrace ∷ t)
      → Units may (values (e ∷ [])) f t
  last_comma : {k k' : ℕ} {e : Expr} {f t : Tokens}
      → Spells may (expr conditional e) 0 f (punct k mark.Comma ∷ punct k' mark.RightBrace ∷ t)
      → Units may (values (e ∷ [])) f t
  next_value : {k : ℕ} {e : Expr} {es : List Expr} {f m t : Tokens}
      → Spells may (expr conditional e) 0 f (punct k mark.Comma ∷ m) → Units may (values es) m t
      → Units may (values (e ∷ es)) f t
  last_row : {k k' : ℕ} {es : List Expr} {m t : Tokens}
      → Units may (values es) m (punct k' mark.RightBrace ∷ t)
      → Units may (rows (es ∷ [])) (punct k mark.LeftBrace ∷ m) t
  last_row_comma : {k k' k'' : ℕ} {es : List Expr} {m t : Tokens}
      → Units may (values es) m (punct k' mark.Comma ∷ punct k'' mark.RightBrace ∷ t)
      → Units may (rows (es ∷ [])) (punct k mark.LeftBrace ∷ m) t
  next_row : {k k' : ℕ} {es : List Expr} {ess : List (List Expr)} {m m' t : Tokens}
      → Units may (values es) m (punct k' mark.Comma ∷ m')
      → Units may (rows ess) m' t
      → Units may (rows (es ∷ ess)) (punct k mark.LeftBrace ∷ m) t
  bare : {t : Tokens} → Units may (shape (sizes.Scalar, [])) t t
  valued : {k : ℕ} {e : Expr} {m t : Tokens} → Spells may (expr conditional e) 0 m t
      → Units may (shape (sizes.Scalar, (e ∷ []) ∷ [])) (punct k mark.Assign ∷ m) t
  sized : {k : ℕ} {e : Expr} {m t : Tokens} → Units may (size (Some e)) m t
      → Units may (shape (sizes.Sized e, [])) (punct k mark.LeftBracket ∷ m) t
  filled : {k k' k'' : ℕ} {o : Option Expr} {es : List Expr} {m m' t : Tokens}
      → Units may (size o) m (punct k' mark.Assign ∷ punct k'' mark.LeftBrace ∷ m')
      → Units may (values es) m' t
      → Units may (shape (one_size o, es ∷ [])) (punct k mark.LeftBracket ∷ m) t
  rows_sized : {k j j' : ℕ} {r e : Expr} {m m' t : Tokens}
      → Units may (size (Some r)) m (punct j mark.LeftBracket ∷ m')
      → Spells may (expr conditional e) 0 m' (punct j' mark.RightBracket ∷ t)
      → Units may (shape (sizes.Rows (Some r) e, [])) (punct k mark.LeftBracket ∷ m) t
  rows_filled : {k j j' k' k'' : ℕ} {o : Option Expr} {e : Expr} {ess : List (List Expr)}
      {m m' m'' t : Tokens}
      → Units may (size o) m (punct j mark.LeftBracket ∷ m')
      → Spells may (expr conditional e) 0 m' (punct j' mark.RightBracket
      ∷ punct k' mark.Assign ∷ punct k'' mark.LeftBrace ∷ m'')
      → Units may (rows ess) m'' t
      → Units may (shape (sizes.Rows o e, ess)) (punct k mark.LeftBracket ∷ m) t
  last_global : {l j : ℕ} {k : Kind} {w : List ℕ} {s : Shape} {m t : Tokens}
      → Units may (shape s) m (punct j mark.Semicolon ∷ t)
      → Units may (globals k (global l k w s ∷ [])) (named l w ∷ m) t
  next_global : {l j : ℕ} {k : Kind} {w : List ℕ} {s : Shape} {gs : List Top} {m m' t : Tokens}
      → Units may (shape s) m (punct j mark.Comma ∷ m') → Units may (globals k gs) m' t
      → Units may (globals k (global l k w s ∷ gs)) (named l w ∷ m) t
  -- 6.7.6.3
  unlabelled : {l : ℕ} {t : Tokens} → Units may (label l (l, None)) t t
  labelled : {l k : ℕ} {w : List ℕ} {t : Tokens} → Units may (label l (k, Some w)) (named k w ∷ t) t
  no_brackets : {t : Tokens} → Units may (brackets sizes.Scalar) t t
  some_brackets : {k : ℕ} {o : Option Expr} {m t : Tokens} → Units may (size o) m t
      → Units may (brackets (one_size o)) (punct k mark.LeftBracket ∷ m) t
  two_brackets : {k j j' : ℕ} {o : Option Expr} {e : Expr} {m m' t : Tokens}
      → Units may (size o) m (punct j mark.LeftBracket ∷ m')
      → Spells may (expr conditional e) 0 m' (punct j' mark.RightBracket ∷ t)
      → Units may (brackets (sizes.Rows o e)) (punct k mark.LeftBracket ∷ m) t
  param_is : {l : ℕ} {k : Kind} {n : Label} {a : ArraySize} {f m m' t : Tokens} → Types l k f m
      → Units may (label l n) m m' → Units may (brackets a) m' t
      → Units may (param (parameter n k a)) f t
  no_params : {k : ℕ} {t : Tokens} → Units may (params []) (punct k mark.RightParen ∷ t) t
  void_params : {k k' : ℕ} {t : Tokens} → Units may (params [])
      (word k key.Void ∷ punct k' mark.RightParen ∷ t) t
  some_params : {ps : List Param} {f t : Tokens} → Units may (param_list ps) f t
      → Units may (params ps) f t
  last_param : {k : ℕ} {p : Param} {f t : Tokens}
      → Units may (param p) f (punct k mark.RightParen ∷ t)
      → Units may (param_list (p ∷ [])) f t
  next_param : {k : ℕ} {p : Param} {ps : List Param} {f m t : Tokens}
      → Units may (param p) f (punct k mark.Comma ∷ m)
      → Units may (param_list ps) m t → Units may (param_list (p ∷ ps)) f t
  -- 6.9.1
  void : {l : ℕ} {t : Tokens} → Units may (result None) (word l key.Void ∷ t) t
  typed : {l : ℕ} {k : Kind} {f t : Tokens} → Types l k f t → Units may (result (Some k)) f t
  prototype : {l k k' : ℕ} {r : Option Kind} {w : List ℕ} {ps : List Param} {m t : Tokens}
      → Units may (params ps) m (punct k' mark.Semicolon ∷ t)
      → Units may (func r (function l r w ps None)) (named l w ∷ punct k mark.LeftParen ∷ m) t
  -- a function's body has depth 1
  definition : {l k k' : ℕ} {r : Option Kind} {w : List ℕ} {ps : List Param} {ss : List Stmt}
      {m m' t : Tokens}
      → Units may (params ps) m (punct k' mark.LeftBrace ∷ m') → Writes may (entries ss) 1 m' t
      → Units may (func r (function l r w ps (Some (s.at k' (node.Compound ss)))))
      (named l w ∷ punct k mark.LeftParen ∷ m) t
  -- 6.9, 6.10.2
  include : {l : ℕ} {t : Tokens} → Units may (item (at l tops.Include ∷ []))
      (token l form.Include ∷ t) t
  a_function : {r : Option Kind} {x : Top} {f m t : Tokens} → Units may (result r) f m
      → Units may (func r x) m t
      → Units may (item (x ∷ [])) f t
  some_globals : {l : ℕ} {k : Kind} {gs : List Top} {f m t : Tokens} → Types l k f m
      → Units may (globals k gs) m t
      → Units may (item gs) f t
  last_item : {xs : List Top} {f t : Tokens} → Units may (item xs) f t → Units may (unit xs) f t
  next_item : {xs ys : List Top} {f m t : Tokens} → Units may (item xs) f m
      → Units may (unit ys) m t
      → Units may (unit (xs ++ ys)) f t

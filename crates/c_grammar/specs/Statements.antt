-- What token lists spell which statements and local declarations (C17 6.7, 6.8).
use Rattle.std.specs.Prelude.{◌≡◌, ℕ, suc, Bool, true, false, List, [], ◌∷◌, ◌++◌, Option, Some}
use Rattle.std.specs.Prelude.{None}
use Rattle.c_tree.specs.declared.token.Mark.{Mark}
use Rattle.c_tree.specs.declared.token.Mark.TheVariants as mark
use Rattle.c_tree.specs.declared.token.Key.TheVariants as key
use Rattle.c_tree.specs.declared.token.Kind.{Kind}
use Rattle.c_tree.specs.declared.tree.Expr.{Expr}
use Rattle.c_tree.specs.declared.tree.ArraySize.{ArraySize}
use Rattle.c_tree.specs.declared.tree.ArraySize.TheVariants as size
use Rattle.c_tree.specs.declared.tree.Label.{Label}
use Rattle.c_tree.specs.declared.tree.Section.{Section, roll-Section}
use Rattle.c_tree.specs.declared.tree.Stmt.{Stmt}
use Rattle.c_tree.specs.declared.tree.StmtNode.{StmtNode}
use Rattle.c_tree.specs.declared.tree.StmtNode.TheVariants as node
use Rattle.c_tree.specs.declared.tree.ForInit.{ForInit}
use Rattle.c_tree.specs.declared.tree.ForInit.TheVariants as first
use Rattle.c_grammar.specs.Tokens.{Tokens, punct, word, named, May}
use Rattle.c_grammar.specs.Types.{Types}
use Rattle.c_grammar.specs.Operators.{conditional, assignment, expression}
use Rattle.c_grammar.specs.Expressions.{Spells, expr}

-- the statement of an offset and a node
abbrev pub at : ℕ → StmtNode → Stmt
at l n = record { offset = l; node = n }

-- a size and an initial value
abbrev pub Shape : Type 0
Shape = ArraySize × Option Expr

-- the declaration of a name
abbrev pub declared : ℕ → Kind → List ℕ → Shape → Stmt
declared l k w s = at l (node.Declare k w s.0 s.1)

-- what may end an expression that can be absent
pub data Closer : Type 0 where
  semicolon : Closer
  paren : Closer

-- the mark that ends an expression
abbrev pub closer_mark : Closer → Mark
closer_mark semicolon = mark.Semicolon
closer_mark paren = mark.RightParen

-- an expression that may be left out, as what begins a `for`
abbrev pub for_init : Option Expr → ForInit
for_init None = first.Nothing
for_init (Some e) = first.First e

-- the label of an offset, with the constant of a case or with none
abbrev pub labelled : ℕ → Option Expr → Label
labelled l v = record { offset = l; value = v }

-- the section of some labels and statements
abbrev pub sectioned : List Label → List Stmt → Section
sectioned ls ss = roll-Section (record { labels = ls; body = ss })

-- The Bool says whether the statement ends in an `if` that has no `else`.
pub data Phrase : Type 0 where
  -- an expression or none, up to the closer
  until : Closer → Option Expr → Phrase
  -- a condition in its parentheses
  test : Expr → Phrase
  -- what stands behind the name of a local
  shape : Shape → Phrase
  -- declarators up to the semicolon
  decls : Kind → List Stmt → Phrase
  locals : List Stmt → Phrase
  stmt : Bool → Stmt → Phrase
  -- a statement inside another one
  inner : Bool → Stmt → Phrase
  -- a statement or a declaration inside a compound statement
  entry : List Stmt → Phrase
  -- the first part of a `for`
  init : ForInit → Phrase
  -- entries up to the closing brace
  entries : List Stmt → Phrase
  -- a label with its colon
  label : Label → Phrase
  -- the labels of a section, one at least
  labels : List Label → Phrase
  -- the statements of a section, one at least
  body : List Stmt → Phrase
  section : Section → Phrase
  -- sections up to the closing brace
  sections : List Section → Phrase

-- The tokens from the first list up to the second spell the phrase, which stands at this depth.
pub data Writes (may : May) : Phrase → ℕ → Tokens → Tokens → Type 0 where
  absent : {k d : ℕ} {t : Tokens} → (c : Closer)
      → Writes may (until c None) d (punct k (closer_mark c) ∷ t) t
  given : {k d : ℕ} {e : Expr} {f t : Tokens} → (c : Closer)
      → Spells may (expr expression e) d f (punct k (closer_mark c) ∷ t)
      → Writes may (until c (Some e)) d f t
  tested : {k k' d : ℕ} {e : Expr} {m t : Tokens}
      → Spells may (expr expression e) d m (punct k' mark.RightParen ∷ t)
      → Writes may (test e) d (punct k mark.LeftParen ∷ m) t
  -- 6.7.6, 6.7.9
  bare : {d : ℕ} {t : Tokens} → Writes may (shape (size.Scalar, None)) d t t
  value : {k d : ℕ} {e : Expr} {m t : Tokens} → Spells may (expr assignment e) d m t
      → Writes may (shape (size.Scalar, Some e)) d (punct k mark.Assign ∷ m) t
  array : {k k' d : ℕ} {e : Expr} {m t : Tokens}
      → Spells may (expr conditional e) d m (punct k' mark.RightBracket ∷ t)
      → Writes may (shape (size.Sized e, None)) d (punct k mark.LeftBracket ∷ m) t
  rows : {k k' j j' d : ℕ} {r e : Expr} {m m' t : Tokens}
      → Spells may (expr conditional r) d m
      (punct k' mark.RightBracket ∷ punct j mark.LeftBracket ∷ m')
      → Spells may (expr conditional e) d m' (punct j' mark.RightBracket ∷ t)
      → Writes may (shape (size.Rows (Some r) e, None)) d (punct k mark.LeftBracket ∷ m) t
  last_decl : {l j d : ℕ} {k : Kind} {w : List ℕ} {s : Shape} {m t : Tokens}
      → Writes may (shape s) d m (punct j mark.Semicolon ∷ t)
      → Writes may (decls k (declared l k w s ∷ [])) d (named l w ∷ m) t
  next_decl : {l j d : ℕ} {k : Kind} {w : List ℕ} {s : Shape} {ss : List Stmt} {m m' t : Tokens}
      → Writes may (shape s) d m (punct j mark.Comma ∷ m') → Writes may (decls k ss) d m' t
      → Writes may (decls k (declared l k w s ∷ ss)) d (named l w ∷ m) t
  declaration : {l d : ℕ} {k : Kind} {ss : List Stmt} {f m t : Tokens} → Types l k f m
      → Writes may (decls k ss) d m t
      → Writes may (locals ss) d f t
  inner_is : {d : ℕ} {b : Bool} {s : Stmt} {f t : Tokens} → may f (suc d) ≡ true
      → Writes may (stmt b s) (suc d) f t
      → Writes may (inner b s) d f t
  -- 6.8.2
  entry_stmt : {d : ℕ} {b : Bool} {s : Stmt} {f t : Tokens} → Writes may (inner b s) d f t
      → Writes may (entry (s ∷ [])) d f t
  entry_local : {d : ℕ} {ss : List Stmt} {f t : Tokens} → may f (suc d) ≡ true
      → Writes may (locals ss) (suc d) f t
      → Writes may (entry ss) d f t
  stop : {k d : ℕ} {t : Tokens} → Writes may (entries []) d (punct k mark.RightBrace ∷ t) t
  go : {d : ℕ} {ss rest : List Stmt} {f m t : Tokens} → Writes may (entry ss) d f m
      → Writes may (entries rest) d m t
      → Writes may (entries (ss ++ rest)) d f t
  compound : {l d : ℕ} {ss : List Stmt} {m t : Tokens} → Writes may (entries ss) d m t
      → Writes may (stmt false (at l (node.Compound ss))) d (punct l mark.LeftBrace ∷ m) t
  -- 6.8.3
  empty : {l d : ℕ} {t : Tokens} → Writes may (stmt false (at l (node.Plain None))) d
      (punct l mark.Semicolon ∷ t) t
  plain : {k d : ℕ} {e : Expr} {f t : Tokens}
      → Spells may (expr expression e) d f (punct k mark.Semicolon ∷ t)
      → Writes may (stmt false (at e.offset (node.Plain (Some e)))) d f t
  -- 6.8.4.1
  if_only : {l d : ℕ} {b : Bool} {c : Expr} {aye : Stmt} {m m' t : Tokens}
      → Writes may (test c) d m m'
      → Writes may (inner b aye) d m' t
      → Writes may (stmt true (at l (node.If c aye None))) d (word l key.If ∷ m) t
  if_else : {l k d : ℕ} {b : Bool} {c : Expr} {aye nay : Stmt} {m m' m'' t : Tokens}
      → Writes may (test c) d m m'
      → Writes may (inner false aye) d m' (word k key.Else ∷ m'') → Writes may (inner b nay) d m'' t
      → Writes may (stmt b (at l (node.If c aye (Some nay)))) d (word l key.If ∷ m) t
  -- 6.8.1
  a_case : {l k d : ℕ} {e : Expr} {m t : Tokens}
      → Spells may (expr conditional e) d m (punct k mark.Colon ∷ t)
      → Writes may (label (labelled l (Some e))) d (word l key.Case ∷ m) t
  a_default : {l k d : ℕ} {t : Tokens}
      → Writes may (label (labelled l None)) d (word l key.Default ∷ punct k mark.Colon ∷ t) t
  last_label : {d : ℕ} {x : Label} {f t : Tokens} → Writes may (label x) d f t
      → Writes may (labels (x ∷ [])) d f t
  next_label : {d : ℕ} {x : Label} {xs : List Label} {f m t : Tokens} → Writes may (label x) d f m
      → Writes may (labels xs) d m t
      → Writes may (labels (x ∷ xs)) d f t
  -- 6.8.4.2: a statement of a section stands inside the switch
  last_stmt : {d : ℕ} {b : Bool} {s : Stmt} {f t : Tokens} → Writes may (inner b s) d f t
      → Writes may (body (s ∷ [])) d f t
  next_stmt : {d : ℕ} {b : Bool} {s : Stmt} {ss : List Stmt} {f m t : Tokens}
      → Writes may (inner b s) d f m
      → Writes may (body ss) d m t
      → Writes may (body (s ∷ ss)) d f t
  section_is : {d : ℕ} {ls : List Label} {ss : List Stmt} {f m t : Tokens}
      → Writes may (labels ls) d f m
      → Writes may (body ss) d m t
      → Writes may (section (sectioned ls ss)) d f t
  no_section : {k d : ℕ} {t : Tokens} → Writes may (sections []) d (punct k mark.RightBrace ∷ t) t
  next_section : {d : ℕ} {x : Section} {xs : List Section} {f m t : Tokens}
      → Writes may (section x) d f m
      → Writes may (sections xs) d m t
      → Writes may (sections (x ∷ xs)) d f t
  switch : {l k d : ℕ} {c : Expr} {xs : List Section} {m m' t : Tokens}
      → Writes may (test c) d m (punct k mark.LeftBrace ∷ m')
      → Writes may (sections xs) d m' t
      → Writes may (stmt false (at l (node.Switch c xs))) d (word l key.Switch ∷ m) t
  -- 6.8.5
  while : {l d : ℕ} {b : Bool} {c : Expr} {s : Stmt} {m m' t : Tokens} → Writes may (test c) d m m'
      → Writes may (inner b s) d m' t → Writes may (stmt b (at l (node.While c s))) d
      (word l key.While ∷ m) t
  repeat : {l k k' d : ℕ} {b : Bool} {c : Expr} {s : Stmt} {m m' t : Tokens}
      → Writes may (inner b s) d m (word k key.While ∷ m')
      → Writes may (test c) d m' (punct k' mark.Semicolon ∷ t)
      → Writes may (stmt false (at l (node.Do s c))) d (word l key.Do ∷ m) t
  init_local : {d : ℕ} {ss : List Stmt} {f t : Tokens} → may f (suc d) ≡ true
      → Writes may (locals ss) (suc d) f t
      → Writes may (init (first.Locals ss)) d f t
  init_plain : {d : ℕ} {o : Option Expr} {f t : Tokens} → Writes may (until semicolon o) d f t
      → Writes may (init (for_init o)) d f t
  for : {l k d : ℕ} {b : Bool} {i : ForInit} {s : Stmt} {o o' : Option Expr} {m m1 m2 m3 t : Tokens}
      → Writes may (init i) d m m1 → Writes may (until semicolon o) d m1 m2
      → Writes may (until paren o') d m2 m3
      → Writes may (inner b s) d m3 t
      → Writes may (stmt b (at l (node.For i o o' s))) d
      (word l key.For ∷ punct k mark.LeftParen ∷ m) t
  -- 6.8.6
  break : {l k d : ℕ} {t : Tokens}
      → Writes may (stmt false (at l node.Break)) d
      (word l key.Break ∷ punct k mark.Semicolon ∷ t) t
  continue : {l k d : ℕ} {t : Tokens}
      → Writes may (stmt false (at l node.Continue)) d
      (word l key.Continue ∷ punct k mark.Semicolon ∷ t) t
  return : {l d : ℕ} {o : Option Expr} {m t : Tokens} → Writes may (until semicolon o) d m t
      → Writes may (stmt false (at l (node.Return o))) d (word l key.Return ∷ m) t

-- What token lists spell which expressions (C17 6.5).
use Rattle.std.specs.Prelude.{◌≡◌, ℕ, suc, true, List, [], ◌∷◌, Some, None}
use Rattle.c_tree.specs.declared.token.Form.TheVariants as form
use Rattle.c_tree.specs.declared.token.Mark.TheVariants as mark
use Rattle.c_tree.specs.declared.token.Kind.{Kind}
use Rattle.c_tree.specs.declared.tree.Expr.{Expr}
use Rattle.c_tree.specs.declared.tree.ExprNode.TheVariants as node
use Rattle.c_grammar.specs.Tokens.{Tokens, token, punct, named, May}
use Rattle.c_grammar.specs.Types.{Types}
use Rattle.c_grammar.specs.Operators.{at, told_at, cast_level, conditional, assignment, expression, Joiner}
use Rattle.c_grammar.specs.Operators.{joiner_mark, below, joined, Prefix, prefix_mark}
use Rattle.c_grammar.specs.Operators.{operand_level, prefixed, Suffix, suffix_mark, suffixed}
use Rattle.c_grammar.specs.Operators.{Assigner, assigner_mark, assigner_op}

-- what a part of an expression spells
pub data Phrase : Type 0 where
  -- an expression of a level
  expr : ℕ → Expr → Phrase
  -- arguments up to the closing parenthesis
  args : List Expr → Phrase
  arg_list : List Expr → Phrase

-- The tokens from the first list up to the second spell the phrase, which stands at this depth.
pub data Spells (may : May) : Phrase → ℕ → Tokens → Tokens → Type 0 where
  -- 6.5.1
  number : {l v d : ℕ} {k : Kind} {t : Tokens}
      → Spells may (expr 0 (at l (node.Number v k))) d (token l (form.Number v k) ∷ t) t
  name : {l d : ℕ} {w : List ℕ} {t : Tokens}
      → Spells may (expr 0 (at l (node.Name w))) d (named l w ∷ t) t
  group : {l k d : ℕ} {e : Expr} {m t : Tokens} → may (punct l mark.LeftParen ∷ m) (suc d) ≡ true
      → Spells may (expr expression e) (suc d) m (punct k mark.RightParen ∷ t)
      → Spells may (expr 0 (at l (node.Group e))) d (punct l mark.LeftParen ∷ m) t
  -- 6.5.2.1
  element : {l k k' d : ℕ} {w : List ℕ} {e : Expr} {m t : Tokens}
      → may (punct k mark.LeftBracket ∷ m) (suc d) ≡ true
      → Spells may (expr expression e) (suc d) m (punct k' mark.RightBracket ∷ t)
      → Spells may (expr 0 (at l (node.Element w None e))) d
      (named l w ∷ punct k mark.LeftBracket ∷ m) t
  -- of an array with two sizes; each bracket opens a depth of its own
  row_element : {l k k' j j' d : ℕ} {w : List ℕ} {r e : Expr} {m m' t : Tokens}
      → may (punct k mark.LeftBracket ∷ m) (suc d) ≡ true
      → Spells may (expr expression r) (suc d) m
      (punct k' mark.RightBracket ∷ punct j mark.LeftBracket ∷ m')
      → may (punct j mark.LeftBracket ∷ m') (suc d) ≡ true
      → Spells may (expr expression e) (suc d) m' (punct j' mark.RightBracket ∷ t)
      → Spells may (expr 0 (at l (node.Element w (Some r) e))) d
      (named l w ∷ punct k mark.LeftBracket ∷ m) t
  -- 6.5.2.2
  call : {l k d : ℕ} {w : List ℕ} {es : List Expr} {m t : Tokens}
      → may (punct k mark.LeftParen ∷ m) (suc d) ≡ true
      → Spells may (args es) (suc d) m t
      → Spells may (expr 0 (at l (node.Call w es))) d (named l w ∷ punct k mark.LeftParen ∷ m) t
  none : {k d : ℕ} {t : Tokens} → Spells may (args []) d (punct k mark.RightParen ∷ t) t
  some : {d : ℕ} {es : List Expr} {f t : Tokens} → Spells may (arg_list es) d f t
      → Spells may (args es) d f t
  last : {k d : ℕ} {e : Expr} {f t : Tokens}
      → Spells may (expr assignment e) d f (punct k mark.RightParen ∷ t)
      → Spells may (arg_list (e ∷ [])) d f t
  next : {k d : ℕ} {e : Expr} {es : List Expr} {f m t : Tokens}
      → Spells may (expr assignment e) d f (punct k mark.Comma ∷ m) → Spells may (arg_list es) d m t
      → Spells may (arg_list (e ∷ es)) d f t
  -- 6.5.2.4
  suffix : {k d : ℕ} {e : Expr} {f t : Tokens} → (s : Suffix)
      → Spells may (expr 1 e) d f (punct k (suffix_mark s) ∷ t)
      → Spells may (expr 1 (suffixed k s e)) d f t
  -- 6.5.3.1, 6.5.3.3
  prefix : {l d : ℕ} {e : Expr} {m t : Tokens} → (p : Prefix)
      → may (punct l (prefix_mark p) ∷ m) (suc d) ≡ true
      → Spells may (expr (operand_level p) e) (suc d) m t
      → Spells may (expr 2 (prefixed l p e)) d (punct l (prefix_mark p) ∷ m) t
  -- 6.5.4
  cast : {l j k d : ℕ} {c : Kind} {e : Expr} {m u t : Tokens}
      → may (punct l mark.LeftParen ∷ m) (suc d) ≡ true
      → Types j c m (punct k mark.RightParen ∷ u) → Spells may (expr cast_level e) (suc d) u t
      → Spells may (expr cast_level (at l (node.Cast c e))) d (punct l mark.LeftParen ∷ m) t
  -- 6.5.5 to 6.5.14, 6.5.17
  join : {k d : ℕ} {a b : Expr} {f m t : Tokens} → (j : Joiner)
      → Spells may (expr (suc (below j)) a) d f (punct k (joiner_mark j) ∷ m)
      → Spells may (expr (below j) b) d m t
      → Spells may (expr (suc (below j)) (joined k j a b)) d f t
  -- 6.5.15
  choice : {k k' d : ℕ} {a b c : Expr} {f m m' t : Tokens}
      → Spells may (expr 13 a) d f (punct k mark.Question ∷ m)
      → may (punct k mark.Question ∷ m) (suc d) ≡ true
      → Spells may (expr expression b) (suc d) m (punct k' mark.Colon ∷ m')
      → Spells may (expr conditional c) (suc d) m' t
      → Spells may (expr conditional (told_at a.offset k (node.Choice a b c))) d f t
  -- 6.5.16
  assign : {k d : ℕ} {a b : Expr} {f m t : Tokens} → (s : Assigner)
      → Spells may (expr 2 a) d f (punct k (assigner_mark s) ∷ m)
      → may (punct k (assigner_mark s) ∷ m) (suc d) ≡ true
      → Spells may (expr assignment b) (suc d) m t
      → Spells may (expr assignment (told_at a.offset k (node.Assign (assigner_op s) a b))) d f t
  -- an expression of a level is one of each looser level
  up : {n d : ℕ} {e : Expr} {f t : Tokens} → Spells may (expr n e) d f t
      → Spells may (expr (suc n) e) d f t

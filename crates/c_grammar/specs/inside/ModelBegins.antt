-- What statements and labels may begin with, and what the parser of statements finds one deeper.
use Rattle.std.specs.Prelude.{Bool, true, false, List}
use Rattle.c_tree.specs.declared.token.Form.{Form}
use Rattle.c_tree.specs.declared.token.Form.TheVariants as form
use Rattle.c_tree.specs.declared.token.Mark.TheVariants as mark
use Rattle.c_tree.specs.declared.token.Key.TheVariants as key
use Rattle.c_tree.specs.declared.tree.Stmt.{Stmt}
use Rattle.c_grammar.specs.Tokens.{Tokens}
use Rattle.c_grammar.specs.inside.Parsing.{Out}

-- can an expression begin with it?
abbrev pub begins_expression : Form → Bool
begins_expression (form.Name w) = true
begins_expression (form.Number v k) = true
begins_expression (form.Mark mark.LeftParen) = true
begins_expression (form.Mark mark.Plus) = true
begins_expression (form.Mark mark.Minus) = true
begins_expression (form.Mark mark.Tilde) = true
begins_expression (form.Mark mark.Not) = true
begins_expression (form.Mark mark.PlusPlus) = true
begins_expression (form.Mark mark.MinusMinus) = true
begins_expression _ = false

-- can a statement begin with it?
abbrev pub begins_statement : Form → Bool
begins_statement (form.Key key.If) = true
begins_statement (form.Key key.While) = true
begins_statement (form.Key key.Do) = true
begins_statement (form.Key key.For) = true
begins_statement (form.Key key.Switch) = true
begins_statement (form.Key key.Break) = true
begins_statement (form.Key key.Continue) = true
begins_statement (form.Key key.Return) = true
begins_statement (form.Mark mark.LeftBrace) = true
begins_statement (form.Mark mark.Semicolon) = true
begins_statement f = begins_expression f

-- can a label begin with it?
abbrev pub begins_label : Form → Bool
begins_label (form.Key key.Case) = true
begins_label (form.Key key.Default) = true
begins_label _ = false

-- the statement and the declaration one deeper
pub record Below : Type 0 where
  pub inner : Tokens → Out Stmt
  -- with its semicolon
  pub locals : Tokens → Out (List Stmt)

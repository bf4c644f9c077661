-- The model of the parser of `switch`, with its labels and sections.
use Rattle.std.specs.Prelude.{suc, if◌then◌else◌, List, [], ◌∷◌, length, Some, None, Ok}
use Rattle.c_tree.specs.declared.token.Mark.TheVariants as mark
use Rattle.c_tree.specs.declared.token.Key.TheVariants as key
use Rattle.c_tree.specs.declared.tree.Label.{Label}
use Rattle.c_tree.specs.declared.tree.Section.{Section}
use Rattle.c_tree.specs.declared.tree.Stmt.{Stmt}
use Rattle.c_tree.specs.declared.tree.StmtNode.TheVariants as node
use Rattle.c_grammar.specs.Tokens.{Tokens}
use Rattle.c_grammar.specs.Statements.{at, labelled, sectioned}
use Rattle.c_grammar.specs.inside.Parsing.{Out, and_then, is_word, expect, expect_keyword, many}
use Rattle.c_grammar.specs.inside.Parsing.{repeated}
use Rattle.c_grammar.specs.inside.ModelDepth.{Nested}
use Rattle.c_grammar.specs.inside.ModelExpressions.{conditional_of}
use Rattle.c_grammar.specs.inside.ModelBegins.{begins_statement, begins_label, Below}
use Rattle.c_grammar.specs.inside.ModelConditions.{test_of}

module _ (nested : Nested) where
  -- takes a case and its colon
  unfoldable pub case_of : Tokens → Out Label
  case_of ts =
      and_then (expect_keyword key.Case ts) (λ l ts.
      and_then (conditional_of nested ts) (λ e ts.
      and_then (expect mark.Colon ts) (λ _ ts. Ok (labelled l (Some e), ts))))

  -- takes `default` and its colon
  unfoldable pub default_of : Tokens → Out Label
  default_of ts = and_then (expect_keyword key.Default ts)
      (λ l ts. and_then (expect mark.Colon ts) (λ _ ts. Ok (labelled l None, ts)))

  -- takes a label
  unfoldable pub label_of : Tokens → Out Label
  label_of ts = if is_word key.Case ts then case_of ts else default_of ts

  -- takes the labels of a section
  unfoldable pub labels_of : Tokens → Out (List Label)
  labels_of ts = repeated begins_label label_of (suc (length ts)) ts

  module _ (below : Below) where
    -- takes the statements of a section
    unfoldable pub body_of : Tokens → Out (List Stmt)
    body_of ts = repeated begins_statement below.inner (suc (length ts)) ts

    -- takes a section, as a list of one
    unfoldable pub section_of : Tokens → Out (List Section)
    section_of ts = and_then (labels_of ts)
        (λ ls ts. and_then (body_of ts) (λ ss ts. Ok (sectioned ls ss ∷ [], ts)))

    -- takes the sections of a switch
    unfoldable pub sections_of : Tokens → Out (List Section)
    sections_of ts = many mark.RightBrace section_of (suc (length ts)) ts

    -- takes a `switch`
    unfoldable pub switch_of : Tokens → Out Stmt
    switch_of ts =
        and_then (expect_keyword key.Switch ts) (λ l ts.
        and_then (test_of nested ts) (λ c ts.
        and_then (expect mark.LeftBrace ts) (λ _ ts.
        and_then (sections_of ts) (λ xs ts. Ok (at l (node.Switch c xs), ts)))))

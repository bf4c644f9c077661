-- Lists of which the first item was read already.
use Rattle.std.specs.Prelude.{suc, false, List, length}
use Rattle.c_tree.specs.declared.token.Kind.{Kind}
use Rattle.c_tree.specs.declared.token.Mark.TheVariants as mark
use Rattle.c_tree.specs.declared.tree.Top.{Top}
use Rattle.c_grammar.specs.Tokens.{Tokens}
use Rattle.c_grammar.specs.inside.Parsing.{Out, listed}
use Rattle.c_grammar.specs.inside.ModelDepth.{Nested}
use Rattle.c_grammar.specs.inside.ModelGlobals.{global_of}

-- globals up to the semicolon
unfoldable pub global_list_of : Nested → Kind → Tokens → Out (List Top)
global_list_of nested k ts = listed mark.Semicolon false (global_of nested k) (suc (length ts)) ts

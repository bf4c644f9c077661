use Rattle.std.proofs.Common.{◌≡◌, ◌++◌, map, length}
use Rattle.c_tree.specs.declared.Lexeme.{Lexeme}
use Rattle.c_pre.proofs.lines.forms_of.Given as goal

abbrev pub invariant-loop-rest : goal.invariant-loop-rest
invariant-loop-rest l = map (λ (t : Lexeme). t.form) l.fn.tokens ≡ l.forms ++ map (λ (t : Lexeme). t.form) l.rest

abbrev pub decreases-loop-rest : goal.decreases-loop-rest
decreases-loop-rest l = length l.rest

-- Beside what is believed of Answers.antt: what is answered of a list of tokens.
use Rattle.std.specs.Prelude.{◌≡◌, ℕ, List}
use Rattle.c_tree.specs.declared.tree.Top.{Top}
use Rattle.c_grammar.specs.Tokens.{Tokens}
use Rattle.c_grammar.specs.Accepted.{Spelled, IsUnit, UnitIs}
use Rattle.c_grammar.specs.Answers.{HasSyntaxFault, IsTooDeep}

-- a tree, or one of the two faults with its offset
pub data Answer : Type 0 where
  tree : List Top → Answer
  syntax : ℕ → Answer
  too_deep : ℕ → Answer

-- the answer is right of the tokens
abbrev pub Answers : Tokens → Answer → Type 0
Answers tokens (tree xs) = IsUnit tokens xs
Answers tokens (syntax l) = HasSyntaxFault tokens l
Answers tokens (too_deep l) = IsTooDeep tokens l

-- a list of tokens has at most one tree, whatever depth is allowed
abbrev pub OneTree : Type 0
OneTree = (m : ℕ) (tokens : Tokens) (xs ys : List Top) → Spelled UnitIs m xs tokens
    → Spelled UnitIs m ys tokens → xs ≡ ys

-- every list of tokens has an answer, and only one
abbrev pub OneAnswer : Type 0
OneAnswer = (tokens : Tokens) → (a : Answer) × Answers tokens a
    × ((b : Answer) → Answers tokens b → b ≡ a)

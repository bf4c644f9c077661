-- Which token lists are accepted: those that spell a unit of which no construct is too deep.
use Rattle.std.specs.Prelude.{ℕ, [], List}
use Rattle.c_grammar.specs.Tokens.{Tokens, May, within}
use Rattle.c_tree.specs.Limits.{most_nesting}
use Rattle.c_tree.specs.declared.tree.Top.{Top}
use Rattle.c_grammar.specs.Units.{Units, unit}

-- the tokens from the first list up to the second spell the tree, under a test of openers
abbrev pub Rel : Type 0 → Type 1
Rel X = May → X → Tokens → Tokens → Type 0

module _ {X : Type 0} (R : Rel X) where
  -- all tokens spell the tree, and none opens a depth beyond m
  abbrev pub Spelled : ℕ → X → Tokens → Type 0
  Spelled m x tokens = R (within m) x tokens []

-- the deepest construct
abbrev pub limit : ℕ
limit = most_nesting

-- the tokens between two places spell a unit
abbrev pub UnitIs : Rel (List Top)
UnitIs may xs f t = Units may (unit xs) f t

-- the tokens spell the unit, and no construct of it is too deep
abbrev pub IsUnit : Tokens → List Top → Type 0
IsUnit tokens xs = Spelled UnitIs limit xs tokens

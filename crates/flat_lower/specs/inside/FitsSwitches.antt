-- What the labels and the sections of a switch are, and what may stand around a `continue`.
use Rattle.std.specs.Prelude.{ℕ, zero, suc, ◌+◌, List, [], ◌∷◌, Option, Some, None}
use Rattle.c_tree.specs.declared.Kind.{Kind}
use Rattle.c_constant.specs.Kinds.{IsWord}
use Rattle.flat_lower.specs.inside.Tree.{Stmts, NoStmts, WithStmt, Sections, NoSections, WithSection}
use Rattle.flat_lower.specs.declared.around.Around.{Around}
use Rattle.flat_lower.specs.declared.around.Around.TheVariants as around

-- a case label is a word of the type of the test
abbrev pub FitsLabel : Option Kind → Option ℕ → Type 0
FitsLabel k None = Unit {0}
FitsLabel None (Some w) = ⊥
FitsLabel (Some k) (Some w) = IsWord k w

-- the labels of a section
abbrev pub FitsLabels : Option Kind → List (Option ℕ) → Type 0
FitsLabels k [] = Unit {0}
FitsLabels k (l ∷ ls) = FitsLabel k l × FitsLabels k ls

-- how many of the labels are those of cases
abbrev pub case_count : List (Option ℕ) → ℕ
case_count [] = 0
case_count (None ∷ ls) = case_count ls
case_count (Some w ∷ ls) = suc (case_count ls)

-- one, where there is none
abbrev pub one_if_none : ℕ → ℕ
one_if_none zero = 1
one_if_none (suc n) = 0

-- how many sections have no label of a case
abbrev pub free_sections : Sections → ℕ
free_sections NoSections = 0
free_sections (WithSection ls body rest) = one_if_none (case_count ls) + free_sections rest

-- there is a statement
abbrev pub IsFilled : Stmts → Type 0
IsFilled NoStmts = ⊥
IsFilled (WithStmt s rest) = Unit {0}

-- there is a label
abbrev pub IsLabelled : List (Option ℕ) → Type 0
IsLabelled [] = ⊥
IsLabelled (l ∷ ls) = Unit {0}

-- a continue has a loop to go on with
abbrev pub IsLooped : Around → Type 0
IsLooped around.Nowhere = ⊥
IsLooped around.Loop = Unit {0}
IsLooped around.Switch = ⊥
IsLooped around.SwitchInLoop = Unit {0}

-- how many labels of cases there are
abbrev pub cases_in : Sections → ℕ
cases_in NoSections = 0
cases_in (WithSection ls body rest) = case_count ls + cases_in rest

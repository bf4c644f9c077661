-- The flat code that compares the value of a switch, in temporary 0, with its labels in their order. The labels of a
-- section are compared by threes: an if for each three, and one for those that are left.
use Rattle.std.specs.Prelude.{ℕ, suc, List, [], ◌∷◌, Option, Some, None}
use Rattle.trips_isa.specs.declared.op.Op.TheVariants as op
use Rattle.ir_forms.specs.declared.flat.Arg.TheVariants.{Const, Var}
use Rattle.ir_forms.specs.inside.FlatCode.{Code, Nop, Then, only, Let, If}
use Rattle.ir_forms.specs.inside.FlatCode as flat
use Rattle.flat_lower.specs.inside.Tree.{Sections, NoSections, WithSection}
use Rattle.flat_lower.specs.inside.Operations.{temp, scratch, set_word}
use Rattle.flat_lower.specs.declared.held.Held.{Held}
use Rattle.flat_lower.specs.declared.held.Held.TheVariants as held

-- so many sections are skipped
abbrev pub found_code : ℕ → Code
found_code n = Then (set_word (temp 0) n) (only flat.Break)

-- whether a label is equal, in a scratch variable
abbrev pub equal_code : ℕ → ℕ → Code
equal_code s w = only (Let (scratch s) op.Teq (Var (temp 0)) (Const w))

-- whether a label, or one before it, is equal
abbrev pub either_code : ℕ → Code
either_code w = Then (equal_code 1 w) (only (Let (scratch 0) op.Or (Var (scratch 0)) (Var (scratch 1))))

-- a label that is equal ends the comparing
abbrev pub choice_code : ℕ → Code
choice_code n = only (If (Var (scratch 0)) (found_code n) Nop)

-- a label of a case of the section behind n others, by how many of its three are compared
abbrev pub case_code : Held → ℕ → ℕ → Code
case_code held.Zero n w = equal_code 0 w
case_code held.One n w = either_code w
case_code held.Two n w = Then (either_code w) (choice_code n)

-- how many of a three are compared with one more
abbrev pub one_more : Held → Held
one_more held.Zero = held.One
one_more held.One = held.Two
one_more held.Two = held.Zero

-- a label, which is that of a case or `default`
abbrev pub label_code : Held → ℕ → Option ℕ → Code
label_code h n None = Nop
label_code h n (Some w) = case_code h n w

-- how many of a three are compared behind a label
abbrev pub held_behind : Held → Option ℕ → Held
held_behind h None = h
held_behind h (Some w) = one_more h

-- at the end of a section those that are left decide
abbrev pub held_code : Held → ℕ → Code
held_code held.Zero n = Nop
held_code held.One n = choice_code n
held_code held.Two n = choice_code n

-- the labels of a section, of whose first three so many are compared
abbrev pub labels_code : Held → ℕ → List (Option ℕ) → Code
labels_code h n [] = held_code h n
labels_code h n (l ∷ ls) = Then (label_code h n l) (labels_code (held_behind h l) n ls)

-- the labels of all sections
abbrev pub compared_code : ℕ → Sections → Code
compared_code n NoSections = Nop
compared_code n (WithSection ls body rest) = Then (labels_code held.Zero n ls) (compared_code (suc n) rest)

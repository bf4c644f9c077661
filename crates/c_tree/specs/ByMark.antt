-- The operator that a mark is, looked up in the table of operators.
use Rattle.std.specs.Prelude.{ℕ, Bool, false, nat_eq, if◌then◌else◌, List, [], ◌∷◌, Option, Some, None}
use Rattle.c_tree.specs.declared.token.Mark.{Mark}
use Rattle.c_tree.specs.declared.token.Mark.TheVariants as mark
use Rattle.c_tree.specs.declared.tree.BinaryOp.{BinaryOp}
use Rattle.c_tree.specs.Marks.{operator, operators, mark_number}

-- the operator whose mark has this number
abbrev pub by_number : ℕ → List BinaryOp → Option BinaryOp
by_number n [] = None
by_number n (o ∷ os) = if nat_eq (mark_number (operator o).token) n then Some o else by_number n os

-- the operator that a mark is between two operands
abbrev pub marked_operator : Mark → Option BinaryOp
marked_operator m = by_number (mark_number m) operators

-- has the mark, if there is one, this number?
abbrev pub is_numbered : ℕ → Option Mark → Bool
is_numbered n None = false
is_numbered n (Some m) = nat_eq (mark_number m) n

-- the operator whose compound assignment has this number
abbrev pub by_compound : ℕ → List BinaryOp → Option BinaryOp
by_compound n [] = None
by_compound n (o ∷ os) = if is_numbered n (operator o).compound then Some o else by_compound n os

-- an operator with its level
abbrev pub with_level : Option BinaryOp → Option (ℕ × BinaryOp)
with_level None = None
with_level (Some o) = Some ((operator o).level, o)

-- the operator that a mark is between two operands, and how many levels above a cast its right side is
abbrev pub joined_by : Mark → Option (ℕ × BinaryOp)
joined_by m = with_level (marked_operator m)

-- the operator of a compound assignment
abbrev pub computed : Option BinaryOp → Option (Option BinaryOp)
computed None = None
computed (Some o) = Some (Some o)

-- the operator of the assignment that a mark is: none for `=`, and that of a compound one
abbrev pub assigned_by : Mark → Option (Option BinaryOp)
assigned_by m =
    if nat_eq (mark_number mark.Assign) (mark_number m) then Some None
    else computed (by_compound (mark_number m) operators)

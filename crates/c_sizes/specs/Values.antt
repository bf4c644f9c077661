-- What an expression comes to whose operands are known (C17 6.5).
use Rattle.std.specs.Prelude.{ℕ, zero, suc, Bool, true, false, ◌&&◌, nat_eq, if◌then◌else◌, List, [], ◌∷◌}
use Rattle.std.specs.Prelude.{Option, Some, None}
use Rattle.c_tree.specs.declared.Form.{Form}
use Rattle.c_tree.specs.declared.Form.TheVariants as form
use Rattle.c_tree.specs.declared.Mark.TheVariants as mark
use Rattle.c_lex.specs.Bytes.{Bytes}
use Rattle.c_lex.specs.Lexes.{Tokens}
use Rattle.c_locals.specs.Brackets.{Parts, split}
use Rattle.c_sizes.specs.declared.cut.Rule.{Rule}
use Rattle.c_sizes.specs.declared.cut.Rule.TheVariants as rule
use Rattle.c_sizes.specs.declared.known.Known.{Known}
use Rattle.c_sizes.specs.declared.outcome.Outcome.{Outcome}
use Rattle.c_sizes.specs.declared.outcome.Outcome.TheVariants as outcome
use Rattle.c_sizes.specs.declared.shape.Shape.{Shape}
use Rattle.c_sizes.specs.declared.width.Width.{Width}
use Rattle.c_sizes.specs.declared.width.Width.TheVariants as width
use Rattle.c_sizes.specs.Behinds.{is_one_step}
use Rattle.c_sizes.specs.Cuts.{cut}
use Rattle.c_sizes.specs.Firsts.{begins, rest, is_empty}
use Rattle.c_sizes.specs.Indexes.{Indexed, indexed, are_known}
use Rattle.c_sizes.specs.Outcomes as outcomes
use Rattle.c_sizes.specs.Scopes.{find}
use Rattle.c_sizes.specs.Widths.{of_kind, of_bytes, of_constant}

-- OBJECTS

-- an object for whose size these tokens stand: only that of an array has more than one
abbrev pub of_forms : List Form → Option Outcome
of_forms [] = None
of_forms (f ∷ []) = outcomes.object (of_constant f)
of_forms (f ∷ g ∷ gs) = Some outcome.Array

-- the whole of an object: an array has rows or elements
abbrev pub of_whole : List Form → List Form → Option Outcome
of_whole fs [] = of_forms fs
of_whole fs (g ∷ gs) = Some outcome.Array

-- with so many indexes
abbrev pub of_shape : ℕ → Shape → Option Outcome
of_shape n s =
    if nat_eq n 0 then of_whole s.whole s.row else if nat_eq n 1 then of_forms s.row else of_forms s.element

-- a name that is known or not
abbrev pub of_found : ℕ → Option Shape → Option Outcome
of_found n None = None
of_found n (Some s) = of_shape n s

-- a name with indexes, behind which nothing stands, or `++` or `--` (6.5.2.4)
abbrev pub of_name : Known → Bytes → Indexed → Option Outcome
of_name k w (n, []) = of_found n (find w k)
of_name k w (n, t ∷ ts) =
    if is_one_step (t ∷ ts) then outcomes.number (outcomes.place (of_found n (find w k))) else None

-- CALLS

-- what a function gives whose result has so many bytes; that of a void function has none
abbrev pub of_result : Option ℕ → Option Outcome
of_result None = None
of_result (Some n) = if nat_eq n 0 then Some outcome.Void else outcomes.number (of_bytes n)

-- what a call of a name gives, which is known or not
abbrev pub of_called : Option Shape → Option Outcome
of_called None = None
of_called (Some s) = of_result s.result

-- of a name before these arguments, which are not judged further, and what stands behind their parentheses (6.5.2.2)
abbrev pub called : Known → Bytes → Option Parts → Option Outcome
called k w None = None
called k w (Some (a, b)) = if are_known k a && is_empty b then of_called (find w k) else None

-- a name and what stands behind it
abbrev pub named : Known → Bytes → Tokens → Option Outcome
named k w ts =
    if begins mark.LeftParen ts then called k w (split mark.RightParen (rest ts)) else of_name k w (indexed k ts)

-- a constant alone (6.4.4), an object or a call
abbrev pub atom_by : Known → Form → Tokens → Option Outcome
atom_by k (form.Number n j) [] = Some (outcome.Number (of_kind j))
atom_by k (form.Name w) ts = named k w ts
atom_by k f ts = None

abbrev pub atom : Known → Tokens → Option Outcome
atom k [] = None
atom k (t ∷ ts) = atom_by k t.form ts

-- EXPRESSIONS

-- by the rule, of what the operands come to
abbrev pub joined : Rule → Option Outcome → Option Outcome → Option Outcome → Option Outcome
joined rule.Alone a b c = None
joined rule.Same a b c = b
joined rule.Promoted a b c = outcomes.number (outcomes.if_promoted (outcomes.size b))
joined rule.Negated a b c = outcomes.number (outcomes.if_known (outcomes.size b) (Some width.Four))
joined (rule.Cast w) a b c = outcomes.number (outcomes.if_known (outcomes.size b) (Some w))
joined rule.Stepped a b c = outcomes.number (outcomes.place b)
joined rule.Measured a b c = outcomes.measured b
joined rule.Assigned a b c = outcomes.number (outcomes.if_known (outcomes.size b) (outcomes.place a))
joined rule.Truth a b c =
    outcomes.number (outcomes.if_known (outcomes.size a) (outcomes.if_known (outcomes.size b) (Some width.Four)))
joined rule.Left a b c = outcomes.number (outcomes.if_known (outcomes.size b) (outcomes.if_promoted (outcomes.size a)))
joined rule.Larger a b c = outcomes.number (outcomes.if_larger (outcomes.size a) (outcomes.size b))
joined rule.Choice a b c = outcomes.chosen (outcomes.size a) b c
joined rule.Last a b c = outcomes.last a b

-- is it no operator and no group?
abbrev pub is_alone : Rule → Bool
is_alone rule.Alone = true
is_alone _ = false

-- What an expression comes to with so many operators and groups one in another at most: nothing of what is not known
-- to have an outcome.
abbrev pub value : ℕ → Known → Tokens → Option Outcome
value zero k ts = None
value (suc n) k ts =
    if is_alone (cut ts).0 then atom k ts
    else joined (cut ts).0 (value n k (cut ts).1.0) (value n k (cut ts).1.1.0) (value n k (cut ts).1.1.1)

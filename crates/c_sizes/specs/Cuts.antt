-- An expression, cut at the operator that binds lowest (C17 6.5).
use Rattle.std.specs.Prelude.{ℕ, ◌+◌, ◌||◌, nat_eq, if◌then◌else◌, [], ◌∷◌, Option, Some, None, take, drop}
use Rattle.c_tree.specs.declared.Form.{Form}
use Rattle.c_tree.specs.declared.Form.TheVariants as form
use Rattle.c_tree.specs.declared.Key.TheVariants as key
use Rattle.c_tree.specs.declared.Mark.{Mark}
use Rattle.c_tree.specs.declared.Mark.TheVariants as mark
use Rattle.c_lex.specs.Lexes.{Tokens}
use Rattle.c_locals.specs.Brackets.{Parts, split}
use Rattle.c_sizes.specs.declared.cut.Rule.{Rule}
use Rattle.c_sizes.specs.declared.cut.Rule.TheVariants as rule
use Rattle.c_sizes.specs.declared.width.Width.{Width}
use Rattle.c_sizes.specs.Behinds.{is_one_step}
use Rattle.c_sizes.specs.Operators.{Found, rank, lowest}
use Rattle.c_sizes.specs.Widths.{of_type}

-- The rule for the size of an expression, and its operands: only `? :` has three, and there is no first one before a
-- prefix.
abbrev pub Cut : Type 0
Cut = Rule × (Tokens × (Tokens × Tokens))

-- neither an operator nor a group
abbrev pub uncut : Cut
uncut = (rule.Alone, ([], ([], [])))

-- with one operand
abbrev pub of_one : Rule → Tokens → Cut
of_one r ts = (r, ([], (ts, [])))

-- the rule for an operator of two operands (6.5.5 to 6.5.17)
abbrev pub by_rank : ℕ → Rule
by_rank n =
    if nat_eq n 1 then rule.Alone
    else if nat_eq n 2 then rule.Last
    else if nat_eq n 3 then rule.Assigned
    else if nat_eq n 5 || (nat_eq n 6 || (nat_eq n 10 || nat_eq n 11)) then rule.Truth
    else if nat_eq n 12 then rule.Left else rule.Larger

-- a condition, and its arms around the `:`
abbrev pub with_arms : Tokens → Tokens → Found → Cut
with_arms a ts (Some (mark.Colon, n)) = (rule.Choice, (a, (take n ts, drop (n + 1) ts)))
with_arms a ts _ = uncut

-- an operator between these
abbrev pub between : Mark → Tokens → Tokens → Cut
between mark.Question a b = with_arms a b (lowest b)
between m a b = (by_rank (rank m), (a, (b, [])))

-- behind this type in parentheses, or something else
abbrev pub converted : Option Width → Tokens → Cut
converted None ts = uncut
converted (Some w) ts = of_one (rule.Cast w) ts

-- in parentheses, before these, of which the first is none that counts by one alone
abbrev pub group_before : Tokens → Tokens → Cut
group_before a [] = of_one rule.Same a
group_before a (t ∷ ts) = if is_one_step (t ∷ ts) then of_one rule.Stepped a else converted (of_type a) (t ∷ ts)

abbrev pub group : Option Parts → Cut
group None = uncut
group (Some (a, b)) = group_before a b

-- behind a punctuator that stands first (6.5.3.1, 6.5.3.3, 6.5.4)
abbrev pub by_mark : Mark → Tokens → Cut
by_mark mark.Plus ts = of_one rule.Promoted ts
by_mark mark.Minus ts = of_one rule.Promoted ts
by_mark mark.Tilde ts = of_one rule.Promoted ts
by_mark mark.Not ts = of_one rule.Negated ts
by_mark mark.PlusPlus ts = of_one rule.Stepped ts
by_mark mark.MinusMinus ts = of_one rule.Stepped ts
by_mark mark.LeftParen ts = group (split mark.RightParen ts)
by_mark _ ts = uncut

-- behind a token that stands first
abbrev pub by_first : Form → Tokens → Cut
by_first (form.Mark m) ts = by_mark m ts
by_first (form.Key key.Sizeof) ts = of_one rule.Measured ts
by_first _ ts = uncut

-- without an operator of two operands
abbrev pub single : Tokens → Cut
single [] = uncut
single (t ∷ ts) = by_first t.form ts

abbrev pub by_lowest : Tokens → Found → Cut
by_lowest ts None = single ts
by_lowest ts (Some (m, n)) = between m (take n ts) (drop (n + 1) ts)

abbrev pub cut : Tokens → Cut
cut ts = by_lowest ts (lowest ts)

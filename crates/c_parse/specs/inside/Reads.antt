-- What the parser's methods ensure: they compute the model, unless memory runs out.
use Rattle.std.specs.Prelude.{◌≡◌, ◌≤◌, ◌<◌, ℕ, suc, true, List}
use Rattle.std.specs.Prelude.{◌++◌, Option, Some, None, Result, Ok, Err}
use Rattle.c_tree.specs.declared.token.Form.{Form}
use Rattle.c_tree.specs.declared.token.Form.TheVariants as form
use Rattle.c_tree.specs.declared.token.Mark.{Mark}
use Rattle.c_tree.specs.declared.tree.BinaryOp.{BinaryOp}
use Rattle.c_tree.specs.declared.tree.BumpOp.{BumpOp}
use Rattle.c_tree.specs.declared.tree.BumpOp.TheVariants as bump
use Rattle.c_tree.specs.declared.tree.UnaryOp.TheVariants as unary
use Rattle.c_tree.specs.ByMark.{joined_by}
use Rattle.c_grammar.specs.Tokens.{Tokens}
use Rattle.c_grammar.specs.Operators.{Joiner, op, comma, Prefix, sign, increase}
use Rattle.c_grammar.specs.inside.Operators.{binary_level}
use Rattle.c_grammar.specs.Operators.{decrease, Suffix, increased, decreased, Assigner}
use Rattle.c_grammar.specs.Operators.{assigner_mark, assigner_op}
use Rattle.c_grammar.specs.inside.Parsing.{Out, and_then, syntax, too_deep, offset_of}
use Rattle.c_grammar.specs.inside.ModelExpressions.{inside, unary_of, cast_of, conditional_of}
use Rattle.c_grammar.specs.inside.ModelExpressions.{assignment_of, expression_of}
use Rattle.c_grammar.specs.inside.ModelDepth.{Nested, enter}
use Rattle.c_grammar.specs.inside.ModelOperators.{joiner, seen}
use Rattle.c_parse.specs.declared.primary.Before.{Before}
use Rattle.c_parse.specs.declared.primary.Before.TheVariants as befores
use Rattle.c_parse.specs.declared.fault.Stopped.{Stopped}
use Rattle.c_parse.specs.declared.fault.Stopped.TheVariants.{Syntax, TooDeep, Memory}

-- the method stops where the model does, unless memory runs out
abbrev pub Fails : {A : Type 0} → Out A → Stopped → Tokens → Type 0
Fails out Syntax new = out ≡ syntax new
Fails out TooDeep new = out ≡ too_deep new
Fails out Memory new = Unit {0}

-- the method gives what the model does, and leaves the same tokens
abbrev pub Reads : {A : Type 0} → Out A → Result A Stopped → Tokens → Type 0
Reads out (Ok a) new = out ≡ Ok (a, new)
Reads out (Err e) new = Fails out e new

-- what stands inside, where one more depth may be opened than below
abbrev pub opened : ℕ → Nested
opened l = record {
  allowed = true;
  unary = unary_of (inside l);
  cast = cast_of (inside l);
  conditional = conditional_of (inside l);
  assignment = assignment_of (inside l);
  expression = expression_of (inside l);
}

-- a mark that opens a depth was taken
abbrev pub Enters : Mark → ℕ → Tokens → Result ℕ Stopped → Tokens → Type 0
Enters k left old (Ok l) new =
    (left ≡ suc l) × (inside left ≡ opened l) × (enter k (inside left) old ≡ Ok (offset_of old, new))
Enters k left old (Err e) new = Fails (enter k (inside left) old) e new

-- the operator of a joiner that is no comma
abbrev pub operator_of : Option Joiner → Option BinaryOp
operator_of None = None
operator_of (Some comma) = None
operator_of (Some (op o)) = Some o

-- the operator that comes next, if phrases so many levels above a cast join by it
abbrev pub operator_at : ℕ → Tokens → Option BinaryOp
operator_at n ts = operator_of (seen (joiner (binary_level n)) ts)

-- the suffix that a token is
abbrev pub IsSuffix : Option BumpOp → Option Suffix → Type 0
IsSuffix (Some bump.PostInc) o = o ≡ Some increased
IsSuffix (Some bump.PostDec) o = o ≡ Some decreased
IsSuffix (Some _) o = ⊥
IsSuffix None o = o ≡ None

-- the prefix that a token is
abbrev pub IsPrefix : Option Before → Option Prefix → Type 0
IsPrefix (Some befores.Plus) o = o ≡ Some (sign unary.Plus)
IsPrefix (Some befores.Minus) o = o ≡ Some (sign unary.Minus)
IsPrefix (Some befores.Complement) o = o ≡ Some (sign unary.Complement)
IsPrefix (Some befores.Not) o = o ≡ Some (sign unary.Not)
IsPrefix (Some befores.Increase) o = o ≡ Some increase
IsPrefix (Some befores.Decrease) o = o ≡ Some decrease
IsPrefix None o = o ≡ None

-- the mark and the operator of an assignment
abbrev pub IsAssigner : Option (Mark × Option BinaryOp) → Option Assigner → Type 0
IsAssigner None o = o ≡ None
IsAssigner (Some p) None = ⊥
IsAssigner (Some p) (Some s) = (p.0 ≡ assigner_mark s) × (p.1 ≡ assigner_op s)

-- a binary operator, and how many levels above a cast its right side is
abbrev pub joins_by : Form → Option (ℕ × BinaryOp)
joins_by (form.Mark m) = joined_by m
joins_by _ = None

-- no operator of the levels from `b` to before `n` is found
abbrev pub Outside : ℕ → ℕ → Option (ℕ × BinaryOp) → Type 0
Outside b n found = (p : ℕ × BinaryOp) → found ≡ Some p → b ≤ p.0 → p.0 < n → ⊥

-- an operator of these levels is found
abbrev pub Inside : ℕ → ℕ → Option (ℕ × BinaryOp) → ℕ × BinaryOp → Type 0
Inside b n found p = (found ≡ Some p) × (b ≤ p.0) × (p.0 < n)

-- what a loop has found, and what it will still find
abbrev pub behind : {A : Type 0} → List A → Out (List A) → Out (List A)
behind found out = and_then out (λ xs ts. Ok (found ++ xs, ts))

-- the method puts what the model gives behind what was found, and leaves the same tokens
abbrev pub Puts : {A : Type 0} → Out (List A) → List A → List A → Result (Unit {0}) Stopped → Tokens → Type 0
Puts out old new (Ok done) ts = behind old out ≡ Ok (new, ts)
Puts out old new (Err e) ts = Fails (behind old out) e ts

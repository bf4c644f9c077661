-- What the outcome of the model says of the tokens.
use Rattle.std.proofs.Common.{◌≡◌, ℕ, suc, ◌-◌, ◌≤◌, List, [], ◌∷◌, length, get_or, Result, Ok, Err, sym, ap, ◌∙◌}
use Rattle.std.proofs.Common.{subst, arith}
use Rattle.c_tree.specs.declared.token.Lexeme.{Lexeme}
use Rattle.c_tree.specs.declared.tree.Top.{Top}
use Rattle.c_grammar.specs.Tokens.{Tokens}
use Rattle.c_grammar.specs.inside.Parsing.{Out, syntax, too_deep}
use Rattle.c_grammar.specs.inside.ModelUnits.{unit_of}
use Rattle.c_grammar.specs.inside.Places.{Exact, settle}
use Rattle.c_grammar.specs.Answers.{last_offset, HasSyntaxFault, wrong_token, too_short, opener}
use Rattle.c_grammar.specs.Accepted.{limit, UnitIs, IsUnit}
use Rattle.c_grammar.proofs.Parsed.{unit_exact}
use Rattle.c_parse.specs.inside.Parses.{ParseFails, fault_offset, depth_fault}
use Rattle.c_parse.specs.inside.Reads.{Reads}
use Rattle.c_parse.specs.declared.fault.Stopped.{Stopped}
use Rattle.c_parse.specs.declared.fault.Stopped.TheVariants as stopped
use Rattle.c_parse.specs.declared.unit.ParseFault.{ParseFault}

-- the model's outcome, settled, is exact
exact_here : (tokens : Tokens) (out : Out (List Top)) → unit_of 63 tokens ≡ out
    → Exact UnitIs limit tokens (settle out)
exact_here tokens out e = subst (λ (o : Out (List Top)). Exact UnitIs limit tokens (settle o)) e
    (unit_exact 63 tokens)

-- a tree that was read is the tokens' tree
is_unit : (tokens rest : Tokens) (xs : List Top) → unit_of 63 tokens ≡ Ok (xs, rest) → IsUnit tokens xs
is_unit tokens rest xs e = (exact_here tokens (Ok (xs, rest)) e).1

-- a stop for syntax is at the first wrong token, or the tokens end too early
has_fault : (tokens rest : Tokens) → unit_of 63 tokens ≡ syntax rest
    → HasSyntaxFault tokens (fault_offset tokens rest)
has_fault tokens [] e = too_short (exact_here tokens (syntax []) e)
has_fault tokens (t ∷ rest) e = wrong_token (exact_here tokens (syntax (t ∷ rest)) e).1

-- a stop for depth is at the first opener that is too deep, unless the tokens end with it
has_depth_fault : (tokens rest : Tokens) → unit_of 63 tokens ≡ too_deep rest
    → ParseFails tokens (depth_fault tokens rest)
has_depth_fault tokens [] e = absurd (exact_here tokens (too_deep []) e)
has_depth_fault tokens (t ∷ []) e = too_short (exact_here tokens (too_deep (t ∷ [])) e)
has_depth_fault tokens (t ∷ u ∷ rest) e = opener (exact_here tokens (too_deep (t ∷ u ∷ rest)) e).1

-- the same of what the parser answers
module _ (tokens rest : Tokens) (r : Result (List Top) Stopped) (reads : Reads (unit_of 63 tokens) r rest) where
  -- where the model reads the tokens, they are a unit with its tree
  pub answers_unit : (xs : List Top) → r ≡ Ok xs → IsUnit tokens xs
  answers_unit xs e =
      is_unit tokens rest xs (subst (λ (r : Result (List Top) Stopped). Reads (unit_of 63 tokens) r rest) e reads)

  -- where the model stops at a syntax fault, the tokens have one at the offset of the fault
  pub answers_syntax : (offset : ℕ) → r ≡ Err stopped.Syntax → fault_offset tokens rest ≡ offset
      → HasSyntaxFault tokens offset
  answers_syntax offset e f =
      subst (HasSyntaxFault tokens) f (has_fault tokens rest
      (subst (λ (r : Result (List Top) Stopped). Reads (unit_of 63 tokens) r rest) e reads))

  -- where the model stops at an opener that is too deep, the tokens fail by the fault of the depth
  pub answers_depth : (fault : ParseFault) → r ≡ Err stopped.TooDeep → depth_fault tokens rest ≡ fault
      → ParseFails tokens fault
  answers_depth fault e f =
      subst (ParseFails tokens) f (has_depth_fault tokens rest
      (subst (λ (r : Result (List Top) Stopped). Reads (unit_of 63 tokens) r rest) e reads))

-- the last token's offset
pub last_is : (ts : Tokens) (t : Lexeme) → 1 ≤ length ts → t ≡ get_or ts (length ts - 1) t → last_offset ts ≡ t.offset
last_is [] t le e = absurd (omega (arith, le))
last_is (u ∷ []) t le e = ap (λ (t : Lexeme). t.offset) (sym e)
last_is (u ∷ v ∷ ts) t le e =
    let i : length (u ∷ v ∷ ts) - 1 ≡ suc (length (v ∷ ts) - 1) = omega arith in last_is (v ∷ ts) t (omega arith)
    (e ∙ ap (λ (n : ℕ). get_or (u ∷ v ∷ ts) n t) i)

-- Parts of trees that all stand at one place, and how many temporaries they need.
use Rattle.std.proofs.Common.{◌≡◌, ℕ, zero, suc, ◌+◌, true, max, List, [], ◌∷◌, Some, None, refl, ap, ◌∙◌}
use Rattle.std.proofs.Common.{nat_le}
use Rattle.c_tree.specs.declared.token.Kind.{Kind}
use Rattle.c_tree.specs.declared.token.Kind.TheVariants.{Int}
use Rattle.c_tree.specs.declared.tree.BinaryOp.{BinaryOp}
use Rattle.c_tree.specs.declared.tree.UnaryOp.{UnaryOp}
use Rattle.c_tree.specs.declared.tree.BumpOp.TheVariants.{PostInc}
use Rattle.c_tree.specs.declared.tree.Expr.{Expr}
use Rattle.c_tree.specs.declared.tree.ExprNode.TheVariants as node
use Rattle.c_grammar.specs.Tokens.{Tokens, May}
use Rattle.c_grammar.specs.Operators.{at, told_at}
use Rattle.c_grammar.specs.Expressions as e
use Rattle.c_grammar.specs.Expressions.{Spells, expr}
use Rattle.c_constant.specs.Need.{Needs, plain, needs, need_fits, call_need, assign_need}
use Rattle.c_constant.proofs.Nodes.{needs-Number, needs-Name, needs-Call, needs-Binary, needs-Choice, needs-Unary}
use Rattle.c_constant.proofs.Nodes.{needs-Cast, needs-Bump, needs-Assign}

-- so many levels looser
abbrev pub raised : ℕ → ℕ → ℕ
raised zero k = k
raised (suc n) k = suc (raised n k)

-- an expression of a level is one of each looser level
pub lift : {may : May} {d k : ℕ} {x : Expr} {f t : Tokens} → (n : ℕ) → Spells may (expr k x) d f t
    → Spells may (expr (raised n k) x) d f t
lift zero h = h
lift (suc n) h = e.up (lift n h)

module _ (l : ℕ) where
  abbrev pub name : List ℕ → Expr
  name w = at l (node.Name w)

  abbrev pub number : ℕ → Expr
  number v = at l (node.Number v Int)

  abbrev pub joined : BinaryOp → Expr → Expr → Expr
  joined o x y = told_at l l (node.Binary o x y)

  abbrev pub called : List ℕ → List Expr → Expr
  called w es = at l (node.Call w es)

  abbrev pub chosen : Expr → Expr → Expr → Expr
  chosen c x y = told_at l l (node.Choice c x y)

  abbrev pub one_operand : UnaryOp → Expr → Expr
  one_operand o x = at l (node.Unary o x)

  abbrev pub cast_to : Kind → Expr → Expr
  cast_to k x = at l (node.Cast k x)

  -- w++
  abbrev pub raised_name : List ℕ → Expr
  raised_name w = told_at l l (node.Bump PostInc (name w))

  abbrev pub updated : BinaryOp → Expr → Expr → Expr
  updated o x y = told_at l l (node.Assign (Some o) x y)

  pub need_number : (v : ℕ) → needs (number v) ≡ plain 1
  need_number v = needs-Number (number v) v Int refl

  pub need_name : (w : List ℕ) → needs (name w) ≡ plain 1
  need_name w = needs-Name (name w) w refl

  pub need_binary : (o : BinaryOp) (x y : Expr) (a b : Needs) → needs x ≡ a → needs y ≡ b
      → needs (joined o x y) ≡ plain (max a.need (1 + b.need))
  need_binary o x y a b h f = needs-Binary (joined o x y) o x y refl
      ∙ ap (λ (n : Needs). plain (max n.need (1 + (needs y).need))) h
      ∙ ap (λ (n : Needs). plain (max a.need (1 + n.need))) f

  -- of one argument, and of three
  pub need_call : (w : List ℕ) (x : Expr) (a : Needs) → needs x ≡ a
      → needs (called w (x ∷ [])) ≡ plain (call_need (a ∷ []))
  need_call w x a h = needs-Call (called w (x ∷ [])) w (x ∷ []) refl
      ∙ ap (λ (n : Needs). plain (call_need (n ∷ []))) h

  pub need_three : (w : List ℕ) (x y z : Expr) (a b c : Needs) → needs x ≡ a → needs y ≡ b → needs z ≡ c
      → needs (called w (x ∷ y ∷ z ∷ [])) ≡ plain (call_need (a ∷ b ∷ c ∷ []))
  need_three w x y z a b c h f g = needs-Call (called w (x ∷ y ∷ z ∷ [])) w (x ∷ y ∷ z ∷ []) refl
      ∙ ap (λ (n : Needs). plain (call_need (n ∷ needs y ∷ needs z ∷ []))) h
      ∙ ap (λ (n : Needs). plain (call_need (a ∷ n ∷ needs z ∷ []))) f
      ∙ ap (λ (n : Needs). plain (call_need (a ∷ b ∷ n ∷ []))) g

  pub need_choice : (c x y : Expr) (a b d : Needs) → needs c ≡ a → needs x ≡ b → needs y ≡ d
      → needs (chosen c x y) ≡ plain (max a.need (max b.need d.need))
  need_choice c x y a b d h f g = needs-Choice (chosen c x y) c x y refl
      ∙ ap (λ (n : Needs). plain (max n.need (max (needs x).need (needs y).need))) h
      ∙ ap (λ (n : Needs). plain (max a.need (max n.need (needs y).need))) f
      ∙ ap (λ (n : Needs). plain (max a.need (max b.need n.need))) g

  pub need_unary : (o : UnaryOp) (x : Expr) (a : Needs) → needs x ≡ a → needs (one_operand o x) ≡ plain a.need
  need_unary o x a h = needs-Unary (one_operand o x) o x refl ∙ ap (λ (n : Needs). plain n.need) h

  pub need_cast : (k : Kind) (x : Expr) (a : Needs) → needs x ≡ a → needs (cast_to k x) ≡ plain a.need
  need_cast k x a h = needs-Cast (cast_to k x) k x refl ∙ ap (λ (n : Needs). plain n.need) h

  pub need_raised : (w : List ℕ) → needs (raised_name w) ≡ plain 1
  need_raised w = needs-Bump (raised_name w) PostInc (name w) refl ∙ ap (λ (n : Needs). plain n.need) (need_name w)

  pub need_updated : (o : BinaryOp) (w : List ℕ) (y : Expr) (a : Needs) → needs y ≡ a
      → needs (updated o (name w) y) ≡ plain (assign_need None a.need)
  need_updated o w y a h = needs-Assign (updated o (name w) y) (Some o) (name w) y refl
      ∙ ap (λ (n : Needs). plain (assign_need n.index (needs y).need)) (need_name w)
      ∙ ap (λ (n : Needs). plain (assign_need None n.need)) h

-- a need that is known fits
pub fits : (x : Expr) (a : Needs) → needs x ≡ a → nat_le a.need 16 ≡ true → need_fits x ≡ true
fits x a h f = ap (λ (n : Needs). nat_le n.need 16) h ∙ f

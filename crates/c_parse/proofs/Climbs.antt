-- Phrases of several levels of binary operators, read by one loop.
use Rattle.std.proofs.Common.{◌≡◌, ℕ, zero, suc, ◌+◌, ◌-◌, ◌<◌, ◌≤◌, Bool, cond, length}
use Rattle.std.proofs.Common.{Option, Some, None, Ok, Err, refl, sym, ap, ◌∙◌, arith}
use Rattle.std.proofs.lemmas.Bool.{ne_eqb, eq-eqb}
use Rattle.c_tree.specs.declared.tree.Expr.{Expr}
use Rattle.c_tree.specs.declared.tree.BinaryOp.{BinaryOp}
use Rattle.c_grammar.specs.Tokens.{Tokens}
use Rattle.c_grammar.specs.Operators.{op, joined}
use Rattle.c_grammar.specs.inside.Operators.{binary_level}
use Rattle.c_grammar.specs.inside.Parsing.{Stop, Out, and_then, tail, offset_of}
use Rattle.c_grammar.specs.inside.ModelExpressions.{loop, inside, binary_of, cast_of}
use Rattle.c_grammar.specs.inside.ModelOperators.{seen}
use Rattle.c_parse.specs.inside.Reads.{operator_at, joins_by, Outside, Inside, Fails}
use Rattle.c_parse.specs.inside.Operands.{climb, joined_of}
use Rattle.c_parse.specs.declared.fault.Stopped.{Stopped}
use Rattle.c_parse.specs.declared.fault.Stopped.TheVariants as stopped
use Rattle.c_parse.proofs.ParserLoops.{of_level, operator_is, turn_on, turn_off, turns_end, turn_shorter}
use Rattle.c_parse.proofs.ParserLoops.{binary_next, binary_zero}

abbrev here : Expr → Tokens → Out Expr
here a ts = Ok (a, ts)

-- parts one behind the other may be grouped either way
pub then_then : {A B C : Type 0} (o : Out A) (f : A → Tokens → Out B) (g : B → Tokens → Out C)
    → and_then (and_then o f) g ≡ and_then o (λ a ts. and_then (f a ts) g)
then_then (Ok p) f g = refl
then_then (Err s) f g = refl

then_here : (o : Out Expr) → and_then o here ≡ o
then_here (Ok p) = refl
then_here (Err s) = refl

climbs_by : (left m b n : ℕ) (ts : Tokens) → n ≡ b + m
    → binary_of (inside left) n ts ≡ and_then (binary_of (inside left) b ts) (climb left m b)
climbs_by left zero b n ts e =
    let i : n ≡ b = omega (arith, e) in
    ap (λ (k : ℕ). binary_of (inside left) k ts) i ∙ sym (then_here (binary_of (inside left) b ts))
climbs_by left (suc m) b n ts e =
    climbs_by left m (suc b) n ts (omega (arith, e))
    ∙ ap (λ (o : Out Expr). and_then o (climb left m (suc b))) (binary_next left b ts)
    ∙ then_then (binary_of (inside left) b ts)
    (λ a ts. loop (binary_of (inside left) b) (binary_level b) (length ts) a ts) (climb left m (suc b))

-- a phrase is a cast and what its levels join to it
pub climbs : (left level : ℕ) (ts : Tokens)
    → binary_of (inside left) level ts ≡ and_then (cast_of (inside left) ts) (climb left (level - 0) 0)
climbs left level ts =
    climbs_by left (level - 0) 0 level ts (omega arith)
    ∙ ap (λ (o : Out Expr). and_then o (climb left (level - 0) 0)) (binary_zero left 0 ts refl)

-- ---- no operator of a level

none_at : (n : ℕ) (ts : Tokens) (o : Option (ℕ × BinaryOp)) → seen joins_by ts ≡ o
    → ((p : ℕ × BinaryOp) → o ≡ Some p → p.0 ≡ n → ⊥) → operator_at n ts ≡ None
none_at n ts None i h = operator_is n ts ∙ ap (of_level n) i
none_at n ts (Some p) i h =
    operator_is n ts ∙ ap (of_level n) i
    ∙ ap (λ (b : Bool). cond b (Some (p.1)) None) (ne_eqb (p.0) n (λ e. h p refl e))

some_at : (n : ℕ) (ts : Tokens) (o : BinaryOp) → seen joins_by ts ≡ Some (n, o) → operator_at n ts ≡ Some o
some_at n ts o i =
    operator_is n ts ∙ ap (of_level n) i ∙ ap (λ (b : Bool). cond b (Some o) None) (eq-eqb n n refl)

skips : (left k m b : ℕ) → b + k + m ≤ 10 → (a : Expr) (ts : Tokens)
    → ((n : ℕ) → b ≤ n → n < b + k → operator_at n ts ≡ None)
    → (m' b' : ℕ) → m' ≡ k + m → b' ≡ b + k → climb left m' b a ts ≡ climb left m b' a ts
skips left zero m b le a ts h m' b' e f =
    let j : m' ≡ m = omega (arith, e) in
    let i : b ≡ b' = omega (arith, f) in
    ap (λ (m : ℕ). climb left m b a ts) j ∙ ap (λ (b : ℕ). climb left m b a ts) i
skips left (suc k) m b le a ts h m' b' e f =
    let i : m' ≡ suc (k + m) = omega (arith, e) in
    ap (λ (m : ℕ). climb left m b a ts) i
    ∙ ap (λ (o : Out Expr). and_then o (climb left (k + m) (suc b)))
    (turns_end left b (omega (arith, le)) a ts (h b (omega arith) (omega arith)))
    ∙ skips left k m (suc b) (omega (arith, le)) a ts
    (λ n l u. h n (omega (arith, l)) (omega (arith, u))) (k + m) b' refl (omega (arith, f))

-- where no operator of the levels comes, the phrase ends
pub climb_end : (left level b : ℕ) → level ≤ 10 → b ≤ level → (a : Expr) (ts : Tokens)
    → Outside b level (seen joins_by ts) → climb left (level - b) b a ts ≡ Ok (a, ts)
climb_end left level b most le a ts h =
    skips left (level - b) 0 b (omega (arith, most, le)) a ts
    (λ n l u. none_at n ts (seen joins_by ts) refl
    (λ p e q. h p e (omega (arith, l, q)) (omega (arith, u, q, le))))
    (level - b) level (omega arith) (omega (arith, le))

module _ (left level b : ℕ) (most : level ≤ 10) (a : Expr) (ts : Tokens) (p : ℕ × BinaryOp)
    (found : Inside b level (seen joins_by ts) p) where
  to_level : (m : ℕ) → level - p.0 ≡ m → climb left (level - b) b a ts ≡ climb left m (p.0) a ts
  to_level m e =
      skips left (p.0 - b) m b (omega (arith, most, found.1, found.2, e)) a ts
      (λ n l u. none_at n ts (seen joins_by ts) refl
      (λ q f g. let s : Some q ≡ Some p = sym f ∙ found.0 in let i : q ≡ p = cc in
      omega (arith, g, u, found.1, ap (λ (q : ℕ × BinaryOp). q.0) i)))
      (level - b) (p.0) (omega (arith, found.1, found.2, e)) (omega (arith, found.1))

  is_at : operator_at (p.0) ts ≡ Some (p.1)
  is_at = some_at (p.0) ts (p.1) (found.0)

  joins_from : (m : ℕ) → level - p.0 ≡ suc m → (r : Expr) (rest : Tokens)
      → binary_of (inside left) (p.0) (tail ts) ≡ Ok (r, rest)
      → climb left (suc m) (p.0) a ts ≡ climb left (suc m) (p.0) (joined (offset_of ts) (op (p.1)) a r) rest
  joins_from m e r rest h =
      ap (λ (o : Out Expr). and_then o (climb left m (suc (p.0))))
      (turn_on left (p.0) (omega (arith, most, found.2)) a r ts rest (p.1) is_at h)

  -- an operator of the levels joins the phrase to what stands behind it
  pub climb_turn : (r : Expr) (rest : Tokens) → binary_of (inside left) (p.0) (tail ts) ≡ Ok (r, rest)
      → climb left (level - b) b a ts ≡ climb left (level - p.0) (p.0) (joined (offset_of ts) (op (p.1)) a r) rest
  climb_turn r rest h =
      let m = level - p.0 - 1 in
      let e : level - p.0 ≡ suc m = omega (arith, found.2) in
      to_level (suc m) e ∙ joins_from m e r rest h
      ∙ ap (λ (m : ℕ). climb left m (p.0) (joined (offset_of ts) (op (p.1)) a r) rest) (sym e)

  -- what stops behind the operator stops the phrase
  pub climb_stop : (s : Stop) → binary_of (inside left) (p.0) (tail ts) ≡ Err s
      → climb left (level - b) b a ts ≡ Err s
  climb_stop s h =
      let m = level - p.0 - 1 in
      let e : level - p.0 ≡ suc m = omega (arith, found.2) in
      to_level (suc m) e
      ∙ ap (λ (o : Out Expr). and_then o (climb left m (suc (p.0))))
      (turn_off left (p.0) (omega (arith, most, found.2)) a ts (p.1) s is_at h)

  -- where the operand behind an operator fails, the climb fails there
  pub climb_fails : (e : Stopped) (new : Tokens) → Fails (binary_of (inside left) (p.0) (tail ts)) e new
      → Fails (climb left (level - b) b a ts) e new
  climb_fails stopped.Syntax new h = climb_stop _ h
  climb_fails stopped.TooDeep new h = climb_stop _ h
  climb_fails stopped.Memory new h = tt

  -- an operator and its operand take at least a token
  pub climb_shorter : (r : Expr) (rest : Tokens) → binary_of (inside left) (p.0) (tail ts) ≡ Ok (r, rest)
      → length rest < length ts
  climb_shorter r rest h =
      turn_shorter left (p.0) (omega (arith, most, found.2)) ts rest r (p.1) is_at h

-- the loop begins with no level
pub joined_start : (left level : ℕ) (a : Expr) (ts : Tokens)
    → climb left (level - 0) 0 a ts ≡ joined_of left level a ts
unfolding joined_of
joined_start left level a ts =
    let e : level - 0 ≡ level = omega arith in ap (λ (m : ℕ). climb left m 0 a ts) e

-- a part and then one of two functions that are equal
then_along : (o : Out Expr) (f g : Expr → Tokens → Out Expr) → ((a : Expr) (ts : Tokens) → f a ts ≡ g a ts)
    → and_then o f ≡ and_then o g
then_along (Ok p) f g h = h p.0 p.1
then_along (Err s) f g h = refl

-- a phrase is a cast and what its levels join to it
pub joins : (left level : ℕ) (ts : Tokens)
    → binary_of (inside left) level ts ≡ and_then (cast_of (inside left) ts) (λ a ts. joined_of left level a ts)
joins left level ts =
    climbs left level ts
    ∙ then_along (cast_of (inside left) ts) (climb left (level - 0) 0) (λ a ts. joined_of left level a ts)
    (joined_start left level)

-- where no operator of the levels comes, nothing is joined
pub joined_none : (left level : ℕ) → level ≤ 10 → (a : Expr) (ts : Tokens) → Outside 0 level (seen joins_by ts)
    → joined_of left level a ts ≡ Ok (a, ts)
joined_none left level most a ts h =
    sym (joined_start left level a ts) ∙ climb_end left level 0 most (omega arith) a ts h

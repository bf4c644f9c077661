-- Arguments one by one.
use Rattle.std.proofs.Common.{◌≡◌, ℕ, zero, suc, ◌≤◌, List, [], ◌∷◌, ◌++◌, drop, length, refl, sym}
use Rattle.std.proofs.Common.{ap, ◌∙◌, append_assoc, append-nil, arith}
use Rattle.c_tree.specs.declared.TypedExpr.{TypedExpr}
use Rattle.ir_forms.specs.declared.flat.Arg.{Arg}
use Rattle.ir_forms.specs.declared.flat.Arg.TheVariants.{Var}
use Rattle.ir_forms.specs.declared.flat.FlatStmt.{FlatStmt}
use Rattle.ir_forms.specs.inside.FlatCode.{Then}
use Rattle.ir_forms.specs.inside.FlatViews.{code_of}
use Rattle.flat_lower.specs.inside.Operations.{temp}
use Rattle.flat_lower.specs.inside.Objects.{Context}
use Rattle.flat_lower.specs.inside.TreeViews.{expr_of}
use Rattle.flat_lower.specs.inside.Expressions.{expr_code, args_code, temps}
use Rattle.flat_lower.specs.inside.Emitted.{Adds, args_of}
use Rattle.flat_lower.proofs.Emits.{then_then, then_nop}
use Rattle.flat_lower.proofs.EmitWeights.{count_all}

-- some arguments are emitted, and `rest` are to come
pub record SoFar (c : Context) (d at : ℕ) (all rest : List TypedExpr) (old code : List FlatStmt)
    (vars : List Arg) : Type 0 where
  pub written : Then (code_of code) (args_code c at (args_of rest))
      ≡ Then (code_of old) (args_code c d (args_of all))
  pub placed : vars ++ temps at (args_of rest) ≡ temps d (args_of all)
  pub fewer : count_all rest ≤ count_all all

-- at the start
pub starts : (c : Context) (d : ℕ) (all : List TypedExpr) (old : List FlatStmt) (vars : List Arg)
    → vars ≡ []
    → SoFar c d d all all old old vars
starts c d all old vars h = record {
  written = refl;
  placed = ap (λ v. v ++ temps d (args_of all)) h;
  fewer = omega arith;
}

-- one argument more
pub goes_on : (c : Context) (d at next : ℕ) (all rest : List TypedExpr) (a : TypedExpr)
    (old code code' : List FlatStmt) (vars vars' : List Arg)
    → SoFar c d at all (a ∷ rest) old code vars → Adds code code' (expr_code c at (expr_of a))
    → next ≡ suc at
    → vars' ≡ vars ++ Var (temp at) ∷ [] → SoFar c d next all rest old code' vars'
goes_on c d at next all rest a old code code' vars vars' s h e v = record {
  written =
      ap (λ n. Then (code_of code') (args_code c n (args_of rest))) e
      ∙ ap (λ z. Then z (args_code c (suc at) (args_of rest))) h.is
      ∙ then_then (code_of code) (expr_code c at (expr_of a)) (args_code c (suc at) (args_of rest))
      ∙ s.written;
  placed =
      ap (λ n. vars' ++ temps n (args_of rest)) e
      ∙ ap (λ z. z ++ temps (suc at) (args_of rest)) v
      ∙ append_assoc vars (Var (temp at) ∷ []) (temps (suc at) (args_of rest))
      ∙ s.placed;
  fewer = omega (arith, s.fewer);
}

-- at the end
pub ends : (c : Context) (d at : ℕ) (all : List TypedExpr) (old code : List FlatStmt)
    (vars : List Arg)
    → SoFar c d at all [] old code vars → Adds old code (args_code c d (args_of all))
ends c d at all old code vars s = record { is = sym (then_nop (code_of code)) ∙ s.written }

-- once all arguments are placed, their variables are the temporaries from d on
pub placed_all : (c : Context) (d at : ℕ) (all : List TypedExpr) (old code : List FlatStmt)
    (vars : List Arg)
    → SoFar c d at all [] old code vars → vars ≡ temps d (args_of all)
placed_all c d at all old code vars s = sym (append-nil vars) ∙ s.placed

-- nothing is left behind the last one
pub drop_all : {A : Type 0} → (xs : List A) (i : ℕ) → length xs ≤ i → drop i xs ≡ []
drop_all [] zero h = refl
drop_all [] (suc i) h = refl
drop_all (x ∷ xs) zero h = absurd (omega arith)
drop_all (x ∷ xs) (suc i) h = drop_all xs i (omega arith)

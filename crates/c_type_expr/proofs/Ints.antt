-- A binary operation of two ints converts none of them, and is an int.
use Rattle.std.proofs.Common.{◌≡◌, ℕ, refl, Some, ap, arith}
use Rattle.std.specs.Prelude.{cond}
use Rattle.c_tree.specs.declared.token.Kind.TheVariants.{Int}
use Rattle.c_tree.specs.declared.tree.BinaryOp.{BinaryOp}
use Rattle.c_tree.specs.declared.tree.BinaryOp.TheVariants as op
use Rattle.c_tree.specs.declared.typed.TypedExpr.{TypedExpr}
use Rattle.c_tree.specs.declared.typed.TypedNode.TheVariants as typed
use Rattle.c_constant.specs.Kinds.{same_kind}
use Rattle.c_constant.specs.Operation.{left_at, right_at, result_of}
use Rattle.c_type_expr.specs.Conversions.{a, kind_of, with_convert, binary}

-- it is done in int
left_int : (o : BinaryOp) → left_at o Int Int ≡ Int
left_int op.LogicalOr = refl
left_int _ = refl

-- and wants an int on its right
right_int : (o : BinaryOp) → right_at o Int Int ≡ Int
right_int op.LogicalOr = refl
right_int _ = refl

-- and gives one
result_int : (o : BinaryOp) → result_of o Int ≡ Int
result_int op.LogicalOr = refl
result_int _ = refl

-- an int that is wanted as an int stays as it is
kept : (e : TypedExpr) → kind_of e ≡ Int → with_convert Int e ≡ e
kept e h = ap (λ k. cond (same_kind k Int) e (a e.at (Some Int) (typed.Convert Int e))) h

-- so the node is that of the operands as they are
pub of_ints : (m : ℕ) (o : BinaryOp) (x y : TypedExpr) → kind_of x ≡ Int → kind_of y ≡ Int
    → a m (Some Int) (typed.Binary o x y) ≡ binary m o x y
of_ints m o x y h k =
    let l = left_int o in let r = right_int o in let s = result_int o in
    let p = kept x h in let q = kept y k in grind (arith, h, k, l, r, s, p, q)

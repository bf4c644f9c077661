-- Operators, and the types that typing gives their operands.
use Rattle.std.proofs.Common.{◌≡◌, cond, Some, refl, sym, ap, ◌∙◌, subst}
use Rattle.std.specs.Prelude.{nat_lt}
use Rattle.std.proofs.lemmas.Bool.{cond_both}
use Rattle.c_tree.specs.declared.Kind.{Kind}
use Rattle.c_tree.specs.declared.Kind.TheVariants.{Char}
use Rattle.c_tree.specs.declared.UnaryOp.{UnaryOp}
use Rattle.c_tree.specs.declared.UnaryOp.TheVariants.{Not}
use Rattle.c_tree.specs.declared.BinaryOp.{BinaryOp}
use Rattle.c_tree.specs.declared.BinaryOp.TheVariants.{LogicalOr, LogicalAnd, Equal, NotEqual, Less, Greater}
use Rattle.c_tree.specs.declared.BinaryOp.TheVariants.{LessEqual, GreaterEqual, ShiftLeft, ShiftRight}
use Rattle.c_constant.specs.Kinds.{width, is_signed, promoted, larger, common}
use Rattle.c_constant.specs.Operation.{left_at, right_at, result_of, unary_at, unary_result}
use Rattle.flat_lower_premises.specs.inside.Assigners.{IsAssigner}
use Rattle.flat_lower.specs.inside.Kinds.{IsArithmetic}
use Rattle.flat_lower.specs.inside.Fits.{FitsBinary, FitsUnary, FitsCompound}

-- TYPES OF OPERATIONS

-- a promoted type
promoted_works : (k : Kind) → IsArithmetic (promoted k)
promoted_works Char = tt
promoted_works _ = tt

-- the larger of two
larger_works : (j k : Kind) → IsArithmetic j → IsArithmetic k → IsArithmetic (larger j k)
larger_works j k a b =
    cond_both (nat_lt (width j) (width k)) k (cond (nat_lt (width k) (width j)) j (cond (is_signed j) k j))
    IsArithmetic (λ e. b)
    (λ e. cond_both (nat_lt (width k) (width j)) j (cond (is_signed j) k j) IsArithmetic (λ e. a)
    (λ e. cond_both (is_signed j) k j IsArithmetic (λ e. b) (λ e. a)))

-- operations are done in the types that the usual conversions give
common_works : (j k : Kind) → IsArithmetic (common j k)
common_works j k = larger_works (promoted j) (promoted k) (promoted_works j) (promoted_works k)

-- a type to which a type is promoted, or two are converted
by_promotion : (k j : Kind) → promoted k ≡ j → IsArithmetic j
by_promotion k j e = subst IsArithmetic e (promoted_works k)

by_common : (j k i : Kind) → common j k ≡ i → IsArithmetic i
by_common j k i e = subst IsArithmetic e (common_works j k)

-- both operands are of their common type
same_operands : (i j : Kind) → common i j ≡ i → common i j ≡ j → Some j ≡ Some i
same_operands i j p q = ap Some (sym q ∙ p)

-- OPERATORS

-- an operation whose operand has the type that typing gives it fits
pub unary_agrees : (o : UnaryOp) (j k : Kind) → unary_at o j ≡ j → k ≡ unary_result o j
    → FitsUnary o (Some j) k
unary_agrees Not j k p e = (tt, e)
unary_agrees _ j k p e = (by_promotion j j p, e)

-- an operation whose operands have the types that typing gives them fits
pub binary_agrees : (o : BinaryOp) (i j k : Kind) → left_at o i j ≡ i → right_at o i j ≡ j
    → k ≡ result_of o i → FitsBinary o (Some i) (Some j) k
binary_agrees LogicalOr i j k p q e = e
binary_agrees LogicalAnd i j k p q e = e
binary_agrees ShiftLeft i j k p q e = (by_promotion i i p, tt, e)
binary_agrees ShiftRight i j k p q e = (by_promotion i i p, tt, e)
binary_agrees _ i j k p q e = (by_common i j i p, same_operands i j p q, e)

-- the operation of a compound assignment on both sides at their common type
at_common : (k j at : Kind) → at ≡ common k j → common k j ≡ j → Some j ≡ Some at
at_common k j at p q = ap Some (sym q ∙ sym p)

-- a compound assignment whose right side has the type that typing gives it fits
pub compound_agrees : (o : BinaryOp) (k j at : Kind) → IsAssigner (Some o) → at ≡ left_at o k j
    → right_at o k j ≡ j → FitsCompound (Some o) at k (Some j)
compound_agrees LogicalOr k j at c p q = absurd c
compound_agrees LogicalAnd k j at c p q = absurd c
compound_agrees Equal k j at c p q = absurd c
compound_agrees NotEqual k j at c p q = absurd c
compound_agrees Less k j at c p q = absurd c
compound_agrees Greater k j at c p q = absurd c
compound_agrees LessEqual k j at c p q = absurd c
compound_agrees GreaterEqual k j at c p q = absurd c
compound_agrees ShiftLeft k j at c p q = (by_promotion k at (sym p), tt, refl)
compound_agrees ShiftRight k j at c p q = (by_promotion k at (sym p), tt, refl)
compound_agrees _ k j at c p q = (by_common k j at (sym p), at_common k j at p q, refl)

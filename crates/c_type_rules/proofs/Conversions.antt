-- The types that operators want, once their operands are converted to them.
use Rattle.std.proofs.Common.{◌≡◌, refl, sym}
use Rattle.c_tree.specs.declared.token.Kind.{Kind}
use Rattle.c_tree.specs.declared.token.Kind.TheVariants.{Char, UChar, Short, UShort, Int, UInt}
use Rattle.c_tree.specs.declared.token.Kind.TheVariants.{Long, ULong}
use Rattle.c_tree.specs.declared.token.Kind.TheVariants as kind
use Rattle.c_tree.specs.declared.tree.UnaryOp.{UnaryOp}
use Rattle.c_tree.specs.declared.tree.UnaryOp.TheVariants.{Not}
use Rattle.c_tree.specs.declared.tree.BinaryOp.{BinaryOp}
use Rattle.c_tree.specs.declared.tree.BinaryOp.TheVariants.{LogicalOr, LogicalAnd, ShiftLeft, ShiftRight}
use Rattle.c_constant.specs.Kinds.{promoted, common}
use Rattle.c_constant.specs.Operation.{left_at, right_at, unary_at}

-- a promoted type is promoted
pub promoted_once : (k : Kind) → promoted (promoted k) ≡ promoted k
promoted_once Char = refl
promoted_once UChar = refl
promoted_once Short = refl
promoted_once UShort = refl
promoted_once Int = refl
promoted_once UInt = refl
promoted_once Long = refl
promoted_once ULong = refl
promoted_once kind.Bool = refl

-- a common type is common with itself, and with each of the two
pub record Common (j k : Kind) : Type 0 where
  pub itself : common (common j k) (common j k) ≡ common j k
  pub left : common j (common j k) ≡ common j k

-- each of the 81 pairs
pub commons : (j k : Kind) → Common j k
commons Char Char = record { itself = refl; left = refl }
commons Char UChar = record { itself = refl; left = refl }
commons Char Short = record { itself = refl; left = refl }
commons Char UShort = record { itself = refl; left = refl }
commons Char Int = record { itself = refl; left = refl }
commons Char UInt = record { itself = refl; left = refl }
commons Char Long = record { itself = refl; left = refl }
commons Char ULong = record { itself = refl; left = refl }
commons Char kind.Bool = record { itself = refl; left = refl }
commons UChar Char = record { itself = refl; left = refl }
commons UChar UChar = record { itself = refl; left = refl }
commons UChar Short = record { itself = refl; left = refl }
commons UChar UShort = record { itself = refl; left = refl }
commons UChar Int = record { itself = refl; left = refl }
commons UChar UInt = record { itself = refl; left = refl }
commons UChar Long = record { itself = refl; left = refl }
commons UChar ULong = record { itself = refl; left = refl }
commons UChar kind.Bool = record { itself = refl; left = refl }
commons Short Char = record { itself = refl; left = refl }
commons Short UChar = record { itself = refl; left = refl }
commons Short Short = record { itself = refl; left = refl }
commons Short UShort = record { itself = refl; left = refl }
commons Short Int = record { itself = refl; left = refl }
commons Short UInt = record { itself = refl; left = refl }
commons Short Long = record { itself = refl; left = refl }
commons Short ULong = record { itself = refl; left = refl }
commons Short kind.Bool = record { itself = refl; left = refl }
commons UShort Char = record { itself = refl; left = refl }
commons UShort UChar = record { itself = refl; left = refl }
commons UShort Short = record { itself = refl; left = refl }
commons UShort UShort = record { itself = refl; left = refl }
commons UShort Int = record { itself = refl; left = refl }
commons UShort UInt = record { itself = refl; left = refl }
commons UShort Long = record { itself = refl; left = refl }
commons UShort ULong = record { itself = refl; left = refl }
commons UShort kind.Bool = record { itself = refl; left = refl }
commons Int Char = record { itself = refl; left = refl }
commons Int UChar = record { itself = refl; left = refl }
commons Int Short = record { itself = refl; left = refl }
commons Int UShort = record { itself = refl; left = refl }
commons Int Int = record { itself = refl; left = refl }
commons Int UInt = record { itself = refl; left = refl }
commons Int Long = record { itself = refl; left = refl }
commons Int ULong = record { itself = refl; left = refl }
commons Int kind.Bool = record { itself = refl; left = refl }
commons UInt Char = record { itself = refl; left = refl }
commons UInt UChar = record { itself = refl; left = refl }
commons UInt Short = record { itself = refl; left = refl }
commons UInt UShort = record { itself = refl; left = refl }
commons UInt Int = record { itself = refl; left = refl }
commons UInt UInt = record { itself = refl; left = refl }
commons UInt Long = record { itself = refl; left = refl }
commons UInt ULong = record { itself = refl; left = refl }
commons UInt kind.Bool = record { itself = refl; left = refl }
commons Long Char = record { itself = refl; left = refl }
commons Long UChar = record { itself = refl; left = refl }
commons Long Short = record { itself = refl; left = refl }
commons Long UShort = record { itself = refl; left = refl }
commons Long Int = record { itself = refl; left = refl }
commons Long UInt = record { itself = refl; left = refl }
commons Long Long = record { itself = refl; left = refl }
commons Long ULong = record { itself = refl; left = refl }
commons Long kind.Bool = record { itself = refl; left = refl }
commons ULong Char = record { itself = refl; left = refl }
commons ULong UChar = record { itself = refl; left = refl }
commons ULong Short = record { itself = refl; left = refl }
commons ULong UShort = record { itself = refl; left = refl }
commons ULong Int = record { itself = refl; left = refl }
commons ULong UInt = record { itself = refl; left = refl }
commons ULong Long = record { itself = refl; left = refl }
commons ULong ULong = record { itself = refl; left = refl }
commons ULong kind.Bool = record { itself = refl; left = refl }
commons kind.Bool Char = record { itself = refl; left = refl }
commons kind.Bool UChar = record { itself = refl; left = refl }
commons kind.Bool Short = record { itself = refl; left = refl }
commons kind.Bool UShort = record { itself = refl; left = refl }
commons kind.Bool Int = record { itself = refl; left = refl }
commons kind.Bool UInt = record { itself = refl; left = refl }
commons kind.Bool Long = record { itself = refl; left = refl }
commons kind.Bool ULong = record { itself = refl; left = refl }
commons kind.Bool kind.Bool = record { itself = refl; left = refl }

-- an operand that is converted to the type that a unary operator wants is of the type that it wants
pub unary_settled : (op : UnaryOp) (k : Kind) → unary_at op (unary_at op k) ≡ unary_at op k
unary_settled Not k = refl
unary_settled _ k = promoted_once k

-- the same of the operands of a binary operator, and of the right side of a compound assignment, whose
-- left side is not converted
pub record Settled (op : BinaryOp) (j k : Kind) : Type 0 where
  pub left : left_at op (left_at op j k) (right_at op j k) ≡ left_at op j k
  pub right : right_at op (left_at op j k) (right_at op j k) ≡ right_at op j k
  pub at : left_at op j k ≡ left_at op j (right_at op j k)
  pub from : right_at op j (right_at op j k) ≡ right_at op j k

-- each operator
pub settled : (op : BinaryOp) (j k : Kind) → Settled op j k
settled LogicalOr j k = record { left = refl; right = refl; at = refl; from = refl }
settled LogicalAnd j k = record { left = refl; right = refl; at = refl; from = refl }
settled ShiftLeft j k =
    record { left = promoted_once j; right = promoted_once k; at = refl; from = promoted_once k }
settled ShiftRight j k =
    record { left = promoted_once j; right = promoted_once k; at = refl; from = promoted_once k }
settled _ j k =
    let c = commons j k in record { left = c.itself; right = c.itself; at = sym c.left; from = c.left }

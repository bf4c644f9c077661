-- The straight code of each operation on two numbers puts the word of C's result.
use Rattle.std.proofs.Common.{◌≡◌, ◌≢◌, ℕ, ◌+◌, ◌-◌, ◌*◌, ◌%◌, ◌^◌, ◌<◌, ◌≤◌}
use Rattle.std.proofs.Common.{false, cond, List, Some, None, refl, ap}
use Rattle.std.proofs.Common.{◌∙◌, arith}
use Rattle.std.specs.Prelude.{nat_eq, nat_lt, nat_le, int_lt, int_le}
use Rattle.c_tree.specs.declared.Kind.{Kind}
use Rattle.c_tree.specs.declared.Kind.TheVariants.{Char, UChar, Short, UShort, Int, UInt, Long, ULong}
use Rattle.c_tree.specs.declared.Kind.TheVariants as kind
use Rattle.c_tree.specs.declared.BinaryOp.{BinaryOp}
use Rattle.c_tree.specs.declared.BinaryOp.TheVariants.{LogicalOr, LogicalAnd, BitOr, BitXor, BitAnd}
use Rattle.c_tree.specs.declared.BinaryOp.TheVariants.{Equal, NotEqual, Less, Greater, LessEqual}
use Rattle.c_tree.specs.declared.BinaryOp.TheVariants.{GreaterEqual, ShiftLeft, ShiftRight, Add}
use Rattle.c_tree.specs.declared.BinaryOp.TheVariants.{Subtract, Multiply, Divide, Remainder}
use Rattle.c_constant.specs.Operation.{operate, result_of}
use Rattle.trips_isa.specs.declared.op.Op.{Op}
use Rattle.trips_isa.specs.declared.op.Op.TheVariants as op
use Rattle.trips_isa.specs.Alu.{alu_of, test}
use Rattle.ir_forms.specs.declared.flat.Arg.{Arg}
use Rattle.ir_forms.specs.declared.flat.Arg.TheVariants.{Var}
use Rattle.ir_forms.specs.inside.FlatCode.{Code, Then, only, Let, Function}
use Rattle.ir_forms.specs.inside.Cells.{apply}
use Rattle.ir_forms.specs.inside.FlatSteps.{State, Env, read}
use Rattle.ir_forms.specs.inside.FlatRuns.{checked}
use Rattle.c_constant.specs.Kinds.{IsWord}
use Rattle.flat_lower.specs.inside.Kinds.{IsArithmetic}
use Rattle.flat_lower.specs.inside.Operations.{two_done}
use Rattle.flat_lower.specs.inside.Operations.{reduced_here, by_sign, remainder_code}
use Rattle.flat_lower.specs.inside.Operations.{binary_code}
use Rattle.flat_lower.proofs.Operators.{reduced_word, Gives, add_gives, sub_gives, mul_gives}
use Rattle.flat_lower.proofs.Operators.{equal_gives, not_equal_gives, compared, less_gives}
use Rattle.flat_lower.proofs.Operators.{greater_gives, less_equal_gives, greater_equal_gives}
use Rattle.flat_lower.proofs.Quotients.{Quotient, divided, divide_gives, remaindered}
use Rattle.flat_lower.proofs.Quotients.{remainder_gives}
use Rattle.flat_lower.proofs.Patterns.{and_gives, or_gives, xor_gives, left_gives, shifted}
use Rattle.flat_lower.proofs.Patterns.{right_gives}
use Rattle.flat_lower.proofs.Straight.{puts_spare, two_puts, then_reduced}
use Rattle.flat_lower.proofs.Straight

module _ (fs : List Function) (base : ℕ) (e : Env) where
  -- code that puts a word into a variable within some turns
  abbrev Puts : (code : Code) → (f : State) → (most x spare w : ℕ) → Type 0
  Puts = Straight.Puts fs base e

  -- A statement of one operation puts the operation's result into its variable.
  abbrev puts_let : (o : Op) (a b : Arg) (f : State) (most x spare u v w : ℕ) → 1 ≤ most → read checked f a ≡ Some u
      → read checked f b ≡ Some v → apply checked o u v ≡ Some w → Puts (only (Let x o a b)) f most x spare w
  puts_let = Straight.puts_let fs base e

  -- a variable that is set is read
  abbrev var_read : (f : State) (v w : ℕ) → f.vars v ≡ Some w → read checked f (Var v) ≡ Some w
  var_read = Straight.var_read fs base e

  -- Code that puts a word puts any word that is equal.
  abbrev puts_as : (a : Code) (f : State) (m x spare v w : ℕ) → v ≡ w → Puts a f m x spare v → Puts a f m x spare w
  puts_as = Straight.puts_as fs base e

  -- EVERY OPERATION

  -- what is wanted of a right operand: the count of a shift may be of another type
  abbrev pub IsRight : BinaryOp → Kind → ℕ → Type 0
  IsRight ShiftLeft k b = b < 2 ^ 64
  IsRight ShiftRight k b = b < 2 ^ 64
  IsRight o k b = IsWord k b

  -- an operation that evaluates both operands
  abbrev pub IsStrict : BinaryOp → Type 0
  IsStrict LogicalOr = ⊥
  IsStrict LogicalAnd = ⊥
  IsStrict o = Unit {0}

  -- a word in x, and that it is one of a type
  pub record Works (code : Code) (f : State) (most x spare w : ℕ) (k : Kind) : Type 0 where
    pub puts : Puts code f most x spare w
    pub fits : IsWord k w

  works_two : (o : Op) (k : Kind) (f : State) (x y a b w : ℕ) → f.vars x ≡ Some a
      → f.vars y ≡ Some b → apply checked o a b ≡ Some (alu_of o a b) → Gives k (alu_of o a b) w
      → Works (two_done x o x y) f 3 x 80 w k
  works_two o k f x y a b w hx hy ho g = record {
    puts = puts_as (two_done x o x y) f 3 x 80 (alu_of o a b) w g.is
        (two_puts fs base e o f 3 x y 80 a b (omega arith) hx hy ho);
    fits = g.fits;
  }

  works_reduced : (o : Op) (k : Kind) (f : State) (x y a b w : ℕ) → f.vars x ≡ Some a
      → f.vars y ≡ Some b → apply checked o a b ≡ Some (alu_of o a b)
      → Gives k (reduced_word k (alu_of o a b)) w
      → Works (Then (two_done x o x y) (reduced_here k x)) f 3 x 80 w k
  works_reduced o k f x y a b w hx hy ho g = record {
    puts = then_reduced fs base e k (two_done x o x y) f x 80 (alu_of o a b) w
        (two_puts fs base e o f 1 x y 80 a b (omega arith) hx hy ho) g;
    fits = g.fits;
  }

  works_compared : (signed unsigned : Op) (k : Kind) (f : State) (x y a b w : ℕ) → f.vars x ≡ Some a
      → f.vars y ≡ Some b → apply checked (by_sign k signed unsigned) a b
      ≡ Some (alu_of (by_sign k signed unsigned) a b)
      → Gives Int (alu_of (by_sign k signed unsigned) a b) w
      → Works (two_done x (by_sign k signed unsigned) x y) f 3 x 80 w Int
  works_compared signed unsigned k f x y a b w hx hy ho g =
      works_two (by_sign k signed unsigned) Int f x y a b w hx hy ho g

  -- a test of two words by their type
  works_less : (k : Kind) (f : State) (x y a b w : ℕ) → f.vars x ≡ Some a → f.vars y ≡ Some b
      → Gives Int (test (compared k int_lt nat_lt a b)) w
      → Works (two_done x (by_sign k op.Tlt op.Tltu) x y) f 3 x 80 w Int
  unfolding apply
  works_less Char f x y a b w hx hy g = works_two op.Tlt Int f x y a b w hx hy refl g
  works_less UChar f x y a b w hx hy g = works_two op.Tltu Int f x y a b w hx hy refl g
  works_less Short f x y a b w hx hy g = works_two op.Tlt Int f x y a b w hx hy refl g
  works_less UShort f x y a b w hx hy g = works_two op.Tltu Int f x y a b w hx hy refl g
  works_less Int f x y a b w hx hy g = works_two op.Tlt Int f x y a b w hx hy refl g
  works_less UInt f x y a b w hx hy g = works_two op.Tltu Int f x y a b w hx hy refl g
  works_less Long f x y a b w hx hy g = works_two op.Tlt Int f x y a b w hx hy refl g
  works_less ULong f x y a b w hx hy g = works_two op.Tltu Int f x y a b w hx hy refl g
  works_less kind.Bool f x y a b w hx hy g = works_two op.Tltu Int f x y a b w hx hy refl g

  works_greater : (k : Kind) (f : State) (x y a b w : ℕ) → f.vars x ≡ Some a → f.vars y ≡ Some b
      → Gives Int (test (compared k int_lt nat_lt b a)) w
      → Works (two_done x (by_sign k op.Tgt op.Tgtu) x y) f 3 x 80 w Int
  unfolding apply
  works_greater Char f x y a b w hx hy g = works_two op.Tgt Int f x y a b w hx hy refl g
  works_greater UChar f x y a b w hx hy g = works_two op.Tgtu Int f x y a b w hx hy refl g
  works_greater Short f x y a b w hx hy g = works_two op.Tgt Int f x y a b w hx hy refl g
  works_greater UShort f x y a b w hx hy g = works_two op.Tgtu Int f x y a b w hx hy refl g
  works_greater Int f x y a b w hx hy g = works_two op.Tgt Int f x y a b w hx hy refl g
  works_greater UInt f x y a b w hx hy g = works_two op.Tgtu Int f x y a b w hx hy refl g
  works_greater Long f x y a b w hx hy g = works_two op.Tgt Int f x y a b w hx hy refl g
  works_greater ULong f x y a b w hx hy g = works_two op.Tgtu Int f x y a b w hx hy refl g
  works_greater kind.Bool f x y a b w hx hy g = works_two op.Tgtu Int f x y a b w hx hy refl g

  works_less_equal : (k : Kind) (f : State) (x y a b w : ℕ) → f.vars x ≡ Some a → f.vars y ≡ Some b
      → Gives Int (test (compared k int_le nat_le a b)) w
      → Works (two_done x (by_sign k op.Tle op.Tleu) x y) f 3 x 80 w Int
  unfolding apply
  works_less_equal Char f x y a b w hx hy g = works_two op.Tle Int f x y a b w hx hy refl g
  works_less_equal UChar f x y a b w hx hy g = works_two op.Tleu Int f x y a b w hx hy refl g
  works_less_equal Short f x y a b w hx hy g = works_two op.Tle Int f x y a b w hx hy refl g
  works_less_equal UShort f x y a b w hx hy g = works_two op.Tleu Int f x y a b w hx hy refl g
  works_less_equal Int f x y a b w hx hy g = works_two op.Tle Int f x y a b w hx hy refl g
  works_less_equal UInt f x y a b w hx hy g = works_two op.Tleu Int f x y a b w hx hy refl g
  works_less_equal Long f x y a b w hx hy g = works_two op.Tle Int f x y a b w hx hy refl g
  works_less_equal ULong f x y a b w hx hy g = works_two op.Tleu Int f x y a b w hx hy refl g
  works_less_equal kind.Bool f x y a b w hx hy g = works_two op.Tleu Int f x y a b w hx hy refl g

  works_greater_equal : (k : Kind) (f : State) (x y a b w : ℕ) → f.vars x ≡ Some a
      → f.vars y ≡ Some b → Gives Int (test (compared k int_le nat_le b a)) w
      → Works (two_done x (by_sign k op.Tge op.Tgeu) x y) f 3 x 80 w Int
  unfolding apply
  works_greater_equal Char f x y a b w hx hy g = works_two op.Tge Int f x y a b w hx hy refl g
  works_greater_equal UChar f x y a b w hx hy g = works_two op.Tgeu Int f x y a b w hx hy refl g
  works_greater_equal Short f x y a b w hx hy g = works_two op.Tge Int f x y a b w hx hy refl g
  works_greater_equal UShort f x y a b w hx hy g = works_two op.Tgeu Int f x y a b w hx hy refl g
  works_greater_equal Int f x y a b w hx hy g = works_two op.Tge Int f x y a b w hx hy refl g
  works_greater_equal UInt f x y a b w hx hy g = works_two op.Tgeu Int f x y a b w hx hy refl g
  works_greater_equal Long f x y a b w hx hy g = works_two op.Tge Int f x y a b w hx hy refl g
  works_greater_equal ULong f x y a b w hx hy g = works_two op.Tgeu Int f x y a b w hx hy refl g
  works_greater_equal kind.Bool f x y a b w hx hy g = works_two op.Tgeu Int f x y a b w hx hy refl g

  works_right : (k : Kind) (f : State) (x y a b w : ℕ) → f.vars x ≡ Some a → f.vars y ≡ Some b
      → Gives k (shifted k a b) w → Works (two_done x (by_sign k op.Sra op.Srl) x y) f 3 x 80 w k
  unfolding apply
  works_right Char f x y a b w hx hy g = works_two op.Sra Char f x y a b w hx hy refl g
  works_right UChar f x y a b w hx hy g = works_two op.Srl UChar f x y a b w hx hy refl g
  works_right Short f x y a b w hx hy g = works_two op.Sra Short f x y a b w hx hy refl g
  works_right UShort f x y a b w hx hy g = works_two op.Srl UShort f x y a b w hx hy refl g
  works_right Int f x y a b w hx hy g = works_two op.Sra Int f x y a b w hx hy refl g
  works_right UInt f x y a b w hx hy g = works_two op.Srl UInt f x y a b w hx hy refl g
  works_right Long f x y a b w hx hy g = works_two op.Sra Long f x y a b w hx hy refl g
  works_right ULong f x y a b w hx hy g = works_two op.Srl ULong f x y a b w hx hy refl g
  works_right kind.Bool f x y a b w hx hy g = works_two op.Srl kind.Bool f x y a b w hx hy refl g

  -- a division by what is not 0 does not fault
  divs_applies : (a b : ℕ) → nat_eq b 0 ≡ false
      → apply checked op.Divs a b ≡ Some (alu_of op.Divs a b)
  unfolding apply
  divs_applies a b z = ap (λ t. cond t None (Some (alu_of op.Divs a b))) z

  divu_applies : (a b : ℕ) → nat_eq b 0 ≡ false
      → apply checked op.Divu a b ≡ Some (alu_of op.Divu a b)
  unfolding apply
  divu_applies a b z = ap (λ t. cond t None (Some (alu_of op.Divu a b))) z

  works_divide : (k : Kind) (f : State) (x y a b w : ℕ) → f.vars x ≡ Some a → f.vars y ≡ Some b
      → Quotient k b (divided k a b) w → Works
      (two_done x (by_sign k op.Divs op.Divu) x y) f 3 x 80 w k
  works_divide Char f x y a b w hx hy d =
      works_two op.Divs Char f x y a b w hx hy (divs_applies a b d.some) d.gives
  works_divide UChar f x y a b w hx hy d =
      works_two op.Divu UChar f x y a b w hx hy (divu_applies a b d.some) d.gives
  works_divide Short f x y a b w hx hy d =
      works_two op.Divs Short f x y a b w hx hy (divs_applies a b d.some) d.gives
  works_divide UShort f x y a b w hx hy d =
      works_two op.Divu UShort f x y a b w hx hy (divu_applies a b d.some) d.gives
  works_divide Int f x y a b w hx hy d = works_two op.Divs Int f x y a b w hx hy
      (divs_applies a b d.some) d.gives
  works_divide UInt f x y a b w hx hy d =
      works_two op.Divu UInt f x y a b w hx hy (divu_applies a b d.some) d.gives
  works_divide Long f x y a b w hx hy d =
      works_two op.Divs Long f x y a b w hx hy (divs_applies a b d.some) d.gives
  works_divide ULong f x y a b w hx hy d =
      works_two op.Divu ULong f x y a b w hx hy (divu_applies a b d.some) d.gives
  works_divide kind.Bool f x y a b w hx hy d =
      works_two op.Divu kind.Bool f x y a b w hx hy (divu_applies a b d.some) d.gives

  -- a remainder: the quotient, its product with the divisor, and the difference
  remainder_puts : (o : Op) (f : State) (x y a b : ℕ) → x ≢ 80 → y ≢ 80 → f.vars x ≡ Some a
      → f.vars y ≡ Some b → apply checked o a b ≡ Some (alu_of o a b)
      → Puts (remainder_code o x y) f 3 x 80 ((a + (2 ^ 64 - (alu_of o a b * b) % 2 ^ 64)) % 2 ^ 64)
  unfolding apply
  remainder_puts o f x y a b nx ny hx hy ho =
      let q = alu_of o a b in
      let p1 = puts_let o (Var x) (Var y) f 1 80 80 a b q (omega arith) (var_read f x a hx) (var_read f y b hy) ho in
      let y1 = p1.sets.others y ny ny ∙ hy in
      let p2 = puts_let op.Mul (Var 80) (Var y) p1.to 1 80 80 q b ((q * b) % 2 ^ 64) (omega arith)
      (var_read p1.to 80 q p1.sets.value) (var_read p1.to y b y1) refl in
      let x2 = p2.sets.others x nx nx ∙ p1.sets.others x nx nx ∙ hx in
      let p3 = puts_let op.Sub (Var x) (Var 80) p2.to 1 x 80 a ((q * b) % 2 ^ 64)
      ((a + (2 ^ 64 - (q * b) % 2 ^ 64)) % 2 ^ 64) (omega arith) (var_read p2.to x a x2)
      (var_read p2.to 80 ((q * b) % 2 ^ 64) p2.sets.value) refl in
      puts_spare fs base e (two_done 80 o x y) (Then (two_done 80 op.Mul 80 y) (two_done x op.Sub x 80)) f 1 2
      x 80 q ((a + (2 ^ 64 - (q * b) % 2 ^ 64)) % 2 ^ 64) p1
      (puts_spare fs base e (two_done 80 op.Mul 80 y) (two_done x op.Sub x 80) p1.to 1 1 x 80
      ((q * b) % 2 ^ 64) ((a + (2 ^ 64 - (q * b) % 2 ^ 64)) % 2 ^ 64) p2 p3)

  works_signed : (k : Kind) (f : State) (x y a b w : ℕ) → x ≢ 80 → y ≢ 80 → f.vars x ≡ Some a
      → f.vars y ≡ Some b → nat_eq b 0 ≡ false
      → Gives k ((a + (2 ^ 64 - (alu_of op.Divs a b * b) % 2 ^ 64)) % 2 ^ 64) w
      → Works (remainder_code op.Divs x y) f 3 x 80 w k
  works_signed k f x y a b w nx ny hx hy z g = record {
    puts = puts_as (remainder_code op.Divs x y) f 3 x 80 _ w g.is
        (remainder_puts op.Divs f x y a b nx ny hx hy (divs_applies a b z));
    fits = g.fits;
  }

  works_unsigned : (k : Kind) (f : State) (x y a b w : ℕ) → x ≢ 80 → y ≢ 80 → f.vars x ≡ Some a
      → f.vars y ≡ Some b → nat_eq b 0 ≡ false
      → Gives k ((a + (2 ^ 64 - (alu_of op.Divu a b * b) % 2 ^ 64)) % 2 ^ 64) w
      → Works (remainder_code op.Divu x y) f 3 x 80 w k
  works_unsigned k f x y a b w nx ny hx hy z g = record {
    puts = puts_as (remainder_code op.Divu x y) f 3 x 80 _ w g.is
        (remainder_puts op.Divu f x y a b nx ny hx hy (divu_applies a b z));
    fits = g.fits;
  }

  works_remainder : (k : Kind) (f : State) (x y a b w : ℕ) → x ≢ 80 → y ≢ 80 → f.vars x ≡ Some a
      → f.vars y ≡ Some b → Quotient k b (remaindered k a b) w
      → Works (remainder_code (by_sign k op.Divs op.Divu) x y) f 3 x 80 w k
  works_remainder Char f x y a b w nx ny hx hy d =
      works_signed Char f x y a b w nx ny hx hy d.some d.gives
  works_remainder UChar f x y a b w nx ny hx hy d =
      works_unsigned UChar f x y a b w nx ny hx hy d.some d.gives
  works_remainder Short f x y a b w nx ny hx hy d =
      works_signed Short f x y a b w nx ny hx hy d.some d.gives
  works_remainder UShort f x y a b w nx ny hx hy d =
      works_unsigned UShort f x y a b w nx ny hx hy d.some d.gives
  works_remainder Int f x y a b w nx ny hx hy d =
      works_signed Int f x y a b w nx ny hx hy d.some d.gives
  works_remainder UInt f x y a b w nx ny hx hy d =
      works_unsigned UInt f x y a b w nx ny hx hy d.some d.gives
  works_remainder Long f x y a b w nx ny hx hy d =
      works_signed Long f x y a b w nx ny hx hy d.some d.gives
  works_remainder ULong f x y a b w nx ny hx hy d =
      works_unsigned ULong f x y a b w nx ny hx hy d.some d.gives
  works_remainder kind.Bool f x y a b w nx ny hx hy d =
      works_unsigned kind.Bool f x y a b w nx ny hx hy d.some d.gives

  -- the code of an operation puts the word of C's result, in at most three turns
  pub binary_works : (o : BinaryOp) (k : Kind) (f : State) (x y a b w : ℕ) → IsStrict o
      → IsArithmetic k → x ≢ 80 → y ≢ 80 → f.vars x ≡ Some a → f.vars y ≡ Some b → IsWord k a
      → IsRight o k b → operate o k a b ≡ Some w
      → Works (binary_code o k x y) f 3 x 80 w (result_of o k)
  unfolding apply
  binary_works LogicalOr k f x y a b w s t nx ny hx hy fa fb h = absurd s
  binary_works LogicalAnd k f x y a b w s t nx ny hx hy fa fb h = absurd s
  binary_works BitOr k f x y a b w s t nx ny hx hy fa fb h =
      works_two op.Or k f x y a b w hx hy refl (or_gives k t a b w fa fb h)
  binary_works BitXor k f x y a b w s t nx ny hx hy fa fb h =
      works_two op.Xor k f x y a b w hx hy refl (xor_gives k t a b w fa fb h)
  binary_works BitAnd k f x y a b w s t nx ny hx hy fa fb h =
      works_two op.And k f x y a b w hx hy refl (and_gives k t a b w fa fb h)
  binary_works Equal k f x y a b w s t nx ny hx hy fa fb h =
      works_two op.Teq Int f x y a b w hx hy refl (equal_gives a b fa.below fb.below k w h)
  binary_works NotEqual k f x y a b w s t nx ny hx hy fa fb h =
      works_two op.Tne Int f x y a b w hx hy refl (not_equal_gives a b fa.below fb.below k w h)
  binary_works Less k f x y a b w s t nx ny hx hy fa fb h =
      works_less k f x y a b w hx hy (less_gives a b w k h)
  binary_works Greater k f x y a b w s t nx ny hx hy fa fb h =
      works_greater k f x y a b w hx hy (greater_gives a b w k h)
  binary_works LessEqual k f x y a b w s t nx ny hx hy fa fb h =
      works_less_equal k f x y a b w hx hy (less_equal_gives a b w k h)
  binary_works GreaterEqual k f x y a b w s t nx ny hx hy fa fb h =
      works_greater_equal k f x y a b w hx hy (greater_equal_gives a b w k h)
  binary_works ShiftLeft k f x y a b w s t nx ny hx hy fa fb h =
      works_reduced op.Sll k f x y a b w hx hy refl (left_gives a b w fa.below fb k t h)
  binary_works ShiftRight k f x y a b w s t nx ny hx hy fa fb h =
      works_right k f x y a b w hx hy (right_gives a b w fb k t fa h)
  binary_works Add k f x y a b w s t nx ny hx hy fa fb h =
      works_reduced op.Add k f x y a b w hx hy refl (add_gives a b w fa.below fb.below k t h)
  binary_works Subtract k f x y a b w s t nx ny hx hy fa fb h =
      works_reduced op.Sub k f x y a b w hx hy refl (sub_gives a b w fa.below fb.below k t h)
  binary_works Multiply k f x y a b w s t nx ny hx hy fa fb h =
      works_reduced op.Mul k f x y a b w hx hy refl (mul_gives a b w fa.below fb.below k t h)
  binary_works Divide k f x y a b w s t nx ny hx hy fa fb h =
      works_divide k f x y a b w hx hy (divide_gives a b w k t fa fb.below h)
  binary_works Remainder k f x y a b w s t nx ny hx hy fa fb h =
      works_remainder k f x y a b w nx ny hx hy (remainder_gives a b w k t fa fb h)

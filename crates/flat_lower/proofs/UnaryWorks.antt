-- The straight code of an operation on one number, and of a conversion, puts the word of C's result.
use Rattle.std.proofs.Common.{◌≡◌, ℕ, ◌+◌, ◌-◌, ◌%◌, ◌^◌, ◌<◌, ◌≤◌, Bool}
use Rattle.std.proofs.Common.{true, false, cond, List, Some, None, refl, sym, ap}
use Rattle.std.proofs.Common.{◌∙◌, arith}
use Rattle.c_tree.specs.declared.Kind.{Kind}
use Rattle.c_tree.specs.declared.Kind.TheVariants.{Char, UChar, Short, UShort, Int, UInt, Long, ULong}
use Rattle.c_tree.specs.declared.Kind.TheVariants as kind
use Rattle.c_tree.specs.declared.UnaryOp.{UnaryOp}
use Rattle.c_tree.specs.declared.UnaryOp.TheVariants.{Plus, Minus, Complement, Not}
use Rattle.c_constant.specs.Kinds.{converted}
use Rattle.c_constant.specs.Operation.{operate_one, unary_result}
use Rattle.trips_isa.specs.declared.op.Op.{Op}
use Rattle.trips_isa.specs.declared.op.Op.TheVariants as op
use Rattle.trips_isa.specs.Alu.{alu_of}
use Rattle.ir_forms.specs.declared.flat.Arg.{Arg}
use Rattle.ir_forms.specs.declared.flat.Arg.TheVariants.{Const, Var}
use Rattle.ir_forms.specs.inside.FlatCode.{Code, Nop, only, Let, Function}
use Rattle.ir_forms.specs.inside.Cells.{apply}
use Rattle.ir_forms.specs.inside.FlatSteps.{State, Env, read}
use Rattle.ir_forms.specs.inside.FlatRuns.{checked}
use Rattle.c_constant.specs.Kinds.{IsWord}
use Rattle.flat_lower.specs.inside.Kinds.{IsArithmetic}
use Rattle.flat_lower.specs.inside.Operations.{copied, one_done}
use Rattle.flat_lower.specs.inside.Narrowing.{narrowing, is_within}
use Rattle.flat_lower.specs.inside.Operations.{narrowed_by, converted_to, narrowed_here}
use Rattle.flat_lower.specs.inside.Operations.{converted_here}
use Rattle.flat_lower.specs.inside.Operations.{unary_code}
use Rattle.c_constant.proofs.Conversions.{converted_word, converted_long}
use Rattle.c_constant.proofs.Conversions.{converted_ulong}
use Rattle.flat_lower.proofs.Patterns.{minus_gives, complement_gives, not_gives}
use Rattle.flat_lower.proofs.Patterns.{plus_gives}
use Rattle.flat_lower.proofs.Narrowings.{within_is, bool_test}
use Rattle.flat_lower.proofs.Straight.{then_reduced}
use Rattle.flat_lower.proofs.Straight
use Rattle.flat_lower.proofs.OperationWorks

module _ (fs : List Function) (base : ℕ) (e : Env) where
  -- code that puts a word into a variable within some turns
  abbrev Puts : (code : Code) → (f : State) → (most x spare w : ℕ) → Type 0
  Puts = Straight.Puts fs base e

  -- Where a variable has the word already, code that does nothing puts it.
  abbrev puts_none : (f : State) (most x spare w : ℕ) → f.vars x ≡ Some w → Puts Nop f most x spare w
  puts_none = Straight.puts_none fs base e

  -- A statement of one operation puts the operation's result into its variable.
  abbrev puts_let : (o : Op) (a b : Arg) (f : State) (most x spare u v w : ℕ) → 1 ≤ most → read checked f a ≡ Some u
      → read checked f b ≡ Some v → apply checked o u v ≡ Some w → Puts (only (Let x o a b)) f most x spare w
  puts_let = Straight.puts_let fs base e

  -- a variable that is set is read
  abbrev var_read : (f : State) (v w : ℕ) → f.vars v ≡ Some w → read checked f (Var v) ≡ Some w
  var_read = Straight.var_read fs base e

  -- Code that puts a word puts any word that is equal.
  abbrev puts_as : (a : Code) (f : State) (m x spare v w : ℕ) → v ≡ w → Puts a f m x spare v → Puts a f m x spare w
  puts_as = Straight.puts_as fs base e

  abbrev one_puts : (o : Op) (f : State) (most to x spare a : ℕ) → 1 ≤ most → f.vars x ≡ Some a
      → apply checked o a 0 ≡ Some (alu_of o a 0) → Puts (one_done to o x) f most to spare (alu_of o a 0)
  one_puts = Straight.one_puts fs base e

  -- a word in x, and that it is one of a type
  abbrev Works : (code : Code) → (f : State) → (most x spare w : ℕ) → (k : Kind) → Type 0
  Works = OperationWorks.Works fs base e

  -- OPERATIONS ON ONE NUMBER

  abbrev pub IsOperand : UnaryOp → Kind → Type 0
  IsOperand Not k = Unit {0}
  IsOperand o k = IsArithmetic k

  -- The code of an operation on one operand leaves its result, of its kind, in at most three turns.
  pub unary_works : (o : UnaryOp) (k : Kind) (f : State) (x a w : ℕ) → IsOperand o k
      → f.vars x ≡ Some a → IsWord k a → operate_one o k a ≡ Some w
      → Works (unary_code o k x) f 3 x 80 w (unary_result o k)
  unfolding apply
  unary_works Plus k f x a w t hx fa h =
      let g = plus_gives a w k fa h in
      record { puts = puts_none f 3 x 80 w (hx ∙ ap Some g.is); fits = g.fits }
  unary_works Minus k f x a w t hx fa h =
      let g = minus_gives a w k t fa h in
      let v = (0 + (2 ^ 64 - a)) % 2 ^ 64 in
      record {
        puts = then_reduced fs base e k (only (Let x op.Sub (Const 0) (Var x))) f x 80 v w
            (puts_let op.Sub (Const 0) (Var x) f 1 x 80 0 a v (omega arith) refl
            (var_read f x a hx) refl) g;
        fits = g.fits;
      }
  unary_works Complement k f x a w t hx fa h =
      let g = complement_gives a w k t fa h in
      let v = (18446744073709551615 + (2 ^ 64 - a)) % 2 ^ 64 in
      record {
        puts = then_reduced fs base e k (only (Let x op.Sub (Const 18446744073709551615) (Var x))) f x 80 v w
            (puts_let op.Sub (Const 18446744073709551615) (Var x) f 1 x 80 18446744073709551615 a v
            (omega arith) refl (var_read f x a hx) refl) g;
        fits = g.fits;
      }
  unary_works Not k f x a w t hx fa h =
      let g = not_gives a w fa.below k h in
      record {
        puts = puts_let op.Teq (Var x) (Const 0) f 3 x 80 a 0 w (omega arith)
            (var_read f x a hx) refl (ap Some g.is);
        fits = g.fits;
      }

  -- CONVERSIONS

  -- The code of a conversion of a word of a type, in place, leaves the converted word in one turn.
  pub here_works : (j k : Kind) (f : State) (x a : ℕ) → f.vars x ≡ Some a → IsWord j a
      → Works (converted_here (Some j) k x) f 1 x 80 (converted k a) k
  unfolding converted apply
  here_works j k f x a hx h = record { puts = known (is_within j k) refl; fits = converted_word k a }
    where
      p : a < 2 ^ 64
      p = h.below

      here : (k : Kind) → Puts (narrowed_here (narrowing k) x) f 1 x 80 (converted k a)
      here Char = one_puts op.Extsb f 1 x x 80 a (omega arith) hx refl
      here UChar = one_puts op.Extub f 1 x x 80 a (omega arith) hx refl
      here Short = one_puts op.Extsh f 1 x x 80 a (omega arith) hx refl
      here UShort = one_puts op.Extuh f 1 x x 80 a (omega arith) hx refl
      here Int = one_puts op.Extsw f 1 x x 80 a (omega arith) hx refl
      here UInt = one_puts op.Extuw f 1 x x 80 a (omega arith) hx refl
      here Long = puts_none f 1 x 80 (converted Long a) (hx ∙ ap Some (sym (converted_long a p)))
      here ULong = puts_none f 1 x 80 (converted ULong a) (hx ∙ ap Some (sym (converted_ulong a p)))
      here kind.Bool = puts_as (one_done x op.Tne x) f 1 x 80 (alu_of op.Tne a 0) (converted kind.Bool a) (bool_test a)
          (one_puts op.Tne f 1 x x 80 a (omega arith) hx refl)

      known : (b : Bool) → is_within j k ≡ b
          → Puts (narrowed_here (cond b None (narrowing k)) x) f 1 x 80 (converted k a)
      known true e = puts_none f 1 x 80 (converted k a) (hx ∙ ap Some (sym (within_is j k a e h)))
      known false e = here k

  -- The code of a conversion of a word of a type puts the converted word into its variable.
  pub to_works : (j k : Kind) (f : State) (to x a : ℕ) → f.vars x ≡ Some a → IsWord j a
      → Works (converted_to (Some j) k to x) f 1 to 80 (converted k a) k
  unfolding converted apply
  to_works j k f to x a hx h = record { puts = known (is_within j k) refl; fits = converted_word k a }
    where
      p : a < 2 ^ 64
      p = h.below

      there : (k : Kind) → Puts (narrowed_by (narrowing k) to x) f 1 to 80 (converted k a)
      there Char = one_puts op.Extsb f 1 to x 80 a (omega arith) hx refl
      there UChar = one_puts op.Extub f 1 to x 80 a (omega arith) hx refl
      there Short = one_puts op.Extsh f 1 to x 80 a (omega arith) hx refl
      there UShort = one_puts op.Extuh f 1 to x 80 a (omega arith) hx refl
      there Int = one_puts op.Extsw f 1 to x 80 a (omega arith) hx refl
      there UInt = one_puts op.Extuw f 1 to x 80 a (omega arith) hx refl
      there Long = puts_as (copied to x) f 1 to 80 a (converted Long a)
          (sym (converted_long a p)) (one_puts op.Mov f 1 to x 80 a (omega arith) hx refl)
      there ULong = puts_as (copied to x) f 1 to 80 a (converted ULong a)
          (sym (converted_ulong a p)) (one_puts op.Mov f 1 to x 80 a (omega arith) hx refl)
      there kind.Bool = puts_as (one_done to op.Tne x) f 1 to 80 (alu_of op.Tne a 0) (converted kind.Bool a)
          (bool_test a) (one_puts op.Tne f 1 to x 80 a (omega arith) hx refl)

      known : (b : Bool) → is_within j k ≡ b
          → Puts (narrowed_by (cond b None (narrowing k)) to x) f 1 to 80 (converted k a)
      known true e = puts_as (copied to x) f 1 to 80 a (converted k a) (sym (within_is j k a e h))
          (one_puts op.Mov f 1 to x 80 a (omega arith) hx refl)
      known false e = there k

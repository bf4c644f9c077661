-- The straight code of a bump puts one more or one less.
use Rattle.std.proofs.Common.{◌≡◌, ℕ, ◌%◌, ◌^◌, ◌<◌, ◌≤◌}
use Rattle.std.proofs.Common.{true, List, Option, Some, None, refl, sym, ap}
use Rattle.std.proofs.Common.{◌∙◌, subst, arith}
use Rattle.std.specs.Prelude.{nat_lt}
use Rattle.c_tree.specs.declared.Kind.{Kind}
use Rattle.c_tree.specs.declared.Kind.TheVariants.{Char, UChar, Short, UShort, Int, UInt, Long, ULong}
use Rattle.c_tree.specs.declared.Kind.TheVariants as kind
use Rattle.c_tree.specs.declared.BumpOp.{BumpOp}
use Rattle.c_tree.specs.declared.BumpOp.TheVariants.{PreInc, PreDec, PostInc, PostDec}
use Rattle.c_constant.specs.Kinds.{width, promoted, converted}
use Rattle.c_constant.specs.Operation.{operate}
use Rattle.c_meaning_spec.specs.Word.{converted_if, bump_operation, bump_of}
use Rattle.trips_isa.specs.declared.op.Op.{Op}
use Rattle.trips_isa.specs.declared.op.Op.TheVariants as op
use Rattle.trips_isa.specs.Alu.{alu_of}
use Rattle.ir_forms.specs.declared.flat.Arg.TheVariants.{Const, Var}
use Rattle.ir_forms.specs.inside.FlatCode.{Code, Nop, only, Let, Function}
use Rattle.ir_forms.specs.inside.Cells.{apply}
use Rattle.ir_forms.specs.inside.FlatSteps.{State, Env}
use Rattle.ir_forms.specs.inside.FlatRuns.{checked}
use Rattle.c_constant.specs.Kinds.{IsWord}
use Rattle.flat_lower.specs.inside.Kinds.{IsArithmetic}
use Rattle.flat_lower.specs.inside.Operations.{one_done}
use Rattle.flat_lower.specs.inside.Narrowing.{narrowing}
use Rattle.flat_lower.specs.inside.Operations.{narrowed_here}
use Rattle.flat_lower.specs.inside.Operations.{bump_op, bump_narrowing, bumped}
use Rattle.c_constant.proofs.Conversions.{converted_is, converted_word}
use Rattle.flat_lower.proofs.Narrowings.{bool_test}
use Rattle.flat_lower.proofs.Operators.{reduced_word, Gives, add_gives, sub_gives}
use Rattle.flat_lower.proofs.Straight.{puts_let, var_read, puts_both}
use Rattle.flat_lower.proofs.Straight
use Rattle.flat_lower.proofs.OperationWorks

module _ (fs : List Function) (base : ℕ) (e : Env) where
  -- code that puts a word into a variable within some turns
  abbrev Puts : (code : Code) → (f : State) → (most x spare w : ℕ) → Type 0
  Puts = Straight.Puts fs base e

  -- Where a variable has the word already, code that does nothing puts it.
  abbrev puts_none : (f : State) (most x spare w : ℕ) → f.vars x ≡ Some w → Puts Nop f most x spare w
  puts_none = Straight.puts_none fs base e

  -- Code that puts a word puts any word that is equal.
  abbrev puts_as : (a : Code) (f : State) (m x spare v w : ℕ) → v ≡ w → Puts a f m x spare v → Puts a f m x spare w
  puts_as = Straight.puts_as fs base e

  abbrev one_puts : (o : Op) (f : State) (most to x spare a : ℕ) → 1 ≤ most → f.vars x ≡ Some a
      → apply checked o a 0 ≡ Some (alu_of o a 0) → Puts (one_done to o x) f most to spare (alu_of o a 0)
  one_puts = Straight.one_puts fs base e

  -- a word in x, and that it is one of a type
  abbrev Works : (code : Code) → (f : State) → (most x spare w : ℕ) → (k : Kind) → Type 0
  Works = OperationWorks.Works fs base e

  -- BUMPS

  -- one more or less at the promoted type, and then at the type itself
  pub record Bumped (o : BumpOp) (k : Kind) (old w : ℕ) : Type 0 where
    pub middle : ℕ
    pub done : operate (bump_operation o) (promoted k) old 1 ≡ Some middle
    pub is : converted k middle ≡ w

  bump_is : (o : BumpOp) (k : Kind) (old w : ℕ) → bump_of o (Some k) old ≡ Some w → Bumped o k old w
  bump_is o k old w h = go (operate (bump_operation o) (promoted k) old 1) refl h
    where
      go : (m : Option ℕ) → operate (bump_operation o) (promoted k) old 1 ≡ m
          → converted_if k m ≡ Some w → Bumped o k old w
      go None e h = absurd (cc h)
      go (Some m) e h = record { middle = m; done = e; is = cc }

  bump_gives : (o : BumpOp) (k : Kind) (old m : ℕ) → old < 2 ^ 64 → IsArithmetic k
      → operate (bump_operation o) k old 1 ≡ Some m
      → Gives k (reduced_word k (alu_of (bump_op o) old 1)) m
  bump_gives PreInc k old m p t h = add_gives old 1 m p (omega arith) k t h
  bump_gives PreDec k old m p t h = sub_gives old 1 m p (omega arith) k t h
  bump_gives PostInc k old m p t h = add_gives old 1 m p (omega arith) k t h
  bump_gives PostDec k old m p t h = sub_gives old 1 m p (omega arith) k t h

  bump_applies : (o : BumpOp) (old : ℕ) → apply checked (bump_op o) old 1
      ≡ Some (alu_of (bump_op o) old 1)
  unfolding apply
  bump_applies PreInc old = refl
  bump_applies PreDec old = refl
  bump_applies PostInc old = refl
  bump_applies PostDec old = refl

  bump_first : (o : BumpOp) (f : State) (spare to x old : ℕ) → f.vars x ≡ Some old
      → Puts (only (Let to (bump_op o) (Var x) (Const 1))) f 1 to spare (alu_of (bump_op o) old 1)
  bump_first o f spare to x old hx = puts_let fs base e (bump_op o) (Var x) (Const 1) f 1 to spare old 1
      (alu_of (bump_op o) old 1) (omega arith) (var_read fs base e f x old hx) refl (bump_applies o old)

  narrowed_puts : (k : Kind) (f : State) (spare x v : ℕ) → nat_lt (width k) 64 ≡ true
      → f.vars x ≡ Some v → Puts (narrowed_here (narrowing k) x) f 1 x spare (converted k v)
  unfolding converted apply
  narrowed_puts Char f spare x v n hx = one_puts op.Extsb f 1 x x spare v (omega arith) hx refl
  narrowed_puts UChar f spare x v n hx = one_puts op.Extub f 1 x x spare v (omega arith) hx refl
  narrowed_puts Short f spare x v n hx = one_puts op.Extsh f 1 x x spare v (omega arith) hx refl
  narrowed_puts UShort f spare x v n hx = one_puts op.Extuh f 1 x x spare v (omega arith) hx refl
  narrowed_puts Int f spare x v n hx = one_puts op.Extsw f 1 x x spare v (omega arith) hx refl
  narrowed_puts UInt f spare x v n hx = one_puts op.Extuw f 1 x x spare v (omega arith) hx refl
  narrowed_puts Long f spare x v n hx = absurd (cc n)
  narrowed_puts ULong f spare x v n hx = absurd (cc n)
  narrowed_puts kind.Bool f spare x v n hx = puts_as (one_done x op.Tne x) f 1 x spare (alu_of op.Tne v 0)
      (converted kind.Bool v) (bool_test v) (one_puts op.Tne f 1 x x spare v (omega arith) hx refl)

  -- an unsigned int is narrowed from the sum as from what was reduced
  uint_twice : (v : ℕ) → converted UInt v ≡ converted UInt (v % 2 ^ 32)
  unfolding converted
  uint_twice v = omega arith

  bump_end : (o : BumpOp) (k : Kind) (f : State) (spare to v old w : ℕ) → f.vars to ≡ Some v
      → v ≡ alu_of (bump_op o) old 1 → old < 2 ^ 64 → (b : Bumped o k old w)
      → Puts (narrowed_here (bump_narrowing k) to) f 1 to spare w
  bump_end o Char f spare to v old w hx e p b =
      let g = bump_gives o Int old b.middle p tt b.done in
      puts_as (narrowed_here (narrowing Char) to) f 1 to spare (converted Char v) w
      (ap (converted Char) (e ∙ g.is) ∙ b.is) (narrowed_puts Char f spare to v refl hx)
  bump_end o UChar f spare to v old w hx e p b =
      let g = bump_gives o Int old b.middle p tt b.done in
      puts_as (narrowed_here (narrowing UChar) to) f 1 to spare (converted UChar v) w
      (ap (converted UChar) (e ∙ g.is) ∙ b.is) (narrowed_puts UChar f spare to v refl hx)
  bump_end o Short f spare to v old w hx e p b =
      let g = bump_gives o Int old b.middle p tt b.done in
      puts_as (narrowed_here (narrowing Short) to) f 1 to spare (converted Short v) w
      (ap (converted Short) (e ∙ g.is) ∙ b.is) (narrowed_puts Short f spare to v refl hx)
  bump_end o UShort f spare to v old w hx e p b =
      let g = bump_gives o Int old b.middle p tt b.done in
      puts_as (narrowed_here (narrowing UShort) to) f 1 to spare (converted UShort v) w
      (ap (converted UShort) (e ∙ g.is) ∙ b.is) (narrowed_puts UShort f spare to v refl hx)
  bump_end o Int f spare to v old w hx e p b =
      let g = bump_gives o Int old b.middle p tt b.done in
      puts_none f 1 to spare w (hx ∙ ap Some
      (e ∙ g.is ∙ sym (converted_is Int b.middle g.fits) ∙ b.is))
  bump_end o UInt f spare to v old w hx e p b =
      let g = bump_gives o UInt old b.middle p tt b.done in
      puts_as (narrowed_here (narrowing UInt) to) f 1 to spare (converted UInt v) w
      (uint_twice v ∙ ap (λ v. converted UInt (v % 2 ^ 32)) e ∙ ap (converted UInt) g.is ∙ b.is)
      (narrowed_puts UInt f spare to v refl hx)
  bump_end o Long f spare to v old w hx e p b =
      let g = bump_gives o Long old b.middle p tt b.done in
      puts_none f 1 to spare w (hx ∙ ap Some
      (e ∙ g.is ∙ sym (converted_is Long b.middle g.fits) ∙ b.is))
  bump_end o ULong f spare to v old w hx e p b =
      let g = bump_gives o ULong old b.middle p tt b.done in
      puts_none f 1 to spare w (hx ∙ ap Some
      (e ∙ g.is ∙ sym (converted_is ULong b.middle g.fits) ∙ b.is))
  bump_end o kind.Bool f spare to v old w hx e p b =
      let g = bump_gives o Int old b.middle p tt b.done in
      puts_as (narrowed_here (narrowing kind.Bool) to) f 1 to spare (converted kind.Bool v) w
      (ap (converted kind.Bool) (e ∙ g.is) ∙ b.is) (narrowed_puts kind.Bool f spare to v refl hx)

  bump_fits : (o : BumpOp) (k : Kind) (old w : ℕ) → old < 2 ^ 64 → Bumped o k old w → IsWord k w
  bump_fits o Char old w p b =
      let g = bump_gives o Int old b.middle p tt b.done in subst (IsWord Char) b.is (converted_word Char b.middle)
  bump_fits o UChar old w p b =
      let g = bump_gives o Int old b.middle p tt b.done in subst (IsWord UChar) b.is (converted_word UChar b.middle)
  bump_fits o Short old w p b =
      let g = bump_gives o Int old b.middle p tt b.done in subst (IsWord Short) b.is (converted_word Short b.middle)
  bump_fits o UShort old w p b =
      let g = bump_gives o Int old b.middle p tt b.done in subst (IsWord UShort) b.is (converted_word UShort b.middle)
  bump_fits o Int old w p b =
      let g = bump_gives o Int old b.middle p tt b.done in subst (IsWord Int) b.is (converted_word Int b.middle)
  bump_fits o UInt old w p b =
      let g = bump_gives o UInt old b.middle p tt b.done in subst (IsWord UInt) b.is (converted_word UInt b.middle)
  bump_fits o Long old w p b =
      let g = bump_gives o Long old b.middle p tt b.done in subst (IsWord Long) b.is (converted_word Long b.middle)
  bump_fits o ULong old w p b =
      let g = bump_gives o ULong old b.middle p tt b.done in subst (IsWord ULong) b.is (converted_word ULong b.middle)
  bump_fits o kind.Bool old w p b =
      let g = bump_gives o Int old b.middle p tt b.done in
      subst (IsWord kind.Bool) b.is (converted_word kind.Bool b.middle)

  -- one more or one less of x, in another variable or its own, in at most two turns
  pub bump_works : (o : BumpOp) (k : Kind) (f : State) (spare to x old w : ℕ) → f.vars x ≡ Some old
      → old < 2 ^ 64 → bump_of o (Some k) old ≡ Some w → Works (bumped o k to x) f 2 to spare w k
  bump_works o k f spare to x old w hx p h =
      let b = bump_is o k old w h in
      let a = bump_first o f spare to x old hx in
      record {
        puts = puts_both fs base e (only (Let to (bump_op o) (Var x) (Const 1)))
            (narrowed_here (bump_narrowing k) to) f 1 1 to spare (alu_of (bump_op o) old 1) w a
            (bump_end o k a.to spare to (alu_of (bump_op o) old 1) old w a.sets.value refl p b);
        fits = bump_fits o k old w p b;
      }

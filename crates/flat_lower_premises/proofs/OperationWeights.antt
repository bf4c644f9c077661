-- What the code of operations, addresses and left sides weighs.
use Rattle.std.proofs.Common.{◌≡◌, ℕ, zero, suc, Bool, true, false, cond, Option, Some, None, refl, arith}
use Rattle.std.specs.Prelude.{slice_get}
use Rattle.c_tree.specs.declared.Kind.{Kind}
use Rattle.c_tree.specs.declared.Kind.TheVariants.{UInt}
use Rattle.c_tree.specs.declared.UnaryOp.{UnaryOp}
use Rattle.c_tree.specs.declared.UnaryOp.TheVariants.{Plus, Minus, Complement, Not}
use Rattle.c_tree.specs.declared.BumpOp.{BumpOp}
use Rattle.c_tree.specs.declared.BinaryOp.{BinaryOp}
use Rattle.c_tree.specs.declared.BinaryOp.TheVariants.{ShiftLeft, Add, Subtract, Multiply, Divide}
use Rattle.c_tree.specs.declared.Place.{Place}
use Rattle.c_tree.specs.declared.Place.TheVariants.{Global, Scalar, Array}
use Rattle.c_constant.specs.Kinds.{is_signed}
use Rattle.c_meaning_spec.specs.Task.{is_array}
use Rattle.trips_isa.specs.declared.op.Op.{Op}
use Rattle.trips_isa.specs.declared.op.Op.TheVariants as op
use Rattle.ir_forms.specs.declared.flat.Arg.{Arg}
use Rattle.ir_forms.specs.declared.flat.Arg.TheVariants.{Const, Var}
use Rattle.ir_forms.specs.inside.FlatCode.{Step, Let, Load, Save, Then, only}
use Rattle.flat_lower.specs.inside.Tree.{Expr, Name, Element, RowElement}
use Rattle.flat_lower.specs.inside.Narrowing.{narrowing_from}
use Rattle.flat_lower.specs.inside.Operations.{temp, scratch, shift_of, is_before, narrowed_here}
use Rattle.flat_lower.specs.inside.Operations.{narrowed_by, converted_here, reduced_here, binary_code}
use Rattle.flat_lower.specs.inside.Operations.{load_op, save_op, unary_code, bump_op, bump_narrowing, bumped}
use Rattle.flat_lower.specs.declared.powers.Power.{Power}
use Rattle.flat_lower.specs.inside.Powers.{exponent_of, immediate_code, exact_code, rounded_code, bias_code}
use Rattle.flat_lower.specs.inside.Powers.{biased_code, are_signs, scaled_by}
use Rattle.flat_lower.specs.inside.Objects.{Context, global_at, based, address_by, address_code, whole_code}
use Rattle.flat_lower.specs.inside.Expressions.{global_code, name_code, joined_by, element_code, bump_scalar}
use Rattle.flat_lower.specs.inside.Expressions.{bump_memory, bump_name, bump_element, assign_name, old_name}
use Rattle.flat_lower.specs.inside.Expressions.{compound_code, old_element, before_right, after_right}
use Rattle.flat_lower_premises.proofs.Weights.{Weight, weight_in, Takes, after, eased, none, one_more}

-- OPERATIONS

module _ (w : Weight) where
  narrowed_takes : (o : Option Op) (x : ℕ) → Takes w 0 1 (narrowed_here o x)
  narrowed_takes None x = none 1
  narrowed_takes (Some o) x = record { few = omega arith }

  narrowed_to_takes : (o : Option Op) (to x : ℕ) → Takes w 0 1 (narrowed_by o to x)
  narrowed_to_takes None to x = record { few = omega arith }
  narrowed_to_takes (Some o) to x = record { few = omega arith }

  -- a conversion in place weighs at most 1
  pub converted_here_takes : (j : Option Kind) (k : Kind) (x : ℕ) → Takes w 0 1 (converted_here j k x)
  converted_here_takes j k x = narrowed_takes (narrowing_from j k) x

  -- one statement, and the reduction of an unsigned int
  reduced_takes : (s : Step) (k : Kind) (x : ℕ) → weight_in w s ≡ 1
      → Takes w 0 2 (Then (only s) (reduced_here k x))
  reduced_takes s UInt x h = record { few = omega (arith, h) }
  reduced_takes s k x h = record { few = omega (arith, h) }

  -- the code of an operation on two numbers weighs at most 3
  pub binary_takes : (o : BinaryOp) (k : Kind) (x y : ℕ) → Takes w 0 3 (binary_code o k x y)
  binary_takes ShiftLeft k x y = eased (reduced_takes (Let x op.Sll (Var x) (Var y)) k x refl) (omega arith)
  binary_takes Add k x y = eased (reduced_takes (Let x op.Add (Var x) (Var y)) k x refl) (omega arith)
  binary_takes Subtract k x y = eased (reduced_takes (Let x op.Sub (Var x) (Var y)) k x refl) (omega arith)
  binary_takes Multiply k x y = eased (reduced_takes (Let x op.Mul (Var x) (Var y)) k x refl) (omega arith)
  binary_takes _ k x y = record { few = omega arith }

  bias_takes : (short : Bool) (n x : ℕ) → Takes w 0 2 (bias_code short n x)
  bias_takes true n x = record { few = omega arith }
  bias_takes false n x = record { few = omega arith }

  biased_takes : (o : BinaryOp) (p : Power) (x : ℕ) → Takes w 0 2 (biased_code o p x)
  biased_takes Divide p x = record { few = omega arith }
  biased_takes _ p x = record { few = omega arith }

  exact_takes : (o : BinaryOp) (p : Power) (x : ℕ) → Takes w 0 1 (exact_code o p x)
  exact_takes Divide p x = record { few = omega arith }
  exact_takes _ p x = record { few = omega arith }

  rounded_takes : (o : BinaryOp) (k : Kind) (p : Power) (x : ℕ) → Takes w 0 5 (rounded_code o k p x)
  rounded_takes o k p x = after (bias_takes (are_signs k p.exponent) p.exponent x)
      (after (one_more (Let x op.Add (Var x) (Var (scratch 0))) refl) (biased_takes o p x))

  immediate_by : (b : Bool) (o : BinaryOp) (k : Kind) (p : Power) (x : ℕ)
      → Takes w 0 5 (cond b (rounded_code o k p x) (exact_code o p x))
  immediate_by true o k p x = rounded_takes o k p x
  immediate_by false o k p x = eased (exact_takes o p x) (omega arith)

  -- the code of an operation with a power of two weighs at most 5
  pub immediate_takes : (o : BinaryOp) (k : Kind) (p : Power) (x : ℕ) → Takes w 0 5 (immediate_code o k p x)
  immediate_takes o k p x = immediate_by (is_signed k) o k p x

  scaled_takes : (o : Option ℕ) (q x : ℕ) → Takes w 0 1 (scaled_by o q x)
  scaled_takes None q x = record { few = omega arith }
  scaled_takes (Some n) q x = record { few = omega arith }

  -- the code of an operation on one number weighs at most 2
  pub unary_takes : (o : UnaryOp) (k : Kind) (x : ℕ) → Takes w 0 2 (unary_code o k x)
  unary_takes Plus k x = none 2
  unary_takes Minus k x = reduced_takes (Let x op.Sub (Const 0) (Var x)) k x refl
  unary_takes Complement k x = reduced_takes
      (Let x op.Sub (Const 18446744073709551615) (Var x)) k x refl
  unary_takes Not k x = record { few = omega arith }

  bumped_takes : (o : BumpOp) (k : Kind) (to x : ℕ) → Takes w 0 2 (bumped o k to x)
  bumped_takes o k to x = after (one_more (Let to (bump_op o) (Var x) (Const 1)) refl)
      (narrowed_takes (bump_narrowing k) to)

  -- ADDRESSES

  module _ (c : Context) where
    based_takes : (p : Place) (to x : ℕ) → Takes w 0 2 (based c p to x)
    based_takes (Array a) to x = record { few = omega arith }
    based_takes _ to x = record { few = omega arith }

    address_by_takes : (size : ℕ) (p : Place) (to x : ℕ) → Takes w 0 3 (address_by size c p to x)
    address_by_takes zero p to x = eased (based_takes p to x) (omega arith)
    address_by_takes (suc m) p to x = after (one_more (Let to op.Sll (Var x) (Const (suc m))) refl)
        (based_takes p to to)

    address_takes : (p : Place) (k : Kind) (to x : ℕ) → Takes w 0 3 (address_code c p k to x)
    address_takes p k to x = address_by_takes (shift_of k) p to x

    whole_takes : (p : Place) (to : ℕ) → Takes w 0 1 (whole_code c p to)
    whole_takes (Array a) to = record { few = omega arith }
    whole_takes _ to = record { few = omega arith }

    global_takes : (b : Bool) (g to : ℕ) (k : Kind) → Takes w 0 1 (global_code c b g to k)
    global_takes true g to k = whole_takes (Global g) to
    global_takes false g to k = record { few = omega arith }

    -- the code of a name's value weighs at most 1
    pub name_takes : (p : Place) (to : ℕ) (k : Kind) → Takes w 0 1 (name_code c p to k)
    name_takes (Global g) to k = global_takes (is_array (slice_get c.globals g)) g to k
    name_takes (Scalar j) to k = record { few = omega arith }
    name_takes (Array a) to k = whole_takes (Array a) to

    -- the code of an element's value weighs at most 4
    pub element_takes : (p : Place) (d : ℕ) (k : Kind) → Takes w 0 4 (element_code c p d k)
    element_takes p d k = after (address_takes p k (temp d) (temp d))
        (one_more (Load (temp d) (load_op k) (Var (temp d))) refl)

    -- two indexes become one
    pub joined_by_takes : (q : Option ℕ) (d : ℕ) → Takes w 0 2 (joined_by q d)
    joined_by_takes None d = none 2
    joined_by_takes (Some q) d = after (scaled_takes (exponent_of q) q (temp d))
        (one_more (Let (temp d) op.Add (Var (temp d)) (Var (temp (suc d)))) refl)

    -- BUMPS

    bump_scalar_takes : (o : BumpOp) (b : Bool) (j d : ℕ) (k : Kind)
        → Takes w 0 3 (bump_scalar o b j d k)
    bump_scalar_takes o true j d k = after (bumped_takes o k j j)
        (one_more (Let (temp d) op.Mov (Var j) (Const 0)) refl)
    bump_scalar_takes o false j d k = after (one_more (Let (temp d) op.Mov (Var j) (Const 0)) refl)
        (bumped_takes o k j j)

    bump_memory_takes : (o : BumpOp) (b : Bool) (at : Arg) (d : ℕ) (k : Kind)
        → Takes w 0 4 (bump_memory o b at d k)
    bump_memory_takes o true at d k = after (one_more (Load (temp d) (load_op k) at) refl)
        (after (bumped_takes o k (temp d) (temp d))
        (one_more (Save (save_op k) at (Var (temp d))) refl))
    bump_memory_takes o false at d k = after (one_more (Load (temp d) (load_op k) at) refl)
        (after (bumped_takes o k (scratch 1) (temp d))
        (one_more (Save (save_op k) at (Var (scratch 1))) refl))

    -- the code of a bump of a name weighs at most 4
    pub bump_name_takes : (o : BumpOp) (p : Place) (d : ℕ) (k : Kind)
        → Takes w 0 4 (bump_name c o p d k)
    bump_name_takes o (Global g) d k = bump_memory_takes o (is_before o)
        (Const (global_at c.globals g)) d k
    bump_name_takes o (Scalar j) d k = eased (bump_scalar_takes o (is_before o) j d k) (omega arith)
    bump_name_takes o (Array a) d k = none 4

    -- the code of a bump of an element weighs at most 7
    pub bump_element_takes : (o : BumpOp) (p : Place) (d : ℕ) (k : Kind)
        → Takes w 0 7 (bump_element c o p d k)
    bump_element_takes o p d k = after (address_takes p k (scratch 0) (temp d))
        (bump_memory_takes o (is_before o) (Var (scratch 0)) d k)

    -- ASSIGNMENTS

    assign_name_takes : (p : Place) (d : ℕ) (k : Kind) → Takes w 0 1 (assign_name c p d k)
    assign_name_takes (Global g) d k = record { few = omega arith }
    assign_name_takes (Scalar j) d k = record { few = omega arith }
    assign_name_takes (Array a) d k = none 1

    old_name_takes : (p : Place) (d : ℕ) (at k : Kind) → Takes w 0 2 (old_name c p d at k)
    old_name_takes (Global g) d at k = after
        (one_more (Load (temp d) (load_op k) (Const (global_at c.globals g))) refl)
        (converted_here_takes (Some k) at (temp d))
    old_name_takes (Scalar j) d at k =
        eased (narrowed_to_takes (narrowing_from (Some k) at) (temp d) j) (omega arith)
    old_name_takes (Array a) d at k = none 2

    compound_takes : (o : BinaryOp) (d y : ℕ) (at k : Kind) → Takes w 0 4 (compound_code o d y at k)
    compound_takes o d y at k = after (binary_takes o at (temp d) (temp y))
        (converted_here_takes (Some at) k (temp d))

    old_element_takes : (p : Place) (d : ℕ) (at k : Kind) → Takes w 0 5 (old_element c p d at k)
    old_element_takes p d at k = after (address_takes p k (temp (suc d)) (temp d))
        (after (one_more (Load (temp d) (load_op k) (Var (temp (suc d)))) refl)
        (converted_here_takes (Some k) at (temp d)))

    -- before and behind the right side, for a name and for an element
    pub before_name_takes : (o : Option BinaryOp) (at : Kind) (d : ℕ) (j : Option Kind) (p : Place)
        (k : Kind)
        → Takes w 0 2 (before_right c o at d (Name j p) k)
    before_name_takes None at d j p k = none 2
    before_name_takes (Some o) at d j p k = old_name_takes p d at k

    -- what stands behind the right side of an assignment to a name weighs at most 5
    pub after_name_takes : (o : Option BinaryOp) (at : Kind) (d : ℕ) (j : Option Kind) (p : Place)
        (k : Kind)
        → Takes w 0 5 (after_right c o at d (Name j p) k)
    after_name_takes None at d j p k = eased (assign_name_takes p d k) (omega arith)
    after_name_takes (Some o) at d j p k = after (compound_takes o d (suc d) at k)
        (assign_name_takes p d k)

    -- what stands before the right side of an assignment to an element weighs at most 5
    pub before_element_takes : (o : Option BinaryOp) (at : Kind) (d : ℕ) (j : Option Kind) (p : Place)
        (index : Expr) (k : Kind)
        → Takes w 0 5 (before_right c o at d (Element j p index) k)
    before_element_takes None at d j p index k =
        eased (address_takes p k (temp d) (temp d)) (omega arith)
    before_element_takes (Some o) at d j p index k = old_element_takes p d at k

    -- what stands behind the right side of an assignment to an element weighs at most 5
    pub after_element_takes : (o : Option BinaryOp) (at : Kind) (d : ℕ) (j : Option Kind) (p : Place)
        (index : Expr) (k : Kind)
        → Takes w 0 5 (after_right c o at d (Element j p index) k)
    after_element_takes None at d j p index k = record { few = omega arith }
    after_element_takes (Some o) at d j p index k =
        after (compound_takes o d (suc (suc d)) at k)
        (one_more (Save (save_op k) (Var (temp (suc d))) (Var (temp d))) refl)

    -- and for an element by two indexes, of which one is made before
    pub before_row_takes : (o : Option BinaryOp) (at : Kind) (d : ℕ) (j : Option Kind) (p : Place)
        (row index : Expr) (k : Kind)
        → Takes w 0 5 (before_right c o at d (RowElement j p row index) k)
    before_row_takes None at d j p row index k = before_element_takes None at d j p index k
    before_row_takes (Some o) at d j p row index k = before_element_takes (Some o) at d j p index k

    -- what stands behind the right side of an assignment to an element of a row weighs at most 5
    pub after_row_takes : (o : Option BinaryOp) (at : Kind) (d : ℕ) (j : Option Kind) (p : Place)
        (row index : Expr) (k : Kind)
        → Takes w 0 5 (after_right c o at d (RowElement j p row index) k)
    after_row_takes None at d j p row index k = after_element_takes None at d j p index k
    after_row_takes (Some o) at d j p row index k = after_element_takes (Some o) at d j p index k

-- The code of operations and conversions fits where its variables do.
use Rattle.std.proofs.Common.{◌≡◌, ℕ, ◌-◌, ◌^◌, ◌<◌, Bool, true, false, cond, List, Option, Some, None}
use Rattle.std.proofs.Common.{refl, arith}
use Rattle.c_tree.specs.declared.Kind.{Kind}
use Rattle.c_tree.specs.declared.Kind.TheVariants.{Char, Int, UInt, Long, ULong}
use Rattle.c_tree.specs.declared.UnaryOp.{UnaryOp}
use Rattle.c_tree.specs.declared.UnaryOp.TheVariants.{Plus, Minus, Complement, Not}
use Rattle.c_tree.specs.declared.BumpOp.{BumpOp}
use Rattle.c_tree.specs.declared.BumpOp.TheVariants.{PreInc}
use Rattle.c_tree.specs.declared.BinaryOp.{BinaryOp}
use Rattle.c_tree.specs.declared.BinaryOp.TheVariants.{LogicalOr, LogicalAnd}
use Rattle.c_tree.specs.declared.BinaryOp.TheVariants.{Less, Greater, LessEqual}
use Rattle.c_tree.specs.declared.BinaryOp.TheVariants.{GreaterEqual, ShiftLeft, ShiftRight, Add}
use Rattle.c_tree.specs.declared.BinaryOp.TheVariants.{Subtract, Multiply, Divide, Remainder}
use Rattle.c_constant.specs.Kinds.{is_signed}
use Rattle.trips_isa.specs.declared.op.Op.{Op}
use Rattle.trips_isa.specs.declared.op.Op.TheVariants as op
use Rattle.ir_forms.specs.declared.flat.Arg.TheVariants.{Const, Var}
use Rattle.ir_forms.specs.inside.FlatCode.{Function}
use Rattle.ir_forms.specs.inside.FlatFits.{operates, loads, stores, FitsVar}
use Rattle.flat_lower.specs.inside.Operations.{scratch, set_word, copied, one_done, two_done}
use Rattle.flat_lower.specs.inside.Narrowing.{narrowing, narrowing_from, is_within}
use Rattle.flat_lower.specs.inside.Operations.{narrowed_by, narrowed_here, converted_to}
use Rattle.flat_lower.specs.inside.Operations.{converted_here, reduced_here, by_sign, remainder_code}
use Rattle.flat_lower.specs.inside.Operations.{binary_code, unary_code, bump_op, bump_narrowing, bumped}
use Rattle.flat_lower.specs.inside.Operations.{load_op, save_op}
use Rattle.flat_lower.specs.declared.powers.Power.{Power}
use Rattle.flat_lower.specs.inside.Powers.{exponent_of, immediate_code, exact_code, rounded_code, bias_code}
use Rattle.flat_lower.specs.inside.Powers.{biased_code, are_signs, scaled_by}
use Rattle.flat_lower.proofs.PowerLaws.{exponent_is}
use Rattle.flat_lower.proofs.Immediates.{IsSmall}
use Rattle.flat_lower_premises.proofs.Fitting.{Fitting, nothing_fits, let_fits, joined, scratch_fits}

-- OPERATIONS

chosen : (b : Bool) (s u : Op) → operates s ≡ true → operates u ≡ true
    → operates (cond b s u) ≡ true
chosen true s u p q = p
chosen false s u p q = q

signed : (k : Kind) (s u : Op) → operates s ≡ true → operates u ≡ true
    → operates (by_sign k s u) ≡ true
signed k s u p q = chosen (is_signed k) s u p q

bumps : (o : BumpOp) → operates (bump_op o) ≡ true
bumps PreInc = refl
bumps _ = refl

-- an operation that narrows, where there is one
abbrev IfOperates : Option Op → Type 0
IfOperates None = Unit {0}
IfOperates (Some o) = operates o ≡ true

narrowing_works : (k : Kind) → IfOperates (narrowing k)
narrowing_works Long = tt
narrowing_works ULong = tt
narrowing_works _ = refl

-- what is left of it behind a test
unless_works : (b : Bool) (o : Option Op) → IfOperates o → IfOperates (cond b None o)
unless_works true o h = tt
unless_works false o h = h

narrowing_from_works : (j : Option Kind) (k : Kind) → IfOperates (narrowing_from j k)
narrowing_from_works None k = narrowing_works k
narrowing_from_works (Some j) k = unless_works (is_within j k) (narrowing k) (narrowing_works k)

bump_narrowing_works : (k : Kind) → IfOperates (bump_narrowing k)
bump_narrowing_works Int = tt
bump_narrowing_works Long = tt
bump_narrowing_works ULong = tt
bump_narrowing_works _ = refl

-- the load of each kind is an operation that loads
pub loads_fit : (k : Kind) → loads (load_op k) ≡ true
loads_fit Char = refl
loads_fit _ = refl

-- the store of each kind is an operation that stores
pub saves_fit : (k : Kind) → stores (save_op k) ≡ true
saves_fit Char = refl
saves_fit _ = refl

-- CODE

module _ {fs : List Function} {n bytes : ℕ} {i : Bool} where
  -- code that sets a variable to a word fits
  pub word_fits : (to w : ℕ) → FitsVar n to → w < 2 ^ 64 → Fitting fs n bytes i (set_word to w)
  word_fits to w p h = let_fits to op.Mov (Const w) (Const 0) refl p h (omega arith)

  -- code that copies a variable fits
  pub copied_fits : (to x : ℕ) → FitsVar n to → FitsVar n x → Fitting fs n bytes i (copied to x)
  copied_fits to x p q = let_fits to op.Mov (Var x) (Const 0) refl p q (omega arith)

  one : (to : ℕ) (o : Op) (x : ℕ) → operates o ≡ true → FitsVar n to → FitsVar n x
      → Fitting fs n bytes i (one_done to o x)
  one to o x e p q = let_fits to o (Var x) (Const 0) e p q (omega arith)

  two : (to : ℕ) (o : Op) (x y : ℕ) → operates o ≡ true → FitsVar n to → FitsVar n x → FitsVar n y
      → Fitting fs n bytes i (two_done to o x y)
  two to o x y e p q r = let_fits to o (Var x) (Var y) e p q r

  narrowed_fits : (o : Option Op) (x : ℕ) → IfOperates o → FitsVar n x → Fitting fs n bytes i (narrowed_here o x)
  narrowed_fits None x e p = nothing_fits
  narrowed_fits (Some o) x e p = one x o x e p p

  narrowed_to_fits : (o : Option Op) (to x : ℕ) → IfOperates o → FitsVar n to → FitsVar n x
      → Fitting fs n bytes i (narrowed_by o to x)
  narrowed_to_fits None to x e p q = copied_fits to x p q
  narrowed_to_fits (Some o) to x e p q = one to o x e p q

  -- the code of a conversion into another variable fits
  pub converted_to_fits : (j : Option Kind) (k : Kind) (to x : ℕ) → FitsVar n to → FitsVar n x
      → Fitting fs n bytes i (converted_to j k to x)
  converted_to_fits j k to x p q = narrowed_to_fits (narrowing_from j k) to x (narrowing_from_works j k) p q

  -- the code of a conversion in place fits
  pub converted_here_fits : (j : Option Kind) (k : Kind) (x : ℕ) → FitsVar n x
      → Fitting fs n bytes i (converted_here j k x)
  converted_here_fits j k x p = narrowed_fits (narrowing_from j k) x (narrowing_from_works j k) p

  reduced_fits : (k : Kind) (x : ℕ) → FitsVar n x → Fitting fs n bytes i (reduced_here k x)
  reduced_fits UInt x p = one x op.Extuw x refl p p
  reduced_fits k x p = nothing_fits

  remainder_fits : (o : Op) (x y : ℕ) → operates o ≡ true → FitsVar n x → FitsVar n y
      → Fitting fs n bytes i (remainder_code o x y)
  remainder_fits o x y e p q =
      let s = scratch_fits n 0 (omega arith) in
      joined (two (scratch 0) o x y e s p q)
      (joined (two (scratch 0) op.Mul (scratch 0) y refl s s q)
      (two x op.Sub x (scratch 0) refl p p s))

  -- the code of an operation on two variables fits
  pub binary_fits : (o : BinaryOp) (k : Kind) (x y : ℕ) → FitsVar n x → FitsVar n y
      → Fitting fs n bytes i (binary_code o k x y)
  binary_fits LogicalOr k x y p q = nothing_fits
  binary_fits LogicalAnd k x y p q = nothing_fits
  binary_fits Less k x y p q = two x (by_sign k op.Tlt op.Tltu) x y
      (signed k op.Tlt op.Tltu refl refl) p p q
  binary_fits Greater k x y p q = two x (by_sign k op.Tgt op.Tgtu) x y
      (signed k op.Tgt op.Tgtu refl refl) p p q
  binary_fits LessEqual k x y p q = two x (by_sign k op.Tle op.Tleu) x y
      (signed k op.Tle op.Tleu refl refl) p p q
  binary_fits GreaterEqual k x y p q = two x (by_sign k op.Tge op.Tgeu) x y
      (signed k op.Tge op.Tgeu refl refl) p p q
  binary_fits ShiftLeft k x y p q = joined (two x op.Sll x y refl p p q) (reduced_fits k x p)
  binary_fits ShiftRight k x y p q = two x (by_sign k op.Sra op.Srl) x y
      (signed k op.Sra op.Srl refl refl) p p q
  binary_fits Add k x y p q = joined (two x op.Add x y refl p p q) (reduced_fits k x p)
  binary_fits Subtract k x y p q = joined (two x op.Sub x y refl p p q) (reduced_fits k x p)
  binary_fits Multiply k x y p q = joined (two x op.Mul x y refl p p q) (reduced_fits k x p)
  binary_fits Divide k x y p q = two x (by_sign k op.Divs op.Divu) x y
      (signed k op.Divs op.Divu refl refl) p p q
  binary_fits Remainder k x y p q = remainder_fits (by_sign k op.Divs op.Divu) x y
      (signed k op.Divs op.Divu refl refl) p q
  binary_fits _ k x y p q = two x _ x y refl p p q

  exact_fits : (o : BinaryOp) (q : Power) (x : ℕ) → IsSmall q → FitsVar n x
      → Fitting fs n bytes i (exact_code o q x)
  exact_fits Divide q x h p =
      let l = h.exponent in let_fits x op.Srl (Var x) (Const q.exponent) refl p p (omega arith)
  exact_fits _ q x h p = let_fits x op.And (Var x) (Const q.mask) refl p p h.mask

  bias_fits : (short : Bool) (m x : ℕ) → FitsVar n x → Fitting fs n bytes i (bias_code short m x)
  bias_fits true m x p =
      let_fits (scratch 0) op.Srl (Var x) (Const (64 - m)) refl (scratch_fits n 0 (omega arith)) p (omega arith)
  bias_fits false m x p =
      let s = scratch_fits n 0 (omega arith) in
      joined (let_fits (scratch 0) op.Sra (Var x) (Const 63) refl s p (omega arith))
      (let_fits (scratch 0) op.Srl (Var (scratch 0)) (Const (64 - m)) refl s s (omega arith))

  biased_fits : (o : BinaryOp) (q : Power) (x : ℕ) → IsSmall q → FitsVar n x
      → Fitting fs n bytes i (biased_code o q x)
  biased_fits Divide q x h p =
      let l = h.exponent in let_fits x op.Sra (Var x) (Const q.exponent) refl p p (omega arith)
  biased_fits _ q x h p = joined (let_fits x op.And (Var x) (Const q.mask) refl p p h.mask)
      (two x op.Sub x (scratch 0) refl p p (scratch_fits n 0 (omega arith)))

  rounded_fits : (o : BinaryOp) (k : Kind) (q : Power) (x : ℕ) → IsSmall q → FitsVar n x
      → Fitting fs n bytes i (rounded_code o k q x)
  rounded_fits o k q x h p = joined (bias_fits (are_signs k q.exponent) q.exponent x p)
      (joined (two x op.Add x (scratch 0) refl p p (scratch_fits n 0 (omega arith))) (biased_fits o q x h p))

  immediate_by : (b : Bool) (o : BinaryOp) (k : Kind) (q : Power) (x : ℕ) → IsSmall q → FitsVar n x
      → Fitting fs n bytes i (cond b (rounded_code o k q x) (exact_code o q x))
  immediate_by true o k q x h p = rounded_fits o k q x h p
  immediate_by false o k q x h p = exact_fits o q x h p

  -- the code of an operation on a variable and a power of two fits
  pub immediate_fits : (o : BinaryOp) (k : Kind) (q : Power) (x : ℕ) → IsSmall q → FitsVar n x
      → Fitting fs n bytes i (immediate_code o k q x)
  immediate_fits o k q x h p = immediate_by (is_signed k) o k q x h p

  scaled_with_fits : (o : Option ℕ) (q x : ℕ) → exponent_of q ≡ o → q < 2 ^ 64 → FitsVar n x
      → Fitting fs n bytes i (scaled_by o q x)
  scaled_with_fits None q x e h p = let_fits x op.Mul (Var x) (Const q) refl p p h
  scaled_with_fits (Some k) q x e h p =
      let l = (exponent_is q k e).below in
      let_fits x op.Sll (Var x) (Const k) refl p p (omega arith)

  -- the code of a product with a word fits
  pub scaled_fits : (q x : ℕ) → q < 2 ^ 64 → FitsVar n x → Fitting fs n bytes i (scaled_by (exponent_of q) q x)
  scaled_fits q x h p = scaled_with_fits (exponent_of q) q x refl h p

  -- the code of an operation on one variable fits
  pub unary_fits : (o : UnaryOp) (k : Kind) (x : ℕ) → FitsVar n x
      → Fitting fs n bytes i (unary_code o k x)
  unary_fits Plus k x p = nothing_fits
  unary_fits Minus k x p = joined (let_fits x op.Sub (Const 0) (Var x) refl p (omega arith) p)
      (reduced_fits k x p)
  unary_fits Complement k x p = joined (let_fits x op.Sub (Const 18446744073709551615)
      (Var x) refl p (omega arith) p) (reduced_fits k x p)
  unary_fits Not k x p = let_fits x op.Teq (Var x) (Const 0) refl p p (omega arith)

  -- the code of a bumped word fits
  pub bumped_fits : (o : BumpOp) (k : Kind) (to x : ℕ) → FitsVar n to → FitsVar n x
      → Fitting fs n bytes i (bumped o k to x)
  bumped_fits o k to x p q = joined (let_fits to (bump_op o) (Var x) (Const 1) (bumps o) p q (omega arith))
      (narrowed_fits (bump_narrowing k) to (bump_narrowing_works k) p)

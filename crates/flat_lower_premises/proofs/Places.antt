-- The code of addresses, names and left sides fits, where the scalars that it names are the
-- function's.
use Rattle.std.proofs.Common.{ℕ, zero, suc, ◌^◌, ◌<◌, ◌≤◌, Bool, true, false, List, Option}
use Rattle.std.proofs.Common.{Some, None, refl, arith}
use Rattle.std.specs.Prelude.{slice_get}
use Rattle.c_tree.specs.declared.Kind.{Kind}
use Rattle.c_tree.specs.declared.Kind.TheVariants.{Char, UChar, Short, UShort, Int, UInt, Long, ULong}
use Rattle.c_tree.specs.declared.Kind.TheVariants as kind
use Rattle.c_tree.specs.declared.BumpOp.{BumpOp}
use Rattle.c_tree.specs.declared.BinaryOp.{BinaryOp}
use Rattle.c_tree.specs.declared.Place.{Place}
use Rattle.c_tree.specs.declared.Place.TheVariants.{Global, Scalar, Array}
use Rattle.c_meaning_spec.specs.Task.{is_array}
use Rattle.trips_isa.specs.declared.op.Op.TheVariants as op
use Rattle.ir_forms.specs.declared.flat.Arg.{Arg}
use Rattle.ir_forms.specs.declared.flat.Arg.TheVariants.{Const, Var}
use Rattle.ir_forms.specs.inside.FlatCode.{Function, Code, Then, only, Save}
use Rattle.ir_forms.specs.inside.FlatFits.{FitsVar, FitsArg}
use Rattle.flat_lower.specs.inside.Tree.{Expr, Name, Element, RowElement}
use Rattle.flat_lower.specs.inside.Operations.{temp, scratch, load_op, save_op, shift_of, is_before}
use Rattle.flat_lower.specs.inside.Objects.{Context, global_at, array_at, based, address_by, address_code}
use Rattle.flat_lower.specs.inside.Objects.{whole_code, row_of}
use Rattle.flat_lower.specs.inside.Expressions.{global_code, name_code, joined_by, joined_code, element_code}
use Rattle.flat_lower.specs.inside.Expressions.{bump_scalar, bump_memory, bump_name, bump_element, bump_code}
use Rattle.flat_lower.specs.inside.Expressions.{assign_name, old_name, compound_code, old_element}
use Rattle.flat_lower.specs.inside.Expressions.{assign_element, before_right, right_at, after_right}
use Rattle.flat_lower_premises.specs.inside.Laws.{IsSmallRow}
use Rattle.flat_lower_premises.proofs.Fitting.{Fitting, nothing_fits, let_fits, frame_fits, load_fits}
use Rattle.flat_lower_premises.proofs.Fitting.{save_fits, joined, temp_fits, scratch_fits}
use Rattle.flat_lower_premises.proofs.Operations.{loads_fit, saves_fit, copied_fits, converted_to_fits}
use Rattle.flat_lower_premises.proofs.Operations.{converted_here_fits, binary_fits, bumped_fits, scaled_fits}

-- a place that names no scalar which the function has not
abbrev pub FitsPlace : ℕ → Place → Type 0
FitsPlace n (Global g) = Unit {0}
FitsPlace n (Scalar i) = FitsVar n i
FitsPlace n (Array a) = Unit {0}

-- the place of a left side
abbrev pub FitsSide : ℕ → Expr → Type 0
FitsSide n (Name k p) = FitsPlace n p
FitsSide n (Element k p index) = FitsPlace n p
FitsSide n (RowElement k p row index) = FitsPlace n p
FitsSide n _ = Unit {0}

-- what a context says of objects: the addresses of globals are words, arrays lie among the
-- function's bytes, and second sizes are words
pub record HasPlaces (c : Context) (bytes : ℕ) : Type 0 where
  pub globals : (g : ℕ) → global_at c.globals g < 2 ^ 64
  pub arrays : (a : ℕ) → array_at c.arrays a ≤ bytes
  pub rows : (p : Place) → IsSmallRow (row_of c p)

shift_low : (k : Kind) → shift_of k < 2 ^ 64
shift_low Char = omega arith
shift_low UChar = omega arith
shift_low Short = omega arith
shift_low UShort = omega arith
shift_low Int = omega arith
shift_low UInt = omega arith
shift_low Long = omega arith
shift_low ULong = omega arith
shift_low kind.Bool = omega arith

module _ {fs : List Function} {n bytes : ℕ} {i : Bool} (c : Context) (low : HasPlaces c bytes) where
  -- ADDRESSES

  based_fits : (p : Place) (to x : ℕ) → FitsPlace n p → FitsVar n to → FitsVar n x
      → Fitting fs n bytes i (based c p to x)
  based_fits (Global g) to x t p q = let_fits to op.Add (Var x)
      (Const (global_at c.globals g)) refl p q (low.globals g)
  based_fits (Scalar j) to x t p q = let_fits to op.Add (Var x) (Var j) refl p q t
  based_fits (Array a) to x t p q =
      let s = scratch_fits n 1 (omega arith) in
      joined (frame_fits (scratch 1) (array_at c.arrays a) s (low.arrays a))
      (let_fits to op.Add (Var x) (Var (scratch 1)) refl p q s)

  address_by_fits : (size : ℕ) (p : Place) (to x : ℕ) → size < 2 ^ 64 → FitsPlace n p → FitsVar n to
      → FitsVar n x → Fitting fs n bytes i (address_by size c p to x)
  address_by_fits zero p to x h t q r = based_fits p to x t q r
  address_by_fits (suc m) p to x h t q r = joined
      (let_fits to op.Sll (Var x) (Const (suc m)) refl q r h) (based_fits p to to t q q)

  address_fits : (p : Place) (k : Kind) (to x : ℕ) → FitsPlace n p → FitsVar n to → FitsVar n x
      → Fitting fs n bytes i (address_code c p k to x)
  address_fits p k to x t q r = address_by_fits (shift_of k) p to x (shift_low k) t q r

  whole_fits : (p : Place) (to : ℕ) → FitsPlace n p → FitsVar n to
      → Fitting fs n bytes i (whole_code c p to)
  whole_fits (Global g) to t p = let_fits to op.Mov (Const (global_at c.globals g))
      (Const 0) refl p (low.globals g) (omega arith)
  whole_fits (Scalar j) to t p = let_fits to op.Mov (Var j) (Const 0) refl p t (omega arith)
  whole_fits (Array a) to t p = frame_fits to (array_at c.arrays a) p (low.arrays a)

  -- NAMES

  global_fits : (b : Bool) (g to : ℕ) (k : Kind) → FitsVar n to
      → Fitting fs n bytes i (global_code c b g to k)
  global_fits true g to k p = whole_fits (Global g) to tt p
  global_fits false g to k p = load_fits to (load_op k) (Const (global_at c.globals g))
      (loads_fit k) p (low.globals g)

  -- the code of a name fits
  pub name_fits : (p : Place) (to : ℕ) (k : Kind) → FitsPlace n p → FitsVar n to
      → Fitting fs n bytes i (name_code c p to k)
  name_fits (Global g) to k t p = global_fits (is_array (slice_get c.globals g)) g to k p
  name_fits (Scalar j) to k t p = copied_fits to j p t
  name_fits (Array a) to k t p = whole_fits (Array a) to tt p

  -- the code of an element behind its index fits
  pub element_fits : (p : Place) (d : ℕ) (k : Kind) → FitsPlace n p → d < 16
      → Fitting fs n bytes i (element_code c p d k)
  element_fits p d k t h =
      let q = temp_fits n d h in
      joined (address_fits p k (temp d) (temp d) t q q)
      (load_fits (temp d) (load_op k) (Var (temp d)) (loads_fit k) q q)

  -- two indexes become one
  joined_by_fits : (q : Option ℕ) (d : ℕ) → IsSmallRow q → suc d < 16
      → Fitting fs n bytes i (joined_by q d)
  joined_by_fits None d r h = nothing_fits
  joined_by_fits (Some q) d r h =
      let p = temp_fits n d (omega arith) in
      joined (scaled_fits q (temp d) r p)
      (let_fits (temp d) op.Add (Var (temp d)) (Var (temp (suc d))) refl p p (temp_fits n (suc d) h))

  -- the code of two indexes fits where each one's does
  pub joined_code_fits : (p : Place) (d : ℕ) (row index : Code) → suc d < 16
      → Fitting fs n bytes i row → Fitting fs n bytes i index
      → Fitting fs n bytes i (joined_code c p d row index)
  joined_code_fits p d row index h t u =
      joined t (joined u (joined_by_fits (row_of c p) d (low.rows p) h))

  -- BUMPS

  bump_scalar_fits : (o : BumpOp) (b : Bool) (j d : ℕ) (k : Kind) → FitsVar n j → d < 16
      → Fitting fs n bytes i (bump_scalar o b j d k)
  bump_scalar_fits o true j d k p h = joined (bumped_fits o k j j p p)
      (copied_fits (temp d) j (temp_fits n d h) p)
  bump_scalar_fits o false j d k p h = joined (copied_fits (temp d) j (temp_fits n d h) p)
      (bumped_fits o k j j p p)

  bump_memory_fits : (o : BumpOp) (b : Bool) (at : Arg) (d : ℕ) (k : Kind) → FitsArg n at → d < 16
      → Fitting fs n bytes i (bump_memory o b at d k)
  bump_memory_fits o true at d k p h =
      let q = temp_fits n d h in
      joined (load_fits (temp d) (load_op k) at (loads_fit k) q p)
      (joined (bumped_fits o k (temp d) (temp d) q q)
      (save_fits (save_op k) at (Var (temp d)) (saves_fit k) p q))
  bump_memory_fits o false at d k p h =
      let q = temp_fits n d h in
      let s = scratch_fits n 1 (omega arith) in
      joined (load_fits (temp d) (load_op k) at (loads_fit k) q p)
      (joined (bumped_fits o k (scratch 1) (temp d) s q)
      (save_fits (save_op k) at (Var (scratch 1)) (saves_fit k) p s))

  bump_name_fits : (o : BumpOp) (p : Place) (d : ℕ) (k : Kind) → FitsPlace n p → d < 16
      → Fitting fs n bytes i (bump_name c o p d k)
  bump_name_fits o (Global g) d k t h = bump_memory_fits o (is_before o)
      (Const (global_at c.globals g)) d k (low.globals g) h
  bump_name_fits o (Scalar j) d k t h = bump_scalar_fits o (is_before o) j d k t h
  bump_name_fits o (Array a) d k t h = nothing_fits

  bump_element_fits : (o : BumpOp) (p : Place) (d : ℕ) (k : Kind) → FitsPlace n p → d < 16
      → Fitting fs n bytes i (bump_element c o p d k)
  bump_element_fits o p d k t h =
      let s = scratch_fits n 0 (omega arith) in
      joined (address_fits p k (scratch 0) (temp d) t s (temp_fits n d h))
      (bump_memory_fits o (is_before o) (Var (scratch 0)) d k s h)

  -- the code of a bump fits
  pub bump_fits : (o : BumpOp) (d : ℕ) (e : Expr) (k : Kind) → FitsSide n e → d < 16
      → Fitting fs n bytes i (bump_code c o d e k)
  bump_fits o d (Name j p) k t h = bump_name_fits o p d k t h
  bump_fits o d (Element j p index) k t h = bump_element_fits o p d k t h
  bump_fits o d (RowElement j p row index) k t h = bump_element_fits o p d k t h
  bump_fits o d _ k t h = nothing_fits

  -- ASSIGNMENTS

  assign_name_fits : (p : Place) (d : ℕ) (k : Kind) → FitsPlace n p → d < 16
      → Fitting fs n bytes i (assign_name c p d k)
  assign_name_fits (Global g) d k t h = save_fits (save_op k) (Const (global_at c.globals g))
      (Var (temp d)) (saves_fit k) (low.globals g) (temp_fits n d h)
  assign_name_fits (Scalar j) d k t h = copied_fits j (temp d) t (temp_fits n d h)
  assign_name_fits (Array a) d k t h = nothing_fits

  old_name_fits : (p : Place) (d : ℕ) (at k : Kind) → FitsPlace n p → d < 16
      → Fitting fs n bytes i (old_name c p d at k)
  old_name_fits (Global g) d at k t h =
      let q = temp_fits n d h in
      joined (load_fits (temp d) (load_op k) (Const (global_at c.globals g)) (loads_fit k) q (low.globals g))
      (converted_here_fits (Some k) at (temp d) q)
  old_name_fits (Scalar j) d at k t h = converted_to_fits (Some k) at (temp d) j (temp_fits n d h) t
  old_name_fits (Array a) d at k t h = nothing_fits

  compound_fits : (o : BinaryOp) (d y : ℕ) (at k : Kind) → d < 16 → y < 16
      → Fitting fs n bytes i (compound_code o d y at k)
  compound_fits o d y at k h g = joined (binary_fits o at (temp d) (temp y) (temp_fits n d h)
      (temp_fits n y g)) (converted_here_fits (Some at) k (temp d) (temp_fits n d h))

  old_element_fits : (p : Place) (d : ℕ) (at k : Kind) → FitsPlace n p → suc d < 16
      → Fitting fs n bytes i (old_element c p d at k)
  old_element_fits p d at k t h =
      let q = temp_fits n d (omega arith) in
      let r = temp_fits n (suc d) h in
      joined (address_fits p k (temp (suc d)) (temp d) t r q)
      (joined (load_fits (temp d) (load_op k) (Var (temp (suc d))) (loads_fit k) q r)
      (converted_here_fits (Some k) at (temp d) q))

  assign_element_fits : (d : ℕ) (k : Kind) → suc d < 16 → Fitting fs n bytes i (assign_element d k)
  assign_element_fits d k h =
      let q = temp_fits n d (omega arith) in
      let r = temp_fits n (suc d) h in
      joined (save_fits (save_op k) (Var (temp d)) (Var (temp (suc d))) (saves_fit k) q r)
      (copied_fits (temp d) (temp (suc d)) q r)

  -- the result of the operation of a compound assignment goes to the element
  changed_element_fits : (o : BinaryOp) (d : ℕ) (at k : Kind) → suc (suc d) < 16
      → Fitting fs n bytes i (Then (compound_code o d (suc (suc d)) at k)
      (only (Save (save_op k) (Var (temp (suc d))) (Var (temp d)))))
  changed_element_fits o d at k h =
      let q = temp_fits n d (omega arith) in
      let r = temp_fits n (suc d) (omega arith) in
      joined (compound_fits o d (suc (suc d)) at k (omega arith) h)
      (save_fits (save_op k) (Var (temp (suc d))) (Var (temp d)) (saves_fit k) r q)

  -- the code before the right side of an assignment fits
  pub before_fits : (o : Option BinaryOp) (at : Kind) (d : ℕ) (l : Expr) (k : Kind) → FitsSide n l
      → right_at o d l < 16 → Fitting fs n bytes i (before_right c o at d l k)
  before_fits None at d (Element j p index) k t h =
      let q = temp_fits n d (omega arith) in
      address_fits p k (temp d) (temp d) t q q
  before_fits None at d (RowElement j p row index) k t h =
      let q = temp_fits n d (omega arith) in
      address_fits p k (temp d) (temp d) t q q
  before_fits (Some o) at d (Element j p index) k t h = old_element_fits p d at k t (omega arith)
  before_fits (Some o) at d (RowElement j p row index) k t h = old_element_fits p d at k t (omega arith)
  before_fits (Some o) at d (Name j p) k t h = old_name_fits p d at k t (omega arith)
  before_fits o at d _ k t h = nothing_fits

  -- the code behind the right side of an assignment fits
  pub after_fits : (o : Option BinaryOp) (at : Kind) (d : ℕ) (l : Expr) (k : Kind) → FitsSide n l
      → right_at o d l < 16 → Fitting fs n bytes i (after_right c o at d l k)
  after_fits None at d (Name j p) k t h = assign_name_fits p d k t h
  after_fits None at d (Element j p index) k t h = assign_element_fits d k h
  after_fits None at d (RowElement j p row index) k t h = assign_element_fits d k h
  after_fits (Some o) at d (Name j p) k t h =
      joined (compound_fits o d (suc d) at k (omega arith) h)
      (assign_name_fits p d k t (omega arith))
  after_fits (Some o) at d (Element j p index) k t h = changed_element_fits o d at k h
  after_fits (Some o) at d (RowElement j p row index) k t h = changed_element_fits o d at k h
  after_fits o at d _ k t h = nothing_fits

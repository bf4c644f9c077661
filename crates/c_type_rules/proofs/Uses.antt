-- What those who take a well formed program use first: the function of a call, and the object of a place.
use Rattle.std.proofs.Common.{◌≡◌, ℕ, zero, suc, ◌≤◌, List, [], ◌∷◌, length, take, Option, Some, None, refl, sym, ap}
use Rattle.std.proofs.Common.{◌∙◌, subst, arith}
use Rattle.std.specs.Prelude.{slice_get, option_map}
use Rattle.c_tree.specs.declared.token.Kind.{Kind}
use Rattle.c_tree.specs.declared.typed.Callee.TheVariants as callee
use Rattle.c_tree.specs.declared.typed.Place.TheVariants as place
use Rattle.c_tree.specs.declared.typed.Slot.{Slot}
use Rattle.c_tree.specs.declared.typed.Slot.TheVariants as slot
use Rattle.c_tree.specs.declared.typed.TypedArray.{TypedArray}
use Rattle.c_tree.specs.declared.typed.TypedExpr.{TypedExpr}
use Rattle.c_tree.specs.declared.typed.TypedFunc.{TypedFunc}
use Rattle.c_tree.specs.declared.typed.TypedGlobal.{TypedGlobal}
use Rattle.c_tree.specs.declared.typed.TypedNode.TheOpen.{Call, Convert}
use Rattle.c_tree.specs.declared.typed.TypedProgram.{TypedProgram}
use Rattle.c_type_rules.specs.inside.Objects.{Signature, signature, of_function, slot_scalar, slot_array, scalar_kind}
use Rattle.c_type_rules.specs.inside.Objects.{Shape, shape, shape_if, global_scalar, global_array, local_array}
use Rattle.c_type_rules.specs.inside.Objects.{scalar_at}
use Rattle.c_type_rules.specs.inside.Objects.{array_at}
use Rattle.c_type_rules.specs.inside.Expressions.{Gives, Passes}
use Rattle.c_type_rules.specs.inside.Expressions as rule
use Rattle.c_type_rules.specs.inside.WellFormed.{FunctionFits, WellFormed}
use Rattle.c_type_rules.proofs.Moves.{some_is}
use Rattle.c_type_rules.proofs.WellFormedPrograms.{each_at}

-- FUNCTIONS

-- each function of the program fits
pub function_at : (P : TypedProgram) → WellFormed P → (n : ℕ) (g : TypedFunc) → slice_get P.functions n ≡ Some g
    → FunctionFits P g
function_at P w n g e = each_at (FunctionFits P) P.functions n g w.functions e

-- as many arguments as parameters
pub as_many : (P : TypedProgram) (f : TypedFunc) (slots : List Slot) (es : List TypedExpr) → Passes P f slots es
    → length es ≡ length slots
as_many P f _ _ rule.end = refl
as_many P f _ _ (rule.value {slots = slots} {es = es} h p) = ap suc (as_many P f slots es p)
as_many P f _ _ (rule.address {slots = slots} {es = es} k n a p) = ap suc (as_many P f slots es p)

-- of enough, as many are taken as are wanted
taken : (n : ℕ) (xs : List Slot) → n ≤ length xs → length (take n xs) ≡ n
taken zero xs l = refl
taken (suc n) [] l = absurd (omega (arith, l))
taken (suc n) (x ∷ xs) l = ap suc (taken n xs (omega (arith, l)))

-- the function that a call calls: its result, its parameters, and how many they are
pub record Called (P : TypedProgram) (f : TypedFunc) (n : ℕ) (r : Option Kind) (es : List TypedExpr) : Type 0 where
  pub function : TypedFunc
  pub is : slice_get P.functions n ≡ Some function
  pub fits : FunctionFits P function
  pub result : function.result ≡ r
  pub passes : Passes P f (take function.params function.scalars) es
  pub count : length es ≡ function.params

-- the same, where what has the number is told apart
by_option : (P : TypedProgram) (f : TypedFunc) (n : ℕ) (r : Option Kind) (slots : List Slot) (es : List TypedExpr)
    → WellFormed P → Passes P f slots es
    → (o : Option TypedFunc) → slice_get P.functions n ≡ o → option_map of_function o ≡ Some (signature r slots)
    → Called P f n r es
by_option P f n r slots es w p None e h = absurd (cc)
by_option P f n r slots es w p (Some g) e h =
    let is = some_is _ _ h in
    let fits = function_at P w n g e in
    let passes = subst (λ ss. Passes P f ss es) (sym (ap (λ (s : Signature). s.params) is)) p in
    record {
      function = g;
      is = e;
      fits = fits;
      result = ap (λ (s : Signature). s.result) is;
      passes = passes;
      count = as_many P f (take g.params g.scalars) es passes ∙ taken g.params g.scalars fits.slots;
    }

-- a call in a well formed program has its function and its arguments
pub called : (P : TypedProgram) (f : TypedFunc) (n : ℕ) (r : Option Kind) (es : List TypedExpr) → WellFormed P
    → Gives P f r (Call (callee.Func n) es) → Called P f n r es
called P f n r es w (rule.call {slots = slots} h p) = by_option P f n r slots es w p (slice_get P.functions n) refl h

-- a conversion gives nothing by itself, so that none stands in another
pub no_conversion : (P : TypedProgram) (f : TypedFunc) (r : Option Kind) (k : Kind) (e : TypedExpr)
    → Gives P f r (Convert k e) → ⊥
no_conversion P f r k e g = elim g [ ]

-- OBJECTS

-- a slot that has the type of a scalar is one
slot_is_scalar : (o : Option Slot) (k : Kind) → slot_scalar o ≡ Some k → o ≡ Some (slot.Scalar k)
slot_is_scalar None k h = absurd (cc)
slot_is_scalar (Some (slot.Scalar j)) k h = ap (λ k. Some (slot.Scalar k)) (some_is _ _ h)
slot_is_scalar (Some (slot.Address j q)) k h = absurd (cc)

-- a slot that stands for an array
slot_is_array : (o : Option Slot) (k : Kind) (q : Option ℕ) → slot_array o ≡ Some (shape k q)
    → o ≡ Some (slot.Address k q)
slot_is_array None k q h = absurd (cc)
slot_is_array (Some (slot.Scalar j)) k q h = absurd (cc)
slot_is_array (Some (slot.Address j p)) k q h = ap (λ (s : Shape). Some (slot.Address s.kind s.row)) (some_is _ _ h)

-- a local scalar or a parameter that is a value
pub scalar_slot : (P : TypedProgram) (f : TypedFunc) (n : ℕ) (k : Kind) → scalar_at P f (place.Scalar n) ≡ Some k
    → slice_get f.scalars n ≡ Some (slot.Scalar k)
scalar_slot P f n k h = slot_is_scalar (slice_get f.scalars n) k h

-- a parameter that stands for an array
pub array_slot : (P : TypedProgram) (f : TypedFunc) (n : ℕ) (k : Kind) (q : Option ℕ)
    → array_at P f (place.Scalar n) ≡ Some (shape k q) → slice_get f.scalars n ≡ Some (slot.Address k q)
array_slot P f n k q h = slot_is_array (slice_get f.scalars n) k q h

-- a global scalar or array
pub record GlobalAt (P : TypedProgram) (n : ℕ) (k : Kind) : Type 0 where
  pub global : TypedGlobal
  pub is : slice_get P.globals n ≡ Some global
  pub kind : global.kind ≡ k

-- the same, where what has the number is told apart
scalar_by : (P : TypedProgram) (n : ℕ) (k : Kind) (o : Option TypedGlobal) → slice_get P.globals n ≡ o
    → global_scalar o
    ≡ Some k
    → (g : GlobalAt P n k) × (g.global.length ≡ None)
scalar_by P n k None e h = absurd (cc)
scalar_by P n k (Some g) e h = by g.length refl
  where
    by : (l : Option ℕ) → g.length ≡ l → (g : GlobalAt P n k) × (g.global.length ≡ None)
    by None q = (record { global = g; is = e; kind = some_is _ _ (sym (ap (scalar_kind g.kind) q) ∙ h) }, q)
    by (Some l) q = let no : None ≡ Some k = sym (ap (scalar_kind g.kind) q) ∙ h in absurd (cc)

-- a global scalar has no length
pub global_scalar_at : (P : TypedProgram) (f : TypedFunc) (n : ℕ) (k : Kind) → scalar_at P f (place.Global n) ≡ Some k
    → (g : GlobalAt P n k) × (g.global.length ≡ None)
global_scalar_at P f n k h = scalar_by P n k (slice_get P.globals n) refl h

-- a global array: its length, and its second size
pub record ArrayAt (P : TypedProgram) (n : ℕ) (k : Kind) (q : Option ℕ) : Type 0 where
  pub global : TypedGlobal
  pub is : slice_get P.globals n ≡ Some global
  pub kind : global.kind ≡ k
  pub row : global.row ≡ q
  pub long : ℕ
  pub holds : global.length ≡ Some long

-- the same, where what has the number is told apart
array_by : (P : TypedProgram) (n : ℕ) (k : Kind) (q : Option ℕ) (o : Option TypedGlobal) → slice_get P.globals n ≡ o
    → global_array o ≡ Some (shape k q) → ArrayAt P n k q
array_by P n k q None e h = absurd (cc)
array_by P n k q (Some g) e h = by g.length refl
  where
    by : (l : Option ℕ) → g.length ≡ l → ArrayAt P n k q
    by None z = let no : None ≡ Some (shape k q) = sym (ap (shape_if (shape g.kind g.row)) z) ∙ h in absurd (cc)
    by (Some l) z =
        let s : shape g.kind g.row ≡ shape k q = some_is _ _ (sym (ap (shape_if (shape g.kind g.row)) z) ∙ h) in
        record {
          global = g;
          is = e;
          kind = ap (λ (s : Shape). s.kind) s;
          row = ap (λ (s : Shape). s.row) s;
          long = l;
          holds = z;
        }

-- a global array has a length
pub global_array_at : (P : TypedProgram) (f : TypedFunc) (n : ℕ) (k : Kind) (q : Option ℕ)
    → array_at P f (place.Global n) ≡ Some (shape k q) → ArrayAt P n k q
global_array_at P f n k q h = array_by P n k q (slice_get P.globals n) refl h

-- the same, where what has the number is told apart
local_by : (f : TypedFunc) (n : ℕ) (k : Kind) (q : Option ℕ) (o : Option TypedArray) → slice_get f.arrays n ≡ o
    → local_array o ≡ Some (shape k q) → (a : TypedArray) × (slice_get f.arrays n ≡ Some a)
    × (a.kind ≡ k) × (a.row ≡ q)
local_by f n k q None e h = absurd (cc)
local_by f n k q (Some a) e h =
    let s : shape a.kind a.row ≡ shape k q = some_is _ _ h in
    (a, e, ap (λ (s : Shape). s.kind) s, ap (λ (s : Shape). s.row) s)

-- a local array
pub local_array_at : (P : TypedProgram) (f : TypedFunc) (n : ℕ) (k : Kind) (q : Option ℕ)
    → array_at P f (place.Array n) ≡ Some (shape k q)
    → (a : TypedArray) × (slice_get f.arrays n ≡ Some a) × (a.kind ≡ k) × (a.row ≡ q)
local_array_at P f n k q h = local_by f n k q (slice_get f.arrays n) refl h

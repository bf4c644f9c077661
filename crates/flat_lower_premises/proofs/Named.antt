-- What places and calls name, as the lowering looks it up.
use Rattle.std.proofs.Common.{◌≡◌, ℕ, List, take, Option, Some, None, refl, sym, ap}
use Rattle.std.specs.Prelude.{slice_get, option_map}
use Rattle.c_tree.specs.declared.Kind.{Kind}
use Rattle.c_tree.specs.declared.Place.{Place}
use Rattle.c_tree.specs.declared.Place.TheVariants.{Global, Scalar, Array}
use Rattle.c_tree.specs.declared.Slot.{Slot}
use Rattle.c_tree.specs.declared.TypedFunc.{TypedFunc}
use Rattle.c_tree.specs.declared.TypedProgram.{TypedProgram}
use Rattle.c_type_rules.specs.inside.Objects.{Signature, signature, of_function, scalar_at, array_at, shape}
use Rattle.c_type_rules.specs.inside.WellFormed.{Each, GlobalFits}
use Rattle.c_type_rules.proofs.Moves.{some_is}
use Rattle.c_type_rules.proofs.WellFormedPrograms.{each_at}
use Rattle.c_type_rules.proofs.Uses.{scalar_slot, array_slot, global_scalar_at, global_array_at}
use Rattle.c_type_rules.proofs.Uses.{local_array_at}
use Rattle.flat_lower.specs.inside.TreeViews.{func_of, source_of}
use Rattle.flat_lower.specs.inside.Fits.{Scope, scope_of, FitsName, FitsWhole}

-- what names and calls stand for in a function
abbrev pub scope : TypedProgram → TypedFunc → Scope
scope P f = scope_of (source_of P) (func_of f)

-- a scalar that a name finds is one for the lowering
pub scalar_fits : (P : TypedProgram) (f : TypedFunc) → Each GlobalFits P.globals → (k : Kind) (p : Place)
    → scalar_at P f p ≡ Some k → FitsName (scope P f) k p
scalar_fits P f w k (Global g) h =
    let x = global_scalar_at P f g k h in
    record {
      global = x.0.global;
      found = x.0.is;
      kind = x.0.kind;
      long = x.1;
      wide = (each_at GlobalFits P.globals g x.0.global w x.0.is).single x.1;
    }
scalar_fits P f w k (Scalar i) h = scalar_slot P f i k h
scalar_fits P f w k (Array a) h = absurd (cc h)

-- an array that a place finds is one for the lowering
pub array_fits : (P : TypedProgram) (f : TypedFunc) (k : Kind) (q : Option ℕ) (p : Place)
    → array_at P f p ≡ Some (shape k q) → FitsWhole (scope P f) k q p
array_fits P f k q (Global g) h =
    let x = global_array_at P f g k q h in
    (x.long, record { global = x.global; found = x.is; kind = x.kind; long = x.holds; wide = x.row })
array_fits P f k q (Scalar i) h = array_slot P f i k q h
array_fits P f k q (Array a) h =
    let x = local_array_at P f a k q h in
    record { array = x.0; found = x.1; kind = x.2; wide = x.3 }

-- the function of a call
pub record Found (P : TypedProgram) (n : ℕ) (r : Option Kind) (slots : List Slot) : Type 0 where
  pub function : TypedFunc
  pub is : slice_get P.functions n ≡ Some function
  pub result : r ≡ function.result
  pub params : slots ≡ take function.params function.scalars

by_signature : (P : TypedProgram) (n : ℕ) (r : Option Kind) (slots : List Slot)
    (o : Option TypedFunc) → slice_get P.functions n ≡ o
    → option_map of_function o ≡ Some (signature r slots) → Found P n r slots
by_signature P n r slots None e h = absurd (cc h)
by_signature P n r slots (Some g) e h =
    let is = some_is _ _ h in
    record {
      function = g;
      is = e;
      result = sym (ap (λ (s : Signature). s.result) is);
      params = sym (ap (λ (s : Signature). s.params) is);
    }

-- a function that a call finds is one for the lowering
pub found_by : (P : TypedProgram) (n : ℕ) (r : Option Kind) (slots : List Slot)
    → option_map of_function (slice_get P.functions n) ≡ Some (signature r slots)
    → Found P n r slots
found_by P n r slots h = by_signature P n r slots (slice_get P.functions n) refl h

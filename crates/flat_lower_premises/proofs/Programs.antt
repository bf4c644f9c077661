-- The program that lowering gives fits, where the source does.
use Rattle.std.proofs.Common.{◌≡◌, ℕ, zero, suc, ◌+◌, ◌*◌, ◌/◌, ◌%◌, ◌≤◌, Bool, List}
use Rattle.std.proofs.Common.{[], ◌∷◌, Some, refl, sym, ap, ◌∙◌, subst}
use Rattle.std.proofs.Common.{arith}
use Rattle.std.specs.Prelude.{slice_get, nat_eq}
use Rattle.std.proofs.lemmas.List.{length-take-le}
use Rattle.std.proofs.lemmas.Option.{same_Some}
use Rattle.c_tree.specs.declared.Place.{Place}
use Rattle.c_tree.specs.declared.TypedArray.{TypedArray}
use Rattle.c_tree.specs.declared.TypedGlobal.{TypedGlobal}
use Rattle.c_constant.specs.Kinds.{bytes}
use Rattle.c_meaning_spec.specs.Call.{all_bytes}
use Rattle.ir_forms.specs.inside.FlatCode.{Function}
use Rattle.ir_forms.specs.inside.FlatFits.{FitsFunction}
use Rattle.flat_lower.specs.inside.Tree.{Func, Source}
use Rattle.flat_lower.specs.inside.Objects.{row_of}
use Rattle.flat_lower.specs.inside.Fits.{FitsFunc, FitsSource, scope_of}
use Rattle.flat_lower.specs.inside.Statements.{context_of, lowered_func, lowered_from, lowered}
use Rattle.flat_lower.specs.declared.around.Around.TheVariants as around
use Rattle.flat_lower_premises.specs.inside.Jumps.{JumpsInLoops}
use Rattle.flat_lower_premises.specs.inside.Laws.{FitsOfAnyLength, IsSmallRow}
use Rattle.flat_lower_premises.proofs.Fitting.{joined}
use Rattle.flat_lower_premises.proofs.Expressions.{Callable}
use Rattle.flat_lower_premises.proofs.Rooms.{places, image_is_bytes}
use Rattle.flat_lower_premises.proofs.Statements.{stmt_fits, end_fits}

-- LOOK-UPS

-- the lowered form of a function, which may be main
pub record Lowered (globals : List TypedGlobal) (f : Func) (h : Function) : Type 0 where
  pub is_main : Bool
  pub is : lowered_func globals is_main f ≡ h

-- the lowered form of the function that stands at a place
pub record Found (globals : List TypedGlobal) (fs : List Function) (j : ℕ) (f : Func) : Type 0 where
  pub function : Function
  pub found : slice_get fs j ≡ Some function
  pub lowers : Lowered globals f function

-- the function whose lowered form it is
pub record Comes (globals : List TypedGlobal) (fs : List Func) (j : ℕ) (h : Function) : Type 0 where
  pub func : Func
  pub found : slice_get fs j ≡ Some func
  pub lowers : Lowered globals func h

module _ (globals : List TypedGlobal) (main : ℕ) where
  pub found_at : (n j : ℕ) (fs : List Func) (f : Func) → slice_get fs j ≡ Some f
      → Found globals (lowered_from globals main n fs) j f
  found_at n j [] f h = absurd (cc h)
  found_at n zero (g ∷ fs) f h = record {
    function = lowered_func globals (nat_eq n main) g;
    found = refl;
    lowers = record {
      is_main = nat_eq n main;
      is = ap (lowered_func globals (nat_eq n main)) (sym (same_Some g f h));
    };
  }
  found_at n (suc j) (g ∷ fs) f h =
      let r = found_at (suc n) j fs f h in
      record { function = r.function; found = r.found; lowers = r.lowers }

  pub comes_from : (n j : ℕ) (fs : List Func) (h : Function)
      → slice_get (lowered_from globals main n fs) j ≡ Some h → Comes globals fs j h
  comes_from n j [] h e = absurd (cc e)
  comes_from n zero (g ∷ fs) h e = record {
    func = g;
    found = refl;
    lowers = record {
      is_main = nat_eq n main;
      is = same_Some (lowered_func globals (nat_eq n main) g) h e;
    };
  }
  comes_from n (suc j) (g ∷ fs) h e =
      let r = comes_from (suc n) j fs h e in
      record { func = r.func; found = r.found; lowers = r.lowers }

-- ARRAYS

words : (x r : ℕ) → r % 8 ≡ 0 → (x * 8 + r) % 8 ≡ 0
words x r h = omega arith

arrays_are_words : (all : List TypedArray) → all_bytes all % 8 ≡ 0
arrays_are_words [] = refl
arrays_are_words (a ∷ rest) = words ((a.length * bytes a.kind + 7) / 8) (all_bytes rest)
    (arrays_are_words rest)

-- PROGRAMS

module _ (P : Source) (s : FitsSource P) where
  functions : List Function
  functions = lowered_from P.globals P.main 0 P.functions

  known : Callable functions P.functions
  unfolding functions
  known = record {
    takes = λ f g e.
        let to = found_at P.globals P.main 0 f P.functions g e in
        let fits = s.each f g e in (
          to.function,
          to.found,
          length-take-le g.params g.scalars fits.params
              ∙ ap (λ h. h.params) to.lowers.is,
        );
  }

  func_fits : (f : Func) (b : Bool) → FitsFunc P f → f.params ≤ 8 → JumpsInLoops around.Nowhere f.body
      → ((p : Place) → IsSmallRow (row_of (context_of P.globals f) p))
      → FitsFunction functions (lowered_func P.globals b f)
  func_fits f b fits few jumps rows = record {
    scalars = fits.scalars;
    params = fits.params;
    few = few;
    words = arrays_are_words f.arrays;
    body = (joined (stmt_fits functions (scope_of P f) (all_bytes f.arrays) f.result
        (context_of P.globals f) known (places P s f rows) around.Nowhere f.body fits.body jumps)
        (end_fits b)).fits;
  }

-- the flat program of a source that fits does so, but for its length
pub fits_at_any_length : FitsOfAnyLength
unfolding lowered functions
fits_at_any_length P s few jumps rows = record {
  each = λ j h e.
      let from = comes_from P.globals P.main 0 j P.functions h e in
      subst (FitsFunction (functions P s)) from.lowers.is
      (func_fits P s from.func from.lowers.is_main (s.each j from.func from.found)
      (few j from.func from.found) (jumps j from.func from.found) (rows j from.func from.found));
  main =
      let to = found_at P.globals P.main 0 P.main P.functions s.main.main s.main.found in
      record {
        function = to.function;
        found = to.found;
        arity = sym s.main.params
            ∙ ap (λ h. h.params) to.lowers.is;
      };
  bytes = image_is_bytes P.globals;
  room = s.room;
}

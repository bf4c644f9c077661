-- What a declaration does to what typing keeps, and that its typed tree is well formed.
use Rattle.std.proofs.Common.{◌≡◌, ℕ, ◌*◌, ◌<◌, ◌≤◌, List, [], ◌∷◌, ◌++◌}
use Rattle.std.proofs.Common.{length, Option, Some, None, refl, sym, ap, ◌∙◌, arith, append-nil, length-append}
use Rattle.std.specs.Prelude.{slice_get}
use Rattle.std.proofs.lemmas.Bool.{leb-true, ltb-true}
use Rattle.c_tree.specs.declared.token.Kind.{Kind}
use Rattle.c_tree.specs.declared.tree.ArraySize.{ArraySize}
use Rattle.c_tree.specs.declared.tree.ArraySize.TheVariants as size
use Rattle.c_tree.specs.declared.tree.Expr.{Expr}
use Rattle.c_tree.specs.declared.typed.Place.TheVariants as place
use Rattle.c_tree.specs.declared.typed.Slot.{Slot}
use Rattle.c_tree.specs.declared.typed.Slot.TheVariants as slot
use Rattle.c_tree.specs.declared.typed.TypedFunc.{TypedFunc}
use Rattle.c_tree.specs.declared.typed.TypedProgram.{TypedProgram}
use Rattle.c_tree.specs.declared.typed.TypedStmt.TheVariants as typed
use Rattle.c_type_expr.specs.declared.meaning.Binding.{Binding}
use Rattle.c_type_expr.specs.declared.meaning.Meaning.TheVariants as meaning
use Rattle.c_type_expr.specs.Scope.{Scope, declared_in, bound}
use Rattle.c_type_expr.specs.declared.role.Role.TheVariants.{Value}
use Rattle.c_type.specs.declared.state.State.{State}
use Rattle.c_type.specs.declared.state.Around.{Around}
use Rattle.c_type.specs.States.{with_scalar, with_array, with_switch, row_in}
use Rattle.c_type.specs.LeftOut.{full_if, value_of}
use Rattle.c_constant.specs.Kinds.{bytes}
use Rattle.c_type.specs.Declarations.{scalar_init_fault, sized_fault, extent, declare_tree}
use Rattle.c_type.specs.Statements.{node_part}
use Rattle.c_tree.specs.declared.tree.ForInit.TheOpen.{StmtNode-F}
use Rattle.c_type_rules.specs.inside.Objects.{slot_scalar, local_array}
use Rattle.c_type_rules.specs.inside.KeptStatements.{IsValue, IsTest, IsEffect, IsValueIf, IsTestIf, IsEffectIf}
use Rattle.c_type_rules.specs.inside.KeptStatements.{IsReturn}
use Rattle.c_type_rules.specs.inside.KeptStatements.{WellFormedStmt, RunsAll, RunsElse, Begins}
use Rattle.c_type_rules.specs.inside.KeptStatements as rule
use Rattle.c_type_rules.specs.inside.WellFormed.{ArrayFits}
use Rattle.c_type_rules.proofs.Values.{Exists}
use Rattle.c_type_rules.proofs.Moves.{split, held, Known, Fine, Within, Ahead}
use Rattle.c_type_rules.proofs.Lists.{at_end, each_last, extent_some, an_array, outer_in}
use Rattle.c_type_rules.proofs.SoundStatements.{full_converted, Run, Sound, run}

module _ (P : TypedProgram) (f : TypedFunc) where
  -- a name that is in the program is declared
  pub known_in : (b : Binding) (G : Scope) → Exists P f b.meaning → Known P f G → Known P f (declared_in b G)
  known_in b [] x k = ((x, tt), tt)
  known_in b (F ∷ G) x k = ((x, k.0), k.1)

  -- a local scalar is one slot more
  pub scalar_ahead : (k : Kind) (w : List ℕ) (v : State) → Ahead P f v (with_scalar k w v)
  scalar_ahead k w v = record {
    scalars = slot.Scalar k ∷ [];
    arrays = [];
    are = refl;
    and = sym (append-nil v.arrays);
    hold = (tt, tt);
    result = refl;
    outer = λ F F' G e. outer_in _ v.names F F' G e;
  }

  -- a local array is one array more
  array_ahead : (k : Kind) (q : Option ℕ) (w : List ℕ) (n : ℕ) (v : State) → Ahead P f v (with_array k q w n v)
  array_ahead k q w n v = record {
    scalars = [];
    arrays = an_array k q n ∷ [];
    are = sym (append-nil v.scalars);
    and = refl;
    hold = tt;
    result = refl;
    outer = λ F F' G e. outer_in _ v.names F F' G e;
  }

  -- the scalar of a switch is one slot more
  pub switch_ahead : (k : Kind) (v : State) → Ahead P f v (with_switch k v)
  switch_ahead k v = record {
    scalars = slot.Scalar k ∷ [];
    arrays = [];
    are = refl;
    and = sym (append-nil v.arrays);
    hold = (tt, tt);
    result = refl;
    outer = λ F F' G e. (F, e);
  }

  -- the slot of a local scalar
  scalar_is : (k : Kind) (w : List ℕ) (v : State) → Within P f (with_scalar k w v)
      → slice_get f.scalars (length v.scalars) ≡ Some (slot.Scalar k)
  scalar_is k w v i = ap (λ ss. slice_get ss (length v.scalars)) i.are ∙ at_end v.scalars (slot.Scalar k) i.scalars

  -- the array of a local array
  array_is : (k : Kind) (q : Option ℕ) (w : List ℕ) (n : ℕ) (v : State) → Within P f (with_array k q w n v)
      → slice_get f.arrays (length v.arrays) ≡ Some (an_array k q n)
  array_is k q w n v i = ap (λ ss. slice_get ss (length v.arrays)) i.and ∙ at_end v.arrays (an_array k q n) i.arrays

  -- an initialiser is converted to the type of its scalar
  init_fits : (k : Kind) (init : Option Expr) (G : Scope) → Known P f G → full_if init Value G ≡ None
      → IsValueIf P f k (value_of init k G)
  init_fits k None G g h = tt
  init_fits k (Some e) G g h = full_converted P f k e G g h

  -- a slot more, where there are enough
  pub still_more : (ss : List Slot) (s : Slot) (n : ℕ) → n ≤ length ss → n ≤ length (ss ++ s ∷ [])
  still_more ss s n h = omega (arith, h, length-append ss (s ∷ []))

  -- one more than fewer than 64
  pub one_more : (ss : List Slot) (s : Slot) → length ss < 64 → length (ss ++ s ∷ []) ≤ 64
  one_more ss s h = omega (arith, h, length-append ss (s ∷ []))

  -- the declaration of a local scalar
  scalar_runs : (k : Kind) (w : List ℕ) (init : Option Expr) (l : ℕ) (b : Around) (v : State) → Fine P f v
      → Within P f (with_scalar k w v)
      → scalar_init_fault k w init l v ≡ None → Fine P f (with_scalar k w v)
      × Run P f b (declare_tree size.Scalar k w init v)
  scalar_runs k w init l b v i within h =
      let s = split _ _ h in
      let few : length v.scalars < 64 = ltb-true (length v.scalars) 64 (held _ _ (split _ _ s.0).1) in
      let is = scalar_is k w v within in
      let known = known_in (bound w (meaning.Scalar k (place.Scalar (length v.scalars)))) v.names
      (ap slot_scalar is) i.names in (
        record {
          names = known;
          result = i.result;
          params = still_more v.scalars (slot.Scalar k) f.params i.params;
          count = one_more v.scalars (slot.Scalar k) few;
          arrays = i.arrays;
        },
        run P f b _ _ (typed.rolls-Declare _ _)
            (rule.scalar i.params is (init_fits k init (with_scalar k w v).names known s.1)),
      )

  -- the declaration of a local array
  array_runs : (s : ArraySize) (k : Kind) (w : List ℕ) (init : Option Expr) (l : ℕ) (b : Around) (v : State)
      → Fine P f v → Within P f (with_array k (row_in s) w (extent s) v) → sized_fault s k w init l v.names ≡ None
      → Fine P f (with_array k (row_in s) w (extent s) v)
      × Run P f b (typed.Declare (place.Array (length v.arrays)) None)
  array_runs s k w init l b v i within h =
      let c = split _ _ (split _ _ h).0 in
      let n = extent s in
      let q = row_in s in
      let is = array_is k q w n v within in
      let some = extent_some s l v.names c.0 in
      let fits : ArrayFits (an_array k q n) = record {
        some = some.0;
        rows = some.1;
        bytes = leb-true (n * bytes k) 1048576 (held _ _ (split _ _ c.1).1);
      } in
      let known = known_in (bound w (meaning.Array k q (place.Array (length v.arrays)))) v.names
      (ap local_array is) i.names in (
        record {
          names = known;
          result = i.result;
          params = i.params;
          count = i.count;
          arrays = each_last ArrayFits v.arrays (an_array k q n) i.arrays fits;
        },
        run P f b _ _ (typed.rolls-Declare _ _) (rule.array is),
      )

  -- a declaration
  pub on_declare : (k : Kind) (w : List ℕ) (size : ArraySize) (init : Option Expr) (l : ℕ)
      → Sound P f (node_part (StmtNode-F.Declare k w size init) l)
  on_declare k w size.Scalar init l = record { ahead = scalar_ahead k w; runs = scalar_runs k w init l }
  on_declare k w size.Open init l =
      record { ahead = array_ahead k (row_in size.Open) w (extent size.Open); runs = array_runs size.Open k w init l }
  on_declare k w (size.Sized e) init l =
      let s = size.Sized e in
      record { ahead = array_ahead k (row_in s) w (extent s); runs = array_runs s k w init l }
  on_declare k w (size.Rows r e) init l =
      let s = size.Rows r e in
      record { ahead = array_ahead k (row_in s) w (extent s); runs = array_runs s k w init l }

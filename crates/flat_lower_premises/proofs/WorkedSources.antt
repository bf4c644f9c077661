-- Worked sources: their sizes, their jumps, a second size that is no word, a program that fits, and one that shows
-- that three statements a node would not do.
use Rattle.std.proofs.Common.{◌≡◌, ℕ, zero, suc, ◌^◌, ◌≤◌, false, [], ◌∷◌}
use Rattle.std.proofs.Common.{Some, None, refl, subst, arith}
use Rattle.std.specs.Prelude.{slice_get}
use Rattle.c_tree.specs.declared.Kind.TheVariants.{Int, Long}
use Rattle.c_tree.specs.declared.BinaryOp.TheVariants.{Add}
use Rattle.c_tree.specs.declared.Place.{Place}
use Rattle.c_tree.specs.declared.Place.TheVariants as place
use Rattle.ir_forms.specs.inside.FlatFits.{FitsCode, FitsProgram, steps_of_all}
use Rattle.ir_forms.specs.inside.Frames.{frame_limit}
use Rattle.flat_lower.specs.inside.Tree.{Expr, Number, Name, Element, RowElement, Assign, Convert}
use Rattle.flat_lower.specs.inside.Tree.{Stmt, Compound, If, While, Switch, Break, Continue, Return, NoStmts}
use Rattle.flat_lower.specs.inside.Tree.{WithStmt, NoSections, WithSection, Func, Source}
use Rattle.flat_lower.specs.inside.Fits.{FitsFunc, FitsSource}
use Rattle.flat_lower.specs.inside.Objects.{row_of}
use Rattle.flat_lower.specs.inside.Powers.{exponent_of}
use Rattle.flat_lower.specs.inside.Expressions.{joined_by}
use Rattle.flat_lower.specs.inside.Statements.{context_of, lowered}
use Rattle.flat_lower_premises.specs.inside.SourceNodes.{expr_nodes, stmt_nodes, source_size}
use Rattle.flat_lower.specs.declared.around.Around.TheVariants as around
use Rattle.flat_lower_premises.specs.inside.Jumps.{JumpsInLoops}
use Rattle.flat_lower_premises.specs.inside.Laws.{IsSmallRow, SmallRows}
use Rattle.flat_lower_premises.proofs.LoweredSources.{lowered_fits}

abbrev n : ℕ → Expr
n w = Number (Some Int) w

-- NODES

-- `a[0] += i` for an array of longs: the assignment, the element, its index, the conversion, the
-- name
added : expr_nodes (Assign (Some Long) (Some Add) Long (Element (Some Long) (place.Array 0) (n 0))
    (Convert (Some Long) Long (Name (Some Int) (place.Scalar 0)))) ≡ 5
added = refl

-- `t[1][2]`: the element and its two indexes
cell : expr_nodes (RowElement (Some Int) (place.Array 0) (n 1) (n 2)) ≡ 3
cell = refl

-- `{ case 1: default: break; case 2: continue; }` behind a test
abbrev chooses : Stmt
chooses = Switch (n 1)
    (WithSection (Some 1 ∷ None ∷ []) (WithStmt Break NoStmts)
    (WithSection (Some 2 ∷ []) (WithStmt Continue NoStmts) NoSections))

-- the switch two, its test, two sections, three labels, two jumps
chooses_size : stmt_nodes chooses ≡ 10
chooses_size = refl

-- JUMPS

-- `while (1) if (1) break;`
leaves : JumpsInLoops around.Nowhere (While (n 1) (If (n 1) Break NoStmts))
leaves = (tt, tt)

-- a break leaves a switch, and a continue goes on with the loop around it
in_a_loop : JumpsInLoops around.Nowhere (While (n 1) chooses)
in_a_loop = ((tt, tt), ((tt, tt), tt))

-- a switch alone is nothing to go on with
in_no_loop : JumpsInLoops around.Nowhere chooses → ⊥
in_no_loop h = h.1.0.0

-- a continue behind a loop
stray : JumpsInLoops around.Nowhere (Compound (WithStmt (While (n 1) Break) (WithStmt Continue NoStmts))) → ⊥
stray h = h.1.0

-- SECOND SIZES

-- one that is no word stands in no code that fits
too_wide : FitsCode [] 0 0 false (joined_by (Some (2 ^ 64)) 0) → ⊥
unfolding exponent_of
too_wide h = let k = h.0.3 in omega (arith, k)

-- LENGTHS

-- `a[a[.. 0 ..]]` for a local array of longs
abbrev nested : ℕ → Expr
nested zero = Number (Some Long) 0
nested (suc m) = Element (Some Long) (place.Array 0) (nested m)

-- `int main(void) { long a[1]; return (int)a[..]; }`, eight elements in one another
abbrev deep : Source
deep = record {
  globals = [];
  functions = record {
    result = Some Int;
    params = 0;
    scalars = [];
    arrays = record { kind = Long; length = 1; row = None } ∷ [];
    body = Return (Some (Convert (Some Int) Int (nested 8)));
  } ∷ [];
  main = 0;
}

deep_size : source_size deep ≡ 12
deep_size = refl

-- more than three for each
deep_length : steps_of_all (lowered deep).functions ≡ 37
unfolding lowered
deep_length = refl

-- A PROGRAM THAT FITS

-- `int main(void) { return 7; }`
abbrev seven : Func
seven = record {
  result = Some Int;
  params = 0;
  scalars = [];
  arrays = [];
  body = Return (Some (n 7));
}

abbrev small : Source
small = record { globals = []; functions = seven ∷ []; main = 0 }

-- what holds of the one function holds of each
lone : (P : Func → Type 0) → P seven → (j : ℕ) (f : Func) → slice_get (seven ∷ []) j ≡ Some f → P f
lone P h zero f e = let same : seven ≡ f = cc e in subst P same h
lone P h (suc j) f e = let none : None ≡ Some f = e in absurd (cc none)

small_source : FitsSource small
unfolding frame_limit
small_source = record {
  each = lone (FitsFunc small) (record {
    scalars = omega arith;
    params = omega arith;
    body = ((omega arith, record { below = omega arith; narrow = omega arith }), refl);
  });
  globals = λ k d h. absurd (omega (arith, h));
  main = record { main = seven; found = refl; result = refl; params = refl };
  room = omega arith;
}

-- it has no array
small_rows : SmallRows small
small_rows = lone (λ f. (p : Place) → IsSmallRow (row_of (context_of [] f) p)) none
  where
    none : (p : Place) → IsSmallRow (row_of (context_of [] seven) p)
    none (place.Global g) = tt
    none (place.Scalar j) = tt
    none (place.Array a) = tt

small_fits : FitsProgram (lowered small)
small_fits = lowered_fits small small_source (lone (λ f. f.params ≤ 8) (omega arith))
    (lone (λ f. JumpsInLoops around.Nowhere f.body) tt) small_rows (omega arith)

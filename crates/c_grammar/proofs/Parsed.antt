-- The model of the parser of units is the grammar, both ways, and so each list of tokens has one
-- answer.
use Rattle.std.proofs.Common.{◌≡◌, ℕ, suc, List, [], Ok, Err, refl, sym, ap, ◌∙◌, arith}
use Rattle.std.proofs.lemmas.Bool.{leb-true, le-leb}
use Rattle.c_tree.specs.declared.tree.Top.{Top}
use Rattle.c_grammar.specs.Tokens.{Tokens, May, within}
use Rattle.c_grammar.specs.inside.Parsing.{Out}
use Rattle.c_grammar.specs.inside.ModelUnits.{unit_of}
use Rattle.c_grammar.specs.inside.Places.{Exact, settle}
use Rattle.c_grammar.specs.Accepted.{Spelled, UnitIs}
use Rattle.c_grammar.specs.inside.Answers.{OneTree}
use Rattle.c_grammar.proofs.Units.{unit_first, unit_piece}
use Rattle.c_grammar.proofs.Late.{Passes, units_far}
use Rattle.c_grammar.proofs.ExactReading.{exact, only}

-- a unit is spelled by another test as well, which lets pass what stands before the last token
pub unit_far : (may may' : May) (xs : List Top) (f : Tokens) → Passes may may' 1
    → UnitIs may xs f [] → UnitIs may' xs f []
unit_far may may' xs f h r = units_far h r

-- the parser of units accepts exactly what is spelled, and stops exactly where the fault stands
pub unit_exact : (left : ℕ) (ts : Tokens) → Exact UnitIs (suc left) ts (settle (unit_of left ts))
unit_exact left ts = exact UnitIs unit_first (suc left) (unit_of left)
    (unit_piece (suc left) left (omega arith)) unit_far ts

pub unit_only : (left : ℕ) (ts : Tokens) (xs : List Top) → Spelled UnitIs (suc left) xs ts
    → unit_of left ts ≡ Ok (xs, [])
unit_only left ts xs r = only UnitIs unit_first (suc left) (unit_of left)
    (unit_piece (suc left) left (omega arith)) unit_far ts xs r

-- what is spelled within a limit is so within a looser one
looser : (m : ℕ) (xs : List Top) (ts : Tokens) → Spelled UnitIs m xs ts
    → Spelled UnitIs (suc m) xs ts
looser m xs ts r =
    unit_far (within m) (within (suc m)) xs ts
    (λ q d lt e. let h = leb-true d m e in le-leb d (suc m) (omega (arith, h))) r

tree_in : Out (List Top) → List Top
tree_in (Ok p) = p.0
tree_in (Err s) = []

ok_tree : (xs : List Top) → tree_in (Ok (xs, [])) ≡ xs
unfolding tree_in
ok_tree xs = refl

-- each list of tokens has one tree
pub one_tree : OneTree
one_tree m ts xs ys r s =
    sym (ok_tree xs) ∙ ap tree_in (sym (unit_only m ts xs (looser m xs ts r))
    ∙ unit_only m ts ys (looser m ys ts s)) ∙ ok_tree ys

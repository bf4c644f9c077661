-- The assignment operator that a mark is, as the code finds it.
use Rattle.std.proofs.Common.{◌≡◌, Option, Some, None, refl, sym, ap, ◌∙◌, subst}
use Rattle.c_tree.specs.declared.token.Mark.{Mark}
use Rattle.c_tree.specs.declared.tree.BinaryOp.{BinaryOp}
use Rattle.c_tree.specs.Marks.{operator, Holds, held}
use Rattle.c_tree.specs.ByMark.{assigned_by}
use Rattle.c_tree.proofs.MarkLemmas.{assigned_is}
use Rattle.c_grammar.specs.Operators.{Assigner, compound, assigner_mark, assigner_op}
use Rattle.c_grammar.specs.inside.ModelOperators.{holding, assigner_with, assigner_by}
use Rattle.c_parse.specs.inside.Reads.{IsAssigner}

abbrev one : {A : Type 0} → A → Option A
one x = Some x

some_is : {A : Type 0} (x y : A) → one x ≡ one y → x ≡ y
some_is x y e = cc

-- a compound assignment whose mark is the one that is held
held_assigner : (m : Mark) (o : BinaryOp) (x : Option Mark) (f : Holds x → Assigner) → x ≡ Some m
    → ((c : Holds x) → Some (assigner_mark (f c)) ≡ x) → ((c : Holds x) → assigner_op (f c) ≡ Some o)
    → IsAssigner (Some (m, Some o)) (holding x f)
held_assigner m o None f e p q = absurd cc
held_assigner m o (Some k) f e p q =
    (sym (some_is (assigner_mark (f tt)) m (p tt ∙ e)), sym (q tt))

-- the mark that its operator holds
holds_mark : (x : Option Mark) (c : Holds x) → one (held x c) ≡ x
holds_mark None c = absurd c
holds_mark (Some k) c = refl

with_assigner : (m : Mark) (o : Option BinaryOp) → assigned_by m ≡ Some o
    → IsAssigner (Some (m, o)) (assigner_with (Some o))
with_assigner m None e = (assigned_is m None e, refl)
with_assigner m (Some o) e =
    held_assigner m o (operator o).compound (compound o) (assigned_is m (Some o) e)
    (holds_mark (operator o).compound) (λ c. refl)

-- a mark with its operator is that assignment operator
pub some_assigner : (m : Mark) (o : Option BinaryOp) → Some o ≡ assigned_by m
    → IsAssigner (Some (m, o)) (assigner_by m)
some_assigner m o e =
    subst (λ (x : Option (Option BinaryOp)). IsAssigner (Some (m, o)) (assigner_with x)) e
    (with_assigner m o (sym e))

-- a mark without one is none
pub no_assigner : (m : Mark) → None ≡ assigned_by m → IsAssigner None (assigner_by m)
no_assigner m e = ap assigner_with (sym e)

-- A mark is known by its number, and the operator that is looked up by a mark is the one of the table.
use Rattle.std.proofs.Common.{◌≡◌, ℕ, Bool, true, false, cond, nat_eq, List, [], ◌∷◌, Option, Some}
use Rattle.std.proofs.Common.{None, refl, sym, ap, ◌∙◌, subst}
use Rattle.std.proofs.lemmas.Bool.{eqb-true, false≢true}
use Rattle.c_tree.specs.declared.token.Mark.{Mark}
use Rattle.c_tree.specs.declared.token.Mark.TheVariants as mark
use Rattle.c_tree.specs.declared.tree.BinaryOp.{BinaryOp}
use Rattle.c_tree.specs.declared.tree.BinaryOp.TheVariants as binary
use Rattle.c_tree.specs.Marks.{operator, operators, Holds, held, IsCompound, compound_mark, Written, marks}
use Rattle.c_tree.specs.Marks.{mark_number}
use Rattle.c_tree.specs.ByMark.{by_number, marked_operator, is_numbered, by_compound, computed, assigned_by}

-- MARKS

-- the mark of a number, in a table
abbrev numbered : ℕ → List Written → Mark
numbered n [] = mark.LeftParen
numbered n (row ∷ rows) = cond (nat_eq (mark_number row.1) n) row.1 (numbered n rows)

-- each mark stands in the table, under its number
mark_at : (m : Mark) → numbered (mark_number m) marks ≡ m
unfolding marks
mark_at mark.LeftParen = refl
mark_at _ = refl

-- marks of one number are one mark
pub same_mark : (k m : Mark) → mark_number k ≡ mark_number m → m ≡ k
same_mark k m e = sym (mark_at m) ∙ ap (λ n. numbered n marks) (sym e) ∙ mark_at k

-- OPERATORS

abbrev one : {A : Type 0} → A → Option A
one x = Some x

some_is : {A : Type 0} (x y : A) → one x ≡ one y → x ≡ y
some_is x y e = cc

-- by cases of a test
split : {A : Type 0} (P : A → Type 0) (b : Bool) (x y : A) → (b ≡ true → P x) → (b ≡ false → P y)
    → P (cond b x y)
split P true x y p q = p refl
split P false x y p q = q refl

by_number_is : (n : ℕ) (os : List BinaryOp) (o : BinaryOp) → by_number n os ≡ Some o
    → mark_number (operator o).token ≡ n
by_number_is n [] o e = absurd cc
by_number_is n (x ∷ os) o e =
    split (λ (r : Option BinaryOp). r ≡ Some o → mark_number (operator o).token ≡ n)
    (nat_eq (mark_number (operator x).token) n) (Some x) (by_number n os)
    (λ t h. subst (λ (y : BinaryOp). mark_number (operator y).token ≡ n) (some_is x o h)
    (eqb-true (mark_number (operator x).token) n t))
    (λ t h. by_number_is n os o h) e

-- an operator is looked up by its mark
pub operator_self : (o : BinaryOp) → marked_operator (operator o).token ≡ Some o
operator_self binary.LogicalOr = refl
operator_self _ = refl

-- what is looked up has the mark
pub operator_is : (m : Mark) (o : BinaryOp) → marked_operator m ≡ Some o → m ≡ (operator o).token
operator_is m o e = same_mark (operator o).token m (by_number_is (mark_number m) operators o e)

-- ASSIGNMENTS

by_compound_is : (n : ℕ) (os : List BinaryOp) (o : BinaryOp) → by_compound n os ≡ Some o
    → is_numbered n (operator o).compound ≡ true
by_compound_is n [] o e = absurd cc
by_compound_is n (x ∷ os) o e =
    split (λ (r : Option BinaryOp). r ≡ Some o → is_numbered n (operator o).compound ≡ true)
    (is_numbered n (operator x).compound) (Some x) (by_compound n os)
    (λ t h. subst (λ (y : BinaryOp). is_numbered n (operator y).compound ≡ true) (some_is x o h) t)
    (λ t h. by_compound_is n os o h) e

numbered_is : (m : Mark) (x : Option Mark) → is_numbered (mark_number m) x ≡ true → x ≡ Some m
numbered_is m None e = absurd (false≢true e)
numbered_is m (Some k) e = ap one (sym (same_mark k m (eqb-true (mark_number k) (mark_number m) e)))

-- what a mark with the operator of an assignment is
abbrev pub Assigns : Mark → Option BinaryOp → Type 0
Assigns m None = m ≡ mark.Assign
Assigns m (Some o) = (operator o).compound ≡ Some m

computed_is : (m : Mark) (x : Option BinaryOp) (o : Option BinaryOp)
    → by_compound (mark_number m) operators ≡ x → computed x ≡ Some o → Assigns m o
computed_is m None o i e = absurd cc
computed_is m (Some a) o i e =
    subst (Assigns m) (some_is (one a) o e)
    (numbered_is m (operator a).compound (by_compound_is (mark_number m) operators a i))

-- what is looked up has the mark
pub assigned_is : (m : Mark) (o : Option BinaryOp) → assigned_by m ≡ Some o → Assigns m o
assigned_is m o e =
    split (λ (r : Option (Option BinaryOp)). r ≡ Some o → Assigns m o)
    (nat_eq (mark_number mark.Assign) (mark_number m)) (Some None)
    (computed (by_compound (mark_number m) operators))
    (λ t h. subst (Assigns m) (some_is None o h)
    (same_mark mark.Assign m (eqb-true (mark_number mark.Assign) (mark_number m) t)))
    (λ t h. computed_is m (by_compound (mark_number m) operators) o refl h) e

-- a compound assignment is looked up by its mark
pub compound_self : (o : BinaryOp) (c : IsCompound o) → assigned_by (compound_mark o c) ≡ Some (Some o)
compound_self binary.LogicalOr c = absurd c
compound_self binary.LogicalAnd c = absurd c
compound_self binary.Equal c = absurd c
compound_self binary.NotEqual c = absurd c
compound_self binary.Less c = absurd c
compound_self binary.Greater c = absurd c
compound_self binary.LessEqual c = absurd c
compound_self binary.GreaterEqual c = absurd c
compound_self _ c = refl

-- the mark that is held is the one that is known
pub held_is : (x : Option Mark) (h : Holds x) (m : Mark) → x ≡ Some m → held x h ≡ m
held_is None h m e = absurd h
held_is (Some k) h m e = some_is k m e

-- Worked programs with a switch and with two indexes: what the flat code of each does, by evaluation.
use Rattle.std.proofs.Common.{◌≡◌, ℕ, List, [], ◌∷◌, Option, Some, None, refl}
use Rattle.c_tree.specs.declared.Kind.TheVariants.{Int}
use Rattle.c_tree.specs.declared.BumpOp.TheVariants.{PostInc}
use Rattle.c_tree.specs.declared.BinaryOp.TheVariants as op
use Rattle.c_tree.specs.declared.Place.TheVariants as place
use Rattle.c_tree.specs.declared.Callee.TheVariants as callee
use Rattle.ir_forms.specs.inside.Frames.{frame_limit}
use Rattle.ir_forms.specs.inside.Cells.{apply, load, save, marked}
use Rattle.ir_forms.specs.inside.FlatRuns.{first_memory, flat_run}
use Rattle.flat_lower.specs.inside.Tree.{Expr, RowElement, Call, Bump, Stmt, Declare, While, Switch, Break, Continue}
use Rattle.flat_lower.specs.inside.Tree.{Sections, NoSections, WithSection}
use Rattle.flat_lower.specs.inside.Objects.{global_at, array_at}
use Rattle.flat_lower.specs.inside.Powers.{exponent_of}
use Rattle.flat_lower.specs.inside.Statements.{lowered}
use Rattle.flat_lower.proofs.StandardFacts.{n, int, two, set, does, gives, stmts, block, exprs, main, run}

abbrev prints : Expr → Stmt
prints e = does (Call (Some Int) callee.PutChar (exprs (e ∷ [])))

abbrev section : List (Option ℕ) → List Stmt → Sections → Sections
section labels body rest = WithSection labels (stmts body) rest

-- switch (t) { case 1: putchar(1); case 2: case 5: putchar(2); break; default: putchar(3); case 4: putchar(4); }
-- return 0;
abbrev by_value : ℕ → List ℕ
by_value t = run (main [] [] (Switch (n t) (section (Some 1 ∷ []) (prints (n 1) ∷ [])
    (section (Some 2 ∷ Some 5 ∷ []) (prints (n 2) ∷ Break ∷ [])
    (section (None ∷ []) (prints (n 3) ∷ []) (section (Some 4 ∷ []) (prints (n 4) ∷ []) NoSections))))
    ∷ gives (n 0) ∷ [])) []

pub first_case_falls_through : by_value 1 ≡ 4 ∷ 0 ∷ 1 ∷ 2 ∷ []
unfolding flat_run frame_limit first_memory apply load save marked lowered global_at array_at
first_case_falls_through = refl

pub second_label_is_one_too : by_value 5 ≡ 4 ∷ 0 ∷ 2 ∷ []
unfolding flat_run frame_limit first_memory apply load save marked lowered global_at array_at
second_label_is_one_too = refl

pub last_case_is_found_behind_default : by_value 4 ≡ 4 ∷ 0 ∷ 4 ∷ []
unfolding flat_run frame_limit first_memory apply load save marked lowered global_at array_at
last_case_is_found_behind_default = refl

pub any_other_goes_to_default : by_value 9 ≡ 4 ∷ 0 ∷ 3 ∷ 4 ∷ []
unfolding flat_run frame_limit first_memory apply load save marked lowered global_at array_at
any_other_goes_to_default = refl

-- switch (t) { case 3: putchar(1); case 4: putchar(2); break; default: putchar(3); } return 0;
abbrev by_distance : ℕ → List ℕ
by_distance t = run (main [] [] (Switch (n t) (section (Some 3 ∷ []) (prints (n 1) ∷ [])
    (section (Some 4 ∷ []) (prints (n 2) ∷ Break ∷ []) (section (None ∷ []) (prints (n 3) ∷ []) NoSections)))
    ∷ gives (n 0) ∷ [])) []

pub first_of_dense_labels : by_distance 3 ≡ 4 ∷ 0 ∷ 1 ∷ 2 ∷ []
unfolding flat_run frame_limit first_memory apply load save marked lowered global_at array_at
first_of_dense_labels = refl

pub last_of_dense_labels : by_distance 4 ≡ 4 ∷ 0 ∷ 2 ∷ []
unfolding flat_run frame_limit first_memory apply load save marked lowered global_at array_at
last_of_dense_labels = refl

pub behind_dense_labels : by_distance 5 ≡ 4 ∷ 0 ∷ 3 ∷ []
unfolding flat_run frame_limit first_memory apply load save marked lowered global_at array_at
behind_dense_labels = refl

pub before_dense_labels : by_distance 2 ≡ 4 ∷ 0 ∷ 3 ∷ []
unfolding flat_run frame_limit first_memory apply load save marked lowered global_at array_at
before_dense_labels = refl

-- switch (2) { case 1: putchar(1); } return 3;
pub none_is_skipped_to_the_end : run (main [] [] (Switch (n 2) (section (Some 1 ∷ []) (prints (n 1) ∷ [])
    NoSections) ∷ gives (n 3) ∷ [])) [] ≡ 4 ∷ 3 ∷ []
unfolding flat_run frame_limit first_memory apply load save marked lowered global_at array_at
none_is_skipped_to_the_end = refl

-- int i = 0; while (i++ < 4) { switch (i) { case 2: continue; case 3: break; } putchar(i); } return i;
pub continue_leaves_the_switch : run (main [] [] (Declare (place.Scalar 0) (Some (n 0)) ∷ While
    (two op.Less (Bump (Some Int) PostInc (int 0)) (n 4)) (block (Switch (int 0)
    (section (Some 2 ∷ []) (Continue ∷ []) (section (Some 3 ∷ []) (Break ∷ []) NoSections))
    ∷ prints (int 0) ∷ [])) ∷ gives (int 0) ∷ [])) [] ≡ 4 ∷ 5 ∷ 1 ∷ 3 ∷ 4 ∷ []
unfolding flat_run frame_limit first_memory apply load save marked lowered global_at array_at
continue_leaves_the_switch = refl

-- int a[2][3]; a[0][2] = 5; a[1][0] = 6; return a[0][2] * 10 + a[1][0];
abbrev a : ℕ → ℕ → Expr
a i j = RowElement (Some Int) (place.Array 0) (n i) (n j)

pub rows_lie_one_behind_another : run (main [] (record { kind = Int; length = 6; row = Some 3 } ∷ [])
    (does (set (a 0 2) (n 5)) ∷ does (set (a 1 0) (n 6))
    ∷ gives (two op.Add (two op.Multiply (a 0 2) (n 10)) (a 1 0)) ∷ [])) [] ≡ 4 ∷ 56 ∷ []
unfolding flat_run frame_limit first_memory apply load save marked lowered global_at array_at exponent_of
rows_lie_one_behind_another = refl

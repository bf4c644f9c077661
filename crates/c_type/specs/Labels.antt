-- The labels of a switch (C17 6.8.4.2): their words, and the first fault of the labels of a section.
use Rattle.std.specs.Prelude.{ℕ, Bool, true, false, not, ◌||◌, nat_eq, List, [], ◌∷◌, ◌++◌, Option, Some, None}
use Rattle.c_tree.specs.declared.token.Kind.{Kind}
use Rattle.c_tree.specs.declared.tree.Expr.{Expr}
use Rattle.c_tree.specs.declared.tree.Label.{Label}
use Rattle.c_type_expr.specs.Scope.{Scope}
use Rattle.c_type_expr.specs.declared.fault.TypeFault.TheVariants.{Twice}
use Rattle.c_type_expr.specs.Blames.{Blame, first, unless}
use Rattle.c_type_expr.specs.Constants.{full_constant, constant_at}

-- the word of a constant at a type, where there is one
abbrev pub word_if : Kind → Option Expr → Option ℕ
word_if k None = None
word_if k (Some e) = Some (constant_at k e)

-- the word of a label at a type, none for `default`
abbrev pub label_word : Kind → Label → Option ℕ
label_word k x = word_if k x.value

-- are two labels the same?
abbrev pub same_label : Option ℕ → Option ℕ → Bool
same_label None None = true
same_label (Some m) (Some n) = nat_eq m n
same_label _ _ = false

-- is the label one of these?
abbrev pub label_among : Option ℕ → List (Option ℕ) → Bool
label_among x [] = false
label_among x (y ∷ ys) = same_label x y || label_among x ys

-- the constant of a case
abbrev pub case_fault : Option Expr → Scope → Blame
case_fault None G = None
case_fault (Some e) G = full_constant e G

-- a label behind others: its constant comes before the label, which is another than they
abbrev pub label_fault : Kind → List (Option ℕ) → Label → Scope → Blame
label_fault k seen x G =
    first (case_fault x.value G) (unless (not (label_among (label_word k x) seen)) (Twice x.offset))

-- the labels of a section behind others
abbrev pub labels_fault : Kind → List (Option ℕ) → List Label → Scope → Blame
labels_fault k seen [] G = None
labels_fault k seen (x ∷ xs) G =
    first (label_fault k seen x G) (labels_fault k (seen ++ label_word k x ∷ []) xs G)

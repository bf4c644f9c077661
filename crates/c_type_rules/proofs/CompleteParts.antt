-- Expressions, sizes and labels without a fault have types by the rules.
use Rattle.std.proofs.Common.{◌≡◌, ℕ, ◌<◌, ◌≤◌, Bool, true, false, not, List, [], ◌∷◌, ◌++◌, map, Option}
use Rattle.std.proofs.Common.{Some, None, refl, sym, ap, ◌∙◌, subst, arith}
use Rattle.std.specs.Prelude.{nat_lt, nat_le, is_some}
use Rattle.std.proofs.lemmas.Bool.{false≢true}
use Rattle.c_tree.specs.declared.token.Kind.{Kind}
use Rattle.c_tree.specs.declared.tree.Expr.{Expr}
use Rattle.c_tree.specs.declared.tree.Label.{Label}
use Rattle.c_type_expr.specs.Scope.{Scope}
use Rattle.c_type_expr.specs.declared.fault.TypeFault.{TypeFault}
use Rattle.c_type_expr.specs.declared.role.Role.{Role}
use Rattle.c_type_expr.specs.declared.role.Role.TheVariants.{Value}
use Rattle.c_type_expr.specs.Blames.{Blame, first, unless}
use Rattle.c_type_expr.specs.Trees.{tree}
use Rattle.c_type_expr.specs.Constants.{full, value_fault, size_fault, not_fixed, constant_at}
use Rattle.c_type_expr.proofs.Theorem.{complete}
use Rattle.c_constant.specs.Constant.{constant, ends, length_of, word_in}
use Rattle.c_constant.specs.Kinds.{converted}
use Rattle.c_constant.specs.Need.{need_fits}
use Rattle.c_type.specs.LeftOut.{full_if, tree_if, value_of}
use Rattle.c_type.specs.Statements.{word_if, label_word, label_among, case_fault}
use Rattle.c_type.specs.Statements.{labels_fault}
use Rattle.c_type_rules.specs.Constants.{Size}
use Rattle.c_type_rules.specs.Statements.{Full, FullIf, Initialises, Labels}
use Rattle.c_type_rules.specs.Statements.{no_label, a_case, a_default}
use Rattle.c_type_rules.specs.Statements.{absent, present, without_value, with_value}
use Rattle.c_type_rules.proofs.Constants.{constant_typed}

-- where two parts have no fault together, neither has one
pub split : (f g : Blame) → first f g ≡ None → (f ≡ None) × (g ≡ None)
split None g e = (refl, e)
split (Some f) g e = absurd (cc)

-- what is tested without a fault holds
pub held : (b : Bool) (f : TypeFault) → unless b f ≡ None → b ≡ true
held true f e = refl
held false f e = absurd (cc)

-- a test without its fault does not hold
pub not_held : (b : Bool) (f : TypeFault) → unless (not b) f ≡ None → b ≡ false
not_held false f e = refl
not_held true f e = absurd (cc)

-- A number that the test finds smaller is so.
pub less : (n m : ℕ) → nat_lt n m ≡ true → n < m
less n m h = grind arith

-- A number that the test finds at most another is so.
pub at_most : (n m : ℕ) → nat_le n m ≡ true → n ≤ m
at_most n m h = grind arith

-- a full expression without a fault has its tree by the rules
pub full_typed : (G : Scope) (r : Role) (e : Expr) → full e r G ≡ None → Full G r e (tree e G)
full_typed G r e h = let q = split _ _ h in (complete e G r q.0, held _ _ q.1)

-- an optional full expression without a fault has its tree
pub full_if_typed : (G : Scope) (r : Role) (e : Option Expr) → full_if e r G ≡ None → FullIf G r e (tree_if e G)
full_if_typed G r None h = absent
full_if_typed G r (Some e) h = present (full_typed G r e h)

-- an optional first value without a fault has its tree, converted to the kind
pub initialises : (G : Scope) (k : Kind) (e : Option Expr) → full_if e Value G ≡ None
    → Initialises G k e (value_of e k G)
initialises G k None h = without_value
initialises G k (Some e) h = with_value (full_typed G Value e h)

-- a size without a fault has its length
pub sized_typed : (G : Scope) (e : Expr) (o : Option ℕ) → length_of e ≡ o → size_fault e G ≡ None
    → Size G e (word_in o)
sized_typed G e None e' h = let q =
    split _ _ h in absurd (false≢true (held _ _ (sym (ap (λ o. value_fault o e.offset) e') ∙ q.1)))
sized_typed G e (Some n) e' h = let q = split _ _ h in (constant_typed e G q.0, e')

-- a case without a fault, before others
case_typed : (G : Scope) (k : Kind) (seen : List (Option ℕ)) (l : ℕ) (e : Expr) (xs : List Label)
    (ws : List (Option ℕ)) (o : Option ℕ) → (constant ends e).value ≡ o → not_fixed e G ≡ None → is_some o ≡ true
    → need_fits e ≡ true → label_among (Some (constant_at k e)) seen ≡ false
    → Labels G k (seen ++ Some (constant_at k e) ∷ []) xs ws
    → Labels G k seen ((record { offset = l; value = Some e }) ∷ xs) (Some (constant_at k e) ∷ ws)
case_typed G k seen l e xs ws None v f h n t d = absurd (false≢true h)
case_typed G k seen l e xs ws (Some m) v f h n t d =
    subst (λ m. label_among (Some m) seen ≡ false → Labels G k (seen ++ Some m ∷ []) xs ws
    → Labels G k seen ((record { offset = l; value = Some e }) ∷ xs) (Some m ∷ ws))
    (ap (λ o. converted k (word_in o)) (sym v)) (λ t d. a_case (constant_typed e G f) v n t d) t d

-- a label without a fault, before others
label_typed : (G : Scope) (k : Kind) (seen : List (Option ℕ)) (l : ℕ) (o : Option Expr) (xs : List Label)
    (ws : List (Option ℕ)) → case_fault o G ≡ None → label_among (word_if k o) seen ≡ false
    → Labels G k (seen ++ word_if k o ∷ []) xs ws
    → Labels G k seen ((record { offset = l; value = o }) ∷ xs) (word_if k o ∷ ws)
label_typed G k seen l None xs ws h t d = a_default t d
label_typed G k seen l (Some e) xs ws h t d =
    let q = split _ _ h in
    let r = split _ _ q.1 in
    case_typed G k seen l e xs ws (constant ends e).value refl q.0 (held _ _ r.0) (held _ _ r.1) t d

-- labels without a fault have their words by the rules
pub labels_typed : (G : Scope) (k : Kind) (seen : List (Option ℕ)) (ls : List Label) → labels_fault k seen ls G ≡ None
    → Labels G k seen ls (map (label_word k) ls)
labels_typed G k seen [] h = no_label
labels_typed G k seen (x ∷ xs) h =
    let q = split _ _ h in
    let r = split _ _ q.0 in
    label_typed G k seen x.offset x.value xs (map (label_word k) xs) r.0 (not_held _ _ r.1)
    (labels_typed G k (seen ++ label_word k x ∷ []) xs q.1)

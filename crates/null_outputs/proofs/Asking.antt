-- What is asked before the scopes of a list are closed, and where the walk that closes them may begin.
use Rattle.std.proofs.Common.{◌≡◌, ℕ, suc, ◌<◌, ◌≤◌, Bool, true, false, cond, ◌&&◌, ◌||◌, nat_eq, List, [], ◌∷◌, ◌++◌}
use Rattle.std.proofs.Common.{◌⊎◌, inl, inr, drop, length, refl, sym, ap, ◌∙◌, arith}
use Rattle.std.proofs.lemmas.Bool.Decides.{nat_tests}
use Rattle.std.specs.Prelude.{Some, None, nat_lt}
use Rattle.ir_forms.specs.declared.flow.FlowSource.{FlowSource}
use Rattle.ir_forms.specs.declared.flow.FlowNode.{FlowNode}
use Rattle.null_outputs.specs.inside.Asked.{meets, any_meets, end_of, higher, top_of}
use Rattle.null_outputs.specs.inside.Covers.{guard_on}
use Rattle.null_outputs.specs.inside.Surely.{Scope, Firm, same_sense, has, scope_of, scopes, split, close, sure_of}
use Rattle.null_outputs.proofs.Recognised.{or_left, or_right, or_split, has_front, has_back}
use Rattle.null_outputs.proofs.Recognised.{recognises_scope, recognises_always}

meets_front : (s t : List Scope) (g : Scope) → meets s g ≡ true → meets (s ++ t) g ≡ true
meets_front s t g e = go (or_split (has s None) (has s g) e)
  where
    go : (has s None ≡ true) ⊎ (has s g ≡ true) → meets (s ++ t) g ≡ true
    go (inl d) = or_left (has (s ++ t) None) (has (s ++ t) g) (has_front s t None d)
    go (inr d) = or_right (has (s ++ t) None) (has (s ++ t) g) (has_front s t g d)

meets_back : (s t : List Scope) (g : Scope) → meets t g ≡ true → meets (s ++ t) g ≡ true
meets_back s t g e = go (or_split (has t None) (has t g) e)
  where
    go : (has t None ≡ true) ⊎ (has t g ≡ true) → meets (s ++ t) g ≡ true
    go (inl d) = or_left (has (s ++ t) None) (has (s ++ t) g) (has_back s t None d)
    go (inr d) = or_right (has (s ++ t) None) (has (s ++ t) g) (has_back s t g d)

any_scopes : (nodes : List FlowNode) (firm : Firm) (g : Scope) (ss : List FlowSource)
    → any_meets nodes firm g ss ≡ true → meets (scopes nodes firm ss) g ≡ true
any_scopes nodes firm g [] e = absurd (cc)
any_scopes nodes firm g (s ∷ ss) e =
    go (or_split (meets (scope_of nodes firm s) g) (any_meets nodes firm g ss) e)
    (λ d. any_scopes nodes firm g ss d)
  where
    go : (meets (scope_of nodes firm s) g ≡ true) ⊎ (any_meets nodes firm g ss ≡ true)
        → (any_meets nodes firm g ss ≡ true → meets (scopes nodes firm ss) g ≡ true)
        → meets (scope_of nodes firm s ++ scopes nodes firm ss) g ≡ true
    go (inl d) r = meets_front (scope_of nodes firm s) (scopes nodes firm ss) g d
    go (inr d) r = meets_back (scope_of nodes firm s) (scopes nodes firm ss) g (r d)

-- a list is sure where a source of it is there without a condition, or under the guard itself
pub there_is_sure : (nodes : List FlowNode) (firm : Firm) (g : Scope) (ss : List FlowSource)
    → any_meets nodes firm g ss ≡ true → true ≡ sure_of nodes firm g ss
there_is_sure nodes firm g ss e =
    go (or_split (has (scopes nodes firm ss) None) (has (scopes nodes firm ss) g) (any_scopes nodes firm g ss e))
  where
    go : (has (scopes nodes firm ss) None ≡ true) ⊎ (has (scopes nodes firm ss) g ≡ true)
        → true ≡ sure_of nodes firm g ss
    go (inl d) = sym (recognises_always nodes firm g ss d)
    go (inr d) = sym (recognises_scope nodes firm g ss d)

higher_first : (a b k : ℕ) → higher a b ≤ k → a ≤ k
higher_first a b k l = go (nat_lt a b) refl l
  where
    go : (t : Bool) → nat_lt a b ≡ t → cond t b a ≤ k → a ≤ k
    go true e m = grind (arith, nat_tests, e, m)
    go false e m = m

higher_second : (a b k : ℕ) → higher a b ≤ k → b ≤ k
higher_second a b k l = go (nat_lt a b) refl l
  where
    go : (t : Bool) → nat_lt a b ≡ t → cond t b a ≤ k → b ≤ k
    go true e m = m
    go false e m = grind (arith, nat_tests, e, m)

other_number : (x j : ℕ) → suc x ≤ j → nat_eq x j ≡ false
other_number x j l = grind (arith, nat_tests)

-- no scope of some names a node behind all of theirs
not_named : (s : List Scope) (j : ℕ) (t : Bool) → top_of s ≤ j → has s (Some (guard_on t j)) ≡ false
not_named [] j t l = refl
not_named (None ∷ s) j t l = not_named s j t (higher_first (top_of s) 0 j l)
not_named (Some g ∷ s) j t l =
    ap (λ (x : Bool). (x && same_sense g.sense (guard_on t j).sense) || has s (Some (guard_on t j)))
    (other_number g.node j (higher_second (top_of s) (suc g.node) j l))
    ∙ not_named s j t (higher_first (top_of s) (suc g.node) j l)

none_split : (f a b : Bool) (x y : List Scope) → a ≡ false → cond (f && (a && b)) x y ≡ y
none_split true a b x y e = ap (λ (t : Bool). cond (t && b) x y) e
none_split false a b x y e = refl

split_same : (firm : Firm) (j : ℕ) (n : FlowNode) (s : List Scope) → top_of s ≤ j → split firm j n s ≡ s
split_same firm j n s l =
    none_split (firm j) (has s (Some (guard_on true j))) (has s (Some (guard_on false j))) (s ++ (n.guard ∷ [])) s
    (not_named s j true l)

close_same : (firm : Firm) (j : ℕ) (ns : List FlowNode) (s : List Scope) → top_of s ≤ j → close firm j ns s ≡ s
close_same firm j [] s l = refl
close_same firm j (n ∷ ns) s l =
    ap (split firm j n) (close_same firm (suc j) ns s (omega (arith, l))) ∙ split_same firm j n s l

drop_all : (ns : List FlowNode) (k : ℕ) → k ≡ length ns → drop k ns ≡ []
drop_all ns k e = ap (λ (i : ℕ). drop i ns) e ∙ none ns
  where
    none : (xs : List FlowNode) → drop (length xs) xs ≡ []
    none [] = refl
    none (x ∷ xs) = none xs

-- nothing changes behind all nodes, nor behind those that the scopes name
pub begins : (firm : Firm) (ns : List FlowNode) (s : List Scope) (at : ℕ)
    → (at ≡ length ns) ⊎ (top_of s ≤ at) → s ≡ close firm at (drop at ns) s
begins firm ns s at (inl e) = sym (ap (λ (l : List FlowNode). close firm at l s) (drop_all ns at e))
begins firm ns s at (inr l) = sym (close_same firm at (drop at ns) s l)

-- What the test of sureness surely recognises: what `convert` shows of its blocks by.
use Rattle.std.proofs.Common.{◌≡◌, ℕ, zero, suc, ◌+◌, List, [], ◌∷◌, ◌++◌, ◌⊎◌, inl, inr}
use Rattle.std.proofs.Common.{length, refl, sym, ap, subst, ◌∙◌, arith, cond, nat_eq, Bool, true, false, ◌&&◌, ◌||◌}
use Rattle.std.specs.Prelude.{Option, Some, None, slice_get}
use Rattle.trips_isa.specs.declared.block.Sense.{Sense}
use Rattle.trips_isa.specs.declared.block.Sense.TheVariants.{Always, OnTrue, OnFalse}
use Rattle.ir_forms.specs.declared.flow.FlowSource.{FlowSource}
use Rattle.ir_forms.specs.declared.flow.FlowSource.TheVariants.{Node}
use Rattle.ir_forms.specs.declared.flow.FlowNode.{FlowNode}
use Rattle.null_outputs.specs.inside.Covers.{guard_on}
use Rattle.null_outputs.specs.inside.Laws.{RecognisesScope, RecognisesAlways, RecognisesBoth, HasScope}
use Rattle.null_outputs.specs.inside.Surely.{Scope, Firm, same_sense, same_scope, has, scope_at, scope_of}
use Rattle.null_outputs.specs.inside.Surely.{scopes, split, close, reaches, outer, sure_of}
use Rattle.null_outputs.proofs.Spaces.{some_is, same_eq}

scope_same : (g : Scope) → same_scope g g ≡ true
scope_same None = refl
scope_same (Some g) = both (nat_eq g.node g.node) (same_sense g.sense g.sense) (same_eq g.node g.node refl)
    (same g.sense)
  where
    same : (s : Sense) → same_sense s s ≡ true
    same Always = refl
    same OnTrue = refl
    same OnFalse = refl

    both : (a b : Bool) → a ≡ true → b ≡ true → (a && b) ≡ true
    both a b x y = rw (x, y) refl

pub or_left : (a b : Bool) → a ≡ true → (a || b) ≡ true
or_left true b e = refl
or_left false b e = absurd (cc)

pub or_right : (a b : Bool) → b ≡ true → (a || b) ≡ true
or_right true b e = refl
or_right false b e = e

pub or_split : (a b : Bool) → (a || b) ≡ true → (a ≡ true) ⊎ (b ≡ true)
or_split true b e = inl refl
or_split false b e = inr e

pub has_front : (s t : List Scope) (g : Scope) → has s g ≡ true → has (s ++ t) g ≡ true
has_front [] t g e = absurd (cc)
has_front (k ∷ s) t g e = go (or_split (same_scope k g) (has s g) e) (λ d. has_front s t g d)
  where
    go : (same_scope k g ≡ true) ⊎ (has s g ≡ true) → (has s g ≡ true → has (s ++ t) g ≡ true)
        → (same_scope k g || has (s ++ t) g) ≡ true
    go (inl d) f = or_left (same_scope k g) (has (s ++ t) g) d
    go (inr d) f = or_right (same_scope k g) (has (s ++ t) g) (f d)

pub has_back : (s t : List Scope) (g : Scope) → has t g ≡ true → has (s ++ t) g ≡ true
has_back [] t g e = e
has_back (k ∷ s) t g e = or_right (same_scope k g) (has (s ++ t) g) (has_back s t g e)

split_keeps : (firm : Firm) (j : ℕ) (n : FlowNode) (s : List Scope) (g : Scope) → has s g ≡ true
    → has (split firm j n s) g ≡ true
split_keeps firm j n s g e = go (firm j && (has s (Some (guard_on true j)) && has s (Some (guard_on false j))))
  where
    go : (t : Bool) → has (cond t (s ++ (n.guard ∷ [])) s) g ≡ true
    go true = has_front s (n.guard ∷ []) g e
    go false = e

close_keeps : (firm : Firm) (j : ℕ) (ns : List FlowNode) (s : List Scope) (g : Scope) → has s g ≡ true
    → has (close firm j ns s) g ≡ true
close_keeps firm j [] s g e = e
close_keeps firm j (n ∷ ns) s g e =
    split_keeps firm j n (close firm (suc j) ns s) g (close_keeps firm (suc j) ns s g e)

split_makes : (firm : Firm) (j : ℕ) (n : FlowNode) (s : List Scope) → firm j ≡ true
    → has s (Some (guard_on true j)) ≡ true → has s (Some (guard_on false j)) ≡ true
    → has (split firm j n s) n.guard ≡ true
split_makes firm j n s f x y =
    go (firm j) (has s (Some (guard_on true j))) (has s (Some (guard_on false j))) f x y
  where
    go : (a b c : Bool) → a ≡ true → b ≡ true → c ≡ true
        → has (cond (a && (b && c)) (s ++ (n.guard ∷ [])) s) n.guard ≡ true
    go true true true f x y = has_back s (n.guard ∷ []) n.guard
        (or_left (same_scope n.guard n.guard) false (scope_same n.guard))
    go false b c f x y = absurd (cc)
    go true false c f x y = absurd (cc)
    go true true false f x y = absurd (cc)

close_makes : (firm : Firm) (j : ℕ) (ns : List FlowNode) (s : List Scope) (y : ℕ) (n : FlowNode) (i : ℕ)
    → i ≡ j + y → slice_get ns y ≡ Some n → firm i ≡ true
    → has s (Some (guard_on true i)) ≡ true → has s (Some (guard_on false i)) ≡ true
    → has (close firm j ns s) n.guard ≡ true
close_makes firm j [] s y n i e d f t u = absurd (cc)
close_makes firm j (m ∷ ns) s zero n i e d f t u =
    let ij : i ≡ j = omega (arith, e) in
    let nm : m ≡ n = some_is m n d in
    subst (λ (x : FlowNode). has (split firm j m (close firm (suc j) ns s)) x.guard ≡ true) nm
    (split_makes firm j m (close firm (suc j) ns s) (ap firm (sym ij) ∙ f)
    (close_keeps firm (suc j) ns s (Some (guard_on true j))
    (ap (λ (k : ℕ). has s (Some (guard_on true k))) (sym ij) ∙ t))
    (close_keeps firm (suc j) ns s (Some (guard_on false j))
    (ap (λ (k : ℕ). has s (Some (guard_on false k))) (sym ij) ∙ u)))
close_makes firm j (m ∷ ns) s (suc y) n i e d f t u =
    split_keeps firm j m (close firm (suc j) ns s) n.guard
    (close_makes firm (suc j) ns s y n i (omega (arith, e)) d f t u)

reaches_has : (nodes : List FlowNode) (s : List Scope) (d : ℕ) (g : Scope) → has s g ≡ true
    → reaches nodes s d g ≡ true
reaches_has nodes s zero g e = e
reaches_has nodes s (suc d) g e = or_left (has s g) (outer (reaches nodes s d) nodes g) e

pub sure_same : (nodes : List FlowNode) (firm : Firm) (g : Scope) (ss : List FlowSource)
    → has (close firm 0 nodes (scopes nodes firm ss)) g ≡ true → sure_of nodes firm g ss ≡ true
sure_same nodes firm g ss e =
    or_right (has (close firm 0 nodes (scopes nodes firm ss)) None) _
    (reaches_has nodes (close firm 0 nodes (scopes nodes firm ss)) (length nodes) g e)

-- a list is found sure where one of its scopes is the guard's
pub recognises_scope : RecognisesScope
recognises_scope nodes firm g ss e = sure_same nodes firm g ss (close_keeps firm 0 nodes (scopes nodes firm ss) g e)

-- a list is found sure where one of its scopes has no condition
pub recognises_always : RecognisesAlways
recognises_always nodes firm g ss e =
    or_left (has (close firm 0 nodes (scopes nodes firm ss)) None) _
    (close_keeps firm 0 nodes (scopes nodes firm ss) None e)

-- a list is found sure where it has both senses of a firm node whose scope is the guard's
pub recognises_both : RecognisesBoth
recognises_both nodes firm x n ss e f t u =
    sure_same nodes firm n.guard ss (close_makes firm 0 nodes (scopes nodes firm ss) x n x (omega arith) e f t u)

-- a firm node gives its guard
pub has_scope : HasScope
has_scope nodes firm y n ss e f = go ss
  where
    at_one : (t : Bool) (o : Option FlowNode) → t ≡ true → o ≡ Some n → has (scope_at t o) n.guard ≡ true
    at_one true o tt2 eo = subst (λ (z : Option FlowNode). has (scope_at true z) n.guard ≡ true) (sym eo)
        (or_left (same_scope n.guard n.guard) false (scope_same n.guard))
    at_one false o t eo = absurd (cc)

    go : (ss : List FlowSource) → has (scopes nodes firm (Node y ∷ ss)) n.guard ≡ true
    go ss = has_front (scope_of nodes firm (Node y)) (scopes nodes firm ss) n.guard
        (at_one (firm y) (slice_get nodes y) f e)

-- Steps of the code's proofs.
use Rattle.std.proofs.Common.{◌≡◌, List, [], ◌∷◌, ◌++◌, Bool, true, false, Option, Some, None, refl, sym, ap, subst}
use Rattle.std.proofs.Common.{◌∙◌, ℕ, suc, ◌<◌, length, get_or, drop, drop-cons}
use Rattle.null_outputs.specs.inside.Covers.{Sure}
use Rattle.null_outputs.specs.inside.Surely.{Scope, scope_at, sure_of, firm_of}
use Rattle.null_outputs.specs.inside.Wants.{spread, spread_at, open_stores, mark_writes, wants_of}
use Rattle.ir_forms.specs.declared.flow.FlowNode.{FlowNode}
use Rattle.ir_forms.specs.declared.flow.FlowWrite.{FlowWrite}
use Rattle.ir_forms.specs.declared.flow.FlowBlock.{FlowBlock}

same_end : {A : Type 0} (xs : List A) → xs ≡ xs ++ []
same_end [] = refl
same_end (x ∷ xs) = ap (λ (l : _). x ∷ l) (same_end xs)

-- without a node no scope is put behind the others
pub no_scope : (t : Bool) (o : Option FlowNode) (xs : List Scope) → o ≡ None → xs ≡ xs ++ scope_at t o
no_scope t None xs e = go t
  where
    go : (t : Bool) → xs ≡ xs ++ scope_at t None
    go true = same_end xs
    go false = same_end xs
no_scope t (Some n) xs e = absurd (cc)

-- with a node its guard is put behind the others
pub one_scope : (t : Bool) (o : Option FlowNode) (xs : List Scope) (n : FlowNode) → t ≡ true → o ≡ Some n
    → xs ++ (n.guard ∷ []) ≡ xs ++ scope_at t o
one_scope true o xs n e f = ap (λ (z : Option FlowNode). xs ++ scope_at true z) (sym f)
one_scope false o xs n e f = absurd (cc)

-- one step of the pass that goes from the last node to the first
pub spread_step : (sure : Sure) (first : List Bool) (nodes : List FlowNode) (at i : ℕ) (n : FlowNode)
    (ws new : List Bool) → at ≡ suc i → i < length nodes → n ≡ get_or nodes i n
    → ws ≡ spread sure first at (drop at nodes) → new ≡ spread_at sure i n ws
    → new ≡ spread sure first i (drop i nodes)
spread_step sure first nodes at i n ws new e l d x y =
    let c : drop i nodes ≡ n ∷ drop (suc i) nodes =
    drop-cons nodes i n l ∙ ap (λ (m : FlowNode). m ∷ drop (suc i) nodes) (sym d) in
    let z : ws ≡ spread sure first (suc i) (drop (suc i) nodes) =
    subst (λ (k : ℕ). ws ≡ spread sure first k (drop k nodes)) e x in
    y ∙ (ap (spread_at sure i n) z ∙ ap (spread sure first i) (sym c))

-- the three steps that find what is wanted
pub wants_steps : (nodes : List FlowNode) (firm : List Bool) (b : FlowBlock) (nodes2 nodes3 : List FlowNode)
    (writes : List FlowWrite) (x y z : List Bool)
    → nodes ≡ b.nodes → nodes2 ≡ b.nodes → nodes3 ≡ b.nodes → writes ≡ b.writes
    → x ≡ open_stores (sure_of b.nodes (firm_of firm)) b b.nodes
    → y ≡ mark_writes (sure_of nodes2 (firm_of firm)) x writes
    → z ≡ spread (sure_of nodes3 (firm_of firm)) y 0 nodes3
    → z ≡ wants_of (sure_of b.nodes (firm_of firm)) b
wants_steps nodes firm b nodes2 nodes3 writes x y z e1 e2 e3 e4 p q r =
    let q2 : y ≡ mark_writes (sure_of b.nodes (firm_of firm)) x b.writes =
    q ∙ (ap (λ (m : List FlowNode). mark_writes (sure_of m (firm_of firm)) x writes) e2
    ∙ ap (λ (m : List FlowWrite). mark_writes (sure_of b.nodes (firm_of firm)) x m) e4) in
    let r2 : z ≡ spread (sure_of b.nodes (firm_of firm)) y 0 b.nodes =
    r ∙ ap (λ (m : List FlowNode). spread (sure_of m (firm_of firm)) y 0 m) e3 in
    r2 ∙ ap (λ (m : List Bool). spread (sure_of b.nodes (firm_of firm)) m 0 b.nodes)
    (q2 ∙ ap (λ (m : List Bool). mark_writes (sure_of b.nodes (firm_of firm)) m b.writes) p)

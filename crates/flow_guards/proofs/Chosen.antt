-- What the code is proved by: a turn of its loop over nodes, and that nodes of which none loses its guard are right.
use Rattle.std.proofs.Common.{◌≡◌, ℕ, suc, ◌+◌, List, [], ◌∷◌, ◌++◌, length, refl, sym, ap, ap₂, ◌∙◌, get_or}
use Rattle.std.proofs.Common.{Bool, true, false, not, ◌&&◌, ◌||◌}
use Rattle.std.specs.Prelude.{Option, Some, None}
use Rattle.ir_forms.specs.declared.flow.FlowSource.{FlowSource}
use Rattle.ir_forms.specs.declared.flow.FlowSource.TheVariants.{Read, Node}
use Rattle.ir_forms.specs.declared.flow.Guard.{Guard}
use Rattle.ir_forms.specs.declared.flow.FlowNode.{FlowNode}
use Rattle.ir_forms.specs.declared.flow.FlowWrite.{FlowWrite}
use Rattle.ir_forms.specs.declared.flow.FlowBlock.{FlowBlock}
use Rattle.flow_guards.specs.inside.Guards.{Guards, implies, most_around, guards_of}
use Rattle.flow_guards.specs.inside.Unguards.{Loses, is_pure, is_kept, all_kept, guard_kept, may_stand}
use Rattle.flow_guards.specs.inside.Unguards.{are_right, is_right, nodes_right, writes_right, may_lose}
use Rattle.flow_guards.specs.inside.Unguards.{loosened, all_loosened, unguarded, Unguards, marked}

-- A TURN

joined : {A : Type 0} (xs : List A) (x : A) (ys : List A) → (xs ++ x ∷ []) ++ ys ≡ xs ++ (x ∷ ys)
joined [] x ys = refl
joined (z ∷ xs) x ys = ap (λ (l : List _). z ∷ l) (joined xs x ys)

one_longer : {A : Type 0} (xs : List A) (x : A) → length (xs ++ x ∷ []) ≡ suc (length xs)
one_longer [] x = refl
one_longer (z ∷ xs) x = ap suc (one_longer xs x)

-- what is out and what is to come make the same, after one more node
pub loosened_turn : (loses : Loses) (out : List FlowNode) (n : FlowNode) (rest : List FlowNode)
    → (out ++ loosened (loses (length out)) n ∷ [])
    ++ all_loosened loses (length (out ++ loosened (loses (length out)) n ∷ [])) rest
    ≡ out ++ all_loosened loses (length out) (n ∷ rest)
loosened_turn loses out n rest =
    joined out (loosened (loses (length out)) n) _
    ∙ ap (λ (k : ℕ). out ++ (loosened (loses (length out)) n ∷ all_loosened loses k rest))
    (one_longer out (loosened (loses (length out)) n))

-- NONE

module _ (loses : Loses) (none : (j : ℕ) → loses j ≡ false) where
  not_one : (k : ℕ) → not (loses k) ≡ true
  not_one k = ap (λ (b : Bool). not b) (none k)

  one_kept : (x : FlowSource) → is_kept loses x ≡ true
  one_kept (Read r) = refl
  one_kept (Node k) = not_one k

  each_kept : (ss : List FlowSource) → all_kept loses ss ≡ true
  each_kept [] = refl
  each_kept (x ∷ ss) = ap₂ (λ (a b : Bool). a && b) (one_kept x) (each_kept ss)

  or_more : (a b : Bool) → a ≡ true → (a || b) ≡ true
  or_more true b e = refl
  or_more false b e = absurd (cc)

  all_four : (a b c d : Bool) → a ≡ true → b ≡ true → c ≡ true → d ≡ true → (a && (b && (c && d))) ≡ true
  all_four true true true true w x y z = refl
  all_four false b c d w x y z = absurd (cc)
  all_four true false c d w x y z = absurd (cc)
  all_four true true false d w x y z = absurd (cc)
  all_four true true true false w x y z = absurd (cc)

  stands : (guards : Guards) (inner : Option Guard) (x : FlowSource) → may_stand guards loses inner x ≡ true
  stands guards inner (Read r) = refl
  stands guards inner (Node k) = or_more (not (loses k)) (implies guards most_around (guards k) inner) (not_one k)

  sources_right : (guards : Guards) (inner : Option Guard) (ss : List FlowSource)
      → are_right guards loses inner ss ≡ true
  sources_right guards inner [] = refl
  sources_right guards inner (x ∷ []) = stands guards inner x
  sources_right guards inner (x ∷ y ∷ rest) = each_kept (x ∷ y ∷ rest)

  guard_stays : (g : Option Guard) → guard_kept loses g ≡ true
  guard_stays None = refl
  guard_stays (Some g) = not_one g.node

  node_right : (guards : Guards) (j : ℕ) (n : FlowNode) → is_right guards loses j n ≡ true
  node_right guards j n =
      all_four (not (loses j) || is_pure n.op) (guard_kept loses n.guard)
      (are_right guards loses n.guard n.left) (are_right guards loses n.guard n.right)
      (or_more (not (loses j)) (is_pure n.op) (not_one j)) (guard_stays n.guard)
      (sources_right guards n.guard n.left) (sources_right guards n.guard n.right)

  all_right : (guards : Guards) (j : ℕ) (ns : List FlowNode) → nodes_right guards loses j ns ≡ true
  all_right guards j [] = refl
  all_right guards j (n ∷ ns) = ap₂ (λ (a b : Bool). a && b) (node_right guards j n) (all_right guards (suc j) ns)

  all_writes : (ws : List FlowWrite) → writes_right loses ws ≡ true
  all_writes [] = refl
  all_writes (w ∷ ws) = ap₂ (λ (a b : Bool). a && b) (each_kept w.sources) (all_writes ws)

  may_none : (f : FlowBlock) → may_lose loses f ≡ true
  may_none f = ap₂ (λ (a b : Bool). a && b) (all_right (guards_of f.nodes) 0 f.nodes) (all_writes f.writes)

-- nodes of which none is marked may lose their guards
pub none_marked : (f : FlowBlock) → may_lose (marked []) f ≡ true
none_marked f = may_none (marked []) (λ j. refl) f

-- without marks nodes stay as they are
nothing_lost : (j : ℕ) (ns : List FlowNode) → ns ≡ all_loosened (marked []) j ns
nothing_lost j [] = refl
nothing_lost j (n ∷ ns) = ap (λ (l : List FlowNode). n ∷ l) (nothing_lost (suc j) ns)

-- a block of which no node loses its guard is itself
pub none_loses : (f : FlowBlock) → Unguards f f
none_loses f = record {
  loses = marked [];
  may = none_marked f;
  same = ap (λ (ns : List FlowNode). record f { nodes = ns }) (nothing_lost 0 f.nodes);
}

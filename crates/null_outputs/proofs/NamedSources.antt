-- What names a source: a node's operands and guard, and a write.
use Rattle.std.proofs.Common.{◌≡◌, ◌≢◌, ℕ, zero, suc, List, ◌∷◌, ◌++◌, ◌⊎◌, inl, inr, []}
use Rattle.std.proofs.Common.{refl, sym, ap, subst, ◌∙◌, arith, nat_eq, Bool, true, false}
use Rattle.std.proofs.Common.{◌&&◌, ◌||◌}
use Rattle.std.proofs.Common.{true≢false}
use Rattle.std.proofs.lemmas.Bool.Decides.{nat_tests}
use Rattle.std.specs.Prelude.{Option, Some, None, slice_get}
use Rattle.trips_isa.specs.declared.block.Sense.TheVariants.{Always}
use Rattle.ir_forms.specs.declared.flow.FlowSource.{FlowSource}
use Rattle.ir_forms.specs.declared.flow.FlowSource.TheVariants.{Read, Node}
use Rattle.ir_forms.specs.declared.flow.Guard.{Guard}
use Rattle.ir_forms.specs.declared.flow.FlowNode.{FlowNode}
use Rattle.ir_forms.specs.declared.flow.FlowWrite.{FlowWrite}
use Rattle.ir_forms.specs.inside.FlowRegular.{same_source, is_among, guards_by, nodes_name, writes_name}
use Rattle.null_outputs.specs.inside.Covers.{Want, sense_on}
use Rattle.null_outputs.specs.inside.Groups.{guard_is, sense_is, is_used}
use Rattle.null_outputs.proofs.Spaces.{some_is}
use Rattle.null_outputs.proofs.Covers.{both_true}

-- NAMES

-- one of two holds where the first does
pub or_first : (a b : Bool) → a ≡ true → (a || b) ≡ true
or_first true b e = refl
or_first false b e = absurd (cc)

-- one of two holds where the second does
pub or_second : (a b : Bool) → b ≡ true → (a || b) ≡ true
or_second true b e = refl
or_second false b e = e

-- where one of two holds, the first does or the second
pub or_either : (a b : Bool) → (a || b) ≡ true → (a ≡ true) ⊎ (b ≡ true)
or_either true b e = inl refl
or_either false b e = inr e

-- none of two holds where neither does
pub neither : (a b : Bool) → a ≡ false → b ≡ false → (a || b) ≡ false
neither true b e f = absurd (cc)
neither false b e f = f

-- a source names itself
pub itself : (s : FlowSource) → same_source s s ≡ true
itself (Read r) = grind (arith, nat_tests)
itself (Node j) = grind (arith, nat_tests)

-- what is among sources is among more of them
pub among_front : (s : FlowSource) (xs ys : List FlowSource) → is_among s xs ≡ true → is_among s (xs ++ ys) ≡ true
among_front s [] ys e = absurd (true≢false (sym e))
among_front s (x ∷ xs) ys e = go (or_either (same_source s x) (is_among s xs) e) (λ d. among_front s xs ys d)
  where
    go : (same_source s x ≡ true) ⊎ (is_among s xs ≡ true) → (is_among s xs ≡ true → is_among s (xs ++ ys) ≡ true)
        → is_among s (x ∷ (xs ++ ys)) ≡ true
    go (inl d) f = or_first (same_source s x) (is_among s (xs ++ ys)) d
    go (inr d) f = or_second (same_source s x) (is_among s (xs ++ ys)) (f d)

-- what more nodes name
pub named_front : (s : FlowSource) (ns more : List FlowNode) → nodes_name s ns ≡ true
    → nodes_name s (ns ++ more) ≡ true
named_front s [] more e = absurd (true≢false (sym e))
named_front s (n ∷ ns) more e =
    go (is_among s n.left) (is_among s n.right) (guards_by s n.guard) (nodes_name s ns)
    (λ d. named_front s ns more d) e
  where
    go : (a b c d : Bool) → (d ≡ true → nodes_name s (ns ++ more) ≡ true) → (a || (b || (c || d))) ≡ true
        → (a || (b || (c || nodes_name s (ns ++ more)))) ≡ true
    go true b c d f e = refl
    go false true c d f e = refl
    go false false true d f e = refl
    go false false false d f e = f e

-- a guard of a node, and an operand, are named
pub named_at : (s : FlowSource) (ns : List FlowNode) (y : ℕ) (n : FlowNode) → slice_get ns y ≡ Some n
    → (is_among s n.left || (is_among s n.right || guards_by s n.guard)) ≡ true → nodes_name s ns ≡ true
named_at s [] y n e d = absurd (cc)
named_at s (m ∷ ns) zero n e d =
    subst (λ (x : FlowNode). nodes_name s (x ∷ ns) ≡ true) (sym (some_is m n e))
    (go (is_among s n.left) (is_among s n.right) (guards_by s n.guard) d)
  where
    go : (a b c : Bool) → (a || (b || c)) ≡ true → (a || (b || (c || nodes_name s ns))) ≡ true
    go true b c e = refl
    go false true c e = refl
    go false false true e = refl
    go false false false e = absurd (true≢false (sym e))
named_at s (m ∷ ns) (suc y) n e d =
    or_second (is_among s m.left) _ (or_second (is_among s m.right) _
    (or_second (guards_by s m.guard) (nodes_name s ns) (named_at s ns y n e d)))

-- what a write takes is named by the writes
pub write_named : (s : FlowSource) (ws : List FlowWrite) (j : ℕ) (w : FlowWrite) → slice_get ws j ≡ Some w
    → is_among s w.sources ≡ true → writes_name s ws ≡ true
write_named s [] j w e d = absurd (cc)
write_named s (v ∷ ws) zero w e d = or_first (is_among s v.sources) (writes_name s ws)
    (ap (λ (x : FlowWrite). is_among s x.sources) (some_is v w e) ∙ d)
write_named s (v ∷ ws) (suc j) w e d = or_second (is_among s v.sources) (writes_name s ws) (write_named s ws j w e d)

-- a guard that is used is named
guard_named : (s : Bool) (y : ℕ) (g : Option Guard) → guard_is s y g ≡ true → guards_by (Node y) g ≡ true
guard_named s y None e = absurd (true≢false (sym e))
guard_named s y (Some g) e = let d = (both_true (nat_eq g.node y) (sense_is s g.sense) e).0 in
    grind (arith, nat_tests, d)

-- the node of a guard that is used is named by the nodes
pub used_named : (want : Want) (j : ℕ) (ns : List FlowNode) (s : Bool) (y : ℕ) → is_used want j ns s y ≡ true
    → nodes_name (Node y) ns ≡ true
used_named want j [] s y e = absurd (true≢false (sym e))
used_named want j (n ∷ ns) s y e =
    go (or_either (want j && guard_is s y n.guard) (is_used want (suc j) ns s y) e)
    (λ d. used_named want (suc j) ns s y d)
  where
    go : ((want j && guard_is s y n.guard) ≡ true) ⊎ (is_used want (suc j) ns s y ≡ true)
        → (is_used want (suc j) ns s y ≡ true → nodes_name (Node y) ns ≡ true) → nodes_name (Node y) (n ∷ ns) ≡ true
    go (inl d) f =
        or_second (is_among (Node y) n.left) _ (or_second (is_among (Node y) n.right) _
        (or_first (guards_by (Node y) n.guard) (nodes_name (Node y) ns)
        (guard_named s y n.guard (both_true (want j) (guard_is s y n.guard) d).1)))
    go (inr d) f =
        or_second (is_among (Node y) n.left) _ (or_second (is_among (Node y) n.right) _
        (or_second (guards_by (Node y) n.guard) (nodes_name (Node y) ns) (f d)))

-- a guard on a sense is not one without a condition
pub on_has_sense : (s : Bool) → sense_on s ≢ Always
on_has_sense true e = absurd (cc)
on_has_sense false e = absurd (cc)

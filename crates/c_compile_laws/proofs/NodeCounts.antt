-- The guarded nodes of lists.
use Rattle.std.proofs.Common.{◌≡◌, ◌≢◌, ℕ, suc, ◌+◌, ◌≤◌, Bool, true, false, not, ◌&&◌, List, [], ◌∷◌, ◌++◌}
use Rattle.std.proofs.Common.{Option, Some, None, slice_get, refl, sym, ap, ap₂, arith, cond}
use Rattle.trips_isa.specs.declared.block.Sense.{Sense}
use Rattle.trips_isa.specs.declared.block.Sense.TheVariants.{Always, OnTrue, OnFalse}
use Rattle.trips_isa.specs.Forms.{form_of}
use Rattle.trips_isa.specs.Operands.{is_guarded}
use Rattle.ir_forms.specs.declared.flow.Guard.{Guard}
use Rattle.ir_forms.specs.declared.flow.FlowNode.{FlowNode}
use Rattle.ir_forms.specs.declared.flow.FlowBlock.{FlowBlock}
use Rattle.ir_forms.specs.FlowFits.{is_branch}
use Rattle.ir_forms.specs.inside.FlowFits.{has_guard, guarded_nodes}
use Rattle.null_outputs.specs.inside.Completed.{added}
use Rattle.null_outputs.specs.inside.Surely.{sure_by}
use Rattle.null_outputs.specs.inside.Wants.{want_by, complete}
use Rattle.c_compile_blocks.specs.inside.Guarded.{has_sense, sensed_nodes}
use Rattle.c_compile_laws.specs.inside.GuardLaws.{CompletesGuarded}

-- LISTS

guarded_append : (a b : List FlowNode) → guarded_nodes (a ++ b) ≡ guarded_nodes a + guarded_nodes b
guarded_append [] b = omega arith
guarded_append (n ∷ a) b = let h = guarded_append a b in omega (arith, h)

-- nodes behind nodes have the guards with a sense of both
pub sensed_append : (a b : List FlowNode) → sensed_nodes (a ++ b) ≡ sensed_nodes a + sensed_nodes b
sensed_append [] b = omega arith
sensed_append (n ∷ a) b = let h = sensed_append a b in omega (arith, h)

-- a node that is no branch counts where it has a guard
pub own_counts : (t v : Bool) → v ≡ false → cond {A = ℕ} (t && not v) 1 0 ≡ cond t 1 0
own_counts true false e = refl
own_counts false false e = refl
own_counts true true e = absurd (cc)
own_counts false true e = absurd (cc)

-- GUARDS WITH A SENSE

fewer : (x v : Bool) → cond (x && v) 1 0 ≤ cond (true && v) 1 0
fewer true v = omega arith
fewer false true = omega arith
fewer false false = omega arith

none_sensed : (v : Bool) → cond (has_sense None && v) 1 0 ≤ cond (has_guard None && v) 1 0
none_sensed true = omega arith
none_sensed false = omega arith

one_guarded : (o : Option Guard) (v : Bool) → cond (has_sense o && v) 1 0 ≤ cond (has_guard o && v) 1 0
one_guarded None v = none_sensed v
one_guarded (Some g) v = fewer (is_guarded g.sense) v

-- guards with a sense are no more than guards
pub sensed_fewer : (ns : List FlowNode) → sensed_nodes ns ≤ guarded_nodes ns
sensed_fewer [] = omega arith
sensed_fewer (n ∷ ns) =
    let a = one_guarded n.guard (not (is_branch (form_of n.op))) in
    let h = sensed_fewer ns in
    omega (arith, a, h)

sense_guards : (s : Sense) → s ≢ Always → is_guarded s ≡ true
sense_guards Always n = absurd (n refl)
sense_guards OnTrue n = refl
sense_guards OnFalse n = refl

guard_same : (o : Option Guard) → ((g : Guard) → o ≡ Some g → g.sense ≢ Always) → has_guard o ≡ has_sense o
guard_same None f = refl
guard_same (Some g) f = sym (sense_guards g.sense (f g refl))

-- where each guard has a sense, the counts are one
pub all_sensed : (ns : List FlowNode)
    → ((i : ℕ) (n : FlowNode) (g : Guard) → slice_get ns i ≡ Some n → n.guard ≡ Some g → g.sense ≢ Always)
    → guarded_nodes ns ≡ sensed_nodes ns
all_sensed [] f = refl
all_sensed (n ∷ ns) f =
    ap₂ (λ (a b : ℕ). a + b)
    (ap (λ (t : Bool). cond {A = ℕ} (t && not (is_branch (form_of n.op))) 1 0)
    (guard_same n.guard (λ g e. f 0 n g refl e))) (all_sensed ns (λ i m g e z. f (suc i) m g e z))

-- COMPLETING

-- completing takes no guarded node away
pub completes : CompletesGuarded
completes f =
    let more = added (sure_by f) (want_by f) f in
    let e : guarded_nodes (complete f).nodes ≡ guarded_nodes f.nodes + guarded_nodes more =
    guarded_append f.nodes more in
    omega (arith, e)

-- completing takes no node away whose guard has a sense
pub completes_sensed : (f : FlowBlock) → sensed_nodes f.nodes ≤ sensed_nodes (complete f).nodes
completes_sensed f =
    let more = added (sure_by f) (want_by f) f in
    let e : sensed_nodes (complete f).nodes ≡ sensed_nodes f.nodes + sensed_nodes more =
    sensed_append f.nodes more in
    omega (arith, e)

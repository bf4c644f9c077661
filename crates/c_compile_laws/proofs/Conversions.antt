-- Each filled if-item gives a guarded node: what stands directly in a leg has the leg's guard.
use Rattle.std.proofs.Common.{◌≡◌, ℕ, suc, ◌+◌, ◌≤◌, Bool, true, false, ◌||◌, List, [], ◌∷◌, ◌++◌, length, refl}
use Rattle.std.proofs.Common.{ap, arith, cond}
use Rattle.std.specs.Prelude.{None}
use Rattle.trips_isa.specs.declared.op.Op.{Op}
use Rattle.trips_isa.specs.Forms.{form_of, role_of, takes_right}
use Rattle.ir_forms.specs.declared.hyper.Source.{Source}
use Rattle.ir_forms.specs.declared.flow.FlowSource.{FlowSource}
use Rattle.ir_forms.specs.declared.flow.FlowNode.{FlowNode}
use Rattle.ir_forms.specs.inside.HyperCode.{Items, Done, Set, Load, Save, If}
use Rattle.ir_forms.specs.inside.HyperFits.{FitsItems, is_filled, filled_ifs}
use Rattle.ir_forms.specs.FlowFits.{is_branch}
use Rattle.predication.specs.inside.Environments.{Scope, Env, Bits, no_bits, under, put, note, from_node, at_start}
use Rattle.predication.specs.inside.Environments.{left_bits, distinct}
use Rattle.predication.specs.inside.Operands.{node_of, operand, second, bit_set, tested}
use Rattle.hyper_narrow.specs.inside.NarrowedCode.{Narrowed}
use Rattle.predication.specs.inside.Ifs.{items, join, touched}
use Rattle.predication.specs.inside.Converted.{begun, ended, predicated}
use Rattle.predication.proofs.Ops.{op_form}
use Rattle.predication.proofs.EmittedIfs.{load_form, store_form}
use Rattle.c_compile_laws.specs.inside.GuardLaws.{ConvertsGuarded}
use Rattle.c_compile_blocks.specs.inside.Guarded.{has_sense, sensed_nodes}
use Rattle.c_compile_laws.proofs.NodeCounts.{sensed_append, own_counts, sensed_fewer}

-- what items give besides in a leg, where they are one
abbrev directly : Bool → Items → ℕ
directly true is = cond (is_filled is) 1 0
directly false is = 0

one_most : (b : Bool) → cond b 1 0 ≤ 1
one_most true = omega arith
one_most false = omega arith

directly_most : (t : Bool) (is : Items) → directly t is ≤ cond t 1 0
directly_most true is = one_most (is_filled is)
directly_most false is = omega arith

directly_none : (t : Bool) → directly t Done ≡ 0
directly_none true = refl
directly_none false = refl

-- behind an if what stands directly is as behind it
directly_past : (t : Bool) (is rest : Items) → is_filled is ≡ is_filled rest → directly t is ≡ directly t rest
directly_past true is rest e = ap (λ (b : Bool). cond b 1 0) e
directly_past false is rest e = refl

either_most : (a b : Bool) → cond (a || b) 1 0 ≤ cond a 1 0 + cond b 1 0
either_most true true = omega arith
either_most true false = omega arith
either_most false true = omega arith
either_most false false = omega arith

-- a node of an item counts where its scope is a guard
node_counts : (o : Op) (m : ℕ) (g : Scope) (l r : List FlowSource) (ns : List FlowNode)
    → is_branch (form_of o) ≡ false
    → sensed_nodes (node_of o m g l r ∷ ns) ≡ cond (has_sense g) 1 0 + sensed_nodes ns
node_counts o m g l r ns e =
    ap (λ (k : ℕ). k + sensed_nodes ns) (own_counts (has_sense g) (is_branch (form_of o)) e)

-- an item, whose nodes are those of its operands and its own
item_guarded : (xs ys os : List FlowNode) (n : FlowNode) (t : Bool) (is : Items) (k : ℕ)
    → sensed_nodes (n ∷ os) ≡ cond t 1 0 + sensed_nodes os → k ≤ sensed_nodes os
    → k + directly t is ≤ sensed_nodes (xs ++ (ys ++ n ∷ os))
item_guarded xs ys os n t is k e h =
    let a = sensed_append xs (ys ++ n ∷ os) in
    let b = sensed_append ys (n ∷ os) in
    let d = directly_most t is in
    omega (arith, a, b, d, e, h)

-- an if, whose nodes are those of its test, its legs, its end and what is behind it
if_guarded : (xs ys ns cs os : List FlowNode) (s : Bool) (t : Source) (one other rest : Items)
    → filled_ifs one + cond (is_filled one) 1 0 ≤ sensed_nodes ys
    → filled_ifs other + cond (is_filled other) 1 0 ≤ sensed_nodes ns
    → filled_ifs rest + directly s rest ≤ sensed_nodes os
    → filled_ifs (If t one other rest) + directly s (If t one other rest)
    ≤ sensed_nodes (xs ++ (ys ++ (ns ++ (cs ++ os))))
if_guarded xs ys ns cs os s t one other rest p q h =
    let d = directly_past s (If t one other rest) rest refl in
    let e = either_most (is_filled one) (is_filled other) in
    let u = sensed_append xs (ys ++ (ns ++ (cs ++ os))) in
    let v = sensed_append ys (ns ++ (cs ++ os)) in
    let w = sensed_append ns (cs ++ os) in
    let z = sensed_append cs os in
    omega (arith, p, q, h, d, e, u, v, w, z)

pub items_guarded : (is : Items) (g : Scope) (j m : ℕ) (env : Env) (bits : Bits) → FitsItems is
    → filled_ifs is + directly (has_sense g) is ≤ sensed_nodes (items g j m env bits is).nodes
items_guarded Done g j m env bits f = let d = directly_none (has_sense g) in omega (arith, d)
items_guarded (Set r o a c rest) g j m env bits f =
    let x = operand j env a in
    let y = second (takes_right (role_of o)) (j + length x.nodes) env c in
    let k = j + length x.nodes + length y.nodes in
    let later = items g (suc k) m (put env r (from_node k)) (note bits r (bit_set o bits a k)) rest in
    let h = items_guarded rest g (suc k) m (put env r (from_node k)) (note bits r (bit_set o bits a k)) f.4 in
    item_guarded x.nodes y.nodes later.nodes (node_of o 0 g x.sources y.sources) (has_sense g) (Set r o a c rest)
    (filled_ifs rest) (node_counts o 0 g x.sources y.sources later.nodes (ap is_branch (op_form o f.1)))
    (omega (arith, h))
items_guarded (Load r o a rest) g j m env bits f =
    let x = operand j env a in
    let k = j + length x.nodes in
    let later = items g (suc k) (suc m) (put env r (from_node k)) (note bits r None) rest in
    let h = items_guarded rest g (suc k) (suc m) (put env r (from_node k)) (note bits r None) f.3 in
    item_guarded x.nodes [] later.nodes (node_of o m g x.sources []) (has_sense g) (Load r o a rest)
    (filled_ifs rest) (node_counts o m g x.sources [] later.nodes (ap is_branch (load_form (form_of o) f.1)))
    (omega (arith, h))
items_guarded (Save o a v rest) g j m env bits f =
    let x = operand j env a in
    let y = operand (j + length x.nodes) env v in
    let k = j + length x.nodes + length y.nodes in
    let later = items g (suc k) (suc m) env bits rest in
    let h = items_guarded rest g (suc k) (suc m) env bits f.3 in
    item_guarded x.nodes y.nodes later.nodes (node_of o m g x.sources y.sources) (has_sense g) (Save o a v rest)
    (filled_ifs rest) (node_counts o m g x.sources y.sources later.nodes
    (ap is_branch (store_form (form_of o) f.0))) (omega (arith, h))
items_guarded (If t one other rest) g j m env bits f =
    let x = tested g j env bits t in
    let i = j + length x.nodes in
    let y = items (under x.last true) i m env no_bits one in
    let n = items (under x.last false) (i + length y.nodes) y.number env no_bits other in
    let c = join x.last (i + length y.nodes + length n.nodes) env y.env n.env (touched one) (touched other)
    (distinct (touched one ++ touched other)) in
    let at = i + length y.nodes + length n.nodes + length c.nodes in
    let lb = left_bits bits (touched one ++ touched other) in
    let o = items g at n.number c.env lb rest in
    if_guarded x.nodes y.nodes n.nodes c.nodes o.nodes (has_sense g) t one other rest
    (items_guarded one (under x.last true) i m env no_bits f.1)
    (items_guarded other (under x.last false) (i + length y.nodes) y.number env no_bits f.2)
    (items_guarded rest g at n.number c.env lb f.3)

-- each filled if-item gives a node whose guard has a sense
pub converts_sensed : (d : Narrowed) → FitsItems d.block.items
    → filled_ifs d.block.items ≤ sensed_nodes (predicated d).nodes
converts_sensed d f =
    let b = d.block in
    let h : filled_ifs b.items + 0 ≤ sensed_nodes (begun b).nodes =
    items_guarded b.items None 0 0 at_start no_bits f in
    let e : sensed_nodes (predicated d).nodes ≡ sensed_nodes (begun b).nodes + sensed_nodes (ended b).nodes =
    sensed_append (begun b).nodes (ended b).nodes in
    omega (arith, h, e)

-- each filled if-item gives a guarded node, also where the block still holds labels
pub converts : ConvertsGuarded
converts b f =
    let h = converts_sensed b f in
    let e = sensed_fewer (predicated b).nodes in
    omega (arith, h, e)

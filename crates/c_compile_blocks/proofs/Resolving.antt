-- What resolving labels is to the passes: one in every crate, and nothing that the passes look at.
use Rattle.std.proofs.Common.{◌≡◌, ◌⊎◌, inl, inr, ℕ, zero, suc, ◌/◌, ◌%◌, List, [], ◌∷◌, map, Some, refl}
use Rattle.std.proofs.Common.{sym, ap, ap₂, subst, slice_get, get_or}
use Rattle.std.specs.Prelude.{ℤ, pos, negsuc}
use Rattle.std.specs.List.{All}
use Rattle.std.proofs.lemmas.Option.{slice_get-get_or}
use Rattle.trips_isa.specs.declared.op.Op.{Op}
use Rattle.trips_isa.specs.declared.op.Op.TheVariants.{Bro, Callo, Genu, App, Null, Mov, And, Sb}
use Rattle.ir_forms.specs.declared.flow.FlowNode.{FlowNode}
use Rattle.ir_forms.specs.declared.flow.FlowBlock.{FlowBlock}
use Rattle.predication.specs.inside.Labels as labels
use Rattle.null_outputs.specs.inside.Immediates.{IsAddedOp, IsAdded, KeepsZeros}
use Rattle.null_outputs.specs.inside.Wants.{complete}
use Rattle.null_outputs.proofs.Added.{own_or_added}
use Rattle.null_outputs.proofs.Unread.{keeps_immediates}
use Rattle.c_compile_layout.specs.inside.Linking.{resolved_node, resolved, half_of}
use Rattle.c_compile_layout.specs.inside.Linking.{by_address}
use Rattle.c_compile_layout.specs.inside.Emitted.{LabelBelow}
use Rattle.c_compile_blocks.proofs.BranchLabels.{AllBelow}

-- ADDRESSES

half_same : (half : ℕ → ℕ) (imm : ℤ) → half_of half imm ≡ labels.half_of half imm
half_same half (pos w) = refl
half_same half (negsuc w) = refl

address_same : (address : ℕ → ℕ) (o : Op) (imm : ℤ)
    → by_address address o imm ≡ labels.by_address address o imm
address_same address Genu imm = half_same (λ l. address l / 65536) imm
address_same address App imm = half_same (λ l. address l % 65536) imm
address_same address _ imm = refl

nodes_same : (address : ℕ → ℕ) (ns : List FlowNode)
    → map (resolved_node (by_address address)) ns ≡ map (labels.resolved_node address) ns
nodes_same address [] = refl
nodes_same address (n ∷ ns) =
    ap₂ (λ (i : ℤ) (rest : List FlowNode). (record n { imm = i }) ∷ rest)
    (address_same address n.op n.imm) (nodes_same address ns)

-- labels become addresses in the same way
pub resolved_same : (address : ℕ → ℕ) (f : FlowBlock)
    → resolved (by_address address) f ≡ labels.resolved address f
resolved_same address f =
    ap (λ (ns : List FlowNode). record f { nodes = ns }) (nodes_same address f.nodes)

-- COMPLETING

-- addresses leave what completing adds
pub address_zeros : (address : ℕ → ℕ) → KeepsZeros (by_address address)
address_zeros address Null a = refl
address_zeros address Mov a = refl
address_zeros address And a = refl
address_zeros address Sb a = refl
address_zeros address _ a = absurd a

-- to complete a block and to resolve its labels is one in either order
pub completed_resolved : (address : ℕ → ℕ) (f : FlowBlock)
    → resolved (by_address address) (complete f) ≡ complete (resolved (by_address address) f)
completed_resolved address f = sym (keeps_immediates (by_address address) (address_zeros address) f)

-- what is added is no branch
added_below : (n : ℕ) (o : Op) (imm : ℤ) → IsAddedOp o → LabelBelow n o imm
added_below n Bro imm a = absurd a
added_below n Callo imm a = absurd a
added_below n _ imm a = tt

below_at : (n : ℕ) (ns : List FlowNode) (j : ℕ) (x : FlowNode) → AllBelow n ns
    → slice_get ns j ≡ Some x → LabelBelow n x.op x.imm
below_at n [] j x h e = absurd (cc)
below_at n (y ∷ ns) zero x h e =
    let same : y ≡ x = cc in subst (λ (z : FlowNode). LabelBelow n z.op z.imm) same h.0
below_at n (y ∷ ns) (suc j) x h e = below_at n ns j x h.1 e

either_below : (n : ℕ) (ns : List FlowNode) (j : ℕ) (x : FlowNode) → AllBelow n ns
    → (slice_get ns j ≡ Some x) ⊎ IsAdded x → LabelBelow n x.op x.imm
either_below n ns j x h (inl e) = below_at n ns j x h e
either_below n ns j x h (inr a) = added_below n x.op x.imm a.op

-- what holds of the item at each place holds of all
pub all_by_index : {A : Type 0} (P : A → Type 0) (xs : List A)
    → ((i : ℕ) (x : A) → slice_get xs i ≡ Some x → P x) → All P xs
all_by_index P xs f i d l = f i (get_or xs i d) (slice_get-get_or xs i d l)

-- so the labels of a completed block's branches are those of the block's
pub completed_below : (n : ℕ) (f : FlowBlock) → AllBelow n f.nodes
    → All (λ (x : FlowNode). LabelBelow n x.op x.imm) (complete f).nodes
completed_below n f h =
    all_by_index (λ (x : FlowNode). LabelBelow n x.op x.imm) (complete f).nodes (λ j x e.
    either_below n f.nodes j x h (own_or_added f j x e))

-- What it takes for a node to be put in the place of another: the block's nodes may get other ranks.
use Rattle.std.proofs.Common.{◌≡◌, ℕ, true}
use Rattle.std.specs.Prelude.{Some, All, slice_get, slice_set}
use Rattle.trips_isa.specs.declared.form.Form.TheVariants.{Load, Store}
use Rattle.trips_isa.specs.Forms.{form_of}
use Rattle.ir_forms.specs.declared.flow.FlowSource.TheVariants.{Read, Node}
use Rattle.ir_forms.specs.declared.flow.FlowNode.{FlowNode}
use Rattle.ir_forms.specs.declared.flow.FlowBlock.{FlowBlock}
use Rattle.ir_forms.specs.inside.FlowFits.{FitsNode, HasOrder, Rises}
use Rattle.ir_forms.specs.inside.FlowRegular.{TakesOnly, is_silent, nodes_name}
use Rattle.flow_fold.specs.inside.Replaces.{Stands, names_label}
use Rattle.flow_fold.proofs.Places.{set_here}
use Rattle.flow_fold.proofs.Names.{node_names, named_at}
use Rattle.flow_fold.proofs.Turned.{Written, HasSense}

-- ranks of the nodes of f by which m may stand at place j too
pub record Ordered (f : FlowBlock) (j : ℕ) (m : FlowNode) : Type 0 where
  pub rank : ℕ → ℕ
  pub order : HasOrder f rank
  pub rises : Rises rank (rank j) m

-- m may be put in the place of n, which is node j of f
pub record Placed (f : FlowBlock) (j : ℕ) (n m : FlowNode) : Type 0 where
  pub fits : All (FitsNode f) f.nodes → FitsNode f n → FitsNode f m
  pub orders : (rank : ℕ → ℕ) → HasOrder f rank → Ordered f j m
  pub load : form_of m.op ≡ Load → (form_of n.op ≡ Load) × (m.number ≡ n.number)
  pub store : form_of m.op ≡ Store → (form_of n.op ≡ Store) × (m.number ≡ n.number)
  pub silent : is_silent (form_of m.op) ≡ true → is_silent (form_of n.op) ≡ true
  pub operands : TakesOnly n → TakesOnly m
  pub guards : HasSense n.guard → HasSense m.guard
  -- each register that n takes is taken
  pub reads : (r : ℕ) → node_names (Read r) n ≡ true → nodes_name (Read r) (slice_set f.nodes j m) ≡ true
  -- and no token of a store or a branch is
  pub names : (y : ℕ) (x : FlowNode) → slice_get f.nodes y ≡ Some x → is_silent (form_of x.op) ≡ true
      → node_names (Node y) m ≡ true → nodes_name (Node y) f.nodes ≡ true
  pub label : names_label m.op ≡ true → Stands f m

-- what may be written there may be put there, by the ranks that there are
pub placed : (f : FlowBlock) (j : ℕ) (n m : FlowNode) → slice_get f.nodes j ≡ Some n → Written f j n m
    → Placed f j n m
placed f j n m there w = record {
  fits = w.fits;
  orders = λ rank o. record { rank = rank; order = o; rises = w.rises rank o };
  load = w.load;
  store = w.store;
  silent = w.silent;
  operands = w.operands;
  guards = w.guards;
  reads = λ r t. named_at (Read r) (slice_set f.nodes j m) j m (set_here f.nodes j n m there) (w.reads r t);
  names = λ y x e s t. w.names y t;
  label = w.label;
}

-- A block without a node that nothing names may stand for the block, whatever its labels become.
use Rattle.std.proofs.Common.{◌≡◌, ℕ, suc, List, [], ◌∷◌, refl, sym, ap, subst, ◌∙◌, nat_eq, Bool, true}
use Rattle.std.proofs.Common.{false, cond}
use Rattle.std.proofs.Common.{◌||◌, map}
use Rattle.std.specs.Prelude.{Some, None, Option, slice_get, option_map}
use Rattle.std.proofs.lemmas.Option.{slice_get-map}
use Rattle.ir_forms.specs.declared.flow.FlowSource.{FlowSource}
use Rattle.ir_forms.specs.declared.flow.FlowSource.TheVariants.{Node}
use Rattle.ir_forms.specs.declared.flow.FlowNode.{FlowNode}
use Rattle.ir_forms.specs.declared.flow.FlowBlock.{FlowBlock}
use Rattle.ir_forms.specs.inside.FlowFits.{IsComplete}
use Rattle.ir_forms.specs.inside.FlowRegular.{is_among, guards_by, nodes_name, writes_name, is_named}
use Rattle.hyper_narrow.specs.inside.NarrowedMeaning.{MeansNarrowed}
use Rattle.flow_fold.specs.inside.Replaces.{Immediates, with_immediate, with_immediates, Replaces}
use Rattle.flow_fold.specs.inside.Sweeps.{lower_node, left_nodes, without, is_idle, may_go, takes_all, Sweeps}
use Rattle.flow_fold.proofs.Stayed.{before, regular_kept}
use Rattle.flow_fold.proofs.SweptBlocks.{complete_kept, means_kept}

-- the node that goes
record Going (f : FlowBlock) (k : ℕ) : Type 0 where
  node : FlowNode
  there : slice_get f.nodes k ≡ Some node
  idle : is_idle node.op ≡ true

going : (f : FlowBlock) (k : ℕ) → may_go (slice_get f.nodes k) ≡ true → Going f k
going f k e = at (slice_get f.nodes k) refl e
  where
    at : (o : Option FlowNode) → slice_get f.nodes k ≡ o → may_go o ≡ true → Going f k
    at None t e = absurd (cc)
    at (Some n) t e = record { node = n; there = t; idle = e }

module _ (r : Immediates) where
  abbrev new : FlowNode → FlowNode
  new = with_immediate r

  -- names do not hang on immediates
  names_same : (s : FlowSource) (ns : List FlowNode) → nodes_name s (map new ns) ≡ nodes_name s ns
  names_same s [] = refl
  names_same s (n ∷ ns) =
      ap (λ (b : Bool). is_among s n.left || (is_among s n.right || (guards_by s n.guard || b))) (names_same s ns)

  -- nor does what stays
  left_same : (k : ℕ) (ns : List FlowNode) (j : ℕ) → left_nodes k j (map new ns) ≡ map new (left_nodes k j ns)
  left_same k [] j = refl
  left_same k (n ∷ ns) j = go (left_same k ns (suc j)) (nat_eq j k)
    where
      go : left_nodes k (suc j) (map new ns) ≡ map new (left_nodes k (suc j) ns) → (b : Bool)
          → cond b (left_nodes k (suc j) (map new ns)) (lower_node k (new n) ∷ left_nodes k (suc j) (map new ns))
          ≡ map new (cond b (left_nodes k (suc j) ns) (lower_node k n ∷ left_nodes k (suc j) ns))
      go rest true = rest
      go rest false = ap (λ (l : List FlowNode). new (lower_node k n) ∷ l) rest

module _ (f : FlowBlock) (k : ℕ) (s : Going f k) (unnamed : is_named f (Node k) ≡ false) where
  abbrev g : FlowBlock
  g = without k f

  module _ (r : Immediates) where
    abbrev ff : FlowBlock
    ff = with_immediates r f

    there_too : slice_get ff.nodes k ≡ Some (with_immediate r s.node)
    there_too = slice_get-map (with_immediate r) f.nodes k ∙ ap (option_map (with_immediate r)) s.there

    unnamed_too : is_named ff (Node k) ≡ false
    unnamed_too = ap (λ (b : Bool). b || writes_name (Node k) f.writes) (names_same r (Node k) f.nodes) ∙ unnamed

    same : without k ff ≡ with_immediates r g
    same = ap (λ (ns : List FlowNode). record g { nodes = ns }) (left_same r k f.nodes 0)

    complete_too : IsComplete ff → IsComplete (with_immediates r g)
    complete_too c = subst (λ (b : FlowBlock). IsComplete b) same
        (complete_kept ff k (with_immediate r s.node) there_too s.idle unnamed_too c)

  stands_for : takes_all g f.reads ≡ true → Replaces f g
  stands_for taken = record {
    regular = λ r own t. regular_kept f k s.node s.there s.idle unnamed t.regular taken;
    complete = λ r own t. complete_too r t.complete;
    means = λ r own t at b x. subst (λ (z : FlowBlock). MeansNarrowed at b z) (same r)
        (means_kept (ff r) k (with_immediate r s.node) (there_too r) s.idle (unnamed_too r) at b x);
    labels = λ y x e t.
        let b = before f k s.node s.there s.idle unnamed y x e in
        record {
          place = b.place;
          node = b.node;
          there = b.is;
          op = ap (λ (z : FlowNode). z.op) b.same;
          imm = ap (λ (z : FlowNode). z.imm) b.same;
        };
  }

-- a block without a node that nothing names may stand for the block
pub sweeping_stands : (f g : FlowBlock) → Sweeps f g → Replaces f g
sweeping_stands f g s = subst (λ (z : FlowBlock). Replaces f z) (sym s.becomes)
    (stands_for f s.place (going f s.place s.idle) s.unnamed
    (subst (λ (z : FlowBlock). takes_all z f.reads ≡ true) s.becomes s.taken))

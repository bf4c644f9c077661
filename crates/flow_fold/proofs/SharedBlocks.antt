-- A block one of whose nodes copies its twin may stand for the block, whatever its labels become.
use Rattle.std.proofs.Common.{◌≡◌, ◌≢◌, ℕ, List, sym, ap, ap₂, subst, ◌∙◌, arith}
use Rattle.std.specs.Prelude.{ℤ, pos, Some, slice_get, option_map}
use Rattle.std.proofs.lemmas.List.{map-set}
use Rattle.std.proofs.lemmas.Option.{slice_get-map}
use Rattle.trips_isa.specs.declared.op.Op.TheVariants.{Mov}
use Rattle.ir_forms.specs.declared.flow.FlowNode.{FlowNode}
use Rattle.ir_forms.specs.declared.flow.FlowBlock.{FlowBlock}
use Rattle.ir_forms.specs.inside.FlowFits.{IsComplete}
use Rattle.hyper_narrow.specs.inside.NarrowedMeaning.{MeansNarrowed}
use Rattle.flow_fold.specs.inside.Folds.{with_node}
use Rattle.flow_fold.specs.inside.Shares.{Twins, copy_of, Shares}
use Rattle.flow_fold.specs.inside.Replaces.{Immediates, with_immediate, with_immediates, LeavesOwn, Replaces}
use Rattle.flow_fold.proofs.Replacing.{regular_placed, complete_placed, means_placed, labels_placed}
use Rattle.flow_fold.proofs.TwinCopies.{copy_placed, copy_works}

module _ (f : FlowBlock) (i j : ℕ) (a n : FlowNode) (standing : slice_get f.nodes i ≡ Some a)
    (there : slice_get f.nodes j ≡ Some n) (apart : i ≢ j) (twins : Twins a n) where
  abbrev g : FlowBlock
  g = with_node f j (copy_of i n)

  module _ (r : Immediates) (own : LeavesOwn r) where
    abbrev new : FlowNode → FlowNode
    new = with_immediate r

    abbrev ff : FlowBlock
    ff = with_immediates r f

    standing_too : slice_get ff.nodes i ≡ Some (new a)
    standing_too = slice_get-map new f.nodes i ∙ ap (option_map new) standing

    there_too : slice_get ff.nodes j ≡ Some (new n)
    there_too = slice_get-map new f.nodes j ∙ ap (option_map new) there

    -- nodes of one immediate get one new immediate
    twins_too : Twins (new a) (new n)
    twins_too = record {
      op = twins.op;
      imm = ap₂ r twins.op twins.imm;
      guard = twins.guard;
      left = twins.left;
      right = twins.right;
      form = twins.form;
    }

    -- and a copy has none
    copy_too : copy_of i (new n) ≡ new (copy_of i n)
    copy_too = ap (λ (z : ℤ). record (copy_of i n) { imm = z }) (sym (own Mov (pos 0) (omega arith)))

    same : with_node ff j (copy_of i (new n)) ≡ with_immediates r g
    same =
        ap (λ (x : FlowNode). with_node ff j x) copy_too
        ∙ ap (λ (ns : List FlowNode). record f { nodes = ns }) (sym (map-set new f.nodes j (copy_of i n)))

  stands_for : Replaces f g
  stands_for = record {
    regular = λ r own t. regular_placed f j n (copy_of i n) there
        (copy_placed f i j a n standing there apart twins) t.regular;
    complete = λ r own t.
        subst (λ (b : FlowBlock). IsComplete b) (same r own)
        (complete_placed (ff r own) j (new r own n) (copy_of i (new r own n)) (there_too r own)
        (copy_placed (ff r own) i j (new r own a) (new r own n) (standing_too r own) (there_too r own) apart
        (twins_too r own))
        (copy_works (ff r own) i j (new r own a) (new r own n) (standing_too r own) (there_too r own) apart
        (twins_too r own))
        t.complete);
    means = λ r own t at b x.
        subst (λ (z : FlowBlock). MeansNarrowed at b z) (same r own)
        (means_placed (ff r own) j (new r own n) (copy_of i (new r own n)) (there_too r own)
        (copy_placed (ff r own) i j (new r own a) (new r own n) (standing_too r own) (there_too r own) apart
        (twins_too r own))
        (copy_works (ff r own) i j (new r own a) (new r own n) (standing_too r own) (there_too r own) apart
        (twins_too r own))
        at b x);
    labels = λ y x e t. labels_placed f j n (copy_of i n) there
        (copy_placed f i j a n standing there apart twins) y x e t;
  }

-- a block with a copy in the place of a node that has a twin may stand for the block
pub sharing_stands : (f g : FlowBlock) → Shares f g → Replaces f g
sharing_stands f g s = subst (λ (z : FlowBlock). Replaces f z) (sym s.becomes)
    (stands_for f s.other s.place s.twin s.node s.standing s.there s.apart s.twins)

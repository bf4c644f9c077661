-- A block one of whose nodes adds to what another gives may stand for the block, whatever its labels become.
use Rattle.std.proofs.Common.{◌≡◌, ◌≢◌, ℕ, List, true, sym, ap, subst, ◌∙◌}
use Rattle.std.specs.Prelude.{ℤ, Some, slice_get, option_map}
use Rattle.std.proofs.lemmas.List.{map-set}
use Rattle.std.proofs.lemmas.Option.{slice_get-map}
use Rattle.trips_isa.specs.declared.op.Op.TheVariants.{Addi}
use Rattle.ir_forms.specs.declared.flow.FlowNode.{FlowNode}
use Rattle.ir_forms.specs.declared.flow.FlowBlock.{FlowBlock}
use Rattle.ir_forms.specs.inside.FlowFits.{IsComplete}
use Rattle.ir_forms.specs.inside.HyperRuns.{Layout}
use Rattle.hyper_narrow.specs.inside.NarrowedCode.{Narrowed}
use Rattle.hyper_narrow.specs.inside.NarrowedMeaning.{MeansNarrowed}
use Rattle.flow_fold.specs.inside.Copies.{covers}
use Rattle.flow_fold.specs.inside.Folds.{with_node}
use Rattle.flow_fold.specs.inside.Replaces.{Immediates, with_immediate, with_immediates, LeavesOwn, Replaces}
use Rattle.flow_fold.specs.inside.Strides.{sum_on, Strides}
use Rattle.flow_fold.proofs.ConstantFacts.{small_own}
use Rattle.flow_fold.proofs.Replacing.{regular_placed, complete_placed, means_placed, labels_placed, works_does}
use Rattle.flow_fold.proofs.StrideFacts.{Leads, leads, leads_kept, lead_small}
use Rattle.flow_fold.proofs.StridePlaces.{sum_placed}
use Rattle.flow_fold.proofs.StrideRules.{sum_works}

module _ (f : FlowBlock) (i j k : ℕ) (a c n : FlowNode) (b : ℤ) (standing : slice_get f.nodes i ≡ Some a)
    (there : slice_get f.nodes j ≡ Some n) (between : slice_get f.nodes k ≡ Some c) (apart : i ≢ j) (aside : k ≢ j)
    (base_guard : covers a.guard n.guard ≡ true) (step_guard : covers c.guard n.guard ≡ true)
    (ahead : Leads f.nodes k c a n b) where
  abbrev g : FlowBlock
  g = with_node f j (sum_on i n b)

  module _ (r : Immediates) (own : LeavesOwn r) where
    abbrev new : FlowNode → FlowNode
    new = with_immediate r

    abbrev ff : FlowBlock
    ff = with_immediates r f

    there_too : (y : ℕ) (x : FlowNode) → slice_get f.nodes y ≡ Some x → slice_get ff.nodes y ≡ Some (new x)
    there_too y x e = slice_get-map new f.nodes y ∙ ap (option_map new) e

    -- a small number stays
    sum_too : sum_on i (new n) b ≡ new (sum_on i n b)
    sum_too =
        ap (λ (z : ℤ). record (sum_on i n b) { imm = z })
        (sym (own Addi b (small_own b (lead_small f.nodes k c a n b ahead))))

    same : with_node ff j (sum_on i (new n) b) ≡ with_immediates r g
    same =
        ap (λ (x : FlowNode). with_node ff j x) sum_too
        ∙ ap (λ (ns : List FlowNode). record f { nodes = ns }) (sym (map-set new f.nodes j (sum_on i n b)))

    complete : IsComplete ff → IsComplete (with_immediates r g)
    complete x =
        subst (λ (z : FlowBlock). IsComplete z) same
        (complete_placed ff j (new n) (sum_on i (new n) b) (there_too j n there)
        (sum_placed ff i j k (new a) (new c) (new n) b (there_too i a standing) (there_too j n there)
        (there_too k c between) apart aside base_guard step_guard (leads_kept r own f.nodes k c a n b ahead))
        (works_does ff j (new n) (sum_on i (new n) b) (there_too j n there)
        (sum_works ff i j k (new a) (new c) (new n) b (there_too i a standing) (there_too j n there)
        (there_too k c between) apart aside base_guard step_guard (leads_kept r own f.nodes k c a n b ahead)))
        x)

    means : (at : Layout) (o : Narrowed) → MeansNarrowed at o ff → MeansNarrowed at o (with_immediates r g)
    means at o x =
        subst (λ (z : FlowBlock). MeansNarrowed at o z) same
        (means_placed ff j (new n) (sum_on i (new n) b) (there_too j n there)
        (sum_placed ff i j k (new a) (new c) (new n) b (there_too i a standing) (there_too j n there)
        (there_too k c between) apart aside base_guard step_guard (leads_kept r own f.nodes k c a n b ahead))
        (works_does ff j (new n) (sum_on i (new n) b) (there_too j n there)
        (sum_works ff i j k (new a) (new c) (new n) b (there_too i a standing) (there_too j n there)
        (there_too k c between) apart aside base_guard step_guard (leads_kept r own f.nodes k c a n b ahead)))
        at o x)

  stands_for : Replaces f g
  stands_for = record {
    regular = λ r own t. regular_placed f j n (sum_on i n b) there
        (sum_placed f i j k a c n b standing there between apart aside base_guard step_guard ahead) t.regular;
    complete = λ r own t. complete r own t.complete;
    means = λ r own t at o x. means r own at o x;
    labels = λ y x e t. labels_placed f j n (sum_on i n b) there
        (sum_placed f i j k a c n b standing there between apart aside base_guard step_guard ahead) y x e t;
  }

-- a block with such a sum in the place of a node may stand for the block
pub striding_stands : (f g : FlowBlock) → Strides f g → Replaces f g
striding_stands f g s = subst (λ (z : FlowBlock). Replaces f z) (sym s.becomes)
    (stands_for f s.other s.place s.middle s.base s.step s.node s.number s.standing s.there s.between s.apart s.aside
    s.base_guard s.step_guard (leads f.nodes s.middle s.step s.base s.node s.number s.ahead))

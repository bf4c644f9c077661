-- The flow block of a narrowed block, and one that stands for it, once labels are addresses.
use Rattle.std.proofs.Common.{◌≡◌, ℕ, suc, true, List, [], ◌∷◌, Some, slice_get, refl, sym, ap, subst, ◌∙◌}
use Rattle.std.specs.List.{All}
use Rattle.std.specs.Prelude.{ℤ}
use Rattle.std.proofs.lemmas.Option.{slice_get_within, get_or_from_slice_get}
use Rattle.trips_isa.specs.declared.form.Form.{Form}
use Rattle.trips_isa.specs.declared.form.Form.TheVariants.{Store}
use Rattle.trips_isa.specs.declared.op.Op.{Op}
use Rattle.trips_isa.specs.declared.op.Op.TheVariants.{Bro, Callo}
use Rattle.trips_isa.specs.Forms.{form_of}
use Rattle.ir_forms.specs.declared.flow.FlowNode.{FlowNode}
use Rattle.ir_forms.specs.declared.flow.FlowBlock.{FlowBlock}
use Rattle.ir_forms.specs.inside.FlowFits.{in_mask, IsComplete}
use Rattle.ir_forms.specs.inside.FlowRegular.{IsRegular}
use Rattle.ir_forms.specs.inside.HyperFits.{FitsHyper, AllLeadOn}
use Rattle.ir_forms.specs.inside.HyperRuns.{Layout}
use Rattle.hyper_narrow.specs.inside.NarrowedCode.{Narrowed}
use Rattle.hyper_narrow.specs.inside.NarrowedMeaning.{MeansNarrowed}
use Rattle.predication.specs.inside.Labels as labels
use Rattle.predication.specs.inside.Tails.{addressed, labelled}
use Rattle.predication.specs.inside.Converted.{predicated}
use Rattle.predication.specs.inside.Laws.{HasShortAddresses, IsTaken}
use Rattle.predication.specs.inside.Laws as convert
use Rattle.predication.proofs.Addressed.{converts_meaning, takes_addressed}
use Rattle.predication.proofs.Fits.{converts_fitting}
use Rattle.predication.proofs.Regular.{converts_regular}
use Rattle.predication.proofs.Resolved.{resolves_labels}
use Rattle.null_outputs.specs.inside.Laws.{MaskedIn, EachMasked}
use Rattle.null_outputs.specs.inside.Laws as null_outputs
use Rattle.null_outputs.specs.inside.Wants.{complete}
use Rattle.null_outputs.proofs.Completeness.{is_complete, means_block}
use Rattle.null_outputs.proofs.Regular.{stays_regular}
use Rattle.flow_ease.specs.inside.Eases.{Eases, Stands, Takes, names_label}
use Rattle.c_compile_layout.specs.inside.Linking.{Resolves, resolved, by_address}
use Rattle.c_compile_layout.specs.inside.Emitted.{LabelBelow}
use Rattle.c_compile_layout.proofs.Regularity.{regular_before}
use Rattle.c_compile_blocks.specs.inside.Blocks.{flow_of}
use Rattle.c_compile_blocks.proofs.BranchLabels.{labels_below}
use Rattle.c_compile_blocks.proofs.Resolving.{resolved_same, completed_resolved, completed_below, all_by_index}

-- STORES

masked_in : (b : FlowBlock) (n : FlowNode) (x : Form) → (x ≡ Store → in_mask b.mask n.number ≡ true)
    → MaskedIn x b n
masked_in b n Store h = h refl
masked_in b n _ h = tt

-- the stores of a regular block have numbers of the mask
each_masked : (b : FlowBlock) (ns : List FlowNode)
    → ((j : ℕ) (n : FlowNode) → slice_get ns j ≡ Some n → form_of n.op ≡ Store
    → in_mask b.mask n.number ≡ true)
    → EachMasked b ns
each_masked b [] h = tt
each_masked b (n ∷ ns) h =
    (masked_in b n (form_of n.op) (h 0 n refl), each_masked b ns (λ j m e s. h (suc j) m e s))

-- LABELS

-- what holds of all items holds of the one at a place
pub all_at : {A : Type 0} (P : A → Type 0) (xs : List A) (k : ℕ) (x : A) → All P xs → slice_get xs k ≡ Some x → P x
all_at P xs k x h e = subst P (get_or_from_slice_get xs k x x e) (h k x (slice_get_within xs k x e))

-- where those that name a label name a low one, all do
if_named : (n : ℕ) (o : Op) (imm : ℤ) → (names_label o ≡ true → LabelBelow n o imm) → LabelBelow n o imm
if_named n Bro imm h = h refl
if_named n Callo imm h = h refl
if_named n _ imm h = tt

-- a node that stands in a block whose labels are low has a low one
stood : (n : ℕ) (f : FlowBlock) (x : FlowNode) → All (λ (y : FlowNode). LabelBelow n y.op y.imm) f.nodes → Stands f x
    → LabelBelow n x.op x.imm
stood n f x low s =
    let first : LabelBelow n s.node.op s.node.imm =
    all_at (λ (y : FlowNode). LabelBelow n y.op y.imm) f.nodes s.place s.node low s.there in
    let second : LabelBelow n x.op s.node.imm = subst (λ (o : Op). LabelBelow n o s.node.imm) s.op first in
    subst (λ (i : ℤ). LabelBelow n x.op i) s.imm second

-- THE FLOW BLOCK

module _ (at : Layout) (short : HasShortAddresses at) (b : Narrowed) (numbers : convert.HasRoom b.block)
    (fits : FitsHyper b.block) where
  -- with addresses in the place of labels
  abbrev after : FlowBlock
  after = predicated (addressed at b)

  abbrev names : Resolves
  names = by_address at.address

  -- the completed block, once its labels are resolved, is the completed block with addresses
  same : resolved names (flow_of b) ≡ complete after
  same =
      completed_resolved at.address (predicated (labelled b))
      ∙ ap complete (resolved_same at.address (predicated (labelled b))
      ∙ resolves_labels at b short fits)

  taken : IsTaken (addressed at b).block
  taken = takes_addressed at b.block short fits numbers

  regular : IsRegular after
  regular = converts_regular (addressed at b) taken.fits taken.room

  takes : null_outputs.Takes after
  takes = record {
    fits = converts_fitting (addressed at b) taken.fits taken.room;
    masked = each_masked after after.nodes regular.masked;
  }

  -- so a pass may take it
  flow_takes : Takes at.address (flow_of b)
  flow_takes = record {
    complete = subst (λ (f : FlowBlock). IsComplete f) (resolved_same at.address (flow_of b))
        (subst (λ (f : FlowBlock). IsComplete f) (sym same) (is_complete after takes.fits takes.masked));
    regular = regular_before names (flow_of b)
        (subst (λ (f : FlowBlock). IsRegular f) (sym same) (stays_regular after takes.fits regular));
  }

  flow_means : MeansNarrowed at b (labels.resolved at.address (flow_of b))
  flow_means =
      subst (λ (f : FlowBlock). MeansNarrowed at b f) (resolved_same at.address (flow_of b))
      (subst (λ (f : FlowBlock). MeansNarrowed at b f) (sym same)
      (means_block at b after takes.fits takes.masked (converts_meaning at b short fits numbers)))

  module _ (f : FlowBlock) (eases : Eases (flow_of b) f) where
    -- what stands for it is complete with addresses
    pub eased_complete : IsComplete (resolved names f)
    eased_complete =
        subst (λ (g : FlowBlock). IsComplete g) (sym (resolved_same at.address f))
        (eases.complete at.address flow_takes)

    -- is regular
    pub eased_regular : IsRegular f
    eased_regular = eases.regular at.address flow_takes

    -- and means the narrowed block
    pub eased_means : MeansNarrowed at b (resolved names f)
    eased_means =
        subst (λ (g : FlowBlock). MeansNarrowed at b g) (sym (resolved_same at.address f))
        (eases.means at b flow_takes flow_means)

-- and its branches lead to blocks
pub eased_labels : (n k : ℕ) (b : Narrowed) → FitsHyper b.block → AllLeadOn k n b.block.tail → (f : FlowBlock)
    → Eases (flow_of b) f → All (λ (x : FlowNode). LabelBelow n x.op x.imm) f.nodes
eased_labels n k b fits leads f eases =
    all_by_index (λ (x : FlowNode). LabelBelow n x.op x.imm) f.nodes (λ j x e.
    if_named n x.op x.imm (λ l.
    stood n (flow_of b) x (completed_below n (predicated (labelled b)) (labels_below n k b fits leads))
    (eases.labels j x e l)))

-- Blocks that passed, whatever the number of their cases: their image fits, and where each of its blocks is
-- good they are machine blocks.
use Rattle.std.proofs.Common.{◌≡◌, ℕ, zero, suc, ◌+◌, ◌*◌, ◌<◌, ◌≤◌, Bool, List, [], ◌∷◌, map, length, Some}
use Rattle.std.proofs.Common.{slice_get, refl, sym, ap, ap₂, subst, ◌∙◌, arith}
use Rattle.std.specs.List.{All, sum_by}
use Rattle.std.proofs.lemmas.List.Sums.{sum_by-cons}
use Rattle.std.proofs.lemmas.Option.{slice_get_within}
use Rattle.trips_isa.specs.declared.block.Block.{Block}
use Rattle.trips_isa.specs.Fits.{FitsBlock}
use Rattle.trips_isa.specs.Images.{chunks, chunk_of, FitsImage}
use Rattle.trips_isa.specs.Places.{nodes_of}
use Rattle.trips_isa.specs.Stores.{data_size}
use Rattle.block_cases.specs.Cases.{cases}
use Rattle.block_cases.specs.Good.{GoodBlock}
use Rattle.ir_forms.specs.declared.flow.FlowNode.{FlowNode}
use Rattle.ir_forms.specs.declared.flow.FlowBlock.{FlowBlock}
use Rattle.ir_forms.specs.inside.FlowFits.{IsComplete}
use Rattle.ir_forms.specs.inside.FlowRegular.{IsRegular}
use Rattle.ir_forms.specs.inside.HyperFits.{FitsHyper, AllLeadOn}
use Rattle.ir_forms.specs.inside.HyperWords.{AreBytes}
use Rattle.hyper_narrow.specs.inside.NarrowedCode.{Narrowed}
use Rattle.fan_out.specs.inside.Targeted.{IsTargeted}
use Rattle.fan_out.proofs.Given.{given}
use Rattle.fan_out.proofs.Totals.{Given}
use Rattle.fan_out.proofs.Ordering.{fits_block}
use Rattle.grid_place.specs.declared.placed.Placing.{Placing}
use Rattle.grid_place.specs.Moves.{Permutes, goes}
use Rattle.grid_place.specs.inside.Moves.{IsMoved}
use Rattle.grid_place.proofs.StillFits.{still_fits}
use Rattle.grid_place.proofs.StillInOrder.{still_good}
use Rattle.c_compile_layout.specs.inside.Linking.{Resolves, resolved_node, resolved, resolved_block, by_offset}
use Rattle.c_compile_layout.specs.inside.Linking.{by_address}
use Rattle.c_compile_layout.specs.inside.Linking.{by_both, linked_from}
use Rattle.c_compile_layout.specs.inside.Layouts.{laid_out, linked, AreFew}
use Rattle.c_compile_layout.specs.inside.Emitted.{image_of, LabelBelow}
use Rattle.c_compile_layout.proofs.UncheckedRuns.{trimmed_bytes, trimmed_length, trimmed_last}
use Rattle.hyper_narrow.proofs.BareBlocks.{leads_there}
use Rattle.c_compile_layout.proofs.Faithful.{has_places}
use Rattle.c_compile_layout.proofs.Fields.{forms_fit, labels_named}
use Rattle.c_compile_layout.proofs.Fitting.{complete_resolved}
use Rattle.c_compile_layout.proofs.Linked.{chunks_same, came, moved_resolved, nodes_same}
use Rattle.c_compile_layout.proofs.Regularity.{regular_resolved}
use Rattle.c_compile_layout.proofs.Sums.{few_chunks}
use Rattle.c_compile_layout.proofs.Targets.{targeted_resolved, room_resolved}
use Rattle.c_compile_blocks.specs.inside.Blocks.{IsPassed, ArePassed, AreMachineBlocks, FitsPasses}
use Rattle.c_compile_blocks.proofs.Emitted.{made_from}
use Rattle.c_compile_blocks.proofs.EasedFlows.{all_at, eased_complete, eased_regular, eased_labels}
use Rattle.c_compile_blocks.proofs.Resolving.{all_by_index}
use Rattle.c_compile_blocks.specs.inside.Checked.{CheckedImagesAreOfMachineBlocks}
use Rattle.c_compile_blocks.proofs.MovedBack.{turned, moved_back}

-- OFFSETS AND ADDRESSES

twice : (chunk : ℕ → ℕ) (k : ℕ) (ns : List FlowNode)
    → map (resolved_node (by_offset chunk k)) (map (resolved_node (by_address (λ l. 128 * chunk l))) ns)
    ≡ map (resolved_node (by_both chunk k)) ns
twice chunk k [] = refl
twice chunk k (n ∷ ns) = ap (λ x. resolved_node (by_both chunk k) n ∷ x) (twice chunk k ns)

-- addresses and then offsets are both
both_are : (chunk : ℕ → ℕ) (k : ℕ) (f : FlowBlock)
    → resolved (by_offset chunk k) (resolved (by_address (λ l. 128 * chunk l)) f)
    ≡ resolved (by_both chunk k) f
both_are chunk k f = ap (λ ns. record f { nodes = ns }) (twice chunk k f.nodes)

-- A BLOCK

module _ (us : List Block) (few : AreFew us) (k : ℕ) (low : k < length us) (pl : Placing)
    (b : Narrowed) (u : Block) (t : Bool) (m : IsPassed t pl b u) (fits : FitsHyper b.block)
    (leads : AllLeadOn k (length us) b.block.tail) where
  -- where each slot goes, and back
  abbrev p : ℕ → ℕ
  p = goes m.placed.to

  abbrev q : ℕ → ℕ
  q = m.placed.permutes.back

  permutes : Permutes p q
  permutes = m.placed.permutes.permutes

  abbrev named : Resolves
  named = by_address (laid_out us).address

  abbrev both : Resolves
  both = by_both (chunk_of us) k

  whole_named : IsComplete (resolved named m.flow)
  whole_named = eased_complete (laid_out us) (has_places us few).low b m.numbers fits m.flow m.stands.eases

  regular_flow : IsRegular m.flow
  regular_flow = eased_regular (laid_out us) (has_places us few).low b m.numbers fits m.flow m.stands.eases

  labels : All (λ (x : FlowNode). LabelBelow (length us) x.op x.imm) m.flow.nodes
  labels = eased_labels (length us) k b fits leads m.flow m.stands.eases

  abbrev linked_flow : FlowBlock
  linked_flow = resolved both m.flow

  -- the flow block is complete once all is resolved
  whole : IsComplete linked_flow
  whole = subst (λ (f : FlowBlock). IsComplete f) (both_are (chunk_of us) k m.flow)
      (complete_resolved (by_offset (chunk_of us) k) (resolved named m.flow) whole_named
      (forms_fit us k few low (resolved named m.flow) whole_named.fits
      (labels_named (laid_out us).address (length us) m.flow.nodes labels)))

  is : IsTargeted linked_flow (resolved_block both m.target)
  is = targeted_resolved both refl m.flow m.target m.targeted

  all : Given linked_flow
  all = given linked_flow whole.fits (regular_resolved both m.flow regular_flow)
      (room_resolved both refl m.flow m.room)

  fits_target : FitsBlock (resolved_block both m.target)
  fits_target = fits_block linked_flow all (resolved_block both m.target) is

  moved : IsMoved p (resolved_block both m.target) (resolved_block both u)
  moved = moved_resolved both p m.target u m.placed.moved

  pub fits_there : FitsBlock (resolved_block both u)
  fits_there = still_fits p q (resolved_block both m.target) (resolved_block both u) fits_target permutes moved

  -- a good block has few cases, and as many before it was moved
  pub few_cases : GoodBlock (resolved_block both u) → cases (nodes_of m.target) ≤ 256
  few_cases good =
      let back : GoodBlock (resolved_block both m.target) =
      still_good q p (resolved_block both u) (resolved_block both m.target) fits_there good
      (turned p q permutes)
      (moved_back p q permutes (resolved_block both m.target) (resolved_block both u) moved fits_target.insts) in
      subst (λ ns. cases ns ≤ 256) (nodes_same both m.target) (back.good).few

-- ALL BLOCKS

module _ (chunk : ℕ → ℕ) where
  length_same : (k : ℕ) (ts : List Block) → length (linked_from chunk k ts) ≡ length ts
  length_same k [] = refl
  length_same k (t ∷ ts) = ap suc (length_same (suc k) ts)

  sum_same : (k : ℕ) (ts : List Block) → sum_by chunks (linked_from chunk k ts) ≡ sum_by chunks ts
  sum_same k [] = refl
  sum_same k (t ∷ ts) =
      sum_by-cons chunks (resolved_block (by_both chunk k) t) (linked_from chunk (suc k) ts)
      ∙ ap₂ (λ a b. a + b) (chunks_same (by_both chunk k) t) (sum_same (suc k) ts)
      ∙ sym (sum_by-cons chunks t ts)

  -- a block where the labels of all are resolved
  linked_at : (k i : ℕ) (ts : List Block) (t : Block) → slice_get ts i ≡ Some t
      → slice_get (linked_from chunk k ts) i ≡ Some (resolved_block (by_both chunk (k + i)) t)
  linked_at k i [] t e = absurd (cc)
  linked_at k zero (x ∷ ts) t e =
      let z : k ≡ k + 0 = omega arith in
      let same : x ≡ t = cc in
      ap₂ (λ (n : ℕ) (y : Block). Some (resolved_block (by_both chunk n) y)) z same
  linked_at k (suc i) (x ∷ ts) t e =
      let z : suc k + i ≡ k + suc i = omega arith in
      linked_at (suc k) i ts t e ∙ ap (λ (n : ℕ). Some (resolved_block (by_both chunk n) t)) z

module _ (B : List Narrowed) (us : List Block) (t : Bool) (p : Placing) (fits : FitsPasses B)
    (passed : ArePassed t p B us) where
  -- each has 128 slots
  pub sizes : All (λ (u : Block). length u.insts.items ≡ 128) us
  sizes = all_by_index (λ (u : Block). length u.insts.items ≡ 128) us (λ k u e.
      let f = made_from B us k u passed.size e in (passed.each k f.block u f.there e).placed.moved.size)

  pub at_most_128 : All (λ (u : Block). length u.insts.items ≤ 128) us
  at_most_128 = λ i d l. let e = sizes i d l in omega (arith, e)

  pub few : AreFew us
  few =
      let n = passed.size in
      let l = fits.few in
      few_chunks us (omega (arith, n, l)) sizes

  leads : (k : ℕ) (b : Narrowed) → slice_get B k ≡ Some b → AllLeadOn k (length us) b.block.tail
  leads k b e =
      subst (λ (m : ℕ). AllLeadOn k m b.block.tail) (sym passed.size) (leads_there B fits.followed k b e)

  each_fits : (k : ℕ) (x : Block) → slice_get (linked us) k ≡ Some x → FitsBlock x
  each_fits k x e =
      let c = came (chunk_of us) 0 us k x e in
      let z : 0 + k ≡ k = omega arith in
      let is : resolved_block (by_both (chunk_of us) k) c.block ≡ x =
      ap (λ (n : ℕ). resolved_block (by_both (chunk_of us) n) c.block) (sym z) ∙ c.is in
      let f = made_from B us k c.block passed.size c.there in
      subst FitsBlock is
      (fits_there us few k (slice_get_within us k c.block c.there) p f.block c.block t
      (passed.each k f.block c.block f.there c.there) (fits.fit k f.block f.there) (leads k f.block f.there))

  -- their image fits
  pub fits_image : (bytes : List ℕ) → AreBytes bytes → length bytes ≤ data_size → FitsImage (image_of us bytes)
  fits_image bytes a l = record {
    some =
        let s = fits.some in
        let e = passed.size in
        let n = length_same (chunk_of us) 0 us in
        omega (arith, s, e, n);
    each = all_by_index FitsBlock (linked us) each_fits;
    total = let f = few in let s = sum_same (chunk_of us) 0 us in omega (arith, f, s);
    few = let t = trimmed_length bytes in omega (arith, t, l);
    bytes = trimmed_bytes bytes a;
    last = trimmed_last bytes;
  }

  -- and where each of its blocks is good, they are machine blocks
  pub are_machine_blocks : (bytes : List ℕ) → All GoodBlock (image_of us bytes).blocks → AreMachineBlocks p B us
  are_machine_blocks bytes good = record {
    size = passed.size;
    each = λ k b u is_b is_u.
        let it = passed.each k b u is_b is_u in
        let z : 0 + k ≡ k = omega arith in
        let g : GoodBlock (resolved_block (by_both (chunk_of us) k) u) =
        subst (λ (n : ℕ). GoodBlock (resolved_block (by_both (chunk_of us) n) u)) z
        (all_at GoodBlock (linked us) k (resolved_block (by_both (chunk_of us) (0 + k)) u) good
        (linked_at (chunk_of us) 0 k us u is_u)) in
        record {
          numbers = it.numbers;
          flow = it.flow;
          stands = it.stands;
          room = it.room;
          target = it.target;
          targeted = it.targeted;
          cases = few_cases us few k (slice_get_within us k u is_u) p b u t it (fits.fit k b is_b)
              (leads k b is_b) g;
          placed = it.placed;
        };
  }

-- where each block of an image that the passes made is good, its blocks are machine blocks
pub are_checked : CheckedImagesAreOfMachineBlocks
are_checked t p B us bytes fits all a l = record {
  sizes = at_most_128 B us t p fits all;
  few = few B us t p fits all;
  fits = fits_image B us t p fits all bytes a l;
  machine = are_machine_blocks B us t p fits all bytes;
}

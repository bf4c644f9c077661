-- Small blocks without if-items whose test leads to two jumps, and those of a save group, fit the machine, and no
-- null has to be added to them.
use Rattle.std.proofs.Common.{◌≡◌, ◌⊎◌, ℕ, ◌+◌, ◌≤◌, true, refl, sym, ap, subst, arith}
use Rattle.trips_isa.specs.declared.block.Block.{Block as MachineBlock}
use Rattle.trips_isa.specs.Places.{nodes_of}
use Rattle.block_cases.specs.Cases.{cases}
use Rattle.ir_forms.specs.declared.flow.FlowBlock.{FlowBlock}
use Rattle.hyper_narrow.specs.inside.NarrowedCode.{Narrowed}
use Rattle.ir_forms.specs.inside.HyperFits.{FitsHyper}
use Rattle.hyper_build.specs.inside.Smallness.{IsSimple, IsGroupBlock}
use Rattle.predication.specs.inside.Environments.{member}
use Rattle.predication.specs.inside.Tails.{labelled, addressed, address_end}
use Rattle.predication.specs.inside.Converted.{ended, all_nodes, all_written, predicated}
use Rattle.predication.specs.inside.Labels.{by_address}
use Rattle.predication.specs.inside.Laws as predication
use Rattle.predication.proofs.Addressed.{takes_addressed}
use Rattle.predication.proofs.Fits.{converts_fitting}
use Rattle.predication.proofs.Regular.{converts_regular}
use Rattle.predication.proofs.Resolved.{resolves_labels}
use Rattle.null_outputs.specs.inside.Wants.{complete}
use Rattle.null_outputs.proofs.Unguarded.{stays}
use Rattle.fan_out.specs.inside.Targeted as fan_out
use Rattle.fan_out.proofs.Given.{given}
use Rattle.fan_out.proofs.Rooms.{few_nodes}
use Rattle.c_compile_layout.specs.inside.Linking.{resolved_block}
use Rattle.c_compile_layout.proofs.Targets.{targeted_resolved}
use Rattle.c_compile_layout.proofs.Linked.{nodes_same}
use Rattle.c_compile_blocks.specs.inside.Limits.{FitsMachine, PlainBlocksStay}
use Rattle.c_compile_blocks.proofs.PlainBlocks.{straight, insts_few, reads_are, number_few, one_guard}
use Rattle.c_compile_blocks.proofs.Members.{few_writes, few_reads, written_set}
use Rattle.c_compile_blocks.proofs.Cheap.{IsCheap, exits_with}
use Rattle.c_compile_blocks.proofs.SmallBlockCosts.{little_cheap}
use Rattle.c_compile_blocks.proofs.Guards.{two_cases}
use Rattle.c_compile_blocks.proofs.ShortLayout.{anywhere, short}

-- a block that costs little has room in a machine block
pub room_of : (b : Narrowed) → IsCheap b.block → fan_out.HasRoom (predicated b)
room_of b c =
    let P : ℕ → Type 0 = λ q. member q c.read ≡ true in
    let n = insts_few P b c.plain in
    let w = few_writes (ended b.block).env (all_written b) c.written 128
    (λ r m. c.covers r (written_set b r m)) in
    let r = few_reads (all_nodes b.block) (predicated b).writes c.read 128 (reads_are P b c.plain) in
    let k = c.cost in
    let few_read = c.reads in
    let few_written = c.writes in
    record {
      insts = omega (arith, n, w, k);
      reads = omega (arith, r, few_read);
      writes = omega (arith, w, few_written);
    }

-- no null has to be added to a plain small block, nor to one of a save group
pub plain_stays : PlainBlocksStay
plain_stays b fits plain =
    let c = little_cheap (λ l. address_end + l) b.block fits.items plain in
    stays (predicated (labelled b)) (straight (λ q. member q c.read ≡ true) (labelled b) c.plain)

-- a block without if-items
pub plain_fits : (b : Narrowed) → FitsHyper b.block → IsSimple b.block ⊎ IsGroupBlock b.block → FitsMachine b
plain_fits b fits little =
    let c = little_cheap (λ l. address_end + l) b.block fits.items little in
    let P : ℕ → Type 0 = λ q. member q c.read ≡ true in
    let f = predicated (labelled b) in
    let still : complete f ≡ f = stays f (straight P (labelled b) c.plain) in
    let n = number_few P (labelled b) c.plain in
    let i = c.items in
    let x = c.exits in
    let e = exits_with (λ l. address_end + l) b.block.tail in
    let room : predication.HasRoom b.block = record { numbers = omega (arith, n, i); exits = omega (arith, x, e) } in
    let r = room_of (labelled b) c in
    let size = few_nodes f r in
    record {
      parts = record {
        nodes = size;
        reads = r.reads;
        writes = r.writes;
        numbers = omega (arith, n, i);
        exits = x;
      };
      numbers = room;
      room = subst fan_out.HasRoom (sym still) r;
      cases = λ t is. few t room (subst (λ (g : FlowBlock). fan_out.IsTargeted g t) still is);
    }
  where
    few : (t : MachineBlock) → predication.HasRoom b.block → fan_out.IsTargeted (predicated (labelled b)) t
        → cases (nodes_of t) ≤ 256
    few t room is =
        let c = little_cheap (λ l. 0) b.block fits.items little in
        let P : ℕ → Type 0 = λ q. member q c.read ≡ true in
        let a = addressed anywhere b in
        let taken = takes_addressed anywhere b.block short fits room in
        let same = resolves_labels anywhere b short fits in
        let u = resolved_block (by_address (λ l. 0)) t in
        let targeted : fan_out.IsTargeted (predicated a) u =
        subst (λ (g : FlowBlock). fan_out.IsTargeted g u) same
        (targeted_resolved (by_address (λ l. 0)) refl (predicated (labelled b)) t is) in
        let g = given (predicated a) (converts_fitting a taken.fits taken.room)
        (converts_regular a taken.fits taken.room) (room_of a c) in
        let o = one_guard P a c.plain in
        let two = two_cases (predicated a) g o.node o.only o.no_mov u targeted in
        let nodes = ap cases (nodes_same (by_address (λ l. 0)) t) in
        omega (arith, two, nodes)

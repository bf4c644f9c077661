-- A flow block whose guards are one node, whose operands are surely there, and which costs little, is within
-- the limits of the machine once it is completed.
use Rattle.std.proofs.Common.{◌≡◌, ℕ, suc, ◌+◌, ◌*◌, ◌<◌, ◌≤◌, Bool, true, false, ◌||◌, List, [], ◌∷◌, ◌++◌}
use Rattle.std.proofs.Common.{length, refl, sym, subst, ◌∙◌, arith, length-append, nat_eq, cond}
use Rattle.std.specs.Prelude.{Option, Some, None, slice_get}
use Rattle.trips_isa.specs.declared.block.Block.{Block as MachineBlock}
use Rattle.trips_isa.specs.declared.form.Form.{Form}
use Rattle.trips_isa.specs.declared.form.Form.TheVariants as form
use Rattle.trips_isa.specs.Forms.{form_of, role_of}
use Rattle.trips_isa.specs.Places.{nodes_of}
use Rattle.block_cases.specs.Cases.{cases}
use Rattle.block_cases.specs.Choosers.{is_copy}
use Rattle.ir_forms.specs.declared.flow.FlowNode.{FlowNode}
use Rattle.ir_forms.specs.declared.flow.FlowWrite.{FlowWrite}
use Rattle.ir_forms.specs.declared.flow.FlowBlock.{FlowBlock}
use Rattle.ir_forms.specs.declared.flow.FlowSource.TheVariants.{Node}
use Rattle.ir_forms.specs.inside.FlowFits.{in_mask}
use Rattle.ir_forms.specs.inside.HyperCode.{Block}
use Rattle.hyper_narrow.specs.inside.NarrowedCode.{Narrowed}
use Rattle.ir_forms.specs.inside.HyperFits.{FitsHyper, exits_in}
use Rattle.predication.specs.inside.Environments.{member}
use Rattle.predication.specs.inside.Converted.{begun, ended, all_nodes, all_touched, all_written, reads_in}
use Rattle.predication.specs.inside.Converted.{nodes_read}
use Rattle.predication.specs.inside.Converted.{writes_read}
use Rattle.predication.specs.inside.Converted.{has_store, stores_as, mask_below, predicated}
use Rattle.predication.specs.inside.Laws as predication
use Rattle.predication.proofs.Fits.{converts_fitting}
use Rattle.predication.proofs.Regular.{converts_regular, mask_says, read_once}
use Rattle.null_outputs.specs.inside.Completed.{added, writes_at}
use Rattle.null_outputs.specs.inside.Groups.{store_source, stores_of}
use Rattle.null_outputs.specs.inside.Surely.{sure_by}
use Rattle.null_outputs.specs.inside.Wants.{want_by, complete}
use Rattle.null_outputs.specs.inside.Laws.{MaskedIn, EachMasked}
use Rattle.null_outputs.specs.inside.Sizes.{AllFirm}
use Rattle.null_outputs.proofs.Completeness.{is_complete}
use Rattle.null_outputs.proofs.Regular.{stays_regular}
use Rattle.fan_out.specs.inside.Targeted as fan_out
use Rattle.fan_out.specs.inside.Targeted.{count_insts}
use Rattle.fan_out.proofs.Given.{given}
use Rattle.fan_out.proofs.Rooms.{few_nodes}
use Rattle.c_compile_blocks.specs.inside.Prices.{price}
use Rattle.c_compile_blocks.specs.inside.Limits.{FitsParts}
use Rattle.c_compile_blocks.proofs.Flat.{read_of_all}
use Rattle.c_compile_blocks.proofs.Members.{few_reads, few_writes, written_set}
use Rattle.c_compile_blocks.proofs.PlainBlocks.{IsNoMov, front_got}
use Rattle.c_compile_blocks.proofs.PlainWrites.{or_none, EachWrite, writes_each}
use Rattle.c_compile_blocks.proofs.Firmness.{all_firm}
use Rattle.c_compile_blocks.proofs.OneGuard.{AreBy, by_at, IsHeld, saves}
use Rattle.c_compile_blocks.proofs.Entries.{IsChoice, IsScant}
use Rattle.c_compile_blocks.proofs.Additions.{IsFew, filled_length, completed_by, completed_insts}
use Rattle.c_compile_blocks.proofs.Guards.{two_cases}

-- what is asked of such a block; its registers fulfil P where they are read
pub record IsGuarded (P : ℕ → Type 0) (b : Block) : Type 0 where
  pub chooser : ℕ
  pub choice : IsChoice (all_nodes b) (length (all_nodes b)) None chooser
  -- what its nodes cost at most
  pub most : ℕ
  pub held : IsHeld P (all_nodes b) chooser 0 (all_nodes b) most
  pub scant : (q : ℕ) → IsScant 2 ((ended b).env q)
  pub number : (begun b).number ≤ 32
  pub exits : exits_in b.tail ≤ 8
  pub cheap : most + (10 + 6 * length (all_touched b)) ≤ 128

-- WRITES

-- a write of at most two sources, no read among them
pub record IsSlight (w : FlowWrite) : Type 0 where
  pub few : length w.sources ≤ 2
  pub reads : (q : ℕ) → reads_in w.sources q ≡ false

none_read : (ws : List FlowWrite) (q : ℕ) → EachWrite IsSlight ws → writes_read ws q ≡ false
none_read [] q a = refl
none_read (w ∷ ws) q a =
    let x = a.0 in or_none (reads_in w.sources q) (writes_read ws q) (x.reads q) (none_read ws q a.1)

slight_few : (ws : List FlowWrite) → EachWrite IsSlight ws → EachWrite IsFew ws
slight_few [] a = tt
slight_few (w ∷ ws) a = let x = a.0 in (x.few, slight_few ws a.1)

-- STORES

-- a number that some store has
store_first : (n : FlowNode) (j k : ℕ) (e : Form) → stores_as e n k ≡ true → 1 ≤ length (store_source e n j k)
store_first n j k form.Store s = go (nat_eq n.number k) s
  where
    go : (t : Bool) → t ≡ true → 1 ≤ length (cond t (Node j ∷ []) [])
    go true e = omega arith
    go false e = absurd (cc)
store_first n j k form.General s = absurd (cc)
store_first n j k form.Immediate s = absurd (cc)
store_first n j k form.Load s = absurd (cc)
store_first n j k form.Branch s = absurd (cc)
store_first n j k form.Constant s = absurd (cc)

some_stored : (ns : List FlowNode) (j k : ℕ) → has_store ns k ≡ true → 1 ≤ length (stores_of j ns k)
some_stored [] j k e = absurd (cc)
some_stored (n ∷ ns) j k e = go (stores_as (form_of n.op) n k) refl e (λ d. some_stored ns (suc j) k d)
  where
    size : length (stores_of j (n ∷ ns) k)
        ≡ length (store_source (form_of n.op) n j k) + length (stores_of (suc j) ns k)
    size = length-append (store_source (form_of n.op) n j k) (stores_of (suc j) ns k)

    go : (t : Bool) → stores_as (form_of n.op) n k ≡ t → (t || has_store ns k) ≡ true
        → (has_store ns k ≡ true → 1 ≤ length (stores_of (suc j) ns k)) → 1 ≤ length (stores_of j (n ∷ ns) k)
    go true s d f = let h = store_first n j k (form_of n.op) s in let z = size in omega (arith, h, z)
    go false s d f = let h = f d in let z = size in omega (arith, h, z)

masked_stored : (ns : List FlowNode) (k : ℕ) → k < 32 → in_mask (mask_below ns 32) k ≡ true
    → 1 ≤ length (stores_of 0 ns k)
masked_stored ns k l e = go (has_store ns k) refl
  where
    go : (t : Bool) → has_store ns k ≡ t → 1 ≤ length (stores_of 0 ns k)
    go true s = some_stored ns 0 k s
    go false s = absurd (let h = sym (mask_says ns k false l s) ∙ e in cc)

masked_in : (b : FlowBlock) (n : FlowNode) (e : Form) → (e ≡ form.Store → in_mask b.mask n.number ≡ true)
    → MaskedIn e b n
masked_in b n form.Store h = h refl
masked_in b n form.General h = tt
masked_in b n form.Immediate h = tt
masked_in b n form.Load h = tt
masked_in b n form.Branch h = tt
masked_in b n form.Constant h = tt

each_masked : (b : FlowBlock) (ns : List FlowNode)
    → ((j : ℕ) (n : FlowNode) → slice_get ns j ≡ Some n → form_of n.op ≡ form.Store
    → in_mask b.mask n.number ≡ true) → EachMasked b ns
each_masked b [] h = tt
each_masked b (n ∷ ns) h =
    (masked_in b n (form_of n.op) (h 0 n refl), each_masked b ns (λ j m e s. h (suc j) m e s))

-- THE BLOCK

-- qs are the registers that it reads
module _ (narrow : Narrowed) (qs : List ℕ) (few_named : length qs ≤ 32)
    (x : IsGuarded (λ q. member q qs ≡ true) narrow.block) where
  abbrev b : Block
  b = narrow.block

  abbrev f : FlowBlock
  f = predicated narrow

  abbrev g : FlowBlock
  g = complete f

  abbrev P : ℕ → Type 0
  P q = member q qs ≡ true

  -- the node that gives all guards
  abbrev c : ℕ
  c = x.chooser

  firm : AllFirm (sure_by f) f
  firm = let h = x.held in all_firm f h.firm

  guards : AreBy c f.nodes
  guards = let h = x.held in h.guards

  stored : (k : ℕ) → k < 32 → in_mask f.mask k ≡ true → 1 ≤ length (stores_of 0 f.nodes k)
  stored k l e = masked_stored (all_nodes b) k l e

  slight : EachWrite IsSlight f.writes
  slight =
      writes_each IsSlight (ended b).env (all_written narrow) 128
      (λ r m.
      let h = x.scant r in
      record { few = h.few; reads = h.reads })

  few : EachWrite IsFew f.writes
  few = slight_few f.writes slight

  by_chooser : AreBy c g.nodes
  by_chooser = completed_by (sure_by f) (want_by f) f c guards firm stored few

  written : length f.writes ≤ length (all_touched b)
  written = few_writes (ended b).env (all_written narrow) (all_touched b) 128 (written_set narrow)

  reads_are : (q : ℕ) → (nodes_read (all_nodes b) q || writes_read f.writes q) ≡ true → P q
  reads_are q d = go (nodes_read (all_nodes b) q) refl d
    where
      go : (s : Bool) → nodes_read (all_nodes b) q ≡ s → (s || writes_read f.writes q) ≡ true → P q
      go true u v = let h = x.held in read_of_all P (all_nodes b) q h.reads u
      go false u v = absurd (let w = sym (none_read f.writes q slight) ∙ v in cc)

  reads_few : length f.reads ≤ 32
  reads_few =
      let r = few_reads (all_nodes b) f.writes qs 128 reads_are in
      let n = few_named in
      omega (arith, r, n)

  -- the completed block has room in the machine
  pub room : fan_out.HasRoom g
  room =
      let n : count_insts g ≤ price f.nodes + 3 * saves f.nodes + (10 + 6 * length f.writes) =
      completed_insts (sure_by f) (want_by f) f c guards firm stored few
      (λ i j r u v. read_once (all_nodes b) f.writes 128 i j r u v) (let h = x.held in h.used) in
      let k : price f.nodes + 3 * saves f.nodes ≤ x.most = (let h = x.held in h.cost) in
      let w = written in
      let m = x.cheap in
      let l : length g.writes ≡ length f.writes =
      filled_length (sure_by f) (want_by f) f c guards firm stored few
      (writes_at (sure_by f) (want_by f) f) 0 f.writes in
      record {
        insts = omega (arith, n, k, w, m);
        reads = reads_few;
        writes = omega (arith, l, w, m);
      }

  -- the block has room for its numbers and exits
  pub numbered : predication.HasRoom b
  numbered = record { numbers = x.number; exits = x.exits }

  -- the node of the guards is among the block's own
  chooses : IsNoMov g.nodes c
  chooses n e = go x.choice
    where
      same_node : {u v : FlowNode} {o : Option FlowNode} → o ≡ Some u → o ≡ Some v → u ≡ v
      same_node s t = cc

      go : IsChoice (all_nodes b) (length (all_nodes b)) None c → is_copy (role_of n.op) ≡ false
      go (m, at, h, z, l) =
          let own = sym (front_got f.nodes (added (sure_by f) (want_by f) f) c l) ∙ e in
          let same : m ≡ n = same_node at own in
          subst (λ (y : FlowNode). is_copy (role_of y.op) ≡ false) same z

  nodes_few : length f.nodes ≤ 128
  nodes_few =
      let n : length (f.nodes ++ added (sure_by f) (want_by f) f) ≤ 128 = few_nodes g room in
      let size = length-append f.nodes (added (sure_by f) (want_by f) f) in
      omega (arith, n, size)

  -- each part of the block's flow block is within the machine's limit
  pub within : FitsParts narrow
  within =
      let w = written in
      let m = x.cheap in
      record {
        nodes = nodes_few;
        reads = reads_few;
        writes = omega (arith, w, m);
        numbers = x.number;
        exits = x.exits;
      }

  -- the machine block has at most two cases
  pub few_cases : FitsHyper b → (u : MachineBlock) → fan_out.IsTargeted g u → cases (nodes_of u) ≤ 2
  few_cases fits u is =
      let flow = converts_fitting narrow fits numbered in
      let regular = converts_regular narrow fits numbered in
      let whole = is_complete f flow (each_masked f f.nodes regular.masked) in
      let y = given g whole.fits (stays_regular f flow regular) room in
      two_cases g y c (λ j n d e z. by_at c g.nodes j n by_chooser e d z) chooses u is

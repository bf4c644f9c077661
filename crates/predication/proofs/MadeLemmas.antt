-- What is emitted of a block, put together, is the block's flow block, and its counts are the block's.
use Rattle.std.proofs.Common.{◌≡◌, ℕ, ◌+◌, ◌≤◌, List, [], ◌++◌, length, refl, sym, ap, subst, ◌∙◌, arith}
use Rattle.std.proofs.Common.{map, IfOk, IfErr}
use Rattle.std.specs.Prelude.{None, Result, Ok, Err}
use Rattle.std.proofs.lemmas.List.{map-append, length-map}
use Rattle.ir_forms.specs.declared.flow.FlowNode.{FlowNode}
use Rattle.ir_forms.specs.declared.flow.FlowBlock.{FlowBlock}
use Rattle.ir_forms.specs.inside.HyperCode.{Items, Done, Block}
use Rattle.ir_forms.specs.inside.HyperFits.{exits_in}
use Rattle.hyper_narrow.specs.inside.NarrowedCode.{Narrowed}
use Rattle.predication.specs.declared.work.Work.{Work}
use Rattle.predication.specs.declared.work.Named.{Named}
use Rattle.predication.specs.declared.work.Noted.{Noted}
use Rattle.predication.specs.declared.work.Names.{Names}
use Rattle.predication.specs.declared.work.Emitted.{Emitted}
use Rattle.ir_forms.specs.declared.fault.FlowFault.{FlowFault}
use Rattle.ir_forms.specs.declared.fault.FlowFault.TheVariants.{TooBig, Memory}
use Rattle.ir_forms.specs.declared.fault.Part.TheVariants.{Insts, Reads, Writes, Numbers, Exits}
use Rattle.predication.specs.inside.Environments.{Env, Bits, no_bits, at_start}
use Rattle.predication.specs.inside.Ifs.{Out, items, touched}
use Rattle.predication.specs.inside.Tails.{Ending, tail, tail_touched}
use Rattle.predication.specs.inside.Converted.{begun, ended, all_nodes, all_written, among}
use Rattle.predication.specs.inside.Converted.{predicated}
use Rattle.predication.specs.inside.Outcomes.{Counts, counts_of, HasRoomFor, IsRefusal}
use Rattle.predication.specs.inside.Emits.{low, env_of, bits_of}
use Rattle.predication.specs.inside.Ends.{End, out_of, ends, ending_of, work_after}
use Rattle.predication.specs.inside.Made.{writes_of, reads_of, mask_of, flow_of, flow_in, counts_by, counts_in}
use Rattle.predication.specs.inside.Made.{IsEmitted}
use Rattle.predication.proofs.StaticTails.{tail_number}
use Rattle.predication.proofs.EndLemmas.{goes_on}
use Rattle.predication.proofs.LegLemmas.{Came, Begins, leg_came}
use Rattle.predication.proofs.LowLemmas.{low_nodes}
use Rattle.predication.proofs.ExitLemmas.{Finished}

-- ALL NODES

-- the bits after items that are all emitted
all_bits : (w w2 : Work) (n n2 : Names) (is : Items) → Begins [] n → length w.nodes ≡ 0 → w.number ≡ 0
    → ends None w2 n2 Done ≡ ends None w n is → bits_of n2.bits ≡ (items None 0 0 at_start no_bits is).bits
all_bits w w2 n n2 is b l m h =
    let o = items None 0 0 at_start no_bits is in
    let eo : out_of None w n is ≡ o =
    goes_on None w n 0 0 at_start no_bits is l m (ap (λ (x : List Named). env_of x) b.entries)
    (ap (λ (x : List Noted). bits_of x) b.bits) in
    ap (λ (e : End). e.bits) h ∙ ap (λ (x : Out). x.bits) eo

-- items and tail emitted one after the other are the block that is emitted
pub all_emitted : (b : Block) (w0 w1 w2 : Work) (n0 n1 n2 : Names) (e : Emitted) → w0.nodes ≡ [] → w0.number ≡ 0
    → Begins [] n0 → ends None w1 n1 Done ≡ ends None w0 n0 b.items
    → Finished None (record w1 { number = 0 }) w2 n1 n2 b.tail
    → e.nodes ≡ w2.nodes → e.names ≡ n2 → e.numbers ≡ w1.number → e.exits ≡ w2.number
    → IsEmitted b e
all_emitted b w0 w1 w2 n0 n1 n2 e z m start h f en em eb ee =
    let o : Out = begun b in
    let l0 : length w0.nodes ≡ 0 = ap (λ (ns : List FlowNode). length ns) z in
    let c : Came w0 w1 n1 o.nodes o.number o.env (touched b.items) =
    leg_came None None w0 w1 [] n0 n1 b.items 0 0 start refl l0 m h in
    let bs : bits_of n1.bits ≡ o.bits = all_bits w0 w1 n0 n1 b.items start l0 m h in
    let ns : w1.nodes ≡ map low o.nodes = c.nodes ∙ ap (λ (x : List FlowNode). x ++ map low o.nodes) z in
    let l1 : length w1.nodes ≡ length o.nodes = ap (λ (x : List FlowNode). length x) ns ∙ length-map o.nodes low in
    let t : Ending = ended b in
    let et : ending_of None (record w1 { number = 0 }) n1 b.tail ≡ t =
    ap (λ (x : ℕ). tail None x 0 (env_of n1.entries) (bits_of n1.bits) b.tail) l1
    ∙ ap (λ (x : Env). tail None (length o.nodes) 0 x (bits_of n1.bits) b.tail) c.env
    ∙ ap (λ (x : Bits). tail None (length o.nodes) 0 o.env x b.tail) bs in
    let w2_is : w2 ≡ work_after (record w1 { number = 0 }) t =
    f.work ∙ ap (λ (x : Ending). work_after (record w1 { number = 0 }) x) et in
    let counted : t.number ≡ 0 + exits_in b.tail =
    tail_number (λ (k : ℕ). Unit {0}) b.tail None (length o.nodes) 0 o.env o.bits in
    let count_is : t.number ≡ exits_in b.tail = omega (arith, counted) in
    record {
      nodes = en ∙ ap (λ (x : Work). x.nodes) w2_is
          ∙ ap (λ (x : List FlowNode). x ++ map low t.nodes) ns ∙ sym (map-append low o.nodes t.nodes);
      env = ap (λ (x : Names). env_of x.entries) em ∙ f.env ∙ ap (λ (x : Ending). x.env) et;
      sets = ap (λ (x : Names). x.sets) em ∙ f.sets ∙ ap (λ (x : List ℕ). x ++ tail_touched b.tail) c.sets;
      numbers = eb ∙ c.number;
      exits = ee ∙ ap (λ (x : Work). x.number) w2_is ∙ count_is;
    }

-- THE FLOW BLOCK

flow_same : (ns ns2 : List FlowNode) (env env2 : Env) (rs rs2 : List ℕ) → ns ≡ ns2 → env ≡ env2 → rs ≡ rs2
    → flow_of ns env rs ≡ flow_of ns2 env2 rs2
flow_same ns ns2 env env2 rs rs2 e f g =
    ap (λ (x : List FlowNode). flow_of x env rs) e ∙ ap (λ (x : Env). flow_of ns2 x rs) f
    ∙ ap (λ (x : List ℕ). flow_of ns2 env2 x) g

flow_is : (d : Narrowed) → flow_of (all_nodes d.block) (ended d.block).env (all_written d) ≡ predicated d
unfolding writes_of reads_of mask_of
flow_is d = refl

counts_are : (d : Narrowed) → counts_by (predicated d) (begun d.block).number (exits_in d.block.tail) ≡ counts_of d
unfolding counts_of
counts_are d = refl

module _ (d : Narrowed) (e : Emitted) (m : IsEmitted d.block e) where
  abbrev b : Block
  b = d.block

  few : length e.nodes ≤ 128 → length (all_nodes b) ≤ 128
  few l = let c = ap (λ (x : List FlowNode). length x) m.nodes ∙ length-map (all_nodes b) low in omega (arith, c, l)

  pub is_predicated : length e.nodes ≤ 128 → flow_in d.lasting e ≡ predicated d
  is_predicated l =
      flow_same e.nodes (all_nodes b) (env_of e.names.entries) (ended b).env (among d.lasting e.names.sets)
      (all_written d) (m.nodes ∙ low_nodes b (few l)) m.env
      (ap (λ (rs : List ℕ). among d.lasting rs) m.sets) ∙ flow_is d

  counts_same : length e.nodes ≤ 128 → counts_in d.lasting e ≡ counts_of d
  counts_same l =
      ap (λ (f : FlowBlock). counts_by f e.numbers e.exits) (is_predicated l)
      ∙ ap (λ (x : ℕ). counts_by (predicated d) x e.exits) m.numbers
      ∙ ap (λ (x : ℕ). counts_by (predicated d) (begun b).number x) m.exits ∙ counts_are d

  insts_same : length e.nodes ≡ (counts_of d).insts
  unfolding counts_of
  insts_same = ap (λ (x : List FlowNode). length x) m.nodes ∙ length-map (all_nodes b) low

  -- a block whose counts have room as emitted has room
  pub has_room : HasRoomFor (counts_in d.lasting e) → HasRoomFor (counts_of d)
  has_room r = subst (λ (c : Counts). HasRoomFor c) (counts_same r.insts) r

  -- a block that is refused by its counts as emitted is refused
  pub is_refused : (x : FlowFault) → IsRefusal (counts_in d.lasting e) x → IsRefusal (counts_of d) x
  is_refused (TooBig Insts n) r = (r.0 ∙ insts_same, r.1)
  is_refused (TooBig Reads n) r = subst (λ (c : Counts). IsRefusal c (TooBig Reads n)) (counts_same r.0) r
  is_refused (TooBig Writes n) r = subst (λ (c : Counts). IsRefusal c (TooBig Writes n)) (counts_same r.0) r
  is_refused (TooBig Numbers n) r = subst (λ (c : Counts). IsRefusal c (TooBig Numbers n)) (counts_same r.0) r
  is_refused (TooBig Exits n) r = subst (λ (c : Counts). IsRefusal c (TooBig Exits n)) (counts_same r.0) r
  is_refused Memory r = tt

  -- the flow block put together from what is emitted is the block's own
  pub block_is : (f : FlowBlock) → (f ≡ flow_in d.lasting e) × HasRoomFor (counts_in d.lasting e)
      → f ≡ predicated d
  block_is f r = r.0 ∙ is_predicated r.1.insts

-- RESULTS

-- what follows for each value follows for a result that has one
pub if_ok : {A E : Type 0} → (r : Result A E) (P Q : A → Type 0) → ((x : A) → P x → Q x) → IfOk r P → IfOk r Q
if_ok (Ok x) P Q f h = f x h
if_ok (Err e) P Q f h = h

-- what follows for each error follows for a result that has one
pub if_err : {A E : Type 0} → (r : Result A E) (P Q : E → Type 0) → ((x : E) → P x → Q x) → IfErr r P → IfErr r Q
if_err (Ok x) P Q f h = h
if_err (Err e) P Q f h = f e h

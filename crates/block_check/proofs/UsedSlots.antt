-- What is judged of the slots that are used is so of the whole block.
use Rattle.std.proofs.Common.{◌≡◌, ℕ, zero, suc, ◌+◌, ◌-◌, ◌<◌, ◌≤◌, Bool, true, false, nat_lt, List}
use Rattle.std.proofs.Common.{[], ◌∷◌, ◌++◌, map, length, get_or, take, Option, Some, None, slice_get}
use Rattle.std.proofs.Common.{refl, sym, ap, ◌∙◌, subst, arith}
use Rattle.std.specs.Prelude.{All, Result, Ok, Err, IfOk, IfErr, MatchOption}
use Rattle.trips_isa.specs.declared.block.Inst.{Inst}
use Rattle.trips_isa.specs.declared.block.ReadSlot.{ReadSlot}
use Rattle.trips_isa.specs.declared.block.Block.{Block}
use Rattle.trips_isa.specs.declared.form.Form.{Form}
use Rattle.trips_isa.specs.declared.form.Form.TheVariants as form
use Rattle.trips_isa.specs.declared.node.Node.{Node}
use Rattle.trips_isa.specs.PlaceNumbers.{first_write, no_place}
use Rattle.trips_isa.specs.Fits.{FitsForm, FitsSlot, FitsBlock}
use Rattle.block_cases.specs.Nodes.{IsRanked}
use Rattle.block_cases.specs.Blocks.{form_of, load_bound, read_node, inst_node, inst_nodes, nodes_of}
use Rattle.block_cases.specs.Blocks.{wanted_of}
use Rattle.block_cases.specs.Cases.{bit}
use Rattle.block_cases.specs.Orders.{bad_slot, bad_inst, bad_slot_number, bad_number}
use Rattle.block_cases.specs.inside.Orders.{IsLeast}
use Rattle.block_cases.specs.Orders.{NoneBelow}
use Rattle.block_cases.specs.Good.{Good}
use Rattle.block_check.specs.declared.fault.NodeFault.{NodeFault}
use Rattle.block_check.specs.inside.Judged.{IsFault}
use Rattle.block_check.specs.inside.Pass.{IsSpare}
use Rattle.block_check.specs.inside.Used.{IsEmptyFrom, nodes_below}
use Rattle.block_check.proofs.Lists.{not_true}
use Rattle.block_check.proofs.Spots.{wanted_high}
use Rattle.block_check.proofs.Fitting.{ok_same, err_same}
use Rattle.block_check.proofs.Ranking.{acyclic_ranked, insts_count, nodes_count, nodes_few}
use Rattle.block_check.proofs.CutFaults.{Hears, CutAt, good_full, fault_full}

-- slots
pub past_none : (l : List (Option Inst)) (j : ℕ) → length l ≤ j → get_or l j None ≡ None
past_none [] j h = refl
past_none (i ∷ is) zero h = absurd (omega arith)
past_none (i ∷ is) (suc j) h = past_none is j (omega arith)

-- an empty slot is no bad instruction
pub past_inst : (b : Block) (used : ℕ) → IsEmptyFrom b used → (j : ℕ) → used ≤ j →
    bad_inst b j ≡ false
past_inst b used h j le = ap (λ (o : Option Inst). bad_slot b o) (h j le)

-- an empty slot has no bad number
pub past_number : (b : Block) (used : ℕ) → IsEmptyFrom b used → (j : ℕ) → used ≤ j →
    bad_number b j ≡ false
past_number b used h j le = ap (λ (o : Option Inst). bad_slot_number b j o) (h j le)

-- the least of the slots that are used is the least of all
pub widen : (p : ℕ → Bool) (used : ℕ) → used ≤ 128 → ((j : ℕ) → used ≤ j → p j ≡ false) →
    (r : Option ℕ) → MatchOption r (NoneBelow p used) (IsLeast p used) →
    MatchOption r (NoneBelow p 128) (IsLeast p 128)
widen p used w h None n = λ j lt. go j (nat_lt j used) refl
  where
    go : (j : ℕ) (v : Bool) → nat_lt j used ≡ v → p j ≡ false
    go j true e = n j (grind arith)
    go j false e = h j (grind arith)
widen p used w h (Some k) l = record {
  below = (let lt : k < used = l.below in omega arith);
  holds = l.holds;
  least = l.least;
}

-- nodes of slots that are used
take_insts : (from : ℕ) (is : List (Option Inst)) (u : ℕ) →
    take u (inst_nodes from is) ≡ inst_nodes from (take u is)
take_insts from is zero = refl
take_insts from [] (suc u) = refl
take_insts from (i ∷ is) (suc u) = ap (λ l. inst_node from i ∷ l) (take_insts (suc from) is u)

take_reads : (rs : List ReadSlot) (rest : List Node) (u k : ℕ) → k ≡ length rs + u →
    take k (map read_node rs ++ rest) ≡ map read_node rs ++ take u rest
take_reads [] rest u k e = let same : k ≡ u = omega arith in ap (λ j. take j rest) same
take_reads (r ∷ rs) rest u zero e = absurd (omega arith)
take_reads (r ∷ rs) rest u (suc k) e = ap (λ l. read_node r ∷ l) (take_reads rs rest u k (omega
    arith))

-- the nodes of the reads and of the first u slots are the first of all nodes
pub nodes_taken : (rs : List ReadSlot) (is : List (Option Inst)) (u : ℕ) →
    take (length rs + u) (map read_node rs ++ inst_nodes 0 is) ≡ map read_node rs ++ inst_nodes 0
    (take u is)
nodes_taken rs is u = take_reads rs (inst_nodes 0 is) u (length rs + u) refl
    ∙ ap (λ l. map read_node rs ++ l) (take_insts 0 is u)

same_node : (a b : Node) → Some a ≡ Some b → a ≡ b
same_node a b e = cc

-- the other slots are empty
insts_spare : (from : ℕ) (is : List (Option Inst)) (used : ℕ) → ((j : ℕ) → used ≤ j →
    get_or is j None ≡ None) → (x : ℕ) (n : Node) → used ≤ x →
    slice_get (inst_nodes from is) x ≡ Some n → IsSpare n
insts_spare from [] used h x n le e = absurd (cc)
insts_spare from (i ∷ is) used h zero n le e =
    let free : i ≡ None = h 0 le in
    subst IsSpare (ap (λ (o : Option Inst). inst_node from o) (sym free) ∙ same_node (inst_node
    from i) n e) (record { role = refl; first = refl; second = refl })
insts_spare from (i ∷ is) used h (suc x) n le e = insts_spare (suc from) is (used - 1) (λ j l. h
    (suc j) (omega arith)) x n (omega arith) e

reads_spare : (rs : List ReadSlot) (is : List (Option Inst)) (used : ℕ) → ((j : ℕ) → used ≤ j →
    get_or is j None ≡ None) → (x : ℕ) (n : Node) → length rs + used ≤ x →
    slice_get (map read_node rs ++ inst_nodes 0 is) x ≡ Some n → IsSpare n
reads_spare [] is used h x n le e = insts_spare 0 is used h x n (omega arith) e
reads_spare (r ∷ rs) is used h zero n le e = absurd (omega arith)
reads_spare (r ∷ rs) is used h (suc x) n le e = reads_spare rs is used h x n (omega arith) e

-- what nodes of a block that fits take tokens from
low_bound : (f : Form) (i : Inst) → FitsForm f i → load_bound f i.number ≤ no_place
low_bound form.General i h = omega arith
low_bound form.Immediate i h = omega arith
low_bound form.Load i h = let l : i.number < 32 = h.2 in omega arith
low_bound form.Store i h = omega arith
low_bound form.Branch i h = omega arith
low_bound form.Constant i h = omega arith

read_hears : (r : ReadSlot) → Hears (read_node r)
read_hears r = record {
  left = λ e. omega (arith, e);
  right = λ e. omega (arith, e);
  guard = λ e. omega (arith, e);
  below = omega arith;
}

inst_hears : (j : ℕ) (i : Option Inst) → j < 128 → FitsSlot i → Hears (inst_node j i)
inst_hears j None lt h = record {
  left = λ e. omega (arith, e, lt);
  right = λ e. omega (arith, e, lt);
  guard = λ e. omega (arith, e, lt);
  below = omega arith;
}
inst_hears j (Some i) lt h = record {
  left = λ e. omega (arith, e, lt);
  right = λ e. omega (arith, e, lt);
  guard = λ e. omega (arith, e, lt);
  below = low_bound (form_of i.op) i h;
}

insts_hear : (j : ℕ) (is : List (Option Inst)) → j + length is ≤ 128 → All FitsSlot is → (x : ℕ)
    (m : Node) → slice_get (inst_nodes j is) x ≡ Some m → Hears m
insts_hear j [] b h x m e = absurd (cc)
insts_hear j (i ∷ is) b h zero m e = subst Hears (same_node (inst_node j i) m e) (inst_hears j i
    (omega arith) (h 0 i (omega arith)))
insts_hear j (i ∷ is) b h (suc x) m e = insts_hear (suc j) is (omega arith) (λ k d l. h (suc k) d
    (omega arith)) x m e

nodes_hear : (rs : List ReadSlot) (rest : List Node) → ((x : ℕ) (m : Node) →
    slice_get rest x ≡ Some m → Hears m) → (x : ℕ) (m : Node) →
    slice_get (map read_node rs ++ rest) x ≡ Some m → Hears m
nodes_hear [] rest h x m e = h x m e
nodes_hear (r ∷ rs) rest h zero m e = subst Hears (same_node (read_node r) m e) (read_hears r)
nodes_hear (r ∷ rs) rest h (suc x) m e = nodes_hear rs rest h x m e

cut_at : (b : Block) (used : ℕ) → FitsBlock b → used ≤ 128 → IsEmptyFrom b used →
    CutAt (nodes_of b) (length b.reads.items + used)
cut_at b used f w h = record {
  spare = reads_spare b.reads.items b.insts.items used h;
  within = (
      let a = nodes_count b.reads.items (inst_nodes 0 b.insts.items) in
      let s = insts_count 0 b.insts.items in
      let all : length b.insts.items ≡ 128 = f.insts in
      omega (arith, a, s, all)
      );
  hears = nodes_hear b.reads.items (inst_nodes 0 b.insts.items) (insts_hear 0 b.insts.items (let all
      : length b.insts.items ≡ 128 = f.insts in omega arith) f.each_inst);
}

-- the verdict
pub unwanted : (b : Block) (q : ℕ) → q < first_write → wanted_of b q ≡ false
unwanted b q lt = not_true _ (λ e. let l : first_write ≤ q = wanted_high b q e in omega (arith, l, lt))

-- where the nodes of the used slots are good, those of the whole block are
pub ok_whole : (b : Block) (used : ℕ) → FitsBlock b → used ≤ 128 → IsEmptyFrom b used →
    (r : Result (Unit {0}) NodeFault) (ms : List Node) (w : List Bool) → ms ≡ nodes_below b used →
    ((q : ℕ) → q < 449 → bit w q ≡ wanted_of b q) → IfOk r (λ u. Good ms (bit w)) →
    IfOk r (λ u. Good (nodes_of b) (wanted_of b))
ok_whole b used f l h r ms w e v g = go r (ok_same r (nodes_below b used) ms w (wanted_of b) e v g)
  where
    go : (r : Result (Unit {0}) NodeFault) → IfOk r (λ u. Good (nodes_below b used) (wanted_of b)) →
        IfOk r (λ u. Good (nodes_of b) (wanted_of b))
    go (Ok u) g = good_full (nodes_of b) (length b.reads.items + used) (wanted_of b) (cut_at b used
        f l h) g
    go (Err x) g = g

-- where a block's nodes are good, they have an order along their edges
pub ok_ranked : (b : Block) → FitsBlock b → (r : Result (Unit {0}) NodeFault) →
    IfOk r (λ u. Good (nodes_of b) (wanted_of b)) → IfOk r (λ u. IsRanked (nodes_of b))
ok_ranked b f (Ok u) g = acyclic_ranked (nodes_of b) (nodes_few b f) g.acyclic
ok_ranked b f (Err x) g = g

-- a fault of the nodes of the used slots is a fault of the whole block's
pub err_whole : (b : Block) (used : ℕ) → FitsBlock b → used ≤ 128 → IsEmptyFrom b used →
    (r : Result (Unit {0}) NodeFault) (ms : List Node) (w : List Bool) → ms ≡ nodes_below b used →
    ((q : ℕ) → q < 449 → bit w q ≡ wanted_of b q) → IfErr r (λ x. IsFault ms (bit w) x) →
    IfErr r (λ x. IsFault (nodes_of b) (wanted_of b) x)
err_whole b used f l h r ms w e v g = go r (err_same r (nodes_below b used) ms w (wanted_of b) e v g)
  where
    go : (r : Result (Unit {0}) NodeFault) → IfErr r (λ x. IsFault (nodes_below b used) (wanted_of
        b) x) → IfErr r (λ x. IsFault (nodes_of b) (wanted_of b) x)
    go (Ok u) g = g
    go (Err x) g = fault_full (nodes_of b) (length b.reads.items + used) (wanted_of b) (cut_at b
        used f l h) x g

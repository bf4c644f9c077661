-- A round over the slots gives each node's mark of the marks before it; so the lists hold the marks
-- as deep as the rounds that were made.
use Rattle.std.proofs.Common.{◌≡◌, ℕ, zero, suc, ◌+◌, ◌-◌, ◌<◌, ◌≤◌, ◌⊎◌, inl, inr, Bool, true, false}
use Rattle.std.proofs.Common.{cond, nat_lt, List, [], ◌∷◌, ◌++◌, map, length, get_or, Option, Some}
use Rattle.std.proofs.Common.{None, slice_get, refl, sym, ap, ◌∙◌, arith}
use Rattle.std.proofs.Math.Path.{fun_ext}
use Rattle.std.proofs.lemmas.Bool.{le-ltb}
use Rattle.std.proofs.lemmas.Bool.Decides.{nat_tests}
use Rattle.trips_isa.specs.declared.node.Node.{Node}
use Rattle.trips_isa.specs.declared.block.Inst.{Inst}
use Rattle.trips_isa.specs.declared.block.ReadSlot.{ReadSlot}
use Rattle.trips_isa.specs.declared.block.Block.{Block}
use Rattle.trips_isa.specs.Forms.{role_of, takes_left, takes_right}
use Rattle.trips_isa.specs.Rule.{Answer}
use Rattle.trips_isa.specs.Places.{read_node, inst_node, inst_nodes, nodes_of}
use Rattle.trips_isa.specs.Tables.{deepest}
use Rattle.trips_isa.specs.Blocks.{at_place, is_read, slot_at, inst_at}
use Rattle.block_cases.proofs.Nodes.{past_reads, not_read}
use Rattle.block_cases.proofs.Steady.{deepest_is}
use Rattle.trips_isa.specs.Faults.{own_fault, fault_if_read, node_fault}
use Rattle.trips_isa.specs.Operands.{operands, is_guarded}
use Rattle.trips_isa.specs.Marks.{mark_by, mark_at, node_mark, mark_given, mark_of}
use Rattle.trips_isa.specs.Limits.{most_nodes}
use Rattle.block_atomic.specs.inside.MarkSlots.{IsTold, mark_if_read, marks_in, mark_placed, slot_marked}
use Rattle.block_cases.proofs.Fixed.{IsFixed, still}
use Rattle.block_cases.proofs.MarkLemmas.{marks_pulled}
use Rattle.block_atomic.proofs.MarkWalks.{place_mark_is}

-- a read has no mark
read_unmarked : (rs : List ReadSlot) (ns : List Node) (x : ℕ) (own : ℕ → ℕ → ℕ)
    (pull : ℕ → Answer) (marks : ℕ → ℕ) (t : Answer) → x < length rs → own 0 0 ≡ 0
    → node_mark (slice_get (map read_node rs ++ ns) x) own pull marks t ≡ 0
read_unmarked [] ns x own pull marks t l h = absurd (omega arith)
read_unmarked (r ∷ rs) ns zero own pull marks None l h = refl
read_unmarked (r ∷ rs) ns zero own pull marks (Some t) l h = h
read_unmarked (r ∷ rs) ns (suc x) own pull marks t l h =
    read_unmarked rs ns x own pull marks t (omega arith) h

slot_is_there : (is : List (Option Inst)) (j k n : ℕ) → n ≡ j + k → k < length is
    → slice_get (inst_nodes j is) k ≡ Some (inst_node n (get_or is k None))
slot_is_there [] j k n e l = absurd (omega arith)
slot_is_there (i ∷ is) j zero n e l =
    let same : j ≡ n = omega arith in ap (λ m. Some (inst_node m i)) same
slot_is_there (i ∷ is) j (suc k) n e l =
    slot_is_there is (suc j) k n (omega arith) (omega arith)

no_slot : (is : List (Option Inst)) (j k : ℕ) → length is ≤ k → slice_get (inst_nodes j is) k ≡ None
no_slot [] j k l = refl
no_slot (i ∷ is) j zero l = absurd (omega arith)
no_slot (i ∷ is) j (suc k) l = no_slot is (suc j) k (omega arith)

past_end : (xs : List ℕ) (k : ℕ) → length xs ≤ k → get_or xs k 0 ≡ 0
past_end [] k l = refl
past_end (x ∷ xs) zero l = absurd (omega arith)
past_end (x ∷ xs) (suc k) l = past_end xs k (omega arith)

-- an instruction's mark hangs on the tokens at its operands and the marks at its places
marked_same : (i : Option Inst) (j : ℕ) (t : Answer) (p p' : ℕ → Answer) (m m' : ℕ → ℕ)
    → ((k : Inst) → i ≡ Some k → p j ≡ p' j) → ((k : Inst) → i ≡ Some k → p (128 + j) ≡ p' (128 + j))
    → m j ≡ m' j → m (128 + j) ≡ m' (128 + j) → m (256 + j) ≡ m' (256 + j)
    → slot_marked p m j i t ≡ slot_marked p' m' j i t
marked_same None j None p p' m m' a b u v w = refl
marked_same None j (Some t) p p' m m' a b u v w = refl
marked_same (Some k) j None p p' m m' a b u v w = refl
marked_same (Some k) j (Some t) p p' m m' a b u v w =
    ap (λ l. by l (p (128 + j)) (m j) (m (128 + j)) (m (256 + j))) (a k refl)
    ∙ ap (λ r. by (p' j) r (m j) (m (128 + j)) (m (256 + j))) (b k refl)
    ∙ ap (λ x. by (p' j) (p' (128 + j)) x (m (128 + j)) (m (256 + j))) u
    ∙ ap (λ x. by (p' j) (p' (128 + j)) (m' j) x (m (256 + j))) v
    ∙ ap (λ x. by (p' j) (p' (128 + j)) (m' j) (m' (128 + j)) x) w
  where
    by : Answer → Answer → ℕ → ℕ → ℕ → ℕ
    by l r x y z = mark_by (own_fault (Some k)) (operands (role_of k.op) l r)
        (cond (takes_left (role_of k.op)) x 0) (cond (takes_right (role_of k.op)) y 0)
        (cond (is_guarded k.sense) z 0)

-- one round over the slots: each place's mark of the marks before, and each slot's mark of its places
pub record Round (b : Block) (table places : List Answer) (old new at : List ℕ) : Type 0 where
  pub slots : length b.insts.items ≡ 128
  pub size : length new ≡ 128
  pub filled : (q : ℕ) → q < 449 → get_or at q 0 ≡ mark_placed b table old q
  pub answers : (j : ℕ) → j < 128 → get_or new j 0 ≡ slot_marked (λ q. get_or places q None)
      (λ q. get_or at q 0) j (get_or b.insts.items j None) (get_or table j None)

-- a slot's mark, among the nodes
pub slot_is : (b : Block) (table places : List Answer) (g : ℕ → Answer) (at : List ℕ) (m : ℕ → ℕ)
    (x : ℕ) → length b.insts.items ≡ 128 → IsTold b table places g
    → ((q : ℕ) → q < 449 → get_or at q 0 ≡ mark_at (nodes_of b) g m q) → is_read b x ≡ false
    → slot_at b x < 128
    → slot_marked (λ q. get_or places q None) (λ q. get_or at q 0) (slot_at b x)
    (get_or b.insts.items (slot_at b x) None) (get_or table (slot_at b x) None)
    ≡ mark_given b g m x
unfolding mark_given
slot_is b table places g at m x size told filled r l =
    marked_same (get_or b.insts.items j None) j (get_or table j None) (λ q. get_or places q None)
    (at_place b g) (λ q. get_or at q 0) (mark_at (nodes_of b) g m) (told.left j) (told.right j)
    (filled j (omega arith)) (filled (128 + j) (omega arith)) (filled (256 + j) (omega arith))
    ∙ ap (λ (s : Option Node). node_mark s (own_fault (get_or b.insts.items j None)) (at_place b g)
    (mark_at (nodes_of b) g m) (get_or table j None)) (sym node)
    ∙ ap (λ (f : ℕ → ℕ → ℕ). node_mark (slice_get (nodes_of b) x) f (at_place b g)
    (mark_at (nodes_of b) g m) (get_or table j None)) (sym own)
    ∙ ap (node_mark (slice_get (nodes_of b) x) (node_fault b x) (at_place b g)
    (mark_at (nodes_of b) g m)) (sym token)
  where
    j : ℕ
    j = slot_at b x

    node : slice_get (nodes_of b) x ≡ Some (inst_node j (get_or b.insts.items j None))
    node = past_reads b.reads.items b.insts.items x j (not_read b x r)
        ∙ slot_is_there b.insts.items 0 j j (omega arith) (omega arith)

    own : node_fault b x ≡ own_fault (get_or b.insts.items j None)
    own = fun_ext (λ u. fun_ext (λ v. ap (λ t. fault_if_read t (inst_at b x) u v) r))

    token : g x ≡ get_or table j None
    token = ap g (not_read b x r) ∙ told.slots j

-- a node that is no slot with an instruction has no mark
pub rest_unmarked : (b : Block) (g : ℕ → Answer) (m : ℕ → ℕ) (x : ℕ) → length b.insts.items ≡ 128
    → is_read b x ≡ false → 128 ≤ slot_at b x → mark_given b g m x ≡ 0
unfolding mark_given
rest_unmarked b g m x size r l = ap (λ (s : Option Node). node_mark s (node_fault b x)
    (at_place b g) (mark_at (nodes_of b) g m) (g x))
    (past_reads b.reads.items b.insts.items x (slot_at b x) (not_read b x r)
    ∙ no_slot b.insts.items 0 (slot_at b x) (omega arith))

-- a read has no mark
pub reads_unmarked : (b : Block) (g : ℕ → Answer) (m : ℕ → ℕ) (x : ℕ) → is_read b x ≡ true
    → mark_given b g m x ≡ 0
unfolding mark_given
reads_unmarked b g m x r =
    let low : x < length b.reads.items = grind (arith, nat_tests) in
    read_unmarked b.reads.items (inst_nodes 0 b.insts.items) x (node_fault b x) (at_place b g)
    (mark_at (nodes_of b) g m) (g x) low (ap (λ v. fault_if_read v (inst_at b x) 0 0) r)

-- what a round gives
pub round_is : (b : Block) (table places : List Answer) (old new at : List ℕ) (g : ℕ → Answer)
    → Round b table places old new at → IsTold b table places g
    → (x : ℕ) → marks_in b new x ≡ mark_given b g (marks_in b old) x
round_is b table places old new at g r told x = go (is_read b x) refl
  where
    filled : (q : ℕ) → q < 449 → get_or at q 0 ≡ mark_at (nodes_of b) g (marks_in b old) q
    filled q l = r.filled q l ∙ sym (place_mark_is b table places old g q told)

    slot : (v : Bool) → nat_lt (slot_at b x) 128 ≡ v → is_read b x ≡ false
        → get_or new (slot_at b x) 0 ≡ mark_given b g (marks_in b old) x
    slot true e past =
        let low : slot_at b x < 128 = grind (arith, nat_tests) in
        r.answers (slot_at b x) low
        ∙ slot_is b table places g at (marks_in b old) x r.slots told filled past low
    slot false e past =
        let high : 128 ≤ slot_at b x = grind (arith, nat_tests) in
        let size : length new ≡ 128 = r.size in
        past_end new (slot_at b x) (omega arith)
        ∙ sym (rest_unmarked b g (marks_in b old) x r.slots past high)

    go : (v : Bool) → is_read b x ≡ v → marks_in b new x ≡ mark_given b g (marks_in b old) x
    go true e = ap (λ v. mark_if_read v b new x) e
        ∙ sym (reads_unmarked b g (marks_in b old) x e)
    go false e = ap (λ v. mark_if_read v b new x) e ∙ slot (nat_lt (slot_at b x) 128) refl e

-- one round more
pub round_next : (b : Block) (table places : List Answer) (old new at : List ℕ) (g : ℕ → Answer)
    (k n : ℕ) → Round b table places old new at → IsTold b table places g
    → ((x : ℕ) → marks_in b old x ≡ mark_of b g k x) → n ≡ k + 1
    → (x : ℕ) → marks_in b new x ≡ mark_of b g n x
round_next b table places old new at g k n r told before e x =
    let next : suc k ≡ n = omega arith in
    round_is b table places old new at g r told x
    ∙ ap (λ f. mark_given b g f x) (fun_ext before)
    ∙ ap (λ d. mark_of b g d x) next

-- a round that changes nothing has come to the marking
pub round_still : (b : Block) (table places : List Answer) (old new at : List ℕ) (g : ℕ → Answer)
    (n : ℕ) → Round b table places old new at → IsTold b table places g
    → ((x : ℕ) → marks_in b new x ≡ mark_of b g n x) → new ≡ old
    → IsFixed (mark_given b g) (mark_of b g n)
round_still b table places old new at g n r told after e x =
    sym (after x) ∙ round_is b table places old new at g r told x
    ∙ ap (λ list. mark_given b g (marks_in b list) x) (sym e)
    ∙ ap (λ f. mark_given b g f x) (fun_ext after)

-- enough rounds, or one that changed nothing, reach depth `deepest`
pub deep_enough : (b : Block) (g : ℕ → Answer) (k : ℕ) → k ≤ most_nodes
    → (most_nodes ≤ k) ⊎ IsFixed (mark_given b g) (mark_of b g k) → (x : ℕ)
    → mark_of b g k x ≡ mark_of b g deepest x
deep_enough b g k few (inl far) x =
    let e : deepest ≡ most_nodes = deepest_is in
    let same : k ≡ deepest = omega arith in
    ap (λ d. mark_of b g d x) same
deep_enough b g k few (inr fixed) x =
    let e : deepest ≡ most_nodes = deepest_is in
    sym (still (mark_given b g) (mark_of b g) (marks_pulled b g) k fixed (most_nodes - k) deepest x
    (omega arith))

-- so the places hold the marks of the table
pub settled_at : (b : Block) (table places : List Answer) (marks at : List ℕ) (g : ℕ → Answer)
    (k : ℕ) → IsTold b table places g
    → ((x : ℕ) → marks_in b marks x ≡ mark_of b g k x) → k ≤ most_nodes
    → (most_nodes ≤ k) ⊎ IsFixed (mark_given b g) (mark_of b g k)
    → ((q : ℕ) → q < 449 → get_or at q 0 ≡ mark_placed b table marks q)
    → (q : ℕ) → q < 449 → get_or at q 0 ≡ mark_at (nodes_of b) g (mark_of b g deepest) q
settled_at b table places marks at g k told before few done filled q l =
    filled q l ∙ sym (place_mark_is b table places marks g q told)
    ∙ ap (λ f. mark_at (nodes_of b) g f q)
    (fun_ext (λ x. before x ∙ deep_enough b g k few done x))

-- a slot's mark is that of its node
slot_mark_is : (b : Block) (marks : List ℕ) (j : ℕ)
    → marks_in b marks (length b.reads.items + j) ≡ get_or marks j 0
slot_mark_is b marks j =
    let high : is_read b (length b.reads.items + j) ≡ false =
    le-ltb (length b.reads.items + j) (length b.reads.items) (omega arith) in
    let same : slot_at b (length b.reads.items + j) ≡ j = omega arith in
    ap (λ v. mark_if_read v b marks (length b.reads.items + j)) high ∙ ap (λ k. get_or marks k 0) same

-- so the list holds the marks of the slots
pub settled_slots : (b : Block) (marks : List ℕ) (g : ℕ → Answer) (k : ℕ)
    → ((x : ℕ) → marks_in b marks x ≡ mark_of b g k x) → k ≤ most_nodes
    → (most_nodes ≤ k) ⊎ IsFixed (mark_given b g) (mark_of b g k)
    → (j : ℕ) → get_or marks j 0 ≡ mark_of b g deepest (length b.reads.items + j)
settled_slots b marks g k before few done j =
    sym (slot_mark_is b marks j) ∙ before (length b.reads.items + j)
    ∙ deep_enough b g k few done (length b.reads.items + j)

-- marks that are all 0 are those of no depth
pub none_yet : (b : Block) (marks : List ℕ) (g : ℕ → Answer)
    → ((j : ℕ) → get_or marks j 0 ≡ 0) → (x : ℕ) → marks_in b marks x ≡ mark_of b g 0 x
none_yet b marks g h x = go (is_read b x)
  where
    go : (v : Bool) → mark_if_read v b marks x ≡ 0
    go true = refl
    go false = h (slot_at b x)

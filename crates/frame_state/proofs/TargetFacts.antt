-- Which places nodes name, where the slot or the read is at hand, and what an empty slot gives.
use Rattle.std.proofs.Common.{◌≡◌, ℕ, zero, suc, ◌-◌, ◌/◌, ◌%◌, ◌==◌, ◌<◌, ◌≤◌, Bool, true, false, cond}
use Rattle.std.proofs.Common.{List, [], ◌∷◌}
use Rattle.std.proofs.Common.{Option, Some, None, slice_get, get_or, length, nat_lt, refl, sym, ap, ◌∙◌, arith}
use Rattle.std.specs.Prelude.{is_none}
use Rattle.std.proofs.lemmas.Bool.Decides.{nat_tests}
use Rattle.trips_isa.specs.declared.block.Inst.{Inst}
use Rattle.trips_isa.specs.declared.block.ReadSlot.{ReadSlot}
use Rattle.trips_isa.specs.declared.block.Block.{Block}
use Rattle.trips_isa.specs.declared.node.Node.{Node}
use Rattle.trips_isa.specs.PlaceNumbers.{no_place}
use Rattle.trips_isa.specs.Rule.{Answer}
use Rattle.trips_isa.specs.Places.{nodes_of, inst_node, inst_nodes, read_node}
use Rattle.trips_isa.specs.Tables.{node_gives}
use Rattle.trips_isa.specs.Blocks.{computes}
use Rattle.trips_isa.specs.Faults.{node_fault}
use Rattle.trips_isa.specs.Marks.{node_mark}
use Rattle.block_cases.specs.Orders.{slot_of}
use Rattle.block_cases.proofs.Nodes.{past_reads}
use Rattle.commit_flush_spec.specs.Marks.{mark_on}
use Rattle.commit_flush_spec.specs.Frames.{Frame, at, slot_node, target, named_at}
use Rattle.commit_flush_spec.specs.Sending.{token_with, mark_with}
use Rattle.commit_flush_spec.proofs.Tokens.{slot_got, read_got}

-- the item of a list that stands at an index
pub there : (is : List (Option Inst)) (s : ℕ) (i : Option Inst) → slice_get is s ≡ Some i
    → (s < length is) × (get_or is s None ≡ i)
there [] s i e = absurd (cc)
there (x ∷ is) zero i e = (omega arith, cc)
there (x ∷ is) (suc s) i e = let t = there is s i e in (omega (arith, t.0), t.1)

-- nothing stands past the end
gone : (is : List (Option Inst)) (s : ℕ) → slice_get is s ≡ None → get_or is s None ≡ None
gone [] s e = refl
gone (x ∷ is) zero e = absurd (cc)
gone (x ∷ is) (suc s) e = gone is s e

gone_nodes : (is : List (Option Inst)) (j s : ℕ) → slice_get is s ≡ None → slice_get (inst_nodes j is) s ≡ None
gone_nodes [] j s e = refl
gone_nodes (x ∷ is) j zero e = absurd (cc)
gone_nodes (x ∷ is) j (suc s) e = gone_nodes is (suc j) s e

-- an item that is there
inside : (rs : List ReadSlot) (r : ℕ) (d : ReadSlot) → r < length rs → slice_get rs r ≡ Some (get_or rs r d)
inside [] r d h = absurd (omega arith)
inside (x ∷ rs) zero d h = refl
inside (x ∷ rs) (suc r) d h = inside rs r d (omega arith)

no_node : (b : Block) (s : ℕ) → slice_get b.insts.items s ≡ None → slice_get (nodes_of b) (slot_node b s) ≡ None
no_node b s e = past_reads b.reads.items b.insts.items (slot_node b s) s refl ∙ gone_nodes b.insts.items 0 s e

nowhere : (f : Bool) → cond f no_place no_place ≡ no_place
nowhere true = refl
nowhere false = refl

-- what a slot names is what its node names; past the last slot nothing is named
pub slot_named : (b : Block) (s : ℕ) (f : Bool)
    → named_at (Some (inst_node s (slot_of b s))) f ≡ named_at (slice_get (nodes_of b) (slot_node b s)) f
slot_named b s f = go (slice_get b.insts.items s) refl
  where
    go : (o : Option (Option Inst)) → slice_get b.insts.items s ≡ o
        → named_at (Some (inst_node s (slot_of b s))) f ≡ named_at (slice_get (nodes_of b) (slot_node b s)) f
    go None e = ap (λ i. named_at (Some (inst_node s i)) f) (gone b.insts.items s e) ∙ nowhere f
        ∙ sym (ap (λ n. named_at n f) (no_node b s e))
    go (Some i) e = let t = there b.insts.items s i e in sym (ap (λ n. named_at n f) (slot_got b s t.0))

-- a slot that is there, and one past the last
item_at : (is : List (Option Inst)) (s : ℕ) (d : Option Inst) → s < length is → get_or is s d ≡ get_or is s None
item_at [] s d h = absurd (omega arith)
item_at (x ∷ is) zero d h = refl
item_at (x ∷ is) (suc s) d h = item_at is s d (omega arith)

past_last : (is : List (Option Inst)) (s : ℕ) → length is ≤ s → get_or is s None ≡ None
past_last [] s h = refl
past_last (x ∷ is) zero h = absurd (omega arith)
past_last (x ∷ is) (suc s) h = past_last is s (omega arith)

-- a node of a slot names the places that the block's node of this slot names
pub item_named : (b : Block) (is : List (Option Inst)) (s : ℕ) (d : Option Inst) (f : Bool) → is ≡ b.insts.items
    → s < length is → named_at (Some (inst_node s (get_or is s d))) f
    ≡ named_at (slice_get (nodes_of b) (slot_node b s)) f
item_named b is s d f e h = ap (λ i. named_at (Some (inst_node s i)) f)
    (item_at is s d h ∙ ap (λ js. get_or js s None) e) ∙ slot_named b s f

-- a slot past the instructions names no place
pub past_named : (b : Block) (is : List (Option Inst)) (s : ℕ) (f : Bool) → is ≡ b.insts.items → length is ≤ s
    → no_place ≡ named_at (slice_get (nodes_of b) (slot_node b s)) f
past_named b is s f e h = sym (nowhere f)
    ∙ ap (λ i. named_at (Some (inst_node s i)) f) (sym (past_last is s h) ∙ ap (λ js. get_or js s None) e)
    ∙ slot_named b s f

-- a read that is there
pub read_named : (b : Block) (rs : List ReadSlot) (r : ℕ) (d : ReadSlot) (f : Bool) → rs ≡ b.reads.items
    → r < length rs → named_at (Some (read_node (get_or rs r d))) f ≡ named_at (slice_get (nodes_of b) r) f
read_named b rs r d f e h = sym (ap (λ n. named_at n f)
    (read_got b.reads.items (inst_nodes 0 b.insts.items) r (get_or rs r d)
    (ap (λ xs. slice_get xs r) (sym e) ∙ inside rs r d h)))

-- a read is declared below their number
pub read_there : (rs : List ReadSlot) (r : ℕ) → r < length rs → is_none (slice_get rs r) ≡ false
read_there [] r h = absurd (omega arith)
read_there (x ∷ rs) zero h = refl
read_there (x ∷ rs) (suc r) h = read_there rs r (omega arith)

pub read_past : (rs : List ReadSlot) (r : ℕ) → length rs ≤ r → is_none (slice_get rs r) ≡ true
read_past [] r h = refl
read_past (x ∷ rs) zero h = absurd (omega arith)
read_past (x ∷ rs) (suc r) h = read_past rs r (omega arith)

-- a node past the reads is a slot
pub node_named : (b : Block) (rs : List ReadSlot) (x : ℕ) (f : Bool) → rs ≡ b.reads.items → length rs ≤ x
    → named_at (slice_get (nodes_of b) (slot_node b (x - length rs))) f ≡ named_at (slice_get (nodes_of b) x) f
node_named b rs x f e l =
    let size : length rs ≡ length b.reads.items = ap length e in
    let same : slot_node b (x - length rs) ≡ x = omega (arith, l, size) in
    ap (λ y. named_at (slice_get (nodes_of b) y) f) same

-- the target of a place of a slot, and of a read
pub low_target : (b : Block) (p : ℕ) → p < 256
    → named_at (slice_get (nodes_of b) (slot_node b (p / 2))) (p % 2 == 0) ≡ target b p
low_target b p l =
    let t : nat_lt p 256 ≡ true = grind (arith, nat_tests, l) in
    sym (ap (λ (z : Bool). named_at (slice_get (nodes_of b) (cond z (slot_node b (p / 2)) ((p - 256) / 2)))
    (p % 2 == 0)) t)

pub high_target : (b : Block) (p : ℕ) → 256 ≤ p
    → named_at (slice_get (nodes_of b) ((p - 256) / 2)) (p % 2 == 0) ≡ target b p
high_target b p l =
    let t : nat_lt p 256 ≡ false = grind (arith, nat_tests, l) in
    sym (ap (λ (z : Bool). named_at (slice_get (nodes_of b) (cond z (slot_node b (p / 2)) ((p - 256) / 2)))
    (p % 2 == 0)) t)

-- an empty slot ---------------------------------------------------------------------------------

empty_gives : (b : Block) (s : ℕ) (a : ℕ → ℕ → ℕ) (pull : ℕ → Answer) (o : Option (Option Inst))
    → slice_get b.insts.items s ≡ o → slot_of b s ≡ None
    → node_gives (slice_get (nodes_of b) (slot_node b s)) a pull ≡ None
empty_gives b s a pull None e none = ap (λ n. node_gives n a pull) (no_node b s e)
empty_gives b s a pull (Some i) e none =
    let t = there b.insts.items s i e in
    ap (λ n. node_gives n a pull) (slot_got b s t.0 ∙ ap (λ o. Some (inst_node s o)) none)

-- an empty slot gives no token
pub empty_token : (f : Frame) (s w : ℕ) → slot_of f.code s ≡ None → token_with f (slot_node f.code s) w ≡ None
empty_token f s w none = empty_gives f.code s (computes f.code (λ y a. w) (slot_node f.code s)) (at f.spots)
    (slice_get f.code.insts.items s) refl none

no_mark : (n : Option Node) (own : ℕ → ℕ → ℕ) (pull : ℕ → Answer) (marks : ℕ → ℕ)
    → node_mark n own pull marks None ≡ 0
no_mark None own pull marks = refl
no_mark (Some n) own pull marks = refl

-- and has no mark
pub empty_mark : (f : Frame) (s : ℕ) → slot_of f.code s ≡ None → mark_with f (slot_node f.code s) ≡ 0
empty_mark f s none =
    ap (node_mark (slice_get (nodes_of f.code) (slot_node f.code s)) (node_fault f.code (slot_node f.code s))
    (at f.spots)
    (mark_on f.marks.spots)) (empty_token f s 0 none)
    ∙ no_mark (slice_get (nodes_of f.code) (slot_node f.code s)) (node_fault f.code (slot_node f.code s)) (at f.spots)
    (mark_on f.marks.spots)

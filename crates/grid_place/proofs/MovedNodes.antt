-- Where the nodes of a block stand in the moved block.
use Rattle.std.proofs.Common.{◌≡◌, ℕ, zero, suc, ◌+◌, ◌-◌, ◌<◌, ◌≤◌, Bool, true, false, cond}
use Rattle.std.proofs.Common.{List, [], ◌∷◌, ◌++◌, map, length, get_or, Option, Some, None}
use Rattle.std.proofs.Common.{slice_get}
use Rattle.std.proofs.Common.{refl, sym, ap, ap₂, subst, ◌∙◌, arith, nat_lt, le-ltb, ltb-true}
use Rattle.std.proofs.Common.{ltb-false, ◌⊎◌, inl, inr}
use Rattle.std.specs.Prelude.{option_map, nat_le, ◌&&◌}
use Rattle.std.proofs.lemmas.Option.{slice_get-map}
use Rattle.std.proofs.lemmas.List.{length-map}
use Rattle.trips_isa.specs.declared.node.Node.{Node}
use Rattle.trips_isa.specs.declared.block.Inst.{Inst}
use Rattle.trips_isa.specs.declared.block.ReadSlot.{ReadSlot}
use Rattle.trips_isa.specs.declared.block.Block.{Block}
use Rattle.trips_isa.specs.Fits.{FitsBlock, FitsRead, FitsSlot}
use Rattle.trips_isa.specs.Places.{read_node, inst_node, inst_nodes, nodes_of}
use Rattle.trips_isa.specs.Blocks.{is_read, slot_at, inst_at}
use Rattle.block_cases.specs.Orders.{slot_of}
use Rattle.block_cases.proofs.Nodes.{past_reads, not_read, slot_got}
use Rattle.grid_place.specs.Moves.{KeepsSlots, Permutes}
use Rattle.grid_place.specs.inside.Moves.{IsMoved, renamed_read, renamed_inst}
use Rattle.grid_place.proofs.Renaming.{place_goes, place_same, moved_node, read_goes, inst_goes}
use Rattle.grid_place.proofs.Renaming.{left_goes, right_goes, pred_goes, place_stays, place_low}
use Rattle.grid_place.proofs.Renaming.{place_middle}

-- a read stays, and a slot goes to its own
abbrev pub node_goes : (ℕ → ℕ) → Block → ℕ → ℕ
node_goes p b x = cond (is_read b x) x (length b.reads.items + p (slot_at b x))

-- a read stays where it is
pub goes_read : (p : ℕ → ℕ) (b : Block) (x : ℕ) → is_read b x ≡ true → node_goes p b x ≡ x
goes_read p b x e = ap (λ v. cond v x (length b.reads.items + p (slot_at b x))) e

pub goes_slot : (p : ℕ → ℕ) (b : Block) (x : ℕ) → is_read b x ≡ false
    → node_goes p b x ≡ length b.reads.items + p (slot_at b x)
goes_slot p b x e = ap (λ v. cond v x (length b.reads.items + p (slot_at b x))) e

-- two blocks with as many reads
module _ (p q : ℕ → ℕ) (b c : Block) (n : length c.reads.items ≡ length b.reads.items) where
  -- a node of the moved block is a read where the block's is
  pub still_read : (x : ℕ) → is_read c (node_goes p b x) ≡ is_read b x
  still_read x = by (is_read b x) refl
    where
      by : (v : Bool) → is_read b x ≡ v → is_read c (node_goes p b x) ≡ v
      by true e = ap (is_read c) (goes_read p b x e) ∙ ap (nat_lt x) n ∙ e
      by false e = ap (is_read c) (goes_slot p b x e)
          ∙ le-ltb (length b.reads.items + p (slot_at b x)) (length c.reads.items) (omega arith)

  -- a node that is no read stands at the new place of its slot
  pub slot_goes : (x : ℕ) → is_read b x ≡ false → slot_at c (node_goes p b x) ≡ p (slot_at b x)
  slot_goes x e =
      let same : length b.reads.items + p (slot_at b x) - length c.reads.items ≡ p (slot_at b x) =
      omega arith in
      ap (slot_at c) (goes_slot p b x e) ∙ same

  pub goes_back : ((s : ℕ) → q (p s) ≡ s) → (x : ℕ) → node_goes q c (node_goes p b x) ≡ x
  goes_back r x = by (is_read b x) refl
    where
      by : (v : Bool) → is_read b x ≡ v → node_goes q c (node_goes p b x) ≡ x
      by true e = goes_read q c (node_goes p b x) (still_read x ∙ e) ∙ goes_read p b x e
      by false e =
          let at : q (slot_at c (node_goes p b x)) ≡ slot_at b x =
          ap q (slot_goes x e) ∙ r (slot_at b x) in
          goes_slot q c (node_goes p b x) (still_read x ∙ e)
          ∙ ap₂ (λ k s. k + s) n at ∙ sym (not_read b x e)

-- reads
reads_stand : (p : ℕ → ℕ) (rs : List ReadSlot) (us vs : List Node) (x : ℕ) → x < length rs
    → ((k : ℕ) (d : ReadSlot) → k < length rs → FitsRead (get_or rs k d))
    → slice_get (map read_node (map (renamed_read p) rs) ++ us) x
    ≡ option_map (moved_node (place_goes p)) (slice_get (map read_node rs ++ vs) x)
reads_stand p [] us vs x l f = absurd (omega arith)
reads_stand p (r ∷ rs) us vs zero l f = ap Some (read_goes p r (f 0 r (omega arith)))
reads_stand p (r ∷ rs) us vs (suc x) l f = reads_stand p rs us vs x (omega arith)
    (λ k d m. f (suc k) d (omega arith))

-- slots
pub inst_stands : (is : List (Option Inst)) (j k : ℕ) → k < length is
    → slice_get (inst_nodes j is) k ≡ Some (inst_node (j + k) (get_or is k None))
inst_stands [] j k l = absurd (omega arith)
inst_stands (i ∷ is) j zero l =
    let same : j ≡ j + 0 = omega arith in ap (λ t. Some (inst_node t i)) same
inst_stands (i ∷ is) j (suc k) l =
    let same : suc j + k ≡ j + suc k = omega arith in
    inst_stands is (suc j) k (omega arith)
    ∙ ap (λ t. Some (inst_node t (get_or is k None))) same

pub slot_stands : (is : List (Option Inst)) (k : ℕ) → k < length is
    → slice_get (inst_nodes 0 is) k ≡ Some (inst_node k (get_or is k None))
slot_stands is k l =
    let same : 0 + k ≡ k = omega arith in
    inst_stands is 0 k l ∙ ap (λ t. Some (inst_node t (get_or is k None))) same

pub none_stands : (is : List (Option Inst)) (j k : ℕ) → length is ≤ k
    → slice_get (inst_nodes j is) k ≡ None
none_stands [] j k l = refl
none_stands (i ∷ is) j zero l = absurd (omega arith)
none_stands (i ∷ is) j (suc k) l = none_stands is (suc j) k (omega arith)

-- past the end of the instructions there is none
pub past_end : (is : List (Option Inst)) (k : ℕ) → length is ≤ k → get_or is k None ≡ None
past_end [] k l = refl
past_end (i ∷ is) zero l = absurd (omega arith)
past_end (i ∷ is) (suc k) l = past_end is k (omega arith)

-- what stands in each slot of a block that fits, fits
pub slot_fits : (b : Block) → FitsBlock b → (s : ℕ) → FitsSlot (slot_of b s)
slot_fits b f s = by (nat_lt s 128) refl
  where
    size : length b.insts.items ≡ 128
    size = f.insts

    by : (v : Bool) → nat_lt s 128 ≡ v → FitsSlot (slot_of b s)
    by true e = let l : s < 128 = ltb-true s 128 e in f.each_inst s None (omega arith)
    by false e =
        let l : 128 ≤ s = ltb-false s 128 e in
        subst FitsSlot (sym (past_end b.insts.items s (omega arith))) tt

read_got : (rs : List ReadSlot) (us : List Node) (x : ℕ) (n : Node) → x < length rs
    → slice_get (map read_node rs ++ us) x ≡ Some n → (r : ReadSlot) × n ≡ read_node r
read_got [] us x n l e = absurd (omega arith)
read_got (r ∷ rs) us zero n l e = (r, let k : Some (read_node r) ≡ Some n = e in cc)
read_got (r ∷ rs) us (suc x) n l e = read_got rs us x n (omega arith) e

-- a node that is a read
pub read_is : (b : Block) (x : ℕ) (n : Node) → is_read b x ≡ true
    → slice_get (nodes_of b) x ≡ Some n → (r : ReadSlot) × n ≡ read_node r
read_is b x n e i = read_got b.reads.items (inst_nodes 0 b.insts.items) x n
    (ltb-true x (length b.reads.items) e) i

-- the node of an instruction stands at its slot
pub slot_is : (j : ℕ) (o : Option Inst) → (inst_node j o).slot ≡ j
slot_is j None = refl
slot_is j (Some i) = refl

-- a node that is no read stands at a slot below 128
pub slot_low : (b : Block) → FitsBlock b → (x : ℕ) (n : Node) → is_read b x ≡ false
    → slice_get (nodes_of b) x ≡ Some n → slot_at b x < 128
slot_low b f x n e i = by (nat_lt (slot_at b x) 128) refl
  where
    size : length b.insts.items ≡ 128
    size = f.insts

    by : (v : Bool) → nat_lt (slot_at b x) 128 ≡ v → slot_at b x < 128
    by true l = ltb-true (slot_at b x) 128 l
    by false l =
        let h : 128 ≤ slot_at b x = ltb-false (slot_at b x) 128 l in
        let none : slice_get (nodes_of b) x ≡ None =
        past_reads b.reads.items b.insts.items x (slot_at b x) (not_read b x e)
        ∙ none_stands b.insts.items 0 (slot_at b x) (omega arith) in
        let k : Some n ≡ None = sym i ∙ none in
        absurd (cc)

slots_of : (b : Block) → FitsBlock b → (x : ℕ) (n : Node) → slice_get (nodes_of b) x ≡ Some n
    → (n.slot < 128) ⊎ (n.slot ≡ 449)
slots_of b f x n i = by (is_read b x) refl
  where
    by : (v : Bool) → is_read b x ≡ v → (n.slot < 128) ⊎ (n.slot ≡ 449)
    by true e = let r = read_is b x n e i in inr (ap (λ (m : Node). m.slot) r.1)
    by false e =
        let l : slot_at b x < 128 = slot_low b f x n e i in
        let s : n.slot ≡ slot_at b x = ap (λ (m : Node). m.slot) (slot_got b x n e i)
        ∙ slot_is (slot_at b x) (inst_at b x) in
        inl (subst (λ k. k < 128) (sym s) l)

right_of : (p : ℕ → ℕ) → KeepsSlots p → (s : ℕ) → (s < 128) ⊎ (s ≡ 449)
    → place_goes p (128 + s) ≡ 128 + place_goes p s
right_of p k s (inl l) = right_goes p s l ∙ ap (λ t. 128 + t) (sym (left_goes p s l))
right_of p k s (inr e) = place_stays p (128 + s) (omega arith)
    ∙ ap (λ t. 128 + t) (sym (place_stays p s (omega arith)))

predicate_of : (p : ℕ → ℕ) → KeepsSlots p → (s : ℕ) → (s < 128) ⊎ (s ≡ 449)
    → place_goes p (256 + s) ≡ 256 + place_goes p s
predicate_of p k s (inl l) = pred_goes p s l ∙ ap (λ t. 256 + t) (sym (left_goes p s l))
predicate_of p k s (inr e) = place_stays p (256 + s) (omega arith)
    ∙ ap (λ t. 256 + t) (sym (place_stays p s (omega arith)))

-- the nodes of two blocks, of which one is the other moved: node x stands at `to x`
pub record Standing (ns ms : List Node) (place to from : ℕ → ℕ) : Type 0 where
  pub apart : (a b : ℕ) → place a ≡ place b → a ≡ b
  pub low : (a : ℕ) → a < 384 → place a < 384
  pub high : (a : ℕ) → 384 ≤ a → place a ≡ a
  pub middle : (a : ℕ) → (nat_le 256 (place a) && nat_lt (place a) 384)
      ≡ (nat_le 256 a && nat_lt a 384)
  pub right : (x : ℕ) (n : Node) → slice_get ns x ≡ Some n
      → place (128 + n.slot) ≡ 128 + place n.slot
  pub predicate : (x : ℕ) (n : Node) → slice_get ns x ≡ Some n
      → place (256 + n.slot) ≡ 256 + place n.slot
  pub stands : (x : ℕ) → slice_get ms (to x) ≡ option_map (moved_node place) (slice_get ns x)
  pub returns : (x : ℕ) → from (to x) ≡ x
  pub returned : (y : ℕ) → to (from y) ≡ y

module _ (p q : ℕ → ℕ) (b c : Block) (f : FitsBlock b) (m : Permutes p q) (w : IsMoved p b c) where
  -- The moved block has as many reads as the block.
  pub as_many : length c.reads.items ≡ length b.reads.items
  as_many = ap length w.reads ∙ length-map b.reads.items (renamed_read p)

  -- each read of the moved block is the block's, renamed
  pub read_at : (x : ℕ) → slice_get c.reads.items x
      ≡ option_map (renamed_read p) (slice_get b.reads.items x)
  read_at x = ap (λ rs. slice_get rs x) w.reads ∙ slice_get-map (renamed_read p) b.reads.items x

  -- each instruction of the moved block is the block's, renamed
  pub inst_moved : (x : ℕ) → is_read b x ≡ false
      → inst_at c (node_goes p b x) ≡ option_map (renamed_inst p) (inst_at b x)
  inst_moved x e = ap (slot_of c) (slot_goes p q b c as_many x e) ∙ w.insts (slot_at b x)

  nodes_stand : (x : ℕ) → slice_get (nodes_of c) (node_goes p b x)
      ≡ option_map (moved_node (place_goes p)) (slice_get (nodes_of b) x)
  nodes_stand x = by (is_read b x) refl
    where
      size : length b.insts.items ≡ 128
      size = f.insts

      moved_size : length c.insts.items ≡ 128
      moved_size = w.size

      slot : (s : ℕ) → slice_get (inst_nodes 0 c.insts.items) (p s)
          ≡ option_map (moved_node (place_goes p)) (slice_get (inst_nodes 0 b.insts.items) s)
      slot s = in_block (nat_lt s 128) refl
        where
          in_block : (v : Bool) → nat_lt s 128 ≡ v
              → slice_get (inst_nodes 0 c.insts.items) (p s)
              ≡ option_map (moved_node (place_goes p)) (slice_get (inst_nodes 0 b.insts.items) s)
          in_block true e =
              let l : s < 128 = ltb-true s 128 e in
              let k : p s < 128 = m.there.within s l in
              slot_stands c.insts.items (p s) (omega arith)
              ∙ ap (λ o. Some (inst_node (p s) o)) (w.insts s)
              ∙ ap Some (inst_goes p s (slot_of b s) l (slot_fits b f s))
              ∙ sym (ap (option_map (moved_node (place_goes p)))
              (slot_stands b.insts.items s (omega arith)))
          in_block false e =
              let l : 128 ≤ s = ltb-false s 128 e in
              let k : p s ≡ s = m.there.beyond s l in
              none_stands c.insts.items 0 (p s) (omega arith)
              ∙ sym (ap (option_map (moved_node (place_goes p)))
              (none_stands b.insts.items 0 s (omega arith)))

      by : (v : Bool) → is_read b x ≡ v → slice_get (nodes_of c) (node_goes p b x)
          ≡ option_map (moved_node (place_goes p)) (slice_get (nodes_of b) x)
      by true e =
          ap (slice_get (nodes_of c)) (goes_read p b x e)
          ∙ ap (λ rs. slice_get (map read_node rs ++ inst_nodes 0 c.insts.items) x) w.reads
          ∙ reads_stand p b.reads.items (inst_nodes 0 c.insts.items) (inst_nodes 0 b.insts.items) x
          (ltb-true x (length b.reads.items) e) f.each_read
      by false e =
          past_reads c.reads.items c.insts.items (node_goes p b x) (p (slot_at b x))
          (goes_slot p b x e ∙ ap (λ k. k + p (slot_at b x)) (sym as_many))
          ∙ slot (slot_at b x)
          ∙ sym (ap (option_map (moved_node (place_goes p)))
          (past_reads b.reads.items b.insts.items x (slot_at b x) (not_read b x e)))

  -- the nodes of the moved block stand where those of the block go
  pub standing : Standing (nodes_of b) (nodes_of c) (place_goes p) (node_goes p b) (node_goes q c)
  standing = record {
    apart = place_same p q m;
    low = place_low p m.there;
    high = place_stays p;
    middle = place_middle p m.there;
    right = λ x n e. right_of p m.there n.slot (slots_of b f x n e);
    predicate = λ x n e. predicate_of p m.there n.slot (slots_of b f x n e);
    stands = nodes_stand;
    returns = goes_back p q b c as_many m.returns;
    returned = goes_back q p c b (sym as_many) m.returned;
  }

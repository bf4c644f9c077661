-- A moved block comes to what the block comes to.
use Rattle.std.proofs.Common.{◌≡◌, ◌≢◌, ℕ, ◌+◌, ◌<◌, ◌≤◌, Bool, true, false, List}
use Rattle.std.proofs.Common.{Option, Some, None, slice_get, slice_index, length, refl, sym, ap, ap₂, subst}
use Rattle.std.proofs.Common.{◌∙◌, arith, nat_lt, ltb-true, ltb-false}
use Rattle.std.specs.Prelude.{option_map}
use Rattle.std.proofs.Math.Path.{fun_ext}
use Rattle.trips_isa.specs.declared.node.Node.{Node}
use Rattle.trips_isa.specs.declared.block.Inst.{Inst}
use Rattle.trips_isa.specs.declared.block.ReadSlot.{ReadSlot}
use Rattle.trips_isa.specs.declared.block.Block.{Block}
use Rattle.trips_isa.specs.declared.block.Token.TheVariants.{Null, Word}
use Rattle.trips_isa.specs.declared.form.Form.{Form}
use Rattle.trips_isa.specs.declared.form.Form.TheVariants.{General, Immediate, Load, Store, Branch}
use Rattle.trips_isa.specs.declared.form.Form.TheVariants.{Constant}
use Rattle.trips_isa.specs.Forms.{form_of, size_of}
use Rattle.trips_isa.specs.Fits.{FitsBlock, FitsSlot, FitsForm}
use Rattle.trips_isa.specs.Rule.{Answer, rule}
use Rattle.trips_isa.specs.Places.{targets, names, read_node, nodes_of}
use Rattle.trips_isa.specs.Tables.{first, node_gives}
use Rattle.trips_isa.specs.Stores.{stored_of, bytes_seen}
use Rattle.trips_isa.specs.Blocks.{is_read, slot_at, inst_at, computes_if_read, computes}
use Rattle.trips_isa.specs.Blocks.{slot_computes}
use Rattle.trips_isa.specs.Blocks.{form_computes, at_place, stored_in, stored_if_read}
use Rattle.trips_isa.specs.inside.Blocks.{Solves}
use Rattle.trips_isa.specs.Blocks.{stored_by}
use Rattle.trips_isa.specs.Blocks.{store_of, leaves_with, leaves_if_read}
use Rattle.trips_isa.specs.Blocks.{read_word, slot_answered, answered_if_read, responses_in, given}
use Rattle.block_cases.specs.Good.{GoodBlock}
use Rattle.block_cases.specs.inside.Good.{NamesPlace}
use Rattle.block_cases.specs.Blocks.{wanted_of}
use Rattle.block_cases.specs.Orders.{slot_of}
use Rattle.block_cases.specs.inside.Shapes.{shape}
use Rattle.block_cases.proofs.Placed.{nodes_placed}
use Rattle.block_cases.proofs.OneToken.{good_machine}
use Rattle.block_cases.proofs.AnyBits.{one_producer, one_at_most}
use Rattle.block_cases.proofs.Unique.{present_shape}
use Rattle.block_cases.proofs.Settled.{bytes_seen_same, load_same}
use Rattle.block_cases.proofs.Nodes.{slot_got}
use Rattle.trips_isa.specs.Blocks.{Responses}
use Rattle.grid_place.specs.Moves.{Permutes}
use Rattle.grid_place.specs.inside.Moves.{IsMoved, renamed_read, renamed_inst}
use Rattle.grid_place.proofs.Found.{Given, Once, taken_alike}
use Rattle.grid_place.proofs.Renaming.{place_goes, left_goes, right_goes, place_stays}
use Rattle.grid_place.proofs.Renaming.{moved_node, names_same}
use Rattle.grid_place.proofs.MovedNodes.{Standing, standing, node_goes, still_read, slot_goes}
use Rattle.grid_place.proofs.MovedNodes.{as_many}
use Rattle.grid_place.proofs.MovedNodes.{goes_read, read_at, inst_moved, slot_fits, past_end, read_is}
use Rattle.grid_place.proofs.MovedNodes.{slot_is, slot_low}

-- the same is given in the moved nodes
module _ {A : Type 0} (ns ms : List Node) (place to from : ℕ → ℕ)
    (s : Standing ns ms place to from) (f g : ℕ → Option A) (same : (x : ℕ) → g (to x) ≡ f x) where
  given_there : (q x : ℕ) (v : A) → Given ns q f x v → Given ms (place q) g (to x) v
  given_there q x v h = record {
    node = moved_node place h.node;
    is = s.stands x ∙ ap (option_map (moved_node place)) h.is;
    named = names_same place s.apart h.node q ∙ h.named;
    value = same x ∙ h.value;
  }

  given_back : (q y : ℕ) (v : A) → Given ms (place q) g y v → Given ns q f (from y) v
  given_back q y v h = by (slice_get ns (from y)) refl
    where
      there : slice_get ms y ≡ option_map (moved_node place) (slice_get ns (from y))
      there = ap (slice_get ms) (sym (s.returned y)) ∙ s.stands (from y)

      by : (o : Option Node) → slice_get ns (from y) ≡ o → Given ns q f (from y) v
      by None e = absurd (let n : Some h.node ≡ None = sym h.is ∙ there
          ∙ ap (option_map (moved_node place)) e in cc)
      by (Some n) e = record {
        node = n;
        is = e;
        named = sym (names_same place s.apart n q)
            ∙ ap (λ k. names (targets k) (place q)) (moved n e) ∙ h.named;
        value = sym (same (from y)) ∙ ap g (s.returned y) ∙ h.value;
      }
        where
          moved : (n : Node) → slice_get ns (from y) ≡ Some n → moved_node place n ≡ h.node
          moved n e =
              let i : Some h.node ≡ Some (moved_node place n) =
              sym h.is ∙ there ∙ ap (option_map (moved_node place)) e in
              cc

  -- what is taken at a place is the same in both blocks
  pub first_alike : (q : ℕ) → Once ns q f → first ns q f ≡ first ms (place q) g
  first_alike q once = taken_alike ns ms q (place q) f g once
      (λ x v h. (to x, given_there q x v h)) (λ y v h. (from y, given_back q y v h))

-- what only nodes that fire give, one node gives
module _ (b : Block) (fits : FitsBlock b) (good : GoodBlock b) (responses : Responses) (f : ℕ → Answer)
    (solves : Solves b responses f) where
  producers : (q x y : ℕ) → q < 449 → NamesPlace (nodes_of b) x q → NamesPlace (nodes_of b) y q
      → f x ≢ None → f y ≢ None → x ≡ y
  producers q x y lt n k u v = one_producer (nodes_of b) (λ z. shape (f z)) q
      (one_at_most (nodes_of b) (wanted_of b) (λ z. shape (f z))
      (good_machine (nodes_of b) (wanted_of b) good.ranked
      (nodes_placed b fits) good.good _ f solves)
      q lt) x y n k (present_shape (f x) u) (present_shape (f y) v)

  -- at each place of a good block at most one thing is given
  pub one_gives : {A : Type 0} → (h : ℕ → Option A) → ((x : ℕ) → f x ≡ None → h x ≡ None) → (q : ℕ)
      → q < 449 → Once (nodes_of b) q h
  one_gives h silent q lt x y u v a c =
      let fired : (z : ℕ) (w : _) → h z ≡ Some w → f z ≢ None =
      λ z w e n. (let k : Some w ≡ None = sym e ∙ silent z n in absurd (cc)) in
      let here : x ≡ y = producers q x y lt (a.node, a.is, a.named) (c.node, c.is, c.named)
      (fired x u a.value) (fired y v c.value) in
      let both : Some u ≡ Some v = sym a.value ∙ ap h here ∙ c.value in
      cc

silent_in : (b : Block) (f : ℕ → Answer) (j : ℕ) (o : Option Inst) (t : Answer) → t ≡ None
    → stored_in b f j o t ≡ None
silent_in b f j None t e = refl
silent_in b f j (Some i) None e = refl
silent_in b f j (Some i) (Some t) e = absurd (cc)

stored_silent : (b : Block) (f : ℕ → Answer) (x : ℕ) → f x ≡ None → stored_by b f x ≡ None
stored_silent b f x e = by (is_read b x)
  where
    by : (v : Bool) → stored_if_read v b f x ≡ None
    by true = refl
    by false = silent_in b f (slot_at b x) (inst_at b x) (f x) e

silent_out : (o : Option Inst) (t : Answer) → t ≡ None → leaves_with o t ≡ None
silent_out None t e = refl
silent_out (Some i) None e = refl
silent_out (Some i) (Some t) e = absurd (cc)

-- a node without a token leaves by no exit
pub leaves_silent : (b : Block) (f : ℕ → Answer) (x : ℕ) → f x ≡ None
    → leaves_if_read (is_read b x) b f x ≡ None
leaves_silent b f x e = by (is_read b x)
  where
    by : (v : Bool) → leaves_if_read v b f x ≡ None
    by true = refl
    by false = silent_out (inst_at b x) (f x) e

-- instructions whose targets are renamed do the same
stored_renamed : (p : ℕ → ℕ) (i : Inst) (l r : Answer)
    → stored_of (renamed_inst p i) l r ≡ stored_of i l r
stored_renamed p i None r = refl
stored_renamed p i (Some l) None = refl
stored_renamed p i (Some Null) (Some r) = refl
stored_renamed p i (Some (Word a)) (Some Null) = refl
stored_renamed p i (Some (Word a)) (Some (Word v)) = refl

computed_renamed : (p : ℕ → ℕ) (i : Inst) (answer : ℕ → ℕ) (l r : ℕ) (t : Form)
    → form_computes t (renamed_inst p i) answer l r ≡ form_computes t i answer l r
computed_renamed p i answer l r General = refl
computed_renamed p i answer l r Immediate = refl
computed_renamed p i answer l r Constant = refl
computed_renamed p i answer l r Load = refl
computed_renamed p i answer l r Store = refl
computed_renamed p i answer l r Branch = refl

word_renamed : (p : ℕ → ℕ) (regs : List ℕ) (o : Option ReadSlot)
    → read_word regs (option_map (renamed_read p) o) ≡ read_word regs o
word_renamed p regs None = refl
word_renamed p regs (Some r) = refl

module _ (p q : ℕ → ℕ) (b c : Block) (fits : FitsBlock b) (good : GoodBlock b) (m : Permutes p q)
    (w : IsMoved p b c) (responses : Responses) (f g : ℕ → Answer) (solves : Solves b responses f)
    (same : (x : ℕ) → g (node_goes p b x) ≡ f x) where
  stand : Standing (nodes_of b) (nodes_of c) (place_goes p) (node_goes p b) (node_goes q c)
  stand = standing p q b c fits m w

  still : (x : ℕ) → is_read c (node_goes p b x) ≡ is_read b x
  still = still_read p q b c (as_many p q b c fits m w)

  slot_to : (x : ℕ) → is_read b x ≡ false → slot_at c (node_goes p b x) ≡ p (slot_at b x)
  slot_to = slot_goes p q b c (as_many p q b c fits m w)

  -- each place of the moved block gets the token of the block's place
  pub token_alike : (r : ℕ) → r < 449 → at_place b f r ≡ at_place c g (place_goes p r)
  token_alike r lt = first_alike (nodes_of b) (nodes_of c) (place_goes p) (node_goes p b)
      (node_goes q c) stand f g same r
      (one_gives b fits good responses f solves f (λ x e. e) r lt)

  left_alike : (s : ℕ) → s < 128 → at_place b f s ≡ at_place c g (p s)
  left_alike s l = token_alike s (omega arith) ∙ ap (at_place c g) (left_goes p s l)

  right_alike : (s : ℕ) → s < 128 → at_place b f (128 + s) ≡ at_place c g (128 + p s)
  right_alike s l = token_alike (128 + s) (omega arith) ∙ ap (at_place c g) (right_goes p s l)

  stored_at : (s : ℕ) → s < 128 → (o : Option Inst) (t : Answer)
      → stored_in c g (p s) (option_map (renamed_inst p) o) t ≡ stored_in b f s o t
  stored_at s l None t = refl
  stored_at s l (Some i) None = refl
  stored_at s l (Some i) (Some t) = stored_renamed p i _ _
      ∙ sym (ap₂ (stored_of i) (left_alike s l) (right_alike s l))

  stored_slot : (s : ℕ) (t : Answer)
      → stored_in c g (p s) (option_map (renamed_inst p) (slot_of b s)) t
      ≡ stored_in b f s (slot_of b s) t
  stored_slot s t = by (nat_lt s 128) refl
    where
      size : length b.insts.items ≡ 128
      size = fits.insts

      by : (v : Bool) → nat_lt s 128 ≡ v
          → stored_in c g (p s) (option_map (renamed_inst p) (slot_of b s)) t
          ≡ stored_in b f s (slot_of b s) t
      by true e = stored_at s (ltb-true s 128 e) (slot_of b s) t
      by false e =
          let l : 128 ≤ s = ltb-false s 128 e in
          let none : slot_of b s ≡ None = past_end b.insts.items s (omega arith) in
          ap (λ o. stored_in c g (p s) (option_map (renamed_inst p) o) t) none
          ∙ sym (ap (λ o. stored_in b f s o t) none)

  stored_alike : (x : ℕ) → stored_by c g (node_goes p b x) ≡ stored_by b f x
  stored_alike x = by (is_read c (node_goes p b x)) (is_read b x) refl (still x)
    where
      by : (u v : Bool) → is_read b x ≡ v → u ≡ v
          → stored_if_read u c g (node_goes p b x) ≡ stored_if_read v b f x
      by true true e k = refl
      by false true e k = absurd (cc)
      by true false e k = absurd (cc)
      by false false e k =
          ap (λ j. stored_in c g j (inst_at c (node_goes p b x)) (g (node_goes p b x)))
          (slot_to x e)
          ∙ ap (λ o. stored_in c g (p (slot_at b x)) o (g (node_goes p b x)))
          (inst_moved p q b c fits m w x e)
          ∙ ap (stored_in c g (p (slot_at b x)) (option_map (renamed_inst p) (inst_at b x)))
          (same x)
          ∙ stored_slot (slot_at b x) (f x)

  -- what is stored under a number is the same in both blocks
  pub store_alike : (n : ℕ) → n < 33 → store_of b f n ≡ store_of c g n
  store_alike n lt = first_alike (nodes_of b) (nodes_of c) (place_goes p) (node_goes p b)
      (node_goes q c) stand (stored_by b f) (stored_by c g) stored_alike (416 + n)
      (one_gives b fits good responses f solves (stored_by b f) (stored_silent b f) (416 + n)
      (omega arith))
      ∙ ap (λ r. first (nodes_of c) r (stored_by c g)) (place_stays p (416 + n) (omega arith))

  -- what each node gives
  module _ (regs mem : List ℕ) where
    loaded : (i : Inst) (l r : ℕ) (t : Form) → FitsForm t i
        → form_computes t i (λ a. bytes_seen (store_of c g) (slice_index mem) i.number a (size_of i.op)) l r
        ≡ form_computes t i (λ a. bytes_seen (store_of b f) (slice_index mem) i.number a (size_of i.op)) l r
    loaded i l r General h = refl
    loaded i l r Immediate h = refl
    loaded i l r Constant h = refl
    loaded i l r Store h = refl
    loaded i l r Branch h = refl
    loaded i l r Load h =
        let few : i.number < 32 = h.2 in
        load_same i _ _ l (λ a. bytes_seen_same (store_of c g) (store_of b f) (slice_index mem) i.number a
        (size_of i.op) (λ k lt. sym (store_alike k (omega arith))))

    slot_alike : (o : Option Inst) → FitsSlot o → (l r : ℕ)
        → slot_computes (option_map (renamed_inst p) o)
        (λ a. slot_answered (store_of c g) mem (option_map (renamed_inst p) o) a) l r
        ≡ slot_computes o (λ a. slot_answered (store_of b f) mem o a) l r
    slot_alike None h l r = refl
    slot_alike (Some i) h l r = computed_renamed p i _ l r (form_of i.op)
        ∙ loaded i l r (form_of i.op) h

    computed_alike : (x l r : ℕ) → computes c (responses_in c regs mem g) (node_goes p b x) l r
        ≡ computes b (responses_in b regs mem f) x l r
    computed_alike x l r = by (is_read c (node_goes p b x)) (is_read b x) refl (still x)
      where
        by : (u v : Bool) → is_read b x ≡ v → u ≡ v
            → computes_if_read u c (λ a. answered_if_read u c regs mem g (node_goes p b x) a)
            (node_goes p b x) l r
            ≡ computes_if_read v b (λ a. answered_if_read v b regs mem f x a) x l r
        by true true e k = ap (λ y. read_word regs (slice_get c.reads.items y)) (goes_read p b x e)
            ∙ ap (read_word regs) (read_at p q b c fits m w x)
            ∙ word_renamed p regs (slice_get b.reads.items x)
        by false true e k = absurd (cc)
        by true false e k = absurd (cc)
        by false false e k =
            ap (λ o. slot_computes o (λ a. slot_answered (store_of c g) mem o a) l r)
            (inst_moved p q b c fits m w x e)
            ∙ slot_alike (inst_at b x) (slot_fits b fits (slot_at b x)) l r

    pulled_alike : (x : ℕ) (n : Node) → slice_get (nodes_of b) x ≡ Some n → (a : ℕ → ℕ → ℕ)
        → node_gives (Some (moved_node (place_goes p) n)) a (at_place c g)
        ≡ node_gives (Some n) a (at_place b f)
    pulled_alike x n i a = by (is_read b x) refl
      where
        reads : (n : Node) (r : ReadSlot) → n ≡ read_node r
            → node_gives (Some (moved_node (place_goes p) n)) a (at_place c g)
            ≡ node_gives (Some n) a (at_place b f)
        reads n r e =
            ap (λ k. node_gives (Some (moved_node (place_goes p) k)) a (at_place c g)) e
            ∙ sym (ap (λ k. node_gives (Some k) a (at_place b f)) e)

        by : (v : Bool) → is_read b x ≡ v
            → node_gives (Some (moved_node (place_goes p) n)) a (at_place c g)
            ≡ node_gives (Some n) a (at_place b f)
        by true e = let h = read_is b x n e i in reads n h.0 h.1
        by false e =
            let s : n.slot ≡ slot_at b x = ap (λ (m : Node). m.slot) (slot_got b x n e i)
            ∙ slot_is (slot_at b x) (inst_at b x) in
            let l : slot_at b x < 128 = slot_low b fits x n e i in
            let low : n.slot < 128 = subst (λ k. k < 128) (sym s) l in
            sym (ap (λ t. rule n.role n.sense a t (at_place b f (128 + n.slot))
            (at_place b f (256 + n.slot)))
            (token_alike n.slot (omega arith))
            ∙ ap (λ t. rule n.role n.sense a (at_place c g (place_goes p n.slot)) t
            (at_place b f (256 + n.slot)))
            (token_alike (128 + n.slot) (omega arith) ∙ ap (at_place c g) (stand.right x n i))
            ∙ ap (rule n.role n.sense a (at_place c g (place_goes p n.slot))
            (at_place c g (128 + place_goes p n.slot)))
            (token_alike (256 + n.slot) (omega arith) ∙ ap (at_place c g) (stand.predicate x n i)))

    -- what each node is given is the same in both blocks
    pub given_alike : (x : ℕ) → given c regs mem g (node_goes p b x) ≡ given b regs mem f x
    unfolding given
    given_alike x =
        ap (λ (a : ℕ → ℕ → ℕ). node_gives (slice_get (nodes_of c) (node_goes p b x)) a
        (at_place c g))
        (fun_ext (λ l. fun_ext (λ r. computed_alike x l r)))
        ∙ ap (λ o. node_gives o (computes b (responses_in b regs mem f) x) (at_place c g))
        (stand.stands x)
        ∙ by (slice_get (nodes_of b) x) refl
      where
        by : (o : Option Node) → slice_get (nodes_of b) x ≡ o
            → node_gives (option_map (moved_node (place_goes p)) o)
            (computes b (responses_in b regs mem f) x) (at_place c g)
            ≡ node_gives o (computes b (responses_in b regs mem f) x) (at_place b f)
        by None i = refl
        by (Some n) i = pulled_alike x n i (computes b (responses_in b regs mem f) x)

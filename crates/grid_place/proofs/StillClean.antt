-- Where nothing that a block does faults, nothing that the moved block does faults.
use Rattle.std.proofs.Common.{◌≡◌, ℕ, ◌+◌, ◌<◌, Bool, true, false, List, Option, Some, None, slice_get}
use Rattle.std.proofs.Common.{refl, sym, ap, ap₂, subst, ◌∙◌, arith}
use Rattle.std.specs.Prelude.{option_map}
use Rattle.std.proofs.Math.Path.{fun_ext}
use Rattle.trips_isa.specs.declared.node.Node.{Node}
use Rattle.trips_isa.specs.declared.block.Inst.{Inst}
use Rattle.trips_isa.specs.declared.block.ReadSlot.{ReadSlot}
use Rattle.trips_isa.specs.declared.block.Block.{Block}
use Rattle.trips_isa.specs.declared.form.Form.{Form}
use Rattle.trips_isa.specs.declared.form.Form.TheVariants.{General, Immediate, Load, Store, Branch}
use Rattle.trips_isa.specs.declared.form.Form.TheVariants.{Constant}
use Rattle.trips_isa.specs.Forms.{form_of}
use Rattle.trips_isa.specs.Fits.{FitsBlock}
use Rattle.trips_isa.specs.Rule.{Answer}
use Rattle.trips_isa.specs.Places.{read_node, nodes_of}
use Rattle.trips_isa.specs.Tables.{deepest}
use Rattle.trips_isa.specs.Operands.{operands}
use Rattle.trips_isa.specs.Blocks.{is_read, slot_at, inst_at, at_place, responses_in, token_of}
use Rattle.trips_isa.specs.inside.Acts.{Act, is_clean, acts_in, own_acts, acts_if_read, acts_by, fired_acts}
use Rattle.trips_isa.specs.inside.Acts.{node_acts, IsClean}
use Rattle.block_cases.specs.Good.{GoodBlock}
use Rattle.block_cases.proofs.Nodes.{slot_got}
use Rattle.grid_place.specs.Moves.{Permutes}
use Rattle.grid_place.specs.inside.Moves.{IsMoved, renamed_inst}
use Rattle.grid_place.proofs.Renaming.{place_goes, moved_node}
use Rattle.grid_place.proofs.MovedNodes.{Standing, standing, node_goes, still_read, as_many}
use Rattle.grid_place.proofs.MovedNodes.{inst_moved, read_is, slot_is, slot_low}
use Rattle.grid_place.proofs.Outcome.{token_alike}
use Rattle.grid_place.proofs.Alike.{solves, same, moved_tokens}

-- an instruction whose targets are renamed does the same
acts_renamed : (p : ℕ → ℕ) (i : Inst) (l r : ℕ) (t : Form)
    → acts_in t (renamed_inst p i) l r ≡ acts_in t i l r
acts_renamed p i l r General = refl
acts_renamed p i l r Immediate = refl
acts_renamed p i l r Constant = refl
acts_renamed p i l r Load = refl
acts_renamed p i l r Store = refl
acts_renamed p i l r Branch = refl

own_renamed : (p : ℕ → ℕ) (o : Option Inst) (l r : ℕ)
    → own_acts (option_map (renamed_inst p) o) l r ≡ own_acts o l r
own_renamed p None l r = refl
own_renamed p (Some i) l r = acts_renamed p i l r (form_of i.op)

module _ (p q : ℕ → ℕ) (b c : Block) (fits : FitsBlock b) (good : GoodBlock b) (m : Permutes p q)
    (w : IsMoved p b c) (regs mem : List ℕ) where
  abbrev tokens : ℕ → Answer
  tokens = token_of b regs mem deepest

  abbrev moved : ℕ → Answer
  moved y = tokens (node_goes q c y)

  stand : Standing (nodes_of b) (nodes_of c) (place_goes p) (node_goes p b) (node_goes q c)
  stand = standing p q b c fits m w

  alike : (r : ℕ) → r < 449 → at_place b tokens r ≡ at_place c moved (place_goes p r)
  alike = token_alike p q b c fits good m w (responses_in b regs mem tokens) tokens moved
      (solves p q b c fits good m w regs mem) (same p q b c fits good m w regs mem)

  own_alike : (x l r : ℕ)
      → acts_if_read (is_read c (node_goes p b x)) (inst_at c (node_goes p b x)) l r
      ≡ acts_if_read (is_read b x) (inst_at b x) l r
  own_alike x l r = by (is_read c (node_goes p b x)) (is_read b x) refl
      (still_read p q b c (as_many p q b c fits m w) x)
    where
      by : (u v : Bool) → is_read b x ≡ v → u ≡ v
          → acts_if_read u (inst_at c (node_goes p b x)) l r ≡ acts_if_read v (inst_at b x) l r
      by true true e k = refl
      by false true e k = absurd (cc)
      by true false e k = absurd (cc)
      by false false e k = ap (λ o. own_acts o l r) (inst_moved p q b c fits m w x e)
          ∙ own_renamed p (inst_at b x) l r

  fired_alike : (x : ℕ) (n : Node) → slice_get (nodes_of b) x ≡ Some n → (own : ℕ → ℕ → List Act)
      (t : Answer) → fired_acts (Some (moved_node (place_goes p) n)) own (at_place c moved) t
      ≡ fired_acts (Some n) own (at_place b tokens) t
  fired_alike x n i own None = refl
  fired_alike x n i own (Some t) = by (is_read b x) refl
    where
      reads : (n : Node) (r : ReadSlot) → n ≡ read_node r
          → fired_acts (Some (moved_node (place_goes p) n)) own (at_place c moved) (Some t)
          ≡ fired_acts (Some n) own (at_place b tokens) (Some t)
      reads n r e = ap (λ k. fired_acts (Some (moved_node (place_goes p) k)) own
          (at_place c moved) (Some t)) e
          ∙ sym (ap (λ k. fired_acts (Some k) own (at_place b tokens) (Some t)) e)

      by : (v : Bool) → is_read b x ≡ v
          → fired_acts (Some (moved_node (place_goes p) n)) own (at_place c moved) (Some t)
          ≡ fired_acts (Some n) own (at_place b tokens) (Some t)
      by true e = let h = read_is b x n e i in reads n h.0 h.1
      by false e =
          let s : n.slot ≡ slot_at b x = ap (λ (m : Node). m.slot) (slot_got b x n e i)
          ∙ slot_is (slot_at b x) (inst_at b x) in
          let l : slot_at b x < 128 = slot_low b fits x n e i in
          let low : n.slot < 128 = subst (λ k. k < 128) (sym s) l in
          sym (ap (λ t. acts_by own (operands n.role t (at_place b tokens (128 + n.slot))))
          (alike n.slot (omega arith))
          ∙ ap (λ t. acts_by own (operands n.role (at_place c moved (place_goes p n.slot)) t))
          (alike (128 + n.slot) (omega arith) ∙ ap (at_place c moved) (stand.right x n i)))

  node_alike : (x : ℕ) → node_acts c moved (node_goes p b x) ≡ node_acts b tokens x
  node_alike x =
      ap (λ (own : ℕ → ℕ → List Act). fired_acts (slice_get (nodes_of c) (node_goes p b x)) own
      (at_place c moved) (moved (node_goes p b x)))
      (fun_ext (λ l. fun_ext (λ r. own_alike x l r)))
      ∙ ap₂ (λ o t. fired_acts o (acts_if_read (is_read b x) (inst_at b x)) (at_place c moved) t)
      (stand.stands x) (same p q b c fits good m w regs mem x)
      ∙ by (slice_get (nodes_of b) x) refl
    where
      by : (o : Option Node) → slice_get (nodes_of b) x ≡ o
          → fired_acts (option_map (moved_node (place_goes p)) o)
          (acts_if_read (is_read b x) (inst_at b x)) (at_place c moved) (tokens x)
          ≡ fired_acts o (acts_if_read (is_read b x) (inst_at b x)) (at_place b tokens) (tokens x)
      by None i = refl
      by (Some n) i = fired_alike x n i (acts_if_read (is_read b x) (inst_at b x)) (tokens x)

  -- where nothing that a block does faults, nothing that the moved block does faults
  pub still_clean : IsClean b tokens → IsClean c (token_of c regs mem deepest)
  still_clean h = subst (IsClean c) (moved_tokens p q b c fits good m w regs mem)
      (λ y. subst (λ x. is_clean (node_acts c moved x) ≡ true) (stand.returned y)
      (ap is_clean (node_alike (node_goes q c y)) ∙ h (node_goes q c y)))

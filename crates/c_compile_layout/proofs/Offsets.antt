-- A flow block whose branches hold offsets has the tables of the block whose branches hold labels.
use Rattle.std.proofs.Common.{◌≡◌, ℕ, suc, List, [], ◌∷◌, ◌++◌, map, Option, Some, None, refl}
use Rattle.std.proofs.Common.{sym, ap, ap₂, subst, ◌∙◌}
use Rattle.std.specs.Prelude.{ℤ, slice_index, cond}
use Rattle.std.proofs.lemmas.List.{map-append}
use Rattle.std.proofs.Math.Path.{fun_ext}
use Rattle.trips_isa.specs.declared.op.Op.{Op}
use Rattle.trips_isa.specs.declared.op.Op.TheVariants.{Bro, Callo}
use Rattle.trips_isa.specs.declared.form.Form.{Form}
use Rattle.trips_isa.specs.declared.form.Form.TheVariants.{General, Immediate, Load, Store, Branch}
use Rattle.trips_isa.specs.declared.form.Form.TheVariants.{Constant}
use Rattle.trips_isa.specs.declared.block.Token.{Token}
use Rattle.trips_isa.specs.declared.block.Token.TheVariants.{Null, Word}
use Rattle.trips_isa.specs.declared.block.Inst.{Inst}
use Rattle.trips_isa.specs.declared.block.Stored.{Stored}
use Rattle.trips_isa.specs.Forms.{form_of, role_of, size_of}
use Rattle.trips_isa.specs.Rule.{Answer, rule}
use Rattle.trips_isa.specs.Tables.{or_else}
use Rattle.trips_isa.specs.Blocks.{form_computes}
use Rattle.trips_isa.specs.Stores.{bytes_seen}
use Rattle.ir_forms.specs.declared.flow.FlowNode.{FlowNode}
use Rattle.ir_forms.specs.declared.flow.FlowBlock.{FlowBlock}
use Rattle.ir_forms.specs.inside.FlowRuns.{first, sense_of, guard_token, inst_of, gives, Obeys}
use Rattle.ir_forms.specs.inside.FlowRuns.{stored_in, stores, meant, met, AtStart, leaving_in, exits}
use Rattle.ir_forms.specs.inside.FlowRuns.{act_tokens, fired}
use Rattle.trips_isa.specs.inside.Acts.{Act}
use Rattle.c_compile_layout.specs.inside.Linking.{resolved_node, resolved, resolved_inst, by_offset}

module _ (chunk : ℕ → ℕ) (k : ℕ) where
  abbrev pub moved : FlowNode → FlowNode
  moved n = resolved_node (by_offset chunk k) n

  -- only a branch has another immediate
  keeps : (op : Op) (imm : ℤ) → (form_of op ≡ Branch → ⊥) → by_offset chunk k op imm ≡ imm
  keeps Bro imm e = absurd (e refl)
  keeps Callo imm e = absurd (e refl)
  keeps _ imm e = refl

  -- a node that is no branch stays as it is
  pub kept : (n : FlowNode) → (form_of n.op ≡ Branch → ⊥) → moved n ≡ n
  kept n e = ap (λ i. record n { imm = i }) (keeps n.op n.imm e)

  -- what is the same of each branch is the same of each node
  by_form : {X : Type 0} (F : FlowNode → X) (n : FlowNode)
      → (form_of n.op ≡ Branch → F (moved n) ≡ F n) → F (moved n) ≡ F n
  by_form F n e = go (form_of n.op) refl
    where
      other : (x : Form) → form_of n.op ≡ x → (x ≡ Branch → ⊥) → F (moved n) ≡ F n
      other x s d = ap F (kept n (λ b. d (sym s ∙ b)))

      go : (x : Form) → form_of n.op ≡ x → F (moved n) ≡ F n
      go Branch s = e s
      go General s = ap F (kept n (λ b. absurd (cc)))
      go Immediate s = ap F (kept n (λ b. absurd (cc)))
      go Load s = ap F (kept n (λ b. absurd (cc)))
      go Store s = ap F (kept n (λ b. absurd (cc)))
      go Constant s = ap F (kept n (λ b. absurd (cc)))

  computes_same : (st : ℕ → Option Stored) (mem : List ℕ) (j : ℕ) (n : FlowNode)
      → meant st mem j (moved n) ≡ meant st mem j n
  computes_same st mem j n =
      by_form (λ n. meant st mem j n) n (λ s.
      ap (λ e. form_computes e (inst_of (moved n)) (λ a. bytes_seen st (slice_index mem) n.number a (size_of n.op))) s
      ∙ sym (ap (λ e. form_computes e (inst_of n)
      (λ a. bytes_seen st (slice_index mem) n.number a (size_of n.op))) s))

  stored_same : (regs : ℕ → ℕ) (h : ℕ → Answer) (n : FlowNode) (i : ℕ)
      → stored_in (form_of n.op) regs h (moved n) i ≡ stored_in (form_of n.op) regs h n i
  stored_same regs h n i =
      by_form (λ n. stored_in (form_of n.op) regs h n i) n (λ s.
      ap (λ e. stored_in e regs h (moved n) i) s ∙ sym (ap (λ e. stored_in e regs h n i) s))

  stores_at : (regs : ℕ → ℕ) (h : ℕ → Answer) (ns : List FlowNode) (i : ℕ)
      → stores regs h (map moved ns) i ≡ stores regs h ns i
  stores_at regs h [] i = refl
  stores_at regs h (n ∷ ns) i = ap₂ or_else (stored_same regs h n i) (stores_at regs h ns i)

  -- offsets in place of labels change nothing that is stored
  pub stores_same : (regs : ℕ → ℕ) (h : ℕ → Answer) (ns : List FlowNode)
      → stores regs h (map moved ns) ≡ stores regs h ns
  stores_same regs h ns = fun_ext (stores_at regs h ns)

  gives_same : (regs : ℕ → ℕ) (h : ℕ → Answer) (st : ℕ → Option Stored) (mem : List ℕ) (j : ℕ)
      (n : FlowNode) → gives regs h (meant st mem j (moved n)) (moved n) ≡ gives regs h (meant st mem j n) n
  gives_same regs h st mem j n =
      ap (λ a. rule (role_of n.op) (sense_of n.guard) a (first regs h n.left) (first regs h n.right)
      (guard_token h n.guard)) (computes_same st mem j n)

  obeys_same : (regs : ℕ → ℕ) (h : ℕ → Answer) (st : ℕ → Option Stored) (mem : List ℕ) (j : ℕ)
      (ns : List FlowNode) → Obeys regs (meant st mem) h j ns
      → Obeys regs (meant st mem) h j (map moved ns)
  obeys_same regs h st mem j [] o = tt
  obeys_same regs h st mem j (n ∷ ns) o =
      (o.0 ∙ sym (gives_same regs h st mem j n), obeys_same regs h st mem (suc j) ns o.1)

  -- offsets in place of labels leave a table of an entry state one
  pub start_same : (regs mem : List ℕ) (rg : ℕ → ℕ) (h : ℕ → Answer) (f : FlowBlock)
      → AtStart rg mem h f → AtStart rg mem h (resolved (by_offset chunk k) f)
  start_same regs mem rg h f o =
      subst (λ st. Obeys rg (meant st mem) h 0 (map moved f.nodes)) (sym (stores_same rg h f.nodes))
      (obeys_same rg h (stores rg h f.nodes) mem 0 f.nodes o)

  -- the branch that is taken has its offset
  abbrev pub moved_exit : Inst × Token → Inst × Token
  moved_exit e = (resolved_inst (by_offset chunk k) e.0, e.1)

  leaving_same : (x : Form) (n : FlowNode) (t : Answer)
      → leaving_in x (moved n) t ≡ map moved_exit (leaving_in x n t)
  leaving_same Branch n None = refl
  leaving_same Branch n (Some t) = refl
  leaving_same _ n t = refl

  -- offsets in place of labels change an exit by its offset alone
  pub exits_same : (h : ℕ → Answer) (j : ℕ) (ns : List FlowNode)
      → exits h j (map moved ns) ≡ map moved_exit (exits h j ns)
  exits_same h j [] = refl
  exits_same h j (n ∷ ns) =
      ap₂ (λ x y. x ++ y) (leaving_same (form_of n.op) n (h j)) (exits_same h (suc j) ns)
      ∙ sym (map-append moved_exit (leaving_in (form_of n.op) n (h j)) (exits h (suc j) ns))

  -- the same operations that can fault are done, since no branch does any

  branch_acts : (n : FlowNode) (l r : Answer)
      → act_tokens Branch (moved n) l r ≡ act_tokens Branch n l r
  branch_acts n None r = refl
  branch_acts n (Some Null) r = refl
  branch_acts n (Some (Word u)) None = refl
  branch_acts n (Some (Word u)) (Some Null) = refl
  branch_acts n (Some (Word u)) (Some (Word v)) = refl

  acts_same : (l r : Answer) (n : FlowNode)
      → act_tokens (form_of n.op) (moved n) l r ≡ act_tokens (form_of n.op) n l r
  acts_same l r n =
      by_form (λ n. act_tokens (form_of n.op) n l r) n (λ s.
      ap (λ e. act_tokens e (moved n) l r) s ∙ branch_acts n l r
      ∙ sym (ap (λ e. act_tokens e n l r) s))

  -- offsets in place of labels change no act
  pub fired_same : (regs : ℕ → ℕ) (h : ℕ → Answer) (ns : List FlowNode)
      → fired regs h (map moved ns) ≡ fired regs h ns
  fired_same regs h [] = refl
  fired_same regs h (n ∷ ns) =
      ap₂ (λ (x y : List Act). x ++ y)
      (ap (λ (x : List Act). cond (met h n.guard) x [])
      (acts_same (first regs h n.left) (first regs h n.right) n))
      (fired_same regs h ns)

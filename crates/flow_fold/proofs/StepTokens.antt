-- A node that adds a small number, beside another node that stands for one of its block: the token that it gives.
use Rattle.std.proofs.Common.{◌≡◌, ◌≢◌, ℕ, ◌+◌, ◌%◌, ◌^◌, List, [], ◌∷◌, sym, ap, subst, ◌∙◌, arith, Bool}
use Rattle.std.proofs.Common.{true}
use Rattle.std.specs.Prelude.{ℤ, Some, Option, slice_get, slice_index}
use Rattle.std.proofs.lemmas.Option.{same_Some}
use Rattle.trips_isa.specs.declared.form.Form.{Form}
use Rattle.trips_isa.specs.declared.form.Form.TheVariants.{Constant}
use Rattle.trips_isa.specs.declared.form.Role.{Role}
use Rattle.trips_isa.specs.declared.block.Token.TheVariants.{Word}
use Rattle.trips_isa.specs.declared.block.Stored.{Stored}
use Rattle.trips_isa.specs.Alu.{alu_of, word}
use Rattle.trips_isa.specs.Blocks.{form_computes}
use Rattle.trips_isa.specs.Forms.{form_of, role_of, role_in, size_of}
use Rattle.trips_isa.specs.Rule as rules
use Rattle.trips_isa.specs.Rule.{Answer, if_matched, of_one}
use Rattle.trips_isa.specs.Stores.{bytes_seen}
use Rattle.ir_forms.specs.declared.flow.FlowSource.TheVariants.{Node}
use Rattle.ir_forms.specs.declared.flow.FlowNode.{FlowNode}
use Rattle.ir_forms.specs.declared.flow.FlowBlock.{FlowBlock}
use Rattle.ir_forms.specs.inside.FlowRuns.{Computes, Obeys, gives, meant, first, met, inst_of}
use Rattle.flow_fold.specs.inside.Folds.{with_node}
use Rattle.flow_fold.specs.inside.Immediates.{gives_constant}
use Rattle.flow_fold.proofs.Places.{set_there}
use Rattle.flow_fold.proofs.Echoes.{obeys_at}
use Rattle.flow_fold.proofs.ConstantFacts.{Small, constant_is}
use Rattle.flow_fold.proofs.Forwarded.{or_none}
use Rattle.flow_fold.proofs.SumFacts.{Adds, by_immediate, at_right}
use Rattle.flow_fold.proofs.SumRules.{both_as_one}

module _ (f : FlowBlock) (j : ℕ) (n m : FlowNode) (there : slice_get f.nodes j ≡ Some n)
    (plain : form_of n.op ≡ Constant → ⊥) where
  -- what a node elsewhere gives
  pub token_at : (regs : ℕ → ℕ) (K : Computes) (h : ℕ → Answer) → Obeys regs K h 0 (with_node f j m).nodes
      → (y : ℕ) (x : FlowNode) → y ≢ j → slice_get f.nodes y ≡ Some x → h y ≡ gives regs h (K y x) x
  token_at regs K h obeys y x d e =
      obeys_at regs K h 0 (with_node f j m).nodes obeys y x y (omega arith) (set_there f.nodes j y m d ∙ e)

  module _ (k : ℕ) (c : FlowNode) (between : slice_get f.nodes k ≡ Some c) (aside : k ≢ j) (d : ℤ) where
    -- what node k computes of the word at its left
    abbrev pub word_of : (K : Computes) (a : Adds f.nodes c d) → ℕ → ℕ
    word_of K (by_immediate a) x = K k c x 0
    word_of K (at_right a) x = K k c x (K a.constant.place a.constant.node 0 0)

    -- a constant stands elsewhere
    constant_apart : (b : ℤ) (s : Small f.nodes c.right b) → s.place ≢ j
    constant_apart b s e =
        let same : s.node ≡ n = same_Some s.node n
        (sym s.there ∙ (ap (λ (y : ℕ). slice_get f.nodes y) e ∙ there)) in
        plain (constant_is n.op (subst (λ (x : FlowNode). gives_constant x.op ≡ true) same s.gives)).form

    module _ (regs : ℕ → ℕ) (K : Computes) (h : ℕ → Answer) (obeys : Obeys regs K h 0 (with_node f j m).nodes) where
      right_token : (b : ℤ) (s : Small f.nodes c.right b)
          → first regs h c.right ≡ Some (Word (K s.place s.node 0 0))
      right_token b s =
          ap (first regs h) s.sources
          ∙ (or_none (h s.place)
          ∙ (token_at regs K h obeys s.place s.node (constant_apart b s) s.there
          ∙ (ap (λ (x : Role). if_matched (met h s.node.guard) (rules.gives x (K s.place s.node)
          (first regs h s.node.left) (first regs h s.node.right))) (constant_is s.node.op s.gives).free
          ∙ ap (λ (b : Bool). if_matched b (Some (Word (K s.place s.node 0 0)))) (ap (met h) s.guard))))

      by_role : (a : Adds f.nodes c d) → rules.gives (role_of c.op) (K k c) (first regs h c.left)
          (first regs h c.right) ≡ of_one (word_of K a) (first regs h c.left)
      by_role (by_immediate a) =
          ap (λ (x : Form). rules.gives (role_in x c.op) (K k c) (first regs h c.left) (first regs h c.right)) a.form
      by_role (at_right a) =
          ap (λ (x : Role). rules.gives x (K k c) (first regs h c.left) (first regs h c.right)) a.both
          ∙ both_as_one (K k c) (K a.constant.place a.constant.node 0 0) (first regs h c.left)
          (first regs h c.right) (right_token a.number a.constant)

      -- what takes node k alone gets what stands at its left and the number
      pub step_token : (a : Adds f.nodes c d) → met h c.guard ≡ true
          → first regs h (Node k ∷ []) ≡ of_one (word_of K a) (first regs h c.left)
      step_token a e =
          or_none (h k)
          ∙ (token_at regs K h obeys k c aside between
          ∙ (ap (if_matched (met h c.guard)) (by_role a)
          ∙ ap (λ (b : Bool). if_matched b (of_one (word_of K a) (first regs h c.left))) e))

    module _ (st : ℕ → Option Stored) (mem : List ℕ) where
      -- what a load would see
      abbrev seen : FlowNode → ℕ → ℕ
      seen x a = bytes_seen st (slice_index mem) x.number a (size_of x.op)

      constant_word : (b : ℤ) (s : Small f.nodes c.right b) → meant st mem s.place s.node 0 0 ≡ word b
      constant_word b s =
          let t = constant_is s.node.op s.gives in
          ap (λ (y : Form). form_computes y (inst_of s.node) (seen s.node) 0 0) t.form
          ∙ (t.word 0 (word s.node.imm) ∙ ap word s.imm)

      -- in a start node k adds the number
      pub step_word : (a : Adds f.nodes c d) (x : ℕ) → word_of (meant st mem) a x ≡ (x + word d) % 2 ^ 64
      step_word (by_immediate a) x =
          ap (λ (y : Form). form_computes y (inst_of c) (seen c) x 0) a.form ∙ a.same x
      step_word (at_right a) x =
          let w = meant st mem a.constant.place a.constant.node 0 0 in
          ap (λ (y : Form). form_computes y (inst_of c) (seen c) x w) a.general
          ∙ (ap (alu_of c.op x) (constant_word a.number a.constant) ∙ a.same x)

-- Nodes that only compute a word of their operands' words: they store nothing, leave nowhere and cannot fault.
use Rattle.std.proofs.Common.{◌≡◌, ℕ, List, [], refl, sym, ◌∙◌, cond, Bool, true, false}
use Rattle.std.specs.Prelude.{Some, None}
use Rattle.trips_isa.specs.declared.form.Form.{Form}
use Rattle.trips_isa.specs.declared.form.Form.TheVariants.{General, Immediate, Load, Store, Branch, Constant}
use Rattle.trips_isa.specs.declared.block.Token.TheVariants.{Null, Word}
use Rattle.trips_isa.specs.inside.Acts.{Act}
use Rattle.trips_isa.specs.Faults.{divides}
use Rattle.trips_isa.specs.Forms.{form_of}
use Rattle.trips_isa.specs.Rule.{Answer}
use Rattle.ir_forms.specs.declared.flow.FlowNode.{FlowNode}
use Rattle.ir_forms.specs.inside.FlowRuns.{first, met, leaving_in, numbered, act_tokens, stored_in}
use Rattle.ir_forms.specs.inside.FlowRegular.{is_silent}
use Rattle.flow_fold.proofs.Turned.{SameDeeds, SameOutputs, acts_of}

-- whether a form only computes a word
abbrev pub only_computes : Form → Bool
only_computes General = true
only_computes Immediate = true
only_computes Constant = true
only_computes Load = false
only_computes Store = false
only_computes Branch = false

-- a node that only computes a word, and does not divide
pub record Quiet (n : FlowNode) : Type 0 where
  pub computes : only_computes (form_of n.op) ≡ true
  pub calm : divides n.op ≡ false

-- it neither loads nor stores, and hands its token on
pub no_load : (x : Form) → only_computes x ≡ true → x ≡ Load → ⊥
no_load Load e d = absurd (cc e)
no_load General e d = absurd (cc)
no_load Immediate e d = absurd (cc)
no_load Constant e d = absurd (cc)
no_load Store e d = absurd (cc)
no_load Branch e d = absurd (cc)

pub no_store : (x : Form) → only_computes x ≡ true → x ≡ Store → ⊥
no_store Store e d = absurd (cc e)
no_store General e d = absurd (cc)
no_store Immediate e d = absurd (cc)
no_store Constant e d = absurd (cc)
no_store Load e d = absurd (cc)
no_store Branch e d = absurd (cc)

pub not_silent : (x : Form) → only_computes x ≡ true → is_silent x ≡ true → ⊥
not_silent Store e d = absurd (cc e)
not_silent General e d = absurd (cc d)
not_silent Immediate e d = absurd (cc d)
not_silent Constant e d = absurd (cc d)
not_silent Load e d = absurd (cc e)
not_silent Branch e d = absurd (cc e)

no_acts : (x : Form) (n : FlowNode) → only_computes x ≡ true → divides n.op ≡ false → (l r : Answer)
    → act_tokens x n l r ≡ []
no_acts General n e d None r = refl
no_acts General n e d (Some Null) r = refl
no_acts General n e d (Some (Word a)) None = refl
no_acts General n e d (Some (Word a)) (Some Null) = refl
no_acts General n e d (Some (Word a)) (Some (Word b)) = rw d refl
no_acts Immediate n e d None r = refl
no_acts Immediate n e d (Some Null) r = refl
no_acts Immediate n e d (Some (Word a)) None = refl
no_acts Immediate n e d (Some (Word a)) (Some Null) = refl
no_acts Immediate n e d (Some (Word a)) (Some (Word b)) = rw d refl
no_acts Constant n e d None r = refl
no_acts Constant n e d (Some Null) r = refl
no_acts Constant n e d (Some (Word a)) None = refl
no_acts Constant n e d (Some (Word a)) (Some Null) = refl
no_acts Constant n e d (Some (Word a)) (Some (Word b)) = rw d refl
no_acts Load n e d l r = absurd (cc e)
no_acts Store n e d l r = absurd (cc e)
no_acts Branch n e d l r = absurd (cc e)

no_store_in : (x : Form) (n : FlowNode) → only_computes x ≡ true → (regs : ℕ → ℕ) (h : ℕ → Answer) (k : ℕ)
    → stored_in x regs h n k ≡ None
no_store_in General n e regs h k = refl
no_store_in Immediate n e regs h k = refl
no_store_in Constant n e regs h k = refl
no_store_in Load n e regs h k = absurd (cc e)
no_store_in Store n e regs h k = absurd (cc e)
no_store_in Branch n e regs h k = absurd (cc e)

no_leaving : (x : Form) (n : FlowNode) → only_computes x ≡ true → (t : Answer) → leaving_in x n t ≡ []
no_leaving General n e None = refl
no_leaving General n e (Some t) = refl
no_leaving Immediate n e None = refl
no_leaving Immediate n e (Some t) = refl
no_leaving Constant n e None = refl
no_leaving Constant n e (Some t) = refl
no_leaving Load n e t = absurd (cc e)
no_leaving Store n e t = absurd (cc e)
no_leaving Branch n e t = absurd (cc e)

no_number : (x : Form) (n : FlowNode) → only_computes x ≡ true → (t : Answer) (k : ℕ) → numbered x n t k ≡ 0
no_number General n e t k = refl
no_number Immediate n e t k = refl
no_number Constant n e t k = refl
no_number Load n e t k = absurd (cc e)
no_number Store n e t k = absurd (cc e)
no_number Branch n e t k = absurd (cc e)

nothing : (b : Bool) (l : List Act) → l ≡ [] → cond b l [] ≡ []
nothing true l e = e
nothing false l e = refl

acts_none : (regs : ℕ → ℕ) (h : ℕ → Answer) (n : FlowNode) → Quiet n → acts_of regs h n ≡ []
acts_none regs h n q =
    nothing (met h n.guard) (act_tokens (form_of n.op) n (first regs h n.left) (first regs h n.right))
    (no_acts (form_of n.op) n q.computes q.calm (first regs h n.left) (first regs h n.right))

-- two such nodes do the same, which is nothing
pub quiet_deeds : (regs : ℕ → ℕ) (h : ℕ → Answer) (n m : FlowNode) → Quiet n → Quiet m → SameDeeds regs h n m
quiet_deeds regs h n m a b = record {
  stored = λ k. no_store_in (form_of m.op) m b.computes regs h k
      ∙ sym (no_store_in (form_of n.op) n a.computes regs h k);
  acts = acts_none regs h m b ∙ sym (acts_none regs h n a);
}

-- and their tokens reach no output by themselves
pub quiet_outputs : (h : ℕ → Answer) (j : ℕ) (n m : FlowNode) → Quiet n → Quiet m → SameOutputs h j n m
quiet_outputs h j n m a b = record {
  leaves = no_leaving (form_of m.op) m b.computes (h j) ∙ sym (no_leaving (form_of n.op) n a.computes (h j));
  numbered = λ k. no_number (form_of m.op) m b.computes (h j) k
      ∙ sym (no_number (form_of n.op) n a.computes (h j) k);
}

-- A node whose operand is a copy may take what the copy takes, and does what it did.
use Rattle.std.proofs.Common.{◌≡◌, ◌≢◌, ℕ, ◌<◌, List, [], ◌∷◌, ◌⊎◌, inl, inr, refl, sym}
use Rattle.std.proofs.Common.{ap, ap₂}
use Rattle.std.proofs.Common.{◌∙◌, arith, cond, nat_eq, Bool, true, false}
use Rattle.std.specs.Prelude.{Some, None, Option, All, slice_get}
use Rattle.std.proofs.lemmas.Bool.{and_parts, eqb-true, eqb-false}
use Rattle.std.proofs.lemmas.Option.{cond_some}
use Rattle.trips_isa.specs.declared.op.Op.{Op}
use Rattle.trips_isa.specs.declared.op.Op.TheVariants as op
use Rattle.trips_isa.specs.declared.form.Form.{Form}
use Rattle.trips_isa.specs.declared.form.Form.TheVariants.{General, Immediate, Load, Store, Branch, Constant}
use Rattle.trips_isa.specs.declared.block.Token.TheVariants.{Null, Word}
use Rattle.trips_isa.specs.declared.block.Sense.{Sense}
use Rattle.trips_isa.specs.declared.block.Sense.TheVariants.{Always, OnTrue, OnFalse}
use Rattle.trips_isa.specs.declared.block.Stored.{Stored}
use Rattle.trips_isa.specs.inside.Acts.{Act}
use Rattle.trips_isa.specs.Forms.{form_of, role_of}
use Rattle.trips_isa.specs.Rule as rules
use Rattle.trips_isa.specs.Rule.{Answer, if_matched, rule}
use Rattle.trips_isa.specs.Stores.{stored_of}
use Rattle.trips_isa.specs.Tables.{or_else}
use Rattle.ir_forms.specs.declared.flow.FlowSource.{FlowSource}
use Rattle.ir_forms.specs.declared.flow.FlowSource.TheVariants.{Read, Node}
use Rattle.ir_forms.specs.declared.flow.Guard.{Guard}
use Rattle.ir_forms.specs.declared.flow.FlowNode.{FlowNode}
use Rattle.ir_forms.specs.declared.flow.FlowBlock.{FlowBlock}
use Rattle.ir_forms.specs.inside.FlowRuns.{Computes, Obeys, gives, meant, stores, first, met, inst_of}
use Rattle.ir_forms.specs.inside.FlowRuns.{guard_token}
use Rattle.ir_forms.specs.inside.FlowRuns.{leaving_in, numbered, act_tokens, stored_in}
use Rattle.ir_forms.specs.inside.FlowFits.{RisesFrom}
use Rattle.ir_forms.specs.inside.FlowFits.{AtMostOne, IsTidy}
use Rattle.flow_fold.specs.inside.Copies.{is_mov, same_sense, covers, is_copy, copied_at, copied}
use Rattle.flow_fold.specs.inside.Folds.{with_node}
use Rattle.flow_fold.proofs.Places.{all_at, all_of, set_here, set_there}
use Rattle.flow_fold.proofs.Echoes.{obeys_at}
use Rattle.flow_fold.proofs.Turned.{Works, SameDeeds}

-- THE COPY

-- an operation that is found to be `mov` is `mov`
pub mov_is : (o : Op) → is_mov o ≡ true → o ≡ op.Mov
mov_is op.Mov e = refl
mov_is _ e = absurd (cc)

sense_is : (s t : Sense) → same_sense s t ≡ true → s ≡ t
sense_is Always Always e = refl
sense_is OnTrue OnTrue e = refl
sense_is OnFalse OnFalse e = refl
sense_is Always OnTrue e = absurd (cc)
sense_is Always OnFalse e = absurd (cc)
sense_is OnTrue Always e = absurd (cc)
sense_is OnTrue OnFalse e = absurd (cc)
sense_is OnFalse Always e = absurd (cc)
sense_is OnFalse OnTrue e = absurd (cc)

-- a guard that is surely met where another is: there is none, or it is the other
pub covers_is : (a g : Option Guard) → covers a g ≡ true → (a ≡ None) ⊎ (a ≡ g)
covers_is None g e = inl refl
covers_is (Some a) None e = absurd (cc)
covers_is (Some a) (Some b) e =
    let p = and_parts (nat_eq a.node b.node) (same_sense a.sense b.sense) e in
    inr (ap₂ (λ (x : ℕ) (y : Sense). Some (guard x y)) (eqb-true a.node b.node p.0) (sense_is a.sense b.sense p.1))
  where
    guard : ℕ → Sense → Guard
    guard x y = record { node = x; sense = y }

-- the copy that some sources are, for a node under guard g
pub record Copied (nodes : List FlowNode) (j : ℕ) (g : Option Guard) (ss ls : List FlowSource) : Type 0 where
  pub place : ℕ
  pub node : FlowNode
  pub sources : ss ≡ Node place ∷ []
  pub there : slice_get nodes place ≡ Some node
  pub apart : place ≢ j
  pub mov : node.op ≡ op.Mov
  pub guard : (node.guard ≡ None) ⊎ (node.guard ≡ g)
  pub left : node.left ≡ ls

-- it is found where they are one
pub copied_is : (nodes : List FlowNode) (j : ℕ) (g : Option Guard) (ss ls : List FlowSource)
    → copied nodes j g ss ≡ Some ls → Copied nodes j g ss ls
copied_is nodes j g [] ls e = absurd (cc)
copied_is nodes j g (Read r ∷ rest) ls e = absurd (cc)
copied_is nodes j g (Node k ∷ (s ∷ rest)) ls e = absurd (cc)
copied_is nodes j g (Node k ∷ []) ls e = at (nat_eq k j) refl e
  where
    at_node : (k ≢ j) → (o : Option FlowNode) → slice_get nodes k ≡ o → copied_at o g ≡ Some ls
        → Copied nodes j g (Node k ∷ []) ls
    at_node a None s d = absurd (cc)
    at_node a (Some c) s d =
        let p = cond_some (is_copy c g) c.left ls d in
        let q = and_parts (is_mov c.op) (covers c.guard g) p.0 in
        record {
          place = k;
          node = c;
          sources = refl;
          there = s;
          apart = a;
          mov = mov_is c.op q.0;
          guard = covers_is c.guard g q.1;
          left = p.1;
        }

    at : (b : Bool) → nat_eq k j ≡ b → cond b None (copied_at (slice_get nodes k) g) ≡ Some ls
        → Copied nodes j g (Node k ∷ []) ls
    at true q d = absurd (cc)
    at false q d = at_node (eqb-false k j q) (slice_get nodes k) refl d

pub or_none : (t : Answer) → or_else t None ≡ t
or_none None = refl
or_none (Some t) = refl

-- what rises from a lower rank rises from a higher one
pub rises_on : (rank : ℕ → ℕ) (a b : ℕ) → a < b → (ss : List FlowSource) → All (RisesFrom rank a) ss
    → All (RisesFrom rank b) ss
rises_on rank a b l ss x = all_of (RisesFrom rank b) ss (λ y s e. at s (all_at (RisesFrom rank a) ss x y s e))
  where
    at : (s : FlowSource) → RisesFrom rank a s → RisesFrom rank b s
    at (Read r) x = tt
    at (Node i) x = omega (arith, l, x)

-- NODES WITH OTHER SOURCES

module _ (f : FlowBlock) (j : ℕ) (n : FlowNode) (there : slice_get f.nodes j ≡ Some n) (ls rs : List FlowSource) where
  abbrev m : FlowNode
  m = record n { left = ls; right = rs }

  -- a copy among the nodes of the block gives, where its node fires, what it takes
  module _ (k : ℕ) (c : FlowNode) (is : slice_get f.nodes k ≡ Some c) (apart : k ≢ j) (mov : c.op ≡ op.Mov)
      (guard : (c.guard ≡ None) ⊎ (c.guard ≡ n.guard)) (regs : ℕ → ℕ) (a : Computes) (h : ℕ → Answer)
      (obeys : Obeys regs a h 0 (with_node f j m).nodes) where
    copy_token : h k ≡ if_matched (met h c.guard) (first regs h c.left)
    copy_token =
        obeys_at regs a h 0 (with_node f j m).nodes obeys k c k (omega arith) (set_there f.nodes j k m apart ∙ is)
        ∙ ap (λ (o : Op). if_matched (met h c.guard) (rules.gives (role_of o) (a k c) (first regs h c.left)
        (first regs h c.right))) mov

    -- what its node takes where it fires is what it takes
    pub copy_gives : met h n.guard ≡ true → first regs h c.left ≡ first regs h (Node k ∷ [])
    copy_gives e =
        sym (copy_token ∙ ap (λ (b : Bool). if_matched b (first regs h c.left)) (fires guard)) ∙ sym (or_none (h k))
      where
        fires : (c.guard ≡ None) ⊎ (c.guard ≡ n.guard) → met h c.guard ≡ true
        fires (inl d) = ap (met h) d
        fires (inr d) = ap (met h) d ∙ e

  -- the operands give the same where the node fires
  pub record Agrees (regs : ℕ → ℕ) (h : ℕ → Answer) : Type 0 where
    pub left : met h n.guard ≡ true → first regs h ls ≡ first regs h n.left
    pub right : met h n.guard ≡ true → first regs h rs ≡ first regs h n.right

  same_acts : (x : Form) (l r : Answer) → act_tokens x m l r ≡ act_tokens x n l r
  same_acts Load None r = refl
  same_acts Load (Some Null) r = refl
  same_acts Load (Some (Word u)) r = refl
  same_acts x None r = refl
  same_acts x (Some Null) r = refl
  same_acts x (Some (Word u)) None = refl
  same_acts x (Some (Word u)) (Some Null) = refl
  same_acts General (Some (Word u)) (Some (Word v)) = refl
  same_acts Immediate (Some (Word u)) (Some (Word v)) = refl
  same_acts Store (Some (Word u)) (Some (Word v)) = refl
  same_acts Branch (Some (Word u)) (Some (Word v)) = refl
  same_acts Constant (Some (Word u)) (Some (Word v)) = refl

  same_leaves : (x : Form) (t : Answer) → leaving_in x m t ≡ leaving_in x n t
  same_leaves Branch None = refl
  same_leaves Branch (Some t) = refl
  same_leaves General t = refl
  same_leaves Immediate t = refl
  same_leaves Load t = refl
  same_leaves Store t = refl
  same_leaves Constant t = refl

  same_numbers : (x : Form) (t : Answer) (q : ℕ) → numbered x m t q ≡ numbered x n t q
  same_numbers Store t q = refl
  same_numbers General t q = refl
  same_numbers Immediate t q = refl
  same_numbers Load t q = refl
  same_numbers Branch t q = refl
  same_numbers Constant t q = refl

  module _ (regs : ℕ → ℕ) (h : ℕ → Answer) (agrees : Agrees regs h) where
    -- what hangs on the operands where the node fires is the same
    where_met : {A : Type 0} (none : A) (some : Answer → Answer → A)
        → cond (met h n.guard) (some (first regs h ls) (first regs h rs)) none
        ≡ cond (met h n.guard) (some (first regs h n.left) (first regs h n.right)) none
    where_met {A} none some = go (met h n.guard) refl
      where
        go : (b : Bool) → met h n.guard ≡ b → cond b (some (first regs h ls) (first regs h rs)) none
            ≡ cond b (some (first regs h n.left) (first regs h n.right)) none
        go true e = ap₂ some (agrees.left e) (agrees.right e)
        go false e = refl

    as_cond : (b : Bool) (t : Answer) → if_matched b t ≡ cond b t None
    as_cond true t = refl
    as_cond false t = refl

    -- the node gives the same
    pub gives_same : (a : ℕ → ℕ → ℕ) → gives regs h a m ≡ gives regs h a n
    gives_same a =
        as_cond (met h n.guard) (rules.gives (role_of n.op) a (first regs h ls) (first regs h rs))
        ∙ where_met None (rules.gives (role_of n.op) a)
        ∙ sym (as_cond (met h n.guard) (rules.gives (role_of n.op) a (first regs h n.left) (first regs h n.right)))

    stored_same : (x : Form) (q : ℕ) → stored_in x regs h m q ≡ stored_in x regs h n q
    stored_same Store q = ap (λ (s : Option Stored). cond (nat_eq n.number q) s None)
        (where_met None (stored_of (inst_of n)))
    stored_same General q = refl
    stored_same Immediate q = refl
    stored_same Load q = refl
    stored_same Branch q = refl
    stored_same Constant q = refl

    -- and does the same
    pub deeds_same : SameDeeds regs h n m
    deeds_same = record {
      stored = λ q. stored_same (form_of n.op) q;
      acts = ap (λ (l : List Act). cond (met h n.guard) l [])
          (same_acts (form_of n.op) (first regs h ls) (first regs h rs))
          ∙ where_met [] (act_tokens (form_of n.op) n);
    }

  -- so it works in the place of the node, where each operand gets at most one token on a path
  pub sources_work_on : ((regs : ℕ → ℕ) (a : Computes) (h : ℕ → Answer) → Obeys regs a h 0 (with_node f j m).nodes
      → Agrees regs h)
      → ((regs : ℕ → ℕ) (a : Computes) (h : ℕ → Answer) → Obeys regs a h 0 (with_node f j m).nodes → IsTidy regs h f
      → AtMostOne regs h m) → Works f j n m
  sources_work_on agrees tidy = record {
    path = λ regs a h o. record {
      computes = a j m;
      is = obeys_at regs a h 0 (with_node f j m).nodes o j m j (omega arith) (set_here f.nodes j n m there)
          ∙ gives_same regs h (agrees regs a h o) (a j m);
    };
    tidy = λ regs a h o t. record {
      clear = all_at (λ (x : FlowNode). guard_token h x.guard ≢ Some Null) f.nodes t.clear j n there;
      operands = tidy regs a h o t;
    };
    outputs = λ h. record {
      leaves = same_leaves (form_of n.op) (h j);
      numbered = λ q. same_numbers (form_of n.op) (h j) q;
    };
    deeds = λ regs mem h o. deeds_same regs h
        (agrees regs (meant (stores regs h (with_node f j m).nodes) mem) h o);
    start = λ regs mem h o.
        let a = meant (stores regs h (with_node f j m).nodes) mem in
        obeys_at regs a h 0 (with_node f j m).nodes o j m j (omega arith) (set_here f.nodes j n m there)
        ∙ gives_same regs h (agrees regs a h o) (a j n);
  }

  -- or wherever the block is tidy
  pub sources_work : ((regs : ℕ → ℕ) (a : Computes) (h : ℕ → Answer) → Obeys regs a h 0 (with_node f j m).nodes
      → Agrees regs h)
      → ((regs : ℕ → ℕ) (h : ℕ → Answer) → IsTidy regs h f → AtMostOne regs h m) → Works f j n m
  sources_work agrees tidy = sources_work_on agrees (λ regs a h o t. tidy regs h t)

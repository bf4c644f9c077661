-- What the nodes of a block come to on a path: the same before nodes lose their guards as afterwards.
use Rattle.std.proofs.Common.{◌≡◌, ℕ, zero, suc, ◌+◌, ◌≤◌, List, [], ◌∷◌, ◌++◌, refl, sym, ap, ap₂, subst, ◌∙◌}
use Rattle.std.proofs.Common.{arith, cond, nat_eq, Bool, true, false, not, ◌&&◌, ◌||◌}
use Rattle.std.specs.Prelude.{Option, Some, None, slice_get, All, ◌≢◌}
use Rattle.std.proofs.lemmas.List.Elements.{All-nil, All-cons, All-head, All-tail}
use Rattle.trips_isa.specs.declared.form.Form.{Form}
use Rattle.trips_isa.specs.declared.form.Form.TheVariants.{General, Immediate, Load, Store, Branch, Constant}
use Rattle.trips_isa.specs.declared.block.Token.{Token}
use Rattle.trips_isa.specs.declared.block.Token.TheVariants.{Null, Word}
use Rattle.trips_isa.specs.declared.block.Inst.{Inst}
use Rattle.trips_isa.specs.declared.block.Stored.{Stored}
use Rattle.trips_isa.specs.Faults.{divides}
use Rattle.trips_isa.specs.Forms.{form_of}
use Rattle.trips_isa.specs.Rule.{Answer}
use Rattle.trips_isa.specs.Stores.{stored_of}
use Rattle.trips_isa.specs.Tables.{or_else}
use Rattle.trips_isa.specs.inside.Acts.{Act, Divided}
use Rattle.ir_forms.specs.declared.flow.Guard.{Guard}
use Rattle.ir_forms.specs.declared.flow.FlowNode.{FlowNode}
use Rattle.ir_forms.specs.declared.flow.FlowWrite.{FlowWrite}
use Rattle.ir_forms.specs.inside.FlowFits.{AtMostOne}
use Rattle.ir_forms.specs.inside.FlowRuns.{first, guard_token, inst_of, met, stored_where, stored_in, stores}
use Rattle.ir_forms.specs.inside.FlowRuns.{word_or, written, leaving_in, exits, act_tokens, fired, count}
use Rattle.ir_forms.specs.inside.FlowRuns.{numbered, tokens}
use Rattle.flow_guards.specs.inside.Guards.{Guards}
use Rattle.flow_guards.specs.inside.Unguards.{Loses, computes_only, is_pure, all_kept, is_right, nodes_right}
use Rattle.flow_guards.specs.inside.Unguards.{writes_right, loosened, all_loosened}
use Rattle.flow_guards.proofs.Implied.{each, denied}
use Rattle.flow_guards.proofs.Before.{Right, is_right_so, before, kept, token_kept, met_kept, Sure, first_kept}
use Rattle.flow_guards.proofs.Before.{count_kept, first_right, count_right}

-- what the test of nodes says of the first
pub first_of : (guards : Guards) (loses : Loses) (j : ℕ) (n : FlowNode) (ns : List FlowNode)
    → nodes_right guards loses j (n ∷ ns) ≡ true → Right guards loses j n
first_of guards loses j n ns e =
    is_right_so guards loses j n (each (is_right guards loses j n) (nodes_right guards loses (suc j) ns) e).0

-- and of the others
pub rest_of : (guards : Guards) (loses : Loses) (j : ℕ) (n : FlowNode) (ns : List FlowNode)
    → nodes_right guards loses j (n ∷ ns) ≡ true → nodes_right guards loses (suc j) ns ≡ true
rest_of guards loses j n ns e = (each (is_right guards loses j n) (nodes_right guards loses (suc j) ns) e).1

-- a node that loses its guard only computes
loses_form : (guards : Guards) (loses : Loses) (j : ℕ) (n : FlowNode) → Right guards loses j n → loses j ≡ true
    → computes_only (form_of n.op) ≡ true
loses_form guards loses j n r e = (each (computes_only (form_of n.op)) (not (divides n.op)) (r.pure e)).0

-- so it is not of another form
keeps_guard : (guards : Guards) (loses : Loses) (j : ℕ) (n : FlowNode) (form : Form) → Right guards loses j n
    → form_of n.op ≡ form → computes_only form ≡ false → loses j ≡ false
keeps_guard guards loses j n form r e c = go (loses j) refl
  where
    go : (b : Bool) → loses j ≡ b → b ≡ false
    go false l = refl
    go true l =
        let p = loses_form guards loses j n r l in
        let q : computes_only form ≡ true = subst (λ (x : Form). computes_only x ≡ true) e p in
        absurd (cc)

-- what only computes does nothing that can fault
quiet : (form : Form) (n : FlowNode) (l r : Answer) → computes_only form ≡ true → divides n.op ≡ false
    → act_tokens form n l r ≡ []
quiet General n None r c d = refl
quiet General n (Some Null) r c d = refl
quiet General n (Some (Word x)) None c d = refl
quiet General n (Some (Word x)) (Some Null) c d = refl
quiet General n (Some (Word x)) (Some (Word y)) c d = ap (λ (b : Bool). cond {A = List Act} b (Divided y ∷ []) []) d
quiet Immediate n None r c d = refl
quiet Immediate n (Some Null) r c d = refl
quiet Immediate n (Some (Word x)) None c d = refl
quiet Immediate n (Some (Word x)) (Some Null) c d = refl
quiet Immediate n (Some (Word x)) (Some (Word y)) c d = ap (λ (b : Bool). cond {A = List Act} b (Divided y ∷ []) []) d
quiet Load n l r c d = absurd (cc)
quiet Store n l r c d = absurd (cc)
quiet Branch n l r c d = absurd (cc)
quiet Constant n l r c d = absurd (cc)

-- the same where something is so
cond_if : {A : Type 0} (m k : Bool) (x y z : A) → k ≡ m → (m ≡ true → x ≡ y) → cond k x z ≡ cond m y z
cond_if true true x y z e f = f refl
cond_if false false x y z e f = refl
cond_if true false x y z e f = absurd (cc)
cond_if false true x y z e f = absurd (cc)

cond_none : {A : Type 0} (m : Bool) (x y : List A) → x ≡ [] → y ≡ [] → cond m x [] ≡ y
cond_none true x y e d = e ∙ sym d
cond_none false x y e d = sym d

-- nothing is not something
some_differs : {A : Type 0} (x : A) → None ≢ Some x
some_differs x e = absurd (cc)

module _ (guards : Guards) (loses : Loses) (h : ℕ → Answer) where
  -- the tokens before
  abbrev old : ℕ → Answer
  old = before guards loses h

  -- each store number gets as many tokens as it got
  pub tokens_same : (j : ℕ) (ns : List FlowNode) (k : ℕ) → nodes_right guards loses j ns ≡ true
      → tokens old j ns k ≡ tokens h j (all_loosened loses j ns) k
  tokens_same j [] k e = refl
  tokens_same j (n ∷ ns) k e =
      ap₂ (λ (x y : ℕ). x + y) (one (form_of n.op) refl)
      (tokens_same (suc j) ns k (rest_of guards loses j n ns e))
    where
      one : (form : Form) → form_of n.op ≡ form → numbered form n (old j) k
          ≡ numbered form (loosened (loses j) n) (h j) k
      one Store f =
          ap (λ (t : Answer). numbered Store n t k)
          (kept guards loses h j (keeps_guard guards loses j n Store (first_of guards loses j n ns e) f refl))
      one _ f = refl

  -- the same exits are taken
  pub exits_same : (j : ℕ) (ns : List FlowNode) → nodes_right guards loses j ns ≡ true
      → exits old j ns ≡ exits h j (all_loosened loses j ns)
  exits_same j [] e = refl
  exits_same j (n ∷ ns) e =
      ap₂ (λ (x y : List (Inst × Token)). x ++ y) (one (form_of n.op) refl)
      (exits_same (suc j) ns (rest_of guards loses j n ns e))
    where
      one : (form : Form) → form_of n.op ≡ form → leaving_in form n (old j)
          ≡ leaving_in form (loosened (loses j) n) (h j)
      one Branch f =
          let l = keeps_guard guards loses j n Branch (first_of guards loses j n ns e) f refl in
          ap (λ (t : Answer). leaving_in Branch n t) (kept guards loses h j l)
          ∙ ap (λ (b : Bool). leaving_in Branch (loosened b n) (h j)) (sym l)
      one _ f = refl

  -- no null meets a guard
  pub clear_same : (j : ℕ) (ns : List FlowNode) → nodes_right guards loses j ns ≡ true
      → All (λ (n : FlowNode). guard_token old n.guard ≢ Some Null) ns
      → All (λ (n : FlowNode). guard_token h n.guard ≢ Some Null) (all_loosened loses j ns)
  clear_same j [] e a = All-nil (λ (n : FlowNode). guard_token h n.guard ≢ Some Null)
  clear_same j (n ∷ ns) e a =
      All-cons (λ (m : FlowNode). guard_token h m.guard ≢ Some Null) (loosened (loses j) n) _ (one (loses j))
      (clear_same (suc j) ns (rest_of guards loses j n ns e)
      (All-tail (λ (m : FlowNode). guard_token old m.guard ≢ Some Null) n ns a))
    where
      one : (b : Bool) → guard_token h (loosened b n).guard ≢ Some Null
      one true = some_differs Null
      one false =
          subst (λ (t : Answer). t ≢ Some Null)
          (token_kept guards loses h n.guard (first_of guards loses j n ns e).guard)
          (All-head (λ (m : FlowNode). guard_token old m.guard ≢ Some Null) n ns a)

  module _ (regs : ℕ → ℕ) where
    -- each operand gets at most one token
    pub operands_same : (j : ℕ) (ns : List FlowNode) → nodes_right guards loses j ns ≡ true
        → All (AtMostOne regs old) ns → All (AtMostOne regs h) (all_loosened loses j ns)
    operands_same j [] e a = All-nil (AtMostOne regs h)
    operands_same j (n ∷ ns) e a =
        let r = first_of guards loses j n ns e in
        let o = All-head (AtMostOne regs old) n ns a in
        All-cons (AtMostOne regs h) (loosened (loses j) n) _ (
          count_right guards loses h regs n.guard n.left r.left o.0,
          count_right guards loses h regs n.guard n.right r.right o.1,
        )
        (operands_same (suc j) ns (rest_of guards loses j n ns e) (All-tail (AtMostOne regs old) n ns a))

    -- each write gets as many tokens as it got
    pub write_counts : (ws : List FlowWrite) → writes_right loses ws ≡ true → (P : ℕ → Type 0)
        → All (λ (w : FlowWrite). P (count regs old w.sources)) ws
        → All (λ (w : FlowWrite). P (count regs h w.sources)) ws
    write_counts [] e P a = All-nil (λ (w : FlowWrite). P (count regs h w.sources))
    write_counts (w ∷ ws) e P a =
        let parts = each (all_kept loses w.sources) (writes_right loses ws) e in
        All-cons (λ (x : FlowWrite). P (count regs h x.sources)) w ws
        (subst P (count_kept guards loses h regs w.sources parts.0)
        (All-head (λ (x : FlowWrite). P (count regs old x.sources)) w ws a))
        (write_counts ws parts.1 P (All-tail (λ (x : FlowWrite). P (count regs old x.sources)) w ws a))

    -- each register holds what it held
    pub written_same : (ws : List FlowWrite) → writes_right loses ws ≡ true → (r : ℕ)
        → written regs old ws r ≡ written regs h ws r
    written_same [] e r = refl
    written_same (w ∷ ws) e r =
        let parts = each (all_kept loses w.sources) (writes_right loses ws) e in
        ap₂ (λ (t : Answer) (v : ℕ). cond (nat_eq r w.register) (word_or t (regs r)) v)
        (first_kept guards loses h regs w.sources parts.0) (written_same ws parts.1 r)

    -- each store does what it did
    pub stores_same : Sure guards loses h → (j : ℕ) (ns : List FlowNode) → nodes_right guards loses j ns ≡ true
        → (k : ℕ) → stores regs old ns k ≡ stores regs h (all_loosened loses j ns) k
    stores_same sure j [] e k = refl
    stores_same sure j (n ∷ ns) e k =
        ap₂ (λ (x y : Option Stored). or_else x y) (one (form_of n.op) refl)
        (stores_same sure (suc j) ns (rest_of guards loses j n ns e) k)
      where
        one : (form : Form) → form_of n.op ≡ form → stored_in form regs old n k
            ≡ stored_in form regs h (loosened (loses j) n) k
        one Store f =
            let r = first_of guards loses j n ns e in
            let l = keeps_guard guards loses j n Store r f refl in
            ap (λ (s : Option Stored). cond (nat_eq n.number k) s None)
            (cond_if (met h n.guard) (met old n.guard) _ _ None (met_kept guards loses h n.guard r.guard)
            (λ m. ap₂ (λ (x y : Answer). stored_of (inst_of n) x y)
            (first_right guards loses h regs sure n.guard r.guard m n.left r.left)
            (first_right guards loses h regs sure n.guard r.guard m n.right r.right)))
            ∙ ap (λ (b : Bool). stored_in Store regs h (loosened b n) k) (sym l)
        one _ f = refl

    -- what fires and can fault is what did
    pub fired_same : Sure guards loses h → (j : ℕ) (ns : List FlowNode) → nodes_right guards loses j ns ≡ true
        → fired regs old ns ≡ fired regs h (all_loosened loses j ns)
    fired_same sure j [] e = refl
    fired_same sure j (n ∷ ns) e =
        ap₂ (λ (x y : List Act). x ++ y) (one (loses j) refl)
        (fired_same sure (suc j) ns (rest_of guards loses j n ns e))
      where
        r : Right guards loses j n
        r = first_of guards loses j n ns e

        one : (b : Bool) → loses j ≡ b
            → cond (met old n.guard)
            (act_tokens (form_of n.op) n (first regs old n.left) (first regs old n.right)) []
            ≡ cond (met h (loosened b n).guard)
            (act_tokens (form_of n.op) (loosened b n) (first regs h n.left) (first regs h n.right)) []
        one false l =
            cond_if (met h n.guard) (met old n.guard) _ _ [] (met_kept guards loses h n.guard r.guard)
            (λ m. ap₂ (λ (x y : Answer). act_tokens (form_of n.op) n x y)
            (first_right guards loses h regs sure n.guard r.guard m n.left r.left)
            (first_right guards loses h regs sure n.guard r.guard m n.right r.right))
        one true l =
            let p = each (computes_only (form_of n.op)) (not (divides n.op)) (r.pure l) in
            let d = denied (divides n.op) p.1 in
            cond_none (met old n.guard) _ _ (quiet (form_of n.op) n _ _ p.0 d)
            (quiet (form_of n.op) (loosened true n) (first regs h n.left) (first regs h n.right) p.0 d)

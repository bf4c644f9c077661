-- What a table comes to stays where a node goes that nothing names and that only gives a token.
use Rattle.std.proofs.Common.{◌≡◌, ℕ, suc, ◌+◌, List, [], ◌∷◌, ◌++◌, refl, sym, ap, ap₂, subst}
use Rattle.std.proofs.Common.{◌∙◌, arith}
use Rattle.std.proofs.Common.{cond, nat_eq, Bool, true, false, map}
use Rattle.std.specs.Prelude.{Some, None, Option}
use Rattle.std.proofs.Math.Path.{fun_ext}
use Rattle.trips_isa.specs.declared.form.Form.{Form}
use Rattle.trips_isa.specs.declared.form.Form.TheVariants.{General, Immediate, Load, Store, Branch, Constant}
use Rattle.trips_isa.specs.declared.block.Token.{Token}
use Rattle.trips_isa.specs.declared.block.Token.TheVariants.{Null, Word}
use Rattle.trips_isa.specs.declared.block.Inst.{Inst}
use Rattle.trips_isa.specs.declared.block.Stored.{Stored}
use Rattle.trips_isa.specs.inside.Acts.{Act, Divided}
use Rattle.trips_isa.specs.Faults.{divides}
use Rattle.trips_isa.specs.Forms.{form_of}
use Rattle.trips_isa.specs.Rule.{Answer}
use Rattle.trips_isa.specs.Tables.{or_else}
use Rattle.trips_isa.specs.Stores.{store_all, listed_below}
use Rattle.ir_forms.specs.declared.flow.FlowNode.{FlowNode}
use Rattle.ir_forms.specs.declared.flow.FlowWrite.{FlowWrite}
use Rattle.ir_forms.specs.inside.FlowRuns.{Computes, Obeys, gives, met, first, stored_in, act_tokens}
use Rattle.ir_forms.specs.inside.FlowRuns.{leaving_in, numbered}
use Rattle.ir_forms.specs.inside.FlowRuns.{stores, stored_all, exits, fired, tokens, written, word_or}
use Rattle.ir_forms.specs.inside.FlowRegular.{is_among, writes_name}
use Rattle.ir_forms.specs.declared.flow.FlowSource.TheVariants.{Node}
use Rattle.flow_fold.specs.inside.Sweeps.{lower, lower_node, lower_write, left_nodes}
use Rattle.flow_fold.specs.inside.Sweeps.{is_idle_form, is_idle}
use Rattle.flow_fold.proofs.Lowered.{Spares, neither, lower_same, lower_next, raised, raised_there, first_low}
use Rattle.flow_fold.proofs.Lowered.{met_low, stored_low, acts_same, leaves_same, numbered_same}

-- AN IDLE NODE

-- it stores nothing
pub idle_stored : (regs : ℕ → ℕ) (h : ℕ → Answer) (n : FlowNode) (f : Form) → is_idle_form f n.op ≡ true → (q : ℕ)
    → stored_in f regs h n q ≡ None
idle_stored regs h n Store e q = absurd (cc)
idle_stored regs h n General e q = refl
idle_stored regs h n Immediate e q = refl
idle_stored regs h n Constant e q = refl
idle_stored regs h n Load e q = refl
idle_stored regs h n Branch e q = refl

undivided : (n : FlowNode) (l r : ℕ) (b : Bool) → b ≡ false → cond b (Divided r ∷ []) [] ≡ []
undivided n l r true e = absurd (cc)
undivided n l r false e = refl

-- it cannot fault
pub idle_acts : (n : FlowNode) (f : Form) → is_idle_form f n.op ≡ true → (calm : divides n.op ≡ false) (l r : Answer)
    → act_tokens f n l r ≡ []
idle_acts n Load e d l r = absurd (cc)
idle_acts n Store e d l r = absurd (cc)
idle_acts n Branch e d l r = absurd (cc)
idle_acts n General e d None r = refl
idle_acts n General e d (Some Null) r = refl
idle_acts n General e d (Some (Word l)) None = refl
idle_acts n General e d (Some (Word l)) (Some Null) = refl
idle_acts n General e d (Some (Word l)) (Some (Word r)) = rw d refl
idle_acts n Immediate e d None r = refl
idle_acts n Immediate e d (Some Null) r = refl
idle_acts n Immediate e d (Some (Word l)) None = refl
idle_acts n Immediate e d (Some (Word l)) (Some Null) = refl
idle_acts n Immediate e d (Some (Word l)) (Some (Word r)) = rw d refl
idle_acts n Constant e d None r = refl
idle_acts n Constant e d (Some Null) r = refl
idle_acts n Constant e d (Some (Word l)) None = refl
idle_acts n Constant e d (Some (Word l)) (Some Null) = refl
idle_acts n Constant e d (Some (Word l)) (Some (Word r)) = rw d refl

-- it leaves by no exit
pub idle_leaves : (n : FlowNode) (f : Form) → is_idle_form f n.op ≡ true → (t : Answer) → leaving_in f n t ≡ []
idle_leaves n Branch e t = absurd (cc)
idle_leaves n General e t = refl
idle_leaves n Immediate e t = refl
idle_leaves n Constant e t = refl
idle_leaves n Load e t = refl
idle_leaves n Store e t = refl

-- it gives no store number a token
pub idle_numbered : (n : FlowNode) (f : Form) → is_idle_form f n.op ≡ true → (t : Answer) (q : ℕ)
    → numbered f n t q ≡ 0
idle_numbered n Store e t q = absurd (cc)
idle_numbered n General e t q = refl
idle_numbered n Immediate e t q = refl
idle_numbered n Constant e t q = refl
idle_numbered n Load e t q = refl
idle_numbered n Branch e t q = refl

nought : (i : ℕ) → 0 + i ≡ i
nought i = omega arith

no_acts : (b : Bool) (l : List Act) → l ≡ [] → cond b l [] ≡ []
no_acts true l e = e
no_acts false l e = refl

-- THE NODES THAT STAY

module _ (k : ℕ) (gone : FlowNode) (idle : is_idle gone.op ≡ true) (calm : divides gone.op ≡ false) where
  -- nodes, the first of which is node j, none of which names node k, and node k is the one that goes
  abbrev pub Ready : ℕ → List FlowNode → Type 0
  Ready j [] = Unit {0}
  Ready j (n ∷ ns) = (Spares k n × (nat_eq j k ≡ true → gone ≡ n)) × Ready (suc j) ns

  module _ (regs : ℕ → ℕ) (t : Answer) (h : ℕ → Answer) where
    abbrev old : ℕ → Answer
    old = raised regs k t h

    stores_at : (ns : List FlowNode) (j : ℕ) → Ready j ns → (q : ℕ)
        → stores regs old ns q ≡ stores regs h (left_nodes k j ns) q
    stores_at [] j r q = refl
    stores_at (n ∷ ns) j r q = go (stores_at ns (suc j) r.1 q) (nat_eq j k) refl
      where
        go : stores regs old ns q ≡ stores regs h (left_nodes k (suc j) ns) q → (b : Bool) → nat_eq j k ≡ b
            → or_else (stored_in (form_of n.op) regs old n q) (stores regs old ns q)
            ≡ stores regs h (cond b (left_nodes k (suc j) ns) (lower_node k n ∷ left_nodes k (suc j) ns)) q
        go rest true e =
            ap (λ (s : Option Stored). or_else s (stores regs old ns q))
            (ap (λ (x : FlowNode). stored_in (form_of x.op) regs old x q) (sym (r.0.1 e))
            ∙ idle_stored regs old gone (form_of gone.op) idle q)
            ∙ rest
        go rest false e = ap₂ (λ (a b : Option Stored). or_else a b)
            (stored_low regs k t h n r.0.0 (form_of n.op) q) rest

    -- the stores by number
    pub stores_low : (ns : List FlowNode) → Ready 0 ns → stores regs old ns ≡ stores regs h (left_nodes k 0 ns)
    stores_low ns r = fun_ext (λ (q : ℕ). stores_at ns 0 r q)

    -- the memory behind the block
    pub memory_low : (ns : List FlowNode) → Ready 0 ns → (mem : List ℕ)
        → stored_all regs old ns mem ≡ stored_all regs h (left_nodes k 0 ns) mem
    unfolding stored_all
    memory_low ns r mem = ap (λ (s : ℕ → Option Stored). store_all mem (listed_below s 32)) (stores_low ns r)

    -- what a node does that can fault
    abbrev acts_of : FlowNode → List Act
    acts_of x = cond (met old x.guard)
        (act_tokens (form_of x.op) x (first regs old x.left) (first regs old x.right)) []

    -- what can fault
    pub fired_low : (ns : List FlowNode) (j : ℕ) → Ready j ns → fired regs old ns ≡ fired regs h (left_nodes k j ns)
    fired_low [] j r = refl
    fired_low (n ∷ ns) j r = go (fired_low ns (suc j) r.1) (nat_eq j k) refl
      where
        go : fired regs old ns ≡ fired regs h (left_nodes k (suc j) ns) → (b : Bool) → nat_eq j k ≡ b
            → acts_of n ++ fired regs old ns
            ≡ fired regs h (cond b (left_nodes k (suc j) ns) (lower_node k n ∷ left_nodes k (suc j) ns))
        go rest true e =
            ap (λ (l : List Act). l ++ fired regs old ns)
            (ap acts_of (sym (r.0.1 e))
            ∙ no_acts (met old gone.guard) _ (idle_acts gone (form_of gone.op) idle calm (first regs old gone.left)
            (first regs old gone.right)))
            ∙ rest
        go rest false e =
            let s : Spares k n = r.0.0 in
            ap₂ (λ (a b : List Act). a ++ b)
            (ap (λ (b : Bool). cond b
            (act_tokens (form_of n.op) n (first regs old n.left) (first regs old n.right)) [])
            (met_low regs k t h n s)
            ∙ ap (λ (l : List Act). cond (met h (lower_node k n).guard) l [])
            (ap₂ (λ (x y : Answer). act_tokens (form_of n.op) n x y) (first_low regs k t h n.left s.left)
            (first_low regs k t h n.right s.right)
            ∙ sym (acts_same regs k t h (form_of n.op) n (first regs h (lower_node k n).left)
            (first regs h (lower_node k n).right))))
            rest

    -- the exits
    pub exits_low : (ns : List FlowNode) (j : ℕ) → Ready j ns
        → exits old j ns ≡ exits h (lower k j) (left_nodes k j ns)
    exits_low [] j r = refl
    exits_low (n ∷ ns) j r = go (exits_low ns (suc j) r.1) (nat_eq j k) refl
      where
        go : exits old (suc j) ns ≡ exits h (lower k (suc j)) (left_nodes k (suc j) ns) → (b : Bool)
            → nat_eq j k ≡ b → leaving_in (form_of n.op) n (old j) ++ exits old (suc j) ns
            ≡ exits h (lower k j) (cond b (left_nodes k (suc j) ns) (lower_node k n ∷ left_nodes k (suc j) ns))
        go rest true e =
            ap (λ (l : List (Inst × Token)). l ++ exits old (suc j) ns)
            (ap (λ (x : FlowNode). leaving_in (form_of x.op) x (old j)) (sym (r.0.1 e))
            ∙ idle_leaves gone (form_of gone.op) idle (old j))
            ∙ rest
            ∙ ap (λ (i : ℕ). exits h i (left_nodes k (suc j) ns)) (lower_same k j e)
        go rest false e =
            ap₂ (λ (a b : List (Inst × Token)). a ++ b)
            (ap (leaving_in (form_of n.op) n) (raised_there regs k t h j e)
            ∙ sym (leaves_same k (form_of n.op) n (h (lower k j))))
            (rest
            ∙ ap (λ (i : ℕ). exits h i (left_nodes k (suc j) ns)) (lower_next k j e))

    -- the tokens of a store number
    pub tokens_low : (ns : List FlowNode) (j : ℕ) → Ready j ns → (q : ℕ)
        → tokens old j ns q ≡ tokens h (lower k j) (left_nodes k j ns) q
    tokens_low [] j r q = refl
    tokens_low (n ∷ ns) j r q = go (tokens_low ns (suc j) r.1 q) (nat_eq j k) refl
      where
        go : tokens old (suc j) ns q ≡ tokens h (lower k (suc j)) (left_nodes k (suc j) ns) q → (b : Bool)
            → nat_eq j k ≡ b → numbered (form_of n.op) n (old j) q + tokens old (suc j) ns q
            ≡ tokens h (lower k j) (cond b (left_nodes k (suc j) ns) (lower_node k n ∷ left_nodes k (suc j) ns)) q
        go rest true e =
            ap (λ (i : ℕ). i + tokens old (suc j) ns q)
            (ap (λ (x : FlowNode). numbered (form_of x.op) x (old j) q) (sym (r.0.1 e))
            ∙ idle_numbered gone (form_of gone.op) idle (old j) q)
            ∙ nought (tokens old (suc j) ns q)
            ∙ rest
            ∙ ap (λ (i : ℕ). tokens h i (left_nodes k (suc j) ns) q) (lower_same k j e)
        go rest false e =
            ap₂ (λ (a b : ℕ). a + b)
            (ap (λ (x : Answer). numbered (form_of n.op) n x q) (raised_there regs k t h j e)
            ∙ sym (numbered_same k (form_of n.op) n (h (lower k j)) q))
            (rest
            ∙ ap (λ (i : ℕ). tokens h i (left_nodes k (suc j) ns) q) (lower_next k j e))

    -- the registers behind the block
    pub written_low : (ws : List FlowWrite) → writes_name (Node k) ws ≡ false → (r : ℕ)
        → written regs old ws r ≡ written regs h (map (lower_write k) ws) r
    written_low [] e r = refl
    written_low (w ∷ ws) e r =
        let p = neither (is_among (Node k) w.sources) (writes_name (Node k) ws) e in
        ap₂ (λ (a b : ℕ). cond (nat_eq r w.register) a b)
        (ap (λ (x : Answer). word_or x (regs r)) (first_low regs k t h w.sources p.0)) (written_low ws p.1 r)

    -- the table of the nodes that stayed, with the token of the node that is gone, agrees with all
    pub obeys_low : (c a : Computes)
        → ((j : ℕ) (n : FlowNode) → nat_eq j k ≡ false → Spares k n
        → h (lower k j) ≡ gives regs h (c (lower k j) (lower_node k n)) (lower_node k n)
        → old j ≡ gives regs old (a j n) n)
        → ((j : ℕ) → nat_eq j k ≡ true → old j ≡ gives regs old (a j gone) gone)
        → (ns : List FlowNode) (j : ℕ) → Ready j ns → Obeys regs c h (lower k j) (left_nodes k j ns)
        → Obeys regs a old j ns
    obeys_low c a stays goes [] j r o = tt
    obeys_low c a stays goes (n ∷ ns) j r o =
        go (λ z. obeys_low c a stays goes ns (suc j) r.1 z) (nat_eq j k) refl o
      where
        go : (Obeys regs c h (lower k (suc j)) (left_nodes k (suc j) ns) → Obeys regs a old (suc j) ns) → (b : Bool)
            → nat_eq j k ≡ b
            → Obeys regs c h (lower k j) (cond b (left_nodes k (suc j) ns) (lower_node k n ∷ left_nodes k (suc j) ns))
            → (old j ≡ gives regs old (a j n) n) × Obeys regs a old (suc j) ns
        go rest true e z = (
          subst (λ (x : FlowNode). old j ≡ gives regs old (a j x) x) (r.0.1 e) (goes j e),
          rest (subst (λ (i : ℕ). Obeys regs c h i (left_nodes k (suc j) ns)) (sym (lower_same k j e)) z),
        )
        go rest false e z = (
          stays j n e r.0.0 z.0,
          rest (subst (λ (i : ℕ). Obeys regs c h i (left_nodes k (suc j) ns)) (sym (lower_next k j e)) z.1),
        )

-- The rule by which a node that waits for a token that comes only where its guard is met loses the guard.
use Rattle.std.proofs.Common.{◌≡◌, ◌≢◌, ℕ, List, [], ◌∷◌, ◌⊎◌, inl, inr, refl, sym, ap, ap₂, subst, ◌∙◌, arith}
use Rattle.std.proofs.Common.{cond, nat_eq, Bool, true, false, ◌&&◌, ◌||◌, not, map}
use Rattle.std.specs.Prelude.{Some, None, Option, slice_get, slice_index, option_map}
use Rattle.std.proofs.lemmas.Bool.{and_parts, eqb-false, or_cases}
use Rattle.std.proofs.lemmas.Option.{slice_get-map}
use Rattle.trips_isa.specs.declared.form.Form.{Form}
use Rattle.trips_isa.specs.declared.form.Form.TheVariants.{General, Immediate, Load, Store, Branch, Constant}
use Rattle.trips_isa.specs.declared.form.Role.{Role}
use Rattle.trips_isa.specs.declared.form.Role.TheVariants.{Empty, Reading, Free, Nothing, Copy, One, Both}
use Rattle.trips_isa.specs.declared.block.Token.TheVariants.{Null, Word}
use Rattle.trips_isa.specs.declared.block.Stored.{Stored}
use Rattle.trips_isa.specs.Blocks.{form_computes}
use Rattle.trips_isa.specs.Forms.{form_of, role_in, role_of, size_of, takes_left, takes_right}
use Rattle.trips_isa.specs.Rule as rules
use Rattle.trips_isa.specs.Rule.{Answer, if_matched}
use Rattle.trips_isa.specs.Stores.{stored_of, bytes_seen}
use Rattle.trips_isa.specs.Tables.{or_else}
use Rattle.ir_forms.specs.declared.flow.FlowSource.{FlowSource}
use Rattle.ir_forms.specs.declared.flow.FlowSource.TheVariants.{Read, Node}
use Rattle.ir_forms.specs.declared.flow.Guard.{Guard}
use Rattle.ir_forms.specs.declared.flow.FlowNode.{FlowNode}
use Rattle.ir_forms.specs.declared.flow.FlowBlock.{FlowBlock}
use Rattle.ir_forms.specs.inside.FlowRuns.{Computes, Obeys, gives, meant, stores, first, met, inst_of}
use Rattle.ir_forms.specs.inside.FlowRuns.{leaving_in, numbered, act_tokens, stored_in}
use Rattle.ir_forms.specs.inside.FlowFits.{FitsNodeForm, AtMostOne}
use Rattle.ir_forms.specs.inside.FlowRegular.{is_among, guards_by}
use Rattle.flow_fold.specs.inside.Folds.{with_node}
use Rattle.flow_fold.specs.inside.Replaces.{Immediates, with_immediate}
use Rattle.flow_fold.specs.inside.Waits.{is_under, operands_wait, node_waits, waits_at, source_waits, all_wait}
use Rattle.flow_fold.specs.inside.Waits.{none_wait, wait_once, wait_twice, wait_thrice, is_exit, may_free}
use Rattle.flow_fold.specs.inside.Waits.{without_guard}
use Rattle.flow_fold.proofs.Places.{all_at, set_here, set_there}
use Rattle.flow_fold.proofs.Echoes.{obeys_at}
use Rattle.flow_fold.proofs.Names.{named_at}
use Rattle.flow_fold.proofs.Turned.{Written, Works, SameDeeds}
use Rattle.flow_fold.proofs.Forwarded.{covers_is}

-- node j, which is n, waits for what comes only where its guard is met; m has no guard
pub record Waiting (nodes : List FlowNode) (j : ℕ) (n m : FlowNode) : Type 0 where
  pub guard : Guard
  pub guarded : n.guard ≡ Some guard
  pub calm : is_exit (form_of n.op) ≡ false
  pub waits : operands_wait (wait_thrice nodes j guard) n ≡ true
  pub is : m ≡ without_guard n

never : (b : Bool) → not b ≡ true → b ≡ false
never true e = absurd (cc)
never false e = refl

-- it does where the rule applies
pub waiting : (nodes : List FlowNode) (j : ℕ) (n m : FlowNode) → may_free nodes j n n.guard ≡ true
    → m ≡ without_guard n → Waiting nodes j n m
waiting nodes j n m e is = go n.guard refl e
  where
    go : (o : Option Guard) → n.guard ≡ o → may_free nodes j n o ≡ true → Waiting nodes j n m
    go None d t = absurd (cc)
    go (Some g) d t =
        let p = and_parts (not (is_exit (form_of n.op))) (operands_wait (wait_thrice nodes j g) n) t in
        record { guard = g; guarded = d; calm = never (is_exit (form_of n.op)) p.0; waits = p.1; is = is }

-- ABSENT TOKENS

-- an operand that a node takes gets none
abbrev pub Lacks : Role → Answer → Answer → Type 0
Lacks x l r = ((takes_left x ≡ true) × (l ≡ None)) ⊎ ((takes_right x ≡ true) × (r ≡ None))

left_absent : (x : Role) (w : ℕ → ℕ → ℕ) (r : Answer) → takes_left x ≡ true → rules.gives x w None r ≡ None
left_absent Copy w r e = refl
left_absent One w r e = refl
left_absent Both w r e = refl
left_absent Empty w r e = absurd (cc)
left_absent Reading w r e = absurd (cc)
left_absent Free w r e = absurd (cc)
left_absent Nothing w r e = absurd (cc)

right_absent : (x : Role) (w : ℕ → ℕ → ℕ) (l : Answer) → takes_right x ≡ true → rules.gives x w l None ≡ None
right_absent Both w None e = refl
right_absent Both w (Some Null) e = refl
right_absent Both w (Some (Word y)) e = refl
right_absent Copy w l e = absurd (cc)
right_absent One w l e = absurd (cc)
right_absent Empty w l e = absurd (cc)
right_absent Reading w l e = absurd (cc)
right_absent Free w l e = absurd (cc)
right_absent Nothing w l e = absurd (cc)

-- so it gives none
gives_none : (x : Role) (w : ℕ → ℕ → ℕ) (l r : Answer) → Lacks x l r → rules.gives x w l r ≡ None
gives_none x w l r (inl p) = ap (λ (t : Answer). rules.gives x w t r) p.1 ∙ left_absent x w r p.0
gives_none x w l r (inr p) = ap (λ (t : Answer). rules.gives x w l t) p.1 ∙ right_absent x w l p.0

none_matched : (b : Bool) → if_matched b None ≡ None
none_matched true = refl
none_matched false = refl

no_token : (t : Answer) → t ≡ None → t ≢ Some Null
no_token t d e = absurd (let z = sym d ∙ e in cc)

under_is : (o : Option Guard) (g : Guard) → is_under o g ≡ true → o ≡ Some g
under_is None g e = absurd (cc)
under_is (Some a) g e = go (covers_is (Some a) (Some g) e)
  where
    go : (Some a ≡ None) ⊎ (Some a ≡ Some g) → Some a ≡ Some g
    go (inl d) = absurd (cc)
    go (inr d) = d

module _ (nodes : List FlowNode) (j : ℕ) (g : Guard) (regs : ℕ → ℕ) (a : Computes) (h : ℕ → Answer)
    (at : (k : ℕ) (n : FlowNode) → k ≢ j → slice_get nodes k ≡ Some n → h k ≡ gives regs h (a k n) n)
    (unmet : met h (Some g) ≡ false) where
  -- sources of which this is told give no token
  abbrev Sound : (List FlowSource → Bool) → Type 0
  Sound p = (ss : List FlowSource) → p ss ≡ true → first regs h ss ≡ None

  lacks : (p : List FlowSource → Bool) → Sound p → (n : FlowNode) → operands_wait p n ≡ true
      → Lacks (role_of n.op) (first regs h n.left) (first regs h n.right)
  lacks p s n e = pick (or_cases (takes_left (role_of n.op) && p n.left) (takes_right (role_of n.op) && p n.right) e)
    where
      pick : ((takes_left (role_of n.op) && p n.left) ≡ true) ⊎ ((takes_right (role_of n.op) && p n.right) ≡ true)
          → Lacks (role_of n.op) (first regs h n.left) (first regs h n.right)
      pick (inl t) = let q = and_parts (takes_left (role_of n.op)) (p n.left) t in inl (q.0, s n.left q.1)
      pick (inr t) = let q = and_parts (takes_right (role_of n.op)) (p n.right) t in inr (q.0, s n.right q.1)

  node_absent : (p : List FlowSource → Bool) → Sound p → (k : ℕ) (n : FlowNode) → k ≢ j
      → slice_get nodes k ≡ Some n → node_waits p g n ≡ true → h k ≡ None
  node_absent p s k n d e t = at k n d e ∙ pick (or_cases (is_under n.guard g) (operands_wait p n) t)
    where
      pick : (is_under n.guard g ≡ true) ⊎ (operands_wait p n ≡ true)
          → if_matched (met h n.guard)
          (rules.gives (role_of n.op) (a k n) (first regs h n.left) (first regs h n.right)) ≡ None
      pick (inl u) = ap (λ (b : Bool). if_matched b
          (rules.gives (role_of n.op) (a k n) (first regs h n.left) (first regs h n.right)))
          (ap (met h) (under_is n.guard g u) ∙ unmet)
      pick (inr u) = ap (if_matched (met h n.guard))
          (gives_none (role_of n.op) (a k n) (first regs h n.left) (first regs h n.right) (lacks p s n u))
          ∙ none_matched (met h n.guard)

  all_sound : (p : List FlowSource → Bool) → Sound p → Sound (all_wait p nodes j g)
  all_sound p s [] e = refl
  all_sound p s (Read r ∷ rest) e = absurd (cc)
  all_sound p s (Node k ∷ rest) e =
      let x = and_parts (source_waits p nodes j g (Node k)) (all_wait p nodes j g rest) e in
      let y = and_parts (not (nat_eq k j)) (waits_at p g (slice_get nodes k)) x.0 in
      ap₂ or_else
      (at_node (eqb-false k j (never (nat_eq k j) y.0)) (slice_get nodes k) refl y.1)
      (all_sound p s rest x.1)
    where
      at_node : k ≢ j → (o : Option FlowNode) → slice_get nodes k ≡ o → waits_at p g o ≡ true → h k ≡ None
      at_node d None q t = absurd (cc)
      at_node d (Some n) q t = node_absent p s k n d q t

  -- an operand of a node that waits gets no token
  pub waits_lack : (n : FlowNode) → operands_wait (wait_thrice nodes j g) n ≡ true
      → Lacks (role_of n.op) (first regs h n.left) (first regs h n.right)
  waits_lack n e = lacks (wait_thrice nodes j g)
      (all_sound (wait_twice nodes j g) (all_sound (wait_once nodes j g) (all_sound none_wait (λ ss t. absurd (cc)))))
      n e

-- THE NODE

module _ (f : FlowBlock) (j : ℕ) (n : FlowNode) (there : slice_get f.nodes j ≡ Some n) (g : Guard)
    (guarded : n.guard ≡ Some g) (calm : is_exit (form_of n.op) ≡ false)
    (waits : operands_wait (wait_thrice f.nodes j g) n ≡ true) where
  abbrev m : FlowNode
  m = without_guard n

  form_same : (x : Form) → FitsNodeForm x n → FitsNodeForm x m
  form_same General a = a
  form_same Immediate a = a
  form_same Load a = a
  form_same Store a = a
  form_same Branch a = a
  form_same Constant a = (a.0, a.1, refl)

  unread : (r : ℕ) (o : Option Guard) → guards_by (Read r) o ≡ false
  unread r None = refl
  unread r (Some o) = refl

  less : (a b c : Bool) → (a || (b || false)) ≡ true → (a || (b || c)) ≡ true
  less true b c e = refl
  less false true c e = refl
  less false false c e = absurd (cc)

  -- it may be written without its guard
  pub free_written : Written f j n m
  free_written = record {
    fits = λ all a. record { form = form_same (form_of n.op) a.form; guard = tt; left = a.left; right = a.right };
    rises = λ rank order.
        let a = order.sources j n there in
        record { left = a.left; right = a.right; guard = tt };
    load = λ e. (e, refl);
    store = λ e. (e, refl);
    silent = λ e. e;
    operands = λ t. record { left = t.left; right = t.right };
    guards = λ s k e. absurd (cc);
    reads = λ r e. subst (λ (b : Bool). (is_among (Read r) n.left || (is_among (Read r) n.right || b)) ≡ true)
        (unread r n.guard) e;
    names = λ y e. named_at (Node y) f.nodes j n there
        (less (is_among (Node y) n.left) (is_among (Node y) n.right) (guards_by (Node y) n.guard) e);
    label = λ e. record { place = j; node = n; there = there; op = refl; imm = refl };
  }

  same_leaves : (x : Form) (t : Answer) → is_exit x ≡ false → leaving_in x m t ≡ leaving_in x n t
  same_leaves Branch t e = absurd (cc)
  same_leaves General t e = refl
  same_leaves Immediate t e = refl
  same_leaves Load t e = refl
  same_leaves Store t e = refl
  same_leaves Constant t e = refl

  same_numbers : (x : Form) (t : Answer) (q : ℕ) → numbered x m t q ≡ numbered x n t q
  same_numbers Store t q = refl
  same_numbers General t q = refl
  same_numbers Immediate t q = refl
  same_numbers Load t q = refl
  same_numbers Branch t q = refl
  same_numbers Constant t q = refl

  same_acts : (x : Form) (l r : Answer) → act_tokens x m l r ≡ act_tokens x n l r
  same_acts Load None r = refl
  same_acts Load (Some Null) r = refl
  same_acts Load (Some (Word u)) r = refl
  same_acts x None r = refl
  same_acts x (Some Null) r = refl
  same_acts x (Some (Word u)) None = refl
  same_acts x (Some (Word u)) (Some Null) = refl
  same_acts General (Some (Word u)) (Some (Word v)) = refl
  same_acts Immediate (Some (Word u)) (Some (Word v)) = refl
  same_acts Store (Some (Word u)) (Some (Word v)) = refl
  same_acts Branch (Some (Word u)) (Some (Word v)) = refl
  same_acts Constant (Some (Word u)) (Some (Word v)) = refl

  same_store : (l r : Answer) → stored_of (inst_of m) l r ≡ stored_of (inst_of n) l r
  same_store None r = refl
  same_store (Some l) None = refl
  same_store (Some Null) (Some r) = refl
  same_store (Some (Word u)) (Some Null) = refl
  same_store (Some (Word u)) (Some (Word v)) = refl

  same_words : (x : Form) (see : ℕ → ℕ) → form_computes x (inst_of m) see ≡ form_computes x (inst_of n) see
  same_words General see = refl
  same_words Immediate see = refl
  same_words Load see = refl
  same_words Store see = refl
  same_words Branch see = refl
  same_words Constant see = refl

  -- where an operand gets no token nothing is done
  left_idle : (x : Form) (r : Answer) → act_tokens x m None r ≡ []
  left_idle General r = refl
  left_idle Immediate r = refl
  left_idle Load r = refl
  left_idle Store r = refl
  left_idle Branch r = refl
  left_idle Constant r = refl

  right_idle : (x : Form) (l : Answer) → takes_right (role_in x n.op) ≡ true → act_tokens x m l None ≡ []
  right_idle Load l e = absurd (cc)
  right_idle General None e = refl
  right_idle General (Some Null) e = refl
  right_idle General (Some (Word u)) e = refl
  right_idle Immediate l e = absurd (cc)
  right_idle Store None e = refl
  right_idle Store (Some Null) e = refl
  right_idle Store (Some (Word u)) e = refl
  right_idle Branch None e = refl
  right_idle Branch (Some Null) e = refl
  right_idle Branch (Some (Word u)) e = refl
  right_idle Constant None e = refl
  right_idle Constant (Some Null) e = refl
  right_idle Constant (Some (Word u)) e = refl

  idle : (l r : Answer) → Lacks (role_of n.op) l r → act_tokens (form_of n.op) m l r ≡ []
  idle l r (inl p) = ap (λ (t : Answer). act_tokens (form_of n.op) m t r) p.1 ∙ left_idle (form_of n.op) r
  idle l r (inr p) = ap (act_tokens (form_of n.op) m l) p.1 ∙ right_idle (form_of n.op) l p.0

  right_unstored : (l : Answer) → stored_of (inst_of m) l None ≡ None
  right_unstored None = refl
  right_unstored (Some l) = refl

  unstored : (l r : Answer) → Lacks (role_of n.op) l r → stored_of (inst_of m) l r ≡ None
  unstored l r (inl p) = ap (λ (t : Answer). stored_of (inst_of m) t r) p.1
  unstored l r (inr p) = ap (stored_of (inst_of m) l) p.1 ∙ right_unstored l

  module _ (regs : ℕ → ℕ) (a : Computes) (h : ℕ → Answer) (obeys : Obeys regs a h 0 (with_node f j m).nodes) where
    abbrev l : Answer
    l = first regs h n.left

    abbrev r : Answer
    r = first regs h n.right

    lack : met h n.guard ≡ false → Lacks (role_of n.op) l r
    lack e = waits_lack f.nodes j g regs a h
        (λ k x d s. obeys_at regs a h 0 (with_node f j m).nodes obeys k x k (omega arith)
        (set_there f.nodes j k m d ∙ s))
        (ap (met h) (sym guarded) ∙ e) n waits

    -- the node gives the same
    gives_same : (w : ℕ → ℕ → ℕ) → gives regs h w m ≡ gives regs h w n
    gives_same w = go (met h n.guard) refl
      where
        go : (b : Bool) → met h n.guard ≡ b → rules.gives (role_of n.op) w l r
            ≡ if_matched b (rules.gives (role_of n.op) w l r)
        go true e = refl
        go false e = gives_none (role_of n.op) w l r (lack e)

    stored_same : (x : Form) (q : ℕ) → stored_in x regs h m q ≡ stored_in x regs h n q
    stored_same General q = refl
    stored_same Immediate q = refl
    stored_same Load q = refl
    stored_same Branch q = refl
    stored_same Constant q = refl
    stored_same Store q = ap (λ (s : Option Stored). cond (nat_eq n.number q) s None) (go (met h n.guard) refl)
      where
        go : (b : Bool) → met h n.guard ≡ b → stored_of (inst_of m) l r ≡ cond b (stored_of (inst_of n) l r) None
        go true e = same_store l r
        go false e = unstored l r (lack e)

    deeds_same : SameDeeds regs h n m
    deeds_same = record { stored = λ q. stored_same (form_of n.op) q; acts = go (met h n.guard) refl }
      where
        go : (b : Bool) → met h n.guard ≡ b
            → act_tokens (form_of n.op) m l r ≡ cond b (act_tokens (form_of n.op) n l r) []
        go true e = same_acts (form_of n.op) l r
        go false e = idle l r (lack e)

    given : h j ≡ gives regs h (a j m) n
    given = obeys_at regs a h 0 (with_node f j m).nodes obeys j m j (omega arith) (set_here f.nodes j n m there)
        ∙ gives_same (a j m)

  -- and does the same
  pub free_works : Works f j n m
  free_works = record {
    path = λ regs a h w. record { computes = a j m; is = given regs a h w };
    tidy = λ regs a h w t. record {
      clear = no_token None refl;
      operands = all_at (AtMostOne regs h) f.nodes t.operands j n there;
    };
    outputs = λ h. record {
      leaves = same_leaves (form_of n.op) (h j) calm;
      numbered = λ q. same_numbers (form_of n.op) (h j) q;
    };
    deeds = λ regs mem h w. deeds_same regs (meant (stores regs h (with_node f j m).nodes) mem) h w;
    start = λ regs mem h w.
        let st = stores regs h (with_node f j m).nodes in
        given regs (meant st mem) h w
        ∙ ap (λ (c : ℕ → ℕ → ℕ). gives regs h c n)
        (same_words (form_of n.op) (λ x. bytes_seen st (slice_index mem) n.number x (size_of n.op)));
  }

-- WHATEVER THE LABELS BECOME

module _ (r : Immediates) (nodes : List FlowNode) (j : ℕ) (g : Guard) where
  abbrev new : FlowNode → FlowNode
  new = with_immediate r

  module _ (p q : List FlowSource → Bool) (same : (ss : List FlowSource) → p ss ≡ q ss) where
    operands_new : (x : FlowNode) → operands_wait p (new x) ≡ operands_wait q x
    operands_new x = ap₂ (λ (b c : Bool). (takes_left (role_of x.op) && b) || (takes_right (role_of x.op) && c))
        (same x.left) (same x.right)

    at_new : (o : Option FlowNode) → waits_at p g (option_map new o) ≡ waits_at q g o
    at_new None = refl
    at_new (Some x) = ap (λ (b : Bool). is_under x.guard g || b) (operands_new x)

    all_new : (ss : List FlowSource) → all_wait p (map new nodes) j g ss ≡ all_wait q nodes j g ss
    all_new [] = refl
    all_new (Read k ∷ rest) = refl
    all_new (Node k ∷ rest) = ap₂ (λ (b c : Bool). (not (nat_eq k j) && b) && c)
        (ap (waits_at p g) (slice_get-map new nodes k) ∙ at_new (slice_get nodes k)) (all_new rest)

  thrice_new : (ss : List FlowSource) → wait_thrice (map new nodes) j g ss ≡ wait_thrice nodes j g ss
  thrice_new ss = all_new (wait_twice (map new nodes) j g) (wait_twice nodes j g)
      (λ ts. all_new (wait_once (map new nodes) j g) (wait_once nodes j g)
      (λ us. all_new none_wait none_wait (λ vs. refl) us) ts) ss

  pub waits_new : (x : FlowNode) → operands_wait (wait_thrice (map new nodes) j g) (new x)
      ≡ operands_wait (wait_thrice nodes j g) x
  waits_new x = operands_new (wait_thrice (map new nodes) j g) (wait_thrice nodes j g) (λ ss. thrice_new ss) x

-- the rule still applies
pub waiting_kept : (r : Immediates) (nodes : List FlowNode) (j : ℕ) (n m : FlowNode) → Waiting nodes j n m
    → Waiting (map (with_immediate r) nodes) j (with_immediate r n) (with_immediate r m)
waiting_kept r nodes j n m c = record {
  guard = c.guard;
  guarded = c.guarded;
  calm = c.calm;
  waits = waits_new r nodes j c.guard n ∙ c.waits;
  is = ap (with_immediate r) c.is;
}

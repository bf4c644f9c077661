-- The rule by which a node whose guard's node copies another takes that as its guard.
use Rattle.std.proofs.Common.{◌≡◌, ◌≢◌, ℕ, ◌<◌, List, [], ◌∷◌, ◌⊎◌, inl, inr, refl, sym, ap, ap₂, subst, ◌∙◌, arith}
use Rattle.std.proofs.Common.{cond, nat_eq, Bool, true, false, ◌&&◌, ◌||◌, not}
use Rattle.std.specs.Prelude.{Some, None, Option, All, slice_get}
use Rattle.std.proofs.lemmas.Bool.{and_parts, eqb-false, or_cases}
use Rattle.std.proofs.lemmas.List.Elements.{All-head}
use Rattle.std.proofs.lemmas.Option.{cond_some, same_Some}
use Rattle.trips_isa.specs.declared.op.Op.{Op}
use Rattle.trips_isa.specs.declared.op.Op.TheVariants as op
use Rattle.trips_isa.specs.declared.form.Form.{Form}
use Rattle.trips_isa.specs.declared.form.Form.TheVariants.{General, Immediate, Load, Store, Branch, Constant}
use Rattle.trips_isa.specs.declared.block.Token.{Token}
use Rattle.trips_isa.specs.declared.block.Token.TheVariants.{Null, Word}
use Rattle.trips_isa.specs.declared.block.Sense.{Sense}
use Rattle.trips_isa.specs.declared.block.Sense.TheVariants.{Always}
use Rattle.trips_isa.specs.declared.block.Inst.{Inst}
use Rattle.trips_isa.specs.inside.Acts.{Act}
use Rattle.trips_isa.specs.Blocks.{form_computes}
use Rattle.trips_isa.specs.Forms.{form_of, role_of, size_of}
use Rattle.trips_isa.specs.Rule as rules
use Rattle.trips_isa.specs.Rule.{Answer, if_matched, matched}
use Rattle.trips_isa.specs.Stores.{stored_of, bytes_seen}
use Rattle.std.specs.Prelude.{slice_index}
use Rattle.ir_forms.specs.declared.flow.FlowSource.{FlowSource}
use Rattle.ir_forms.specs.declared.flow.FlowSource.TheVariants.{Read, Node}
use Rattle.ir_forms.specs.declared.flow.Guard.{Guard}
use Rattle.ir_forms.specs.declared.flow.FlowNode.{FlowNode}
use Rattle.ir_forms.specs.declared.flow.FlowBlock.{FlowBlock}
use Rattle.ir_forms.specs.inside.FlowRuns.{Computes, Obeys, gives, meant, stores, first, met, inst_of, guard_token}
use Rattle.ir_forms.specs.inside.FlowRuns.{sense_of, leaving_in, numbered, act_tokens, stored_in}
use Rattle.ir_forms.specs.inside.FlowFits.{FitsNode, FitsNodeForm, FitsFlowSource, RisesFrom}
use Rattle.ir_forms.specs.inside.FlowFits.{RisesFromGuard, AtMostOne}
use Rattle.ir_forms.specs.inside.FlowRegular.{same_source, is_among, guards_by, nodes_name}
use Rattle.flow_fold.specs.inside.Copies.{is_mov, covers, guard_of, guard_by, guard_at, guard_copied}
use Rattle.flow_fold.specs.inside.Folds.{with_guard, with_node}
use Rattle.flow_fold.proofs.Places.{all_at, set_here, set_there}
use Rattle.flow_fold.proofs.Echoes.{obeys_at}
use Rattle.flow_fold.proofs.Names.{named_at, or_first, or_second}
use Rattle.flow_fold.proofs.Turned.{Written, Works, SameDeeds}
use Rattle.flow_fold.proofs.Forwarded.{mov_is, covers_is, or_none}

-- THE COPY

-- the guard of node j, which is n, whose node copies another; m has the other as its guard
pub record Guarding (nodes : List FlowNode) (j : ℕ) (n m : FlowNode) : Type 0 where
  pub old : Guard
  pub guarded : n.guard ≡ Some old
  pub node : FlowNode
  pub there : slice_get nodes old.node ≡ Some node
  pub apart : old.node ≢ j
  pub mov : node.op ≡ op.Mov
  pub source : ℕ
  pub left : node.left ≡ Node source ∷ []
  pub below : source ≢ j
  pub covered : covers node.guard (guard_of (slice_get nodes source)) ≡ true
  pub is : m ≡ with_guard n (record { node = source; sense = old.sense })

-- the guard by another node
abbrev other_guard : ℕ → Guard → Guard
other_guard i o = record { node = i; sense = o.sense }

not_equal : (a b : ℕ) → not (nat_eq a b) ≡ true → a ≢ b
not_equal a b e = eqb-false a b (go (nat_eq a b) e)
  where
    go : (x : Bool) → not x ≡ true → x ≡ false
    go true d = absurd (cc)
    go false d = refl

module _ (nodes : List FlowNode) (j : ℕ) (n m : FlowNode) (g : Guard) (is : m ≡ with_guard n g) where
  beyond : (o : Guard) → n.guard ≡ Some o → (c : FlowNode) → slice_get nodes o.node ≡ Some c → o.node ≢ j
      → c.op ≡ op.Mov → (ss : List FlowSource) → c.left ≡ ss → guard_by nodes j o c.guard ss ≡ Some g
      → Guarding nodes j n m
  beyond o d c there apart mov [] l e = absurd (cc)
  beyond o d c there apart mov (Read r ∷ rest) l e = absurd (cc)
  beyond o d c there apart mov (Node i ∷ (s ∷ rest)) l e = absurd (cc)
  beyond o d c there apart mov (Node i ∷ []) l e =
      let p = cond_some (not (nat_eq i j) && covers c.guard (guard_of (slice_get nodes i)))
      (other_guard i o) g e in
      let q = and_parts (not (nat_eq i j)) (covers c.guard (guard_of (slice_get nodes i))) p.0 in
      record {
        old = o;
        guarded = d;
        node = c;
        there = there;
        apart = apart;
        mov = mov;
        source = i;
        left = l;
        below = not_equal i j q.0;
        covered = q.1;
        is = is ∙ ap (with_guard n) (sym p.1);
      }

  at_copy : (o : Guard) → n.guard ≡ Some o → o.node ≢ j → (c : Option FlowNode) → slice_get nodes o.node ≡ c
      → guard_at nodes j o c ≡ Some g → Guarding nodes j n m
  at_copy o d apart None there e = absurd (cc)
  at_copy o d apart (Some c) there e =
      let p = cond_some_at (is_mov c.op) (guard_by nodes j o c.guard c.left) e in
      beyond o d c there apart (mov_is c.op p.0) c.left refl p.1
    where
      cond_some_at : (b : Bool) (x : Option Guard) → cond b x None ≡ Some g → (b ≡ true) × (x ≡ Some g)
      cond_some_at true x t = (refl, t)
      cond_some_at false x t = absurd (cc)

  at_guard : (o : Guard) → n.guard ≡ Some o → (b : Bool) → nat_eq o.node j ≡ b
      → cond b None (guard_at nodes j o (slice_get nodes o.node)) ≡ Some g → Guarding nodes j n m
  at_guard o d true q e = absurd (cc)
  at_guard o d false q e = at_copy o d (eqb-false o.node j q) (slice_get nodes o.node) refl e

  -- it is found where there is one
  pub guarding : guard_copied nodes j n.guard ≡ Some g → Guarding nodes j n m
  guarding e = go n.guard refl e
    where
      go : (o : Option Guard) → n.guard ≡ o → guard_copied nodes j o ≡ Some g → Guarding nodes j n m
      go None d t = absurd (cc)
      go (Some o) d t = at_guard o d (nat_eq o.node j) refl t

-- a token that is matched twice is matched once
pub twice_matched : (b : Bool) (t : Answer) → if_matched b (if_matched b t) ≡ if_matched b t
twice_matched true t = refl
twice_matched false t = refl

module _ (f : FlowBlock) (j : ℕ) (n : FlowNode) (there : slice_get f.nodes j ≡ Some n) (o : Guard)
    (guarded : n.guard ≡ Some o) (c : FlowNode) (is : slice_get f.nodes o.node ≡ Some c) (apart : o.node ≢ j)
    (mov : c.op ≡ op.Mov) (i : ℕ) (left : c.left ≡ Node i ∷ []) (below : i ≢ j)
    (covered : covers c.guard (guard_of (slice_get f.nodes i)) ≡ true) where
  abbrev new : Guard
  new = record { node = i; sense = o.sense }

  abbrev m : FlowNode
  m = with_guard n new

  -- IN THE BLOCK

  form_same : (x : Form) → FitsNodeForm x n → FitsNodeForm x m
  form_same General a = a
  form_same Immediate a = a
  form_same Load a = a
  form_same Store a = a
  form_same Branch a = a
  form_same Constant a = absurd (let z : None ≡ Some o = sym a.2 ∙ guarded in cc)

  unread : (r : ℕ) (g : Option Guard) → guards_by (Read r) g ≡ false
  unread r None = refl
  unread r (Some g) = refl

  among_left : (y : ℕ) → guards_by (Node y) (Some new) ≡ true → is_among (Node y) c.left ≡ true
  among_left y e = ap (is_among (Node y)) left ∙ or_first (same_source (Node y) (Node i)) false e

  guard_names : (y : ℕ) → (is_among (Node y) n.left ≡ true)
      ⊎ ((is_among (Node y) n.right || guards_by (Node y) (Some new)) ≡ true) → nodes_name (Node y) f.nodes ≡ true
  guard_names y (inl e) = named_at (Node y) f.nodes j n there
      (or_first (is_among (Node y) n.left) (is_among (Node y) n.right || guards_by (Node y) n.guard) e)
  guard_names y (inr e) = go (or_cases (is_among (Node y) n.right) (guards_by (Node y) (Some new)) e)
    where
      go : (is_among (Node y) n.right ≡ true) ⊎ (guards_by (Node y) (Some new) ≡ true)
          → nodes_name (Node y) f.nodes ≡ true
      go (inl d) = named_at (Node y) f.nodes j n there
          (or_second (is_among (Node y) n.left) (is_among (Node y) n.right || guards_by (Node y) n.guard)
          (or_first (is_among (Node y) n.right) (guards_by (Node y) n.guard) d))
      go (inr d) = named_at (Node y) f.nodes o.node c is
          (or_first (is_among (Node y) c.left) (is_among (Node y) c.right || guards_by (Node y) c.guard)
          (among_left y d))

  -- a node may be written with what the node of its guard copies as its guard
  pub guard_written : Written f j n m
  guard_written = record {
    fits = λ all a. record {
      form = form_same (form_of n.op) a.form;
      guard = All-head (FitsFlowSource f) (Node i) []
          (subst (λ (z : List FlowSource). All (FitsFlowSource f) z) left
          (all_at (FitsNode f) f.nodes all o.node c is).left);
      left = a.left;
      right = a.right;
    };
    rises = λ rank order.
        let a = order.sources j n there in
        let low : rank i < rank o.node = All-head (RisesFrom rank (rank o.node)) (Node i) []
        (subst (λ (z : List FlowSource). All (RisesFrom rank (rank o.node)) z) left
        (order.sources o.node c is).left) in
        let high : rank o.node < rank j =
        subst (λ (z : Option Guard). RisesFromGuard rank (rank j) z) guarded a.guard in
        let top : rank i < rank j = omega (arith, low, high) in
        record { left = a.left; right = a.right; guard = top };
    load = λ e. (e, refl);
    store = λ e. (e, refl);
    silent = λ e. e;
    operands = λ t. record { left = t.left; right = t.right };
    guards = λ s g e. subst (λ (z : Guard). z.sense ≢ Always) (same_Some new g e) (s o guarded);
    reads = λ r e. subst (λ (b : Bool). (is_among (Read r) n.left || (is_among (Read r) n.right || b)) ≡ true)
        (unread r n.guard) e;
    names = λ y e. guard_names y (or_cases (is_among (Node y) n.left)
        (is_among (Node y) n.right || guards_by (Node y) (Some new)) e);
    label = λ e. record { place = j; node = n; there = there; op = refl; imm = refl };
  }

  -- IN ITS TABLES

  same_sense : sense_of n.guard ≡ o.sense
  same_sense = ap sense_of guarded

  abbrev inst_with : Sense → Inst
  inst_with s = record { op = n.op; sense = s; imm = n.imm; number = n.number; first = None; second = None }

  same_inst : inst_of m ≡ inst_of n
  same_inst = ap inst_with (sym same_sense)

  abbrev left_by : Token → Inst → List (Inst × Token)
  left_by t z = (z, t) ∷ []

  same_leaves : (x : Form) (t : Answer) → leaving_in x m t ≡ leaving_in x n t
  same_leaves Branch None = refl
  same_leaves Branch (Some t) = ap (left_by t) same_inst
  same_leaves General t = refl
  same_leaves Immediate t = refl
  same_leaves Load t = refl
  same_leaves Store t = refl
  same_leaves Constant t = refl

  same_numbers : (x : Form) (t : Answer) (q : ℕ) → numbered x m t q ≡ numbered x n t q
  same_numbers Store t q = refl
  same_numbers General t q = refl
  same_numbers Immediate t q = refl
  same_numbers Load t q = refl
  same_numbers Branch t q = refl
  same_numbers Constant t q = refl

  same_acts : (x : Form) (l r : Answer) → act_tokens x m l r ≡ act_tokens x n l r
  same_acts Load None r = refl
  same_acts Load (Some Null) r = refl
  same_acts Load (Some (Word u)) r = refl
  same_acts x None r = refl
  same_acts x (Some Null) r = refl
  same_acts x (Some (Word u)) None = refl
  same_acts x (Some (Word u)) (Some Null) = refl
  same_acts General (Some (Word u)) (Some (Word v)) = refl
  same_acts Immediate (Some (Word u)) (Some (Word v)) = refl
  same_acts Store (Some (Word u)) (Some (Word v)) = refl
  same_acts Branch (Some (Word u)) (Some (Word v)) = refl
  same_acts Constant (Some (Word u)) (Some (Word v)) = refl

  module _ (regs : ℕ → ℕ) (a : Computes) (h : ℕ → Answer) (obeys : Obeys regs a h 0 (with_node f j m).nodes) where
    copy_token : h o.node ≡ if_matched (met h c.guard) (h i)
    copy_token =
        obeys_at regs a h 0 (with_node f j m).nodes obeys o.node c o.node (omega arith)
        (set_there f.nodes j o.node m apart ∙ is)
        ∙ ap (λ (p : Op). if_matched (met h c.guard) (rules.gives (role_of p) (a o.node c) (first regs h c.left)
        (first regs h c.right))) mov
        ∙ ap (λ (ss : List FlowSource). if_matched (met h c.guard) (first regs h ss)) left
        ∙ ap (if_matched (met h c.guard)) (or_none (h i))

    source_token : (x : Option FlowNode) → slice_get f.nodes i ≡ x → covers c.guard (guard_of x) ≡ true
        → if_matched (met h c.guard) (h i) ≡ h i
    source_token x s e = go (covers_is c.guard (guard_of x) e) x s refl
      where
        bare : c.guard ≡ None → if_matched (met h c.guard) (h i) ≡ h i
        bare d = ap (λ (z : Option Guard). if_matched (met h z) (h i)) d

        go : (c.guard ≡ None) ⊎ (c.guard ≡ guard_of x) → (y : Option FlowNode) → slice_get f.nodes i ≡ y → y ≡ x
            → if_matched (met h c.guard) (h i) ≡ h i
        go (inl d) y t q = bare d
        go (inr d) None t q = bare (d ∙ ap guard_of (sym q))
        go (inr d) (Some y) t q =
            let b = met h y.guard in
            let p : Answer = rules.gives (role_of y.op) (a i y) (first regs h y.left) (first regs h y.right) in
            let w : h i ≡ if_matched b p = obeys_at regs a h 0 (with_node f j m).nodes obeys i y i (omega arith)
            (set_there f.nodes j i m below ∙ t) in
            ap₂ if_matched (ap (met h) (d ∙ ap guard_of (sym q))) w
            ∙ (twice_matched b p ∙ sym w)

    -- what is copied gives the token of the copy
    same_token : h i ≡ guard_token h n.guard
    same_token =
        sym (source_token (slice_get f.nodes i) refl covered) ∙ (sym copy_token ∙ ap (guard_token h) (sym guarded))

    same_met : met h m.guard ≡ met h n.guard
    same_met = ap₂ matched (sym same_sense) same_token

    -- the node gives the same
    gives_same : (w : ℕ → ℕ → ℕ) → gives regs h w m ≡ gives regs h w n
    gives_same w = ap (λ (b : Bool). if_matched b (rules.gives (role_of n.op) w (first regs h n.left)
        (first regs h n.right))) same_met

    stored_same : (x : Form) (q : ℕ) → stored_in x regs h m q ≡ stored_in x regs h n q
    stored_same Store q = ap₂ (λ (b : Bool) (z : Inst). cond (nat_eq n.number q)
        (cond b (stored_of z (first regs h n.left) (first regs h n.right)) None) None) same_met same_inst
    stored_same General q = refl
    stored_same Immediate q = refl
    stored_same Load q = refl
    stored_same Branch q = refl
    stored_same Constant q = refl

    deeds_same : SameDeeds regs h n m
    deeds_same = record {
      stored = λ q. stored_same (form_of n.op) q;
      acts = ap₂ (λ (b : Bool) (l : List Act). cond b l []) same_met
          (same_acts (form_of n.op) (first regs h n.left) (first regs h n.right));
    }

    given : h j ≡ gives regs h (a j m) n
    given = obeys_at regs a h 0 (with_node f j m).nodes obeys j m j (omega arith) (set_here f.nodes j n m there)
        ∙ gives_same (a j m)

  -- and does the same
  pub guard_works : Works f j n m
  guard_works = record {
    path = λ regs a h w. record { computes = a j m; is = given regs a h w };
    tidy = λ regs a h w t. record {
      clear = λ e. all_at (λ (x : FlowNode). guard_token h x.guard ≢ Some Null) f.nodes t.clear j n there
          (sym (same_token regs a h w) ∙ e);
      operands = all_at (AtMostOne regs h) f.nodes t.operands j n there;
    };
    outputs = λ h. record {
      leaves = same_leaves (form_of n.op) (h j);
      numbered = λ q. same_numbers (form_of n.op) (h j) q;
    };
    deeds = λ regs mem h w. deeds_same regs (meant (stores regs h (with_node f j m).nodes) mem) h w;
    start = λ regs mem h w.
        let st = stores regs h (with_node f j m).nodes in
        given regs (meant st mem) h w
        ∙ ap (λ (z : Inst). gives regs h (form_computes (form_of n.op) z
        (λ x. bytes_seen st (slice_index mem) n.number x (size_of n.op))) n) same_inst;
  }

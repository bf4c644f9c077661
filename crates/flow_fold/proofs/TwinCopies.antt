-- A node may be a copy of its twin, and does what it did.
use Rattle.std.proofs.Common.{◌≡◌, ◌≢◌, ℕ, ◌+◌, ◌%◌, ◌^◌, ◌<◌, ◌≤◌, List, [], ◌∷◌, ◌⊎◌, inl, inr, refl, sym, ap, ap₂}
use Rattle.std.proofs.Common.{subst, ◌∙◌, arith, cond, nat_eq, Bool, true, false, ◌||◌}
use Rattle.std.specs.Prelude.{ℤ, Some, None, Option, slice_get, slice_set, slice_index}
use Rattle.std.specs.List.{Contains}
use Rattle.std.proofs.Math.Path.{fun_ext}
use Rattle.std.proofs.lemmas.Bool.{or_cases, false≢true, eqb-true}
use Rattle.std.proofs.lemmas.List.Elements.{All-nil, All-cons}
use Rattle.std.proofs.lemmas.Option.{same_Some, slice_get_within}
use Rattle.trips_isa.specs.declared.op.Op.{Op}
use Rattle.trips_isa.specs.declared.form.Form.{Form}
use Rattle.trips_isa.specs.declared.form.Form.TheVariants.{General, Immediate, Load, Store, Branch, Constant}
use Rattle.trips_isa.specs.declared.block.Token.TheVariants.{Null, Word}
use Rattle.trips_isa.specs.declared.block.Stored.{Stored}
use Rattle.trips_isa.specs.inside.Acts.{Act, Divided, Accessed}
use Rattle.trips_isa.specs.Alu.{alu_of, word}
use Rattle.trips_isa.specs.Faults.{divides}
use Rattle.trips_isa.specs.Blocks.{form_computes}
use Rattle.trips_isa.specs.Forms.{form_of, role_of, size_of}
use Rattle.trips_isa.specs.Rule as rules
use Rattle.trips_isa.specs.Rule.{Answer, if_matched}
use Rattle.trips_isa.specs.Stores.{bytes_seen}
use Rattle.ir_forms.specs.declared.flow.FlowSource.{FlowSource}
use Rattle.ir_forms.specs.declared.flow.FlowSource.TheVariants.{Read, Node}
use Rattle.ir_forms.specs.declared.flow.Guard.{Guard}
use Rattle.ir_forms.specs.declared.flow.FlowNode.{FlowNode}
use Rattle.ir_forms.specs.declared.flow.FlowBlock.{FlowBlock}
use Rattle.ir_forms.specs.inside.FlowRuns.{Computes, Obeys, gives, meant, stores, first, guard_token, inst_of, met}
use Rattle.ir_forms.specs.inside.FlowRuns.{act_tokens, present, fired, leaving_in, numbered, stored_in}
use Rattle.ir_forms.specs.inside.FlowFits.{FitsFlowSource}
use Rattle.ir_forms.specs.inside.FlowRegular.{is_among, guards_by, is_silent, nodes_name}
use Rattle.hyper_narrow.specs.inside.NarrowedMeaning.{SameActs}
use Rattle.flow_fold.specs.inside.Folds.{with_node}
use Rattle.flow_fold.specs.inside.Shares.{Twins, copy_of, may_be_shared}
use Rattle.flow_fold.specs.inside.Sweeps.{is_idle_form}
use Rattle.flow_fold.proofs.Places.{all_at, set_here, set_there}
use Rattle.flow_fold.proofs.Echoes.{obeys_at}
use Rattle.flow_fold.proofs.Names.{node_names, named_at, or_second}
use Rattle.flow_fold.proofs.Turned.{Does, SameOutputs, acts_of}
use Rattle.flow_fold.proofs.Placing.{Placed}
use Rattle.flow_fold.proofs.Forwarded.{covers_is, or_none}
use Rattle.flow_fold.proofs.ActsLeft.{done_at, acts_left}
use Rattle.flow_fold.proofs.TwinRanks.{copy_ordered}

-- a guard never names a register
pub unread : (r : ℕ) (o : Option Guard) → guards_by (Read r) o ≡ false
unread r None = refl
unread r (Some g) = refl

-- an idle node hands its token on
pub not_silent : (x : Form) (o : Op) → is_idle_form x o ≡ true → is_silent x ≡ true → ⊥
not_silent Store o d e = absurd (cc)
not_silent Branch o d e = absurd (cc)
not_silent General o d e = absurd (cc)
not_silent Immediate o d e = absurd (cc)
not_silent Load o d e = absurd (cc)
not_silent Constant o d e = absurd (cc)

-- nor is a node silent that may have a twin
not_silent_twin : (x : Form) → may_be_shared x ≡ true → is_silent x ≡ true → ⊥
not_silent_twin Store d e = absurd (cc)
not_silent_twin Branch d e = absurd (cc)
not_silent_twin General d e = absurd (cc)
not_silent_twin Immediate d e = absurd (cc)
not_silent_twin Load d e = absurd (cc)
not_silent_twin Constant d e = absurd (cc)

-- it stores nothing
not_stored : (x : Form) → may_be_shared x ≡ true → (regs : ℕ → ℕ) (h : ℕ → Answer) (n : FlowNode) (q : ℕ)
    → stored_in x regs h n q ≡ None
not_stored Store e regs h n q = absurd (cc)
not_stored Branch e regs h n q = refl
not_stored General e regs h n q = refl
not_stored Immediate e regs h n q = refl
not_stored Load e regs h n q = refl
not_stored Constant e regs h n q = refl

-- it is no exit
not_leaving : (x : Form) → may_be_shared x ≡ true → (n : FlowNode) (t : Answer) → leaving_in x n t ≡ []
not_leaving Branch e n t = absurd (cc)
not_leaving General e n t = refl
not_leaving Immediate e n t = refl
not_leaving Load e n t = refl
not_leaving Store e n t = refl
not_leaving Constant e n t = refl

-- and gives no store number a token
not_numbered : (x : Form) → may_be_shared x ≡ true → (n : FlowNode) (t : Answer) (q : ℕ) → numbered x n t q ≡ 0
not_numbered Store e n t q = absurd (cc)
not_numbered Branch e n t q = refl
not_numbered General e n t q = refl
not_numbered Immediate e n t q = refl
not_numbered Load e n t q = refl
not_numbered Constant e n t q = refl

-- a guard that was met is met again
twice : (b : Bool) (t : Answer) → if_matched b (if_matched b t) ≡ if_matched b t
twice true t = refl
twice false t = refl

-- one source gives at most one token
pub one_at_most : (t : Answer) → present t + 0 ≤ 1
one_at_most None = let z : 0 ≤ 1 = omega arith in z
one_at_most (Some t) = let z : 1 ≤ 1 = omega arith in z

abbrev is_general : Form → Bool
is_general General = true
is_general _ = false

module _ (f : FlowBlock) (i j : ℕ) (a n : FlowNode) (standing : slice_get f.nodes i ≡ Some a)
    (there : slice_get f.nodes j ≡ Some n) (apart : i ≢ j) (twins : Twins a n) where
  abbrev m : FlowNode
  m = copy_of i n

  other : (x : Form) → ◌≡◌ {A = Form} General x → is_general x ≡ true
  other x e = subst (λ (y : Form). is_general y ≡ true) e refl

  -- the twin takes the registers that the node takes
  reads_alike : (r : ℕ) → node_names (Read r) a ≡ node_names (Read r) n
  reads_alike r =
      ap₂ (λ (ls rs : List FlowSource).
      is_among (Read r) ls || (is_among (Read r) rs || guards_by (Read r) a.guard)) twins.left twins.right
      ∙ ap (λ (b : Bool). is_among (Read r) n.left || (is_among (Read r) n.right || b))
      (unread r a.guard ∙ sym (unread r n.guard))

  -- the copy's one source is its twin
  place_is : (y : ℕ) → is_among (Node y) (Node i ∷ []) ≡ true → y ≡ i
  place_is y d = at (or_cases (nat_eq y i) false d)
    where
      at : (nat_eq y i ≡ true) ⊎ (false ≡ true) → y ≡ i
      at (inl z) = eqb-true y i z
      at (inr z) = absurd (false≢true z)

  -- neither the twin nor the guard's node is silent
  names_none : (y : ℕ) (x : FlowNode) → slice_get f.nodes y ≡ Some x → is_silent (form_of x.op) ≡ true
      → ((is_among (Node y) (Node i ∷ []) ≡ true) ⊎ ((false || guards_by (Node y) n.guard) ≡ true))
      → nodes_name (Node y) f.nodes ≡ true
  names_none y x e s (inr t) =
      named_at (Node y) f.nodes j n there
      (or_second (is_among (Node y) n.left) (is_among (Node y) n.right || guards_by (Node y) n.guard)
      (or_second (is_among (Node y) n.right) (guards_by (Node y) n.guard) t))
  names_none y x e s (inl t) =
      let same : a ≡ x = same_Some a x
      (sym standing ∙ (ap (λ (k : ℕ). slice_get f.nodes k) (sym (place_is y t)) ∙ e)) in
      absurd (not_silent_twin (form_of n.op) twins.form
      (ap (λ (o : Op). is_silent (form_of o)) (sym twins.op)
      ∙ (ap (λ (z : FlowNode). is_silent (form_of z.op)) same ∙ s)))

  -- a node may be a copy of its twin
  pub copy_placed : Placed f j n m
  copy_placed = record {
    fits = λ all x. record {
      form = (refl, refl);
      guard = x.guard;
      left = All-cons (FitsFlowSource f) (Node i) [] (slice_get_within f.nodes i a standing)
          (All-nil (FitsFlowSource f));
      right = All-nil (FitsFlowSource f);
    };
    orders = λ rank o. copy_ordered f i j a n standing there apart twins rank o;
    load = λ e. absurd (let z = other Load e in cc);
    store = λ e. absurd (let z = other Store e in cc);
    silent = λ e. absurd (false≢true e);
    operands = λ t. record { left = λ e. absurd (false≢true (sym e)); right = λ e. refl };
    guards = λ g. g;
    reads = λ r t. named_at (Read r) (slice_set f.nodes j m) i a (set_there f.nodes j i m apart ∙ standing)
        (reads_alike r ∙ t);
    names = λ y x e s t. names_none y x e s
        (or_cases (is_among (Node y) (Node i ∷ [])) (false || guards_by (Node y) n.guard) t);
    label = λ e. absurd (false≢true e);
  }

  module _ (regs : ℕ → ℕ) (c : Computes) (h : ℕ → Answer) (obeys : Obeys regs c h 0 (with_node f j m).nodes) where
    -- what the node gives where it computes what its twin computes and its guard is met
    abbrev its : Answer
    its = rules.gives (role_of n.op) (c i a) (first regs h n.left) (first regs h n.right)

    twin_token : h i ≡ if_matched (met h a.guard) its
    twin_token =
        obeys_at regs c h 0 (with_node f j m).nodes obeys i a i (omega arith)
        (set_there f.nodes j i m apart ∙ standing)
        ∙ ap (λ (o : Op). if_matched (met h a.guard)
        (rules.gives (role_of o) (c i a) (first regs h a.left) (first regs h a.right))) twins.op
        ∙ ap₂ (λ (ls rs : List FlowSource). if_matched (met h a.guard)
        (rules.gives (role_of n.op) (c i a) (first regs h ls) (first regs h rs))) twins.left twins.right

    copy_token : h j ≡ if_matched (met h n.guard) (h i)
    copy_token =
        obeys_at regs c h 0 (with_node f j m).nodes obeys j m j (omega arith) (set_here f.nodes j n m there)
        ∙ ap (λ (t : Answer). if_matched (met h n.guard) t) (or_none (h i))

    -- the copy gives what the node gives
    given : h j ≡ gives regs h (c i a) n
    given = copy_token ∙ at (covers_is a.guard n.guard twins.guard)
      where
        at : (a.guard ≡ None) ⊎ (a.guard ≡ n.guard)
            → if_matched (met h n.guard) (h i) ≡ if_matched (met h n.guard) its
        at (inl d) = ap (if_matched (met h n.guard))
            (twin_token ∙ ap (λ (g : Option Guard). if_matched (met h g) its) d)
        at (inr d) =
            ap (if_matched (met h n.guard))
            (twin_token ∙ ap (λ (g : Option Guard). if_matched (met h g) its) d)
            ∙ twice (met h n.guard) its

  outputs : (h : ℕ → Answer) → SameOutputs h j n m
  outputs h = record {
    leaves = sym (not_leaving (form_of n.op) twins.form n (h j));
    numbered = λ q. sym (not_numbered (form_of n.op) twins.form n (h j) q);
  }

  copy_acts : (l : Answer) → act_tokens General m l None ≡ []
  copy_acts None = refl
  copy_acts (Some Null) = refl
  copy_acts (Some (Word w)) = refl

  nothing : (b : Bool) → ◌≡◌ {A = List Act} (cond b [] []) []
  nothing true = refl
  nothing false = refl

  -- the copy does nothing that can fault
  idle : (regs : ℕ → ℕ) (h : ℕ → Answer) → acts_of regs h m ≡ []
  idle regs h = ap (λ (l : List Act). cond (met h n.guard) l []) (copy_acts (first regs h (Node i ∷ [])))
      ∙ nothing (met h n.guard)

  -- twins do the same on the same operands
  acts_alike : (x : Form) (l r : Answer) → act_tokens x n l r ≡ act_tokens x a l r
  acts_alike Load None r = refl
  acts_alike Load (Some Null) r = refl
  acts_alike Load (Some (Word u)) r = ap₂ (λ (o : Op) (k : ℤ). Accessed ((u + word k) % 2 ^ 64) (size_of o) ∷ [])
      (sym twins.op) (sym twins.imm)
  acts_alike x None r = refl
  acts_alike x (Some Null) r = refl
  acts_alike x (Some (Word u)) None = refl
  acts_alike x (Some (Word u)) (Some Null) = refl
  acts_alike General (Some (Word u)) (Some (Word v)) = ap (λ (o : Op). cond (divides o) (Divided v ∷ []) [])
      (sym twins.op)
  acts_alike Immediate (Some (Word u)) (Some (Word v)) = ap (λ (o : Op). cond (divides o) (Divided v ∷ []) [])
      (sym twins.op)
  acts_alike Branch (Some (Word u)) (Some (Word v)) = ap (λ (o : Op). cond (divides o) (Divided v ∷ []) [])
      (sym twins.op)
  acts_alike Constant (Some (Word u)) (Some (Word v)) = ap (λ (o : Op). cond (divides o) (Divided v ∷ []) [])
      (sym twins.op)
  acts_alike Store (Some (Word u)) (Some (Word v)) =
      ap₂ (λ (o : Op) (k : ℤ). Accessed ((u + word k) % 2 ^ 64) (size_of o) ∷ []) (sym twins.op) (sym twins.imm)

  -- what the node did its twin does
  twin_does : (regs : ℕ → ℕ) (h : ℕ → Answer) (x : Act) → Contains (acts_of regs h n) x
      → Contains (acts_of regs h a) x
  twin_does regs h x c = go (met h n.guard) refl c
    where
      its_tokens : act_tokens (form_of n.op) n (first regs h n.left) (first regs h n.right)
          ≡ act_tokens (form_of a.op) a (first regs h a.left) (first regs h a.right)
      its_tokens =
          acts_alike (form_of n.op) (first regs h n.left) (first regs h n.right)
          ∙ (ap₂ (λ (ls rs : List FlowSource). act_tokens (form_of n.op) a (first regs h ls) (first regs h rs))
          (sym twins.left) (sym twins.right)
          ∙ ap (λ (o : Op). act_tokens (form_of o) a (first regs h a.left) (first regs h a.right)) (sym twins.op))

      met_too : met h n.guard ≡ true → (a.guard ≡ None) ⊎ (a.guard ≡ n.guard) → met h a.guard ≡ true
      met_too d (inl q) = ap (met h) q
      met_too d (inr q) = ap (met h) q ∙ d

      its : met h n.guard ≡ true
          → act_tokens (form_of a.op) a (first regs h a.left) (first regs h a.right) ≡ acts_of regs h a
      its d = ap (λ (b : Bool). cond b (act_tokens (form_of a.op) a (first regs h a.left) (first regs h a.right)) [])
          (sym (met_too d (covers_is a.guard n.guard twins.guard)))

      go : (b : Bool) → met h n.guard ≡ b
          → Contains (cond b (act_tokens (form_of n.op) n (first regs h n.left) (first regs h n.right)) []) x
          → Contains (acts_of regs h a) x
      go true d p = subst (λ (l : List Act). Contains l x) (its_tokens ∙ its d) p
      go false d p = let l : p.0 < 0 = p.1 in absurd (omega (arith, l))

  -- so the block does the same
  acts_same : (regs : ℕ → ℕ) (h : ℕ → Answer)
      → SameActs (fired regs h (with_node f j m).nodes) (fired regs h f.nodes)
  acts_same regs h =
      acts_left regs h n m (idle regs h) f.nodes j there
      (λ x c. done_at regs h (with_node f j m).nodes i a (set_there f.nodes j i m apart ∙ standing) x
      (twin_does regs h x c))

  -- twins compute the same, whatever a load would see
  computes_alike : (z : Form) → may_be_shared z ≡ true → (s t : ℕ → ℕ) (x y : ℕ)
      → form_computes z (inst_of a) s x y ≡ form_computes z (inst_of n) t x y
  computes_alike General e s t x y = ap (λ (o : Op). alu_of o x y) twins.op
  computes_alike Immediate e s t x y = ap₂ (λ (o : Op) (k : ℤ). alu_of o x (word k)) twins.op twins.imm
  computes_alike Constant e s t x y = ap₂ (λ (o : Op) (k : ℤ). alu_of o x (word k)) twins.op twins.imm
  computes_alike Load e s t x y = absurd (cc)
  computes_alike Store e s t x y = absurd (cc)
  computes_alike Branch e s t x y = absurd (cc)

  module _ (st : ℕ → Option Stored) (mem : List ℕ) where
    -- what a node that loads would see
    abbrev seen : FlowNode → ℕ → ℕ
    seen x p = bytes_seen st (slice_index mem) x.number p (size_of x.op)

    meant_alike : meant st mem i a ≡ meant st mem j n
    meant_alike = fun_ext (λ (x : ℕ). fun_ext (λ (y : ℕ).
        ap (λ (o : Op). form_computes (form_of o) (inst_of a) (seen a) x y) twins.op
        ∙ computes_alike (form_of n.op) twins.form (seen a) (seen n) x y))

  -- and does what it did
  pub copy_works : Does f j n m
  copy_works = record {
    path = λ regs c h o. record { computes = c i a; is = given regs c h o };
    tidy = λ regs c h o t. record {
      clear = all_at (λ (x : FlowNode). guard_token h x.guard ≢ Some Null) f.nodes t.clear j n there;
      operands = (one_at_most (h i), omega arith);
    };
    outputs = outputs;
    stored = λ regs mem h o q. sym (not_stored (form_of n.op) twins.form regs h n q);
    acts = λ regs mem h o. acts_same regs h;
    start = λ regs mem h o.
        let st = stores regs h (with_node f j m).nodes in
        given regs (meant st mem) h o ∙ ap (λ (w : ℕ → ℕ → ℕ). gives regs h w n) (meant_alike st mem);
  }

-- The rule by which a node that gives what another gives and a small number more adds it to what the other gives.
use Rattle.std.proofs.Common.{◌≡◌, ◌≢◌, ℕ, ◌+◌, ◌*◌, ◌%◌, ◌^◌, List, [], ◌∷◌, ◌⊎◌, inl, inr, refl, sym, ap}
use Rattle.std.proofs.Common.{ap₂, ◌∙◌, arith, cond, Bool, true}
use Rattle.std.specs.Prelude.{ℤ, Some, None, Option, slice_get, slice_index}
use Rattle.trips_isa.specs.declared.op.Op.{Op}
use Rattle.trips_isa.specs.declared.op.Op.TheVariants as op
use Rattle.trips_isa.specs.declared.form.Form.{Form}
use Rattle.trips_isa.specs.declared.form.Form.TheVariants.{Immediate, Constant}
use Rattle.trips_isa.specs.declared.form.Role.{Role}
use Rattle.trips_isa.specs.declared.form.Role.TheVariants.{One}
use Rattle.trips_isa.specs.declared.block.Token.TheVariants.{Null, Word}
use Rattle.trips_isa.specs.declared.block.Stored.{Stored}
use Rattle.trips_isa.specs.inside.Acts.{Act}
use Rattle.trips_isa.specs.Alu.{alu_of, word}
use Rattle.trips_isa.specs.Blocks.{form_computes}
use Rattle.trips_isa.specs.Forms.{form_of, role_of, role_in, size_of}
use Rattle.trips_isa.specs.Rule as rules
use Rattle.trips_isa.specs.Rule.{Answer, if_matched, of_one, of_both}
use Rattle.trips_isa.specs.Stores.{bytes_seen}
use Rattle.ir_forms.specs.declared.flow.FlowSource.{FlowSource}
use Rattle.ir_forms.specs.declared.flow.FlowSource.TheVariants.{Node}
use Rattle.ir_forms.specs.declared.flow.Guard.{Guard}
use Rattle.ir_forms.specs.declared.flow.FlowNode.{FlowNode}
use Rattle.ir_forms.specs.declared.flow.FlowBlock.{FlowBlock}
use Rattle.ir_forms.specs.inside.FlowRuns.{Computes, Obeys, gives, meant, stores, first, met, inst_of, guard_token}
use Rattle.ir_forms.specs.inside.FlowRuns.{act_tokens, word_or}
use Rattle.flow_fold.specs.inside.Copies.{covers}
use Rattle.flow_fold.specs.inside.Folds.{with_node}
use Rattle.flow_fold.specs.inside.Strides.{sum_on}
use Rattle.flow_fold.specs.inside.Sweeps.{is_idle}
use Rattle.flow_fold.proofs.Places.{all_at, set_here}
use Rattle.flow_fold.proofs.Echoes.{obeys_at, echoed}
use Rattle.flow_fold.proofs.Turned.{Works, SameDeeds, SameOutputs}
use Rattle.flow_fold.proofs.Forwarded.{covers_is, or_none}
use Rattle.flow_fold.proofs.SumFacts.{Adds}
use Rattle.flow_fold.proofs.SumRules.{if_fires}
use Rattle.flow_fold.proofs.Swept.{idle_stored, idle_acts, idle_leaves, idle_numbered}
use Rattle.flow_fold.proofs.Stayed.{calm_if_idle}
use Rattle.flow_fold.proofs.TwinCopies.{one_at_most}
use Rattle.flow_fold.proofs.StrideFacts.{Leads, by_scale, by_left, by_right, lead_idle, lead_plain}
use Rattle.flow_fold.proofs.StepTokens.{token_at, word_of, step_token, step_word}

-- TOKENS

-- a number behind a multiple is the multiple of a sum
behind_one : (v u a s : ℕ → ℕ) → ((x : ℕ) → v (a x) ≡ u (s x)) → (l : Answer)
    → of_one v (of_one a l) ≡ of_one u (of_one s l)
behind_one v u a s e None = refl
behind_one v u a s e (Some Null) = refl
behind_one v u a s e (Some (Word x)) = ap (λ (i : ℕ). Some (Word i)) (e x)

-- a number behind a sum is a sum with a number at its left, and so at its right
behind_left : (v : ℕ → ℕ) (u a : ℕ → ℕ → ℕ) (s : ℕ → ℕ) → ((x y : ℕ) → v (a x y) ≡ u (s x) y) → (l r : Answer)
    → of_one v (of_both a l r) ≡ of_both u (of_one s l) r
behind_left v u a s e None r = refl
behind_left v u a s e (Some Null) None = refl
behind_left v u a s e (Some Null) (Some t) = refl
behind_left v u a s e (Some (Word x)) None = refl
behind_left v u a s e (Some (Word x)) (Some Null) = refl
behind_left v u a s e (Some (Word x)) (Some (Word y)) = ap (λ (i : ℕ). Some (Word i)) (e x y)

behind_right : (v : ℕ → ℕ) (u a : ℕ → ℕ → ℕ) (s : ℕ → ℕ) → ((x y : ℕ) → v (a x y) ≡ u x (s y)) → (l r : Answer)
    → of_one v (of_both a l r) ≡ of_both u l (of_one s r)
behind_right v u a s e None r = refl
behind_right v u a s e (Some Null) None = refl
behind_right v u a s e (Some Null) (Some Null) = refl
behind_right v u a s e (Some Null) (Some (Word y)) = refl
behind_right v u a s e (Some (Word x)) None = refl
behind_right v u a s e (Some (Word x)) (Some Null) = refl
behind_right v u a s e (Some (Word x)) (Some (Word y)) = ap (λ (i : ℕ). Some (Word i)) (e x y)

-- the same of two sums
left_sum : (x y s b : ℕ) → s ≡ (x + b) % 2 ^ 64 → ((x + y) % 2 ^ 64 + b) % 2 ^ 64 ≡ (s + y) % 2 ^ 64
left_sum x y s b e = omega (arith, e)

right_sum : (x y s b : ℕ) → s ≡ (y + b) % 2 ^ 64 → ((x + y) % 2 ^ 64 + b) % 2 ^ 64 ≡ (x + s) % 2 ^ 64
right_sum x y s b e = omega (arith, e)

module _ (f : FlowBlock) (i j k : ℕ) (a c n : FlowNode) (b : ℤ) (standing : slice_get f.nodes i ≡ Some a)
    (there : slice_get f.nodes j ≡ Some n) (between : slice_get f.nodes k ≡ Some c) (apart : i ≢ j) (aside : k ≢ j)
    (base_guard : covers a.guard n.guard ≡ true) (step_guard : covers c.guard n.guard ≡ true)
    (ahead : Leads f.nodes k c a n b) where
  abbrev m : FlowNode
  m = sum_on i n b

  idle : is_idle n.op ≡ true
  idle = lead_idle f.nodes k c a n b ahead

  plain : form_of n.op ≡ Constant → ⊥
  plain = lead_plain f.nodes k c a n b ahead

  -- WHAT IT GIVES

  module _ (K : Computes) where
    -- what node k computes
    abbrev stepped : Adds f.nodes c b → ℕ → ℕ
    stepped s x = word_of f j n m there plain k c between aside b K s x

    -- the number computed behind what the other computes is what the node computes behind what node k computes
    abbrev Agree : (u v : ℕ → ℕ → ℕ) → Leads f.nodes k c a n b → Type 0
    Agree u v (by_scale s) = (x : ℕ)
        → v (K i a x 0) 0 ≡ u (word_of f j n m there plain k c between aside s.number K s.adds x) 0
    Agree u v (by_left s) = (x y : ℕ) → v (K i a x y) 0 ≡ u (stepped s.adds x) y
    Agree u v (by_right s) = (x y : ℕ) → v (K i a x y) 0 ≡ u x (stepped s.adds y)

    module _ (regs : ℕ → ℕ) (h : ℕ → Answer) (obeys : Obeys regs K h 0 (with_node f j m).nodes) where
      met_too : (g : Option Guard) → covers g n.guard ≡ true → met h n.guard ≡ true → met h g ≡ true
      met_too g e t = at (covers_is g n.guard e)
        where
          at : (g ≡ None) ⊎ (g ≡ n.guard) → met h g ≡ true
          at (inl d) = ap (met h) d
          at (inr d) = ap (met h) d ∙ t

      base_token : met h a.guard ≡ true
          → h i ≡ rules.gives (role_of a.op) (K i a) (first regs h a.left) (first regs h a.right)
      base_token e =
          token_at f j n m there plain regs K h obeys i a apart standing
          ∙ ap (λ (z : Bool). if_matched z
          (rules.gives (role_of a.op) (K i a) (first regs h a.left) (first regs h a.right))) e

      sum_token : h j ≡ gives regs h (K j m) m
      sum_token = obeys_at regs K h 0 (with_node f j m).nodes obeys j m j (omega arith) (set_here f.nodes j n m there)

      -- where the node fires
      fired_same : (u v : ℕ → ℕ → ℕ) (s : Leads f.nodes k c a n b) → Agree u v s → met h n.guard ≡ true
          → of_one (λ (x : ℕ). v x 0) (first regs h (Node i ∷ []))
          ≡ rules.gives (role_of n.op) u (first regs h n.left) (first regs h n.right)
      fired_same u v (by_scale s) e t =
          let one : role_of n.op ≡ One = ap (λ (x : Form). role_in x n.op) s.form in
          let both : role_of a.op ≡ One = ap role_of s.op ∙ one in
          ap (of_one (λ (x : ℕ). v x 0))
          (or_none (h i)
          ∙ (base_token (met_too a.guard base_guard t)
          ∙ (ap (λ (x : Role). rules.gives x (K i a) (first regs h a.left) (first regs h a.right)) both
          ∙ ap (λ (z : List FlowSource). of_one (λ (x : ℕ). K i a x 0) (first regs h z)) s.left)))
          ∙ (behind_one (λ (x : ℕ). v x 0) (λ (x : ℕ). u x 0) (λ (x : ℕ). K i a x 0)
          (λ (x : ℕ). word_of f j n m there plain k c between aside s.number K s.adds x) e (first regs h c.left)
          ∙ (ap (of_one (λ (x : ℕ). u x 0))
          (sym (ap (first regs h) s.at
          ∙ step_token f j n m there plain k c between aside s.number regs K h obeys s.adds
          (met_too c.guard step_guard t)))
          ∙ sym (ap (λ (x : Role). rules.gives x u (first regs h n.left) (first regs h n.right)) one)))
      fired_same u v (by_left s) e t =
          ap (of_one (λ (x : ℕ). v x 0))
          (or_none (h i)
          ∙ (base_token (met_too a.guard base_guard t)
          ∙ (ap (λ (x : Op). rules.gives (role_of x) (K i a) (first regs h a.left) (first regs h a.right)) s.base
          ∙ (ap (λ (z : List FlowSource). of_both (K i a) (first regs h z) (first regs h a.right)) s.left
          ∙ ap (λ (z : List FlowSource). of_both (K i a) (first regs h c.left) (first regs h z)) s.right))))
          ∙ (behind_left (λ (x : ℕ). v x 0) u (K i a) (stepped s.adds) e (first regs h c.left) (first regs h n.right)
          ∙ (ap (λ (l : Answer). of_both u l (first regs h n.right))
          (sym (ap (first regs h) s.at
          ∙ step_token f j n m there plain k c between aside b regs K h obeys s.adds
          (met_too c.guard step_guard t)))
          ∙ sym (ap (λ (x : Op). rules.gives (role_of x) u (first regs h n.left) (first regs h n.right)) s.sum)))
      fired_same u v (by_right s) e t =
          ap (of_one (λ (x : ℕ). v x 0))
          (or_none (h i)
          ∙ (base_token (met_too a.guard base_guard t)
          ∙ (ap (λ (x : Op). rules.gives (role_of x) (K i a) (first regs h a.left) (first regs h a.right)) s.base
          ∙ (ap (λ (z : List FlowSource). of_both (K i a) (first regs h z) (first regs h a.right)) s.left
          ∙ ap (λ (z : List FlowSource). of_both (K i a) (first regs h n.left) (first regs h z)) s.right))))
          ∙ (behind_right (λ (x : ℕ). v x 0) u (K i a) (stepped s.adds) e (first regs h n.left) (first regs h c.left)
          ∙ (ap (λ (r : Answer). of_both u (first regs h n.left) r)
          (sym (ap (first regs h) s.at
          ∙ step_token f j n m there plain k c between aside b regs K h obeys s.adds
          (met_too c.guard step_guard t)))
          ∙ sym (ap (λ (x : Op). rules.gives (role_of x) u (first regs h n.left) (first regs h n.right)) s.sum)))

      -- the sum gives what the node gives
      as_before : (u v : ℕ → ℕ → ℕ) → Agree u v ahead → gives regs h v m ≡ gives regs h u n
      as_before u v e =
          if_fires (met h n.guard) (of_one (λ (x : ℕ). v x 0) (first regs h (Node i ∷ [])))
          (rules.gives (role_of n.op) u (first regs h n.left) (first regs h n.right)) (fired_same u v ahead e)

    -- one word computes as another does
    all_alike : (w : ℕ) (s : Leads f.nodes k c a n b) → Agree (λ (x y : ℕ). w) (λ (x y : ℕ). w) s
    all_alike w (by_scale s) = λ x. refl
    all_alike w (by_left s) = λ x y. refl
    all_alike w (by_right s) = λ x y. refl

  path_token : (regs : ℕ → ℕ) (K : Computes) (h : ℕ → Answer) → Obeys regs K h 0 (with_node f j m).nodes
      → h j ≡ gives regs h (λ (x y : ℕ). word_or (h j) 0) n
  path_token regs K h obeys =
      echoed regs h (h j) (K j m) m (sum_token K regs h obeys)
      ∙ as_before K regs h obeys (λ (x y : ℕ). word_or (h j) 0) (λ (x y : ℕ). word_or (h j) 0)
      (all_alike K (word_or (h j) 0) ahead)

  -- IN A START

  module _ (st : ℕ → Option Stored) (mem : List ℕ) where
    -- what a load would see
    abbrev seen : FlowNode → ℕ → ℕ
    seen x p = bytes_seen st (slice_index mem) x.number p (size_of x.op)

    -- what a sum means
    sum_word : (y : ℕ) (x : FlowNode) → x.op ≡ op.Add → (l r : ℕ) → meant st mem y x l r ≡ (l + r) % 2 ^ 64
    sum_word y x e l r = ap (λ (o : Op). form_computes (form_of o) (inst_of x) (seen x) l r) e
        ∙ ap (λ (o : Op). alu_of o l r) e

    words_agree : (s : Leads f.nodes k c a n b) → Agree (meant st mem) (meant st mem j n) (meant st mem j m) s
    words_agree (by_scale s) = λ x.
        let w = word_of f j n m there plain k c between aside s.number (meant st mem) s.adds x in
        ap (λ (z : ℕ). (z + word b) % 2 ^ 64) (multiple i a s.op s.imm x)
        ∙ (s.same x
        ∙ (ap (λ (z : ℕ). (z * s.factor) % 2 ^ 64)
        (sym (step_word f j n m there plain k c between aside s.number st mem s.adds x))
        ∙ sym (multiple j n refl refl w)))
      where
        multiple : (y : ℕ) (x : FlowNode) → x.op ≡ n.op → x.imm ≡ n.imm → (l : ℕ)
            → meant st mem y x l 0 ≡ (l * s.factor) % 2 ^ 64
        multiple y x o q l =
            ap (λ (z : Form). form_computes z (inst_of x) (seen x) l 0) (ap form_of o ∙ s.form)
            ∙ (ap₂ (λ (z : Op) (w : ℤ). alu_of z l (word w)) o q ∙ s.times l)
    words_agree (by_left s) = λ x y.
        ap (λ (z : ℕ). (z + word b) % 2 ^ 64) (sum_word i a s.base x y)
        ∙ (left_sum x y (word_of f j n m there plain k c between aside b (meant st mem) s.adds x) (word b)
        (step_word f j n m there plain k c between aside b st mem s.adds x)
        ∙ sym (sum_word j n s.sum (word_of f j n m there plain k c between aside b (meant st mem) s.adds x) y))
    words_agree (by_right s) = λ x y.
        ap (λ (z : ℕ). (z + word b) % 2 ^ 64) (sum_word i a s.base x y)
        ∙ (right_sum x y (word_of f j n m there plain k c between aside b (meant st mem) s.adds y) (word b)
        (step_word f j n m there plain k c between aside b st mem s.adds y)
        ∙ sym (sum_word j n s.sum x (word_of f j n m there plain k c between aside b (meant st mem) s.adds y)))

  start_token : (regs : ℕ → ℕ) (mem : List ℕ) (h : ℕ → Answer)
      → Obeys regs (meant (stores regs h (with_node f j m).nodes) mem) h 0 (with_node f j m).nodes
      → h j ≡ gives regs h (meant (stores regs h (with_node f j m).nodes) mem j n) n
  start_token regs mem h obeys =
      let st = stores regs h (with_node f j m).nodes in
      sum_token (meant st mem) regs h obeys
      ∙ as_before (meant st mem) regs h obeys (meant st mem j n) (meant st mem j m) (words_agree st mem ahead)

  -- neither can fault, store or leave
  sum_acts : (l : Answer) → act_tokens Immediate m l None ≡ []
  sum_acts None = refl
  sum_acts (Some Null) = refl
  sum_acts (Some (Word w)) = refl

  deeds : (regs : ℕ → ℕ) (h : ℕ → Answer) → SameDeeds regs h n m
  deeds regs h = record {
    stored = λ q. sym (idle_stored regs h n (form_of n.op) idle q);
    acts = ap (λ (l : List Act). cond (met h n.guard) l [])
        (sum_acts (first regs h (Node i ∷ []))
        ∙ sym (idle_acts n (form_of n.op) idle (calm_if_idle n.op idle) (first regs h n.left)
        (first regs h n.right)));
  }

  outputs : (h : ℕ → Answer) → SameOutputs h j n m
  outputs h = record {
    leaves = sym (idle_leaves n (form_of n.op) idle (h j));
    numbered = λ q. sym (idle_numbered n (form_of n.op) idle (h j) q);
  }

  -- it does what the node did
  pub sum_works : Works f j n m
  sum_works = record {
    path = λ regs K h o. record { computes = λ x y. word_or (h j) 0; is = path_token regs K h o };
    tidy = λ regs K h o t. record {
      clear = all_at (λ (x : FlowNode). guard_token h x.guard ≢ Some Null) f.nodes t.clear j n there;
      operands = (one_at_most (h i), omega arith);
    };
    outputs = outputs;
    deeds = λ regs mem h o. deeds regs h;
    start = λ regs mem h o. start_token regs mem h o;
  }

-- The rule by which the end of a negative constant gives the whole of it.
use Rattle.std.proofs.Common.{◌≡◌, ◌≢◌, ℕ, ◌+◌, ◌*◌, ◌%◌, ◌^◌, List, [], ◌∷◌, refl, sym, ap, subst, ◌∙◌}
use Rattle.std.proofs.Common.{arith, cond, Bool, true, ◌||◌}
use Rattle.std.specs.Prelude.{ℤ, pos, Some, None, Option, slice_get, slice_index}
use Rattle.std.proofs.lemmas.List.Elements.{All-nil}
use Rattle.trips_isa.specs.declared.op.Op.{Op}
use Rattle.trips_isa.specs.declared.op.Op.TheVariants as op
use Rattle.trips_isa.specs.declared.form.Form.{Form}
use Rattle.trips_isa.specs.declared.form.Form.TheVariants.{Constant}
use Rattle.trips_isa.specs.declared.form.Role.{Role}
use Rattle.trips_isa.specs.declared.form.Role.TheVariants.{One}
use Rattle.trips_isa.specs.declared.block.Token.TheVariants.{Null, Word}
use Rattle.trips_isa.specs.declared.block.Stored.{Stored}
use Rattle.trips_isa.specs.inside.Acts.{Act, Divided}
use Rattle.trips_isa.specs.Alu.{alu_of, word}
use Rattle.trips_isa.specs.Blocks.{form_computes}
use Rattle.trips_isa.specs.Faults.{divides}
use Rattle.trips_isa.specs.Forms.{form_of, role_of, size_of, takes_right}
use Rattle.trips_isa.specs.Rule as rules
use Rattle.trips_isa.specs.Rule.{Answer, if_matched}
use Rattle.trips_isa.specs.Stores.{bytes_seen}
use Rattle.ir_forms.specs.declared.flow.FlowSource.{FlowSource}
use Rattle.ir_forms.specs.declared.flow.FlowSource.TheVariants.{Read, Node}
use Rattle.ir_forms.specs.declared.flow.FlowNode.{FlowNode}
use Rattle.ir_forms.specs.declared.flow.FlowBlock.{FlowBlock}
use Rattle.ir_forms.specs.inside.FlowRuns.{Computes, Obeys, gives, meant, stores, first, met, inst_of, guard_token}
use Rattle.ir_forms.specs.inside.FlowRuns.{leaving_in, numbered, act_tokens, stored_in}
use Rattle.ir_forms.specs.inside.FlowFits.{FitsNodeForm, AtMostOne}
use Rattle.ir_forms.specs.inside.FlowRegular.{is_among, guards_by}
use Rattle.flow_fold.specs.inside.Negatives.{as_negative}
use Rattle.flow_fold.specs.inside.Folds.{with_node}
use Rattle.flow_fold.proofs.Places.{all_at, set_here, set_there}
use Rattle.flow_fold.proofs.Echoes.{obeys_at}
use Rattle.flow_fold.proofs.Names.{named_at, or_second}
use Rattle.flow_fold.proofs.Turned.{Written, Works, SameDeeds}
use Rattle.flow_fold.proofs.Forwarded.{or_none}
use Rattle.flow_fold.proofs.NegativeFacts.{Upper, negative_is, behind_ones, Alone, Puts, Chain}

module _ (f : FlowBlock) (j : ℕ) (n : FlowNode) (there : slice_get f.nodes j ≡ Some n) (app : n.op ≡ op.App)
    (upper : Upper n.imm) (chain : Chain f.nodes j n.left) where
  abbrev m : FlowNode
  m = as_negative n

  form : form_of n.op ≡ Constant
  form = ap form_of app

  role : role_of n.op ≡ One
  role = ap role_of app

  form_fits : FitsNodeForm Constant n → FitsNodeForm Constant m
  form_fits a = ((negative_is n.imm upper).fits, a.1, a.2)

  read_stays : (r : ℕ) → (is_among (Read r) n.left || (is_among (Read r) n.right || guards_by (Read r) n.guard)) ≡ true
      → (is_among (Read r) n.right || guards_by (Read r) n.guard) ≡ true
  read_stays r e = subst (λ (ss : List FlowSource).
      (is_among (Read r) ss || (is_among (Read r) n.right || guards_by (Read r) n.guard)) ≡ true) chain.last.sources e

  -- the constant may be written
  pub negative_written : Written f j n m
  negative_written = record {
    fits = λ all a. record {
      form = form_fits (subst (λ (x : Form). FitsNodeForm x n) form a.form);
      guard = a.guard;
      left = All-nil _;
      right = a.right;
    };
    rises = λ rank order.
        let a = order.sources j n there in
        record { left = All-nil _; right = a.right; guard = a.guard };
    load = λ e. absurd (cc e);
    store = λ e. absurd (cc e);
    silent = λ e. absurd (cc e);
    operands = λ t. record { left = λ e. refl; right = λ e. t.right (ap takes_right role) };
    guards = λ g. g;
    reads = read_stays;
    names = λ y e. named_at (Node y) f.nodes j n there
        (or_second (is_among (Node y) n.left) (is_among (Node y) n.right || guards_by (Node y) n.guard) e);
    label = λ e. absurd (cc e);
  }

  -- the word of the 48 ones
  abbrev ones : Computes → ℕ
  ones k =
      k chain.last.place chain.third
      (k chain.middle.place chain.second (k chain.head.place chain.first 0 0) 0) 0

  module _ (regs : ℕ → ℕ) (k : Computes) (h : ℕ → Answer) (obeys : Obeys regs k h 0 (with_node f j m).nodes) where
    -- what sources give that are one node without a guard
    alone_token : (ss : List FlowSource) (c : FlowNode) (o : Op) (a : Alone f.nodes j ss c) → Puts c o
        → first regs h ss ≡ rules.gives (role_of o) (k a.place c) (first regs h c.left) (first regs h c.right)
    alone_token ss c o a p =
        ap (first regs h) a.sources
        ∙ (or_none (h a.place)
        ∙ (obeys_at regs k h 0 (with_node f j m).nodes obeys a.place c a.place (omega arith)
        (set_there f.nodes j a.place m a.apart ∙ a.there)
        ∙ (ap (λ (x : Op). if_matched (met h c.guard) (rules.gives (role_of x) (k a.place c) (first regs h c.left)
        (first regs h c.right))) p.op
        ∙ ap (λ (b : Bool). if_matched b (rules.gives (role_of o) (k a.place c) (first regs h c.left)
        (first regs h c.right))) (ap (met h) p.guard))))

    left_token : first regs h n.left ≡ Some (Word (ones k))
    left_token =
        alone_token n.left chain.third op.App chain.last chain.ends
        ∙ ap (λ (t : Answer). rules.gives (role_of op.App) (k chain.last.place chain.third) t
        (first regs h chain.third.right))
        (alone_token chain.third.left chain.second op.App chain.middle chain.goes_on
        ∙ ap (λ (t : Answer). rules.gives (role_of op.App) (k chain.middle.place chain.second) t
        (first regs h chain.second.right))
        (alone_token chain.second.left chain.first op.Genu chain.head chain.begins))

    given : h j ≡ if_matched (met h n.guard) (Some (Word (k j m 0 0)))
    given = obeys_at regs k h 0 (with_node f j m).nodes obeys j m j (omega arith) (set_here f.nodes j n m there)

    as_before : (a : ℕ → ℕ → ℕ) → k j m 0 0 ≡ a (ones k) 0 → h j ≡ gives regs h a n
    as_before a e =
        given
        ∙ (ap (λ (w : ℕ). if_matched (met h n.guard) (Some (Word w))) e
        ∙ (sym (ap (λ (t : Answer). if_matched (met h n.guard) (rules.gives One a t (first regs h n.right))) left_token)
        ∙ sym (ap (λ (z : Role). if_matched (met h n.guard) (rules.gives z a (first regs h n.left)
        (first regs h n.right))) role)))

  module _ (regs : ℕ → ℕ) (mem : List ℕ) (h : ℕ → Answer) where
    abbrev st : ℕ → Option Stored
    st = stores regs h (with_node f j m).nodes

    abbrev seen : FlowNode → ℕ → ℕ
    seen x a = bytes_seen st (slice_index mem) x.number a (size_of x.op)

    app_word : (y : ℕ) (c : FlowNode) (i : ℤ) → c.op ≡ op.App → c.imm ≡ i → (x : ℕ)
        → meant st mem y c x 0 ≡ (x * 65536 + word i) % 2 ^ 64
    app_word y c i e d x =
        ap (λ (o : Op). form_computes (form_of o) (inst_of c) (seen c) x 0) e
        ∙ (ap (λ (o : Op). alu_of o x (word c.imm)) e ∙ ap (λ (z : ℤ). alu_of op.App x (word z)) d)

    genu_word : (y : ℕ) (c : FlowNode) → Puts c op.Genu → meant st mem y c 0 0 ≡ 65535
    genu_word y c p =
        ap (λ (o : Op). form_computes (form_of o) (inst_of c) (seen c) 0 0) p.op
        ∙ (ap (λ (o : Op). alu_of o 0 (word c.imm)) p.op ∙ ap word p.imm)

    ones_word : ones (meant st mem) ≡ ((65535 * 65536 + 65535) % 2 ^ 64 * 65536 + 65535) % 2 ^ 64
    ones_word =
        app_word chain.last.place chain.third (pos 65535) chain.ends.op chain.ends.imm
        (meant st mem chain.middle.place chain.second (meant st mem chain.head.place chain.first 0 0) 0)
        ∙ ap (λ (x : ℕ). (x * 65536 + 65535) % 2 ^ 64)
        (app_word chain.middle.place chain.second (pos 65535) chain.goes_on.op chain.goes_on.imm
        (meant st mem chain.head.place chain.first 0 0)
        ∙ ap (λ (x : ℕ). (x * 65536 + 65535) % 2 ^ 64) (genu_word chain.head.place chain.first chain.begins))

    same_word : meant st mem j m 0 0 ≡ meant st mem j n (ones (meant st mem)) 0
    same_word =
        (negative_is n.imm upper).word
        ∙ (sym (behind_ones upper.value upper.most)
        ∙ (ap (λ (x : ℕ). (x * 65536 + upper.value) % 2 ^ 64) (sym ones_word)
        ∙ sym (app_word j n (pos upper.value) app upper.is (ones (meant st mem)))))

    start_token : Obeys regs (meant st mem) h 0 (with_node f j m).nodes → h j ≡ gives regs h (meant st mem j n) n
    start_token obeys = as_before regs (meant st mem) h obeys (meant st mem j n) same_word

  new_acts : (l r : Answer) → act_tokens Constant m l r ≡ []
  new_acts None r = refl
  new_acts (Some Null) r = refl
  new_acts (Some (Word x)) None = refl
  new_acts (Some (Word x)) (Some Null) = refl
  new_acts (Some (Word x)) (Some (Word y)) = refl

  old_acts : (l r : Answer) → act_tokens Constant n l r ≡ []
  old_acts None r = refl
  old_acts (Some Null) r = refl
  old_acts (Some (Word x)) None = refl
  old_acts (Some (Word x)) (Some Null) = refl
  old_acts (Some (Word x)) (Some (Word y)) = ap (λ (o : Op). cond (divides o) (Divided y ∷ []) []) app

  deeds : (regs : ℕ → ℕ) (h : ℕ → Answer) → SameDeeds regs h n m
  deeds regs h = record {
    stored = λ q. sym (ap (λ (x : Form). stored_in x regs h n q) form);
    acts = ap (λ (l : List Act). cond (met h n.guard) l [])
        (new_acts None (first regs h n.right)
        ∙ sym (old_acts (first regs h n.left) (first regs h n.right))
        ∙ sym (ap (λ (x : Form). act_tokens x n (first regs h n.left) (first regs h n.right)) form));
  }

  -- and does what the end of the chain did
  pub negative_works : Works f j n m
  negative_works = record {
    path = λ regs k h obeys. record {
      computes = λ x y. k j m 0 0;
      is = as_before regs k h obeys (λ x y. k j m 0 0) refl;
    };
    tidy = λ regs k h obeys t. record {
      clear = all_at (λ (x : FlowNode). guard_token h x.guard ≢ Some Null) f.nodes t.clear j n there;
      operands = (omega arith, (all_at (AtMostOne regs h) f.nodes t.operands j n there).1);
    };
    outputs = λ h. record {
      leaves = sym (ap (λ (x : Form). leaving_in x n (h j)) form);
      numbered = λ q. sym (ap (λ (x : Form). numbered x n (h j) q) form);
    };
    deeds = λ regs mem h obeys. deeds regs h;
    start = start_token;
  }

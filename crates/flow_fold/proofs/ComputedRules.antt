-- The rule by which an operation on constants alone is the constant that it gives.
use Rattle.std.proofs.Common.{◌≡◌, ◌≢◌, ℕ, List, [], ◌∷◌, refl, sym, ap, subst, ◌∙◌, arith, cond, map}
use Rattle.std.proofs.Common.{Bool, true, false, not, ◌&&◌, ◌||◌, nat_eq}
use Rattle.std.specs.Prelude.{ℤ, pos, negsuc, int_le, int_lt, Some, None, Option, option_map, slice_get, slice_index}
use Rattle.std.proofs.lemmas.Bool.{and_parts, ltb-true, leb-true, eqb-true}
use Rattle.std.proofs.lemmas.List.Elements.{All-nil}
use Rattle.std.proofs.lemmas.Option.{same_Some, slice_get-map}
use Rattle.trips_isa.specs.declared.op.Op.{Op}
use Rattle.trips_isa.specs.declared.op.Op.TheVariants as op
use Rattle.trips_isa.specs.declared.form.Form.{Form}
use Rattle.trips_isa.specs.declared.form.Form.TheVariants.{General, Immediate, Load, Store, Branch, Constant}
use Rattle.trips_isa.specs.declared.form.Role.{Role}
use Rattle.trips_isa.specs.declared.form.Role.TheVariants.{One}
use Rattle.trips_isa.specs.declared.block.Token.TheVariants.{Null, Word}
use Rattle.trips_isa.specs.declared.block.Stored.{Stored}
use Rattle.trips_isa.specs.Alu.{alu_of, signed, word}
use Rattle.trips_isa.specs.Blocks.{form_computes}
use Rattle.trips_isa.specs.Faults.{divides}
use Rattle.trips_isa.specs.Fits.{FitsSigned}
use Rattle.trips_isa.specs.Forms.{form_of, role_of, role_in, size_of, takes_right}
use Rattle.trips_isa.specs.Rule as rules
use Rattle.trips_isa.specs.Rule.{Answer, if_matched}
use Rattle.trips_isa.specs.Stores.{bytes_seen}
use Rattle.ir_forms.specs.declared.flow.FlowSource.{FlowSource}
use Rattle.ir_forms.specs.declared.flow.FlowSource.TheVariants.{Read, Node}
use Rattle.ir_forms.specs.declared.flow.Guard.{Guard}
use Rattle.ir_forms.specs.declared.flow.FlowNode.{FlowNode}
use Rattle.ir_forms.specs.declared.flow.FlowBlock.{FlowBlock}
use Rattle.ir_forms.specs.inside.FlowRuns.{Computes, Obeys, gives, meant, stores, first, met, inst_of, guard_token}
use Rattle.ir_forms.specs.inside.FlowFits.{FitsNodeForm, AtMostOne, has_guard}
use Rattle.ir_forms.specs.inside.FlowRegular.{is_among, guards_by}
use Rattle.flow_fold.specs.inside.Computed as computed
use Rattle.flow_fold.specs.inside.Computed.{with_number, is_short}
use Rattle.flow_fold.specs.inside.Folds.{with_node}
use Rattle.flow_fold.specs.inside.Immediates.{gives_constant, is_small}
use Rattle.flow_fold.specs.inside.Replaces.{IsOwn, Immediates, LeavesOwn, with_immediate}
use Rattle.flow_fold.proofs.Places.{all_at, set_here, set_there}
use Rattle.flow_fold.proofs.ConstantFacts.{ConstantOf, constant_is, small_own}
use Rattle.flow_fold.proofs.Echoes.{obeys_at}
use Rattle.flow_fold.proofs.Names.{named_at, or_second}
use Rattle.flow_fold.proofs.Turned.{Written, Works}
use Rattle.flow_fold.proofs.Forwarded.{or_none}
use Rattle.flow_fold.proofs.Quiet.{only_computes, Quiet, quiet_deeds, quiet_outputs}

-- NUMBERS

short_fits : (i : ℤ) → is_short i ≡ true → FitsSigned 32768 i
short_fits (pos w) e = ltb-true w 32768 (and_parts (int_le (negsuc 32767) (pos w)) (int_lt (pos w) (pos 32768)) e).1
short_fits (negsuc w) e =
    let l = leb-true w 32767 (and_parts (int_le (negsuc 32767) (negsuc w)) (int_lt (negsuc w) (pos 32768)) e).0 in
    omega (arith, l)

short_own : (i : ℤ) → is_short i ≡ true → IsOwn i
short_own (pos w) e = let l = short_fits (pos w) e in omega (arith, l)
short_own (negsuc w) e = tt

low_own : (i : ℤ) → int_lt i (pos 65536) ≡ true → IsOwn i
low_own (pos w) e = ltb-true w 65536 e
low_own (negsuc w) e = tt

calm_immediate : (o : Op) → form_of o ≡ Immediate → divides o ≡ false
calm_immediate op.Divs e = absurd (cc e)
calm_immediate op.Divu e = absurd (cc e)
calm_immediate _ e = refl

-- THE NODE

-- node n, which is node j, computes the number i of the constant of another
pub record Constantly (nodes : List FlowNode) (n : FlowNode) (i : ℤ) : Type 0 where
  pub form : form_of n.op ≡ Immediate
  pub bare : n.guard ≡ None
  pub own : is_small n.imm ≡ true
  pub place : ℕ
  pub node : FlowNode
  pub sources : n.left ≡ Node place ∷ []
  pub there : slice_get nodes place ≡ Some node
  pub gives : gives_constant node.op ≡ true
  pub guard : node.guard ≡ None
  pub low : int_lt node.imm (pos 65536) ≡ true
  pub short : is_short i ≡ true
  pub same : word i ≡ alu_of n.op (word node.imm) (word n.imm)

-- a node as the rule makes it
pub record Computing (nodes : List FlowNode) (n m : FlowNode) : Type 0 where
  pub number : ℤ
  pub constant : Constantly nodes n number
  pub is : m ≡ with_number n number

no_guard : (g : Option Guard) → not (has_guard g) ≡ true → g ≡ None
no_guard None e = refl
no_guard (Some g) e = absurd (cc)

immediate_is : (x : Form) → computed.is_immediate x ≡ true → x ≡ Immediate
immediate_is Immediate e = refl
immediate_is General e = absurd (cc)
immediate_is Load e = absurd (cc)
immediate_is Store e = absurd (cc)
immediate_is Branch e = absurd (cc)
immediate_is Constant e = absurd (cc)

value : {A : Type 0} (b : Bool) (o : Option A) (x : A) → cond b o None ≡ Some x → (b ≡ true) × (o ≡ Some x)
value true o x e = (refl, e)
value false o x e = absurd (cc)

-- the number that a word is
record Short (w : ℕ) (i : ℤ) : Type 0 where
  short : is_short i ≡ true
  same : word i ≡ w

short_is : (w : ℕ) (i : ℤ) → computed.short_of w ≡ Some i → Short w i
short_is w i e =
    let v = value (is_short (signed w) && nat_eq (word (signed w)) w) (Some (signed w)) i e in
    let p = and_parts (is_short (signed w)) (nat_eq (word (signed w)) w) v.0 in
    subst (Short w) (same_Some (signed w) i v.1)
    (record { short = p.0; same = eqb-true (word (signed w)) w p.1 })

-- it is found where the constant is
pub computing : (nodes : List FlowNode) (n m : FlowNode) → computed.computed nodes n ≡ Some m → Computing nodes n m
computing nodes n m e =
    let v = value (computed.computes n) (computed.computed_of nodes n n.left) m e in
    let p = and_parts (computed.is_immediate (form_of n.op)) (not (has_guard n.guard) && is_small n.imm) v.0 in
    let q = and_parts (not (has_guard n.guard)) (is_small n.imm) p.1 in
    by_sources (immediate_is (form_of n.op) p.0) (no_guard n.guard q.0) q.1 n.left refl v.1
  where
    by_number : form_of n.op ≡ Immediate → n.guard ≡ None → is_small n.imm ≡ true → (k : ℕ) → n.left ≡ Node k ∷ []
        → (c : FlowNode) → slice_get nodes k ≡ Some c → (o : Option ℤ) → computed.value_of n c ≡ o
        → computed.with_some n o ≡ Some m → Computing nodes n m
    by_number f b s k l c t None q x = absurd (cc)
    by_number f b s k l c t (Some i) q x =
        let w = alu_of n.op (word c.imm) (word n.imm) in
        let v = value (computed.is_constant c) (computed.short_of w) i q in
        let p = and_parts (gives_constant c.op) (not (has_guard c.guard) && int_lt c.imm (pos 65536)) v.0 in
        let y = and_parts (not (has_guard c.guard)) (int_lt c.imm (pos 65536)) p.1 in
        let z = short_is w i v.1 in
        record {
          number = i;
          constant = record {
            form = f;
            bare = b;
            own = s;
            place = k;
            node = c;
            sources = l;
            there = t;
            gives = p.0;
            guard = no_guard c.guard y.0;
            low = y.1;
            short = z.short;
            same = z.same;
          };
          is = sym (same_Some (with_number n i) m x);
        }

    by_node : form_of n.op ≡ Immediate → n.guard ≡ None → is_small n.imm ≡ true → (k : ℕ) → n.left ≡ Node k ∷ []
        → (o : Option FlowNode) → slice_get nodes k ≡ o → computed.computed_at n o ≡ Some m → Computing nodes n m
    by_node f b s k l None t x = absurd (cc)
    by_node f b s k l (Some c) t x = by_number f b s k l c t (computed.value_of n c) refl x

    by_sources : form_of n.op ≡ Immediate → n.guard ≡ None → is_small n.imm ≡ true → (ss : List FlowSource)
        → n.left ≡ ss → computed.computed_of nodes n ss ≡ Some m → Computing nodes n m
    by_sources f b s [] l x = absurd (cc)
    by_sources f b s (Read r ∷ rest) l x = absurd (cc)
    by_sources f b s (Node k ∷ (y ∷ rest)) l x = absurd (cc)
    by_sources f b s (Node k ∷ []) l x = by_node f b s k l (slice_get nodes k) refl x

-- new immediates leave it
pub computing_kept : (r : Immediates) → LeavesOwn r → (nodes : List FlowNode) (n m : FlowNode) → Computing nodes n m
    → Computing (map (with_immediate r) nodes) (with_immediate r n) (with_immediate r m)
computing_kept r own nodes n m o =
    let s = o.constant in
    let a : r n.op n.imm ≡ n.imm = own n.op n.imm (small_own n.imm s.own) in
    let b : r s.node.op s.node.imm ≡ s.node.imm = own s.node.op s.node.imm (low_own s.node.imm s.low) in
    record {
      number = o.number;
      constant = record {
        form = s.form;
        bare = s.bare;
        own = ap is_small a ∙ s.own;
        place = s.place;
        node = with_immediate r s.node;
        sources = s.sources;
        there = slice_get-map (with_immediate r) nodes s.place ∙ ap (option_map (with_immediate r)) s.there;
        gives = s.gives;
        guard = s.guard;
        low = ap (λ (i : ℤ). int_lt i (pos 65536)) b ∙ s.low;
        short = s.short;
        same = s.same
            ∙ (ap (λ (i : ℤ). alu_of n.op (word i) (word n.imm)) (sym b)
            ∙ ap (λ (i : ℤ). alu_of n.op (word (r s.node.op s.node.imm)) (word i)) (sym a));
      };
      is = ap (with_immediate r) o.is
          ∙ ap (λ (z : ℤ). record (with_number n o.number) { imm = z })
          (own op.Gens o.number (short_own o.number s.short));
    }

-- THE RULE

forms_apart : (x : Form) → x ≡ Immediate → x ≡ Constant → ⊥
forms_apart x e d = absurd (let z = sym e ∙ d in cc)

module _ (f : FlowBlock) (j : ℕ) (n : FlowNode) (there : slice_get f.nodes j ≡ Some n) (i : ℤ)
    (s : Constantly f.nodes n i) where
  abbrev m : FlowNode
  m = with_number n i

  role : role_of n.op ≡ One
  role = ap (λ (x : Form). role_in x n.op) s.form

  constant : ConstantOf s.node.op
  constant = constant_is s.node.op s.gives

  apart : s.place ≢ j
  apart e =
      let same : s.node ≡ n = same_Some s.node n
      (sym s.there ∙ (ap (λ (y : ℕ). slice_get f.nodes y) e ∙ there)) in
      forms_apart (form_of n.op) s.form
      (constant_is n.op (subst (λ (x : FlowNode). gives_constant x.op ≡ true) same s.gives)).form

  old_quiet : Quiet n
  old_quiet = record { computes = ap only_computes s.form; calm = calm_immediate n.op s.form }

  new_quiet : Quiet m
  new_quiet = record { computes = refl; calm = refl }

  read_stays : (r : ℕ)
      → (is_among (Read r) n.left || (is_among (Read r) n.right || guards_by (Read r) n.guard)) ≡ true
      → (is_among (Read r) n.right || guards_by (Read r) n.guard) ≡ true
  read_stays r e = subst (λ (ss : List FlowSource).
      (is_among (Read r) ss || (is_among (Read r) n.right || guards_by (Read r) n.guard)) ≡ true) s.sources e

  -- the constant may be written
  pub computed_written : Written f j n m
  computed_written = record {
    fits = λ all a. record {
      form = (short_fits i s.short, (subst (λ (x : Form). FitsNodeForm x n) s.form a.form).1, s.bare);
      guard = a.guard;
      left = All-nil _;
      right = a.right;
    };
    rises = λ rank order.
        let a = order.sources j n there in
        record { left = All-nil _; right = a.right; guard = a.guard };
    load = λ e. absurd (cc e);
    store = λ e. absurd (cc e);
    silent = λ e. absurd (cc e);
    operands = λ t. record { left = λ e. refl; right = λ e. t.right (ap takes_right role) };
    guards = λ g. g;
    reads = read_stays;
    names = λ y e. named_at (Node y) f.nodes j n there
        (or_second (is_among (Node y) n.left) (is_among (Node y) n.right || guards_by (Node y) n.guard) e);
    label = λ e. absurd (cc e);
  }

  module _ (regs : ℕ → ℕ) (k : Computes) (h : ℕ → Answer) (obeys : Obeys regs k h 0 (with_node f j m).nodes) where
    left_token : first regs h n.left ≡ Some (Word (k s.place s.node 0 0))
    left_token =
        ap (first regs h) s.sources
        ∙ (or_none (h s.place)
        ∙ (obeys_at regs k h 0 (with_node f j m).nodes obeys s.place s.node s.place (omega arith)
        (set_there f.nodes j s.place m apart ∙ s.there)
        ∙ (ap (λ (x : Role). if_matched (met h s.node.guard) (rules.gives x (k s.place s.node)
        (first regs h s.node.left) (first regs h s.node.right))) constant.free
        ∙ ap (λ (b : Bool). if_matched b (Some (Word (k s.place s.node 0 0)))) (ap (met h) s.guard))))

    given : h j ≡ if_matched (met h n.guard) (Some (Word (k j m 0 0)))
    given = obeys_at regs k h 0 (with_node f j m).nodes obeys j m j (omega arith) (set_here f.nodes j n m there)

    as_before : (a : ℕ → ℕ → ℕ) → k j m 0 0 ≡ a (k s.place s.node 0 0) 0 → h j ≡ gives regs h a n
    as_before a e =
        given
        ∙ (ap (λ (w : ℕ). if_matched (met h n.guard) (Some (Word w))) e
        ∙ (sym (ap (λ (t : Answer). if_matched (met h n.guard) (rules.gives One a t (first regs h n.right)))
        left_token)
        ∙ sym (ap (λ (z : Role). if_matched (met h n.guard) (rules.gives z a (first regs h n.left)
        (first regs h n.right))) role)))

  module _ (regs : ℕ → ℕ) (mem : List ℕ) (h : ℕ → Answer) where
    abbrev st : ℕ → Option Stored
    st = stores regs h (with_node f j m).nodes

    abbrev seen : FlowNode → ℕ → ℕ
    seen x a = bytes_seen st (slice_index mem) x.number a (size_of x.op)

    constant_word : meant st mem s.place s.node 0 0 ≡ word s.node.imm
    constant_word =
        ap (λ (y : Form). form_computes y (inst_of s.node) (seen s.node) 0 0) constant.form
        ∙ constant.word 0 (word s.node.imm)

    same_word : meant st mem j m 0 0 ≡ meant st mem j n (meant st mem s.place s.node 0 0) 0
    same_word =
        s.same
        ∙ (ap (λ (x : ℕ). alu_of n.op x (word n.imm)) (sym constant_word)
        ∙ sym (ap (λ (y : Form). form_computes y (inst_of n) (seen n) (meant st mem s.place s.node 0 0) 0) s.form))

    start_token : Obeys regs (meant st mem) h 0 (with_node f j m).nodes → h j ≡ gives regs h (meant st mem j n) n
    start_token obeys = as_before regs (meant st mem) h obeys (meant st mem j n) same_word

  -- and does what the operation did
  pub computed_works : Works f j n m
  computed_works = record {
    path = λ regs k h obeys. record {
      computes = λ x y. k j m 0 0;
      is = as_before regs k h obeys (λ x y. k j m 0 0) refl;
    };
    tidy = λ regs k h obeys t. record {
      clear = all_at (λ (x : FlowNode). guard_token h x.guard ≢ Some Null) f.nodes t.clear j n there;
      operands = (omega arith, (all_at (AtMostOne regs h) f.nodes t.operands j n there).1);
    };
    outputs = λ h. quiet_outputs h j n m old_quiet new_quiet;
    deeds = λ regs mem h obeys. quiet_deeds regs h n m old_quiet new_quiet;
    start = start_token;
  }

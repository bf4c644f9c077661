-- A complete block whose nodes lose guards that nobody needs is complete.
use Rattle.std.proofs.Common.{◌≡◌, ℕ, zero, suc, ◌+◌, ◌<◌, ◌≤◌, List, [], ◌∷◌, refl, sym, ap, subst, ◌∙◌, arith}
use Rattle.std.proofs.Common.{cond, length, Bool, true, false, ◌&&◌}
use Rattle.std.specs.Prelude.{Option, Some, None, slice_get, All}
use Rattle.std.proofs.lemmas.List.Elements.{All-nil, All-cons, All-head, All-tail}
use Rattle.trips_isa.specs.declared.form.Form.{Form}
use Rattle.trips_isa.specs.declared.form.Form.TheVariants.{General, Immediate, Load, Store, Branch, Constant}
use Rattle.trips_isa.specs.Forms.{form_of}
use Rattle.trips_isa.specs.Rule.{Answer}
use Rattle.ir_forms.specs.declared.flow.FlowSource.{FlowSource}
use Rattle.ir_forms.specs.declared.flow.FlowSource.TheVariants.{Read, Node}
use Rattle.ir_forms.specs.declared.flow.Guard.{Guard}
use Rattle.ir_forms.specs.declared.flow.FlowNode.{FlowNode}
use Rattle.ir_forms.specs.declared.flow.FlowWrite.{FlowWrite}
use Rattle.ir_forms.specs.declared.flow.FlowBlock.{FlowBlock}
use Rattle.ir_forms.specs.inside.FlowRuns.{Computes, Obeys, OnPath, gives, exits, tokens}
use Rattle.ir_forms.specs.inside.FlowFits.{FitsNodeForm, FitsFlowSource, FitsGuard, FitsNode, FitsWrite, HasOrder}
use Rattle.ir_forms.specs.inside.FlowFits.{RisesFromGuard, Rises, FitsFlow, IsComplete, IsTidy, TakesAtMostOne}
use Rattle.ir_forms.specs.inside.FlowFits.{TakesOne}
use Rattle.flow_guards.specs.inside.Guards.{Guards, guards_of, guard_in, most_around}
use Rattle.flow_guards.specs.inside.Unguards.{Loses, is_right, nodes_right, writes_right, may_lose, loosened}
use Rattle.flow_guards.specs.inside.Unguards.{all_loosened, unguarded, Unguards}
use Rattle.flow_guards.proofs.Implied.{each, right_at, obeys_each, obeys_loosened, implied}
use Rattle.flow_guards.proofs.Before.{is_right_so, before, Sure, node_before}
use Rattle.flow_guards.proofs.Paths.{tokens_same, exits_same, clear_same, operands_same, write_counts}

-- NODES

-- a loosened node stood at its place
pub stood : (loses : Loses) (j : ℕ) (ns : List FlowNode) (i : ℕ) (n : FlowNode)
    → slice_get (all_loosened loses j ns) i ≡ Some n
    → (b : Bool) × (m : FlowNode) × (slice_get ns i ≡ Some m) × (loosened b m ≡ n)
stood loses j [] i n e = absurd (cc)
stood loses j (m ∷ ns) zero n e = (loses j, m, refl, some_same e)
  where
    some_same : {A : Type 0} {x y : A} → Some x ≡ Some y → x ≡ y
    some_same {x = x} e = ap (get x) e
      where
        get : {B : Type 0} → B → Option B → B
        get d None = d
        get d (Some y) = y
stood loses j (m ∷ ns) (suc i) n e = stood loses (suc j) ns i n e

-- no node goes or comes
pub as_many : (loses : Loses) (j : ℕ) (ns : List FlowNode) → length (all_loosened loses j ns) ≡ length ns
as_many loses j [] = refl
as_many loses j (n ∷ ns) = ap suc (as_many loses (suc j) ns)

-- what holds of each of some nodes and stays as they are loosened, holds of the loosened ones
pub all_stays : (P Q : FlowNode → Type 0) (loses : Loses) (j : ℕ) (ns : List FlowNode)
    → ((b : Bool) (n : FlowNode) → P n → Q (loosened b n)) → All P ns → All Q (all_loosened loses j ns)
all_stays P Q loses j [] f a = All-nil Q
all_stays P Q loses j (n ∷ ns) f a =
    All-cons Q (loosened (loses j) n) _ (f (loses j) n (All-head P n ns a))
    (all_stays P Q loses (suc j) ns f (All-tail P n ns a))

no_guard : (b : Bool) (g : Option Guard) → g ≡ None → cond b None g ≡ None
no_guard true g e = refl
no_guard false g e = e

form_fits : (form : Form) (b : Bool) (n : FlowNode) → FitsNodeForm form n → FitsNodeForm form (loosened b n)
form_fits General b n x = x
form_fits Immediate b n x = x
form_fits Load b n x = x
form_fits Store b n x = x
form_fits Branch b n x = x
form_fits Constant b n x = (x.0, x.1, no_guard b n.guard x.2)

-- THE BLOCK

module _ (loses : Loses) (f : FlowBlock) (may : may_lose loses f ≡ true) where
  -- what is right of the nodes
  pub nodes : nodes_right (guards_of f.nodes) loses 0 f.nodes ≡ true
  nodes = (each (nodes_right (guards_of f.nodes) loses 0 f.nodes) (writes_right loses f.writes) may).0

  -- and of the writes
  pub writes : writes_right loses f.writes ≡ true
  writes = (each (nodes_right (guards_of f.nodes) loses 0 f.nodes) (writes_right loses f.writes) may).1

  abbrev g : FlowBlock
  g = unguarded loses f

  source_fits : (x : FlowSource) → FitsFlowSource f x → FitsFlowSource g x
  source_fits (Read r) l = l
  source_fits (Node j) l = let e = as_many loses 0 f.nodes in omega (arith, e, l)

  sources_fit : (ss : List FlowSource) → All (FitsFlowSource f) ss → All (FitsFlowSource g) ss
  sources_fit ss a k d l = source_fits _ (a k d l)

  guard_fits : (b : Bool) (k : Option Guard) → FitsGuard f k → FitsGuard g (cond b None k)
  guard_fits true k l = tt
  guard_fits false None l = tt
  guard_fits false (Some k) l = let e = as_many loses 0 f.nodes in omega (arith, e, l)

  node_fits : (b : Bool) (n : FlowNode) → FitsNode f n → FitsNode g (loosened b n)
  node_fits b n x = record {
    form = form_fits (form_of n.op) b n x.form;
    guard = guard_fits b n.guard x.guard;
    left = sources_fit n.left x.left;
    right = sources_fit n.right x.right;
  }

  write_fits : (w : FlowWrite) → FitsWrite f w → FitsWrite g w
  write_fits w x = record { register = x.register; sources = sources_fit w.sources x.sources }

  guard_rises : (rank : ℕ → ℕ) (k : ℕ) (b : Bool) (x : Option Guard) → RisesFromGuard rank k x
      → RisesFromGuard rank k (cond b None x)
  guard_rises rank k true x r = tt
  guard_rises rank k false x r = r

  node_rises : (rank : ℕ → ℕ) (k : ℕ) (b : Bool) (n : FlowNode) → Rises rank k n → Rises rank k (loosened b n)
  node_rises rank k b n r = record {
    left = r.left;
    right = r.right;
    guard = guard_rises rank k b n.guard r.guard;
  }

  in_order : (rank : ℕ → ℕ) → HasOrder f rank → HasOrder g rank
  in_order rank o = record {
    sources = λ j n e.
        let s = stood loses 0 f.nodes j n e in
        subst (Rises rank (rank j)) s.3 (node_rises rank (rank j) s.0 s.1 (o.sources j s.1 s.2));
    stores = λ i j m n ei ej fm fn l.
        let s = stood loses 0 f.nodes i m ei in
        let t = stood loses 0 f.nodes j n ej in
        o.stores i j s.1 t.1 s.2 t.2
        (subst (λ (x : FlowNode). form_of x.op ≡ Store) (sym s.3) fm)
        (subst (λ (x : FlowNode). form_of x.op ≡ Load) (sym t.3) fn)
        (subst (λ (x : FlowNode). x.number < t.1.number) (sym s.3)
        (subst (λ (x : FlowNode). m.number < x.number) (sym t.3) l));
  }

  -- A table of a path afterwards is a table of a path before, with other words.
  module _ (regs : ℕ → ℕ) (words : Computes) (h : ℕ → Answer) (o : OnPath regs words h g) where
    -- what the nodes compute before
    abbrev pub old_words : Computes
    old_words j n = words j (loosened (loses j) n)

    -- their tokens
    abbrev pub old : ℕ → Answer
    old = before (guards_of f.nodes) loses h

    right : (k : ℕ) (n : FlowNode) → slice_get f.nodes k ≡ Some n
        → is_right (guards_of f.nodes) loses k n ≡ true
    right k n e = right_at (guards_of f.nodes) loses 0 f.nodes nodes k n k (omega arith) e

    given : (k : ℕ) (n : FlowNode) → slice_get f.nodes k ≡ Some n
        → h k ≡ gives regs h (words k (loosened (loses k) n)) (loosened (loses k) n)
    given k n e = obeys_loosened regs words h loses 0 f.nodes o k n k (omega arith) e

    -- guards that are found to be met are
    pub sure : Sure (guards_of f.nodes) loses h
    sure outer inner = implied f.nodes loses regs words h right given most_around outer inner

    own : (k : ℕ) (n : FlowNode) → slice_get f.nodes k ≡ Some n → guards_of f.nodes k ≡ n.guard
    own k n e = ap guard_in e

    -- the tokens before are those of a path
    pub old_path : OnPath regs old_words old f
    old_path = obeys_each regs old_words old 0 f.nodes
        (λ i n k e s.
        let e2 : i ≡ k = omega (arith, e) in
        let at : slice_get f.nodes k ≡ Some n = subst (λ (x : ℕ). slice_get f.nodes x ≡ Some n) e2 s in
        node_before (guards_of f.nodes) loses h regs sure (old_words k n) k n (own k n at)
        (is_right_so (guards_of f.nodes) loses k n (right k n at)) (given k n at))

    tidy_after : IsTidy regs old f → IsTidy regs h g
    tidy_after t = record {
      clear = clear_same (guards_of f.nodes) loses h 0 f.nodes nodes t.clear;
      operands = operands_same (guards_of f.nodes) loses h regs 0 f.nodes nodes t.operands;
    }

    one_after : TakesAtMostOne regs old f → TakesAtMostOne regs h g
    one_after t = record {
      writes = write_counts (guards_of f.nodes) loses h regs f.writes writes (λ (c : ℕ). c ≤ 1) t.writes;
      numbers = λ k. subst (λ (c : ℕ). c ≤ 1) (tokens_same (guards_of f.nodes) loses h 0 f.nodes k nodes)
          (t.numbers k);
      exits = sym (ap length (exits_same (guards_of f.nodes) loses h 0 f.nodes nodes)) ∙ t.exits;
    }

    all_after : TakesOne regs old f → TakesOne regs h g
    all_after t = record {
      writes = write_counts (guards_of f.nodes) loses h regs f.writes writes (λ (c : ℕ). c ≡ 1) t.writes;
      numbers = λ k. sym (tokens_same (guards_of f.nodes) loses h 0 f.nodes k nodes) ∙ t.numbers k;
    }

  fits_after : FitsFlow f → FitsFlow g
  fits_after x = record {
    nodes = all_stays (FitsNode f) (FitsNode g) loses 0 f.nodes node_fits x.nodes;
    writes = λ k d l. write_fits _ (x.writes k d l);
    mask = x.mask;
    order = (x.order.0, in_order x.order.0 x.order.1);
    tidy = λ regs words h o. tidy_after regs words h o
        (x.tidy regs (old_words regs words h o) (old regs words h o) (old_path regs words h o));
    one = λ regs words h o. one_after regs words h o
        (x.one regs (old_words regs words h o) (old regs words h o) (old_path regs words h o));
  }

  -- the unguarded block is complete
  pub complete_after : IsComplete f → IsComplete g
  complete_after x = record {
    fits = fits_after x.fits;
    all = λ regs words h o. all_after regs words h o
        (x.all regs (old_words regs words h o) (old regs words h o) (old_path regs words h o));
  }

-- a complete block whose nodes lose guards that nobody needs is complete
pub keeps_complete : (f g : FlowBlock) → Unguards f g → IsComplete f → IsComplete g
keeps_complete f g u x = subst IsComplete (sym u.same) (complete_after u.loses f u.may x)

-- A block without a node that nothing names is still complete and means what it meant.
use Rattle.std.proofs.Common.{◌≡◌, ◌≢◌, ℕ, ◌≤◌, List, sym}
use Rattle.std.proofs.Common.{ap, subst, ◌∙◌}
use Rattle.std.proofs.Common.{arith, length, nat_eq, true, false}
use Rattle.std.specs.Prelude.{Some, Option, All, slice_get, slice_index}
use Rattle.trips_isa.specs.declared.form.Form.{Form}
use Rattle.trips_isa.specs.declared.block.Token.{Token}
use Rattle.trips_isa.specs.declared.block.Token.TheVariants.{Null}
use Rattle.trips_isa.specs.declared.block.Inst.{Inst}
use Rattle.trips_isa.specs.declared.block.Stored.{Stored}
use Rattle.trips_isa.specs.Blocks.{form_computes}
use Rattle.trips_isa.specs.Faults.{divides}
use Rattle.trips_isa.specs.Forms.{form_of, size_of}
use Rattle.trips_isa.specs.Rule.{Answer}
use Rattle.trips_isa.specs.Stores.{bytes_seen}
use Rattle.ir_forms.specs.declared.flow.FlowSource.TheVariants.{Node}
use Rattle.ir_forms.specs.declared.flow.FlowNode.{FlowNode}
use Rattle.ir_forms.specs.declared.flow.FlowBlock.{FlowBlock}
use Rattle.ir_forms.specs.inside.HyperRuns.{Layout}
use Rattle.ir_forms.specs.inside.FlowRuns.{Computes, OnPath, AtStart, Obeys, gives, meant, stores, guard_token}
use Rattle.ir_forms.specs.inside.FlowRuns.{tokens}
use Rattle.ir_forms.specs.inside.FlowRuns.{exits, count, inst_of}
use Rattle.ir_forms.specs.inside.FlowFits.{FitsFlow}
use Rattle.ir_forms.specs.inside.FlowFits.{IsComplete, AtMostOne, IsTidy}
use Rattle.ir_forms.specs.inside.FlowRegular.{is_named, nodes_name}
use Rattle.ir_forms.specs.inside.FlowRegular.{writes_name}
use Rattle.hyper_narrow.specs.inside.NarrowedCode.{Narrowed}
use Rattle.hyper_narrow.specs.inside.NarrowedMeaning.{MeansNarrowed}
use Rattle.hyper_narrow.proofs.ActsAlike.{acts_by}
use Rattle.flow_fold.specs.inside.Sweeps.{lower, lower_node}
use Rattle.flow_fold.specs.inside.Sweeps.{without}
use Rattle.flow_fold.specs.inside.Sweeps.{is_idle}
use Rattle.flow_fold.proofs.Places.{all_at, all_of}
use Rattle.flow_fold.proofs.Echoes.{echo, echoed}
use Rattle.flow_fold.proofs.Lowered.{Spares, lower_below, raised, raised_here, raised_there}
use Rattle.flow_fold.proofs.Lowered.{count_low, guard_low, gives_low, inst_low}
use Rattle.flow_fold.proofs.Swept.{Ready, stores_low, memory_low, fired_low, exits_low, tokens_low, written_low}
use Rattle.flow_fold.proofs.Swept.{obeys_low}
use Rattle.flow_fold.proofs.Stayed.{calm, ready, nodes_spare, writes_spare, each, each_write, nodes_fit, writes_fit}
use Rattle.flow_fold.proofs.Stayed.{ranked, order_kept}
use Rattle.flow_fold.proofs.Left.{spares_at}

module _ (f : FlowBlock) (k : ℕ) (gone : FlowNode) (there : slice_get f.nodes k ≡ Some gone)
    (idle : is_idle gone.op ≡ true) (unnamed : is_named f (Node k) ≡ false) where
  abbrev g : FlowBlock
  g = without k f

  abbrev its_calm : divides gone.op ≡ false
  its_calm = calm f k gone there idle unnamed

  abbrev are_ready : Ready k gone idle its_calm 0 f.nodes
  are_ready = ready f k gone there idle unnamed

  abbrev nodes_do : nodes_name (Node k) f.nodes ≡ false
  nodes_do = nodes_spare f k gone there idle unnamed

  abbrev writes_do : writes_name (Node k) f.writes ≡ false
  writes_do = writes_spare f k gone there idle unnamed

  -- TABLES

  module _ (regs : ℕ → ℕ) (h : ℕ → Answer) (t : Answer) where
    abbrev old : ℕ → Answer
    old = raised regs k t h

    tidy_kept : IsTidy regs old f → IsTidy regs h g
    tidy_kept a = record {
      clear = all_of (λ x. guard_token h x.guard ≢ Some Null) g.nodes
          (each f k gone there idle unnamed (λ y x. guard_token h x.guard ≢ Some Null)
          (λ p n e d s. subst (λ (z : Answer). z ≢ Some Null) (guard_low regs k t h n.guard s.guard)
          (all_at (λ x. guard_token old x.guard ≢ Some Null) f.nodes a.clear p n e)));
      operands = all_of (AtMostOne regs h) g.nodes
          (each f k gone there idle unnamed (λ y x. AtMostOne regs h x)
          (λ p n e d s.
          let b = all_at (AtMostOne regs old) f.nodes a.operands p n e in (
            subst (λ (z : ℕ). z ≤ 1) (count_low regs k t h n.left s.left) b.0,
            subst (λ (z : ℕ). z ≤ 1) (count_low regs k t h n.right s.right) b.1,
          )));
    }

    counts_kept : (P : ℕ → Type 0) → All (λ w. P (count regs old w.sources)) f.writes
        → All (λ w. P (count regs h w.sources)) g.writes
    counts_kept P a = each_write f k gone there idle unnamed (λ w. P (count regs h w.sources)) (λ y w e s.
        subst P (count_low regs k t h w.sources s) (all_at (λ v. P (count regs old v.sources)) f.writes a y w e))

    -- numbers begin where they began
    from_zero : lower k 0 ≡ 0
    from_zero = lower_below k 0 (omega arith)

    same_tokens : (q : ℕ) → tokens old 0 f.nodes q ≡ tokens h 0 g.nodes q
    same_tokens q = tokens_low k gone idle its_calm regs t h f.nodes 0 are_ready q
        ∙ ap (λ (i : ℕ). tokens h i g.nodes q) from_zero

    same_exits : exits old 0 f.nodes ≡ exits h 0 g.nodes
    same_exits = exits_low k gone idle its_calm regs t h f.nodes 0 are_ready
        ∙ ap (λ (i : ℕ). exits h i g.nodes) from_zero

    gone_spares : Spares k gone
    gone_spares = spares_at k f.nodes k gone nodes_do there

    obeys_old : (c a : Computes)
        → ((j : ℕ) (n : FlowNode) → nat_eq j k ≡ false → Spares k n
        → h (lower k j) ≡ gives regs h (c (lower k j) (lower_node k n)) (lower_node k n)
        → old j ≡ gives regs old (a j n) n)
        → ((j : ℕ) → nat_eq j k ≡ true → old j ≡ gives regs old (a j gone) gone)
        → Obeys regs c h 0 g.nodes → Obeys regs a old 0 f.nodes
    obeys_old c a stays goes o = obeys_low k gone idle its_calm regs t h c a stays goes f.nodes 0 are_ready
        (subst (λ (i : ℕ). Obeys regs c h i g.nodes) (sym from_zero) o)

  -- PATHS

  module _ (regs : ℕ → ℕ) (c : Computes) (h : ℕ → Answer) (o : OnPath regs c h g) where
    abbrev zeros : ℕ → ℕ → ℕ
    zeros x y = 0

    -- the token of the node that is gone
    abbrev its : Answer
    its = gives regs h zeros (lower_node k gone)

    abbrev before_all : ℕ → Answer
    before_all = raised regs k its h

    old_path : OnPath regs (echo before_all) before_all f
    old_path = obeys_old regs h its c (echo before_all)
        (λ j n e s q. echoed regs before_all (before_all j) (c (lower k j) (lower_node k n)) n
        (raised_there regs k its h j e ∙ (q ∙ sym (gives_low regs k its h n s (c (lower k j) (lower_node k n))))))
        (λ j e. echoed regs before_all (before_all j) zeros gone
        (raised_here regs k its h j e ∙ sym (gives_low regs k its h gone (gone_spares regs h its) zeros)))
        o

  -- the block still fits
  fits_kept : FitsFlow f → FitsFlow g
  fits_kept fits = record {
    nodes = nodes_fit f k gone there idle unnamed fits.nodes;
    writes = writes_fit f k gone there idle unnamed fits.writes;
    mask = fits.mask;
    order = (
      ranked f k gone there idle unnamed fits.order.0,
      order_kept f k gone there idle unnamed fits.order.0 fits.order.1,
    );
    tidy = λ regs c h o. tidy_kept regs h (its regs c h o)
        (fits.tidy regs (echo (before_all regs c h o)) (before_all regs c h o) (old_path regs c h o));
    one = λ regs c h o.
        let a = fits.one regs (echo (before_all regs c h o)) (before_all regs c h o) (old_path regs c h o) in
        record {
          writes = counts_kept regs h (its regs c h o) (λ i. i ≤ 1) a.writes;
          numbers = λ q. subst (λ (i : ℕ). i ≤ 1) (same_tokens regs h (its regs c h o) q) (a.numbers q);
          exits = ap (λ (l : List (Inst × Token)). length l) (sym (same_exits regs h (its regs c h o))) ∙ a.exits;
        };
  }

  -- the block is still complete
  pub complete_kept : IsComplete f → IsComplete g
  complete_kept a = record {
    fits = fits_kept a.fits;
    all = λ regs c h o.
        let b = a.all regs (echo (before_all regs c h o)) (before_all regs c h o) (old_path regs c h o) in
        record {
          writes = counts_kept regs h (its regs c h o) (λ i. i ≡ 1) b.writes;
          numbers = λ q. sym (same_tokens regs h (its regs c h o) q) ∙ b.numbers q;
        };
  }

  -- STARTS

  -- what a node computes in a start does not hang on numbers
  meant_low : (st : ℕ → Option Stored) (mem : List ℕ) (i j : ℕ) (n : FlowNode)
      → meant st mem i (lower_node k n) ≡ meant st mem j n
  meant_low st mem i j n = at_form (form_of n.op)
    where
      at_form : (x : Form)
          → form_computes x (inst_of (lower_node k n))
          (λ (a : ℕ). bytes_seen st (slice_index mem) n.number a (size_of n.op))
          ≡ form_computes x (inst_of n) (λ (a : ℕ). bytes_seen st (slice_index mem) n.number a (size_of n.op))
      at_form x = ap (λ (z : Inst). form_computes x z
          (λ (a : ℕ). bytes_seen st (slice_index mem) n.number a (size_of n.op))) (inst_low k n)

  module _ (regs : ℕ → ℕ) (mem : List ℕ) (h : ℕ → Answer) where
    abbrev st : ℕ → Option Stored
    st = stores regs h g.nodes

    -- the token of the node that is gone
    abbrev start_its : Answer
    start_its = gives regs h (meant st mem k gone) (lower_node k gone)

    abbrev now : ℕ → Answer
    now = raised regs k start_its h

    old_start : AtStart regs mem h g → AtStart regs mem now f
    old_start o =
        subst (λ (s : ℕ → Option Stored). Obeys regs (meant s mem) now 0 f.nodes)
        (sym (stores_low k gone idle its_calm regs start_its h f.nodes are_ready))
        (obeys_old regs h start_its (meant st mem) (meant st mem)
        (λ j n e s q. raised_there regs k start_its h j e
        ∙ (q ∙ (ap (λ (a : ℕ → ℕ → ℕ). gives regs h a (lower_node k n)) (meant_low st mem (lower k j) j n)
        ∙ sym (gives_low regs k start_its h n s (meant st mem j n)))))
        (λ j e. raised_here regs k start_its h j e
        ∙ sym (gives_low regs k start_its h gone (gone_spares regs h start_its) (meant st mem k gone)))
        o)

  -- the block still means what it meant
  pub means_kept : (at : Layout) (b : Narrowed) → MeansNarrowed at b f → MeansNarrowed at b g
  means_kept at b means machine h words o =
      let regs = machine.registers in
      let mem = machine.memory in
      let t = start_its regs mem h in
      let c = means machine (now regs mem h) words (old_start regs mem h o) in
      record {
        registers = λ r. sym (written_low k gone idle its_calm regs t h f.writes writes_do r) ∙ c.registers r;
        memory = sym (memory_low k gone idle its_calm regs t h f.nodes are_ready mem) ∙ c.memory;
        exit = record { branch = c.exit.branch; only = sym (same_exits regs h t) ∙ c.exit.only; is = c.exit.is };
        acts = acts_by _ _ _ (sym (fired_low k gone idle its_calm regs t h f.nodes 0 are_ready)) c.acts;
      }

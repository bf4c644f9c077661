-- The rules by which a node takes what a copy takes.
use Rattle.std.proofs.Common.{◌≡◌, ℕ, ◌<◌, ◌≤◌, List, [], ◌∷◌, ◌⊎◌, inl, inr, refl, sym}
use Rattle.std.proofs.Common.{ap, subst}
use Rattle.std.proofs.Common.{◌∙◌, Bool, true, false, ◌||◌}
use Rattle.std.specs.Prelude.{Some, Option, All, slice_get}
use Rattle.std.proofs.lemmas.Bool.{or_cases}
use Rattle.std.proofs.lemmas.List.Elements.{All-head}
use Rattle.trips_isa.specs.declared.form.Form.{Form}
use Rattle.trips_isa.specs.declared.form.Form.TheVariants.{General, Immediate, Load, Store, Branch, Constant}
use Rattle.trips_isa.specs.Forms.{form_of}
use Rattle.trips_isa.specs.Rule.{Answer}
use Rattle.ir_forms.specs.declared.flow.FlowSource.{FlowSource}
use Rattle.ir_forms.specs.declared.flow.FlowSource.TheVariants.{Read, Node}
use Rattle.ir_forms.specs.declared.flow.Guard.{Guard}
use Rattle.ir_forms.specs.declared.flow.FlowNode.{FlowNode}
use Rattle.ir_forms.specs.declared.flow.FlowBlock.{FlowBlock}
use Rattle.ir_forms.specs.inside.FlowRuns.{first, count}
use Rattle.ir_forms.specs.inside.FlowFits.{FitsNode, FitsNodeForm, FitsFlowSource, RisesFrom, HasOrder}
use Rattle.ir_forms.specs.inside.FlowFits.{AtMostOne, IsTidy}
use Rattle.ir_forms.specs.inside.FlowRegular.{is_among, guards_by, nodes_name}
use Rattle.flow_fold.proofs.Places.{all_at}
use Rattle.flow_fold.proofs.Names.{named_at, or_first, or_second}
use Rattle.flow_fold.proofs.Turned.{Written, Works}
use Rattle.flow_fold.proofs.Forwarded.{Copied, rises_on, copy_gives, sources_work}

nil_apart : (s : FlowSource) → ◌≡◌ {A = List FlowSource} [] (s ∷ []) → ⊥
nil_apart s e = absurd (cc)

module _ (f : FlowBlock) (j : ℕ) (n : FlowNode) (there : slice_get f.nodes j ≡ Some n) (ls : List FlowSource) where
  form_same : (x : Form) → FitsNodeForm x n → (rs : List FlowSource)
      → FitsNodeForm x (record n { left = ls; right = rs })
  form_same General a rs = a
  form_same Immediate a rs = a
  form_same Load a rs = a
  form_same Store a rs = a
  form_same Branch a rs = a
  form_same Constant a rs = a

  copy_fits : (g : Option Guard) (ss : List FlowSource) → Copied f.nodes j g ss ls → All (FitsNode f) f.nodes
      → All (FitsFlowSource f) ls
  copy_fits g ss c all =
      subst (λ (z : List FlowSource). All (FitsFlowSource f) z) c.left
      (all_at (FitsNode f) f.nodes all c.place c.node c.there).left

  copy_rises : (g : Option Guard) (ss : List FlowSource) → Copied f.nodes j g ss ls → (rank : ℕ → ℕ)
      → HasOrder f rank → All (RisesFrom rank (rank j)) ss → All (RisesFrom rank (rank j)) ls
  copy_rises g ss c rank order a =
      let low : rank c.place < rank j = All-head (RisesFrom rank (rank j)) (Node c.place) []
      (subst (λ (z : List FlowSource). All (RisesFrom rank (rank j)) z) c.sources a) in
      subst (λ (z : List FlowSource). All (RisesFrom rank (rank j)) z) c.left
      (rises_on rank (rank c.place) (rank j) low c.node.left (order.sources c.place c.node c.there).left)

  copy_names : (g : Option Guard) (ss : List FlowSource) → Copied f.nodes j g ss ls → (y : ℕ)
      → is_among (Node y) ls ≡ true → nodes_name (Node y) f.nodes ≡ true
  copy_names g ss c y e =
      named_at (Node y) f.nodes c.place c.node c.there
      (or_first (is_among (Node y) c.node.left)
      (is_among (Node y) c.node.right || guards_by (Node y) c.node.guard)
      (ap (is_among (Node y)) c.left ∙ e))

  copy_counts : (g : Option Guard) (ss : List FlowSource) → Copied f.nodes j g ss ls → (regs : ℕ → ℕ)
      (h : ℕ → Answer) → IsTidy regs h f → count regs h ls ≤ 1
  copy_counts g ss c regs h t =
      subst (λ (z : List FlowSource). count regs h z ≤ 1) c.left
      (all_at (AtMostOne regs h) f.nodes t.operands c.place c.node c.there).0

  module _ (c : Copied f.nodes j n.guard n.left ls) where
    abbrev left_m : FlowNode
    left_m = record n { left = ls; right = n.right }

    -- a node may be written with what a copy at its left takes
    pub left_written : Written f j n left_m
    left_written = record {
      fits = λ all a. record {
        form = form_same (form_of n.op) a.form n.right;
        guard = a.guard;
        left = copy_fits n.guard n.left c all;
        right = a.right;
      };
      rises = λ rank order.
          let a = order.sources j n there in
          record { left = copy_rises n.guard n.left c rank order a.left; right = a.right; guard = a.guard };
      load = λ e. (e, refl);
      store = λ e. (e, refl);
      silent = λ e. e;
      operands = λ t. record {
        left = λ q. absurd (nil_apart (Node c.place) (sym (t.left q) ∙ c.sources));
        right = t.right;
      };
      guards = λ s. s;
      reads = λ r e. or_second (is_among (Read r) ls) (is_among (Read r) n.right || guards_by (Read r) n.guard)
          (subst (λ (z : List FlowSource).
          (is_among (Read r) z || (is_among (Read r) n.right || guards_by (Read r) n.guard)) ≡ true) c.sources e);
      names = λ y e. left_names y (or_cases (is_among (Node y) ls)
          (is_among (Node y) n.right || guards_by (Node y) n.guard) e);
      label = λ e. record { place = j; node = n; there = there; op = refl; imm = refl };
    }
      where
        left_names : (y : ℕ) → (is_among (Node y) ls ≡ true)
            ⊎ ((is_among (Node y) n.right || guards_by (Node y) n.guard) ≡ true)
            → nodes_name (Node y) f.nodes ≡ true
        left_names y (inl e) = copy_names n.guard n.left c y e
        left_names y (inr e) = named_at (Node y) f.nodes j n there
            (or_second (is_among (Node y) n.left) (is_among (Node y) n.right || guards_by (Node y) n.guard) e)

    -- and does the same
    pub left_works : Works f j n left_m
    left_works = sources_work f j n there ls n.right
        (λ regs a h o. record {
          left = λ e. ap (first regs h) (sym c.left)
              ∙ (copy_gives f j n there ls n.right c.place c.node c.there c.apart c.mov c.guard regs a h o e
              ∙ ap (first regs h) (sym c.sources));
          right = λ e. refl;
        })
        (λ regs h t. (
          copy_counts n.guard n.left c regs h t,
          (all_at (AtMostOne regs h) f.nodes t.operands j n there).1,
        ))

module _ (f : FlowBlock) (j : ℕ) (n : FlowNode) (there : slice_get f.nodes j ≡ Some n) (rs : List FlowSource)
    (c : Copied f.nodes j n.guard n.right rs) where
  abbrev right_m : FlowNode
  right_m = record n { left = n.left; right = rs }

  right_form : (x : Form) → FitsNodeForm x n → FitsNodeForm x right_m
  right_form General a = a
  right_form Immediate a = a
  right_form Load a = a
  right_form Store a = a
  right_form Branch a = a
  right_form Constant a = a

  -- a node may be written with what a copy at its right takes
  pub right_written : Written f j n right_m
  right_written = record {
    fits = λ all a. record {
      form = right_form (form_of n.op) a.form;
      guard = a.guard;
      left = a.left;
      right = copy_fits f j n there rs n.guard n.right c all;
    };
    rises = λ rank order.
        let a = order.sources j n there in
        record {
          left = a.left;
          right = copy_rises f j n there rs n.guard n.right c rank order a.right;
          guard = a.guard;
        };
    load = λ e. (e, refl);
    store = λ e. (e, refl);
    silent = λ e. e;
    operands = λ t. record {
      left = t.left;
      right = λ q. absurd (nil_apart (Node c.place) (sym (t.right q) ∙ c.sources));
    };
    guards = λ s. s;
    reads = λ r e. middle (is_among (Read r) n.left) (is_among (Read r) rs) (guards_by (Read r) n.guard)
        (subst (λ (z : List FlowSource).
        (is_among (Read r) n.left || (is_among (Read r) z || guards_by (Read r) n.guard)) ≡ true) c.sources e);
    names = λ y e. at y (or_cases (is_among (Node y) n.left) (is_among (Node y) rs || guards_by (Node y) n.guard) e);
    label = λ e. record { place = j; node = n; there = there; op = refl; imm = refl };
  }
    where
      middle : (a b d : Bool) → (a || (false || d)) ≡ true → (a || (b || d)) ≡ true
      middle true b d e = refl
      middle false true d e = refl
      middle false false d e = e

      inner : (y : ℕ) → (is_among (Node y) rs ≡ true) ⊎ (guards_by (Node y) n.guard ≡ true)
          → nodes_name (Node y) f.nodes ≡ true
      inner y (inl e) = copy_names f j n there rs n.guard n.right c y e
      inner y (inr e) = named_at (Node y) f.nodes j n there
          (or_second (is_among (Node y) n.left) (is_among (Node y) n.right || guards_by (Node y) n.guard)
          (or_second (is_among (Node y) n.right) (guards_by (Node y) n.guard) e))

      at : (y : ℕ) → (is_among (Node y) n.left ≡ true) ⊎ ((is_among (Node y) rs || guards_by (Node y) n.guard) ≡ true)
          → nodes_name (Node y) f.nodes ≡ true
      at y (inl e) = named_at (Node y) f.nodes j n there
          (or_first (is_among (Node y) n.left) (is_among (Node y) n.right || guards_by (Node y) n.guard) e)
      at y (inr e) = inner y (or_cases (is_among (Node y) rs) (guards_by (Node y) n.guard) e)

  -- and does the same
  pub right_works : Works f j n right_m
  right_works = sources_work f j n there n.left rs
      (λ regs a h o. record {
        left = λ e. refl;
        right = λ e. ap (first regs h) (sym c.left)
            ∙ (copy_gives f j n there n.left rs c.place c.node c.there c.apart c.mov c.guard regs a h o e
            ∙ ap (first regs h) (sym c.sources));
      })
      (λ regs h t. (
        (all_at (AtMostOne regs h) f.nodes t.operands j n there).0,
        copy_counts f j n there rs n.guard n.right c regs h t,
      ))

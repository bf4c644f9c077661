-- The rules by which a node takes what stands behind its sources.
use Rattle.std.proofs.Common.{◌≡◌, ℕ, ◌<◌, ◌≤◌, List, ◌⊎◌, inl, inr, refl, sym, ap, subst, ◌∙◌}
use Rattle.std.proofs.Common.{Bool, true, false, ◌||◌, map}
use Rattle.std.specs.Prelude.{Some, All, slice_get}
use Rattle.std.proofs.lemmas.Bool.{or_cases}
use Rattle.trips_isa.specs.declared.form.Form.{Form}
use Rattle.trips_isa.specs.declared.form.Form.TheVariants.{General, Immediate, Load, Store, Branch, Constant}
use Rattle.trips_isa.specs.Forms.{form_of}
use Rattle.ir_forms.specs.declared.flow.FlowSource.{FlowSource}
use Rattle.ir_forms.specs.declared.flow.FlowSource.TheVariants.{Read, Node}
use Rattle.ir_forms.specs.declared.flow.FlowNode.{FlowNode}
use Rattle.ir_forms.specs.declared.flow.FlowBlock.{FlowBlock}
use Rattle.ir_forms.specs.inside.FlowFits.{FitsNode, FitsNodeForm, FitsFlowSource, RisesFrom, HasOrder}
use Rattle.ir_forms.specs.inside.FlowFits.{AtMostOne}
use Rattle.ir_forms.specs.inside.FlowRegular.{is_among, guards_by, nodes_name}
use Rattle.flow_fold.specs.inside.Draws.{all_behind}
use Rattle.flow_fold.specs.inside.Folds.{with_left, with_right, with_node}
use Rattle.flow_fold.specs.inside.Replaces.{Immediates, with_immediate}
use Rattle.flow_fold.proofs.Places.{all_at, set_there}
use Rattle.flow_fold.proofs.Names.{named_at, or_first, or_second}
use Rattle.flow_fold.proofs.Turned.{Written, Works}
use Rattle.flow_fold.proofs.Forwarded.{rises_on, sources_work_on}
use Rattle.flow_fold.proofs.StandingBehind.{first_behind, count_behind, among_read, among_node, all_behind_hold}
use Rattle.flow_fold.proofs.StandingBehind.{all_behind_new}

-- a node with what stands behind its sources at the left
pub record LeftBehind (nodes : List FlowNode) (j : ℕ) (n m : FlowNode) : Type 0 where
  pub marks : List Bool
  pub is : m ≡ with_left n (all_behind nodes marks j n.left)

-- the same at the right
pub record RightBehind (nodes : List FlowNode) (j : ℕ) (n m : FlowNode) : Type 0 where
  pub marks : List Bool
  pub is : m ≡ with_right n (all_behind nodes marks j n.right)

module _ (f : FlowBlock) (j : ℕ) (n : FlowNode) (there : slice_get f.nodes j ≡ Some n) where
  form_same : (ls rs : List FlowSource) (x : Form) → FitsNodeForm x n
      → FitsNodeForm x (record n { left = ls; right = rs })
  form_same ls rs General a = a
  form_same ls rs Immediate a = a
  form_same ls rs Load a = a
  form_same ls rs Store a = a
  form_same ls rs Branch a = a
  form_same ls rs Constant a = a

  module _ (marks : List Bool) (ss : List FlowSource) where
    -- what stands behind the sources
    abbrev xs : List FlowSource
    xs = all_behind f.nodes marks j ss

    behind_fits : All (FitsNode f) f.nodes → All (FitsFlowSource f) ss → All (FitsFlowSource f) xs
    behind_fits all a = all_behind_hold (FitsFlowSource f) f.nodes marks j
        (λ k c d e s q p. (all_at (FitsNode f) f.nodes all k c e).left) ss a

    behind_rises : (rank : ℕ → ℕ) → HasOrder f rank → All (RisesFrom rank (rank j)) ss
        → All (RisesFrom rank (rank j)) xs
    behind_rises rank order a = all_behind_hold (RisesFrom rank (rank j)) f.nodes marks j
        (λ k c d e s q p.
        let low : rank k < rank j = subst (λ (z : FlowSource). RisesFrom rank (rank j) z) q p in
        rises_on rank (rank k) (rank j) low c.left (order.sources k c e).left) ss a

    behind_names : (y : ℕ) → (is_among (Node y) ss ≡ true → nodes_name (Node y) f.nodes ≡ true)
        → is_among (Node y) xs ≡ true → nodes_name (Node y) f.nodes ≡ true
    behind_names y own e = go (among_node f.nodes marks j y ss e)
      where
        go : (is_among (Node y) ss ≡ true) ⊎ (nodes_name (Node y) f.nodes ≡ true)
            → nodes_name (Node y) f.nodes ≡ true
        go (inl d) = own d
        go (inr d) = d

  left_named : (y : ℕ) → is_among (Node y) n.left ≡ true → nodes_name (Node y) f.nodes ≡ true
  left_named y e = named_at (Node y) f.nodes j n there
      (or_first (is_among (Node y) n.left) (is_among (Node y) n.right || guards_by (Node y) n.guard) e)

  rest_named : (y : ℕ) → (is_among (Node y) n.right || guards_by (Node y) n.guard) ≡ true
      → nodes_name (Node y) f.nodes ≡ true
  rest_named y e = named_at (Node y) f.nodes j n there
      (or_second (is_among (Node y) n.left) (is_among (Node y) n.right || guards_by (Node y) n.guard) e)

  module _ (marks : List Bool) where
    abbrev left_m : FlowNode
    left_m = record n { left = all_behind f.nodes marks j n.left; right = n.right }

    -- a node may be written with what stands behind its sources at the left
    pub left_written : Written f j n left_m
    left_written = record {
      fits = λ all a. record {
        form = form_same (all_behind f.nodes marks j n.left) n.right (form_of n.op) a.form;
        guard = a.guard;
        left = behind_fits marks n.left all a.left;
        right = a.right;
      };
      rises = λ rank order.
          let a = order.sources j n there in
          record { left = behind_rises marks n.left rank order a.left; right = a.right; guard = a.guard };
      load = λ e. (e, refl);
      store = λ e. (e, refl);
      silent = λ e. e;
      operands = λ t. record { left = λ q. ap (all_behind f.nodes marks j) (t.left q); right = t.right };
      guards = λ s. s;
      reads = λ r e. read r (or_cases (is_among (Read r) n.left)
          (is_among (Read r) n.right || guards_by (Read r) n.guard) e);
      names = λ y e. name y (or_cases (is_among (Node y) (all_behind f.nodes marks j n.left))
          (is_among (Node y) n.right || guards_by (Node y) n.guard) e);
      label = λ e. record { place = j; node = n; there = there; op = refl; imm = refl };
    }
      where
        read : (r : ℕ) → (is_among (Read r) n.left ≡ true)
            ⊎ ((is_among (Read r) n.right || guards_by (Read r) n.guard) ≡ true)
            → (is_among (Read r) (all_behind f.nodes marks j n.left)
            || (is_among (Read r) n.right || guards_by (Read r) n.guard)) ≡ true
        read r (inl d) = or_first (is_among (Read r) (all_behind f.nodes marks j n.left))
            (is_among (Read r) n.right || guards_by (Read r) n.guard) (among_read f.nodes marks j r n.left d)
        read r (inr d) = or_second (is_among (Read r) (all_behind f.nodes marks j n.left))
            (is_among (Read r) n.right || guards_by (Read r) n.guard) d

        name : (y : ℕ) → (is_among (Node y) (all_behind f.nodes marks j n.left) ≡ true)
            ⊎ ((is_among (Node y) n.right || guards_by (Node y) n.guard) ≡ true)
            → nodes_name (Node y) f.nodes ≡ true
        name y (inl d) = behind_names marks n.left y (left_named y) d
        name y (inr d) = rest_named y d

    -- and does the same
    pub left_works : Works f j n left_m
    left_works = sources_work_on f j n there (all_behind f.nodes marks j n.left) n.right
        (λ regs a h o. record {
          left = λ e. first_behind f.nodes (with_node f j left_m).nodes j
              (λ k c d s. set_there f.nodes j k left_m d ∙ s) regs a h o marks n.left;
          right = λ e. refl;
        })
        (λ regs a h o t. (
          subst (λ (z : ℕ). z ≤ 1) (sym (count_behind f.nodes (with_node f j left_m).nodes j
              (λ k c d s. set_there f.nodes j k left_m d ∙ s) regs a h o t.operands marks n.left))
              (all_at (AtMostOne regs h) f.nodes t.operands j n there).0,
          (all_at (AtMostOne regs h) f.nodes t.operands j n there).1,
        ))

    abbrev right_m : FlowNode
    right_m = record n { left = n.left; right = all_behind f.nodes marks j n.right }

    -- a node may be written with what stands behind its sources at the right
    pub right_written : Written f j n right_m
    right_written = record {
      fits = λ all a. record {
        form = form_same n.left (all_behind f.nodes marks j n.right) (form_of n.op) a.form;
        guard = a.guard;
        left = a.left;
        right = behind_fits marks n.right all a.right;
      };
      rises = λ rank order.
          let a = order.sources j n there in
          record { left = a.left; right = behind_rises marks n.right rank order a.right; guard = a.guard };
      load = λ e. (e, refl);
      store = λ e. (e, refl);
      silent = λ e. e;
      operands = λ t. record { left = t.left; right = λ q. ap (all_behind f.nodes marks j) (t.right q) };
      guards = λ s. s;
      reads = λ r e. read r (is_among (Read r) n.left) e;
      names = λ y e. name y (or_cases (is_among (Node y) n.left)
          (is_among (Node y) (all_behind f.nodes marks j n.right) || guards_by (Node y) n.guard) e);
      label = λ e. record { place = j; node = n; there = there; op = refl; imm = refl };
    }
      where
        inner : (r : ℕ) → (is_among (Read r) n.right ≡ true) ⊎ (guards_by (Read r) n.guard ≡ true)
            → (is_among (Read r) (all_behind f.nodes marks j n.right) || guards_by (Read r) n.guard) ≡ true
        inner r (inl d) = or_first (is_among (Read r) (all_behind f.nodes marks j n.right))
            (guards_by (Read r) n.guard) (among_read f.nodes marks j r n.right d)
        inner r (inr d) = or_second (is_among (Read r) (all_behind f.nodes marks j n.right))
            (guards_by (Read r) n.guard) d

        read : (r : ℕ) (b : Bool) → (b || (is_among (Read r) n.right || guards_by (Read r) n.guard)) ≡ true
            → (b || (is_among (Read r) (all_behind f.nodes marks j n.right) || guards_by (Read r) n.guard)) ≡ true
        read r true e = refl
        read r false e = inner r (or_cases (is_among (Read r) n.right) (guards_by (Read r) n.guard) e)

        right_named : (y : ℕ) → is_among (Node y) n.right ≡ true → nodes_name (Node y) f.nodes ≡ true
        right_named y d = rest_named y (or_first (is_among (Node y) n.right) (guards_by (Node y) n.guard) d)

        last : (y : ℕ) → (is_among (Node y) (all_behind f.nodes marks j n.right) ≡ true)
            ⊎ (guards_by (Node y) n.guard ≡ true) → nodes_name (Node y) f.nodes ≡ true
        last y (inl d) = behind_names marks n.right y (right_named y) d
        last y (inr d) = rest_named y (or_second (is_among (Node y) n.right) (guards_by (Node y) n.guard) d)

        name : (y : ℕ) → (is_among (Node y) n.left ≡ true)
            ⊎ ((is_among (Node y) (all_behind f.nodes marks j n.right) || guards_by (Node y) n.guard) ≡ true)
            → nodes_name (Node y) f.nodes ≡ true
        name y (inl d) = left_named y d
        name y (inr d) = last y (or_cases (is_among (Node y) (all_behind f.nodes marks j n.right))
            (guards_by (Node y) n.guard) d)

    -- and does the same
    pub right_works : Works f j n right_m
    right_works = sources_work_on f j n there n.left (all_behind f.nodes marks j n.right)
        (λ regs a h o. record {
          left = λ e. refl;
          right = λ e. first_behind f.nodes (with_node f j right_m).nodes j
              (λ k c d s. set_there f.nodes j k right_m d ∙ s) regs a h o marks n.right;
        })
        (λ regs a h o t. (
          (all_at (AtMostOne regs h) f.nodes t.operands j n there).0,
          subst (λ (z : ℕ). z ≤ 1) (sym (count_behind f.nodes (with_node f j right_m).nodes j
              (λ k c d s. set_there f.nodes j k right_m d ∙ s) regs a h o t.operands marks n.right))
              (all_at (AtMostOne regs h) f.nodes t.operands j n there).1,
        ))

-- WHATEVER THE LABELS BECOME

-- the rules still apply
pub left_behind_kept : (r : Immediates) (nodes : List FlowNode) (j : ℕ) (n m : FlowNode) → LeftBehind nodes j n m
    → LeftBehind (map (with_immediate r) nodes) j (with_immediate r n) (with_immediate r m)
left_behind_kept r nodes j n m c = record {
  marks = c.marks;
  is = ap (with_immediate r) c.is ∙ ap (λ (ss : List FlowSource). with_immediate r (with_left n ss))
      (sym (all_behind_new r nodes c.marks j n.left));
}

pub right_behind_kept : (r : Immediates) (nodes : List FlowNode) (j : ℕ) (n m : FlowNode) → RightBehind nodes j n m
    → RightBehind (map (with_immediate r) nodes) j (with_immediate r n) (with_immediate r m)
right_behind_kept r nodes j n m c = record {
  marks = c.marks;
  is = ap (with_immediate r) c.is ∙ ap (λ (ss : List FlowSource). with_immediate r (with_right n ss))
      (sym (all_behind_new r nodes c.marks j n.right));
}

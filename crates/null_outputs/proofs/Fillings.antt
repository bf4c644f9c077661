-- The nodes of writes and store numbers, for any cover.
use Rattle.std.proofs.Common.{◌≡◌, ℕ, suc, ◌+◌, ◌<◌, List, [], ◌∷◌, ◌++◌, length, get_or, drop}
use Rattle.std.proofs.Common.{refl, sym, ap, ap₂, ◌∙◌, arith, append_assoc, append-nil, length-append, cond, Bool}
use Rattle.std.proofs.Common.{true, false}
use Rattle.std.specs.Prelude.{None}
use Rattle.ir_forms.specs.declared.flow.FlowNode.{FlowNode}
use Rattle.ir_forms.specs.declared.flow.FlowWrite.{FlowWrite}
use Rattle.ir_forms.specs.declared.flow.FlowBlock.{FlowBlock}
use Rattle.null_outputs.specs.inside.Covers.{Sure, Cover, list_nodes, list_size}
use Rattle.null_outputs.specs.inside.Groups.{stores_of, number_open}
use Rattle.null_outputs.specs.inside.Listed.{write_part_by, write_size_by, filled_by, all_filled_by}
use Rattle.null_outputs.specs.inside.Listed.{number_part_by, number_size_by, numbers_by}
use Rattle.null_outputs.proofs.Spaces.{nodes_length, cond_length}
use Rattle.null_outputs.proofs.RegionLoops.{rest_of}

module _ (sure : Sure) (c : Cover) where
  -- the nodes for a write are as many as its size says
  pub write_by_length : (p j : ℕ) (w : FlowWrite) → length (write_part_by sure c p j w) ≡ write_size_by sure j w
  write_by_length p j w = go (sure None w.sources)
    where
      go : (t : Bool) → length (cond t [] (list_nodes c p w.sources)) ≡ cond t 0 (list_size w.sources)
      go true = refl
      go false = nodes_length c p w.sources

  -- one more write is filled
  pub filled_turn : (all found new : List FlowWrite) (p q k : ℕ) (w : FlowWrite) → k < length all → w ≡ get_or all k w
      → new ≡ found ++ filled_by sure c p w ∷ [] → q ≡ p + write_size_by sure 0 w
      → new ++ all_filled_by sure c q (drop (k + 1) all) ≡ found ++ all_filled_by sure c p (drop k all)
  filled_turn all found new p q k w l e en eq =
      let v : k + 1 ≡ suc k = omega arith in
      ap (λ (i : ℕ). new ++ all_filled_by sure c q (drop i all)) v
      ∙ ap₂ (λ (xs : List FlowWrite) (i : ℕ). xs ++ all_filled_by sure c i (drop (suc k) all)) en eq
      ∙ append_assoc found (filled_by sure c p w ∷ [])
      (all_filled_by sure c (p + write_size_by sure 0 w) (drop (suc k) all))
      ∙ ap (λ (xs : List FlowWrite). found ++ all_filled_by sure c p xs) (sym (rest_of all k w l e))

  module _ (b : FlowBlock) where
    number_by_length : (p k : ℕ) → length (number_part_by sure c b p k) ≡ number_size_by sure b k
    number_by_length p k = cond_length (number_open sure b k) _ _
        (let e = nodes_length c (suc p) (stores_of 0 b.nodes k) in omega (arith, e))

    -- one number, and then the others
    pub numbers_turn : (base : ℕ) (out mid new : List FlowNode) (p k m next less : ℕ) → next ≡ suc k → m ≡ suc less
        → p ≡ base + length out
        → mid ≡ out ++ number_part_by sure c b p k → new ≡ mid ++ numbers_by sure c b (base + length mid) next less
        → new ≡ out ++ numbers_by sure c b (base + length out) k m
    numbers_turn base out mid new p k m next less ek em ep e1 e2 =
        let e : mid ≡ out ++ number_part_by sure c b (base + length out) k =
        e1 ∙ ap (λ (q : ℕ). out ++ number_part_by sure c b q k) ep in
        let l : base + length mid ≡ base + length out + number_size_by sure b k =
        ap (λ (xs : List FlowNode). base + length xs) e
        ∙ (let x = length-append out (number_part_by sure c b (base + length out) k) in
        let y = number_by_length (base + length out) k in omega (arith, x, y)) in
        e2
        ∙ ap (λ (i : ℕ). mid ++ numbers_by sure c b (base + length mid) i less) ek
        ∙ ap₂ (λ (xs : List FlowNode) (q : ℕ). xs ++ numbers_by sure c b q (suc k) less) e l
        ∙ append_assoc out (number_part_by sure c b (base + length out) k)
        (numbers_by sure c b (base + length out + number_size_by sure b k) (suc k) less)
        ∙ ap (λ (j : ℕ). out ++ numbers_by sure c b (base + length out) k j) (sym em)

    -- none is left
    pub numbers_none : (base : ℕ) (out : List FlowNode) (k m : ℕ) → m ≡ 0
        → out ≡ out ++ numbers_by sure c b (base + length out) k m
    numbers_none base out k m e =
        sym (append-nil out) ∙ ap (λ (j : ℕ). out ++ numbers_by sure c b (base + length out) k j) (sym e)

-- What is done where a node goes that does no more than another: the same.
use Rattle.std.proofs.Common.{◌≡◌, ℕ, zero, suc, List, [], ◌∷◌, ◌++◌, ◌⊎◌, inl, inr, sym, subst}
use Rattle.std.specs.Prelude.{Some, slice_get, slice_set}
use Rattle.std.specs.List.{Contains}
use Rattle.std.proofs.lemmas.List.Elements.{Contains-append_left, Contains-append_right, Contains-append_cases}
use Rattle.std.proofs.lemmas.Option.{same_Some}
use Rattle.trips_isa.specs.inside.Acts.{Act}
use Rattle.trips_isa.specs.Rule.{Answer}
use Rattle.ir_forms.specs.declared.flow.FlowNode.{FlowNode}
use Rattle.ir_forms.specs.inside.FlowRuns.{fired}
use Rattle.hyper_narrow.specs.inside.NarrowedMeaning.{SameActs}
use Rattle.flow_fold.proofs.Turned.{acts_of}

-- what is in one of two lists is in what has more than each
in_both : (xs ys us vs : List Act) (a : Act) → (Contains xs a → Contains us a) → (Contains ys a → Contains vs a)
    → Contains (xs ++ ys) a → Contains (us ++ vs) a
in_both xs ys us vs a f g c = pick (Contains-append_cases xs ys a c)
  where
    pick : Contains xs a ⊎ Contains ys a → Contains (us ++ vs) a
    pick (inl p) = Contains-append_left us vs a (f p)
    pick (inr p) = Contains-append_right us vs a (g p)

-- what is in a list and others is in the list and what has more than the others, but for some
in_rest : (P : Type 0) (xs ys vs : List Act) (a : Act) → (Contains ys a → P ⊎ Contains vs a)
    → Contains (xs ++ ys) a → P ⊎ Contains (xs ++ vs) a
in_rest P xs ys vs a f c = pick (Contains-append_cases xs ys a c)
  where
    behind : P ⊎ Contains vs a → P ⊎ Contains (xs ++ vs) a
    behind (inl p) = inl p
    behind (inr p) = inr (Contains-append_right xs vs a p)

    pick : Contains xs a ⊎ Contains ys a → P ⊎ Contains (xs ++ vs) a
    pick (inl p) = inr (Contains-append_left xs vs a p)
    pick (inr p) = behind (f p)

module _ (regs : ℕ → ℕ) (h : ℕ → Answer) where
  -- what a node does is among what is done
  pub done_at : (ns : List FlowNode) (i : ℕ) (x : FlowNode) → slice_get ns i ≡ Some x → (a : Act)
      → Contains (acts_of regs h x) a → Contains (fired regs h ns) a
  done_at [] i x e a c = absurd (cc)
  done_at (y ∷ ns) zero x e a c =
      Contains-append_left (acts_of regs h y) (fired regs h ns) a
      (subst (λ (z : FlowNode). Contains (acts_of regs h z) a) (sym (same_Some y x e)) c)
  done_at (y ∷ ns) (suc i) x e a c =
      Contains-append_right (acts_of regs h y) (fired regs h ns) a (done_at ns i x e a c)

  module _ (n m : FlowNode) (idle : acts_of regs h m ≡ []) where
    -- what is done now was done
    was_done : (ns : List FlowNode) (j : ℕ) → slice_get ns j ≡ Some n → (a : Act)
        → Contains (fired regs h (slice_set ns j m)) a → Contains (fired regs h ns) a
    was_done [] j e a c = absurd (cc)
    was_done (y ∷ ns) zero e a c =
        Contains-append_right (acts_of regs h y) (fired regs h ns) a
        (subst (λ (l : List Act). Contains (l ++ fired regs h ns) a) idle c)
    was_done (y ∷ ns) (suc j) e a c =
        in_both (acts_of regs h y) (fired regs h (slice_set ns j m)) (acts_of regs h y) (fired regs h ns) a
        (λ p. p) (λ p. was_done ns j e a p) c

    -- what was done is done now, but for what the node did
    still_done : (ns : List FlowNode) (j : ℕ) → slice_get ns j ≡ Some n → (a : Act) → Contains (fired regs h ns) a
        → Contains (acts_of regs h n) a ⊎ Contains (fired regs h (slice_set ns j m)) a
    still_done [] j e a c = absurd (cc)
    still_done (y ∷ ns) zero e a c = pick (Contains-append_cases (acts_of regs h y) (fired regs h ns) a c)
      where
        pick : Contains (acts_of regs h y) a ⊎ Contains (fired regs h ns) a
            → Contains (acts_of regs h n) a ⊎ Contains (acts_of regs h m ++ fired regs h ns) a
        pick (inl p) = inl (subst (λ (z : FlowNode). Contains (acts_of regs h z) a) (same_Some y n e) p)
        pick (inr p) = inr (Contains-append_right (acts_of regs h m) (fired regs h ns) a p)
    still_done (y ∷ ns) (suc j) e a c =
        in_rest (Contains (acts_of regs h n) a) (acts_of regs h y) (fired regs h ns)
        (fired regs h (slice_set ns j m)) a (λ p. still_done ns j e a p) c

    -- so the same is done, where what the node did is done now
    pub acts_left : (ns : List FlowNode) (j : ℕ) → slice_get ns j ≡ Some n
        → ((a : Act) → Contains (acts_of regs h n) a → Contains (fired regs h (slice_set ns j m)) a)
        → SameActs (fired regs h (slice_set ns j m)) (fired regs h ns)
    acts_left ns j e done a = (λ c. was_done ns j e a c, λ c. pick (still_done ns j e a c))
      where
        pick : Contains (acts_of regs h n) a ⊎ Contains (fired regs h (slice_set ns j m)) a
            → Contains (fired regs h (slice_set ns j m)) a
        pick (inl p) = done a p
        pick (inr p) = p

-- What a table comes to stays where one node stands for another.
use Rattle.std.proofs.Common.{◌≡◌, ℕ, zero, suc, ◌+◌, List, [], ◌∷◌, ◌++◌, refl, sym, ap, ◌∙◌, subst}
use Rattle.std.proofs.Common.{arith}
use Rattle.std.specs.Prelude.{Some, Option, slice_get, slice_set}
use Rattle.std.proofs.Math.Path.{fun_ext}
use Rattle.std.proofs.lemmas.Option.{same_Some}
use Rattle.trips_isa.specs.declared.block.Token.{Token}
use Rattle.trips_isa.specs.declared.block.Inst.{Inst}
use Rattle.trips_isa.specs.declared.block.Stored.{Stored}
use Rattle.trips_isa.specs.inside.Acts.{Act}
use Rattle.trips_isa.specs.Forms.{form_of}
use Rattle.trips_isa.specs.Rule.{Answer}
use Rattle.trips_isa.specs.Tables.{or_else}
use Rattle.trips_isa.specs.Stores.{store_all, listed_below}
use Rattle.ir_forms.specs.declared.flow.FlowNode.{FlowNode}
use Rattle.ir_forms.specs.inside.FlowRuns.{stores, stored_all, exits, leaving_in, fired, tokens, numbered, stored_in}
use Rattle.flow_fold.proofs.Turned.{acts_of, SameStores, SameOutputs}

module _ (regs : ℕ → ℕ) (h : ℕ → Answer) (n m : FlowNode) where
  stores_at : SameStores regs h n m → (ns : List FlowNode) (j : ℕ) → slice_get ns j ≡ Some n → (k : ℕ)
      → stores regs h (slice_set ns j m) k ≡ stores regs h ns k
  stores_at d [] j e k = refl
  stores_at d (a ∷ ns) zero e k =
      ap (λ (s : Option Stored). or_else s (stores regs h ns k))
      (d k ∙ ap (λ (x : FlowNode). stored_in (form_of x.op) regs h x k) (sym (same_Some a n e)))
  stores_at d (a ∷ ns) (suc j) e k = ap (or_else (stored_in (form_of a.op) regs h a k)) (stores_at d ns j e k)

  -- the stores by number
  pub stores_kept : SameStores regs h n m → (ns : List FlowNode) (j : ℕ) → slice_get ns j ≡ Some n
      → stores regs h (slice_set ns j m) ≡ stores regs h ns
  stores_kept d ns j e = fun_ext (λ (k : ℕ). stores_at d ns j e k)

  -- the memory behind the block
  pub memory_kept : SameStores regs h n m → (ns : List FlowNode) (j : ℕ) → slice_get ns j ≡ Some n → (mem : List ℕ)
      → stored_all regs h (slice_set ns j m) mem ≡ stored_all regs h ns mem
  unfolding stored_all
  memory_kept d ns j e mem = ap (λ (s : ℕ → Option Stored). store_all mem (listed_below s 32)) (stores_kept d ns j e)

  -- what can fault
  pub fired_kept : acts_of regs h m ≡ acts_of regs h n → (ns : List FlowNode) (j : ℕ) → slice_get ns j ≡ Some n
      → fired regs h (slice_set ns j m) ≡ fired regs h ns
  fired_kept d [] j e = refl
  fired_kept d (a ∷ ns) zero e =
      ap (λ (l : List Act). l ++ fired regs h ns) (d ∙ ap (acts_of regs h) (sym (same_Some a n e)))
  fired_kept d (a ∷ ns) (suc j) e = ap (λ (l : List Act). acts_of regs h a ++ l) (fired_kept d ns j e)

module _ (h : ℕ → Answer) (n m : FlowNode) where
  -- the exits, where the first node has number i
  pub exits_kept : (ns : List FlowNode) (i j y : ℕ) → y ≡ i + j → SameOutputs h y n m → slice_get ns j ≡ Some n
      → exits h i (slice_set ns j m) ≡ exits h i ns
  exits_kept [] i j y q d e = refl
  exits_kept (a ∷ ns) i zero y q d e =
      let z : y ≡ i = omega (arith, q) in
      let w : SameOutputs h i n m = subst (λ (k : ℕ). SameOutputs h k n m) z d in
      ap (λ (l : List (Inst × Token)). l ++ exits h (suc i) ns)
      (w.leaves ∙ ap (λ (x : FlowNode). leaving_in (form_of x.op) x (h i)) (sym (same_Some a n e)))
  exits_kept (a ∷ ns) i (suc j) y q d e =
      ap (λ (l : List (Inst × Token)). leaving_in (form_of a.op) a (h i) ++ l)
      (exits_kept ns (suc i) j y (omega (arith, q)) d e)

  -- the tokens of a store number
  pub tokens_kept : (ns : List FlowNode) (i j y : ℕ) → y ≡ i + j → SameOutputs h y n m → slice_get ns j ≡ Some n
      → (k : ℕ) → tokens h i (slice_set ns j m) k ≡ tokens h i ns k
  tokens_kept [] i j y q d e k = refl
  tokens_kept (a ∷ ns) i zero y q d e k =
      let z : y ≡ i = omega (arith, q) in
      let w : SameOutputs h i n m = subst (λ (l : ℕ). SameOutputs h l n m) z d in
      ap (λ (l : ℕ). l + tokens h (suc i) ns k)
      (w.numbered k ∙ ap (λ (x : FlowNode). numbered (form_of x.op) x (h i) k) (sym (same_Some a n e)))
  tokens_kept (a ∷ ns) i (suc j) y q d e k =
      ap (λ (l : ℕ). numbered (form_of a.op) a (h i) k + l) (tokens_kept ns (suc i) j y (omega (arith, q)) d e k)

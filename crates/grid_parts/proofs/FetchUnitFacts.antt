-- The fetch unit by its parts.
use Rattle.std.proofs.Common.{◌≡◌, ◌≢◌, ℕ, zero, suc, ◌-◌, ◌<◌, Bool, true, false, cond, not, Option, Some, None}
use Rattle.std.proofs.Common.{List, is_none, refl, sym, ap, ◌∙◌, arith}
use Rattle.std.proofs.lemmas.Bool.{eq-eqb, ne_eqb, false≢true}
use Rattle.trips_isa.specs.declared.block.Inst.{Inst}
use Rattle.trips_isa.specs.declared.block.Block.{Block}
use Rattle.block_predict.specs.Predicts.{Holding, branch, predicted, after, after_by}
use Rattle.grid_cycle_spec.specs.Grid.{Fetching}
use Rattle.grid_cycle_spec.specs.Acting.{still}
use Rattle.grid_parts.specs.Fetches.{under_way, fetch_by}
use Rattle.grid_parts.specs.inside.Fetches.{due, nearer}

-- the fetch unit is idle where it holds no fetch
pub idle_is : (b : Bool) (l k h : ℕ) (c : Bool) → not b ≡ is_none (fetch_by b l k h c)
idle_is true l k h c = refl
idle_is false l k h c = refl

-- a fetch with no cycle left is due
pub due_now : (b : Bool) (l k h : ℕ) (c : Bool) → b ≡ true → l ≡ 0 → Some k ≡ due (fetch_by b l k h c)
due_now false l k h c e z = absurd (false≢true e)
due_now true l k h c e z = let o : Option ℕ = None in ap (λ b. cond b (Some k) o) (sym (eq-eqb l 0 z))

-- a fetch with cycles left is not due
pub due_later : (b : Bool) (l k h : ℕ) (c : Bool) → l ≢ 0 → None ≡ due (fetch_by b l k h c)
due_later false l k h c n = refl
due_later true l k h c n = let o : Option ℕ = None in ap (λ b. cond b (Some k) o) (sym (ne_eqb l 0 n))

-- an idle fetch unit has no fetch that is due
pub never_due : (b : Bool) (l k h : ℕ) (c : Bool) → b ≡ false → None ≡ due (fetch_by b l k h c)
never_due false l k h c e = refl
never_due true l k h c e = absurd (false≢true (sym e))

abbrev history_in : Option Fetching → ℕ
history_in None = 0
history_in (Some f) = f.history

abbrev careful_in : Option Fetching → Bool
careful_in None = false
careful_in (Some f) = f.careful

-- the history that is held is that of the fetch
pub history_is : (b : Bool) (l k h : ℕ) (c : Bool) (f : Fetching) → fetch_by b l k h c ≡ Some f → h ≡ f.history
history_is false l k h c f e = absurd (cc)
history_is true l k h c f e = ap history_in e

-- whether the fetch is careful is held with it
pub careful_is : (b : Bool) (l k h : ℕ) (c : Bool) (f : Fetching) → fetch_by b l k h c ≡ Some f → c ≡ f.careful
careful_is false l k h c f e = absurd (cc)
careful_is true l k h c f e = ap careful_in e

-- a fetch goes on by a cycle
pub one_less : (b : Bool) (l k h : ℕ) (c : Bool) → 0 < l → fetch_by b (l - 1) k h c ≡ nearer (fetch_by b l k h c)
one_less false l k h c some = refl
one_less true zero k h c some = absurd (omega arith)
one_less true (suc l) k h c some = let e : suc l - 1 ≡ l = omega arith in ap (λ z. under_way z k h c) e

-- a fetch with no cycle left comes no nearer
pub none_less : (b : Bool) (l k h : ℕ) (c : Bool) → l ≡ 0 → fetch_by b l k h c ≡ nearer (fetch_by b l k h c)
none_less false l k h c z = refl
none_less true zero k h c z = refl
none_less true (suc l) k h c z = absurd (omega arith)

-- what is known of the next block
pub stops : (b : Bool) (l k h : ℕ) (c : Bool) (n : ℕ) → n ≢ k → None ≡ still (Some n) (fetch_by b l k h c)
stops false l k h c n ne = refl
stops true l k h c n ne = let o : Option Fetching = None in
    ap (λ b. cond b (under_way l k h c) o) (sym (ne_eqb n k ne))

-- a fetch goes on where the block that is known to be next is its own
pub stays : (b : Bool) (l k h : ℕ) (c : Bool) (n : ℕ) → n ≡ k
    → fetch_by b l k h c ≡ still (Some n) (fetch_by b l k h c)
stays false l k h c n e = refl
stays true l k h c n e = let o : Option Fetching = None in
    ap (λ b. cond b (under_way l k h c) o) (sym (eq-eqb n k e))

-- a fetch goes on where the next block is not known
pub stays_unknown : (b : Bool) (l k h : ℕ) (c : Bool) → fetch_by b l k h c ≡ still None (fetch_by b l k h c)
stays_unknown false l k h c = refl
stays_unknown true l k h c = refl

-- where nothing is predicted the predictor stays
pub after_none : (blocks : List Block) (p : Holding) (k : ℕ) → predicted blocks p k ≡ None → after blocks p k ≡ p
after_none blocks p k e = ap (λ o. after_by (branch blocks p k) o blocks p k) e ∙ go (branch blocks p k)
  where
    go : (i : Option Inst) → after_by i None blocks p k ≡ p
    go None = refl
    go (Some i) = refl

-- The tokens of writes and the stores in order of number, as lists that are filled one by one.
use Rattle.std.proofs.Common.{◌≡◌, ℕ, suc, ◌+◌, ◌<◌, ◌≤◌, List, [], ◌∷◌, ◌++◌, length, take, get_or}
use Rattle.std.proofs.Common.{Option, Some, None, refl, ap, ap₂, ◌∙◌, arith}
use Rattle.trips_isa.specs.declared.block.Token.{Token}
use Rattle.trips_isa.specs.declared.block.Token.TheVariants.{Null}
use Rattle.trips_isa.specs.declared.block.Stored.{Stored}
use Rattle.trips_isa.specs.Rule.{Answer}
use Rattle.trips_isa.specs.Stores.{listed, listed_below}
use Rattle.trips_isa.specs.Outcomes.{Effects, or_null, writes_from, all_stores}
use Rattle.trips_isa.specs.declared.block.Block.{Block}
use Rattle.commit_flush_spec.specs.Frames.{Exit, at}
use Rattle.commit_flush_spec.specs.Ends.{effects_with, outputs}
use Rattle.frame_state.specs.inside.Held.{Held, sealed}
use Rattle.frame_state.specs.inside.Effects.{exit_or_first}

-- the tokens of the writes from write w on
pub written : (f : ℕ → Answer) (rs : List ℕ) (ts : List Token) (w : ℕ) → length rs ≤ length ts
    → ((k : ℕ) → k < length rs → get_or ts k Null ≡ or_null (f (384 + (w + k))))
    → take (length rs) ts ≡ writes_from f w rs
written f [] ts w l h = refl
written f (r ∷ rs) [] w l h = absurd (omega arith)
written f (r ∷ rs) (t ∷ ts) w l h =
    let here : w + 0 ≡ w = omega arith in
    ap₂ (λ x xs. x ∷ xs) (h 0 (omega arith) ∙ ap (λ k. or_null (f (384 + k))) here)
    (written f rs ts (suc w) (omega arith) (λ k m.
    let next : w + suc k ≡ suc w + k = omega arith in
    h (suc k) (omega arith) ∙ ap (λ j. or_null (f (384 + j))) next))

-- one number more
pub listed_more : (f : ℕ → Option Stored) (n m : ℕ) → m ≡ n + 1
    → listed_below f m ≡ listed_below f n ++ listed (f n)
listed_more f n m e = let next : m ≡ suc n = omega (arith, e) in ap (listed_below f) next

-- all numbers
pub all_listed : (f : ℕ → Option Stored) (n : ℕ) → n ≡ 32 → listed_below f n ≡ all_stores f
unfolding all_stores
all_listed f n e = ap (listed_below f) e

-- effects, from their parts
abbrev pub made : List Token → List Stored → Exit → Effects
made ws ss e = record { writes = ws; stores = ss; exit = e.exit; system = e.system; successor = e.successor }

-- what a sealed frame hands to its commit
pub outputs_are : (b : Block) (h : Held) (ws : List Token) (ss : List Stored) (e : Exit)
    → ws ≡ writes_from (at h.spots) 0 b.writes.items → ss ≡ all_stores (at h.stores) → e ≡ exit_or_first h.exit
    → made ws ss e ≡ outputs (sealed b h)
outputs_are b h ws ss e ew es ee =
    ap (λ x. made x ss e) ew
    ∙ ap (λ x. made (writes_from (at h.spots) 0 b.writes.items) x e) es
    ∙ ap (made (writes_from (at h.spots) 0 b.writes.items) (all_stores (at h.stores))) ee
    ∙ by_exit h.exit
  where
    by_exit : (x : Option Exit)
        → made (writes_from (at h.spots) 0 b.writes.items) (all_stores (at h.stores)) (exit_or_first x)
        ≡ effects_with (sealed b h) x
    by_exit None = refl
    by_exit (Some x) = refl

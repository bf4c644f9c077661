-- Writes that hang on one node among the first of a block.
use Rattle.std.proofs.Common.{◌≡◌, ℕ, zero, suc, ◌<◌, ◌≤◌, Bool, true, false, ◌||◌, List, [], ◌∷◌, length, cond}
use Rattle.std.proofs.Common.{refl, sym, ap, subst, arith}
use Rattle.std.specs.Prelude.{Some, slice_get}
use Rattle.ir_forms.specs.declared.flow.FlowSource.{FlowSource}
use Rattle.ir_forms.specs.declared.flow.FlowSource.TheVariants.{Node}
use Rattle.ir_forms.specs.declared.flow.FlowWrite.{FlowWrite}
use Rattle.predication.specs.declared.work.Entry.{Entry}
use Rattle.predication.specs.inside.Environments.{Env, member}
use Rattle.predication.specs.inside.Converted.{writes_below, reads_in, writes_read}
use Rattle.null_outputs.specs.inside.Straight.{IsFed}
use Rattle.c_compile_blocks.specs.inside.Prices.{write_price}
use Rattle.c_compile_blocks.proofs.Pieces.{IsSet}

-- none of two
pub or_none : (a b : Bool) → a ≡ false → b ≡ false → (a || b) ≡ false
or_none a b p q = rw (p, q) refl

-- something holds of each of some writes
abbrev pub EachWrite : (FlowWrite → Type 0) → List FlowWrite → Type 0
EachWrite Q [] = Unit {0}
EachWrite Q (w ∷ ws) = Q w × EachWrite Q ws

-- what holds of the write of each register of a list holds of all writes
pub writes_each : (Q : FlowWrite → Type 0) (env : Env) (rs : List ℕ) (n : ℕ)
    → ((r : ℕ) → member r rs ≡ true → Q (record { register = r; sources = (env r).given }))
    → EachWrite Q (writes_below env rs n)
writes_each Q env rs zero f = tt
writes_each Q env rs (suc n) f = go (member n rs) refl (writes_each Q env rs n f)
  where
    go : (c : Bool) → member n rs ≡ c → EachWrite Q (writes_below env rs n)
        → EachWrite Q (cond c (record { register = n; sources = (env n).given } ∷ writes_below env rs n)
        (writes_below env rs n))
    go true e h = (f n e, h)
    go false e h = h

-- a write from one node among the first
abbrev pub FromFront : ℕ → FlowWrite → Type 0
FromFront k w = (i : ℕ) × (i < k) × (w.sources ≡ Node i ∷ [])

-- the write of a register that stands for a node among the first
pub from_set : (k r : ℕ) (e : Entry) → IsSet k e → FromFront k (record { register = r; sources = e.given })
from_set k r e (i, l, q) = (i, l, ap (λ (x : Entry). x.given) q)

-- writes from single nodes cost no `mov`
pub fronts_price : (k : ℕ) (ws : List FlowWrite) → EachWrite (FromFront k) ws → write_price ws ≤ length ws
fronts_price k [] a = omega arith
fronts_price k (w ∷ ws) ((i, l, q), rest) =
    let h = fronts_price k ws rest in
    let e = ap (λ (ss : List FlowSource). length ss) q in
    omega (arith, h, e)

-- they read no register
pub fronts_read : (k q : ℕ) (ws : List FlowWrite) → EachWrite (FromFront k) ws → writes_read ws q ≡ false
fronts_read k q [] a = refl
fronts_read k q (w ∷ ws) ((i, l, e), rest) =
    or_none (reads_in w.sources q) (writes_read ws q) (ap (λ (ss : List FlowSource). reads_in ss q) e)
    (fronts_read k q ws rest)

-- each of them is fed by a node among the first
pub front_at : (k : ℕ) (ws : List FlowWrite) (j : ℕ) (w : FlowWrite) → EachWrite (FromFront k) ws
    → slice_get ws j ≡ Some w → IsFed k w.sources
front_at k [] j w a e = absurd (cc)
front_at k (v ∷ ws) zero w ((i, l, q), rest) e =
    let same : v ≡ w = cc in
    subst (λ (x : FlowWrite). IsFed k x.sources) same (subst (IsFed k) (sym q) l)
front_at k (v ∷ ws) (suc j) w ((i, l, q), rest) e = front_at k ws j w rest e

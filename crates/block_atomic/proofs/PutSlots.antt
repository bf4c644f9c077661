-- What is given at a place where one slot or read more has given its token.
use Rattle.std.proofs.Common.{◌≡◌, ◌≢◌, ℕ, zero, suc, ◌+◌, ◌<◌, Bool, true}
use Rattle.std.proofs.Common.{false, cond, List, [], ◌∷◌, length}
use Rattle.std.proofs.Common.{get_or, Option, Some, None, slice_index, refl, sym, ap, ap₂, ◌∙◌}
use Rattle.std.proofs.Common.{arith, get_or-set_other, get_or-set_same}
use Rattle.std.proofs.Math.ListN.{set}
use Rattle.trips_isa.specs.declared.block.Token.TheVariants.{Word}
use Rattle.trips_isa.specs.declared.block.Inst.{Inst}
use Rattle.trips_isa.specs.declared.block.ReadSlot.{ReadSlot}
use Rattle.trips_isa.specs.Rule.{Answer}
use Rattle.trips_isa.specs.Tables.{or_else}
use Rattle.block_atomic.specs.inside.Slots.{slots_give, is_read_to, from_reads}

-- one slot more ----------------------------------------------------------------------------------

slots_alike : {A : Type 0} → (h h' : ℕ → Option Inst → Option A) (is : List (Option Inst)) (j : ℕ)
    → ((m n : ℕ) → n ≡ j + m → m < length is → h n (get_or is m None) ≡ h' n (get_or is m None))
    → slots_give h j is ≡ slots_give h' j is
slots_alike h h' [] j e = refl
slots_alike h h' (i ∷ is) j e = ap₂ or_else (e 0 j (omega arith) (omega arith))
    (slots_alike h h' is (suc j) (λ m n w l. e (suc m) n (omega arith) (omega arith)))

-- slot s, which gave nothing, gives v, and it is as if v stood first or last
pub slots_put : {A : Type 0} → (h h' : ℕ → Option Inst → Option A) (is : List (Option Inst))
    (j s k : ℕ) (v : Option A) → s ≡ j + k → k < length is
    → ((m n : ℕ) → n ≡ j + m → m < length is → n ≢ s
    → h' n (get_or is m None) ≡ h n (get_or is m None))
    → ((n : ℕ) → n ≡ s → h' n (get_or is k None) ≡ v)
    → ((n : ℕ) → n ≡ s → h n (get_or is k None) ≡ None)
    → or_else v (slots_give h j is) ≡ or_else (slots_give h j is) v
    → slots_give h' j is ≡ or_else (slots_give h j is) v
slots_put {A} h h' [] j s k v e l other here none c = absurd (omega arith)
slots_put {A} h h' (i ∷ is) j s zero v e l other here none c =
    ap₂ or_else (here j (omega arith)) (slots_alike h' h is (suc j)
    (λ m n w b. let apart : n ≢ s = omega arith in other (suc m) n (omega arith) (omega arith) apart))
    ∙ go (h j i) (none j (omega arith)) c
  where
    rest : Option A
    rest = slots_give h (suc j) is

    go : (x : Option A) → x ≡ None → or_else v (or_else x rest) ≡ or_else (or_else x rest) v
        → or_else v rest ≡ or_else (or_else x rest) v
    go None n c = c
    go (Some a) n c = absurd (cc)
slots_put {A} h h' (i ∷ is) j s (suc k) v e l other here none c =
    let apart : j ≢ s = omega arith in
    ap (λ x. or_else x (slots_give h' (suc j) is)) (other 0 j (omega arith) (omega arith) apart)
    ∙ go (h j i) (slots_put h h' is (suc j) s k v (omega arith) (omega arith)
    (λ m n w b ne. other (suc m) n (omega arith) (omega arith) ne) here none) c
  where
    rest : Option A
    rest = slots_give h (suc j) is

    rest' : Option A
    rest' = slots_give h' (suc j) is

    go : (x : Option A) → (or_else v rest ≡ or_else rest v → rest' ≡ or_else rest v)
        → or_else v (or_else x rest) ≡ or_else (or_else x rest) v
        → or_else x rest' ≡ or_else (or_else x rest) v
    go None h c = h c
    go (Some a) h c = refl

-- the same behind the reads
pub reads_put : (regs : List ℕ) (rs : List ReadSlot) (q : ℕ) (a a' v : Answer)
    → (or_else v a ≡ or_else a v → a' ≡ or_else a v)
    → or_else v (from_reads regs rs q a) ≡ or_else (from_reads regs rs q a) v
    → from_reads regs rs q a' ≡ or_else (from_reads regs rs q a) v
reads_put regs [] q a a' v f c = f c
reads_put regs (r ∷ rs) q a a' v f c = go (is_read_to r q) (reads_put regs rs q a a' v f) c
  where
    word : Answer
    word = Some (Word (slice_index regs r.register))

    old : Answer
    old = from_reads regs rs q a

    new : Answer
    new = from_reads regs rs q a'

    go : (b : Bool) → (or_else v old ≡ or_else old v → new ≡ or_else old v)
        → or_else v (cond b word old) ≡ or_else (cond b word old) v
        → cond b word new ≡ or_else (cond b word old) v
    go true h c = refl
    go false h c = h c

-- what is put first and last alike
pub either_side : {A : Type 0} → (old new v x : Option A) → old ≡ x → new ≡ or_else old v
    → new ≡ or_else v old → or_else v x ≡ or_else x v
either_side old new v x e behind before =
    ap (or_else v) (sym e) ∙ sym before ∙ behind ∙ ap (λ u. or_else u v) e

-- to set one slot changes no other
pub same_slot : {A : Type 0} (old new : List A) (s j : ℕ) (v d : A) → new ≡ set old s v → j ≢ s
    → get_or new j d ≡ get_or old j d
same_slot old new s j v d e ne = rw e (rw get_or-set_other refl)

-- a slot that is set has what it was set to
pub own_slot : {A : Type 0} (old new : List A) (s : ℕ) (v d : A) → s < length old → new ≡ set old s v
    → get_or new s d ≡ v
own_slot old new s v d l e = rw e (rw get_or-set_same refl)

-- A table that was judged is closed.
use Rattle.std.proofs.Common.{◌≡◌, ℕ, zero, suc, true, false, List, [], ◌∷◌, length, Option, Some, None, refl}
use Rattle.std.proofs.Common.{sym, ◌∙◌}
use Rattle.std.proofs.Common.{arith}
use Rattle.std.specs.Prelude.{slice_get}
use Rattle.ir_forms.specs.inside.HyperCode.{Block}
use Rattle.ir_forms.specs.inside.HyperRuns.{jump, block_or}
use Rattle.hyper_trim.specs.inside.Sets.{Within}
use Rattle.hyper_trim.specs.inside.Alive.{alive_or, alive_at, trim_items, IsClosed, AllWithin, HasBlocks}
use Rattle.hyper_trim.proofs.Members.{seen_zero, in_itself}

module _ (T : List ℕ) (ret : ℕ) where
  judged : (U : List ℕ) (R : List Block) (l first : ℕ) → length U ≡ length R → HasBlocks T ret U R
      → Within (trim_items T ret (jump 0)).live first
      → Within (trim_items T ret (block_or (slice_get R l))).live (alive_or first (slice_get U l))
  judged [] [] l first e h w = w
  judged [] (b ∷ R) l first e h w = absurd (let bad : 0 ≡ suc (length R) = e in omega (arith, bad))
  judged (a ∷ U) [] l first e h w = absurd (let bad : suc (length U) ≡ 0 = e in omega (arith, bad))
  judged (a ∷ U) (b ∷ R) zero first e h w = h 0 a b refl refl
  judged (a ∷ U) (b ∷ R) (suc l) first e h w =
      judged U R l first (let d : suc (length U) ≡ suc (length R) = e in omega (arith, d))
      (λ k x y p q. h (suc k) x y p q) w

each_block : (T : List ℕ) (ret : ℕ) (P : List Block) → length T ≡ length P → HasBlocks T ret T P
    → (l : ℕ) → Within (trim_items T ret (block_or (slice_get P l))).live (alive_at T l)
each_block [] ret [] e h l = in_itself 0
each_block [] ret (b ∷ P) e h l = absurd (let bad : 0 ≡ suc (length P) = e in omega (arith, bad))
each_block (a ∷ T) ret P e h l = judged (a ∷ T) ret (a ∷ T) P l a e h (in_itself a)

each_return : (T : List ℕ) (ret : ℕ) → AllWithin T ret → (l : ℕ) → Within (alive_at T l) ret
each_return [] ret h l = λ r e. absurd (let bad : false ≡ true = sym (seen_zero r) ∙ e in cc)
each_return (a ∷ T) ret h l = go (slice_get (a ∷ T) l) refl
  where
    go : (o : Option ℕ) → slice_get (a ∷ T) l ≡ o → Within (alive_or a o) ret
    go None e = h 0 a refl
    go (Some x) e = h l x e

-- a table that the looks at each entry and each block find closed is closed
pub closed : (T : List ℕ) (ret : ℕ) (P : List Block) → length T ≡ length P → AllWithin T ret → HasBlocks T ret T P
    → IsClosed T ret P
closed T ret P e all has = record { blocks = each_block T ret P e has; returns = each_return T ret all }

-- Marks of slots of four programs, of which one has changed.
use Rattle.std.proofs.Common.{◌≡◌, ℕ, zero, suc, ◌==◌, ◌<◌, Bool, true, false, cond, List, [], ◌∷◌, Some, length, set}
use Rattle.std.proofs.Common.{slice_get}
use Rattle.std.proofs.Common.{slice_index_or, refl, sym, ◌∙◌, subst, arith}
use Rattle.std.proofs.lemmas.Bool.{eqb-true}
use Rattle.std.proofs.lemmas.Option.{same_Some, slice_get_within}
use Rattle.grid_parts.specs.inside.Marked.{SlotsMarked}
use Rattle.smt_mode.specs.Machines.{Program, blocks_of}
use Rattle.smt_mode.specs.inside.Marked.{WordsMark}
use Rattle.smt_mode.proofs.OneProgram.{get_set}

-- the marks of a program
abbrev Marks : Program → ℕ → Type 0
Marks x word = SlotsMarked (blocks_of x) x.window.budget x.window.window word

-- a program whose marks stay right leaves those of all right
pub marks_set : (programs : List Program) (p : ℕ) (x y : Program) → p < length programs
    → slice_get programs p ≡ Some x
    → (marks : List ℕ) → (Marks x (slice_index_or marks p 0) → Marks y (slice_index_or marks p 0))
    → WordsMark programs marks → WordsMark (set programs p y) marks
marks_set programs p x y l is marks keep m q z e = by (q == p) refl (sym (get_set programs p y l q) ∙ e)
  where
    by : (b : Bool) → (q == p) ≡ b → cond b (Some y) (slice_get programs q) ≡ Some z
        → Marks z (slice_index_or marks q 0)
    by true i f = subst (λ w. Marks w (slice_index_or marks q 0)) (same_Some y z f)
        (subst (λ r. Marks y (slice_index_or marks r 0)) (sym (eqb-true q p i)) (keep (m p x is)))
    by false i f = m q z f

-- the marks of all, where those of each are right
pub marks_four : (programs : List Program) → length programs ≡ 4 → (a b c d : ℕ)
    → ((x : Program) → slice_get programs 0 ≡ Some x → Marks x a)
    → ((x : Program) → slice_get programs 1 ≡ Some x → Marks x b)
    → ((x : Program) → slice_get programs 2 ≡ Some x → Marks x c)
    → ((x : Program) → slice_get programs 3 ≡ Some x → Marks x d) → WordsMark programs (a ∷ b ∷ c ∷ d ∷ [])
marks_four programs four a b c d e f g h zero x i = e x i
marks_four programs four a b c d e f g h (suc zero) x i = f x i
marks_four programs four a b c d e f g h (suc (suc zero)) x i = g x i
marks_four programs four a b c d e f g h (suc (suc (suc zero))) x i = h x i
marks_four programs four a b c d e f g h (suc (suc (suc (suc p)))) x i =
    let l = slice_get_within programs (suc (suc (suc (suc p)))) x i in absurd (omega (arith, l, four))

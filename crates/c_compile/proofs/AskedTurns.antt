-- Lists of turns that are asked for.
use Rattle.std.proofs.Common.{◌≡◌, ℕ, zero, suc, ◌+◌, ◌-◌, ◌<◌, ◌≤◌, Bool, true, false, cond, nat_lt, List, [], ◌∷◌}
use Rattle.std.proofs.Common.{length, refl, sym, ◌∙◌, ◌++◌, subst, arith}
use Rattle.std.proofs.lemmas.List.Elements.{All-cons}
use Rattle.std.specs.List.{All}
use Rattle.loop_unroll.specs.inside.Unrolled.{more_turns, asked}
use Rattle.loop_unroll.specs.inside.Laws.{AsksAtMost}

more_low : (t w : ℕ) → t ≤ w → more_turns t ≤ w - 1
more_low t w l = go (nat_lt t 8) refl
  where
    go : (c : Bool) → nat_lt t 8 ≡ c → cond c (t - 1) 7 ≤ w - 1
    go true e = omega (arith, l)
    go false e = let h : 8 ≤ t = grind arith in omega (arith, l, h)

-- where each entry is at most w, no block has more than w - 1 turns besides the first
pub asks_at_most : (times : List ℕ) (w : ℕ) → All (λ t. t ≤ w) times → AsksAtMost (w - 1) times
asks_at_most [] w h k = omega arith
asks_at_most (t ∷ ts) w h zero = more_low t w (h 0 0 (omega arith))
asks_at_most (t ∷ ts) w h (suc k) = asks_at_most ts w (λ i d l. h (suc i) d (omega (arith, l))) k

-- an entry more
pub entry_more : (w x : ℕ) (xs ys : List ℕ) → All (λ t. t ≤ w) xs → x ≤ w → ys ≡ xs ++ x ∷ [] → All (λ t. t ≤ w) ys
entry_more w x xs ys h l e =
    subst (λ (zs : List ℕ). All (λ t. t ≤ w) zs) (sym e) (put xs h)
  where
    put : (xs : List ℕ) → All (λ t. t ≤ w) xs → All (λ t. t ≤ w) (xs ++ x ∷ [])
    put [] h = All-cons (λ t. t ≤ w) x [] l h
    put (z ∷ zs) h =
        All-cons (λ t. t ≤ w) z (zs ++ x ∷ []) (h 0 0 (omega arith))
        (put zs (λ i d low. h (suc i) d (omega (arith, low))))

-- no entry
pub none_asked : (w : ℕ) (xs : List ℕ) → xs ≡ [] → All (λ t. t ≤ w) xs
none_asked w xs e = subst (λ (zs : List ℕ). All (λ t. t ≤ w) zs) (sym e) (λ i d low. absurd (omega (arith, low)))

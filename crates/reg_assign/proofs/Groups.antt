-- A list's groups make it up, and are small.
use Rattle.std.proofs.Common.{◌≡◌, ℕ, zero, suc, ◌+◌, ◌*◌, ◌/◌, ◌≤◌, List, [], ◌∷◌, ◌++◌, map}
use Rattle.std.proofs.Common.{length, take, drop, refl, sym, ap, ◌∙◌, arith}
use Rattle.std.proofs.Common.{append_assoc}
use Rattle.std.proofs.Common.{append-nil, take-add, take_all, length-take}
use Rattle.std.specs.List.{concat}
use Rattle.reg_assign.specs.inside.Live.{first_groups, groups_of, AreSmall, IsCut, AreCut}

concat_behind : (gs : List (List ℕ)) (g : List ℕ) → concat (gs ++ g ∷ []) ≡ concat gs ++ g
concat_behind [] g = append-nil g
concat_behind (h ∷ gs) g =
    ap (λ l. h ++ l) (concat_behind gs g) ∙ sym (append_assoc h (concat gs) g)

small_behind : (gs : List (List ℕ)) (g : List ℕ) → AreSmall gs → length g ≤ 16
    → AreSmall (gs ++ g ∷ [])
small_behind [] g h s = (s, tt)
small_behind (k ∷ gs) g h s = (h.0, small_behind gs g h.1 s)

-- the first n groups are the first 16 n variables
first_make : (n : ℕ) (vs : List ℕ) → concat (first_groups n vs) ≡ take (n * 16) vs
first_make zero vs = refl
first_make (suc n) vs =
    concat_behind (first_groups n vs) (take 16 (drop (n * 16) vs))
    ∙ ap (λ l. l ++ take 16 (drop (n * 16) vs)) (first_make n vs)
    ∙ sym (take-add (n * 16) 16 vs)
    ∙ ap (λ k. take k vs) (let e : n * 16 + 16 ≡ suc n * 16 = omega arith in e)

first_are_small : (n : ℕ) (vs : List ℕ) → AreSmall (first_groups n vs)
first_are_small zero vs = tt
first_are_small (suc n) vs =
    small_behind (first_groups n vs) (take 16 (drop (n * 16) vs)) (first_are_small n vs)
    (let h = length-take 16 (drop (n * 16) vs) in omega arith)

cut : (vs : List ℕ) → IsCut vs (groups_of vs)
cut vs = (
  first_make ((length vs + 15) / 16) vs
      ∙ take_all ((length vs + 15) / 16 * 16) vs (omega arith),
  first_are_small ((length vs + 15) / 16) vs,
)

-- each list is made up of its groups, and these are small
pub all_cut : (lists : List (List ℕ)) → AreCut lists (map groups_of lists)
all_cut [] = tt
all_cut (vs ∷ lists) = (cut vs, all_cut lists)

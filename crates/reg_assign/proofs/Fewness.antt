-- A call has at most five groups.
use Rattle.std.proofs.Common.{◌≡◌, ℕ, zero, suc, ◌+◌, ◌*◌, ◌/◌, ◌≤◌, Bool, true, false, cond, List}
use Rattle.std.proofs.Common.{[], ◌∷◌, ◌++◌, map, length, take, drop, refl, arith, length-append}
use Rattle.ir_forms.specs.inside.FlatCode.{Program}
use Rattle.reg_assign.specs.inside.Live.{VarSet, members_below, members, kept_over_all, live_lists}
use Rattle.reg_assign.specs.inside.Live.{first_groups, groups_of, AreFew}

members_few : (n : ℕ) (a : VarSet) → length (members_below n a) ≤ n
members_few zero a = omega arith
members_few (suc n) a = go (a n) (members_few n a)
  where
    go : (b : Bool) → length (members_below n a) ≤ n
        → length (members_below n a ++ cond b (n ∷ []) []) ≤ suc n
    go true h = let e = length-append (members_below n a) (n ∷ []) in omega (arith, h, e)
    go false h = let e = length-append (members_below n a) [] in omega (arith, h, e)

groups_count : (n : ℕ) (vs : List ℕ) → length (first_groups n vs) ≡ n
groups_count zero vs = refl
groups_count (suc n) vs =
    let h = groups_count n vs in
    let e = length-append (first_groups n vs) (take 16 (drop (n * 16) vs) ∷ []) in
    omega (arith, h, e)

groups_few : (a : VarSet) → length (groups_of (members a)) ≤ 5
unfolding members
groups_few a =
    let l = length (members_below 80 a) in
    let h = members_few 80 a in
    let e = groups_count ((l + 15) / 16) (members_below 80 a) in omega (arith, h, e)

all_few : (sets : List VarSet) → AreFew (map groups_of (map members sets))
all_few [] = tt
all_few (a ∷ sets) = (groups_few a, all_few sets)

-- the live variables of each call make at most five groups
pub live_few : (P : Program) → AreFew (map groups_of (live_lists P))
live_few P = all_few (kept_over_all P.functions)

-- There is a list for each call, and it has scalars and temporaries alone.
use Rattle.std.proofs.Common.{◌≡◌, ℕ, zero, suc, ◌≤◌, Bool, true, false, cond, List, [], ◌∷◌}
use Rattle.std.proofs.Common.{◌++◌, map, length, refl, ap, ◌∙◌, arith, lt-ltb}
use Rattle.ir_forms.specs.inside.FlatCode.{Function, Program}
use Rattle.reg_assign.specs.inside.Live.{VarSet, empty, kept_over, kept_over_all, members_below, members}
use Rattle.reg_assign.specs.inside.Live.{live_lists}
use Rattle.reg_assign.specs.inside.Keeps.{calls_of_all, AreLasting, EachLasting, FitsLists}
use Rattle.reg_assign.proofs.Inclusion.{length_append, one_each}

lasting_append : (xs ys : List ℕ) → AreLasting xs → AreLasting ys → AreLasting (xs ++ ys)
lasting_append [] ys h g = g
lasting_append (x ∷ xs) ys h g = (h.0, lasting_append xs ys h.1 g)

below_last : (n : ℕ) (a : VarSet) → n ≤ 80 → AreLasting (members_below n a)
below_last zero a h = tt
below_last (suc n) a h =
    lasting_append (members_below n a) (cond (a n) (n ∷ []) []) (below_last n a (omega arith))
    (go (a n))
  where
    go : (b : Bool) → AreLasting (cond b (n ∷ []) [])
    go true = (lt-ltb n 80 (omega arith), tt)
    go false = tt

members_last : (a : VarSet) → AreLasting (members a)
unfolding members
members_last a = below_last 80 a (omega arith)

each_lasts : (sets : List VarSet) → EachLasting (map members sets)
each_lasts [] = tt
each_lasts (a ∷ sets) = (members_last a, each_lasts sets)

as_many : (sets : List VarSet) → length (map members sets) ≡ length sets
as_many [] = refl
as_many (a ∷ sets) = ap suc (as_many sets)

as_many_as_calls : (fs : List Function) → length (kept_over_all fs) ≡ calls_of_all fs
as_many_as_calls [] = refl
as_many_as_calls (f ∷ fs) =
    let h = length_append (kept_over f) (kept_over_all fs) in
    let hf = one_each f.body empty empty empty in let hs = as_many_as_calls fs in omega arith

-- there is a list for each call of the program, and it has scalars and temporaries alone
pub lists_fit : (P : Program) → FitsLists P (live_lists P)
lists_fit P = record {
  each = as_many (kept_over_all P.functions) ∙ as_many_as_calls P.functions;
  lasting = each_lasts (kept_over_all P.functions);
}

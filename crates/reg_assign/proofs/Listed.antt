-- The lists of a program hold what is live after its calls.
use Rattle.std.proofs.Common.{◌≡◌, ℕ, zero, suc, ◌<◌, Bool, true, false, cond, ◌&&◌}
use Rattle.std.proofs.Common.{List, [], ◌∷◌, ◌++◌, map, Option, Some, None, refl, sym, ap, ◌∙◌}
use Rattle.std.proofs.Common.{subst}
use Rattle.std.proofs.Common.{nat_eq, slice_get, arith, inl, inr, eq-eqb, ltb-true}
use Rattle.std.proofs.Common.{eqb-true}
use Rattle.std.proofs.lemmas.Bool.{cases_eq}
use Rattle.ir_forms.specs.declared.flat.Arg.{Arg}
use Rattle.ir_forms.specs.declared.flat.Arg.TheVariants.{Const, Var}
use Rattle.ir_forms.specs.declared.flat.FlatStmt.{FlatStmt, roll-FlatStmt}
use Rattle.ir_forms.specs.declared.flat.FlatStmt.{ind-FlatStmt}
use Rattle.ir_forms.specs.declared.flat.FlatStmt.{fold-roll-FlatStmt, map-FlatStmt}
use Rattle.ir_forms.specs.declared.flat.FlatStmt.TheOpen.{FlatStmt-F}
use Rattle.ir_forms.specs.declared.flat.FlatFunc.{FlatFunc}
use Rattle.ir_forms.specs.declared.flat.FlatProgram.{FlatProgram}
use Rattle.ir_forms.specs.inside.FlatCode.{Step, Let, Frame, Load, Save, Call, Put, Get, If, Loop, Break}
use Rattle.ir_forms.specs.inside.FlatCode.{Continue, Return, Halt, Code, Nop, ◌▹◌, Function}
use Rattle.ir_forms.specs.inside.FlatViews.{stays, code_of_steps, step_by, step_of, code_of, function_of}
use Rattle.ir_forms.specs.inside.FlatViews.{program_of}
use Rattle.reg_assign.specs.inside.Live.{VarSet, empty, one, both, reads, reads_any, reads_if}
use Rattle.reg_assign.specs.inside.Live.{result}
use Rattle.reg_assign.specs.inside.Live.{uses_in, uses, head, live, kept_in, kept, kept_over}
use Rattle.reg_assign.specs.inside.Live.{kept_over_all, members_below, members, live_lists}
use Rattle.reg_assign.specs.inside.Keeps.{is_among, kept_by, KeepsTameRuns}
use Rattle.reg_assign.proofs.Inclusion.{Within, or_left, or_right, or_cases, both_in, minus_in}
use Rattle.reg_assign.proofs.Inclusion.{empty_in}
use Rattle.reg_assign.proofs.Inclusion.{live_within}
use Rattle.reg_assign.proofs.Inclusion.{Covers}
use Rattle.reg_assign.proofs.Alive.{Lasting_in, Lasting, runs_alike}

-- SETS HAVE SCALARS AND TEMPORARIES ALONE

and_one : (a b : Bool) → a && b ≡ true → a ≡ true
and_one true b e = refl
and_one false b e = e

and_other : (a b : Bool) → a && b ≡ true → b ≡ true
and_other true b e = e
and_other false b e = (let bad : false ≡ true = e in cc)

one_stays : (k : ℕ) → Within (one k) stays
one_stays k v e =
    ap stays (eqb-true v k (and_other (stays k) (nat_eq v k) e)) ∙ and_one (stays k) (nat_eq v k) e

reads_stay : (x : Arg) → Within (reads x) stays
reads_stay (Const w) = empty_in stays
reads_stay (Var k) = one_stays k

all_stay : (xs : List Arg) → Within (reads_any xs) stays
all_stay [] = empty_in stays
all_stay (x ∷ xs) = both_in (reads x) (reads_any xs) stays (reads_stay x) (all_stay xs)

read_stays : (x : Option Arg) → Within (reads_if x) stays
read_stays None = empty_in stays
read_stays (Some x) = reads_stay x

mutual
  uses_in_stay : (s : Step) → Within (uses_in s) stays
  uses_in_stay (Let to op x y) = both_in (reads x) (reads y) stays (reads_stay x) (reads_stay y)
  uses_in_stay (Frame to at) = empty_in stays
  uses_in_stay (Load to op x) = reads_stay x
  uses_in_stay (Save op x y) = both_in (reads x) (reads y) stays (reads_stay x) (reads_stay y)
  uses_in_stay (Call f xs to old) = all_stay xs
  uses_in_stay (Put x) = reads_stay x
  uses_in_stay (Get to) = empty_in stays
  uses_in_stay (If x c d) =
      both_in (reads x) (both (uses c) (uses d)) stays (reads_stay x)
      (both_in (uses c) (uses d) stays (uses_stay c) (uses_stay d))
  uses_in_stay (Loop c d) = both_in (uses c) (uses d) stays (uses_stay c) (uses_stay d)
  uses_in_stay Break = empty_in stays
  uses_in_stay Continue = empty_in stays
  uses_in_stay (Return x) = read_stays x
  uses_in_stay (Halt x) = reads_stay x

  uses_stay : (c : Code) → Within (uses c) stays
  uses_stay Nop = empty_in stays
  uses_stay (s ▹ c) = both_in (uses_in s) (uses c) stays (uses_in_stay s) (uses_stay c)

abbrev AllStay : List VarSet → Type 0
AllStay [] = Unit {0}
AllStay (a ∷ more) = Within a stays × AllStay more

stay_append : (xs ys : List VarSet) → AllStay xs → AllStay ys → AllStay (xs ++ ys)
stay_append [] ys h g = g
stay_append (a ∷ xs) ys h g = (h.0, stay_append xs ys h.1 g)

mutual
  kept_in_stay : (s : Step) (n b k : VarSet) → Within n stays → Within b stays → Within k stays
      → AllStay (kept_in s n b k)
  kept_in_stay (Let to op x y) n b k hn hb hk = tt
  kept_in_stay (Frame to at) n b k hn hb hk = tt
  kept_in_stay (Load to op x) n b k hn hb hk = tt
  kept_in_stay (Save op x y) n b k hn hb hk = tt
  kept_in_stay (Call f xs to old) n b k hn hb hk = (minus_in n (result to) stays hn, tt)
  kept_in_stay (Put x) n b k hn hb hk = tt
  kept_in_stay (Get to) n b k hn hb hk = tt
  kept_in_stay (If x c d) n b k hn hb hk =
      stay_append (kept c n b k) (kept d n b k) (kept_stay c n b k hn hb hk)
      (kept_stay d n b k hn hb hk)
  kept_in_stay (Loop c d) n b k hn hb hk =
      let t = head c d n in
      let ht = both_in n (both (uses c) (uses d)) stays hn
      (both_in (uses c) (uses d) stays (uses_stay c) (uses_stay d)) in
      stay_append (kept c t n t) (kept d t empty empty) (kept_stay c t n t ht hn ht)
      (kept_stay d t empty empty ht (empty_in stays) (empty_in stays))
  kept_in_stay Break n b k hn hb hk = tt
  kept_in_stay Continue n b k hn hb hk = tt
  kept_in_stay (Return x) n b k hn hb hk = tt
  kept_in_stay (Halt x) n b k hn hb hk = tt

  kept_stay : (c : Code) (n b k : VarSet) → Within n stays → Within b stays → Within k stays
      → AllStay (kept c n b k)
  kept_stay Nop n b k hn hb hk = tt
  kept_stay (s ▹ c) n b k hn hb hk =
      stay_append (kept_in s (live c n b k) b k) (kept c n b k)
      (kept_in_stay s (live c n b k) b k
      (live_within c n b k stays hn hb hk (uses_stay c)) hb hk)
      (kept_stay c n b k hn hb hk)

over_all_stay : (fs : List Function) → AllStay (kept_over_all fs)
over_all_stay [] = tt
over_all_stay (f ∷ fs) =
    let none = empty_in stays in
    stay_append (kept_over f) (kept_over_all fs)
    (kept_stay f.body empty empty empty none none none) (over_all_stay fs)

-- LISTS

among_front : (xs ys : List ℕ) (v : ℕ) → is_among xs v ≡ true → is_among (xs ++ ys) v ≡ true
among_front [] ys v e = (let bad : false ≡ true = e in cc)
among_front (x ∷ xs) ys v e =
    or_cases (nat_eq v x) (is_among xs v) e (or_left (nat_eq v x) (is_among (xs ++ ys) v))
    (λ q. or_right (nat_eq v x) (is_among (xs ++ ys) v) (among_front xs ys v q))

among_back : (xs ys : List ℕ) (v : ℕ) → is_among ys v ≡ true → is_among (xs ++ ys) v ≡ true
among_back [] ys v e = e
among_back (x ∷ xs) ys v e = or_right (nat_eq v x) (is_among (xs ++ ys) v) (among_back xs ys v e)

-- a member of the set is one of its list
listed : (n : ℕ) (a : VarSet) (v : ℕ) → v < n → a v ≡ true → is_among (members_below n a) v ≡ true
listed zero a v lt e = absurd (omega arith)
listed (suc n) a v lt e = elim (cases_eq v n) [
  | inl same ↦ among_back (members_below n a) (cond (a n) (n ∷ []) []) v
      (subst (λ c. is_among (cond c (n ∷ []) []) v ≡ true) (sym (sym (ap a same) ∙ e))
      (or_left (nat_eq v n) false (eq-eqb v n same)))
  | inr other ↦ among_front (members_below n a) (cond (a n) (n ∷ []) []) v
      (listed n a v (omega arith) e)
]

members_hold : (a : VarSet) → Within a stays → Within a (is_among (members a))
unfolding members
members_hold a h v e = listed 80 a v (ltb-true v 80 (h v e)) e

covers_later : (keep next : ℕ → VarSet) (k : ℕ) (sets : List VarSet)
    → ((j : ℕ) → Within (next j) (keep (suc j))) → Covers next k sets → Covers keep (suc k) sets
covers_later keep next k [] h c = tt
covers_later keep next k (a ∷ more) h c =
    ((λ v e. h k v (c.0 v e)), covers_later keep next (suc k) more h c.1)

lists_cover : (sets : List VarSet) → AllStay sets → Covers (kept_by (map members sets)) 0 sets
lists_cover [] h = tt
lists_cover (a ∷ more) h = (
  members_hold a h.0,
  covers_later (kept_by (members a ∷ map members more)) (kept_by (map members more)) 0 more
      (λ j v e. e) (lists_cover more h.1),
)

-- DECLARED PROGRAMS KEEP SCALARS AND TEMPORARIES

abbrev Good : FlatStmt → Type 0
Good s = Lasting_in (step_of s)

abbrev Known : Type 0
Known = (s : FlatStmt) × Good s

good_list : (ps : List Known) → Lasting (code_of_steps (map step_of (map (λ p. p.0) ps)))
good_list [] = tt
good_list (p ∷ ps) = (p.1, good_list ps)

layer : (y : FlatStmt-F Known)
    → Lasting_in (step_by (map-FlatStmt FlatStmt Step step_of
    (map-FlatStmt Known FlatStmt (λ p. p.0) y)))
layer (FlatStmt-F.Let to op a b) = tt
layer (FlatStmt-F.Frame to at) = tt
layer (FlatStmt-F.Load to op a) = tt
layer (FlatStmt-F.Save op a v) = tt
layer (FlatStmt-F.Call f args to) = λ v e. e
layer (FlatStmt-F.Put v) = tt
layer (FlatStmt-F.Get to) = tt
layer (FlatStmt-F.If t a b) = (good_list a, good_list b)
layer (FlatStmt-F.Loop a b) = (good_list a, good_list b)
layer FlatStmt-F.Break = tt
layer FlatStmt-F.Continue = tt
layer (FlatStmt-F.Return v) = tt
layer (FlatStmt-F.Halt v) = tt

stmt_good : (s : FlatStmt) → Good s
unfolding step_of
stmt_good =
    ind-FlatStmt Good (λ x y e. subst (λ (x : FlatStmt-F FlatStmt). Good (roll-FlatStmt x)) e
    (subst Lasting_in (sym (fold-roll-FlatStmt Step step_by _)) (layer y)))

code_good : (ss : List FlatStmt) → Lasting (code_of ss)
code_good [] = tt
code_good (s ∷ ss) = (stmt_good s, code_good ss)

functions_good : (fs : List FlatFunc) (n : ℕ) (f : Function)
    → slice_get (map function_of fs) n ≡ Some f → Lasting f.body
functions_good [] n f e = absurd (let bad : None ≡ Some f = e in cc)
functions_good (g ∷ fs) zero f e =
    subst (λ (o : Option Function). LastingIf o) e (code_good g.body)
  where
    LastingIf : Option Function → Type 0
    LastingIf None = Unit {0}
    LastingIf (Some f) = Lasting f.body
functions_good (g ∷ fs) (suc n) f e = functions_good fs n f e

-- keeping what is live after each call changes nothing
pub lists_keep_meaning : (p : FlatProgram) → KeepsTameRuns (program_of p) (live_lists (program_of p))
lists_keep_meaning p =
    runs_alike (kept_by (live_lists (program_of p))) (program_of p)
    (lists_cover (kept_over_all (map function_of p.functions))
    (over_all_stay (map function_of p.functions)))
    (functions_good p.functions)

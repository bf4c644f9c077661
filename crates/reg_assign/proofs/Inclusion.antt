-- Sets of variables: one within another, and what is live within what is read.
use Rattle.std.proofs.Common.{◌≡◌, ℕ, suc, ◌+◌, Bool, true, false, not, ◌&&◌, ◌||◌}
use Rattle.std.proofs.Common.{List, [], ◌∷◌, ◌++◌, length, refl}
use Rattle.std.proofs.Common.{subst, arith}
use Rattle.ir_forms.specs.inside.FlatCode.{Step, Let, Frame, Load, Save, Call, Put, Get, If, Loop, Break}
use Rattle.ir_forms.specs.inside.FlatCode.{Continue, Return, Halt, Code, Nop, ◌▹◌}
use Rattle.reg_assign.specs.inside.Live.{VarSet, empty, one, both, minus, reads, reads_any}
use Rattle.reg_assign.specs.inside.Live.{result}
use Rattle.reg_assign.specs.inside.Live.{uses_in, uses, head, live_in, live, kept_in, kept}
use Rattle.reg_assign.specs.inside.Keeps.{calls_in, calls}

-- each variable of the first set is in the second
abbrev pub Within : VarSet → VarSet → Type 0
Within a b = (v : ℕ) → a v ≡ true → b v ≡ true

-- of two tests one holds where the first does
pub or_left : (a b : Bool) → a ≡ true → a || b ≡ true
or_left true b e = refl
or_left false b e = (let bad : false ≡ true = e in cc)

-- of two tests one holds where the second does
pub or_right : (a b : Bool) → b ≡ true → a || b ≡ true
or_right true b e = refl
or_right false b e = e

-- where one of two tests holds, what follows from either does
pub or_cases : {P : Type 0} (a b : Bool) → a || b ≡ true → (a ≡ true → P) → (b ≡ true → P) → P
or_cases true b e f g = f refl
or_cases false b e f g = g e

and_left : (a b : Bool) → a && b ≡ true → a ≡ true
and_left true b e = refl
and_left false b e = e

-- the first of two sets is within both together
pub left_in : (a b : VarSet) → Within a (both a b)
left_in a b v e = or_left (a v) (b v) e

-- the second of two sets is within both together
pub right_in : (a b : VarSet) → Within b (both a b)
right_in a b v e = or_right (a v) (b v) e

-- a set within one that is within a third is within the third
pub then_in : (a b c : VarSet) → Within a b → Within b c → Within a c
then_in a b c f g v e = g v (f v e)

-- two sets within a third are so together
pub both_in : (a b c : VarSet) → Within a c → Within b c → Within (both a b) c
both_in a b c f g v e = or_cases (a v) (b v) e (f v) (g v)

-- a set within another is so with less in it
pub minus_in : (a b c : VarSet) → Within a c → Within (minus a b) c
minus_in a b c f v e = f v (and_left (a v) (not (b v)) e)

-- the empty set is within each
pub empty_in : (a : VarSet) → Within empty a
empty_in a v e = (let bad : false ≡ true = e in cc)

-- a set is within itself
pub within_itself : (a : VarSet) → Within a a
within_itself a v e = e

-- the parts of a union that lies within a set
pub of_left : (a b c : VarSet) → Within (both a b) c → Within a c
of_left a b c f = then_in a (both a b) c (left_in a b) f

-- where two sets together are within a third, the second is
pub of_right : (a b c : VarSet) → Within (both a b) c → Within b c
of_right a b c f = then_in b (both a b) c (right_in a b) f

-- what is live before code is live behind it, or read in it
mutual
  pub live_in_within : (s : Step) (n b k t : VarSet) → Within n t → Within b t → Within k t
      → Within (uses_in s) t → Within (live_in s n b k) t
  live_in_within (Let to op x y) n b k t hn hb hk u =
      both_in (both (reads x) (reads y)) (minus n (one to)) t u (minus_in n (one to) t hn)
  live_in_within (Frame to at) n b k t hn hb hk u = minus_in n (one to) t hn
  live_in_within (Load to op x) n b k t hn hb hk u =
      both_in (reads x) (minus n (one to)) t u (minus_in n (one to) t hn)
  live_in_within (Save op x y) n b k t hn hb hk u = both_in (both (reads x) (reads y)) n t u hn
  live_in_within (Call f xs to old) n b k t hn hb hk u =
      both_in (reads_any xs) (minus n (result to)) t u (minus_in n (result to) t hn)
  live_in_within (Put x) n b k t hn hb hk u = both_in (reads x) n t u hn
  live_in_within (Get to) n b k t hn hb hk u = minus_in n (one to) t hn
  live_in_within (If x c d) n b k t hn hb hk u =
      let cd = of_right (reads x) (both (uses c) (uses d)) t u in
      both_in (reads x) (both (live c n b k) (live d n b k)) t
      (of_left (reads x) (both (uses c) (uses d)) t u)
      (both_in (live c n b k) (live d n b k) t
      (live_within c n b k t hn hb hk (of_left (uses c) (uses d) t cd))
      (live_within d n b k t hn hb hk (of_right (uses c) (uses d) t cd)))
  live_in_within (Loop c d) n b k t hn hb hk u = both_in n (both (uses c) (uses d)) t hn u
  live_in_within Break n b k t hn hb hk u = hb
  live_in_within Continue n b k t hn hb hk u = hk
  live_in_within (Return x) n b k t hn hb hk u = u
  live_in_within (Halt x) n b k t hn hb hk u = u

  -- what is live before code is within each set that has what it reads and what is live where it leads
  pub live_within : (c : Code) (n b k t : VarSet) → Within n t → Within b t → Within k t
      → Within (uses c) t → Within (live c n b k) t
  live_within Nop n b k t hn hb hk u = hn
  live_within (s ▹ c) n b k t hn hb hk u =
      live_in_within s (live c n b k) b k t
      (live_within c n b k t hn hb hk (of_right (uses_in s) (uses c) t u)) hb hk
      (of_left (uses_in s) (uses c) t u)

-- LISTS OF SETS

-- what the calls from number k on keep has these sets in it
abbrev pub Covers : (ℕ → VarSet) → ℕ → List VarSet → Type 0
Covers keep k [] = Unit {0}
Covers keep k (a ∷ more) = Within a (keep k) × Covers keep (suc k) more

-- where sets are covered one by one, the first ones are
pub covers_front : (keep : ℕ → VarSet) (k : ℕ) (xs ys : List VarSet) → Covers keep k (xs ++ ys)
    → Covers keep k xs
covers_front keep k [] ys h = tt
covers_front keep k (a ∷ xs) ys h = (h.0, covers_front keep (suc k) xs ys h.1)

-- where sets are covered one by one, the later ones are, by their numbers
pub covers_back : (keep : ℕ → VarSet) (k : ℕ) (xs ys : List VarSet) (n : ℕ) → length xs ≡ n
    → Covers keep k (xs ++ ys) → Covers keep (k + n) ys
covers_back keep k [] ys n e h = subst (λ j. Covers keep j ys) (omega arith) h
covers_back keep k (a ∷ xs) ys n e h =
    subst (λ j. Covers keep j ys) (omega arith)
    (covers_back keep (suc k) xs ys (length xs) refl h.1)

-- sets behind others are as many as both together
pub length_append : (xs ys : List VarSet) → length (xs ++ ys) ≡ length xs + length ys
length_append [] ys = omega arith
length_append (a ∷ xs) ys = (let h = length_append xs ys in omega arith)

-- there is one set for each call
mutual
  -- a step has one set for each of its calls
  pub one_each_in : (s : Step) (n b k : VarSet) → length (kept_in s n b k) ≡ calls_in s
  one_each_in (Let to op x y) n b k = refl
  one_each_in (Frame to at) n b k = refl
  one_each_in (Load to op x) n b k = refl
  one_each_in (Save op x y) n b k = refl
  one_each_in (Call f xs to old) n b k = refl
  one_each_in (Put x) n b k = refl
  one_each_in (Get to) n b k = refl
  one_each_in (If x c d) n b k =
      let h = length_append (kept c n b k) (kept d n b k) in
      let hc = one_each c n b k in let hd = one_each d n b k in omega arith
  one_each_in (Loop c d) n b k =
      let t = head c d n in
      let h = length_append (kept c t n t) (kept d t empty empty) in
      let hc = one_each c t n t in let hd = one_each d t empty empty in omega arith
  one_each_in Break n b k = refl
  one_each_in Continue n b k = refl
  one_each_in (Return x) n b k = refl
  one_each_in (Halt x) n b k = refl

  -- code has one set for each of its calls
  pub one_each : (c : Code) (n b k : VarSet) → length (kept c n b k) ≡ calls c
  one_each Nop n b k = refl
  one_each (s ▹ c) n b k =
      let h = length_append (kept_in s (live c n b k) b k) (kept c n b k) in
      let hs = one_each_in s (live c n b k) b k in let hc = one_each c n b k in omega arith

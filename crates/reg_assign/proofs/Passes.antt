-- The two passes give what is live, and the lists of the calls.
use Rattle.std.proofs.Common.{◌≡◌, ℕ, Bool, true}
use Rattle.std.proofs.Common.{false, List, [], ◌∷◌, ◌++◌, map, reverse}
use Rattle.std.proofs.Common.{Some, None, bit_or, refl, sym, ap, ap₂, ◌∙◌}
use Rattle.std.proofs.Common.{append_assoc}
use Rattle.std.proofs.Common.{append-nil}
use Rattle.std.proofs.lemmas.List.{reverse-append, reverse-reverse}
use Rattle.ir_forms.specs.declared.flat.Arg.{Arg}
use Rattle.ir_forms.specs.inside.FlatCode.{Step, Let, Frame, Load, Save, Call, Put, Get, If, Loop, Break}
use Rattle.ir_forms.specs.inside.FlatCode.{Continue, Return, Halt, Code, Nop, ◌▹◌, Function}
use Rattle.reg_assign.specs.declared.reading.Reading.{Reading}
use Rattle.reg_assign.specs.declared.walking.Walk.{Walk}
use Rattle.reg_assign.specs.inside.Live.{VarSet, empty, one, both, minus, reads, reads_any, reads_if}
use Rattle.reg_assign.specs.inside.Live.{result}
use Rattle.reg_assign.specs.inside.Live.{uses_in, uses, head, live_in, live, kept_in, kept, kept_over}
use Rattle.reg_assign.specs.inside.Live.{kept_over_all, members}
use Rattle.reg_assign.specs.inside.Pass.{seen, bit, without, read_by, set_by, adding}
use Rattle.reg_assign.specs.inside.Pass.{opened, reading_in, reading, last_of}
use Rattle.reg_assign.specs.inside.Pass.{front_of, living, at_head, read_if, walk_in, walk, body_lists}
use Rattle.reg_assign.specs.inside.Pass.{lists_backward}
use Rattle.reg_assign.proofs.Seen.{seen_zero, seen_bit, seen_read, seen_read_if, seen_set}
use Rattle.reg_assign.proofs.Seen.{seen_with, seen_less}
use Rattle.reg_assign.proofs.Seen.{seen_args, both_assoc, both_comm, both_none, both_turned}

-- WHAT LOOPS READ

-- what each loop reads, behind the loops in it
abbrev mutual
  sets_in : Step → List VarSet
  sets_in (If x p q) = sets p ++ sets q
  sets_in (Loop p q) = sets p ++ (sets q ++ both (uses p) (uses q) ∷ [])
  sets_in _ = []

  sets : Code → List VarSet
  sets Nop = []
  sets (s ▹ rest) = sets_in s ++ sets rest

record Read (r : Reading) (u : VarSet) (ls : List VarSet) (q : Reading) : Type 0 where
  pub read : seen q.read ≡ both (seen r.read) u
  pub loops : map seen q.loops ≡ map seen r.loops ++ ls

read_then : (r q p : Reading) (u v : VarSet) (ls ks : List VarSet) → Read r u ls q → Read q v ks p
    → Read r (both u v) (ls ++ ks) p
read_then r q p u v ls ks h g = record {
  read = g.read ∙ ap (λ a. both a v) h.read ∙ both_assoc (seen r.read) u v;
  loops = g.loops ∙ ap (λ l. l ++ ks) h.loops ∙ append_assoc (map seen r.loops) ls ks;
}

nothing_read : (r : Reading) → Read r empty [] r
nothing_read r = record {
  read = sym (both_none (seen r.read));
  loops = sym (append-nil (map seen r.loops));
}

one_read : (r : Reading) (x : Arg) → Read r (reads x) [] (adding r (read_by x))
one_read r x = record {
  read = seen_with r.read (read_by x) (seen r.read) (reads x) refl (seen_read x);
  loops = sym (append-nil (map seen r.loops));
}

map_behind : (xs : List ℕ) (x : ℕ) → map seen (xs ++ x ∷ []) ≡ map seen xs ++ seen x ∷ []
map_behind [] x = refl
map_behind (y ∷ xs) x = ap (λ l. seen y ∷ l) (map_behind xs x)

mutual
  reading_is_in : (s : Step) (r : Reading) → Read r (uses_in s) (sets_in s) (reading_in s r)
  reading_is_in (Let to op x y) r =
      read_then r (adding r (read_by x)) _ (reads x) (reads y) [] [] (one_read r x)
      (one_read (adding r (read_by x)) y)
  reading_is_in (Frame to at) r = nothing_read r
  reading_is_in (Load to op x) r = one_read r x
  reading_is_in (Save op x y) r =
      read_then r (adding r (read_by x)) _ (reads x) (reads y) [] [] (one_read r x)
      (one_read (adding r (read_by x)) y)
  reading_is_in (Call f xs to old) r =
      record { read = seen_args r.read xs; loops = sym (append-nil (map seen r.loops)) }
  reading_is_in (Put x) r = one_read r x
  reading_is_in (Get to) r = nothing_read r
  reading_is_in (If x p q) r =
      let a = adding r (read_by x) in
      read_then r a _ (reads x) (both (uses p) (uses q)) [] (sets p ++ sets q) (one_read r x)
      (read_then a (reading p a) _ (uses p) (uses q) (sets p) (sets q) (reading_is p a)
      (reading_is q (reading p a)))
  reading_is_in (Loop p q) r =
      let o = opened r in
      let i = reading q (reading p o) in
      let all = both (uses p) (uses q) in
      let h = read_then o (reading p o) i (uses p) (uses q) (sets p) (sets q) (reading_is p o)
      (reading_is q (reading p o)) in
      let e : seen i.read ≡ all = h.read ∙ ap (λ a. both a all) seen_zero in
      record {
        read = seen_with r.read i.read (seen r.read) all refl e;
        loops = map_behind i.loops i.read ∙ ap₂ (λ l x. l ++ x ∷ []) h.loops e
            ∙ append_assoc (map seen r.loops) (sets p ++ sets q) (all ∷ [])
            ∙ ap (λ l. map seen r.loops ++ l) (append_assoc (sets p) (sets q) (all ∷ []));
      }
  reading_is_in Break r = nothing_read r
  reading_is_in Continue r = nothing_read r
  reading_is_in (Return None) r = nothing_read r
  reading_is_in (Return (Some x)) r = one_read r x
  reading_is_in (Halt x) r = one_read r x

  reading_is : (c : Code) (r : Reading) → Read r (uses c) (sets c) (reading c r)
  reading_is Nop r = nothing_read r
  reading_is (s ▹ c) r =
      read_then r (reading_in s r) _ (uses_in s) (uses c) (sets_in s) (sets c) (reading_is_in s r)
      (reading_is c (reading_in s r))

-- WHAT IS LIVE

record Walked (w : Walk) (l : VarSet) (rest ks : List VarSet) (q : Walk) : Type 0 where
  pub live : seen q.live ≡ l
  pub loops : map seen q.loops ≡ rest
  pub lists : q.lists ≡ w.lists ++ reverse (map members ks)

map_append : (xs ys : List VarSet) → map members (xs ++ ys) ≡ map members xs ++ map members ys
map_append [] ys = refl
map_append (x ∷ xs) ys = ap (λ l. members x ∷ l) (map_append xs ys)

backward : (xs ys : List VarSet) → reverse (map members (xs ++ ys))
    ≡ reverse (map members ys) ++ reverse (map members xs)
backward xs ys = ap reverse (map_append xs ys) ∙ reverse-append (map members xs) (map members ys)

-- lists behind lists
lists_then : (w v q : List (List ℕ)) (ks js : List VarSet) → v ≡ w ++ reverse (map members ks)
    → q ≡ v ++ reverse (map members js) → q ≡ w ++ reverse (map members (js ++ ks))
lists_then w v q ks js e h =
    h ∙ ap (λ l. l ++ reverse (map members js)) e
    ∙ append_assoc w (reverse (map members ks)) (reverse (map members js))
    ∙ ap (λ l. w ++ l) (sym (backward js ks))

plain : (w : Walk) (set : ℕ) (l : VarSet) (rest : List VarSet) → seen set ≡ l
    → map seen w.loops ≡ rest ++ [] → Walked w l rest [] (living w set)
plain w set l rest e h =
    record { live = e; loops = h ∙ append-nil rest; lists = sym (append-nil w.lists) }

tail : List VarSet → List VarSet
tail [] = []
tail (x ∷ xs) = xs

first : List VarSet → VarSet
first [] = empty
first (x ∷ xs) = x

is_some : List VarSet → Bool
is_some [] = false
is_some (x ∷ xs) = true

some_behind : (ys : List VarSet) (y : VarSet) → is_some (ys ++ y ∷ []) ≡ true
unfolding is_some
some_behind [] y = refl
some_behind (z ∷ ys) y = refl

-- the last note is that of the last loop
ends : (xs : List ℕ) (ys : List VarSet) (y : VarSet) → map seen xs ≡ ys ++ y ∷ []
    → (seen (last_of xs) ≡ y) × (map seen (front_of xs) ≡ ys)
unfolding tail first is_some
ends [] ys y e = absurd (let bad : false ≡ true = ap is_some e ∙ some_behind ys y in cc)
ends (x ∷ []) [] y e = (ap first e, refl)
ends (x ∷ []) (z ∷ ys) y e =
    absurd (let bad : false ≡ true = ap (λ l. is_some (tail l)) e ∙ some_behind ys y in cc)
ends (x ∷ x' ∷ xs) [] y e = absurd (let bad : true ≡ false = ap (λ l. is_some (tail l)) e in cc)
ends (x ∷ x' ∷ xs) (z ∷ ys) y e =
    let h = ends (x' ∷ xs) ys y (ap tail e) in (h.0, ap₂ (λ a l. a ∷ l) (ap first e) h.1)

mutual
  walked_in : (s : Step) (b k : ℕ) (w : Walk) (n bs ks : VarSet) → seen w.live ≡ n → seen b ≡ bs
      → seen k ≡ ks → (rest : List VarSet) → map seen w.loops ≡ rest ++ sets_in s
      → Walked w (live_in s n bs ks) rest (kept_in s n bs ks) (walk_in s b k w)
  walked_in (Let to op x y) b k w n bs ks en eb ek rest e =
      let left = without w.live (bit to) in
      plain w _ _ rest
      (seen_with (bit_or left (read_by x)) (read_by y) (both (minus n (one to)) (reads x)) (reads y)
      (seen_with left (read_by x) (minus n (one to)) (reads x)
      (seen_less w.live (bit to) n (one to) en (seen_bit to)) (seen_read x)) (seen_read y)
      ∙ both_turned (minus n (one to)) (reads x) (reads y)) e
  walked_in (Frame to at) b k w n bs ks en eb ek rest e =
      plain w _ _ rest (seen_less w.live (bit to) n (one to) en (seen_bit to)) e
  walked_in (Load to op x) b k w n bs ks en eb ek rest e =
      plain w _ _ rest
      (seen_with (without w.live (bit to)) (read_by x) (minus n (one to)) (reads x)
      (seen_less w.live (bit to) n (one to) en (seen_bit to)) (seen_read x)
      ∙ both_comm (minus n (one to)) (reads x)) e
  walked_in (Save op x y) b k w n bs ks en eb ek rest e =
      plain w _ _ rest
      (seen_with (bit_or w.live (read_by x)) (read_by y) (both n (reads x)) (reads y)
      (seen_with w.live (read_by x) n (reads x) en (seen_read x)) (seen_read y)
      ∙ both_turned n (reads x) (reads y)) e
  walked_in (Call f xs to old) b k w n bs ks en eb ek rest e =
      let left = without w.live (set_by to) in
      let h = seen_less w.live (set_by to) n (result to) en (seen_set to) in
      record {
        live = seen_args left xs ∙ ap (λ a. both a (reads_any xs)) h
            ∙ both_comm (minus n (result to)) (reads_any xs);
        loops = e ∙ append-nil rest;
        lists = ap (λ a. w.lists ++ members a ∷ []) h;
      }
  walked_in (Put x) b k w n bs ks en eb ek rest e =
      plain w _ _ rest
      (seen_with w.live (read_by x) n (reads x) en (seen_read x) ∙ both_comm n (reads x)) e
  walked_in (Get to) b k w n bs ks en eb ek rest e =
      plain w _ _ rest (seen_less w.live (bit to) n (one to) en (seen_bit to)) e
  walked_in (If x p q) b k w n bs ks en eb ek rest e =
      let v = walk q b k w in
      let lp = live p n bs ks in
      let lq = live q n bs ks in
      let hq = walked q b k w n bs ks en eb ek (rest ++ sets p)
      (e ∙ sym (append_assoc rest (sets p) (sets q))) in
      let u = walk p b k (living v w.live) in
      let hp = walked p b k (living v w.live) n bs ks en eb ek rest hq.loops in
      record {
        live = seen_with (bit_or u.live v.live) (read_by x) (both lp lq) (reads x)
            (seen_with u.live v.live lp lq hp.live hq.live) (seen_read x)
            ∙ both_comm (both lp lq) (reads x);
        loops = hp.loops;
        lists = lists_then w.lists v.lists u.lists (kept q n bs ks)
            (kept p n bs ks) hq.lists hp.lists;
      }
  walked_in (Loop p q) b k w n bs ks en eb ek rest e =
      let all = both (uses p) (uses q) in
      let top = head p q n in
      let o = at_head w in
      let split = ends w.loops (rest ++ (sets p ++ sets q)) all
      (e ∙ ap (λ l. rest ++ l) (sym (append_assoc (sets p) (sets q) (all ∷ [])))
      ∙ sym (append_assoc rest (sets p ++ sets q) (all ∷ []))) in
      let eo = seen_with w.live (last_of w.loops) n all en split.0 in
      let v = walk q 0 0 o in
      let hq = walked q 0 0 o top empty empty eo seen_zero seen_zero (rest ++ sets p)
      (split.1 ∙ sym (append_assoc rest (sets p) (sets q))) in
      let u = walk p w.live o.live (living v o.live) in
      let hp = walked p w.live o.live (living v o.live) top n top eo en eo rest hq.loops in
      record {
        live = eo;
        loops = hp.loops;
        lists = lists_then w.lists v.lists u.lists (kept q top empty empty)
            (kept p top n top) hq.lists
            hp.lists;
      }
  walked_in Break b k w n bs ks en eb ek rest e = plain w b bs rest eb e
  walked_in Continue b k w n bs ks en eb ek rest e = plain w k ks rest ek e
  walked_in (Return x) b k w n bs ks en eb ek rest e = plain w (read_if x) (reads_if x) rest
      (seen_read_if x) e
  walked_in (Halt x) b k w n bs ks en eb ek rest e = plain w (read_by x) (reads x) rest (seen_read x) e

  walked : (c : Code) (b k : ℕ) (w : Walk) (n bs ks : VarSet) → seen w.live ≡ n → seen b ≡ bs
      → seen k ≡ ks → (rest : List VarSet) → map seen w.loops ≡ rest ++ sets c
      → Walked w (live c n bs ks) rest (kept c n bs ks) (walk c b k w)
  walked Nop b k w n bs ks en eb ek rest e = plain w w.live n rest en e
  walked (s ▹ c) b k w n bs ks en eb ek rest e =
      let v = walk c b k w in
      let mid = live c n bs ks in
      let hc = walked c b k w n bs ks en eb ek (rest ++ sets_in s)
      (e ∙ sym (append_assoc rest (sets_in s) (sets c))) in
      let hs = walked_in s b k v mid bs ks hc.live eb ek rest hc.loops in
      record {
        live = hs.live;
        loops = hs.loops;
        lists = lists_then w.lists v.lists _ (kept c n bs ks)
            (kept_in s mid bs ks) hc.lists hs.lists;
      }

-- PROGRAMS

body_is : (f : Function) (lists : List (List ℕ))
    → body_lists f.body lists ≡ lists ++ reverse (map members (kept_over f))
body_is f lists =
    (walked f.body 0 0 _ empty empty empty seen_zero seen_zero seen_zero []
    (reading_is f.body (record { read = 0; loops = [] })).loops).lists

lists_are : (fs : List Function) → lists_backward fs ≡ reverse (map members (kept_over_all fs))
lists_are [] = refl
lists_are (f ∷ fs) =
    body_is f (lists_backward fs) ∙ ap (λ l. l ++ reverse (map members (kept_over f)))
    (lists_are fs)
    ∙ sym (backward (kept_over f) (kept_over_all fs))

-- turned round, the lists are those of the program
pub turned_round : (fs : List Function) → reverse (lists_backward fs)
    ≡ map members (kept_over_all fs)
turned_round fs = ap reverse (lists_are fs) ∙ reverse-reverse (map members (kept_over_all fs))

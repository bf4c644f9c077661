-- Reads through the banks see what the frames before them let through.
use Rattle.std.proofs.Common.{◌≡◌, ℕ, zero, suc, ◌+◌, ◌<◌, ◌≤◌, Bool, true, false, cond, ◌==◌, ◌||◌, ◌&&◌, nat_lt}
use Rattle.std.proofs.Common.{List, [], ◌∷◌, ◌++◌, Option, Some, None, length, get_or, take, slice_get}
use Rattle.std.proofs.Common.{refl, sym, ap, ap₂, ◌∙◌, subst, arith}
use Rattle.trips_isa.specs.declared.block.Token.{Token}
use Rattle.trips_isa.specs.declared.block.Token.TheVariants.{Null, Word}
use Rattle.trips_isa.specs.declared.block.Block.{Block}
use Rattle.trips_isa.specs.PlaceNumbers.{first_write}
use Rattle.trips_isa.specs.Rule.{Answer}
use Rattle.block_cases.specs.Orders.{has_item, bad_write, NoneBelow}
use Rattle.commit_flush_spec.specs.Frames.{Frame, at}
use Rattle.commit_flush_spec.specs.Older.{Older, forwarded, over_write, through, after, after_all}
use Rattle.commit_flush_spec.specs.inside.Invariant.{FramesOk, AllGood}
use Rattle.commit_flush_spec.specs.inside.Numbered.{seen_at}
use Rattle.reg_bank.specs.inside.Ages as ages
use Rattle.reg_bank.specs.inside.Ages.{Ages, behind, listed}
use Rattle.reg_bank.specs.declared.answer.Held.{Held}
use Rattle.reg_bank.specs.declared.answer.Held.TheVariants.{Undeclared, Waiting, Came}
use Rattle.reg_bank.specs.declared.answer.ReadAnswer.{ReadAnswer}
use Rattle.commit_flush.specs.inside.Banked.{came, held_by, held, held_if, banked, word_read}
use Rattle.commit_flush.proofs.NumberTests.{equal_is, is_equal, apart, flipped, same_suc, neither}
use Rattle.commit_flush.proofs.NumberTests.{below, not_below, below_is, not_below_is}
use Rattle.commit_flush.specs.inside.Places.{later, age_of}
use Rattle.commit_flush.proofs.OrderFacts.{after_more, seen_is}

-- writes of different registers ------------------------------------------------------------------

-- no register is written twice
abbrev pub AreOnce : List ℕ → Type 0
AreOnce [] = Unit {0}
AreOnce (x ∷ xs) = (has_item xs x ≡ false) × AreOnce xs

unheld : (x : ℕ) (ys : List ℕ) → ((w : ℕ) → w < length ys → (x == get_or ys w 0) ≡ false) → has_item ys x ≡ false
unheld x [] k = refl
unheld x (y ∷ ys) k =
    ap₂ (λ a b. a || b) (flipped x y (k 0 (omega arith))) (unheld x ys (λ w l. k (suc w) (omega arith)))

once_of : (xs : List ℕ) → ((w : ℕ) → w < length xs → has_item (take w xs) (get_or xs w 0) ≡ false) → AreOnce xs
once_of [] h = tt
once_of (x ∷ xs) h = (
  unheld x xs (λ w l.
      (neither (x == get_or xs w 0) (has_item (take w xs) (get_or xs w 0)) (h (suc w) (omega arith))).0),
  once_of xs (λ w l.
      (neither (x == get_or xs w 0) (has_item (take w xs) (get_or xs w 0)) (h (suc w) (omega arith))).1),
)

-- a block without a bad write declares each register once
pub writes_once : (b : Block) → NoneBelow (bad_write b) (length b.writes.items) → AreOnce b.writes.items
writes_once b h = once_of b.writes.items h

-- the code of each frame in flight is a block of the image
pub code_of : (blocks : List Block) (fs : List Frame) (o : Older) → FramesOk blocks o fs → (k : ℕ) (f : Frame)
    → slice_get fs k ≡ Some f → slice_get blocks f.block ≡ Some f.code
code_of blocks [] o ok k f e = absurd (cc)
code_of blocks (g ∷ gs) o ok zero f e =
    let same : g ≡ f = cc in subst (λ (h : Frame). slice_get blocks h.block ≡ Some h.code) same ok.2.code
code_of blocks (g ∷ gs) o ok (suc k) f e = code_of blocks gs (after g o) ok.3 k f e

pub all_once : (blocks : List Block) → AllGood blocks → (fs : List Frame) (o : Older) → FramesOk blocks o fs
    → (k : ℕ) (f : Frame) → slice_get fs k ≡ Some f → AreOnce f.code.writes.items
all_once blocks good fs o ok k f e =
    writes_once f.code (good f.block f.code (code_of blocks fs o ok k f e)).good.in_order.writes

-- reads ------------------------------------------------------------------------------------------

-- what is seen of register r through the writes from write w on, where v is seen below
abbrev passed : List ℕ → ℕ → (ℕ → Answer) → ℕ → Option ℕ → Option ℕ
passed [] w spots r v = v
passed (x ∷ xs) w spots r v = passed xs (suc w) spots r (cond (r == x) (forwarded (spots (first_write + w)) v) v)

through_at : (rs : List ℕ) (w : ℕ) (spots : ℕ → Answer) (look : ℕ → Option ℕ) (r : ℕ)
    → through rs w spots look r ≡ passed rs w spots r (look r)
through_at [] w spots look r = refl
through_at (x ∷ xs) w spots look r = through_at xs (suc w) spots (over_write x (spots (first_write + w)) look) r

passed_by : (rs : List ℕ) (w : ℕ) (spots : ℕ → Answer) (r : ℕ) (v : Option ℕ) → has_item rs r ≡ false
    → passed rs w spots r v ≡ v
passed_by [] w spots r v e = refl
passed_by (x ∷ xs) w spots r v e =
    let p = neither (x == r) (has_item xs r) e in
    ap (λ b. passed xs (suc w) spots r (cond b (forwarded (spots (first_write + w)) v) v)) (flipped x r p.0)
    ∙ passed_by xs (suc w) spots r v p.1

seen_through : (rs : List ℕ) (w : ℕ) (spots : ℕ → Answer) (r a : ℕ) (low : ReadAnswer) (v : Option ℕ) → AreOnce rs
    → word_read low ≡ v → word_read (behind (held_by rs w spots r) a low) ≡ passed rs w spots r v
seen_through [] w spots r a low v h e = e
seen_through (x ∷ xs) w spots r a low v h e = go (r == x) refl (seen_through xs (suc w) spots r a low v h.1 e)
  where
    token : (t : Answer) → word_read (behind (came t) a low) ≡ forwarded t v
    token None = refl
    token (Some Null) = e
    token (Some (Word u)) = refl

    go : (b : Bool) → (r == x) ≡ b
        → word_read (behind (held_by xs (suc w) spots r) a low) ≡ passed xs (suc w) spots r v
        → word_read (behind (cond b (came (spots (first_write + w))) (held_by xs (suc w) spots r)) a low)
        ≡ passed xs (suc w) spots r (cond b (forwarded (spots (first_write + w)) v) v)
    go true z rest =
        token (spots (first_write + w))
        ∙ sym (passed_by xs (suc w) spots r (forwarded (spots (first_write + w)) v)
        (ap (has_item xs) (equal_is r x z) ∙ h.0))
    go false z rest = rest

there_at : (fs : List Frame) (a : ℕ) → a < length fs → (f : Frame) × (slice_get fs a ≡ Some f)
there_at [] a l = absurd (omega arith)
there_at (f ∷ fs) zero l = (f, refl)
there_at (f ∷ fs) (suc a) l = there_at fs a (omega arith)

-- a read of an age is answered what is seen behind the older frames
pub read_is : (registers : Ages) (fs : List Frame) (o : Older) (a r c : ℕ)
    → ((k q : ℕ) → registers k q ≡ banked fs k q)
    → ((k : ℕ) (f : Frame) → slice_get fs k ≡ Some f → AreOnce f.code.writes.items)
    → o.look r ≡ Some c → a ≤ length fs
    → word_read (ages.read registers a r c) ≡ (after_all (take a fs) o).look r
read_is registers fs o zero r c banks once e l = sym e
read_is registers fs o (suc a) r c banks once e l =
    let s = there_at fs a (omega arith) in
    let f : Frame = s.0 in
    let below : Older = after_all (take a fs) o in
    ap (λ h. word_read (behind h a (ages.read registers a r c))) (banks a r ∙ ap (λ h. held_if h r) s.1)
    ∙ seen_through f.code.writes.items 0 (at f.spots) r a (ages.read registers a r c) (below.look r) (once a f s.1)
    (read_is registers fs o a r c banks once e (omega arith))
    ∙ sym (through_at f.code.writes.items 0 (at f.spots) below.look r)
    ∙ sym (ap (λ (p : Older). p.look r) (after_more fs o a f s.1))

-- the age of a frame in flight is less than their count
pub age_below : (n : ℕ) (fs : List Frame) (a : ℕ) → age_of n fs ≡ Some a → a < length fs
age_below n [] a e = absurd (cc)
age_below n (f ∷ fs) a e = go (f.number == n) e (age_of n fs) refl (λ k q. age_below n fs k q)
  where
    go : (b : Bool) → cond b (Some 0) (later (age_of n fs)) ≡ Some a → (p : Option ℕ) → age_of n fs ≡ p
        → ((k : ℕ) → age_of n fs ≡ Some k → k < length fs) → a < suc (length fs)
    go true w p q rest = let here : 0 ≡ a = cc in omega arith
    go false w None q rest = absurd (let bad : None ≡ Some a = sym (ap later q) ∙ w in cc)
    go false w (Some k) q rest =
        let both : Some (suc k) ≡ Some a = sym (ap later q) ∙ w in
        let here : suc k ≡ a = cc in
        let l : k < length fs = rest k q in
        omega arith

-- so a read of the frame of a number is answered what that frame sees
pub read_sees : (blocks : List Block) → AllGood blocks → (fs : List Frame) (o : Older) → FramesOk blocks o fs
    → (registers : Ages) → ((k q : ℕ) → registers k q ≡ banked fs k q) → (n a r c : ℕ) → age_of n fs ≡ Some a
    → o.look r ≡ Some c → word_read (ages.read registers a r c) ≡ (seen_at o fs n).look r
read_sees blocks good fs o ok registers banks n a r c e w =
    let l : a < length fs = age_below n fs a e in
    read_is registers fs o a r c banks (all_once blocks good fs o ok) w (omega arith)
    ∙ sym (ap (λ (p : Older). p.look r) (seen_is n fs o a e))

-- changes ----------------------------------------------------------------------------------------

-- a frame to which nothing has come only waits for its writes
pub waits : (rs : List ℕ) (w : ℕ) (spots : ℕ → Answer) (r : ℕ) → ((q : ℕ) → spots q ≡ None)
    → held_by rs w spots r ≡ cond (listed rs r) Waiting Undeclared
waits [] w spots r e = refl
waits (x ∷ xs) w spots r e = go (r == x) (waits xs (suc w) spots r e)
  where
    go : (b : Bool) → held_by xs (suc w) spots r ≡ cond (listed xs r) Waiting Undeclared
        → cond b (came (spots (first_write + w))) (held_by xs (suc w) spots r)
        ≡ cond (b || listed xs r) Waiting Undeclared
    go true rest = ap came (e (first_write + w))
    go false rest = rest

-- the same tokens at the writes, the same registers
pub holds_same : (rs : List ℕ) (w : ℕ) (old new : ℕ → Answer) (r : ℕ)
    → ((q : ℕ) → first_write ≤ q → new q ≡ old q) → held_by rs w new r ≡ held_by rs w old r
holds_same [] w old new r e = refl
holds_same (x ∷ xs) w old new r e =
    ap₂ (λ t h. cond (r == x) (came t) h) (e (first_write + w) (omega arith)) (holds_same xs (suc w) old new r e)

-- what stands in a list is an item of it
has_got : (y : ℕ) (ys : List ℕ) (j : ℕ) → slice_get ys j ≡ Some y → has_item ys y ≡ true
has_got y [] j g = absurd (cc)
has_got y (z ∷ zs) zero g = let same : z ≡ y = cc in ap (λ b. b || has_item zs y) (is_equal z y same)
has_got y (z ∷ zs) (suc j) g = later (z == y) (has_got y zs j g)
  where
    later : (b : Bool) → has_item zs y ≡ true → (b || has_item zs y) ≡ true
    later true u = refl
    later false u = u

-- a token that comes to write k, which is write w and so many more, is held by its register
pub holds_more : (rs : List ℕ) (w k y : ℕ) (old new : ℕ → Answer) (t : Token) (r : ℕ) → AreOnce rs
    → slice_get rs k ≡ Some y → new (first_write + (w + k)) ≡ Some t
    → ((q : ℕ) → (q ≡ first_write + (w + k) → ⊥) → new q ≡ old q)
    → held_by rs w new r ≡ cond (r == y) (Came t) (held_by rs w old r)
holds_more [] w k y old new t r h e n s = absurd (cc)
holds_more (x ∷ xs) w zero y old new t r h e n s =
    let same : x ≡ y = cc in
    let first : w + 0 ≡ w = omega arith in
    ap₂ (λ v m. cond (r == x) (came v) m) (ap (λ i. new (first_write + i)) (sym first) ∙ n)
    (others xs (suc w) (omega arith))
    ∙ go (r == x) ∙ ap (λ z. cond (r == z) (Came t) (cond (r == x) (came (old (first_write + w)))
    (held_by xs (suc w) old r))) same
  where
    others : (ys : List ℕ) (j : ℕ) → w < j → held_by ys j new r ≡ held_by ys j old r
    others [] j l = refl
    others (z ∷ zs) j l =
        ap₂ (λ v m. cond (r == z) (came v) m) (s (first_write + j) (λ q. absurd (omega arith)))
        (others zs (suc j) (omega arith))

    go : (b : Bool) → cond b (Came t) (held_by xs (suc w) old r)
        ≡ cond b (Came t) (cond b (came (old (first_write + w))) (held_by xs (suc w) old r))
    go true = refl
    go false = refl
holds_more (x ∷ xs) w (suc k) y old new t r h e n s =
    let on : w + suc k ≡ suc w + k = omega arith in
    ap₂ (λ v m. cond (r == x) (came v) m) (s (first_write + w) (λ q. absurd (omega arith)))
    (holds_more xs (suc w) k y old new t r h.1 e (ap (λ i. new (first_write + i)) (sym on) ∙ n)
    (λ q z. s q (λ u. z (u ∙ ap (λ i. first_write + i) on))))
    ∙ go (r == x) refl (r == y) refl
  where
    go : (b : Bool) → (r == x) ≡ b → (d : Bool) → (r == y) ≡ d
        → cond b (came (old (first_write + w))) (cond d (Came t) (held_by xs (suc w) old r))
        ≡ cond d (Came t) (cond b (came (old (first_write + w))) (held_by xs (suc w) old r))
    go false u d v = refl
    go true u false v = refl
    go true u true v = absurd (
        let xy : x ≡ y = sym (equal_is r x u) ∙ equal_is r y v in
        let one : has_item xs x ≡ true = ap (has_item xs) xy ∙ has_got y xs k e in
        let bad : true ≡ false = sym one ∙ h.0 in cc)

-- before its token comes a register waits
pub is_waiting : (rs : List ℕ) (w k y : ℕ) (spots : ℕ → Answer) → AreOnce rs → slice_get rs k ≡ Some y
    → spots (first_write + (w + k)) ≡ None → held_by rs w spots y ≡ Waiting
is_waiting [] w k y spots h e n = absurd (cc)
is_waiting (x ∷ xs) w zero y spots h e n =
    let same : y ≡ x = cc in
    let first : w + 0 ≡ w = omega arith in
    ap (λ b. cond b (came (spots (first_write + w))) (held_by xs (suc w) spots y)) (is_equal y x same)
    ∙ ap came (ap (λ i. spots (first_write + i)) (sym first) ∙ n)
is_waiting (x ∷ xs) w (suc k) y spots h e n =
    let on : w + suc k ≡ suc w + k = omega arith in
    ap (λ b. cond b (came (spots (first_write + w))) (held_by xs (suc w) spots y))
    (apart y x (λ z. let one : has_item xs x ≡ true = ap (has_item xs) (sym z) ∙ has_got y xs k e in
    let bad : true ≡ false = sym one ∙ h.0 in cc))
    ∙ is_waiting xs (suc w) k y spots h.1 e (ap (λ i. spots (first_write + i)) (sym on) ∙ n)

-- one more frame, as the youngest
pub one_more : (fs : List Frame) (g : Frame) (a r : ℕ)
    → banked (fs ++ g ∷ []) a r ≡ cond (a == length fs) (held g r) (banked fs a r)
one_more [] g zero r = refl
one_more [] g (suc a) r =
    sym (ap (λ b. cond b (held g r) Undeclared) (apart (suc a) 0 (λ z. absurd (omega arith))))
one_more (f ∷ fs) g zero r =
    sym (ap (λ b. cond b (held g r) (held f r)) (apart 0 (suc (length fs)) (λ z. absurd (omega arith))))
one_more (f ∷ fs) g (suc a) r =
    one_more fs g a r
    ∙ sym (ap (λ b. cond b (held g r) (banked fs a r)) (same_suc a (length fs)))

-- the first k frames alone
pub first_ones : (fs : List Frame) (k a r : ℕ)
    → banked (take k fs) a r ≡ cond (nat_lt a k) (banked fs a r) Undeclared
first_ones fs zero a r = sym (ap (λ b. cond b (banked fs a r) Undeclared) (not_below a 0 (omega arith)))
first_ones [] (suc k) a r = go (nat_lt a (suc k))
  where
    go : (b : Bool) → Undeclared ≡ cond b Undeclared Undeclared
    go true = refl
    go false = refl
first_ones (f ∷ fs) (suc k) zero r =
    sym (ap (λ b. cond b (held f r) Undeclared) (below 0 (suc k) (omega arith)))
first_ones (f ∷ fs) (suc k) (suc a) r =
    first_ones fs k a r ∙ sym (ap (λ b. cond b (banked fs a r) Undeclared) (same_below a k))
  where
    same_below : (m n : ℕ) → nat_lt (suc m) (suc n) ≡ nat_lt m n
    same_below m n = go (nat_lt m n) refl
      where
        go : (v : Bool) → nat_lt m n ≡ v → nat_lt (suc m) (suc n) ≡ v
        go true e = below (suc m) (suc n) (let l : m < n = below_is m n e in omega arith)
        go false e = not_below (suc m) (suc n) (let l : n ≤ m = not_below_is m n e in omega arith)

-- behind the last frame no register is declared
pub none_past : (fs : List Frame) (a r : ℕ) → length fs ≤ a → banked fs a r ≡ Undeclared
none_past [] a r l = refl
none_past (f ∷ fs) zero r l = absurd (omega arith)
none_past (f ∷ fs) (suc a) r l = none_past fs a r (omega arith)

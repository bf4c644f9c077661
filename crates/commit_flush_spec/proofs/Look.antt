-- What a frame sees of the older ones only grows, but for bytes at touched addresses.
use Rattle.std.proofs.Common.{◌≡◌, ◌≢◌, ℕ, zero, suc, ◌+◌, ◌*◌, ◌<◌, Bool, true, false, cond, ◌==◌, ◌&&◌}
use Rattle.std.proofs.Common.{◌||◌, not, ap₂, List, [], ◌∷◌, Option, Some, None, set, get_or, length, refl}
use Rattle.std.proofs.Common.{sym, ap, ◌∙◌, subst, arith}
use Rattle.std.specs.Prelude.{is_some, All}
use Rattle.std.proofs.lemmas.List.{get_or-set_other, length-set}
use Rattle.std.proofs.lemmas.List.Elements.{All-head, All-tail}
use Rattle.std.proofs.lemmas.Grind.{get_or-set_at}
use Rattle.trips_isa.specs.declared.block.Token.{Token}
use Rattle.trips_isa.specs.declared.block.Token.TheVariants.{Null, Word}
use Rattle.trips_isa.specs.declared.block.Stored.{Stored}
use Rattle.trips_isa.specs.Rule.{Answer}
use Rattle.trips_isa.specs.Stores.{byte_of, or_byte}
use Rattle.trips_isa.specs.Outcomes.{or_null, writes_from}
use Rattle.trips_isa.specs.Machine.{written, write_all}
use Rattle.commit_flush_spec.specs.Frames.{Frame, Taken, Bytes, at, numbers}
use Rattle.trips_isa.specs.Stores.{byte_seen, bytes_seen}
use Rattle.commit_flush_spec.specs.Older.{Older, forwarded, over_write, through, after, follows, covers}
use Rattle.commit_flush_spec.specs.Older.{passes, nearest, any_touched, took_touched, violated}
use Rattle.commit_flush_spec.specs.inside.Invariant.{Below}
use Rattle.commit_flush_spec.proofs.Lists.{below_refl}

-- registers --------------------------------------------------------------------------------------

-- what the one look knows of a register the other knows too
abbrev pub LookLe : (ℕ → Option ℕ) → (ℕ → Option ℕ) → Type 0
LookLe l m = (q v : ℕ) → l q ≡ Some v → m q ≡ Some v

forwarded_more : (t t' : Answer) (o o' : Option ℕ) → Below t t' → ((v : ℕ) → o ≡ Some v → o' ≡ Some v) → (v : ℕ)
    → forwarded t o ≡ Some v → forwarded t' o' ≡ Some v
forwarded_more None t' o o' b h v e = absurd (cc)
forwarded_more (Some Null) t' o o' b h v e = subst (λ t. forwarded t o' ≡ Some v) b (h v e)
forwarded_more (Some (Word w)) t' o o' b h v e = subst (λ t. forwarded t o' ≡ Some v) b e

over_more : (r : ℕ) (t t' : Answer) (l m : ℕ → Option ℕ) → Below t t' → LookLe l m
    → LookLe (over_write r t l) (over_write r t' m)
over_more r t t' l m b h q v = go (q == r)
  where
    go : (c : Bool) → cond c (forwarded t (l q)) (l q) ≡ Some v → cond c (forwarded t' (m q)) (m q) ≡ Some v
    go true e = forwarded_more t t' (l q) (m q) b (h q) v e
    go false e = h q v e

-- where more has come of a frame's writes, and more is known before them, more is known behind them
pub through_more : (rs : List ℕ) (w : ℕ) (f g : ℕ → Answer) (l m : ℕ → Option ℕ) → ((q : ℕ) → Below (f q) (g q))
    → LookLe l m → LookLe (through rs w f l) (through rs w g m)
through_more [] w f g l m b h = h
through_more (r ∷ rs) w f g l m b h =
    through_more rs (suc w) f g (over_write r (f (384 + w)) l) (over_write r (g (384 + w)) m) b
    (over_more r (f (384 + w)) (g (384 + w)) l m (b (384 + w)) h)

-- what passes a frame is what its writes leave
abbrev pub words : List ℕ → ℕ → Option ℕ
words regs q = Some (get_or regs q 0)

over_put : (r : ℕ) (t : Answer) (l : ℕ → Option ℕ) (regs : List ℕ) → r < length regs → LookLe l (words regs)
    → LookLe (over_write r t l) (words (written regs r (or_null t)))
over_put r None l regs lt h q v = go (q == r)
  where
    go : (c : Bool) → cond c None (l q) ≡ Some v → words regs q ≡ Some v
    go true e = absurd (cc)
    go false e = h q v e
over_put r (Some Null) l regs lt h q v = go (q == r)
  where
    go : (c : Bool) → cond c (l q) (l q) ≡ Some v → words regs q ≡ Some v
    go true e = h q v e
    go false e = h q v e
over_put r (Some (Word x)) l regs lt h q v = go (q == r) refl
  where
    go : (c : Bool) → (q == r) ≡ c → cond c (Some x) (l q) ≡ Some v → Some (get_or (set regs r x) q 0) ≡ Some v
    go true i e = let same : q ≡ r = grind arith in ap Some (get_or-set_at regs r q x 0 same lt) ∙ e
    go false i e = let other : q ≢ r = λ z. let bad : (q == r) ≡ true = grind (arith, z) in absurd (cc) in
        ap Some (get_or-set_other regs r q x 0 other) ∙ h q v e

written_size : (regs : List ℕ) (r : ℕ) (t : Token) → length (written regs r t) ≡ length regs
written_size regs r Null = refl
written_size regs r (Word v) = length-set regs r v

-- what is known behind a frame's writes is so of the registers that these writes were written to
pub through_changed : (rs : List ℕ) (w : ℕ) (f : ℕ → Answer) (l : ℕ → Option ℕ) (regs : List ℕ) → length regs ≡ 128
    → All (λ r. r < 128) rs → LookLe l (words regs)
    → LookLe (through rs w f l) (words (write_all regs rs (writes_from f w rs)))
through_changed [] w f l regs s a h = h
through_changed (r ∷ rs) w f l regs s a h =
    let lt : r < 128 = All-head (λ x. x < 128) r rs a in
    let here : r < length regs = omega (arith, lt, s) in
    through_changed rs (suc w) f (over_write r (f (384 + w)) l) (written regs r (or_null (f (384 + w))))
    (written_size regs r _ ∙ s) (All-tail (λ x. x < 128) r rs a) (over_put r (f (384 + w)) l regs here h)

-- memory -----------------------------------------------------------------------------------------

-- two memories are the same where it is not touched
abbrev pub Apart : (ℕ → Bool) → (ℕ → ℕ) → (ℕ → ℕ) → Type 0
Apart touched l m = (x : ℕ) → touched x ≡ false → l x ≡ m x

byte_apart : (o : Option ℕ) (p : Bool) (x y : ℕ) → (not (is_some o) && p) ≡ false → (p ≡ false → x ≡ y)
    → or_byte o x ≡ or_byte o y
byte_apart None p x y e h = h e
byte_apart (Some b) p x y e h = refl

-- what is seen of two memories behind the same stores is the same where no touched byte passes them
pub passes_apart : (st : ℕ → Option Stored) (n : ℕ) (touched : ℕ → Bool) (l m : ℕ → ℕ) → Apart touched l m
    → Apart (passes st n touched) (byte_seen st l n) (byte_seen st m n)
passes_apart st zero touched l m h x e = h x e
passes_apart st (suc n) touched l m h x e =
    byte_apart (byte_of (st n) x) (passes st n touched x) _ _ e (passes_apart st n touched l m h x)

-- what is seen of two equal memories behind the same stores is the same
pub over_same : (st : ℕ → Option Stored) (n : ℕ) (l m : ℕ → ℕ) → ((x : ℕ) → l x ≡ m x) → (x : ℕ)
    → byte_seen st l n x ≡ byte_seen st m n x
over_same st zero l m h x = h x
over_same st (suc n) l m h x = ap (or_byte (byte_of (st n) x)) (over_same st n l m h x)

pub over_below : (st tt' : ℕ → Option Stored) (l : ℕ → ℕ) (n : ℕ) → ((k : ℕ) → k < n → st k ≡ tt' k) → (x : ℕ)
    → byte_seen st l n x ≡ byte_seen tt' l n x
over_below st st' l zero h x = refl
over_below st st' l (suc n) h x =
    ap₂ (λ s b. or_byte (byte_of s x) b) (h n (omega arith)) (over_below st st' l n (λ k lt. h k (omega arith)) x)

-- one more store
module _ (st st' : ℕ → Option Stored) (m : ℕ) (others : (k : ℕ) → k ≢ m
    → st k ≡ st' k) (came : Below (st m) (st' m)) where
  uncovered : (x : ℕ) → covers (st' m) x ≡ false → (byte_of (st m) x ≡ None) × (byte_of (st' m) x ≡ None)
  uncovered x e = (old (st m) came, none)
    where
      empty : (o : Option ℕ) → is_some o ≡ false → o ≡ None
      empty None e = refl
      empty (Some b) e = absurd (cc)

      none : byte_of (st' m) x ≡ None
      none = empty (byte_of (st' m) x) e

      old : (s : Option Stored) → Below s (st' m) → byte_of s x ≡ None
      old None b = refl
      old (Some s) b = ap (λ z. byte_of z x) b ∙ none

  -- where one store comes, what is seen behind all is the same but at the addresses at which it is the nearest
  pub nearest_apart : (l : ℕ → ℕ) (n : ℕ) → Apart (nearest st' m n) (byte_seen st l n) (byte_seen st' l n)
  nearest_apart l zero x e = refl
  nearest_apart l (suc n) x e = go (n == m) refl e (nearest_apart l n x)
    where
      go : (c : Bool) → (n == m) ≡ c → cond c (covers (st' m) x) (not (covers (st' n) x) && nearest st' m n x) ≡ false
          → (nearest st' m n x ≡ false → byte_seen st l n x ≡ byte_seen st' l n x)
          → or_byte (byte_of (st n) x) (byte_seen st l n x) ≡ or_byte (byte_of (st' n) x) (byte_seen st' l n x)
      go true i e h =
          let same : n ≡ m = grind arith in
          let u = uncovered x e in
          ap (λ k. or_byte (byte_of (st k) x) (byte_seen st l n x)) same
          ∙ ap (λ o. or_byte o (byte_seen st l n x)) u.0
          ∙ over_below st st' l n (λ k lt. others k (λ z. absurd (omega arith))) x
          ∙ sym (ap (λ o. or_byte o (byte_seen st' l n x)) u.1)
          ∙ sym (ap (λ k. or_byte (byte_of (st' k) x) (byte_seen st' l n x)) same)
      go false i e h =
          let other : n ≢ m = λ z. let bad : (n == m) ≡ true = grind (arith, z) in absurd (cc) in
          ap (λ s. or_byte (byte_of s x) (byte_seen st l n x)) (others n other)
          ∙ byte_apart (byte_of (st' n) x) (nearest st' m n x) _ _ e h

-- loads ------------------------------------------------------------------------------------------

-- both parts of a disjunction that is false are false
pub or_false : (a b : Bool) → (a || b) ≡ false → (a ≡ false) × (b ≡ false)
or_false true b e = absurd (cc)
or_false false b e = (refl, e)

-- the bytes that are not touched make the same number
pub bytes_apart : (st st' : ℕ → Option Stored) (l m : ℕ → ℕ) (n : ℕ) (touched : ℕ → Bool)
    → Apart touched (byte_seen st l n) (byte_seen st' m n) → (a k : ℕ) → any_touched touched a k ≡ false
    → bytes_seen st l n a k ≡ bytes_seen st' m n a k
bytes_apart st st' l m n touched h a zero e = refl
bytes_apart st st' l m n touched h a (suc k) e =
    let p = or_false (touched (a + k)) (any_touched touched a k) e in
    ap₂ (λ x y. x * 256 + y) (bytes_apart st st' l m n touched h a k p.1) (h (a + k) p.0)

-- where each byte that is seen is the same, so is each number that is made of them
pub bytes_same : (st st' : ℕ → Option Stored) (l m : ℕ → ℕ) (n : ℕ)
    → ((x : ℕ) → byte_seen st l n x ≡ byte_seen st' m n x) → (a k : ℕ)
    → bytes_seen st l n a k ≡ bytes_seen st' m n a k
bytes_same st st' l m n h a zero = refl
bytes_same st st' l m n h a (suc k) = ap₂ (λ x y. x * 256 + y) (bytes_same st st' l m n h a k) (h (a + k))

-- where no load was violated, none of the bytes that a load took was touched
pub not_hit : (touched : ℕ → ℕ → Bool) (ts : List (Option Taken)) (n a k : ℕ) → violated touched ts ≡ false
    → at ts n ≡ Some (Bytes a k) → any_touched (touched n) a k ≡ false
not_hit touched [] n a k z e = absurd (cc)
not_hit touched (t ∷ ts) zero a k z e = ap (took_touched (touched 0)) (sym e) ∙ (or_false _ _ z).0
not_hit touched (t ∷ ts) (suc n) a k z e = not_hit (λ y. touched (suc y)) ts n a k (or_false _ _ z).1 e

-- what is seen -----------------------------------------------------------------------------------

-- p sees at least what o sees
pub record OlderLe (o p : Older) : Type 0 where
  pub look : LookLe o.look p.look
  pub memory : (x : ℕ) → o.memory x ≡ p.memory x
  pub known : (k : ℕ) → follows o.known k ≡ true → follows p.known k ≡ true
  pub serial : o.serial ≡ false → p.serial ≡ false

-- what is seen is at least itself
pub older_refl : (o : Older) → OlderLe o o
older_refl o = record { look = λ q v e. e; memory = λ x. refl; known = λ b e. e; serial = λ e. e }

-- behind a frame at least as much is seen as before, where this holds before it
pub after_more : (f : Frame) (o p : Older) → OlderLe o p → OlderLe (after f o) (after f p)
after_more f o p h = record {
  look = through_more f.code.writes.items 0 (at f.spots) (at f.spots) o.look p.look (λ q. below_refl (at f.spots q))
      h.look;
  memory = over_same (at f.stores) numbers o.memory p.memory h.memory;
  known = λ b e. e;
  serial = λ e. e;
}

-- the same but for memory where it is touched
pub record OlderBut (touched : ℕ → Bool) (o p : Older) : Type 0 where
  pub look : LookLe o.look p.look
  pub memory : Apart touched o.memory p.memory
  pub known : (k : ℕ) → follows o.known k ≡ true → follows p.known k ≡ true
  pub serial : o.serial ≡ false → p.serial ≡ false

-- behind a frame what is seen is the same but for the touched bytes that pass its stores
pub after_but : (touched : ℕ → Bool) (f : Frame) (o p : Older) → OlderBut touched o p
    → OlderBut (passes (at f.stores) numbers touched) (after f o) (after f p)
after_but touched f o p h = record {
  look = through_more f.code.writes.items 0 (at f.spots) (at f.spots) o.look p.look (λ q. below_refl (at f.spots q))
      h.look;
  memory = passes_apart (at f.stores) numbers touched o.memory p.memory h.memory;
  known = λ b e. e;
  serial = λ e. e;
}

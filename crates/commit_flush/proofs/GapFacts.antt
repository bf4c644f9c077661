-- Frames without stores and loads are passed over: what is seen behind them is what is seen before them, and no store
-- flushes them.
use Rattle.std.proofs.Common.{◌≡◌, ℕ, zero, suc, ◌+◌, ◌<◌, ◌≤◌, Bool, false, cond, ◌&&◌, ◌||◌, List, [], ◌∷◌, Option}
use Rattle.std.proofs.Common.{None, length, take, drop, not, refl, ap, ◌∙◌, arith}
use Rattle.std.proofs.Math.Path.{fun_ext}
use Rattle.trips_isa.specs.declared.block.Stored.{Stored}
use Rattle.trips_isa.specs.Stores.{byte_of, byte_seen, or_byte}
use Rattle.commit_flush_spec.specs.Frames.{Frame, Taken, at, numbers}
use Rattle.commit_flush_spec.specs.Older.{Older, after, after_all, covers, passes, took_touched, violated}
use Rattle.commit_flush_spec.specs.Dropping.{untouched}
use Rattle.base.specs.Rows.{has_bit}
use Rattle.commit_flush.specs.inside.Accesses.{NoStores, NoLoads, NoneStores, NoneLoads, WhereClear}

-- without stores each byte is seen that is seen behind them
unseen : (stores : ℕ → Option Stored) (mem : ℕ → ℕ) → ((n : ℕ) → stores n ≡ None) → (k a : ℕ)
    → byte_seen stores mem k a ≡ mem a
unseen stores mem none zero a = refl
unseen stores mem none (suc k) a =
    ap (λ s. or_byte (byte_of s a) (byte_seen stores mem k a)) (none k) ∙ unseen stores mem none k a

memory_after : (f : Frame) (o : Older) → NoStores f → (after f o).memory ≡ o.memory
memory_after f o none = fun_ext (λ a. unseen (at f.stores) o.memory none numbers a)

-- frames without stores leave the bytes that are seen behind them
pub memory_gap : (fs : List Frame) (o : Older) (low high : ℕ) → low ≤ high → NoneStores low high fs
    → (after_all (take high fs) o).memory ≡ (after_all (take low fs) o).memory
memory_gap [] o zero zero l none = refl
memory_gap [] o zero (suc h) l none = refl
memory_gap [] o (suc k) zero l none = refl
memory_gap [] o (suc k) (suc h) l none = refl
memory_gap (f ∷ fs) o zero zero l none = refl
memory_gap (f ∷ fs) o zero (suc h) l none =
    memory_gap fs (after f o) zero h (omega arith)
    (λ a g from below e. none (suc a) g (omega arith) (omega (arith, below)) e)
    ∙ memory_after f o (none 0 f (omega arith) (omega arith) refl)
memory_gap (f ∷ fs) o (suc k) zero l none = absurd (omega (arith, l))
memory_gap (f ∷ fs) o (suc k) (suc h) l none =
    memory_gap fs (after f o) k h (omega (arith, l))
    (λ a g from below e. none (suc a) g (omega (arith, from)) (omega (arith, below)) e)

-- no load is wrong where none is answered
not_violated : (touched : ℕ → ℕ → Bool) (loads : List (Option Taken)) → ((n : ℕ) → at loads n ≡ None)
    → violated touched loads ≡ false
not_violated touched [] none = refl
not_violated touched (t ∷ ts) none =
    ap (λ x. took_touched (touched 0) x || violated (λ n. touched (suc n)) ts) (none 0)
    ∙ not_violated (λ n. touched (suc n)) ts (λ n. none (suc n))

-- without stores all addresses pass
all_pass : (stores : ℕ → Option Stored) (touched : ℕ → Bool) → ((n : ℕ) → stores n ≡ None) → (k a : ℕ)
    → passes stores k touched a ≡ touched a
all_pass stores touched none zero a = refl
all_pass stores touched none (suc k) a =
    ap (λ s. not (covers s a) && passes stores k touched a) (none k) ∙ all_pass stores touched none k a

one_passed : (touched : ℕ → Bool) (f : Frame) (fs : List Frame) → NoStores f → NoLoads f
    → untouched touched (f ∷ fs) ≡ suc (untouched touched fs)
one_passed touched f fs stores loads =
    ap (λ b. cond b 0 (suc (untouched (passes (at f.stores) numbers touched) fs)))
    (not_violated (λ n. passes (at f.stores) n touched) f.loads loads)
    ∙ ap (λ t. suc (untouched t fs)) (fun_ext (λ a. all_pass (at f.stores) touched stores numbers a))

-- frames without stores and loads are passed over by the count of frames that touched bytes leave
pub untouched_gap : (touched : ℕ → Bool) (fs : List Frame) (low high : ℕ) → low ≤ high → high ≤ length fs
    → NoneStores low high fs → NoneLoads low high fs
    → low + untouched touched (drop low fs) ≡ high + untouched touched (drop high fs)
untouched_gap touched [] zero zero l w stores loads = refl
untouched_gap touched [] (suc k) zero l w stores loads = absurd (omega (arith, l))
untouched_gap touched [] k (suc h) l w stores loads = absurd (omega (arith, w))
untouched_gap touched (f ∷ fs) zero zero l w stores loads = refl
untouched_gap touched (f ∷ fs) (suc k) zero l w stores loads = absurd (omega (arith, l))
untouched_gap touched (f ∷ fs) zero (suc h) l w stores loads =
    let one = one_passed touched f fs (stores 0 f (omega arith) (omega arith) refl)
    (loads 0 f (omega arith) (omega arith) refl) in
    let rest : 0 + untouched touched fs ≡ h + untouched touched (drop h fs) =
    untouched_gap touched fs zero h (omega arith) (omega (arith, w))
    (λ a g from below e. stores (suc a) g (omega arith) (omega (arith, below)) e)
    (λ a g from below e. loads (suc a) g (omega arith) (omega (arith, below)) e) in
    let all : 0 + untouched touched (f ∷ fs) ≡ suc h + untouched touched (drop h fs) = omega (arith, one, rest) in
    all
untouched_gap touched (f ∷ fs) (suc k) (suc h) l w stores loads =
    let rest = untouched_gap touched fs k h (omega (arith, l)) (omega (arith, w))
    (λ a g from below e. stores (suc a) g (omega (arith, from)) (omega (arith, below)) e)
    (λ a g from below e. loads (suc a) g (omega (arith, from)) (omega (arith, below)) e) in
    omega (arith, rest)

-- ages of which no bit is set
pub none_stores : (word : ℕ) (fs : List Frame) → WhereClear NoStores word fs → (low high : ℕ)
    → ((a : ℕ) → low ≤ a → a < high → has_bit word a ≡ false) → NoneStores low high fs
none_stores word fs k low high none a f from below e = k a f e (none a from below)

-- frames whose bits are clear in the word of loads have none
pub none_loads : (word : ℕ) (fs : List Frame) → WhereClear NoLoads word fs → (low high : ℕ)
    → ((a : ℕ) → low ≤ a → a < high → has_bit word a ≡ false) → NoneLoads low high fs
none_loads word fs k low high none a f from below e = k a f e (none a from below)

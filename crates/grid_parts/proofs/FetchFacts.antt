-- Fetches: which block is due, and where the youngest frame leads.
use Rattle.std.proofs.Common.{◌≡◌, ℕ, zero, suc, ◌-◌, ◌<◌, ◌≤◌, ◌==◌, Bool, true, false, cond, List}
use Rattle.std.proofs.Common.{[], ◌∷◌, length, get_or}
use Rattle.std.proofs.Common.{Option, Some, None, is_none, refl, sym, subst, ap, ap₂, ◌∙◌, arith}
use Rattle.std.proofs.lemmas.Bool.{eq-eqb, eqb-true, false≢true}
use Rattle.trips_isa.specs.declared.block.Block.{Block}
use Rattle.trips_isa.specs.declared.run.Stepped.{Stepped}
use Rattle.trips_isa.specs.declared.run.Stepped.TheVariants as stepped
use Rattle.commit_flush_spec.specs.Causes.{Happened, NotNow, NoFrame}
use Rattle.commit_flush_spec.specs.Frames.{Frame, Exit}
use Rattle.commit_flush_spec.specs.inside.Laws.{AreNumbers}
use Rattle.commit_flush_spec.specs.Older.{Older, after, after_all, successor_of}
use Rattle.commit_flush_spec.specs.Window.{Window, Fetch, can, happens, lowest_empty, unless_over}
use Rattle.grid_cycle_spec.specs.Grid.{Grid, Fetching, numbers_of}
use Rattle.grid_cycle_spec.specs.Acting.{is_done, may}
use Rattle.grid_cycle_spec.specs.Fetches.{fetch_ends, fetch_on, fill_where, fills, filled, begun_after, begun_behind}
use Rattle.grid_cycle_spec.specs.Fetches.{begins, fetch_begins, may_begin}
use Rattle.grid_parts.specs.inside.Fetches.{due, nearer, with_less}
use Rattle.grid_parts.specs.inside.Changes.{fetch_nearer, filled_by}
use Rattle.grid_parts.proofs.PartFacts.{with_fetching}
use Rattle.grid_parts.specs.inside.Asked.{frame_of, found_in, number_of}
use Rattle.grid_parts.proofs.NamedFacts.{AreNamed, all_named}
use Rattle.grid_parts.specs.inside.Youngest.{IsYoungest}

-- the end of a fetch -------------------------------------------------------------------------------

stopped : (o : Stepped) (b : Bool) (rest : Happened) → b ≡ true
    → is_done (unless_over o (cond b (NotNow NoFrame) rest)) ≡ true → ⊥
stopped stepped.Went true rest e d = false≢true d
stopped stepped.Went false rest e d = false≢true e
stopped stepped.Ended b rest e d = false≢true d
stopped stepped.StackFull b rest e d = false≢true d
stopped (stepped.Trap c) b rest e d = false≢true d

-- where a fetch is done a frame is empty
pub has_room : (blocks : List Block) (budget k : ℕ) (w : Window) → is_done (can blocks budget (Fetch k) w) ≡ true
    → lowest_empty 8 0 w.frames ≡ None → ⊥
has_room blocks budget k w d none = stopped w.over (is_none (lowest_empty 8 0 w.frames)) _ (ap is_none none) d

module _ {W : Type 0} (blocks : List Block) (budget : ℕ) (g : Grid W) where
  late : (n : ℕ) (f : Fetching) → f.left ≡ n → g.fetching ≡ Some f → due (Some f) ≡ None
      → fetch_nearer g ≡ fetch_on blocks budget n f g
  late zero f l e d = absurd (let one : due (Some f) ≡ Some f.block =
      let o : Option ℕ = None in ap (λ b. cond b (Some f.block) o) (eq-eqb f.left 0 l) in cc)
  late (suc n) f l e d = ap (λ o. with_fetching (nearer o) g) e ∙ ap (λ k. with_fetching (Some (with_less k f)) g) l

  -- a fetch that is not due goes on
  pub not_due : (o : Option Fetching) → g.fetching ≡ o → due o ≡ None
      → fetch_nearer g ≡ fetch_ends blocks budget o g
  not_due None e d = ap (λ o. with_fetching (nearer o) g) e ∙ ap (λ o. with_fetching o g) (sym e)
  not_due (Some f) e d = late f.left f refl e d

  -- a fetch with no cycle left is due: nothing comes nearer, and its frame is filled where it may be
  pub in_time : (n : ℕ) (f : Fetching) → f.left ≡ n → g.fetching ≡ Some f → n ≡ 0
      → (fetch_nearer g ≡ g) × (fetch_on blocks budget n f g
      ≡ fill_where (may blocks budget (Fetch f.block) g) blocks budget f g)
  in_time zero f l e z = (
    ap (λ o. with_fetching (nearer o) g) e
        ∙ ap (λ k. with_fetching (Some (with_less k f)) g) l ∙ ap (λ o. with_fetching o g) (sym e),
    refl,
  )
  in_time (suc n) f l e z = absurd (omega arith)

-- the youngest frame -------------------------------------------------------------------------------

-- what is known of the next block behind all frames is the successor of the youngest one's exit
pub known_youngest : (f : Frame) (fs : List Frame) (o : Older) → IsYoungest f fs
    → (after_all fs o).known ≡ successor_of f.exit
known_youngest f [] o y = absurd y
known_youngest f (h ∷ []) o y = ap (λ (x : Frame). successor_of x.exit) y
known_youngest f (h ∷ (i ∷ fs)) o y = known_youngest f (i ∷ fs) (after h o) y

-- the fetch that begins behind all frames is the one behind the youngest
pub begun_youngest : {W : Type 0} (blocks : List Block) (f : Frame) (fs : List Frame) (g : Grid W) → IsYoungest f fs
    → begun_after blocks fs g ≡ begun_behind blocks f f.exit g
begun_youngest blocks f [] g y = absurd y
begun_youngest blocks f (h ∷ []) g y = ap (λ (x : Frame). begun_behind blocks x x.exit g) y
begun_youngest blocks f (h ∷ (i ∷ fs)) g y = begun_youngest blocks f (i ∷ fs) g y

pub last_number : (f : Frame) (fs : List Frame) → IsYoungest f fs
    → get_or (numbers_of fs) (length (numbers_of fs) - 1) 0 ≡ f.number
last_number f [] y = absurd y
last_number f (h ∷ []) y = ap (λ (x : Frame). x.number) y
last_number f (h ∷ (i ∷ fs)) y =
    let n : ℕ = length (numbers_of fs) in
    let a : suc (suc n) - 1 ≡ suc n = omega arith in
    let b : suc n - 1 ≡ n = omega arith in
    ap (λ k. get_or (numbers_of (h ∷ (i ∷ fs))) k 0) a
    ∙ ap (λ k. get_or (numbers_of (i ∷ fs)) k 0) (sym b) ∙ last_number f (i ∷ fs) y

-- there is one where any frame is in flight
pub youngest_of : (f : Frame) (fs : List Frame) → (h : Frame) × IsYoungest h (f ∷ fs)
youngest_of f [] = (f, refl)
youngest_of f (h ∷ fs) = youngest_of h fs

pub named_youngest : (all : List Frame) (f : Frame) (fs : List Frame) → AreNamed all fs → IsYoungest f fs
    → frame_of f.number all ≡ Some f
named_youngest all f [] named y = absurd y
named_youngest all f (h ∷ []) named y =
    ap (λ (x : Frame). frame_of x.number all) (sym y) ∙ named.0 ∙ ap Some y
named_youngest all f (h ∷ (i ∷ fs)) named y = named_youngest all f (i ∷ fs) named.1 y

-- what is due -----------------------------------------------------------------------------------------

-- a fetch of a block that makes its event now
pub record IsDue (o : Option Fetching) (k : ℕ) : Type 0 where
  pub fetch : Fetching
  pub is : o ≡ Some fetch
  pub block : fetch.block ≡ k
  pub left : fetch.left ≡ 0

-- the number of a block, or 0 where none is told
abbrev pub block_in : Option ℕ → ℕ
block_in None = 0
block_in (Some k) = k

-- a block that is due has a fetch of which nothing is left
pub is_due : (o : Option Fetching) (k : ℕ) → due o ≡ Some k → IsDue o k
is_due None k e = absurd (cc)
is_due (Some f) k e = go (f.left == 0) refl e
  where
    go : (b : Bool) → (f.left == 0) ≡ b → cond b (Some f.block) None ≡ Some k → IsDue (Some f) k
    go true t d = record { fetch = f; is = refl; block = ap block_in d; left = eqb-true f.left 0 t }
    go false t d = absurd (cc)

-- the frame that a fetch fills
pub fills_is : {W : Type 0} (blocks : List Block) (budget : ℕ) (f : Fetching) (g : Grid W) (n block : ℕ)
    → f.block ≡ block → Some n ≡ lowest_empty 8 0 g.window.frames
    → filled_by n f (record g { window = happens blocks budget (Fetch block) g.window }) ≡ fills blocks budget f g
fills_is blocks budget f g n block eb en =
    ap₂ (λ m k. filled_by m f (record g { window = happens blocks budget (Fetch k) g.window })) (ap filled en)
    (sym eb)

-- exits -----------------------------------------------------------------------------------------------

-- the exit of a number
pub record HasNumber (o : Option Exit) (k : ℕ) : Type 0 where
  pub exit : Exit
  pub is : o ≡ Some exit
  pub number : exit.exit ≡ k

-- an exit whose number is told has come
pub exit_is : (o : Option Exit) (k : ℕ) → Some k ≡ number_of o → HasNumber o k
exit_is None k e = absurd (cc)
exit_is (Some x) k e = record { exit = x; is = refl; number = sym (ap block_in e) }

-- an exit of which no number is told has not come
pub no_exit : (o : Option Exit) → None ≡ number_of o → o ≡ None
no_exit None e = refl
no_exit (Some x) e = absurd (cc)

-- the block that an exit leads to is its successor
pub next_is : (k : ℕ) (x : Exit) → Some k ≡ successor_of (Some x) → x.successor ≡ k
next_is k x e = sym (ap block_in e)

-- the youngest frame, where any is in flight
pub record HasYoungest (fs : List Frame) (order : List ℕ) : Type 0 where
  pub frame : Frame
  pub is : IsYoungest frame fs
  pub named : frame_of (get_or order (length order - 1) 0) fs ≡ Some frame

-- where some frame is in flight there is a youngest
pub has_youngest : (fs : List Frame) (order : List ℕ) → order ≡ numbers_of fs → 0 < length order → AreNumbers order
    → HasYoungest fs order
has_youngest [] order e some distinct = absurd (let none : length order ≡ 0 = ap length e in omega (arith, none))
has_youngest (h ∷ t) order e some distinct =
    let y = youngest_of h t in
    let last : get_or order (length order - 1) 0 ≡ y.0.number =
    ap (λ ns. get_or ns (length ns - 1) 0) e ∙ last_number y.0 (h ∷ t) y.1 in
    record {
      frame = y.0;
      is = y.1;
      named = ap (λ n. frame_of n (h ∷ t)) last
          ∙ named_youngest (h ∷ t) y.0 (h ∷ t) (all_named (h ∷ t) (subst AreNumbers e distinct)) y.1;
    }

-- an empty order says that no frame is in flight
pub none_flies : (fs : List Frame) (order : List ℕ) → order ≡ numbers_of fs → length order ≤ 0 → fs ≡ []
none_flies [] order e none = refl
none_flies (h ∷ t) order e none =
    absurd (let some : length order ≡ suc (length (numbers_of t)) = ap length e in omega (arith, some))

-- the block that is told of a frame is its own
pub block_is : (o : Option Frame) (f : Frame) (k : ℕ) → Some k ≡ found_in (λ h. Some h.block) o → o ≡ Some f
    → f.block ≡ k
block_is o f k e is = sym (ap block_in (e ∙ ap (found_in (λ h. Some h.block)) is))

-- the begin of a fetch --------------------------------------------------------------------------------

module _ {W : Type 0} (blocks : List Block) (g : Grid W) where
  idle_begins : (o : Option Fetching) (b : Bool) → is_none o ≡ true → may_begin g ≡ b
      → cond b (begun_after blocks g.window.frames g) g ≡ fetch_begins blocks o g
  idle_begins None b e r = ap (λ x. cond x (begun_after blocks g.window.frames g) g) (sym r)
  idle_begins (Some f) b e r = absurd (false≢true e)

  -- an idle fetch unit with room begins the fetch behind the frames
  pub begins_idle : is_none g.fetching ≡ true → may_begin g ≡ true
      → begun_after blocks g.window.frames g ≡ begins blocks g
  begins_idle e r = idle_begins g.fetching true e r

  -- where there is no room for a frame, no fetch begins
  pub begins_full : is_none g.fetching ≡ true → may_begin g ≡ false → g ≡ begins blocks g
  begins_full e r = idle_begins g.fetching false e r

  busy_begins : (o : Option Fetching) → is_none o ≡ false → g ≡ fetch_begins blocks o g
  busy_begins None e = absurd (false≢true (sym e))
  busy_begins (Some f) e = refl

  -- where a fetch goes on, no other begins
  pub begins_busy : is_none g.fetching ≡ false → g ≡ begins blocks g
  begins_busy e = busy_begins g.fetching e

-- an exit leads to a block
pub not_next : (x : Exit) → None ≡ successor_of (Some x) → ⊥
not_next x e = cc

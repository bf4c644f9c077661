-- What is heard of a tick of the mesh: links that are taken, and waits for them.
use Rattle.std.proofs.Common.{◌≡◌, ◌<◌, ◌≤◌, ℕ, zero, suc, ◌+◌, ◌-◌, Bool, true, false, cond, ◌||◌, List}
use Rattle.std.proofs.Common.{[], ◌∷◌, ◌++◌, length, get_or, refl, sym, ap, ap₂, ◌∙◌, subst, arith, add-one}
use Rattle.std.proofs.Math.Path.{fun_ext}
use Rattle.operand_net.specs.declared.parcel.Stand.{Stand}
use Rattle.operand_net.specs.declared.parcel.Stand.TheVariants as stand
use Rattle.operand_net.specs.Places.{Places}
use Rattle.operand_net.specs.Tick.{any_wants, frames_want, is_free, row_wants, wants}
use Rattle.operand_net.specs.inside.Rows.{is_open}
use Rattle.operand_net.proofs.RowTurn.{open_is_free}
use Rattle.grid_cycle_spec.specs.inside.Choosing.{places}
use Rattle.grid_events.specs.Counts.{tally}
use Rattle.grid_events.specs.Mesh.{below, held_notes, moved_notes, row_notes, tick_notes}
use Rattle.grid_events.specs.Notes.{Note}
use Rattle.grid_events.specs.Notes as note
use Rattle.grid_tallies.specs.declared.statistic.Statistic.{Statistic}
use Rattle.grid_tallies.specs.declared.statistic.Statistic.TheVariants as statistic
use Rattle.grid_tallies.specs.declared.tallies.Tallies.{Tallies}
use Rattle.grid_tallies.specs.Statistics.{Heard, number_of, weigh}
use Rattle.grid_tallies.specs.inside.Adding.{Adds, Nothing}
use Rattle.grid_tallies.specs.inside.Travelling.{frame_moves, row_moves}
use Rattle.grid_tallies.proofs.Tallying.{heard_adds, heard_both, joined}
use Rattle.grid_tallies.proofs.Weighed.{only_one}

-- one parcel -------------------------------------------------------------------------------------

-- a link is taken
pub taken_heard : (free : Bool) (n p l : ℕ) (a b : Tallies) → free ≡ true → Adds statistic.Links 1 a b
    → Heard a (cond free (note.OnMesh (note.Passes n p l) ∷ []) (note.OnMesh (note.Waits n p l) ∷ [])) b
taken_heard true n p l a b e adds = heard_adds statistic.Links 1 a b (note.OnMesh (note.Passes n p l) ∷ []) adds
    (only_one (note.OnMesh (note.Passes n p l)) statistic.Links refl)
taken_heard false n p l a b e adds = absurd (let x = e in cc)

-- or waited for
pub waited_heard : (free : Bool) (n p l : ℕ) (a b : Tallies) → free ≡ false → Adds statistic.Waits 1 a b
    → Heard a (cond free (note.OnMesh (note.Passes n p l) ∷ []) (note.OnMesh (note.Waits n p l) ∷ [])) b
waited_heard false n p l a b e adds = heard_adds statistic.Waits 1 a b (note.OnMesh (note.Waits n p l) ∷ []) adds
    (only_one (note.OnMesh (note.Waits n p l)) statistic.Waits refl)
waited_heard true n p l a b e adds = absurd (let x = e in cc)

-- the places of a frame ----------------------------------------------------------------------------

or_false : (b : Bool) → (b || false) ≡ b
or_false true = refl
or_false false = refl

or_next : (x y z : Bool) → ((x || y) || z) ≡ (x || (z || y))
or_next true y z = refl
or_next false true true = refl
or_next false true false = refl
or_next false false true = refl
or_next false false false = refl

module _ (before : ℕ → Bool) (f : ℕ) (row : ℕ → Stand) where
  -- a place without a parcel notes nothing
  none_moves : (s : Stand) (b : Bool) (p : ℕ) → s ≡ stand.Nowhere → moved_notes b f p s ≡ []
  none_moves s b p e = ap (λ x. moved_notes b f p x) e

  append_none : (es : List Note) → es ++ [] ≡ es
  append_none [] = refl
  append_none (x ∷ es) = ap (λ (k : List Note). x ∷ k) (append_none es)

  -- places without parcels change neither what is noted nor what is wanted
  skipped_moves : (n d : ℕ) → ((k : ℕ) → n ≤ k → k < n + d → row k ≡ stand.Nowhere)
      → row_moves before f row (n + d) ≡ row_moves before f row n
  skipped_moves n zero clear = let same : n + 0 ≡ n = omega arith in ap (row_moves before f row) same
  skipped_moves n (suc d) clear =
      let here : row (n + d) ≡ stand.Nowhere = clear (n + d) (omega arith) (omega arith) in
      let es : List Note = row_moves before f row (n + d) in
      let k : n + suc d ≡ suc (n + d) = omega arith in
      ap (row_moves before f row) k
      ∙ ap (λ (xs : List Note). es ++ xs) (none_moves (row (n + d)) (is_free before row (n + d) (row (n + d))) (n + d)
      here)
      ∙ append_none es ∙ skipped_moves n d (λ j l m. clear j l (omega (arith, m)))

  skipped_wants : (n d l : ℕ) → ((k : ℕ) → n ≤ k → k < n + d → row k ≡ stand.Nowhere)
      → any_wants (n + d) row l ≡ any_wants n row l
  skipped_wants n zero l clear = let same : n + 0 ≡ n = omega arith in ap (λ k. any_wants k row l) same
  skipped_wants n (suc d) l clear =
      let here : row (n + d) ≡ stand.Nowhere = clear (n + d) (omega arith) (omega arith) in
      let k : n + suc d ≡ suc (n + d) = omega arith in
      let none : any_wants (suc (n + d)) row l ≡ any_wants (n + d) row l =
      ap (λ s. wants s l || any_wants (n + d) row l) here in
      ap (λ j. any_wants j row l) k ∙ none ∙ skipped_wants n d l (λ j i m. clear j i (omega (arith, m)))

  -- the next place with a parcel
  module _ (n p : ℕ) (onward : n ≤ p) (clear : (k : ℕ) → n ≤ k → k < p → row k ≡ stand.Nowhere) where
    gap : n + (p - n) ≡ p
    gap = omega (arith, onward)

    pub moves_up : row_moves before f row p ≡ row_moves before f row n
    moves_up = ap (row_moves before f row) (sym gap)
        ∙ skipped_moves n (p - n) (λ k l m. clear k l (omega (arith, onward, m)))

    pub wants_up : (l : ℕ) → any_wants p row l ≡ any_wants n row l
    wants_up l = ap (λ k. any_wants k row l) (sym gap)
        ∙ skipped_wants n (p - n) l (λ k i m. clear k i (omega (arith, onward, m)))

    -- its parcel takes its link, or waits
    pub next_heard : (now : ℕ → Bool) (a b c : Tallies)
        → ((l : ℕ) → now l ≡ (before l || any_wants n row l)) → Heard a (row_moves before f row n) b
        → Heard b (moved_notes (is_open now (row p)) f p (row p)) c → Heard a (row_moves before f row (p + 1)) c
    next_heard now a b c marks first last =
        let free : is_open now (row p) ≡ is_free before row p (row p) =
        open_is_free before now row p (row p) (λ l. marks l ∙ ap (λ z. before l || z) (sym (wants_up l))) in
        subst (λ k. Heard a (row_moves before f row k) c) (sym (add-one p))
        (heard_both a b c (row_moves before f row p) (moved_notes (is_free before row p (row p)) f p (row p))
        (subst (λ (es : List Note). Heard a es b) (sym moves_up) first)
        (subst (λ z. Heard b (moved_notes z f p (row p)) c) free last))

    pub next_marks : (now then_ : ℕ → Bool) → ((l : ℕ) → now l ≡ (before l || any_wants n row l))
        → ((l : ℕ) → then_ l ≡ (now l || wants (row p) l)) → (l : ℕ)
        → then_ l ≡ (before l || any_wants (p + 1) row l)
    next_marks now then_ marks more l =
        more l ∙ ap (λ z. z || wants (row p) l) (marks l ∙ ap (λ z. before l || z) (sym (wants_up l)))
        ∙ or_next (before l) (any_wants p row l) (wants (row p) l)
        ∙ ap (λ k. before l || any_wants k row l) (sym (add-one p))

-- no place is one that wants
pub none_wanted : (b : Bool) → b ≡ (b || false)
none_wanted b = sym (or_false b)

all_places : places ≡ 320
unfolding places
all_places = refl

whole_row : (row : ℕ → Stand) (l : ℕ) → row_wants row l ≡ any_wants 320 row l
unfolding row_wants
whole_row row l = refl

-- all places of a frame
pub row_heard : (before : ℕ → Bool) (f : ℕ) (row : ℕ → Stand) (n : ℕ) (a b : Tallies) → n ≡ 320
    → Heard a (row_moves before f row n) b → Heard a (row_moves before f row places) b
row_heard before f row n a b e heard = subst (λ k. Heard a (row_moves before f row k) b) (e ∙ sym all_places) heard

pub all_wanted : (row : ℕ → Stand) (n l : ℕ) → n ≡ 320 → any_wants n row l ≡ row_wants row l
all_wanted row n l e = ap (λ k. any_wants k row l) e ∙ sym (whole_row row l)

-- the frames of a tick -----------------------------------------------------------------------------

-- one frame more
pub frame_heard : (order : List ℕ) (m : Places) (n f : ℕ) (now : ℕ → Bool) (a b c : Tallies) → f ≡ get_or order n 0
    → ((l : ℕ) → now l ≡ frames_want n m order l) → Heard a (frame_moves order m n) b
    → Heard b (row_moves now f (m f) places) c → Heard a (frame_moves order m (n + 1)) c
frame_heard order m n f now a b c is marks first last =
    let g : ℕ = get_or order n 0 in
    subst (λ k. Heard a (frame_moves order m k) c) (sym (add-one n))
    (heard_both a b c (frame_moves order m n) (row_moves (frames_want n m order) g (m g) places) first
    (subst (λ k. Heard b (row_moves (frames_want n m order) k (m k) places) c) is
    (subst (λ (t : ℕ → Bool). Heard b (row_moves t f (m f) places) c) (fun_ext marks) last)))

pub frame_marks : (order : List ℕ) (m : Places) (n f : ℕ) (now then_ : ℕ → Bool) → f ≡ get_or order n 0
    → ((l : ℕ) → now l ≡ frames_want n m order l) → ((l : ℕ) → then_ l ≡ (now l || row_wants (m f) l))
    → (l : ℕ) → then_ l ≡ frames_want (n + 1) m order l
frame_marks order m n f now then_ is marks more l =
    more l ∙ ap₂ (λ y k. y || row_wants (m k) l) (marks l) is
    ∙ ap (λ k. frames_want k m order l) (sym (add-one n))

-- the tick -----------------------------------------------------------------------------------------

-- what is held is not counted
none_held : (n p : ℕ) (s : Stand) → Nothing (held_notes n p s)
none_held n p stand.Nowhere = λ k. refl
none_held n p (stand.Away trip a) = λ k. refl
none_held n p (stand.Held trip zero) = λ k. refl
none_held n p (stand.Held trip (suc h)) = λ k. refl

same_below : (k : Statistic) (f g : ℕ → List Note) → ((n : ℕ) → tally (weigh k) (f n) ≡ tally (weigh k) (g n)) → (n : ℕ)
    → tally (weigh k) (below f n) ≡ tally (weigh k) (below g n)
same_below k f g same zero = refl
same_below k f g same (suc n) =
    joined (weigh k) (below f n) (f n) ∙ ap₂ (λ (x y : ℕ). x + y) (same_below k f g same n) (same n)
    ∙ sym (joined (weigh k) (below g n) (g n))

same_row : (k : Statistic) (before : ℕ → Bool) (n : ℕ) (row after : ℕ → Stand)
    → tally (weigh k) (row_notes before n row after) ≡ tally (weigh k) (row_moves before n row places)
same_row k before n row after = same_below k
    (λ p. moved_notes (is_free before row p (row p)) n p (row p) ++ held_notes n p (after p))
    (λ p. moved_notes (is_free before row p (row p)) n p (row p))
    (λ p. let both = joined (weigh k) (moved_notes (is_free before row p (row p)) n p (row p))
    (held_notes n p (after p)) in
    let none = none_held n p (after p) k in
    omega (arith, both, none)) places

same_tick : (k : Statistic) (order : List ℕ) (m after : Places)
    → tally (weigh k) (tick_notes order m after) ≡ tally (weigh k) (frame_moves order m (length order))
same_tick k order m after = same_below k
    (λ a. row_notes (frames_want a m order) (get_or order a 0) (m (get_or order a 0)) (after (get_or order a 0)))
    (λ a. row_moves (frames_want a m order) (get_or order a 0) (m (get_or order a 0)) places)
    (λ a. same_row k (frames_want a m order) (get_or order a 0) (m (get_or order a 0)) (after (get_or order a 0)))
    (length order)

-- what is heard of the parcels before a tick is heard of the tick
pub tick_heard : (order : List ℕ) (m after : Places) (a b : Tallies)
    → Heard a (frame_moves order m (length order)) b → Heard a (tick_notes order m after) b
tick_heard order m after a b heard = λ k room.
    let same = same_tick k order m after in
    let more : number_of k b ≡ number_of k a + tally (weigh k) (frame_moves order m (length order)) =
    heard k (omega (arith, same, room)) in
    omega (arith, same, more)

-- The program that comes first sees each part of a cycle as a grid of its own does.
use Rattle.std.proofs.Common.{◌≡◌, ℕ, ◌+◌, ◌*◌, ◌/◌, ◌%◌, ◌<◌, ◌&&◌, ◌⊎◌, inl, inr, true, cond, nat_lt, List, []}
use Rattle.std.proofs.Common.{◌∷◌, length, Option, None, is_some, not, refl, ap, ◌∙◌, arith}
use Rattle.std.proofs.lemmas.Bool.{cond_both, cond-true, lt-ltb, le-ltb}
use Rattle.operand_net.specs.Places.{Places}
use Rattle.commit_flush_spec.specs.Frames.{Frame}
use Rattle.grid_cycle_spec.specs.Grid.{Grid, Fetching, numbers_of}
use Rattle.grid_cycle_spec.specs.Ends.{ends}
use Rattle.grid_cycle_spec.specs.Fetches.{fetch_ends, begins, begun_after, fetches}
use Rattle.grid_cycle_spec.specs.Banks.{bank_turn, reads_answered}
use Rattle.grid_cycle_spec.specs.DataTiles.{data_turn, answers}
use Rattle.grid_cycle_spec.specs.inside.Arrivals.{arrivals}
use Rattle.smt_spec.specs.Programs.{Four, alone, put, mesh, travelled, is_idle}
use Rattle.smt_spec.specs.Turns.{first_does, all_four}
use Rattle.smt_spec.specs.inside.Among.{Apart, Distinct, Has}
use Rattle.smt_spec.specs.Parts.{Images, ends_of, fetches_go_on, may_begin, fetches_of, has_read, bank_turn_of}
use Rattle.smt_spec.specs.Parts.{reads_of, has_request, data_turn_of, answers_of, arrivals_of}
use Rattle.smt_spec.proofs.SeenAlone.{put_same, first_alone, first_others, all_alone, all_at, each_alone}
use Rattle.smt_spec.proofs.SharedLeft.{ends_kept, fetched_kept, begins_kept, bank_kept, tile_kept, arrivals_kept}
use Rattle.smt_spec.proofs.NothingChosen.{no_read, no_request}

-- none of the four is named twice
pub four_once : Distinct all_four
four_once = ((refl, (refl, (refl, tt))), ((refl, (refl, tt)), ((refl, tt), (tt, tt))))

module _ {W : Type 0} (images : Images) (budget : ℕ) (p : ℕ) (ps : List ℕ) (apart : Apart p ps) where
  -- (1)
  pub ends_first : (g : Four W) → alone p (ends_of images budget (p ∷ ps) g) ≡ ends (images p) budget (alone p g)
  ends_first g = all_alone (λ q. ends (images q) budget) (λ q h. ends_kept (images q) budget h) p ps g apart

  -- (2): it begins no fetch only where the fetch unit works for another, or where it begins none itself
  pub going_first : Has p all_four → (g : Four W) → alone p (fetches_go_on images budget g)
      ≡ fetch_ends (images p) budget (alone p g).fetching (alone p g)
  going_first there g = all_at (λ q h. fetch_ends (images q) budget h.fetching h)
      (λ q h. fetched_kept (images q) budget h.fetching h) p all_four g four_once there

  abbrev on : Four W → Four W
  on g = fetches_go_on images budget g

  -- part (2) of the program that comes first is whole, or begins no fetch
  pub fetches_first : Has p all_four → (g : Four W)
      → (alone p (fetches_of images budget (p ∷ ps) g) ≡ fetches (images p) budget (alone p g))
      ⊎ (alone p (fetches_of images budget (p ∷ ps) g) ≡ fetch_ends (images p) budget (alone p g).fetching (alone p
      g))
  fetches_first there g = cond_both (is_idle (on g)) (first_does (may_begin images) (λ q. begins (images q)) (p ∷
      ps) (on g)) (on g)
      (λ (x : Four W). (alone p x ≡ fetches (images p) budget (alone p g))
      ⊎ (alone p x ≡ fetch_ends (images p) budget (alone p g).fetching (alone p g)))
      (λ e. first)
      (λ e. inr (going_first there g))
    where
      first : (alone p (first_does (may_begin images) (λ q. begins (images q)) (p ∷ ps) (on g))
          ≡ fetches (images p) budget (alone p g))
          ⊎ (alone p (first_does (may_begin images) (λ q. begins (images q)) (p ∷ ps) (on g))
          ≡ fetch_ends (images p) budget (alone p g).fetching (alone p g))
      first = cond_both (may_begin images p (alone p (on g))) (put p (begins (images p) (alone p (on g))) (on g))
          (first_does (may_begin images) (λ q. begins (images q)) ps (on g))
          (λ (x : Four W). (alone p x ≡ fetches (images p) budget (alone p g))
          ⊎ (alone p x ≡ fetch_ends (images p) budget (alone p g).fetching (alone p g)))
          (λ e. inl (put_same p (begins (images p) (alone p (on g))) (on g) ∙ ap (begins (images p)) (going_first
          there g)))
          (λ e. inr (first_others (may_begin images) (λ q. begins (images q)) (λ q h. begins_kept (images q) budget h)
          p ps (on g) apart ∙ going_first there g))

  -- without a frame in flight it begins a fetch where the unit is idle
  pub fetch_due_first : Has p all_four → (g : Four W)
      → (alone p (fetches_go_on images budget g)).window.frames ≡ []
      → (alone p (fetches_go_on images budget g)).fetching ≡ None
      → is_idle (fetches_go_on images budget g) ≡ true
      → alone p (fetches_of images budget (p ∷ ps) g) ≡ fetches (images p) budget (alone p g)
  fetch_due_first there g none free idle =
      ap (alone p) (cond-true (is_idle (on g)) (first_does (may_begin images) (λ q. begins (images q)) (p ∷ ps) (on
      g)) (on g) idle)
      ∙ ap (alone p) (cond-true (may_begin images p (alone p (on g))) (put p (begins (images p) (alone p (on g)))
      (on g))
      (first_does (may_begin images) (λ q. begins (images q)) ps (on g)) may)
      ∙ put_same p (begins (images p) (alone p (on g))) (on g) ∙ ap (begins (images p)) (going_first there g)
    where
      begun : (l : List Frame) (o : Option Fetching) (h : Grid W) → l ≡ [] → o ≡ None → h.window.frames ≡ l
          → h.fetching ≡ o → (nat_lt (length h.window.frames) 2 && is_some (begins (images p) h).fetching) ≡ true
      begun l o h e f i j = ap (λ (z : Grid W). nat_lt (length z.window.frames) 2 && is_some (begins (images p)
          z).fetching)
          (same_grid h (i ∙ e) (j ∙ f))
          ∙ ap (λ b. is_some (cond b (begun_after (images p) [] (still h)) (still h)).fetching)
          (ap not (le-ltb h.predictor.ahead 0 (omega arith)))
        where
          still : Grid W → Grid W
          still k = record k { window = record k.window { frames = [] }; fetching = None }

          same_grid : (h : Grid W) → h.window.frames ≡ [] → h.fetching ≡ None
              → h ≡ record h { window = record h.window { frames = [] }; fetching = None }
          same_grid h a b = ap (λ l. record h { window = record h.window { frames = l } }) a
              ∙ ap (λ o. record h { window = record h.window { frames = [] }; fetching = o }) b

      may : may_begin images p (alone p (on g)) ≡ true
      may = begun (alone p (on g)).window.frames (alone p (on g)).fetching (alone p (on g)) none free refl refl

  -- (3)
  pub reads_first : (g : Four W) → alone p (reads_of images budget (p ∷ ps) g) ≡ reads_answered (images p) budget
      (alone p g)
  reads_first = each_alone p (bank_turn_of images budget (p ∷ ps)) (bank_turn (images p) budget)
      (λ n g. first_alone (has_read images budget n) (λ q. bank_turn (images q) budget n)
      (λ q h. bank_kept (images q) budget n h) (λ q h e. no_read images budget n q h e) p ps g apart) 4

  -- (4)
  pub answers_first : (g : Four W) → alone p (answers_of images budget (p ∷ ps) g) ≡ answers (images p) budget
      (alone p g)
  answers_first = each_alone p (data_turn_of images budget (p ∷ ps)) (data_turn (images p) budget)
      (λ n g. first_alone (has_request n) (λ q. data_turn (images q) budget n)
      (λ q h. tile_kept (images q) budget n h) (λ q h e. no_request images budget n q h e) p ps g apart) 4

  -- (6)
  pub arrivals_first : (g : Four W) → alone p (arrivals_of images budget (p ∷ ps) g)
      ≡ arrivals (images p) budget (numbers_of (alone p g).window.frames) (alone p g)
  arrivals_first g = all_alone (λ q h. arrivals (images q) budget (numbers_of h.window.frames) h)
      (λ q h. arrivals_kept (images q) budget (numbers_of h.window.frames) h) p ps g apart

-- the mesh's frames 2 p and 2 p + 1 are those of program p
pub mesh_is : {W : Type 0} (g : Four W) (p f : ℕ) → f < 2 → mesh g (2 * p + f) ≡ (g.own p).parcels f
mesh_is g p f l =
    let a : (2 * p + f) / 2 ≡ p = omega (arith, l) in
    let b : (2 * p + f) % 2 ≡ f = omega (arith, l) in
    ap (λ n. (g.own n).parcels ((2 * p + f) % 2)) a ∙ ap (λ n. (g.own p).parcels n) b

-- behind the tick too
pub travelled_is : {W : Type 0} (parcels : Places) (weather : W) (g : Four W) (p f : ℕ) → f < 2
    → ((travelled parcels weather g).own p).parcels f ≡ parcels (2 * p + f)
travelled_is parcels weather g p f l = ap (λ b q. cond b (parcels (2 * p + f) q) ((g.own p).parcels f q)) (lt-ltb f
    2 l)

-- What units do does not hang on how busy the others are.
use Rattle.std.proofs.Common.{◌≡◌, ℕ, zero, suc, ◌*◌, ◌==◌, ◌≤◌, Bool, true, false, cond, List, [], ◌∷◌, Option}
use Rattle.std.proofs.Common.{Some, None, is_some, refl, sym, ap, ◌∙◌, subst}
use Rattle.std.proofs.lemmas.Bool.{cond-false}
use Rattle.trips_isa.specs.declared.block.Block.{Block}
use Rattle.trips_isa.specs.declared.block.Inst.{Inst}
use Rattle.trips_isa.specs.declared.form.Form.{Form}
use Rattle.trips_isa.specs.Forms.{form_of}
use Rattle.block_cases.specs.Orders.{slot_of}
use Rattle.commit_flush_spec.specs.Frames.{Frame, at, target}
use Rattle.grid_cycle_spec.specs.Stations.{tile_node, tile_of, home}
use Rattle.grid_cycle_spec.specs.Grid.{Grid}
use Rattle.grid_cycle_spec.specs.Choosing.{eldest, slots, with_frame}
use Rattle.grid_cycle_spec.specs.Sending.{enters, enters_if, enter_both}
use Rattle.grid_cycle_spec.specs.Units.{result_enters, slot_enters, rests, result_chosen, in_unit, unit_on, ready}
use Rattle.grid_cycle_spec.specs.Units.{takes, issued, issue_chosen, issues}
use Rattle.trips_isa.specs.declared.form.Form.TheVariants as form

-- how busy units are once one of them, busy for n cycles, has turned
abbrev pub less_at : ℕ → ℕ → (ℕ → ℕ) → ℕ → ℕ
less_at k zero u = u
less_at k (suc n) u = λ t. cond (t == k) n (u t)

-- where two tables of units agree they still do behind a turn
pub less_here : (k n : ℕ) (u v : ℕ → ℕ) (t : ℕ) → u t ≡ v t → less_at k n u t ≡ less_at k n v t
less_here k zero u v t e = e
less_here k (suc n) u v t e = ap (λ j. cond (t == k) n j) e

-- where they agree on what is busy they still do
pub less_busy : (k n : ℕ) (u v : ℕ → ℕ) (t : ℕ) → (1 ≤ v t → u t ≡ v t) → 1 ≤ less_at k n v t
    → less_at k n u t ≡ less_at k n v t
less_busy k zero u v t h l = h l
less_busy k (suc n) u v t h l = go (t == k) l
  where
    go : (b : Bool) → 1 ≤ cond b n (v t) → cond b n (u t) ≡ cond b n (v t)
    go true m = refl
    go false m = h m

module _ {W : Type 0} where
  -- the same grid with other units
  abbrev pub with_units : (ℕ → ℕ) → Grid W → Grid W
  with_units u g = record g { units = u }

  abbrev Blind : (Grid W → Grid W) → Type 0
  Blind does = (u : ℕ → ℕ) (g : Grid W) → does (with_units u g) ≡ with_units u (does g)

  one_blind : (from : ℕ) (f : Frame) (place : ℕ) → Blind (enters_if from f place)
  one_blind from f place u g = go (is_some (at f.places place))
    where
      go : (b : Bool) → cond b (enters f.number place from (home f.code (target f.code place)) (with_units u g))
          (with_units u g)
          ≡ with_units u (cond b (enters f.number place from (home f.code (target f.code place)) g) g)
      go true = refl
      go false = refl

  both_blind : (from : ℕ) (f : Frame) (place : ℕ) → Blind (enter_both from f place)
  both_blind from f place u g = ap (enters_if from f (suc place)) (one_blind from f place u g)
      ∙ one_blind from f (suc place) u (enters_if from f place g)

  form_blind : (k : Form) (i : Inst) (s : ℕ) (f : Frame) → Blind (result_enters k i s f)
  form_blind form.Load i s f u g = refl
  form_blind form.Store i s f u g = refl
  form_blind form.Branch i s f u g = refl
  form_blind form.General i s f u g = both_blind (tile_node (tile_of s)) f (2 * s) u g
  form_blind form.Immediate i s f u g = both_blind (tile_node (tile_of s)) f (2 * s) u g
  form_blind form.Constant i s f u g = both_blind (tile_node (tile_of s)) f (2 * s) u g

  slot_blind : (o : Option Inst) (s : ℕ) (f : Frame) → Blind (slot_enters o s f)
  slot_blind None s f u g = refl
  slot_blind (Some i) s f u g = form_blind (form_of i.op) i s f u g

  frame_blind : (does : Frame → Grid W → Grid W) → ((f : Frame) → Blind (does f)) → (n : ℕ) (fs : List Frame)
      → Blind (with_frame n does fs)
  frame_blind does h n [] u g = refl
  frame_blind does h n (f ∷ fs) u g = go (f.number == n) (frame_blind does h n fs u g)
    where
      go : (b : Bool) → with_frame n does fs (with_units u g) ≡ with_units u (with_frame n does fs g)
          → cond b (does f (with_units u g)) (with_frame n does fs (with_units u g))
          ≡ with_units u (cond b (does f g) (with_frame n does fs g))
      go true r = h f u g
      go false r = r

  result_blind : (o : Option (ℕ × ℕ)) → Blind (result_chosen o)
  result_blind None u g = refl
  result_blind (Some q) u g = frame_blind (λ f h. slot_enters (slot_of f.code q.1) q.1 f (rests q.0 q.1 h))
      (λ f v h. slot_blind (slot_of f.code q.1) q.1 f v (rests q.0 q.1 h)) q.0 g.window.frames u g

  -- a unit turns as with other units
  pub unit_blind : (k left : ℕ) (u : ℕ → ℕ) (g : Grid W)
      → unit_on k left (with_units u g) ≡ with_units (less_at k left u) (unit_on k left g)
  unit_blind k zero u g = refl
  unit_blind k (suc zero) u g =
      let o : Option (ℕ × ℕ) = eldest (in_unit g k) slots g.window.frames in
      result_blind o (less_at k 1 u) g
      ∙ sym (ap (with_units (less_at k 1 u)) (result_blind o (less_at k 1 g.units) g))
  unit_blind k (suc (suc left)) u g = refl

  -- and leaves the units so
  pub unit_leaves : (k left : ℕ) (g : Grid W) → (unit_on k left g).units ≡ less_at k left g.units
  unit_leaves k left g = ap (λ (h : Grid W). h.units) (unit_blind k left g.units g)

  -- issues ----------------------------------------------------------------------------------------

  -- what a unit does with the frame that it has chosen
  abbrev fires : List Block → ℕ → ℕ → ℕ × ℕ → Frame → Grid W → Grid W
  fires blocks budget k q f h = issued blocks budget k q.0 q.1 (takes (slot_of f.code q.1)) h

  -- what a tile would issue
  abbrev entry : List Block → ℕ → ℕ → Grid W → Option (ℕ × ℕ)
  entry blocks budget k g = eldest (ready blocks budget g k) slots g.window.frames

  -- y has done with units u what x has done with those of g, at unit k
  pub record Beside (k : ℕ) (u : ℕ → ℕ) (g x y : Grid W) : Type 0 where
    pub is : y ≡ with_units y.units x
    pub here : y.units k ≡ x.units k
    pub others : (t : ℕ) → (t == k) ≡ false → y.units t ≡ u t
    pub plain : (t : ℕ) → (t == k) ≡ false → x.units t ≡ g.units t

  module _ (blocks : List Block) (budget k : ℕ) (u : ℕ → ℕ) (g : Grid W) (e : u k ≡ g.units k) where
    idle_beside : Beside k u g g (with_units u g)
    idle_beside = record { is = refl; here = e; others = λ t z. refl; plain = λ t z. refl }

    frame_beside : (q : ℕ × ℕ) (fs : List Frame) → Beside k u g
        (with_frame q.0 (fires blocks budget k q) fs g)
        (with_frame q.0 (fires blocks budget k q) fs (with_units u g))
    frame_beside q [] = idle_beside
    frame_beside q (f ∷ fs) = go (f.number == q.0) (frame_beside q fs)
      where
        go : (b : Bool) → Beside k u g (with_frame q.0 (fires blocks budget k q) fs g) (with_frame q.0 (fires blocks
            budget k q) fs (with_units u g))
            → Beside k u g (cond b (fires blocks budget k q f g) (with_frame q.0 (fires blocks budget k q) fs g))
            (cond b (fires blocks budget k q f (with_units u g)) (with_frame q.0 (fires blocks budget k q) fs
            (with_units u g)))
        go true r = record {
          is = refl;
          here = ap (λ n. cond (k == k) (takes (slot_of f.code q.1)) n) e;
          others = λ t z. cond-false (t == k) (takes (slot_of f.code q.1)) (u t) z;
          plain = λ t z. cond-false (t == k) (takes (slot_of f.code q.1)) (g.units t) z;
        }
        go false r = r

    chosen_beside : (o : Option (ℕ × ℕ)) → Beside k u g (issue_chosen blocks budget k o g)
        (issue_chosen blocks budget k o (with_units u g))
    chosen_beside None = idle_beside
    chosen_beside (Some q) = frame_beside q g.window.frames

    -- a unit issues as with other units, where it is as busy itself
    pub issues_beside : Beside k u g (issues blocks budget k g) (issues blocks budget k (with_units u g))
    issues_beside = subst (λ n. Beside k u g (issues blocks budget k g) (cond (n == 0)
        (issue_chosen blocks budget k (entry blocks budget k g) (with_units u g)) (with_units u g))) (sym e)
        (go (g.units k == 0))
      where
        go : (b : Bool) → Beside k u g (cond b (issue_chosen blocks budget k (entry blocks budget k g) g) g)
            (cond b (issue_chosen blocks budget k (entry blocks budget k g) (with_units u g)) (with_units u g))
        go true = chosen_beside (entry blocks budget k g)
        go false = idle_beside

  -- what an issue leaves: only the window, its own unit and what is in units change
  abbrev pub rest_of : Grid W → W × ℕ
  rest_of h = (h.weather, h.counts.cycles)

  frame_rest : (blocks : List Block) (budget k : ℕ) (q : ℕ × ℕ) (fs : List Frame) (g : Grid W)
      → rest_of (with_frame q.0 (fires blocks budget k q) fs g) ≡ rest_of g
  frame_rest blocks budget k q [] g = refl
  frame_rest blocks budget k q (f ∷ fs) g = go (f.number == q.0) (frame_rest blocks budget k q fs g)
    where
      go : (b : Bool) → rest_of (with_frame q.0 (fires blocks budget k q) fs g) ≡ rest_of g
          → rest_of (cond b (fires blocks budget k q f g) (with_frame q.0 (fires blocks budget k q) fs g)) ≡ rest_of g
      go true r = refl
      go false r = r

  -- an issue leaves the weather and the count of cycles
  pub issues_rest : (blocks : List Block) (budget k : ℕ) (g : Grid W)
      → rest_of (issues blocks budget k g) ≡ rest_of g
  issues_rest blocks budget k g = go (g.units k == 0)
    where
      chosen : (o : Option (ℕ × ℕ)) → rest_of (issue_chosen blocks budget k o g) ≡ rest_of g
      chosen None = refl
      chosen (Some q) = frame_rest blocks budget k q g.window.frames g

      go : (b : Bool) → rest_of (cond b (issue_chosen blocks budget k (entry blocks budget k g) g) g) ≡ rest_of g
      go true = chosen (entry blocks budget k g)
      go false = refl

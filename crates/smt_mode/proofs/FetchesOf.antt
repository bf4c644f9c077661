-- The fetches of four programs go on, one after another.
use Rattle.std.proofs.Common.{◌≡◌, ℕ, ap, ap₂, ◌∙◌}
use Rattle.grid_cycle_spec.specs.Fetches.{fetch_ends}
use Rattle.smt_spec.specs.Programs.{Four, alone, put}
use Rattle.smt_spec.specs.Parts.{Images, fetches_go_on}
use Rattle.smt_mode.specs.declared.machine.Machine.{Machine}
use Rattle.smt_mode.specs.Machines.{four_of, images_of}
use Rattle.smt_mode.specs.inside.Rooms.{Keeps}
use Rattle.smt_mode.proofs.OneProgram.{kept_then}

-- the fetch of one program goes on
abbrev on : {W : Type 0} → Images → ℕ → ℕ → Four W → Four W
on images budget p g = put p (fetch_ends (images p) budget (alone p g).fetching (alone p g)) g

-- two machines one after another
pub after_two : {W : Type 0} (i j : ℕ) (m k h : Machine W) → Keeps i m k → Keeps j k h → Keeps j m h
after_two i j m k h a b = kept_then i j m.programs.items k.programs.items h.programs.items m.budget k.budget h.budget
    m.cycles k.cycles h.cycles a b

-- one more behind others
more_on : {W : Type 0} (i p : ℕ) (m k h : Machine W) (g : Four W) → Keeps i m k
    → four_of h ≡ on (images_of k) k.budget p (four_of k) → four_of k ≡ g
    → four_of h ≡ on (images_of m) m.budget p g
more_on i p m k h g kept e is = e ∙ ap₂ (λ bs b. on bs b p (four_of k)) kept.images kept.budget
    ∙ ap (on (images_of m) m.budget p) is

module _ {W : Type 0} (m a b c d : Machine W) where
  -- the fetches of all four have gone on
  pub four_on : four_of a ≡ on (images_of m) m.budget 0 (four_of m) → Keeps 1 m a
      → four_of b ≡ on (images_of a) a.budget 1 (four_of a) → Keeps 2 a b
      → four_of c ≡ on (images_of b) b.budget 2 (four_of b) → Keeps 3 b c
      → four_of d ≡ on (images_of c) c.budget 3 (four_of c) → Keeps 4 c d
      → (four_of d ≡ fetches_go_on (images_of m) m.budget (four_of m)) × Keeps 4 m d
  four_on ca ka cb kb cc kc cd kd =
      let k2 : Keeps 2 m b = after_two 1 2 m a b ka kb in
      let k3 : Keeps 3 m c = after_two 2 3 m b c k2 kc in (
        more_on 3 3 m c d _ k3 cd (more_on 2 2 m b c _ k2 cc (more_on 1 1 m a b _ ka cb ca)),
        after_two 3 4 m c d k3 kd,
      )

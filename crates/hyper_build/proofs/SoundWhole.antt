-- The blocks of a whole program are sound, and followed.
use Rattle.std.proofs.Common.{◌≡◌, ℕ, zero, suc, ◌+◌, ◌^◌, ◌<◌, ◌≤◌, false, List, [], ◌∷◌}
use Rattle.std.proofs.Common.{length, Some, refl, subst, arith, slice_get}
use Rattle.trips_isa.specs.Stores.{data_size}
use Rattle.ir_forms.specs.inside.Limits.{label_count}
use Rattle.ir_forms.specs.declared.hyper.Exit.{Exit}
use Rattle.ir_forms.specs.declared.hyper.Exit.TheVariants as exit
use Rattle.ir_forms.specs.inside.Frames.{frame_limit}
use Rattle.ir_forms.specs.inside.HyperCode.{Tail, Leave, Test, Block}
use Rattle.ir_forms.specs.inside.HyperFits.{FitsExit, FitsTail, FitsHyper, LeadsOn, AllLeadOn, IsFollowed}
use Rattle.hyper_build.specs.inside.Tree.{Routine}
use Rattle.hyper_build.specs.inside.Parts.{cut_blocks, moved_blocks}
use Rattle.hyper_build.specs.inside.Passing.{parameter_moves, parameter_cuts}
use Rattle.hyper_build.specs.inside.Routines.{way_out, place_of, parameters_size, body_label}
use Rattle.hyper_build.specs.inside.Routines.{body_entry, to_body, routine_size, routine_blocks, entry_from}
use Rattle.hyper_build.specs.inside.Routines.{all_blocks, built}
use Rattle.hyper_build.specs.inside.World.{World}
use Rattle.hyper_build.specs.inside.Fits.{FitsRoutine}
use Rattle.hyper_build.specs.inside.Followed.{FollowedExit, FollowedTail, AreFollowed}
use Rattle.hyper_build.proofs.Sound.{GoodPlace}
use Rattle.hyper_build.proofs.SoundMoves.{SoundExit, SoundTail, Sound, AllSound, MovesFit}
use Rattle.hyper_build.proofs.SoundMoves.{register_small, capped_word, sound_append, cut_sound, cuts_sound}
use Rattle.hyper_build.proofs.Sound.{sound_tree}
use Rattle.hyper_build.proofs.SoundMoves.{moved_sound, moves_sound}
use Rattle.hyper_build.proofs.Counts.{sizes, length_all}
use Rattle.hyper_build.proofs.Follows.{built_followed}

parameters_fit : (i n : ℕ) → i + n ≤ 8 → MovesFit (parameter_moves i n)
parameters_fit i zero le = tt
parameters_fit i (suc n) le = (
  register_small i (omega (arith, le)),
  omega (arith, le),
  parameters_fit (suc i) n (omega (arith, le)),
)

-- FUNCTIONS

module _ (W : World) (N : ℕ) (entries : ℕ → ℕ) (some : 2 < N) (within : (f : ℕ) → entries f < N)
    (known : (f : ℕ) (r : Routine) → slice_get W.routines f ≡ Some r → r.params ≤ 8) (end : ℕ)
    (low : end < 2 ^ 64) where
  out_sound : (g : Routine) → Sound N (way_out g)
  out_sound g = record {
    items = (omega arith, refl, omega arith, capped_word _, (omega arith, refl, omega arith, tt));
    tail = tt;
  }

  place_good : (g : Routine) → GoodPlace N false (place_of g entries)
  place_good g = record {
    gave = out_sound g;
    entries = within;
    ends = omega (arith, some);
    broke = λ e. omega (arith, some);
    again = λ e. omega (arith, some);
  }

  routine_sound : (e : ℕ) (g : Routine) → FitsRoutine W g → e + routine_size g ≤ N
      → AllSound N (routine_blocks end entries e g)
  routine_sound e g t le =
      let cuts = parameter_cuts g.small in
      let moves = parameter_moves 0 g.params in
      let body = body_entry g entries e in
      let next = to_body g entries e in
      let params = t.few in
      let m = parameters_fit 0 g.params (omega (arith, params)) in
      let b = sound_tree W g t.scalars N known false (place_of g entries) g.body (body_label g e)
      (way_out g) t.body (place_good g) (omega (arith, le)) (out_sound g) in
      let c = cut_sound N g.small (e + 2 + parameters_size g) body (omega (arith, le)) b.0 in
      let w = moved_sound N cuts 0 moves (e + 2) next m (omega (arith, le)) c in
      let ws = moves_sound N cuts 0 moves (e + 2) next m (omega (arith, le)) c in (
        record {
          items = (
            omega arith,
            refl,
            omega arith,
            capped_word _,
            (omega arith, refl, low, omega arith, tt),
          );
          tail = (omega arith, some, omega (arith, le));
        },
        (
          record {
            items = (
              refl,
              omega arith,
              omega arith,
              (omega arith, refl, omega arith, capped_word _, w.items),
            );
            tail = w.tail;
          },
          sound_append N (moved_blocks cuts 0 moves (e + 2) next) _ ws
              (sound_append N (cut_blocks g.small body) _ (cuts_sound N g.small body b.0) b.1),
        ),
      )

  all_sound : (e : ℕ) (gs : List Routine)
      → ((f : ℕ) (g : Routine) → slice_get gs f ≡ Some g → FitsRoutine W g) → e + sizes gs ≤ N
      → AllSound N (all_blocks end entries e gs)
  all_sound e [] t le = tt
  all_sound e (g ∷ gs) t le =
      sound_append N (routine_blocks end entries e g) (all_blocks end entries (e + routine_size g) gs)
      (routine_sound e g (t 0 g refl) (omega (arith, le)))
      (all_sound (e + routine_size g) gs (λ f g q. t (suc f) g q) (omega (arith, le)))

-- PROGRAMS

entries_within : (e : ℕ) (gs : List Routine) (f : ℕ) → 1 ≤ e → entry_from e gs f < e + sizes gs
entries_within e [] f le = omega (arith, le)
entries_within e (g ∷ gs) zero le = omega (arith, le)
entries_within e (g ∷ gs) (suc f) le =
    let h = entries_within (e + routine_size g) gs f (omega (arith, le)) in omega (arith, h)

-- a program has three blocks besides those of its routines
pub length_built : (base : ℕ) (gs : List Routine) (main : ℕ)
    → length (built base gs main) ≡ 3 + sizes gs
length_built base gs main =
    let h = length_all (base + frame_limit) (entry_from 3 gs) 3 gs in omega (arith, h)

-- a function has at least two blocks
some_blocks : (gs : List Routine) (f : ℕ) (r : Routine) → slice_get gs f ≡ Some r → 2 ≤ sizes gs
some_blocks [] f r e = absurd (cc e)
some_blocks (g ∷ gs) f r e = omega arith

built_sound : (W : World) (base : ℕ) (gs : List Routine) (main : ℕ) (r : Routine)
    → slice_get gs main ≡ Some r
    → ((f : ℕ) (g : Routine) → slice_get gs f ≡ Some g → FitsRoutine W g)
    → ((f : ℕ) (r : Routine) → slice_get W.routines f ≡ Some r → r.params ≤ 8)
    → base + frame_limit ≤ data_size
    → AllSound (length (built base gs main)) (built base gs main)
built_sound W base gs main r found t known room =
    let N = length (built base gs main) in
    let n = length_built base gs main in
    let m = some_blocks gs main r found in
    let within : (f : ℕ) → entry_from 3 gs f < length (built base gs main) = λ f. let h =
    entries_within 3 gs f (omega arith) in omega (arith, n, h) in
    let low : base + frame_limit < 2 ^ 64 = omega (arith, room) in (
      record {
        items = (omega arith, refl, omega (arith, low), omega arith, tt);
        tail = (within main, omega (arith, n));
      },
      (
        record { items = (omega arith, refl, omega arith, omega arith, tt); tail = omega (arith, n) },
        (
          record {
            items = (omega arith, refl, omega arith, omega arith, tt);
            tail = omega (arith, n, m);
          },
          all_sound W N (entry_from 3 gs) (omega (arith, n)) within known (base + frame_limit)
              low 3 gs t (omega (arith, n)),
        ),
      ),
    )

-- BLOCKS BY THEIR NUMBERS

sound_at : (N : ℕ) (bs : List Block) (k : ℕ) (b : Block) → slice_get bs k ≡ Some b → AllSound N bs
    → Sound N b
sound_at N [] k b e s = absurd (cc e)
sound_at N (x ∷ bs) zero b e s = let q : x ≡ b = cc e in subst (Sound N) q s.0
sound_at N (x ∷ bs) (suc k) b e s = sound_at N bs k b e s.1

followed_at : (l : ℕ) (bs : List Block) (k : ℕ) (b : Block) → slice_get bs k ≡ Some b
    → AreFollowed l bs → FollowedTail (l + k + 1) b.tail
followed_at l [] k b e s = absurd (cc e)
followed_at l (x ∷ bs) zero b e s =
    let z : l + 1 ≡ l + 0 + 1 = omega arith in
    let q : x ≡ b = cc e in
    subst (λ i. FollowedTail i b.tail) z
    (subst (λ (b : Block). FollowedTail (l + 1) b.tail) q s.0)
followed_at l (x ∷ bs) (suc k) b e s =
    let z : l + 1 + k + 1 ≡ l + suc k + 1 = omega arith in
    subst (λ i. FollowedTail i b.tail) z (followed_at (l + 1) bs k b e s.1)

exit_leads : (k N : ℕ) (e : Exit) → FollowedExit (k + 1) e → SoundExit N e → LeadsOn k N e
exit_leads k N (exit.Jump l) f s = s
exit_leads k N (exit.Call l back) f s = (s.0, omega (arith, f), s.1)
exit_leads k N exit.Return f s = tt
exit_leads k N (exit.System l) f s = (omega (arith, f), s)

tail_leads : (k N : ℕ) (t : Tail) → FollowedTail (k + 1) t → SoundTail N t → AllLeadOn k N t
tail_leads k N (Leave e) f s = exit_leads k N e f s
tail_leads k N (Test t one other) f s =
    (tail_leads k N one f.0 s.1, tail_leads k N other f.1 s.2)

exit_fits : (N : ℕ) (e : Exit) → N ≤ label_count → SoundExit N e → FitsExit e
exit_fits N (exit.Jump l) le s = omega (arith, le, s)
exit_fits N (exit.Call l back) le s =
    let a = s.0 in let b = s.1 in (omega (arith, le, a), omega (arith, le, b))
exit_fits N exit.Return le s = tt
exit_fits N (exit.System l) le s = omega (arith, le, s)

tail_fits : (N : ℕ) (t : Tail) → N ≤ label_count → SoundTail N t → FitsTail t
tail_fits N (Leave e) le s = exit_fits N e le s
tail_fits N (Test t one other) le s = (s.0, tail_fits N one le s.1, tail_fits N other le s.2)

-- what holds of a program's blocks
pub record AreBlocks (B : List Block) : Type 0 where
  pub followed : IsFollowed B
  pub fit : length B ≤ label_count → (k : ℕ) (b : Block) → slice_get B k ≡ Some b → FitsHyper b

-- routines that fit make blocks that are sound and followed
pub built_blocks : (W : World) (base : ℕ) (gs : List Routine) (main : ℕ) (r : Routine)
    → slice_get gs main ≡ Some r
    → ((f : ℕ) (g : Routine) → slice_get gs f ≡ Some g → FitsRoutine W g)
    → ((f : ℕ) (r : Routine) → slice_get W.routines f ≡ Some r → r.params ≤ 8)
    → base + frame_limit ≤ data_size → AreBlocks (built base gs main)
built_blocks W base gs main r found t known room =
    let B = built base gs main in
    let sound = built_sound W base gs main r found t known room in
    record {
      followed = λ k b e.
          let z : 0 + k + 1 ≡ k + 1 = omega arith in
          tail_leads k (length B) b.tail
          (subst (λ i. FollowedTail i b.tail) z (followed_at 0 B k b e (built_followed base gs main)))
          (sound_at (length B) B k b e sound).tail;
      fit = λ le k b e.
          let s = sound_at (length B) B k b e sound in
          record { items = s.items; tail = tail_fits (length B) b.tail le s.tail };
    }

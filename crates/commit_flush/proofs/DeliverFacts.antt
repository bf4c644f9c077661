-- What Deliver makes of a window in code: where the token comes to a write, the banks keep it.
use Rattle.std.proofs.Common.{◌≡◌, ◌≢◌, ℕ, zero, suc, ◌+◌, ◌-◌, ◌/◌, ◌%◌, ◌<◌, ◌≤◌, Bool, true}
use Rattle.std.proofs.Common.{false, cond, not, ◌==◌}
use Rattle.std.proofs.Common.{nat_le, List, [], ◌∷◌, Option, Some, None, length, set, slice_get, refl, sym}
use Rattle.std.proofs.Common.{ap, ap₂, ◌∙◌, subst, arith}
use Rattle.std.specs.Prelude.{All, is_none}
use Rattle.std.proofs.lemmas.Bool.Decides.{nat_tests}
use Rattle.std.proofs.lemmas.List.Elements.{All-set, All-get_or}
use Rattle.std.proofs.lemmas.Option.{slice_get_within, get_or_from_slice_get}
use Rattle.trips_isa.specs.declared.block.Token.{Token}
use Rattle.trips_isa.specs.declared.block.Image.{Image}
use Rattle.trips_isa.specs.declared.run.Stepped.{Stepped}
use Rattle.trips_isa.specs.PlaceNumbers.{first_write, first_store}
use Rattle.trips_isa.specs.Rule.{Answer}
use Rattle.trips_isa.specs.Machine.{Machine}
use Rattle.commit_flush_spec.specs.Causes.{NoToken, Done}
use Rattle.commit_flush_spec.specs.Frames.{Frame, at, target, is_target, token_places}
use Rattle.commit_flush_spec.specs.Older.{Older, committed}
use Rattle.commit_flush_spec.specs.InFlight.{Window, change}
use Rattle.commit_flush_spec.specs.inside.Numbered.{seen_at}
use Rattle.commit_flush_spec.specs.Window.{Deliver, can}
use Rattle.commit_flush_spec.specs.inside.Invariant.{IsRunnable}
use Rattle.commit_flush_spec.specs.Dataflow.{can_deliver, deliver, delivered}
use Rattle.commit_flush_spec.proofs.Lists.{other_at, set_here}
use Rattle.commit_flush_spec.proofs.Frames.{not_now}
use Rattle.commit_flush_spec.proofs.Free.{all_free}
use Rattle.commit_flush_spec.proofs.Numbers.{deliver_number}
use Rattle.reg_bank.specs.inside.Ages.{Ages}
use Rattle.reg_bank.specs.declared.answer.Held.{Held}
use Rattle.reg_bank.specs.declared.answer.Held.TheVariants.{Waiting, Came}
use Rattle.commit_flush.specs.Places.{numbers_of}
use Rattle.commit_flush.specs.inside.Places.{age_of, frame_of}
use Rattle.commit_flush.specs.inside.Banked.{came, held, held_if, held_by}
use Rattle.commit_flush.specs.inside.Kept.{AreKept}
use Rattle.commit_flush.proofs.OrderFacts.{place_is}
use Rattle.commit_flush.proofs.BankFacts.{AreOnce, writes_once, holds_same, holds_more, is_waiting}
use Rattle.commit_flush.proofs.FrameFacts.{has_age, frame_ok, free_at, runnable}
use Rattle.commit_flush.proofs.KeptFacts.{alone_kept, write_kept}
use Rattle.frame_state.specs.declared.phase.Phase.{Phase}
use Rattle.frame_state.specs.inside.Phases.{HasBlock, Keeps, changed, frame_in, slots_of}
use Rattle.frame_state.specs.inside.Told.{register_to, token_in, write_at}
use Rattle.frame_state.specs.inside.Tried.{IsFreeIn}
use Rattle.commit_flush.specs.inside.Seen.{IsSound, window_of}
use Rattle.commit_flush.specs.inside.Tokens.{with_token, AwaitsToken}
use Rattle.commit_flush.proofs.SeenFacts.{good, found, mapped_slot, numbers_seen}
use Rattle.commit_flush.proofs.EventFacts.{Becomes, becomes, made, running, same_generations, same_numbers}
use Rattle.commit_flush.proofs.EventFacts.{below_eight, changed_slots, changed_frames}

-- tokens at writes --------------------------------------------------------------------------------

-- what a register is once the token t came to this one, if it came to one
abbrev come_to : Option ℕ → Token → ℕ → Held → Held
come_to None t r h = h
come_to (Some y) t r h = cond (r == y) (Came t) h

-- a token that comes behind the last write changes no register
holds_past : (rs : List ℕ) (w k : ℕ) (old new : ℕ → Answer) (r : ℕ) → slice_get rs k ≡ None
    → ((q : ℕ) → (q ≡ first_write + (w + k) → ⊥) → new q ≡ old q) → held_by rs w new r ≡ held_by rs w old r
holds_past [] w k old new r e s = refl
holds_past (x ∷ xs) w zero old new r e s = absurd (cc)
holds_past (x ∷ xs) w (suc k) old new r e s =
    let on : w + suc k ≡ suc w + k = omega arith in
    ap₂ (λ v m. cond (r == x) (came v) m) (s (first_write + w) (λ q. omega arith))
    (holds_past xs (suc w) k old new r e (λ q z. s q (λ u. z (u ∙ ap (λ i. first_write + i) on))))

-- a token at a place of the block
arrives : (rs : List ℕ) (spots : List Answer) (q : ℕ) (t : Token) (r : ℕ) → AreOnce rs → q < length spots
    → held_by rs 0 (at (set spots q (Some t))) r ≡ come_to (write_at rs q) t r (held_by rs 0 (at spots) r)
arrives rs spots q t r once l = go (nat_le first_write q) refl
  where
    other : (p : ℕ) → (p ≡ q → ⊥) → at (set spots q (Some t)) p ≡ at spots p
    other p ne = other_at spots q p (Some t) ne

    at_write : first_write ≤ q → (y : Option ℕ) → slice_get rs (q - first_write) ≡ y
        → held_by rs 0 (at (set spots q (Some t))) r ≡ come_to y t r (held_by rs 0 (at spots) r)
    at_write g None e =
        let its : q ≡ first_write + (0 + (q - first_write)) = omega arith in
        holds_past rs 0 (q - first_write) (at spots) (at (set spots q (Some t))) r e
        (λ p ne. other p (λ z. ne (z ∙ its)))
    at_write g (Some y) e =
        let its : q ≡ first_write + (0 + (q - first_write)) = omega arith in
        holds_more rs 0 (q - first_write) y (at spots) (at (set spots q (Some t))) t r once e
        (ap (at (set spots q (Some t))) (sym its) ∙ set_here spots q (Some t) l)
        (λ p ne. other p (λ z. ne (z ∙ its)))

    go : (b : Bool) → nat_le first_write q ≡ b → held_by rs 0 (at (set spots q (Some t))) r
        ≡ come_to (cond b (slice_get rs (q - first_write)) None) t r (held_by rs 0 (at spots) r)
    go true e = at_write (grind (arith, nat_tests)) (slice_get rs (q - first_write)) refl
    go false e =
        let low : q < first_write = grind (arith, nat_tests) in
        holds_same rs 0 (at spots) (at (set spots q (Some t))) r (λ p h. other p (λ z. omega arith))

-- and before it comes its register waits
waits_for : (rs : List ℕ) (spots : List Answer) (q y : ℕ) → AreOnce rs → write_at rs q ≡ Some y → at spots q ≡ None
    → held_by rs 0 (at spots) y ≡ Waiting
waits_for rs spots q y once e n = go (nat_le first_write q) refl e
  where
    go : (b : Bool) → nat_le first_write q ≡ b → cond b (slice_get rs (q - first_write)) None ≡ Some y
        → held_by rs 0 (at spots) y ≡ Waiting
    go true z w =
        let g : first_write ≤ q = grind (arith, nat_tests) in
        let its : q ≡ first_write + (0 + (q - first_write)) = omega arith in
        is_waiting rs 0 (q - first_write) y (at spots) once w (ap (at spots) (sym its) ∙ n)
    go false z w = absurd (cc)

-- a register at a write is one of the 128
registers_below : (rs : List ℕ) (q y : ℕ) → All (λ r. r < 128) rs → write_at rs q ≡ Some y → y < 128
registers_below rs q y all e = go (nat_le first_write q) e
  where
    go : (b : Bool) → cond b (slice_get rs (q - first_write)) None ≡ Some y → y < 128
    go true w = subst (λ x. x < 128) (get_or_from_slice_get rs (q - first_write) y y w)
        (All-get_or (λ r. r < 128) rs (q - first_write) y (slice_get_within rs (q - first_write) y w) all)
    go false w = absurd (cc)

-- the event ---------------------------------------------------------------------------------------

-- what is known of a frame in which a token may be delivered
pub record Delivers (p : ℕ) (f : Frame) : Type 0 where
  pub runs : f.sealed ≡ false
  pub there : at f.places p ≢ None
  pub to : is_target (target f.code p) ≡ true

some_there : (t : Answer) → is_none t ≡ false → t ≢ None
some_there None e z = absurd (cc)
some_there (Some t) e z = absurd (cc)

not_false : (b : Bool) → not b ≡ false → b ≡ true
not_false true e = refl
not_false false e = absurd (cc)

pub may_deliver : (p : ℕ) (o : Older) (f : Frame) → can_deliver p o f ≡ Done → Delivers p f
may_deliver p o f d =
    let a = not_now f.sealed NoToken _ d in
    let b = not_now (is_none (at f.places p)) NoToken _ a.1 in
    let c = not_now (not (is_target (target f.code p))) NoToken _ b.1 in
    record { runs = a.0; there = some_there (at f.places p) b.0; to = not_false _ c.0 }

module _ {image : Image} {budget : ℕ} {machine : Machine} {over : Stepped} {phases : List Phase} {order : List ℕ}
    {registers : Ages} (s : IsSound image budget machine over phases order registers) where
  abbrev old : Window
  old = window_of image.blocks machine.state over phases order

  -- law one token: what is on its way in one of the eight finds no other token where it goes
  pub goes_free : (n : ℕ) (p : Phase) → slice_get phases n ≡ Some p → IsFreeIn image.blocks p
  goes_free n p is = λ f e.
      let a = has_age n old.frames f (sym (found s n p is) ∙ e) in
      free_at old.frames (all_free image.blocks (good s) old.frames (committed machine.state) s.window.frames) a.0 f
      a.2

  -- a register to which a token may be delivered waits for it
  pub awaits : (token : ℕ) → can image.blocks budget (Deliver token) old ≡ Done → (p : Phase)
      → slice_get phases (token / token_places) ≡ Some p
      → ((a : ℕ) → age_of (token / token_places) old.frames ≡ Some a → a < 8)
      → AwaitsToken registers (age_of (token / token_places) old.frames)
      (register_to (token % token_places) (frame_of (token / token_places) old.frames))
  awaits token d p is few =
      let t = running s (Deliver token) NoToken (can_deliver (token % token_places))
      (token / token_places) p is refl d in
      let f : Frame = t.0 in
      let frame : frame_of (token / token_places) old.frames ≡ Some f = sym (found s (token / token_places) p is)
      ∙ t.1 in
      let a = has_age (token / token_places) old.frames f frame in
      let k : Delivers (token % token_places) f = may_deliver (token % token_places)
      (seen_at (committed machine.state) old.frames (token / token_places)) f t.2 in
      let run = runnable image.blocks (good s) old.frames (committed machine.state) s.window.frames
      (token / token_places) f frame in
      subst (λ z. AwaitsToken registers z
      (register_to (token % token_places) (frame_of (token / token_places) old.frames)))
      (sym a.1)
      (subst (λ z. AwaitsToken registers (Some a.0) (register_to (token % token_places) z)) (sym frame)
      (go f a.0 (few a.0 a.1) a.2 run k (write_at f.code.writes.items (target f.code (token % token_places))) refl))
    where
      go : (f : Frame) (a : ℕ) → a < 8 → slice_get old.frames a ≡ Some f → IsRunnable f.code
          → Delivers (token % token_places) f
          → (y : Option ℕ) → write_at f.code.writes.items (target f.code (token % token_places)) ≡ y
          → AwaitsToken registers (Some a) y
      go f a l stands run k None e = tt
      go f a l stands run k (Some y) e = (
        l,
        registers_below f.code.writes.items (target f.code (token % token_places)) y run.fits.each_write e,
        s.kept.banks a y ∙ ap (λ h. held_if h y) stands
            ∙ waits_for f.code.writes.items f.spots (target f.code (token % token_places)) y
            (writes_once f.code run.good.in_order.writes) e
            (free_at old.frames (all_free image.blocks (good s) old.frames (committed machine.state) s.window.frames)
            a f stands (token % token_places) k.there k.to),
      )

  -- frames, order and banks fit together behind it
  stays : (n pl : ℕ) (p : Phase) (f : Frame) (o : Older) → slice_get phases n ≡ Some p
      → frame_in image.blocks p ≡ Some f
      → n < 8 → Delivers pl f → (x : Answer) → at f.places pl ≡ x → (registers2 : Ages)
      → registers2 ≡ with_token registers (age_of n old.frames) (register_to pl (frame_of n old.frames))
      (token_in pl (frame_of n old.frames))
      → AreKept (set (slots_of image.blocks phases) n (Some (deliver pl o f))) order registers2
  stays n pl p f o is w l k None e registers2 kept_is = absurd (k.there e)
  stays n pl p f o is w l k (Some v) e registers2 kept_is =
      let frame : frame_of n old.frames ≡ Some f = sym (found s n p is) ∙ w in
      let a = has_age n old.frames f frame in
      let run : IsRunnable f.code =
      runnable image.blocks (good s) old.frames (committed machine.state) s.window.frames n f frame in
      let ok = frame_ok image.blocks old.frames (committed machine.state) s.window.frames a.0 f a.2 in
      let size : length f.spots ≡ first_store = ok.sized.spots in
      let within : target f.code pl < first_store = (let to = k.to in grind (arith, nat_tests)) in
      by a.0 (place_at a.0 a.1) (write_at f.code.writes.items (target f.code pl)) refl
      (λ r. ap (λ x. held (delivered pl x f) r) e
      ∙ arrives f.code.writes.items f.spots (target f.code pl) v r
      (writes_once f.code run.good.in_order.writes) (omega arith))
      (kept_is ∙ ap (λ z. with_token registers z (register_to pl (frame_of n old.frames))
      (token_in pl (frame_of n old.frames)))
      a.1 ∙ ap (λ z. with_token registers (Some a.0) (register_to pl z) (token_in pl z)) frame
      ∙ ap (with_token registers (Some a.0) (write_at f.code.writes.items (target f.code pl))) e)
    where
      stands : at (slots_of image.blocks phases) n ≡ Some f
      stands = mapped_slot image.blocks phases n p is ∙ w

      numbered : (deliver pl o f).number ≡ n
      numbered = deliver_number pl o f ∙ s.kept.numbered n f stands

      place_at : (a : ℕ) → age_of n old.frames ≡ Some a → slice_get order a ≡ Some n
      place_at a g =
          ap (λ xs. slice_get xs a) (sym (numbers_seen s)) ∙ place_is n (numbers_of old.frames) a g

      by : (a : ℕ) → slice_get order a ≡ Some n → (y : Option ℕ)
          → write_at f.code.writes.items (target f.code pl) ≡ y
          → ((r : ℕ) → held (deliver pl o f) r
          ≡ come_to (write_at f.code.writes.items (target f.code pl)) v r (held f r))
          → registers2
          ≡ with_token registers (Some a) (write_at f.code.writes.items (target f.code pl)) (Some v)
          → AreKept (set (slots_of image.blocks phases) n (Some (deliver pl o f))) order registers2
      by a place None y_is regs two =
          let same : registers2 ≡ registers = two ∙ ap (λ z. with_token registers (Some a) z (Some v)) y_is in
          subst (AreKept (set (slots_of image.blocks phases) n (Some (deliver pl o f))) order) (sym same)
          (alone_kept (slots_of image.blocks phases) order registers s.kept n f (deliver pl o f) stands l numbered
          (λ r. regs r ∙ ap (λ z. come_to z v r (held f r)) y_is))
      by a place (Some y) y_is regs two =
          write_kept (slots_of image.blocks phases) order registers registers2 s.kept n f (deliver pl o f) stands l
          numbered a y v place (λ r. regs r ∙ ap (λ z. come_to z v r (held f r)) y_is)
          (λ b r. ap (λ z. z b r) (two ∙ ap (λ z. with_token registers (Some a) z (Some v)) y_is))

  -- the token comes to its place, and the banks keep it where that is a write
  pub delivers : (token : ℕ) → can image.blocks budget (Deliver token) old ≡ Done → (p q : Phase)
      → slice_get phases (token / token_places) ≡ Some p
      → ((o : Older) → frame_in image.blocks q ≡ changed (deliver (token % token_places) o) (frame_in image.blocks p))
      → HasBlock image.blocks q → Keeps p q → (registers2 : Ages)
      → registers2 ≡ with_token registers (age_of (token / token_places) old.frames)
      (register_to (token % token_places) (frame_of (token / token_places) old.frames))
      (token_in (token % token_places) (frame_of (token / token_places) old.frames))
      → Becomes image budget old (Deliver token) machine over (set phases (token / token_places) q) order registers2
  delivers token d p q is change has keeps registers2 kept_is =
      let t = running s (Deliver token) NoToken (can_deliver (token % token_places))
      (token / token_places) p is refl d in
      let f : Frame = t.0 in
      let o : Older = seen_at (committed machine.state) old.frames (token / token_places) in
      let k : Delivers (token % token_places) f = may_deliver (token % token_places) o f t.2 in
      let new : frame_in image.blocks q ≡ Some (deliver (token % token_places) o f) =
      change o ∙ ap (changed (deliver (token % token_places) o)) t.1
      ∙ ap (λ b. Some (cond b f (deliver (token % token_places) o f))) k.runs in
      becomes s (Deliver token) d machine over (set phases (token / token_places) q) order registers2
      (ap₂ (made machine.state over) (same_generations s (token / token_places) p q is keeps)
      (changed_frames s (token / token_places) p q is keeps (deliver (token % token_places)) f t.1 new))
      (same_numbers s (token / token_places) p q is keeps)
      (All-set (HasBlock image.blocks) phases (token / token_places) q has s.blocks)
      (subst (λ z. AreKept z order registers2)
      (sym (changed_slots s (token / token_places) p q is keeps (deliver (token % token_places) o f) new))
      (stays (token / token_places) (token % token_places) p f o is t.1
      (below_eight s (token / token_places) p q is keeps)
      k (at f.places (token % token_places)) refl registers2 kept_is))
      s.room

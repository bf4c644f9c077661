-- What an event that is tried makes of a window in code: where it happens what it does, else nothing.
use Rattle.std.proofs.Common.{◌≡◌, ℕ, ◌/◌, ◌%◌, ◌<◌, ◌≤◌, List, Option, Some, None, set, get_or, slice_get}
use Rattle.std.proofs.Common.{refl, sym, ap, ◌∙◌, subst, arith}
use Rattle.std.proofs.lemmas.Option.{slice_get_within}
use Rattle.trips_isa.specs.declared.block.Token.{Token}
use Rattle.trips_isa.specs.declared.block.Image.{Image}
use Rattle.trips_isa.specs.declared.run.Stepped.{Stepped}
use Rattle.trips_isa.specs.declared.run.Stepped.TheVariants.{Went, Ended, StackFull, Trap}
use Rattle.trips_isa.specs.Rule.{Answer}
use Rattle.trips_isa.specs.Machine.{Machine}
use Rattle.commit_flush_spec.specs.Causes.{Cause, NoFrame, NoToken, Happened, Done, NotNow}
use Rattle.commit_flush_spec.specs.Frames.{token_places}
use Rattle.commit_flush_spec.specs.Older.{Older, committed}
use Rattle.commit_flush_spec.specs.InFlight.{Window}
use Rattle.commit_flush_spec.specs.inside.Numbered.{seen_at}
use Rattle.commit_flush_spec.specs.Dataflow.{can_fire, fire, can_deliver, deliver}
use Rattle.commit_flush_spec.specs.Window.{Event, Deliver, can, can_now, unless_over, done, happens, if_done}
use Rattle.commit_flush_spec.specs.Window as event
use Rattle.reg_bank.specs.inside.Ages.{Ages}
use Rattle.commit_flush.specs.inside.Places.{age_of, frame_of, place_of}
use Rattle.commit_flush.proofs.FrameFacts.{none_asked}
use Rattle.commit_flush.proofs.OrderFacts.{place_is}
use Rattle.frame_state.specs.declared.phase.Phase.{Phase}
use Rattle.frame_state.specs.inside.Phases.{HasBlock, Keeps, answered, changed, frame_in}
use Rattle.frame_state.specs.inside.Told.{register_to, token_in}
use Rattle.frame_state.specs.inside.Tried.{Leaves, tried}
use Rattle.commit_flush.specs.Seen.{Seen}
use Rattle.commit_flush.specs.inside.Seen.{IsSound, window_of}
use Rattle.commit_flush.specs.inside.Tokens.{with_token, AwaitsToken}
use Rattle.commit_flush.proofs.SeenFacts.{few, found, not_found, numbers_seen, set_stays}
use Rattle.commit_flush.proofs.PhaseFacts.{seen, read_phase}
use Rattle.commit_flush.proofs.AskFacts.{asked}
use Rattle.commit_flush.proofs.EventFacts.{Becomes}
use Rattle.commit_flush.proofs.MoveFacts.{fires}
use Rattle.commit_flush.proofs.DeliverFacts.{awaits, delivers}

-- a token that comes to no register changes no bank
pub no_register : (b : Ages) (age register : Option ℕ) (t : Answer) → register ≡ None
    → b ≡ with_token b age register t
no_register b age None t e = go age
  where
    go : (a : Option ℕ) → b ≡ with_token b a None t
    go None = refl
    go (Some a) = refl
no_register b age (Some r) t e = absurd (cc)

-- while the run goes on an event is answered by its own causes
pub now_is : (o : Stepped) (h : Happened) → o ≡ Went → h ≡ unless_over o h
now_is o h e = sym (ap (λ x. unless_over x h) e)

-- an event is done only while the run goes on
pub went_if_done : (o : Stepped) (h : Happened) → unless_over o h ≡ Done → o ≡ Went
went_if_done Went h e = refl
went_if_done Ended h e = absurd (cc)
went_if_done StackFull h e = absurd (cc)
went_if_done (Trap c) h e = absurd (cc)

-- where an event is done, what happens is what it does
pub happens_done : (v : Seen) (e f : Event) → f ≡ e → can v.image.blocks v.budget f v.window ≡ Done → (new : Seen)
    → new ≡ record v { window = happens v.image.blocks v.budget e v.window }
    → new ≡ record v { window = done v.image.blocks f v.window }
happens_done v e f is d new n =
    let does : happens v.image.blocks v.budget e v.window ≡ done v.image.blocks f v.window =
    ap (λ x. happens v.image.blocks v.budget x v.window) (sym is)
    ∙ ap (λ h. if_done h (done v.image.blocks f v.window) v.window) d in
    subst (λ (w : Window). new ≡ record v { window = w }) does n

-- the parts of a window after an event that is tried and answered so
pub record Turns (image : Image) (budget : ℕ) (old : Window) (e : Event) (h : Happened) (machine : Machine)
    (over : Stepped) (phases : List Phase) (order : List ℕ) (registers : Ages) : Type 0 where
  pub sound : IsSound image budget machine over phases order registers
  pub answer : h ≡ can image.blocks budget e old
  pub same : window_of image.blocks machine.state over phases order ≡ happens image.blocks budget e old

module _ {image : Image} {budget : ℕ} {machine : Machine} {over : Stepped} {phases : List Phase} {order : List ℕ}
    {registers : Ages} (s : IsSound image budget machine over phases order registers) where
  abbrev old : Window
  old = window_of image.blocks machine.state over phases order

  -- where it happens
  pub turned : (e : Event) (phases2 : List Phase) (registers2 : Ages) → Done ≡ can image.blocks budget e old
      → Becomes image budget old e machine over phases2 order registers2
      → Turns image budget old e Done machine over phases2 order registers2
  turned e phases2 registers2 a b = record {
    sound = b.sound;
    answer = a;
    same = b.same ∙ ap (λ z. if_done z (done image.blocks e old) old) a;
  }

  -- where it does not
  pub unturned : (e : Event) (c : Cause) → NotNow c ≡ can image.blocks budget e old
      → Turns image budget old e (NotNow c) machine over phases order registers
  unturned e c a = record {
    sound = s;
    answer = a;
    same = ap (λ z. if_done z (done image.blocks e old) old) a;
  }

  -- an event that is tried at one of the eight
  abbrev TurnsAt : Event → Happened → ℕ → Ages → Phase → Type 0
  TurnsAt e h n registers2 q = Turns image budget old e h machine over (set phases n q) order registers2

  left_alone : (e : Event) (c : Cause) (n : ℕ) (p q : Phase) → slice_get phases n ≡ Some p → q ≡ p
      → NotNow c ≡ can image.blocks budget e old → TurnsAt e (NotNow c) n registers q
  left_alone e c n p q is same a =
      subst (λ xs. Turns image budget old e (NotNow c) machine over xs order registers)
      (sym (set_stays phases n q (is ∙ ap Some (sym same)))) (unturned e c a)

  -- to try to fire an instruction is a turn of the window with the Fire of it
  pub fired : (n slot : ℕ) → over ≡ Went → n < 8 → (h : Happened) (p q : Phase) → p ≡ get_or phases n p
      → ((o : Older) → h ≡ answered (NotNow NoFrame) (can_fire slot) o (frame_in image.blocks p))
      → ((o : Older) → frame_in image.blocks q ≡ changed (tried h (fire slot o)) (frame_in image.blocks p))
      → Leaves h p q → HasBlock image.blocks q → Keeps p q
      → Turns image budget old (event.Fire n slot) h machine over (set phases n q) order registers
  fired n slot went l h p q r answers frame leaves has keeps =
      let is = read_phase s n p l r in
      let now : h ≡ can_now image.blocks budget (event.Fire n slot) old =
      asked (NotNow NoFrame) (can_fire slot) n old.frames (committed machine.state) (frame_in image.blocks p) h
      (found s n p is) (answers (seen_at (committed machine.state) old.frames n)) in
      go h (now ∙ now_is over (can_now image.blocks budget (event.Fire n slot) old) went) frame leaves
    where
      go : (h : Happened) → h ≡ can image.blocks budget (event.Fire n slot) old
          → ((o : Older) → frame_in image.blocks q ≡ changed (tried h (fire slot o)) (frame_in image.blocks p))
          → Leaves h p q → TurnsAt (event.Fire n slot) h n registers q
      go Done a change x = turned (event.Fire n slot) (set phases n q) registers a
          (fires s n slot (sym a) p q r change has keeps)
      go (NotNow c) a change x = left_alone (event.Fire n slot) c n p q (read_phase s n p l r) x a

  -- past the eight nothing fires, and nothing is delivered
  pub not_fired : (n slot : ℕ) → over ≡ Went → 8 ≤ n
      → Turns image budget old (event.Fire n slot) (NotNow NoFrame) machine over phases order registers
  not_fired n slot went l = unturned (event.Fire n slot) NoFrame
      (sym (none_asked (NotNow NoFrame) (can_fire slot) n old.frames (committed machine.state) (not_found s n l))
      ∙ now_is over (can_now image.blocks budget (event.Fire n slot) old) went)

  -- a token of a frame past the eighth is not delivered, and nothing changes
  pub not_delivered : (token : ℕ) → over ≡ Went → 8 ≤ token / token_places
      → Turns image budget old (Deliver token) (NotNow NoToken) machine over phases order registers
  not_delivered token went l = unturned (Deliver token) NoToken
      (sym (none_asked (NotNow NoToken) (can_deliver (token % token_places)) (token / token_places) old.frames
      (committed machine.state) (not_found s (token / token_places) l))
      ∙ now_is over (can_now image.blocks budget (Deliver token) old) went)

  -- what Deliver is answered
  pub answers_deliver : (token : ℕ) → over ≡ Went → token / token_places < 8 → (h : Happened) (p : Phase)
      → p ≡ get_or phases (token / token_places) p
      → ((o : Older) → h ≡ answered (NotNow NoToken) (can_deliver (token % token_places)) o (frame_in image.blocks p))
      → h ≡ can image.blocks budget (Deliver token) old
  answers_deliver token went l h p r answers =
      let is = read_phase s (token / token_places) p l r in
      asked (NotNow NoToken) (can_deliver (token % token_places)) (token / token_places) old.frames
      (committed machine.state) (frame_in image.blocks p) h (found s (token / token_places) p is)
      (answers (seen_at (committed machine.state) old.frames (token / token_places)))
      ∙ now_is over (can_now image.blocks budget (Deliver token) old) went

  -- a token that is not delivered
  pub stayed : (token : ℕ) → over ≡ Went → token / token_places < 8 → (p q : Phase)
      → p ≡ get_or phases (token / token_places) p
      → ((o : Older) → NotNow NoToken
      ≡ answered (NotNow NoToken) (can_deliver (token % token_places)) o (frame_in image.blocks p)) → q ≡ p
      → TurnsAt (Deliver token) (NotNow NoToken) (token / token_places) registers q
  stayed token went l p q r answers same =
      left_alone (Deliver token) NoToken (token / token_places) p q (read_phase s (token / token_places) p l r) same
      (answers_deliver token went l (NotNow NoToken) p r answers)

  -- the place of a number in the order is its age
  aged : (n : ℕ) → place_of n order ≡ age_of n old.frames
  aged n = ap (place_of n) (sym (numbers_seen s))

  below : (n a : ℕ) → place_of n order ≡ Some a → a < 8
  below n a e =
      let l = slice_get_within order a n (place_is n order a e) in
      let most = few s in
      omega (arith, l, most)

  -- a register to which a token comes waits for it
  pub awaits_arrival : (token : ℕ) → over ≡ Went → token / token_places < 8 → (p : Phase)
      → p ≡ get_or phases (token / token_places) p
      → ((o : Older) → Done
      ≡ answered (NotNow NoToken) (can_deliver (token % token_places)) o (frame_in image.blocks p))
      → (register : Option ℕ) → register ≡ register_to (token % token_places) (frame_in image.blocks p)
      → AwaitsToken registers (place_of (token / token_places) order) register
  awaits_arrival token went l p r answers register r_is =
      let is = read_phase s (token / token_places) p l r in
      let d = answers_deliver token went l Done p r answers in
      subst (λ x. AwaitsToken registers x register) (sym (aged (token / token_places)))
      (subst (AwaitsToken registers (age_of (token / token_places) old.frames))
      (sym (r_is ∙ ap (register_to (token % token_places)) (found s (token / token_places) p is)))
      (awaits s token (sym d) p is (λ a e. below (token / token_places) a (aged (token / token_places) ∙ e))))

  -- a token that is delivered
  pub came : (token : ℕ) → over ≡ Went → token / token_places < 8 → (p q : Phase)
      → p ≡ get_or phases (token / token_places) p
      → ((o : Older) → Done
      ≡ answered (NotNow NoToken) (can_deliver (token % token_places)) o (frame_in image.blocks p))
      → ((o : Older) → frame_in image.blocks q ≡ changed (deliver (token % token_places) o) (frame_in image.blocks p))
      → HasBlock image.blocks q → Keeps p q → (register : Option ℕ) (t : Token)
      → register ≡ register_to (token % token_places) (frame_in image.blocks p)
      → Some t ≡ token_in (token % token_places) (frame_in image.blocks p) → (registers2 : Ages)
      → registers2 ≡ with_token registers (place_of (token / token_places) order) register (Some t)
      → TurnsAt (Deliver token) Done (token / token_places) registers2 q
  came token went l p q r answers change has keeps register t r_is t_is registers2 kept_is =
      let n : ℕ = token / token_places in
      let is = read_phase s (token / token_places) p l r in
      let d = answers_deliver token went l Done p r answers in
      let at_n = found s (token / token_places) p is in
      turned (Deliver token) (set phases n q) registers2 d
      (delivers s token (sym d) p q is change has keeps registers2
      (kept_is ∙ ap (λ x. with_token registers x register (Some t)) (aged n)
      ∙ ap (λ x. with_token registers (age_of n old.frames) x (Some t))
      (r_is ∙ ap (register_to (token % token_places)) at_n)
      ∙ ap (with_token registers (age_of n old.frames) (register_to (token % token_places) (frame_of n old.frames)))
      (t_is ∙ ap (token_in (token % token_places)) at_n)))

  -- what is seen of it ----------------------------------------------------------------------------

  -- where the window that is seen goes on, the window in code does
  pub went_inside : (v : Seen) → seen s ≡ v → v.window.over ≡ Went → over ≡ Went
  went_inside v w e = ap (λ (z : Seen). z.window.over) w ∙ e

  -- what an event is answered of the window in code it is answered of the window that is seen
  pub told : (e : Event) (h : Happened) (v : Seen) → seen s ≡ v → h ≡ can image.blocks budget e old
      → h ≡ can v.image.blocks v.budget e v.window
  told e h v w a = a ∙ ap (λ (z : Seen). can z.image.blocks z.budget e z.window) w

  -- what an event makes of the window in code is seen as what it makes of the window that is seen
  pub shown : (e : Event) (v : Seen) → seen s ≡ v → (new : Window) → new ≡ happens image.blocks budget e old
      → (let z : Seen = record { image = image; budget = budget; window = new } in z)
      ≡ record v { window = happens v.image.blocks v.budget e v.window }
  shown e v w new same =
      subst (λ (y : Seen). (let z : Seen = record { image = image; budget = budget; window = new } in z)
      ≡ record y { window = happens y.image.blocks y.budget e y.window }) w
      (ap (λ (u : Window). let z : Seen = record { image = image; budget = budget; window = u } in z) same)

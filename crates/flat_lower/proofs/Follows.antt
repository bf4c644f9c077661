-- One predicate for expressions, statements, loops and calls: what a flat run does where the
-- evaluation went so.
use Rattle.std.proofs.Common.{◌≡◌, ◌≢◌, ℕ, zero, suc, ◌+◌, ◌-◌, ◌*◌, ◌<◌, ◌≤◌, List, [], ◌∷◌}
use Rattle.std.proofs.Common.{Option, Some, None, refl, sym, ap, ◌∙◌, subst, arith}
use Rattle.c_meaning_spec.specs.declared.signal.Signal.{Signal}
use Rattle.c_meaning_spec.specs.declared.signal.Signal.TheVariants.{Nothing, Value, Breaks, Continues}
use Rattle.c_meaning_spec.specs.declared.signal.Signal.TheVariants.{Returns}
use Rattle.c_tree.specs.declared.Kind.TheVariants.{Long}
use Rattle.c_constant.specs.Kinds.{IsWord}
use Rattle.c_meaning_spec.specs.declared.fault.Fault.{Fault}
use Rattle.c_meaning_spec.specs.declared.signal.Halt.{Halt}
use Rattle.c_meaning_spec.specs.declared.signal.Halt.TheVariants.{NoStep, TooDeep, Faults, Exits}
use Rattle.c_meaning_spec.specs.declared.signal.Ending.TheVariants.{More, Undefined, Deep}
use Rattle.c_meaning_spec.specs.State.{Result, Go, Over, spend_of, spend, want, with_some}
use Rattle.c_meaning_spec.specs.inside.State.{then}
use Rattle.c_meaning_spec.specs.State as eval
use Rattle.ir_forms.specs.inside.FlatCode.{Code, Then, Function}
use Rattle.ir_forms.specs.inside.FlatSteps.{State, Env, Res, Gone, Broke, Again, Gave, TooDeep as Sinks, Unfinished}
use Rattle.ir_forms.specs.inside.FlatSteps.{Wild, settle, then_run}
use Rattle.ir_forms.specs.inside.FlatSteps as flat_steps
use Rattle.ir_forms.specs.inside.FlatRuns.{checked}
use Rattle.ir_forms.proofs.Leads.{Run, Leads, Stops, Moves, Waits, leads_from, stops_from}
use Rattle.ir_forms.proofs.Leads.{waits_stop}
use Rattle.ir_forms.proofs.Steps.{code_run, then_moves, first_leads, first_stops, code_waits}
use Rattle.flat_lower.specs.declared.around.Around.{Around}
use Rattle.flat_lower.specs.declared.around.Around.TheVariants as around

-- how a run goes on behind a `continue`: a switch between it and its loop is left first
abbrev pub continues_in : Around → State → ℕ → Res
continues_in around.Nowhere = Again
continues_in around.Loop = Again
continues_in around.Switch = Again
continues_in around.SwitchInLoop = Broke

-- how a run goes on behind what gave a signal, by what stands around it
abbrev pub ends_in : Around → Signal → State → ℕ → Res
ends_in x Nothing = settle
ends_in x (Value w) = settle
ends_in x Breaks = Broke
ends_in x Continues = continues_in x
ends_in x (Returns w) = Gave w

-- the run goes on behind it
abbrev pub Settles : Signal → Type 0
Settles Nothing = Unit {0}
Settles (Value w) = Unit {0}
Settles Breaks = ⊥
Settles Continues = ⊥
Settles (Returns w) = ⊥

-- what is to hold of an end: of its signal and of both states
abbrev pub Post : Type 1
Post = Signal → eval.State → State → Type 0

-- it comes to a state within turns that the steps pay, and the steps are bounded by the rounds
pub record GoesIn (x : Around) (most : ℕ) (P : Post) (run : Run) (top low : ℕ) (v : Signal)
    (s : eval.State) : Type 0 where
  pub t : ℕ
  pub to : State
  pub upper : t + 8 * s.stock ≤ top
  pub lower : low ≤ s.stock + most * to.rounds
  pub holds : P v s to
  pub leads : Leads run t (ends_in x v to)

-- the same in a loop
abbrev pub Goes : ℕ → Post → Run → ℕ → ℕ → Signal → eval.State → Type 0
Goes most P run top low v s = GoesIn around.Loop most P run top low v s

-- a run that ends too deep, within some turns and with the output so far
pub record Dives (run : Run) (top : ℕ) (out : List ℕ) : Type 0 where
  pub t : ℕ
  pub upper : t ≤ top
  pub leads : Leads run t (λ k. Sinks out)

-- a run that has not ended with some turns, and has counted enough rounds
pub record Halts (most : ℕ) (run : Run) (top low : ℕ) (out : List ℕ) : Type 0 where
  pub t : ℕ
  pub r : ℕ
  pub upper : t ≤ top
  pub lower : low ≤ most * r
  pub stops : Stops run t out r

-- the whole run is ended with a word, in a state and with turns left
abbrev pub quits : ℕ → State → ℕ → Res
quits w s k = flat_steps.Halts (flat_steps.Exited w s k)

-- a run that is ended with a word, with the output so far, within turns that the steps pay; and the steps
-- are bounded by the rounds
pub record Quits (most : ℕ) (run : Run) (top low w : ℕ) (s : eval.State) : Type 0 where
  pub t : ℕ
  pub to : State
  pub upper : t + 8 * s.stock ≤ top
  pub lower : low ≤ s.stock + most * to.rounds
  pub output : to.output ≡ s.output
  pub fits : IsWord Long w
  pub leads : Leads run t (λ k. quits w to k)

-- what a flat run does where the evaluation is over: it has not ended, or ends too deep, or is ended with a
-- word, or does anything
abbrev pub FollowsOver : ℕ → Run → ℕ → ℕ → Halt → eval.State → Type 0
FollowsOver most run top low NoStep s = Halts most run top low s.output
FollowsOver most run top low (Faults c) s = Unit {0}
FollowsOver most run top low TooDeep s = Dives run top s.output
FollowsOver most run top low (Exits w) s = Quits most run top low w s

-- what a flat run does inside a loop, a switch or neither, where the evaluation has this result
abbrev pub FollowsIn : Around → ℕ → Post → Run → ℕ → ℕ → Result → Type 0
FollowsIn x most P run top low (Go v s) = GoesIn x most P run top low v s
FollowsIn x most P run top low (Over why s) = FollowsOver most run top low why s

-- the same in a loop, and of what can neither break nor continue
abbrev pub Follows : ℕ → Post → Run → ℕ → ℕ → Result → Type 0
Follows most P run top low r = FollowsIn around.Loop most P run top low r

-- the prefix of a run costs its turns
over_moved : (most : ℕ) (run next : Run) (t top low : ℕ) (why : Halt) (s : eval.State)
    → Moves run t next → t ≤ top → FollowsOver most next (top - t) low why s
    → FollowsOver most run top low why s
over_moved most run next t top low NoStep s m h g = record {
  t = t + g.t;
  r = g.r;
  upper = omega (arith, g.upper);
  lower = g.lower;
  stops = stops_from run next t g.t s.output g.r m g.stops;
}
over_moved most run next t top low (Faults c) s m h g = tt
over_moved most run next t top low TooDeep s m h g = record {
  t = t + g.t;
  upper = omega (arith, g.upper);
  leads = leads_from run next t g.t (λ k. Sinks s.output) m g.leads;
}
over_moved most run next t top low (Exits w) s m h g = record {
  t = t + g.t;
  to = g.to;
  upper = omega (arith, g.upper);
  lower = g.lower;
  output = g.output;
  fits = g.fits;
  leads = leads_from run next t g.t (λ k. quits w g.to k) m g.leads;
}

-- A run in a loop or switch follows where the run does that it comes to after some turns.
pub moved_in : (x : Around) (most : ℕ) (P : Post) (run next : Run) (t top low : ℕ) (r : Result)
    → Moves run t next → t ≤ top → FollowsIn x most P next (top - t) low r
    → FollowsIn x most P run top low r
moved_in x most P run next t top low (Go v s) m h g = record {
  t = t + g.t;
  to = g.to;
  upper = omega (arith, g.upper);
  lower = g.lower;
  holds = g.holds;
  leads = leads_from run next t g.t (ends_in x v g.to) m g.leads;
}
moved_in x most P run next t top low (Over why s) m h g =
    over_moved most run next t top low why s m h g

-- A run follows where the run does that it comes to after some turns.
pub moved : (most : ℕ) (P : Post) (run next : Run) (t top low : ℕ) (r : Result) → Moves run t next
    → t ≤ top → Follows most P next (top - t) low r → Follows most P run top low r
moved = moved_in around.Loop

-- more turns, and fewer steps to account for
over_weaker : (most : ℕ) (run : Run) (top low up down : ℕ) (why : Halt) (s : eval.State) → up ≤ top
    → low ≤ down → FollowsOver most run up down why s → FollowsOver most run top low why s
over_weaker most run top low up down NoStep s h k g =
    record {
      t = g.t;
      r = g.r;
      upper = omega (arith, g.upper);
      lower = omega (arith, g.lower);
      stops = g.stops;
    }
over_weaker most run top low up down (Faults c) s h k g = tt
over_weaker most run top low up down TooDeep s h k g =
    record { t = g.t; upper = omega (arith, g.upper); leads = g.leads }
over_weaker most run top low up down (Exits w) s h k g =
    record {
      t = g.t;
      to = g.to;
      upper = omega (arith, g.upper);
      lower = omega (arith, g.lower);
      output = g.output;
      fits = g.fits;
      leads = g.leads;
    }

-- a step that is spent; with none left the run has not ended
pub spends : (x : Around) (most : ℕ) (P : Post) (run : Run) (top low : ℕ) (s : eval.State) (c : ℕ)
    (next : eval.State → Result) → Waits run s.output c → low ≤ s.stock + most * c
    → ((n : ℕ) → s.stock ≡ suc n → FollowsIn x most P run top low (next (record s { stock = n })))
    → FollowsIn x most P run top low (spend s next)
spends x most P run top low s c next w h f = go s.stock refl
  where
    go : (n : ℕ) → s.stock ≡ n → FollowsIn x most P run top low (spend_of n s next)
    go zero e = record {
      t = 0;
      r = c;
      upper = omega arith;
      lower = omega arith;
      stops = waits_stop run s.output c w;
    }
    go (suc n) e = f n e

-- with what is there
pub needed : {A : Type 0} (most : ℕ) (P : Post) (run : Run) (top low : ℕ) (o : Option A)
    (c : Fault) (s : eval.State) (next : A → Result) → ((a : A) → o ≡ Some a
    → Follows most P run top low (next a)) → Follows most P run top low (with_some o c s next)
needed most P run top low None c s next f = tt
needed most P run top low (Some a) c s next f = f a refl

-- a value that is taken
pub wanted_in : (x : Around) (most : ℕ) (P : Post) (run : Run) (top low : ℕ) (v : Signal)
    (s : eval.State) (next : ℕ → Result)
    → ((w : ℕ) → v ≡ Value w → FollowsIn x most P run top low (next w))
    → FollowsIn x most P run top low (want v s next)
wanted_in x most P run top low Nothing s next f = tt
wanted_in x most P run top low (Value w) s next f = f w refl
wanted_in x most P run top low Breaks s next f = tt
wanted_in x most P run top low Continues s next f = tt
wanted_in x most P run top low (Returns w) s next f = tt

-- What wants a value follows where, with each value that there may be, the rest does.
pub wanted : (most : ℕ) (P : Post) (run : Run) (top low : ℕ) (v : Signal) (s : eval.State)
    (next : ℕ → Result) → ((w : ℕ) → v ≡ Value w → Follows most P run top low (next w))
    → Follows most P run top low (want v s next)
wanted = wanted_in around.Loop

-- another predicate for what the run comes to
pub weaker : (most : ℕ) (P Q : Post) (run : Run) (top low : ℕ) (r : Result)
    → ((v : Signal) (s : eval.State) (f : State) → P v s f → Q v s f) → Follows most P run top low r
    → Follows most Q run top low r
weaker most P Q run top low (Go v s) h g =
    record {
      t = g.t;
      to = g.to;
      upper = g.upper;
      lower = g.lower;
      holds = h v s g.to g.holds;
      leads = g.leads;
    }
weaker most P Q run top low (Over why s) h g = g

module _ (fs : List Function) (base most : ℕ) (e : Env) where
  -- the run of some code in a state
  abbrev pub run_of : Code → State → Run
  run_of a f = code_run checked fs base e a f

  over_first : (a b : Code) (f : State) (up down top low : ℕ) (why : Halt) (s : eval.State)
      → up ≤ top → low ≤ down → FollowsOver most (run_of a f) up down why s
      → FollowsOver most (run_of (Then a b) f) top low why s
  over_first a b f up down top low NoStep s h k g = record {
    t = g.t;
    r = g.r;
    upper = omega (arith, g.upper);
    lower = omega (arith, g.lower);
    stops = first_stops checked fs base e a b f g.t s.output g.r g.stops;
  }
  over_first a b f up down top low (Faults c) s h k g = tt
  over_first a b f up down top low TooDeep s h k g = record {
    t = g.t;
    upper = omega (arith, g.upper);
    leads = first_leads checked fs base e a b f g.t (λ k. Sinks s.output) (λ k next. refl) g.leads;
  }
  over_first a b f up down top low (Exits w) s h k g = record {
    t = g.t;
    to = g.to;
    upper = omega (arith, g.upper);
    lower = omega (arith, g.lower);
    output = g.output;
    fits = g.fits;
    leads = first_leads checked fs base e a b f g.t (λ k. quits w g.to k) (λ k next. refl) g.leads;
  }

  pub settles_in : (x : Around) (v : Signal) → Settles v → ends_in x v ≡ settle
  settles_in x Nothing h = refl
  settles_in x (Value w) h = refl
  settles_in x Breaks h = absurd h
  settles_in x Continues h = absurd h
  settles_in x (Returns w) h = absurd h

  -- where a signal settles, a run inside a loop settles too
  pub settles_is : (v : Signal) → Settles v → ends_in around.Loop v ≡ settle
  settles_is = settles_in around.Loop

  -- a part and what follows it, where what follows knows that the run goes on; as it goes on, what stands
  -- around the part may be another
  pub then_follows_in : (z x : Around) (P Q : Post) (a b : Code) (f : State) (up down top low : ℕ)
      (r : Result) (next : Signal → eval.State → Result) → FollowsIn z most P (run_of a f) up down r
      → up ≤ top → low ≤ down
      → ((v : Signal) (s : eval.State) (g : State) (t : ℕ) → r ≡ Go v s → P v s g
      → t + 8 * s.stock ≤ up → down ≤ s.stock + most * g.rounds
      → Settles v × FollowsIn x most Q (run_of b g) (top - t) low (next v s))
      → FollowsIn x most Q (run_of (Then a b) f) top low (then r next)
  then_follows_in z x P Q a b f up down top low (Go v s) next g hu hd h =
      let k = h v s g.to g.t refl g.holds g.upper g.lower in
      let l : Leads (run_of a f) g.t (settle g.to) = subst (λ x. Leads (run_of a f) g.t (x g.to))
      (settles_in z v k.0) g.leads in
      moved_in x most Q (run_of (Then a b) f) (run_of b g.to) g.t top low (next v s)
      (then_moves checked fs base e a b f g.to g.t l) (omega (arith, g.upper)) k.1
  then_follows_in z x P Q a b f up down top low (Over why s) next g hu hd h =
      over_first a b f up down top low why s hu hd g

  -- two codes in a row follow the evaluation of two parts in a row, where each does
  pub then_follows : (P Q : Post) (a b : Code) (f : State) (up down top low : ℕ) (r : Result)
      (next : Signal → eval.State → Result) → Follows most P (run_of a f) up down r → up ≤ top
      → low ≤ down
      → ((v : Signal) (s : eval.State) (g : State) (t : ℕ) → r ≡ Go v s → P v s g
      → t + 8 * s.stock ≤ up → down ≤ s.stock + most * g.rounds
      → Settles v × Follows most Q (run_of b g) (top - t) low (next v s))
      → Follows most Q (run_of (Then a b) f) top low (then r next)
  then_follows = then_follows_in around.Loop around.Loop

  -- what leaves does not go on
  pub leaving_in : (x : Around) (v : Signal) → (Settles v → ⊥) → (h : State) (k : ℕ)
      (next : State → ℕ → Res) → then_run (ends_in x v h k) next ≡ ends_in x v h k
  leaving_in x Nothing n h k next = absurd (n tt)
  leaving_in x (Value w) n h k next = absurd (n tt)
  leaving_in x Breaks n h k next = refl
  leaving_in around.Nowhere Continues n h k next = refl
  leaving_in around.Loop Continues n h k next = refl
  leaving_in around.Switch Continues n h k next = refl
  leaving_in around.SwitchInLoop Continues n h k next = refl
  leaving_in x (Returns w) n h k next = refl

  -- a statement and those behind it: what leaves the first leaves both
  pub leaves_first : (x : Around) (P : Post) (a b : Code) (f : State) (up down top low : ℕ) (v : Signal)
      (s : eval.State) → (Settles v → ⊥) → up ≤ top → low ≤ down
      → GoesIn x most P (run_of a f) up down v s → GoesIn x most P (run_of (Then a b) f) top low v s
  leaves_first x P a b f up down top low v s n hu hd g = record {
    t = g.t;
    to = g.to;
    upper = omega (arith, g.upper);
    lower = omega (arith, g.lower);
    holds = g.holds;
    leads = first_leads checked fs base e a b f g.t (ends_in x v g.to)
        (λ k next. leaving_in x v n g.to k next) g.leads;
  }

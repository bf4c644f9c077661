-- Two runs whose states agree on what is live: what each part of a step keeps of that.
use Rattle.std.proofs.Common.{◌≡◌, ℕ, zero, suc, ◌-◌, Bool, true, false, cond, not}
use Rattle.std.proofs.Common.{◌&&◌, ◌||◌, List, [], ◌∷◌, ◌++◌, Option, Some, None, refl, sym, ap}
use Rattle.std.proofs.Common.{ap₂, ◌∙◌, subst, nat_eq, nat_lt, eq-eqb}
use Rattle.ir_forms.specs.declared.flat.Arg.{Arg}
use Rattle.ir_forms.specs.declared.flat.Arg.TheVariants.{Const, Var}
use Rattle.ir_forms.specs.inside.FlatViews.{stays}
use Rattle.ir_forms.specs.inside.Cells.{Memory, Closed, marked}
use Rattle.ir_forms.specs.inside.FlatSteps.{State, Res, Gone, Broke, Again, Gave, Halts, NoRoom, Exited}
use Rattle.ir_forms.specs.inside.FlatSteps.{Unfinished, Wild, unfinished, settle, turn, ten_turns, must, then_run}
use Rattle.ir_forms.specs.inside.FlatSteps.{if_set, read, beside, read_all, var_put, with_var, with_memory}
use Rattle.ir_forms.specs.inside.FlatSteps.{with_output, with_next, counted, after_post, after_body}
use Rattle.ir_forms.specs.inside.FlatSteps.{loop_turns, result_put, back_in, after_call, chosen, without_vars}
use Rattle.ir_forms.specs.inside.FlatRuns.{closed, closing, concluded}
use Rattle.reg_assign.specs.inside.Live.{VarSet, empty, one, minus, reads, reads_any, result}
use Rattle.reg_assign.specs.inside.Keeps.{SameOutside, EndsAs, tame_and}
use Rattle.reg_assign.proofs.Inclusion.{Within, or_left, or_right, or_cases, of_left}
use Rattle.reg_assign.proofs.Inclusion.{of_right}

-- the first is none, or both are the same
abbrev pub Below : {A : Type 0} → Option A → Option A → Type 0
Below None p = Unit {0}
Below (Some a) p = p ≡ Some a

-- what is the same is the same or less
pub below : {A : Type 0} (o p : Option A) → p ≡ o → Below o p
below None p e = tt
below (Some a) p e = e

-- the variables of a set, and those that no call keeps
abbrev pub matters : VarSet → VarSet
matters a v = a v || not (stays v)

-- what is set in the first state is so in the second
pub record Agree (a : VarSet) (s t : State) : Type 0 where
  pub vars : (v : ℕ) → matters a v ≡ true → Below (s.vars v) (t.vars v)
  pub outside : SameOutside s t

-- states that agree on a set agree on one within it
pub agree_less : (a b : VarSet) (s t : State) → Within a b → Agree b s t → Agree a s t
agree_less a b s t w g = record {
  vars = λ v e. g.vars v (or_cases (a v) (not (stays v)) e
      (λ q. or_left (b v) (not (stays v)) (w v q)) (or_right (b v) (not (stays v))));
  outside = g.outside;
}

pub record Meets (end : State → Res) (a : VarSet) (s : State) (r : Res) : Type 0 where
  pub state : State
  pub same : r ≡ end state
  pub agree : Agree a s state

-- The second ending is the first where that is not Wild, and the states agree: on the first set
-- where a run goes on, on the second where it leaves a loop, on the third where it goes on with the
-- loop's next part.
abbrev pub Follow : VarSet → VarSet → VarSet → Res → Res → Type 0
Follow n b k (Gone s m) r = Meets (λ t. Gone t m) n s r
Follow n b k (Broke s m) r = Meets (λ t. Broke t m) b s r
Follow n b k (Again s m) r = Meets (λ t. Again t m) k s r
Follow n b k (Gave w s m) r = Meets (λ t. Gave w t m) empty s r
Follow n b k (Halts how) r = r ≡ Halts how
Follow n b k (Unfinished out c) r = r ≡ Unfinished out c
Follow n b k Wild r = Unit {0}

-- states that agree meet at an end
pub met : (end : State → Res) (a : VarSet) (s t : State) → Agree a s t → Meets end a s (end t)
met end a s t g = record { state = t; same = refl; agree = g }

unfinished_alike : (s t : State) → SameOutside s t → unfinished t ≡ unfinished s
unfinished_alike s t g = ap₂ Unfinished g.output g.rounds

-- a state without variables, by its parts
abbrev bare : Memory → List ℕ → List ℕ → ℕ → State
bare memory input output rounds = record {
  vars = λ v. None;
  memory = memory;
  input = input;
  output = output;
  rounds = rounds;
}

-- states that are the same but for variables end a run alike
pub ended_alike : (s t : State) (w m : ℕ) → SameOutside s t
    → Halts (Exited w (without_vars t) m) ≡ Halts (Exited w (without_vars s) m)
ended_alike s t w m g =
    ap (λ x. Halts (Exited w (bare x t.input t.output t.rounds) m)) g.memory
    ∙ ap (λ x. Halts (Exited w (bare s.memory x t.output t.rounds) m)) g.input
    ∙ ap (λ x. Halts (Exited w (bare s.memory s.input x t.rounds) m)) g.output
    ∙ ap (λ x. Halts (Exited w (bare s.memory s.input s.output x) m)) g.rounds

-- what whole runs come to is alike where what the calls of main come to is
pub concluded_alike : (r q : Res) → EndsAs r q → EndsAs (concluded r) (concluded q)
concluded_alike (Gone s m) q e =
    record { state = e.state; same = ap concluded e.same; outside = e.outside }
concluded_alike (Broke s m) q e =
    record { state = e.state; same = ap concluded e.same; outside = e.outside }
concluded_alike (Again s m) q e =
    record { state = e.state; same = ap concluded e.same; outside = e.outside }
concluded_alike (Gave w s m) q e =
    record { state = e.state; same = ap concluded e.same; outside = e.outside }
concluded_alike (Halts (NoRoom out)) q e = ap concluded e
concluded_alike (Halts (Exited w s m)) q e = record {
  state = s;
  same = ap concluded e;
  outside = record { memory = refl; input = refl; output = refl; rounds = refl };
}
concluded_alike (Unfinished out c) q e = ap concluded e
concluded_alike Wild q e = tt

module _ (n b k : VarSet) where
  -- states that agree settle alike
  pub settle_alike : (s t : State) (m : ℕ) → Agree n s t → Follow n b k (settle s m) (settle t m)
  settle_alike s t zero g = unfinished_alike s t g.outside
  settle_alike s t (suc m) g = met (λ t. Gone t (suc m)) n s t g

  -- a turn in states alike outside goes on alike where what follows does
  pub turn_alike : (s t : State) (m : ℕ) (f h : ℕ → Res) → SameOutside s t
      → ((m : ℕ) → Follow n b k (f m) (h m)) → Follow n b k (turn s m f) (turn t m h)
  turn_alike s t zero f h g go = unfinished_alike s t g
  turn_alike s t (suc m) f h g go = go m

  cond_alike : (c : Bool) (r q x y : Res) → Follow n b k r x → Follow n b k q y
      → Follow n b k (cond c r q) (cond c x y)
  cond_alike true r q x y h g = h
  cond_alike false r q x y h g = g

  -- ten turns in states alike outside go on alike where what follows does
  pub ten_alike : (s t : State) (m : ℕ) (f h : ℕ → Res) → SameOutside s t
      → ((m : ℕ) → Follow n b k (f m) (h m)) → Follow n b k (ten_turns s m f) (ten_turns t m h)
  ten_alike s t m f h g go =
      cond_alike (nat_lt m 10) (unfinished s) (f (m - 10)) (unfinished t) (h (m - 10))
      (unfinished_alike s t g) (go (m - 10))

  -- what must be there, and is the same or less, goes on alike where what follows does
  pub must_alike : {A : Type 0} (o p : Option A) (f h : A → Res) → Below o p
      → ((a : A) → Follow n b k (f a) (h a)) → Follow n b k (must o f) (must p h)
  must_alike None p f h e go = tt
  must_alike (Some a) p f h e go = subst (λ p. Follow n b k (f a) (must p h)) (sym e) (go a)

  -- a choice by one word goes on alike where both legs do
  pub chosen_alike : (w : ℕ) (r q x y : Res) → Follow n b k r x → Follow n b k q y
      → Follow n b k (chosen w r q) (chosen w x y)
  chosen_alike zero r q x y h g = g
  chosen_alike (suc w) r q x y h g = h

  -- what follows a statement
  pub then_alike : (mid : VarSet) (r q : Res) (f h : State → ℕ → Res) → Follow mid b k r q
      → ((s t : State) (m : ℕ) → Agree mid s t → Follow n b k (f s m) (h t m))
      → Follow n b k (then_run r f) (then_run q h)
  then_alike mid (Gone s m) q f h g go =
      subst (λ q. Follow n b k (f s m) (then_run q h)) (sym g.same) (go s g.state m g.agree)
  then_alike mid (Broke s m) q f h g go =
      record { state = g.state; same = ap (λ q. then_run q h) g.same; agree = g.agree }
  then_alike mid (Again s m) q f h g go =
      record { state = g.state; same = ap (λ q. then_run q h) g.same; agree = g.agree }
  then_alike mid (Gave w s m) q f h g go =
      record { state = g.state; same = ap (λ q. then_run q h) g.same; agree = g.agree }
  then_alike mid (Halts how) q f h g go = ap (λ q. then_run q h) g
  then_alike mid (Unfinished out c) q f h g go = ap (λ q. then_run q h) g
  then_alike mid Wild q f h g go = tt

  -- the part of a loop behind its body, and what follows it
  pub post_alike : (top : VarSet) (r q : Res) (f h : State → ℕ → Res) → Follow top empty empty r q
      → ((s t : State) (m : ℕ) → Agree top s t → Follow n b k (f s m) (h t m))
      → Follow n b k (after_post r f) (after_post q h)
  post_alike top (Gone s m) q f h g go =
      subst (λ q. Follow n b k (f s m) (after_post q h)) (sym g.same) (go s g.state m g.agree)
  post_alike top (Broke s m) q f h g go = tt
  post_alike top (Again s m) q f h g go = tt
  post_alike top (Gave w s m) q f h g go =
      record { state = g.state; same = ap (λ q. after_post q h) g.same; agree = g.agree }
  post_alike top (Halts how) q f h g go = ap (λ q. after_post q h) g
  post_alike top (Unfinished out c) q f h g go = ap (λ q. after_post q h) g
  post_alike top Wild q f h g go = tt

  module _ (top : VarSet) (fp hp : State → ℕ → Res)
      (post : (s t : State) (m : ℕ) → Agree top s t
      → Follow top empty empty (fp s m) (hp t m)) where
    body_alike : (r q : Res) (f h : State → ℕ → Res) → Follow top n top r q
        → ((s t : State) (m : ℕ) → Agree top s t → Follow n b k (f s m) (h t m))
        → Follow n b k (after_body r fp f) (after_body q hp h)
    body_alike (Gone s m) q f h g go =
        subst (λ q. Follow n b k (after_post (fp s m) f) (after_body q hp h)) (sym g.same)
        (post_alike top (fp s m) (hp g.state m) f h (post s g.state m g.agree) go)
    body_alike (Broke s m) q f h g go =
        subst (λ q. Follow n b k (settle s m) (after_body q hp h)) (sym g.same)
        (settle_alike s g.state m g.agree)
    body_alike (Again s m) q f h g go =
        subst (λ q. Follow n b k (after_post (fp s m) f) (after_body q hp h)) (sym g.same)
        (post_alike top (fp s m) (hp g.state m) f h (post s g.state m g.agree) go)
    body_alike (Gave w s m) q f h g go =
        record { state = g.state; same = ap (λ q. after_body q hp h) g.same; agree = g.agree }
    body_alike (Halts how) q f h g go = ap (λ q. after_body q hp h) g
    body_alike (Unfinished out c) q f h g go = ap (λ q. after_body q hp h) g
    body_alike Wild q f h g go = tt

    agree_counted : (s t : State) → Agree top s t → Agree top (counted s) (counted t)
    agree_counted s t g = record {
      vars = g.vars;
      outside = record {
        memory = g.outside.memory;
        input = g.outside.input;
        output = g.outside.output;
        rounds = ap suc g.outside.rounds;
      };
    }

    -- turns of a loop at whose head a set is live
    pub turns_alike : (fa ha : State → ℕ → Res)
        → ((s t : State) (m : ℕ) → Agree top s t → Follow top n top (fa s m) (ha t m))
        → (j : ℕ) (s t : State) (m : ℕ) → Agree top s t
        → Follow n b k (loop_turns j fa fp s m) (loop_turns j ha hp t m)
    turns_alike fa ha body zero s t m g = unfinished_alike s t g.outside
    turns_alike fa ha body (suc j) s t m g = turn_alike s t m _ _ g.outside (λ m.
        body_alike (fa (counted s) m) (ha (counted t) m) (loop_turns j fa fp) (loop_turns j ha hp)
        (body (counted s) (counted t) m (agree_counted s t g)) (turns_alike fa ha body j))

-- READING

set_alike : (o p : Option ℕ) → Below o p → Below (if_set true o) (if_set true p)
set_alike None p e = tt
set_alike (Some w) p e = ap (if_set true) e

beside_alike : (o p : Option ℕ) (x y : Option (List ℕ)) → Below o p → Below x y
    → Below (beside o x) (beside p y)
beside_alike None p x y e h = tt
beside_alike (Some w) p None y e h = tt
beside_alike (Some w) p (Some ws) y e h = ap (λ p. beside p y) e ∙ ap (beside (Some w)) h

it_matters : (a : VarSet) (v : ℕ) → Within (one v) a → matters a v ≡ true
it_matters a v w = go (stays v) refl
  where
    go : (c : Bool) → stays v ≡ c → matters a v ≡ true
    go true is = or_left (a v) (not (stays v))
        (w v (ap (λ c. c && nat_eq v v) is ∙ eq-eqb v v refl))
    go false is = or_right (a v) (not (stays v)) (ap not is)

module _ (clean : Bool) (a : VarSet) (s t : State) (g : Agree a s t) where
  -- an operand within what states agree on reads alike
  pub read_alike : (x : Arg) → Within (reads x) a
      → Below (read (tame_and clean) s x) (read (tame_and clean) t x)
  read_alike (Const w) h = refl
  read_alike (Var v) h = set_alike (s.vars v) (t.vars v) (g.vars v (it_matters a v h))

  -- operands within what states agree on read alike
  pub reads_alike : (xs : List Arg) → Within (reads_any xs) a
      → Below (read_all (tame_and clean) s xs) (read_all (tame_and clean) t xs)
  reads_alike [] h = refl
  reads_alike (x ∷ xs) h =
      beside_alike (read (tame_and clean) s x) (read (tame_and clean) t x)
      (read_all (tame_and clean) s xs) (read_all (tame_and clean) t xs)
      (read_alike x (of_left (reads x) (reads_any xs) a h))
      (reads_alike xs (of_right (reads x) (reads_any xs) a h))

-- SETTING

-- a variable that is not set by a statement matters before it if it does behind it
not_set : (n a : VarSet) (to u : ℕ) → nat_eq u to ≡ false → Within (minus n (one to)) a
    → matters n u ≡ true → matters a u ≡ true
not_set n a to u other w e =
    or_cases (n u) (not (stays u)) e
    (λ q. or_left (a u) (not (stays u)) (w u (spared (n u) (stays to) (nat_eq u to) q other)))
    (or_right (a u) (not (stays u)))
  where
    spared : (x y z : Bool) → x ≡ true → z ≡ false → x && not (y && z) ≡ true
    spared x true z p q = ap (λ x. x && not z) p ∙ ap not q
    spared x false z p q = ap (λ x. x && true) p

-- the same word in one variable
vars_put : (n a : VarSet) (to : ℕ) (s t : ℕ → Option ℕ) (w : Option ℕ)
    → Within (minus n (one to)) a → ((v : ℕ) → matters a v ≡ true → Below (s v) (t v))
    → (v : ℕ) → matters n v ≡ true → Below (var_put s to w v) (var_put t to w v)
vars_put n a to s t w h g v e = go (nat_eq v to) refl
  where
    go : (c : Bool) → nat_eq v to ≡ c → Below (cond c w (s v)) (cond c w (t v))
    go true is = below w w refl
    go false is = g v (not_set n a to v is h e)

-- states that agree do so with one variable set to a word
pub agree_var : (n a : VarSet) (to : ℕ) (s t : State) (w : ℕ) → Within (minus n (one to)) a
    → Agree a s t → Agree n (with_var s to w) (with_var t to w)
agree_var n a to s t w h g = record {
  vars = vars_put n a to s.vars t.vars (Some w) h g.vars;
  outside = record {
    memory = g.outside.memory;
    input = g.outside.input;
    output = g.outside.output;
    rounds = g.outside.rounds;
  };
}

-- states that agree do so with one variable set to the next byte of the input
pub agree_next : (n a : VarSet) (to : ℕ) (s t : State) → Within (minus n (one to)) a → Agree a s t
    → Agree n (with_next s to s.input) (with_next t to t.input)
agree_next n a to s t h g =
    subst (λ i. Agree n (with_next s to s.input) (with_next t to i)) (sym g.outside.input)
    (go s.input)
  where
    go : (i : List ℕ) → Agree n (with_next s to i) (with_next t to i)
    go [] = agree_var n a to s t _ h g
    go (b ∷ rest) = record {
      vars = vars_put n a to s.vars t.vars (Some b) h g.vars;
      outside = record {
        memory = g.outside.memory;
        input = refl;
        output = g.outside.output;
        rounds = g.outside.rounds;
      };
    }

-- states that agree do so with one memory
pub agree_memory : (a : VarSet) (s t : State) (m : Memory) → Agree a s t
    → Agree a (with_memory s m) (with_memory t m)
agree_memory a s t m g = record {
  vars = g.vars;
  outside = record {
    memory = refl;
    input = g.outside.input;
    output = g.outside.output;
    rounds = g.outside.rounds;
  };
}

-- states that agree do so with one more byte put out
pub agree_output : (a : VarSet) (s t : State) (w : ℕ) → Agree a s t
    → Agree a (with_output s w) (with_output t w)
agree_output a s t w g = record {
  vars = g.vars;
  outside = record {
    memory = g.outside.memory;
    input = g.outside.input;
    output = ap (λ o. o ++ w ∷ []) g.outside.output;
    rounds = g.outside.rounds;
  };
}

-- CALLS

module _ (n a old keep : VarSet) (lasting : Within old stays) where
  -- what a call keeps, where what is live behind it is among it
  kept_alike : (b : VarSet) (s t : ℕ → Option ℕ) → Within (minus n b) a → Within (minus n b) keep
      → ((v : ℕ) → matters a v ≡ true → Below (s v) (t v))
      → (v : ℕ) → minus n b v ≡ true
      → Below (cond (old v) (s v) None) (cond (keep v) (t v) None)
  kept_alike b s t h w g v e =
      subst (λ c. Below (cond (old v) (s v) None) (cond c (t v) None)) (sym (w v e)) (go (old v))
    where
      go : (c : Bool) → Below (cond c (s v) None) (t v)
      go true = g v (or_left (a v) (not (stays v)) (h v e))
      go false = tt

  -- a scratch variable is not kept
  lost : (s t : Option ℕ) (v : ℕ) → not (stays v) ≡ true
      → Below (cond (old v) s None) (cond (keep v) t None)
  lost s t v e = go (old v) refl
    where
      go : (c : Bool) → old v ≡ c → Below (cond c s None) (cond (keep v) t None)
      go true is = absurd (let bad : false ≡ true = sym (ap not (lasting v is)) ∙ e in cc)
      go false is = tt

  back_vars : (s t : ℕ → Option ℕ) (to : Option ℕ) (w : Option ℕ) → Within (minus n (result to)) a
      → Within (minus n (result to)) keep
      → ((v : ℕ) → matters a v ≡ true → Below (s v) (t v))
      → (v : ℕ) → matters n v ≡ true
      → Below (result_put (λ v. cond (old v) (s v) None) to w v)
      (result_put (λ v. cond (keep v) (t v) None) to w v)
  back_vars s t None w h k g v e =
      or_cases (n v) (not (stays v)) e
      (λ q. kept_alike empty s t h k g v (ap (λ c. c && true) q)) (lost (s v) (t v) v)
  back_vars s t (Some to) w h k g v e = go (nat_eq v to) refl
    where
      spared : (x y z : Bool) → x ≡ true → z ≡ false → x && not (y && z) ≡ true
      spared x true z p q = ap (λ x. x && not z) p ∙ ap not q
      spared x false z p q = ap (λ x. x && true) p

      go : (c : Bool) → nat_eq v to ≡ c
          → Below (cond c w (cond (old v) (s v) None)) (cond c w (cond (keep v) (t v) None))
      go true is = below w w refl
      go false is =
          or_cases (n v) (not (stays v)) e
          (λ q. kept_alike (one to) s t h k g v (spared (n v) (stays to) (nat_eq v to) q is))
          (lost (s v) (t v) v)

  module _ (to : Option ℕ) (s t : State) (h : Within (minus n (result to)) a)
      (k : Within (minus n (result to)) keep) (g : Agree a s t) where
    agree_back : (w : Option ℕ) (x y : State) → SameOutside x y
        → Agree n (back_in s old to w x) (back_in t keep to w y)
    agree_back w x y o = record {
      vars = back_vars s.vars t.vars to w h k g.vars;
      outside = record { memory = o.memory; input = o.input; output = o.output; rounds = o.rounds };
    }

    -- calls that end alike go on alike, where what is live after them is kept
    pub call_alike : (b c : VarSet) (r q : Res) → EndsAs r q
        → Follow n b c (after_call s old to r) (after_call t keep to q)
    call_alike b c (Gone x m) q e =
        subst (λ q. Follow n b c (settle (back_in s old to None x) m) (after_call t keep to q))
        (sym e.same)
        (settle_alike n b c _ _ m (agree_back None x e.state e.outside))
    call_alike b c (Broke x m) q e = tt
    call_alike b c (Again x m) q e = tt
    call_alike b c (Gave w x m) q e =
        subst (λ q. Follow n b c (settle (back_in s old to w x) m) (after_call t keep to q))
        (sym e.same)
        (settle_alike n b c _ _ m (agree_back w x e.state e.outside))
    call_alike b c (Halts how) q e = ap (after_call t keep to) e
    call_alike b c (Unfinished out r) q e = ap (after_call t keep to) e
    call_alike b c Wild q e = tt

-- where a call ends, its arrays close
module _ (at size : ℕ) where
  closed_alike : (end : State → Res) (s : State) (a : VarSet) (x : State) → Agree a s x
      → SameOutside (closed at size s) (closed at size x)
  closed_alike end s a x g = record {
    memory = ap (λ m. marked m at size Closed) g.outside.memory;
    input = g.outside.input;
    output = g.outside.output;
    rounds = g.outside.rounds;
  }

  -- bodies that follow one another end alike with their arrays closed
  pub closing_alike : (r q : Res) → Follow empty empty empty r q
      → EndsAs (closing at size r) (closing at size q)
  closing_alike (Gone s m) q g = record {
    state = closed at size g.state;
    same = ap (closing at size) g.same;
    outside = closed_alike (λ t. Gone t m) s empty g.state g.agree;
  }
  closing_alike (Broke s m) q g = tt
  closing_alike (Again s m) q g = tt
  closing_alike (Gave w s m) q g = record {
    state = closed at size g.state;
    same = ap (closing at size) g.same;
    outside = closed_alike (λ t. Gave w t m) s empty g.state g.agree;
  }
  closing_alike (Halts how) q g = ap (closing at size) g
  closing_alike (Unfinished out c) q g = ap (closing at size) g
  closing_alike Wild q g = tt

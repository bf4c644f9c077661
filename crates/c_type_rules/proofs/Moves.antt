-- What a part of a function's body does to what typing keeps, and what it gives where it has no fault.
use Rattle.std.proofs.Common.{◌≡◌, ℕ, ◌≤◌, Bool, true, false, cond, List, [], ◌∷◌, ◌++◌, length, Option, Some, None}
use Rattle.std.proofs.Common.{refl, sym, ap, ◌∙◌, subst, append_assoc, append-nil, unwrap_or}
use Rattle.c_tree.specs.declared.typed.Slot.{Slot}
use Rattle.c_tree.specs.declared.typed.TypedArray.{TypedArray}
use Rattle.c_tree.specs.declared.typed.TypedFunc.{TypedFunc}
use Rattle.c_tree.specs.declared.typed.TypedProgram.{TypedProgram}
use Rattle.c_type_expr.specs.declared.meaning.Meaning.{Meaning}
use Rattle.c_type_expr.specs.Scope.{Scope, Frame, same_name, find, look_up, opened, closed, or_else}
use Rattle.c_type_expr.specs.declared.fault.TypeFault.{TypeFault}
use Rattle.c_type_expr.specs.Blames.{Blame, first, unless}
use Rattle.c_type.specs.declared.state.State.{State}
use Rattle.c_type.specs.declared.state.Around.{Around}
use Rattle.c_type.specs.States.{entered, left, in_loop}
use Rattle.c_type_rules.specs.inside.WellFormed.{Each, IsScalar, ArrayFits}
use Rattle.c_type_rules.proofs.Values.{Exists, Knows}

-- FAULTS

-- where the first of two faults is none, both are
pub split : (f g : Blame) → first f g ≡ None → (f ≡ None) × (g ≡ None)
split None g e = (refl, e)
split (Some f) g e = absurd (cc)

-- a test without a fault holds
pub held : (b : Bool) (f : TypeFault) → unless b f ≡ None → b ≡ true
held true f e = refl
held false f e = absurd (cc)

-- what two equal options hold is equal
pub some_is : {A : Type 0} (x y : A) → Some x ≡ Some y → x ≡ y
some_is x y e = ap (λ o. unwrap_or o x) e

-- NAMES

module _ (P : TypedProgram) (f : TypedFunc) where
  -- what each binding of the blocks means is in the program
  abbrev pub KnownFrame : Frame → Type 0
  KnownFrame [] = Unit {0}
  KnownFrame (b ∷ bs) = Exists P f b.meaning × KnownFrame bs

  -- the same of all blocks
  abbrev pub Known : Scope → Type 0
  Known [] = Unit {0}
  Known (F ∷ G) = KnownFrame F × Known G

  -- what is found in a block is in the program
  frame_knows : (F : Frame) (w : List ℕ) (m : Meaning) → KnownFrame F → find F w ≡ Some m → Exists P f m
  frame_knows [] w m k e = absurd (cc)
  frame_knows (b ∷ bs) w m k e = by (frame_knows bs w m k.1) (same_name b.name w) refl
    where
      by : (find bs w ≡ Some m → Exists P f m) → (t : Bool) → same_name b.name w ≡ t → Exists P f m
      by rec true h =
          let is : Some b.meaning ≡ Some m = sym (ap (λ t. cond t (Some b.meaning) (find bs w)) h) ∙ e in
          subst (Exists P f) (some_is _ _ is) k.0
      by rec false h = rec (sym (ap (λ t. cond t (Some b.meaning) (find bs w)) h) ∙ e)

  -- what is found in a scope is in the program
  pub knows : (G : Scope) → Known G → Knows P f G
  knows [] k w m e = absurd (cc)
  knows (F ∷ G) k w m e = by (knows G k.1 w m) (find F w) refl
    where
      by : (look_up G w ≡ Some m → Exists P f m) → (o : Option Meaning) → find F w ≡ o → Exists P f m
      by rec None h = rec (sym (ap (λ o. or_else o (look_up G w)) h) ∙ e)
      by rec (Some n) h = frame_knows F w m k.0 (h ∙ sym (ap (λ o. or_else o (look_up G w)) h) ∙ e)

  -- a block that is closed takes nothing else away
  pub known_closed : (G : Scope) → Known G → Known (closed G)
  known_closed [] k = tt
  known_closed (F ∷ []) k = k
  known_closed (F ∷ F' ∷ G) k = k.1

  -- WHAT TYPING KEEPS

  -- what holds of what is kept, where nothing has failed
  pub record Fine (v : State) : Type 0 where
    pub names : Known v.names
    pub result : v.result ≡ f.result
    pub params : f.params ≤ length v.scalars
    pub count : length v.scalars ≤ 64
    pub arrays : Each ArrayFits v.arrays

  -- the scalars and the arrays so far are the function's first ones
  pub record Within (v : State) : Type 0 where
    pub scalars : List Slot
    pub arrays : List TypedArray
    pub are : f.scalars ≡ v.scalars ++ scalars
    pub and : f.arrays ≡ v.arrays ++ arrays

  -- from one state to a later one scalars that hold values, and arrays, are added, and the outer
  -- blocks stay
  pub record Ahead (v u : State) : Type 0 where
    pub scalars : List Slot
    pub arrays : List TypedArray
    pub are : u.scalars ≡ v.scalars ++ scalars
    pub and : u.arrays ≡ v.arrays ++ arrays
    pub hold : Each IsScalar scalars
    pub result : u.result ≡ v.result
    pub outer : (F F' : Frame) (G : Scope) → v.names ≡ F ∷ F' ∷ G → (new : Frame) × (u.names ≡ new ∷ F' ∷ G)

  -- what holds of two lists holds of both in one
  each_append : {A : Type 0} (Q : A → Type 0) (xs ys : List A) → Each Q xs → Each Q ys → Each Q (xs ++ ys)
  each_append Q [] ys a b = b
  each_append Q (x ∷ xs) ys a b = (a.0, each_append Q xs ys a.1 b)

  -- nothing is added
  pub still : (v : State) → Ahead v v
  still v = record {
    scalars = [];
    arrays = [];
    are = sym (append-nil v.scalars);
    and = sym (append-nil v.arrays);
    hold = tt;
    result = refl;
    outer = λ F F' G e. (F, e);
  }

  -- what two steps add
  pub further : (v u w : State) → Ahead v u → Ahead u w → Ahead v w
  further v u w a b = record {
    scalars = a.scalars ++ b.scalars;
    arrays = a.arrays ++ b.arrays;
    are = b.are ∙ ap (λ ss. ss ++ b.scalars) a.are ∙ append_assoc v.scalars a.scalars b.scalars;
    and = b.and ∙ ap (λ ss. ss ++ b.arrays) a.and ∙ append_assoc v.arrays a.arrays b.arrays;
    hold = each_append IsScalar a.scalars b.scalars a.hold b.hold;
    result = b.result ∙ a.result;
    outer = λ F F' G e. let o = a.outer F F' G e in b.outer o.0 F' G o.1;
  }

  -- what is within the later state is within the earlier
  pub before : (v u : State) → Ahead v u → Within u → Within v
  before v u a w = record {
    scalars = a.scalars ++ w.scalars;
    arrays = a.arrays ++ w.arrays;
    are = w.are ∙ ap (λ ss. ss ++ w.scalars) a.are ∙ append_assoc v.scalars a.scalars w.scalars;
    and = w.and ∙ ap (λ ss. ss ++ w.arrays) a.and ∙ append_assoc v.arrays a.arrays w.arrays;
  }

  -- PARTS

  -- a part goes ahead, and where it has no fault, it keeps what holds and gives what it should
  pub record Moves {T : Type 0} (Q : Around → T → Type 0) (after : State → State) (fault : Around → State → Blame)
      (tree : State → T) : Type 0 where
    pub ahead : (v : State) → Ahead v (after v)
    pub runs : (b : Around) (v : State) → Fine v → Within (after v) → fault b v ≡ None → Fine (after v) × Q b (tree v)

  module _ {T : Type 0} {Q : Around → T → Type 0} {after : State → State}
      {fault : Around → State → Blame} {tree : State → T} where
    -- what it gives is made into something else
    pub made : {U : Type 0} {R : Around → U → Type 0} (g : T → U) → ((b : Around) (t : T) → Q b t → R b (g t))
        → Moves Q after fault tree → Moves R after fault (λ v. g (tree v))
    made g h m = record {
      ahead = m.ahead;
      runs = λ b v i w e. let r = m.runs b v i w e in (r.0, h b (tree v) r.1);
    }

    -- the body of a loop
    pub looped : Moves Q after fault tree → Moves (λ b. Q in_loop) after (λ b. fault in_loop) tree
    looped m = record { ahead = m.ahead; runs = λ b. m.runs in_loop }

    -- a block of its own
    pub scoped : Moves Q after fault tree
        → Moves Q (λ v. left (after (entered v))) (λ b v. fault b (entered v)) (λ v. tree (entered v))
    scoped m = record {
      ahead = λ v. let a = m.ahead (entered v) in record {
        scalars = a.scalars;
        arrays = a.arrays;
        are = a.are;
        and = a.and;
        hold = a.hold;
        result = a.result;
        outer = λ F F' G e. let o = a.outer [] F (F' ∷ G) (ap opened e) in (F, ap closed o.1);
      };
      runs = λ b v i w e.
          let within : Within (after (entered v)) =
          record { scalars = w.scalars; arrays = w.arrays; are = w.are; and = w.and } in
          let fine : Fine (entered v) =
          record {
            names = (tt, i.names);
            result = i.result;
            params = i.params;
            count = i.count;
            arrays = i.arrays;
          } in
          let r = m.runs b (entered v) fine within e in
          let done : Fine (left (after (entered v))) =
          record {
            names = known_closed (after (entered v)).names r.0.names;
            result = r.0.result;
            params = r.0.params;
            count = r.0.count;
            arrays = r.0.arrays;
          } in
          (done, r.1);
    }

    -- one part and then another
    pub then : {U : Type 0} {R : Around → U → Type 0} {after' : State → State} {fault' : Around → State
        → Blame} {tree' : State → U}
        → Moves Q after fault tree → Moves R after' fault' tree'
        → Moves {T = T × U} (λ b t. Q b t.0 × R b t.1) (λ v. after' (after v))
        (λ b v. first (fault b v) (fault' b (after v))) (λ v. (tree v, tree' (after v)))
    then {after'} m n = record {
      ahead = λ v. further v (after v) (after' (after v)) (m.ahead v) (n.ahead (after v));
      runs = λ b v i w e.
          let s = split _ _ e in
          let r = m.runs b v i (before (after v) (after' (after v)) (n.ahead (after v)) w) s.0 in
          let q = n.runs b (after v) r.0 w s.1 in
          (q.0, (r.1, q.1));
    }

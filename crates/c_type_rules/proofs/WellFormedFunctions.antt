-- A function's definition: its parameters, and that its typed function is well formed.
use Rattle.std.proofs.Common.{◌≡◌, ℕ, ◌+◌, ◌<◌, ◌≤◌, true, List, [], ◌∷◌, ◌++◌, map, length, take, drop, Option}
use Rattle.std.proofs.Common.{Some, None, refl, sym, ap, ◌∙◌, subst, arith, append_assoc, append-nil, length-append}
use Rattle.std.proofs.Common.{suc}
use Rattle.std.specs.Prelude.{slice_get}
use Rattle.std.proofs.lemmas.Bool.{leb-true, ltb-true}
use Rattle.c_tree.specs.declared.token.Kind.{Kind}
use Rattle.c_tree.specs.declared.tree.ArraySize.{ArraySize}
use Rattle.c_tree.specs.declared.tree.ArraySize.TheVariants as size
use Rattle.c_tree.specs.declared.tree.Param.{Param}
use Rattle.c_tree.specs.declared.tree.Stmt.{Stmt}
use Rattle.c_tree.specs.declared.typed.Place.TheVariants as place
use Rattle.c_tree.specs.declared.typed.Slot.{Slot}
use Rattle.c_tree.specs.declared.typed.Slot.TheVariants as slot
use Rattle.c_tree.specs.declared.typed.TypedFunc.{TypedFunc}
use Rattle.c_tree.specs.declared.typed.TypedProgram.{TypedProgram}
use Rattle.c_type_expr.specs.declared.meaning.Meaning.TheVariants as meaning
use Rattle.c_type_expr.specs.Scope.{Scope, Frame, opened, closed, bound}
use Rattle.c_type.specs.declared.state.State.{State}
use Rattle.c_type.specs.Functions.{name_fault, body_part}
use Rattle.c_type.specs.inside.Functions.{params_fault}
use Rattle.c_type.specs.Functions.{typed_function, row_bytes_fault}
use Rattle.c_type.specs.inside.Functions.{param_fault, row_fault}
use Rattle.c_type.specs.States.{nowhere, row_in, slot_for, slot_of, named_param, with_params, started}
use Rattle.c_type_rules.specs.inside.Objects.{signature, of_function, slot_scalar, slot_array}
use Rattle.c_type_rules.specs.inside.WellFormed.{Each, IsScalar, SlotFits, ArrayFits, FunctionFits}
use Rattle.c_type_rules.proofs.Moves.{split, held, Known, Fine, Within, Ahead}
use Rattle.c_type_rules.proofs.Lists.{at_end, each_both, size_some, outer_in}
use Rattle.c_type_rules.proofs.Declarations.{known_in}
use Rattle.c_type_rules.proofs.Bodies.{body_sound}

-- PARAMETERS

-- the parameters add their slots, and the outer blocks stay
record Began (slots : List Slot) (v u : State) : Type 0 where
  scalars : u.scalars ≡ v.scalars ++ slots
  arrays : u.arrays ≡ v.arrays
  result : u.result ≡ v.result
  outer : (F F' : Frame) (G : Scope) → v.names ≡ F ∷ F' ∷ G → (new : Frame) × (u.names ≡ new ∷ F' ∷ G)

-- a named parameter adds its slot
named : (w : List ℕ) (s : ArraySize) (k : Kind) (v : State) → Began (slot_for s k ∷ []) v (named_param (Some w) s k v)
named w size.Scalar k v =
    record { scalars = refl; arrays = refl; result = refl; outer = λ F F' G e. outer_in _ v.names F F' G e }
named w size.Open k v = record {
  scalars = refl;
  arrays = refl;
  result = refl;
  outer = λ F F' G e. outer_in _ v.names F F' G e;
}
named w (size.Sized n) k v =
    record { scalars = refl; arrays = refl; result = refl; outer = λ F F' G e. outer_in _ v.names F F' G e }
named w (size.Rows r n) k v =
    record { scalars = refl; arrays = refl; result = refl; outer = λ F F' G e. outer_in _ v.names F F' G e }

-- a parameter without a fault has a name
one : (G : Scope) (seen : List Param) (name : Option (List ℕ)) (l : ℕ) (s : ArraySize) (k : Kind) (v : State)
    → name_fault true G seen name l ≡ None → Began (slot_for s k ∷ []) v (named_param name s k v)
one G seen None l s k v h = absurd (cc)
one G seen (Some w) l s k v h = named w s k v

-- the name of a parameter without a fault has none
name_fine : (G : Scope) (seen : List Param) (p : Param) → param_fault true G seen p ≡ None
    → name_fault true G seen p.name p.offset ≡ None
name_fine G seen p h = (split _ _ (split _ _ h).1).0

-- all parameters together
began : (G : Scope) (seen ps : List Param) (v : State) → params_fault true G seen ps ≡ None
    → Began (map slot_of ps) v (with_params ps v)
began G seen [] v h =
    record { scalars = sym (append-nil v.scalars); arrays = refl; result = refl; outer = λ F F' G e. (F, e) }
began G seen (p ∷ ps) v h =
    let s = split _ _ h in
    let u = named_param p.name p.size p.kind v in
    let a = one G seen p.name p.offset p.size p.kind v (name_fine G seen p s.0) in
    let b = began G (seen ++ p ∷ []) ps u s.1 in
    record {
      scalars = b.scalars ∙ ap (λ ss. ss ++ map slot_of ps) a.scalars
          ∙ append_assoc v.scalars (slot_of p ∷ []) (map slot_of ps);
      arrays = b.arrays ∙ a.arrays;
      result = b.result ∙ a.result;
      outer = λ F F' G e. let o = a.outer F F' G e in b.outer o.0 F' G o.1;
    }

-- one more than fewer than eight
one_more : (seen : List Param) (p : Param) → length seen < 8 → length (seen ++ p ∷ []) ≤ 8
one_more seen p h = omega (arith, h, length-append seen (p ∷ []))

-- the parameters that were seen, and those that follow
counted : (seen : List Param) (p : Param) (n : ℕ) → length (seen ++ p ∷ []) + n ≤ 8 → length seen + suc n ≤ 8
counted seen p n h = omega (arith, h, length-append seen (p ∷ []))

-- there are at most eight
few : (G : Scope) (seen ps : List Param) → length seen ≤ 8 → params_fault true G seen ps ≡ None
    → length seen + length ps ≤ 8
few G seen [] l h = omega (arith, l)
few G seen (p ∷ ps) l h =
    let s = split _ _ h in
    let fewer = ltb-true (length seen) 8 (held _ _ (split _ _ (split _ _ (split _ _ s.0).1).1).0) in
    counted seen p (length ps) (few G (seen ++ p ∷ []) ps (one_more seen p fewer) s.1)

module _ (P : TypedProgram) (f : TypedFunc) where
  -- a parameter's name stands for its slot
  slot_known : (w : List ℕ) (s : ArraySize) (k : Kind) (v : State) → slice_get f.scalars (length v.scalars)
      ≡ Some (slot_for s k)
      → Known P f v.names → Known P f (named_param (Some w) s k v).names
  slot_known w size.Scalar k v h g =
      known_in P f (bound w (meaning.Scalar k (place.Scalar (length v.scalars)))) v.names (ap slot_scalar h) g
  slot_known w size.Open k v h g =
      known_in P f (bound w (meaning.Array k None (place.Scalar (length v.scalars)))) v.names (ap slot_array h) g
  slot_known w (size.Sized n) k v h g =
      known_in P f (bound w (meaning.Array k None (place.Scalar (length v.scalars)))) v.names (ap slot_array h) g
  slot_known w (size.Rows r n) k v h g =
      known_in P f (bound w (meaning.Array k (row_in (size.Rows r n)) (place.Scalar (length v.scalars)))) v.names
      (ap slot_array h) g

  -- the same of a parameter that has no fault
  one_known : (G : Scope) (seen : List Param) (name : Option (List ℕ)) (l : ℕ) (s : ArraySize) (k : Kind) (v : State)
      → name_fault true G seen name l ≡ None → slice_get f.scalars (length v.scalars) ≡ Some (slot_for s k)
      → Known P f v.names → Known P f (named_param name s k v).names
  one_known G seen None l s k v h e g = absurd (cc)
  one_known G seen (Some w) l s k v h e g = slot_known w s k v e g

  -- the same of all parameters
  params_known : (G : Scope) (seen ps : List Param) (v : State) (ss : List Slot) → params_fault true G seen ps ≡ None
      → f.scalars ≡ (v.scalars ++ map slot_of ps) ++ ss → Known P f v.names → Known P f (with_params ps v).names
  params_known G seen [] v ss h e k = k
  params_known G seen (p ∷ ps) v ss h e k =
      let s = split _ _ h in
      let u = named_param p.name p.size p.kind v in
      let a = one G seen p.name p.offset p.size p.kind v (name_fine G seen p s.0) in
      let is : f.scalars ≡ ((v.scalars ++ slot_of p ∷ []) ++ map slot_of ps) ++ ss =
      e ∙ ap (λ xs. xs ++ ss) (sym (append_assoc v.scalars (slot_of p ∷ []) (map slot_of ps))) in
      let here : slice_get f.scalars (length v.scalars) ≡ Some (slot_of p) =
      ap (λ xs. slice_get xs (length v.scalars)) (is ∙ append_assoc (v.scalars ++ slot_of p ∷ []) (map slot_of ps) ss)
      ∙ at_end v.scalars (slot_of p) (map slot_of ps ++ ss) in
      params_known G (seen ++ p ∷ []) ps u ss s.1 (is ∙ ap (λ xs. (xs ++ map slot_of ps) ++ ss) (sym a.scalars))
      (one_known G seen p.name p.offset p.size p.kind v (name_fine G seen p s.0) here k)

-- SECOND SIZES

-- the slot of a parameter without a fault fits
slot_fits : (s : ArraySize) (k : Kind) (l : ℕ) (G : Scope) (seen : List Param) → row_fault s G seen ≡ None
    → row_bytes_fault s k l ≡ None → SlotFits (slot_for s k)
slot_fits size.Scalar k l G seen h b = tt
slot_fits size.Open k l G seen h b = tt
slot_fits (size.Sized n) k l G seen h b = tt
slot_fits (size.Rows r n) k l G seen h b =
    (size_some n (with_params seen (started G None)).names h, leb-true _ 1048576 (held _ _ b))

-- the same of all parameters
slots_fit : (G : Scope) (seen ps : List Param) → params_fault true G seen ps ≡ None → Each SlotFits (map slot_of ps)
slots_fit G seen [] h = tt
slots_fit G seen (p ∷ ps) h =
    let s = split _ _ h in
    let q = split _ _ s.0 in
    let r = split _ _ (split _ _ q.1).1 in
    (slot_fits p.size p.kind p.offset G seen q.0 r.1, slots_fit G (seen ++ p ∷ []) ps s.1)

-- a slot that holds a value has no second size
scalar_slot : (s : Slot) → IsScalar s → SlotFits s
scalar_slot (slot.Scalar k) h = tt
scalar_slot (slot.Address k q) h = absurd h

scalars_fit : (ss : List Slot) → Each IsScalar ss → Each SlotFits ss
scalars_fit [] h = tt
scalars_fit (s ∷ ss) h = (scalar_slot s h.0, scalars_fit ss h.1)

-- LISTS

-- the first slots are the parameters
taken : (ps : List Param) (ss : List Slot) → take (length ps) (map slot_of ps ++ ss) ≡ map slot_of ps
taken [] ss = refl
taken (p ∷ ps) ss = ap (λ xs. slot_of p ∷ xs) (taken ps ss)

-- and the others follow
dropped : (ps : List Param) (ss : List Slot) → drop (length ps) (map slot_of ps ++ ss) ≡ ss
dropped [] ss = refl
dropped (p ∷ ps) ss = dropped ps ss

-- each parameter has a slot
as_long : (ps : List Param) → length (map slot_of ps) ≡ length ps
as_long [] = refl
as_long (p ∷ ps) = ap suc (as_long ps)

-- THE FUNCTION

-- the function of a body, whose parameters stand in the file scope G
module _ (P : TypedProgram) (H G : Scope) (given : Option Kind) (params : List Param) (body : Stmt)
    (fine : params_fault true H [] params ≡ None) where
  -- the state in which the body begins
  abbrev v0 : State
  v0 = with_params params (started G given)

  -- the typed function
  abbrev pub the : TypedFunc
  the = typed_function (length params) body v0

  -- the state after the body
  abbrev end : State
  end = (body_part body).after v0

  -- what the parameters add
  begins : Began (map slot_of params) (started G given) v0
  begins = began H [] params (started G given) fine

  -- what the body adds
  goes : Ahead P the v0 end
  goes = (body_sound P the body).ahead v0

  -- all slots of the function
  slots : the.scalars ≡ map slot_of params ++ goes.scalars
  slots = goes.are ∙ ap (λ ss. ss ++ goes.scalars) begins.scalars

  -- its signature is the declared one
  pub its_signature : of_function the ≡ signature given (map slot_of params)
  its_signature =
      ap (λ r. signature r (take (length params) the.scalars)) (goes.result ∙ begins.result)
      ∙ ap (λ ss. signature given ss) (ap (take (length params)) slots ∙ taken params goes.scalars)

  -- the file scope is as it was
  pub file_stays : (F : Frame) → G ≡ F ∷ [] → closed end.names ≡ G
  file_stays F e =
      let a = begins.outer [] F [] (ap opened e) in
      let b = goes.outer a.0 F [] a.1 in ap closed b.1 ∙ sym e

  -- eight parameters at most
  at_most : length params ≤ 8
  at_most = omega (arith, few H [] params (omega arith) fine)

  -- how many slots there are
  slots_long : length the.scalars ≡ length params + length goes.scalars
  slots_long = ap length slots ∙ length-append (map slot_of params) goes.scalars
      ∙ ap (λ n. n + length goes.scalars) (as_long params)

  -- the function is well formed where the body has no fault
  pub its_fitness : Known P the G → (body_part body).fault nowhere v0 ≡ None → FunctionFits P the
  its_fitness k h =
      let names : Known P the v0.names =
      params_known P the H [] params (started G given) goes.scalars fine slots (tt, k) in
      let count : length v0.scalars ≤ 64 = omega (arith, at_most, ap length begins.scalars, as_long params) in
      let all : length params ≤ length v0.scalars = omega (arith, ap length begins.scalars, as_long params) in
      let entry : Fine P the v0 = record {
        names = names;
        result = sym goes.result;
        params = all;
        count = count;
        arrays = subst (Each ArrayFits) (sym begins.arrays) tt;
      } in
      let within : Within P the end =
      record { scalars = []; arrays = []; are = sym (append-nil end.scalars); and = sym (append-nil end.arrays) } in
      let r = (body_sound P the body).runs nowhere v0 entry within h in
      record {
        params = at_most;
        slots = omega (arith, slots_long);
        scalars = r.0.count;
        locals = subst (Each IsScalar) (sym (ap (drop (length params)) slots ∙ dropped params goes.scalars))
            goes.hold;
        rows = subst (Each SlotFits) (sym slots)
            (each_both SlotFits (map slot_of params) goes.scalars (slots_fit H [] params fine)
            (scalars_fit goes.scalars goes.hold));
        arrays = r.0.arrays;
        body = r.1;
      }

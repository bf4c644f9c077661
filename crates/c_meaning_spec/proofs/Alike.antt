-- With its places a result is the same but for what is told, which is nothing where it goes on: what this says of a
-- result, of states, names and operations.
use Rattle.std.proofs.Common.{◌≡◌, ℕ, zero, suc, ◌+◌, ◌%◌, Bool, true, false, cond, length}
use Rattle.std.proofs.Common.{List, [], ◌∷◌, ◌++◌, Option, Some, None, slice_get, slice_set, replicate}
use Rattle.std.proofs.Common.{refl}
use Rattle.c_tree.specs.declared.Kind.{Kind}
use Rattle.c_tree.specs.declared.BinaryOp.{BinaryOp}
use Rattle.c_tree.specs.declared.UnaryOp.{UnaryOp}
use Rattle.c_tree.specs.declared.BumpOp.{BumpOp}
use Rattle.c_tree.specs.declared.Place.{Place}
use Rattle.c_tree.specs.declared.Place.TheVariants as place
use Rattle.c_tree.specs.declared.TypedProgram.{TypedProgram}
use Rattle.c_meaning_spec.specs.declared.signal.Signal.{Signal}
use Rattle.c_meaning_spec.specs.declared.signal.Signal.TheVariants.{Nothing, Value, Breaks, Returns}
use Rattle.c_meaning_spec.specs.declared.signal.Halt.TheVariants.{Faults}
use Rattle.c_meaning_spec.specs.declared.fault.Fault.{Fault}
use Rattle.c_meaning_spec.specs.declared.signal.Halt.{Halt}
use Rattle.c_meaning_spec.specs.declared.fault.Fault.TheVariants.{IllFormed}
use Rattle.c_meaning_spec.specs.declared.signal.Object.{Object}
use Rattle.c_meaning_spec.specs.declared.signal.Object.TheVariants.{InScalar, InArray}
use Rattle.c_meaning_spec.specs.State.{State, Result, Go, Over, spend, spend_of, want, with_some}
use Rattle.c_meaning_spec.specs.inside.State.{then}
use Rattle.c_meaning_spec.specs.State.{given, cell, cell_in, held, written, missing, load, store, store_in}
use Rattle.c_meaning_spec.specs.Word.{compound_of, bump_of}
use Rattle.c_meaning_spec.specs.Task.{element_in, element_of, is_array, name, element, row_element_in}
use Rattle.c_meaning_spec.specs.Task.{row_element_of, row_element}
use Rattle.c_meaning_spec.specs.Call.{returned, read_from, get_char, put_char, exit_with}
use Rattle.c_meaning_spec.specs.Expression.{converting, unary, operated, truth, valued, assigned}
use Rattle.c_meaning_spec.specs.Expression.{compounded, bump_object, bump_element, bump_row}
use Rattle.c_meaning_spec.specs.Statement.{dropped, unset_row, returning, after_sections}
use Rattle.c_meaning_spec.specs.State.{Told}
use Rattle.c_meaning_spec.specs.inside.Told.{bared}

-- what a result is that has its places, beside the same without them, which began where this was told
abbrev pub Likes : Told → Result → Result → Type 0
Likes τ (Go v s) r' = (r' ≡ Go v s) × (s.told ≡ τ)
Likes τ (Over why s) r' = (bared r' ≡ bared (Over why s)) × (s.told ≡ τ)

-- a result with its places, beside the same without them
pub record Alike (τ : Told) (r r' : Result) : Type 0 where
  pub likes : Likes τ r r'

-- what has stopped stops what follows it
over-then : (r' : Result) (f' : Signal → State → Result) (why : Halt) (s : State) → bared r' ≡ bared (Over why s)
    → bared (then r' f') ≡ bared (Over why s)
over-then (Go v u) f' why s e = absurd (cc)
over-then (Over w u) f' why s e = e

module _ (τ : Told) where
  -- what goes on is alike
  pub a-go : (v : Signal) (s : State) → s.told ≡ τ → Alike τ (Go v s) (Go v s)
  a-go v s h = record { likes = (refl, h) }

  -- what ends is alike
  pub a-over : (why : Halt) (s : State) → s.told ≡ τ → Alike τ (Over why s) (Over why s)
  a-over why s h = record { likes = (refl, h) }

  -- what has no meaning is alike
  pub a-undefined : {c : Fault} (s : State) → s.told ≡ τ → Alike τ (Over (Faults c) s) (Over (Faults c) s)
  a-undefined s h = record { likes = (refl, h) }

  -- a result and what follows it are alike where both are
  pub a-then : (r r' : Result) (f f' : Signal → State → Result) → Alike τ r r'
      → ((v : Signal) (s : State) → s.told ≡ τ → Alike τ (f v s) (f' v s)) → Alike τ (then r f) (then r' f')
  a-then (Go v s) r' f f' g h = rw g.likes.0 (h v s g.likes.1)
  a-then (Over why s) r' f f' g h = record { likes = (over-then r' f' why s g.likes.0, g.likes.1) }

  -- what is done with a value that is wanted is alike where that is for every value
  pub a-want : (v : Signal) (s : State) (f f' : ℕ → Result) → s.told ≡ τ → ((w : ℕ) → Alike τ (f w) (f' w))
      → Alike τ (want v s f) (want v s f')
  a-want (Value w) s f f' h g = g w
  a-want _ s f f' h g = record { likes = (refl, h) }

  -- what is done with what may be there is alike where that is for everything
  pub a-some : {A : Type 0} (o : Option A) (c : Fault) (s : State) (f f' : A → Result) → s.told ≡ τ
      → ((w : A) → Alike τ (f w) (f' w)) → Alike τ (with_some o c s f) (with_some o c s f')
  a-some (Some w) c s f f' h g = g w
  a-some None c s f f' h g = record { likes = (refl, h) }

  a-spend_of : (k : ℕ) (s : State) (f f' : State → Result) → s.told ≡ τ
      → ((s : State) → s.told ≡ τ → Alike τ (f s) (f' s)) → Alike τ (spend_of k s f) (spend_of k s f')
  a-spend_of zero s f f' h g = record { likes = (refl, h) }
  a-spend_of (suc k) s f f' h g = g (record s { stock = k }) h

  -- what runs behind a step is alike where that is in every state
  pub a-spend : (s : State) (f f' : State → Result) → s.told ≡ τ
      → ((s : State) → s.told ≡ τ → Alike τ (f s) (f' s)) → Alike τ (spend s f) (spend s f')
  a-spend s f f' h g = a-spend_of s.stock s f f' h g

  -- a choice is alike where both legs are
  pub a-cond : (b : Bool) (r r' q q' : Result) → Alike τ r r' → Alike τ q q'
      → Alike τ (cond b r q) (cond b r' q')
  a-cond true r r' q q' g h = g
  a-cond false r r' q q' g h = h

  -- STATES AND NAMES

  a-given : (o : Option ℕ) (c : Fault) (s : State) → s.told ≡ τ
      → Alike τ (given o c s) (given o c s)
  a-given o c s h = a-some o c s _ _ h (λ w. a-go (Value w) s h)

  a-load : (x : Object) (s : State) → s.told ≡ τ → Alike τ (load x s) (load x s)
  a-load (InScalar i) s h = a-given (held (slice_get s.scalars i)) _ s h
  a-load (InArray a i) s h = a-given (held (cell_in (slice_get s.arrays a) i)) _ s h

  a-store_in : (c : Option (Option ℕ)) (s : State) (x : Object) (w : ℕ) → s.told ≡ τ
      → Alike τ (store_in c s x w) (store_in c s x w)
  a-store_in None s (InScalar i) w h = a-undefined s h
  a-store_in None s (InArray a i) w h = a-undefined s h
  a-store_in (Some c) s (InScalar i) w h = a-go _ (written s (InScalar i) (Some w)) h
  a-store_in (Some c) s (InArray a i) w h = a-go _ (written s (InArray a i) (Some w)) h

  -- a store into an object is alike
  pub a-store : (s : State) (x : Object) (w : ℕ) → s.told ≡ τ
      → Alike τ (store s x w) (store s x w)
  a-store s (InScalar i) w h = a-store_in (slice_get s.scalars i) s (InScalar i) w h
  a-store s (InArray a i) w h = a-store_in (cell_in (slice_get s.arrays a) i) s (InArray a i) w h

  -- a name that is read is alike
  pub a-name : (P : TypedProgram) (p : Place) (s : State) → s.told ≡ τ
      → Alike τ (name P p s) (name P p s)
  a-name P (place.Global g) s h =
      a-cond (is_array (slice_get P.globals g)) _ _ _ _ (a-go (Value g) s h)
      (a-load (InArray g 0) s h)
  a-name P (place.Scalar i) s h = a-load (InScalar i) s h
  a-name P (place.Array a) s h = a-go _ s h

  -- what is done with an element of an array is alike where that is for every object
  pub a-element_of : (p : Place) (w : ℕ) (s : State) (f f' : Object → Result) → s.told ≡ τ
      → ((x : Object) → Alike τ (f x) (f' x))
      → Alike τ (with_some (element_of p w s) IllFormed s f)
      (with_some (element_of p w s) IllFormed s f')
  a-element_of (place.Global a) w s f f' h g = g _
  a-element_of (place.Scalar i) w s f f' h g =
      a-some (element_in (held (slice_get s.scalars i)) w) _ s f f' h g
  a-element_of (place.Array a) w s f f' h g = g _

  -- what is done with an element of a row is alike where that is for every object
  pub a-row_element_of : (p : Place) (i j : ℕ) (s : State) (f f' : Object → Result) → s.told ≡ τ
      → ((x : Object) → Alike τ (f x) (f' x))
      → Alike τ (with_some (row_element_of p i j s) IllFormed s f)
      (with_some (row_element_of p i j s) IllFormed s f')
  a-row_element_of (place.Global a) i j s f f' h g = g _
  a-row_element_of (place.Scalar k) i j s f f' h g =
      a-some (row_element_in (held (slice_get s.scalars k)) i j s.rows s.arrays) _ s f f' h g
  a-row_element_of (place.Array a) i j s f f' h g = g _

  -- what is done with the word that an object holds is alike where that is for every word
  pub a-held : (x : Object) (s : State) (f f' : ℕ → Result) → s.told ≡ τ → ((w : ℕ) → Alike τ (f w) (f' w))
      → Alike τ (with_some (held (cell s x)) (missing s x) s f)
      (with_some (held (cell s x)) (missing s x) s f')
  a-held (InScalar i) s f f' h g = a-some (held (slice_get s.scalars i)) _ s f f' h g
  a-held (InArray a i) s f f' h g = a-some (held (cell_in (slice_get s.arrays a) i)) _ s f f' h g

  -- an element that is read is alike
  pub a-element : (p : Place) (v : Signal) (s : State) → s.told ≡ τ
      → Alike τ (element p v s) (element p v s)
  a-element p v s h = a-want v s _ _ h (λ w. a-element_of p w s _ _ h (λ x. a-load x s h))

  -- an element of a row that is read is alike
  pub a-row_element : (p : Place) (i : ℕ) (v : Signal) (s : State) → s.told ≡ τ
      → Alike τ (row_element p i v s) (row_element p i v s)
  a-row_element p i v s h = a-want v s _ _ h
      (λ j. a-row_element_of p i j s _ _ h (λ x. a-load x s h))

  -- the end of a switch is alike
  pub a-after_sections : (v : Signal) (s : State) → s.told ≡ τ
      → Alike τ (after_sections v s) (after_sections v s)
  a-after_sections Breaks s h = a-go _ s h
  a-after_sections _ s h = a-go _ s h

  -- WHAT NO PART IS IN

  -- what a function gives back is alike
  pub a-returned : (is_main : Bool) (v : Signal) (s : State) → s.told ≡ τ
      → Alike τ (returned is_main v s) (returned is_main v s)
  a-returned is_main (Returns (Some w)) s h = a-go _ s h
  a-returned is_main (Returns None) s h = a-go _ s h
  a-returned is_main Nothing s h = a-go _ s h
  a-returned is_main _ s h = a-undefined s h

  a-read : (input : List ℕ) (s : State) → s.told ≡ τ
      → Alike τ (read_from input s) (read_from input s)
  a-read [] s h = a-go _ s h
  a-read (b ∷ rest) s h = a-go _ (record s { input = rest }) h

  -- a call of `getchar` is alike
  pub a-get_char : (done : List ℕ) (s : State) → s.told ≡ τ
      → Alike τ (get_char done s) (get_char done s)
  a-get_char [] s h = a-read s.input s h
  a-get_char (w ∷ rest) s h = a-undefined s h

  -- a call of `putchar` is alike
  pub a-put_char : (done : List ℕ) (s : State) → s.told ≡ τ
      → Alike τ (put_char done s) (put_char done s)
  a-put_char (w ∷ []) s h = a-go _ (record s { output = s.output ++ (w % 256) ∷ [] }) h
  a-put_char [] s h = a-undefined s h
  a-put_char (w ∷ x ∷ rest) s h = a-undefined s h

  -- a call of `exit` is alike
  pub a-exit : (done : List ℕ) (s : State) → s.told ≡ τ → Alike τ (exit_with done s) (exit_with done s)
  a-exit (w ∷ []) s h = record { likes = (refl, h) }
  a-exit [] s h = a-undefined s h
  a-exit (w ∷ x ∷ rest) s h = a-undefined s h

  -- a conversion is alike
  pub a-converting : (to : Kind) (v : Signal) (s : State) → s.told ≡ τ
      → Alike τ (converting to v s) (converting to v s)
  a-converting to v s h = a-want v s _ _ h (λ w. a-go _ s h)

  -- an operation on one value is alike
  pub a-unary : (op : UnaryOp) (k : Option Kind) (v : Signal) (s : State) → s.told ≡ τ
      → Alike τ (unary op k v s) (unary op k v s)
  a-unary op k v s h = a-want v s _ _ h (λ w. a-given _ _ s h)

  -- an operation on two values is alike
  pub a-operated : (op : BinaryOp) (k : Option Kind) (a : ℕ) (v : Signal) (s : State) → s.told ≡ τ
      → Alike τ (operated op k a v s) (operated op k a v s)
  a-operated op k a v s h = a-want v s _ _ h (λ w. a-given _ _ s h)

  -- a value's truth is alike
  pub a-truth : (v : Signal) (s : State) → s.told ≡ τ → Alike τ (truth v s) (truth v s)
  a-truth v s h = a-want v s _ _ h (λ w. a-go _ s h)

  -- a value that is wanted is alike
  pub a-valued : (v : Signal) (s : State) → s.told ≡ τ → Alike τ (valued v s) (valued v s)
  a-valued v s h = a-want v s _ _ h (λ w. a-go _ s h)

  -- an assignment of a value is alike
  pub a-assigned : (x : Object) (v : Signal) (s : State) → s.told ≡ τ
      → Alike τ (assigned x v s) (assigned x v s)
  a-assigned x v s h = a-want v s _ _ h (λ w. a-store s x w h)

  -- a compound assignment of a value is alike
  pub a-compounded : (op : BinaryOp) (to : Option Kind) (at : Kind) (x : Object) (old : ℕ) (v : Signal)
      (s : State) → s.told ≡ τ → Alike τ (compounded op to at x old v s)
      (compounded op to at x old v s)
  a-compounded op to at x old v s h =
      a-want v s _ _ h (λ b. a-some (compound_of op to at old b) _ s _ _ h (λ w. a-store s x w h))

  -- a bump of an object is alike
  pub a-bump_object : (op : BumpOp) (k : Option Kind) (s : State) (x : Object) → s.told ≡ τ
      → Alike τ (bump_object op k s x) (bump_object op k s x)
  a-bump_object op k s x h =
      a-held x s _ _ h (λ old. a-some (bump_of op k old) _ s _ _ h (λ new.
      a-then (store s x new) _ _ _ (a-store s x new h) (λ v s h. a-go _ s h)))

  -- a bump of an element is alike, from its index on
  pub a-bump_element : (op : BumpOp) (k : Option Kind) (p : Place) (v : Signal) (s : State)
      → s.told ≡ τ → Alike τ (bump_element op k p v s) (bump_element op k p v s)
  a-bump_element op k p v s h = a-want v s _ _ h
      (λ w. a-element_of p w s _ _ h (λ x. a-bump_object op k s x h))

  -- a bump of an element of a row is alike, from its last index on
  pub a-bump_row : (op : BumpOp) (k : Option Kind) (p : Place) (i : ℕ) (v : Signal) (s : State)
      → s.told ≡ τ → Alike τ (bump_row op k p i v s) (bump_row op k p i v s)
  a-bump_row op k p i v s h = a-want v s _ _ h
      (λ j. a-row_element_of p i j s _ _ h (λ x. a-bump_object op k s x h))

  -- a value that is dropped is alike
  pub a-dropped : (v : Signal) (s : State) → s.told ≡ τ → Alike τ (dropped v s) (dropped v s)
  a-dropped v s h = a-go _ s h

  -- an array whose elements are unset is alike
  pub a-unset_row : (a : ℕ) (o : Option (List (Option ℕ))) (s : State) → s.told ≡ τ
      → Alike τ (unset_row a o s) (unset_row a o s)
  a-unset_row a None s h = a-undefined s h
  a-unset_row a (Some row) s h = a-go _ (record s {
    arrays = slice_set s.arrays a
        (replicate (length row) None);
  }) h

  -- a value that is returned is alike
  pub a-returning : (v : Signal) (s : State) → s.told ≡ τ
      → Alike τ (returning v s) (returning v s)
  a-returning v s h = a-want v s _ _ h (λ w. a-go _ s h)

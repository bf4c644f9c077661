-- With more steps a result that is not More is the same, one that is More puts out no less, and the
-- depth does not matter once it is enough: what this says of a result, of states, names and operations.
use Rattle.std.proofs.Common.{◌≡◌, ℕ, zero, suc, ◌+◌, ◌%◌, ◌<◌, ◌≤◌, Bool, true, false, cond, length}
use Rattle.std.proofs.Common.{List, [], ◌∷◌, ◌++◌, Option, Some, None, slice_get, slice_set, replicate}
use Rattle.std.proofs.Common.{refl, ap, arith}
use Rattle.c_tree.specs.declared.Kind.{Kind}
use Rattle.c_tree.specs.declared.BinaryOp.{BinaryOp}
use Rattle.c_tree.specs.declared.UnaryOp.{UnaryOp}
use Rattle.c_tree.specs.declared.BumpOp.{BumpOp}
use Rattle.c_tree.specs.declared.Place.{Place}
use Rattle.c_tree.specs.declared.Place.TheVariants as place
use Rattle.c_tree.specs.declared.TypedProgram.{TypedProgram}
use Rattle.c_meaning_spec.specs.declared.signal.Signal.{Signal}
use Rattle.c_meaning_spec.specs.declared.signal.Signal.TheVariants.{Nothing, Value, Breaks, Returns}
use Rattle.c_meaning_spec.specs.declared.signal.Halt.TheVariants.{NoStep, TooDeep, Faults, Exits}
use Rattle.c_meaning_spec.specs.declared.fault.Fault.{Fault}
use Rattle.c_meaning_spec.specs.declared.fault.Fault.TheVariants.{IllFormed}
use Rattle.c_meaning_spec.specs.declared.signal.Object.{Object}
use Rattle.c_meaning_spec.specs.declared.signal.Object.TheVariants.{InScalar, InArray}
use Rattle.c_meaning_spec.specs.State.{State, Result, Go, Over, spend, spend_of, want, with_some}
use Rattle.c_meaning_spec.specs.inside.State.{then}
use Rattle.c_meaning_spec.specs.State.{given, cell, cell_in, held, written, missing, load, store, store_in}
use Rattle.c_meaning_spec.specs.inside.Output.{output_of, IsPrefix}
use Rattle.c_meaning_spec.specs.Word.{compound_of, bump_of}
use Rattle.c_meaning_spec.specs.Task.{element_in, element_of, is_array, name, element, row_element_in}
use Rattle.c_meaning_spec.specs.Task.{row_element_of, row_element}
use Rattle.c_meaning_spec.specs.Call.{returned, read_from, get_char, put_char, exit_with}
use Rattle.c_meaning_spec.specs.Expression.{converting, unary, operated, truth, valued, assigned}
use Rattle.c_meaning_spec.specs.Expression.{compounded, bump_object, bump_element, bump_row}
use Rattle.c_meaning_spec.specs.Statement.{dropped, unset_row, returning, after_sections}
use Rattle.c_meaning_spec.proofs.Puts.{Puts, stock_of, same-prefix, prefix-prefix, p-go}

-- the same state with d more steps
abbrev pub more : ℕ → State → State
more d s = record s { stock = s.stock + d }

-- what goes on, or ends by exit, has less than d steps left
abbrev pub Within : ℕ → Result → Type 0
Within d (Go v s) = s.stock < d
Within d (Over (Exits w) s) = s.stock < d
Within d (Over why s) = Unit {0}

-- r' is r with d more steps, and r leaves fewer than n steps; what needs more steps puts out no
-- less with them, and leaves fewer than d of them
abbrev pub Grows : ℕ → ℕ → Result → Result → Type 0
Grows d n (Go v s) r' = (r' ≡ Go v (more d s)) × (s.stock < n)
Grows d n (Over NoStep s) r' = (d ≡ 0 → r' ≡ Over NoStep (more d s)) × IsPrefix s.output (output_of r')
    × Within d r'
Grows d n (Over why s) r' = r' ≡ Over why (more d s)

-- a result with more steps, beside the one with fewer
pub record Grew (d n : ℕ) (r r' : Result) : Type 0 where
  pub grows : Grows d n r r'

within-less : (d k : ℕ) (r : Result) → k < d → stock_of r ≤ k → Within d r
within-less d k (Go v s) h g = omega arith
within-less d k (Over (Exits w) s) h g = omega arith
within-less d k (Over NoStep s) h g = tt
within-less d k (Over TooDeep s) h g = tt
within-less d k (Over (Faults c) s) h g = tt

within-then : (d : ℕ) (r : Result) (f : Signal → State → Result) → Within d r
    → ((v : Signal) (u : State) → Puts u.output u.stock (f v u)) → Within d (then r f)
within-then d (Over (Exits w) s) f h p = h
within-then d (Over NoStep s) f h p = tt
within-then d (Over TooDeep s) f h p = tt
within-then d (Over (Faults c) s) f h p = tt
within-then d (Go v s) f h p = within-less d s.stock (f v s) h (p v s).spends

within-spent : (d k : ℕ) (s : State) (f : State → Result) → k ≡ d
    → ((u : State) → Puts u.output u.stock (f u)) → Within d (spend_of k s f)
within-spent d zero s f e p = tt
within-spent d (suc k) s f e p = within-less d k (f (record s { stock = k })) (omega arith)
    (p (record s { stock = k })).spends

-- a result where no step is left and d were given, before a step is spent
prefix-spent : (k : ℕ) (s : State) (f : State → Result)
    → ((u : State) → Puts u.output u.stock (f u)) → IsPrefix s.output (output_of (spend_of k s f))
prefix-spent zero s f p = same-prefix s.output
prefix-spent (suc k) s f p = (p (record s { stock = k })).puts

-- the output of what follows a result
prefix-then : (out : List ℕ) (r : Result) (f : Signal → State → Result) → IsPrefix out (output_of r)
    → ((v : Signal) (u : State) → Puts u.output u.stock (f v u)) → IsPrefix out (output_of (then r f))
prefix-then out (Go v s) f h p = prefix-prefix out s.output (output_of (f v s)) h (p v s).puts
prefix-then out (Over why s) f h p = h

none_left : (k : ℕ) (s : State) (f : State → Result) → k ≡ 0 → spend_of k s f ≡ Over NoStep s
none_left zero s f e = refl
none_left (suc k) s f e = cc

module _ (d n : ℕ) where
  -- what goes on grows
  pub g-go : (v : Signal) (s : State) → s.stock < n → Grew d n (Go v s) (Go v (more d s))
  g-go v s h = record { grows = (refl, h) }

  -- what has no meaning grows
  pub g-undefined : {c : Fault} (s : State) → Grew d n (Over (Faults c) s) (Over (Faults c) (more d s))
  g-undefined s = record { grows = refl }

  -- a result and what follows it grow where both do
  pub g-then : (r r' : Result) (f f' : Signal → State → Result) → Grew d n r r'
      → ((v : Signal) (s : State) → s.stock < n → Grew d n (f v s) (f' v (more d s)))
      → ((v : Signal) (u : State) → Puts u.output u.stock (f' v u)) → Grew d n (then r f) (then r' f')
  g-then (Go v s) r' f f' g h p = rw g.grows.0 (h v s g.grows.1)
  g-then (Over NoStep s) r' f f' g h p = record {
    grows = (
      λ e. ap (λ r. then r f') (g.grows.0 e),
      prefix-then s.output r' f' g.grows.1 p,
      within-then d r' f' g.grows.2 p,
    );
  }
  g-then (Over (Faults c) s) r' f f' g h p = record { grows = ap (λ r. then r f') g.grows }
  g-then (Over TooDeep s) r' f f' g h p = record { grows = ap (λ r. then r f') g.grows }
  g-then (Over (Exits w) s) r' f f' g h p = record { grows = ap (λ r. then r f') g.grows }

  -- what is done with a value that is wanted grows where it does for every value
  pub g-want : (v : Signal) (s : State) (f f' : ℕ → Result) → ((w : ℕ) → Grew d n (f w) (f' w))
      → Grew d n (want v s f) (want v (more d s) f')
  g-want (Value w) s f f' h = h w
  g-want _ s f f' h = record { grows = refl }

  -- what is done with what may be there grows where it does for everything
  pub g-some : {A : Type 0} (o : Option A) (c : Fault) (s : State) (f f' : A → Result)
      → ((w : A) → Grew d n (f w) (f' w)) → Grew d n (with_some o c s f) (with_some o c (more d s) f')
  g-some (Some w) c s f f' h = h w
  g-some None c s f f' h = record { grows = refl }

  -- a choice grows where both legs do
  pub g-cond : (b : Bool) (r r' q q' : Result) → Grew d n r r' → Grew d n q q'
      → Grew d n (cond b r q) (cond b r' q')
  g-cond true r r' q q' g h = g
  g-cond false r r' q q' g h = h

  g-spend_of : (k : ℕ) (s : State) (f f' : State → Result) → k ≤ n
      → ((s : State) → s.stock < n → Grew d n (f s) (f' (more d s)))
      → ((u : State) → Puts u.output u.stock (f' u))
      → Grew d n (spend_of k s f) (spend_of (k + d) (more d s) f')
  g-spend_of zero s f f' h g p = record {
    grows = (
      λ e. none_left (0 + d) (more d s) f' (omega arith),
      prefix-spent (0 + d) (more d s) f' p,
      within-spent d (0 + d) (more d s) f' (omega arith) p,
    );
  }
  g-spend_of (suc k) s f f' h g p =
      let e : suc k + d ≡ suc (k + d) = omega arith in
      rw e (g (record s { stock = k }) (omega arith))

  -- what runs behind a step grows where it does with fewer steps
  pub g-spend : (s : State) (f f' : State → Result) → s.stock ≤ n
      → ((s : State) → s.stock < n → Grew d n (f s) (f' (more d s)))
      → ((u : State) → Puts u.output u.stock (f' u)) → Grew d n (spend s f) (spend (more d s) f')
  g-spend s f f' h g p = g-spend_of s.stock s f f' h g p

  -- STATES AND NAMES

  g-given : (o : Option ℕ) (c : Fault) (s : State) → s.stock < n
      → Grew d n (given o c s) (given o c (more d s))
  g-given o c s h = g-some o c s _ _ (λ w. g-go (Value w) s h)

  g-load : (x : Object) (s : State) → s.stock < n → Grew d n (load x s) (load x (more d s))
  g-load (InScalar i) s h = g-given (held (slice_get s.scalars i)) _ s h
  g-load (InArray a i) s h = g-given (held (cell_in (slice_get s.arrays a) i)) _ s h

  g-store_in : (c : Option (Option ℕ)) (s : State) (x : Object) (w : ℕ) → s.stock < n
      → Grew d n (store_in c s x w) (store_in c (more d s) x w)
  g-store_in None s (InScalar i) w h = g-undefined s
  g-store_in None s (InArray a i) w h = g-undefined s
  g-store_in (Some c) s (InScalar i) w h = g-go _ (written s (InScalar i) (Some w)) h
  g-store_in (Some c) s (InArray a i) w h = g-go _ (written s (InArray a i) (Some w)) h

  -- a store into an object grows
  pub g-store : (s : State) (x : Object) (w : ℕ) → s.stock < n
      → Grew d n (store s x w) (store (more d s) x w)
  g-store s (InScalar i) w h = g-store_in (slice_get s.scalars i) s (InScalar i) w h
  g-store s (InArray a i) w h = g-store_in (cell_in (slice_get s.arrays a) i) s (InArray a i) w h

  -- a name that is read grows
  pub g-name : (P : TypedProgram) (p : Place) (s : State) → s.stock < n
      → Grew d n (name P p s) (name P p (more d s))
  g-name P (place.Global g) s h =
      g-cond (is_array (slice_get P.globals g)) _ _ _ _ (g-go (Value g) s h)
      (g-load (InArray g 0) s h)
  g-name P (place.Scalar i) s h = g-load (InScalar i) s h
  g-name P (place.Array a) s h = g-go _ s h

  -- what is done with an element of an array grows where it does for every object
  pub g-element_of : (p : Place) (w : ℕ) (s : State) (f f' : Object → Result)
      → ((x : Object) → Grew d n (f x) (f' x))
      → Grew d n (with_some (element_of p w s) IllFormed s f)
      (with_some (element_of p w (more d s)) IllFormed (more d s) f')
  g-element_of (place.Global g) w s f f' h = h _
  g-element_of (place.Scalar i) w s f f' h =
      g-some (element_in (held (slice_get s.scalars i)) w) _ s f f' h
  g-element_of (place.Array a) w s f f' h = h _

  -- what is done with an element of a row grows where it does for every object
  pub g-row_element_of : (p : Place) (i j : ℕ) (s : State) (f f' : Object → Result)
      → ((x : Object) → Grew d n (f x) (f' x))
      → Grew d n (with_some (row_element_of p i j s) IllFormed s f)
      (with_some (row_element_of p i j (more d s)) IllFormed (more d s) f')
  g-row_element_of (place.Global g) i j s f f' h = h _
  g-row_element_of (place.Scalar k) i j s f f' h =
      g-some (row_element_in (held (slice_get s.scalars k)) i j s.rows s.arrays) _ s f f' h
  g-row_element_of (place.Array a) i j s f f' h = h _

  -- what is done with the word that an object holds grows where it does for every word
  pub g-held : (x : Object) (s : State) (f f' : ℕ → Result) → ((w : ℕ) → Grew d n (f w) (f' w))
      → Grew d n (with_some (held (cell s x)) (missing s x) s f)
      (with_some (held (cell (more d s) x)) (missing (more d s) x) (more d s) f')
  g-held (InScalar i) s f f' h = g-some (held (slice_get s.scalars i)) _ s f f' h
  g-held (InArray a i) s f f' h = g-some (held (cell_in (slice_get s.arrays a) i)) _ s f f' h

  -- an element that is read grows
  pub g-element : (p : Place) (v : Signal) (s : State) → s.stock < n
      → Grew d n (element p v s) (element p v (more d s))
  g-element p v s h = g-want v s _ _ (λ w. g-element_of p w s _ _ (λ x. g-load x s h))

  -- an element of a row that is read grows
  pub g-row_element : (p : Place) (i : ℕ) (v : Signal) (s : State) → s.stock < n
      → Grew d n (row_element p i v s) (row_element p i v (more d s))
  g-row_element p i v s h = g-want v s _ _
      (λ j. g-row_element_of p i j s _ _ (λ x. g-load x s h))

  -- the end of a switch grows
  pub g-after_sections : (v : Signal) (s : State) → s.stock < n
      → Grew d n (after_sections v s) (after_sections v (more d s))
  g-after_sections Breaks s h = g-go _ s h
  g-after_sections _ s h = g-go _ s h

  -- WHAT NO PART IS IN

  -- what a function gives back grows
  pub g-returned : (is_main : Bool) (v : Signal) (s : State) → s.stock < n
      → Grew d n (returned is_main v s) (returned is_main v (more d s))
  g-returned is_main (Returns (Some w)) s h = g-go _ s h
  g-returned is_main (Returns None) s h = g-go _ s h
  g-returned is_main Nothing s h = g-go _ s h
  g-returned is_main _ s h = g-undefined s

  g-read : (input : List ℕ) (s : State) → s.stock < n
      → Grew d n (read_from input s) (read_from input (more d s))
  g-read [] s h = g-go _ s h
  g-read (b ∷ rest) s h = g-go _ (record s { input = rest }) h

  -- a call of `getchar` grows
  pub g-get_char : (done : List ℕ) (s : State) → s.stock < n
      → Grew d n (get_char done s) (get_char done (more d s))
  g-get_char [] s h = g-read s.input s h
  g-get_char (w ∷ rest) s h = g-undefined s

  -- a call of `putchar` grows
  pub g-put_char : (done : List ℕ) (s : State) → s.stock < n
      → Grew d n (put_char done s) (put_char done (more d s))
  g-put_char (w ∷ []) s h = g-go _ (record s { output = s.output ++ (w % 256) ∷ [] }) h
  g-put_char [] s h = g-undefined s
  g-put_char (w ∷ x ∷ rest) s h = g-undefined s

  -- a call of `exit` grows
  pub g-exit : (done : List ℕ) (s : State) → Grew d n (exit_with done s) (exit_with done (more d s))
  g-exit (w ∷ []) s = record { grows = refl }
  g-exit [] s = g-undefined s
  g-exit (w ∷ x ∷ rest) s = g-undefined s

  -- a conversion grows
  pub g-converting : (to : Kind) (v : Signal) (s : State) → s.stock < n
      → Grew d n (converting to v s) (converting to v (more d s))
  g-converting to v s h = g-want v s _ _ (λ w. g-go _ s h)

  -- an operation on one value grows
  pub g-unary : (op : UnaryOp) (k : Option Kind) (v : Signal) (s : State) → s.stock < n
      → Grew d n (unary op k v s) (unary op k v (more d s))
  g-unary op k v s h = g-want v s _ _ (λ w. g-given _ _ s h)

  -- an operation on two values grows
  pub g-operated : (op : BinaryOp) (k : Option Kind) (a : ℕ) (v : Signal) (s : State) → s.stock < n
      → Grew d n (operated op k a v s) (operated op k a v (more d s))
  g-operated op k a v s h = g-want v s _ _ (λ w. g-given _ _ s h)

  -- a value's truth grows
  pub g-truth : (v : Signal) (s : State) → s.stock < n → Grew d n (truth v s) (truth v (more d s))
  g-truth v s h = g-want v s _ _ (λ w. g-go _ s h)

  -- a value that is wanted grows
  pub g-valued : (v : Signal) (s : State) → s.stock < n → Grew d n (valued v s) (valued v (more d s))
  g-valued v s h = g-want v s _ _ (λ w. g-go _ s h)

  -- an assignment of a value grows
  pub g-assigned : (x : Object) (v : Signal) (s : State) → s.stock < n
      → Grew d n (assigned x v s) (assigned x v (more d s))
  g-assigned x v s h = g-want v s _ _ (λ w. g-store s x w h)

  -- a compound assignment of a value grows
  pub g-compounded : (op : BinaryOp) (to : Option Kind) (at : Kind) (x : Object) (old : ℕ) (v : Signal)
      (s : State) → s.stock < n → Grew d n (compounded op to at x old v s)
      (compounded op to at x old v (more d s))
  g-compounded op to at x old v s h =
      g-want v s _ _ (λ b. g-some (compound_of op to at old b) _ s _ _ (λ w. g-store s x w h))

  -- a bump of an object grows
  pub g-bump_object : (op : BumpOp) (k : Option Kind) (s : State) (x : Object) → s.stock < n
      → Grew d n (bump_object op k s x) (bump_object op k (more d s) x)
  g-bump_object op k s x h =
      g-held x s _ _ (λ old. g-some (bump_of op k old) _ s _ _ (λ new.
      g-then (store s x new) _ _ _ (g-store s x new h) (λ v s h. g-go _ s h) (λ v u. p-go _ u)))

  -- a bump of an element grows, from its index on
  pub g-bump_element : (op : BumpOp) (k : Option Kind) (p : Place) (v : Signal) (s : State)
      → s.stock < n → Grew d n (bump_element op k p v s) (bump_element op k p v (more d s))
  g-bump_element op k p v s h = g-want v s _ _
      (λ w. g-element_of p w s _ _ (λ x. g-bump_object op k s x h))

  -- a bump of an element of a row grows, from its last index on
  pub g-bump_row : (op : BumpOp) (k : Option Kind) (p : Place) (i : ℕ) (v : Signal) (s : State)
      → s.stock < n → Grew d n (bump_row op k p i v s) (bump_row op k p i v (more d s))
  g-bump_row op k p i v s h = g-want v s _ _
      (λ j. g-row_element_of p i j s _ _ (λ x. g-bump_object op k s x h))

  -- a value that is dropped grows
  pub g-dropped : (v : Signal) (s : State) → s.stock < n → Grew d n (dropped v s) (dropped v (more d s))
  g-dropped v s h = g-go _ s h

  -- an array whose elements are unset grows
  pub g-unset_row : (a : ℕ) (o : Option (List (Option ℕ))) (s : State) → s.stock < n
      → Grew d n (unset_row a o s) (unset_row a o (more d s))
  g-unset_row a None s h = g-undefined s
  g-unset_row a (Some row) s h = g-go _ (record s {
    arrays = slice_set s.arrays a
        (replicate (length row) None);
  }) h

  -- a value that is returned grows
  pub g-returning : (v : Signal) (s : State) → s.stock < n
      → Grew d n (returning v s) (returning v (more d s))
  g-returning v s h = g-want v s _ _ (λ w. g-go _ s h)

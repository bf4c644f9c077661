-- No state, name or call of the library takes back what was put out, or gives back a step.
use Rattle.std.proofs.Common.{◌≡◌, ◌≤◌, ℕ, zero, suc, ◌%◌, Bool, true, false, cond, nat_eq, List, []}
use Rattle.std.proofs.Common.{◌∷◌, ◌++◌, append_assoc, append-nil, Option, Some, None, slice_get, refl}
use Rattle.std.proofs.Common.{sym, ap, ◌∙◌, arith}
use Rattle.c_tree.specs.declared.Place.{Place}
use Rattle.c_tree.specs.declared.Place.TheVariants as place
use Rattle.c_tree.specs.declared.TypedProgram.{TypedProgram}
use Rattle.c_meaning_spec.specs.declared.signal.Signal.{Signal}
use Rattle.c_meaning_spec.specs.declared.signal.Signal.TheVariants.{Nothing, Value, Breaks, Returns}
use Rattle.c_meaning_spec.specs.declared.signal.Halt.{Halt}
use Rattle.c_meaning_spec.specs.declared.signal.Halt.TheVariants.{NoStep, Exits}
use Rattle.c_meaning_spec.specs.declared.fault.Fault.{Fault}
use Rattle.c_meaning_spec.specs.declared.signal.Object.{Object}
use Rattle.c_meaning_spec.specs.declared.signal.Object.TheVariants.{InScalar, InArray}
use Rattle.c_meaning_spec.specs.State.{State, Result, Go, Over, spend, spend_of, want, with_some}
use Rattle.c_meaning_spec.specs.inside.State.{then}
use Rattle.c_meaning_spec.specs.State.{given, cell, held, written, load, store, store_in}
use Rattle.c_meaning_spec.specs.inside.Output.{output_of, IsPrefix}
use Rattle.c_meaning_spec.specs.Task.{element_of, is_array, name, element, row_element_of, row_element}
use Rattle.c_meaning_spec.specs.Call.{returned, left, read_from, get_char, put_char, exit_with}
use Rattle.c_meaning_spec.specs.Statement.{after_sections, compared_by}

-- the steps that a result leaves
abbrev pub stock_of : Result → ℕ
stock_of (Go v s) = s.stock
stock_of (Over why s) = s.stock

-- the output of a result goes on where out ends, and it has at most n steps left
pub record Puts (out : List ℕ) (n : ℕ) (r : Result) : Type 0 where
  pub puts : IsPrefix out (output_of r)
  pub spends : stock_of r ≤ n

-- an output is a prefix of itself
pub same-prefix : (out : List ℕ) → IsPrefix out out
same-prefix out = record { rest = []; joined = sym (append-nil out) }

-- a prefix of a prefix is a prefix
pub prefix-prefix : (a b c : List ℕ) → IsPrefix a b → IsPrefix b c → IsPrefix a c
prefix-prefix a b c h g = record {
  rest = h.rest ++ g.rest;
  joined = g.joined ∙ (ap (λ xs. xs ++ g.rest) h.joined ∙ append_assoc a h.rest g.rest);
}

-- what goes on as it is takes nothing back
pub p-go : (v : Signal) (s : State) → Puts s.output s.stock (Go v s)
p-go v s = record { puts = same-prefix s.output; spends = omega arith }

-- what ends as it is takes nothing back
pub p-over : (why : Halt) (s : State) → Puts s.output s.stock (Over why s)
p-over why s = record { puts = same-prefix s.output; spends = omega arith }

-- what follows a result takes nothing back where the result and all that may follow it do not
pub p-then : (out : List ℕ) (n : ℕ) (r : Result) (f : Signal → State → Result) → Puts out n r
    → ((v : Signal) (s : State) → Puts s.output s.stock (f v s)) → Puts out n (then r f)
p-then out n (Go v s) f h g =
    let a : s.stock ≤ n = h.spends in let b = (g v s).spends in
    record {
      puts = prefix-prefix out s.output (output_of (f v s)) h.puts (g v s).puts;
      spends = omega arith;
    }
p-then out n (Over why s) f h g = record { puts = h.puts; spends = h.spends }

-- what is done with a value that is wanted takes nothing back where it does not for any value
pub p-want : (v : Signal) (s : State) (f : ℕ → Result) → ((w : ℕ) → Puts s.output s.stock (f w))
    → Puts s.output s.stock (want v s f)
p-want (Value w) s f h = h w
p-want _ s f h = p-over _ s

-- what is done with what may be there takes nothing back where it does not for anything
pub p-some : {A : Type 0} (o : Option A) (c : Fault) (s : State) (f : A → Result)
    → ((x : A) → Puts s.output s.stock (f x)) → Puts s.output s.stock (with_some o c s f)
p-some None c s f h = p-over _ s
p-some (Some x) c s f h = h x

-- a choice takes nothing back where neither leg does
pub p-cond : (b : Bool) (out : List ℕ) (n : ℕ) (r q : Result) → Puts out n r → Puts out n q
    → Puts out n (cond b r q)
p-cond true out n r q h g = h
p-cond false out n r q h g = g

p-over_none : (k : ℕ) (s : State) → k ≡ s.stock → Puts s.output k (Over NoStep s)
p-over_none k s e = record { puts = same-prefix s.output; spends = omega arith }

-- what runs behind a step takes nothing back where it does not, by the steps that are left
pub p-spend_of : (k : ℕ) (s : State) (f : State → Result) → k ≡ s.stock
    → ((u : State) → Puts u.output u.stock (f u)) → Puts s.output k (spend_of k s f)
p-spend_of zero s f e h = p-over_none zero s e
p-spend_of (suc k) s f e h =
    let g = h (record s { stock = k }) in let b : stock_of (f (record s { stock = k })) ≤ k = g.spends in
    record { puts = g.puts; spends = omega arith }

-- what runs behind a step takes nothing back where it does not
pub p-spend : (s : State) (f : State → Result) → ((u : State) → Puts u.output u.stock (f u))
    → Puts s.output s.stock (spend s f)
p-spend s f h = p-spend_of s.stock s f refl h

-- STATES AND NAMES

-- a value that may be there takes nothing back
pub p-given : (o : Option ℕ) (c : Fault) (s : State) → Puts s.output s.stock (given o c s)
p-given o c s = p-some o c s _ (λ w. p-go (Value w) s)

-- a load from an object takes nothing back
pub p-load : (x : Object) (s : State) → Puts s.output s.stock (load x s)
p-load x s = p-given (held (cell s x)) _ s

p-store_in : (c : Option (Option ℕ)) (s : State) (x : Object) (w : ℕ)
    → Puts s.output s.stock (store_in c s x w)
p-store_in None s x w = p-over _ s
p-store_in (Some c) s (InScalar i) w = p-go _ (written s (InScalar i) (Some w))
p-store_in (Some c) s (InArray a i) w = p-go _ (written s (InArray a i) (Some w))

-- a store into an object takes nothing back
pub p-store : (s : State) (x : Object) (w : ℕ) → Puts s.output s.stock (store s x w)
p-store s x w = p-store_in (cell s x) s x w

-- a name that is read takes nothing back
pub p-name : (P : TypedProgram) (p : Place) (s : State) → Puts s.output s.stock (name P p s)
p-name P (place.Global g) s = p-cond (is_array (slice_get P.globals g)) s.output s.stock _ _
    (p-go _ s) (p-load (InArray g 0) s)
p-name P (place.Scalar i) s = p-load (InScalar i) s
p-name P (place.Array a) s = p-go _ s

-- an element that is read takes nothing back
pub p-element : (p : Place) (v : Signal) (s : State) → Puts s.output s.stock (element p v s)
p-element p v s = p-want v s _ (λ w. p-some (element_of p w s) _ s _ (λ x. p-load x s))

-- an element of a row that is read takes nothing back
pub p-row_element : (p : Place) (i : ℕ) (v : Signal) (s : State)
    → Puts s.output s.stock (row_element p i v s)
p-row_element p i v s = p-want v s _ (λ j. p-some (row_element_of p i j s) _ s _ (λ x. p-load x s))

-- SWITCHES

-- the end of a switch takes nothing back
pub p-after_sections : (v : Signal) (s : State) → Puts s.output s.stock (after_sections v s)
p-after_sections Breaks s = p-go _ s
p-after_sections _ s = p-go _ s

-- a label that is compared takes nothing back where none of what may run behind it does
pub p-compared_by : (w : ℕ) (l : Option ℕ) (here there fallback : State → Result)
    → ((u : State) → Puts u.output u.stock (here u))
    → ((u : State) → Puts u.output u.stock (there u))
    → ((u : State) → Puts u.output u.stock (fallback u)) → (s : State)
    → Puts s.output s.stock (compared_by w l here there fallback s)
p-compared_by w None here there fallback a b c s = c s
p-compared_by w (Some n) here there fallback a b c s =
    p-spend s _ (λ u. p-cond (nat_eq w n) u.output u.stock _ _ (a u) (b u))

-- CALLS

p-returned : (is_main : Bool) (v : Signal) (s : State)
    → Puts s.output s.stock (returned is_main v s)
p-returned is_main (Returns (Some w)) s = p-go _ s
p-returned is_main (Returns None) s = p-go _ s
p-returned is_main Nothing s = p-go _ s
p-returned is_main _ s = p-over _ s

-- leaving a function takes nothing back
pub p-left : (is_main : Bool) (scalars : List (Option ℕ)) (count base room : ℕ) (v : Signal)
    (s : State) → Puts s.output s.stock (left is_main scalars count base room v s)
p-left is_main scalars count base room v s = p-returned is_main v _

p-read : (input : List ℕ) (s : State) → Puts s.output s.stock (read_from input s)
p-read [] s = p-go _ s
p-read (b ∷ rest) s = p-go _ (record s { input = rest })

-- a call of `getchar` takes nothing back
pub p-get_char : (done : List ℕ) (s : State) → Puts s.output s.stock (get_char done s)
p-get_char [] s = p-read s.input s
p-get_char (w ∷ rest) s = p-over _ s

-- a call of `putchar` takes nothing back
pub p-put_char : (done : List ℕ) (s : State) → Puts s.output s.stock (put_char done s)
p-put_char (w ∷ []) s = record {
  puts = record { rest = (w % 256) ∷ []; joined = refl };
  spends = omega arith;
}
p-put_char [] s = p-over _ s
p-put_char (w ∷ x ∷ rest) s = p-over _ s

-- a call of `exit` takes nothing back
pub p-exit : (done : List ℕ) (s : State) → Puts s.output s.stock (exit_with done s)
p-exit (w ∷ []) s = p-over (Exits w) s
p-exit [] s = p-over _ s
p-exit (w ∷ x ∷ rest) s = p-over _ s

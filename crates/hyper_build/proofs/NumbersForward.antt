-- Numbers forward are what annotated code says: labels by its size, and a note for each loop.
use Rattle.std.proofs.Common.{◌≡◌, ◌⊎◌, inl, inr, ℕ, zero, suc, ◌+◌, Bool, List, [], ◌∷◌, ◌++◌}
use Rattle.std.proofs.Common.{true, false, cond, ◌&&◌, refl, sym, ap, ◌∙◌, arith, append_assoc, append-nil}
use Rattle.ir_forms.specs.declared.flat.Arg.{Arg}
use Rattle.ir_forms.specs.inside.FlatCode.{Step, Let, Frame, Load, Save, Call, Put, Get, If, Loop, Break, Continue}
use Rattle.ir_forms.specs.inside.FlatCode.{Return, Halt, Code, Nop, ◌▹◌, Function}
use Rattle.ir_forms.specs.inside.FlatFits.{steps_in, steps_of, steps_of_all, is_empty}
use Rattle.reg_assign.specs.inside.Keeps.{calls_in, calls, calls_of_all}
use Rattle.hyper_build.specs.declared.emitting.Note.{Note}
use Rattle.hyper_build.specs.declared.numbering.Numbering.{Numbering}
use Rattle.hyper_build.specs.inside.Tree.{Plan, goes_on, annotated_in, annotated, Routine, annotated_all}
use Rattle.hyper_build.specs.inside.Parts.{cut_size}
use Rattle.hyper_build.specs.inside.Legs.{leg_size, label_or, post_exit, post_size}
use Rattle.hyper_build.specs.inside.Sizes.{size_in, size, test_size, turn_size, part_size}
use Rattle.hyper_build.specs.inside.Routines.{body_label, routine_size, entry_from}
use Rattle.hyper_build.specs.inside.Ground.{Ground, plan, entry_at}
use Rattle.hyper_build.specs.inside.BackwardItems.{is_straight, is_if_item}
use Rattle.hyper_build.specs.inside.Forward.{with_blocks, with_statement, with_statements, with_note, number_items}
use Rattle.hyper_build.specs.inside.Forward.{led_by, led, number_in}
use Rattle.hyper_build.specs.inside.Forward.{number, number_test, number_turn, way_in_size}
use Rattle.hyper_build.specs.inside.Forward.{number_function, number_all, entries_from}
use Rattle.hyper_build.specs.inside.BackwardCode.{is_bare_code, is_break_code, is_test_step}
use Rattle.hyper_build.specs.inside.Notes.{note_of, notes_in, notes_of, test_notes, turn_notes}
use Rattle.hyper_build.proofs.ItemLegs.{and_parts, item_is, if_size, no_calls, no_notes, item_calls, item_notes}
use Rattle.hyper_build.proofs.LoopPosts.{bare_is, bare_straight}
use Rattle.hyper_build.proofs.LoopTests.{break_steps, break_calls, loop_test_is}
use Rattle.hyper_build.proofs.ReachingLegs.{NoExit, HasExit, kind}

-- NUMBERS

abbrev pub numbers_at : ℕ → ℕ → ℕ → List Note → Numbering
numbers_at l i k N = record { label = l; place = i; calls = k; notes = N }

same : {l m i j k n : ℕ} {M N : List Note} → l ≡ m → i ≡ j → k ≡ n → M ≡ N
    → numbers_at l i k M ≡ numbers_at m j n N
same {l = l} {m = m} {i = i} {j = j} {k = k} {n = n} {M = M} el ei ek en =
    ap (λ x. numbers_at x i k M) el ∙ ap (λ x. numbers_at m x k M) ei
    ∙ ap (λ x. numbers_at m j x M) ek ∙ ap (numbers_at m j n) en

abbrev IsNumbered : Ground → ℕ → ℕ → ℕ → Code → Type 0
IsNumbered g l i k c = (N : List Note) → number (plan g) c (numbers_at l i k N)
    ≡ numbers_at (l + size (annotated (plan g) i k c)) (i + steps_of c) (k + calls c)
    (N ++ notes_of (plan g) l i k c)

abbrev IsLegNumbered : Ground → ℕ → ℕ → ℕ → Code → Type 0
IsLegNumbered g l i k c = (N : List Note) → number (plan g) c (led c (numbers_at l i k N))
    ≡ numbers_at (l + leg_size (annotated (plan g) i k c) (size (annotated (plan g) i k c)))
    (i + steps_of c) (k + calls c) (N ++ notes_of (plan g) (l + 1) i k c)

led_numbers : (g : Ground) (l i k : ℕ) (c : Code)
    → NoExit g 0 0 0 i k c ⊎ HasExit g 0 0 0 i k c → ((m : ℕ) → IsNumbered g m i k c)
    → IsLegNumbered g l i k c
led_numbers g l i k c (inl n) f N =
    let tree = annotated (plan g) i k c in
    let h = n.sized (size tree) in
    ap (λ e. number (plan g) c (led_by e (numbers_at l i k N))) n.code
    ∙ f (l + 1) N
    ∙ same (omega (arith, h)) refl refl refl
led_numbers g l i k c (inr n) f N =
    let tree = annotated (plan g) i k c in
    let h = n.sized (size tree) in
    let z = n.empty in
    ap (λ e. number (plan g) c (led_by e (numbers_at l i k N))) n.code
    ∙ f l N
    ∙ same (omega (arith, h, z)) refl refl
    (ap (λ y. N ++ y) (n.silent l ∙ sym (n.silent (l + 1))))

leg_numbers : (g : Ground) (l i k : ℕ) (c : Code) → ((m : ℕ) → IsNumbered g m i k c)
    → IsLegNumbered g l i k c
leg_numbers g l i k c f = led_numbers g l i k c (kind g 0 0 0 i k c) f

-- where code has no notes of its own
bare : {l m i j k n : ℕ} (N : List Note) → l ≡ m → i ≡ j → k ≡ n
    → numbers_at l i k N ≡ numbers_at m j n (N ++ [])
bare N el ei ek = same el ei ek (sym (append-nil N))

test_numbers : (g : Ground) (l i k : ℕ) (one other : Code) (N : List Note)
    → ((m : ℕ) → IsNumbered g m (i + 1) k one)
    → ((m : ℕ) → IsNumbered g m (i + 1 + steps_of one) (k + calls one) other)
    → let A = annotated (plan g) (i + 1) k one in
    let C = annotated (plan g) (i + 1 + steps_of one) (k + calls one) other in
    with_blocks 1 (number (plan g) other (led other (number (plan g) one (led one (numbers_at l (i + 1) k N)))))
    ≡ numbers_at (l + (leg_size A (size A) + (leg_size C (size C) + 1)))
    (i + (1 + (steps_of one + steps_of other))) (k + (calls one + calls other))
    (N ++ (notes_of (plan g) (l + 1) (i + 1) k one
    ++ notes_of (plan g) (l + leg_size A (size A) + 1) (i + 1 + steps_of one) (k + calls one) other))
test_numbers g l i k one other N f1 f2 =
    let A = annotated (plan g) (i + 1) k one in
    let C = annotated (plan g) (i + 1 + steps_of one) (k + calls one) other in
    let l1 = l + leg_size A (size A) in
    let n1 = notes_of (plan g) (l + 1) (i + 1) k one in
    let n2 = notes_of (plan g) (l1 + 1) (i + 1 + steps_of one) (k + calls one) other in
    let e1 = leg_numbers g l (i + 1) k one f1 N in
    let e2 = leg_numbers g l1 (i + 1 + steps_of one) (k + calls one) other f2 (N ++ n1) in
    ap (λ s. with_blocks 1 (number (plan g) other (led other s))) e1
    ∙ ap (with_blocks 1) e2
    ∙ same (omega arith) (omega arith) (omega arith) (append_assoc N n1 n2)

-- what stands behind an if, by whether it is an item
abbrev if_numbered : Bool → Plan → Arg → Code → Code → Numbering → Numbering
if_numbered z p x one other s =
    cond z (number_items p (If x one other) s)
    (with_blocks 1 (number p other (led other (number p one (led one (with_statement s))))))

abbrev IsIfNumbered : Ground → ℕ → ℕ → ℕ → Arg → Code → Code → Bool → Type 0
IsIfNumbered g l i k x one other z =
    is_if_item ((plan g).joined i) one other ≡ z → (N : List Note)
    → ((m : ℕ) → IsNumbered g m (i + 1) k one)
    → ((m : ℕ) → IsNumbered g m (i + 1 + steps_of one) (k + calls one) other)
    → if_numbered z (plan g) x one other (numbers_at l i k N)
    ≡ numbers_at (l + if_size z ((plan g).cut i) (annotated (plan g) (i + 1) k one)
    (annotated (plan g) (i + 1 + steps_of one) (k + calls one) other))
    (i + steps_in (If x one other)) (k + calls_in (If x one other))
    (N ++ notes_in (plan g) l i k (If x one other))

by_kind_numbers : (g : Ground) (l i k : ℕ) (x : Arg) (one other : Code) (z : Bool)
    → IsIfNumbered g l i k x one other z
by_kind_numbers g l i k x one other true e N f1 f2 =
    let joined = (plan g).joined i in
    let c = item_calls joined x one other e in
    same refl refl (omega (arith, c))
    (sym (append-nil N) ∙ ap (λ y. N ++ y) (sym (item_notes (plan g) l i k joined x one other e)))
by_kind_numbers g l i k x one other false e N f1 f2 = test_numbers g l i k one other N f1 f2

if_numbers : (g : Ground) (l i k : ℕ) (on : Bool) (x : Arg) (one other : Code) (N : List Note)
    → ((m : ℕ) → IsNumbered g m (i + 1) k one)
    → ((m : ℕ) → IsNumbered g m (i + 1 + steps_of one) (k + calls one) other)
    → number_in (plan g) on (If x one other) (numbers_at l i k N)
    ≡ numbers_at (l + size_in (annotated_in (plan g) i k on (If x one other)))
    (i + steps_in (If x one other)) (k + calls_in (If x one other))
    (N ++ notes_in (plan g) l i k (If x one other))
if_numbers g l i k on x one other N f1 f2 =
    let A = annotated (plan g) (i + 1) k one in
    let C = annotated (plan g) (i + 1 + steps_of one) (k + calls one) other in
    let c = (plan g).cut i in
    let z = is_if_item ((plan g).joined i) one other in
    let e = item_is (plan g) i k ((plan g).joined i) one other in
    by_kind_numbers g l i k x one other z refl N f1 f2
    ∙ same (ap (λ y. l + if_size y c A C) (sym e)) refl refl refl

-- a loop's test: its leg, and a break
tested_numbers : (g : Ground) (l i k : ℕ) (on : Bool) (x : Arg) (one other : Code) (N : List Note)
    → is_break_code other ≡ true → IsNumbered g l (i + 1) k one
    → number_test (plan g) (If x one other) (numbers_at l i k N)
    ≡ numbers_at (l + test_size (annotated_in (plan g) i k on (If x one other)))
    (i + steps_in (If x one other)) (k + calls_in (If x one other))
    (N ++ test_notes (plan g) l i k (If x one other))
tested_numbers g l i k on x one other N e f =
    let c = cut_size ((plan g).cut i) in
    let n = break_steps other e in
    let m = break_calls other e in
    ap (λ s. with_blocks c (with_statement s)) (f N)
    ∙ same (omega arith) (omega (arith, n)) (omega (arith, m)) refl

-- what a loop's test asks of its leg
abbrev IsTestNumbered : Ground → ℕ → ℕ → Step → Type 0
IsTestNumbered g i k (If x one other) = (m : ℕ) → IsNumbered g m (i + 1) k one
IsTestNumbered g i k _ = Unit {0}

loop_test_numbers : (g : Ground) (l i k : ℕ) (on joined : Bool) (x : Step) (N : List Note)
    → is_test_step joined x ≡ true → IsTestNumbered g i k x
    → number_test (plan g) x (numbers_at l i k N)
    ≡ numbers_at (l + test_size (annotated_in (plan g) i k on x)) (i + steps_in x) (k + calls_in x)
    (N ++ test_notes (plan g) l i k x)
loop_test_numbers g l i k on joined (If x one other) N e f =
    tested_numbers g l i k on x one other N (and_parts joined (is_break_code other) e).1 (f l)
loop_test_numbers g l i k on joined (Let to op x y) N e f = absurd (cc e)
loop_test_numbers g l i k on joined (Frame to at) N e f = absurd (cc e)
loop_test_numbers g l i k on joined (Load to op x) N e f = absurd (cc e)
loop_test_numbers g l i k on joined (Save op x y) N e f = absurd (cc e)
loop_test_numbers g l i k on joined (Call f_ xs to kept) N e f = absurd (cc e)
loop_test_numbers g l i k on joined (Put x) N e f = absurd (cc e)
loop_test_numbers g l i k on joined (Get to) N e f = absurd (cc e)
loop_test_numbers g l i k on joined (Loop a b) N e f = absurd (cc e)
loop_test_numbers g l i k on joined Break N e f = absurd (cc e)
loop_test_numbers g l i k on joined Continue N e f = absurd (cc e)
loop_test_numbers g l i k on joined (Return x) N e f = absurd (cc e)
loop_test_numbers g l i k on joined (Halt x) N e f = absurd (cc e)

-- a statement of a loop's body, by whether it is the test
part_numbers : (g : Ground) (l i k : ℕ) (z on : Bool) (x : Step) (N : List Note)
    → (z ≡ true → is_test_step ((plan g).joined i) x ≡ true) → IsTestNumbered g i k x
    → number_in (plan g) on x (numbers_at l i k N)
    ≡ numbers_at (l + size_in (annotated_in (plan g) i k on x)) (i + steps_in x) (k + calls_in x)
    (N ++ notes_in (plan g) l i k x)
    → cond z (number_test (plan g) x (numbers_at l i k N)) (number_in (plan g) on x (numbers_at l i k N))
    ≡ numbers_at (l + part_size z (annotated_in (plan g) i k on x)) (i + steps_in x) (k + calls_in x)
    (N ++ cond z (test_notes (plan g) l i k x) (notes_in (plan g) l i k x))
part_numbers g l i k true on x N e f h = loop_test_numbers g l i k on ((plan g).joined i) x N (e refl) f
part_numbers g l i k false on x N e f h = h

abbrev IsTurnNumbered : Ground → ℕ → ℕ → ℕ → Code → Type 0
IsTurnNumbered g l i k c = (N : List Note) → number_turn (plan g) c (numbers_at l i k N)
    ≡ numbers_at (l + turn_size (annotated (plan g) i k c)) (i + steps_of c) (k + calls c)
    (N ++ turn_notes (plan g) l i k c)

-- what stands behind a loop, by whether its last part has no block of its own
abbrev loop_numbered : Bool → Plan → Code → Code → Numbering → Numbering
loop_numbered z p body post s =
    let next = number_turn p body (with_statement (with_blocks 1 s)) in
    cond z
    (with_note (note_of s.label s.place s.label) (with_blocks 1 (with_statements (steps_of post) next)))
    (with_note (note_of s.label s.place next.label) (with_blocks 1 (number p post (with_blocks 1 next))))

loop_by : (z : Bool) (g : Ground) (l i k : ℕ) (body post : Code) (N : List Note)
    → (z ≡ true → is_straight post ≡ true)
    → IsTurnNumbered g (l + 1) (i + 1) k body
    → IsNumbered g (l + 1 + turn_size (annotated (plan g) (i + 1) k body) + 1) (i + 1 + steps_of body)
    (k + calls body) post
    → loop_numbered z (plan g) body post (numbers_at l i k N)
    ≡ numbers_at (l + (1 + (turn_size (annotated (plan g) (i + 1) k body)
    + (post_size z (size (annotated (plan g) (i + 1 + steps_of body) (k + calls body) post)) + 1))))
    (i + (1 + (steps_of body + steps_of post))) (k + (calls body + calls post))
    (N ++ (turn_notes (plan g) (l + 1) (i + 1) k body
    ++ (notes_of (plan g) (l + 1 + turn_size (annotated (plan g) (i + 1) k body) + 1) (i + 1 + steps_of body)
    (k + calls body) post
    ++ note_of l i (label_or (l + 1 + turn_size (annotated (plan g) (i + 1) k body)) (post_exit z l)) ∷ [])))
loop_by true g l i k body post N es f1 f2 =
    let C = annotated (plan g) (i + 1) k body in
    let n1 = turn_notes (plan g) (l + 1) (i + 1) k body in
    let x = note_of l i l in
    let none = no_notes (plan g) (l + 1 + turn_size C + 1) (i + 1 + steps_of body) (k + calls body) post (es refl) in
    let few = no_calls post (es refl) in
    ap (λ (s : Numbering). with_note x (with_blocks 1 (with_statements (steps_of post) s))) (f1 N)
    ∙ same (omega arith) (omega arith) (omega (arith, few))
    (append_assoc N n1 (x ∷ []) ∙ ap (λ y. N ++ (n1 ++ (y ++ x ∷ []))) (sym none))
loop_by false g l i k body post N es f1 f2 =
    let C = annotated (plan g) (i + 1) k body in
    let next = l + 1 + turn_size C in
    let n1 = turn_notes (plan g) (l + 1) (i + 1) k body in
    let n2 = notes_of (plan g) (next + 1) (i + 1 + steps_of body) (k + calls body) post in
    let x = note_of l i next in
    let e1 = f1 N in
    let e2 = f2 (N ++ n1) in
    ap (λ (s : Numbering). with_note (note_of l i s.label)
    (with_blocks 1 (number (plan g) post (with_blocks 1 s)))) e1
    ∙ ap (λ s. with_note x (with_blocks 1 s)) e2
    ∙ same (omega arith) (omega arith) (omega arith)
    (append_assoc (N ++ n1) n2 (x ∷ []) ∙ append_assoc N n1 (n2 ++ x ∷ []))

loop_numbers : (g : Ground) (l i k : ℕ) (on : Bool) (body post : Code) (N : List Note)
    → IsTurnNumbered g (l + 1) (i + 1) k body
    → IsNumbered g (l + 1 + turn_size (annotated (plan g) (i + 1) k body) + 1) (i + 1 + steps_of body)
    (k + calls body) post
    → number_in (plan g) on (Loop body post) (numbers_at l i k N)
    ≡ numbers_at (l + size_in (annotated_in (plan g) i k on (Loop body post)))
    (i + (1 + (steps_of body + steps_of post))) (k + (calls body + calls post))
    (N ++ notes_in (plan g) l i k (Loop body post))
loop_numbers g l i k on body post N f1 f2 =
    let C = annotated (plan g) (i + 1) k body in
    let D = annotated (plan g) (i + 1 + steps_of body) (k + calls body) post in
    let c = (plan g).cut i in
    let e = bare_is (plan g) (i + 1) k (i + 1 + steps_of body) (k + calls body) c body post in
    loop_by (is_bare_code c body post) g l i k body post N (bare_straight c body post) f1 f2
    ∙ same (ap (λ y. l + (1 + (turn_size C + (post_size y (size D) + 1)))) (sym e)) refl refl refl

mutual
  pub step_numbers : (g : Ground) (l i k : ℕ) (on : Bool) (x : Step) (N : List Note)
      → number_in (plan g) on x (numbers_at l i k N)
      ≡ numbers_at (l + size_in (annotated_in (plan g) i k on x)) (i + steps_in x) (k + calls_in x)
      (N ++ notes_in (plan g) l i k x)
  step_numbers g l i k on (Let to op x y) N = bare N refl refl (omega arith)
  step_numbers g l i k on (Frame to at) N = bare N refl refl (omega arith)
  step_numbers g l i k on (Load to op x) N = bare N refl refl (omega arith)
  step_numbers g l i k on (Save op x y) N = bare N refl refl (omega arith)
  step_numbers g l i k on (Call f xs to kept) N = bare N refl refl refl
  step_numbers g l i k on (Put x) N = bare N refl refl (omega arith)
  step_numbers g l i k on (Get to) N = bare N refl refl (omega arith)
  step_numbers g l i k on (If x one other) N = if_numbers g l i k on x one other N
      (λ m. numbers g m (i + 1) k one)
      (λ m. numbers g m (i + 1 + steps_of one) (k + calls one) other)
  step_numbers g l i k on (Loop body post) N = loop_numbers g l i k on body post N
      (turn_numbers g (l + 1) (i + 1) k body)
      (numbers g (l + 1 + turn_size (annotated (plan g) (i + 1) k body) + 1) (i + 1 + steps_of body)
      (k + calls body) post)
  step_numbers g l i k on Break N = bare N refl refl (omega arith)
  step_numbers g l i k on Continue N = bare N refl refl (omega arith)
  step_numbers g l i k on (Return x) N = bare N refl refl (omega arith)
  step_numbers g l i k on (Halt x) N = bare N refl refl (omega arith)

  pub numbers : (g : Ground) (l i k : ℕ) (c : Code) → IsNumbered g l i k c
  numbers g l i k Nop N = bare N (omega arith) (omega arith) (omega arith)
  numbers g l i k (x ▹ c) N =
      let l1 = l + size_in (annotated_in (plan g) i k (goes_on c) x) in
      let i1 = i + steps_in x in
      let k1 = k + calls_in x in
      ap (number (plan g) c) (step_numbers g l i k (goes_on c) x N)
      ∙ numbers g l1 i1 k1 c (N ++ notes_in (plan g) l i k x)
      ∙ same (omega arith) (omega arith) (omega arith)
      (append_assoc N (notes_in (plan g) l i k x) (notes_of (plan g) l1 i1 k1 c))

  test_numbers_in : (g : Ground) (i k : ℕ) (x : Step) → IsTestNumbered g i k x
  test_numbers_in g i k (If x one other) = λ m. numbers g m (i + 1) k one
  test_numbers_in g i k _ = tt

  turn_numbers : (g : Ground) (l i k : ℕ) (c : Code) → IsTurnNumbered g l i k c
  turn_numbers g l i k Nop N = bare N (omega arith) (omega arith) (omega arith)
  turn_numbers g l i k (x ▹ c) N =
      let test = is_test_step ((plan g).joined i) x in
      let z = is_empty c && test in
      let S = annotated_in (plan g) i k (goes_on c) x in
      let C = annotated (plan g) (i + steps_in x) (k + calls_in x) c in
      let l1 = l + part_size z S in
      let i1 = i + steps_in x in
      let k1 = k + calls_in x in
      let n1 = cond z (test_notes (plan g) l i k x) (notes_in (plan g) l i k x) in
      let e = loop_test_is (plan g) i k x c in
      ap (number_turn (plan g) c)
      (part_numbers g l i k z (goes_on c) x N (λ q. (and_parts (is_empty c) test q).1) (test_numbers_in g i k x)
      (step_numbers g l i k (goes_on c) x N))
      ∙ turn_numbers g l1 i1 k1 c (N ++ n1)
      ∙ same (omega arith ∙ ap (λ b. l + (part_size b S + turn_size C)) (sym e)) (omega arith) (omega arith)
      (append_assoc N n1 (turn_notes (plan g) l1 i1 k1 c))

-- FUNCTIONS

-- a function with the plan's annotations
abbrev pub routine_at : Plan → ℕ → ℕ → Function → Routine
routine_at p i k f = record {
  params = f.params;
  scalars = f.scalars;
  arrays = f.arrays;
  small = p.small i;
  body = annotated p (i + 1) k f.body;
}

-- the notes of a function's loops
abbrev pub function_notes : Plan → ℕ → ℕ → ℕ → Function → List Note
function_notes p l i k f = notes_of p (body_label (routine_at p i k f) l) (i + 1) k f.body

-- the notes of the loops of some functions
abbrev pub all_notes : Plan → ℕ → ℕ → ℕ → List Function → List Note
all_notes p l i k [] = []
all_notes p l i k (f ∷ fs) =
    function_notes p l i k f
    ++ all_notes p (l + routine_size (routine_at p i k f)) (i + 1 + steps_of f.body)
    (k + calls f.body) fs

-- the blocks of some routines
abbrev pub sizes_of : List Routine → ℕ
sizes_of [] = 0
sizes_of (r ∷ rs) = routine_size r + sizes_of rs

-- numbering a function gives the label, place, calls and notes behind the annotated one
pub function_numbers : (g : Ground) (l i k : ℕ) (f : Function) (N : List Note)
    → number_function (plan g) f (numbers_at l i k N)
    ≡ numbers_at (l + routine_size (routine_at (plan g) i k f)) (i + 1 + steps_of f.body) (k + calls f.body)
    (N ++ function_notes (plan g) l i k f)
function_numbers g l i k f N =
    let r = routine_at (plan g) i k f in
    let l1 = body_label r l in
    let e : l + way_in_size r.small f.params ≡ l1 = omega arith in
    ap (λ m. number (plan g) f.body (numbers_at m (i + 1) k N)) e
    ∙ numbers g l1 (i + 1) k f.body N
    ∙ same (omega arith) refl refl refl

-- numbering functions gives the labels, places, calls and notes of the annotated ones
pub all_numbers : (g : Ground) (l i k : ℕ) (fs : List Function) (N : List Note)
    → number_all (plan g) fs (numbers_at l i k N)
    ≡ numbers_at (l + sizes_of (annotated_all (plan g) i k fs)) (i + steps_of_all fs)
    (k + calls_of_all fs) (N ++ all_notes (plan g) l i k fs)
all_numbers g l i k [] N = bare N (omega arith) (omega arith) (omega arith)
all_numbers g l i k (f ∷ fs) N =
    let l1 = l + routine_size (routine_at (plan g) i k f) in
    let i1 = i + 1 + steps_of f.body in
    let k1 = k + calls f.body in
    ap (number_all (plan g) fs) (function_numbers g l i k f N)
    ∙ all_numbers g l1 i1 k1 fs (N ++ function_notes (plan g) l i k f)
    ∙ same (omega arith) (omega arith) (omega arith)
    (append_assoc N (function_notes (plan g) l i k f) (all_notes (plan g) l1 i1 k1 fs))

-- the entries that are numbered are those of the annotated functions
pub entries_are : (g : Ground) (l i k : ℕ) (fs : List Function) (N : List Note) (n : ℕ)
    → entry_at (entries_from (plan g) fs (numbers_at l i k N)) n
    ≡ entry_from l (annotated_all (plan g) i k fs) n
entries_are g l i k [] N n = refl
entries_are g l i k (f ∷ fs) N zero = refl
entries_are g l i k (f ∷ fs) N (suc n) =
    ap (λ s. entry_at (entries_from (plan g) fs s) n) (function_numbers g l i k f N)
    ∙ entries_are g (l + routine_size (routine_at (plan g) i k f)) (i + 1 + steps_of f.body)
    (k + calls f.body) fs (N ++ function_notes (plan g) l i k f) n

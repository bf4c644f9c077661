-- Emission of an if reaches its annotated blocks, where that of its legs does.
use Rattle.std.proofs.Common.{◌≡◌, ℕ, ◌+◌, ◌-◌, Bool, true, false, ◌||◌, not, cond, List, ◌∷◌, [], ◌++◌, refl, sym}
use Rattle.std.proofs.Common.{ap, ap₂, ◌∙◌, subst, arith, append_assoc, append-nil}
use Rattle.ir_forms.specs.declared.flat.Arg.{Arg}
use Rattle.ir_forms.specs.declared.hyper.Exit.TheVariants as exit
use Rattle.ir_forms.specs.inside.FlatCode.{Step, Let, Frame, Load, Save, Call, Put, Get, If, Loop, Break, Continue}
use Rattle.ir_forms.specs.inside.FlatCode.{Return, Halt, Code, Nop, ◌▹◌}
use Rattle.ir_forms.specs.inside.FlatFits.{steps_in, steps_of}
use Rattle.ir_forms.specs.inside.HyperCode.{Items, Done, Leave, Test, Block}
use Rattle.ir_forms.specs.inside.HyperCode as hyper
use Rattle.ir_forms.specs.inside.HyperRuns.{jump}
use Rattle.reg_assign.specs.inside.Keeps.{calls_in, calls}
use Rattle.hyper_build.specs.declared.emitting.Note.{Note}
use Rattle.hyper_build.specs.inside.Tree.{Tree, goes_on, annotated_in, annotated}
use Rattle.hyper_build.specs.inside.Parts.{source, cut, cut_blocks}
use Rattle.hyper_build.specs.inside.Straight.{Place, items_in, items_of}
use Rattle.hyper_build.specs.inside.Legs.{leg_blocks, leg_size, exit_leg, label_or}
use Rattle.hyper_build.specs.inside.Sizes.{size_in, size}
use Rattle.hyper_build.specs.inside.Entries.{body_end, choose, entry_in, entry}
use Rattle.hyper_build.specs.inside.Build.{blocks_in, blocks}
use Rattle.hyper_build.specs.inside.Ground.{Ground, plan, place}
use Rattle.hyper_build.specs.inside.Backward.{Emission, with_rest, put_out}
use Rattle.hyper_build.specs.inside.BackwardStatements.{leaving}
use Rattle.hyper_build.specs.inside.BackwardItems.{is_if_item, items_before, if_then, straight_items_in}
use Rattle.hyper_build.specs.inside.BackwardItems.{straight_items}
use Rattle.hyper_build.specs.inside.BackwardCode.{exit_of, leg_out, test_block, items_out, end_of_body, emit_in, emit}
use Rattle.hyper_build.specs.inside.Notes.{notes_in, notes_of}
use Rattle.hyper_build.specs.inside.Reached.{Reached, IsReached}
use Rattle.hyper_build.proofs.ItemLegs.{straight_code, item_is, if_size, item_calls, item_notes}
use Rattle.hyper_build.proofs.Reaching.{joined, mapped, restated, one_less, before_by_reached}
use Rattle.hyper_build.proofs.ReachingLegs.{leg_reached}

-- ITEMS

mutual
  items_step : (g : Ground) (p : Place) (i k : ℕ) (on : Bool) (x : Step) (r : Items)
      → items_in p (annotated_in (plan g) i k on x) r ≡ straight_items_in p.arrays x r
  items_step g p i k on (Let to op x y) r = refl
  items_step g p i k on (Frame to at) r = refl
  items_step g p i k on (Load to op x) r = refl
  items_step g p i k on (Save op x y) r = refl
  items_step g p i k on (Call f xs to kept) r = refl
  items_step g p i k on (Put x) r = refl
  items_step g p i k on (Get to) r = refl
  items_step g p i k on (If x a b) r = ap₂ (λ y z. hyper.If (source x) y z r)
      (items_code g p (i + 1) k a Done) (items_code g p (i + 1 + steps_of a) (k + calls a) b Done)
  items_step g p i k on (Loop a b) r = refl
  items_step g p i k on Break r = refl
  items_step g p i k on Continue r = refl
  items_step g p i k on (Return x) r = refl
  items_step g p i k on (Halt x) r = refl

  items_code : (g : Ground) (p : Place) (i k : ℕ) (c : Code) (r : Items)
      → items_of p (annotated (plan g) i k c) r ≡ straight_items p.arrays c r
  items_code g p i k Nop r = refl
  items_code g p i k (x ▹ c) r =
      items_step g p i k (goes_on c) x (items_of p (annotated (plan g) (i + steps_in x) (k + calls_in x) c) r)
      ∙ ap (straight_items_in p.arrays x) (items_code g p (i + steps_in x) (k + calls_in x) c r)

-- the end of a loop's body is the same by the annotated code and by the code
pub end_is : (g : Ground) (p : Place) (c : Bool) (i k : ℕ) (post : Code) (l head : ℕ)
    → body_end p c (annotated (plan g) i k post) l head ≡ end_of_body c p.arrays post l head
end_is g p c i k post l head =
    ap₂ (λ y z. cond (c || not y) (jump l) (record { items = z; tail = Leave (exit.Jump head) }))
    (straight_code (plan g) i k post) (items_code g p i k post Done)

-- IFS THAT ARE TESTS

-- its blocks, and the rest of the block before it
abbrev branch_blocks : Place → Tree → Tree → ℕ → Block → List Block
branch_blocks p one other l k =
    let l1 = l + leg_size one (size one) in
    let join = l1 + leg_size other (size other) in
    leg_blocks (exit_leg p join one) (entry p one (l + 1) (jump join)) (blocks p one (l + 1) (jump join))
    ++ (leg_blocks (exit_leg p join other) (entry p other (l1 + 1) (jump join))
    (blocks p other (l1 + 1) (jump join)) ++ k ∷ [])

abbrev branch_rest : Place → Arg → Tree → Tree → ℕ → Block
branch_rest p x one other l =
    let l1 = l + leg_size one (size one) in
    let join = l1 + leg_size other (size other) in
    record {
      items = Done;
      tail = Test (source x) (Leave (exit.Jump (label_or l (exit_leg p join one))))
          (Leave (exit.Jump (label_or l1 (exit_leg p join other))));
    }

-- behind an if, whose join is j
abbrev second_by : Ground → ℕ → ℕ → Code → ℕ → Emission → Emission
second_by g b a other j u = leg_out (exit_of j b a other) (emit g b a other u)

abbrev first_by : Ground → ℕ → ℕ → Code → Code → ℕ → Emission → Emission
first_by g b a one other j u =
    leg_out (exit_of j b a one) (emit g b a one (with_rest (jump j) (second_by g b a other j u)))

abbrev if_by : Ground → ℕ → ℕ → Arg → Code → Code → ℕ → Emission → Emission
if_by g b a x one other j u =
    leaving
    (test_block x (label_or (first_by g b a one other j u).label (exit_of j b a one))
    (label_or (second_by g b a other j u).label (exit_of j b a other)))
    (first_by g b a one other j u)

if_reached : (g : Ground) (b a : ℕ) (x : Arg) (one other : Code) (j l i k : ℕ)
    (N : List Note) (u : Emission) (top : Block) (o : List Block)
    → IsReached g b a one → IsReached g b a other
    → u.label ≡ j → u.place ≡ i + 1 + steps_of one + steps_of other
    → u.calls ≡ k + calls one + calls other → u.rest ≡ jump j → u.out ≡ top ∷ o
    → j ≡ l + leg_size (annotated (plan g) (i + 1) k one) (size (annotated (plan g) (i + 1) k one))
    + leg_size (annotated (plan g) (i + 1 + steps_of one) (k + calls one) other)
    (size (annotated (plan g) (i + 1 + steps_of one) (k + calls one) other))
    → u.notes ≡ (N ++ notes_of (plan g) (l + 1) (i + 1) k one)
    ++ notes_of (plan g)
    (l + leg_size (annotated (plan g) (i + 1) k one) (size (annotated (plan g) (i + 1) k one)) + 1)
    (i + 1 + steps_of one) (k + calls one) other
    → Reached o (if_by g b a x one other j u) l i k N
    (branch_blocks (place g b a) (annotated (plan g) (i + 1) k one)
    (annotated (plan g) (i + 1 + steps_of one) (k + calls one) other) l top)
    (branch_rest (place g b a) x (annotated (plan g) (i + 1) k one)
    (annotated (plan g) (i + 1 + steps_of one) (k + calls one) other) l)
if_reached g b a x one other j l i k N u top o f1 f2 el ei ek er eo ej en =
    let p = place g b a in
    let A = annotated (plan g) (i + 1) k one in
    let C = annotated (plan g) (i + 1 + steps_of one) (k + calls one) other in
    let l1 = l + leg_size A (size A) in
    let join = l1 + leg_size C (size C) in
    let e1 = exit_of j b a one in
    let e2 = exit_of j b a other in
    let t2 = emit g b a other u in
    let u2 = leg_out e2 t2 in
    let s1 = with_rest (jump j) u2 in
    let t1 = emit g b a one s1 in
    let n1 = notes_of (plan g) (l + 1) (i + 1) k one in
    let q2 = leg_reached g b a j (i + 1 + steps_of one) (k + calls one) other u l1 (N ++ n1) (el ∙ ej)
    en (λ m e n. f2 u m (i + 1 + steps_of one) (k + calls one) (N ++ n1) e ei ek n) in
    let r2 = q2.reached in
    let q1 = leg_reached g b a j (i + 1) k one s1 l N r2.label r2.notes
    (λ m e n. f1 s1 m (i + 1) k N e r2.place r2.calls n) in
    let r1 = q1.reached in
    let B1 = leg_blocks (exit_leg p j A) (entry p A (l + 1) (jump j)) (blocks p A (l + 1) (jump j)) in
    let B2 = λ (y : Block). leg_blocks (exit_leg p j C) (entry p C (l1 + 1) y) (blocks p C (l1 + 1) y) in
    let out : u2.out ≡ B2 (jump j) ++ top ∷ o =
    r2.out ∙ ap (λ y. B2 y ++ u.out) er ∙ ap (λ y. B2 (jump j) ++ y) eo in
    let t = if_by g b a x one other j u in
    let r : Reached o t l i k N (B1 ++ (B2 (jump j) ++ top ∷ []))
    (test_block x (label_or l (exit_leg p j A)) (label_or l1 (exit_leg p j C))) = record {
      label = r1.label;
      place = one_less (leg_out e1 t1).place i r1.place;
      calls = r1.calls;
      notes = r1.notes;
      out = r1.out ∙ ap (λ y. B1 ++ y) (out ∙ sym (append_assoc (B2 (jump j)) (top ∷ []) o))
          ∙ sym (append_assoc B1 (B2 (jump j) ++ top ∷ []) o);
      rest = ap₂ (test_block x) q1.leads q2.leads;
    } in
    let B = λ (n : ℕ). leg_blocks (exit_leg p n A) (entry p A (l + 1) (jump n))
    (blocks p A (l + 1) (jump n))
    ++ (leg_blocks (exit_leg p n C) (entry p C (l1 + 1) (jump n)) (blocks p C (l1 + 1) (jump n))
    ++ top ∷ []) in
    let E = λ (n : ℕ). test_block x (label_or l (exit_leg p n A)) (label_or l1 (exit_leg p n C)) in
    subst (λ n. Reached o t l i k N (B n) (E n)) ej r

-- ALL IFS

-- the blocks of an if, the rest before it, and what emission does, by whether it is an item
abbrev if_blocks : Bool → Place → Bool → Tree → Tree → ℕ → Block → List Block
if_blocks z p c one other l k = cond z (cut_blocks c k) (branch_blocks p one other l k)

abbrev item_rest : Place → Bool → Arg → Tree → Tree → ℕ → Block → Block
item_rest p c x one other l k = if_then (source x) (items_of p one Done) (items_of p other Done) (cut c l k)

abbrev if_rest : Bool → Place → Bool → Arg → Tree → Tree → ℕ → Block → Block
if_rest z p c x one other l k = choose z (item_rest p c x one other l k) (branch_rest p x one other l)

abbrev if_out : Bool → Ground → ℕ → ℕ → Arg → Code → Code → Emission → Emission
if_out z g b a x one other s =
    cond z (items_out (plan g) g.arrays (steps_in (If x one other)) (If x one other) s)
    (if_by g b a x one other (put_out s).label (put_out s))

-- where the statement itself stands
pub if_place : (i n : ℕ) (s : Emission) → s.place ≡ i + n → s.place - n ≡ i
if_place i n s e = omega (arith, e)

-- what emission does at an if that stands behind i statements
if_emits : (g : Ground) (b a i : ℕ) (on : Bool) (x : Arg) (one other : Code) (s : Emission) (z : Bool)
    → s.place ≡ i + steps_in (If x one other) → is_if_item ((plan g).joined i) one other ≡ z
    → emit_in g b a on (If x one other) s ≡ if_out z g b a x one other s
if_emits g b a i on x one other s z ei e =
    ap (λ m. if_out (is_if_item ((plan g).joined m) one other) g b a x one other s)
    (if_place i (steps_in (If x one other)) s ei)
    ∙ ap (λ y. if_out y g b a x one other s) e

abbrev IsIfReached : Ground → ℕ → ℕ → Arg → Code → Code → Bool → Type 0
IsIfReached g b a x one other z =
    (s : Emission) (l i k : ℕ) (N : List Note) → is_if_item ((plan g).joined i) one other ≡ z
    → s.label ≡ l + if_size z ((plan g).cut i) (annotated (plan g) (i + 1) k one)
    (annotated (plan g) (i + 1 + steps_of one) (k + calls one) other)
    → s.place ≡ i + steps_in (If x one other) → s.calls ≡ k + calls_in (If x one other)
    → s.notes ≡ N ++ notes_in (plan g) l i k (If x one other)
    → Reached s.out (if_out z g b a x one other s) l i k N
    (if_blocks z (place g b a) ((plan g).cut i) (annotated (plan g) (i + 1) k one)
    (annotated (plan g) (i + 1 + steps_of one) (k + calls one) other) l s.rest)
    (if_rest z (place g b a) ((plan g).cut i) x (annotated (plan g) (i + 1) k one)
    (annotated (plan g) (i + 1 + steps_of one) (k + calls one) other) l s.rest)

item_reached : (g : Ground) (b a : ℕ) (x : Arg) (one other : Code) → IsIfReached g b a x one other true
item_reached g b a x one other s l i k N e el ei ek en =
    let p = place g b a in
    let joined = (plan g).joined i in
    let c = (plan g).cut i in
    let n = steps_in (If x one other) in
    let r = before_by_reached (plan g) n s l i k N el ei
    (ek ∙ ap (λ m. k + m) (item_calls joined x one other e) ∙ omega arith)
    (en ∙ ap (λ y. N ++ y) (item_notes (plan g) l i k joined x one other e) ∙ append-nil N) in
    restated refl refl
    (ap₂ (λ y z. if_then (source x) y z (cut c l s.rest)) (items_code g p (i + 1) k one Done)
    (items_code g p (i + 1 + steps_of one) (k + calls one) other Done))
    (mapped (items_before (straight_items_in g.arrays (If x one other))) r)

test_reached : (g : Ground) (b a : ℕ) (x : Arg) (one other : Code) → IsReached g b a one → IsReached g b a other
    → IsIfReached g b a x one other false
test_reached g b a x one other f1 f2 s l i k N e el ei ek en =
    let A = annotated (plan g) (i + 1) k one in
    let C = annotated (plan g) (i + 1 + steps_of one) (k + calls one) other in
    let l1 = l + leg_size A (size A) in
    let j = l1 + leg_size C (size C) in
    let n1 = notes_of (plan g) (l + 1) (i + 1) k one in
    let n2 = notes_of (plan g) (l1 + 1) (i + 1 + steps_of one) (k + calls one) other in
    let u = put_out s in
    let ej : u.label ≡ j = one_less s.label j (el ∙ omega arith) in
    if_reached g b a x one other u.label l i k N u s.rest s.out f1 f2 refl (omega (arith, ei))
    (omega (arith, ek)) refl refl ej (en ∙ sym (append_assoc N n1 n2))

either_reached : (g : Ground) (b a : ℕ) (x : Arg) (one other : Code) (z : Bool) → IsReached g b a one
    → IsReached g b a other → IsIfReached g b a x one other z
either_reached g b a x one other true f1 f2 = item_reached g b a x one other
either_reached g b a x one other false f1 f2 = test_reached g b a x one other f1 f2

-- emission of an if reaches its annotated blocks, where that of its legs does
pub all_reached : (g : Ground) (b a : ℕ) (on : Bool) (x : Arg) (one other : Code) (s : Emission) (l i k : ℕ)
    (N : List Note)
    → IsReached g b a one → IsReached g b a other
    → s.label ≡ l + size_in (annotated_in (plan g) i k on (If x one other))
    → s.place ≡ i + steps_in (If x one other) → s.calls ≡ k + calls_in (If x one other)
    → s.notes ≡ N ++ notes_in (plan g) l i k (If x one other)
    → Reached s.out (emit_in g b a on (If x one other) s) l i k N
    (blocks_in (place g b a) (annotated_in (plan g) i k on (If x one other)) l s.rest)
    (entry_in (place g b a) (annotated_in (plan g) i k on (If x one other)) l s.rest)
all_reached g b a on x one other s l i k N f1 f2 el ei ek en =
    let p = place g b a in
    let A = annotated (plan g) (i + 1) k one in
    let C = annotated (plan g) (i + 1 + steps_of one) (k + calls one) other in
    let c = (plan g).cut i in
    let z = is_if_item ((plan g).joined i) one other in
    let e = item_is (plan g) i k ((plan g).joined i) one other in
    restated (if_emits g b a i on x one other s z ei refl)
    (ap (λ y. if_blocks y p c A C l s.rest) e) (ap (λ y. if_rest y p c x A C l s.rest) e)
    (either_reached g b a x one other z f1 f2 s l i k N refl
    (el ∙ ap (λ y. l + if_size y c A C) e) ei ek en)

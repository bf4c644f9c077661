-- The last part of a loop: where it has no block of its own, and that nothing but the body's block leads to it then.
use Rattle.std.proofs.Common.{◌≡◌, ◌⊎◌, inl, inr, ℕ, ◌+◌, ◌<◌, ◌≤◌, Bool, true, false, ◌&&◌, ◌||◌, not, List, length}
use Rattle.std.proofs.Common.{Some, None, refl, sym, ap, ap₂, ◌∙◌, arith}
use Rattle.ir_forms.specs.inside.FlatCode.{Step, Let, Frame, Load, Save, Call, Put, Get, If, Loop, Break, Continue}
use Rattle.ir_forms.specs.inside.FlatCode.{Return, Halt, Code, Nop, ◌▹◌}
use Rattle.ir_forms.specs.inside.FlatFits.{steps_in, steps_of, is_empty, small_ifs_in, small_ifs}
use Rattle.ir_forms.specs.inside.HyperCode.{Block}
use Rattle.reg_assign.specs.inside.Keeps.{calls_in, calls}
use Rattle.hyper_build.specs.inside.Tree.{Plan, Stmt, LetAt, FrameAt, LoadAt, SaveAt, CallAt, PutAt, GetAt, IfAt}
use Rattle.hyper_build.specs.inside.Tree.{LoopAt}
use Rattle.hyper_build.specs.inside.Tree.{BreakAt, ContinueAt, ReturnAt, HaltAt, Tree, End, ◌▸◌, plain_in}
use Rattle.hyper_build.specs.inside.Tree.{plain, goes_on}
use Rattle.hyper_build.specs.inside.Tree.{annotated_in, annotated}
use Rattle.hyper_build.specs.inside.Straight.{straight_in, straight}
use Rattle.hyper_build.specs.inside.Legs.{label_or, leg_blocks, is_end, is_operation, are_operations, continues_in}
use Rattle.hyper_build.specs.inside.Legs.{continues, is_bare, post_exit, post_size}
use Rattle.hyper_build.specs.inside.BackwardItems.{is_straight_in, is_straight}
use Rattle.hyper_build.specs.inside.BackwardCode.{is_bare_code}
use Rattle.hyper_build.proofs.ItemLegs.{and_parts}

-- BLOCKS AND LABELS

-- the last part of a loop has as many blocks as its size says
pub length_post : (bare : Bool) (head : ℕ) (first : Block) (others : List Block)
    → length (leg_blocks (post_exit bare head) first others) ≡ post_size bare (length others)
length_post true head first others = refl
length_post false head first others = omega arith

-- the last part of a loop has at most one block more than its code begins
pub post_most : (bare : Bool) (n : ℕ) → post_size bare n ≤ 1 + n
post_most true n = omega arith
post_most false n = omega arith

-- where the loop goes on behind its body
pub post_label : (N next head : ℕ) (bare : Bool) → next < N → head < N → label_or next (post_exit bare head) < N
post_label N next head true a b = b
post_label N next head false a b = a

-- where the last part's blocks end, if it has any
pub post_room : (N next n head : ℕ) (bare : Bool) → post_exit bare head ≡ None → next + (post_size bare n + 1) ≤ N
    → next + 1 + n ≤ N
post_room N next n head true e le = absurd (cc e)
post_room N next n head false e le = omega (arith, le)

-- NO PLAN IS NEEDED

end_is_empty : (p : Plan) (i k : ℕ) (c : Code) → is_end (annotated p i k c) ≡ is_empty c
end_is_empty p i k Nop = refl
end_is_empty p i k (x ▹ c) = refl

operation_is : (p : Plan) (i k : ℕ) (on : Bool) (x : Step)
    → is_operation (plain_in (annotated_in p i k on x)) ≡ is_operation x
operation_is p i k on (Let to op x y) = refl
operation_is p i k on (Frame to at) = refl
operation_is p i k on (Load to op x) = refl
operation_is p i k on (Save op x y) = refl
operation_is p i k on (Call f xs to kept) = refl
operation_is p i k on (Put x) = refl
operation_is p i k on (Get to) = refl
operation_is p i k on (If x a b) = refl
operation_is p i k on (Loop a b) = refl
operation_is p i k on Break = refl
operation_is p i k on Continue = refl
operation_is p i k on (Return x) = refl
operation_is p i k on (Halt x) = refl

operations_are : (p : Plan) (i k : ℕ) (c : Code) → are_operations (plain (annotated p i k c)) ≡ are_operations c
operations_are p i k Nop = refl
operations_are p i k (x ▹ c) = ap₂ (λ y z. y && z) (operation_is p i k (goes_on c) x)
    (operations_are p (i + steps_in x) (k + calls_in x) c)

mutual
  continues_step : (p : Plan) (i k : ℕ) (on : Bool) (x : Step)
      → continues_in (plain_in (annotated_in p i k on x)) ≡ continues_in x
  continues_step p i k on (Let to op x y) = refl
  continues_step p i k on (Frame to at) = refl
  continues_step p i k on (Load to op x) = refl
  continues_step p i k on (Save op x y) = refl
  continues_step p i k on (Call f xs to kept) = refl
  continues_step p i k on (Put x) = refl
  continues_step p i k on (Get to) = refl
  continues_step p i k on (If x a b) = ap₂ (λ y z. y || z) (continues_code p (i + 1) k a)
      (continues_code p (i + 1 + steps_of a) (k + calls a) b)
  continues_step p i k on (Loop a b) = refl
  continues_step p i k on Break = refl
  continues_step p i k on Continue = refl
  continues_step p i k on (Return x) = refl
  continues_step p i k on (Halt x) = refl

  continues_code : (p : Plan) (i k : ℕ) (c : Code) → continues (plain (annotated p i k c)) ≡ continues c
  continues_code p i k Nop = refl
  continues_code p i k (x ▹ c) = ap₂ (λ y z. y || z) (continues_step p i k (goes_on c) x)
      (continues_code p (i + steps_in x) (k + calls_in x) c)

-- annotated loops have a last part without a block where flat ones do
pub bare_is : (p : Plan) (i k j m : ℕ) (c : Bool) (body post : Code)
    → is_bare c (annotated p i k body) (annotated p j m post) ≡ is_bare_code c body post
bare_is p i k j m c body post =
    ap₂ (λ y z. y || z) (end_is_empty p j m post)
    (ap₂ (λ y z. not c && (y && not z)) (operations_are p j m post) (continues_code p i k body))

-- PARTS WITHOUT A BLOCK

not_true : (b : Bool) → not b ≡ true → b ≡ false
not_true true e = absurd (cc e)
not_true false e = refl

exit_true : (bare : Bool) (head e : ℕ) → post_exit bare head ≡ Some e → bare ≡ true
exit_true true head e h = refl
exit_true false head e h = absurd (cc h)

operation_straight : (s : Stmt) → is_operation (plain_in s) ≡ true → straight_in s ≡ true
operation_straight (LetAt c to op a b) e = refl
operation_straight (FrameAt c to at) e = refl
operation_straight (LoadAt c to op a) e = refl
operation_straight (SaveAt c op a v) e = refl
operation_straight (CallAt c small f args to groups) e = absurd (cc e)
operation_straight (PutAt v) e = absurd (cc e)
operation_straight (GetAt c to) e = absurd (cc e)
operation_straight (IfAt c joined t one other) e = absurd (cc e)
operation_straight (LoopAt c body post) e = absurd (cc e)
operation_straight (BreakAt c) e = absurd (cc e)
operation_straight (ContinueAt c) e = absurd (cc e)
operation_straight (ReturnAt c v) e = absurd (cc e)
operation_straight (HaltAt c v) e = absurd (cc e)

operations_straight : (t : Tree) → are_operations (plain t) ≡ true → straight t ≡ true
operations_straight End e = refl
operations_straight (s ▸ rest) e =
    let q = and_parts (is_operation (plain_in s)) (are_operations (plain rest)) e in
    ap₂ (λ y z. y && z) (operation_straight s q.0) (operations_straight rest q.1)

-- it does nothing, or the body's block goes on with it and no continue leads to it
pub bare_parts : (c : Bool) (body post : Tree) → is_bare c body post ≡ true
    → (post ≡ End) ⊎ ((c || not (straight post) ≡ false) × (continues (plain body) ≡ false))
bare_parts c body End e = inl refl
bare_parts true body (s ▸ rest) e = absurd (cc e)
bare_parts false body (s ▸ rest) e =
    let q = and_parts (are_operations (plain (s ▸ rest))) (not (continues (plain body))) e in
    inr (ap not (operations_straight (s ▸ rest) q.0), not_true (continues (plain body)) q.1)

-- FLAT CODE

flat_straight : (x : Step) → is_operation x ≡ true → is_straight_in x ≡ true
flat_straight (Let to op x y) e = refl
flat_straight (Frame to at) e = refl
flat_straight (Load to op x) e = refl
flat_straight (Save op x y) e = refl
flat_straight (Call f xs to kept) e = absurd (cc e)
flat_straight (Put x) e = absurd (cc e)
flat_straight (Get to) e = absurd (cc e)
flat_straight (If x a b) e = absurd (cc e)
flat_straight (Loop a b) e = absurd (cc e)
flat_straight Break e = absurd (cc e)
flat_straight Continue e = absurd (cc e)
flat_straight (Return x) e = absurd (cc e)
flat_straight (Halt x) e = absurd (cc e)

code_straight : (c : Code) → are_operations c ≡ true → is_straight c ≡ true
code_straight Nop e = refl
code_straight (x ▹ c) e =
    let q = and_parts (is_operation x) (are_operations c) e in
    ap₂ (λ y z. y && z) (flat_straight x q.0) (code_straight c q.1)

no_small_if_in : (x : Step) → is_operation x ≡ true → small_ifs_in x ≡ 0
no_small_if_in (Let to op x y) e = refl
no_small_if_in (Frame to at) e = refl
no_small_if_in (Load to op x) e = refl
no_small_if_in (Save op x y) e = refl
no_small_if_in (Call f xs to kept) e = refl
no_small_if_in (Put x) e = refl
no_small_if_in (Get to) e = refl
no_small_if_in (If x a b) e = absurd (cc e)
no_small_if_in (Loop a b) e = absurd (cc e)
no_small_if_in Break e = refl
no_small_if_in Continue e = refl
no_small_if_in (Return x) e = refl
no_small_if_in (Halt x) e = refl

no_small_if : (c : Code) → are_operations c ≡ true → small_ifs c ≡ 0
no_small_if Nop e = refl
no_small_if (x ▹ c) e =
    let q = and_parts (is_operation x) (are_operations c) e in
    ap₂ (λ y z. y + z) (no_small_if_in x q.0) (no_small_if c q.1)

-- it is operations alone
bare_operations : (c : Bool) (body post : Code) → is_bare_code c body post ≡ true → are_operations post ≡ true
bare_operations c body Nop e = refl
bare_operations true body (x ▹ post) e = absurd (cc e)
bare_operations false body (x ▹ post) e = (and_parts (are_operations (x ▹ post)) (not (continues body)) e).0

-- a last part without a block of its own is straight code
pub bare_straight : (c : Bool) (body post : Code) → is_bare_code c body post ≡ true → is_straight post ≡ true
bare_straight c body post e = code_straight post (bare_operations c body post e)

-- and has no small if
pub post_none : (p : Plan) (i k j m : ℕ) (c : Bool) (body post : Code) (head e : ℕ)
    → post_exit (is_bare c (annotated p i k body) (annotated p j m post)) head ≡ Some e → small_ifs post ≡ 0
post_none p i k j m c body post head e h =
    no_small_if post (bare_operations c body post (sym (bare_is p i k j m c body post)
    ∙ exit_true (is_bare c (annotated p i k body) (annotated p j m post)) head e h))

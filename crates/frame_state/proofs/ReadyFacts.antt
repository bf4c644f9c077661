-- The ready slots, read off flags.
use Rattle.std.proofs.Common.{◌≡◌, ℕ, ◌+◌, Bool, true, false, ◌&&◌, ◌||◌, not, Option, Some, None}
use Rattle.std.proofs.Common.{get_or, refl, sym, ap, ap₂, ◌∙◌, true≢false}
use Rattle.std.specs.Prelude.{is_some, is_none}
use Rattle.trips_isa.specs.declared.op.Op.{Op}
use Rattle.trips_isa.specs.declared.op.Op.TheVariants as op
use Rattle.trips_isa.specs.declared.block.Token.TheVariants.{Null, Word}
use Rattle.trips_isa.specs.declared.block.Sense.{Sense}
use Rattle.trips_isa.specs.declared.block.Sense.TheVariants.{Always, OnTrue, OnFalse}
use Rattle.trips_isa.specs.declared.block.Inst.{Inst}
use Rattle.trips_isa.specs.declared.block.Block.{Block}
use Rattle.trips_isa.specs.declared.form.Role.{Role}
use Rattle.trips_isa.specs.declared.form.Role.TheVariants.{Empty, Reading, Free, Nothing, Copy, One, Both}
use Rattle.trips_isa.specs.Forms.{role_of, takes_left, takes_right}
use Rattle.trips_isa.specs.Rule.{Answer, matched, if_matched, gives, of_one}
use Rattle.trips_isa.specs.Blocks.{slot_computes}
use Rattle.block_cases.specs.Orders.{slot_of, left_of, right_of}
use Rattle.commit_flush_spec.specs.Frames.{at, slot_node}
use Rattle.commit_flush_spec.specs.Sending.{token_with}
use Rattle.frame_state.specs.inside.Held.{Held, running}
use Rattle.frame_state.specs.inside.Wants.{true_sense, false_sense, is_on_true, is_on_false}
use Rattle.frame_state.specs.inside.Shapes.{is_ready}
use Rattle.frame_state.proofs.NodeFacts.{token_is}

abbrev is_empty : Role → Bool
is_empty Empty = true
is_empty _ = false

-- no operation has the role of an empty slot
has_role : (o : Op) → is_empty (role_of o) ≡ false
has_role op.Add = refl
has_role _ = refl

one_given : (f : ℕ → ℕ) (l : Answer) → is_some (of_one f l) ≡ is_some l
one_given f None = refl
one_given f (Some Null) = refl
one_given f (Some (Word x)) = refl

or_false : (b : Bool) → b ≡ (b || false)
or_false true = refl
or_false false = refl

-- an operand that is not taken is not waited for
both_free : (x y : Bool) → true ≡ ((x || true) && (y || true))
both_free true true = refl
both_free true false = refl
both_free false true = refl
both_free false false = refl

left_taken : (x y : Bool) → x ≡ ((x || false) && (y || true))
left_taken true true = refl
left_taken true false = refl
left_taken false true = refl
left_taken false false = refl

-- a role gives a token where the operands that it takes have come
given : (e : Role) (a : ℕ → ℕ → ℕ) (l r : Answer) → is_empty e ≡ false
    → is_some (gives e a l r) ≡ ((is_some l || not (takes_left e)) && (is_some r || not (takes_right e)))
given Empty a l r e = absurd (cc)
given Reading a l r e = both_free (is_some l) (is_some r)
given Free a l r e = both_free (is_some l) (is_some r)
given Nothing a l r e = both_free (is_some l) (is_some r)
given Copy a l r e = left_taken (is_some l) (is_some r)
given One a l r e = one_given (λ x. a x 0) l ∙ left_taken (is_some l) (is_some r)
given Both a None None e = refl
given Both a None (Some t) e = refl
given Both a (Some Null) None e = refl
given Both a (Some Null) (Some t) e = refl
given Both a (Some (Word x)) None e = refl
given Both a (Some (Word x)) (Some Null) e = refl
given Both a (Some (Word x)) (Some (Word y)) e = refl

-- a predicate matches where it is not wanted, or has come as it is wanted
matches : (s : Sense) (p : Answer) → matched s p
    ≡ (not (true_sense s || false_sense s) ||
    ((true_sense s && matched OnTrue p) || (false_sense s && matched OnFalse p)))
matches Always p = refl
matches OnTrue p = or_false (matched OnTrue p)
matches OnFalse p = refl

gated : (b : Bool) (t : Answer) → is_some (if_matched b t) ≡ (b && is_some t)
gated true t = refl
gated false t = refl

-- where all of it holds, what is taken has come
chosen : (m l t r : Bool) → (m && ((l || not t) && r)) ≡ true → t ≡ true → l ≡ true
chosen true true t r e k = refl
chosen true false true r e k = absurd (true≢false (sym e))
chosen true false false r e k = absurd (true≢false (sym k))
chosen false l t r e k = absurd (true≢false (sym e))

-- the left operand of an instruction that gives a token has come, where it takes one
pub left_came : (b : Block) (h : Held) (s : ℕ) (i : Inst) → slot_of b s ≡ Some i
    → is_some (token_with (running b h) (slot_node b s) 0) ≡ true → takes_left (role_of i.op) ≡ true
    → is_some (at h.spots s) ≡ true
left_came b h s i e gives_it takes =
    let a : ℕ → ℕ → ℕ = slot_computes (Some i) (λ x. 0) in
    let l : Answer = at h.spots s in
    let r : Answer = at h.spots (128 + s) in
    let p : Answer = at h.spots (256 + s) in
    chosen (matched i.sense p) (is_some l) (takes_left (role_of i.op)) (is_some r || not (takes_right (role_of i.op)))
    (sym (ap is_some (token_is b s i e false h 0)
    ∙ gated (matched i.sense p) (gives (role_of i.op) a l r)
    ∙ ap (λ z. matched i.sense p && z) (given (role_of i.op) a l r (has_role i.op))) ∙ gives_it) takes

regroup : (f l r p : Bool) → ((not f && l) && (r && p)) ≡ (not f && (p && (l && r)))
regroup true l r p = refl
regroup false true true true = refl
regroup false true true false = refl
regroup false true false true = refl
regroup false true false false = refl
regroup false false true true = refl
regroup false false true false = refl
regroup false false false true = refl
regroup false false false false = refl

-- what the flags of a slot say together
abbrev pub by_flags : Option Inst → Bool → Answer → Answer → Answer → Bool
by_flags i fired l r p = (((is_some i && not fired) && (is_some l || not (left_of i)))
    && ((is_some r || not (right_of i))
    && (not (is_on_true i || is_on_false i)
    || ((is_on_true i && matched OnTrue p) || (is_on_false i && matched OnFalse p)))))

-- the flags of a slot say whether it is ready
pub ready_is : (b : Block) (h : Held) (s : ℕ)
    → by_flags (slot_of b s) (get_or h.fired s false) (at h.spots s) (at h.spots (128 + s)) (at h.spots (256 + s))
    ≡ is_ready (running b h) s
ready_is b h s = by_slot (slot_of b s) refl
  where
    by_slot : (i : Option Inst) → slot_of b s ≡ i
        → by_flags i (get_or h.fired s false) (at h.spots s) (at h.spots (128 + s)) (at h.spots (256 + s))
        ≡ (not (is_none i || get_or h.fired s false) && is_some (token_with (running b h) (slot_node b s) 0))
    by_slot None e = refl
    by_slot (Some i) e =
        let a : ℕ → ℕ → ℕ = slot_computes (Some i) (λ x. 0) in
        let l : Answer = at h.spots s in
        let r : Answer = at h.spots (128 + s) in
        let p : Answer = at h.spots (256 + s) in
        let token : is_some (token_with (running b h) (slot_node b s) 0)
        ≡ (matched i.sense p && ((is_some l || not (takes_left (role_of i.op))) &&
        (is_some r || not (takes_right (role_of i.op))))) =
        ap is_some (token_is b s i e false h 0)
        ∙ gated (matched i.sense p) (gives (role_of i.op) a l r)
        ∙ ap (λ z. matched i.sense p && z) (given (role_of i.op) a l r (has_role i.op)) in
        regroup (get_or h.fired s false) (is_some l || not (takes_left (role_of i.op)))
        (is_some r || not (takes_right (role_of i.op)))
        (not (true_sense i.sense || false_sense i.sense)
        || ((true_sense i.sense && matched OnTrue p) || (false_sense i.sense && matched OnFalse p)))
        ∙ ap (λ z. not (get_or h.fired s false) && (z && ((is_some l || not (takes_left (role_of i.op)))
        && (is_some r || not (takes_right (role_of i.op)))))) (sym (matches i.sense p))
        ∙ ap (λ z. not (get_or h.fired s false) && z) (sym token)

-- the same from words of flags
pub ready_by : (b : Block) (h : Held) (q : ℕ) (there fired left right l r on off odd even : Bool)
    → there ≡ is_some (slot_of b q) → fired ≡ get_or h.fired q false
    → left ≡ left_of (slot_of b q) → right ≡ right_of (slot_of b q)
    → l ≡ is_some (at h.spots q) → r ≡ is_some (at h.spots (128 + q))
    → on ≡ is_on_true (slot_of b q) → off ≡ is_on_false (slot_of b q)
    → odd ≡ matched OnTrue (at h.spots (256 + q)) → even ≡ matched OnFalse (at h.spots (256 + q))
    → (((there && not fired) && (l || not left)) &&
    ((r || not right) && (not (on || off) || ((on && odd) || (off && even)))))
    ≡ is_ready (running b h) q
ready_by b h q there fired left right l r on off odd even e1 e2 e3 e4 e5 e6 e7 e8 e9 e10 =
    ap₂ (λ x y. x && y)
    (ap₂ (λ x y. x && y) (ap₂ (λ x y. x && not y) e1 e2) (ap₂ (λ x y. x || not y) e5 e3))
    (ap₂ (λ x y. x && y) (ap₂ (λ x y. x || not y) e6 e4)
    (ap₂ (λ x y. x || y) (ap₂ (λ x y. not (x || y)) e7 e8)
    (ap₂ (λ x y. x || y) (ap₂ (λ x y. x && y) e7 e9) (ap₂ (λ x y. x && y) e8 e10))))
    ∙ ready_is b h q

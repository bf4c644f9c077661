-- A token adds one at most to each number of the walk.
use Rattle.std.proofs.Common.{◌≡◌, ◌≤◌, ℕ, ◌+◌, ◌-◌, Bool, true, false, cond, [], ◌∷◌, Option, Some, None, refl}
use Rattle.std.proofs.Common.{arith, sym, ap, ◌∙◌}
use Rattle.std.proofs.Common.{subst}
use Rattle.std.specs.Prelude.{nat_eq, is_none, Result, Ok, Err, OnOk, IfOk}
use Rattle.c_tree.specs.declared.Form.{Form}
use Rattle.c_tree.specs.declared.Form.TheVariants as form
use Rattle.c_tree.specs.declared.Mark.{Mark}
use Rattle.c_tree.specs.declared.Mark.TheVariants as mark
use Rattle.c_tree.specs.declared.Lexeme.{Lexeme}
use Rattle.c_lex.specs.Bytes.{Bytes}
use Rattle.c_library.specs.Calls.{is_mark}
use Rattle.c_locals.specs.declared.state.Mode.{Mode}
use Rattle.c_locals.specs.declared.state.Mode.TheVariants as mode
use Rattle.c_locals.specs.declared.state.State.{State}
use Rattle.c_locals.specs.Brackets.{depth_by, depth_past}
use Rattle.c_locals.specs.Names.{found, renamed}
use Rattle.c_locals.specs.Walks.{opens, closes, blocks_past, parens_past}
use Rattle.c_locals.specs.inside.Bounds.{Bounded}
use Rattle.c_locals.specs.Statics.{hides}
use Rattle.c_locals.specs.States.{to_item, to_front, refused, declaring, ended, going_on, hidden}
use Rattle.c_locals.specs.Stages.{ends, declares}
use Rattle.c_locals.specs.Statics.{local_by, local_past, object, is_function, checked, static_by, static_past}
use Rattle.c_locals.specs.Statics.{begins_static, begins_local, code_past, part_past, bracketed, past}
use Rattle.c_locals.specs.States.{flushed}
use Rattle.c_locals.specs.Stages.{ends_item}

-- at most one more of each
record Few (s s' : State) : Type 0 where
  count : s'.count ≤ s.count + 1
  depth : s'.depth ≤ s.depth + 1
  blocks : s'.blocks ≡ s.blocks
  parens : s'.parens ≡ s.parens

-- no more
record Same (s s' : State) : Type 0 where
  count : s'.count ≡ s.count
  depth : s'.depth ≡ s.depth
  blocks : s'.blocks ≡ s.blocks
  parens : s'.parens ≡ s.parens

either : (s x y : State) (b : Bool) → Few s x → Few s y → Few s (cond b x y)
either s x y true g h = g
either s x y false g h = h

either_none : (s x y : State) (b : Bool) → Same s x → Same s y → Same s (cond b x y)
either_none s x y true g h = g
either_none s x y false g h = h

same_few : (s s' : State) → Same s s' → Few s s'
same_few s s' n = record {
  count = omega (arith, n.count);
  depth = omega (arith, n.depth);
  blocks = n.blocks;
  parens = n.parens;
}

mark_adds : (m : Mark) (d : ℕ) → depth_by m d ≤ d + 1
mark_adds mark.LeftParen d = omega arith
mark_adds mark.LeftBracket d = omega arith
mark_adds mark.LeftBrace d = omega arith
mark_adds mark.RightParen d = omega arith
mark_adds mark.RightBracket d = omega arith
mark_adds mark.RightBrace d = omega arith
mark_adds _ d = omega arith

depth_adds : (f : Form) (d : ℕ) → depth_past f d ≤ d + 1
depth_adds (form.Mark m) d = mark_adds m d
depth_adds _ d = omega arith

on_few : (s s' : State) (f : Form) → Same s s' → Few s (going_on f s')
on_few s s' f n =
    let adds : depth_past f s'.depth ≤ s'.depth + 1 = depth_adds f s'.depth in
    record {
      count = omega (arith, n.count);
      depth = omega (arith, adds, n.depth);
      blocks = n.blocks;
      parens = n.parens;
    }

same_none : (s : State) → Same s s
same_none s = record { count = refl; depth = refl; blocks = refl; parens = refl }

hides_none : (w : Bytes) (t : Lexeme) (s : State) → Same s (hides w t s)
hides_none w t s =
    let n : Same s
    (cond (is_none (found w s.names)) s (cond (nat_eq s.parens 0) (hidden w s) (refused t.offset s))) =
    either_none s s (cond (nat_eq s.parens 0) (hidden w s) (refused t.offset s)) (is_none (found w s.names))
    (same_none s)
    (either_none s (hidden w s) (refused t.offset s) (nat_eq s.parens 0)
    (record { count = refl; depth = refl; blocks = refl; parens = refl })
    (record { count = refl; depth = refl; blocks = refl; parens = refl })) in
    record { count = n.count; depth = n.depth; blocks = n.blocks; parens = n.parens }

local_by_few : (t : Lexeme) (o : Option Bytes) (s : State) → Few s (local_by t o s)
local_by_few t None s =
    on_few s (to_item (renamed s.names t ∷ []) s) t.form
    (record { count = refl; depth = refl; blocks = refl; parens = refl })
local_by_few t (Some w) s =
    let f : Few s (hides w t s) = same_few s (hides w t s) (hides_none w t s) in
    record { count = f.count; depth = f.depth; blocks = f.blocks; parens = f.parens }

checked_none : (t : Lexeme) (s : State) → Same s (checked t s)
checked_none t s =
    either_none s (refused t.offset s) s (is_function s t.form)
    (record { count = refl; depth = refl; blocks = refl; parens = refl }) (same_none s)

static_by_few : (t : Lexeme) (o : Option Bytes) (s : State) → Few s (static_by t o s)
static_by_few t None s =
    let n : Same s (checked t s) = checked_none t s in
    on_few s (to_front (t ∷ []) (checked t s)) t.form
    (record { count = n.count; depth = n.depth; blocks = n.blocks; parens = n.parens })
static_by_few t (Some w) s = record { count = omega arith; depth = omega arith; blocks = refl; parens = refl }

unchanged : (s s' : State) → s'.count ≡ s.count → s'.depth ≡ s.depth → s'.blocks ≡ s.blocks → s'.parens ≡ s.parens
    → Few s s'
unchanged s s' c d b p = same_few s s' (record { count = c; depth = d; blocks = b; parens = p })

begun : (s s' : State) → s'.count ≡ s.count → s'.depth ≡ 0 → s'.blocks ≡ s.blocks → s'.parens ≡ s.parens → Few s s'
begun s s' c d b p =
    record { count = omega (arith, c); depth = omega (arith, d); blocks = b; parens = p }

part_few : (m : Mode) (t : Lexeme) (s : State) → Few s (part_past m t s)
part_few mode.Code t s =
    either s (declaring mode.Static s)
    (cond (begins_local s t.form) (declaring mode.Local (to_item (t ∷ []) s)) (to_item (renamed s.names t ∷ []) s))
    (begins_static s t.form) (begun s (declaring mode.Static s) refl refl refl refl)
    (either s (declaring mode.Local (to_item (t ∷ []) s)) (to_item (renamed s.names t ∷ []) s)
    (begins_local s t.form) (begun s (declaring mode.Local (to_item (t ∷ []) s)) refl refl refl refl)
    (unchanged s (to_item (renamed s.names t ∷ []) s) refl refl refl refl))
part_few mode.Local t s =
    either s (ended (to_item (t ∷ []) s)) (local_by t (declares s.stage t.form) s) (ends s.depth t.form)
    (unchanged s (ended (to_item (t ∷ []) s)) refl refl refl refl) (local_by_few t (declares s.stage t.form) s)
part_few mode.Static t s =
    either s (ended (to_front (t ∷ []) s))
    (cond (ends s.depth t.form) (ended (to_item (t ∷ []) (refused t.offset s)))
    (static_by t (declares s.stage t.form) s)) (is_mark mark.Semicolon t.form)
    (unchanged s (ended (to_front (t ∷ []) s)) refl refl refl refl)
    (either s (ended (to_item (t ∷ []) (refused t.offset s))) (static_by t (declares s.stage t.form) s)
    (ends s.depth t.form) (unchanged s (ended (to_item (t ∷ []) (refused t.offset s))) refl refl refl refl)
    (static_by_few t (declares s.stage t.form) s))

one_more : (a b : Bool) (n : ℕ) → cond a (n + 1) (cond b (n - 1) n) ≤ n + 1
one_more true b n = omega arith
one_more false true n = omega arith
one_more false false n = omega arith

bounded_by : (s x y : State) (b : Bool) → Bounded s x → Bounded s y → Bounded s (cond b x y)
bounded_by s x y true g h = g
bounded_by s x y false g h = h

bracketed_bounded : (s s' : State) (f : Form) → Few s s' → Bounded s (bracketed f s')
bracketed_bounded s s' f g =
    let blocks : blocks_past s'.blocks f ≤ s'.blocks + 1 =
    one_more (is_mark mark.LeftBrace f) (is_mark mark.RightBrace f) s'.blocks in
    let parens : parens_past s'.parens f ≤ s'.parens + 1 = one_more (opens f) (closes f) s'.parens in
    record {
      count = g.count;
      depth = g.depth;
      blocks = omega (arith, blocks, g.blocks);
      parens = omega (arith, parens, g.parens);
    }

flushed_bounded : (s s' : State) → Bounded s s' → Bounded s (flushed s')
flushed_bounded s s' g = record { count = g.count; depth = g.depth; blocks = g.blocks; parens = g.parens }

-- behind a token
pub past_bounded : (t : Lexeme) (s : State) → Bounded s (past t s)
past_bounded t s =
    let g : Bounded s (bracketed t.form (part_past s.mode t s)) =
    bracketed_bounded s (part_past s.mode t s) t.form (part_few s.mode t s) in
    bounded_by s (flushed (bracketed t.form (part_past s.mode t s))) (bracketed t.form (part_past s.mode t s))
    (ends_item (bracketed t.form (part_past s.mode t s)).blocks t.form)
    (flushed_bounded s (bracketed t.form (part_past s.mode t s)) g) g

-- where a call gives the state behind a token
pub if_bounded : {E : Type 0} (t : Lexeme) (s : State) (r : Result State E) → IfOk r (λ s'. s' ≡ past t s)
    → IfOk r (λ s'. Bounded s s')
if_bounded t s (Ok s') e = subst (λ (x : State). Bounded s x) (sym e) (past_bounded t s)
if_bounded t s (Err f) e = tt

-- and within what it stands in no bracket is counted
pub on_blocks : {E : Type 0} (m : Mode) (t : Lexeme) (s s' : State) (r : Result (Unit {0}) E)
    → OnOk r (s' ≡ part_past m t s) → OnOk r (s'.blocks ≡ s.blocks)
on_blocks m t s s' (Ok u) e = ap (λ (x : State). x.blocks) e ∙ (part_few m t s).blocks
on_blocks m t s s' (Err f) e = tt

pub on_parens : {E : Type 0} (m : Mode) (t : Lexeme) (s s' : State) (r : Result (Unit {0}) E)
    → OnOk r (s' ≡ part_past m t s) → OnOk r (s'.parens ≡ s.parens)
on_parens m t s s' (Ok u) e = ap (λ (x : State). x.parens) e ∙ (part_few m t s).parens
on_parens m t s s' (Err f) e = tt

-- The items of several turns fit where those of a turn do, and have no fewer filled if-items.
use Rattle.std.proofs.Common.{◌≡◌, ℕ, zero, suc, ◌+◌, ◌≤◌, Bool, true, false, cond, not, ◌&&◌, ◌||◌, refl, arith}
use Rattle.ir_forms.specs.declared.hyper.Source.{Source}
use Rattle.ir_forms.specs.inside.HyperCode.{Items, Done, Set, Load, Save, If}
use Rattle.ir_forms.specs.inside.HyperFits.{FitsSource, FitsItems, is_filled, filled_ifs}
use Rattle.loop_unroll.specs.inside.Unrolled.{before, leg, is_last, keeps_test, in_leg, and_more, turns}

-- FIELDS

before_fits : (a k : Items) → FitsItems a → FitsItems k → FitsItems (before a k)
before_fits Done k f g = g
before_fits (Set to op x y rest) k f g = (f.0, f.1, f.2, f.3, before_fits rest k f.4 g)
before_fits (Load to op x rest) k f g = (f.0, f.1, f.2, before_fits rest k f.3 g)
before_fits (Save op x y rest) k f g = (f.0, f.1, f.2, before_fits rest k f.3 g)
before_fits (If t one other rest) k f g = (f.0, f.1, f.2, before_fits rest k f.3 g)

leg_fits : (way : Bool) (t : Source) (is : Items) → FitsSource t → FitsItems is → FitsItems (leg way t is)
leg_fits true t is f g = (f, g, tt, tt)
leg_fits false t is f g = (f, tt, g, tt)

-- an if with more at the end of a leg
in_leg_fits : (way : Bool) (u : Source) (one other k : Items) → FitsSource u → FitsItems one → FitsItems other
    → FitsItems k → FitsItems (in_leg way u one other k)
in_leg_fits true u one other k f a b g = (f, before_fits one k a g, b, tt)
in_leg_fits false u one other k f a b g = (f, a, before_fits other k b g, tt)

more_fits : (way : Bool) (t : Source) (is k : Items) → FitsSource t → FitsItems is → FitsItems k
    → FitsItems (and_more way t is k)
more_fits way t Done k s f g = leg_fits way t k s g
more_fits way t (Set to op x y rest) k s f g = (f.0, f.1, f.2, f.3, more_fits way t rest k s f.4 g)
more_fits way t (Load to op x rest) k s f g = (f.0, f.1, f.2, more_fits way t rest k s f.3 g)
more_fits way t (Save op x y rest) k s f g = (f.0, f.1, f.2, more_fits way t rest k s f.3 g)
more_fits way t (If u one other rest) k s f g =
    by (is_last rest && keeps_test t u one other) (f.0, f.1, f.2, more_fits way t rest k s f.3 g)
  where
    by : (c : Bool) → FitsItems (If u one other (and_more way t rest k))
        → FitsItems (cond c (in_leg way u one other k) (If u one other (and_more way t rest k)))
    by true r = in_leg_fits way u one other k f.0 f.1 f.2 g
    by false r = r

-- several turns fit where one does, and its test
pub turns_fit : (way : Bool) (t : Source) (is : Items) (n : ℕ) → FitsSource t → FitsItems is
    → FitsItems (turns way t is n)
turns_fit way t is zero f g = g
turns_fit way t is (suc n) f g = more_fits way t is (turns way t is n) f g (turns_fit way t is n f g)

-- FILLED IFS

before_filled : (a k : Items) → filled_ifs a ≤ filled_ifs (before a k)
before_filled Done k = omega arith
before_filled (Set to op x y rest) k = before_filled rest k
before_filled (Load to op x rest) k = before_filled rest k
before_filled (Save op x y rest) k = before_filled rest k
before_filled (If t one other rest) k = let h = before_filled rest k in omega (arith, h)

before_full : (a k : Items) → is_filled a ≡ true → is_filled (before a k) ≡ true
before_full Done k e = absurd (let bad : false ≡ true = e in cc)
before_full (Set to op x y rest) k e = refl
before_full (Load to op x rest) k e = refl
before_full (Save op x y rest) k e = refl
before_full (If t one other rest) k e = before_full rest k e

-- one if more, where one leg alone grows
one_grows : (a b c : Bool) → (a ≡ true → b ≡ true) → cond (a || c) 1 0 ≤ cond (b || c) 1 0
one_grows true true c h = omega arith
one_grows true false c h = absurd (let bad : false ≡ true = h refl in cc)
one_grows false true true h = omega arith
one_grows false true false h = omega arith
one_grows false false c h = omega arith

other_grows : (a b c : Bool) → (b ≡ true → c ≡ true) → cond (a || b) 1 0 ≤ cond (a || c) 1 0
other_grows true b c h = omega arith
other_grows false true true h = omega arith
other_grows false true false h = absurd (let bad : false ≡ true = h refl in cc)
other_grows false false true h = omega arith
other_grows false false false h = omega arith

in_leg_filled : (way : Bool) (u : Source) (one other k : Items)
    → filled_ifs (If u one other Done) ≤ filled_ifs (in_leg way u one other k)
in_leg_filled true u one other k =
    let h = before_filled one k in
    let g = one_grows (is_filled one) (is_filled (before one k)) (is_filled other) (before_full one k) in
    omega (arith, h, g)
in_leg_filled false u one other k =
    let h = before_filled other k in
    let g = other_grows (is_filled one) (is_filled other) (is_filled (before other k)) (before_full other k) in
    omega (arith, h, g)

if_filled : (way : Bool) (t u : Source) (one other rest k : Items)
    → (is_last rest && keeps_test t u one other) ≡ true
    → filled_ifs (If u one other rest) ≤ filled_ifs (in_leg way u one other k)
if_filled way t u one other Done k e = in_leg_filled way u one other k
if_filled way t u one other (Set to op x y rest) k e = absurd (let bad : false ≡ true = e in cc)
if_filled way t u one other (Load to op x rest) k e = absurd (let bad : false ≡ true = e in cc)
if_filled way t u one other (Save op x y rest) k e = absurd (let bad : false ≡ true = e in cc)
if_filled way t u one other (If v a b rest) k e = absurd (let bad : false ≡ true = e in cc)

more_filled : (way : Bool) (t : Source) (is k : Items) → filled_ifs is ≤ filled_ifs (and_more way t is k)
more_filled way t Done k = omega arith
more_filled way t (Set to op x y rest) k = more_filled way t rest k
more_filled way t (Load to op x rest) k = more_filled way t rest k
more_filled way t (Save op x y rest) k = more_filled way t rest k
more_filled way t (If u one other rest) k =
    by (is_last rest && keeps_test t u one other) refl (more_filled way t rest k)
  where
    by : (c : Bool) → (is_last rest && keeps_test t u one other) ≡ c
        → filled_ifs rest ≤ filled_ifs (and_more way t rest k)
        → filled_ifs (If u one other rest)
        ≤ filled_ifs (cond c (in_leg way u one other k) (If u one other (and_more way t rest k)))
    by true e h = if_filled way t u one other rest k e
    by false e h = omega (arith, h)

-- several turns have no fewer filled if-items than one
pub turns_filled : (way : Bool) (t : Source) (is : Items) (n : ℕ) → filled_ifs is ≤ filled_ifs (turns way t is n)
turns_filled way t is zero = omega arith
turns_filled way t is (suc n) = more_filled way t is (turns way t is n)

-- The scopes at worked values: x is 120 and y is 121.
use Rattle.std.proofs.Common.{◌≡◌, true, false, [], ◌∷◌, Some, None, refl}
use Rattle.c_tree.specs.declared.token.Kind.TheVariants.{Int, Long}
use Rattle.c_tree.specs.declared.typed.Place.TheVariants as place
use Rattle.c_type_expr.specs.declared.meaning.Meaning.TheVariants.{Scalar}
use Rattle.c_type_expr.specs.Scope.{Scope, look_up, is_here, opened, closed, declared_in, bound}

abbrev outer : Scope
outer = declared_in (bound (120 ∷ []) (Scalar Int (place.Global 0))) ([] ∷ [])

abbrev inner : Scope
inner = declared_in (bound (120 ∷ []) (Scalar Long (place.Scalar 1))) (opened outer)

hides : look_up inner (120 ∷ []) ≡ Some (Scalar Long (place.Scalar 1))
hides = refl

comes_back : look_up (closed inner) (120 ∷ []) ≡ Some (Scalar Int (place.Global 0))
comes_back = refl

not_declared : look_up inner (121 ∷ []) ≡ None
not_declared = refl

no_prefix : look_up inner (120 ∷ 120 ∷ []) ≡ None
no_prefix = refl

outer_is_not_here : is_here (opened outer) (120 ∷ []) ≡ false
outer_is_not_here = refl

inner_is_here : is_here inner (120 ∷ []) ≡ true
inner_is_here = refl

newest_first : look_up (declared_in (bound (120 ∷ []) (Scalar Long (place.Scalar 2))) inner)
    (120 ∷ []) ≡ Some (Scalar Long (place.Scalar 2))
newest_first = refl

outermost_stays : closed outer ≡ outer
outermost_stays = refl
